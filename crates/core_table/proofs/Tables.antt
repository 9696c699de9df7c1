-- Sizes of tables in slots, and how an insertion changes them.
use Rattle.std.proofs.Common.{◌≡◌, ℕ, suc, ◌+◌, ◌-◌, ◌*◌, ◌/◌, ◌%◌, ◌^◌, ◌<◌, ◌≤◌, min, true, false, cond, not, if◌then◌else◌, leb, eqb, List, length, set, Option, Some, None, inl, inr, ◌⊎◌, refl, sym, ap, ◌∙◌, arith}
use Rattle.std.proofs.lemmas.Bool.{cases_lt}
use Rattle.std.proofs.lemmas.Bool.Decides.{nat_tests}
use Rattle.std.proofs.Math.Nat.{two-pow-succ, mod-le}
use Rattle.std.proofs.Math.Pow.{pow_mono}
use Rattle.std.proofs.lemmas.Nat.{pow_pos, mod_below}
use Rattle.core_laws.specs.declared.TheConstants.{MIN_LG_K, MIN_LG_SLOTS}
use Rattle.core_table.specs.HashTable.{threshold, IsSized, HasSize, sub_multiple}
use Rattle.core_laws.specs.Insertion.{rebuilt}
use Rattle.core_laws.specs.Maps.{with_entry, map_of}
use Rattle.core_slots.specs.SlotLayout.{filled, slot, is_other, IsOnPath, IsLaidOut}
use Rattle.core_slots.proofs.SlotLayouts.{put_joins, length-map_of, laid_out_new, filled_new}
use Rattle.core_laws.proofs.insertions.Cases.{rebuilt_small, rebuilt_free}

pub threshold_growing : (lg nom : ℕ) → lg ≤ nom → threshold lg nom ≡ 2 ^ lg / 2
threshold_growing lg nom le = let e : leb lg nom ≡ true = grind (arith, nat_tests) in rw e refl

pub threshold_full : (lg nom : ℕ) → nom < lg → threshold lg nom ≡ 2 ^ lg - 2 ^ lg / 16
threshold_full lg nom lt = let e : leb lg nom ≡ false = grind (arith, nat_tests) in rw e refl

-- of the table of an operator, with slots or without
pub operator_threshold : (lg nom : ℕ) → IsSized lg nom → threshold lg nom ≡ (if not (eqb lg 0) then threshold lg nom else 0)
operator_threshold lg nom sizes =
    elim sizes [
      | inl full ↦ let has : eqb lg 0 ≡ false = grind (arith, nat_tests) in rw has refl
      | inr lacks ↦ rw (lacks.0, lacks.1) refl
    ]

-- nominal entries of 8 or more are a multiple of 8
pub eights : (nom : ℕ) → 3 ≤ nom → (j : ℕ) × (2 ^ nom ≡ 8 * j)
eights nom le =
    let low : ℕ = nom - 3 in
    let is : nom ≡ suc (suc (suc low)) = omega (arith, le) in
    let a = two-pow-succ low in
    let b = two-pow-succ (suc low) in
    let c = two-pow-succ (suc (suc low)) in
    (2 ^ low, ap (λ (n : ℕ). 2 ^ n) is ∙ omega (arith, a, b, c))

-- the slots at full size
pub twice : (lg nom : ℕ) → lg ≡ nom + 1 → 2 ^ lg ≡ 2 * 2 ^ nom
twice lg nom is = let e : lg ≡ suc nom = omega (arith, is) in ap (λ (n : ℕ). 2 ^ n) e ∙ omega (arith, two-pow-succ nom)

-- one entry more below the threshold
pub one_more : (lg nom grow count : ℕ) → HasSize lg nom grow count → count + 1 ≤ threshold lg nom → (nom < 3 → count + 1 < 2 ^ lg) → HasSize lg nom grow (count + 1)
one_more lg nom grow count is fits small = record {
  limited = fits;
  room =
      elim (cases_lt nom 3) [
        | inl lt ↦ small lt
        | inr large ↦ elim (cases_lt nom lg) [
          | inl full ↦
              let at : lg ≡ nom + 1 = omega (arith, full, is.within) in
              let e = eights nom large in
              let pos : 2 ^ 3 ≤ 2 ^ nom = pow_mono {i = 3} {j = nom} large in
              omega (arith, fits, threshold_full lg nom full, twice lg nom at, e.1, pos)
          | inr growing ↦
              let pos : 2 ^ 5 ≤ 2 ^ lg = pow_mono {i = 5} {j = lg} (is.grows growing).0 in
              omega (arith, fits, threshold_growing lg nom growing, pos)
        ]
      ];
  within = is.within;
  nom_high = is.nom_high;
  grow_high = is.grow_high;
  grows = is.grows;
  starts = is.starts;
}

-- the threshold is at most fifteen eighths of the nominal entries, and exactly that at full size
pub threshold_most : (lg nom grow count : ℕ) → HasSize lg nom grow count → 3 ≤ nom → threshold lg nom ≤ 15 * 2 ^ nom / 8
threshold_most lg nom grow count is large =
    let e = eights nom large in
    elim (cases_lt nom lg) [
      | inl full ↦ let at : lg ≡ nom + 1 = omega (arith, full, is.within) in omega (arith, threshold_full lg nom full, twice lg nom at, e.1)
      | inr growing ↦ let low : 2 ^ lg ≤ 2 ^ nom = pow_mono {i = lg} {j = nom} growing in omega (arith, threshold_growing lg nom growing, low, e.1)
    ]

pub threshold_is : (lg nom : ℕ) → lg ≡ nom + 1 → 3 ≤ nom → threshold lg nom ≡ 15 * 2 ^ nom / 8
threshold_is lg nom at large = let e = eights nom large in let full : nom < lg = omega (arith, at) in omega (arith, threshold_full lg nom full, twice lg nom at, e.1)

-- the sizes of a table after it grows
pub record IsGrown (lg new_lg nom grow count : ℕ) : Type 0 where
  pub size : HasSize new_lg nom grow (count + 1)
  pub fits : count + 1 ≤ 2 ^ new_lg
  pub limited : count + 1 ≤ 15 * 2 ^ nom / 8

pub grown : (lg new_lg nom grow count : ℕ) → HasSize lg nom grow count → lg ≤ nom → new_lg ≡ min (lg + grow) (nom + 1) → IsGrown lg new_lg nom grow count
grown lg new_lg nom grow count is growing new =
    let g = is.grows growing in
    let more : suc lg ≤ new_lg = omega (arith, new, g.1, growing) in
    let within : new_lg ≤ nom + 1 = omega (arith, new) in
    let large : 3 ≤ nom = omega (arith, g.0, growing) in
    let pos : 2 ^ 5 ≤ 2 ^ lg = pow_mono {i = 5} {j = lg} g.0 in
    let wide : 2 ^ suc lg ≤ 2 ^ new_lg = pow_mono {i = suc lg} {j = new_lg} more in
    let double = two-pow-succ lg in
    let low : 2 ^ lg ≤ 2 ^ nom = pow_mono {i = lg} {j = nom} growing in
    let half = threshold_growing lg nom growing in
    record {
      size = record {
        limited = elim (cases_lt nom new_lg) [
          | inl full ↦ omega (arith, is.limited, half, threshold_full new_lg nom full, wide, double, pos)
          | inr still ↦ omega (arith, is.limited, half, threshold_growing new_lg nom still, wide, double, pos)
        ];
        room = omega (arith, is.limited, half, wide, double, pos);
        within = within;
        nom_high = is.nom_high;
        grow_high = is.grow_high;
        grows = λ still. (omega (arith, g.0, more), g.1);
        starts = λ of_sketch. omega (arith, is.starts of_sketch, more);
      };
      fits = omega (arith, is.limited, half, wide, double, pos);
      limited = omega (arith, is.limited, half, low, pos);
    }

-- when a table at full size is rebuilt
pub record IsFull (lg nom grow count : ℕ) : Type 0 where
  pub large : 8 ≤ 2 ^ nom
  pub many : 15 * 2 ^ nom / 8 < count + 1
  pub rank : 2 ^ nom ≤ count
  pub size : HasSize lg nom grow (2 ^ nom)

pub full : (lg nom grow count : ℕ) → HasSize lg nom grow count → nom < lg → threshold lg nom < count + 1 → (nom < 3 → count + 1 < 2 ^ lg) → IsFull lg nom grow count
full lg nom grow count is past over small =
    let at : lg ≡ nom + 1 = omega (arith, past, is.within) in
    let two = twice lg nom at in
    let large : 3 ≤ nom =
    elim (cases_lt nom 3) [
      | inl lt ↦
          let most : 2 ^ nom ≤ 2 ^ 2 = pow_mono {i = nom} {j = 2} (omega (arith, lt)) in
          absurd (omega (arith, small lt, over, threshold_full lg nom past, two, most))
      | inr ge ↦ ge
    ] in
    let pos : 2 ^ 3 ≤ 2 ^ nom = pow_mono {i = 3} {j = nom} large in
    let most = threshold_is lg nom at large in
    record {
      large = omega (arith, pos);
      many = omega (arith, over, most);
      rank = omega (arith, over, most, pos);
      size = record {
        limited = omega (arith, most, pos);
        room = omega (arith, two, pos);
        within = is.within;
        nom_high = is.nom_high;
        grow_high = is.grow_high;
        grows = is.grows;
        starts = is.starts;
      };
    }

-- ---- the slots after the insertion of an entry
module _ {X : Type 0} (key : X → ℕ) (lg p : ℕ) (x : X) (slots : List (Option X)) (is : IsLaidOut key lg slots) (inside : p < length slots) (free : slot slots p ≡ None) (on : IsOnPath key lg slots (key x) p) where
  pub joins : map_of key (filled (set slots p (Some x))) ≡ with_entry key (map_of key (filled slots)) x
  joins = put_joins key lg p x slots is inside on (ap (is_other key (key x)) free)

  pub joined_count : length (with_entry key (map_of key (filled slots)) x) ≡ length (filled slots) + 1
  joined_count =
      ap length (sym joins) ∙ length-map_of key lg (set slots p (Some x)) (laid_out_new key lg slots p x is inside free on) ∙ filled_new slots p x inside free

  -- no rebuild if the entries are few, or the nominal entries are
  pub not_rebuilt : (nom theta : ℕ) → (nom < 3) ⊎ (length (filled slots) + 1 ≤ 15 * 2 ^ nom / 8) → rebuilt key (2 ^ nom) (with_entry key (map_of key (filled slots)) x) theta ≡ record { entries = with_entry key (map_of key (filled slots)) x; theta = theta }
  not_rebuilt nom theta (inl lt) = rebuilt_small key (2 ^ nom) (with_entry key (map_of key (filled slots)) x) theta (let most : 2 ^ nom ≤ 2 ^ 2 = pow_mono {i = nom} {j = 2} (omega (arith, lt)) in omega (arith, most))
  not_rebuilt nom theta (inr limited) = rebuilt_free key (2 ^ nom) (with_entry key (map_of key (filled slots)) x) theta (omega (arith, limited, joined_count))

-- the size that a table begins with that may have more slots than the least
starts_large : (nom grow : ℕ) → 5 ≤ nom → nom ≤ 32 → grow ≤ 3 → HasSize (sub_multiple (nom + 1) 5 grow) nom grow 0
starts_large nom grow low high small =
    let past : leb (nom + 1) 5 ≡ false = grind (arith, nat_tests) in
    rw past
    ((elim (eqb grow 0) as (λ b. eqb grow 0 ≡ b → HasSize (cond b (nom + 1) ((nom + 1 - 5) % grow + 5)) nom grow 0) [
      | true ↦ λ e. record {
        limited = omega arith;
        room = pow_pos (nom + 1);
        within = omega arith;
        nom_high = omega (arith, high);
        grow_high = small;
        grows = λ (le : nom + 1 ≤ nom). absurd (omega (arith, le));
        starts = λ _. let is : sub_multiple (nom + 1) 5 grow ≡ nom + 1 = rw (past, e) refl in omega (arith, is);
      }
      | false ↦ λ e.
          let some : 1 ≤ grow = grind (arith, nat_tests) in
          let rest : (nom + 1 - 5) % grow < grow = mod_below (nom + 1 - 5) grow some in
          let most : (nom + 1 - 5) % grow ≤ nom + 1 - 5 = mod-le (nom + 1 - 5) grow in
          record {
            limited = omega arith;
            room = pow_pos ((nom + 1 - 5) % grow + 5);
            within = omega (arith, most, low);
            nom_high = omega (arith, high);
            grow_high = small;
            grows = λ le. (omega arith, some);
            starts = λ _. let is : sub_multiple (nom + 1) 5 grow ≡ (nom + 1 - 5) % grow + 5 = rw (past, e) refl in omega (arith, is);
          }
    ]) refl)

-- the size that a table of a sketch begins with
pub starts : (nom grow : ℕ) → MIN_LG_K ≤ nom → nom ≤ 32 → grow ≤ 3 → HasSize (sub_multiple (nom + 1) MIN_LG_SLOTS grow) nom grow 0
starts nom grow low high small =
    elim (cases_lt nom 5) [
      | inl less ↦
          -- the least slots are all that it ever has
          let at : leb (nom + 1) 5 ≡ true = grind (arith, nat_tests) in
          rw at (record {
            limited = omega arith;
            room = pow_pos 5;
            within = omega (arith, low);
            nom_high = omega (arith, high);
            grow_high = small;
            grows = λ (le : 5 ≤ nom). absurd (omega (arith, le, less));
            starts = λ _. rw at (omega arith);
          })
      | inr enough ↦ starts_large nom grow enough high small
    ]

-- and it has those at least
pub least_slots : (nom : ℕ) → MIN_LG_K ≤ nom → sub_multiple (nom + 1) MIN_LG_SLOTS 0 ≤ nom + 1
least_slots nom low =
    (elim (leb (nom + 1) 5) as (λ b. leb (nom + 1) 5 ≡ b → cond b 5 (nom + 1) ≤ nom + 1) [
      | true ↦ λ e. omega (arith, low)
      | false ↦ λ e. omega arith
    ]) refl

-- a table that is cut to its nominal entries
pub cut_size : (lg nom grow count : ℕ) → HasSize lg nom grow count → 2 ^ nom ≤ count → HasSize lg nom grow (2 ^ nom)
cut_size lg nom grow count is more = record { limited = omega (arith, is.limited, more); room = omega (arith, is.room, more); within = is.within; nom_high = is.nom_high; grow_high = is.grow_high; grows = is.grows; starts = is.starts }
