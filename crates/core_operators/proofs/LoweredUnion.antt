-- A union that is lowered to fewer nominal entries.
use Rattle.std.proofs.Common.{◌≡◌, ℕ, ◌≤◌, ◌^◌, Bool, true, false, cond, eqb, List, [], refl, sym, ap, ◌∙◌, subst, arith}
use Rattle.std.proofs.lemmas.Bool.Decides.{nat_tests}
use Rattle.std.proofs.Math.Pow.{pow_mono}
use Rattle.core_laws.specs.declared.TheConstants.{MIN_LG_K}
use Rattle.core_laws.specs.Maps.{IsAscending, below}
use Rattle.core_laws.specs.Cuts.{Retained, retained, cut, IsRetained}
use Rattle.core_laws.specs.Values.{Empty, NonEmpty, cut_value}
use Rattle.core_table.specs.HashTable.{MapTable, IsTable}
use Rattle.core_operators.specs.Union.{Union, union_value, lowered, IsUnion, IsUnionOver}
use Rattle.core_laws.proofs.maps.Ascending.{ascending-nil}
use Rattle.core_laws.proofs.cuts.Cuts.{cut_is_below, cut_few}
use Rattle.core_laws.proofs.cuts.WithinWholeMaps.{below-below, cut_below, cut_of_cut}
use Rattle.core_laws.proofs.insertions.Cases.{cut_theta}

module _ {X : Type 0} (key : X → ℕ) where
  -- the entries of a table with fewer nominal entries, below its theta, are the cut of the union's entries
  held_lowered : (k : ℕ) (xs : List X) (theta : ℕ) → IsAscending key xs → retained key (cut key k xs theta).entries (cut key k xs theta).theta ≡ cut key k (below key xs theta) theta
  held_lowered k xs theta up =
      let t : ℕ = (cut key k xs theta).theta in
      ap (λ v. retained key v.entries t) (cut_is_below key k xs theta)
      ∙ ap (λ ys. record { entries = ys; theta = t }) (below-below key xs t t (omega arith))
      ∙ sym (cut_is_below key k xs theta)
      ∙ sym (cut_below key k xs theta up)

  module _ {P : Type 0} (u : Union X P) (lg_k : ℕ) where
    abbrev fewer : Retained X
    fewer = cut key (2 ^ lg_k) u.content.entries u.content.theta

    abbrev pub smaller : Union X P
    smaller = record u { content = fewer; lg_k = lg_k }

    -- cutting a value to its own nominal entries doesn't change it
    pub value_same : lg_k ≡ u.lg_k → IsAscending key u.content.entries → union_value key u ≡ cut_value key (2 ^ lg_k) (union_value key u)
    value_same same up =
        let k : ℕ = 2 ^ u.lg_k in
        let once : cut key k (cut key k u.content.entries u.content.theta).entries (cut key k u.content.entries u.content.theta).theta ≡ cut key k u.content.entries u.content.theta = cut_of_cut key k k u.content.entries u.content.theta (omega arith) up in
        subst (λ (l : ℕ). union_value key u ≡ cut_value key (2 ^ l) (union_value key u)) (sym same)
        (elim u.empty as (λ b. cond b Empty (NonEmpty (cut key k u.content.entries u.content.theta)) ≡ cut_value key k (cond b Empty (NonEmpty (cut key k u.content.entries u.content.theta)))) [ true ↦ refl | false ↦ ap NonEmpty (sym once) ])

    -- cut to fewer, it is the value of the smaller union, for all retained entries and thetas
    pub value_fewer : lg_k ≤ u.lg_k → IsAscending key u.content.entries → union_value key smaller ≡ cut_value key (2 ^ lg_k) (union_value key u)
    value_fewer le up =
        let power : 2 ^ lg_k ≤ 2 ^ u.lg_k = pow_mono {i = lg_k} {j = u.lg_k} le in
        let once : cut key (2 ^ lg_k) (cut key (2 ^ u.lg_k) u.content.entries u.content.theta).entries (cut key (2 ^ u.lg_k) u.content.entries u.content.theta).theta ≡ fewer = cut_of_cut key (2 ^ lg_k) (2 ^ u.lg_k) u.content.entries u.content.theta power up in
        let twice : cut key (2 ^ lg_k) fewer.entries fewer.theta ≡ fewer = cut_of_cut key (2 ^ lg_k) (2 ^ lg_k) u.content.entries u.content.theta (omega arith) up in
        elim u.empty as (λ b. cond b Empty (NonEmpty (cut key (2 ^ lg_k) fewer.entries fewer.theta)) ≡ cut_value key (2 ^ lg_k) (cond b Empty (NonEmpty (cut key (2 ^ u.lg_k) u.content.entries u.content.theta)))) [ true ↦ refl | false ↦ ap NonEmpty (twice ∙ sym once) ]

    pub sound_smaller : (t : MapTable X) → IsTable key t → t.kept.theta ≡ fewer.theta → MIN_LG_K ≤ lg_k → lg_k ≤ u.lg_k → IsUnion u → IsRetained key u.content → IsUnionOver key t smaller
    sound_smaller t table same low le sound content =
        let theta = cut_theta key (2 ^ lg_k) u.content.entries u.content.theta content in
        record {
          union = record {
            lg_k_low = low;
            lg_k_high = omega (arith, le, sound.lg_k_high);
            theta_high = λ ok. omega (arith, theta.high, sound.theta_high ok);
            none_held = λ ok empty. ap (λ v. cut key (2 ^ lg_k) v.entries v.theta) (sound.none_held ok empty) ∙ cut_few key (2 ^ lg_k) [] u.start (ascending-nil key) (omega arith);
          };
          theta_low = theta.low;
          theta_within = omega (arith, same);
          table_sound = table;
        }

    pub lowered_held : (H : Retained X → Type 0) → H u.content → H fewer → H (lowered key lg_k u).content
    lowered_held H same cuts = elim (eqb lg_k u.lg_k) as (λ b. H (cond b u smaller).content) [ true ↦ same | false ↦ cuts ]

    pub lowered_is : (lg_k ≡ u.lg_k → ⊥) → smaller ≡ lowered key lg_k u
    lowered_is differs = let e : eqb lg_k u.lg_k ≡ false = grind (arith, nat_tests) in sym (ap (λ b. cond b u smaller) e)

  module _ {P : Type 0} (empty failed : Bool) (policy : P) where
    -- a union over the entries of a table below a theta
    abbrev pub over : MapTable X → ℕ → Union X P
    over t theta = record { empty = empty; failed = failed; content = retained key t.kept.entries theta; lg_k = t.lg_nom; start = t.start; seed_hash = t.seed_hash; policy = policy }

    module _ (t s : MapTable X) (theta own lg_k : ℕ) (up : IsAscending key t.kept.entries) (made : s ≡ record t { kept = cut key (2 ^ lg_k) t.kept.entries theta; lg_nom = lg_k }) (own_is : own ≡ s.kept.theta) where
      pub over_smaller : over s own ≡ smaller (over t theta) lg_k
      over_smaller =
          ap (over s) own_is
          ∙ ap (λ (m : MapTable X). over m m.kept.theta) made
          ∙ ap (λ (v : Retained X). record (over t theta) { content = v; lg_k = lg_k }) (held_lowered (2 ^ lg_k) t.kept.entries theta up)

      pub over_theta : s.kept.theta ≡ (cut key (2 ^ lg_k) (below key t.kept.entries theta) theta).theta
      over_theta = ap (λ (m : MapTable X). m.kept.theta) made ∙ ap (λ v. v.theta) (sym (cut_below key (2 ^ lg_k) t.kept.entries theta up))
