-- Images that are read under the seed hash that they ask for.
use Rattle.std.proofs.Common.{◌≡◌, ℕ, ◌<◌, true, List, Option, Some, None, Result, Ok, Err, refl, sym, subst, eqb-true, eq-eqb, inl, inr}
use Rattle.std.specs.Prelude.{unwrap_or}
use Rattle.core_compact.specs.CompactState.{Compact, empty_compact}
use Rattle.core_laws.specs.Entries.{hash_key}
use Rattle.core_images.specs.Entry.{SpellsHash, state_after_preamble, HasEntries}
use Rattle.core_images.specs.Head.{theta_head, is_of_seed}
use Rattle.core_images.specs.Read.{LeavesOpen, IsRefused, IsUnread, kind_of}
use Rattle.core_images.specs.declared.flaw.Flaw.{Flaw}
use Rattle.core_images.specs.declared.flaw.ReadError.{ReadError}
use Rattle.core_images.specs.declared.flaw.ReadError.TheVariants.{Flawed, OutOfMemory}
use Rattle.core_images.specs.declared.head.Head.{Head}
use Rattle.core_images.specs.declared.preamble.ImageLayout.{ImageLayout}
use Rattle.core_images.specs.declared.preamble.ImageLayout.TheVariants.{Empty, Filled}
use Rattle.core_images.proofs.ImageLayouts.{Heads}
use Rattle.theta_sketches.specs.Image.{IsReadable}
use Rattle.theta_sketches.proofs.ImageLayouts.{theta_from, theta_to}
use Rattle.distinct_inputs.specs.AnySeed.{asked_hash, IsOfSomeSeed}

-- an image may be read under the seed hash that it asks for, or under any if it asks for none
is_of_asked : (hash : ℕ) (asked : Option ℕ) → is_of_seed (unwrap_or asked hash) asked ≡ true
is_of_asked hash None = refl
is_of_asked hash (Some other) = eq-eqb other other refl

-- .. and that isn't 0 if the image is read under some seed hash
nonzero_asked : (h hash : ℕ) (asked : Option ℕ) → 0 < h → 0 < hash → is_of_seed h asked ≡ true → 0 < unwrap_or asked hash
nonzero_asked h hash None high seeded is = seeded
nonzero_asked h hash (Some other) high seeded is = subst (λ (n : ℕ). 0 < n) (sym (eqb-true other h is)) high

module _ (bytes : List ℕ) (h hash : ℕ) where
  -- a layout allows a state of each seed hash, if it allows one
  laid : (layout : ImageLayout) (k : ℕ) (s : Compact ℕ) → LeavesOpen hash_key SpellsHash bytes h (Ok layout) s → (t : Compact ℕ) × LeavesOpen hash_key SpellsHash bytes k (Ok layout) t
  laid Empty k s is = (empty_compact k, refl)
  laid (Filled p) k s is =
      let lawful = is.2.lawful in
      let has : HasEntries hash_key SpellsHash bytes p k is.0 = record {
        whole = is.2.whole;
        content = is.2.content;
        lawful = record {
          theta_low = lawful.theta_low;
          theta_high = lawful.theta_high;
          distinct = lawful.distinct;
          nonzero = lawful.nonzero;
          below_theta = lawful.below_theta;
          limited = lawful.limited;
          ascending = lawful.ascending;
          none = lawful.none;
          greatest = lawful.greatest;
        };
      } in
      (state_after_preamble p k is.0, (is.0, refl, has))

  -- .. and so does a head of the one that it asks for
  rehashed : (head : Result Head Flaw) (s : Compact ℕ) → 0 < h → 0 < hash → Heads hash_key SpellsHash bytes h head s →
      (0 < asked_hash hash head) × ((t : Compact ℕ) × Heads hash_key SpellsHash bytes (asked_hash hash head) head t)
  rehashed (Err flaw) s high seeded is = absurd is
  rehashed (Ok head) s high seeded is =
      let found = laid head.layout (unwrap_or head.seed_hash hash) s is.1 in
      (nonzero_asked h hash head.seed_hash high seeded is.0, (found.0, (is_of_asked hash head.seed_hash, found.1)))

-- an image of some seed is read under the seed hash that it asks for
pub read_as_asked : (bytes : List ℕ) (hash : ℕ) → 0 < hash → IsOfSomeSeed bytes → IsReadable bytes (asked_hash hash (theta_head bytes))
read_as_asked bytes hash seeded is =
    let h = is.1.0 in
    let read = is.1.1 in
    let found = rehashed bytes h hash (theta_head bytes) is.0 read.seeded seeded (theta_from bytes h read.spelled) in
    (found.1.0, record { seeded = found.0; spelled = theta_to bytes (asked_hash hash (theta_head bytes)) found.1.0 found.1.1 })

-- the error of an image that is not read
pub unread_refused : {P Q : Type 0} (flaw : Flaw) (e : ReadError) → (Q → P) → IsUnread P flaw e → IsRefused (kind_of e) Q
unread_refused flaw OutOfMemory f unread = inl refl
unread_refused flaw (Flawed found) f unread = inr (refl, λ q. unread.1 (f q))
