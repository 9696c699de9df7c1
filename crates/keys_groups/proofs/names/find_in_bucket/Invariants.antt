use Rattle.std.proofs.Common.{ℕ, ◌≡◌, ◌<◌, Some}
use Rattle.std.specs.Prelude.{slice_get}
use Rattle.keys_groups.specs.Names.{texts_of, mark_of}
use Rattle.keys_groups.proofs.names.find_in_bucket.Given as goal

-- no place so far has the mark of the name
abbrev pub invariant-loop-place : goal.invariant-loop-place
invariant-loop-place g l = (place number : ℕ) → place < l.place → slice_get l.bucket place ≡ Some (mark_of l.hash number) → slice_get (texts_of l.entries) number ≡ Some l.name → ⊥
