-- Values that are added one after another: what was added up to a place, and what is left behind it, make all.
use Rattle.std.proofs.Common.{◌≡◌, ◌≢◌, ◌<◌, ◌+◌, ℕ, List, ◌∷◌, length, drop, inl, inr, refl, sym, subst, slice_index_or, arith}
use Rattle.std.proofs.lemmas.List.{drop_more, drop_all}
use Rattle.core_slots.specs.declared.entry.TupleEntry.{TupleEntry}
use Rattle.core_state.specs.Updatable.{Updatable}
use Rattle.tuple_sketches.specs.declared.numbers.SummaryMode.{SummaryMode}
use Rattle.c_objects.specs.Sums.{AcceptsValue, RefusesValue}
use Rattle.c_objects.specs.Values.{IsAsBefore, AddsInTurn}

module _ (mode : SummaryMode) (hs vs : List ℕ) (start : Updatable (TupleEntry ℕ)) where
  -- the sketch has the values up to a place
  abbrev pub IsInTurn : (at : ℕ) → (now : Updatable (TupleEntry ℕ)) → Type 0
  IsInTurn at now =
      (status more : ℕ) (new : Updatable (TupleEntry ℕ)) → AddsInTurn mode (drop at hs) (drop at vs) now status new more → AddsInTurn mode hs vs start status new (at + more)

  pub none_yet : IsInTurn 0 start
  none_yet = λ status more new left. subst (λ n. AddsInTurn mode hs vs start status new n) (omega arith) left

  pub all_added : (now : Updatable (TupleEntry ℕ)) → IsInTurn (length hs) now → AddsInTurn mode hs vs start 0 now (length hs)
  all_added now turn =
      let left : AddsInTurn mode (drop (length hs) hs) (drop (length hs) vs) now 0 now 0 =
      subst (λ xs. AddsInTurn mode xs (drop (length hs) vs) now 0 now 0) (sym (drop_all (length hs) hs (omega arith))) (refl, refl, (refl, refl, λ own lg_k from seed stream is. is)) in
      subst (λ n. AddsInTurn mode hs vs start 0 now n) (omega arith) (turn 0 0 now left)

  module _ (at : ℕ) (now new : Updatable (TupleEntry ℕ)) (turn : IsInTurn at now) (first : at < length hs) (second : at < length vs) where
    abbrev h : ℕ
    h = slice_index_or hs at 0

    abbrev v : ℕ
    v = slice_index_or vs at 0

    -- what is left at a place is its own value, and what is left behind it
    at_place : (status more : ℕ) (after : Updatable (TupleEntry ℕ)) → AddsInTurn mode (h ∷ drop (at + 1) hs) (v ∷ drop (at + 1) vs) now status after more
        → AddsInTurn mode (drop at hs) (drop at vs) now status after more
    at_place status more after left =
        subst (λ xs. AddsInTurn mode xs (drop at vs) now status after more) (sym (drop_more hs at 0 first))
        (subst (λ ys. AddsInTurn mode (h ∷ drop (at + 1) hs) ys now status after more) (sym (drop_more vs at 0 second)) left)

    pub one_refused : (own : SummaryMode) → own ≡ mode → (status : ℕ) → status ≢ 0 → RefusesValue own h v now status → IsAsBefore now new → AddsInTurn mode hs vs start status new at
    one_refused own is status some refused same =
        let left = subst (λ m. RefusesValue m h v now status) is refused in
        subst (λ n. AddsInTurn mode hs vs start status new n) (omega arith) (turn status 0 new (at_place status 0 new (inl (some, refl, left, same))))

    pub one_more : (own : SummaryMode) → own ≡ mode → AcceptsValue own h v now new → IsInTurn (at + 1) new
    one_more own is accepted = λ status more after left.
        let one = subst (λ m. AcceptsValue m h v now new) is accepted in
        subst (λ n. AddsInTurn mode hs vs start status after n) (omega arith)
        (turn status (1 + more) after (at_place status (1 + more) after (inr (new, more, one, left, refl))))
