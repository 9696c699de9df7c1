-- Lines of a text that is read in blocks, put into groups.
use Rattle.std.proofs.Common.{ℕ, ◌≡◌, cond, length, List, [], ◌∷◌, ◌++◌, Vec, refl, sym, ap, ◌∙◌, subst, append_assoc, append-nil}
use Rattle.std.proofs.lemmas.Bool.{ne_eqb, eq-eqb}
use Rattle.core_state.specs.Updatable.{Updatable}
use Rattle.keys_lines.specs.Lines.{lines_of, lines_after, Lacks}
use Rattle.keys_lines.proofs.Texts.{lines_after-line, lines_after-lacking, lines_whole}
use Rattle.keys_groups.specs.States.{AddsLine, IsGrouped}
use Rattle.keys_groups.specs.Reading.{LeavesLines, TakesLines}
use Rattle.keys_groups.specs.declared.groups.Grouping.{Grouping}
use Rattle.keys_groups.proofs.LinesInGroups.{grouped_more}

module _ {A : Type 0} (grouping : Grouping) where
  none_more : (before : List (List ℕ)) (now : List (Vec ℕ A × Updatable ℕ)) → IsGrouped grouping before now → IsGrouped grouping (before ++ []) now
  none_more before now grouped = subst (λ (lines : List (List ℕ)). IsGrouped grouping lines now) (sym (append-nil before)) grouped

  one_more : (before lines : List (List ℕ)) (line : List ℕ) (now new : List (Vec ℕ A × Updatable ℕ)) → IsGrouped grouping (before ++ lines) now → AddsLine grouping line now new → IsGrouped grouping (before ++ (lines ++ line ∷ [])) new
  one_more before lines line now new grouped added =
      subst (λ (ls : List (List ℕ)). IsGrouped grouping ls new) (append_assoc before lines (line ∷ [])) (grouped_more grouping (before ++ lines) line now new grouped added)

  -- no line yet
  pub leaves_all : (before : List (List ℕ)) (text : List ℕ) (now : List (Vec ℕ A × Updatable ℕ)) → IsGrouped grouping before now → LeavesLines grouping before text now text
  leaves_all before text now grouped = ([], none_more before now grouped, λ more. refl)

  pub takes_none : (before : List (List ℕ)) (now : List (Vec ℕ A × Updatable ℕ)) → IsGrouped grouping before now → TakesLines grouping before [] [] now []
  takes_none before now grouped = ([], none_more before now grouped, λ more. refl)

  -- one line more
  pub leaves_more : (before : List (List ℕ)) (text rest line others : List ℕ) (now new : List (Vec ℕ A × Updatable ℕ)) → LeavesLines grouping before text now rest → rest ≡ line ++ 10 ∷ others → Lacks 10 line → AddsLine grouping line now new → LeavesLines grouping before text new others
  leaves_more before text rest line others now new leaves parted lacks added = (
    leaves.0 ++ line ∷ [],
    one_more before leaves.0 line now new leaves.1 added,
    λ more.
        leaves.2 more
        ∙ ap (λ ls. leaves.0 ++ ls) (ap (λ bs. lines_after [] (bs ++ more)) parted ∙ ap (lines_after []) (append_assoc line (10 ∷ others) more) ∙ lines_after-line [] line (others ++ more) lacks)
        ∙ sym (append_assoc leaves.0 (line ∷ []) (lines_after [] (others ++ more))),
  )

  -- a block without an LF
  pub takes_lacking : (before : List (List ℕ)) (front block : List ℕ) (now : List (Vec ℕ A × Updatable ℕ)) → IsGrouped grouping before now → Lacks 10 block → TakesLines grouping before front block now (front ++ block)
  takes_lacking before front block now grouped lacks = ([], none_more before now grouped, λ more. lines_after-lacking front block more lacks)

  -- the first line of a block
  pub first_more : (before : List (List ℕ)) (line : List ℕ) (now new : List (Vec ℕ A × Updatable ℕ)) → IsGrouped grouping before now → AddsLine grouping line now new → IsGrouped grouping (before ++ line ∷ []) new
  first_more before line now new grouped added = grouped_more grouping before line now new grouped added

  -- a block with one
  pub takes_block : (before : List (List ℕ)) (front block first others rest left : List ℕ) (new : List (Vec ℕ A × Updatable ℕ)) → block ≡ first ++ 10 ∷ others → Lacks 10 first → LeavesLines grouping (before ++ (front ++ first) ∷ []) others new rest → Lacks 10 rest → left ≡ rest →
      TakesLines grouping before front block new left
  takes_block before front block first others rest left new parted lacks leaves rest_lacks is = (
    (front ++ first) ∷ leaves.0,
    subst (λ (ls : List (List ℕ)). IsGrouped grouping ls new) (append_assoc before ((front ++ first) ∷ []) leaves.0) leaves.1,
    λ more.
        ap (λ bs. lines_after front (bs ++ more)) parted
        ∙ ap (lines_after front) (append_assoc first (10 ∷ others) more)
        ∙ lines_after-line front first (others ++ more) lacks
        ∙ ap (λ ls. (front ++ first) ∷ ls) (leaves.2 more ∙ ap (λ ls. leaves.0 ++ ls) (lines_after-lacking [] rest more rest_lacks ∙ ap (λ bs. lines_after bs more) (sym is))),
  )

  -- two pieces in turn
  pub takes_both : (before : List (List ℕ)) (read block mid left : List ℕ) (now new : List (Vec ℕ A × Updatable ℕ)) (t : TakesLines grouping before [] read now mid) → TakesLines grouping (before ++ t.0) mid block new left → TakesLines grouping before [] (read ++ block) new left
  takes_both before read block mid left now new t u = (
    t.0 ++ u.0,
    subst (λ (ls : List (List ℕ)). IsGrouped grouping ls new) (append_assoc before t.0 u.0) u.1,
    λ more. ap (lines_after []) (append_assoc read block more) ∙ t.2 (block ++ more) ∙ ap (λ ls. t.0 ++ ls) (u.2 more) ∙ sym (append_assoc t.0 u.0 (lines_after left more)),
  )

  -- at the end
  pub takes_all : (before : List (List ℕ)) (text last : List ℕ) (now new : List (Vec ℕ A × Updatable ℕ)) (t : TakesLines grouping before [] text now last) → IsGrouped grouping ((before ++ t.0) ++ lines_after last []) new → IsGrouped grouping (before ++ lines_of text) new
  takes_all before text last now new t grouped =
      subst (λ (ls : List (List ℕ)). IsGrouped grouping ls new)
      (append_assoc before t.0 (lines_after last []) ∙ ap (λ ls. before ++ ls) (sym (sym (lines_whole text) ∙ ap (lines_after []) (sym (append-nil text)) ∙ t.2 [])))
      grouped

  -- a last line
  pub no_last : (before : List (List ℕ)) (line : List ℕ) (now : List (Vec ℕ A × Updatable ℕ)) → length line ≡ 0 → IsGrouped grouping before now → IsGrouped grouping (before ++ lines_after line []) now
  no_last before line now none grouped =
      subst (λ (ls : List (List ℕ)). IsGrouped grouping (before ++ ls) now) (sym (ap (λ b. cond b [] (line ∷ [])) (eq-eqb (length line) 0 none))) (none_more before now grouped)

  pub one_last : (before : List (List ℕ)) (line : List ℕ) (now new : List (Vec ℕ A × Updatable ℕ)) → (length line ≡ 0 → ⊥) → IsGrouped grouping before now → AddsLine grouping line now new → IsGrouped grouping (before ++ lines_after line []) new
  one_last before line now new some grouped added =
      subst (λ (ls : List (List ℕ)). IsGrouped grouping (before ++ ls) new) (sym (ap (λ b. cond b [] (line ∷ [])) (ne_eqb (length line) 0 some))) (grouped_more grouping before line now new grouped added)
