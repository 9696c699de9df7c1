-- The first rule of options that is broken.
use Rattle.std.proofs.Common.{◌≡◌, ◌≤◌, ◌-◌, Bool, true, false, cond, List, [], ◌∷◌, length, map, get_or, take, drop, Option, Some, None, inl, refl, ap, sym, ◌∙◌, subst, arith}
use Rattle.std.specs.Prelude.{not}
use Rattle.std.specs.Option.{option_map_or}
use Rattle.std.proofs.lemmas.List.{take_all}
use Rattle.distinct_arguments.specs.Settings.{OptionValues, Mistake}
use Rattle.distinct_arguments.specs.Table.{BorrowedCondition, BorrowedRow, condition_in, row_in}
use Rattle.distinct_arguments.specs.Arguments.{Action, fails, first_of, broken_in, broken_condition, broken_by, broken_row}
use Rattle.distinct_arguments.specs.Faults.{ReportsIf, ReportsMistake}
use Rattle.distinct_arguments.specs.declared.commands.Command.{Command}
use Rattle.distinct_arguments.specs.declared.fault.Fault.{Fault}
use Rattle.distinct_arguments.specs.declared.table.OptionName.{OptionName}

-- the first of two mistakes is reported
first_at : (e : Fault) (first second : Option Mistake) → ReportsIf (Some e) first → ReportsIf (Some e) (first_of first second)
first_at e None second is = absurd is
first_at e (Some mistake) second is = is

-- without the first, the second counts
second_at : (first second : Option Mistake) → ReportsIf None first → first_of first second ≡ second
second_at None second none = refl
second_at (Some mistake) second none = absurd none

-- options that break a rule, and those that don't
pub broken_at : (e : Fault) (found : Option Mistake) (next : Action) → ReportsIf (Some e) found → ReportsMistake e (option_map_or (λ mistake. fails mistake) found next)
broken_at e None next is = absurd is
broken_at e (Some mistake) next is = inl is

pub unbroken_at : (found : Option Mistake) (next : Action) → ReportsIf None found → next ≡ option_map_or (λ mistake. fails mistake) found next
unbroken_at None next none = refl
unbroken_at (Some mistake) next none = absurd none

-- the last of three choices
pub third_of : (one lacks : Bool) (a b c : Action) → one ≡ true → lacks ≡ false → cond (not one) a (cond lacks b c) ≡ c
third_of one lacks a b c is none = rw (is, none) refl

-- a list with a first item is that item in front of the others
headed : {X : Type 0} (xs : List X) (x : X) → 1 ≤ length xs → get_or xs 0 x ∷ take (length xs - 1) (drop 1 xs) ≡ xs
headed [] x some = absurd (omega arith)
headed (y ∷ xs) x some = ap (λ ys. y ∷ ys) (take_all (length (y ∷ xs) - 1) xs (omega arith))

module _ (c : Command) (o : OptionValues) where
  -- the first rule is broken, or the others have the mistake of all
  pub condition_first : (option : OptionName) (xs : List BorrowedCondition) (x : BorrowedCondition) (e : Fault) (all : Option Mistake) → 1 ≤ length xs
      → broken_condition c o option (map condition_in xs) ≡ all → ReportsIf (Some e) (broken_in c o option (condition_in (get_or xs 0 x))) → ReportsIf (Some e) all
  condition_first option xs x e all some is broken_first =
      subst (λ (m : Option Mistake). ReportsIf (Some e) m) is
      (subst (λ (ys : List BorrowedCondition). ReportsIf (Some e) (broken_condition c o option (map condition_in ys))) (headed xs x some)
      (first_at e (broken_in c o option (condition_in (get_or xs 0 x))) (broken_condition c o option (map condition_in (take (length xs - 1) (drop 1 xs)))) broken_first))

  pub condition_later : (option : OptionName) (xs : List BorrowedCondition) (x : BorrowedCondition) (all : Option Mistake) → 1 ≤ length xs
      → broken_condition c o option (map condition_in xs) ≡ all → ReportsIf None (broken_in c o option (condition_in (get_or xs 0 x)))
      → broken_condition c o option (map condition_in (take (length xs - 1) (drop 1 xs))) ≡ all
  condition_later option xs x all some is none =
      sym (second_at (broken_in c o option (condition_in (get_or xs 0 x))) (broken_condition c o option (map condition_in (take (length xs - 1) (drop 1 xs)))) none)
      ∙ ap (λ (ys : List BorrowedCondition). broken_condition c o option (map condition_in ys)) (headed xs x some) ∙ is

  -- .. and the first row
  pub row_first : (xs : List BorrowedRow) (x : BorrowedRow) (e : Fault) (all : Option Mistake) → 1 ≤ length xs
      → broken_row c o (map row_in xs) ≡ all → ReportsIf (Some e) (broken_by c o (row_in (get_or xs 0 x))) → ReportsIf (Some e) all
  row_first xs x e all some is broken_first =
      subst (λ (m : Option Mistake). ReportsIf (Some e) m) is
      (subst (λ (ys : List BorrowedRow). ReportsIf (Some e) (broken_row c o (map row_in ys))) (headed xs x some)
      (first_at e (broken_by c o (row_in (get_or xs 0 x))) (broken_row c o (map row_in (take (length xs - 1) (drop 1 xs)))) broken_first))

  pub row_later : (xs : List BorrowedRow) (x : BorrowedRow) (all : Option Mistake) → 1 ≤ length xs
      → broken_row c o (map row_in xs) ≡ all → ReportsIf None (broken_by c o (row_in (get_or xs 0 x)))
      → broken_row c o (map row_in (take (length xs - 1) (drop 1 xs))) ≡ all
  row_later xs x all some is none =
      sym (second_at (broken_by c o (row_in (get_or xs 0 x))) (broken_row c o (map row_in (take (length xs - 1) (drop 1 xs)))) none)
      ∙ ap (λ (ys : List BorrowedRow). broken_row c o (map row_in ys)) (headed xs x some) ∙ is
