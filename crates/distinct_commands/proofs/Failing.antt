-- Failures of a part of a command are failures of the command.
use Rattle.std.proofs.Common.{◌≡◌, ℕ, Bool, false, List, Option, sym, subst}
use Rattle.std.specs.Prelude.{IfErr, IfSome, Result, Ok, Err}
use Rattle.sketch_base.specs.declared.error.ErrorKind.{ErrorKind}
use Rattle.keys_groups.specs.United.{HasFirstFlawed, IsUniteError}
use Rattle.keys_groups.specs.declared.united.LineFlaw.{LineFlaw}
use Rattle.keys_groups.specs.declared.uniting.UniteError.{UniteError}
use Rattle.keys_groups.specs.declared.uniting.UniteError.TheVariants.{Flawed}
use Rattle.distinct_arguments.specs.Settings.{OptionValues}
use Rattle.distinct_arguments.specs.declared.commands.Operator.{Operator}
use Rattle.distinct_arguments.specs.declared.commands.Operator.TheVariants.{Union}
use Rattle.distinct_inputs.specs.Failures.{images_in, unites_sums, IsOfImages, IsOfEitherUnion, IsOfCombining}
use Rattle.distinct_commands.specs.Failing.{OrNoFiles, IsOfGroupsResult, IsOfJoin, IsOfMinus}
use Rattle.distinct_messages.specs.declared.failure.Failure.{Failure}
use Rattle.distinct_messages.specs.declared.failure.Failure.TheVariants.{NotText, Arguments, NoFiles, NotTwo, NoExpression, NoDir, NoName, NoNul, NoSeed, Terminal, WrongCount, NotOneEach, Memory, Unreadable, NoSketch, NoSums, NoHex, NoTab, NoLine, PastGreatest, PastUnion, PastResult, NotANumber, LongName, NotWritten}

-- images that an operator reads
images_combining : (operator : Operator) (options : OptionValues) (seed count : ℕ) (texts : Option (List (List ℕ))) (f : Failure) →
    IsOfImages (unites_sums operator options) options.hex seed (images_in (unites_sums operator options) options texts) f → IsOfCombining operator options seed count texts f
images_combining operator options seed count texts (NotText number text) failed = absurd failed
images_combining operator options seed count texts (Arguments fault) failed = absurd failed
images_combining operator options seed count texts NoFiles failed = absurd failed
images_combining operator options seed count texts NotTwo failed = absurd failed
images_combining operator options seed count texts (NoExpression text fault) failed = absurd failed
images_combining operator options seed count texts Terminal failed = absurd failed
images_combining operator options seed count texts (WrongCount found expected) failed = absurd failed
images_combining operator options seed count texts (NotOneEach found expected) failed = absurd failed
images_combining operator options seed count texts (NoDir name error) failed = absurd failed
images_combining operator options seed count texts (NoSeed name) failed = absurd failed
images_combining operator options seed count texts (NoName name number) failed = absurd failed
images_combining operator options seed count texts (NoNul name) failed = absurd failed
images_combining operator options seed count texts Memory failed = failed
images_combining operator options seed count texts (Unreadable name error) failed = failed
images_combining operator options seed count texts (NoSketch name line flaw) failed = failed
images_combining operator options seed count texts (NoSums name line flaw) failed = failed
images_combining operator options seed count texts (NoHex name line) failed = failed
images_combining operator options seed count texts (NoTab name line) failed = absurd failed
images_combining operator options seed count texts (NoLine name) failed = failed
images_combining operator options seed count texts (PastGreatest name line) failed = absurd failed
images_combining operator options seed count texts (PastUnion name line) failed = absurd failed
images_combining operator options seed count texts (PastResult text) failed = absurd failed
images_combining operator options seed count texts (NotANumber name line field value) failed = absurd failed
images_combining operator options seed count texts (LongName path length) failed = absurd failed
images_combining operator options seed count texts (NotWritten name error) failed = absurd failed

pub not_combined : (operator : Operator) (options : OptionValues) (seed count : ℕ) (texts : Option (List (List ℕ))) (f : Failure) → unites_sums operator options ≡ false →
    IsOfImages false options.hex seed (images_in false options texts) f → IsOfCombining operator options seed count texts f
not_combined operator options seed count texts f is failed =
    images_combining operator options seed count texts f (subst (λ (b : Bool). IsOfImages b options.hex seed (images_in b options texts) f) (sym is) failed)

union_combining : (options : OptionValues) (seed count : ℕ) (texts : Option (List (List ℕ))) (f : Failure) → IsOfEitherUnion options seed (images_in options.sums options texts) f → IsOfCombining Union options seed count texts f
union_combining options seed count texts (NotText number text) failed = absurd failed
union_combining options seed count texts (Arguments fault) failed = absurd failed
union_combining options seed count texts NoFiles failed = absurd failed
union_combining options seed count texts NotTwo failed = absurd failed
union_combining options seed count texts (NoExpression text fault) failed = absurd failed
union_combining options seed count texts Terminal failed = absurd failed
union_combining options seed count texts (WrongCount found expected) failed = failed
union_combining options seed count texts (NotOneEach found expected) failed = absurd failed
union_combining options seed count texts (NoDir name error) failed = absurd failed
union_combining options seed count texts (NoSeed name) failed = absurd failed
union_combining options seed count texts (NoName name number) failed = absurd failed
union_combining options seed count texts (NoNul name) failed = absurd failed
union_combining options seed count texts Memory failed = failed
union_combining options seed count texts (Unreadable name error) failed = failed
union_combining options seed count texts (NoSketch name line flaw) failed = failed
union_combining options seed count texts (NoSums name line flaw) failed = failed
union_combining options seed count texts (NoHex name line) failed = failed
union_combining options seed count texts (NoTab name line) failed = absurd failed
union_combining options seed count texts (NoLine name) failed = failed
union_combining options seed count texts (PastGreatest name line) failed = absurd failed
union_combining options seed count texts (PastUnion name line) failed = failed
union_combining options seed count texts (PastResult text) failed = absurd failed
union_combining options seed count texts (NotANumber name line field value) failed = absurd failed
union_combining options seed count texts (LongName path length) failed = absurd failed
union_combining options seed count texts (NotWritten name error) failed = absurd failed

pub not_united : {V : Type 0} (r : Result V Failure) (operator : Operator) (options : OptionValues) (seed count : ℕ) (texts : Option (List (List ℕ))) → operator ≡ Union →
    IfErr r (IsOfEitherUnion options seed (images_in options.sums options texts)) → IfErr r (IsOfCombining operator options seed count texts)
not_united (Ok v) operator options seed count texts is failed = tt
not_united (Err f) operator options seed count texts is failed = subst (λ (o : Operator). IsOfCombining o options seed count texts f) (sym is) (union_combining options seed count texts f failed)

-- a command to which an image is named
pub named : (IsNameError : Type 0) (IsOther : Failure → Type 0) (f : Failure) → (IsOther NoFiles → ⊥) → IsOther f → OrNoFiles IsNameError IsOther f
named IsNameError IsOther (NotText number text) never failed = failed
named IsNameError IsOther (Arguments fault) never failed = failed
named IsNameError IsOther NoFiles never failed = absurd (never failed)
named IsNameError IsOther NotTwo never failed = failed
named IsNameError IsOther (NoExpression text fault) never failed = failed
named IsNameError IsOther Terminal never failed = failed
named IsNameError IsOther (WrongCount found expected) never failed = failed
named IsNameError IsOther (NotOneEach found expected) never failed = failed
named IsNameError IsOther (NoDir name error) never failed = failed
named IsNameError IsOther (NoSeed name) never failed = failed
named IsNameError IsOther (NoName name number) never failed = failed
named IsNameError IsOther (NoNul name) never failed = failed
named IsNameError IsOther Memory never failed = failed
named IsNameError IsOther (Unreadable name error) never failed = failed
named IsNameError IsOther (NoSketch name line flaw) never failed = failed
named IsNameError IsOther (NoSums name line flaw) never failed = failed
named IsNameError IsOther (NoHex name line) never failed = failed
named IsNameError IsOther (NoTab name line) never failed = failed
named IsNameError IsOther (NoLine name) never failed = failed
named IsNameError IsOther (PastGreatest name line) never failed = failed
named IsNameError IsOther (PastUnion name line) never failed = failed
named IsNameError IsOther (PastResult text) never failed = failed
named IsNameError IsOther (NotANumber name line field value) never failed = failed
named IsNameError IsOther (LongName path length) never failed = failed
named IsNameError IsOther (NotWritten name error) never failed = failed

-- the first flaw of a line
pub first_flaw : (seed : ℕ) (refusal : Option ErrorKind) (texts : Option (List (List ℕ))) (u : UniteError) (number : ℕ) (flaw : LineFlaw) → u ≡ Flawed number flaw → IsUniteError seed refusal texts u → IfSome texts (HasFirstFlawed seed number flaw)
first_flaw seed refusal texts u number flaw is failed = (subst (IsUniteError seed refusal texts) is failed).1

-- files of groups are not joined: `minus` fails
pub minus_of_join : (seed count : ℕ) (texts : Option (List (List ℕ))) (f : Failure) → IsOfJoin seed texts f → IsOfMinus seed count texts f
minus_of_join seed count texts (NotText number text) failed = failed
minus_of_join seed count texts (Arguments fault) failed = failed
minus_of_join seed count texts NoFiles failed = failed
minus_of_join seed count texts NotTwo failed = absurd failed
minus_of_join seed count texts (NoExpression text fault) failed = failed
minus_of_join seed count texts Terminal failed = failed
minus_of_join seed count texts (WrongCount found expected) failed = failed
minus_of_join seed count texts (NotOneEach found expected) failed = failed
minus_of_join seed count texts (NoDir name error) failed = failed
minus_of_join seed count texts (NoSeed name) failed = failed
minus_of_join seed count texts (NoName name number) failed = failed
minus_of_join seed count texts (NoNul name) failed = failed
minus_of_join seed count texts Memory failed = failed
minus_of_join seed count texts (Unreadable name error) failed = failed
minus_of_join seed count texts (NoSketch name line flaw) failed = failed
minus_of_join seed count texts (NoSums name line flaw) failed = failed
minus_of_join seed count texts (NoHex name line) failed = failed
minus_of_join seed count texts (NoTab name line) failed = failed
minus_of_join seed count texts (NoLine name) failed = failed
minus_of_join seed count texts (PastGreatest name line) failed = failed
minus_of_join seed count texts (PastUnion name line) failed = failed
minus_of_join seed count texts (PastResult text) failed = failed
minus_of_join seed count texts (NotANumber name line field value) failed = failed
minus_of_join seed count texts (LongName path length) failed = failed
minus_of_join seed count texts (NotWritten name error) failed = failed

-- .. an expression over them isn't evaluated
pub groups_of_join : (seed : ℕ) (texts : Option (List (List ℕ))) (f : Failure) → IsOfJoin seed texts f → IsOfGroupsResult seed texts f
groups_of_join seed texts (NotText number text) failed = failed
groups_of_join seed texts (Arguments fault) failed = failed
groups_of_join seed texts NoFiles failed = failed
groups_of_join seed texts NotTwo failed = failed
groups_of_join seed texts (NoExpression text fault) failed = failed
groups_of_join seed texts Terminal failed = failed
groups_of_join seed texts (WrongCount found expected) failed = failed
groups_of_join seed texts (NotOneEach found expected) failed = absurd failed
groups_of_join seed texts (NoDir name error) failed = failed
groups_of_join seed texts (NoSeed name) failed = failed
groups_of_join seed texts (NoName name number) failed = failed
groups_of_join seed texts (NoNul name) failed = failed
groups_of_join seed texts Memory failed = failed
groups_of_join seed texts (Unreadable name error) failed = failed
groups_of_join seed texts (NoSketch name line flaw) failed = failed
groups_of_join seed texts (NoSums name line flaw) failed = failed
groups_of_join seed texts (NoHex name line) failed = failed
groups_of_join seed texts (NoTab name line) failed = failed
groups_of_join seed texts (NoLine name) failed = failed
groups_of_join seed texts (PastGreatest name line) failed = failed
groups_of_join seed texts (PastUnion name line) failed = failed
groups_of_join seed texts (PastResult text) failed = failed
groups_of_join seed texts (NotANumber name line field value) failed = failed
groups_of_join seed texts (LongName path length) failed = failed
groups_of_join seed texts (NotWritten name error) failed = failed
