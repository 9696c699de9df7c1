-- Lines on images that are read, and failures of those that are passed over.
use Rattle.std.proofs.Common.{◌≡◌, ℕ, Bool, true, false, List, [], ◌∷◌, ◌++◌, Option, Some, None, refl, sym, subst, append_assoc, append-nil, inl, inr}
use Rattle.std.specs.Prelude.{◌&&◌, IfSome, String, string_bytes}
use Rattle.std.specs.List.{list_all}
use Rattle.sketch_base.specs.declared.error.ErrorKind.{ErrorKind}
use Rattle.sketch_base.specs.declared.error.ErrorKind.TheVariants.{OutOfMemory}
use Rattle.core_compact.specs.CompactState.{Compact}
use Rattle.core_images.specs.Read.{IsRefused}
use Rattle.keys_sketches.specs.Sources.{GivesNext}
use Rattle.distinct_inputs.specs.AnySeed.{IsOfSomeSeed, IsOfNoSeed}
use Rattle.distinct_arguments.specs.Settings.{OptionValues}
use Rattle.distinct_messages.specs.Failures.{display_name, is_fault, IsOfOne, UnreadableIf}
use Rattle.distinct_messages.specs.declared.failure.Failure.{Failure}
use Rattle.distinct_messages.specs.declared.failure.Failure.TheVariants.{Memory}
use Rattle.distinct_inputs.specs.Failures.{NotesNext}
use Rattle.distinct_commands.specs.Texts.{shown_text}
use Rattle.distinct_commands.specs.Showing.{AreShownByName, AreShown, AreOfOne, ShowsFirst, PassesFirst, PassesNext, SeesNext, IfPassed, IsAppended, NamesFile}
use Rattle.distinct_commands.specs.declared.show.Seen.{Seen}
use Rattle.distinct_commands.specs.declared.show.Seen.TheVariants.{Sketch, Passed}

and_both : (a b : Bool) → (a && b) ≡ true → (a ≡ true) × (b ≡ true)
and_both true b is = (refl, is)
and_both false b is = absurd cc

-- of failures and one more, each is one of bytes
all_faults : (passed : List Failure) (f : Failure) → list_all is_fault (passed ++ f ∷ []) ≡ true → (list_all is_fault passed ≡ true) × (is_fault f ≡ true)
all_faults [] f is = (refl, (and_both (is_fault f) true is).0)
all_faults (g ∷ passed) f is =
    let both = and_both (is_fault g) (list_all is_fault (passed ++ f ∷ [])) is in
    let rest = all_faults passed f both.1 in
    (rw (both.0, rest.0) refl, rest.1)

-- one more failure of one file
one_more : (may_fail : Bool) (passed : List Failure) (f : Failure) → AreOfOne may_fail passed → IsOfOne f → UnreadableIf may_fail f → AreOfOne may_fail (passed ++ f ∷ [])
one_more may_fail [] f all one fallible = (one, fallible, tt)
one_more may_fail (g ∷ passed) f all one fallible = (all.0, all.1, one_more may_fail passed f all.2 one fallible)

pub more_of_one : (may_fail : Bool) (options : OptionValues) (name : List ℕ) (o : Option Seen) (seen : Seen) (shown new_shown : List ℕ) (passed new_passed : List Failure) →
    AreOfOne may_fail passed → IfPassed o (λ f. IsOfOne f × UnreadableIf may_fail f) → o ≡ Some seen → IsAppended options name seen shown passed new_shown new_passed → AreOfOne may_fail new_passed
more_of_one may_fail options name o (Sketch s) shown new_shown passed new_passed all one is put = subst (AreOfOne may_fail) (sym put.1) all
more_of_one may_fail options name o (Passed f) shown new_shown passed new_passed all one is put =
    let kind = subst (λ next. IfPassed next (λ f. IsOfOne f × UnreadableIf may_fail f)) is one in
    subst (AreOfOne may_fail) (sym put.1) (one_more may_fail passed f all kind.0 kind.1)

module _ (options : OptionValues) where
  -- ---- under the names of files

  -- the lines so far, followed by those of the images that are left, are all lines, and so are the failures
  abbrev pub FollowsByName : (all names : List (List ℕ)) (shown : List ℕ) (passed : List Failure) (now : Option (List (List ℕ))) (left : List (List ℕ)) → Type 0
  FollowsByName all names shown passed None left = ⊥
  FollowsByName all names shown passed (Some images) left =
      (rest : List ℕ) (more : List Failure) → AreShownByName options left images rest more → AreShownByName options names all (shown ++ rest) (passed ++ more)

  -- .. if each failure is one of bytes
  abbrev pub ShowsByName : (old : Option (List (List ℕ))) (names : List (List ℕ)) (shown : List ℕ) (passed : List Failure) (now : Option (List (List ℕ))) (left : List (List ℕ)) → Type 0
  ShowsByName None names shown passed now left = Unit {0}
  ShowsByName (Some all) names shown passed now left = list_all is_fault passed ≡ true → FollowsByName all names shown passed now left

  pub begins_by_name : (old : Option (List (List ℕ))) (names : List (List ℕ)) (shown : List ℕ) (passed : List Failure) → shown ≡ [] → passed ≡ [] → ShowsByName old names shown passed old names
  begins_by_name None names shown passed no_line no_failure = tt
  begins_by_name (Some all) names shown passed no_line no_failure =
      subst (λ (l : List ℕ). ShowsByName (Some all) names l passed (Some all) names) (sym no_line)
      (subst (λ (l : List Failure). ShowsByName (Some all) names [] l (Some all) names) (sym no_failure) (λ faults rest more is. is))

  shown_by_name : (all names : List (List ℕ)) (shown : List ℕ) (passed : List Failure) (images : List (List ℕ)) (name : List ℕ) (others : List (List ℕ)) (s : Compact ℕ) (new : Option (List (List ℕ))) →
      FollowsByName all names shown passed (Some images) (name ∷ others) → ShowsFirst images s new → FollowsByName all names (shown ++ shown_text options (display_name name) s) passed new others
  shown_by_name all names shown passed images name others s new so_far first =
      let line = shown_text options (display_name name) s in
      subst (λ (o : Option (List (List ℕ))). FollowsByName all names (shown ++ line) passed o others) (sym first.leaves) (λ rest more is.
      subst (λ (l : List ℕ). AreShownByName options names all l (passed ++ more)) (sym (append_assoc shown line rest))
      (so_far (line ++ rest) more (subst (λ (l : List (List ℕ)). AreShownByName options (name ∷ others) l (line ++ rest) more) (sym first.parted) (inl (s, rest, first.is_image, refl, is)))))

  passed_by_name : (all names : List (List ℕ)) (shown : List ℕ) (passed : List Failure) (images : List (List ℕ)) (name : List ℕ) (others : List (List ℕ)) (f : Failure) (new : Option (List (List ℕ))) →
      FollowsByName all names shown passed (Some images) (name ∷ others) → PassesFirst images new → NamesFile (display_name name) f → FollowsByName all names shown (passed ++ f ∷ []) new others
  passed_by_name all names shown passed images name others f new so_far first named =
      subst (λ (o : Option (List (List ℕ))). FollowsByName all names shown (passed ++ f ∷ []) o others) (sym first.leaves) (λ rest more is.
      subst (AreShownByName options names all (shown ++ rest)) (sym (append_assoc passed (f ∷ []) more))
      (so_far rest (f ∷ more) (subst (λ (l : List (List ℕ)). AreShownByName options (name ∷ others) l rest (f ∷ more)) (sym first.parted) (inr (f, more, first.is_none, named, refl, is)))))

  follows_by_name : (all names : List (List ℕ)) (shown : List ℕ) (passed : List Failure) (now : Option (List (List ℕ))) (name : List ℕ) (others : List (List ℕ)) (seen : Seen) (new : Option (List (List ℕ))) (new_shown : List ℕ) (new_passed : List Failure) →
      ShowsByName (Some all) names shown passed now (name ∷ others) → SeesNext now new (Some seen) → IfPassed (Some seen) (NamesFile (display_name name)) → IsAppended options (display_name name) seen shown passed new_shown new_passed →
      list_all is_fault new_passed ≡ true → FollowsByName all names new_shown new_passed new others
  follows_by_name all names shown passed None name others (Sketch s) new new_shown new_passed so_far sees named put faults =
      absurd (so_far (subst (λ l. list_all is_fault l ≡ true) put.1 faults))
  follows_by_name all names shown passed None name others (Passed f) new new_shown new_passed so_far sees named put faults =
      absurd (so_far (all_faults passed f (subst (λ l. list_all is_fault l ≡ true) put.1 faults)).0)
  follows_by_name all names shown passed (Some images) name others (Sketch s) new new_shown new_passed so_far sees named put faults =
      subst (λ (l : List ℕ). FollowsByName all names l new_passed new others) (sym put.0)
      (subst (λ (l : List Failure). FollowsByName all names (shown ++ shown_text options (display_name name) s) l new others) (sym put.1)
      (shown_by_name all names shown passed images name others s new (so_far (subst (λ l. list_all is_fault l ≡ true) put.1 faults)) sees))
  follows_by_name all names shown passed (Some images) name others (Passed f) new new_shown new_passed so_far sees named put faults =
      let both = all_faults passed f (subst (λ l. list_all is_fault l ≡ true) put.1 faults) in
      subst (λ (l : List ℕ). FollowsByName all names l new_passed new others) (sym put.0)
      (subst (λ (l : List Failure). FollowsByName all names shown l new others) (sym put.1)
      (passed_by_name all names shown passed images name others f new (so_far both.0) (sees both.1) named))

  pub more_by_name : (old : Option (List (List ℕ))) (names : List (List ℕ)) (shown : List ℕ) (passed : List Failure) (now : Option (List (List ℕ))) (left : List (List ℕ)) (name : List ℕ) (others : List (List ℕ)) (o : Option Seen) (seen : Seen) (new : Option (List (List ℕ))) (new_shown : List ℕ) (new_passed : List Failure) →
      ShowsByName old names shown passed now left → left ≡ name ∷ others → SeesNext now new o → o ≡ Some seen → IfPassed o (NamesFile (display_name name)) → IsAppended options (display_name name) seen shown passed new_shown new_passed →
      ShowsByName old names new_shown new_passed new others
  more_by_name None names shown passed now left name others o seen new new_shown new_passed so_far parted sees is named put = tt
  more_by_name (Some all) names shown passed now left name others o seen new new_shown new_passed so_far parted sees is named put =
      follows_by_name all names shown passed now name others seen new new_shown new_passed (subst (ShowsByName (Some all) names shown passed now) parted so_far)
      (subst (SeesNext now new) is sees) (subst (λ next. IfPassed next (NamesFile (display_name name))) is named) put

  none_left : (left : List (List ℕ)) → AreShownByName options left [] [] []
  none_left [] = (refl, refl)
  none_left (name ∷ left) = (refl, refl)

  ends_with : (all names : List (List ℕ)) (shown : List ℕ) (passed : List Failure) → AreShownByName options names all (shown ++ []) (passed ++ []) → AreShownByName options names all shown passed
  ends_with all names shown passed is =
      subst (λ (l : List ℕ). AreShownByName options names all l passed) (append-nil shown) (subst (AreShownByName options names all (shown ++ [])) (append-nil passed) is)

  all_read : (all names : List (List ℕ)) (shown : List ℕ) (passed : List Failure) (now : Option (List (List ℕ))) (left : List (List ℕ)) (new : Option (List (List ℕ))) →
      FollowsByName all names shown passed now left → SeesNext now new None → AreShownByName options names all shown passed
  all_read all names shown passed None left new so_far sees = absurd so_far
  all_read all names shown passed (Some images) left new so_far sees =
      ends_with all names shown passed (so_far [] [] (subst (λ (l : List (List ℕ)). AreShownByName options left l [] []) (sym sees) (none_left left)))

  pub all_by_name : (old : Option (List (List ℕ))) (names : List (List ℕ)) (shown : List ℕ) (passed : List Failure) (now : Option (List (List ℕ))) (left : List (List ℕ)) (o : Option Seen) (new : Option (List (List ℕ))) →
      ShowsByName old names shown passed now left → SeesNext now new o → o ≡ None → IfSome old (λ all. list_all is_fault passed ≡ true → AreShownByName options names all shown passed)
  all_by_name None names shown passed now left o new so_far sees is = tt
  all_by_name (Some all) names shown passed now left o new so_far sees is = λ faults.
      all_read all names shown passed now left new (so_far faults) (subst (SeesNext now new) is sees)

  all_named : (all names : List (List ℕ)) (shown : List ℕ) (passed : List Failure) (now : Option (List (List ℕ))) → FollowsByName all names shown passed now [] → AreShownByName options names all shown passed
  all_named all names shown passed None so_far = absurd so_far
  all_named all names shown passed (Some images) so_far = ends_with all names shown passed (so_far [] [] (refl, refl))

  pub named_by_name : (old : Option (List (List ℕ))) (names : List (List ℕ)) (shown : List ℕ) (passed : List Failure) (now : Option (List (List ℕ))) (left : List (List ℕ)) →
      ShowsByName old names shown passed now left → left ≡ [] → IfSome old (λ all. list_all is_fault passed ≡ true → AreShownByName options names all shown passed)
  named_by_name None names shown passed now left so_far none = tt
  named_by_name (Some all) names shown passed now left so_far none = λ faults. all_named all names shown passed now (subst (FollowsByName all names shown passed now) none (so_far faults))

  -- ---- under any names

  abbrev pub Follows : (all : List (List ℕ)) (shown : List ℕ) (passed : List Failure) (now : Option (List (List ℕ))) → Type 0
  Follows all shown passed None = ⊥
  Follows all shown passed (Some images) = (rest : List ℕ) (more : List Failure) → AreShown options images rest more → AreShown options all (shown ++ rest) (passed ++ more)

  abbrev pub Shows : (old : Option (List (List ℕ))) (shown : List ℕ) (passed : List Failure) (now : Option (List (List ℕ))) → Type 0
  Shows None shown passed now = Unit {0}
  Shows (Some all) shown passed now = list_all is_fault passed ≡ true → Follows all shown passed now

  pub begins : (old : Option (List (List ℕ))) (shown : List ℕ) (passed : List Failure) → shown ≡ [] → passed ≡ [] → Shows old shown passed old
  begins None shown passed no_line no_failure = tt
  begins (Some all) shown passed no_line no_failure =
      subst (λ (l : List ℕ). Shows (Some all) l passed (Some all)) (sym no_line)
      (subst (λ (l : List Failure). Shows (Some all) [] l (Some all)) (sym no_failure) (λ faults rest more is. is))

  shown_next : (all : List (List ℕ)) (shown : List ℕ) (passed : List Failure) (images : List (List ℕ)) (name : List ℕ) (s : Compact ℕ) (new : Option (List (List ℕ))) →
      Follows all shown passed (Some images) → ShowsFirst images s new → Follows all (shown ++ shown_text options name s) passed new
  shown_next all shown passed images name s new so_far first =
      let line = shown_text options name s in
      subst (Follows all (shown ++ line) passed) (sym first.leaves) (λ rest more is.
      subst (λ (l : List ℕ). AreShown options all l (passed ++ more)) (sym (append_assoc shown line rest))
      (so_far (line ++ rest) more (subst (λ (l : List (List ℕ)). AreShown options l (line ++ rest) more) (sym first.parted) (inl (name, s, rest, first.is_image, refl, is)))))

  passed_next : (all : List (List ℕ)) (shown : List ℕ) (passed : List Failure) (images : List (List ℕ)) (f : Failure) (new : Option (List (List ℕ))) →
      Follows all shown passed (Some images) → PassesFirst images new → Follows all shown (passed ++ f ∷ []) new
  passed_next all shown passed images f new so_far first =
      subst (Follows all shown (passed ++ f ∷ [])) (sym first.leaves) (λ rest more is.
      subst (AreShown options all (shown ++ rest)) (sym (append_assoc passed (f ∷ []) more))
      (so_far rest (f ∷ more) (subst (λ (l : List (List ℕ)). AreShown options l rest (f ∷ more)) (sym first.parted) (inr (f, more, first.is_none, refl, is)))))

  follows : (all : List (List ℕ)) (name shown : List ℕ) (passed : List Failure) (now : Option (List (List ℕ))) (seen : Seen) (new : Option (List (List ℕ))) (new_shown : List ℕ) (new_passed : List Failure) →
      Shows (Some all) shown passed now → SeesNext now new (Some seen) → IsAppended options name seen shown passed new_shown new_passed →
      list_all is_fault new_passed ≡ true → Follows all new_shown new_passed new
  follows all name shown passed None (Sketch s) new new_shown new_passed so_far sees put faults =
      absurd (so_far (subst (λ l. list_all is_fault l ≡ true) put.1 faults))
  follows all name shown passed None (Passed f) new new_shown new_passed so_far sees put faults =
      absurd (so_far (all_faults passed f (subst (λ l. list_all is_fault l ≡ true) put.1 faults)).0)
  follows all name shown passed (Some images) (Sketch s) new new_shown new_passed so_far sees put faults =
      subst (λ (l : List ℕ). Follows all l new_passed new) (sym put.0)
      (subst (λ (l : List Failure). Follows all (shown ++ shown_text options name s) l new) (sym put.1)
      (shown_next all shown passed images name s new (so_far (subst (λ l. list_all is_fault l ≡ true) put.1 faults)) sees))
  follows all name shown passed (Some images) (Passed f) new new_shown new_passed so_far sees put faults =
      let both = all_faults passed f (subst (λ l. list_all is_fault l ≡ true) put.1 faults) in
      subst (λ (l : List ℕ). Follows all l new_passed new) (sym put.0)
      (subst (λ (l : List Failure). Follows all shown l new) (sym put.1)
      (passed_next all shown passed images f new (so_far both.0) (sees both.1)))

  pub more_shown : (old : Option (List (List ℕ))) (name shown : List ℕ) (passed : List Failure) (now : Option (List (List ℕ))) (o : Option Seen) (seen : Seen) (new : Option (List (List ℕ))) (new_shown : List ℕ) (new_passed : List Failure) →
      Shows old shown passed now → SeesNext now new o → o ≡ Some seen → IsAppended options name seen shown passed new_shown new_passed → Shows old new_shown new_passed new
  more_shown None name shown passed now o seen new new_shown new_passed so_far sees is put = tt
  more_shown (Some all) name shown passed now o seen new new_shown new_passed so_far sees is put =
      follows all name shown passed now seen new new_shown new_passed so_far (subst (SeesNext now new) is sees) put

  all_followed : (all : List (List ℕ)) (shown : List ℕ) (passed : List Failure) (now new : Option (List (List ℕ))) → Follows all shown passed now → SeesNext now new None → AreShown options all shown passed
  all_followed all shown passed None new so_far sees = absurd so_far
  all_followed all shown passed (Some images) new so_far sees =
      subst (λ (l : List ℕ). AreShown options all l passed) (append-nil shown) (subst (AreShown options all (shown ++ [])) (append-nil passed)
      (so_far [] [] (subst (λ (l : List (List ℕ)). AreShown options l [] []) (sym sees) (refl, refl))))

  pub all_shown : (old : Option (List (List ℕ))) (shown : List ℕ) (passed : List Failure) (now : Option (List (List ℕ))) (o : Option Seen) (new : Option (List (List ℕ))) →
      Shows old shown passed now → SeesNext now new o → o ≡ None → IfSome old (λ all. list_all is_fault passed ≡ true → AreShown options all shown passed)
  all_shown None shown passed now o new so_far sees is = tt
  all_shown (Some all) shown passed now o new so_far sees is = λ faults. all_followed all shown passed now new (so_far faults) (subst (SeesNext now new) is sees)

pub none_seen : (o : Option Seen) → ((s : Seen) → o ≡ Some s → ⊥) → o ≡ None
none_seen None none = refl
none_seen (Some s) none = absurd (none s refl)

-- the next name is that of the next file
pub next_named : {A : Type 0} (current : List ℕ) (left : List (String A)) (new_current : List ℕ) (new_left : List (String A)) (file : String A) (others : List (String A)) →
    NotesNext current left new_current new_left → left ≡ file ∷ others → (new_current ≡ string_bytes file) × (new_left ≡ others)
next_named current left new_current new_left file others noted parted = subst (λ l. NotesNext current l new_current new_left) parted noted

some_is : {X : Type 0} (x y : X) → Some x ≡ Some y → x ≡ y
some_is x y is = cc

-- the next image was the first that was left, and is of no seed
pub passes_first : {V : Type 0} (items : V → List ℕ) (old new : Option (List (List ℕ))) (o : Option V) (v : V) (e : ErrorKind) (f : Failure) → GivesNext (λ w. Some (items w)) old new o → o ≡ Some v →
    IsRefused e (IsOfSomeSeed (items v)) → (e ≡ OutOfMemory → f ≡ Memory) → PassesNext old new f
passes_first items None new o v e f gives is refused memory = tt
passes_first items (Some images) new o v e f gives is (inl out) memory = λ fault. let wrong : is_fault Memory ≡ true = subst (λ g. is_fault g ≡ true) (memory out) fault in absurd (cc)
passes_first items (Some images) new o v e f gives is (inr none) memory = λ fault.
    let first = subst (GivesNext (λ w. Some (items w)) (Some images) new) is gives in
    let same : items v ≡ first.text = some_is (items v) first.text first.has in
    record {
      image = first.text;
      images_after = first.texts_left;
      parted = first.parted;
      is_none = subst IsOfNoSeed same none.1;
      leaves = first.leaves;
    }
