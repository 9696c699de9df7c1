-- Texts that are sketched apart, and united.
use Rattle.std.proofs.Common.{◌≡◌, ℕ, ◌^◌, ◌≤◌, Bool, true, false, cond, eqb, is_some, List, [], ◌∷◌, ◌++◌, map, Some, None, inl, inr, refl, sym, subst, ap, ◌∙◌, arith, append_assoc, append-nil}
use Rattle.std.proofs.lemmas.Bool.Decides.{nat_tests}
use Rattle.std.proofs.lemmas.List.{map-append}
use Rattle.std.proofs.Math.Pow.{pow_mono}
use Rattle.std.specs.Prelude.{⊤}
use Rattle.std.specs.List.{onto_first, concat}
use Rattle.core_laws.specs.Maps.{entry_at}
use Rattle.core_laws.specs.Entries.{hash_key, first_hash, is_carried}
use Rattle.core_laws.specs.Leaf.{kmin}
use Rattle.core_laws.specs.Operators.{joined_all, nonempties, unite_nonempty}
use Rattle.core_laws.specs.Samples.{AreSamples, AreLawful}
use Rattle.core_laws.specs.Values.{Sketch, NonEmpty}
use Rattle.core_laws.specs.declared.TheConstants.{MAX_THETA}
use Rattle.core_laws.proofs.cuts.WithinWholeMaps.{found_key, within-cut}
use Rattle.core_laws.proofs.operators.Samples.{union_lawful}
use Rattle.core_streams.specs.WholeMaps.{IsPart}
use Rattle.core_streams.proofs.HashSets.{at-set_of, ascending-set_of, carried-set_of, none-set_of}
use Rattle.core_streams.proofs.WholeMaps.{fewer-part}
use Rattle.theta_sketches.specs.Streams.{has, set_of}
use Rattle.theta_sketches.proofs.Streams.{sets_joined, same_sets}
use Rattle.keys_lines.specs.Lines.{lines_of, lines_of_all, IsWhole, nothing, ended, AreWhole}
use Rattle.keys_lines.specs.Keys.{line_hash}
use Rattle.keys_lines.specs.declared.key.Hashing.{Hashing}
use Rattle.keys_sketches.specs.Keys.{line_hashes, key_set, value_of_lines, IsAmong, HaveSameLines}
use Rattle.keys_sketches.specs.Shards.{united, AreValuesOfTexts}

abbrev pub is_nil : {T : Type 0} → List T → Bool
is_nil [] = true
is_nil (x ∷ xs) = false

pub nil_is : {T : Type 0} (xs : List T) → is_nil xs ≡ true → xs ≡ []
nil_is [] e = refl
nil_is (x ∷ xs) e = absurd (cc)

-- two tests that imply one another
same_tests : (a b : Bool) → (a ≡ true → b ≡ true) → (b ≡ true → a ≡ true) → a ≡ b
same_tests true b ab ba = sym (ab refl)
same_tests false true ab ba = ba refl
same_tests false false ab ba = refl

-- a hash that is found
found_some : (hashes : List ℕ) (q : ℕ) → has hashes q ≡ true → entry_at hash_key hashes q ≡ Some q
found_some hashes q found =
    (elim (entry_at hash_key hashes q) as (λ o. entry_at hash_key hashes q ≡ o → is_some o ≡ true → o ≡ Some q) [
      | Some x ↦ λ e f. ap Some (found_key hash_key hashes q x e)
      | None ↦ λ e f. absurd (cc)
    ]) refl found

module _ (hashing : Hashing) where
  -- ---- lines of texts that follow one another

  onto_first-append : (b : ℕ) (ls ms : List (List ℕ)) → (ls ≡ [] → ⊥) → onto_first b (ls ++ ms) ≡ onto_first b ls ++ ms
  onto_first-append b [] ms some = absurd (some refl)
  onto_first-append b (l ∷ ls) ms some = refl

  not_nil_step : (t : Bool) (b : ℕ) (ls : List (List ℕ)) → cond t ([] ∷ ls) (onto_first b ls) ≡ [] → ⊥
  not_nil_step true b ls e = cc
  not_nil_step false b [] e = cc
  not_nil_step false b (l ∷ ls) e = cc

  some_line : (text : List ℕ) → lines_of (text ++ 10 ∷ []) ≡ [] → ⊥
  some_line [] e = cc
  some_line (b ∷ text) e = not_nil_step (eqb b 10) b (lines_of (text ++ 10 ∷ [])) e

  ended-append : (text more : List ℕ) → lines_of (text ++ 10 ∷ more) ≡ lines_of (text ++ 10 ∷ []) ++ lines_of more
  ended-append [] more = refl
  ended-append (b ∷ text) more =
      elim (eqb b 10) as (λ t. cond t ([] ∷ lines_of (text ++ 10 ∷ more)) (onto_first b (lines_of (text ++ 10 ∷ more))) ≡ cond t ([] ∷ lines_of (text ++ 10 ∷ [])) (onto_first b (lines_of (text ++ 10 ∷ []))) ++ lines_of more) [
        | true ↦ ap (λ ls. [] ∷ ls) (ended-append text more)
        | false ↦ ap (onto_first b) (ended-append text more) ∙ onto_first-append b (lines_of (text ++ 10 ∷ [])) (lines_of more) (some_line text)
      ]

  whole-append : (text more : List ℕ) → IsWhole text → lines_of (text ++ more) ≡ lines_of text ++ lines_of more
  whole-append _ more nothing = refl
  whole-append _ more (ended text) = ap lines_of (append_assoc text (10 ∷ []) more) ∙ ended-append text more

  -- the lines of all parts
  abbrev pub all_lines : List (List (List ℕ)) → List (List ℕ)
  all_lines [] = []
  all_lines (part ∷ parts) = part ++ all_lines parts

  pub lines_concat : (texts : List (List ℕ)) → AreWhole texts → lines_of (concat texts) ≡ all_lines (map lines_of texts)
  lines_concat [] whole = refl
  lines_concat (text ∷ []) whole = ap lines_of (append-nil text) ∙ sym (append-nil (lines_of text))
  lines_concat (text ∷ next ∷ texts) whole = whole-append text (concat (next ∷ texts)) whole.0 ∙ ap (λ ls. lines_of text ++ ls) (lines_concat (next ∷ texts) whole.1)

  -- ---- the set of the hashes of lines

  -- the hash of a line, if a sketch may retain it, is there
  has_line : (lines : List (List ℕ)) (line : List ℕ) → IsAmong line lines → has (line_hashes hashing lines) (line_hash hashing line) ≡ true
  has_line [] line among = absurd among
  has_line (other ∷ lines) line (inl same) =
      let itself : eqb (line_hash hashing other) (line_hash hashing line) ≡ true = rw same (grind (arith, nat_tests)) in
      ap (λ b. is_some (cond b (Some (line_hash hashing other)) (entry_at hash_key (line_hashes hashing lines) (line_hash hashing line)))) itself
  has_line (other ∷ lines) line (inr later) =
      elim (eqb (line_hash hashing other) (line_hash hashing line)) as (λ b. is_some (cond b (Some (line_hash hashing other)) (entry_at hash_key (line_hashes hashing lines) (line_hash hashing line))) ≡ true) [
        | true ↦ refl
        | false ↦ has_line lines line later
      ]

  pub is_found : (lines : List (List ℕ)) (line : List ℕ) → IsAmong line lines → is_carried (line_hash hashing line) ≡ true → entry_at hash_key (key_set hashing lines) (line_hash hashing line) ≡ Some (line_hash hashing line)
  is_found lines line among carried =
      at-set_of (line_hashes hashing lines) (line_hash hashing line)
      ∙ ap (λ b. cond b (entry_at hash_key (line_hashes hashing lines) (line_hash hashing line)) None) carried
      ∙ found_some (line_hashes hashing lines) (line_hash hashing line) (has_line lines line among)

  -- a hash that is there is that of a line
  line_of : (lines : List (List ℕ)) (q : ℕ) → has (line_hashes hashing lines) q ≡ true → (line : List ℕ) × IsAmong line lines × (line_hash hashing line ≡ q)
  line_of [] q found = absurd (cc)
  line_of (other ∷ lines) q found =
      (elim (eqb (line_hash hashing other) q) as (λ b. eqb (line_hash hashing other) q ≡ b → is_some (cond b (Some (line_hash hashing other)) (entry_at hash_key (line_hashes hashing lines) q)) ≡ true → (line : List ℕ) × IsAmong line (other ∷ lines) × (line_hash hashing line ≡ q)) [
        | true ↦ λ e f. let same : line_hash hashing other ≡ q = grind (arith, nat_tests) in (other, inl refl, same)
        | false ↦ λ e f. let later = line_of lines q f in (later.0, inr later.1, later.2)
      ]) refl found

  has_too : (xs ys : List (List ℕ)) → ((line : List ℕ) → IsAmong line xs → IsAmong line ys) → (q : ℕ) → has (line_hashes hashing xs) q ≡ true → has (line_hashes hashing ys) q ≡ true
  has_too xs ys each q found = let one = line_of xs q found in subst (λ (h : ℕ). has (line_hashes hashing ys) h ≡ true) one.2 (has_line ys one.0 (each one.0 one.1))

  -- the value of the same lines, in any order
  pub same_value : (lg_k : ℕ) (xs ys : List (List ℕ)) → HaveSameLines xs ys → value_of_lines hashing lg_k xs ≡ value_of_lines hashing lg_k ys
  same_value lg_k [] [] same = refl
  same_value lg_k [] (y ∷ ys) same = absurd (same.1 y (inl refl))
  same_value lg_k (x ∷ xs) [] same = absurd (same.0 x (inl refl))
  same_value lg_k (x ∷ xs) (y ∷ ys) same =
      ap (λ keys. NonEmpty (kmin (2 ^ lg_k) keys MAX_THETA)) (same_sets (line_hashes hashing (x ∷ xs)) (line_hashes hashing (y ∷ ys)) (λ q. same_tests _ _ (has_too (x ∷ xs) (y ∷ ys) same.0 q) (has_too (y ∷ ys) (x ∷ xs) same.1 q)))

  -- the sets of parts, joined
  more_parts : (parts : List (List (List ℕ))) (before : List (List ℕ)) → joined_all hash_key first_hash (key_set hashing before) (map (key_set hashing) parts) ≡ key_set hashing (before ++ all_lines parts)
  more_parts [] before = ap (key_set hashing) (sym (append-nil before))
  more_parts (part ∷ parts) before =
      ap (λ w. joined_all hash_key first_hash w (map (key_set hashing) parts)) (sets_joined (line_hashes hashing before) (line_hashes hashing part) ∙ ap set_of (sym (map-append (line_hash hashing) before part)))
      ∙ more_parts parts (before ++ part)
      ∙ ap (key_set hashing) (append_assoc before part (all_lines parts))

  pub parts_joined : (parts : List (List (List ℕ))) → joined_all hash_key first_hash [] (map (key_set hashing) parts) ≡ key_set hashing (all_lines parts)
  parts_joined parts = ap (λ w. joined_all hash_key first_hash w (map (key_set hashing) parts)) (sym none-set_of) ∙ more_parts parts []

  -- ---- values of lines

  -- the value of lines is a part of their set
  pub part_of : (lg_k : ℕ) (lines : List (List ℕ)) → IsPart hash_key (2 ^ lg_k) MAX_THETA (value_of_lines hashing lg_k lines) (key_set hashing lines)
  part_of lg_k [] = record { sample = record { ascending = ascending-set_of []; carried = carried-set_of []; all_below = none-set_of }; lawful = tt }
  part_of lg_k (line ∷ lines) =
      let hashes = line_hashes hashing (line ∷ lines) in
      let within = within-cut hash_key (2 ^ lg_k) MAX_THETA MAX_THETA (set_of hashes) (ascending-set_of hashes) (inl refl) in
      record { sample = record { ascending = ascending-set_of hashes; carried = carried-set_of hashes; all_below = within.entries_are }; lawful = within.lawful }

  -- ---- the union of values of parts

  module _ (lg_k : ℕ) where
    -- each value is that of its part, with at least 2^lg_k nominal entries
    abbrev pub AreValues : (parts : List (List (List ℕ))) → List (Sketch ℕ) → Type 0
    AreValues [] [] = ⊤
    AreValues (part ∷ parts) (value ∷ values) = ((own : ℕ) × (lg_k ≤ own) × (value ≡ value_of_lines hashing own part)) × AreValues parts values
    AreValues [] (value ∷ values) = ⊥
    AreValues (part ∷ parts) [] = ⊥

    are_parts : (parts : List (List (List ℕ))) (values : List (Sketch ℕ)) → AreValues parts values → AreSamples hash_key values (map (key_set hashing) parts) × AreLawful hash_key (2 ^ lg_k) MAX_THETA values (map (key_set hashing) parts)
    are_parts [] [] are = (tt, tt)
    are_parts [] (value ∷ values) are = absurd are
    are_parts (part ∷ parts) [] are = absurd are
    are_parts (part ∷ parts) (value ∷ values) are =
        let own : IsPart hash_key (2 ^ are.0.0) MAX_THETA value (key_set hashing part) = subst (λ v. IsPart hash_key (2 ^ are.0.0) MAX_THETA v (key_set hashing part)) (sym are.0.2) (part_of are.0.0 part) in
        let fewer = fewer-part hash_key (2 ^ lg_k) (2 ^ are.0.0) MAX_THETA value (key_set hashing part) (pow_mono {i = lg_k} {j = are.0.0} are.0.1) own in
        let rest = are_parts parts values are.1 in
        ((fewer.sample, rest.0), (fewer.lawful, rest.1))

    -- values are Empty exactly if there are no lines
    first_none : (own : ℕ) (part : List (List ℕ)) (values : List (Sketch ℕ)) (rest : List (List ℕ)) → is_nil (nonempties values) ≡ is_nil rest → is_nil (nonempties (value_of_lines hashing own part ∷ values)) ≡ is_nil (part ++ rest)
    first_none own [] values rest same = same
    first_none own (line ∷ lines) values rest same = refl

    none_same : (parts : List (List (List ℕ))) (values : List (Sketch ℕ)) → AreValues parts values → is_nil (nonempties values) ≡ is_nil (all_lines parts)
    none_same [] [] are = refl
    none_same [] (value ∷ values) are = absurd are
    none_same (part ∷ parts) [] are = absurd are
    none_same (part ∷ parts) (value ∷ values) are = ap (λ v. is_nil (nonempties (v ∷ values))) are.0.2 ∙ first_none are.0.0 part values (all_lines parts) (none_same parts values are.1)

    -- the union of the values of parts is the value of all their lines
    pub united_values : (parts : List (List (List ℕ))) (values : List (Sketch ℕ)) → AreValues parts values → united lg_k values ≡ value_of_lines hashing lg_k (all_lines parts)
    united_values parts values are = (elim (all_lines parts) as (λ all. all_lines parts ≡ all → united lg_k values ≡ value_of_lines hashing lg_k all) [
      | [] ↦ λ e. ap (unite_nonempty hash_key first_hash (2 ^ lg_k) MAX_THETA) (nil_is (nonempties values) (none_same parts values are ∙ ap is_nil e))
      | line ∷ lines ↦ λ e.
          let some : nonempties values ≡ [] → ⊥ = λ none. (let wrong : true ≡ false = ap is_nil (sym none) ∙ none_same parts values are ∙ ap is_nil e in cc) in
          let all = are_parts parts values are in
          union_lawful hash_key first_hash (λ x y same. same) (2 ^ lg_k) MAX_THETA MAX_THETA values (map (key_set hashing) parts) (omega arith) all.0 all.1 some
          ∙ ap (λ keys. NonEmpty (kmin (2 ^ lg_k) keys MAX_THETA)) (parts_joined parts ∙ ap (key_set hashing) e)
    ]) refl

    by_parts : (texts : List (List ℕ)) (values : List (Sketch ℕ)) → AreValuesOfTexts hashing lg_k texts values → AreValues (map lines_of texts) values
    by_parts [] [] are = tt
    by_parts [] (value ∷ values) are = absurd are
    by_parts (text ∷ texts) [] are = absurd are
    by_parts (text ∷ texts) (value ∷ values) are = (are.0, by_parts texts values are.1)

  pub united_texts : (lg_k : ℕ) (texts : List (List ℕ)) (values : List (Sketch ℕ)) → AreWhole texts → AreValuesOfTexts hashing lg_k texts values → united lg_k values ≡ value_of_lines hashing lg_k (lines_of (concat texts))
  united_texts lg_k texts values whole are =
      united_values lg_k (map lines_of texts) values (by_parts lg_k texts values are) ∙ ap (value_of_lines hashing lg_k) (sym (lines_concat texts whole))

  -- ---- texts of which each is cut into lines by itself

  pub lines_apart : (texts : List (List ℕ)) → all_lines (map lines_of texts) ≡ lines_of_all texts
  lines_apart [] = refl
  lines_apart (text ∷ texts) = ap (λ ls. lines_of text ++ ls) (lines_apart texts)

  pub united_lines_apart : (lg_k : ℕ) (texts : List (List ℕ)) (values : List (Sketch ℕ)) → AreValuesOfTexts hashing lg_k texts values → united lg_k values ≡ value_of_lines hashing lg_k (lines_of_all texts)
  united_lines_apart lg_k texts values are = united_values lg_k (map lines_of texts) values (by_parts lg_k texts values are) ∙ ap (value_of_lines hashing lg_k) (lines_apart texts)
