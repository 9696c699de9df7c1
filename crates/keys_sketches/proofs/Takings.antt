-- Pieces of a text, inserted one after another.
use Rattle.std.proofs.Common.{◌≡◌, ℕ, suc, ◌^◌, Bool, true, false, List, [], ◌∷◌, ◌++◌, length, map, take, drop, refl, sym, ap, ◌∙◌, arith, append_assoc, append-nil}
use Rattle.std.specs.Prelude.{◌&&◌, ◌==◌}
use Rattle.std.proofs.lemmas.Bool.Decides.{nat_tests}
use Rattle.std.proofs.lemmas.List.{take-map, take-append-drop}
use Rattle.std.proofs.Math.Seq.{take-append_seam}
use Rattle.core_laws.specs.Entries.{hash_key, hash_step}
use Rattle.core_table.specs.HashTable.{MapTable, after_hashes}
use Rattle.core_laws.specs.Insertion.{after_upsert}
use Rattle.core_state.specs.Updatable.{Updatable, StopsUpdates}
use Rattle.keys_lines.specs.Lines.{lines_of, lines_after, Lacks}
use Rattle.keys_lines.specs.Keys.{line_hash}
use Rattle.keys_sketches.specs.Keys.{LineState, line_state, with_line, with_lines}
use Rattle.keys_lines.specs.Hashed.{AreHashesOfLines}
use Rattle.keys_sketches.specs.Taking.{Takes, Leaves, InsertsFirst}
use Rattle.keys_lines.proofs.Texts.{lines_after-line, lines_after-lacking, lines_whole}
use Rattle.keys_lines.specs.declared.key.Hashing.{Hashing}

and_true : (b : Bool) → (b && (0 == 0)) ≡ b
and_true true = refl
and_true false = refl

and_false : (b : Bool) (n : ℕ) → (b && (suc n == 0)) ≡ false
and_false true n = grind (arith, nat_tests)
and_false false n = refl

module _ (hashing : Hashing) where
  -- one line is inserted
  pub state_after_line : (s t : Updatable ℕ) (hash : ℕ) (line : List ℕ) → hash ≡ line_hash hashing line → t.map ≡ record s.map { kept = after_upsert hash_key (2 ^ s.map.lg_nom) hash (hash_step hash) s.map.kept } → t.empty ≡ false →
      line_state t ≡ with_line hashing (line_state s) line
  state_after_line s t hash line is map_is empty_is =
      let made : ℕ → MapTable ℕ = λ h. record s.map { kept = after_upsert hash_key (2 ^ s.map.lg_nom) h (hash_step h) s.map.kept } in
      let whole : t.map ≡ made (line_hash hashing line) = map_is ∙ ap made is in
      λ i. record { map = whole i; empty = empty_is i }

  -- lines are inserted by their hashes
  pub with_lines-hashes : (lines : List (List ℕ)) (s : LineState) →
      with_lines hashing s lines ≡ record { map = after_hashes (map (line_hash hashing) lines) s.map; empty = s.empty && (length (map (line_hash hashing) lines) == 0) }
  with_lines-hashes [] s = λ i. record { map = s.map; empty = sym (and_true s.empty) i }
  with_lines-hashes (line ∷ lines) s = with_lines-hashes lines (with_line hashing s line) ∙ (λ i. record { map = after_hashes (map (line_hash hashing) (line ∷ lines)) s.map; empty = sym (and_false s.empty (length (map (line_hash hashing) lines))) i })

  pub state_after_lines : (s t : Updatable ℕ) (hashes : List ℕ) (lines : List (List ℕ)) → hashes ≡ map (line_hash hashing) lines → t.map ≡ after_hashes hashes s.map → t.empty ≡ (s.empty && (length hashes == 0)) →
      line_state t ≡ with_lines hashing (line_state s) lines
  state_after_lines s t hashes lines is map_is empty_is =
      let whole : t.map ≡ after_hashes (map (line_hash hashing) lines) s.map = map_is ∙ ap (λ hs. after_hashes hs s.map) is in
      let none : t.empty ≡ (s.empty && (length (map (line_hash hashing) lines) == 0)) = empty_is ∙ ap (λ hs. s.empty && (length hs == 0)) is in
      (λ i. record { map = whole i; empty = none i }) ∙ sym (with_lines-hashes lines (line_state s))

  pub with_lines-append : (lines others : List (List ℕ)) (s : LineState) → with_lines hashing s (lines ++ others) ≡ with_lines hashing (with_lines hashing s lines) others
  with_lines-append [] others s = refl
  with_lines-append (line ∷ lines) others s = with_lines-append lines others (with_line hashing s line)

  -- after more lines less is left
  pub leaves_lines : (a : LineState) (s t : Updatable ℕ) (text rest others hashes : List ℕ) → Leaves hashing a text (line_state s) rest → AreHashesOfLines hashing rest hashes others →
      t.map ≡ after_hashes hashes s.map → t.empty ≡ (s.empty && (length hashes == 0)) → Leaves hashing a text (line_state t) others
  leaves_lines a s t text rest others hashes before are map_is empty_is = (
    before.0 ++ are.0,
    state_after_lines s t hashes are.0 are.1 map_is empty_is ∙ ap (λ u. with_lines hashing u are.0) before.1 ∙ sym (with_lines-append before.0 are.0 a),
    λ more. before.2 more ∙ ap (λ ls. before.0 ++ ls) (are.2 more) ∙ sym (append_assoc before.0 are.0 (lines_after [] (others ++ more))),
  )

  -- the state after the first lines, with what is left
  left_same : (a b : LineState) (text rest more : List ℕ) → Leaves hashing a text b rest → with_lines hashing a (lines_after [] (text ++ more)) ≡ with_lines hashing b (lines_after [] (rest ++ more))
  left_same a b text rest more leaves =
      ap (with_lines hashing a) (leaves.2 more)
      ∙ with_lines-append leaves.0 (lines_after [] (rest ++ more)) a
      ∙ ap (λ s. with_lines hashing s (lines_after [] (rest ++ more))) (sym leaves.1)

  -- updates stopped within the hashes of some lines: exactly the lines before the one at which they stopped are inserted
  pub stops_first : (a : LineState) (s t : Updatable ℕ) (text rest others hashes : List ℕ) → Leaves hashing a text (line_state s) rest → AreHashesOfLines hashing rest hashes others → StopsUpdates hashes s t →
      InsertsFirst hashing a [] text (line_state t)
  stops_first a s t text rest others hashes before are stops =
      let front = stops.0 in
      let count = length front in
      let some = take count are.0 in
      let parted : are.0 ≡ some ++ drop count are.0 = sym (take-append-drop count are.0) in
      let hashed : front ≡ map (line_hash hashing) some =
      sym (take-append_seam front (stops.1 ∷ stops.2)) ∙ ap (take count) (sym stops.3 ∙ are.1) ∙ take-map (line_hash hashing) count are.0 in (
        before.0 ++ some,
        state_after_lines s t front some hashed stops.4.0 stops.4.1 ∙ ap (λ u. with_lines hashing u some) before.1 ∙ sym (with_lines-append before.0 some a),
        λ more. (
          drop count are.0 ++ lines_after [] (others ++ more),
          before.2 more
              ∙ ap (λ ls. before.0 ++ ls) (are.2 more ∙ ap (λ ls. ls ++ lines_after [] (others ++ more)) parted ∙ append_assoc some (drop count are.0) (lines_after [] (others ++ more)))
              ∙ sym (append_assoc before.0 some (drop count are.0 ++ lines_after [] (others ++ more))),
        ),
      )

  -- nothing was inserted
  pub none_first : (a b : LineState) (front piece : List ℕ) → b ≡ a → InsertsFirst hashing a front piece b
  none_first a b front piece same = ([], same, λ more. (lines_after front (piece ++ more), refl))

  -- some first lines behind the first one of a block
  pub first_behind : (a b c : LineState) (front block line others : List ℕ) → block ≡ line ++ 10 ∷ others → Lacks 10 line → b ≡ with_line hashing a (front ++ line) → InsertsFirst hashing b [] others c → InsertsFirst hashing a front block c
  first_behind a b c front block line others is lacks taken stops = (
    (front ++ line) ∷ stops.0,
    stops.1 ∙ ap (λ s. with_lines hashing s stops.0) taken,
    λ more. (
      (stops.2 more).0,
      ap (λ bs. lines_after front (bs ++ more)) is
          ∙ ap (λ bs. lines_after front bs) (append_assoc line (10 ∷ others) more)
          ∙ lines_after-line front line (others ++ more) lacks
          ∙ ap (λ ls. (front ++ line) ∷ ls) (stops.2 more).1,
    ),
  )

  -- a block without an LF
  pub takes_lacking : (a : LineState) (front block : List ℕ) → Lacks 10 block → Takes hashing a front block a (front ++ block)
  takes_lacking a front block lacks = λ more. ap (with_lines hashing a) (lines_after-lacking front block more lacks)

  -- a block with one
  pub takes_block : (a b c : LineState) (front block line others rest : List ℕ) → block ≡ line ++ 10 ∷ others → Lacks 10 line → b ≡ with_line hashing a (front ++ line) → Leaves hashing b others c rest → Lacks 10 rest → Takes hashing a front block c ([] ++ rest)
  takes_block a b c front block line others rest is lacks taken leaves rest_lacks = λ more.
      ap (λ bs. with_lines hashing a (lines_after front (bs ++ more))) is
      ∙ ap (λ bs. with_lines hashing a (lines_after front bs)) (append_assoc line (10 ∷ others) more)
      ∙ ap (with_lines hashing a) (lines_after-line front line (others ++ more) lacks)
      ∙ ap (λ s. with_lines hashing s (lines_after [] (others ++ more))) (sym taken)
      ∙ left_same b c others rest more leaves
      ∙ ap (with_lines hashing c) (lines_after-lacking [] rest more rest_lacks)

  -- two pieces in turn
  pub takes_both : (a b c : LineState) (front piece mid block after : List ℕ) → Takes hashing a front piece b mid → Takes hashing b mid block c after → Takes hashing a front (piece ++ block) c after
  takes_both a b c front piece mid block after first second = λ more.
      ap (λ bs. with_lines hashing a (lines_after front bs)) (append_assoc piece block more) ∙ first (block ++ more) ∙ second more

  -- at the end
  pub takes_all : (a b : LineState) (text last : List ℕ) → Takes hashing a [] text b last → with_lines hashing a (lines_of text) ≡ with_lines hashing b (lines_after last [])
  takes_all a b text last takes =
      ap (with_lines hashing a) (sym (lines_whole text)) ∙ ap (λ bs. with_lines hashing a (lines_after [] bs)) (sym (append-nil text)) ∙ takes []
