-- Images in the lines of files, one after another.
use Rattle.std.proofs.Common.{◌≡◌, ◌≤◌, ℕ, Bool, true, false, List, [], ◌∷◌, ◌++◌, length, drop, map, cond, Option, Some, None, refl, sym, ap, subst, ◌∙◌, ◌+◌, append-nil, eqb, arith}
use mathlib.Core.Bool.{true≢false}
use Rattle.std.specs.Prelude.{IfSome, MatchOption, unwrap_or}
use Rattle.std.specs.Option.{option_map}
use Rattle.std.specs.List.{onto_first, prefix_len}
use Rattle.std.specs.Char.{is_ascii_whitespace}
use Rattle.std.specs.Str.{IsTrimAscii}
use Rattle.std.specs.Io.BufRead.{take_through, drop_through, DropsThrough}
use Rattle.std.specs.Io.KnownBytes.{IsAtEnd, prepend_known}
use Rattle.std.specs.Io.Buffered.{reader_remaining, reader_inner, reader_buffer, reader_capacity}
use Rattle.std.specs.declared.io.buffered.BufReader.{BufReader}
use Rattle.std.proofs.lemmas.Bool.{cond_both}
use Rattle.std.proofs.lemmas.Str.Ascii.{trim_ascii_is}
use Rattle.keys_sketches.specs.Hex.{bytes_of_hex}
use Rattle.keys_sketches.specs.Sources.{GivesNext}
use Rattle.core_images.specs.Head.{theta_head, tuple_head}
use Rattle.distinct_inputs.specs.Images.{only_image, count_of, is_followed, ended_lines, line_image, line_images, or_none, images_behind, images_in_lines, parts_left, open_text, GivesOrCloses, IsOnlyImage}

-- the first line of a text, and the lines after it
ended_first : (b : ℕ) (t : List ℕ) → ended_lines (b ∷ t) ≡ take_through 10 (b ∷ t) ∷ ended_lines (drop_through 10 (b ∷ t))
ended_first b [] =
    elim (eqb b 10) as (λ e. cond e ((b ∷ []) ∷ []) (onto_first b []) ≡ cond e (b ∷ []) (b ∷ []) ∷ ended_lines (cond e [] [])) [
      | true ↦ refl
      | false ↦ refl
    ]
ended_first b (c ∷ t) =
    elim (eqb b 10) as (λ e. cond e ((b ∷ []) ∷ ended_lines (c ∷ t)) (onto_first b (ended_lines (c ∷ t))) ≡ cond e (b ∷ []) (b ∷ take_through 10 (c ∷ t)) ∷ ended_lines (cond e (c ∷ t) (drop_through 10 (c ∷ t)))) [
      | true ↦ refl
      | false ↦ ap (onto_first b) (ended_first c t)
    ]

-- a line spells what its digits spell
spells : (line digits : List ℕ) → IsTrimAscii line digits → line_image line ≡ unwrap_or (bytes_of_hex digits) []
spells line digits is = ap (λ ds. unwrap_or (bytes_of_hex ds) []) (sym (trim_ascii_is line digits (drop (prefix_len is_ascii_whitespace line) line) refl is))

pub spelled : {V : Type 0} (items : V → List ℕ) (line digits : List ℕ) (o : Option V) (image : V) → IsTrimAscii line digits → MatchOption o (bytes_of_hex digits ≡ None) (λ v. bytes_of_hex digits ≡ Some (items v)) → o ≡ Some image → items image ≡ line_image line
spelled items line digits o image trim read is =
    let some : bytes_of_hex digits ≡ Some (items image) = subst (λ o. MatchOption o (bytes_of_hex digits ≡ None) (λ v. bytes_of_hex digits ≡ Some (items v))) is read in
    sym (spells line digits trim ∙ ap (λ o. unwrap_or o []) some)

pub nothing_spelled : {V : Type 0} (items : V → List ℕ) (line digits image : List ℕ) (o : Option V) → IsTrimAscii line digits → MatchOption o (bytes_of_hex digits ≡ None) (λ v. bytes_of_hex digits ≡ Some (items v)) → o ≡ None → image ≡ [] → image ≡ line_image line
nothing_spelled items line digits image o trim read is empty =
    let none : bytes_of_hex digits ≡ None = subst (λ o. MatchOption o (bytes_of_hex digits ≡ None) (λ v. bytes_of_hex digits ≡ Some (items v))) is read in
    empty ∙ sym (spells line digits trim ∙ ap (λ o. unwrap_or o []) none)

-- the images after a line, if some of the file is left
first_behind : (line : ℕ) (b : ℕ) (t image : List ℕ) → line_image (take_through 10 (b ∷ t)) ≡ image → images_behind line (b ∷ t) ≡ image ∷ line_images (drop_through 10 (b ∷ t))
first_behind line b t image is =
    let first : line_images (b ∷ t) ≡ image ∷ line_images (drop_through 10 (b ∷ t)) =
    ap (λ ls. map line_image ls) (ended_first b t) ∙ ap (λ i. i ∷ line_images (drop_through 10 (b ∷ t))) is in
    elim (eqb line 0) as (λ e. cond e (or_none (line_images (b ∷ t))) (line_images (b ∷ t)) ≡ image ∷ line_images (drop_through 10 (b ∷ t))) [
      | true ↦ ap or_none first
      | false ↦ first
    ]

behind_some : (line : ℕ) (text : List ℕ) → eqb line 0 ≡ false → images_behind line text ≡ line_images text
behind_some line text some = ap (λ e. cond e (or_none (line_images text)) (line_images text)) some

-- an open file at its end is closed
pub at_end : (hex : Bool) (line : ℕ) (known : Option (List ℕ)) (texts : Option (List (List ℕ))) → hex ≡ true → eqb line 0 ≡ false → IsAtEnd known →
    IfSome (parts_left hex (Some known) line texts) (λ images. parts_left hex None line texts ≡ Some images)
at_end true line None texts is some ends = tt
at_end true line (Some text) None is some ends = tt
at_end true line (Some text) (Some texts) is some ends =
    ap (λ images. Some (images ++ images_in_lines texts)) (sym (ap (images_behind line) ends ∙ behind_some line [] some))
at_end false line known texts is some ends = absurd (cc)

-- the next line of an open file
next_known : (line line2 b : ℕ) (t image : List ℕ) (known : Option (List ℕ)) (texts : List (List ℕ)) {V : Type 0} (items : V → List ℕ) (v : V) → image ≡ items v →
    line_image (take_through 10 (b ∷ t)) ≡ image → known ≡ Some (drop_through 10 (b ∷ t)) → eqb line2 0 ≡ false →
    GivesNext (λ w. Some (items w)) (parts_left true (Some (Some (b ∷ t))) line (Some texts)) (parts_left true (Some known) line2 (Some texts)) (Some v)
next_known line line2 b t image known texts items v same is left some = record {
  text = image;
  texts_left = line_images (drop_through 10 (b ∷ t)) ++ images_in_lines texts;
  parted = ap (λ images. images ++ images_in_lines texts) (first_behind line b t image is);
  has = ap Some (sym same);
  leaves = ap (λ k. parts_left true (Some k) line2 (Some texts)) left ∙ ap (λ images. Some (images ++ images_in_lines texts)) (behind_some line2 (drop_through 10 (b ∷ t)) some);
}

pub next_line : (hex : Bool) (line line2 count : ℕ) (known known2 : Option (List ℕ)) (texts : Option (List (List ℕ))) (old new whole : List ℕ) {V : Type 0} (items : V → List ℕ) (v : V) → hex ≡ true →
    old ≡ [] → IfSome known (λ xs. new ≡ old ++ take_through 10 xs) → DropsThrough known known2 10 → length new ≡ length old + count → eqb count 0 ≡ false →
    whole ≡ new → items v ≡ line_image whole → eqb line2 0 ≡ false →
    GivesNext (λ w. Some (items w)) (parts_left hex (Some known) line texts) (parts_left hex (Some known2) line2 texts) (Some v)
next_line false line line2 count known known2 texts old new whole items v is none read left counted some whole_is spelled more = absurd (cc)
next_line true line line2 count None known2 texts old new whole items v is none read left counted some whole_is spelled more = tt
next_line true line line2 count (Some text) known2 None old new whole items v is none read left counted some whole_is spelled more = tt
next_line true line line2 count (Some []) known2 (Some texts) old new whole items v is none read left counted some whole_is spelled more =
    let zero : count ≡ 0 = omega (arith, counted, ap length (read ∙ append-nil old)) in
    let e : eqb 0 0 ≡ false = subst (λ n. eqb n 0 ≡ false) zero some in
    absurd (true≢false e)
next_line true line line2 count (Some (b ∷ t)) known2 (Some texts) old new whole items v is none read left counted some whole_is spelled more =
    let line_is : whole ≡ take_through 10 (b ∷ t) = whole_is ∙ read ∙ ap (λ o. o ++ take_through 10 (b ∷ t)) none in
    next_known line line2 b t (items v) known2 texts items v refl (ap line_image (sym line_is) ∙ sym spelled) left more

-- ---- images with nothing behind them

some_same : (x y : List ℕ) → Some x ≡ Some y → x ≡ y
some_same x y is = ap (λ o. unwrap_or o []) is

-- the next image is that of the next part
pub next_mapped : (f : List ℕ → List ℕ) (old new : Option (List (List ℕ))) {V : Type 0} (items : V → List ℕ) (v w : V) → GivesNext (λ u. Some (items u)) old new (Some v) → items w ≡ f (items v) →
    GivesNext (λ u. Some (items u)) (option_map (map f) old) (option_map (map f) new) (Some w)
next_mapped f None new items v w gives is = tt
next_mapped f (Some parts) new items v w gives is = record {
  text = f gives.text;
  texts_left = map f gives.texts_left;
  parted = ap (map f) gives.parted;
  has = ap Some (is ∙ ap f (some_same (items v) gives.text gives.has));
  leaves = ap (option_map (map f)) gives.leaves;
}

pub none_mapped : (f : List ℕ → List ℕ) (old new : Option (List (List ℕ))) {V : Type 0} (remaining : V → Option (List ℕ)) → GivesNext remaining old new None → GivesNext remaining (option_map (map f) old) (option_map (map f) new) None
none_mapped f None new remaining gives = tt
none_mapped f (Some parts) new remaining gives = ap (map f) gives

-- ---- files opened one after another

pub known_same : (known : Option (List (List ℕ))) → IfSome known (λ images. known ≡ Some images)
known_same None = tt
known_same (Some images) = refl

pub none_of : {T : Type 0} (o : Option T) → ((x : T) → o ≡ Some x → ⊥) → o ≡ None
none_of None none = refl
none_of (Some x) none = absurd (none x refl)

-- an image of the open file is the first of all that were left
pub gives_first : (initial now new : Option (List (List ℕ))) {V R : Type 0} (items : V → List ℕ) (reader : Option R) (o : Option V) (v : V) →
    IfSome initial (λ images. now ≡ Some images) → GivesOrCloses items now new reader o → o ≡ Some v → GivesNext (λ w. Some (items w)) initial new (Some v)
gives_first None now new items reader o v same gives is = tt
gives_first (Some images) now new items reader o v same gives is =
    subst (λ (n : Option (List (List ℕ))). GivesNext (λ w. Some (items w)) n new (Some v)) same (subst (GivesOrCloses items now new reader) is gives)

-- a source with the same text is the first, too
pub same_first : {V C : Type 0} (a : V → Option (List ℕ)) (b : C → Option (List ℕ)) (old new : Option (List (List ℕ))) (v : V) (c : C) → b c ≡ a v → GivesNext a old new (Some v) → GivesNext b old new (Some c)
same_first a b None new v c same first = tt
same_first a b (Some texts) new v c same first = record { text = first.text; texts_left = first.texts_left; parted = first.parted; has = same ∙ first.has; leaves = first.leaves }

-- a new reader has all of its source
reader_known : {R A : Type 0} (remaining : R → Option (List ℕ)) (reader : BufReader R A) (source : R) (text : List ℕ) → reader_inner reader ≡ source → reader_buffer reader ≡ [] → reader_capacity reader ≡ 8192 → remaining source ≡ Some text →
    reader_remaining remaining reader ≡ Some text
reader_known remaining reader source text inner empty capacity has =
    ap (λ n. cond (eqb n 0) None (prepend_known (reader_buffer reader) (remaining (reader_inner reader)))) capacity
    ∙ ap (λ bs. prepend_known bs (remaining (reader_inner reader))) empty
    ∙ ap (λ r. prepend_known [] (remaining r)) inner
    ∙ ap (prepend_known []) has

-- the first line of the next file is the first image that is left
pub opened : (initial now : Option (List (List ℕ))) (hex : Bool) (line : ℕ) {R A : Type 0} (remaining : R → Option (List ℕ)) (closed : Option (BufReader R A)) (texts left : Option (List (List ℕ))) (source : R) (reader : BufReader R A) →
    IfSome initial (λ images. now ≡ Some images) → hex ≡ true → IfSome now (λ images. parts_left hex (open_text remaining closed) line texts ≡ Some images) × (closed ≡ None) → GivesNext remaining texts left (Some source) →
    reader_inner reader ≡ source → reader_buffer reader ≡ [] → reader_capacity reader ≡ 8192 →
    IfSome initial (λ images. parts_left hex (open_text remaining (Some reader)) 0 left ≡ Some images)
opened None now hex line remaining closed texts left source reader same is closes next inner empty capacity = tt
opened (Some images) now false line remaining closed texts left source reader same is closes next inner empty capacity = absurd (cc)
opened (Some images) now true line remaining (Some old) texts left source reader same is closes next inner empty capacity = let e = closes.1 in absurd (cc)
opened (Some images) now true line remaining None None left source reader same is closes next inner empty capacity =
    let e : None ≡ Some images = subst (λ (n : Option (List (List ℕ))). IfSome n (λ i. parts_left true None line None ≡ Some i)) same closes.0 in absurd (cc)
opened (Some images) now true line remaining None (Some texts) left source reader same is closes next inner empty capacity =
    let e : Some (images_in_lines texts) ≡ Some images = subst (λ (n : Option (List (List ℕ))). IfSome n (λ i. parts_left true None line (Some texts) ≡ Some i)) same closes.0 in
    ap (λ k. parts_left true (Some k) 0 left) (reader_known remaining reader source next.text inner empty capacity next.has)
    ∙ ap (λ l. parts_left true (Some (Some next.text)) 0 l) next.leaves
    ∙ ap (λ ts. Some (images_in_lines ts)) (sym next.parted)
    ∙ e

-- if no file is left, no image is left
pub at_last : (initial now new : Option (List (List ℕ))) (hex : Bool) (line : ℕ) {R A V : Type 0} (remaining : R → Option (List ℕ)) (closed : Option (BufReader R A)) (texts left : Option (List (List ℕ))) (shown : V → Option (List ℕ)) →
    IfSome initial (λ images. now ≡ Some images) → hex ≡ true → IfSome now (λ images. parts_left hex (open_text remaining closed) line texts ≡ Some images) × (closed ≡ None) → GivesNext remaining texts left None →
    GivesNext shown initial new None
at_last None now new hex line remaining closed texts left shown same is closes next = tt
at_last (Some images) now new false line remaining closed texts left shown same is closes next = absurd (cc)
at_last (Some images) now new true line remaining (Some old) texts left shown same is closes next = let e = closes.1 in absurd (cc)
at_last (Some images) now new true line remaining None None left shown same is closes next =
    let e : None ≡ Some images = subst (λ (n : Option (List (List ℕ))). IfSome n (λ i. parts_left true None line None ≡ Some i)) same closes.0 in absurd (cc)
at_last (Some images) now new true line remaining None (Some texts) left shown same is closes next =
    let e : Some (images_in_lines texts) ≡ Some images = subst (λ (n : Option (List (List ℕ))). IfSome n (λ i. parts_left true None line (Some texts) ≡ Some i)) same closes.0 in
    ap (λ o. unwrap_or o []) (sym e) ∙ ap images_in_lines next

-- no bytes have no entries
pub count_of_nothing : (sums : Bool) → count_of sums [] ≡ 0
unfolding theta_head tuple_head
count_of_nothing true = refl
count_of_nothing false = refl

-- nothing follows no bytes
pub only_nothing : (sums : Bool) → IsOnlyImage sums []
unfolding theta_head tuple_head
only_nothing true = tt
only_nothing false = tt

-- bytes have no more entries once they are none if something follows an image
pub count_of_only_image : (sums only_sums : Bool) (bytes : List ℕ) (most : ℕ) → count_of sums bytes ≤ most → count_of sums (only_image only_sums bytes) ≤ most
count_of_only_image sums only_sums bytes most few =
    cond_both (is_followed only_sums bytes) [] bytes (λ (it : List ℕ). count_of sums it ≤ most) (λ followed. let none = count_of_nothing sums in omega (arith, none)) (λ single. few)
