-- Bytes that are read as a sketch have no flaw that says otherwise.
use Rattle.std.proofs.Common.{◌≡◌, ℕ, suc, ◌<◌, ◌≤◌, Bool, true, false, cond, ◌&&◌, leb, is_some, List, [], ◌∷◌, length, take, slice_index, Result, Ok, Err, refl, ap, subst, sym, ◌∙◌, arith}
use Rattle.std.proofs.lemmas.Bool.Decides.{nat_tests}
use Rattle.core_compact.specs.CompactState.{Compact}
use Rattle.core_images.specs.Entry.{SpellsHash}
use Rattle.core_images.specs.Head.{theta_head, theta_layout, named, flaw_behind, is_big_endian, is_followed, flaw_of_image}
use Rattle.core_images.specs.Preamble.{Begins}
use Rattle.core_images.specs.Read.{LeavesOpen}
use Rattle.core_images.specs.declared.flaw.Flaw.{Flaw as ImageFlaw}
use Rattle.core_images.specs.declared.flaw.Flaw.TheVariants.{Damaged, Longer}
use Rattle.core_images.specs.declared.preamble.ImageLayout.{ImageLayout}
use Rattle.core_laws.specs.Entries.{hash_key}
use Rattle.theta_sketches.specs.Image.{Reads, SpellsSketch, version_3, version_2_empty, version_2_exact, version_2_estimating, version_1}
use Rattle.theta_sketches.proofs.ImageLayouts.{layout_from}
use Rattle.keys_sketches.specs.Header.{is_hexadecimal, file_flaw, flaw_of, MayBeRead, MayBeReadImage}
use Rattle.keys_sketches.specs.Hex.{digit_of, are_digits}
use Rattle.keys_sketches.specs.declared.header.Flaw.TheVariants.{Hexadecimal, Image}

no_digit : (c : ℕ) → c ≤ 3 → is_some (digit_of c) ≡ false
no_digit c low =
    let a : leb 48 c ≡ false = grind (arith, nat_tests) in
    let b : leb 97 c ≡ false = grind (arith, nat_tests) in
    let d : leb 65 c ≡ false = grind (arith, nat_tests) in
    rw (a, b, d) refl

no_digits : (n : ℕ) (bytes : List ℕ) → 8 ≤ length bytes → slice_index bytes 0 ≤ 3 → are_digits (take (suc n) bytes) ≡ false
no_digits n [] whole low = absurd (omega arith)
no_digits n (c ∷ bytes) whole low = ap (λ (b : Bool). b && are_digits (take n bytes)) (no_digit c low)

second_false : (t : Bool) → (t && false) ≡ false
second_false true = refl
second_false false = refl

-- bytes that begin as an image of some version and family do
pub in_file : (bytes : List ℕ) (longs version family : ℕ) (flaw : ImageFlaw) → Begins bytes longs version family → MayBeReadImage flaw → MayBeRead (file_flaw flaw bytes)
in_file bytes longs version family flaw b may =
    let low : slice_index bytes 0 ≤ 3 = omega (arith, b.longs_are, b.longs_high) in
    let none : is_hexadecimal bytes ≡ false = ap (λ (t : Bool). leb 16 (length bytes) && t) (no_digits 15 bytes b.whole low) ∙ second_false (leb 16 (length bytes)) in
    subst (λ (t : Bool). MayBeRead (cond t Hexadecimal (Image flaw))) (sym none) may

readable : (big_endian followed : Bool) → MayBeReadImage (named big_endian (cond followed Longer Damaged))
readable true true = tt
readable true false = tt
readable false true = tt
readable false false = tt

-- a layout that allows a state leaves no flaw of the preamble
pub open_flaw : {X : Type 0} (key : X → ℕ) (Spells : List ℕ → X → Type 0) (bytes : List ℕ) (h : ℕ) (s : Compact X) (layout : Result ImageLayout ImageFlaw) → LeavesOpen key Spells bytes h layout s → (big_endian followed : Bool) → MayBeReadImage (flaw_behind big_endian followed layout)
open_flaw key Spells bytes h s (Err flaw) p big_endian followed = absurd p
open_flaw key Spells bytes h s (Ok layout) p big_endian followed = readable big_endian followed

spelled_flaw : {s : Compact ℕ} (bytes : List ℕ) (h : ℕ) (flaw : ImageFlaw) → SpellsSketch bytes h s → MayBeReadImage flaw → MayBeRead (file_flaw flaw bytes)
spelled_flaw bytes h flaw (version_3 longs s b r) may = in_file bytes _ _ _ flaw b may
spelled_flaw bytes h flaw (version_2_empty b) may = in_file bytes _ _ _ flaw b may
spelled_flaw bytes h flaw (version_2_exact s b r) may = in_file bytes _ _ _ flaw b may
spelled_flaw bytes h flaw (version_2_estimating s b r) may = in_file bytes _ _ _ flaw b may
spelled_flaw bytes h flaw (version_1 longs s b r) may = in_file bytes _ _ _ flaw b may

pub flaw_read : (bytes : List ℕ) (h : ℕ) (s : Compact ℕ) → Reads bytes h s → MayBeRead (flaw_of h bytes)
flaw_read bytes h s reads =
    spelled_flaw bytes h _ reads.spelled (open_flaw hash_key SpellsHash bytes h s (theta_layout h bytes) (layout_from bytes h s reads) (is_big_endian bytes) (is_followed bytes (theta_head bytes)))
