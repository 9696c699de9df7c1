-- Ordered sketches of lines keep the laws of compact sketches, and their images are read as them.
use Rattle.std.proofs.Common.{◌≡◌, ℕ, ◌^◌, ◌<◌, ◌≤◌, true, List, [], ◌∷◌, ◌++◌, length, map, refl, sym, ap, ◌∙◌, arith, append_assoc, append-nil}
use Rattle.std.specs.Prelude.{filter}
use Rattle.std.specs.List.{AllByRecursion, concat}
use Rattle.std.proofs.lemmas.Bool.Decides.{nat_tests}
use Rattle.std.proofs.Math.Pow.{pow_mono}
use Rattle.sketch_base.specs.Seed.{seed_hash}
use Rattle.core_laws.specs.Cuts.{IsRetained, cut}
use Rattle.core_laws.specs.Entries.{hash_key, is_carried}
use Rattle.core_laws.specs.Maps.{map_of}
use Rattle.core_laws.specs.declared.TheConstants.{MAX_THETA}
use Rattle.core_laws.proofs.insertions.Cases.{IsRetained-cut, length-cut}
use Rattle.core_laws.proofs.maps.Ascending.{each-with_entry, each-passes}
use Rattle.core_compact.specs.CompactState.{Compact, IsCompact}
use Rattle.core_compact.proofs.LawsOfShown.{IsShown-retained, IsShown-none}
use Rattle.core_streams.proofs.HashSets.{ascending-set_of, carried-set_of}
use Rattle.theta_sketches.specs.Image.{Reads, written}
use Rattle.theta_sketches.specs.Streams.{set_of}
use Rattle.keys_lines.specs.Lines.{lines_of, lines_of_all, AreWhole}
use Rattle.keys_lines.specs.declared.key.Hashing.{Hashing}
use Rattle.keys_sketches.specs.Keys.{line_hashes, key_set, value_of_lines, sketch_of_value, image_of_text, image_of_lines, HaveSameLines}
use Rattle.keys_sketches.specs.Shards.{values_of_sketches, AreRead, AreImagesOfTexts, AreReadAsTexts, AreValuesOfTexts, sketches_of_texts, images_of_texts}
use Rattle.keys_sketches.specs.Unions.{IsUnitedImage}
use Rattle.keys_sketches.proofs.Shards.{united_texts, united_lines_apart, same_value}
use Rattle.keys_sketches.proofs.Rereads.{ReadsOne, ReadsAgain, reads_it, values_read}

nonzero-map_of : (hs : List ℕ) → AllByRecursion (λ (h : ℕ). 0 < h) hs → AllByRecursion (λ (h : ℕ). 0 < h) (map_of hash_key hs)
nonzero-map_of [] all = tt
nonzero-map_of (h ∷ hs) all = each-with_entry hash_key (λ (x : ℕ). 0 < x) (map_of hash_key hs) h (nonzero-map_of hs all.1) all.0

nonzero-set_of : (hs : List ℕ) → AllByRecursion (λ (h : ℕ). 0 < h) (set_of hs)
unfolding set_of
nonzero-set_of hs = nonzero-map_of (filter is_carried hs) (each-passes (λ (h : ℕ). 0 < h) is_carried (λ h e. grind (arith, nat_tests)) hs)

module _ (hashing : Hashing) where
  pub set_retained : (lg_k : ℕ) (lines : List (List ℕ)) → IsRetained hash_key (record { entries = key_set hashing lines; theta = MAX_THETA })
  set_retained lg_k lines = record {
    ascending = ascending-set_of (line_hashes hashing lines);
    nonzero = nonzero-set_of (line_hashes hashing lines);
    below_theta = carried-set_of (line_hashes hashing lines);
    theta_low = omega arith;
    theta_high = omega arith;
  }

  -- the sketch of lines keeps the laws of compact states
  pub compact : (lg_k : ℕ) (lines : List (List ℕ)) → lg_k ≤ 26 → IsCompact hash_key (sketch_of_value hashing.seed (value_of_lines hashing lg_k lines))
  compact lg_k [] small = record { shown = IsShown-none MAX_THETA (seed_hash hashing.seed) true true (omega arith) (omega arith) (λ _. refl); empty_ordered = λ _. refl }
  compact lg_k (line ∷ lines) small =
      let all = set_retained lg_k (line ∷ lines) in
      let limited : length (cut hash_key (2 ^ lg_k) (key_set hashing (line ∷ lines)) MAX_THETA).entries ≤ 2 ^ lg_k = length-cut hash_key (2 ^ lg_k) (key_set hashing (line ∷ lines)) MAX_THETA all.ascending in record {
        shown = IsShown-retained hash_key (cut hash_key (2 ^ lg_k) (key_set hashing (line ∷ lines)) MAX_THETA) (seed_hash hashing.seed) true (IsRetained-cut hash_key (2 ^ lg_k) (key_set hashing (line ∷ lines)) MAX_THETA all) (omega (arith, pow_mono {i = lg_k} {j = 26} small));
        empty_ordered = λ e. absurd (cc);
      }

  seed_of : (lg_k : ℕ) (lines : List (List ℕ)) → (sketch_of_value hashing.seed (value_of_lines hashing lg_k lines)).seed_hash ≡ seed_hash hashing.seed
  seed_of lg_k [] = refl
  seed_of lg_k (line ∷ lines) = refl

  -- the images of texts are read as their sketches
  module _ (again : ReadsAgain) (seeded : 0 < seed_hash hashing.seed) where
    pub image_read : (lg_k : ℕ) (image : List ℕ) (lines : List (List ℕ)) → lg_k ≤ 26 → image ≡ image_of_lines hashing lg_k lines → Reads image (seed_hash hashing.seed) (sketch_of_value hashing.seed (value_of_lines hashing lg_k lines))
    image_read lg_k image lines small is = reads_it again (sketch_of_value hashing.seed (value_of_lines hashing lg_k lines)) hashing.seed image (compact lg_k lines small) (seed_of lg_k lines) seeded is

    pub images_read : (lg_k : ℕ) → lg_k ≤ 26 → (texts : List (List ℕ)) → AreRead hashing.seed (images_of_texts hashing lg_k texts) (sketches_of_texts hashing lg_k texts)
    images_read lg_k small [] = tt
    images_read lg_k small (text ∷ texts) = (image_read lg_k (image_of_text hashing lg_k text) (lines_of text) small refl, images_read lg_k small texts)

    all_read : (lg_k : ℕ) (images texts : List (List ℕ)) → AreImagesOfTexts hashing lg_k images texts → AreReadAsTexts hashing lg_k images texts
    all_read lg_k [] [] are = tt
    all_read lg_k [] (text ∷ texts) are = absurd are
    all_read lg_k (image ∷ images) [] are = absurd are
    all_read lg_k (image ∷ images) (text ∷ texts) are = ((are.0.0, are.0.1, image_read are.0.0 image (lines_of text) are.0.2 are.0.3), all_read lg_k images texts are.1)

  -- images of texts with 2^lg_k nominal entries each
  pub own_images : (lg_k : ℕ) → lg_k ≤ 26 → (texts : List (List ℕ)) → AreImagesOfTexts hashing lg_k (images_of_texts hashing lg_k texts) texts
  own_images lg_k small [] = tt
  own_images lg_k small (text ∷ texts) = ((lg_k, omega arith, small, refl), own_images lg_k small texts)

-- if an image is read, its seed has a hash
seeded_by : (seed : ℕ) (image : List ℕ) (images : List (List ℕ)) (sketches : List (Compact ℕ)) → AreRead seed (image ∷ images) sketches → 0 < seed_hash seed
seeded_by seed image images [] read = absurd read
seeded_by seed image images (s ∷ sketches) read = read.0.seeded

module _ (one : ReadsOne) (again : ReadsAgain) (hashing : Hashing) (lg_k : ℕ) where
  read_as : (images texts : List (List ℕ)) (sketches : List (Compact ℕ)) → AreRead hashing.seed images sketches → AreImagesOfTexts hashing lg_k images texts → AreReadAsTexts hashing lg_k images texts
  read_as [] [] sketches read are = tt
  read_as [] (text ∷ texts) sketches read are = absurd are
  read_as (image ∷ images) texts sketches read are = all_read hashing again (seeded_by hashing.seed image images sketches read) lg_k (image ∷ images) texts are

  values_are : (texts images : List (List ℕ)) (bytes : List ℕ) → AreImagesOfTexts hashing lg_k images texts → (image : IsUnitedImage hashing.seed lg_k images bytes) → AreValuesOfTexts hashing lg_k texts (values_of_sketches image.0)
  values_are texts images bytes are image = values_read hashing one lg_k images image.0 texts (read_as images texts image.0 image.1 are) image.1

  -- the union of the images of texts is the image of the concatenated texts
  pub united_whole : (texts images : List (List ℕ)) (bytes : List ℕ) → AreWhole texts → AreImagesOfTexts hashing lg_k images texts → IsUnitedImage hashing.seed lg_k images bytes → bytes ≡ image_of_text hashing lg_k (concat texts)
  united_whole texts images bytes whole are image =
      image.2 ∙ ap (λ v. written (sketch_of_value hashing.seed v)) (united_texts hashing lg_k texts (values_of_sketches image.0) whole (values_are texts images bytes are image))

  -- the union of the images of texts is the image of all their lines, in any order
  pub united_apart : (texts lines images : List (List ℕ)) (bytes : List ℕ) → HaveSameLines (lines_of_all texts) lines → AreImagesOfTexts hashing lg_k images texts → IsUnitedImage hashing.seed lg_k images bytes → bytes ≡ image_of_lines hashing lg_k lines
  united_apart texts lines images bytes same are image =
      image.2
      ∙ ap (λ v. written (sketch_of_value hashing.seed v)) (united_lines_apart hashing lg_k texts (values_of_sketches image.0) (values_are texts images bytes are image) ∙ same_value hashing lg_k (lines_of_all texts) lines same)

-- ---- images made one by one

module _ {V : Type 0} (items : V → List ℕ) (hashing : Hashing) (lg_k : ℕ) where
  -- one more image
  pub text_more : (images : List (List ℕ)) (image : List ℕ) (text : V) (left others : List V) (all : List (List ℕ)) → images ++ images_of_texts hashing lg_k (map items left) ≡ all → left ≡ text ∷ others →
      image ≡ image_of_text hashing lg_k (items text) → (images ++ image ∷ []) ++ images_of_texts hashing lg_k (map items others) ≡ all
  text_more images image text left others all before parted is =
      append_assoc images (image ∷ []) (images_of_texts hashing lg_k (map items others))
      ∙ ap (λ (i : List ℕ). images ++ i ∷ images_of_texts hashing lg_k (map items others)) is
      ∙ ap (λ (vs : List V). images ++ images_of_texts hashing lg_k (map items vs)) (sym parted)
      ∙ before

  nothing_left : (left : List V) → length left ≡ 0 → images_of_texts hashing lg_k (map items left) ≡ []
  nothing_left [] none = refl
  nothing_left (v ∷ left) none = absurd (omega arith)

  -- all images
  pub texts_made : (images : List (List ℕ)) (left : List V) (all : List (List ℕ)) → images ++ images_of_texts hashing lg_k (map items left) ≡ all → length left ≡ 0 → images ≡ all
  texts_made images left all before none = sym (append-nil images) ∙ ap (λ ts. images ++ ts) (sym (nothing_left left none)) ∙ before
