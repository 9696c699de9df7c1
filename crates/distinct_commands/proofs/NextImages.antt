-- Images read one after another.
use Rattle.std.proofs.Common.{◌≡◌, ℕ, suc, Bool, true, false, List, [], ◌∷◌, ◌++◌, length, map, Option, Some, None, refl, sym, ap, subst, ◌∙◌, append_assoc, inl, inr}
use Rattle.std.specs.Prelude.{◌≢◌, ◌⊎◌, IfSome, IfOk, Result, Ok, Err}
use Rattle.std.specs.Option.{option_map}
use Rattle.sketch_base.specs.Seed.{seed_hash}
use Rattle.core_compact.specs.CompactState.{Compact}
use Rattle.theta_sketches.specs.Image.{Reads, IsReadable, written}
use Rattle.sketch_base.specs.declared.error.ErrorKind.{ErrorKind}
use Rattle.sketch_base.specs.declared.error.ErrorKind.TheVariants.{OutOfMemory, InvalidData}
use Rattle.keys_sketches.specs.Sources.{Continues, GivesNext}
use Rattle.keys_sketches.proofs.Refused.{faulty_next}
use Rattle.keys_sketches.specs.Shards.{AreRead}
use Rattle.distinct_commands.specs.Answers.{IsExpected, IsIntersectionImage}
use Rattle.keys_joins.specs.Joins.{intersection_of}
use Rattle.distinct_inputs.specs.Failures.{AreCounted, IsOfImages}
use Rattle.distinct_messages.specs.declared.failure.Failure.{Failure}
use Rattle.distinct_messages.specs.declared.failure.Failure.TheVariants.{NotText, Arguments, NoFiles, NotTwo, NoExpression, NoDir, NoName, NoNul, NoSeed, Terminal, WrongCount, NotOneEach, Memory, Unreadable, NoSketch, NoSums, NoHex, NoTab, NoLine, PastGreatest, PastUnion, PastResult, NotANumber, LongName, NotWritten}
use Rattle.distinct_inputs.specs.declared.images.Images.{Images}
use Rattle.distinct_inputs.specs.Images.{only_image, images_of, parts_left, remaining_images, open_text, HasNoSketch, IsNoSketch, ReadsFirst, ReadsNext}

pub none_read : (o : Option (Compact ℕ)) → ((s : Compact ℕ) → o ≡ Some s → ⊥) → o ≡ None
none_read None none = refl
none_read (Some s) none = absurd (none s refl)

module _ (seed : ℕ) where
  -- sketches of all images
  are_read-more : (images : List (List ℕ)) (sketches : List (Compact ℕ)) (image : List ℕ) (s : Compact ℕ) → AreRead seed images sketches → Reads image (seed_hash seed) s → AreRead seed (images ++ image ∷ []) (sketches ++ s ∷ [])
  are_read-more [] [] image s all one = (one, tt)
  are_read-more [] (t ∷ ts) image s all one = absurd all
  are_read-more (i ∷ is) [] image s all one = absurd all
  are_read-more (i ∷ is) (t ∷ ts) image s all one = (all.0, are_read-more is ts image s all.1 one)

  one_read : (all taken left : List (List ℕ)) (sketches : List (Compact ℕ)) (s : Compact ℕ) (new : Option (List (List ℕ))) → all ≡ taken ++ left → AreRead seed taken sketches → ReadsFirst seed left s new → Continues (Some all) new (λ is. AreRead seed is (sketches ++ s ∷ []))
  one_read all taken left sketches s new parted read first =
      subst (λ (o : Option (List (List ℕ))). Continues (Some all) o (λ is. AreRead seed is (sketches ++ s ∷ []))) (sym first.leaves) (
        taken ++ first.image ∷ [],
        parted ∙ ap (λ is. taken ++ is) first.parted ∙ sym (append_assoc taken (first.image ∷ []) first.images_after),
        are_read-more taken sketches first.image s read first.reads,
      )

  pub reads_more : (old now new : Option (List (List ℕ))) (o : Option (Compact ℕ)) (s : Compact ℕ) (sketches : List (Compact ℕ)) → Continues old now (λ is. AreRead seed is sketches) → ReadsNext seed now new o → o ≡ Some s → Continues old new (λ is. AreRead seed is (sketches ++ s ∷ []))
  reads_more None now new o s sketches so_far next is = tt
  reads_more (Some all) None new o s sketches so_far next is = absurd so_far
  reads_more (Some all) (Some left) new o s sketches so_far next is = one_read all so_far.0 left sketches s new so_far.1 so_far.2 (subst (ReadsNext seed (Some left) new) is next)

module _ (seed : ℕ) where
  -- ---- images that are not two

  read_count : (images : List (List ℕ)) (sketches : List (Compact ℕ)) → AreRead seed images sketches → length images ≡ length sketches
  read_count [] [] read = refl
  read_count [] (s ∷ sketches) read = absurd read
  read_count (image ∷ images) [] read = absurd read
  read_count (image ∷ images) (s ∷ sketches) read = ap suc (read_count images sketches read.1)

  pub not_two : (known : Option (List (List ℕ))) (sketches : List (Compact ℕ)) → IfSome known (λ all. AreRead seed all sketches) → length sketches ≢ 2 → IfSome known (λ all. length all ≢ 2)
  not_two None sketches read other = tt
  not_two (Some all) sketches read other = λ two. other (sym (read_count all sketches read) ∙ two)

  -- there are as many sketches as images
  pub count_read : (known : Option (List (List ℕ))) (sketches : List (Compact ℕ)) (found : ℕ) → IfSome known (λ all. AreRead seed all sketches) → found ≡ length sketches → AreCounted found known
  count_read None sketches found read is = tt
  count_read (Some all) sketches found read is = is ∙ sym (read_count all sketches read)

  -- ---- the image of an intersection

  pub met_of_known : {V E : Type 0} (r : Result V E) (items : V → List ℕ) (expected : Option ℕ) (known : Option (List (List ℕ))) (sketches : List (Compact ℕ)) →
      IfSome known (λ all. AreRead seed all sketches) → IfOk r (λ v. items v ≡ written (intersection_of seed sketches)) → IsExpected expected (length sketches) →
      IfSome known (λ all. IfOk r (λ v. IsIntersectionImage seed all (items v) × IsExpected expected (length all)))
  met_of_known r items expected None sketches read image counted = tt
  met_of_known (Err e) items expected (Some all) sketches read image counted = tt
  met_of_known (Ok v) items expected (Some all) sketches read image counted =
      ((sketches, read, image), subst (λ (n : ℕ). IsExpected expected n) (sym (read_count all sketches read)) counted)

-- two facts on what is known
pub both_known : {T V E : Type 0} (known : Option T) (r : Result V E) (P Q : T → V → Type 0) → IfSome known (λ t. IfOk r (P t)) → IfSome known (λ t. IfOk r (Q t)) → IfSome known (λ t. IfOk r (λ v. P t v × Q t v))
both_known None r P Q first second = tt
both_known (Some t) (Ok v) P Q first second = (first, second)
both_known (Some t) (Err e) P Q first second = tt

-- ---- images before a file is opened

-- what holds of what a function makes of a value
of_made : {T U : Type 0} (f : T → U) (o : Option T) (P : U → Type 0) → IfSome (option_map f o) P → IfSome o (λ t. P (f t))
of_made f None P holds = tt
of_made f (Some t) P holds = holds

images_closed : (sums hex : Bool) (line : ℕ) (texts : Option (List (List ℕ))) → option_map (map (only_image sums)) (parts_left hex None line texts) ≡ option_map (images_of sums hex) texts
images_closed sums true line None = refl
images_closed sums true line (Some texts) = refl
images_closed sums false line None = refl
images_closed sums false line (Some texts) = refl

-- before a file is opened, all images of the texts are left
pub all_images : {S R : Type 0} (remaining : R → Option (List ℕ)) (known : S → Option (List (List ℕ))) (images : Images S R) (sums hex : Bool) → images.sums ≡ sums → images.hex ≡ hex → images.«open» ≡ None →
    remaining_images remaining known images ≡ option_map (images_of sums hex) (known images.inputs.sources)
all_images remaining known images sums hex sums_is hex_is closed =
    let texts = known images.inputs.sources in
    ap (λ reader. option_map (map (only_image images.sums)) (parts_left images.hex (open_text remaining reader) images.line texts)) closed
    ∙ images_closed images.sums images.hex images.line texts
    ∙ ap (λ (b : Bool). option_map (images_of b images.hex) texts) sums_is
    ∙ ap (λ (b : Bool). option_map (images_of sums b) texts) hex_is

-- what holds of all images that are left holds of those in the texts
pub all_hold : {S R : Type 0} (remaining : R → Option (List ℕ)) (known : S → Option (List (List ℕ))) (images : Images S R) (sums hex : Bool) (P : List (List ℕ) → Type 0) → images.sums ≡ sums → images.hex ≡ hex → images.«open» ≡ None →
    IfSome (remaining_images remaining known images) P → IfSome (known images.inputs.sources) (λ texts. P (images_of sums hex texts))
all_hold remaining known images sums hex P sums_is hex_is closed holds =
    of_made (images_of sums hex) (known images.inputs.sources) P (subst (λ all. IfSome all P) (all_images remaining known images sums hex sums_is hex_is closed) holds)

-- ---- images that are none

pub continues_itself : (o : Option (List (List ℕ))) → Continues o o (λ taken. Unit {0})
continues_itself None = tt
continues_itself (Some all) = ([], refl, tt)

-- bytes that are refused as data are no image
pub refused_is_none : (seed : ℕ) (image : List ℕ) (e : ErrorKind) → (e ≡ OutOfMemory) ⊎ ((e ≡ InvalidData) × (IsReadable image (seed_hash seed) → ⊥)) → e ≡ InvalidData → IsNoSketch false seed image
refused_is_none seed image e (inl memory) data_is = let both : OutOfMemory ≡ InvalidData = sym memory ∙ data_is in absurd (cc)
refused_is_none seed image e (inr none) data_is = none.1

-- the first image that was left is none
pub first_is_none : {V : Type 0} (seed : ℕ) (items : V → List ℕ) (old new : Option (List (List ℕ))) (o : Option V) (v : V) → GivesNext (λ w. Some (items w)) old new o → o ≡ Some v → IsNoSketch false seed (items v) → HasNoSketch false seed old
first_is_none seed items old new o v gives is none = faulty_next (IsNoSketch false seed) (λ w. Some (items w)) old old new o v (continues_itself old) gives is none

-- one of those that are left is one of all
none_before : (sums : Bool) (seed : ℕ) (old now : Option (List (List ℕ))) (P : List (List ℕ) → Type 0) → Continues old now P → HasNoSketch sums seed now → HasNoSketch sums seed old
none_before sums seed None now P so_far none = tt
none_before sums seed (Some all) None P so_far none = absurd so_far
none_before sums seed (Some all) (Some left) P so_far none = record {
  front = so_far.0 ++ none.front;
  faulty = none.faulty;
  back = none.back;
  parted = so_far.1 ∙ ap (λ is. so_far.0 ++ is) none.parted ∙ sym (append_assoc so_far.0 none.front (none.faulty ∷ none.back));
  is_faulty = none.is_faulty;
}

-- a failure at images is one at all of which they are some
pub fails_before : (sums hex : Bool) (seed : ℕ) (old now : Option (List (List ℕ))) (P : List (List ℕ) → Type 0) (f : Failure) → Continues old now P → IsOfImages sums hex seed now f → IsOfImages sums hex seed old f
fails_before sums hex seed old now P (NoSketch name line flaw) so_far failed = (failed.0, none_before sums seed old now P so_far failed.1)
fails_before sums hex seed old now P (NoSums name line flaw) so_far failed = (failed.0, none_before sums seed old now P so_far failed.1)
fails_before sums hex seed old now P (NoHex name line) so_far failed = (failed.0, none_before sums seed old now P so_far failed.1)
fails_before sums hex seed old now P (NoLine name) so_far failed = (failed.0, none_before sums seed old now P so_far failed.1)
fails_before sums hex seed old now P Memory so_far failed = failed
fails_before sums hex seed old now P (Unreadable name error) so_far failed = failed
fails_before sums hex seed old now P (NotText number text) so_far failed = absurd failed
fails_before sums hex seed old now P (Arguments fault) so_far failed = absurd failed
fails_before sums hex seed old now P NoFiles so_far failed = absurd failed
fails_before sums hex seed old now P NotTwo so_far failed = absurd failed
fails_before sums hex seed old now P (NoExpression text fault) so_far failed = absurd failed
fails_before sums hex seed old now P Terminal so_far failed = absurd failed
fails_before sums hex seed old now P (WrongCount found expected) so_far failed = absurd failed
fails_before sums hex seed old now P (NotOneEach found expected) so_far failed = absurd failed
fails_before sums hex seed old now P (NoDir name error) so_far failed = absurd failed
fails_before sums hex seed old now P (NoSeed name) so_far failed = absurd failed
fails_before sums hex seed old now P (NoName name number) so_far failed = absurd failed
fails_before sums hex seed old now P (NoNul name) so_far failed = absurd failed
fails_before sums hex seed old now P (NoTab name line) so_far failed = absurd failed
fails_before sums hex seed old now P (PastGreatest name line) so_far failed = absurd failed
fails_before sums hex seed old now P (PastUnion name line) so_far failed = absurd failed
fails_before sums hex seed old now P (PastResult text) so_far failed = absurd failed
fails_before sums hex seed old now P (NotANumber name line field value) so_far failed = absurd failed
fails_before sums hex seed old now P (LongName path length) so_far failed = absurd failed
fails_before sums hex seed old now P (NotWritten name error) so_far failed = absurd failed
