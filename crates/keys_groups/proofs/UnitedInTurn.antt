-- Images that are united line by line, and lines that are written one after another.
use Rattle.std.proofs.Common.{ℕ, ◌≡◌, ◌+◌, ◌-◌, ◌^◌, min, length, true, false, List, [], ◌∷◌, ◌++◌, Option, Some, None, Vec, refl, sym, ap, ◌∙◌, subst, inl, inr, arith, append_assoc, length-append}
use Rattle.std.specs.Prelude.{IfSome}
use Rattle.std.specs.Option.{option_map}
use Rattle.std.specs.BTreeMap.{BTreeMap}
use Rattle.sketch_base.specs.Seed.{seed_hash}
use Rattle.sketch_base.specs.declared.error.ErrorKind.{ErrorKind}
use Rattle.core_compact.specs.CompactState.{Compact}
use Rattle.core_operators.specs.Union.{Union}
use Rattle.theta_sketches.specs.Image.{IsReadable, written}
use Rattle.keys_lines.specs.Lines.{lines_of, lines_of_all}
use Rattle.keys_sketches.specs.Hex.{bytes_of_hex}
use Rattle.keys_sketches.specs.Keys.{IsAmong}
use Rattle.keys_sketches.specs.Sources.{GivesNext, Continues}
use Rattle.keys_groups.specs.Groups.{without_lf}
use Rattle.keys_groups.specs.Reading.{ReadsLine, ContinuesLines}
use Rattle.keys_groups.specs.Tabs.{has_tab, behind_tab}
use Rattle.keys_groups.specs.United.{image_in, sketched_text, AreUnionSketches, AreUnitedLines, IsUniting, is_followed, IsFlawed, IsFlawless, AreFlawless, AreAdded}
use Rattle.keys_groups.specs.United.{IsFirstFlawed, HasFirstFlawed, IsOfLine, IsOfLines, ReportsFirst, IsUniteError}
use Rattle.keys_groups.specs.declared.united.LineFlaw.{LineFlaw}
use Rattle.keys_groups.specs.declared.united.LineFlaw.TheVariants.{NoTab, NoHex, NoImage}
use Rattle.keys_groups.specs.declared.uniting.UniteError.{UniteError}
use Rattle.keys_groups.specs.declared.uniting.UniteError.TheVariants.{Refused, Failed, Flawed}
use Rattle.keys_groups.proofs.LinesInGroups.{lines_of_more}
use Rattle.keys_groups.proofs.WrittenImages.{all_joined}

-- ---- a line among others

pub among_front : (line : List ℕ) (front back : List (List ℕ)) → IsAmong line front → IsAmong line (front ++ back)
among_front line [] back among = absurd among
among_front line (first ∷ front) back (inl same) = inl same
among_front line (first ∷ front) back (inr later) = inr (among_front line front back later)

pub among_back : (line : List ℕ) (front back : List (List ℕ)) → IsAmong line back → IsAmong line (front ++ back)
among_back line [] back among = among
among_back line (first ∷ front) back among = inr (among_back line front back among)

-- ---- lines without a flaw, and the first with one

-- a line with a tab, whose digits spell one image that is read, has no flaw
pub no_flaw : (seed : ℕ) (line image : List ℕ) → has_tab line ≡ true → bytes_of_hex (behind_tab line) ≡ Some image → is_followed (image_in line) ≡ false → IsReadable (image_in line) (seed_hash seed) → (flaw : LineFlaw) → IsFlawed seed line flaw → ⊥
no_flaw seed line image tab spelled alone read NoTab flawed = let e : true ≡ false = sym tab ∙ flawed in cc
no_flaw seed line image tab spelled alone read NoHex flawed = let e : Some image ≡ None = sym spelled ∙ flawed in cc
no_flaw seed line image tab spelled alone read (NoImage flaw) flawed = elim flawed.1 [ inl unread ↦ unread read | inr longer ↦ (let e : true ≡ false = sym longer ∙ alone in cc) ]

-- the lines so far are as many as were passed
pub record AreCounted {A P : Type 0} (seed lg_k passed : ℕ) (before lines : List (List ℕ)) (groups : BTreeMap (Vec ℕ A) (Union ℕ P)) : Type 0 where
  pub added : AreAdded seed lg_k before lines groups
  pub count : length lines ≡ passed

-- the line behind as many lines without a flaw
pub record IsBehind (seed passed : ℕ) (line : List ℕ) (lines : List (List ℕ)) : Type 0 where
  pub before : List (List ℕ)
  pub others : List (List ℕ)
  pub parted : lines ≡ before ++ line ∷ others
  pub flawless : AreFlawless seed before
  pub count : length before ≡ passed

module _ {A P : Type 0} (seed lg_k : ℕ) where
  -- one more line
  pub counted_more : (passed : ℕ) (before lines : List (List ℕ)) (line : List ℕ) (was now : BTreeMap (Vec ℕ A) (Union ℕ P)) → AreCounted seed lg_k passed before lines was → IsUniting seed lg_k ((before ++ lines) ++ line ∷ []) now → IsFlawless seed line → AreCounted seed lg_k (passed + 1) before (lines ++ line ∷ []) now
  counted_more passed before lines line was now so_far uniting flawless = record {
    added = record {
      uniting = subst (λ (ls : List (List ℕ)). IsUniting seed lg_k ls now) (append_assoc before lines (line ∷ [])) uniting;
      flawless = all_joined (IsFlawless seed) lines (line ∷ []) so_far.added.flawless (flawless, tt);
    };
    count = omega (arith, length-append lines (line ∷ []), so_far.count);
  }

  -- one more text
  pub added_more : (texts : List (List ℕ)) (text : List ℕ) (was now : BTreeMap (Vec ℕ A) (Union ℕ P)) → AreAdded seed lg_k [] (lines_of_all texts) was → AreAdded seed lg_k (lines_of_all texts) (lines_of text) now → AreAdded seed lg_k [] (lines_of_all (texts ++ text ∷ [])) now
  added_more texts text was now so_far more = record {
    uniting = subst (λ (ls : List (List ℕ)). IsUniting seed lg_k ls now) (sym (lines_of_more texts text)) more.uniting;
    flawless = subst (AreFlawless seed) (sym (lines_of_more texts text)) (all_joined (IsFlawless seed) (lines_of_all texts) (lines_of text) so_far.flawless more.flawless);
  }

  -- the line that was read is behind those so far
  pub read_behind : (passed : ℕ) (before : List (List ℕ)) (groups : BTreeMap (Vec ℕ A) (Union ℕ P)) (old now new : Option (List ℕ)) (bytes : List ℕ) → ContinuesLines old now (λ lines. AreCounted seed lg_k passed before lines groups) → ReadsLine now new bytes true →
      IfSome (option_map lines_of old) (IsBehind seed passed (without_lf bytes))
  read_behind passed before groups None now new bytes so_far read = tt
  read_behind passed before groups (Some text) None new bytes so_far read = absurd so_far
  read_behind passed before groups (Some text) (Some left) new bytes so_far read = record {
    before = so_far.0;
    others = lines_of read.0;
    parted = so_far.1 ∙ ap (λ ls. so_far.0 ++ ls) read.2;
    flawless = so_far.2.added.flawless;
    count = so_far.2.count;
  }

  -- the next source has the first line with a flaw
  first_next : {S : Type 0} (number : ℕ) (flaw : LineFlaw) (remaining : S → Option (List ℕ)) (groups : BTreeMap (Vec ℕ A) (Union ℕ P)) (old now new : Option (List (List ℕ))) (source : S) → Continues old now (λ taken. AreAdded seed lg_k [] (lines_of_all taken) groups) → GivesNext remaining now new (Some source) →
      ((before : List (List ℕ)) → IsUniting seed lg_k before groups → IfSome (option_map lines_of (remaining source)) (IsFirstFlawed seed number flaw)) → IfSome old (HasFirstFlawed seed number flaw)
  first_next number flaw remaining groups None now new source so_far next first = tt
  first_next number flaw remaining groups (Some texts) None new source so_far next first = absurd so_far
  first_next number flaw remaining groups (Some texts) (Some left) new source so_far next first = record {
    before = so_far.0;
    text = next.text;
    others = next.texts_left;
    parted = so_far.1 ∙ ap (λ ts. so_far.0 ++ ts) next.parted;
    flawless = so_far.2.flawless;
    flawed = subst (λ (o : Option (List ℕ)). IfSome (option_map lines_of o) (IsFirstFlawed seed number flaw)) next.has (first (lines_of_all so_far.0) so_far.2.uniting);
  }

  -- a source fails: so do all
  pub failed_next : {S : Type 0} (remaining : S → Option (List ℕ)) (groups : BTreeMap (Vec ℕ A) (Union ℕ P)) (old now new : Option (List (List ℕ))) (found : Option S) (source : S) (refusal : Option ErrorKind) (reason : UniteError) → Continues old now (λ taken. AreAdded seed lg_k [] (lines_of_all taken) groups) → GivesNext remaining now new found → found ≡ Some source →
      refusal ≡ None → IsOfLines reason → ((before : List (List ℕ)) → IsUniting seed lg_k before groups → ReportsFirst seed (option_map lines_of (remaining source)) reason) → IsUniteError seed refusal old reason
  failed_next remaining groups old now new found source refusal (Refused kind) so_far next is settled memory first = inr memory
  failed_next remaining groups old now new found source refusal (Failed error) so_far next is settled memory first = settled
  failed_next {S} remaining groups old now new found source refusal (Flawed number flaw) so_far next is settled memory first =
      (settled, first_next number flaw remaining groups old now new source so_far (subst (λ (o : Option S). GivesNext remaining now new o) is next) first)

-- what is reported of the line behind those without a flaw is reported of the first with one
pub first_at : (seed passed : ℕ) (line : List ℕ) (lines : Option (List (List ℕ))) (reason : UniteError) → IsOfLine seed passed line reason → IfSome lines (IsBehind seed passed line) → ReportsFirst seed lines reason
first_at seed passed line lines (Refused kind) is behind = tt
first_at seed passed line lines (Failed error) is behind = tt
first_at seed passed line None (Flawed number flaw) is behind = tt
first_at seed passed line (Some all) (Flawed number flaw) is behind = record {
  before = behind.before;
  line = line;
  others = behind.others;
  parted = behind.parted;
  flawless = behind.flawless;
  numbered = is.0 ∙ ap (λ (n : ℕ). min (n + 1) (2 ^ 64 - 1)) (sym behind.count);
  flawed = is.1;
}

-- ---- lines that are written one after another

-- the lines of names are the lines of the groups of images, if the sketches are the unions of these
pub united_lines : (seed lg_k : ℕ) (lines : List (List ℕ)) (sketch : List ℕ → Compact ℕ) (names : List (List ℕ)) (out : List ℕ) → AreUnionSketches seed lg_k lines sketch → out ≡ sketched_text sketch names → AreUnitedLines seed lg_k lines names out
united_lines seed lg_k lines sketch [] out are is = is
united_lines seed lg_k lines sketch (name ∷ names) out are is =
    let one = are name in
    (written (sketch name), sketched_text sketch names, (one.0, one.1, ap written one.2), is, united_lines seed lg_k lines sketch names (sketched_text sketch names) are refl)
