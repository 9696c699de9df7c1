-- A line that is read piece by piece.
use Rattle.std.proofs.Common.{◌≡◌, ◌≢◌, ℕ, ◌+◌, ◌≤◌, ◌==◌, Bool, true, false, List, [], ◌∷◌, ◌++◌, Option, Some, None, All, length, length-append, take, take_all, le_refl, ne_eqb, refl, sym, ap, subst, ◌∙◌, arith, append_assoc}
use Rattle.std.specs.Prelude.{IfSome, OnSome}
use Rattle.std.specs.Io.KnownBytes.{Keeps, Consumes, IsAtEnd}
use Rattle.std.specs.Io.BufRead.{take_through, drop_through, DropsThrough}
use Rattle.std.proofs.BufReadLemmas.{take_through-append, drop_through-append}
use Rattle.std.proofs.lemmas.List.{take_at}
use Rattle.std.proofs.lemmas.List.Elements.{All-from_get_or}
use Rattle.keys_lines.specs.Lines.{Lacks}
use Rattle.keys_sketches.specs.WholeLines.{Continues}

all_others : (piece : List ℕ) → Lacks 10 piece → All (λ x. x ≢ 10) piece
all_others piece lacks = All-from_get_or (λ x. x ≢ 10) piece 0 (λ i inside. lacks i inside)

-- nothing was appended
pub nothing_read : (text rest : Option (List ℕ)) (line : List ℕ) → Keeps text rest → Continues false text rest line line
nothing_read None rest line kept = tt
nothing_read (Some text) None line kept = absurd kept
nothing_read (Some text) (Some rest) line kept = (ap (λ t. line ++ take_through 10 t) kept, ap (drop_through 10) kept)

-- a piece without an LF
pub piece_read : (text rest : Option (List ℕ)) (piece line : List ℕ) → Consumes text rest piece → Lacks 10 piece → Continues false text rest line (line ++ piece)
piece_read None rest piece line moved lacks = tt
piece_read (Some text) None piece line moved lacks = absurd moved
piece_read (Some text) (Some rest) piece line moved lacks =
    let others = all_others piece lacks in (
      append_assoc line piece (take_through 10 rest) ∙ ap (λ l. line ++ l) (sym (ap (take_through 10) moved ∙ take_through-append 10 piece rest others)),
      sym (ap (drop_through 10) moved ∙ drop_through-append 10 piece rest others),
    )

-- the piece that ends the line
pub end_read : (text rest : Option (List ℕ)) (front line : List ℕ) → Consumes text rest (front ++ 10 ∷ []) → Lacks 10 front → Continues true text rest line (line ++ (front ++ 10 ∷ []))
end_read None rest front line moved lacks = tt
end_read (Some text) None front line moved lacks = absurd moved
end_read (Some text) (Some rest) front line moved lacks =
    let others = all_others front lacks in
    let whole : text ≡ front ++ 10 ∷ rest = moved ∙ append_assoc front (10 ∷ []) rest in (
      ap (λ l. line ++ l) (sym (ap (take_through 10) whole ∙ take_through-append 10 front (10 ∷ rest) others)),
      sym (ap (drop_through 10) whole ∙ drop_through-append 10 front (10 ∷ rest) others),
    )

-- no piece at the end of the text
pub text_read : (text rest : Option (List ℕ)) (line : List ℕ) → Consumes text rest [] → OnSome text (IsAtEnd rest) → Continues true text rest line (line ++ [])
text_read None rest line moved ends = tt
text_read (Some text) None line moved ends = absurd moved
text_read (Some text) (Some rest) line moved ends =
    let nothing : text ≡ [] = moved ∙ ends in
    (ap (λ t. line ++ take_through 10 t) (sym nothing), ends ∙ ap (drop_through 10) (sym nothing))

-- as much as the reader showed, through an LF
pub cut_length : (shown front behind : List ℕ) (count : ℕ) → count ≡ length front + 1 → shown ≡ front ++ 10 ∷ behind → count ≤ length shown
cut_length shown front behind count counted parts = omega (arith, counted, ap length parts ∙ length-append front (10 ∷ behind))

pub cut_read : (text rest : Option (List ℕ)) (shown front behind line new : List ℕ) (count : ℕ) (is_done : Bool) → count ≡ length front + 1 → is_done ≡ true → shown ≡ front ++ 10 ∷ behind → Lacks 10 front → Consumes text rest (take count shown) → new ≡ line ++ take count shown →
    Continues is_done text rest line new
cut_read text rest shown front behind line new count is_done counted done parts lacks moved items =
    let piece : take count shown ≡ front ++ 10 ∷ [] = ap (take count) (parts ∙ sym (append_assoc front (10 ∷ []) behind)) ∙ take_at (front ++ 10 ∷ []) behind count (length-append front (10 ∷ []) ∙ sym counted) in
    subst (λ d. Continues d text rest line new) (sym done) (subst (Continues true text rest line) (sym (items ∙ ap (λ p. line ++ p) piece)) (end_read text rest front line (subst (Consumes text rest) piece moved) lacks))

-- and all of it, without one
pub uncut_read : (text rest : Option (List ℕ)) (shown line new : List ℕ) (count : ℕ) (is_done : Bool) → count ≡ length shown → is_done ≡ (length shown == 0) → Lacks 10 shown → Consumes text rest (take count shown) → (length shown ≡ 0 → OnSome text (IsAtEnd rest)) → new ≡ line ++ take count shown →
    Continues is_done text rest line new
uncut_read text rest [] line new count is_done counted done lacks moved ends items =
    let piece : take count [] ≡ [] = ap (λ n. take n []) counted in
    subst (λ d. Continues d text rest line new) (sym done) (subst (Continues true text rest line) (sym (items ∙ ap (λ p. line ++ p) piece)) (text_read text rest line (subst (Consumes text rest) piece moved) (ends refl)))
uncut_read text rest (byte ∷ bytes) line new count is_done counted done lacks moved ends items =
    let piece : take count (byte ∷ bytes) ≡ byte ∷ bytes = ap (λ n. take n (byte ∷ bytes)) counted ∙ take_all (length (byte ∷ bytes)) (byte ∷ bytes) (le_refl _) in
    subst (λ d. Continues d text rest line new) (sym (done ∙ ne_eqb (length (byte ∷ bytes)) 0 (λ none. absurd (omega (arith, none))))) (subst (Continues false text rest line) (sym (items ∙ ap (λ p. line ++ p) piece)) (piece_read text rest (byte ∷ bytes) line (subst (Consumes text rest) piece moved) lacks))

-- one piece after others
pub more_read : (is_done : Bool) (text rest last : Option (List ℕ)) (before line new : List ℕ) → Continues false text rest before line → Continues is_done rest last line new → Continues is_done text last before new
more_read is_done None rest last before line new first second = tt
more_read is_done (Some text) None last before line new first second = absurd first
more_read true (Some text) (Some rest) None before line new first second = absurd second
more_read false (Some text) (Some rest) None before line new first second = absurd second
more_read true (Some text) (Some rest) (Some last) before line new first second = (second.0 ∙ first.0, second.1 ∙ first.1)
more_read false (Some text) (Some rest) (Some last) before line new first second = (second.0 ∙ first.0, second.1 ∙ first.1)

-- the whole line
pub line_read : (text rest : Option (List ℕ)) (before line : List ℕ) → Continues true text rest before line → IfSome text (λ xs. line ≡ before ++ take_through 10 xs) × DropsThrough text rest 10
line_read None rest before line read = (tt, tt)
line_read (Some text) None before line read = absurd read
line_read (Some text) (Some rest) before line read = (read.0, ap Some read.1)
