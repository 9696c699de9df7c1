-- Which tokens may follow one another.
use Rattle.std.proofs.Common.{◌≡◌, ℕ, ◌≤◌, ◌+◌, ◌-◌, Bool, true, false, List, [], ◌∷◌, ◌++◌, length, refl, sym, subst, ◌∙◌, arith, append-nil}
use Rattle.expression_text.specs.declared.operator.Step.{Step}
use Rattle.expression_text.specs.declared.parsing.Pending.{Pending}
use Rattle.expression_text.specs.Expressions.{Expression, Named, Grouped, Combined}
use Rattle.expression_text.specs.Grammar.{tokens_of, depth, most_levels, IsSpelled, SpellsNothing}
use Rattle.expression_text.specs.Tokens.{Lexeme, name, sign, opening, closing, IsText, IsToken, IsAfterBlanks, NoBlankFirst}
use Rattle.expression_text.specs.Reading.{Frame, group, left, tokens_before, open_groups, AreFrames, WantsOperand, HasOperand, IsReading, HasRead, CanFollow, NothingFollows, CanEnd}
use Rattle.expression_text.proofs.NextToken.{same_token, same_tokens, same_rest, token_unblank}

-- how many parentheses are open after a token, and whether it ends an operand
abbrev levels_after : Lexeme → ℕ → ℕ
levels_after (name word) l = l
levels_after (sign op) l = l
levels_after opening l = l + 1
levels_after closing l = l - 1

abbrev ends_operand : Lexeme → Bool
ends_operand (name word) = true
ends_operand (sign op) = false
ends_operand opening = false
ends_operand closing = true

-- tokens may follow one another, from one state to another
abbrev Follow : List Lexeme → (l : ℕ) → (c : Bool) → (m : ℕ) → (d : Bool) → Type 0
Follow [] l c m d = (l ≡ m) × (c ≡ d)
Follow (t ∷ ts) l c m d = CanFollow l c t × Follow ts (levels_after t l) (ends_operand t) m d

chained : (a b : List Lexeme) (l : ℕ) (c : Bool) (m : ℕ) (d : Bool) (n : ℕ) (e : Bool) → Follow a l c m d → Follow b m d n e → Follow (a ++ b) l c n e
chained [] b l c m d n e first second =
    let L : ℕ → Type 0 = λ k. Follow b k c n e in
    let C : Bool → Type 0 = λ f. Follow b m f n e in
    subst L (sym first.0) (subst C (sym first.1) second)
chained (t ∷ a) b l c m d n e first second = (first.0, chained a b (levels_after t l) (ends_operand t) m d n e first.1 second)

-- what follows some first tokens
behind : (a b : List Lexeme) (l : ℕ) (c : Bool) (m : ℕ) (d : Bool) (n : ℕ) (e : Bool) → Follow a l c m d → Follow (a ++ b) l c n e → Follow b m d n e
behind [] b l c m d n e first all =
    let L : ℕ → Type 0 = λ k. Follow b k d n e in
    let C : Bool → Type 0 = λ f. Follow b l f n e in
    subst L first.0 (subst C first.1 all)
behind (t ∷ a) b l c m d n e first all = behind a b (levels_after t l) (ends_operand t) m d n e first.1 all.1

less_one : (l : ℕ) → l + 1 - 1 ≡ l
less_one l = omega arith

tree_follows : (names : List (List ℕ)) (e : Expression) (l : ℕ) → l + depth e ≤ most_levels → Follow (tokens_of names e) l false l true
tree_follows names (Named i) l deep = (refl, (refl, refl))
tree_follows names (Grouped e) l deep =
    ((refl, omega (arith, deep)), chained (tokens_of names e) (closing ∷ []) (l + 1) false (l + 1) true l true (tree_follows names e (l + 1) (omega (arith, deep))) ((refl, omega arith), (less_one l, refl)))
tree_follows names (Combined op a b) l deep =
    chained (tokens_of names a) (sign op ∷ tokens_of names b) l false l true l true (tree_follows names a l (omega (arith, deep))) (refl, tree_follows names b l (omega (arith, deep)))

frames_follow : (names : List (List ℕ)) (count : ℕ) (frames : List Frame) → AreFrames count frames → open_groups frames ≤ most_levels → Follow (tokens_before names frames) 0 false (open_groups frames) false
frames_follow names count [] sound limited = (refl, refl)
frames_follow names count (group ∷ frames) sound limited =
    chained (tokens_before names frames) (opening ∷ []) 0 false (open_groups frames) false (open_groups frames + 1) false
    (frames_follow names count frames sound (omega (arith, limited))) ((refl, omega (arith, limited)), (refl, refl))
frames_follow names count (left a op ∷ frames) sound limited =
    chained (tokens_before names frames) (tokens_of names a ++ sign op ∷ []) 0 false (open_groups frames) false (open_groups frames) false
    (frames_follow names count frames sound.3 limited)
    (chained (tokens_of names a) (sign op ∷ []) (open_groups frames) false (open_groups frames) true (open_groups frames) false (tree_follows names a (open_groups frames) sound.0.deep) (refl, (refl, refl)))

wants_follow : (tokens : List Lexeme) (names : List (List ℕ)) (pending : List Pending) (steps : List Step) (levels : ℕ) → WantsOperand tokens names pending steps levels → Follow tokens 0 false levels false
wants_follow tokens names pending steps levels wants =
    let T : List Lexeme → Type 0 = λ ts. Follow ts 0 false levels false in
    let L : ℕ → Type 0 = λ n. Follow (tokens_before (names ++ []) wants.frames) 0 false n false in
    subst T (sym (wants.tokens_are [])) (subst L (sym wants.around.levels_are) (frames_follow (names ++ []) (length names) wants.frames wants.around.sound wants.limited))

has_follow : (tokens : List Lexeme) (names : List (List ℕ)) (pending : List Pending) (steps : List Step) (levels : ℕ) → HasOperand 3 tokens names pending steps levels → Follow tokens 0 false levels true
has_follow tokens names pending steps levels has =
    let all = names ++ [] in
    let open_now = open_groups has.frames in
    let T : List Lexeme → Type 0 = λ ts. Follow ts 0 false levels true in
    let L : ℕ → Type 0 = λ n. Follow (tokens_before all has.frames ++ tokens_of all has.tree) 0 false n true in
    subst T (sym (has.tokens_are [])) (subst L (sym has.around.levels_are)
    (chained (tokens_before all has.frames) (tokens_of all has.tree) 0 false open_now false open_now true
    (frames_follow all (length names) has.frames has.around.sound (omega (arith, has.operand.deep))) (tree_follows all has.tree open_now has.operand.deep)))

reading_follows : (tokens : List Lexeme) (names : List (List ℕ)) (pending : List Pending) (steps : List Step) (levels : ℕ) (after : Bool) → IsReading tokens names pending steps levels after → Follow tokens 0 false levels after
reading_follows tokens names pending steps levels true reading = has_follow tokens names pending steps levels reading
reading_follows tokens names pending steps levels false reading = wants_follow tokens names pending steps levels reading

spelled_follows : (text : List ℕ) (names : List (List ℕ)) (tree : Expression) → (spelled : IsSpelled text names tree) → Follow spelled.tokens 0 false 0 true
spelled_follows text names tree spelled =
    let T : List Lexeme → Type 0 = λ ts. Follow ts 0 false 0 true in
    subst T (sym spelled.are_tokens) (tree_follows names tree 0 (omega (arith, spelled.deep)))

-- ---- why a text spells nothing

blank_text : (before rest : List ℕ) → IsAfterBlanks before rest → NoBlankFirst rest → IsAfterBlanks before [] → rest ≡ []
blank_text before rest blanks trimmed none = same_rest before rest [] blanks none trimmed tt

stuck_at : (text rest before : List ℕ) (levels : ℕ) (after : Bool) (more : List Lexeme) → IsAfterBlanks before rest → NoBlankFirst rest → (rest ≡ [] → ⊥) → NothingFollows levels after rest → IsText more before → Follow more levels after 0 true → ⊥
stuck_at text rest before levels after [] blanks trimmed some stuck is follow = some (blank_text before rest blanks trimmed is)
stuck_at text rest before levels after (t ∷ more) blanks trimmed some stuck is follow =
    let from : is.1.from ≡ rest = same_rest before is.1.from rest is.1.after_blanks blanks (token_unblank t is.1.from is.0 is.1.token) trimmed in
    let T : List ℕ → Type 0 = λ ts. IsToken t ts is.0 in
    stuck t is.0 (subst T from is.1.token) follow.0

-- the next token of a text may not follow
pub stuck : (text rest : List ℕ) (names : List (List ℕ)) (pending : List Pending) (steps : List Step) (levels : ℕ) (after : Bool) → HasRead text rest names pending steps levels after → (rest ≡ [] → ⊥) → NothingFollows levels after rest → SpellsNothing text
stuck text rest names pending steps levels after has some cannot = λ others tree spelled.
    let end = has.parted spelled.tokens spelled.is_text in
    let T : List Lexeme → Type 0 = λ ts. Follow ts 0 false 0 true in
    let all = subst T end.parted (spelled_follows text others tree spelled) in
    stuck_at text rest has.before levels after end.more has.blanks has.trimmed some cannot end.is_text
    (behind has.tokens end.more 0 false levels after 0 true (reading_follows has.tokens names pending steps levels after has.reading) all)

-- or it ends too early
pub unended : (text : List ℕ) (tokens : List Lexeme) (names : List (List ℕ)) (pending : List Pending) (steps : List Step) (levels : ℕ) (after : Bool) → IsText tokens text → IsReading tokens names pending steps levels after → (CanEnd levels after → ⊥) → SpellsNothing text
unended text tokens names pending steps levels after is reading cannot = λ others tree spelled.
    let same : spelled.tokens ≡ tokens ++ [] = same_tokens spelled.tokens tokens text spelled.is_text is ∙ sym (append-nil tokens) in
    let T : List Lexeme → Type 0 = λ ts. Follow ts 0 false 0 true in
    let last = behind tokens [] 0 false levels after 0 true (reading_follows tokens names pending steps levels after reading) (subst T same (spelled_follows text others tree spelled)) in
    cannot (last.0, last.1)

-- a text's token may not follow
pub only_token : (text rest : List ℕ) (t : Lexeme) (levels : ℕ) (after : Bool) → IsToken t text rest → (CanFollow levels after t → ⊥) → NothingFollows levels after text
only_token text rest t levels after token never = λ u more other follow.
    never (subst (CanFollow levels after) (sym (same_token t u text rest more token other).0) follow)
