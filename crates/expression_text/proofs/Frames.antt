-- What is pending between two tokens, from one token to the next.
use Rattle.std.proofs.Common.{◌≡◌, ℕ, eqb, ◌<◌, ◌≤◌, ◌+◌, Bool, true, false, List, [], ◌∷◌, ◌++◌, length, get_or, refl, ap, sym, subst, ◌∙◌, arith, inl, inr, append_assoc, append-nil}
use Rattle.std.proofs.lemmas.List.{same_from_push, get_or_append_left, nil_from_length, length-map, get_or-map}
use Rattle.std.proofs.lemmas.Slice.Eq.{bytes_eq-Decides}
use Rattle.std.proofs.lemmas.Bool.{cases_lt}
use Rattle.std.specs.Str.{bytes_eq}
use Rattle.std.proofs.Common.{map}
use Rattle.std.proofs.Common.{length-append}
use Rattle.expression_text.specs.declared.operator.Operator.{Operator}
use Rattle.expression_text.specs.declared.operator.Operator.TheVariants.{Union, Intersection, Difference}
use Rattle.expression_text.specs.declared.operator.Step.{Step}
use Rattle.expression_text.specs.declared.operator.Step.TheVariants.{Operand, Combine}
use Rattle.expression_text.specs.declared.parsing.Pending.{Pending}
use Rattle.expression_text.specs.declared.parsing.Pending.TheVariants.{Group, Sign}
use Rattle.expression_text.specs.Expressions.{Expression, Named, Grouped, Combined, postfix}
use Rattle.expression_text.specs.Grammar.{tokens_of, names_in, strength, level, IsExpressionText}
use Rattle.expression_text.specs.Tokens.{Lexeme, name, sign, opening, closing, IsText}
use Rattle.expression_text.specs.Reading.{HasName, with_name, IsIndexed, Frame, group, left, pending_of, tokens_before, steps_before, open_groups, IsAbove, IsOperand, AreFrames, LacksSign, WantsOperand, HasOperand, IsSettled, IsReading}
use Rattle.expression_text.proofs.FirstNames.{name_added, none_added}

-- ---- the last one pending

no_push : {X : Type 0} (xs : List X) (x : X) → xs ++ x ∷ [] ≡ [] → ⊥
no_push [] x e = absurd (cc)
no_push (y ∷ xs) x e = absurd (cc)

operator_of : Pending → Operator
operator_of Group = Union
operator_of (Sign op) = op

same_sign : (a b : Operator) → Sign a ≡ Sign b → a ≡ b
unfolding operator_of
same_sign a b e = ap operator_of e

-- ---- strengths

pub strength-limited : (op : Operator) → strength op < 3
strength-limited Union = omega arith
strength-limited Intersection = omega arith
strength-limited Difference = omega arith

above_atom : (frames : List Frame) → IsAbove 3 frames
above_atom [] = tt
above_atom (group ∷ frames) = tt
above_atom (left a op ∷ frames) = strength-limited op

above_settled : (s : ℕ) (frames : List Frame) (pending : List Pending) → pending ≡ pending_of frames → LacksSign s pending → IsAbove s frames
above_settled s [] pending are settled = tt
above_settled s (group ∷ frames) pending are settled = tt
above_settled s (left a op ∷ frames) pending are settled = settled (pending_of frames) op are

pub looser : (least : ℕ) (tokens : List Lexeme) (names : List (List ℕ)) (pending : List Pending) (steps : List Step) (levels : ℕ) → least ≤ 3 → HasOperand 3 tokens names pending steps levels → HasOperand least tokens names pending steps levels
looser least tokens names pending steps levels le has =
    record { frames = has.frames; tree = has.tree; around = has.around; named = has.named; operand = has.operand; above = has.above; tight = omega (arith, has.tight, le); tokens_are = has.tokens_are; steps_are = has.steps_are }

-- ---- more names

operand_more : (n m : ℕ) (frames : List Frame) (e : Expression) → n ≤ m → IsOperand n frames e → IsOperand m frames e
operand_more n m frames e le operand = record { bound = operand.bound; deep = operand.deep; within = λ k above. operand.within k (omega (arith, le, above)) }

frames_more : (n m : ℕ) (frames : List Frame) → n ≤ m → AreFrames n frames → AreFrames m frames
frames_more n m [] le sound = tt
frames_more n m (group ∷ frames) le sound = frames_more n m frames le sound
frames_more n m (left a op ∷ frames) le sound = (operand_more n m frames a le sound.0, sound.1, sound.2, frames_more n m frames le sound.3)

length_more : (old more new : List (List ℕ)) → new ≡ old ++ more → length old ≤ length new
length_more old more new is = rw is (omega (arith, length-append old more))

-- ---- token by token

module _ (tokens : List Lexeme) (names : List (List ℕ)) (pending : List Pending) (steps : List Step) (levels : ℕ) where
  pub name_read : (new : List (List ℕ)) (word : List ℕ) (i : ℕ) → WantsOperand tokens names pending steps levels → IsIndexed names new word i → HasOperand 3 (tokens ++ name word ∷ []) new pending (steps ++ Operand i ∷ []) levels
  name_read new word i wants at = record {
    frames = wants.frames;
    tree = Named i;
    around = record { pending_are = wants.around.pending_are; levels_are = wants.around.levels_are; sound = frames_more (length names) (length new) wants.frames (length_more names at.more new at.appended) wants.around.sound };
    named = at.named ∙ ap (λ ns. with_name ns word) wants.named ∙ sym (name_added tokens word);
    operand = record { bound = tt; deep = omega (arith, wants.limited); within = λ n le. omega (arith, at.found.inside, le) };
    above = above_atom wants.frames;
    tight = omega arith;
    tokens_are = λ more.
        let all = new ++ more in
        let same : all ≡ names ++ (at.more ++ more) = ap (λ ns. ns ++ more) at.appended ∙ append_assoc names at.more more in
        let before : tokens ≡ tokens_before all wants.frames = wants.tokens_are (at.more ++ more) ∙ ap (λ ns. tokens_before ns wants.frames) (sym same) in
        let spelled : word ≡ get_or all i [] = sym (get_or_append_left new more [] i at.found.inside ∙ at.found.same) in
        ap (λ ts. ts ++ name word ∷ []) before ∙ ap (λ (w : List ℕ). tokens_before all wants.frames ++ name w ∷ []) spelled;
    steps_are = ap (λ ss. ss ++ Operand i ∷ []) wants.steps_are;
  }

  pub sign_read : (op : Operator) → IsSettled (strength op) tokens names pending steps levels → WantsOperand (tokens ++ sign op ∷ []) names (pending ++ Sign op ∷ []) steps levels
  sign_read op settled =
      let has = settled.has in record {
        frames = left has.tree op ∷ has.frames;
        around = record {
          pending_are = ap (λ ps. ps ++ Sign op ∷ []) has.around.pending_are;
          levels_are = has.around.levels_are;
          sound = (has.operand, has.tight, above_settled (strength op) has.frames pending has.around.pending_are settled.settled, has.around.sound);
        };
        named = has.named ∙ sym (none_added tokens (sign op ∷ []) refl);
        tokens_are = λ more. ap (λ ts. ts ++ sign op ∷ []) (has.tokens_are more) ∙ append_assoc (tokens_before (names ++ more) has.frames) (tokens_of (names ++ more) has.tree) (sign op ∷ []);
        steps_are = has.steps_are;
        limited = omega (arith, has.operand.deep);
      }

  pub opening_read : WantsOperand tokens names pending steps levels → levels < 64 → WantsOperand (tokens ++ opening ∷ []) names (pending ++ Group ∷ []) steps (levels + 1)
  opening_read wants limited = record {
    frames = group ∷ wants.frames;
    around = record { pending_are = ap (λ ps. ps ++ Group ∷ []) wants.around.pending_are; levels_are = ap (λ n. n + 1) wants.around.levels_are; sound = wants.around.sound };
    named = wants.named ∙ sym (none_added tokens (opening ∷ []) refl);
    tokens_are = λ more. ap (λ ts. ts ++ opening ∷ []) (wants.tokens_are more);
    steps_are = wants.steps_are;
    limited = omega (arith, wants.around.levels_are, limited);
  }

  -- an operator that was pending is combined
  combined_frames : (least : ℕ) (new : List Pending) (op : Operator) (frames : List Frame) (tree : Expression) → least ≤ strength op → new ++ Sign op ∷ [] ≡ pending_of frames → levels ≡ open_groups frames → names ≡ names_in tokens →
      AreFrames (length names) frames → IsOperand (length names) frames tree → IsAbove (level tree) frames → ((more : List (List ℕ)) → tokens ≡ tokens_before (names ++ more) frames ++ tokens_of (names ++ more) tree) →
      steps ≡ steps_before frames ++ postfix tree → HasOperand least tokens names new (steps ++ Combine op ∷ []) levels
  combined_frames least new op [] tree le are opened named sound operand above tokens_are steps_are = absurd (no_push new (Sign op) are)
  combined_frames least new op (group ∷ frames) tree le are opened named sound operand above tokens_are steps_are =
      let both : Sign op ≡ Group = (same_from_push new (pending_of frames) (Sign op) Group are).1 in absurd (cc)
  combined_frames least new op (left a last ∷ frames) tree le are opened named sound operand above tokens_are steps_are =
      let parts = same_from_push new (pending_of frames) (Sign op) (Sign last) are in
      let same : op ≡ last = same_sign op last parts.1 in
      let P : Operator → Type 0 = λ o. HasOperand least tokens names new (steps ++ Combine o ∷ []) levels in
      subst P (sym same) (record {
        frames = frames;
        tree = Combined last a tree;
        around = record { pending_are = parts.0; levels_are = opened; sound = sound.3 };
        named = named;
        operand = record { bound = (sound.1, above, sound.0.bound, operand.bound); deep = omega (arith, sound.0.deep, operand.deep); within = λ n within. (sound.0.within n within, operand.within n within) };
        above = sound.2;
        tight = subst (λ (o : Operator). least ≤ strength o) same le;
        tokens_are = λ more.
            let all = names ++ more in
            tokens_are more ∙ append_assoc (tokens_before all frames) (tokens_of all a ++ sign last ∷ []) (tokens_of all tree)
            ∙ ap (λ ts. tokens_before all frames ++ ts) (append_assoc (tokens_of all a) (sign last ∷ []) (tokens_of all tree));
        steps_are =
            ap (λ ss. ss ++ Combine last ∷ []) steps_are ∙ append_assoc (steps_before frames ++ postfix a) (postfix tree) (Combine last ∷ [])
            ∙ append_assoc (steps_before frames) (postfix a) (postfix tree ++ Combine last ∷ []);
      })

  pub sign_combined : (least : ℕ) (new : List Pending) (op : Operator) → HasOperand least tokens names pending steps levels → pending ≡ new ++ Sign op ∷ [] → least ≤ strength op → HasOperand least tokens names new (steps ++ Combine op ∷ []) levels
  sign_combined least new op has is le =
      combined_frames least new op has.frames has.tree le (sym is ∙ has.around.pending_are) has.around.levels_are has.named has.around.sound has.operand has.above has.tokens_are has.steps_are

  closed_frames : (new : List Pending) (last : Pending) (fewer : ℕ) (frames : List Frame) (tree : Expression) → levels ≡ fewer + 1 → LacksSign 0 pending → pending ≡ new ++ last ∷ [] → pending ≡ pending_of frames → levels ≡ open_groups frames → names ≡ names_in tokens →
      AreFrames (length names) frames → IsOperand (length names) frames tree → ((more : List (List ℕ)) → tokens ≡ tokens_before (names ++ more) frames ++ tokens_of (names ++ more) tree) → steps ≡ steps_before frames ++ postfix tree →
      HasOperand 3 (tokens ++ closing ∷ []) names new steps fewer
  closed_frames new last fewer [] tree some settled is are opened named sound operand tokens_are steps_are = absurd (omega (arith, some, opened))
  closed_frames new last fewer (left a op ∷ frames) tree some settled is are opened named sound operand tokens_are steps_are = absurd (omega (arith, settled (pending_of frames) op are))
  closed_frames new last fewer (group ∷ frames) tree some settled is are opened named sound operand tokens_are steps_are = record {
    frames = frames;
    tree = Grouped tree;
    around = record { pending_are = (same_from_push new (pending_of frames) last Group (sym is ∙ are)).0; levels_are = omega (arith, some, opened); sound = sound };
    named = named ∙ sym (none_added tokens (closing ∷ []) refl);
    operand = record { bound = operand.bound; deep = omega (arith, operand.deep); within = operand.within };
    above = above_atom frames;
    tight = omega arith;
    tokens_are = λ more.
        let all = names ++ more in
        ap (λ ts. ts ++ closing ∷ []) (tokens_are more) ∙ append_assoc (tokens_before all frames ++ opening ∷ []) (tokens_of all tree) (closing ∷ [])
        ∙ append_assoc (tokens_before all frames) (opening ∷ []) (tokens_of all tree ++ closing ∷ []);
    steps_are = steps_are;
  }

  pub closing_read : (new : List Pending) (last : Pending) (fewer : ℕ) → IsSettled 0 tokens names pending steps levels → levels ≡ fewer + 1 → pending ≡ new ++ last ∷ [] → HasOperand 3 (tokens ++ closing ∷ []) names new steps fewer
  closing_read new last fewer settled some is =
      let has = settled.has in
      closed_frames new last fewer has.frames has.tree some settled.settled is has.around.pending_are has.around.levels_are has.named has.around.sound has.operand has.tokens_are has.steps_are

  ended_frames : (text : List ℕ) (frames : List Frame) (tree : Expression) → IsText tokens text → pending ≡ [] → LacksSign 0 pending → pending ≡ pending_of frames → names ≡ names_in tokens → IsOperand (length names) frames tree →
      ((more : List (List ℕ)) → tokens ≡ tokens_before (names ++ more) frames ++ tokens_of (names ++ more) tree) → steps ≡ steps_before frames ++ postfix tree → IsExpressionText text names steps
  ended_frames text (group ∷ frames) tree is none settled are named operand tokens_are steps_are = absurd (no_push (pending_of frames) Group (sym are ∙ none))
  ended_frames text (left a op ∷ frames) tree is none settled are named operand tokens_are steps_are = absurd (no_push (pending_of frames) (Sign op) (sym are ∙ none))
  ended_frames text [] tree is none settled are named operand tokens_are steps_are = record {
    tree = tree;
    spelled = record {
      tokens = tokens;
      is_text = is;
      are_tokens = tokens_are [] ∙ ap (λ ns. tokens_of ns tree) (append-nil names);
      bound = operand.bound;
      deep = omega (arith, operand.deep);
      within = operand.within (length names) (omega arith);
    };
    names_are = named;
    steps_are = steps_are;
  }

  pub end_read : (text : List ℕ) → IsText tokens text → IsSettled 0 tokens names pending steps levels → length pending ≡ 0 → IsExpressionText text names steps
  end_read text is settled none =
      let has = settled.has in
      ended_frames text has.frames has.tree is (nil_from_length pending none) settled.settled has.around.pending_are has.named has.operand has.tokens_are has.steps_are

-- ---- the state from one token to the next

module _ (tokens : List Lexeme) (names : List (List ℕ)) (pending : List Pending) (steps : List Step) (levels : ℕ) where
  wanted : (after : Bool) → after ≡ false → IsReading tokens names pending steps levels after → WantsOperand tokens names pending steps levels
  wanted true e reading = absurd (cc)
  wanted false e reading = reading

  had : (after : Bool) → after ≡ true → IsReading tokens names pending steps levels after → HasOperand 3 tokens names pending steps levels
  had true e reading = reading
  had false e reading = absurd (cc)

  pub name_reading : (after : Bool) (new_names : List (List ℕ)) (word : List ℕ) (i : ℕ) (new_steps : List Step) → after ≡ false → IsIndexed names new_names word i → new_steps ≡ steps ++ Operand i ∷ [] →
      IsReading tokens names pending steps levels after → IsReading (tokens ++ name word ∷ []) new_names pending new_steps levels true
  name_reading after new_names word i new_steps not_after at pushed reading =
      let P : List Step → Type 0 = λ ss. HasOperand 3 (tokens ++ name word ∷ []) new_names pending ss levels in
      subst P (sym pushed) (name_read tokens names pending steps levels new_names word i (wanted after not_after reading) at)

  pub sign_reading : (after : Bool) (op : Operator) (least : ℕ) (settled new : List Pending) (new_steps : List Step) → after ≡ true → least ≡ strength op →
      (HasOperand least tokens names pending steps levels → IsSettled least tokens names settled new_steps levels) → new ≡ settled ++ Sign op ∷ [] →
      IsReading tokens names pending steps levels after → IsReading (tokens ++ sign op ∷ []) names new new_steps levels false
  sign_reading after op least settled new new_steps is_after same settles pushed reading =
      let limited : least ≤ 3 = omega (arith, same, strength-limited op) in
      let all : IsSettled least tokens names settled new_steps levels = settles (looser least tokens names pending steps levels limited (had after is_after reading)) in
      let S : ℕ → Type 0 = λ n. IsSettled n tokens names settled new_steps levels in
      let P : List Pending → Type 0 = λ ps. WantsOperand (tokens ++ sign op ∷ []) names ps new_steps levels in
      subst P (sym pushed) (sign_read tokens names settled new_steps levels op (subst S same all))

  pub opening_reading : (after : Bool) (new : List Pending) → after ≡ false → levels < 64 → new ≡ pending ++ Group ∷ [] → IsReading tokens names pending steps levels after → IsReading (tokens ++ opening ∷ []) names new steps (levels + 1) after
  opening_reading true new not_after limited pushed reading = absurd (cc)
  opening_reading false new not_after limited pushed reading =
      let P : List Pending → Type 0 = λ ps. WantsOperand (tokens ++ opening ∷ []) names ps steps (levels + 1) in
      subst P (sym pushed) (opening_read tokens names pending steps levels reading limited)

  pub closing_reading : (after : Bool) (settled new : List Pending) (last : Pending) (new_steps : List Step) (fewer : ℕ) → after ≡ true → levels ≡ fewer + 1 →
      (HasOperand 0 tokens names pending steps levels → IsSettled 0 tokens names settled new_steps levels) → settled ≡ new ++ last ∷ [] →
      IsReading tokens names pending steps levels after → IsReading (tokens ++ closing ∷ []) names new new_steps fewer after
  closing_reading true settled new last new_steps fewer is_after some settles popped reading =
      closing_read tokens names settled new_steps levels new last fewer (settles (looser 0 tokens names pending steps levels (omega arith) reading)) some popped
  closing_reading false settled new last new_steps fewer is_after some settles popped reading = absurd (cc)

  pub end_reading : (after : Bool) (settled : List Pending) (new_steps : List Step) (text : List ℕ) → after ≡ true → (HasOperand 0 tokens names pending steps levels → IsSettled 0 tokens names settled new_steps levels) →
      length settled ≡ 0 → IsText tokens text → IsReading tokens names pending steps levels after → IsExpressionText text names new_steps
  end_reading after settled new_steps text is_after settles none is reading =
      end_read tokens names settled new_steps levels text is (settles (looser 0 tokens names pending steps levels (omega arith) (had after is_after reading))) none

-- ---- why a token may not follow

none_open : (frames : List Frame) → [] ≡ pending_of frames → open_groups frames ≡ 0
none_open [] none = refl
none_open (group ∷ frames) none = absurd (no_push (pending_of frames) Group (sym none))
none_open (left a op ∷ frames) none = absurd (no_push (pending_of frames) (Sign op) (sym none))

some_open : (pending : List Pending) (frames : List Frame) → LacksSign 0 pending → (length pending ≡ 0 → ⊥) → pending ≡ pending_of frames → 0 < open_groups frames
some_open pending [] settled some are = absurd (some (ap length are))
some_open pending (group ∷ frames) settled some are = omega arith
some_open pending (left a op ∷ frames) settled some are = absurd (omega (arith, settled (pending_of frames) op are))

pub some_listed : {X : Type 0} (list items : List X) → false ≡ eqb (length list) 0 → list ≡ items → length items ≡ 0 → ⊥
some_listed list items some same none =
    let both : false ≡ true = some ∙ ap (λ xs. eqb (length xs) 0) same ∙ ap (λ n. eqb n 0) none in absurd (cc)

module _ (tokens : List Lexeme) (names : List (List ℕ)) (pending : List Pending) (steps : List Step) (levels : ℕ) where
  -- no parenthesis is open if nothing is pending
  pub none_closed : (after : Bool) (settled : List Pending) (new_steps : List Step) → (HasOperand 0 tokens names pending steps levels → IsSettled 0 tokens names settled new_steps levels) → length settled ≡ 0 →
      IsReading tokens names pending steps levels after → after ≡ true → 0 < levels → ⊥
  none_closed true settled new_steps settles none reading is_after some =
      let all = settles (looser 0 tokens names pending steps levels (omega arith) reading) in
      let has = all.has in
      omega (arith, some, has.around.levels_are, none_open has.frames (sym (nil_from_length settled none) ∙ has.around.pending_are))
  none_closed false settled new_steps settles none reading is_after some = absurd (cc)

  -- some parenthesis is open if something is pending at the end
  pub some_unclosed : (after : Bool) (settled : List Pending) (new_steps : List Step) → (HasOperand 0 tokens names pending steps levels → IsSettled 0 tokens names settled new_steps levels) → (length settled ≡ 0 → ⊥) →
      IsReading tokens names pending steps levels after → after ≡ true → levels ≡ 0 → ⊥
  some_unclosed true settled new_steps settles some reading is_after none =
      let all = settles (looser 0 tokens names pending steps levels (omega arith) reading) in
      let has = all.has in
      omega (arith, none, has.around.levels_are, some_open settled has.frames all.settled some has.around.pending_are)
  some_unclosed false settled new_steps settles some reading is_after none = absurd (cc)

-- ---- names

pub name_found : {V : Type 0} (items : V → List ℕ) (names : List V) (word found : List ℕ) (i : ℕ) (d : V) → i < length names → d ≡ get_or names i d → found ≡ items d → bytes_eq found word ≡ true → HasName (map items names) word i
name_found items names word found i d lt is has same = record {
  inside = omega (arith, lt, length-map names items);
  same = get_or-map items names i d [] lt ∙ ap items (sym is) ∙ sym has ∙ (bytes_eq-Decides found word).0 same;
}

-- no name up to a place is the word
pub other_names : {V : Type 0} (items : V → List ℕ) (names : List V) (word found : List ℕ) (i : ℕ) (d : V) → i < length names → d ≡ get_or names i d → found ≡ items d → bytes_eq found word ≡ false →
    ((k : ℕ) → k < i → bytes_eq (get_or (map items names) k []) word ≡ false) → (k : ℕ) → k < i + 1 → bytes_eq (get_or (map items names) k []) word ≡ false
other_names items names word found i d lt is has differs each k low = elim (cases_lt k i) [
  | inl lower ↦ each k lower
  | inr le ↦
      let last : k ≡ i = omega (arith, low, le) in
      let there : get_or (map items names) i [] ≡ found = get_or-map items names i d [] lt ∙ ap items (sym is) ∙ sym has in
      ap (λ (n : ℕ). bytes_eq (get_or (map items names) n []) word) last ∙ ap (λ (w : List ℕ). bytes_eq w word) there ∙ differs
]
