use Rattle.std.proofs.Common.{◌≡◌, ◌-◌, ◌∷◌, ◌++◌, length, take, drop, ap, ◌∙◌, arith}
use Rattle.plan_text.proofs.words.PlainAdds.{first_byte, first_four, says_add, says_add_value}
use Rattle.plan_text.proofs.line.plain_add.Goals as goal

pub returns-in-10 : goal.returns-in-10
returns-in-10 c =
    let text = c.args.text.now in
    let behind = c.in_ok-hash.behind.now in
    let hash = c.in_ok-hash.ensures in
    let head : text ≡ 97 ∷ 100 ∷ 100 ∷ 32 ∷ take (length text - 4) (drop 4 text) = first_four text (omega arith) (omega arith) (omega arith) (omega arith) (omega arith) in
    let last : behind ≡ 10 ∷ take (length behind - 1) (drop 1 behind) = first_byte behind 10 (omega arith) (omega arith) in
    says_add text hash.word (take (length behind - 1) (drop 1 behind)) c.in_ok-hash.hash
    (head ∙ ap (λ t. 97 ∷ 100 ∷ 100 ∷ 32 ∷ t) (hash.parts ∙ ap (λ t. hash.word ++ t) last))
    hash.digits hash.spells

pub returns-in-10-end : goal.returns-in-10-end
returns-in-10-end c =
    let text = c.args.text.now in
    let behind = c.in_ok-hash.behind.now in
    let end = c.in_ok-value-in-32.end.now in
    let hash = c.in_ok-hash.ensures in
    let value = c.in_ok-value-in-32.ensures in
    let head : text ≡ 97 ∷ 100 ∷ 100 ∷ 32 ∷ take (length text - 4) (drop 4 text) = first_four text (omega arith) (omega arith) (omega arith) (omega arith) (omega arith) in
    let space : behind ≡ 32 ∷ take (length behind - 1) (drop 1 behind) = first_byte behind 32 (omega arith) (omega arith) in
    let last : end ≡ 10 ∷ take (length end - 1) (drop 1 end) = first_byte end 10 (omega arith) (omega arith) in
    says_add_value text hash.word value.word (take (length end - 1) (drop 1 end)) c.in_ok-hash.hash c.in_ok-value-in-32.value
    (head ∙ ap (λ t. 97 ∷ 100 ∷ 100 ∷ 32 ∷ t) (hash.parts ∙ ap (λ t. hash.word ++ t) (space ∙ ap (λ t. 32 ∷ t) (value.parts ∙ ap (λ t. value.word ++ t) last))))
    hash.digits hash.spells value.digits value.spells
