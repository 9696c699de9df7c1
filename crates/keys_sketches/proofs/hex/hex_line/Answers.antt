use Rattle.std.proofs.Common.{[], ◌∷◌, ◌++◌, get_or, take, sym, ap, ◌∙◌}
use Rattle.std.proofs.lemmas.List.{take_more}
use Rattle.keys_sketches.specs.Hex.{hex_of}
use Rattle.keys_sketches.proofs.Digits.{hex_of-append}
use Rattle.keys_sketches.proofs.hex.hex_line.Goals as goal

pub loop-byte-preserved : goal.loop-byte-preserved
loop-byte-preserved g c =
    let bytes = c.args.bytes.now in
    let i = c.loop-byte.byte-index in
    c.in_ok-put_byte.ensures ∙ ap (λ ds. ds ++ hex_of (get_or bytes i 0 ∷ [])) c.loop-byte.invariant
    ∙ sym (ap hex_of (take_more bytes i 0 c.loop-byte-test.true) ∙ hex_of-append (take i bytes) (get_or bytes i 0 ∷ []))
