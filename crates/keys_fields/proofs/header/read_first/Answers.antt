use Rattle.std.proofs.Common.{[], ◌∷◌, subst, rules}
use Rattle.std.specs.Prelude.{IfSome, IfNone}
use Rattle.std.specs.Io.KnownBytes.{Consumes, IsAtEnd}
use Rattle.keys_fields.proofs.Headers.{Begins, begins, byte_begins, byte_ends, kept_lines, none_ends}
use Rattle.keys_fields.proofs.header.read_first.Goals.{in-Ok-Some+else-byte-eq10+in_ok-push-in-Ok-Some, in-Err+else-ne}
use Rattle.keys_fields.proofs.header.read_first.Goals as goal

pub loop-init : goal.loop-init
loop-init g c lines has none = begins (g.R.Read.remaining c.args.reader.now) c.args.line.now.items lines has none

pub loop-preserved : goal.loop-preserved
loop-preserved g c lines has none =
    let was = c.loop.invariant lines has none in
    let text = g.R.Read.remaining c.loop.reader in
    let rest = g.R.Read.remaining c.next_byte.new.reader in
    elim c.match-next_byte.branch as (λ _. Begins rest c.match-next_byte.line.items lines) [
      | in-Ok-Some+else-byte-eq10+in_ok-push-in-Ok-Some w ↦ rw w.line-is (
          subst (λ l. Begins rest l lines) (search rules) (byte_begins text rest w.in-Ok-Some.byte c.loop.line.items lines (subst (λ o. IfSome o (λ b. Consumes text rest (b ∷ []))) w.in-Ok-Some.field-0-is w.in-Ok-Some.ensures.some) w.if-byte-eq10.false was))
      | in-Err+else-ne w ↦ rw w.line-is (kept_lines text rest c.loop.line.items lines w.in-Err.ensures.err was)
    ]

pub returns-then-byte-eq10 : goal.returns-then-byte-eq10
returns-then-byte-eq10 g c lines has none =
    let text = g.R.Read.remaining c.loop.reader in
    let rest = g.R.Read.remaining c.next_byte.new.reader in
    byte_ends text rest c.in-Ok-Some.byte c.loop.line.items lines (subst (λ o. IfSome o (λ b. Consumes text rest (b ∷ []))) c.in-Ok-Some.field-0-is c.in-Ok-Some.ensures.some) c.if-byte-eq10.true (c.loop.invariant lines has none)

pub returns-in-Ok-None : goal.returns-in-Ok-None
returns-in-Ok-None g c lines has none =
    let text = g.R.Read.remaining c.loop.reader in
    let rest = g.R.Read.remaining c.next_byte.new.reader in
    let ended = subst (λ o. IfNone o (Consumes text rest [] × IsAtEnd rest)) c.in-Ok-None.field-0-is c.in-Ok-None.ensures.end in
    none_ends text rest c.loop.line.items lines ended.0 ended.1 (c.loop.invariant lines has none)
