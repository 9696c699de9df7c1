use Rattle.std.proofs.Common.{map, arith}
use Rattle.expression_text.proofs.SplitTokens.{nothing_before, token_more, all_tokens, rest_shorter, at_some, at_none, if_some}
use Rattle.expression_text.proofs.Shapes.{stuck}
use Rattle.expression_text.proofs.parsing.Reading.put_all.Goals as goal

pub loop-behind-init : goal.loop-behind-init
loop-behind-init g c =
    let s = c.args.self.now in record {
      read = λ reading. nothing_before c.args.text.now c.skip_blanks-rest.result.now (map (λ v. v.items) s.names.items) s.pending.items s.steps.items s.levels s.after_operand c.skip_blanks-rest.ensures.blanks c.skip_blanks-rest.ensures.trimmed reading;
      within = rest_shorter c.args.text.now c.skip_blanks-rest.result.now c.skip_blanks-rest.ensures.blanks;
    }

pub loop-behind-preserved : goal.loop-behind-preserved
loop-behind-preserved g c =
    let s = c.loop-behind.self in
    let t = c.put_first.new.self in
    let behind = c.in-Ok-Some.behind.now in
    let next = c.skip_blanks-rest-in-Ok-Some in record {
      read = λ reading.
          let has = c.loop-behind.invariant.read reading in
          let one = at_some _ _ c.in-Ok-Some.field-0 c.in-Ok-Some.behind c.in-Ok-Some.field-0-is (c.in-Ok-Some.ensures.token has.tokens has.reading) in
          token_more c.args.text.now c.loop-behind.rest.now (map (λ v. v.items) s.names.items) s.pending.items s.steps.items s.levels s.after_operand has one.0 behind next.result.now
          (map (λ v. v.items) t.names.items) t.pending.items t.steps.items t.levels t.after_operand one.1 next.ensures.blanks next.ensures.trimmed one.2;
      within = omega (arith, rest_shorter behind next.result.now next.ensures.blanks, if_some _ c.in-Ok-Some.field-0 c.in-Ok-Some.behind c.in-Ok-Some.field-0-is c.in-Ok-Some.ensures.shorter, c.loop-behind.invariant.within);
    }

pub returns-in-Ok-None-clause-tokens : goal.returns-in-Ok-None-clause-tokens
returns-in-Ok-None-clause-tokens g c = λ reading.
    let s = c.loop-behind.self in
    let has = c.loop-behind.invariant.read reading in
    let end = at_none _ _ c.in-Ok-None.field-0 c.in-Ok-None.field-0-is (c.in-Ok-None.ensures.token has.tokens has.reading) in
    (has.tokens, all_tokens c.args.text.now c.loop-behind.rest.now (map (λ v. v.items) s.names.items) s.pending.items s.steps.items s.levels s.after_operand has end.0, end.1)

pub returns-in-Err-clause-unspelled : goal.returns-in-Err-clause-unspelled
returns-in-Err-clause-unspelled g c = λ reading other.
    let s = c.loop-behind.self in
    let has = c.loop-behind.invariant.read reading in
    stuck c.args.text.now c.loop-behind.rest.now (map (λ v. v.items) s.names.items) s.pending.items s.steps.items s.levels s.after_operand has
    (c.in-Err.ensures.some other) (c.in-Err.ensures.refused has.tokens has.reading has.trimmed other)
