use Rattle.std.proofs.Common.{◌≡◌, ℕ, List, [], ◌∷◌, ◌++◌, sym, subst}
use Rattle.std.specs.Prelude.{IfErr, IfSome}
use Rattle.std.specs.List.{AllByRecursion}
use Rattle.std.proofs.lemmas.Result.{err_from_is_err_and}
use Rattle.sketch_base.specs.Seed.{seed_hash}
use Rattle.core_compact.specs.CompactState.{Compact}
use Rattle.core_slots.specs.declared.entry.TupleEntry.{TupleEntry}
use Rattle.keys_sketches.proofs.Turns.{if_any, if_some, continues_itself, continues_next, continues_end}
use Rattle.keys_sums.specs.Images.{AreReadSums, ReadsSums, ReadsSumsUnder}
use Rattle.keys_sums.specs.Operands.{IsReadSumsError}
use Rattle.keys_sums.specs.Unions.{AreNoSums, HasNoSums}
use Rattle.keys_sketches.proofs.Refused.{faulty_next}
use Rattle.keys_sketches.proofs.Unions.{are_read-more}
use Rattle.keys_sums.proofs.ReadOperands.{seeded_one_more, read_error_among, read_error_memory}
use Rattle.keys_sums.proofs.operands.all_sums.Goals as goal

pub loop-init : goal.loop-init
loop-init g c = record {
  parted = continues_itself (g.S.Sources.texts c.args.images.now) (λ taken. Unit {0}) tt;
  read = continues_itself (g.S.Sources.texts c.args.images.now) (λ taken. AreReadSums c.args.seed taken c.new-sketches.result.items) (subst (λ (items : List (Compact (TupleEntry ℕ))). AreReadSums c.args.seed [] items) (sym c.new-sketches.ensures.items) tt);
  seeded = subst (λ (items : List (Compact (TupleEntry ℕ))). AllByRecursion (λ t. t.seed_hash ≡ seed_hash c.args.seed) items) (sym c.new-sketches.ensures.items) tt;
}

pub loop-preserved : goal.loop-preserved
loop-preserved g c =
    let seed = c.args.seed in
    let s = c.in_ok-sketch-in-Ok-Some.sketch in
    let old = c.loop.sketches.items in
    record {
      parted = continues_next g.S.Source.Read.remaining (λ taken. Unit {0}) (λ taken. Unit {0}) (g.S.Sources.texts c.args.images.now) (g.S.Sources.texts c.loop.images) (g.S.Sources.texts c.next_source.new.self)
          c.in-Ok-Some.field-0 c.in-Ok-Some.source c.loop.invariant.parted c.in-Ok-Some.ensures c.in-Ok-Some.field-0-is (λ taken one. if_any (g.S.Source.Read.remaining c.in-Ok-Some.source));
      read = continues_next g.S.Source.Read.remaining (λ taken. AreReadSums seed taken old) (λ taken. AreReadSums seed taken c.add.new.sketches.items)
          (g.S.Sources.texts c.args.images.now) (g.S.Sources.texts c.loop.images) (g.S.Sources.texts c.next_source.new.self) c.in-Ok-Some.field-0 c.in-Ok-Some.source c.loop.invariant.read c.in-Ok-Some.ensures c.in-Ok-Some.field-0-is
          (λ taken so_far. if_some (g.S.Source.Read.remaining c.in-Ok-Some.source) (λ image. ReadsSums image (seed_hash seed) s) (λ image. AreReadSums seed (taken ++ image ∷ []) c.add.new.sketches.items)
          (λ image one. subst (λ (items : List (Compact (TupleEntry ℕ))). AreReadSums seed (taken ++ image ∷ []) items) (sym c.in_ok-add-in-Ok-Some.ensures.added) (are_read-more (ReadsSumsUnder seed) taken old image s so_far one)) c.in_ok-sketch-in-Ok-Some.ensures.reads);
      seeded = subst (λ (items : List (Compact (TupleEntry ℕ))). AllByRecursion (λ t. t.seed_hash ≡ seed_hash seed) items) (sym c.in_ok-add-in-Ok-Some.ensures.added) (seeded_one_more seed old s c.loop.invariant.seeded c.in_ok-sketch-in-Ok-Some.ensures.seeded);
    }

pub returns-in-Ok-None-clause-read : goal.returns-in-Ok-None-clause-read
returns-in-Ok-None-clause-read g c =
    continues_end g.S.Source.Read.remaining (λ taken. AreReadSums c.args.seed taken c.loop.sketches.items) (λ taken. AreReadSums c.args.seed taken c.loop.sketches.items)
    (g.S.Sources.texts c.args.images.now) (g.S.Sources.texts c.loop.images) (g.S.Sources.texts c.next_source.new.self) c.in-Ok-None.field-0 c.loop.invariant.read c.in-Ok-None.ensures c.in-Ok-None.field-0-is

pub returns-in_err-add-in-Ok-Some-clause-read : goal.returns-in_err-add-in-Ok-Some-clause-read
returns-in_err-add-in-Ok-Some-clause-read g c =
    let p = err_from_is_err_and c.from_residual-in_err-add-in-Ok-Some.result c.from_residual-in_err-add-in-Ok-Some.ensures.1 in
    rw p.1 (if_any (g.S.Sources.texts c.args.images.now))

pub returns-in_err-add-in-Ok-Some-clause-refused : goal.returns-in_err-add-in-Ok-Some-clause-refused
returns-in_err-add-in-Ok-Some-clause-refused g c =
    let p = err_from_is_err_and c.from_residual-in_err-add-in-Ok-Some.result c.from_residual-in_err-add-in-Ok-Some.ensures.1 in
    let read_error = IsReadSumsError (IfSome (g.S.Sources.texts c.args.images.now) (HasNoSums c.args.seed)) in
    subst (λ r. IfErr r read_error) (sym p.1) (subst read_error (sym p.2) (read_error_memory c.in_err-add-in-Ok-Some.field-0.0 c.in_err-add-in-Ok-Some.ensures.refused))

pub returns-in_err-sketch-in-Ok-Some-clause-refused : goal.returns-in_err-sketch-in-Ok-Some-clause-refused
returns-in_err-sketch-in-Ok-Some-clause-refused g c =
    let texts = g.S.Sources.texts c.args.images.now in
    let image = g.S.Source.Read.remaining c.in-Ok-Some.source in
    let p = err_from_is_err_and c.from_residual-in_err-sketch-in-Ok-Some.result c.from_residual-in_err-sketch-in-Ok-Some.ensures.1 in
    let read_error = IsReadSumsError (IfSome texts (HasNoSums c.args.seed)) in
    let step = faulty_next (AreNoSums c.args.seed) g.S.Source.Read.remaining texts (g.S.Sources.texts c.loop.images) (g.S.Sources.texts c.next_source.new.self) c.in-Ok-Some.field-0 c.in-Ok-Some.source c.loop.invariant.parted c.in-Ok-Some.ensures c.in-Ok-Some.field-0-is in
    subst (λ r. IfErr r read_error) (sym p.1) (subst read_error (sym p.2)
    (read_error_among (IfSome image (AreNoSums c.args.seed)) (IfSome texts (HasNoSums c.args.seed)) c.in_err-sketch-in-Ok-Some.field-0.0 step c.in_err-sketch-in-Ok-Some.ensures.refused))

pub returns-in-Err-clause-read : goal.returns-in-Err-clause-read
returns-in-Err-clause-read g c = if_any (g.S.Sources.texts c.args.images.now)

pub returns-clause-read : goal.returns-clause-read
returns-clause-read g c = if_any (g.S.Sources.texts c.args.images.now)
