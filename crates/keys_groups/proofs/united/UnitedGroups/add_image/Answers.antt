use Rattle.std.proofs.Common.{ℕ, List, true, false, subst}
use Rattle.std.proofs.lemmas.Result.{on_ok_weaker}
use Rattle.keys_groups.specs.Tabs.{before_tab}
use Rattle.keys_groups.specs.United.{UpdatesUnion, BeginsUnion}
use Rattle.keys_groups.proofs.ImagesInGroups.{updated_more, begun_more}
use Rattle.keys_groups.proofs.united.UnitedGroups.add_image.Goals as goal

pub returns-then-found-clause-uniting : goal.returns-then-found-clause-uniting
returns-then-found-clause-uniting c = λ lines line named spelled uniting.
    let seed = c.args.seed in
    let was = c.args.self.now.map in
    let now = c.update.new.self.map in
    let updated = subst (UpdatesUnion seed c.args.name.now c.args.image.now was now) c.if-found.true c.in_ok-found.ensures.updated in
    updated_more seed c.args.lg_k lines line was now uniting
    (subst (λ (image : List ℕ). UpdatesUnion seed (before_tab line) image was now true) spelled (subst (λ (name : List ℕ). UpdatesUnion seed name c.args.image.now was now true) named updated))

pub returns-clause-uniting : goal.returns-clause-uniting
returns-clause-uniting c = λ lines line named spelled uniting.
    let seed = c.args.seed in
    let lg_k = c.args.lg_k in
    let was = c.args.self.now.map in
    let same = c.update.new.self.map in
    let now = c.begin.new.self.map in
    let updated = subst (UpdatesUnion seed c.args.name.now c.args.image.now was same) c.if-found.false c.in_ok-found.ensures.updated in
    on_ok_weaker c.begin.result
    (λ begun. begun_more seed lg_k lines line was same now uniting
    (subst (λ (image : List ℕ). UpdatesUnion seed (before_tab line) image was same false) spelled (subst (λ (name : List ℕ). UpdatesUnion seed name c.args.image.now was same false) named updated))
    (subst (λ (image : List ℕ). BeginsUnion seed lg_k (before_tab line) image same now) spelled (subst (λ (name : List ℕ). BeginsUnion seed lg_k name c.args.image.now same now) named begun)))
    c.begin.ensures.begun
