use Rattle.std.proofs.Common.{◌≡◌, ◌∷◌, ◌++◌, [], ℕ, List, Vec, Global, Option, true, refl, ap, sym, subst, ◌∙◌, arith}
use Rattle.std.specs.Prelude.{length, map}
use Rattle.std.proofs.lemmas.Result.{err_from_is_err_and, IfOk-weaker}
use Rattle.core_laws.specs.Refusal.{Refuses}
use Rattle.core_laws.specs.declared.TheConstants.{MAX_THETA}
use Rattle.core_laws.specs.Settings.{settings_refusal}
use Rattle.keys_sketches.specs.Keys.{image_of_text}
use Rattle.keys_sketches.specs.Shards.{AreImagesOfTexts, images_of_texts}
use Rattle.keys_sketches.proofs.Compacts.{own_images, text_more, texts_made, united_apart}
use Rattle.keys_sketches.proofs.Refused.{refuses_memory, text_refused}
use Rattle.keys_sketches.proofs.Unions.{nothing_united, size_small}
use Rattle.keys_sketches.proofs.uniting.image_of_texts.Goals as goal

pub loop-text-init : goal.loop-text-init
loop-text-init g c = record {
  united = ([], refl, nothing_united c.args.hashing.seed c.args.lg_k c.in_ok-union.union c.in_ok-union.ensures.made);
  ready = record { sound = ap (λ u. u.failed) c.in_ok-union.ensures.made; seeded = ap (λ u. u.seed_hash) c.in_ok-union.ensures.made };
}

pub loop-text-preserved : goal.loop-text-preserved
loop-text-preserved g c =
    let inv = c.loop-text.invariant.united in
    let image = c.as_slice-in-Some.result.now in
    let is = c.as_slice-in-Some.ensures.value ∙ c.in_ok-image.ensures.image ∙ ap (image_of_text c.args.hashing c.args.lg_k) c.as_slice.ensures.value in
    record {
      united = (
        inv.0 ++ image ∷ [],
        text_more (λ (v : Vec ℕ Global). v.items) c.args.hashing c.args.lg_k inv.0 image c.in-Some.text.now c.loop-text.left.now c.in-Some.others.now
            (images_of_texts c.args.hashing c.args.lg_k (map (λ (v : Vec ℕ Global). v.items) c.args.texts.now)) inv.1 c.in-Some.ensures.cases.0 is,
        c.in_ok-add_image.ensures.united c.args.lg_k inv.0 inv.2,
      );
      ready = c.in_ok-add_image.ensures.ready c.args.lg_k c.loop-text.invariant.ready;
    }

pub returns-in_err-add_image-clause-refused : goal.returns-in_err-add_image-clause-refused
returns-in_err-add_image-clause-refused g c =
    let result = c.from_residual-in_err-add_image.result in
    let p = err_from_is_err_and result c.from_residual-in_err-add_image.ensures.1 in
    let is = c.as_slice-in-Some.ensures.value ∙ c.in_ok-image.ensures.image ∙ ap (image_of_text c.args.hashing c.args.lg_k) c.as_slice.ensures.value in
    refuses_memory result (settings_refusal c.args.lg_k MAX_THETA c.args.hashing.seed) p.0 p.1
    (p.2 ∙ text_refused c.read_again.ensures c.args.hashing c.args.lg_k c.in-Some.text.now.items c.as_slice-in-Some.result.now c.in_err-add_image.field-0.0 c.in_ok-union.ensures.refused is (c.in_err-add_image.ensures.refused c.args.lg_k c.loop-text.invariant.ready))

pub returns : goal.returns
returns g c = record {
  image = λ lines same.
      let none : length c.loop-text.left.now ≡ 0 = grind (arith, c.in_default.ensures.cases, c.in_default.ensures.variant, c.in_default.not-Some) in
      let texts = map (λ (v : Vec ℕ Global). v.items) c.args.texts.now in
      let inv = c.loop-text.invariant.united in
      let are = texts_made (λ (v : Vec ℕ Global). v.items) c.args.hashing c.args.lg_k inv.0 c.loop-text.left.now (images_of_texts c.args.hashing c.args.lg_k texts) inv.1 none in
      let small = size_small c.args.hashing.seed c.args.lg_k c.in_ok-union.ensures.refused in
      let apart = subst (λ (is : List (List ℕ)). AreImagesOfTexts c.args.hashing c.args.lg_k is texts) (sym are) (own_images c.args.hashing c.args.lg_k small texts) in
      IfOk-weaker c.united_image.result _ _ (λ v image. united_apart c.one_reading.ensures c.read_again.ensures c.args.hashing c.args.lg_k texts lines inv.0 v.items same apart image) (c.united_image.ensures.image c.args.hashing.seed c.args.lg_k inv.0 inv.2);
  refused = subst (λ (o : Option _). Refuses c.united_image.result o true) (sym c.in_ok-union.ensures.refused) (c.united_image.ensures.refused c.args.hashing.seed c.loop-text.invariant.ready);
}
