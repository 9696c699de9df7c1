use Rattle.std.proofs.Common.{◌≡◌, List, [], ◌∷◌, ◌++◌, refl, rules, of_calls}
use Rattle.std.proofs.lemmas.List.{map-append, append_assoc}
use Rattle.core_compact.specs.Mapped.{MakesInTurn, MayReach}
use Rattle.core_compact.proofs.compact_state.images.Goals as goal

makes_more : {G X Y : Type 0} (step : G → X → Y → G → Type 0) (first : G) (xs : List X) (ys : List Y) (state : G) (x : X) (y : Y) (next : G)
    → MakesInTurn step first xs ys state → step state x y next → MakesInTurn step first (xs ++ x ∷ []) (ys ++ y ∷ []) next
makes_more step first [] [] state x y next made one = (next, rw (← made) one, refl)
makes_more step first [] (z ∷ ys) state x y next made one = absurd made
makes_more step first (z ∷ xs) [] state x y next made one = absurd made
makes_more step first (z ∷ xs) (w ∷ ys) state x y next made one = (made.0, made.1, makes_more step made.0 xs ys state x y next made.2 one)

more_to_come : {X : Type 0} (xs before rest after : List X) (x : X) → xs ≡ before ++ rest → rest ≡ x ∷ after → xs ≡ (before ++ x ∷ []) ++ after
more_to_come xs before rest after x e f = rw (append_assoc before (x ∷ []) after, e, f) refl

comes_to : {G X Y : Type 0} (step : G → X → Y → G → Type 0) (first : G) (xs before rest after : List X) (ys : List Y) (state : G) (x : X)
    → xs ≡ before ++ rest → rest ≡ x ∷ after → MakesInTurn step first before ys state → MayReach step first xs state x
comes_to step first xs before rest after ys state x e f made = record { before = before; after = after; made = ys; there = rw (e, f) refl; called = made }

pub f-requires : goal.f-requires
f-requires g c =
    c.requires.callable c.loop-entry.f c.in-Some.entry
    (comes_to _ _ _ c.loop-entry.yielded _ c.next.new.self.rest.items c.loop-entry.images.items c.loop-entry.f c.in-Some.entry c.loop-entry.invariant.remaining c.in-Some.ensures.steps.0 c.loop-entry.invariant.images)

pub loop-entry-preserved : goal.loop-entry-preserved
loop-entry-preserved g c = record {
  remaining = more_to_come _ c.loop-entry.yielded _ c.next.new.self.rest.items c.in-Some.entry c.loop-entry.invariant.remaining c.in-Some.ensures.steps.0;
  images = rw c.in_ok-push.ensures.items (makes_more _ c.args.f c.loop-entry.yielded c.loop-entry.images.items c.loop-entry.f c.in-Some.entry c.f.result c.f.new.self c.loop-entry.invariant.images (search (of_calls, rules)));
  hashes =
      let present : _ = comes_to _ _ _ c.loop-entry.yielded _ c.next.new.self.rest.items c.loop-entry.images.items c.loop-entry.f c.in-Some.entry c.loop-entry.invariant.remaining c.in-Some.ensures.steps.0 c.loop-entry.invariant.images in
      let same : g.F.SketchEntry.key c.f.result ≡ g.E.SketchEntry.key c.in-Some.entry = c.requires.keeps_hash c.loop-entry.f c.in-Some.entry c.f.result c.f.new.self present (search (of_calls, rules)) in
      rw (c.in_ok-push.ensures.items, map-append g.F.SketchEntry.key, map-append g.E.SketchEntry.key, c.loop-entry.invariant.hashes, same) refl;
}
