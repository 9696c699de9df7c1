-- The results of a closure that is called once for each entry in turn.
use Rattle.std.proofs.Common.{◌≡◌, List, [], ◌∷◌, ◌++◌, map, refl}

-- a closure, called at each of xs in turn, returned ys, and went from its first state to its last
abbrev pub MakesInTurn : {G X Y : Type 0} → (step : G → X → Y → G → Type 0) → (first : G) → List X → List Y → (last : G) → Type 0
MakesInTurn step first [] [] last = last ≡ first
MakesInTurn {G} step first (x ∷ xs) (y ∷ ys) last = (next : G) × step first x y next × MakesInTurn step next xs ys last
MakesInTurn step first [] (y ∷ ys) last = ⊥
MakesInTurn step first (x ∷ xs) [] last = ⊥

-- a closure, called at each of xs in turn, may be in this state before its call at x
pub record MayReach {G X Y : Type 0} (step : G → X → Y → G → Type 0) (first : G) (xs : List X) (state : G) (x : X) : Type 0 where
  pub before : List X
  pub after : List X
  pub made : List Y
  pub there : xs ≡ before ++ x ∷ after
  pub called : MakesInTurn step first before made state

-- a closure that no call changes, and that returns `made x` for each x, returns for a list its map
pub made_of_each : {G X Y : Type 0} (step : G → X → Y → G → Type 0) (made : X → Y) (f : G) (xs : List X) (ys : List Y) (state last : G)
    → ((x : X) (y : Y) (next : G) → step f x y next → (next ≡ f) × (y ≡ made x)) → state ≡ f → MakesInTurn step state xs ys last → ys ≡ map made xs
made_of_each step made f [] [] state last one same done = refl
made_of_each step made f [] (y ∷ ys) state last one same done = absurd done
made_of_each step made f (x ∷ xs) [] state last one same done = absurd done
made_of_each step made f (x ∷ xs) (y ∷ ys) state last one same done =
    let called : step f x y done.0 = rw (← same) done.1 in
    let now = one x y done.0 called in
    rw (now.1, made_of_each step made f xs ys done.0 last one now.0 done.2) refl
