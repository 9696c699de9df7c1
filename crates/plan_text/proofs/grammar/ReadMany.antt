-- Reading one thing after the other, as a loop does.
use Rattle.std.proofs.Common.{◌≡◌, ℕ, suc, ◌-◌, ◌+◌, ◌≤◌, ◌<◌, List, [], ◌∷◌, ◌++◌, Result, Ok, Err, refl, sym, ap, ◌∙◌, append_assoc, subst, arith}
use Rattle.std.specs.Prelude.{IsErrAnd}
use Rattle.std.proofs.lemmas.List.{append-nil}
use Rattle.plan_text.specs.declared.fault.ReadError.{ReadError}
use Rattle.plan_text.specs.declared.fault.ReadError.TheVariants as errors
use Rattle.plan_text.specs.Reading.{Said, Stop, syntax, limit, ◌>>=◌, Fails, Gives, many}

pub bind_ok : {A B : Type 0} (r : Result A Stop) (f : A → Result B Stop) (y : B) → (r >>= f) ≡ Ok y → (x : A) × (r ≡ Ok x) × (f x ≡ Ok y)
bind_ok (Ok x) f y e = (x, refl, e)
bind_ok (Err d) f y e = absurd cc

abbrev pub done : {A : Type 0} → A → Result A Stop
done x = Ok x

pub ok_is : {A : Type 0} (x y : A) → done x ≡ done y → x ≡ y
ok_is x y e = cc

-- a fault stays the same, whatever would follow
pub fails_then : {A B : Type 0} (e : ReadError) (r : Result A Stop) (f : A → Result B Stop) → Fails e r → Fails e (r >>= f)
fails_then errors.Memory r f h = tt
fails_then (errors.Syntax rest) r f h = rw h refl
fails_then (errors.Limit rest) r f h = rw h refl

-- what `?` returns is the fault that it found
pub passes_on : {X Y : Type 0} (view : X → Y) (r : Result X ReadError) (e : ReadError) (read : Result Y Stop) → IsErrAnd r (λ y. y ≡ e) → Fails e read → Gives view r read
passes_on view (Ok x) e read is h = absurd is
passes_on view (Err y) e read is h = subst (λ z. Fails z read) (sym is) h

-- the things read before, and those still to read
abbrev pub with_front : {P : Type 0} → List P → Result (List P × Said) Stop → Result (List P × Said) Stop
with_front front read = read >>= λ x. Ok (front ++ x.0, x.1)

module _ {P : Type 0} where
  regroup : (front : List P) (p : P) (read : Result (List P × Said) Stop) → with_front front (read >>= λ x. Ok (p ∷ x.0, x.1)) ≡ with_front (front ++ p ∷ []) read
  regroup front p (Ok x) = ap (λ (ps : List P). Ok (ps, x.1)) (simp append_assoc)
  regroup front p (Err f) = refl

  pub goes_on : (one : Said → Result (P × Said) Stop) (front : List P) (count i : ℕ) (said : Said) (p : P) (after : Said) (total : Result (List P × Said) Stop) → i < count → one said ≡ Ok (p, after)
      → with_front front (many one (count - i) said) ≡ total → with_front (front ++ p ∷ []) (many one (count - (i + 1)) after) ≡ total
  unfolding many
  goes_on one front count i said p after total lt h so_far =
      let k : count - i ≡ suc (count - (i + 1)) = omega arith in
      let step : with_front front (many one (count - i) said) ≡ with_front (front ++ p ∷ []) (many one (count - (i + 1)) after) = rw (k, h) (regroup front p (many one (count - (i + 1)) after)) in
      sym step ∙ so_far

  pub ends : (one : Said → Result (P × Said) Stop) (e : ReadError) (front : List P) (count i : ℕ) (said : Said) (total : Result (List P × Said) Stop) → i < count → Fails e (one said)
      → with_front front (many one (count - i) said) ≡ total → Fails e total
  unfolding many
  ends one errors.Memory front count i said total lt h so_far = tt
  ends one (errors.Syntax rest) front count i said total lt h so_far =
      let k : count - i ≡ suc (count - (i + 1)) = omega arith in
      let step : with_front front (many one (count - i) said) ≡ Err (syntax _) = rw (k, h) refl in
      sym so_far ∙ step
  ends one (errors.Limit rest) front count i said total lt h so_far =
      let k : count - i ≡ suc (count - (i + 1)) = omega arith in
      let step : with_front front (many one (count - i) said) ≡ Err (limit _) = rw (k, h) refl in
      sym so_far ∙ step

  pub is_done : (one : Said → Result (P × Said) Stop) (front : List P) (count i : ℕ) (said : Said) (total : Result (List P × Said) Stop) → count ≤ i → with_front front (many one (count - i) said) ≡ total → total ≡ Ok (front, said)
  unfolding many
  is_done one front count i said total le so_far =
      let k : count - i ≡ 0 = omega arith in
      let step : with_front front (many one (count - i) said) ≡ Ok (front, said) = rw k (ap (λ (ps : List P). Ok (ps, said)) (append-nil front)) in
      sym so_far ∙ step
