-- `Items` as a type in a recursive one, as in a plan with its parts: its value is the list of its items, whatever the
-- allocator and the number of levels.
use mathlib.Core.Path.{◌≡◌, refl, sym}
use mathlib.Core.List.{List, []}
use Prim.Native.Nat.{ℕ}
use mathlib.Core.Former.{Former, this, const, list, pair, via, children}
use base.Stored.{code_map}
use denote.RattleType.{RattleType}
use denote.HoleLaws.{Alike}
use denote.HolePlaces.{Recodes, struct_places, laid}
use denote.Hole.Carrier.{listed, list-listed}
use denote.Hole.Fix.{over}
use denote.Param.Weighed.{Weighed, w_list}
use denote.Model.Placed.{view_places}
use Rattle.std.specs.declared.alloc.Allocator.{Ghosts}
use Rattle.std.specs.formers.vec.Vec as vec
use Rattle.plan_text.specs.declared.items.Items.TheInside.{Inside}
use Rattle.plan_text.specs.declared.items.Items.TheView.{view, invariant}
use Rattle.plan_text.specs.contracts.items.Items as contract
use Rattle.plan_text.specs.contracts.items.Items.TheInside as inside

-- the items are the whole value
abbrev pub the_former : Former {0} → Type 0 → Former {0}
the_former item A = list item

abbrev pub the_weighed : {item : Former {0}} → Weighed item → (A : Type 0) → Weighed (the_former item A)
the_weighed weighed A = w_list weighed

pub the_empty : (A : Type 0) → A → List ⊥
the_empty A alloc = []

abbrev pub the_items : (A X : Type 0) → List X → List X
the_items A X items = items

pub the_items_listed : (A X : Type 0) (items : List X) → listed _ (children (the_former this A) X items) ≡ the_items A X items
the_items_listed A X items = list-listed X items

-- the fields: a vector and a number of levels
abbrev field : Type 0 → Former {0}
field A = via (pair (vec.the_former this A) (const ℕ)) (λ X. Inside X A) (λ X it. (it.items, it.levels)) (λ X v. record { items = v.0; levels = v.1 })
    (λ X it. refl) (λ X v. refl)

module _ (A : RattleType) (G : Ghosts A.Denot) (R S : RattleType) (h : R.Denot → S.Denot) where
  abbrev at : RattleType → RattleType
  at T = contract.the_row T A G

  pub the_places : Alike R S h → Alike (at R) (at S) ((the_former this A.Denot).map R.Denot S.Denot h)
  the_places alike = view_places (field A.Denot) (list this) (λ X. view X A.Denot G) (λ X Y k it. refl)
      (λ X it. refl) R.Denot S.Denot h (at R).coded (at S).coded
      (invariant R.Denot A.Denot G) (invariant S.Denot A.Denot G) (λ it p q. refl) (λ it p q. refl) (λ it e. tt) (λ it e. tt)
      (over (inside.the_row R A G)) (over (inside.the_row S A G))
      (struct_places (inside.the_type R A G) (inside.the_type S A G) (vec.mapped h, (λ n. n, tt)) _ (λ it. refl) refl
      (laid _ _ _ (vec.the_places A G R S h alike), ((refl, (λ n. refl, λ n. refl)), tt)))

  pub the_codes_placed : Recodes R S h → Recodes (at R) (at S) ((the_former this A.Denot).map R.Denot S.Denot h)
  the_codes_placed same items = sym (code_map R.coded.code S.coded.code h (λ x. sym (same x)) items)
