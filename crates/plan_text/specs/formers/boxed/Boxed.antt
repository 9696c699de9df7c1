-- `Boxed` as a type in a recursive one, as in a plan with its operands: its value is the boxed item, whatever the
-- allocator and the number of levels.
use mathlib.Core.Path.{refl}
use Prim.Native.Nat.{ℕ}
use mathlib.Core.Former.{Former, this, const, pair, via}
use base.Stored.{gnil}
use base.Fml.{ftrue}
use denote.RattleType.{RattleType}
use denote.Memory.{part_of}
use denote.RawPtr.{Ptr}
use denote.Sharing.{nothing}
use denote.HoleLaws.{Alike}
use denote.HolePlaces.{Recodes, struct_places, laid, one_value}
use denote.Hole.Fix.{over}
use denote.Param.Weighed.{Weighed}
use denote.Model.Placed.{view_places}
use Rattle.std.specs.declared.alloc.Allocator.{Ghosts}
use Rattle.std.specs.declared.boxed.Box.{Box}
use Rattle.std.specs.contracts.boxed.Box as box
use Rattle.plan_text.specs.declared.boxed.Boxed.TheInside.{Inside}
use Rattle.plan_text.specs.declared.boxed.Boxed.TheView.{view, invariant}
use Rattle.plan_text.specs.contracts.boxed.Boxed as contract
use Rattle.plan_text.specs.contracts.boxed.Boxed.TheInside as inside

-- the boxed item is the whole value
abbrev pub the_former : Former {0} → Type 0 → Former {0}
the_former content A = content

abbrev pub the_weighed : {content : Former {0}} → Weighed content → (A : Type 0) → Weighed (the_former content A)
the_weighed weighed A = weighed

-- the fields: a box (its address, its allocator and its item) and a number of levels
abbrev field : Type 0 → Former {0}
field A =
    via (pair (pair (const (Ptr × A)) this) (const ℕ)) (λ X. Inside X A) (λ X b.
    (((b.content.ptr, b.content.alloc), b.content.value), b.levels))
    (λ X v. record { content = record { ptr = v.0.0.0; alloc = v.0.0.1; value = v.0.1 }; levels = v.1 }) (λ X b. refl) (λ X v. refl)

abbrev holding : {A X Y : Type 0} → Box X A → Y → Box Y A
holding b y = record { ptr = b.ptr; alloc = b.alloc; value = y }

module _ (A : RattleType) (G : Ghosts A.Denot) (R S : RattleType) (h : R.Denot → S.Denot) where
  abbrev box_of : RattleType → RattleType
  box_of T = box.the_row T A G

  box_places : Alike R S h → Alike (box_of R) (box_of S) (λ b. holding b (h b.value))
  unfolding part_of
  box_places alike = record {
    mir_same = λ i. (box_of (one_value R (alike.mir_same i) (λ _. ftrue) (λ _ _. nothing) gnil)).mir;
    own_same = λ b i. (box_of (one_value R (alike.mir_same i) (alike.own_same b.value i) (alike.shr_same b.value i) gnil)).own_val (holding b tt);
    shr_same = λ b i. (box_of (one_value R (alike.mir_same i) (alike.own_same b.value i) (alike.shr_same b.value i) gnil)).shr_at (holding b tt);
  }

  abbrev at : RattleType → RattleType
  at T = contract.the_row T A G

  pub the_places : Alike R S h → Alike (at R) (at S) ((the_former this A.Denot).map R.Denot S.Denot h)
  the_places alike = view_places (field A.Denot) this (λ X. view X A.Denot G) (λ X Y k b. refl) (λ X b. refl)
      R.Denot S.Denot h (at R).coded (at S).coded
      (invariant R.Denot A.Denot G) (invariant S.Denot A.Denot G) (λ b p q. refl) (λ b p q. refl) (λ b e. tt) (λ b e. tt)
      (over (inside.the_row R A G)) (over (inside.the_row S A G))
      (struct_places (inside.the_type R A G) (inside.the_type S A G) ((λ b. holding b (h b.value)), (λ n. n, tt)) _ (λ b. refl) refl
      (laid _ _ _ (box_places alike), ((refl, (λ n. refl, λ n. refl)), tt)))

  pub the_codes_placed : Recodes R S h → Recodes (at R) (at S) ((the_former this A.Denot).map R.Denot S.Denot h)
  the_codes_placed same item = same item
