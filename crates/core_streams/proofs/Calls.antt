-- Facts on results of calls that are returned as they are.
use Rattle.sketch_base.specs.declared.error.ErrorKind.{ErrorKind}
use Rattle.core_laws.specs.Refusal.{Refuses}
use Rattle.std.specs.Prelude.{◌≡◌, Bool, Option, None, Result, Ok, Err, IfOk, IfErr, OnOk, OnErr}

pub if_ok : {T E : Type 0} (r : Result T E) (P Q : T → Type 0) → ((x : T) → P x → Q x) → IfOk r P → IfOk r Q
if_ok (Ok x) P Q f p = f x p
if_ok (Err e) P Q f p = p

pub on_ok : {T E P Q : Type 0} (r : Result T E) → (P → Q) → OnOk r P → OnOk r Q
on_ok (Ok x) f p = f p
on_ok (Err e) f p = p

pub on_both : {T E P Q R : Type 0} (r : Result T E) → (P → Q → R) → OnOk r P → OnOk r Q → OnOk r R
on_both (Ok x) f p q = f p q
on_both (Err e) f p q = p

pub on_err : {T E P Q : Type 0} (r : Result T E) → (P → Q) → OnErr r P → OnErr r Q
on_err (Ok x) f p = p
on_err (Err e) f p = f p

pub on_both_err : {T E P Q R : Type 0} (r : Result T E) → (P → Q → R) → OnErr r P → OnErr r Q → OnErr r R
on_both_err (Ok x) f p q = p
on_both_err (Err e) f p q = f p q

pub on_three : {T E P Q R V : Type 0} (r : Result T E) → (P → Q → R → V) → OnOk r P → OnOk r Q → OnOk r R → OnOk r V
on_three (Ok x) f p q s = f p q s
on_three (Err e) f p q s = p

pub if_err : {T E : Type 0} (r : Result T E) (P Q : E → Type 0) → ((e : E) → P e → Q e) → IfErr r P → IfErr r Q
if_err (Ok x) P Q f p = p
if_err (Err e) P Q f p = f e p

-- a call that returned Ok wasn't refused
pub unrefused : {T : Type 0} (r : Result T ErrorKind) (refusal : Option ErrorKind) (takes_memory : Bool) → Refuses r refusal takes_memory → OnOk r (refusal ≡ None)
unrefused (Ok x) refusal takes_memory is = is
unrefused (Err e) refusal takes_memory is = tt

pub if_both : {T E V : Type 0} (r : Result T E) (P Q : T → Type 0) → ((x : T) → P x → V → Q x) → IfOk r P → OnOk r V → IfOk r Q
if_both (Ok x) P Q f p v = f x p v
if_both (Err e) P Q f p v = p

pub on_each_err : {T E Q : Type 0} (r : Result T E) (P : E → Type 0) → ((e : E) → P e → Q) → IfErr r P → OnErr r Q
on_each_err (Ok x) P f p = p
on_each_err (Err e) P f p = f e p
