-- What holds anyway holds of either result.
use Rattle.std.proofs.Common.{subst, sym}
use Rattle.std.specs.Prelude.{◌≡◌, Result, Ok, Err, IfOk, OnErr, OnOk}

pub on_err : {T F P : Type 0} (r : Result T F) → P → OnErr r P
on_err (Ok x) p = tt
on_err (Err e) p = p

pub on_ok : {T F P : Type 0} (r : Result T F) → P → OnOk r P
on_ok (Ok x) p = p
on_ok (Err e) p = tt

pub on_ok_then : {T F P Q : Type 0} (r : Result T F) → OnOk r P → (P → Q) → OnOk r Q
on_ok_then (Ok x) p then_ = then_ p
on_ok_then (Err e) p then_ = tt

-- A result is a value of which something holds.
pub if_that : {T F : Type 0} (P : T → Type 0) (r : Result T F) (x : T) → IfOk r (λ y. y ≡ x) → P x → IfOk r P
if_that P (Ok y) x is p = subst P (sym is) p
if_that P (Err e) x is p = tt
