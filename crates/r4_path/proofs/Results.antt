-- What is said of a result, where it is there.
use Rattle.std.specs.Prelude.{IfOk, OnOk, Ok, Err, Result}

pub both_ok : {T E Q : Type 0} (r : Result T E) (P R : T → Type 0) → ((x : T) → P x → Q → R x) → IfOk r P → OnOk r Q → IfOk r R
both_ok (Ok x) P R f p q = f x p q
both_ok (Err e) P R f p q = p

pub and_ok : {T E : Type 0} (r : Result T E) (P Q : T → Type 0) → IfOk r P → IfOk r Q → IfOk r (λ x. P x × Q x)
and_ok (Ok x) P Q p q = (p, q)
and_ok (Err e) P Q p q = p
