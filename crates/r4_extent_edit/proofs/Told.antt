-- What holds of a result by several facts on it.
use Rattle.std.specs.Prelude.{Result, Ok, Err, IfOk}

pub if_all : {A E : Type 0} (r : Result A E) (P Q R S : A → Type 0) → IfOk r P → IfOk r Q → IfOk r R → ((x : A)
    → P x → Q x → R x → S x) → IfOk r S
if_all (Ok x) P Q R S p q s f = f x p q s
if_all (Err e) P Q R S p q s f = tt
