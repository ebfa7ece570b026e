-- Tests of two parts, by their parts.
use Rattle.std.proofs.Common.{◌≡◌, ℕ, Bool, true, false, refl}
use Rattle.std.specs.Prelude.{◌&&◌, ◌||◌, Err, IfOk, None, Ok, Option, Result, Some, is_some}
use Rattle.std.specs.Option.{option_map}

pub and_on : (x y r : Bool) → x ≡ true → r ≡ y → r ≡ (x && y)
and_on true y r h e = e
and_on false y r h e = absurd cc

pub and_off : (x y r : Bool) → x ≡ false → r ≡ false → r ≡ (x && y)
and_off true y r h e = absurd cc
and_off false y r h e = e

pub or_on : (x y r : Bool) → x ≡ true → r ≡ true → r ≡ (x || y)
or_on true y r h e = e
or_on false y r h e = absurd cc

pub or_off : (x y r : Bool) → x ≡ false → r ≡ y → r ≡ (x || y)
or_off true y r h e = absurd cc
or_off false y r h e = e

pub some_mapped : {A : Type 0} (f : A → ℕ) (o : Option A) → is_some o ≡ is_some (option_map f o)
some_mapped f None = refl
some_mapped f (Some x) = refl

pub both_ok : {X Y : Type 0} (r : Result X Y) (P Q R : X → Type 0) → ((x : X) → P x → Q x → R x) → IfOk r P → IfOk r Q → IfOk r R
both_ok (Ok x) P Q R f p q = f x p q
both_ok (Err y) P Q R f p q = q
