-- Contents are equal where they answer alike.
use Rattle.std.specs.Prelude.{◌≡◌, ◌↔◌, ℕ, Option, Some, None}
use mathlib.Core.Path.{refl, sym}
use Rattle.std.specs.FinMap.{same_map, nat_cmp-IsAntisymmetric}
use Rattle.std.proofs.lemmas.Cmp.{nat_cmp_total}
use Rattle.r4_base.specs.Value.{Value, Content, at_key}

pub then_iff : {A B C : Type 0} → A ↔ B → B ↔ C → A ↔ C
then_iff f g = (λ a. g.0 (f.0 a), λ c. f.1 (g.1 c))

pub back_iff : {A B : Type 0} → A ↔ B → B ↔ A
back_iff f = (f.1, f.0)

pub same_option : {V : Type 0} (o p : Option V) → ((v : V) → (o ≡ Some v) ↔ (p ≡ Some v)) → o ≡ p
same_option None None h = refl
same_option (Some x) p h = sym ((h x).0 refl)
same_option None (Some x) h = (h x).1 refl

pub same_content : (m n : Content) → ((k : ℕ) → at_key m k ≡ at_key n k) → m ≡ n
same_content m n h = same_map nat_cmp_total nat_cmp-IsAntisymmetric m n h

-- two contents that the same fact decides are one
pub decided : (m n : Content) → ((k : ℕ) (v : Value) → (at_key m k ≡ Some v) ↔ (at_key n k ≡ Some v)) → m ≡ n
decided m n h = same_content m n (λ k. same_option (at_key m k) (at_key n k) (h k))
