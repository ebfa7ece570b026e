use Rattle.std.proofs.Common.{◌≡◌, ◌∙◌, sym, Bool, true, false, IfSome, IfNone, refl}
use Rattle.std.specs.Bool.{then_some}
use Rattle.r4_cde.proofs.NamesOfKeys.{no_short_name, is_short_name}
use Rattle.r4_cde.proofs.name.name_of_key.Goals as goal

if_some : {X : Type 0} (t : Bool) (x : X) (P : X → Type 0) → (t ≡ true → P x) → IfSome (then_some t x) P
if_some true x P h = h refl
if_some false x P h = tt

if_none : {X : Type 0} (t : Bool) (x : X) (P : Type 0) → (t ≡ false → P) → IfNone (then_some t x) P
if_none true x P h = tt
if_none false x P h = h refl

pub returns-clause-some : goal.returns-clause-some
returns-clause-some c = rw c.then_some.ensures (if_some c.is_key_of.result c.spelled_by-name.result _ (λ is.
    rw (← c.as_bytes.ensures.bytes) (is_short_name c.args.key.now c.as_bytes.result.now c.as_bytes.ensures.short (sym c.is_key_of.ensures.is ∙ is) (c.is_key_of.ensures.key is))))

pub returns-clause-none : goal.returns-clause-none
returns-clause-none c = rw c.then_some.ensures (if_none c.is_key_of.result c.spelled_by-name.result _ (λ is.
    no_short_name c.args.key.now c.as_bytes.result.now (c.as_bytes.ensures.bytes ∙ c.spelled_by-name.ensures) (sym is ∙ c.is_key_of.ensures.is)))
