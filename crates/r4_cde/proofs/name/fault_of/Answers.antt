use Rattle.std.proofs.Common.{◌≡◌, ◌∙◌, sym, Some, None, Bool, true, false, cond, refl, arith}
use Rattle.std.specs.Bool.{then_some}
use Rattle.r4_base.specs.declared.items.NameFault.TheVariants.{Dot}
use Rattle.r4_base.specs.Name.{bad_byte}
use Rattle.r4_base.proofs.Names.{bad_byte_is, fault_at_byte, fault_of_dots}
use Rattle.r4_cde.proofs.name.fault_of.Goals as goal

pub returns-in-Some : goal.returns-in-Some
returns-in-Some c =
    let bad : bad_byte 0 c.args.name.now ≡ Some c.in-Some.at = sym (bad_byte_is 0 c.args.name.now) ∙ sym c.bad_byte.ensures ∙ c.in-Some.is in
    fault_at_byte c.args.name.now c.in-Some.at (sym c.is_empty.ensures ∙ c.if-is_empty.false) (omega arith) bad

chosen : (t : Bool) → then_some t Dot ≡ cond t (Some Dot) None
chosen true = refl
chosen false = refl

pub returns : goal.returns
returns c =
    let fine : bad_byte 0 c.args.name.now ≡ None = sym (bad_byte_is 0 c.args.name.now) ∙ sym c.bad_byte.ensures ∙ c.in_default.is in
    c.then_some.ensures ∙ chosen c.is_dots.result ∙ rw c.is_dots.ensures (fault_of_dots c.args.name.now (sym c.is_empty.ensures ∙ c.if-is_empty.false) (omega arith) fine)
