use Rattle.std.proofs.Common.{◌-◌, length, refl, arith}
use Rattle.r4_base.proofs.Numbers.{AreBytes}
use Rattle.r4_cde.proofs.Forms.{long_form}
use Rattle.r4_cde.proofs.fault.is_long_named.Goals as goal

pub returns-then-body-end-eq0 : goal.returns-then-body-end-eq0
returns-then-body-end-eq0 c =
    let bytes : AreBytes c.args.body.now = λ i. let fits = c.type_inv.body i in omega (arith, fits) in
    long_form c.args.key.now c.args.body.now (length c.args.body.now - 1) c.is_key_of.result c.requires.long refl c.if-end-lt-TARGET.false c.if-body-end-eq0.true bytes c.is_key_of.ensures.is c.is_key_of.ensures.key
