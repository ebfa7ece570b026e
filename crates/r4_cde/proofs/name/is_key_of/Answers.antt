use Rattle.std.proofs.Common.{rules, ◌∙◌, sym, arith}
use Rattle.r4_base.proofs.Keys.{is_key}
use Rattle.r4_base.proofs.Numbers.{AreBytes}
use Rattle.r4_base.proofs.Names.{key_is_of, keys_same}
use Rattle.r4_cde.proofs.name.is_key_of.Goals as goal

pub returns-in-Ok-clause-is : goal.returns-in-Ok-clause-is
returns-in-Ok-clause-is c =
    let k = c.args.key.now in
    let bytes : AreBytes c.args.name.now = λ i. let fits = c.type_inv.name i in omega (arith, fits) in
    key_is_of k c.in-Ok.named c.args.name.now c.eq.result (is_key k (search rules) (search rules) (search rules) (search rules) (search rules)) bytes c.in-Ok.ensures.legal c.in-Ok.ensures.key c.eq.ensures

pub returns-in-Ok-clause-key : goal.returns-in-Ok-clause-key
returns-in-Ok-clause-key c is = sym c.in-Ok.ensures.key ∙ keys_same c.in-Ok.named c.args.key.now c.eq.result c.eq.ensures is
