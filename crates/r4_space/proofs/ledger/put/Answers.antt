use Rattle.std.proofs.Common.{◌∙◌, refl}
use Rattle.r4_space.proofs.AccountLaws.{placed, stands_open}
use Rattle.r4_space.proofs.ledger.put.Goals as goal

pub returns-in-Some-clause-items : goal.returns-in-Some-clause-items
returns-in-Some-clause-items c =
    let at = rw c.in-Some.is at c.requires.at in
    placed c.args.atoms.now.items c.args.account c.in-Some.i c.requires.once at ∙ rw (stands_open c.args.atoms.now.items c.args.account.atom c.in-Some.i at) refl
