use Rattle.r4_space.proofs.AccountLaws.{none_above}
use Rattle.r4_space.proofs.ledger.position.Goals as goal

pub returns-then-highest-atom : goal.returns-then-highest-atom
returns-then-highest-atom c = none_above c.args.highest c.args.atoms.now c.args.atom c.requires c.if-highest-atom.true
