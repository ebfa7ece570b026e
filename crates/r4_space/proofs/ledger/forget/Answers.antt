use Rattle.std.proofs.Common.{◌∙◌, sym}
use Rattle.r4_space.proofs.AccountLaws.{none_without, removed}
use Rattle.r4_space.proofs.ledger.forget.Goals as goal

pub returns-in-Some-clause-items : goal.returns-in-Some-clause-items
returns-in-Some-clause-items c = c.remove.ensures.items ∙ removed c.args.atoms.now.items c.args.atom c.in-Some.i c.requires.once (rw c.in-Some.is at c.requires.at)

pub returns-in_default-clause-items : goal.returns-in_default-clause-items
returns-in_default-clause-items c = sym (none_without c.args.atom c.args.atoms.now.items (rw c.in_default.is at c.requires.at))
