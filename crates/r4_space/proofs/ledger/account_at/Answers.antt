use Rattle.std.proofs.Common.{◌∙◌, sym}
use Rattle.std.proofs.lemmas.List.{get_or_default}
use Rattle.r4_space.specs.Accounts.{no_account}
use Rattle.r4_space.proofs.AccountLaws.{account_is, no_account_at}
use Rattle.r4_space.proofs.ledger.account_at.Goals as goal

pub returns-in-Some : goal.returns-in-Some
returns-in-Some c =
    let at = rw c.in-Some.is at c.requires.at in
    get_or_default c.args.atoms.now c.in-Some.i _ (no_account c.args.atom) at.0 ∙ account_is c.args.atoms.now c.args.atom c.in-Some.i c.requires.once at

pub returns-in-None : goal.returns-in-None
returns-in-None c = c.no_account.ensures ∙ sym (no_account_at c.args.atoms.now c.args.atom (rw c.in-None.is at c.requires.at))
