use Rattle.r4_allowed.proofs.Suffices.{made_bears}
use Rattle.r4_allowed.proofs.laws.made_tables_suffice.Goals as goal

pub returns : goal.returns
returns c top cells given table names raised x member low = made_bears top cells given table names raised x member low
