use Rattle.r4_commit.proofs.Safety.{is_safe, is_safe_alone}
use Rattle.r4_commit.proofs.laws.plans_are_safe.Goals as goal

pub returns : goal.returns
returns c = record { safe = is_safe; alone = is_safe_alone }
