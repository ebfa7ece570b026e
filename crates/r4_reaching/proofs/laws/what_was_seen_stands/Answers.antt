use Rattle.r4_reaching.proofs.Standing.{seen_stands}
use Rattle.r4_reaching.proofs.laws.what_was_seen_stands.Goals as goal

pub returns : goal.returns
returns c = λ t root known asked s h looked. seen_stands t root known s h asked looked
