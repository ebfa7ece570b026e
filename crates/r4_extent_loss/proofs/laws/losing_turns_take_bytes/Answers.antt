use Rattle.r4_extent_loss.proofs.LosingSets.{sets_below}
use Rattle.r4_extent_loss.proofs.laws.losing_turns_take_bytes.Goals as goal

pub returns : goal.returns
returns c = λ b first e x next losing loss high. sets_below b x loss first e losing next high
