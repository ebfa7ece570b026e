use Rattle.std.proofs.Common.{arith}
use Rattle.r4_extent_build.proofs.AllTurns.{all_set}
use Rattle.r4_extent_build.proofs.laws.turned_twigs_set_bytes.Goals as goal

pub returns : goal.returns
returns c = λ b first e t r twigs f w now at growing keys can is. let low = can.low in all_set b first e t r twigs f w now at growing keys can.turns (omega (arith, low)) is
