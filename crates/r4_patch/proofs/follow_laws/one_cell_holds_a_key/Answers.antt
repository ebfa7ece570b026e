use Rattle.r4_patch.proofs.Holding.{held_before, one_holder}
use Rattle.r4_patch.proofs.follow_laws.one_cell_holds_a_key.Goals as goal

pub returns : goal.returns
returns c = record {
  one = λ t root k i j c d it tc td hc hd. one_holder t root it k i j c d tc td hc hd;
  before = λ p t root k it ip mp (i, c, nc, holds). held_before p t root it ip mp i c k nc holds;
}
