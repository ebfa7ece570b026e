use Rattle.std.proofs.Common.{◌∙◌, length, ap, sym}
use Rattle.r4_space.proofs.TakenLaws.{length-first_bits}
use Rattle.r4_space.proofs.bits.Bits.len.Goals as goal

pub returns : goal.returns
returns c = let i = c.self.inside in sym (length-first_bits i.size i.words.items) ∙ ap length c.self.view_is
