use Rattle.std.proofs.Common.{refl}
use Rattle.r4_base.specs.Node.{count_of}
use Rattle.r4_node40.proofs.Laid.{length-items_of, get-items_of, key_fits}
use Rattle.r4_node40.proofs.Accepted.{accepted, good, space}
use Rattle.r4_node40.proofs.laws.node_law.Goals as goal

pub returns : goal.returns
returns c = record {
  accepted = accepted;
  good = good;
  count = length-items_of;
  item = λ b i lt. get-items_of b (count_of b) i refl lt;
  key = key_fits;
  space = space;
}
