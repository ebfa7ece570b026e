use Rattle.r4_sealed.proofs.LeftOut.{count_is, marked_is, root_is, super_is}
use Rattle.r4_sealed.proofs.wrong.new_contents_are_as_planned.Goals as goal

pub returns : goal.returns
returns g = record {
  super40 = λ n work m d ok. super_is n work ok m d;
  root = λ n work m d ok. root_is n work ok m d;
  count = λ n work m d ok. count_is n work ok m d;
  marked = λ n work m d ok. marked_is n work ok m d;
}
