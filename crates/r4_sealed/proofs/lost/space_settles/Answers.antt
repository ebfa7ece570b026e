use Rattle.r4_sealed.proofs.Settled.{freed_alone, settled_space}
use Rattle.r4_sealed.proofs.lost.space_settles.Goals as goal

pub returns : goal.returns
returns g = record {
  space = λ n work m d later ok count l. settled_space n work ok m d count later l;
  freed = freed_alone;
}
