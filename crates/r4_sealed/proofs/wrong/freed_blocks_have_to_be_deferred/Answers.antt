use Rattle.r4_sealed.proofs.LeftOut.{lost_after, not_before}
use Rattle.r4_sealed.proofs.wrong.freed_blocks_have_to_be_deferred.Goals as goal

pub returns : goal.returns
returns g = record {
  lost = λ n work o m c d b e ok here was gone kept. lost_after n work o c b e was m d ok here gone kept;
  not_before = λ n work o c b e was. not_before n work o c b e was;
}
