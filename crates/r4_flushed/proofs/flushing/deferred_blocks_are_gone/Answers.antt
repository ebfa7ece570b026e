use Rattle.r4_flushed.proofs.Deferring.{deferred_begun, deferred_fused, deferred_sealed, deferred_settled}
use Rattle.r4_flushed.proofs.Deferring.{freed_is_gone}
use Rattle.r4_flushed.proofs.flushing.deferred_blocks_are_gone.Goals as goal

pub returns : goal.returns
returns g = record {
  begun = deferred_begun;
  fused = λ c s a b node deferred. deferred_fused c s a b node deferred;
  sealed = λ n work m r c fl unowned deferred. deferred_sealed n work m r c fl unowned deferred;
  settled = deferred_settled;
  freed = freed_is_gone;
}
