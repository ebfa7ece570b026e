use Rattle.r4_flushed.proofs.Owned.{applied_owns, committed_owns, fused_owns, opened_owns, sealed_owns}
use Rattle.r4_flushed.proofs.flushing.owned_blocks_stand.Goals as goal

pub returns : goal.returns
returns g = record {
  begun = opened_owns;
  applied = λ w c txn script index x d owns sets a old. applied_owns c owns w txn script index x d sets a old;
  fused = λ c a b node owns. fused_owns c owns a b node;
  sealed = λ n work m r c fl owns. sealed_owns n work m r c fl owns;
  committed = λ c a clock owns. committed_owns c owns a clock;
}
