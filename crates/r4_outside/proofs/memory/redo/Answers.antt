use Rattle.std.proofs.Common.{◌⊎◌, ℕ, ◌<◌, ◌≤◌, List, length, inl, inr, subst, arith}
use Rattle.r4_outside.specs.Mix.{IsMix}
use Rattle.r4_outside.proofs.Crashing.{write_lost, write_left, torn_block, sync_lost, sync_left}
use Rattle.r4_outside.proofs.memory.redo.Goals as goal
use Rattle.r4_outside.proofs.memory.redo.Goals.{then-made-moment-via-then-made-moment, then-made-moment-via-else-made-moment+then-at-len}

pub returns-then-made-moment : goal.returns-then-made-moment
returns-then-made-moment c start calls pick mask_is g =
    let lost : (c.args.moment < c.in-Wrote.made) ⊎ (length c.args.left.now.items ≤ c.in-Wrote.at) = elim c.then-made-moment.branch [
      | then-made-moment-via-then-made-moment w ↦ inl (omega arith)
      | then-made-moment-via-else-made-moment+then-at-len w ↦ inr (omega arith)
    ] in
    rw (c.in-Wrote.is, c.put_block.ensures.set) (write_lost start calls c.args.moment pick c.in-Wrote.made c.in-Wrote.at _ c.args.full.now.items c.args.left.now.items c.put_block.ensures.whole lost g)

pub returns-else-at-len : goal.returns-else-at-len
returns-else-at-len c start calls pick mask_is g =
    let before = torn_block c.args.left.now.items c.in-Wrote.at c.index_mut-torn.result.now (omega arith) c.index_mut-torn.ensures.value in
    let mix = subst (λ (x : List ℕ). IsMix c.args.mask c.in-Wrote.block x c.mix.new.into) before c.mix.ensures.mix in
    rw (c.in-Wrote.is, c.put_block.ensures.set) (write_left start calls c.args.moment pick c.in-Wrote.made c.in-Wrote.at c.args.mask _ c.args.full.now.items c.args.left.now.items _ c.put_block.ensures.whole (omega arith) (omega arith) c.mix.ensures.whole mask_is mix g)

pub returns-then-made-moment-2 : goal.returns-then-made-moment-2
returns-then-made-moment-2 c start calls pick mask_is g = rw c.in-Synced.is (sync_lost start calls c.args.moment pick c.in-Synced.made c.args.full.now.items c.args.left.now.items (omega arith) g)

pub returns-in_ok-left-in-Synced : goal.returns-in_ok-left-in-Synced
returns-in_ok-left-in-Synced c start calls pick mask_is g = rw (c.in-Synced.is, c.in_ok-left-in-Synced.ensures, c.deref.ensures.value) (sync_left start calls c.args.moment pick c.in-Synced.made c.args.full.now.items c.args.left.now.items (omega arith) g)
