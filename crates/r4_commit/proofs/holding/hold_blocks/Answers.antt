use Rattle.std.proofs.Common.{◌≤◌, ◌<◌, ℕ, List, length, map, take, get_or, sym, subst, arith, length-take}
use Rattle.std.proofs.lemmas.List.{length-map}
use Rattle.r4_base.specs.declared.things.BlockNo.{BlockNo}
use Rattle.r4_commit.proofs.HeldBlocks.{IsHolding, clear_held, holding_more, not_before, number, numbers_more, unused_at}
use Rattle.r4_commit.proofs.holding.hold_blocks.Goals as goal

pub hold_block-requires-clause-within : goal.hold_block-requires-clause-within
hold_block-requires-clause-within c = omega (arith, c.loop-block.invariant.block_count, (unused_at c.args.space.now c.args.blocks.now c.loop-block.block-index (record { 0 = 0 }) c.requires.unused c.loop-block-test.true).0)

pub hold_block-requires-clause-unused : goal.hold_block-requires-clause-unused
hold_block-requires-clause-unused c =
    let bs : List BlockNo = c.args.blocks.now in
    let i : ℕ = c.loop-block.block-index in
    clear_held c.args.space.now c.loop-block.space c.args.atom (map number (take i bs)) (get_or bs i (record { 0 = 0 })).0 c.loop-block.invariant
    (unused_at c.args.space.now bs i (record { 0 = 0 }) c.requires.unused c.loop-block-test.true).1 (not_before bs i (record { 0 = 0 }) c.requires.different c.loop-block-test.true)

pub loop-block-preserved : goal.loop-block-preserved
loop-block-preserved c =
    let bs : List BlockNo = c.args.blocks.now in
    let i : ℕ = c.loop-block.block-index in
    let lt : i < length bs = c.loop-block-test.true in
    let spare = c.loop-block.invariant.spare in
    let some : 1 ≤ c.loop-block.space.spare = omega (arith, spare, length-map (take i bs) number, length-take i bs, lt, c.requires.room) in
    subst (IsHolding c.args.space.now c.hold_block.new.space c.args.atom) (sym (numbers_more bs i (record { 0 = 0 }) lt))
    (holding_more c.args.space.now c.loop-block.space c.hold_block.new.space c.args.atom (map number (take i bs)) (get_or bs i (record { 0 = 0 })) c.loop-block.invariant c.hold_block.ensures some)
