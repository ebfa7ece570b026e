use Rattle.std.proofs.Common.{refl, ◌∙◌, arith}
use Rattle.r4_base.specs.Key.{rank}
use Rattle.r4_extent_blocks.proofs.Sets.{fill_nothing, fill_set, part_long}
use Rattle.r4_extent_blocks.proofs.setting.fill.Goals as goal

pub returns-then-first-last : goal.returns-then-first-last
returns-then-first-last c =
    fill_set (rank c.args.lo.now) (rank c.args.from.now) (rank c.args.to.now) c.args.byte _ _ c.keys_between-first.ensures c.keys_between-last.ensures c.args.bytes.now c.fill.new.self c.requires c.if-first-last.true (c.fill.ensures.len ∙ part_long c.args.bytes.now _ _ (omega arith)) (λ i lt. c.fill.ensures.clones i 0 (let n = part_long c.args.bytes.now c.keys_between-first.result c.keys_between-last.result (omega arith) in omega (arith, n, lt)) refl)

pub returns-else-first-last : goal.returns-else-first-last
returns-else-first-last c =
    fill_nothing (rank c.args.lo.now) (rank c.args.from.now) (rank c.args.to.now) c.args.byte _ _ c.keys_between-first.ensures c.keys_between-last.ensures c.args.bytes.now c.requires c.if-first-last.false
