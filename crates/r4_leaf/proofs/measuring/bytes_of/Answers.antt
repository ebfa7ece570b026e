use Rattle.std.proofs.Common.{rules, sym, subst}
use Rattle.r4_leaf.specs.Pieces.{IsSound}
use Rattle.r4_leaf.proofs.Measured.{counts_more, counts_none, sound_at}
use Rattle.r4_leaf.proofs.measuring.bytes_of.Goals as goal

pub loop-piece-init : goal.loop-piece-init
loop-piece-init c = counts_none c.args.pieces.now

pub tip_of-tip-requires : goal.tip_of-tip-requires
tip_of-tip-requires c =
    subst IsSound (sym c.piece-item.is)
    (sound_at c.requires.0 c.requires.1 c.args.pieces.now c.loop-piece.piece-index c.piece-item.result c.requires.2 (search rules))

pub weigh-requires : goal.weigh-requires
weigh-requires c =
    subst IsSound (sym c.piece-item.is)
    (sound_at c.requires.0 c.requires.1 c.args.pieces.now c.loop-piece.piece-index c.piece-item.result c.requires.2 (search rules))

pub loop-piece-preserved : goal.loop-piece-preserved
loop-piece-preserved c =
    counts_more c.args.pieces.now c.loop-piece.piece-index c.loop-piece.total c.weigh.result _ c.loop-piece.tip _ c.piece-item.result
    (search rules) c.piece-item.is c.loop-piece.invariant c.weigh.ensures c.tip_of-tip.ensures (search rules)
