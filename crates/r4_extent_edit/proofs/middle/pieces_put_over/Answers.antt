use Rattle.r4_extent_edit.proofs.SpanBorders.{sound_pieces}
use Rattle.r4_extent_edit.proofs.middle.pieces_put_over.Goals as goal

pub pieces_parted-requires-clause-border : goal.pieces_parted-requires-clause-border
pieces_parted-requires-clause-border c = c.requires.border (sound_pieces c.args.twig.now
    (record { whole = c.node-node.ensures.whole; accepted = c.node-node.ensures.stands }) c.requires.level)
