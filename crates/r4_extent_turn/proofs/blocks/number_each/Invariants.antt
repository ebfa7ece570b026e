use Rattle.std.specs.Prelude.{[], map, take}
use Rattle.std.specs.Arc.{arc_value}
use Rattle.r4_content.specs.Held.{edits_of}
use Rattle.r4_extent_build.specs.Numbering.{IsNumbered}
use Rattle.r4_extent_turn.specs.Turning.{set_over}
use Rattle.r4_extent_turn.proofs.blocks.number_each.Given as goal

abbrev pub invariant-loop-piece : goal.invariant-loop-piece
invariant-loop-piece l =
    IsNumbered [] (take l.piece-index l.pieces) (set_over (edits_of l.tails) (edits_of l.edits)) l.fn.fresh l.fresh l.made.pieces.items
    (map (λ c. arc_value c) l.made.blocks.items)
