-- The turn of a twig of a body that grows (docs/volume.md, "Bodies in extents").
use Rattle.std.specs.Prelude.{[], Some}
use Rattle.r4_base.specs.Key.{rank}
use Rattle.r4_extent_demands.specs.r4_cell.Seen.{CellSeen, node_of}
use Rattle.r4_content.specs.Edited.{Edits}
use Rattle.r4_extent_demands.specs.r4_path.TwigPieces.{twig_pieces}
use Rattle.r4_extent_demands.specs.r4_reach.Needs.{pieces_after}
use Rattle.r4_extent_demands.specs.r4_reach.Touched.{Body}
use Rattle.r4_twig_turns.specs.Turning.{TwigTurn}
use Rattle.r4_extent_build.specs.Numbering.{cells_coming, coming_count, with_numbers}

-- The twig gets the pieces that it has after the edits, with numbers, and the data blocks that come; nothing goes below
-- it.
abbrev pub growing_turn : Body → Edits → CellSeen → TwigTurn
growing_turn b e twig =
    let ps = pieces_after (Some b) e (node_of twig) [] in
    record {
      key = rank twig.lo;
      node = node_of twig;
      pieces = λ n. with_numbers (twig_pieces twig) n ps;
      beside = λ n. record {
        below = record { old = []; new = [] };
        blocks = cells_coming e (twig_pieces twig) n ps;
      };
      blocks = coming_count (twig_pieces twig) ps;
      leaves = 0;
    }
