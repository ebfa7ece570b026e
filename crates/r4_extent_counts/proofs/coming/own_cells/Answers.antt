use Rattle.std.proofs.Common.{◌≡◌, ◌+◌, List, ap, rules, subst, sym, ◌∙◌}
use Rattle.std.specs.Prelude.{All, sum_by}
use Rattle.r4_base.specs.Key.{rank}
use Rattle.r4_extent_demands.specs.r4_branch.declared.piece.TwigPiece.{TwigPiece}
use Rattle.r4_extent_demands.specs.r4_cell.Seen.{node_of}
use Rattle.r4_content.specs.Held.{edits_of}
use Rattle.r4_extent_demands.specs.r4_reach.Needs.{cut_pieces}
use Rattle.r4_extent_demands.specs.r4_reach.Touched.{going}
use Rattle.r4_extent_counts.specs.Coming.{filled_in}
use Rattle.r4_extent_demands.specs.Pieces.{HasRoom}
use Rattle.r4_extent_demands.proofs.Rooms.{follow_room}
use Rattle.r4_extent_counts.proofs.Counts.{own_are}
use Rattle.r4_extent_counts.proofs.coming.own_cells.Goals as goal

pub cut-requires-clause-room : goal.cut-requires-clause-room
cut-requires-clause-room c =
    let x = c.args.twig.now in
    subst (λ (ps : List TwigPiece). All HasRoom ps) (sym c.as_slice-pieces.ensures.value)
    (follow_room (rank x.lo) (rank x.hi) c.in_ok-all.all.items c.in_ok-all.ensures.pieces.follow)

pub returns : goal.returns
returns c =
    let b = c.args.body.now in
    let e = edits_of c.args.edits.now in
    let x = c.args.twig.now in
    let sum : c.in_ok-ok_or.field-0 ≡ c.in_ok-filled.filled + (c.come_to-come.result + c.in_ok-leaf.leaf) = search rules in
    own_are b e x c.in_ok-all.all.items c.in_ok-left.left.items c.in_ok-filled.filled c.come_to-come.result c.in_ok-leaf.leaf
    c.in_ok-ok_or.field-0 c.in_ok-all.ensures.is
    (c.in_ok-left.ensures.items ∙ ap (cut_pieces (going b) (node_of x)) c.as_slice-pieces.ensures.value)
    (c.in_ok-filled.ensures ∙ ap (sum_by (filled_in b e)) c.as_slice.ensures.value) c.come_to-come.ensures.is
    c.in_ok-leaf.ensures.is sum
