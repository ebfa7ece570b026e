use Rattle.std.proofs.Common.{◌≡◌, ◌+◌, ◌^◌, length, map, ap, refl, sym, subst, ◌∙◌, rules, arith}
use Rattle.std.specs.Arc.{arc_value}
use Rattle.r4_base.specs.Key.{rank}
use Rattle.r4_cell.specs.Seen.{CellSeen}
use Rattle.r4_cell.specs.declared.change.Fresh.{Fresh}
use Rattle.r4_edit.specs.Editing.{given_item}
use Rattle.r4_edit_testing.specs.Trials.{AreLeaves, IsNewExtent}
use Rattle.r4_extent_edit_tests.specs.Raised.{IsRaised}
use Rattle.r4_extent_edit_tests.specs.Turned.{AllStand, LieAround}
use Rattle.r4_extent_edit_tests.proofs.Turned.{may_be_below, turn_raised}
use Rattle.r4_patch.specs.Joining.{ids_of}
use Rattle.r4_path.proofs.Rising.{count_within}
use Rattle.r4_path.proofs.Upwards.{all_numbered, long_ids}
use Rattle.r4_path.specs.Nodes.{IsPointingTo}
use Rattle.r4_path.specs.TwigPieces.{ArePiecesOf}
use Rattle.r4_extent_edit_tests.proofs.turning.turn_below.Goals as goal

pub root_over-requires-clause-able : goal.root_over-requires-clause-able
root_over-requires-clause-able c =
    let cells = map arc_value c.args.leaves.now in
    let are : AreLeaves cells = search rules in
    let long = long_ids cells in
    let few = are.few in
    all_numbered (2 ^ 63) (2 ^ 63 + length (ids_of cells)) cells (omega arith) (omega (arith, long, few))
    (λ i member. count_within (2 ^ 63) (ids_of cells) i are.counts member)

pub raised-requires-clause-twig : goal.raised-requires-clause-twig
raised-requires-clause-twig c =
    let twig = arc_value c.in_ok-twig.twig in
    let points : IsPointingTo (map arc_value c.args.leaves.now) 2 (2 ^ 63 + 1000) twig = c.in_ok-twig.ensures.root in
    may_be_below (map arc_value c.args.leaves.now) twig points

pub turn-requires-clause-path : goal.turn-requires-clause-path
turn-requires-clause-path c =
    let cells = map arc_value c.args.leaves.now in
    let it = given_item c.args.key.now 5 c.args.body.now in
    let twig = arc_value c.in_ok-twig.twig in
    let are : AreLeaves cells = search rules in
    let stand : AllStand cells = search rules in
    let points : IsPointingTo cells 2 (2 ^ 63 + 1000) twig = c.in_ok-twig.ensures.root in
    let pieces : ArePiecesOf twig c.in_ok-_pieces._pieces.items =
    subst (λ (x : CellSeen). ArePiecesOf x c.in_ok-_pieces._pieces.items) c.deref.ensures c.in_ok-_pieces.ensures in
    let new : IsNewExtent it = search rules in
    let end : rank c.in-Some.end ≡ rank c.args.key.now + 8192 = search rules in
    let around : LieAround cells (rank c.args.key.now) (rank c.in-Some.end) = search rules in
    let first = ap (λ (f : Fresh). f.next) c.in_ok-twig.ensures.fresh in
    let last = ap (λ (f : Fresh). f.end) c.in_ok-twig.ensures.fresh in
    let next = ap (λ (f : Fresh). f.next) c.in_ok-path.ensures.fresh ∙ ap (λ n. n + 1) first in
    let stops = ap (λ (f : Fresh). f.end) c.in_ok-path.ensures.fresh ∙ last in
    let up : IsRaised twig (2 ^ 63 + 1001) (map arc_value c.as_slice.result.now) =
    subst (λ n. IsRaised twig n (map arc_value c.as_slice.result.now)) first
    (subst (IsRaised twig c.root_over.new.fresh.next) (ap (map arc_value) (sym c.as_slice.ensures.value))
    c.in_ok-path.ensures.path) in
    turn_raised cells twig (map arc_value c.as_slice.result.now) c.in_ok-_pieces._pieces.items it (rank c.in-Some.end)
    c.raised.new.fresh are stand points up pieces refl new end around next stops
