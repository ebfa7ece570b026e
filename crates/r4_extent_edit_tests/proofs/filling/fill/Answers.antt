use Rattle.std.proofs.Common.{◌≡◌, ◌≤◌, ◌+◌, ◌*◌, ◌^◌, ◌<◌, refl, rules}
use Rattle.std.specs.Arc.{arc_value}
use Rattle.r4_base.specs.Key.{IsKey, least, offset_of, rank, top}
use Rattle.r4_edit.specs.Editing.{given_item}
use Rattle.r4_edit_testing.specs.Trials.{IsTwigOfHoles}
use Rattle.r4_extent_edit_tests.specs.Blocks.{AreBlocks, IsExtentOf}
use Rattle.r4_extent_edit_tests.proofs.Filled.{fill_here}
use Rattle.r4_graft.specs.Splices.{IsBorder}
use Rattle.r4_path.specs.TwigPieces.{ArePiecesOf}
use Rattle.r4_extent_edit_tests.proofs.filling.fill.Goals as goal

pub set_extent-requires-clause-path : goal.set_extent-requires-clause-path
set_extent-requires-clause-path c =
    let count = c.in-Some.count in
    let it = given_item c.args.key.now 5 c.args.body.now in
    let is : IsTwigOfHoles c.deref.result.now = c.in_ok-is_twig_of_holes.ensures c.if-not-branch.false in
    let cell : arc_value c.in_ok-try_clone.field-0 ≡ c.deref.result.now = search rules in
    let seen : c.as_slice.result.now ≡ c.in_ok-pieces.pieces.items = search rules in
    let are : ArePiecesOf c.deref.result.now c.in_ok-pieces.pieces.items = search rules in
    let end : rank c.in-Some-blocks_behind.end ≡ rank c.args.key.now + 4096 * count = search rules in
    let are_blocks : AreBlocks count c.args.body.now = search rules in
    let whole : IsKey c.args.key.now = search rules in
    let fits : offset_of c.args.key.now + 4096 * count < 2 ^ 64 = search rules in
    let new : IsExtentOf count it = record { body = are_blocks; key = whole; fits = fits } in
    let low : least ≤ rank c.args.key.now = search rules in
    let high : rank c.in-Some-blocks_behind.end ≤ top = search rules in
    let one : IsBorder (rank c.args.key.now) c.as_slice.result.now = search rules in
    let two : IsBorder (rank c.in-Some-blocks_behind.end) c.as_slice.result.now = search rules in
    fill_here c.deref.result.now (arc_value c.in_ok-try_clone.field-0) c.in_ok-pieces.pieces.items
    c.as_slice.result.now count it
    (rank c.in-Some-blocks_behind.end) cell is are seen refl new low high end one two
