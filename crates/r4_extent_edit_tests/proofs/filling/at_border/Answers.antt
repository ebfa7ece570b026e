use Rattle.std.proofs.Common.{◌≡◌, ◌≤◌, ◌%◌, ◌-◌, slice_index, rules}
use Rattle.r4_extent_edit_tests.proofs.Filled.{blocks_behind}
use Rattle.r4_extent_edit_tests.proofs.filling.at_border.Goals as goal

pub returns-then-piece-key-4 : goal.returns-then-piece-key-4
returns-then-piece-key-4 c whole =
    let zero : slice_index c.args.piece.now.key.el 0 ≡ slice_index c.args.key.now.el 0 = search rules in
    let one : slice_index c.args.piece.now.key.el 1 ≡ slice_index c.args.key.now.el 1 = search rules in
    let two : slice_index c.args.piece.now.key.el 2 ≡ slice_index c.args.key.now.el 2 = search rules in
    let from : slice_index c.args.piece.now.key.el 3 ≤ slice_index c.args.key.now.el 3 = search rules in
    let blocks : (slice_index c.args.key.now.el 3 - slice_index c.args.piece.now.key.el 3) % 4096 ≡ 0 = search rules in
    blocks_behind c.args.key.now c.args.piece.now zero one two from blocks
