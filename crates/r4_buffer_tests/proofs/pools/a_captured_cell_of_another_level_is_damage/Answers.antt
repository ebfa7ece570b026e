use Rattle.std.proofs.Common.{◌∙◌, []}
use Rattle.std.specs.Arc.{arc_value}
use Rattle.r4_buffer_tests.proofs.Readable.{placed_alone, readable_one}
use Rattle.r4_buffer_tests.proofs.pools.a_captured_cell_of_another_level_is_damage.Goals as goal

pub new-requires-clause-readable : goal.new-requires-clause-readable
new-requires-clause-readable g c κs =
    let x = arc_value c.in_ok-cell.field-0 in
    readable_one _ c.put_one.new.buffer 64 x (λ i. c.in_ok-put_one.ensures i ∙ placed_alone [] x i c.new-buffer.result c.new-buffer.ensures) c.in_ok-cell.ensures.level
