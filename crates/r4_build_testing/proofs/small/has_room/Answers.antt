use Rattle.std.proofs.Common.{subst, ap, ◌∙◌}
use Rattle.std.specs.Arc.{arc_value}
use Rattle.std.proofs.lemmas.Result.{IfOk-weaker}
use Rattle.r4_cell.specs.Seen.{CellSeen}
use Rattle.r4_content.specs.Course.{Ending}
use Rattle.r4_content.specs.Edited.{Edits}
use Rattle.r4_content.specs.Held.{edits_of}
use Rattle.r4_build_testing.specs.Small.{HasRoomFor}
use Rattle.r4_build_testing.proofs.Room.{second_is}
use Rattle.r4_build_testing.proofs.small.has_room.Goals as goal

pub returns-in-len2 : goal.returns-in-len2
returns-in-len2 c =
    IfOk-weaker c.leaf_has_room.result _ _ (λ b told yes small.
    subst (λ (e : Edits). HasRoomFor e small.leaf) (ap (λ (x : Ending). x.edits) c.in_ok-edits.ensures.ending)
    (subst (λ (x : CellSeen). HasRoomFor (edits_of c.in_ok-edits.edits) x)
    (c.deref.ensures ∙ second_is (λ x. arc_value x) c.as_slice.result.now c.leaf-item.result c.args.cells.now small c.as_slice.ensures c.leaf-item.is)
    (told yes))) c.leaf_has_room.ensures
