use Rattle.r4_content_rows.proofs.FileAlone.{unlinked}
use Rattle.r4_content_rows.proofs.Left.{but_padding, moved_but_padding, not_visible}
use Rattle.r4_content_rows.proofs.conditions.byte_left.Goals as goal

pub returns : goal.returns
returns c = record { before = unlinked; moved = moved_but_padding; visible = not_visible; padding = but_padding }
