use Rattle.std.proofs.Common.{ap}
use Rattle.std.specs.Prelude.{◌&&◌}
use Rattle.r4_content.specs.Counts.{is_okay, stats_in}
use Rattle.r4_content.specs.Meaning.{course, makes_object}
use Rattle.r4_content.proofs.CourseLaws.{same_course}
use Rattle.r4_content.proofs.ObjectsMade.{as_number, objects_after}
use Rattle.r4_content.proofs.laws.objects_are_counted.Goals as goal

pub returns : goal.returns
returns c = record {
  counted = objects_after;
  same_born = λ limit x m n h. ap (λ e. as_number (makes_object x && is_okay e.reply)) (same_course (course limit x) m n h).0;
  same_gone = λ limit x m n h. ap (λ e. stats_in e.edits.cuts) (same_course (course limit x) m n h).0;
}
