use Rattle.r4_content.specs.Course.{ending, of_content}
use Rattle.r4_content.specs.Edited.{edited}
use Rattle.r4_content.specs.Meaning.{course}
use Rattle.r4_content.proofs.Staying.{lawful_stays}
use Rattle.r4_content.proofs.VisibleUnits.{each_unit, units_visible}
use Rattle.r4_content.proofs.laws.moved_units_are_visible.Goals as goal

pub returns : goal.returns
returns c = record {
  command = λ limit x m raw units moved lt lawful bytes unused h.
      let e = (ending (course limit x) (of_content m)).edits in
      units_visible limit units (edited e m) (lawful_stays limit x m lt lawful bytes unused).1 (each_unit e m raw units moved h);
  edits = λ limit e m raw units moved bodies h. units_visible limit units (edited e m) bodies (each_unit e m raw units moved h);
}
