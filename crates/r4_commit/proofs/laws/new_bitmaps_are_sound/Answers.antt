use Rattle.r4_commit.proofs.NewImage.{super_sound, bitmaps_sound, volume_marks}
use Rattle.r4_commit.proofs.laws.new_bitmaps_are_sound.Goals as goal

pub returns : goal.returns
returns c = record { super40 = super_sound; bitmaps = bitmaps_sound; marks = volume_marks }
