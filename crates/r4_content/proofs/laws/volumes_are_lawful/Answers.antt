use Rattle.std.specs.Prelude.{◌^◌}
use Rattle.std.proofs.Common.{arith}
use Rattle.r4_content.proofs.VolumeWidths.{volume_lawful, volume_room}
use Rattle.r4_content.proofs.Volumes.{volume_bodies, volume_objects}
use Rattle.r4_content.proofs.laws.volumes_are_lawful.Goals as goal

pub returns : goal.returns
returns c = record {
  objects = volume_objects;
  bodies = volume_bodies;
  lawful = volume_lawful;
  room = λ n image m h. volume_room n image m h (2 ^ 63) (omega arith);
}
