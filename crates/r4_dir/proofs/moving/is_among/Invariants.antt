use Rattle.std.proofs.Common.{◌≡◌, drop, map}
use Rattle.r4_content.specs.Objects.{is_among}
use Rattle.r4_dir.specs.Coming.{object_of}
use Rattle.r4_dir.proofs.moving.is_among.Given as goal

abbrev pub invariant-loop-other : goal.invariant-loop-other
invariant-loop-other l = is_among (object_of l.object) (map object_of l.above) ≡ is_among (object_of l.object) (map object_of (drop l.other-index l.above))
