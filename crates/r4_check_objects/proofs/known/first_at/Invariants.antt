use Rattle.std.proofs.Common.{◌≡◌, None, take}
use Rattle.std.specs.List.{find}
use Rattle.r4_check_objects.specs.Objects.{is_object_at}
use Rattle.r4_check_objects.proofs.known.first_at.Given as goal

abbrev pub invariant-loop-held : goal.invariant-loop-held
invariant-loop-held l = find (is_object_at l.object) (take l.held-index l.others) ≡ None
