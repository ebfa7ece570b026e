use Rattle.std.proofs.Common.{◌≡◌, take}
use Rattle.std.specs.List.{filter}
use Rattle.r4_check_objects.specs.Known.{is_other}
use Rattle.r4_check_objects.proofs.known.others_in.Given as goal

abbrev pub invariant-loop-held : goal.invariant-loop-held
invariant-loop-held l = l.others.items ≡ filter (is_other l.found) (take l.held-index l.found)
