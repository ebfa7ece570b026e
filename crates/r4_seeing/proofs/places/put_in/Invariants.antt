use Rattle.std.proofs.Common.{◌≡◌, ◌+◌, ◌≤◌, List, ◌++◌, drop, length, take}
use Rattle.std.specs.Prelude.{vec_capacity, vec_len}
use Rattle.r4_content.specs.declared.seen.SeenPart.{SeenPart}
use Rattle.r4_seeing.proofs.Putting.{IsPutting}
use Rattle.r4_seeing.proofs.places.put_in.Given as goal

abbrev pub invariant-loop-part : goal.invariant-loop-part
invariant-loop-part l = IsPutting l.at l.fn.parts.items l.fn.more.items l.parts.items l.more.items ×
    (vec_len l.parts + vec_len l.more ≤ vec_capacity l.parts)

abbrev pub decreases-loop-part : goal.decreases-loop-part
decreases-loop-part l = length l.more.items
