use Rattle.std.proofs.Common.{take}
use Rattle.std.specs.List.{flat_map}
use Rattle.r4_content.specs.Held.{part_pairs}
use Rattle.r4_extent_reaching.specs.r4_reaching.Answers.{HaveObjectNumbers}
use Rattle.r4_extent_reach.proofs.objects.sees_low_object.Given as goal

abbrev pub invariant-loop-part : goal.invariant-loop-part
invariant-loop-part l = HaveObjectNumbers (flat_map part_pairs (take l.part-index l.fn.seen))
