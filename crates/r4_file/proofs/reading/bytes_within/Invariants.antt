use Rattle.std.proofs.Common.{◌≡◌, ◌++◌, drop}
use Rattle.std.specs.List.{flat_map}
use Rattle.r4_base.specs.Key.{rank}
use Rattle.r4_content.specs.Bodies.{bytes_in}
use Rattle.r4_content.specs.Held.{pairs_of, part_pairs}
use Rattle.r4_content.specs.Seen.{pairs_in}
use Rattle.r4_file.proofs.reading.bytes_within.Given as goal

abbrev pub invariant-loop-part : goal.invariant-loop-part
invariant-loop-part l = l.bytes.items ++ bytes_in (pairs_in (flat_map part_pairs (drop l.part-index l.seen.parts.items)) (rank l.within.from) (rank l.within.to)) ≡ bytes_in (pairs_in (pairs_of l.seen) (rank l.within.from) (rank l.within.to))
