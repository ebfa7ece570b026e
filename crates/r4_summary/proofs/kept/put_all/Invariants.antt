use Rattle.std.proofs.Common.{◌≡◌, map}
use Rattle.std.specs.Vec.Iter.{into_iter_items}
use Rattle.r4_content.specs.Held.{pair_of}
use Rattle.r4_summary.specs.Kept.{AreKept, kept_puts, pairs_in}
use Rattle.r4_summary.proofs.kept.put_all.Given as goal

abbrev pub invariant-loop-key : goal.invariant-loop-key
invariant-loop-key l =
    AreKept l.parts.items
    × (kept_puts (map pair_of (into_iter_items l.key-iterator)) (pairs_in l.parts.items)
    ≡ kept_puts (map pair_of (into_iter_items l.initial.key-iterator)) (pairs_in l.initial.parts.items))
