use Rattle.std.proofs.Common.{◌≡◌, drop}
use Rattle.std.specs.List.{flat_map}
use Rattle.r4_content.specs.Held.{fill_pairs}
use Rattle.r4_summary.specs.Kept.{AreKept, kept_puts, pairs_in}
use Rattle.r4_summary.proofs.kept.fill_all.Given as goal

abbrev pub invariant-loop-fill : goal.invariant-loop-fill
invariant-loop-fill l =
    AreKept l.parts.items
    × (kept_puts (flat_map fill_pairs (drop l.fill-index l.fills)) (pairs_in l.parts.items) ≡ kept_puts (flat_map fill_pairs l.fn.fills) (pairs_in l.fn.parts.items))
