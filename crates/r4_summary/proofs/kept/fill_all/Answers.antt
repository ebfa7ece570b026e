use Rattle.std.proofs.Common.{rules, ◌∙◌, ap, sym, drop, ◌+◌}
use Rattle.std.specs.List.{flat_map}
use Rattle.r4_content.specs.Held.{fill_pairs}
use Rattle.r4_summary.proofs.KeptEdits.{fills_from}
use Rattle.r4_summary.specs.Kept.{kept_puts}
use Rattle.r4_summary.proofs.kept.fill_all.Goals as goal

pub loop-fill-preserved : goal.loop-fill-preserved
loop-fill-preserved c = (
  c.cut.ensures.kept,
  ap (kept_puts (flat_map fill_pairs (drop (c.loop-fill.fill-index + 1) c.args.fills.now))) c.cut.ensures.pairs
      ∙ sym (fills_from c.args.fills.now c.loop-fill.fill-index _ _ (search rules))
      ∙ c.loop-fill.invariant.1,
)
