use Rattle.std.proofs.Common.{◌+◌, ◌∙◌, List, ℕ, length, sym, ap}
use Rattle.std.specs.Prelude.{nat_lt}
use Rattle.r4_base.specs.Key.{rank}
use Rattle.r4_leaf_edits.proofs.Touched.{bytes_met, low_first, low_past}
use Rattle.r4_leaf_edits.proofs.touching.meets_run.Goals as goal

pub returns-then-is_below : goal.returns-then-is_below
returns-then-is_below c =
    c.reaches.ensures
    ∙ ap (λ (bs : List ℕ). nat_lt (rank c.higher-low.result) (rank c.args.run.now.from + length bs)) c.as_slice.ensures
    ∙ low_first (rank c.args.range.now.from) (rank c.args.range.now.to) (rank c.args.run.now.from) (length c.args.run.now.bytes) (rank c.higher-low.result) c.higher-low.ensures.rank (sym c.is_below.ensures ∙ c.if-is_below.true)
    ∙ sym (bytes_met (rank c.args.range.now.from) (rank c.args.range.now.to) (rank c.args.run.now.from) c.args.run.now.bytes)

pub returns-else-is_below : goal.returns-else-is_below
returns-else-is_below c =
    c.if-is_below.false
    ∙ low_past (rank c.args.range.now.from) (rank c.args.range.now.to) (rank c.args.run.now.from) (length c.args.run.now.bytes) (rank c.higher-low.result) c.higher-low.ensures.rank (sym c.is_below.ensures ∙ c.if-is_below.false)
    ∙ sym (bytes_met (rank c.args.range.now.from) (rank c.args.range.now.to) (rank c.args.run.now.from) c.args.run.now.bytes)
