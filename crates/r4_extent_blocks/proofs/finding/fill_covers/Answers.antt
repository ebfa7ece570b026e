use Rattle.std.proofs.Common.{sym, ◌∙◌}
use Rattle.std.proofs.lemmas.Bool.{eqb-true, ltb-false}
use Rattle.r4_base.specs.Key.{rank}
use Rattle.r4_extent_blocks.proofs.Sets.{fill_all}
use Rattle.r4_extent_blocks.proofs.finding.fill_covers.Goals as goal

pub returns-then-not-is_below : goal.returns-then-not-is_below
returns-then-not-is_below c = λ e.
    fill_all (rank c.args.lo.now) (rank c.args.fill.now.from) (rank c.args.fill.now.to) c.args.fill.now.byte (ltb-false _ _ (sym c.is_below.ensures ∙ c.if-not-is_below.true)) (sym c.keys_between.ensures ∙ eqb-true _ _ e)
