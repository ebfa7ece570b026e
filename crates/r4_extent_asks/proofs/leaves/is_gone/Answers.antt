use Rattle.std.proofs.Common.{◌≡◌, ap, false, not, sym, true, ◌∙◌}
use Rattle.std.specs.Prelude.{nat_lt}
use Rattle.r4_base.specs.Key.{rank}
use Rattle.r4_extent_asks.proofs.Staying.{gone_is}
use Rattle.r4_extent_asks.proofs.leaves.is_gone.Goals as goal

pub returns-then-not-is_below : goal.returns-then-not-is_below
returns-then-not-is_below c us bytes =
    let x = c.args.leaf.now in
    let come = c.args.come.now in
    let low : c.is_below.result ≡ nat_lt (rank x.lo) (rank come.from) = c.is_below.ensures
    ∙ (λ i. nat_lt (rank (c.lo.ensures i)) (rank come.from)) in
    gone_is (rank come.from, rank come.to) x us c.args.bytes false bytes (sym low ∙ c.if-not-is_below.true)

pub returns-else-not-is_below : goal.returns-else-not-is_below
returns-else-not-is_below c us bytes =
    let x = c.args.leaf.now in
    let come = c.args.come.now in
    let low : c.is_below.result ≡ nat_lt (rank x.lo) (rank come.from) = c.is_below.ensures
    ∙ (λ i. nat_lt (rank (c.lo.ensures i)) (rank come.from)) in
    ap not c.if-not-is_below.false
    ∙ gone_is (rank come.from, rank come.to) x us c.args.bytes true bytes (sym low ∙ c.if-not-is_below.false)
