use Rattle.std.proofs.Common.{◌≡◌, ◌⊎◌, ◌∙◌, ◌<◌, ◌+◌, ℕ, ap, inl, inr, length, subst, sym, arith}
use Rattle.r4_base.specs.Key.{rank}
use Rattle.r4_marking.proofs.r4_search.Walks.{goes_both, handed, leaves_both}
use Rattle.r4_extent_touching.proofs.Left.{all_left, left_both, left_still, left_stops}
use Rattle.r4_extent_touching.proofs.beside.touch_left.Goals as goal
use Rattle.r4_extent_touching.specs.Holding.{AreLeftMetAt, StopsLeft}

pub touch_left_at-requires-clause-knows : goal.touch_left_at-requires-clause-knows
touch_left_at-requires-clause-knows g c m named = c.loop-i.invariant.1.known m (c.requires.knows m named)

pub touch_left_at-requires-clause-keeps : goal.touch_left_at-requires-clause-keeps
touch_left_at-requires-clause-keeps g c level = c.loop-i.invariant.1.keeps level ∙ c.requires.keeps level

pub returns-in_err-touch_left_at-clause-goes : goal.returns-in_err-touch_left_at-clause-goes
returns-in_err-touch_left_at-clause-goes g c =
    goes_both (g.P.Pool.state c.args.pool.now) (g.P.Pool.state c.loop-i.pool) (g.P.Pool.state c.touch_left_at.new.pool)
    c.loop-i.invariant.1 c.in_err-touch_left_at.ensures.goes

pub returns-in_err-touch_left_at-clause-only : goal.returns-in_err-touch_left_at-clause-only
returns-in_err-touch_left_at-clause-only g c =
    left_both c.args.twig.now (rank c.args.at.now) (g.P.Pool.state c.args.pool.now) (g.P.Pool.state c.loop-i.pool)
    (g.P.Pool.state c.touch_left_at.new.pool) c.loop-i.invariant.1 c.in_err-touch_left_at.ensures.goes
    c.loop-i.invariant.2 c.in_err-touch_left_at.ensures.only

pub returns-in_err-touch_left_at-clause-err : goal.returns-in_err-touch_left_at-clause-err
returns-in_err-touch_left_at-clause-err g c =
    let old = g.P.Pool.state c.args.pool.now in
    let new = g.P.Pool.state c.touch_left_at.new.pool in
    handed (λ e. StopsLeft c.args.twig.now (rank c.args.at.now) old e new) c.from_residual.result
    c.in_err-touch_left_at.field-0.0 c.from_residual.ensures.1
    (left_stops c.args.twig.now (rank c.args.at.now) old (g.P.Pool.state c.loop-i.pool) new c.loop-i.invariant.1
    c.in_err-touch_left_at.ensures.goes c.in_err-touch_left_at.field-0.0 c.in_err-touch_left_at.ensures.err)

pub loop-i-preserved : goal.loop-i-preserved
loop-i-preserved g c =
    let old = g.P.Pool.state c.args.pool.now in
    let mid = g.P.Pool.state c.loop-i.pool in
    let new = g.P.Pool.state c.touch_left_at.new.pool in
    let on = c.in_ok-touch_left_at.ensures.goes in (
      leaves_both (g.P.Pool.device c.args.pool.now) (g.P.Pool.device c.loop-i.pool)
          (g.P.Pool.device c.touch_left_at.new.pool) c.loop-i.invariant.0 c.in_ok-touch_left_at.ensures.device,
      goes_both old mid new c.loop-i.invariant.1 on,
      left_both c.args.twig.now (rank c.args.at.now) old mid new c.loop-i.invariant.1 on c.loop-i.invariant.2
          c.in_ok-touch_left_at.ensures.only,
      (λ place less. elim (one_more place c.loop-i.i less) [
        | inl before ↦ left_still c.args.twig.now (rank c.args.at.now) old mid new c.loop-i.invariant.1 on place
            (c.loop-i.invariant.3 place before)
        | inr this ↦ subst (λ k. AreLeftMetAt new c.args.twig.now k (rank c.args.at.now)) (sym this)
            c.in_ok-touch_left_at.ensures.met
      ]),
    )
  where
    one_more : (m n : ℕ) → m < n + 1 → (m < n) ⊎ (m ≡ n)
    one_more m n less = grind (arith, less)

pub returns-clause-met : goal.returns-clause-met
returns-clause-met g c =
    let past = c.loop-i-test.false in
    let count = c.len-i-end.ensures in
    let same = ap length c.node-node.ensures.items in
    all_left c.args.twig.now c.requires.level (g.P.Pool.state c.loop-i.pool) (rank c.args.at.now) c.loop-i.i
    (omega (arith, past, count, same)) c.loop-i.invariant.3
