use Rattle.std.proofs.Common.{◌<◌, ◌≤◌, sym, ap, subst, arith}
use Rattle.r4_base.specs.Key.{rank}
use Rattle.r4_base.specs.declared.key.Key.{Key}
use Rattle.r4_sight.proofs.Bodies.{end_of, lesser_above}
use Rattle.r4_sight.proofs.Stretching.{low_holds}
use Rattle.r4_sight.proofs.stretch.of_leaf.Goals as goal

pub returns-clause-stretch : goal.returns-clause-stretch
returns-clause-stretch c =
    let leaf = c.args.leaf.now in
    let level = c.requires.level in
    let low = c.requires.from in
    let up = subst (λ (k : Key). rank c.lesser-to.result ≤ rank k) c.hi.ensures c.lesser-to.ensures.both in
    record {
      onward = lesser_above (rank c.args.from) c.args.to c.hi.result c.lesser-to.result c.requires.order (subst (λ (k : Key). rank c.args.from < rank k) (sym c.hi.ensures) c.requires.below) c.lesser-to.ensures.is;
      within = c.lesser-to.ensures.below;
      holds = λ k le lt. low_holds leaf k (omega (arith, level)) (omega (arith, low, le)) (omega (arith, up, lt));
      pairs = c.in_ok-parts.ensures.pairs;
      rises = c.in_ok-parts.ensures.rises;
      full = c.in_ok-parts.ensures.full;
    }

pub returns-clause-far : goal.returns-clause-far
returns-clause-far c = end_of c.args.to c.hi.result c.lesser-to.result (rank c.args.leaf.now.hi) (ap rank c.hi.ensures) c.lesser-to.ensures.is
