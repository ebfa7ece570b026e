use Rattle.std.proofs.Common.{[], ◌∷◌, ap, arith, get_or, refl, sym, take, ◌∙◌}
use Rattle.std.proofs.lemmas.List.{take_more}
use Rattle.r4_extent_change.specs.r4_extent_build.Numbering.{coming_count}
use Rattle.r4_extent_change.proofs.r4_extent_build.Numbers.{count_append, count_off, count_on}
use Rattle.r4_twig_asks.proofs.r4_extent_demands.Nothing.{nothing}
use Rattle.r4_extent_growth.proofs.twigs.coming_count.Goals as goal
use Rattle.r4_extent_growth.proofs.twigs.coming_count.Goals.{then-is_coming, else-is_coming}

pub loop-piece-init : goal.loop-piece-init
unfolding coming_count
loop-piece-init c = record { count = refl; few = omega arith }

pub loop-piece-preserved : goal.loop-piece-preserved
unfolding coming_count
loop-piece-preserved c =
    let old = c.args.old.now in
    let ps = c.args.new.now in
    let i = c.loop-piece.piece-index in
    let p = get_or ps i nothing in
    let more = ap (coming_count old) (take_more ps i nothing c.loop-piece-test.true) ∙ count_append old (take i ps) (p ∷ []) in
    let inv = c.loop-piece.invariant.count in
    let few = c.loop-piece.invariant.few in
    elim c.if-is_coming.branch [
      | then-is_coming w ↦
          let one = count_on old p [] (sym c.is_coming.ensures ∙ w.if-is_coming.true) in
          let is = w.count-is in
          record { count = omega (arith, more, inv, one, is); few = omega (arith, few, is) }
      | else-is_coming w ↦
          let one = count_off old p [] (sym c.is_coming.ensures ∙ w.if-is_coming.false) in
          let is = w.count-is in
          record { count = omega (arith, more, inv, one, is); few = omega (arith, few, is) }
    ]
