use Rattle.std.proofs.Common.{◌≡◌, ap, sym, ◌∙◌, arith}
use Rattle.r4_base.specs.Key.{rank}
use Rattle.r4_content.specs.Edited.{changed}
use Rattle.r4_content.specs.Held.{edits_of}
use Rattle.r4_marking.specs.r4_reach.Needs.{is_met, over}
use Rattle.r4_leaf_demands.specs.Leaves.{needing}
use Rattle.r4_leaf_demands.proofs.Measured.{leaf_busy, leaf_quiet}
use Rattle.r4_leaf_demands.proofs.Meets.{met_keys}
use Rattle.r4_leaf_demands.proofs.measuring.leaf_asks.Goals as goal

pub returns-then-not-touches_leaf-clause-asks : goal.returns-then-not-touches_leaf-clause-asks
returns-then-not-touches_leaf-clause-asks c hs =
    let x = c.args.cell.now in
    let e = edits_of c.args.edits.now in
    let met : c.touches_leaf.result ≡ is_met (changed e) (rank x.lo) (rank x.hi) = c.touches_leaf.ensures
    ∙ (λ i. is_met (changed e) (rank (c.lo.ensures i)) (rank (c.hi.ensures i))) in
    sym (leaf_quiet x c.requires.leaf e hs (sym met ∙ c.if-not-touches_leaf.true))

pub needed-requires-clause-some : goal.needed-requires-clause-some
needed-requires-clause-some c =
    let x = c.args.cell.now in
    let e = edits_of c.args.edits.now in
    let met : c.touches_leaf.result ≡ is_met (changed e) (rank x.lo) (rank x.hi) = c.touches_leaf.ensures
    ∙ (λ i. is_met (changed e) (rank (c.lo.ensures i)) (rank (c.hi.ensures i))) in
    let (k, at, low, high) = met_keys (changed e) (rank x.lo) (rank x.hi) (sym met ∙ c.if-not-touches_leaf.false) in
    omega (arith, low, high)

pub returns-clause-asks : goal.returns-clause-asks
returns-clause-asks c hs =
    let x = c.args.cell.now in
    let e = edits_of c.args.edits.now in
    let met : c.touches_leaf.result ≡ is_met (changed e) (rank x.lo) (rank x.hi) = c.touches_leaf.ensures
    ∙ (λ i. is_met (changed e) (rank (c.lo.ensures i)) (rank (c.hi.ensures i))) in
    c.needing.ensures.asks ∙ ap needing (c.over.ensures ∙ ap over c.in_ok-needed.ensures.bytes)
    ∙ sym (leaf_busy x c.requires.leaf e hs (sym met ∙ c.if-not-touches_leaf.false))
