use Rattle.std.proofs.Common.{◌≡◌, ◌<◌, ◌∙◌, ap, arith, rules, subst}
use Rattle.std.specs.Option.{option_map}
use Rattle.std.specs.Arc.{arc_value}
use Rattle.r4_base.specs.Key.{rank}
use Rattle.r4_work.specs.r4_cell.Seen.{CellSeen}
use Rattle.r4_work.specs.r4_edit.LeafParts.{HasRight, right_id}
use Rattle.r4_row_gather.proofs.SortedOut.{is_shortened}
use Rattle.r4_row_gather.proofs.clearing.shortened.Goals as goal

pub returns : goal.returns
returns c =
    let leaf = c.args.leaf.now in
    let part = arc_value c.in-Some.part in
    let right = subst (λ o. HasRight leaf c.lo-lo.result (right_id leaf c.lo-lo.result (record { next = 0; end = 1 }))
    (option_map (λ x. arc_value x) o)) c.in-Some.is c.in_ok-part.ensures.right in
    let below : rank c.lo.result < rank c.hi.result = search rules in
    let lo : c.lo.result ≡ part.lo = c.lo.ensures ∙ ap (λ (x : CellSeen). x.lo) c.deref.ensures in
    let hi : c.hi.result ≡ leaf.hi = c.hi.ensures in
    let low = ap rank lo in
    let high = ap rank hi in
    is_shortened leaf part c.lo-lo.result (record { next = 0; end = 1 }) c.lo-lo.ensures right (omega (arith, below, low, high))
