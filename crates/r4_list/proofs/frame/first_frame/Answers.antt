use Rattle.std.proofs.Common.{arith, sym, subst, ap, ◌≡◌, ◌*◌, ◌^◌, ◌∙◌, List, length, [], ◌∷◌}
use Rattle.std.specs.Prelude.{IfSome}
use Rattle.std.specs.Arc.{arc_value}
use Rattle.r4_base.specs.Key.{rank}
use Rattle.r4_base.specs.Node.{Item, KeysRise, items_of}
use Rattle.r4_base.specs.declared.key.Key.{Key}
use Rattle.r4_cell.specs.Seen.{CellSeen}
use Rattle.r4_list.specs.Frame.{IsNextLeaf, dir_number}
use Rattle.r4_units.specs.Leaf.{AreUpTo}
use Rattle.r4_search.specs.Pool.{StandsInMemory}
use Rattle.r4_list.proofs.FrameOpens.{first_none, opens_first, start_rank}
use Rattle.r4_units.proofs.Leaves.{keys_rise}
use Rattle.r4_list.proofs.OverAnswers.{over_handed}
use Rattle.r4_list.proofs.frame.first_frame.Goals as goal

pub items_up_to-item-requires : goal.items_up_to-item-requires
items_up_to-item-requires g c =
    let one = subst (λ o. IfSome o (λ leaf. (arc_value {X = CellSeen} leaf).level ≡ 1)) c.in-Some.is c.in_ok-leaf.ensures.level in
    let level = ap (λ (x : CellSeen). x.level) c.deref.ensures ∙ one in
    subst KeysRise (sym c.node.ensures.items) (keys_rise c.deref.result.now c.node.ensures.whole (omega (arith, level)) c.node.ensures.stands)

pub returns-in_err-leaf-clause-over : goal.returns-in_err-leaf-clause-over
returns-in_err-leaf-clause-over g c = λ n image m has over f dir zero_from.
    over_handed has c.args.root.now _ _ _ c.in_err-leaf.field-0.0 c.from_residual.result (c.in_err-leaf.ensures.over n image m has over c.args.dir.0 c.first_number.ensures) c.from_residual.ensures.1

pub returns-in_default-clause-over : goal.returns-in_default-clause-over
returns-in_default-clause-over g c = λ n image m has over f dir zero_from.
    let h = c.in_ok-leaf.ensures.over n image m has over c.args.dir.0 c.first_number.ensures in
    record { over = h.over; found = (first_none has f c.args.dir.0 _ c.in_ok-leaf.field-0 dir (start_rank c.first_number.result (dir_number c.args.dir.0) c.first_number.ensures) c.in_default.is h.found.0, tt); undamaged = tt }

pub returns-clause-over : goal.returns-clause-over
returns-clause-over g c = λ n image m has over f dir zero_from.
    let x = arc_value {X = CellSeen} c.in-Some.leaf in
    let h = c.in_ok-leaf.ensures.over n image m has over c.args.dir.0 c.first_number.ensures in
    let key : Key = record { el = c.first_number.result ∷ 0 ∷ 0 ∷ 0 ∷ [] } in
    let start = start_rank c.first_number.result (dir_number c.args.dir.0) c.first_number.ensures in
    let one = subst (λ o. IfSome o (λ leaf. (arc_value {X = CellSeen} leaf).level ≡ 1)) c.in-Some.is c.in_ok-leaf.ensures.level in
    let next = subst (λ o. IfSome o (λ leaf. IsNextLeaf has (rank key) (arc_value {X = CellSeen} leaf))) c.in-Some.is h.found.1 in
    let whole = subst (λ (y : CellSeen). length y.block ≡ 4096) c.deref.ensures c.node.ensures.whole in
    let stands = subst StandsInMemory c.deref.ensures c.node.ensures.stands in
    let up = subst (λ (y : CellSeen). AreUpTo (items_of y.block) (rank key) c.items_up_to-item.result) c.deref.ensures (subst (λ (xs : List Item). AreUpTo xs (rank key) c.items_up_to-item.result) c.node.ensures.items c.items_up_to-item.ensures) in
    record {
      over = h.over;
      found = (tt, record { dir_is = dir; stored = next.stored; stands = opens_first has f x whole one stands (rank key) c.items_up_to-item.result zero_from (start ∙ sym (ap (λ d. dir_number d * 2 ^ 192) dir)) next up });
      undamaged = tt;
    }
