use Rattle.std.proofs.Common.{◌<◌, ◌∙◌, sym, ap, arith, length}
use Rattle.std.proofs.Math.Decide.{dec_le}
use Rattle.r4_base.specs.Key.{rank}
use Rattle.r4_base.specs.Node.{items_of}
use Rattle.r4_search.proofs.Places.{item_in}
use Rattle.r4_units.proofs.ExtentUnits.{offsets_above, one_body}
use Rattle.r4_list.proofs.body.next_offset.Goals as goal

pub returns-then-is_of_one_body-clause-more : goal.returns-then-is_of_one_body-clause-more
returns-then-is_of_one_body-clause-more c =
    let high : rank c.args.key < rank c.next_key-next.result = elim (dec_le (length (items_of c.args.cell.now.block)) c.args.place) [
      | yes past ↦ (let within = c.requires.place.within in let end = c.next_key-next.ensures.end (omega (arith, past, within)) in let h = c.requires.inside in let e = ap rank end in omega (arith, e, h))
      | no before ↦ (let (it, is) = item_in (items_of c.args.cell.now.block) c.args.place (omega (arith, before)) in let e = ap rank (c.next_key-next.ensures.item it is) in let h = c.requires.place.high c.args.place it is (omega arith) in omega (arith, e, h))
    ] in
    let one = one_body _ _ (sym c.is_of_one_body.ensures ∙ c.if-is_of_one_body.true) in
    let more = offsets_above _ _ one high in
    let below = c.requires.below in
    let min = c.min.ensures in
    omega (arith, more, below, min)
