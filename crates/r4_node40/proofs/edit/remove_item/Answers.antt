use Rattle.std.proofs.Common.{◌≡◌, ℕ, ◌+◌, ◌-◌, refl, sym, ap, ◌∙◌, arith}
use Rattle.r4_base.specs.Node.{count_of, edge_at, item_flags_at}
use Rattle.r4_node40.proofs.Edits.{removal, can_remove, removed, edited_laid, edited_head, edited_room, edited_remove}
use Rattle.r4_node40.proofs.edit.remove_item.Goals as goal

pub apply-requires : goal.apply-requires
apply-requires c = can_remove c.args.b.now c.get16-count.result c.args.i c.place_of-from.result.0 c.place_of-from.result.1 c.requires.laid c.get16-count.ensures (omega arith) c.place_of-from.ensures.from c.place_of-from.ensures.to c.place_of-from.ensures.order

pub returns : goal.returns
returns c =
    let e = removed c.args.b.now c.apply.new.b c.get16-count.result c.args.i c.place_of-from.result.0 c.place_of-from.result.1 c.requires.laid c.get16-count.ensures (omega arith) c.place_of-from.ensures.from c.place_of-from.ensures.to c.place_of-from.ensures.order c.apply.ensures in
    let room = edited_room (removal c.args.i c.place_of-from.result.0 c.place_of-from.result.1) c.args.b.now c.apply.new.b c.get16-count.result (c.get16-count.result + 0 - 1) e in
    let same : edge_at c.get16-count.result c.args.b.now (c.args.i + 1) ≡ edge_at (count_of c.args.b.now) c.args.b.now (c.args.i + 1) = ap (λ (x : ℕ). edge_at x c.args.b.now (c.args.i + 1)) c.get16-count.ensures in
    record {
      laid = edited_laid (removal c.args.i c.place_of-from.result.0 c.place_of-from.result.1) c.args.b.now c.apply.new.b c.get16-count.result (c.get16-count.result + 0 - 1) e;
      count = omega (arith, e.count, e.now, e.counted);
      items = edited_remove (removal c.args.i c.place_of-from.result.0 c.place_of-from.result.1) c.args.b.now c.apply.new.b c.get16-count.result (c.get16-count.result + 0 - 1) e refl refl;
      head = edited_head (removal c.args.i c.place_of-from.result.0 c.place_of-from.result.1) c.args.b.now c.apply.new.b c.get16-count.result (c.get16-count.result + 0 - 1) e;
      room = omega (arith, c.place_of-from.ensures.order, c.place_of-from.ensures.from, c.place_of-from.ensures.to);
      flags_before = λ k lt. (e.before k lt).flags;
      flags_behind = λ k ge lt. let z : k + 0 ≡ k = omega arith in ap (item_flags_at c.apply.new.b) (sym z) ∙ (e.after k ge (omega arith)).flags;
    }
