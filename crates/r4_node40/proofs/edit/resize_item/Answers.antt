use Rattle.std.proofs.Common.{◌≡◌, ℕ, ◌+◌, ◌-◌, ◌<◌, set, replicate, refl, ap, ◌∙◌, arith}
use Rattle.std.specs.Prelude.{slice_range}
use Rattle.r4_base.specs.Bytes.{overwrite}
use Rattle.r4_base.specs.Node.{Item, count_of, offset_at, key_at, plugin_at, edge_at, items_of}
use Rattle.r4_node40.specs.Edits.{resized}
use Rattle.r4_node40.proofs.Edits.{resizing, can_resize, grown, resized_edit, resized_flags, resized_item, start_room, edited_laid, edited_head, edited_room, edited_set}
use Rattle.r4_node40.proofs.edit.resize_item.Goals as goal

pub apply-requires : goal.apply-requires
apply-requires c = can_resize c.args.b.now c.get16.result c.args.i c.place_of-from.result.0 c.place_of-from.result.1 c.args.len c.requires.laid c.get16.ensures (omega arith) c.place_of-from.ensures.from c.place_of-from.ensures.to c.place_of-from.ensures.order (omega arith)

pub zero-requires-clause-within : goal.zero-requires-clause-within
zero-requires-clause-within c =
    let can = can_resize c.args.b.now c.get16.result c.args.i c.place_of-from.result.0 c.place_of-from.result.1 c.args.len c.requires.laid c.get16.ensures (omega arith) c.place_of-from.ensures.from c.place_of-from.ensures.to c.place_of-from.ensures.order (omega arith) in
    let room = start_room (resizing c.args.i c.place_of-from.result.0 c.place_of-from.result.1 c.args.len) c.args.b.now can in
    omega (arith, c.apply.ensures.whole)

pub returns-clause-ok : goal.returns-clause-ok
returns-clause-ok c =
    let can = can_resize c.args.b.now c.get16.result c.args.i c.place_of-from.result.0 c.place_of-from.result.1 c.args.len c.requires.laid c.get16.ensures (omega arith) c.place_of-from.ensures.from c.place_of-from.ensures.to c.place_of-from.ensures.order (omega arith) in
    let need : c.saturating_sub-need.result ≡ c.args.len - (c.place_of-from.result.1 - c.place_of-from.result.0) = omega arith in
    let gap : c.place_of-from.result.0 + c.args.len - (c.place_of-from.result.0 + c.args.len - c.saturating_sub-need.result) ≡ c.saturating_sub-need.result = omega arith in
    let written = c.zero.ensures ∙ ap (λ (k : ℕ). overwrite (c.place_of-from.result.0 + c.args.len - c.saturating_sub-need.result) (replicate k 0) c.apply.new.b) gap in
    let g = grown c.args.b.now c.apply.new.b c.zero.new.b c.args.i c.place_of-from.result.0 c.place_of-from.result.1 c.args.len c.saturating_sub-need.result can c.place_of-from.ensures.order need c.apply.ensures written in
    let lt : c.args.i < c.get16.result = omega arith in
    let e = resized_edit c.args.b.now c.apply.new.b c.zero.new.b c.get16.result c.args.i c.place_of-from.result.0 c.place_of-from.result.1 c.args.len can c.get16.ensures lt c.requires.some c.place_of-from.ensures.from c.apply.ensures g in
    let item = resized_item c.args.b.now c.apply.new.b c.zero.new.b c.get16.result c.args.i c.place_of-from.result.0 c.place_of-from.result.1 c.args.len can c.get16.ensures lt c.place_of-from.ensures.order c.place_of-from.ensures.from c.place_of-from.ensures.to c.apply.ensures g e in
    let room = edited_room (resizing c.args.i c.place_of-from.result.0 c.place_of-from.result.1 c.args.len) c.args.b.now c.zero.new.b c.get16.result (c.get16.result + 1 - 1) e in
    let same : edge_at c.get16.result c.args.b.now (c.args.i + 1) ≡ edge_at (count_of c.args.b.now) c.args.b.now (c.args.i + 1) = ap (λ (x : ℕ). edge_at x c.args.b.now (c.args.i + 1)) c.get16.ensures in
    record {
      laid = edited_laid (resizing c.args.i c.place_of-from.result.0 c.place_of-from.result.1 c.args.len) c.args.b.now c.zero.new.b c.get16.result (c.get16.result + 1 - 1) e;
      count = omega (arith, e.count, e.now, e.counted);
      items = edited_set (resizing c.args.i c.place_of-from.result.0 c.place_of-from.result.1 c.args.len) c.args.b.now c.zero.new.b c.get16.result (c.get16.result + 1 - 1) e refl refl ∙ ap (λ (x : Item). set (items_of c.args.b.now) c.args.i x) item ∙ ap (λ (to : ℕ). set (items_of c.args.b.now) c.args.i (record { key = key_at c.args.b.now c.args.i; plugin = plugin_at c.args.b.now c.args.i; body = resized (slice_range c.args.b.now (offset_at c.args.b.now c.args.i) to) c.args.len })) same;
      head = edited_head (resizing c.args.i c.place_of-from.result.0 c.place_of-from.result.1 c.args.len) c.args.b.now c.zero.new.b c.get16.result (c.get16.result + 1 - 1) e;
      room = omega (arith, c.place_of-from.ensures.order, c.place_of-from.ensures.from, c.place_of-from.ensures.to);
      flags = resized_flags c.args.b.now c.apply.new.b c.zero.new.b c.get16.result c.args.i c.place_of-from.result.0 c.place_of-from.result.1 c.args.len c.get16.ensures c.apply.ensures g e;
    }
