use Rattle.std.proofs.Common.{◌≡◌, ℕ, ◌+◌, ◌-◌, List, replicate, refl, ap, ◌∙◌, arith}
use Rattle.std.specs.List.{insert}
use Rattle.r4_base.specs.Bytes.{fields_bytes, overwrite}
use Rattle.r4_base.proofs.Numbers.{length-fields_bytes}
use Rattle.r4_base.specs.Node.{Item, item_flags_at, items_of}
use Rattle.r4_node40.specs.Edits.{header_fields}
use Rattle.r4_node40.proofs.Headers.{heads_same}
use Rattle.r4_node40.proofs.Edits.{Filled, insertion, can_insert, inserted, new_flags, new_item, edited_laid, edited_head, edited_room, edited_insert, start_room}
use Rattle.r4_node40.proofs.edit.insert_item.Goals as goal

pub apply-requires : goal.apply-requires
apply-requires c = can_insert c.settle.new.b c.get16.result c.args.i c.edge_of-from.result c.args.len c.settle.ensures.laid c.settle.ensures.settled c.get16.ensures (omega arith) c.edge_of-from.ensures (omega arith)

pub overflow_add-from : goal.overflow_add-from
overflow_add-from c =
    let can = can_insert c.settle.new.b c.get16.result c.args.i c.edge_of-from.result c.args.len c.settle.ensures.laid c.settle.ensures.settled c.get16.ensures (omega arith) c.edge_of-from.ensures (omega arith) in
    let room = start_room (insertion c.args.i c.edge_of-from.result c.args.len) c.settle.new.b can in
    omega arith

pub zero-requires-clause-within : goal.zero-requires-clause-within
zero-requires-clause-within c =
    let can = can_insert c.settle.new.b c.get16.result c.args.i c.edge_of-from.result c.args.len c.settle.ensures.laid c.settle.ensures.settled c.get16.ensures (omega arith) c.edge_of-from.ensures (omega arith) in
    let room = start_room (insertion c.args.i c.edge_of-from.result c.args.len) c.settle.new.b can in
    let long = c.put_header.auto.b ∙ c.apply.ensures.whole in
    omega arith

pub returns-clause-ok : goal.returns-clause-ok
returns-clause-ok c =
    let can = can_insert c.settle.new.b c.get16.result c.args.i c.edge_of-from.result c.args.len c.settle.ensures.laid c.settle.ensures.settled c.get16.ensures (omega arith) c.edge_of-from.ensures (omega arith) in
    let fs = header_fields c.args.key.now c.edge_of-from.result c.args.plugin in
    let gap : c.edge_of-from.result + c.args.len - c.edge_of-from.result ≡ c.args.len = omega arith in
    let f : Filled c.apply.new.b c.put_header.new.b c.zero.new.b c.args.i c.edge_of-from.result c.args.len c.args.key.now c.args.plugin = record {
      header = fields_bytes fs;
      long = length-fields_bytes fs;
      header_is = c.put_header.ensures.bytes;
      key_is = c.put_header.ensures.key;
      offset_is = c.put_header.ensures.offset;
      plugin_is = c.put_header.ensures.plugin;
      flags_is = c.put_header.ensures.flags;
      zeros = c.zero.ensures ∙ ap (λ (k : ℕ). overwrite c.edge_of-from.result (replicate k 0) c.put_header.new.b) gap;
    } in
    let e = inserted c.settle.new.b c.apply.new.b c.put_header.new.b c.zero.new.b c.get16.result c.args.i c.edge_of-from.result c.args.len c.args.plugin c.args.key.now c.settle.ensures.settled can c.get16.ensures c.requires.some c.apply.ensures f in
    let item = new_item c.settle.new.b c.apply.new.b c.put_header.new.b c.zero.new.b c.get16.result c.args.i c.edge_of-from.result c.args.len c.args.plugin c.args.key.now can c.get16.ensures c.apply.ensures f e in
    let room = edited_room (insertion c.args.i c.edge_of-from.result c.args.len) c.settle.new.b c.zero.new.b c.get16.result (c.get16.result + 1 - 0) e in
    record {
      laid = edited_laid (insertion c.args.i c.edge_of-from.result c.args.len) c.settle.new.b c.zero.new.b c.get16.result (c.get16.result + 1 - 0) e;
      count = omega (arith, e.count, e.now, e.counted, c.settle.ensures.count);
      items = edited_insert (insertion c.args.i c.edge_of-from.result c.args.len) c.settle.new.b c.zero.new.b c.get16.result (c.get16.result + 1 - 0) e refl refl ∙ ap (λ (x : Item). insert (items_of c.settle.new.b) c.args.i x) item ∙ ap (λ (xs : List Item). insert xs c.args.i (record { key = c.args.key.now; plugin = c.args.plugin; body = replicate c.args.len 0 })) c.settle.ensures.items;
      head = heads_same c.args.b.now c.settle.new.b c.zero.new.b c.settle.ensures.head (edited_head (insertion c.args.i c.edge_of-from.result c.args.len) c.settle.new.b c.zero.new.b c.get16.result (c.get16.result + 1 - 0) e);
      room = omega (arith, c.settle.ensures.room);
      flags = new_flags c.settle.new.b c.apply.new.b c.put_header.new.b c.zero.new.b c.get16.result c.args.i c.edge_of-from.result c.args.len c.args.plugin c.args.key.now can c.get16.ensures c.apply.ensures f;
      flags_before = λ k lt. (e.before k lt).flags ∙ (c.settle.ensures.headers k (omega arith)).flags;
      flags_behind = λ k ge lt. let z : k + 0 ≡ k = omega arith in (e.after k ge (omega arith)).flags ∙ ap (item_flags_at c.settle.new.b) z ∙ (c.settle.ensures.headers k (omega arith)).flags;
      free = λ p ge lt. e.middle p ge lt ∙ c.settle.ensures.behind p (omega arith);
    }
