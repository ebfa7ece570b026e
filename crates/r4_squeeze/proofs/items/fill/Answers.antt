use Rattle.std.proofs.Common.{◌∙◌, ◌+◌, ap, arith}
use Rattle.r4_node40.specs.Loan.{bytes_of, with_bytes}
use Rattle.r4_path.proofs.Filling.{above, counted, next, plugin, room, weight_take}
use Rattle.r4_path.proofs.Finding.{weighs_length}
use Rattle.r4_path.proofs.Pointers.{at_map}
use Rattle.r4_squeeze.specs.Items.{item_meant, items_meant}
use Rattle.r4_squeeze.proofs.Adding.{length_meant}
use Rattle.r4_squeeze.proofs.items.fill.Goals as goal

pub overflow_cast-i : goal.overflow_cast-i
overflow_cast-i c =
    let most = c.requires.room in
    let long = weighs_length (items_meant c.args.items.now) in
    let same = length_meant c.args.items.now in
    let lt = c.loop-i-test.true in
    omega (arith, most, long, same, lt)

pub put-requires : goal.put-requires
put-requires c =
    let items = items_meant c.args.items.now in
    let at = at_map item_meant c.args.items.now c.loop-i.i c.index-items-i.result c.loop-i-test.true c.index-items-i.is in
    let filled = c.loop-i.invariant.1 in
    let most = weight_take (c.loop-i.i + 1) items in
    let few = c.requires.room in
    let body = c.requires.bodies c.loop-i.i (item_meant c.index-items-i.result) at in
    record {
      can = record {
        node = filled.node;
        counted = counted items c.args.level c.loop-i.i (bytes_of c.loop-i.node) (item_meant c.index-items-i.result)
            c.requires.rise c.requires.fit at filled;
        plugin = plugin items c.args.level c.loop-i.i (bytes_of c.loop-i.node) (item_meant c.index-items-i.result)
            c.requires.rise c.requires.fit at filled;
        above = above items c.args.level c.loop-i.i (bytes_of c.loop-i.node) (item_meant c.index-items-i.result)
            c.requires.rise c.requires.fit at filled;
        some = body.0;
        room = room items c.args.level c.loop-i.i (bytes_of c.loop-i.node) (item_meant c.index-items-i.result)
            c.requires.rise c.requires.fit at filled (omega (arith, most, few));
      };
    }

pub loop-i-preserved : goal.loop-i-preserved
loop-i-preserved c =
    let items = items_meant c.args.items.now in
    let at = at_map item_meant c.args.items.now c.loop-i.i c.index-items-i.result c.loop-i-test.true c.index-items-i.is in (
      c.put.ensures.block ∙ ap (λ n. with_bytes n (bytes_of c.put.new.node)) c.loop-i.invariant.0,
      next items c.args.level c.loop-i.i (bytes_of c.loop-i.node) (item_meant c.index-items-i.result)
          c.requires.rise c.requires.fit at c.loop-i.invariant.1 (bytes_of c.put.new.node) c.put.ensures.appended,
      c.put.ensures.appended.mkfs_id ∙ c.loop-i.invariant.2,
    )
