use Rattle.std.proofs.Common.{◌∙◌, ◌+◌, ap, sym, subst, arith, length, map}
use Rattle.std.specs.Arc.{arc_value}
use Rattle.r4_base.specs.Bytes.{number_bytes}
use Rattle.r4_base.specs.Node.{items_of}
use Rattle.r4_leaf.specs.r4_node40.Edits.{GoesBetween}
use Rattle.r4_base.proofs.Numbers.{length-number_bytes}
use Rattle.r4_leaf.specs.r4_node40.Loan.{bytes_of, with_bytes}
use Rattle.r4_path.specs.Nodes.{IsAppended, pointer_item}
use Rattle.r4_path.proofs.Filling.{above, counted, next, room, weight_take}
use Rattle.r4_path.proofs.Pointers.{at_map, pointed, pointers_fit, pointers_weigh}
use Rattle.r4_path.proofs.pointing.fill_pointers.Goals as goal

pub append-requires-clause-counted : goal.append-requires-clause-counted
append-requires-clause-counted c =
    counted (map (λ x. pointer_item (arc_value x)) c.args.cells.now) c.args.level c.loop-i.i (bytes_of c.loop-i.node)
    (pointer_item (arc_value c.index-cells-i.result)) c.requires.rising
    (pointers_fit arc_value c.args.level c.args.cells.now c.requires.level.0)
    (at_map (λ x. pointer_item (arc_value x)) c.args.cells.now c.loop-i.i c.index-cells-i.result c.loop-i-test.true c.index-cells-i.is) c.loop-i.invariant.1

pub append-requires-clause-above : goal.append-requires-clause-above
append-requires-clause-above c =
    subst (λ k. GoesBetween (items_of (bytes_of c.loop-i.node)) c.loop-i.i k)
    (sym (c.lo.ensures ∙ ap (λ x. x.lo) c.deref.ensures)) (
    above (map (λ x. pointer_item (arc_value x)) c.args.cells.now) c.args.level c.loop-i.i (bytes_of c.loop-i.node)
    (pointer_item (arc_value c.index-cells-i.result)) c.requires.rising
    (pointers_fit arc_value c.args.level c.args.cells.now c.requires.level.0)
    (at_map (λ x. pointer_item (arc_value x)) c.args.cells.now c.loop-i.i c.index-cells-i.result c.loop-i-test.true c.index-cells-i.is) c.loop-i.invariant.1)

pub append-requires-clause-room : goal.append-requires-clause-room
append-requires-clause-room c =
    let all = pointers_weigh arc_value c.args.cells.now in
    let part = weight_take (c.loop-i.i + 1) (map (λ x. pointer_item (arc_value x)) c.args.cells.now) in
    let few = c.requires.few in
    let fits = room (map (λ x. pointer_item (arc_value x)) c.args.cells.now) c.args.level c.loop-i.i (bytes_of c.loop-i.node)
    (pointer_item (arc_value c.index-cells-i.result)) c.requires.rising
    (pointers_fit arc_value c.args.level c.args.cells.now c.requires.level.0)
    (at_map (λ x. pointer_item (arc_value x)) c.args.cells.now c.loop-i.i c.index-cells-i.result c.loop-i-test.true c.index-cells-i.is) c.loop-i.invariant.1 (omega (arith, all, part, few)) in
    let long = length-number_bytes 8 (arc_value c.index-cells-i.result).id in
    let body = ap length c.pointer_body.ensures in
    let same = length-number_bytes 8 c.id.result.0 in
    omega (arith, fits, long, body, same)

pub loop-i-preserved : goal.loop-i-preserved
loop-i-preserved c =
    let it = pointed (arc_value c.index-cells-i.result) c.lo.result c.pointer_body.result
    (c.lo.ensures ∙ ap (λ x. x.lo) c.deref.ensures)
    (c.pointer_body.ensures ∙ ap (number_bytes 8) (c.id.ensures ∙ ap (λ x. x.id) c.deref-in-loop-i.ensures)) in (
      c.append.ensures.block ∙ ap (λ n. with_bytes n (bytes_of c.append.new.node)) c.loop-i.invariant.0,
      next (map (λ x. pointer_item (arc_value x)) c.args.cells.now) c.args.level c.loop-i.i (bytes_of c.loop-i.node)
          (pointer_item (arc_value c.index-cells-i.result)) c.requires.rising
          (pointers_fit arc_value c.args.level c.args.cells.now c.requires.level.0)
          (at_map (λ x. pointer_item (arc_value x)) c.args.cells.now c.loop-i.i c.index-cells-i.result c.loop-i-test.true c.index-cells-i.is) c.loop-i.invariant.1
          (bytes_of c.append.new.node) (subst
          (λ x. IsAppended (bytes_of c.loop-i.node) x (bytes_of c.append.new.node)) it c.append.ensures.appended),
      c.append.ensures.appended.mkfs_id ∙ c.loop-i.invariant.2,
    )
