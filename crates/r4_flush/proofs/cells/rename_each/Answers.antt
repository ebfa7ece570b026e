use Rattle.std.proofs.Common.{refl, ap, ◌∙◌, arith}
use Rattle.std.specs.Ordering.{nat_cmp}
use Rattle.std.specs.BTreeMap.{get}
use Rattle.r4_node40.specs.Loan.{bytes_of, with_bytes}
use Rattle.r4_node40.proofs.Laid.{length-items_of}
use Rattle.r4_flush.specs.Anew.{new_name}
use Rattle.r4_flush.proofs.Written.{accepted_so_far, all_so_far, next_so_far, none_so_far}
use Rattle.r4_flush.proofs.cells.rename_each.Goals as goal

pub loop-i-init : goal.loop-i-init
loop-i-init c = (
  refl,
  none_so_far (new_name (get nat_cmp c.args.names.now)) (bytes_of c.args.node.now) c.requires.whole c.requires.node,
)

pub rename_item-requires-clause-laid : goal.rename_item-requires-clause-laid
rename_item-requires-clause-laid c = c.loop-i.invariant.1.node.laid

pub rename_item-requires-clause-within : goal.rename_item-requires-clause-within
rename_item-requires-clause-within c =
    let long = length-items_of (bytes_of c.args.node.now) in
    let count = c.loop-i.invariant.1.count in
    omega (arith, long, count, c.requires.counted, c.loop-i-test.true)

pub loop-i-preserved : goal.loop-i-preserved
loop-i-preserved c =
    let long = length-items_of (bytes_of c.args.node.now) in (
      c.rename_item.ensures.block ∙ ap (λ n. with_bytes n (bytes_of c.rename_item.new.node)) c.loop-i.invariant.0,
      next_so_far (new_name (get nat_cmp c.args.names.now)) c.loop-i.i (bytes_of c.args.node.now)
          (bytes_of c.loop-i.node) (bytes_of c.rename_item.new.node) c.loop-i.invariant.1
          (omega (arith, long, c.requires.counted, c.loop-i-test.true)) c.rename_item.ensures.written,
    )

pub returns-clause-anew : goal.returns-clause-anew
returns-clause-anew c = all_so_far (new_name (get nat_cmp c.args.names.now)) c.loop-i.i (bytes_of c.args.node.now)
    (bytes_of c.loop-i.node) c.requires.whole c.requires.node (omega (arith, c.requires.counted)) c.loop-i.invariant.1

pub returns-clause-again : goal.returns-clause-again
returns-clause-again c = accepted_so_far (new_name (get nat_cmp c.args.names.now)) c.loop-i.i
    (bytes_of c.args.node.now) (bytes_of c.loop-i.node) c.requires.whole c.requires.node c.loop-i.invariant.1
