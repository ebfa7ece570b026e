use Rattle.std.proofs.Common.{◌+◌, ◌<◌, ℕ, List, sym, arith, length, subst}
use Rattle.r4_check_objects.specs.Reach.{Grows}
use Rattle.r4_check_objects.specs.declared.reach.Reach.{Reach}
use Rattle.r4_check_objects.proofs.Walked.{IsWalked, all_reached, few_ids, no_ids, walked_first, walked_more, walked_none}
use Rattle.r4_check_objects.proofs.reach.reached_ids.Goals as goal
use Rattle.r4_check_objects.proofs.reach.reached_ids.Goals.{in-Some+in_ok-add_all, in_default}

pub add-requires : goal.add-requires
add-requires c = no_ids _ c.in_ok-new.ensures c.new-2.ensures.items

pub loop-i-init : goal.loop-i-init
loop-i-init c = walked_first c.args.found.now c.in_ok-named.named _ c.add.new.self c.new-2.ensures.items c.in_ok-add.ensures

pub loop-i-preserved : goal.loop-i-preserved
loop-i-preserved c =
    let lt : c.loop-i.i < length c.loop-i.reach.order.items = let test = c.loop-i-test.true in let is = c.len.ensures in omega (arith, test, is) in
    elim c.match-get.branch [
      | in-Some+in_ok-add_all w ↦ subst (λ (r : Reach). IsWalked c.args.found.now c.in_ok-named.named r (c.loop-i.i + 1)) (sym w.reach-is)
          (walked_more c.args.found.now c.in_ok-named.named c.loop-i.reach w.add_all.new.self c.loop-i.i c.index.result.now c.index.result.now w.in-Some.ids.now c.in_ok-named.ensures c.loop-i.invariant lt c.index.ensures
          (sym w.in-Some.ensures.value) (subst (λ (l : List ℕ). Grows l c.loop-i.reach w.add_all.new.self) w.deref.ensures.value w.in_ok-add_all.ensures))
      | in_default w ↦ subst (λ (r : Reach). IsWalked c.args.found.now c.in_ok-named.named r (c.loop-i.i + 1)) (sym w.reach-is)
          (walked_none c.args.found.now c.in_ok-named.named c.loop-i.reach c.loop-i.i c.index.result.now c.index.result.now c.loop-i.invariant lt c.index.ensures (sym w.in_default.ensures.value))
    ]

pub loop-i-smaller : goal.loop-i-smaller
loop-i-smaller c =
    let test = c.loop-i-test.true in let is = c.len.ensures in
    let few = few_ids c.args.found.now c.in_ok-named.named c.loop-i.reach c.loop-i.i c.loop-i.invariant in
    omega (arith, test, is, few)

pub returns : goal.returns
returns c = let test = c.loop-i-test.false in let is = c.len.ensures in all_reached c.args.found.now c.in_ok-named.named c.loop-i.reach c.loop-i.i c.loop-i.invariant c.in_ok-named.ensures (omega (arith, test, is))
