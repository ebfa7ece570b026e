use Rattle.std.proofs.Common.{subst, sym}
use Rattle.std.proofs.lemmas.Result.{on_ok_weaker}
use Rattle.r4_base.specs.Key.{rank}
use Rattle.r4_base.specs.declared.key.Key.{Key}
use Rattle.r4_build.proofs.Made.{gets_of, leaf_changes, on_ok_both, turn_of}
use Rattle.r4_build.specs.r4_measure.r4_cell.Patch.{root_of_pair}
use Rattle.r4_build.specs.r4_work.Remaking.{IsRemakable}
use Rattle.r4_content.specs.Held.{edits_of}
use Rattle.r4_leaf_steps.proofs.Edited.{edited_here, for_range, some_keys}
use Rattle.r4_leaf_steps.proofs.editing.edit.Goals as goal

pub may_edit-requires-clause-some : goal.may_edit-requires-clause-some
may_edit-requires-clause-some c = some_keys (edits_of c.args.edits.now) (rank c.args.leaf.now.lo) (rank c.args.leaf.now.hi) c.requires.touched

pub may_edit-requires-clause-given : goal.may_edit-requires-clause-given
may_edit-requires-clause-given c =
    let leaf = c.args.leaf.now in
    for_range (edits_of c.args.edits.now) (rank leaf.lo) (rank leaf.hi) c.cuts-cuts.result.now c.as_slice-given.result.now
    (gets_of c.args.edits.now c.in_ok-gets.gets c.in_ok-items.items.items c.as_slice-given.result.now c.cuts-cuts.result.now c.lo.result c.hi.result leaf c.lo.ensures c.hi.ensures c.cuts-cuts.ensures c.as_slice-given.ensures.value
    c.in_ok-items.ensures c.in_ok-gets.ensures.cuts c.in_ok-gets.ensures.items c.in_ok-gets.ensures.edits)

pub returns-clause-edited : goal.returns-clause-edited
returns-clause-edited c =
    let e = edits_of c.args.edits.now in
    let r = root_of_pair c.args.root.now in
    let leaf = c.args.leaf.now in
    let f = c.args.fresh.now in
    let w = c.args.set.now in
    let cuts = c.cuts-cuts.result.now in
    let items = c.as_slice-given.result.now in
    let gets = gets_of c.args.edits.now c.in_ok-gets.gets c.in_ok-items.items.items items cuts c.lo.result c.hi.result leaf c.lo.ensures c.hi.ensures c.cuts-cuts.ensures c.as_slice-given.ensures.value
    c.in_ok-items.ensures c.in_ok-gets.ensures.cuts c.in_ok-gets.ensures.items c.in_ok-gets.ensures.edits in
    let turn = turn_of e leaf c.lo-2.result cuts items c.lo-2.ensures c.requires.level c.node-node.ensures.whole c.node-node.ensures.stands c.requires.touched gets in
    on_ok_weaker c.remake.result (λ told t working.
    let able = subst (λ (k : Key). IsRemakable t r f w k cuts items) (sym c.lo-2.ensures) (c.in_ok-may_edit.ensures c.if-not-branch.false t working) in
    edited_here t r e leaf f w working c.remake.new.fresh c.remake.new.self (record { key = c.lo-2.result; cuts = cuts; items = items }) turn (told.1 t r able)
    (leaf_changes e leaf cuts items w c.remake.new.self c.requires.level gets (told.0 t r able)))
    (on_ok_both c.remake.result _ _ c.remake.ensures.effect c.remake.ensures.remade)
