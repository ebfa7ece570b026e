use Rattle.std.proofs.lemmas.Result.{on_ok_weaker}
use Rattle.r4_content.specs.Held.{edits_of}
use Rattle.r4_build.proofs.Made.{can_turn, gets_of, leaf_changes, made_here, on_ok_both, turn_of}
use Rattle.r4_build.proofs.building.make.Goals as goal

pub remake-requires-clause-remakable : goal.remake-requires-clause-remakable
remake-requires-clause-remakable c =
    let (t, (r, (cells, can))) = c.requires.can in
    let e = edits_of c.args.edits.now in
    let leaf = c.args.leaf.now in
    let gets = gets_of c.args.edits.now c.in_ok-gets.gets c.in_ok-items.items.items c.as_slice.result.now c.cuts.result.now c.lo.result c.hi.result leaf c.lo.ensures c.hi.ensures c.cuts.ensures c.as_slice.ensures.value
    c.in_ok-items.ensures c.in_ok-gets.ensures.cuts c.in_ok-gets.ensures.items c.in_ok-gets.ensures.edits in
    let turn = turn_of e leaf c.lo-2.result c.cuts.result.now c.as_slice.result.now c.lo-2.ensures c.requires.level c.node-node.ensures.whole c.node-node.ensures.stands c.requires.touched gets in
    (t, (r, can_turn t r e leaf cells c.args.fresh.now c.args.set.now can (record { key = c.lo-2.result; cuts = c.cuts.result.now; items = c.as_slice.result.now }) turn))

pub returns-clause-made : goal.returns-clause-made
returns-clause-made c =
    let e = edits_of c.args.edits.now in
    let leaf = c.args.leaf.now in
    let gets = gets_of c.args.edits.now c.in_ok-gets.gets c.in_ok-items.items.items c.as_slice.result.now c.cuts.result.now c.lo.result c.hi.result leaf c.lo.ensures c.hi.ensures c.cuts.ensures c.as_slice.ensures.value
    c.in_ok-items.ensures c.in_ok-gets.ensures.cuts c.in_ok-gets.ensures.items c.in_ok-gets.ensures.edits in
    let turn = turn_of e leaf c.lo-2.result c.cuts.result.now c.as_slice.result.now c.lo-2.ensures c.requires.level c.node-node.ensures.whole c.node-node.ensures.stands c.requires.touched gets in
    on_ok_weaker c.remake.result (λ told t r cells can.
    let able = can_turn t r e leaf cells c.args.fresh.now c.args.set.now can (record { key = c.lo-2.result; cuts = c.cuts.result.now; items = c.as_slice.result.now }) turn in
    made_here t r e leaf cells c.args.fresh.now c.args.set.now can (record { key = c.lo-2.result; cuts = c.cuts.result.now; items = c.as_slice.result.now }) turn c.remake.new.fresh c.remake.new.self (told.1 t r able)
    (leaf_changes e leaf c.cuts.result.now c.as_slice.result.now c.args.set.now c.remake.new.self c.requires.level gets (told.0 t r able)))
    (on_ok_both c.remake.result _ _ c.remake.ensures.effect c.remake.ensures.remade)
