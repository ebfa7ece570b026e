use Rattle.std.proofs.Common.{◌∙◌, ap, arith, map}
use Rattle.std.specs.Arc.{arc_value}
use Rattle.r4_edit.proofs.r4_path.CellNodes.{long_map}
use Rattle.r4_work.specs.Working.{now_of, root_of}
use Rattle.r4_work.proofs.Ranges.{kept_by_place}
use Rattle.r4_work.proofs.Remade.{remake_effects, remake_made, remake_next, remake_numbers, remake_path, remake_working}
use Rattle.r4_work.proofs.working.WorkingSet.remake.Goals as goal

pub change_leaf-requires-clause-path : goal.change_leaf-requires-clause-path
change_leaf-requires-clause-path c =
    let (t, (r, is)) = c.requires.remakable in
    let up = ap (map (λ x. arc_value x)) c.as_slice.ensures.value ∙ c.in_ok-path.ensures t r c.args.fresh.now is.working in (
      now_of c.args.self.now t,
      (
        root_of c.args.self.now r,
        remake_path t r c.args.fresh.now c.args.self.now c.args.key.now c.args.cuts.now c.args.items.now is
            (map (λ x. arc_value x) c.as_slice.result.now) up,
      ),
    )

pub change_leaf-requires-clause-numbers : goal.change_leaf-requires-clause-numbers
change_leaf-requires-clause-numbers c =
    let (t, (r, is)) = c.requires.remakable in
    let up = ap (map (λ x. arc_value x)) c.as_slice.ensures.value ∙ c.in_ok-path.ensures t r c.args.fresh.now is.working in
    let n = remake_numbers t r c.args.fresh.now c.args.self.now c.args.key.now c.args.cuts.now c.args.items.now is (map (λ x. arc_value x) c.as_slice.result.now) up in
    let l = long_map (λ x. arc_value x) c.as_slice.result.now in
    (c.requires.numbers, omega (arith, n, l))

pub put_in_place-requires : goal.put_in_place-requires
put_in_place-requires c =
    let (t, (r, is)) = c.requires.remakable in
    let up = ap (map (λ x. arc_value x)) c.as_slice.ensures.value ∙ c.in_ok-path.ensures t r c.args.fresh.now is.working in
    kept_by_place t r c.args.fresh.now c.args.self.now is.working c.change_leaf.new.fresh c.in_ok-change.change
    (remake_next t r c.args.fresh.now c.args.self.now c.args.key.now c.args.cuts.now c.args.items.now is (map (λ x. arc_value x) c.as_slice.result.now) up
    c.change_leaf.new.fresh c.in_ok-change.change c.in_ok-change.ensures.change c.in_ok-change.ensures.meets c.in_ok-change.ensures.edits
    c.change_leaf.ensures.numbers c.requires.numbers (omega arith))

pub returns-clause-working : goal.returns-clause-working
returns-clause-working c t r is =
    let up = ap (map (λ x. arc_value x)) c.as_slice.ensures.value ∙ c.in_ok-path.ensures t r c.args.fresh.now is.working in
    remake_working t r c.args.fresh.now c.args.self.now c.args.key.now c.args.cuts.now c.args.items.now is (map (λ x. arc_value x) c.as_slice.result.now) up
    c.change_leaf.new.fresh c.in_ok-change.change c.in_ok-change.ensures.change c.in_ok-change.ensures.meets c.in_ok-change.ensures.edits
    c.change_leaf.ensures.numbers c.requires.numbers (omega arith) c.put_in_place.new.self c.in_ok-put_in_place.ensures.done

pub returns-clause-effect : goal.returns-clause-effect
returns-clause-effect c t r is a f ew =
    let up = ap (map (λ x. arc_value x)) c.as_slice.ensures.value ∙ c.in_ok-path.ensures t r c.args.fresh.now is.working in
    remake_effects t r c.args.fresh.now c.args.self.now c.args.key.now c.args.cuts.now c.args.items.now is (map (λ x. arc_value x) c.as_slice.result.now) up
    c.change_leaf.new.fresh c.in_ok-change.change c.in_ok-change.ensures.change c.in_ok-change.ensures.meets c.in_ok-change.ensures.edits
    c.change_leaf.ensures.numbers c.requires.numbers (omega arith) c.put_in_place.new.self c.in_ok-put_in_place.ensures.done a f ew

pub returns-clause-remade : goal.returns-clause-remade
returns-clause-remade c t r is =
    let up = ap (map (λ x. arc_value x)) c.as_slice.ensures.value ∙ c.in_ok-path.ensures t r c.args.fresh.now is.working in
    remake_made t r c.args.fresh.now c.args.self.now c.args.key.now c.args.cuts.now c.args.items.now is (map (λ x. arc_value x) c.as_slice.result.now) up
    c.change_leaf.new.fresh c.in_ok-change.change c.in_ok-change.ensures.change c.in_ok-change.ensures.meets c.in_ok-change.ensures.edits
    c.change_leaf.ensures.numbers c.requires.numbers (omega arith) c.put_in_place.new.self c.in_ok-put_in_place.ensures.done
