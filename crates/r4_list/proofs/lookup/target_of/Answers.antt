use Rattle.std.proofs.Common.{◌≢◌, ◌≤◌, ◌<◌, ℕ, arith, sym, ap, subst, ◌∙◌}
use Rattle.std.specs.Prelude.{IfSome, IfNone, Contains, slice_index}
use Rattle.std.specs.Arc.{arc_value}
use Rattle.r4_base.specs.Key.{rank}
use Rattle.r4_base.specs.Name.{key_of_name}
use Rattle.r4_base.specs.Value.{Entry}
use Rattle.r4_base.specs.declared.key.Key.{Key}
use Rattle.r4_base.specs.declared.items.Target.{Target}
use Rattle.r4_cell.specs.Seen.{CellSeen, node_of}
use Rattle.r4_search.specs.Path.{EndsAt}
use Rattle.r4_list.proofs.Lookups.{first_of_entry}
use Rattle.r4_list.proofs.OverAnswers.{none_at, none_outside, over_handed, target_none, target_read}
use Rattle.r4_list.proofs.lookup.target_of.Goals as goal

pub returns-then-not-is_in_tree-clause-over : goal.returns-then-not-is_in_tree-clause-over
returns-then-not-is_in_tree-clause-over g c = λ n image m has legal over.
    let key = c.in-Ok.ensures.key in
    let first = ap (λ (k : Key). slice_index k.el 0) key ∙ first_of_entry c.args.dir.0 c.args.name.now in
    let small = c.if-dir-ge-OBJECT_END.false in
    let below = c.is_in_tree.ensures.outside c.if-not-is_in_tree.true (omega (arith, first, small)) in
    let same = ap rank key in
    record {
      over = over;
      found = target_none has c.args.dir.0 c.args.name.now (λ t e. let low = none_outside has (rank (key_of_name c.args.dir.0 c.args.name.now)) (Entry c.args.name.now t) e in omega (arith, low, below, same));
      undamaged = tt;
    }

pub returns-in_err-cell-clause-over : goal.returns-in_err-cell-clause-over
returns-in_err-cell-clause-over g c = λ n image m has legal over. over_handed has c.args.root.now _ _ _ c.in_err-cell.field-0.0 c.from_residual.result (c.in_err-cell.ensures.over n image m has over) c.from_residual.ensures.1

pub returns-then-level-ne-LEAF-clause-over : goal.returns-then-level-ne-LEAF-clause-over
returns-then-level-ne-LEAF-clause-over g c = λ n image m has legal over.
    let f = c.in_ok-cell.ensures.over n image m has over in
    let x = arc_value c.in_ok-cell.cell in
    let ends = subst (λ (k : ℕ). EndsAt x k) (ap rank c.in-Ok.ensures.key) c.in_ok-cell.ensures.ends in
    let other : x.level ≢ 1 = λ h. c.if-level-ne-LEAF.true (c.level.ensures ∙ (ap (λ (y : CellSeen). y.level) c.deref.ensures ∙ h)) in
    record {
      over = f.over;
      found = target_none has c.args.dir.0 c.args.name.now (λ t e. none_at has x f.found (rank (key_of_name c.args.dir.0 c.args.name.now)) (Entry c.args.name.now t) tt ends other e);
      undamaged = tt;
    }

pub returns-clause-over : goal.returns-clause-over
returns-clause-over g c = λ n image m has legal over.
    let f = c.in_ok-cell.ensures.over n image m has over in
    let x = arc_value c.in_ok-cell.cell in
    let same = ap rank c.in-Ok.ensures.key in
    let r = c.target_in.result in
    let name = c.args.name.now in
    let one = sym (ap (λ (y : CellSeen). y.level) c.deref.ensures) ∙ (sym c.level.ensures ∙ c.if-level-ne-LEAF.false) in
    let from = subst (λ (k : ℕ). rank x.lo ≤ k) same c.in_ok-cell.ensures.from in
    let to = subst (λ (k : ℕ). k < rank x.hi) same c.in_ok-cell.ensures.inside in
    let some = subst (λ (k : ℕ). IfSome r (λ t. Contains (node_of x).units (k, Entry name t))) same (subst (λ (y : CellSeen). IfSome r (λ t. Contains (node_of y).units (rank c.in-Ok.key, Entry name t))) c.deref-2.ensures c.target_in.ensures.some) in
    let none = subst (λ (k : ℕ). IfNone r ((t : Target) → Contains (node_of x).units (k, Entry name t) → ⊥)) same (subst (λ (y : CellSeen). IfNone r ((t : Target) → Contains (node_of y).units (rank c.in-Ok.key, Entry name t) → ⊥)) c.deref-2.ensures c.target_in.ensures.none) in
    record { over = f.over; found = target_read has x f.found one c.args.dir.0 name r c.if-dir-ge-OBJECT_END.false from to some none; undamaged = tt }
