use Rattle.std.proofs.Common.{◌≡◌, ◌≢◌, ◌≤◌, ◌<◌, ◌^◌, ℕ, true, arith, refl, sym, ap, subst, ◌∙◌}
use Rattle.std.specs.Prelude.{IfSome, IfNone, Contains, slice_index}
use Rattle.std.specs.Arc.{arc_value}
use Rattle.std.proofs.lemmas.Bool.{lt-ltb}
use Rattle.r4_base.specs.Key.{rank}
use Rattle.r4_base.specs.Value.{Stat}
use Rattle.r4_base.specs.Volume.{stat_rank}
use Rattle.r4_base.specs.declared.key.Key.{Key}
use Rattle.r4_base.specs.declared.items.Attr.{Attr}
use Rattle.r4_cell.specs.Seen.{CellSeen, node_of}
use Rattle.r4_content.specs.Walk.{may_be_object}
use Rattle.r4_search.specs.Path.{EndsAt}
use Rattle.r4_list.proofs.OverAnswers.{attr_none, attr_read, none_at, none_outside, over_handed}
use Rattle.r4_list.proofs.lookup.attr_of.Goals as goal

pub returns-then-not-is_in_tree-clause-over : goal.returns-then-not-is_in_tree-clause-over
returns-then-not-is_in_tree-clause-over g c = λ n image m has over.
    let key = c.stat-key.ensures in
    let first = ap (λ (k : Key). slice_index k.el 0) key in
    let small = c.if-object-ge-OBJECT_END.false in
    let below = c.is_in_tree.ensures.outside c.if-not-is_in_tree.true (omega (arith, first, small)) in
    let same = ap rank key in
    record {
      over = over;
      found = attr_none has c.args.object.now (λ a e. let low = none_outside has (stat_rank c.args.object.now) (Stat a) e in omega (arith, low, below, same));
      undamaged = tt;
    }

pub returns-in_err-cell-clause-over : goal.returns-in_err-cell-clause-over
returns-in_err-cell-clause-over g c = λ n image m has over. over_handed has c.args.root.now _ _ _ c.in_err-cell.field-0.0 c.from_residual.result (c.in_err-cell.ensures.over n image m has over) c.from_residual.ensures.1

pub returns-then-level-ne-LEAF-clause-over : goal.returns-then-level-ne-LEAF-clause-over
returns-then-level-ne-LEAF-clause-over g c = λ n image m has over.
    let f = c.in_ok-cell.ensures.over n image m has over in
    let x = arc_value c.in_ok-cell.cell in
    let ends = subst (λ (k : ℕ). EndsAt x k) (ap rank c.stat-key.ensures) c.in_ok-cell.ensures.ends in
    let other : x.level ≢ 1 = λ h. c.if-level-ne-LEAF.true (c.level.ensures ∙ (ap (λ (y : CellSeen). y.level) c.deref.ensures ∙ h)) in
    record {
      over = f.over;
      found = attr_none has c.args.object.now (λ a e. none_at has x f.found (stat_rank c.args.object.now) (Stat a) tt ends other e);
      undamaged = tt;
    }

pub returns-clause-over : goal.returns-clause-over
returns-clause-over g c = λ n image m has over.
    let f = c.in_ok-cell.ensures.over n image m has over in
    let x = arc_value c.in_ok-cell.cell in
    let same = ap rank c.stat-key.ensures in
    let r = c.attr_in.result in
    let one = sym (ap (λ (y : CellSeen). y.level) c.deref.ensures) ∙ (sym c.level.ensures ∙ c.if-level-ne-LEAF.false) in
    let from = subst (λ (k : ℕ). rank x.lo ≤ k) same c.in_ok-cell.ensures.from in
    let to = subst (λ (k : ℕ). k < rank x.hi) same c.in_ok-cell.ensures.inside in
    let some = subst (λ (k : ℕ). IfSome r (λ a. Contains (node_of x).units (k, Stat a))) same (subst (λ (y : CellSeen). IfSome r (λ a. Contains (node_of y).units (rank c.stat-key.result, Stat a))) c.deref-2.ensures c.attr_in.ensures.some) in
    let none = subst (λ (k : ℕ). IfNone r ((a : Attr) → Contains (node_of x).units (k, Stat a) → ⊥)) same (subst (λ (y : CellSeen). IfNone r ((a : Attr) → Contains (node_of y).units (rank c.stat-key.result, Stat a) → ⊥)) c.deref-2.ensures c.attr_in.ensures.none) in
    let locality = lt-ltb c.args.object.now.locality (2 ^ 60) c.if-object-ge-OBJECT_END.false in
    let oid = lt-ltb c.args.object.now.oid.0 (2 ^ 60) c.if-object-ge-OBJECT_END-2.false in
    let may : may_be_object c.args.object.now ≡ true = rw (locality, oid) refl in
    record { over = f.over; found = attr_read has x f.found one c.args.object.now r may from to some none; undamaged = tt }
