use Rattle.std.proofs.Common.{◌∙◌, ap, sym, subst, arith, [], ◌∷◌}
use Rattle.std.proofs.lemmas.Result.{IfOk-weaker}
use Rattle.std.specs.Arc.{arc_value}
use Rattle.r4_base.specs.Key.{least, top}
use Rattle.r4_base.proofs.FreshTree.{least_below}
use Rattle.r4_patch.specs.r4_cell.Seen.{CellSeen}
use Rattle.r4_path.specs.Steps.{Follow}
use Rattle.r4_path.proofs.Grown.{grown_change, grown_meets, grows_of, points_at, root_keys}
use Rattle.r4_path.proofs.growing.grow.Goals as goal

pub root_over-requires-clause-follow : goal.root_over-requires-clause-follow
root_over-requires-clause-follow c =
    let (t, (r, is)) = c.requires.root in
    let keys = root_keys t r (arc_value c.args.root.now) c.args.fresh.now is in
    let low = least_below in
    let lo = keys.lo in
    let hi = keys.hi in
    subst (λ (x : CellSeen). Follow c.level.result least top (x ∷ [])) (sym c.in_ok-try_clone.ensures)
    (sym (c.level.ensures ∙ ap (λ (x : CellSeen). x.level) c.deref.ensures), lo, omega (arith, low, hi), hi)

pub returns-clause-change : goal.returns-clause-change
returns-clause-change c =
    let (t, (r, is)) = c.requires.root in
    IfOk-weaker c.grown.result _ _ (grown_change t r (arc_value c.args.root.now)
    (arc_value c.in_ok-over.over) c.args.fresh.now is c.requires.number.1
    (points_at (arc_value c.args.root.now) (arc_value c.in_ok-try_clone.field-0)
    (arc_value c.in_ok-over.over) c.level.result c.args.fresh.now.next c.in_ok-try_clone.ensures
    (c.level.ensures ∙ ap (λ (x : CellSeen). x.level) c.deref.ensures) c.in_ok-over.ensures.root)) c.grown.ensures

pub returns-clause-meets : goal.returns-clause-meets
returns-clause-meets c = IfOk-weaker c.grown.result _ _
    (λ d h t r is. grown_meets t r (arc_value c.args.root.now)
    (arc_value c.in_ok-over.over) c.args.fresh.now is c.requires.number.1
    (points_at (arc_value c.args.root.now) (arc_value c.in_ok-try_clone.field-0)
    (arc_value c.in_ok-over.over) c.level.result c.args.fresh.now.next c.in_ok-try_clone.ensures
    (c.level.ensures ∙ ap (λ (x : CellSeen). x.level) c.deref.ensures) c.in_ok-over.ensures.root) d h) c.grown.ensures

pub returns-clause-grows : goal.returns-clause-grows
returns-clause-grows c = IfOk-weaker c.grown.result _ _
    (λ d h. grows_of (arc_value c.args.root.now) (arc_value c.in_ok-over.over) c.args.fresh.now.next d
    (points_at (arc_value c.args.root.now) (arc_value c.in_ok-try_clone.field-0)
    (arc_value c.in_ok-over.over) c.level.result c.args.fresh.now.next c.in_ok-try_clone.ensures
    (c.level.ensures ∙ ap (λ (x : CellSeen). x.level) c.deref.ensures) c.in_ok-over.ensures.root) h) c.grown.ensures
