use Rattle.std.proofs.Common.{◌≡◌, sym, subst}
use Rattle.std.proofs.lemmas.Result.{IfOk-weaker}
use Rattle.std.specs.Arc.{arc_value}
use Rattle.r4_path.specs.r4_cell.Seen.{CellSeen}
use Rattle.r4_edit.specs.Editing.{after_cut}
use Rattle.r4_edit.proofs.LastLeaf.{cut_out, cut_some, edited, replaced}
use Rattle.r4_edit.proofs.editing.cut_leaf.Goals as goal

pub leaves_without-requires : goal.leaves_without-requires
leaves_without-requires c =
    let (t, (r, is)) = c.requires.path in
    record {
      level = subst (λ (x : CellSeen). x.level ≡ 1) (sym c.deref.ensures)
          (cut_out arc_value c.args.path.now c.index-path-count.result c.index-path-count.is c.args.fresh.now t r c.args.from.now c.args.to.now is).edited.level;
    }

pub replace-requires-clause-path : goal.replace-requires-clause-path
replace-requires-clause-path c =
    let (t, (r, is)) = c.requires.path in (
      t,
      (
        r,
        (
          (after_cut c.args.from.now c.args.to.now)
              (arc_value c.index-path-count.result),
          replaced arc_value c.args.path.now c.index-path-count.result c.index-path-count.is c.args.fresh.now (after_cut c.args.from.now c.args.to.now) (cut_some arc_value c.args.path.now c.index-path-count.result c.index-path-count.is c.args.fresh.now t r c.args.from.now c.args.to.now is) t r c.in_ok-leaves.leaves.items c.deref.result.now c.deref.ensures (cut_out arc_value c.args.path.now c.index-path-count.result c.index-path-count.is c.args.fresh.now t r c.args.from.now c.args.to.now is).edited c.in_ok-leaves.ensures.leaves c.in_ok-leaves.ensures.mkfs_id c.requires.numbers.1,
        ),
      ),
    )

pub returns-clause-meets : goal.returns-clause-meets
returns-clause-meets c =
    IfOk-weaker c.replace.result _ _ (λ d meets t r is.
    meets t r ((after_cut c.args.from.now c.args.to.now) (arc_value c.index-path-count.result))
    (replaced arc_value c.args.path.now c.index-path-count.result c.index-path-count.is c.args.fresh.now
    (after_cut c.args.from.now c.args.to.now)
    (cut_some arc_value c.args.path.now c.index-path-count.result c.index-path-count.is c.args.fresh.now t r c.args.from.now c.args.to.now is) t r c.in_ok-leaves.leaves.items c.deref.result.now c.deref.ensures (cut_out arc_value c.args.path.now c.index-path-count.result c.index-path-count.is c.args.fresh.now t r c.args.from.now c.args.to.now is).edited c.in_ok-leaves.ensures.leaves c.in_ok-leaves.ensures.mkfs_id c.requires.numbers.1))
    c.replace.ensures.meets

pub returns-clause-cuts : goal.returns-clause-cuts
returns-clause-cuts c =
    let (t, (r, is)) = c.requires.path in
    IfOk-weaker c.replace.result _ _ (λ d edits.
    edited arc_value c.args.path.now c.index-path-count.result c.index-path-count.is c.args.fresh.now
    (after_cut c.args.from.now c.args.to.now)
    (cut_some arc_value c.args.path.now c.index-path-count.result c.index-path-count.is c.args.fresh.now t r c.args.from.now c.args.to.now is) c.replace.new.fresh d
    (edits t r ((after_cut c.args.from.now c.args.to.now) (arc_value c.index-path-count.result))
    (replaced arc_value c.args.path.now c.index-path-count.result c.index-path-count.is c.args.fresh.now
    (after_cut c.args.from.now c.args.to.now)
    (cut_some arc_value c.args.path.now c.index-path-count.result c.index-path-count.is c.args.fresh.now t r c.args.from.now c.args.to.now is) t r c.in_ok-leaves.leaves.items c.deref.result.now c.deref.ensures (cut_out arc_value c.args.path.now c.index-path-count.result c.index-path-count.is c.args.fresh.now t r c.args.from.now c.args.to.now is).edited c.in_ok-leaves.ensures.leaves c.in_ok-leaves.ensures.mkfs_id c.requires.numbers.1)))
    c.replace.ensures.edits
