use Rattle.std.proofs.Common.{◌≡◌, ◌≤◌, ◌<◌, sym, subst}
use Rattle.std.proofs.lemmas.Result.{IfOk-weaker}
use Rattle.std.specs.Arc.{arc_value}
use Rattle.r4_base.specs.Key.{rank}
use Rattle.r4_path.specs.r4_cell.Seen.{CellSeen, node_of}
use Rattle.r4_path.specs.r4_leaf.Remade.{AreWithin, CanPutAll, cut_all}
use Rattle.r4_path.specs.r4_leaf.Units.{leaf_bytes}
use Rattle.r4_edit.specs.Remaking.{after_edits}
use Rattle.r4_edit.proofs.LastLeaf.{edited, replaced}
use Rattle.r4_edit.proofs.Remade.{has_range, remade, remake_some}
use Rattle.r4_edit.proofs.remaking.change_leaf.Goals as goal

pub leaves_remade-requires : goal.leaves_remade-requires
leaves_remade-requires c =
    let (t, (r, is)) = c.requires.path in
    let at = remade arc_value c.args.path.now c.index-path-count.result c.index-path-count.is c.args.fresh.now c.args.cuts.now c.args.items.now t r is in
    let same = sym c.deref.ensures in
    record {
      level = subst (λ (x : CellSeen). x.level ≡ 1) same at.edited.level;
      range = subst (λ (x : CellSeen). rank x.lo ≤ rank x.hi) same (has_range t r c.args.cuts.now c.args.items.now _ _ c.args.fresh.now at);
      within = subst (λ (x : CellSeen). AreWithin (rank x.lo) (rank x.hi) c.args.items.now) same at.within;
      can = subst (λ (x : CellSeen). CanPutAll c.args.items.now (cut_all c.args.cuts.now (node_of x).units)) same at.can;
      small = subst (λ (x : CellSeen). leaf_bytes (after_edits c.args.cuts.now c.args.items.now x) < 58912) same at.small;
    }

pub replace-requires-clause-path : goal.replace-requires-clause-path
replace-requires-clause-path c =
    let (t, (r, is)) = c.requires.path in
    let at = remade arc_value c.args.path.now c.index-path-count.result c.index-path-count.is c.args.fresh.now c.args.cuts.now c.args.items.now t r is in (
      t,
      (
        r,
        (
          after_edits c.args.cuts.now c.args.items.now (arc_value c.index-path-count.result),
          replaced arc_value c.args.path.now c.index-path-count.result c.index-path-count.is c.args.fresh.now (after_edits c.args.cuts.now c.args.items.now)
              (remake_some arc_value c.args.path.now c.index-path-count.result c.index-path-count.is c.args.fresh.now c.args.cuts.now c.args.items.now t r is) t r c.in_ok-leaves.leaves.items c.deref.result.now c.deref.ensures at.edited c.in_ok-leaves.ensures.leaves c.in_ok-leaves.ensures.mkfs_id c.requires.numbers.1,
        ),
      ),
    )

pub returns-clause-meets : goal.returns-clause-meets
returns-clause-meets c =
    IfOk-weaker c.replace.result _ _ (λ d meets t r is.
    let at = remade arc_value c.args.path.now c.index-path-count.result c.index-path-count.is c.args.fresh.now c.args.cuts.now c.args.items.now t r is in
    meets t r (after_edits c.args.cuts.now c.args.items.now (arc_value c.index-path-count.result))
    (replaced arc_value c.args.path.now c.index-path-count.result c.index-path-count.is c.args.fresh.now (after_edits c.args.cuts.now c.args.items.now)
    (remake_some arc_value c.args.path.now c.index-path-count.result c.index-path-count.is c.args.fresh.now c.args.cuts.now c.args.items.now t r is) t r c.in_ok-leaves.leaves.items c.deref.result.now c.deref.ensures at.edited c.in_ok-leaves.ensures.leaves c.in_ok-leaves.ensures.mkfs_id c.requires.numbers.1)) c.replace.ensures.meets

pub returns-clause-edits : goal.returns-clause-edits
returns-clause-edits c =
    let (t, (r, is)) = c.requires.path in
    let at = remade arc_value c.args.path.now c.index-path-count.result c.index-path-count.is c.args.fresh.now c.args.cuts.now c.args.items.now t r is in
    let some = remake_some arc_value c.args.path.now c.index-path-count.result c.index-path-count.is c.args.fresh.now c.args.cuts.now c.args.items.now t r is in
    IfOk-weaker c.replace.result _ _ (λ d edits.
    edited arc_value c.args.path.now c.index-path-count.result c.index-path-count.is c.args.fresh.now (after_edits c.args.cuts.now c.args.items.now) some c.replace.new.fresh d
    (edits t r (after_edits c.args.cuts.now c.args.items.now (arc_value c.index-path-count.result))
    (replaced arc_value c.args.path.now c.index-path-count.result c.index-path-count.is c.args.fresh.now (after_edits c.args.cuts.now c.args.items.now) some t r c.in_ok-leaves.leaves.items c.deref.result.now c.deref.ensures at.edited c.in_ok-leaves.ensures.leaves c.in_ok-leaves.ensures.mkfs_id c.requires.numbers.1))) c.replace.ensures.edits
