use Rattle.std.proofs.Common.{◌≡◌, ◌≤◌, sym, subst}
use Rattle.std.proofs.lemmas.Result.{IfOk-weaker}
use Rattle.std.specs.Arc.{arc_value}
use Rattle.r4_base.specs.Cell.{item_end, item_units}
use Rattle.r4_base.specs.Key.{rank}
use Rattle.r4_path.specs.r4_cell.Seen.{CellSeen, node_of}
use Rattle.r4_path.specs.r4_leaf.Leaves.{AreApart}
use Rattle.r4_edit.specs.Editing.{after_insert}
use Rattle.r4_edit.proofs.LastLeaf.{edited, insert_some, inserted, replaced}
use Rattle.r4_edit.proofs.editing.put_into.Goals as goal

pub leaves_with-requires : goal.leaves_with-requires
leaves_with-requires c =
    let (t, (r, is)) = c.requires.path in
    let at = inserted arc_value c.args.path.now c.index-path-count.result c.index-path-count.is c.args.fresh.now t r
    (record { key = c.args.key.now; plugin = c.args.plugin; body = c.args.body.now }) is in
    record {
      level = subst (λ (x : CellSeen). x.level ≡ 1) (sym c.deref.ensures) at.edited.level;
      given = c.requires.item;
      from = subst (λ (x : CellSeen). rank x.lo ≤ rank c.args.key.now) (sym c.deref.ensures) at.from;
      to = subst (λ (x : CellSeen). item_end
          (record { key = c.args.key.now; plugin = c.args.plugin; body = c.args.body.now }) ≤ rank x.hi)
          (sym c.deref.ensures) at.to;
      apart = subst (λ (x : CellSeen). AreApart (node_of x).units
          (item_units (record { key = c.args.key.now; plugin = c.args.plugin; body = c.args.body.now })))
          (sym c.deref.ensures) at.apart;
    }

pub replace-requires-clause-path : goal.replace-requires-clause-path
replace-requires-clause-path c =
    let (t, (r, is)) = c.requires.path in (
      t,
      (
        r,
        (
          (after_insert (record { key = c.args.key.now; plugin = c.args.plugin; body = c.args.body.now }))
              (arc_value c.index-path-count.result),
          replaced arc_value c.args.path.now c.index-path-count.result c.index-path-count.is c.args.fresh.now (after_insert (record { key = c.args.key.now; plugin = c.args.plugin; body = c.args.body.now })) (insert_some arc_value c.args.path.now c.index-path-count.result c.index-path-count.is c.args.fresh.now t r (record { key = c.args.key.now; plugin = c.args.plugin; body = c.args.body.now }) is) t r c.in_ok-leaves.leaves.items c.deref.result.now c.deref.ensures (inserted arc_value c.args.path.now c.index-path-count.result c.index-path-count.is c.args.fresh.now t r (record { key = c.args.key.now; plugin = c.args.plugin; body = c.args.body.now }) is).edited c.in_ok-leaves.ensures.leaves c.in_ok-leaves.ensures.mkfs_id c.requires.numbers.1,
        ),
      ),
    )

pub returns-clause-meets : goal.returns-clause-meets
returns-clause-meets c =
    IfOk-weaker c.replace.result _ _ (λ d meets t r is.
    meets t r ((after_insert (record { key = c.args.key.now; plugin = c.args.plugin; body = c.args.body.now }))
    (arc_value c.index-path-count.result))
    (replaced arc_value c.args.path.now c.index-path-count.result c.index-path-count.is c.args.fresh.now
    (after_insert (record { key = c.args.key.now; plugin = c.args.plugin; body = c.args.body.now }))
    (insert_some arc_value c.args.path.now c.index-path-count.result c.index-path-count.is c.args.fresh.now t r
    (record { key = c.args.key.now; plugin = c.args.plugin; body = c.args.body.now }) is) t r c.in_ok-leaves.leaves.items c.deref.result.now c.deref.ensures (inserted arc_value c.args.path.now c.index-path-count.result c.index-path-count.is c.args.fresh.now t r (record { key = c.args.key.now; plugin = c.args.plugin; body = c.args.body.now }) is).edited c.in_ok-leaves.ensures.leaves c.in_ok-leaves.ensures.mkfs_id c.requires.numbers.1))
    c.replace.ensures.meets

pub returns-clause-inserts : goal.returns-clause-inserts
returns-clause-inserts c =
    let (t, (r, is)) = c.requires.path in
    IfOk-weaker c.replace.result _ _ (λ d edits.
    edited arc_value c.args.path.now c.index-path-count.result c.index-path-count.is c.args.fresh.now
    (after_insert (record { key = c.args.key.now; plugin = c.args.plugin; body = c.args.body.now }))
    (insert_some arc_value c.args.path.now c.index-path-count.result c.index-path-count.is c.args.fresh.now t r
    (record { key = c.args.key.now; plugin = c.args.plugin; body = c.args.body.now }) is) c.replace.new.fresh d
    (edits t r ((after_insert (record { key = c.args.key.now; plugin = c.args.plugin; body = c.args.body.now }))
    (arc_value c.index-path-count.result))
    (replaced arc_value c.args.path.now c.index-path-count.result c.index-path-count.is c.args.fresh.now
    (after_insert (record { key = c.args.key.now; plugin = c.args.plugin; body = c.args.body.now }))
    (insert_some arc_value c.args.path.now c.index-path-count.result c.index-path-count.is c.args.fresh.now t r
    (record { key = c.args.key.now; plugin = c.args.plugin; body = c.args.body.now }) is) t r c.in_ok-leaves.leaves.items c.deref.result.now c.deref.ensures (inserted arc_value c.args.path.now c.index-path-count.result c.index-path-count.is c.args.fresh.now t r (record { key = c.args.key.now; plugin = c.args.plugin; body = c.args.body.now }) is).edited c.in_ok-leaves.ensures.leaves c.in_ok-leaves.ensures.mkfs_id c.requires.numbers.1)))
    c.replace.ensures.edits
