use Rattle.std.proofs.Common.{◌-◌, sym, subst, arith, length, map, take}
use Rattle.std.proofs.lemmas.Result.{IfOk-weaker}
use Rattle.std.specs.Prelude.{reverse}
use Rattle.std.specs.Arc.{arc_value}
use Rattle.r4_edit.specs.Editing.{EditsUp, IsReplacedUp}
use Rattle.r4_path.specs.Levels.{step_of}
use Rattle.r4_edit.proofs.Edited.{edit_change, edit_edits, edit_meets, edit_starts, numbered_leaves, some_replaced}
use Rattle.r4_path.proofs.Upwards.{last_first}
use Rattle.r4_edit.proofs.editing.replace.Goals as goal

pub leaf_level-requires : goal.leaf_level-requires
leaf_level-requires c =
    let (t, (r, (us, is))) = c.requires.path in
    let path = c.args.path.now in
    let up = last_first arc_value path c.index-path-count.result
    (some_replaced t r us c.args.leaves.items c.args.fresh.now arc_value path is) c.index-path-count.is in
    let at = subst (IsReplacedUp t r us c.args.leaves.items c.args.fresh.now) up is in
    record {
      level = at.edited.level;
      node = at.edited.path.part.nodes _ _ at.edited.path.ascends.0;
      packed = (us, at.leaves_are.packs);
      numbers = let n = at.numbers in let few = numbered_leaves us c.args.leaves.items at.leaves_are.few in
          omega (arith, n, few);
    }

pub rise-requires : goal.rise-requires
rise-requires c =
    let (t, (r, (us, is))) = c.requires.path in
    let path = c.args.path.now in
    let up = last_first arc_value path c.index-path-count.result
    (some_replaced t r us c.args.leaves.items c.args.fresh.now arc_value path is) c.index-path-count.is in
    let at = subst (IsReplacedUp t r us c.args.leaves.items c.args.fresh.now) up is in
    edit_starts (arc_value c.index-path-count.result)
    (reverse (map arc_value (take (length path - 1) path))) us c.args.leaves.items c.args.fresh.now c.leaf_level.new.fresh
    (step_of c.in_ok-lowest.lowest)
    (c.in_ok-lowest.ensures.step us at.leaves_are.packs at.mkfs_id) at.leaves_are.few t r at c.requires.numbers (omega arith)

pub returns-clause-change : goal.returns-clause-change
returns-clause-change c =
    let (t, (r, (us, is))) = c.requires.path in
    let path = c.args.path.now in
    let up = last_first arc_value path c.index-path-count.result
    (some_replaced t r us c.args.leaves.items c.args.fresh.now arc_value path is) c.index-path-count.is in
    let at = subst (IsReplacedUp t r us c.args.leaves.items c.args.fresh.now) up is in
    IfOk-weaker c.rise.result _ _ (λ d rises. edit_change (arc_value c.index-path-count.result)
    (reverse (map arc_value (take (length path - 1) path))) us c.args.leaves.items c.args.fresh.now c.leaf_level.new.fresh
    (step_of c.in_ok-lowest.lowest)
    (c.in_ok-lowest.ensures.step us at.leaves_are.packs at.mkfs_id) at.leaves_are.few c.rise.new.fresh d rises t r at.edited) c.rise.ensures.rises

pub returns-clause-meets : goal.returns-clause-meets
returns-clause-meets c =
    let path = c.args.path.now in
    IfOk-weaker c.rise.result _ _ (λ d rises t r us is.
    let up = last_first arc_value path c.index-path-count.result
    (some_replaced t r us c.args.leaves.items c.args.fresh.now arc_value path is) c.index-path-count.is in
    let at = subst (IsReplacedUp t r us c.args.leaves.items c.args.fresh.now) up is in
    edit_meets (arc_value c.index-path-count.result)
    (reverse (map arc_value (take (length path - 1) path))) us c.args.leaves.items c.args.fresh.now c.leaf_level.new.fresh
    (step_of c.in_ok-lowest.lowest)
    (c.in_ok-lowest.ensures.step us at.leaves_are.packs at.mkfs_id) at.leaves_are.few c.rise.new.fresh d rises t r at.edited) c.rise.ensures.rises

pub returns-clause-edits : goal.returns-clause-edits
returns-clause-edits c =
    let path = c.args.path.now in
    IfOk-weaker c.rise.result _ _ (λ d rises t r us is.
    let up = last_first arc_value path c.index-path-count.result
    (some_replaced t r us c.args.leaves.items c.args.fresh.now arc_value path is) c.index-path-count.is in
    let at = subst (IsReplacedUp t r us c.args.leaves.items c.args.fresh.now) up is in
    subst (EditsUp (λ leaf. us) c.args.fresh.now c.rise.new.fresh d) (sym up)
    (edit_edits (arc_value c.index-path-count.result)
    (reverse (map arc_value (take (length path - 1) path))) us c.args.leaves.items c.args.fresh.now c.leaf_level.new.fresh
    (step_of c.in_ok-lowest.lowest)
    (c.in_ok-lowest.ensures.step us at.leaves_are.packs at.mkfs_id) at.leaves_are.few c.rise.new.fresh d rises at.leaves_are.packs)) c.rise.ensures.rises
