use Rattle.std.proofs.Common.{◌≡◌, ◌∙◌, ◌≤◌, inl, inr, ap, arith, length, map, subst, sym}
use Rattle.std.specs.Arc.{arc_value}
use Rattle.std.specs.Prelude.{◌&&◌, Contains, List, if◌then◌else◌}
use Rattle.r4_base.specs.Tree.{Root, Store}
use Rattle.r4_base.specs.Value.{Value}
use Rattle.r4_measure.specs.r4_cell.Seen.{CellSeen}
use Rattle.r4_content.specs.Counts.{is_okay, stats_in}
use Rattle.r4_content.specs.Course.{Ending}
use Rattle.r4_content.specs.Edited.{Edits, changed, is_in}
use Rattle.r4_content.specs.Held.{edits_of, pairs_of}
use Rattle.r4_content.specs.Meaning.{makes_object}
use Rattle.r4_content.specs.declared.reply.Reply.{Reply}
use Rattle.r4_measure.specs.r4_patch.Effect.{HasEffect}
use Rattle.r4_measure.specs.r4_patch.Joining.{patch_of_change}
use Rattle.r4_measure.specs.r4_reach.Touched.{body_on, reads_on}
use Rattle.r4_build.specs.Building.{CanBuild, most_new, set_by}
use Rattle.r4_build.specs.Built.{IsTaskIn, edits_for}
use Rattle.r4_build.proofs.built.parts_in_leaves.Goals as goal

pub returns : goal.returns
returns c =
    let task = c.args.task.now in
    let s = pairs_of (arc_value task.seen) in
    let b = body_on task.command s task.scope.in_extents in
    let reads = reads_on task.command s task.scope.in_extents in
    let told = c.in_ok-change.ensures in
    let ending = rw c.deref.ensures at c.in_ok-edits.ensures.ending in
    let same : edits_of c.in_ok-edits.edits ≡ edits_for task = ap (λ (x : Ending). x.edits) ending in
    let cells = map (λ x. arc_value x) c.as_slice.result.now in
    let can : (t : Store Value) (r : Root) → IsTaskIn t r task
    → CanBuild b (edits_of c.in_ok-edits.edits) reads t r task.fresh (map (λ x. arc_value x) c.as_slice.result.now) =
    λ t r is. subst (λ (e : Edits). CanBuild b e reads t r task.fresh (map (λ x. arc_value x) c.as_slice.result.now)) (sym same)
    (subst (λ (l : List CellSeen). CanBuild b (edits_for task) reads t r task.fresh l) (sym c.as_slice.ensures)
    (is.leaves c.requires.leaves)) in
    record {
      reply = ap (λ (x : Ending). x.reply) ending;
      born = c.of-objects.ensures.born ∙ ap (λ (x : Reply). if makes_object task.command && is_okay x then 1 else 0) (ap (λ (x : Ending). x.reply) ending);
      gone = c.of-objects.ensures.gone ∙ ap (λ (e : Edits). stats_in e.cuts) same;
      change = told.change;
      made = inl (record {
        leaves = c.requires.leaves;
        effect = subst (λ (e : Edits). HasEffect (patch_of_change c.in_ok-change.change) (is_in (changed e)) (set_by e))
            same told.effect;
      });
      meets = λ t r is. told.meets b reads t r (can t r is);
      few =
          let (t, (r, is)) = c.requires.task in
          let most = is.few c.requires.leaves in
          let few = subst (λ (l : List CellSeen). length c.in_ok-change.change.new ≤ most_new b (edits_for task) reads t r l) c.as_slice.ensures
          (subst (λ (e : Edits). length c.in_ok-change.change.new ≤ most_new b e reads t r (map (λ x. arc_value x) c.as_slice.result.now)) same
          (told.few b reads t r (can t r is))) in
          omega (arith, most, few);
      old = λ x at. subst (λ (l : List CellSeen). Contains l x) c.as_slice.ensures (told.old x at);
      new = λ x at. elim (told.new x at) [
        | inl h ↦ inl h
        | inr h ↦ let takes = told.numbers in inr (h.0, omega (arith, h, takes))
      ];
    }
