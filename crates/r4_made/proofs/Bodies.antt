-- The body of a task, from what its edits tell of it.
use Rattle.std.proofs.Common.{◌≡◌, ℕ, ◌≤◌, true, false, Option, Some, None, refl, sym, ap, subst, ◌∙◌, option_map}
use Rattle.std.specs.Arc.{arc_value}
use Rattle.std.proofs.lemmas.Option.{none-some, same_Some}
use Rattle.r4_put_tasks.specs.r4_build.Built.{edits_for}
use Rattle.r4_put_tasks.specs.r4_build.declared.task.Task.{Task}
use Rattle.r4_put_tasks.specs.r4_build.r4_reach.Reach.{is_body}
use Rattle.r4_put_tasks.specs.r4_build.r4_reach.Touched.{Body, body_key, body_of, turns_out}
use Rattle.r4_put_tasks.proofs.r4_build.r4_reach.FirstKeys.{first_is}
use Rattle.r4_content.specs.Edited.{Edits, Pairs, changed}
use Rattle.r4_content.specs.Fields.{HasBytePaths}
use Rattle.r4_content.specs.Held.{pairs_of}
use Rattle.r4_content.specs.Seen.{Rises}
use Rattle.r4_suited.specs.Suited.{AreLawfulSeen}
use Rattle.r4_put_tasks.specs.r4_lost_tasks.r4_extent_shrink.r4_extent_demands.Sizes.{AreExtentEdits, IsSized}
use Rattle.r4_put_tasks.proofs.r4_lost_tasks.r4_extent_shrink.r4_extent_demands.OfCommands.{command_asks}
use Rattle.r4_put_tasks.specs.r4_lost_tasks.r4_task_moves.Doing.{body_for}
use Rattle.r4_made.specs.Making.{IsPlanned, IsSizedAs}

module _ (task : Task) (e : Edits) (same : e ≡ edits_for task)
    (rises : Rises (pairs_of (arc_value task.seen))) (paths : HasBytePaths task.command)
    (lawful : AreLawfulSeen task.command (pairs_of (arc_value task.seen))) where
  abbrev s : Pairs
  s = pairs_of (arc_value task.seen)

  -- the same body, where it stood otherwise
  other_kind : (o : Option ℕ) (c : Body) → option_map (body_of e s false) o ≡ Some c
      → (j : ℕ) × (o ≡ Some j) × (option_map (body_of e s task.scope.in_extents) o
      ≡ Some (record c { in_extents = task.scope.in_extents }))
  other_kind None c is = absurd (none-some c is)
  other_kind (Some j) c is = (
    j,
    refl,
    ap (λ (b : Body). Some (record b { in_extents = task.scope.in_extents })) (same_Some (body_of e s false j) c is),
  )

  asks : (b : Option Body) → b ≡ body_for task → IsSized b → AreExtentEdits b e
  asks b is sized =
      subst (λ (d : Edits). AreExtentEdits b d) (sym same)
      (subst (λ (x : Option Body). AreExtentEdits x (edits_for task)) (sym is)
      (command_asks task.command s task.scope.in_extents paths rises lawful (subst IsSized is sized)))

  pub none : None ≡ option_map (body_of e (pairs_of (arc_value task.seen)) false) (body_key (changed e))
      → IsPlanned task e None
  none is =
      let body : None ≡ body_for task = by (body_key (changed e)) is ∙ ap (λ (d : Edits).
      option_map (body_of d s task.scope.in_extents) (body_key (changed d))) same in
      record {
        edits = same;
        body = body;
        asks = asks None body tt;
        longer = λ x no turns. absurd (none-some x no);
      }
    where
      by : (o : Option ℕ) → None ≡ option_map (body_of e s false) o
          → None ≡ option_map (body_of e s task.scope.in_extents) o
      by None h = refl
      by (Some j) h = absurd (none-some (body_of e s false j) h)

  pub some : (c b : Body) → Some c ≡ option_map (body_of e (pairs_of (arc_value task.seen)) false) (body_key (changed e))
      → IsSizedAs c task.scope.in_extents b → IsPlanned task e (Some b)
  some c b is sized =
      let (j, found, kind) = other_kind (body_key (changed e)) c (sym is) in
      let body : Some b ≡ body_for task = ap (λ (x : Body). Some x) sized.is ∙ (sym kind ∙ ap (λ (d : Edits).
      option_map (body_of d s task.scope.in_extents) (body_key (changed d))) same) in
      let first_at : b.first ≡ j = ap (λ (x : Body). x.first) sized.is
      ∙ ap (λ (x : Body). x.first) (sym (same_Some (body_of e s false j) c
      (sym (ap (λ (o : Option ℕ). option_map (body_of e s false) o) found) ∙ sym is))) in
      record {
        edits = same;
        body = body;
        asks = asks (Some b) body (record {
          body = ap is_body first_at ∙ (first_is (changed e) j found).1;
          was = sized.was;
          now = sized.now;
        });
        longer = λ x at turns. subst (λ (y : Body). turns_out y ≡ true
            → y.was ≤ y.now) (same_Some b x at) sized.longer turns;
      }
