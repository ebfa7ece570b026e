-- A task that went out can be built.
use Rattle.std.proofs.Common.{◌≡◌, ◌∙◌, ℕ, List, None, Some, ap, subst, sym}
use Rattle.std.specs.Arc.{arc_value}
use Rattle.std.specs.Prelude.{slice_get}
use Rattle.r4_seal.specs.r4_build.Built.{IsBuildable, IsTaskIn, edits_for}
use Rattle.r4_seal.specs.r4_build.declared.task.Task.{Task}
use Rattle.r4_cell.specs.Patch.{by_name, root_of_pair}
use Rattle.r4_cell.specs.Seen.{CellSeen}
use Rattle.r4_cell.specs.declared.change.Fresh.{Fresh}
use Rattle.r4_content.specs.Edited.{Pairs}
use Rattle.r4_content.specs.Fields.{HasBytePaths}
use Rattle.r4_content.specs.Held.{pairs_of}
use Rattle.r4_content.specs.Meaning.{with_id}
use Rattle.r4_content.specs.Seen.{Rises}
use Rattle.r4_content.specs.declared.command.Command.{Command}
use Rattle.r4_seal.proofs.r4_history.Places.{is_script_with, turn_now}
use Rattle.r4_seal.specs.r4_history.Held.{IsOut}
use Rattle.r4_seal.specs.r4_history.Tables.{next_at}
use Rattle.r4_seal.specs.r4_kept.Kept.{IsKept}
use Rattle.r4_seal.specs.r4_kept.Naming.{Naming}
use Rattle.r4_seal.specs.r4_kept.TasksOut.{IsGiven}
use Rattle.r4_seal.specs.r4_kept.View.{CoreSeen}
use Rattle.r4_seal.specs.r4_leaf_edits.Suiting.{SuitLeaves}
use Rattle.r4_outside.specs.Device.{State}
use Rattle.r4_seal.specs.r4_reach.Touched.{edits_on}
use Rattle.r4_seal.specs.r4_suited.Suited.{AreLawfulSeen}
use Rattle.r4_seal.proofs.r4_suited.Suits.{told_suits}
use Rattle.r4_seal.specs.r4_taking.GoingOut.{HasGoneOut}
use Rattle.r4_turns.specs.Turns.{IsScript, commands_at, gone_out, turn_at}
use Rattle.r4_turns.specs.declared.out.Out.{Out}
use Rattle.r4_turns.specs.declared.out.Scope.{Scope}
use Rattle.r4_turns.specs.declared.turn.Turn.{Turn}
use Rattle.r4_take.specs.Sending.{CanBeBuilt}

-- ---- it is out

module _ {D : Type 0} (f new : CoreSeen D) (s : ℕ) (out : Out) (met : List CellSeen) (h : HasGoneOut f new s out met)
    (is : IsScript f.turns s) where
  turns_are : new.turns ≡ gone_out f.turns s out
  turns_are = ap (λ (z : CoreSeen D). z.turns) h.same

  now : turn_at (gone_out f.turns s out) s ≡ record (turn_at f.turns s) { out = Some out }
  now = turn_now f.turns s (record (turn_at f.turns s) { out = Some out }) is

  pub is_out_then : IsOut new.turns s out
  is_out_then = record {
    is_script = subst (λ t. IsScript t s) (sym turns_are)
        (is_script_with f.turns s (record (turn_at f.turns s) { out = Some out }) s is);
    is_out = ap (λ t. (turn_at t s).out) turns_are ∙ ap (λ (t : Turn). t.out) now;
  }

  pub next_still : next_at new.turns s ≡ next_at f.turns s
  next_still =
      ap (λ t. next_at t s) turns_are ∙ ap (λ (t : Turn). slice_get (commands_at f.turns s) t.answered) now

-- ---- it can be built

module _ {D : Type 0} (r : Naming) (d : State) (c : CoreSeen D) (k : IsKept r d c) (s : ℕ) (out : Out) (x named : Command)
    (is_out : IsOut c.turns s out) (next : next_at c.turns s ≡ Some x) (named_is : named ≡ with_id out.numbers.oid x)
    (task : Task) (command : task.command ≡ named) (writes : task.writes ≡ out.writes)
    (seen : arc_value task.seen ≡ arc_value out.seen) (scope : task.scope ≡ out.scope) (fresh : task.fresh ≡ out.numbers.fresh)
    (paths : HasBytePaths named) where
  g : IsGiven c.tree named out
  g = subst (λ z. IsGiven c.tree z out) (sym named_is) (k.tasks.given s out x is_out next)

  same_seen : g.reach.seen ≡ pairs_of (arc_value task.seen)
  same_seen = g.seen ∙ ap pairs_of (sym seen)

  same : edits_on named g.reach.seen ≡ edits_for task
  same =
      ap (edits_on named) same_seen
      ∙ ap (λ (z : Command). edits_on z (pairs_of (arc_value task.seen))) (sym command)

  is_task : IsTaskIn (by_name g.met) (root_of_pair g.root) task
  is_task =
      let t = by_name g.met in
      let top = root_of_pair g.root in
      let s = pairs_of (arc_value task.seen) in
      subst (λ (z : Command). IsBuildable z s task.scope t top task.fresh task.writes) (sym command)
      (subst (λ (z : Scope). IsBuildable named s z t top task.fresh task.writes) (sym scope)
      (subst (λ (l : List CellSeen). IsBuildable named s out.scope t top task.fresh l) (sym writes)
      (subst (λ (f : Fresh). IsBuildable named s out.scope t top f out.writes) (sym fresh)
      (subst (λ (z : Pairs). IsBuildable named z out.scope t top out.numbers.fresh out.writes) same_seen g.can))))

  pub can_be_built : CanBeBuilt task
  can_be_built = record {
    met = g.met;
    root = g.root;
    is_task = is_task;
    rises = subst Rises same_seen g.reach.sees.rises;
    paths = subst HasBytePaths (sym command) paths;
    lawful = subst (λ (z : Command). AreLawfulSeen z (pairs_of (arc_value task.seen))) (sym command)
        (subst (AreLawfulSeen named) same_seen g.lawful);
    suits = λ leaves. subst (SuitLeaves 16384) same
        (told_suits named g.reach.seen out.scope.in_extents None paths g.reach.sees.rises g.lawful
        (sym (g.can.leaves (ap (λ (z : Scope). z.in_leaves) (sym scope) ∙ leaves)).tails));
  }
