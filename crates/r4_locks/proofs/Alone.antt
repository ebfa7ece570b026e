-- A new task takes hold of nodes that no other task holds in a mode that conflicts.
use Rattle.std.proofs.Common.{◌≡◌, inl, inr, ℕ, List, [], ◌∷◌, Option, Some, None, refl, sym, ◌∙◌, ap}
use Rattle.r4_base.specs.declared.things.NodeId.{NodeId}
use Rattle.r4_base.specs.declared.things.TaskId.{TaskId}
use Rattle.r4_locks.specs.Locks.{IsNew, LocksSeen, OthersAsBefore, TaskSeen, conflict_of, first_conflict, mode_in}
use Rattle.r4_locks.specs.Locks.{mode_of, smallest_holder, task_at}
use Rattle.r4_locks.specs.Modes.{conflicts}
use Rattle.r4_locks.specs.declared.things.Mode.{Mode}
use Rattle.r4_locks.specs.declared.things.Mode.TheVariants.{Reads, Writes}
use Rattle.r4_locks.proofs.CallLaws.{neither, no_pair, no_place, smallest_none}
use Rattle.r4_locks.proofs.ConflictLaws.{same_conflict}
use Rattle.r4_locks.proofs.Counts.{none_from_position, position_none}
use Rattle.r4_locks.proofs.HoldLaws.{eq_cases}

module _ (old new : LocksSeen) (who : TaskId) (unused : task_at old who.0 ≡ None) (is_new : IsNew new who.0)
    (others : OthersAsBefore old new who.0) where
  same_modes : (k node : ℕ) → mode_of new k node ≡ mode_of old k node
  same_modes k node = elim (eq_cases k who.0) [
    | inl same ↦
        ap (λ (n : ℕ). mode_of new n node) same ∙ is_new.empty node
        ∙ sym (ap (λ (n : ℕ). mode_of old n node) same ∙ ap (λ (o : Option TaskSeen). mode_in o node) unused)
    | inr differ ↦ ap (λ (o : Option TaskSeen). mode_in o node) (others k differ)
  ]

  still_free : (wanted : Mode) (node : ℕ) → smallest_holder old None wanted node ≡ None
      → smallest_holder new None wanted node ≡ None
  still_free wanted node none =
      let stops = λ (task : Option TaskSeen). conflicts wanted (mode_in task node) in
      let was = none_from_position stops None refl old.tasks (no_place _ none) in
      smallest_none new None wanted node
      (position_none stops None new.tasks (λ k. ap (conflicts wanted) (same_modes k node) ∙ was k))

  all_free : (wanted : Mode) (names : List NodeId) → first_conflict old None wanted names ≡ None
      → first_conflict new None wanted names ≡ None
  all_free wanted [] none = refl
  all_free wanted (x ∷ xs) none =
      let both = no_pair x (smallest_holder old None wanted x.0) (first_conflict old None wanted xs) none in
      let here = still_free wanted x.0 both.0 in
      let rest = all_free wanted xs both.1 in
      rw (here, rest) refl

  -- nothing is in the way of the new task
  pub none_in_the_way : (reads writes : List NodeId) → conflict_of old None reads writes ≡ None
      → conflict_of new (Some who) reads writes ≡ None
  none_in_the_way reads writes none =
      let both = neither (first_conflict old None Writes writes) (first_conflict old None Reads reads) none in
      let first = all_free Writes writes both.0 in
      let then = all_free Reads reads both.1 in
      same_conflict new who reads writes is_new.empty ∙ rw (first, then) refl
