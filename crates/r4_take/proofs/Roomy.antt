-- A core with more room has all else as it was.
use Rattle.std.proofs.Common.{◌≡◌, ◌∙◌, ℕ, List, [], ◌∷◌, Option, None, ap, refl, sym, subst, arith}
use Rattle.r4_atoms.specs.Atoms.{owner_of}
use Rattle.r4_base.specs.declared.things.NodeId.{NodeId}
use Rattle.r4_seal.specs.r4_buffer.Seen.{buffered}
use Rattle.r4_seal.specs.r4_kept.View.{CoreSeen}
use Rattle.r4_locks.specs.Locks.{LocksSeen, SameTasks, TaskSeen, conflict_of, first_conflict, mode_in, smallest_holder}
use Rattle.r4_locks.specs.Modes.{conflicts}
use Rattle.r4_locks.specs.declared.things.Mode.{Mode}
use Rattle.r4_locks.specs.declared.things.Mode.TheVariants.{Reads, Writes}
use Rattle.r4_locks.proofs.CallLaws.{neither, no_pair, no_place, smallest_none}
use Rattle.r4_locks.proofs.Counts.{none_from_position, position_none}
use Rattle.r4_take.specs.Sending.{HasRoomier}

-- ---- holds

module _ (old new : LocksSeen) (same : SameTasks old new) where
  still_free : (wanted : Mode) (node : ℕ) → smallest_holder old None wanted node ≡ None
      → smallest_holder new None wanted node ≡ None
  still_free wanted node none =
      let stops = λ (task : Option TaskSeen). conflicts wanted (mode_in task node) in
      let was = none_from_position stops None refl old.tasks (no_place _ none) in
      smallest_none new None wanted node
      (position_none stops None new.tasks (λ k. ap stops (same k) ∙ was k))

  all_free : (wanted : Mode) (names : List NodeId) → first_conflict old None wanted names ≡ None
      → first_conflict new None wanted names ≡ None
  all_free wanted [] none = refl
  all_free wanted (x ∷ xs) none =
      let both = no_pair x (smallest_holder old None wanted x.0) (first_conflict old None wanted xs) none in
      let here = still_free wanted x.0 both.0 in
      let rest = all_free wanted xs both.1 in
      rw (here, rest) refl

  -- what was in no task's way is in none's
  pub none_still : (reads writes : List NodeId) → conflict_of old None reads writes ≡ None
      → conflict_of new None reads writes ≡ None
  none_still reads writes none =
      let both = neither (first_conflict old None Writes writes) (first_conflict old None Reads reads) none in
      let first = all_free Writes writes both.0 in
      let then = all_free Reads reads both.1 in
      rw (first, then) refl

-- ---- the parts

module _ {D : Type 0} (c m : CoreSeen D) (h : HasRoomier c m) where
  pub turns_same : m.turns ≡ c.turns
  turns_same = ap (λ (x : CoreSeen D). x.turns) h.more.same ∙ ap (λ (x : CoreSeen D). x.turns) h.holds.same

  pub tree_same : m.tree ≡ c.tree
  tree_same = ap (λ (x : CoreSeen D). x.tree) h.more.same ∙ ap (λ (x : CoreSeen D). x.tree) h.holds.same

  pub numbers_same : m.numbers ≡ c.numbers
  numbers_same = ap (λ (x : CoreSeen D). x.numbers) h.more.same ∙ ap (λ (x : CoreSeen D). x.numbers) h.holds.same

  pub volume_same : m.volume ≡ c.volume
  volume_same = ap (λ (x : CoreSeen D). x.volume) h.more.same ∙ ap (λ (x : CoreSeen D). x.volume) h.holds.same

  pub commit_same : m.commit ≡ c.commit
  commit_same = ap (λ (x : CoreSeen D). x.commit) h.more.same ∙ ap (λ (x : CoreSeen D). x.commit) h.holds.same

  pub broken_same : m.broken ≡ c.broken
  broken_same = ap (λ (x : CoreSeen D). x.broken) h.more.same ∙ ap (λ (x : CoreSeen D). x.broken) h.holds.same

  pub txns_same : m.atoms.txns ≡ c.atoms.txns
  txns_same = ap (λ (x : CoreSeen D). x.atoms.txns) h.more.same
      ∙ ap (λ (x : CoreSeen D). x.atoms.txns) h.holds.same

  pub states_same : m.atoms.atoms ≡ c.atoms.atoms
  states_same = ap (λ (x : CoreSeen D). x.atoms.atoms) h.more.same
      ∙ ap (λ (x : CoreSeen D). x.atoms.atoms) h.holds.same

  pub owners_same : (n : ℕ) → owner_of m.atoms n ≡ owner_of c.atoms n
  owners_same n = h.more.owners n ∙ ap (λ (x : CoreSeen D). owner_of x.atoms n) h.holds.same

  pub cells_same : (i : ℕ) → buffered m.buffer i ≡ buffered c.buffer i
  cells_same i = h.more.cells i ∙ ap (λ (x : CoreSeen D). buffered x.buffer i) h.holds.same

  pub clear_still : (reads writes : List NodeId) → conflict_of c.locks None reads writes ≡ None
      → conflict_of m.locks None reads writes ≡ None
  clear_still reads writes none =
      subst (λ (l : LocksSeen). conflict_of l None reads writes ≡ None)
      (sym (ap (λ (x : CoreSeen D). x.locks) h.more.same))
      (none_still c.locks h.mid.locks h.holds.holds reads writes none)

  pub dev_same : m.dev ≡ c.dev
  dev_same = ap (λ (x : CoreSeen D). x.dev) h.more.same ∙ ap (λ (x : CoreSeen D). x.dev) h.holds.same

-- what is as it was has as much room
pub roomier_same : {D : Type 0} (c : CoreSeen D) → HasRoomier c c
roomier_same c = record {
  mid = c;
  holds = record { holds = λ task. refl; same = refl };
  more = record {
    entries = omega arith;
    captures = omega arith;
    places = omega arith;
    claims = omega arith;
    owners = λ n. refl;
    cells = λ i. refl;
    same = refl;
  };
}
