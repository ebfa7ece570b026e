-- What a conflict is, in words that name no search.
use Rattle.std.proofs.Common.{◌≡◌, ◌≢◌, ℕ, ◌<◌, ◌≤◌, suc, zero, true, false, List, All, [], ◌∷◌, get_or, refl, sym, ap, ◌∙◌, ◌⊎◌, inl, inr, arith}
use Rattle.std.specs.Prelude.{Option, Some, None}
use Rattle.std.specs.List.{position}
use Rattle.std.specs.Option.{option_map, option_or}
use Rattle.std.proofs.lemmas.List.{get_or-set_other, length-set}
use Rattle.std.proofs.lemmas.List.Folds.{position_or_len-set}
use Rattle.std.proofs.lemmas.List.Quantifiers.{position-Some}
use Rattle.std.proofs.Math.ListN.{set}
use Rattle.r4_base.specs.declared.things.NodeId.{NodeId}
use Rattle.r4_base.specs.declared.things.TaskId.{TaskId}
use Rattle.r4_locks.specs.declared.things.Mode.{Mode}
use Rattle.r4_locks.specs.declared.things.Mode.TheVariants.{Reads, Writes}
use Rattle.r4_locks.specs.Modes.{conflicts}
use Rattle.r4_locks.specs.Locks.{IsFirstConflict, IsFree, IsSmallestHolder, LocksSeen, TaskSeen, conflict_of, first_conflict, mode_in, mode_of, others, smallest_holder}
use Rattle.r4_locks.proofs.Counts.{none_from_position}
use Rattle.r4_locks.proofs.CallLaws.{as_task, no_pair, no_place}

abbrev number_of : Option TaskId → ℕ
number_of None = 0
number_of (Some k) = k.0

abbrev node_or : NodeId → Option (NodeId × TaskId) → NodeId
node_or x None = x
node_or x (Some found) = found.0

abbrev task_or : TaskId → Option (NodeId × TaskId) → TaskId
task_or k None = k
task_or k (Some found) = found.1

le_or_lt : (a b : ℕ) → (a ≤ b) ⊎ (b < a)
le_or_lt a b = grind arith

-- ---- the tasks but for one

pub at_other : (mine : Option TaskId) (xs : List (Option TaskSeen)) (k : TaskId) → mine ≢ Some k → get_or (others mine xs) k.0 None ≡ get_or xs k.0 None
at_other None xs k ne = refl
at_other (Some who) xs k ne = get_or-set_other xs who.0 k.0 None None (λ e. ne (ap (λ (n : ℕ). Some (as_task n)) (sym e)))

set_none : (xs : List (Option TaskSeen)) (i : ℕ) → get_or (set xs i None) i None ≡ None
set_none [] i = refl
set_none (x ∷ xs) zero = refl
set_none (x ∷ xs) (suc i) = set_none xs i

at_mine : (mine : Option TaskId) (xs : List (Option TaskSeen)) (k : TaskId) → mine ≡ Some k → get_or (others mine xs) k.0 None ≡ None
at_mine None xs k e = cc
at_mine (Some who) xs k e =
    let f : who.0 ≡ k.0 = ap (λ (o : Option TaskId). number_of o) e in
    rw (← f) (set_none xs who.0)

-- ---- the smallest holder

found_place : (o : Option ℕ) (holder : TaskId) → option_map as_task o ≡ Some holder → o ≡ Some holder.0
found_place None holder e = cc
found_place (Some k) holder e = ap (λ (o : Option TaskId). option_map (λ (t : TaskId). t.0) o) e

pub smallest_found : (t : LocksSeen) (mine : Option TaskId) (wanted : Mode) (node : ℕ) (holder : TaskId) → smallest_holder t mine wanted node ≡ Some holder → IsSmallestHolder t mine wanted node holder
smallest_found t mine wanted node holder found =
    let place : position (λ task. conflicts wanted (mode_in task node)) (others mine t.tasks) ≡ Some holder.0 = found_place _ holder found in
    let is = position-Some (λ task. conflicts wanted (mode_in task node)) (others mine t.tasks) holder.0 None place in
    let another : mine ≢ Some holder = λ e. (let off : conflicts wanted (mode_in None node) ≡ true = rw (at_mine mine t.tasks holder e) at is.1 in cc) in
    record {
      holds = record {
        another = another;
        holds = rw (at_other mine t.tasks holder another) at is.1;
      };
      smallest = λ other is_other. elim (le_or_lt holder.0 other.0) [
        | inl le ↦ le
        | inr lt ↦ (let here : conflicts wanted (mode_of t other.0 node) ≡ false = rw (at_other mine t.tasks other is_other.another) at (is.2 other.0 lt) in
            let there = is_other.holds in
            absurd (let e : true ≡ false = sym there ∙ here in cc))
      ];
    }

pub free_from_none : (t : LocksSeen) (mine : Option TaskId) (wanted : Mode) (node : ℕ) → smallest_holder t mine wanted node ≡ None → IsFree t mine wanted node
free_from_none t mine wanted node none holder is =
    let place : position (λ task. conflicts wanted (mode_in task node)) (others mine t.tasks) ≡ None = no_place _ none in
    let here : conflicts wanted (mode_in (get_or (others mine t.tasks) holder.0 None) node) ≡ false = none_from_position (λ task. conflicts wanted (mode_in task node)) None refl (others mine t.tasks) place holder.0 in
    let there : conflicts wanted (mode_of t holder.0 node) ≡ false = rw (at_other mine t.tasks holder is.another) at here in
    let e : true ≡ false = sym is.holds ∙ there in
    cc

-- ---- names

all_cons : {X : Type 0} (P : X → Type 0) (x : X) (xs : List X) → P x → All P xs → All P (x ∷ xs)
all_cons P x xs p all zero d lt = p
all_cons P x xs p all (suc k) d lt = all k d (omega arith)

pub all_free : (t : LocksSeen) (mine : Option TaskId) (wanted : Mode) (names : List NodeId) → first_conflict t mine wanted names ≡ None → All (λ name. IsFree t mine wanted name.0) names
all_free t mine wanted [] none = λ k d lt. absurd (omega arith)
all_free t mine wanted (x ∷ xs) none =
    let both = no_pair x (smallest_holder t mine wanted x.0) (first_conflict t mine wanted xs) none in
    all_cons (λ name. IsFree t mine wanted name.0) x xs (free_from_none t mine wanted x.0 both.0) (all_free t mine wanted xs both.1)

first_at : (t : LocksSeen) (mine : Option TaskId) (wanted : Mode) (x : NodeId) (xs : List NodeId) (node : NodeId) (holder : TaskId) (o : Option TaskId) → smallest_holder t mine wanted x.0 ≡ o
    → option_or (option_map (λ found. (x, found)) o) (first_conflict t mine wanted xs) ≡ Some (node, holder) → (first_conflict t mine wanted xs ≡ Some (node, holder) → IsFirstConflict t mine wanted xs node holder) → IsFirstConflict t mine wanted (x ∷ xs) node holder
first_at t mine wanted x xs node holder None none found later =
    let rest = later found in
    record {
      before = x ∷ rest.before;
      after = rest.after;
      place = ap (λ (names : List NodeId). x ∷ names) rest.place;
      free = all_cons (λ name. IsFree t mine wanted name.0) x rest.before (free_from_none t mine wanted x.0 none) rest.free;
      holds = rest.holds;
    }
first_at t mine wanted x xs node holder (Some k) here found later =
    let same_node : x ≡ node = ap (λ (o : Option (NodeId × TaskId)). node_or x o) found in
    let same_task : k ≡ holder = ap (λ (o : Option (NodeId × TaskId)). task_or k o) found in
    record {
      before = [];
      after = xs;
      place = ap (λ (name : NodeId). name ∷ xs) same_node;
      free = λ i d lt. absurd (omega arith);
      holds = rw (← same_node) (smallest_found t mine wanted x.0 holder (here ∙ ap (λ (o : TaskId). Some o) same_task));
    }

pub first_is : (t : LocksSeen) (mine : Option TaskId) (wanted : Mode) (names : List NodeId) (node : NodeId) (holder : TaskId) → first_conflict t mine wanted names ≡ Some (node, holder) → IsFirstConflict t mine wanted names node holder
first_is t mine wanted [] node holder found = cc
first_is t mine wanted (x ∷ xs) node holder found = first_at t mine wanted x xs node holder (smallest_holder t mine wanted x.0) refl found (first_is t mine wanted xs node holder)

-- ---- a task that holds nothing

same_smallest : (t : LocksSeen) (who : TaskId) (wanted : Mode) (node : ℕ) → mode_of t who.0 node ≡ None → smallest_holder t (Some who) wanted node ≡ smallest_holder t None wanted node
same_smallest t who wanted node none =
    let e : false ≡ conflicts wanted (mode_in (get_or t.tasks who.0 None) node) = sym (ap (conflicts wanted) none) in
    let p = position_or_len-set (λ task. conflicts wanted (mode_in task node)) t.tasks who.0 None None e in
    rw (p, length-set t.tasks who.0 None) refl

same_first : (t : LocksSeen) (who : TaskId) (wanted : Mode) (names : List NodeId) → ((node : ℕ) → mode_of t who.0 node ≡ None) → first_conflict t (Some who) wanted names ≡ first_conflict t None wanted names
same_first t who wanted [] none = refl
same_first t who wanted (x ∷ xs) none =
    let e = same_smallest t who wanted x.0 (none x.0) in
    let r = same_first t who wanted xs none in
    rw (e, r) refl

pub same_conflict : (t : LocksSeen) (who : TaskId) (reads writes : List NodeId) → ((node : ℕ) → mode_of t who.0 node ≡ None) → conflict_of t (Some who) reads writes ≡ conflict_of t None reads writes
same_conflict t who reads writes none = rw (same_first t who Writes writes none, same_first t who Reads reads none) refl
