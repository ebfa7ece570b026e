-- What the calls name, and what a loop over names leaves.
use Rattle.std.proofs.Common.{◌≡◌, ℕ, ◌+◌, ◌<◌, ◌≤◌, suc, zero, Bool, true, false, cond, ◌||◌, List, [], ◌∷◌, length, get_or, take, drop, refl, sym, ap, ◌∙◌, ◌⊎◌, inl, inr, arith}
use Rattle.std.specs.Prelude.{Option, Some, None, nat_eq}
use Rattle.std.specs.List.{position, IsDistinct, AllByRecursion}
use Rattle.std.specs.Map.{keys_of, lookup}
use Rattle.std.specs.Option.{option_map, option_or}
use Rattle.std.proofs.lemmas.List.{get_or-set_other, length-set}
use Rattle.std.proofs.lemmas.List.Folds.{list_any_more}
use Rattle.std.proofs.lemmas.Bool.Decides.{nat_tests}
use Rattle.std.proofs.Math.ListN.{set}
use Rattle.r4_base.specs.declared.things.NodeId.{NodeId}
use Rattle.r4_base.specs.declared.things.TaskId.{TaskId}
use Rattle.r4_locks.specs.declared.things.Mode.{Mode}
use Rattle.r4_locks.specs.declared.things.Mode.TheVariants.{Reads, Writes}
use Rattle.r4_locks.specs.declared.things.Held.{Held}
use Rattle.r4_locks.specs.Modes.{conflicts, freed, joined, left_of}
use Rattle.r4_locks.specs.Kept.{held_in}
use Rattle.r4_locks.specs.Locks.{IsClear, LocksSeen, TaskSeen, conflict_of, first_conflict, is_named, mode_in, mode_with, others, smallest_holder}
use Rattle.r4_locks.proofs.Counts.{get_or_beyond, none_from_position, position_is, position_none}
use Rattle.r4_locks.proofs.HoldLaws.{eq_cases}

-- ---- the smallest holder

abbrev pub as_task : ℕ → TaskId
as_task k = record { 0 = k }

pub smallest_none : (t : LocksSeen) (mine : Option TaskId) (wanted : Mode) (node : ℕ) → position (λ task. conflicts wanted (mode_in task node)) (others mine t.tasks) ≡ None → smallest_holder t mine wanted node ≡ None
smallest_none t mine wanted node e = rw e refl

pub smallest_is : (t : LocksSeen) (mine : Option TaskId) (wanted : Mode) (node k : ℕ) → ((j : ℕ) → j < k → conflicts wanted (mode_in (get_or (others mine t.tasks) j None) node) ≡ false) → conflicts wanted (mode_in (get_or (others mine t.tasks) k None) node) ≡ true
    → smallest_holder t mine wanted node ≡ Some (record { 0 = k })
smallest_is t mine wanted node k before here =
    rw (position_is (λ task. conflicts wanted (mode_in task node)) None refl (others mine t.tasks) k before here) refl

length-others : (mine : Option TaskId) (xs : List (Option TaskSeen)) → length (others mine xs) ≡ length xs
length-others None xs = refl
length-others (Some who) xs = length-set xs who.0 None

lt_or_le : (a b : ℕ) → (a < b) ⊎ (b ≤ a)
lt_or_le a b = grind arith

pub smallest_none_up_to : (t : LocksSeen) (mine : Option TaskId) (wanted : Mode) (node end : ℕ) → length t.tasks ≤ end → ((j : ℕ) → j < end → conflicts wanted (mode_in (get_or (others mine t.tasks) j None) node) ≡ false) → smallest_holder t mine wanted node ≡ None
smallest_none_up_to t mine wanted node end covers before =
    smallest_none t mine wanted node (position_none (λ task. conflicts wanted (mode_in task node)) None (others mine t.tasks) (λ k. elim (lt_or_le k end) [
      | inl lt ↦ before k lt
      | inr le ↦ (let l = length-others mine t.tasks in
          let e : get_or (others mine t.tasks) k None ≡ None = get_or_beyond None (others mine t.tasks) k (omega arith) in
          rw e refl)
    ]))

-- ---- the names before a place have no conflict

pub first_beyond : (t : LocksSeen) (mine : Option TaskId) (wanted : Mode) (names : List NodeId) (i : ℕ) (d : NodeId) → i < length names → smallest_holder t mine wanted (get_or names i d).0 ≡ None
    → first_conflict t mine wanted (drop (suc i) names) ≡ first_conflict t mine wanted (drop i names)
first_beyond t mine wanted [] i d lt none = absurd (omega arith)
first_beyond t mine wanted (x ∷ xs) zero d lt none = rw none refl
first_beyond t mine wanted (x ∷ xs) (suc i) d lt none = first_beyond t mine wanted xs i d (omega arith) none

-- ---- names that are taken

joined_twice : (m : Option Mode) (wanted : Mode) → joined (Some (joined m wanted)) wanted ≡ joined m wanted
joined_twice None Reads = refl
joined_twice None Writes = refl
joined_twice (Some Reads) Reads = refl
joined_twice (Some Reads) Writes = refl
joined_twice (Some Writes) Reads = refl
joined_twice (Some Writes) Writes = refl

with_more : (wanted : Mode) (m : Option Mode) (a b : Bool) → cond (a || b) (Some (joined m wanted)) m ≡ cond b (Some (joined (cond a (Some (joined m wanted)) m) wanted)) (cond a (Some (joined m wanted)) m)
with_more wanted m true true = ap (λ (j : Mode). Some j) (sym (joined_twice m wanted))
with_more wanted m true false = refl
with_more wanted m false true = refl
with_more wanted m false false = refl

pub mode_with_more : (wanted : Mode) (names : List NodeId) (i n : ℕ) (d : NodeId) (m : Option Mode) → i < length names
    → mode_with wanted (take (i + 1) names) n m ≡ cond (nat_eq (get_or names i d).0 n) (Some (joined (mode_with wanted (take i names) n m) wanted)) (mode_with wanted (take i names) n m)
mode_with_more wanted names i n d m lt =
    let e = list_any_more (λ (name : NodeId). nat_eq name.0 n) names i d lt in
    rw e (with_more wanted m (is_named (take i names) n) (nat_eq (get_or names i d).0 n))

-- ---- holds that go one by one

absent : (rest : List (ℕ × Mode)) (node : ℕ) → AllByRecursion (λ key. nat_eq node key ≡ false) (keys_of rest) → lookup (nat_eq node) rest ≡ None
absent [] node apart = refl
absent (e ∷ rest) node apart = rw apart.0 (absent rest node apart.1)

pub freed_more : (rest : List (ℕ × Mode)) (node : ℕ) (mode : Mode) (holders holders' : List (ℕ × Held)) (goal : ℕ → Held) → IsDistinct nat_eq (node ∷ keys_of rest)
    → ((n : ℕ) → freed (lookup (nat_eq n) ((node, mode) ∷ rest)) (held_in holders n) ≡ goal n) → ((n : ℕ) → held_in holders' n ≡ cond (nat_eq node n) (left_of mode (held_in holders n)) (held_in holders n))
    → (n : ℕ) → freed (lookup (nat_eq n) rest) (held_in holders' n) ≡ goal n
unfolding IsDistinct
freed_more rest node mode holders holders' goal apart before held n = elim (eq_cases n node) [
  | inl e ↦ (let q : nat_eq node node ≡ true = grind arith in
      let h : held_in holders' node ≡ left_of mode (held_in holders node) = held node ∙ rw q refl in
      let b : left_of mode (held_in holders node) ≡ goal node = rw q at (before node) in
      rw (e, absent rest node apart.0, h) b)
  | inr ne ↦ (let q : nat_eq node n ≡ false = grind arith in
      let r : nat_eq n node ≡ false = grind arith in
      let h : held_in holders' n ≡ held_in holders n = held n ∙ rw q refl in
      let b : freed (lookup (nat_eq n) rest) (held_in holders n) ≡ goal n = rw r at (before n) in
      rw h b)
]

pub distinct_rest : (key : ℕ) (keys : List ℕ) → IsDistinct nat_eq (key ∷ keys) → IsDistinct nat_eq keys
unfolding IsDistinct
distinct_rest key keys apart = apart.1

-- ---- no conflict

pub no_place : (o : Option ℕ) → option_map as_task o ≡ None → o ≡ None
no_place None e = refl
no_place (Some k) e = cc

pub no_pair : (x : NodeId) (o : Option TaskId) (rest : Option (NodeId × TaskId)) → option_or (option_map (λ holder. (x, holder)) o) rest ≡ None → (o ≡ None) × (rest ≡ None)
no_pair x None rest e = (refl, e)
no_pair x (Some holder) rest e = cc

pub neither : (a b : Option (NodeId × TaskId)) → option_or a b ≡ None → (a ≡ None) × (b ≡ None)
neither None b e = (refl, e)
neither (Some x) b e = cc

pub clear_at : (t : LocksSeen) (who : TaskId) (wanted : Mode) (node : ℕ) → smallest_holder t (Some who) wanted node ≡ None → IsClear t who.0 wanted node
clear_at t who wanted node none k ne =
    let place : position (λ task. conflicts wanted (mode_in task node)) (set t.tasks who.0 None) ≡ None = no_place _ none in
    let here = none_from_position (λ task. conflicts wanted (mode_in task node)) None refl (set t.tasks who.0 None) place k in
    rw (get_or-set_other t.tasks who.0 k None None ne) at here

test_cases : (b : Bool) → (b ≡ true) ⊎ (b ≡ false)
test_cases true = inl refl
test_cases false = inr refl

pub clear_from_none : (t : LocksSeen) (who : TaskId) (wanted : Mode) (names : List NodeId) (n : ℕ) → first_conflict t (Some who) wanted names ≡ None → is_named names n ≡ true → IsClear t who.0 wanted n
clear_from_none t who wanted [] n none named = cc
clear_from_none t who wanted (x ∷ xs) n none named =
    let both = no_pair x (smallest_holder t (Some who) wanted x.0) (first_conflict t (Some who) wanted xs) none in
    elim (test_cases (nat_eq x.0 n)) [
      | inl on ↦ (let e : x.0 ≡ n = grind (arith, nat_tests) in rw (← e) (clear_at t who wanted x.0 both.0))
      | inr off ↦ clear_from_none t who wanted xs n both.1 (rw off at named)
    ]

-- a conflict of all names is none of either list
pub clear_writes : (t : LocksSeen) (who : TaskId) (reads writes : List NodeId) (n : ℕ) → conflict_of t (Some who) reads writes ≡ None → is_named writes n ≡ true → IsClear t who.0 Writes n
clear_writes t who reads writes n none named = clear_from_none t who Writes writes n (neither (first_conflict t (Some who) Writes writes) (first_conflict t (Some who) Reads reads) none).0 named

pub clear_reads : (t : LocksSeen) (who : TaskId) (reads writes : List NodeId) (n : ℕ) → conflict_of t (Some who) reads writes ≡ None → is_named reads n ≡ true → IsClear t who.0 Reads n
clear_reads t who reads writes n none named = clear_from_none t who Reads reads n (neither (first_conflict t (Some who) Writes writes) (first_conflict t (Some who) Reads reads) none).1 named
