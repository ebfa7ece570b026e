-- Who holds a node, as tasks come, take, let go and are gone.
use Rattle.std.proofs.Common.{◌≡◌, ◌≢◌, ℕ, suc, zero, ◌+◌, ◌-◌, ◌<◌, ◌≤◌, Bool, true, false, cond, List, [], ◌∷◌, length, get_or, refl, sym, ap, ◌∙◌, ◌⊎◌, inl, inr, arith}
use Rattle.std.specs.Prelude.{count_by, Option, Some, None, IsSome, nat_eq, nat_lt}
use Rattle.std.specs.List.{position}
use Rattle.std.proofs.Math.ListN.{set}
use Rattle.std.proofs.lemmas.List.{get_or-set_same, get_or-set_other}
use Rattle.r4_base.specs.declared.things.TaskId.{TaskId}
use Rattle.r4_locks.specs.declared.things.Mode.{Mode}
use Rattle.r4_locks.specs.declared.things.Mode.TheVariants.{Reads, Writes}
use Rattle.r4_locks.specs.declared.things.Held.{Held}
use Rattle.r4_locks.specs.declared.things.Held.TheVariants.{Free, Read, Write}
use Rattle.r4_locks.specs.Modes.{conflicts, freed, held_with, is_reading, is_writing, joined, IsCountable}
use Rattle.r4_locks.specs.Locks.{TaskSeen, IsHeldBy, mode_in, others, readers, writers}
use Rattle.r4_locks.specs.Kept.{IsKept, held_in}
use Rattle.r4_locks.proofs.Counts.{bit, count-set, count_none, count_same, count_below, count_at, count_less, position_none, within}

abbrev pub reads_it : ℕ → Option TaskSeen → Bool
reads_it node task = is_reading (mode_in task node)

abbrev pub writes_it : ℕ → Option TaskSeen → Bool
writes_it node task = is_writing (mode_in task node)

-- ---- only modes count

pub held_like : (xs ys : List (Option TaskSeen)) (node : ℕ) (h : Held) → ((k : ℕ) → mode_in (get_or ys k None) node ≡ mode_in (get_or xs k None) node) → IsHeldBy xs node h → IsHeldBy ys node h
held_like xs ys node Free same is =
    let r : readers ys node ≡ readers xs node = count_same (reads_it node) None refl xs ys (λ k. ap is_reading (same k)) in
    let w : writers ys node ≡ writers xs node = count_same (writes_it node) None refl xs ys (λ k. ap is_writing (same k)) in
    (r ∙ is.0, w ∙ is.1)
held_like xs ys node (Read many) same is =
    let r : readers ys node ≡ readers xs node = count_same (reads_it node) None refl xs ys (λ k. ap is_reading (same k)) in
    let w : writers ys node ≡ writers xs node = count_same (writes_it node) None refl xs ys (λ k. ap is_writing (same k)) in
    (r ∙ is.0, is.1, w ∙ is.2)
held_like xs ys node (Write by) same is =
    let r : readers ys node ≡ readers xs node = count_same (reads_it node) None refl xs ys (λ k. ap is_reading (same k)) in
    let w : writers ys node ≡ writers xs node = count_same (writes_it node) None refl xs ys (λ k. ap is_writing (same k)) in
    (r ∙ is.0, w ∙ is.1, same by.0 ∙ is.2)

-- ---- one task changes

pub readers-set : (xs : List (Option TaskSeen)) (i : ℕ) (y : Option TaskSeen) (node : ℕ) → i < length xs
    → readers (set xs i y) node + bit (is_reading (mode_in (get_or xs i None) node)) ≡ readers xs node + bit (is_reading (mode_in y node))
readers-set xs i y node lt = count-set (reads_it node) None xs i y lt

pub writers-set : (xs : List (Option TaskSeen)) (i : ℕ) (y : Option TaskSeen) (node : ℕ) → i < length xs
    → writers (set xs i y) node + bit (is_writing (mode_in (get_or xs i None) node)) ≡ writers xs node + bit (is_writing (mode_in y node))
writers-set xs i y node lt = count-set (writes_it node) None xs i y lt

pub eq_cases : (i j : ℕ) → (i ≡ j) ⊎ (i ≢ j)
eq_cases i j = grind arith

pub mode-set_as : (xs : List (Option TaskSeen)) (i : ℕ) (y : Option TaskSeen) (node : ℕ) → i < length xs → mode_in y node ≡ mode_in (get_or xs i None) node
    → (k : ℕ) → mode_in (get_or (set xs i y) k None) node ≡ mode_in (get_or xs k None) node
mode-set_as xs i y node lt same k = elim (eq_cases k i) [
  | inl e ↦ rw (e, get_or-set_same xs i y None lt) same
  | inr ne ↦ rw (get_or-set_other xs i k y None ne) refl
]

pub held_unchanged : (xs : List (Option TaskSeen)) (i : ℕ) (y : Option TaskSeen) (node : ℕ) (h : Held) → i < length xs → mode_in y node ≡ mode_in (get_or xs i None) node → IsHeldBy xs node h → IsHeldBy (set xs i y) node h
held_unchanged xs i y node h lt same is = held_like xs (set xs i y) node h (mode-set_as xs i y node lt same) is

-- ---- a task takes hold

-- nobody else reads or writes
pub alone : (p : Option TaskSeen → Bool) → p None ≡ false → (xs : List (Option TaskSeen)) (i : ℕ) → i < length xs → ((k : ℕ) → k ≢ i → p (get_or xs k None) ≡ false) → count_by p (set xs i None) ≡ 0
alone p off xs i lt none = count_none p None (set xs i None) (λ k. elim (eq_cases k i) [
  | inl e ↦ rw (e, get_or-set_same xs i None None lt) off
  | inr ne ↦ rw (get_or-set_other xs i k None None ne) (none k ne)
])

not_reading : (m : Option Mode) → conflicts Writes m ≡ false → is_reading m ≡ false
not_reading None e = refl
not_reading (Some Reads) e = cc
not_reading (Some Writes) e = cc

not_writing : (wanted : Mode) (m : Option Mode) → conflicts wanted m ≡ false → is_writing m ≡ false
not_writing wanted None e = refl
not_writing wanted (Some Reads) e = refl
not_writing Reads (Some Writes) e = cc
not_writing Writes (Some Writes) e = cc

pub held_writing : (xs : List (Option TaskSeen)) (who : TaskId) (y : Option TaskSeen) (node : ℕ) → who.0 < length xs → ((k : ℕ) → k ≢ who.0 → conflicts Writes (mode_in (get_or xs k None) node) ≡ false)
    → mode_in y node ≡ Some Writes → IsHeldBy (set xs who.0 y) node (Write who)
held_writing xs who y node lt clear writes =
    let r0 : readers (set xs who.0 None) node ≡ 0 = alone (reads_it node) refl xs who.0 lt (λ k ne. not_reading _ (clear k ne)) in
    let w0 : writers (set xs who.0 None) node ≡ 0 = alone (writes_it node) refl xs who.0 lt (λ k ne. not_writing Writes _ (clear k ne)) in
    let r1 = readers-set xs who.0 None node lt in
    let w1 = writers-set xs who.0 None node lt in
    let r2 = readers-set xs who.0 y node lt in
    let w2 = writers-set xs who.0 y node lt in
    let r3 : bit (is_reading (mode_in y node)) ≡ 0 = rw writes refl in
    let w3 : bit (is_writing (mode_in y node)) ≡ 1 = rw writes refl in
    (omega arith, omega arith, rw (get_or-set_same xs who.0 y None lt) writes)

-- one reader more
held_reading : (xs : List (Option TaskSeen)) (i : ℕ) (y : Option TaskSeen) (who : TaskId) (node : ℕ) (h : Held) → i < length xs → ((k : ℕ) → k ≢ i → conflicts Reads (mode_in (get_or xs k None) node) ≡ false)
    → mode_in (get_or xs i None) node ≡ None → mode_in y node ≡ Some Reads → IsHeldBy xs node h → IsHeldBy (set xs i y) node (held_with who None Reads h)
held_reading xs i y who node Free lt clear none reads is =
    let r = readers-set xs i y node lt in
    let w = writers-set xs i y node lt in
    let r0 : bit (is_reading (mode_in (get_or xs i None) node)) ≡ 0 = rw none refl in
    let w0 : bit (is_writing (mode_in (get_or xs i None) node)) ≡ 0 = rw none refl in
    let r1 : bit (is_reading (mode_in y node)) ≡ 1 = rw reads refl in
    let w1 : bit (is_writing (mode_in y node)) ≡ 0 = rw reads refl in
    let f = is.0 in
    let g = is.1 in
    (omega arith, omega arith, omega arith)
held_reading xs i y who node (Read many) lt clear none reads is =
    let r = readers-set xs i y node lt in
    let w = writers-set xs i y node lt in
    let r0 : bit (is_reading (mode_in (get_or xs i None) node)) ≡ 0 = rw none refl in
    let w0 : bit (is_writing (mode_in (get_or xs i None) node)) ≡ 0 = rw none refl in
    let r1 : bit (is_reading (mode_in y node)) ≡ 1 = rw reads refl in
    let w1 : bit (is_writing (mode_in y node)) ≡ 0 = rw reads refl in
    let f = is.0 in
    let g = is.2 in
    (omega arith, omega arith, omega arith)
held_reading xs i y who node (Write by) lt clear none reads is = elim (eq_cases by.0 i) [
  | inl e ↦ (let m : mode_in (get_or xs i None) node ≡ Some Writes = rw (← e) is.2 in
      let n : Some Writes ≡ None = sym m ∙ none in cc)
  | inr ne ↦ (let m : conflicts Reads (Some Writes) ≡ false = ap (conflicts Reads) (sym is.2) ∙ clear by.0 ne in cc)
]

pub held_taken : (xs : List (Option TaskSeen)) (who : TaskId) (y : Option TaskSeen) (node : ℕ) (wanted : Mode) (m : Option Mode) (h : Held) → who.0 < length xs
    → ((k : ℕ) → k ≢ who.0 → conflicts wanted (mode_in (get_or xs k None) node) ≡ false)
    → mode_in (get_or xs who.0 None) node ≡ m → mode_in y node ≡ Some (joined m wanted) → IsHeldBy xs node h → IsHeldBy (set xs who.0 y) node (held_with who m wanted h)
held_taken xs who y node Writes None h lt clear old new is = held_writing xs who y node lt clear new
held_taken xs who y node Writes (Some Reads) h lt clear old new is = held_writing xs who y node lt clear new
held_taken xs who y node Writes (Some Writes) h lt clear old new is = held_writing xs who y node lt clear new
held_taken xs who y node Reads None h lt clear old new is = held_reading xs who.0 y who node h lt clear old new is
held_taken xs who y node Reads (Some Reads) h lt clear old new is = held_unchanged xs who.0 y node h lt (new ∙ sym old) is
held_taken xs who y node Reads (Some Writes) h lt clear old new is = held_unchanged xs who.0 y node h lt (new ∙ sym old) is

not_standing : (t : Option TaskSeen) (k node : ℕ) → (IsSome t → k < 4294967295) → 4294967295 ≤ k → is_reading (mode_in t node) ≡ false
not_standing None k node fits le = refl
not_standing (Some t) k node fits le = absurd (let lt : k < 4294967295 = fits refl in omega arith)

-- one reader more can be counted
pub countable : (xs : List (Option TaskSeen)) (who node : ℕ) (h : Held) (m : Option Mode) → who < length xs → who < 4294967295 → ((k : ℕ) → IsSome (get_or xs k None) → k < 4294967295)
    → mode_in (get_or xs who None) node ≡ m → IsHeldBy xs node h → IsCountable h m
countable xs who node Free m lt fits small old is = tt
countable xs who node (Write by) m lt fits small old is = tt
countable xs who node (Read many) (Some m) lt fits small old is = tt
countable xs who node (Read many) None lt fits small old is =
    let y : Option TaskSeen = Some (record { holds = (node, Reads) ∷ []; room = 0 }) in
    let e : nat_eq node node ≡ true = grind arith in
    let reads : mode_in y node ≡ Some Reads = rw e refl in
    let r = readers-set xs who y node lt in
    let r0 : bit (is_reading (mode_in (get_or xs who None) node)) ≡ 0 = rw old refl in
    let r1 : bit (is_reading (mode_in y node)) ≡ 1 = rw reads refl in
    let most : readers (set xs who y) node ≤ 4294967295 = count_below (reads_it node) None (set xs who y) 4294967295 (λ k le.
    let ne : k ≢ who = λ q. absurd (omega arith) in
    rw (get_or-set_other xs who k y None ne) (not_standing (get_or xs k None) k node (small k) le)) in
    let f = is.0 in
    omega arith

-- ---- the table is kept

pub stays_small : (xs : List (Option TaskSeen)) (i : ℕ) (y : Option TaskSeen) → i < length xs → (IsSome y → i < 4294967295) → ((k : ℕ) → IsSome (get_or xs k None) → k < 4294967295) → (k : ℕ) → IsSome (get_or (set xs i y) k None) → k < 4294967295
stays_small xs i y lt fits small k = elim (eq_cases k i) [
  | inl e ↦ (let F : Option TaskSeen → Type 0 = λ t. IsSome t → k < 4294967295 in
      let h : IsSome y → k < 4294967295 = λ s. (let l : i < 4294967295 = fits s in omega arith) in
      rw (e, get_or-set_same xs i y None lt) (rw e at h))
  | inr ne ↦ rw (get_or-set_other xs i k y None ne) (small k)
]

pub lt_from_some : (xs : List (Option TaskSeen)) (i : ℕ) → IsSome (get_or xs i None) → i < length xs
lt_from_some [] i s = cc
lt_from_some (x ∷ xs) zero s = omega arith
lt_from_some (x ∷ xs) (suc i) s = let r : i < length xs = lt_from_some xs i s in omega arith

pub kept_hold : (xs : List (Option TaskSeen)) (holders holders' : List (ℕ × Held)) (who : TaskId) (y : Option TaskSeen) (node : ℕ) (wanted : Mode) → IsKept xs holders → IsSome (get_or xs who.0 None)
    → ((k : ℕ) → k ≢ who.0 → conflicts wanted (mode_in (get_or xs k None) node) ≡ false)
    → ((n : ℕ) → mode_in y n ≡ cond (nat_eq node n) (Some (joined (mode_in (get_or xs who.0 None) node) wanted)) (mode_in (get_or xs who.0 None) n))
    → ((n : ℕ) → held_in holders' n ≡ cond (nat_eq node n) (held_with who (mode_in (get_or xs who.0 None) node) wanted (held_in holders node)) (held_in holders n))
    → IsKept (set xs who.0 y) holders'
kept_hold xs holders holders' who y node wanted is stands clear modes held =
    let lt : who.0 < length xs = lt_from_some xs who.0 stands in
    record {
      told = λ n. elim (eq_cases n node) [
        | inl e ↦ (let q : nat_eq node node ≡ true = grind arith in
            let m : mode_in y node ≡ Some (joined (mode_in (get_or xs who.0 None) node) wanted) = modes node ∙ rw q refl in
            let h : held_in holders' node ≡ held_with who (mode_in (get_or xs who.0 None) node) wanted (held_in holders node) = held node ∙ rw q refl in
            rw (e, h) (held_taken xs who y node wanted (mode_in (get_or xs who.0 None) node) (held_in holders node) lt clear refl m (is.told node)))
        | inr ne ↦ (let q : nat_eq node n ≡ false = grind arith in
            let m : mode_in y n ≡ mode_in (get_or xs who.0 None) n = modes n ∙ rw q refl in
            let h : held_in holders' n ≡ held_in holders n = held n ∙ rw q refl in
            rw h (held_unchanged xs who.0 y n (held_in holders n) lt m (is.told n)))
      ];
      small = stays_small xs who.0 y lt (λ _. is.small who.0 stands) is.small;
    }

-- ---- a task is gone

held_gone : (xs : List (Option TaskSeen)) (i node : ℕ) (h : Held) (m : Option Mode) → i < length xs → mode_in (get_or xs i None) node ≡ m → IsHeldBy xs node h → IsHeldBy (set xs i None) node (freed m h)
held_gone xs i node h None lt old is = held_unchanged xs i None node h lt (sym old) is
held_gone xs i node Free (Some Writes) lt old is =
    let w = writers-set xs i None node lt in
    let w0 : bit (is_writing (mode_in (get_or xs i None) node)) ≡ 1 = rw old refl in
    let f = is.1 in
    absurd (omega arith)
held_gone xs i node (Read many) (Some Writes) lt old is =
    let w = writers-set xs i None node lt in
    let w0 : bit (is_writing (mode_in (get_or xs i None) node)) ≡ 1 = rw old refl in
    let f = is.2 in
    absurd (omega arith)
held_gone xs i node (Write by) (Some Writes) lt old is =
    let r = readers-set xs i None node lt in
    let w = writers-set xs i None node lt in
    let r0 : bit (is_reading (mode_in (get_or xs i None) node)) ≡ 0 = rw old refl in
    let w0 : bit (is_writing (mode_in (get_or xs i None) node)) ≡ 1 = rw old refl in
    let f = is.0 in
    let g = is.1 in
    (omega arith, omega arith)
held_gone xs i node Free (Some Reads) lt old is =
    let r = readers-set xs i None node lt in
    let r0 : bit (is_reading (mode_in (get_or xs i None) node)) ≡ 1 = rw old refl in
    let f = is.0 in
    absurd (omega arith)
held_gone xs i node (Read many) (Some Reads) lt old is =
    let r = readers-set xs i None node lt in
    let w = writers-set xs i None node lt in
    let r0 : bit (is_reading (mode_in (get_or xs i None) node)) ≡ 1 = rw old refl in
    let w0 : bit (is_writing (mode_in (get_or xs i None) node)) ≡ 0 = rw old refl in
    let f = is.0 in
    let g = is.2 in
    elim (eq_cases many 1) [
      | inl e ↦ (let q : nat_lt 1 many ≡ false = grind arith in
          let one : readers (set xs i None) node ≡ 0 = omega arith in
          let none : writers (set xs i None) node ≡ 0 = omega arith in
          rw q (one, none))
      | inr ne ↦ (let p = is.1 in
          let q : nat_lt 1 many ≡ true = grind arith in
          let one : readers (set xs i None) node ≡ many - 1 = omega arith in
          let more : 0 < many - 1 = omega arith in
          let none : writers (set xs i None) node ≡ 0 = omega arith in
          rw q (one, more, none))
    ]
held_gone xs i node (Write by) (Some Reads) lt old is =
    let r = readers-set xs i None node lt in
    let r0 : bit (is_reading (mode_in (get_or xs i None) node)) ≡ 1 = rw old refl in
    let f = is.0 in
    absurd (omega arith)

pub kept_gone : (xs : List (Option TaskSeen)) (holders holders' : List (ℕ × Held)) (who : ℕ) → IsKept xs holders → IsSome (get_or xs who None)
    → ((n : ℕ) → held_in holders' n ≡ freed (mode_in (get_or xs who None) n) (held_in holders n)) → IsKept (set xs who None) holders'
kept_gone xs holders holders' who is stands held =
    let lt : who < length xs = lt_from_some xs who stands in
    record {
      told = λ n. rw (held n) (held_gone xs who n (held_in holders n) (mode_in (get_or xs who None) n) lt refl (is.told n));
      small = stays_small xs who None lt (λ _. is.small who stands) is.small;
    }

-- ---- a task comes

pub holds_nothing : (t : TaskSeen) (node : ℕ) → t.holds ≡ [] → mode_in (Some t) node ≡ None
holds_nothing t node e = rw e refl

pub kept_new : (xs ys : List (Option TaskSeen)) (holders : List (ℕ × Held)) (key : ℕ) (t : TaskSeen) → IsKept xs holders → key < 4294967295
    → ((node : ℕ) → mode_in (Some t) node ≡ None) → get_or xs key None ≡ None → get_or ys key None ≡ Some t
    → ((k : ℕ) → k ≢ key → get_or ys k None ≡ get_or xs k None) → IsKept ys holders
kept_new xs ys holders key t is lt empty vacant new same = record {
  told = λ n. held_like xs ys n (held_in holders n) (λ k. elim (eq_cases k key) [
    | inl e ↦ rw (e, new, vacant) (empty n)
    | inr ne ↦ rw (same k ne) refl
  ]) (is.told n);
  small = λ k. elim (eq_cases k key) [
    | inl e ↦ (λ s. omega arith)
    | inr ne ↦ rw (same k ne) (is.small k)
  ];
}

-- ---- no two hold in conflicting modes

none_beside : (xs : List (Option TaskSeen)) (j k node : ℕ) (m : Option Mode) → j ≢ k → readers xs node ≡ 0 → writers xs node ≡ 1 → mode_in (get_or xs j None) node ≡ Some Writes → mode_in (get_or xs k None) node ≡ m → m ≡ None
none_beside xs j k node None ne r w writes other = refl
none_beside xs j k node (Some Reads) ne r w writes other =
    let a : 1 ≤ readers xs node = count_at (reads_it node) None refl xs k (ap is_reading other) in
    absurd (omega arith)
none_beside xs j k node (Some Writes) ne r w writes other =
    let lt : j < length xs = within (writes_it node) None refl xs j (ap is_writing writes) in
    let s = writers-set xs j None node lt in
    let w0 : bit (is_writing (mode_in (get_or xs j None) node)) ≡ 1 = rw writes refl in
    let apart : k ≢ j = λ q. ne (sym q) in
    let there : mode_in (get_or (set xs j None) k None) node ≡ Some Writes = rw (get_or-set_other xs j k None None apart) other in
    let a : 1 ≤ writers (set xs j None) node = count_at (writes_it node) None refl (set xs j None) k (ap is_writing there) in
    absurd (omega arith)

pub holds_apart : (xs : List (Option TaskSeen)) (j k node : ℕ) (h : Held) → IsHeldBy xs node h → j ≢ k → mode_in (get_or xs j None) node ≡ Some Writes → mode_in (get_or xs k None) node ≡ None
holds_apart xs j k node Free is ne writes =
    let a : 1 ≤ writers xs node = count_at (writes_it node) None refl xs j (ap is_writing writes) in
    let f = is.1 in
    absurd (omega arith)
holds_apart xs j k node (Read many) is ne writes =
    let a : 1 ≤ writers xs node = count_at (writes_it node) None refl xs j (ap is_writing writes) in
    let f = is.2 in
    absurd (omega arith)
holds_apart xs j k node (Write by) is ne writes = none_beside xs j k node (mode_in (get_or xs k None) node) ne is.0 is.1 writes refl

-- ---- nothing in the way

no_conflict : (xs : List (Option TaskSeen)) (node k : ℕ) (wanted : Mode) (m : Option Mode) → writers xs node ≡ 0 → (wanted ≡ Reads) ⊎ (readers xs node ≡ 0) → mode_in (get_or xs k None) node ≡ m → conflicts wanted m ≡ false
no_conflict xs node k wanted None w r at_k = refl
no_conflict xs node k Reads (Some Reads) w r at_k = refl
no_conflict xs node k Writes (Some Reads) w r at_k = elim r [
  | inl e ↦ cc
  | inr none ↦ (let a : 1 ≤ readers xs node = count_at (reads_it node) None refl xs k (ap is_reading at_k) in absurd (omega arith))
]
no_conflict xs node k wanted (Some Writes) w r at_k =
    let a : 1 ≤ writers xs node = count_at (writes_it node) None refl xs k (ap is_writing at_k) in
    absurd (omega arith)

pub none_found : (xs : List (Option TaskSeen)) (node : ℕ) (wanted : Mode) → writers xs node ≡ 0 → (wanted ≡ Reads) ⊎ (readers xs node ≡ 0) → position (λ task. conflicts wanted (mode_in task node)) xs ≡ None
none_found xs node wanted w r = position_none (λ task. conflicts wanted (mode_in task node)) None xs (λ k. no_conflict xs node k wanted (mode_in (get_or xs k None) node) w r refl)

others_read : (mine : Option TaskId) (xs : List (Option TaskSeen)) (node : ℕ) → readers (others mine xs) node ≤ readers xs node
others_read None xs node = omega arith
others_read (Some who) xs node = count_less (reads_it node) None refl xs who.0

others_write : (mine : Option TaskId) (xs : List (Option TaskSeen)) (node : ℕ) → writers (others mine xs) node ≤ writers xs node
others_write None xs node = omega arith
others_write (Some who) xs node = count_less (writes_it node) None refl xs who.0

pub clear_free : (mine : Option TaskId) (xs : List (Option TaskSeen)) (node : ℕ) (wanted : Mode) → IsHeldBy xs node Free → position (λ task. conflicts wanted (mode_in task node)) (others mine xs) ≡ None
clear_free mine xs node wanted is =
    let r = others_read mine xs node in
    let w = others_write mine xs node in
    let f = is.0 in
    let g = is.1 in
    none_found (others mine xs) node wanted (omega arith) (inr (omega arith))

pub clear_read : (mine : Option TaskId) (xs : List (Option TaskSeen)) (node many : ℕ) → IsHeldBy xs node (Read many) → position (λ task. conflicts Reads (mode_in task node)) (others mine xs) ≡ None
clear_read mine xs node many is =
    let w = others_write mine xs node in
    let g = is.2 in
    none_found (others mine xs) node Reads (omega arith) (inl refl)

pub clear_write : (by : TaskId) (xs : List (Option TaskSeen)) (node : ℕ) (wanted : Mode) → IsHeldBy xs node (Write by) → position (λ task. conflicts wanted (mode_in task node)) (others (Some by) xs) ≡ None
clear_write by xs node wanted is =
    let r = others_read (Some by) xs node in
    let lt : by.0 < length xs = within (writes_it node) None refl xs by.0 (ap is_writing is.2) in
    let w = writers-set xs by.0 None node lt in
    let w0 : bit (is_writing (mode_in (get_or xs by.0 None) node)) ≡ 1 = ap (λ m. bit (is_writing m)) is.2 in
    let f = is.0 in
    let g = is.1 in
    none_found (others (Some by) xs) node wanted (omega arith) (inr (omega arith))

reading_one : (xs : List (Option TaskSeen)) (who node : ℕ) (m : Option Mode) → mode_in (get_or xs who None) node ≡ m → IsSome m → writers xs node ≡ 0 → is_reading m ≡ true
reading_one xs who node None e s w = cc
reading_one xs who node (Some Reads) e s w = refl
reading_one xs who node (Some Writes) e s w =
    let a : 1 ≤ writers xs node = count_at (writes_it node) None refl xs who (ap is_writing e) in
    absurd (omega arith)

pub clear_own : (who : TaskId) (xs : List (Option TaskSeen)) (node : ℕ) (wanted : Mode) → IsSome (mode_in (get_or xs who.0 None) node) → IsHeldBy xs node (Read 1) → position (λ task. conflicts wanted (mode_in task node)) (others (Some who) xs) ≡ None
clear_own who xs node wanted own is =
    let w = others_write (Some who) xs node in
    let reads : is_reading (mode_in (get_or xs who.0 None) node) ≡ true = reading_one xs who.0 node (mode_in (get_or xs who.0 None) node) refl own is.2 in
    let lt : who.0 < length xs = within (reads_it node) None refl xs who.0 reads in
    let r = readers-set xs who.0 None node lt in
    let r0 : bit (is_reading (mode_in (get_or xs who.0 None) node)) ≡ 1 = ap bit reads in
    let f = is.0 in
    let g = is.2 in
    none_found (others (Some who) xs) node wanted (omega arith) (inr (omega arith))
