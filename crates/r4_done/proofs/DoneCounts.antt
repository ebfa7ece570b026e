-- A task is done: the cells of its atom, counted. Those that go are counted no more, and those that come are.
use Rattle.std.proofs.Common.{◌≡◌, ◌≢◌, inl, inr, ⊎_elim, ℕ, ◌+◌, ◌^◌, ◌==◌, ◌&&◌, ◌||◌, not, Bool, true}
use Rattle.std.proofs.Common.{false, cond}
use Rattle.std.proofs.Common.{List, [], ◌∷◌, ◌++◌, length, Some, Contains, refl, sym, ◌∙◌, ap, subst}
use Rattle.std.proofs.Common.{arith}
use Rattle.std.proofs.Common.{true≢false}
use Rattle.std.specs.Prelude.{count_by, nat_eq, nat_le, sum_by}
use Rattle.std.specs.List.{AllByRecursion, IsDistinct}
use Rattle.std.proofs.lemmas.Bool.{and_parts, cases_Bool, cond-false, cond-true, eqb-true, false_from_ne_true}
use Rattle.std.proofs.lemmas.Bool.{eq-eqb, ne_eqb, or_left, or_right}
use Rattle.std.proofs.lemmas.List.Elements.{Contains-append_cases, Contains-append_left, Contains-append_right}
use Rattle.std.proofs.lemmas.List.Sums.{sum_by-append, sum_by-cons}
use Rattle.std.proofs.lemmas.List.{length-append}
use Rattle.std.proofs.lemmas.Map.Keys.{IsDistinct-cons, IsDistinct-head, IsDistinct-tail}
use Rattle.r4_atoms.specs.Atoms.{AtomsSeen, owner_of}
use Rattle.r4_base.proofs.Members.{member_cases, member_here, member_later, no_member}
use Rattle.r4_taking.specs.r4_buffer.Changed.{has_name}
use Rattle.r4_taking.specs.r4_buffer.Seen.{BufferSeen, buffered, is_dirty_by}
use Rattle.r4_taking.specs.r4_cell.Seen.{CellSeen}
use Rattle.r4_taking.proofs.r4_history.ServingSteps.{cons_cases, cons_here, cons_later}
use Rattle.r4_counted.specs.r4_patch.Joining.{ids_of}
use Rattle.r4_taking.specs.r4_kept.Accounts.{CountsCells}
use Rattle.r4_taking.proofs.FusedCounts.{all_from, distinct_both}
use Rattle.r4_done.specs.Doing.{is_less, is_more}
use Rattle.r4_done.proofs.DoneTables.{is_touched}
use Rattle.r4_done.proofs.Named.{has_one, id_there, one_named}

-- ---- one number less

abbrev less : ℕ → List ℕ → List ℕ
less i [] = []
less i (x ∷ xs) = cond (x == i) xs (x ∷ less i xs)

less_sum : (f : ℕ → ℕ) (i : ℕ) (xs : List ℕ) → Contains xs i → sum_by f (less i xs) + f i ≡ sum_by f xs
less_sum f i [] h = absurd (no_member i h)
less_sum f i (x ∷ xs) h =
    let all = sum_by-cons f x xs in
    elim (cases_Bool (x == i)) [
      | inl is ↦ let same = ap f (eqb-true x i is) in rw is (omega (arith, all, same))
      | inr other ↦
          let rest = less_sum f i xs (⊎_elim (λ e. absurd (true≢false (sym (eq-eqb x i (sym e)) ∙ other))) (λ c. c)
          (member_cases x xs i h)) in
          let one = sum_by-cons f x (less i xs) in
          rw other (omega (arith, all, rest, one))
    ]

less_was : (i j : ℕ) (xs : List ℕ) → Contains (less i xs) j → Contains xs j
less_was i j [] h = h
less_was i j (x ∷ xs) h = elim (cases_Bool (x == i)) [
  | inl is ↦ let c = rw is at h in member_later x xs j c
  | inr other ↦
      let c = rw other at h in
      ⊎_elim (λ e. member_here x xs j e) (λ rest. member_later x xs j (less_was i j xs rest))
      (member_cases x (less i xs) j c)
]

less_still : (i j : ℕ) (xs : List ℕ) → Contains xs j → j ≢ i → Contains (less i xs) j
less_still i j [] h other = h
less_still i j (x ∷ xs) h other = elim (cases_Bool (x == i)) [
  | inl is ↦
      rw is (⊎_elim (λ e. absurd (other (e ∙ eqb-true x i is))) (λ rest. rest) (member_cases x xs j h))
  | inr apart ↦
      rw apart (⊎_elim (λ e. member_here x (less i xs) j e)
      (λ rest. member_later x (less i xs) j (less_still i j xs rest other)) (member_cases x xs j h))
]

not_in : (x i : ℕ) (xs : List ℕ) → AllByRecursion (λ y. nat_eq x y ≡ false) xs → Contains xs i → x ≢ i
not_in x i [] all h = absurd (no_member i h)
not_in x i (y ∷ ys) all h =
    ⊎_elim (λ e. λ same. true≢false (sym (eq-eqb x y (same ∙ e)) ∙ all.0)) (λ rest. not_in x i ys all.1 rest)
    (member_cases y ys i h)

less_none : (i : ℕ) (xs : List ℕ) → IsDistinct nat_eq xs → Contains (less i xs) i → ⊥
less_none i [] once h = no_member i h
less_none i (x ∷ xs) once h = elim (cases_Bool (x == i)) [
  | inl is ↦ let c = rw is at h in not_in x i xs (IsDistinct-head nat_eq x xs once) c (eqb-true x i is)
  | inr other ↦
      let c = rw other at h in
      ⊎_elim (λ e. true≢false (sym (eq-eqb x i (sym e)) ∙ other)) (λ rest.
      less_none i xs (IsDistinct-tail nat_eq x xs once) rest) (member_cases x (less i xs) i c)
]

less_once : (i : ℕ) (xs : List ℕ) → IsDistinct nat_eq xs → IsDistinct nat_eq (less i xs)
less_once i [] once = once
less_once i (x ∷ xs) once =
    let tail = IsDistinct-tail nat_eq x xs once in
    elim (cases_Bool (x == i)) [
      | inl is ↦ rw is tail
      | inr other ↦
          rw other (IsDistinct-cons nat_eq x (less i xs)
          (all_from (λ y. nat_eq x y ≡ false) (less i xs) (λ y c.
          ne_eqb x y (not_in x y xs (IsDistinct-head nat_eq x xs once) (less_was i y xs c))))
          (less_once i xs tail))
    ]

-- ---- without all of some

abbrev rid : List ℕ → List ℕ → List ℕ
rid [] ns = ns
rid (i ∷ is) ns = rid is (less i ns)

rid_was : (is ns : List ℕ) (j : ℕ) → Contains (rid is ns) j → Contains ns j
rid_was [] ns j h = h
rid_was (i ∷ is) ns j h = less_was i j ns (rid_was is (less i ns) j h)

rid_still : (is ns : List ℕ) (j : ℕ) → Contains ns j → (Contains is j → ⊥) → Contains (rid is ns) j
rid_still [] ns j h out = h
rid_still (i ∷ is) ns j h out =
    rid_still is (less i ns) j (less_still i j ns h (λ e. out (member_here i is j e)))
    (λ c. out (member_later i is j c))

rid_none : (is ns : List ℕ) (j : ℕ) → IsDistinct nat_eq ns → Contains is j → Contains (rid is ns) j → ⊥
rid_none [] ns j once h c = no_member j h
rid_none (i ∷ is) ns j once h c =
    ⊎_elim (λ e.
    less_none i ns once (subst (Contains (less i ns)) e (rid_was is (less i ns) j c)))
    (λ rest. rid_none is (less i ns) j (less_once i ns once) rest c) (member_cases i is j h)

rid_once : (is ns : List ℕ) → IsDistinct nat_eq ns → IsDistinct nat_eq (rid is ns)
rid_once [] ns once = once
rid_once (i ∷ is) ns once = rid_once is (less i ns) (less_once i ns once)

rid_sum : (f : ℕ → ℕ) (is ns : List ℕ) → IsDistinct nat_eq is → ((j : ℕ) → Contains is j → Contains ns j)
    → sum_by f (rid is ns) + sum_by f is ≡ sum_by f ns
rid_sum f [] ns once all = omega arith
rid_sum f (i ∷ is) ns once all =
    let one = less_sum f i ns (all i (member_here i is i refl)) in
    let head = IsDistinct-head nat_eq i is once in
    let rest = rid_sum f is (less i ns) (IsDistinct-tail nat_eq i is once)
    (λ j c. less_still i j ns (all j (member_later i is j c)) (λ e. not_in i j is head c (sym e))) in
    let sum = sum_by-cons f i is in
    omega (arith, one, rest, sum)

-- ---- the names of some cells of a list

abbrev pub picked : (p : CellSeen → Bool) → List CellSeen → List ℕ
picked p [] = []
picked p (x ∷ xs) = cond (p x) (x.id ∷ picked p xs) (picked p xs)

-- a cell of the list that was picked
abbrev pub IsPicked : (p : CellSeen → Bool) → List CellSeen → ℕ → Type 0
IsPicked p xs i = (x : CellSeen) × Contains xs x × (x.id ≡ i) × (p x ≡ true)

later_picked : (p : CellSeen → Bool) (x : CellSeen) (xs : List CellSeen) (i : ℕ) → IsPicked p xs i
    → IsPicked p (x ∷ xs) i
later_picked p x xs i h = (h.0, cons_later x xs h.0 h.1, h.2, h.3)

pub picked_is : (p : CellSeen → Bool) (xs : List CellSeen) (i : ℕ) → Contains (picked p xs) i → IsPicked p xs i
picked_is p [] i h = absurd (no_member i h)
picked_is p (x ∷ xs) i h = elim (cases_Bool (p x)) [
  | inl is ↦
      let c = rw is at h in
      ⊎_elim (λ e. (x, cons_here x xs, sym e, is)) (λ rest. later_picked p x xs i (picked_is p xs i rest))
      (member_cases x.id (picked p xs) i c)
  | inr not ↦ let c = rw not at h in later_picked p x xs i (picked_is p xs i c)
]

picked_has : (p : CellSeen → Bool) (xs : List CellSeen) (x : CellSeen) → Contains xs x → p x ≡ true
    → Contains (picked p xs) x.id
picked_has p [] x h is = let lt = h.1 in absurd (omega (arith, lt))
picked_has p (y ∷ ys) x h is =
    ⊎_elim (λ e.
    (let here : p y ≡ true = ap p e ∙ is in
    rw here (member_here y.id (picked p ys) x.id (ap (λ (z : CellSeen). z.id) (sym e)))))
    (λ rest.
    (let c = picked_has p ys x rest is in
    elim (cases_Bool (p y)) [
      | inl one ↦ rw one (member_later y.id (picked p ys) x.id c)
      | inr not ↦ rw not c
    ])) (cons_cases y ys x h)

picked_within : (p : CellSeen → Bool) (xs : List CellSeen) (i : ℕ) → Contains (picked p xs) i → Contains (ids_of xs) i
picked_within p xs i h =
    let x = picked_is p xs i h in subst (Contains (ids_of xs)) x.2 (id_there xs x.0 x.1)

pub picked_once : (p : CellSeen → Bool) (xs : List CellSeen) → IsDistinct nat_eq (ids_of xs)
    → IsDistinct nat_eq (picked p xs)
picked_once p [] once = once
picked_once p (x ∷ xs) once =
    let tail = picked_once p xs (IsDistinct-tail nat_eq x.id (ids_of xs) once) in
    elim (cases_Bool (p x)) [
      | inl is ↦
          rw is (IsDistinct-cons nat_eq x.id (picked p xs)
          (all_from (λ y. nat_eq x.id y ≡ false) (picked p xs) (λ y c.
          ne_eqb x.id y (not_in x.id y (ids_of xs) (IsDistinct-head nat_eq x.id (ids_of xs) once)
          (picked_within p xs y c)))) tail)
      | inr not ↦ rw not tail
    ]

pub picked_length : (p : CellSeen → Bool) (xs : List CellSeen) → length (picked p xs) ≡ count_by p xs
picked_length p [] = refl
picked_length p (x ∷ xs) =
    let rest = picked_length p xs in
    let all = sum_by-cons (λ (y : CellSeen). cond (p y) 1 0) x xs in
    elim (cases_Bool (p x)) [
      | inl is ↦
          let one = cond-true {A = ℕ} (p x) 1 0 is in
          let same = ap (λ (l : List ℕ). length l) (cond-true (p x) (x.id ∷ picked p xs) (picked p xs) is) in
          omega (arith, rest, all, one, same)
      | inr not ↦
          let one = cond-false {A = ℕ} (p x) 1 0 not in
          let same = ap (λ (l : List ℕ). length l) (cond-false (p x) (x.id ∷ picked p xs) (picked p xs) not) in
          omega (arith, rest, all, one, same)
    ]

picked_count : (test : ℕ → Bool) (p : CellSeen → Bool) (xs : List CellSeen)
    → count_by test (picked p xs) ≡ count_by (λ (x : CellSeen). p x && test x.id) xs
picked_count test p [] = refl
picked_count test p (x ∷ xs) =
    let rest = picked_count test p xs in
    let all = sum_by-cons (λ (y : CellSeen). cond (p y && test y.id) 1 0) x xs in
    let here = sum_by-cons (λ (i : ℕ). cond (test i) 1 0) x.id (picked p xs) in
    elim (cases_Bool (p x)) [
      | inl is ↦
          let one : cond {A = ℕ} (p x && test x.id) 1 0 ≡ cond (test x.id) 1 0 =
          ap (λ (y : Bool). cond {A = ℕ} (y && test x.id) 1 0) is in
          let same = ap (λ (l : List ℕ). count_by test l) (cond-true (p x) (x.id ∷ picked p xs) (picked p xs) is) in
          omega (arith, rest, all, here, one, same)
      | inr not ↦
          let one : cond {A = ℕ} (p x && test x.id) 1 0 ≡ 0 =
          ap (λ (y : Bool). cond {A = ℕ} (y && test x.id) 1 0) not in
          let same = ap (λ (l : List ℕ). count_by test l) (cond-false (p x) (x.id ∷ picked p xs) (picked p xs) not) in
          omega (arith, rest, all, one, same)
    ]

-- ---- the cells of an atom

module _ (b now : BufferSeen) (s after : AtomsSeen) (a : ℕ) (old new : List CellSeen)
    (old_once : IsDistinct nat_eq (ids_of old)) (new_once : IsDistinct nat_eq (ids_of new))
    (dirty : (i : ℕ) → is_dirty_by (buffered now i)
    ≡ cond (has_name new i) true (cond (has_name old i) false (is_dirty_by (buffered b i))))
    (owners : (n : ℕ) → owner_of after n ≡ cond (is_touched old new n) (Some a) (owner_of s n))
    (own : (n : ℕ) → is_touched old new n ≡ true → is_dirty_by (buffered b n) ≡ true → owner_of s n ≡ Some a) where
  abbrev goes : CellSeen → Bool
  goes = is_less b new

  abbrev comes : CellSeen → Bool
  comes = is_more b

  touched_old : (x : CellSeen) → Contains old x → is_touched old new x.id ≡ true
  touched_old x h = or_left (has_name old x.id) (has_name new x.id) (has_one old x h)

  touched_new : (x : CellSeen) → Contains new x → is_touched old new x.id ≡ true
  touched_new x h = or_right (has_name old x.id) (has_name new x.id) (has_one new x h)

  owned_touched : (n : ℕ) → is_touched old new n ≡ true → owner_of after n ≡ Some a
  owned_touched n is = owners n ∙ cond-true (is_touched old new n) (Some a) (owner_of s n) is

  module _ (cells fresh : ℕ) (h : CountsCells b s a cells fresh) where
    abbrev gone : List ℕ
    gone = picked goes old

    abbrev come : List ℕ
    come = picked comes new

    abbrev nodes : List ℕ
    nodes = rid gone h.nodes ++ come

    gone_there : (i : ℕ) → Contains gone i → Contains h.nodes i
    gone_there i c =
        let x = picked_is goes old i c in
        let is = (and_parts (is_dirty_by (buffered b x.0.id)) (not (has_name new x.0.id)) x.3).0 in
        subst (Contains h.nodes) x.2 ((h.just x.0.id).1 (own x.0.id (touched_old x.0 x.1) is, is))

    still_owned : (i : ℕ) → owner_of s i ≡ Some a → owner_of after i ≡ Some a
    still_owned i is = elim (cases_Bool (is_touched old new i)) [
      | inl touched ↦ owned_touched i touched
      | inr not ↦ owners i ∙ cond-false (is_touched old new i) (Some a) (owner_of s i) not ∙ is
    ]

    from_new : (i : ℕ) → has_name new i ≡ true → is_dirty_by (buffered now i) ≡ true
    from_new i is = dirty i ∙ cond-true (has_name new i) true _ is

    not_new : (i : ℕ) → has_name new i ≡ false
        → is_dirty_by (buffered now i) ≡ cond (has_name old i) false (is_dirty_by (buffered b i))
    not_new i not = dirty i ∙ cond-false (has_name new i) true _ not

    stays_dirty : (i : ℕ) → Contains (rid gone h.nodes) i → is_dirty_by (buffered now i) ≡ true
    stays_dirty i c =
        let was = ((h.just i).0 (rid_was gone h.nodes i c)).1 in
        elim (cases_Bool (has_name new i)) [
          | inl here ↦ from_new i here
          | inr off ↦ elim (cases_Bool (has_name old i)) [
            | inl there ↦
                let x = one_named old i there in
                let test : goes x.0 ≡ true = goes_by x.0 (ap (λ (j : ℕ). is_dirty_by (buffered b j)) x.2 ∙ was)
                (ap (has_name new) x.2 ∙ off) in
                absurd (rid_none gone h.nodes i h.different
                (subst (Contains gone) x.2 (picked_has goes old x.0 x.1 test)) c)
            | inr free ↦ not_new i off ∙ cond-false (has_name old i) false _ free ∙ was
          ]
        ]
      where
        goes_by : (x : CellSeen) → is_dirty_by (buffered b x.id) ≡ true → has_name new x.id ≡ false → goes x ≡ true
        goes_by x one two = rw (one, two) refl

    comes_there : (i : ℕ) → Contains come i → is_touched old new i ≡ true × (has_name new i ≡ true)
        × (is_dirty_by (buffered b i) ≡ false)
    comes_there i c =
        let x = picked_is comes new i c in (
          ap (is_touched old new) (sym x.2) ∙ touched_new x.0 x.1,
          ap (has_name new) (sym x.2) ∙ has_one new x.0 x.1,
          ap (λ (j : ℕ). is_dirty_by (buffered b j)) (sym x.2) ∙ not_so (is_dirty_by (buffered b x.0.id)) x.3,
        )
      where
        not_so : (x : Bool) → not x ≡ true → x ≡ false
        not_so true e = absurd (cc e)
        not_so false e = refl

    counted : (i : ℕ) → owner_of after i ≡ Some a → is_dirty_by (buffered now i) ≡ true → Contains nodes i
    counted i is filled = elim (cases_Bool (has_name new i)) [
      | inl here ↦ elim (cases_Bool (is_dirty_by (buffered b i))) [
        | inl was ↦
            let touched = or_right (has_name old i) (has_name new i) here in
            Contains-append_left (rid gone h.nodes) come i
            (rid_still gone h.nodes i ((h.just i).1 (own i touched was, was)) (λ c.
            (let x = picked_is goes old i c in
            let off = (and_parts (is_dirty_by (buffered b x.0.id)) (not (has_name new x.0.id)) x.3).1 in
            not_both (has_name new x.0.id) (ap (has_name new) x.2 ∙ here) off)))
        | inr free ↦
            let x = one_named new i here in
            let test : comes x.0 ≡ true = comes_by x.0 (ap (λ (j : ℕ). is_dirty_by (buffered b j)) x.2 ∙ free) in
            Contains-append_right (rid gone h.nodes) come i
            (subst (Contains come) x.2 (picked_has comes new x.0 x.1 test))
      ]
      | inr off ↦ elim (cases_Bool (has_name old i)) [
        | inl there ↦
            absurd (true≢false (sym filled ∙ not_new i off ∙ cond-true (has_name old i) false _ there))
        | inr free ↦
            let none : is_touched old new i ≡ false = rw (free, off) refl in
            let had : owner_of s i ≡ Some a =
            sym (owners i ∙ cond-false (is_touched old new i) (Some a) (owner_of s i) none) ∙ is in
            let was : is_dirty_by (buffered b i) ≡ true =
            sym (not_new i off ∙ cond-false (has_name old i) false _ free) ∙ filled in
            Contains-append_left (rid gone h.nodes) come i
            (rid_still gone h.nodes i ((h.just i).1 (had, was)) (λ c.
            (let x = picked_is goes old i c in
            true≢false (sym (ap (has_name old) (sym x.2) ∙ has_one old x.0 x.1) ∙ free))))
      ]
    ]
      where
        not_both : (x : Bool) → x ≡ true → not x ≡ true → ⊥
        not_both true e f = cc f
        not_both false e f = cc e

        comes_by : (x : CellSeen) → is_dirty_by (buffered b x.id) ≡ false → comes x ≡ true
        comes_by x e = rw e refl

    -- so many are counted then: the same numbers less those that go, and those that come
    pub counts_done : (after_cells after_fresh : ℕ)
        → after_cells + count_by (is_less b new) old ≡ cells + count_by (is_more b) new
        → after_fresh + count_by (λ x. is_less b new x && nat_le (2 ^ 63) x.id) old
        ≡ fresh + count_by (λ x. is_more b x && nat_le (2 ^ 63) x.id) new
        → CountsCells now after a after_cells after_fresh
    counts_done after_cells after_fresh cells_then fresh_then = record {
      nodes = nodes;
      different = distinct_both (rid gone h.nodes) come (rid_once gone h.nodes h.different)
          (picked_once comes new new_once)
          (λ i c there.
          true≢false (sym ((h.just i).0 (rid_was gone h.nodes i c)).1 ∙ (comes_there i there).2));
      just = λ i. (
        λ has. ⊎_elim
            (λ c. (still_owned i ((h.just i).0 (rid_was gone h.nodes i c)).0, stays_dirty i c))
            (λ c. (let t = comes_there i c in (owned_touched i t.0, from_new i t.1)))
            (Contains-append_cases (rid gone h.nodes) come i has),
        λ e. counted i e.0 e.1,
      );
      cells_are =
          let all = length-append (rid gone h.nodes) come in
          let rest = rid_sum (λ i. 1) gone h.nodes (picked_once goes old old_once) gone_there in
          let one = ones (rid gone h.nodes) in
          let two = ones gone in
          let three = ones h.nodes in
          let had = h.cells_are in
          let less = picked_length goes old in
          let more = picked_length comes new in
          omega (arith, all, rest, one, two, three, had, cells_then, less, more);
      fresh_are =
          let f = λ (i : ℕ). cond (nat_le (2 ^ 63) i) 1 0 in
          let all = sum_by-append f (rid gone h.nodes) come in
          let rest = rid_sum f gone h.nodes (picked_once goes old old_once) gone_there in
          let had = h.fresh_are in
          let less = picked_count (nat_le (2 ^ 63)) goes old in
          let more = picked_count (nat_le (2 ^ 63)) comes new in
          omega (arith, all, rest, had, fresh_then, less, more);
    }
      where
        ones : (xs : List ℕ) → sum_by (λ (i : ℕ). 1) xs ≡ length xs
        ones [] = refl
        ones (x ∷ xs) = let e = sum_by-cons (λ (i : ℕ). 1) x xs in let r = ones xs in omega (arith, e, r)

  -- another atom has the cells that it had
  module _ (other : ℕ) (unlike : other ≢ a) (cells fresh : ℕ) (h : CountsCells b s other cells fresh) where
    apart : (i : ℕ) → owner_of s i ≡ Some other → is_dirty_by (buffered b i) ≡ true → is_touched old new i ≡ false
    apart i is filled = false_from_ne_true (is_touched old new i) (λ touched.
        some_unlike (sym is ∙ own i touched filled))
      where
        some_unlike : Some other ≡ Some a → ⊥
        some_unlike e = unlike (cc e)

    same_then : (i : ℕ) → is_touched old new i ≡ false
        → (owner_of after i ≡ owner_of s i) × (is_dirty_by (buffered now i) ≡ is_dirty_by (buffered b i))
    same_then i not =
        let both = neither_of (has_name old i) (has_name new i) not in (
          owners i ∙ cond-false (is_touched old new i) (Some a) (owner_of s i) not,
          dirty i ∙ cond-false (has_name new i) true _ both.1
              ∙ cond-false (has_name old i) false (is_dirty_by (buffered b i)) both.0,
        )
      where
        neither_of : (x y : Bool) → (x || y) ≡ false → (x ≡ false) × (y ≡ false)
        neither_of true y e = absurd (cc e)
        neither_of false y e = (refl, e)

    untouched_by : (i : ℕ) → owner_of after i ≡ Some other → is_touched old new i ≡ false
    untouched_by i is = false_from_ne_true (is_touched old new i) (λ touched.
        some_unlike (sym is ∙ owned_touched i touched))
      where
        some_unlike : Some other ≡ Some a → ⊥
        some_unlike e = unlike (cc e)

    pub counts_stay : CountsCells now after other cells fresh
    counts_stay = record {
      nodes = h.nodes;
      different = h.different;
      just = λ i. (
        λ has.
            (let e = (h.just i).0 has in
            let same = same_then i (apart i e.0 e.1) in
            (same.0 ∙ e.0, same.1 ∙ e.1)),
        λ e.
            (let same = same_then i (untouched_by i e.0) in
            (h.just i).1 (sym same.0 ∙ e.0, sym same.1 ∙ e.1)),
      );
      cells_are = h.cells_are;
      fresh_are = h.fresh_are;
    }
