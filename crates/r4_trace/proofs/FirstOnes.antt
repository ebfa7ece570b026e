-- The first atoms that were sealed, in ordered traces.
use Rattle.std.proofs.Common.{◌≡◌, ◌⊎◌, inl, inr, ⊎_elim, ℕ, ◌+◌, ◌<◌, ◌≤◌, ◌==◌, nat_lt, nat_le, Bool, true, false, true≢false, ◌&&◌, ◌||◌, List, [], ◌∷◌, Some, refl, sym, ◌∙◌, ap, subst, arith}
use Rattle.std.proofs.lemmas.Bool.{eq-eqb, ne_eqb, cases_eq, cases_Bool, cond-true, cond-false, and_from, and_left, and_right, or_left, or_right, or_from, lt-ltb, le-ltb, le-leb, or_cases, eqb-true, and_parts}
use Rattle.r4_trace.specs.declared.entry.Entry.{Entry}
use Rattle.r4_trace.specs.declared.entry.Entry.TheVariants.{Begin, Fuse, Ended, Sealed, Committed, Acked, Broken}
use Rattle.r4_trace.specs.Traced.{begun_in, sealed_in, committed_in, committed_by, latest, atom_in, IsBegun, IsEnded, IsOpen, IsSealed, IsCommitted, last_sealed, in_first, is_first, IsAcked}
use Rattle.r4_trace.specs.Order.{IsOrdered}

-- what is not sealed is not among the first ones
pub not_first : (trace : List Entry) (k a : ℕ) → (IsSealed trace a → ⊥) → in_first trace k a ≡ false
not_first [] k a un = refl
not_first (Sealed b ∷ older) k a un =
    or_from _ _ (and_left _ _ (ne_eqb a b.0 (λ is. un (inl is)))) (not_first older k a (λ h. un (inr h)))
not_first (e ∷ older) k a un = not_first older k a un

-- what is sealed is among the first k, where k is at least the number of sealed ones
pub sealed_first : (trace : List Entry) (k a : ℕ) → sealed_in trace ≤ k → IsSealed trace a → in_first trace k a ≡ true
sealed_first [] k a le h = absurd h
sealed_first (Sealed b ∷ older) k a le (inl is) =
    or_left _ _ (and_from _ _ (eq-eqb a b.0 is) (lt-ltb _ _ (omega (arith, le))))
sealed_first (Sealed b ∷ older) k a le (inr h) = or_right _ _ (sealed_first older k a (omega (arith, le)) h)
sealed_first (e ∷ older) k a le h = sealed_first older k a le h

pub first_sealed : (trace : List Entry) (k a : ℕ) → in_first trace k a ≡ true → IsSealed trace a
first_sealed [] k a is = absurd (true≢false (sym is))
first_sealed (Sealed b ∷ older) k a is =
    elim (or_cases ((a == b.0) && nat_lt (sealed_in older) k) (in_first older k a) is) [
      | inl here ↦ inl (eqb-true a b.0 (and_parts (a == b.0) (nat_lt (sealed_in older) k) here).0)
      | inr older_one ↦ inr (first_sealed older k a older_one)
    ]
first_sealed (e ∷ older) k a is = first_sealed older k a is

-- atoms that are sealed were begun, and transactions that were not begun are their own atoms
pub sealed_begun : (trace : List Entry) (a : ℕ) → IsOrdered trace → IsSealed trace a → a ≤ begun_in trace
sealed_begun [] a legal h = absurd h
sealed_begun (Begin t s ∷ older) a legal h = (let x = sealed_begun older a legal.2 h in omega (arith, x))
sealed_begun (Sealed b ∷ older) a legal (inl is) = omega (arith, is, legal.0.0.counted.1)
sealed_begun (Sealed b ∷ older) a legal (inr h) = sealed_begun older a legal.2 h
sealed_begun (e ∷ older) a legal h = sealed_begun older a legal.2 h

pub new_atom : (trace : List Entry) (t : ℕ) → IsOrdered trace → begun_in trace < t → atom_in trace t ≡ t
new_atom [] t legal lt = refl
new_atom (Begin u s ∷ older) t legal lt = new_atom older t legal.2 (omega (arith, lt))
new_atom (Fuse a b n ∷ older) t legal lt =
    let is = new_atom older t legal.2 lt in
    cond-false (atom_in older t == b.0) a.0 (atom_in older t)
    (ne_eqb _ b.0 (λ same. absurd (omega (arith, is, same, lt, legal.0.2.counted.1)))) ∙ is
new_atom (e ∷ older) t legal lt = new_atom older t legal.2 lt

-- an open transaction is in no sealed atom
pub open_unsealed : (trace : List Entry) (t s : ℕ) → IsOrdered trace → IsOpen trace t s
    → IsSealed trace (atom_in trace t) → ⊥
open_unsealed [] t s legal opn h = absurd h
open_unsealed (Begin u q ∷ older) t s legal opn h =
    ⊎_elim
    (λ new. let is = new_atom older t legal.2 (omega (arith, new.0, legal.0.0)) in
    let x = sealed_begun older (atom_in older t) legal.2 h in absurd (omega (arith, x, is, new.0, legal.0.0)))
    (λ was. open_unsealed older t s legal.2 (was, opn.1) h)
    opn.0
open_unsealed (Fuse a b n ∷ older) t s legal opn h = elim (cases_eq (atom_in older t) b.0) [
  | inl same ↦
      legal.0.1.unsealed
      (subst (λ (x : ℕ). IsSealed older x)
      (cond-true (atom_in older t == b.0) a.0 (atom_in older t) (eq-eqb _ b.0 same)) h)
  | inr other ↦
      open_unsealed older t s legal.2 opn
      (subst (λ (x : ℕ). IsSealed older x)
      (cond-false (atom_in older t == b.0) a.0 (atom_in older t) (ne_eqb _ b.0 other)) h)
]
open_unsealed (Ended u ∷ older) t s legal opn h = open_unsealed older t s legal.2 (opn.0, λ was. opn.1 (inr was)) h
open_unsealed (Sealed a ∷ older) t s legal opn (inl is) = legal.0.1 t s opn is
open_unsealed (Sealed a ∷ older) t s legal opn (inr h) = open_unsealed older t s legal.2 opn h
open_unsealed (e ∷ older) t s legal opn h = open_unsealed older t s legal.2 opn h

-- one entry more leaves the first k as they are, where k were sealed
pub first_stays : (older : List Entry) (e : Entry) (k t : ℕ) → IsOrdered (e ∷ older) → k ≤ sealed_in older
    → is_first (e ∷ older) k t ≡ is_first older k t
first_stays older (Fuse a b n) k t legal le = elim (cases_eq (atom_in older t) b.0) [
  | inl same ↦
      ap (λ (x : ℕ). in_first older k x)
      (cond-true (atom_in older t == b.0) a.0 (atom_in older t) (eq-eqb _ b.0 same))
      ∙ not_first older k a.0 legal.0.1.unsealed ∙ sym (not_first older k b.0 legal.0.2.unsealed)
      ∙ ap (λ (x : ℕ). in_first older k x) (sym same)
  | inr other ↦
      ap (λ (x : ℕ). in_first older k x)
      (cond-false (atom_in older t == b.0) a.0 (atom_in older t) (ne_eqb _ b.0 other))
]
first_stays older (Sealed a) k t legal le =
    ap (λ (x : Bool). x || in_first older k (atom_in older t))
    (and_right (atom_in older t == a.0) _ (le-ltb (sealed_in older) k le))
first_stays older e k t legal le = refl

-- what is among the first k stays so
pub first_grows : (older : List Entry) (e : Entry) (k t : ℕ) → IsOrdered (e ∷ older) → is_first older k t ≡ true
    → is_first (e ∷ older) k t ≡ true
first_grows older (Fuse a b n) k t legal is = elim (cases_eq (atom_in older t) b.0) [
  | inl same ↦
      absurd (true≢false
      (sym is ∙ ap (λ (x : ℕ). in_first older k x) same ∙ not_first older k b.0 legal.0.2.unsealed))
  | inr other ↦
      ap (λ (x : ℕ). in_first older k x)
      (cond-false (atom_in older t == b.0) a.0 (atom_in older t) (ne_eqb _ b.0 other)) ∙ is
]
first_grows older (Sealed a) k t legal is = or_right _ _ is
first_grows older e k t legal is = is

pub ended_or_not : (trace : List Entry) (t : ℕ) → IsEnded trace t ⊎ (IsEnded trace t → ⊥)
ended_or_not [] t = inr (λ h. h)
ended_or_not (Ended u ∷ older) t = elim (cases_eq t u.0) [
  | inl is ↦ inl (inl is)
  | inr other ↦ ⊎_elim (λ h. inl (inr h)) (λ un. inr (λ h. ⊎_elim other un h)) (ended_or_not older t)
]
ended_or_not (e ∷ older) t = ended_or_not older t

-- ---- clocks

pub committed_by_le : (m : ℕ) (trace : List Entry) → committed_by m trace ≤ committed_in trace
committed_by_le m [] = omega arith
committed_by_le m (Committed a c ∷ older) = let x = committed_by_le m older in elim (cases_Bool (nat_le c m)) [
  | inl within ↦ omega (arith, x, cond-true (nat_le c m) (committed_by m older + 1) (committed_by m older) within)
  | inr past ↦ omega (arith, x, cond-false (nat_le c m) (committed_by m older + 1) (committed_by m older) past)
]
committed_by_le m (e ∷ older) = committed_by_le m older

-- at a moment that no clock is above, all count
pub all_by : (trace : List Entry) (m : ℕ) → IsOrdered trace → latest trace ≤ m
    → committed_by m trace ≡ committed_in trace
all_by [] m legal le = refl
all_by (Committed a c ∷ older) m legal le =
    let x = all_by older m legal.2 (omega (arith, le, legal.0.2)) in
    cond-true (nat_le c m) (committed_by m older + 1) (committed_by m older) (le-leb c m le) ∙ ap (λ (n : ℕ). n + 1) x
all_by (Acked s t c ∷ older) m legal le = all_by older m legal.2 (omega (arith, le, legal.0.2))
all_by (Broken c f ∷ older) m legal le = all_by older m legal.2 (omega (arith, le, legal.0))
all_by (e ∷ older) m legal le = all_by older m legal.2 le

-- what is sealed and committed are counted alike
pub sealed_counts : (trace : List Entry) → IsOrdered trace
    → (sealed_in trace ≡ committed_in trace) ⊎ (sealed_in trace ≡ committed_in trace + 1)
sealed_counts [] legal = inl refl
sealed_counts (Sealed a ∷ older) legal = inr (ap (λ (n : ℕ). n + 1) legal.0.2)
sealed_counts (Committed a c ∷ older) legal = inl legal.0.1
sealed_counts (e ∷ older) legal = sealed_counts older legal.2

last_first : (trace : List Entry) (a k : ℕ) → last_sealed trace ≡ Some a → sealed_in trace ≤ k
    → in_first trace k a ≡ true
last_first [] a k is le = absurd (cc is)
last_first (Sealed b ∷ older) a k is le =
    or_left _ _ (and_from _ _ (eq-eqb a b.0 (cc is)) (lt-ltb _ _ (omega (arith, le))))
last_first (e ∷ older) a k is le = last_first older a k is le

-- a committed atom is among the first k, where k is at least the number of committed ones
pub committed_first : (trace : List Entry) (k a : ℕ) → IsOrdered trace → committed_in trace ≤ k
    → IsCommitted trace a → in_first trace k a ≡ true
committed_first [] k a legal le h = absurd h
committed_first (Committed b c ∷ older) k a legal le (inl is) =
    last_first older a k (legal.0.0 ∙ ap Some (sym is)) (omega (arith, le, legal.0.1))
committed_first (Committed b c ∷ older) k a legal le (inr h) = committed_first older k a legal.2 (omega (arith, le)) h
committed_first (Sealed b ∷ older) k a legal le h = or_right _ _ (committed_first older k a legal.2 le h)
committed_first (e ∷ older) k a legal le h = committed_first older k a legal.2 le h

by_grows : (older : List Entry) (e : Entry) (m : ℕ) → committed_by m older ≤ committed_by m (e ∷ older)
by_grows older (Committed a c) m = elim (cases_Bool (nat_le c m)) [
  | inl within ↦ omega (arith, cond-true (nat_le c m) (committed_by m older + 1) (committed_by m older) within)
  | inr past ↦ omega (arith, cond-false (nat_le c m) (committed_by m older + 1) (committed_by m older) past)
]
by_grows older e m = omega arith

-- what is acknowledged by a moment is among the first k
pub acked_first : (trace : List Entry) (m k t : ℕ) → IsOrdered trace → committed_by m trace ≤ k
    → IsAcked trace m t → is_first trace k t ≡ true
acked_first [] m k t legal le h = absurd h
acked_first (Acked s u c ∷ older) m k t legal le (inl h) =
    committed_first older k (atom_in older t) legal.2
    (omega (arith, le, all_by older m legal.2 (omega (arith, legal.0.2, h.0)))) (legal.0.1 t h.2)
acked_first (Acked s u c ∷ older) m k t legal le (inr h) = acked_first older m k t legal.2 le h
acked_first (Committed a c ∷ older) m k t legal le h =
    acked_first older m k t legal.2 (omega (arith, le, by_grows older (Committed a c) m)) h
acked_first (Fuse a b n ∷ older) m k t legal le h =
    first_grows older (Fuse a b n) k t legal (acked_first older m k t legal.2 le h)
acked_first (Sealed a ∷ older) m k t legal le h = or_right _ _ (acked_first older m k t legal.2 le h)
acked_first (e ∷ older) m k t legal le h = acked_first older m k t legal.2 le h

-- each of the first k has ended
pub first_ended : (trace : List Entry) (k t s : ℕ) → IsOrdered trace → IsBegun trace t s
    → is_first trace k t ≡ true → IsEnded trace t
first_ended trace k t s legal begun is =
    ⊎_elim (λ h. h)
    (λ un. absurd (open_unsealed trace t s legal (begun, un) (first_sealed trace k (atom_in trace t) is)))
    (ended_or_not trace t)

pub begun_le : (trace : List Entry) (t s : ℕ) → IsOrdered trace → IsBegun trace t s → t ≤ begun_in trace
begun_le [] t s legal h = absurd h
begun_le (Begin u q ∷ older) t s legal (inl is) = omega (arith, is.0, legal.0.0)
begun_le (Begin u q ∷ older) t s legal (inr h) = (let x = begun_le older t s legal.2 h in omega (arith, x))
begun_le (e ∷ older) t s legal h = begun_le older t s legal.2 h

-- numbers begin with 1
pub begun_counted :
    (trace : List Entry) (t s : ℕ) → IsOrdered trace → IsBegun trace t s
    → (0 < t) × (t ≤ begun_in trace)
begun_counted trace t s legal h = (positive trace t s legal h, begun_le trace t s legal h)
  where
    positive : (l : List Entry) (t s : ℕ) → IsOrdered l → IsBegun l t s → 0 < t
    positive [] t s legal h = absurd h
    positive (Begin u q ∷ older) t s legal (inl is) = omega (arith, is.0, legal.0.0)
    positive (Begin u q ∷ older) t s legal (inr h) = positive older t s legal.2 h
    positive (e ∷ older) t s legal h = positive older t s legal.2 h

pub ended_le : (trace : List Entry) (t : ℕ) → IsOrdered trace → IsEnded trace t → t ≤ begun_in trace
ended_le [] t legal h = absurd h
ended_le (Begin u q ∷ older) t legal h = (let x = ended_le older t legal.2 h in omega (arith, x))
ended_le (Ended u ∷ older) t legal (inl is) =
    (let x = begun_le older u.0 legal.0.0 legal.2 legal.0.1.0 in omega (arith, x, is))
ended_le (Ended u ∷ older) t legal (inr h) = ended_le older t legal.2 h
ended_le (e ∷ older) t legal h = ended_le older t legal.2 h

-- what is sealed is committed, but for the last one while its commit is under way
pub sealed_committed : (trace : List Entry) (a : ℕ) → IsOrdered trace → IsSealed trace a
    → IsCommitted trace a ⊎ ((last_sealed trace ≡ Some a) × (sealed_in trace ≡ committed_in trace + 1))
sealed_committed [] a legal h = absurd h
sealed_committed (Sealed b ∷ older) a legal (inl is) = inr (ap Some (sym is), ap (λ (n : ℕ). n + 1) legal.0.2)
sealed_committed (Sealed b ∷ older) a legal (inr h) =
    ⊎_elim inl (λ w. absurd (omega (arith, w.1, legal.0.2))) (sealed_committed older a legal.2 h)
sealed_committed (Committed b c ∷ older) a legal h =
    ⊎_elim (λ was. inl (inr was)) (λ w. inl (inl (cc (w.0, legal.0.0)))) (sealed_committed older a legal.2 h)
sealed_committed (e ∷ older) a legal h = sealed_committed older a legal.2 h
