-- Whether a small trace is ordered, by computation.
use Rattle.std.proofs.Common.{◌≡◌, inl, inr, ℕ, ◌+◌, ◌==◌, nat_lt, nat_le, Bool, true, false, true≢false, not, ◌&&◌, ◌||◌, cond, List, [], ◌∷◌, Option, Some, None, refl, sym, ap}
use Rattle.std.proofs.lemmas.Bool.{eqb-true, eq-eqb, and_parts, or_cases, or_left, or_right, ltb-true, leb-true}
use Rattle.r4_content.specs.declared.reply.Reply.{Reply}
use Rattle.r4_content.specs.declared.reply.Reply.TheVariants.{Reopen}
use Rattle.r4_trace.specs.declared.entry.Entry.{Entry}
use Rattle.r4_trace.specs.declared.entry.Entry.TheVariants.{Begin, Fuse, Done, Refused, Ended, Sealed, Committed, Acked, Broken}
use Rattle.r4_trace.specs.Traced.{begun_in, sealed_in, committed_in, latest, broken_at, IsBegun, IsEnded, IsOpen, IsSealed, IsCommitted, IsUnsealed, atom_in, last_of, last_sealed}
use Rattle.r4_trace.specs.Order.{MayFollow, MayComeNow, Reopens, IsOrdered}

abbrev is_begun : List Entry → ℕ → ℕ → Bool
is_begun [] t s = false
is_begun (Begin u q ∷ older) t s = ((t == u.0) && (s == q.0)) || is_begun older t s
is_begun (e ∷ older) t s = is_begun older t s

abbrev is_ended : List Entry → ℕ → Bool
is_ended [] t = false
is_ended (Ended u ∷ older) t = (t == u.0) || is_ended older t
is_ended (e ∷ older) t = is_ended older t

abbrev pub is_sealed : List Entry → ℕ → Bool
is_sealed [] a = false
is_sealed (Sealed b ∷ older) a = (a == b.0) || is_sealed older a
is_sealed (e ∷ older) a = is_sealed older a

abbrev is_committed : List Entry → ℕ → Bool
is_committed [] a = false
is_committed (Committed b c ∷ older) a = (a == b.0) || is_committed older a
is_committed (e ∷ older) a = is_committed older a

-- each transaction that was begun passes a test
abbrev pub each_begun : (ℕ → ℕ → Bool) → List Entry → Bool
each_begun p [] = true
each_begun p (Begin u q ∷ older) = p u.0 q.0 && each_begun p older
each_begun p (e ∷ older) = each_begun p older

-- the script of a transaction
abbrev script_of : List Entry → ℕ → ℕ
script_of [] t = 0
script_of (Begin u q ∷ older) t = cond (t == u.0) q.0 (script_of older t)
script_of (e ∷ older) t = script_of older t

abbrev is_open : List Entry → ℕ → ℕ → Bool
is_open trace t s = is_begun trace t s && not (is_ended trace t)

abbrev is_unsealed : List Entry → ℕ → Bool
is_unsealed trace a =
    (nat_lt 0 a && nat_le a (begun_in trace)) && ((atom_in trace a == a) && not (is_sealed trace a))

abbrev is_some : Option ℕ → ℕ → Bool
is_some None a = false
is_some (Some b) a = b == a

abbrev may_follow : List Entry → Entry → Bool
may_follow older (Begin u q) =
    (u.0 == begun_in older + 1) && each_begun (λ t s. not (s == q.0) || is_ended older t) older
may_follow older (Fuse a b n) = nat_lt a.0 b.0 && (is_unsealed older a.0 && is_unsealed older b.0)
may_follow older (Done u q i c r) = is_open older u.0 q.0
may_follow older (Refused u q i r) = (u.0 == 0) || is_open older u.0 q.0
may_follow older (Ended u) = is_open older u.0 (script_of older u.0)
may_follow older (Sealed a) =
    is_unsealed older a.0 &&
    (each_begun (λ t s. is_ended older t || not (atom_in older t == a.0)) older &&
    (sealed_in older == committed_in older))
may_follow older (Committed a c) =
    is_some (last_sealed older) a.0 && ((sealed_in older == committed_in older + 1) && nat_le (latest older) c)
may_follow older (Acked q u c) =
    (u.0 == last_of older q.0) &&
    (each_begun (λ t s. not (s == q.0) || is_committed older (atom_in older t)) older && nat_le (latest older) c)
may_follow older (Broken c f) = nat_le (latest older) c

abbrev is_reopen : Reply → ℕ → Bool
is_reopen (Reopen d) c = d == c
is_reopen r c = false

abbrev reopens : ℕ → Entry → Bool
reopens c (Refused u q i r) = (u.0 == 0) && is_reopen r c
reopens c e = false

abbrev may_come_now : Option ℕ → Entry → Bool
may_come_now None e = true
may_come_now (Some c) e = reopens c e

abbrev pub is_ordered : List Entry → Bool
is_ordered [] = true
is_ordered (e ∷ older) = may_follow older e && (may_come_now (broken_at older) e && is_ordered older)

-- ---- what the tests tell

begun_true : (l : List Entry) (t s : ℕ) → is_begun l t s ≡ true → IsBegun l t s
begun_true [] t s is = absurd (true≢false (sym is))
begun_true (Begin u q ∷ older) t s is = elim (or_cases ((t == u.0) && (s == q.0)) (is_begun older t s) is) [
  | inl h ↦ let p = and_parts (t == u.0) (s == q.0) h in inl (eqb-true t u.0 p.0, eqb-true s q.0 p.1)
  | inr h ↦ inr (begun_true older t s h)
]
begun_true (e ∷ older) t s is = begun_true older t s is

ended_true : (l : List Entry) (t : ℕ) → is_ended l t ≡ true → IsEnded l t
ended_true [] t is = absurd (true≢false (sym is))
ended_true (Ended u ∷ older) t is =
    elim (or_cases (t == u.0) (is_ended older t) is) [
      | inl h ↦ inl (eqb-true t u.0 h)
      | inr h ↦
          inr (ended_true older t h)
    ]
ended_true (e ∷ older) t is = ended_true older t is

true_ended : (l : List Entry) (t : ℕ) → IsEnded l t → is_ended l t ≡ true
true_ended [] t h = absurd h
true_ended (Ended u ∷ older) t (inl is) = or_left (t == u.0) (is_ended older t) (eq-eqb t u.0 is)
true_ended (Ended u ∷ older) t (inr h) = or_right (t == u.0) (is_ended older t) (true_ended older t h)
true_ended (e ∷ older) t h = true_ended older t h

true_sealed : (l : List Entry) (a : ℕ) → IsSealed l a → is_sealed l a ≡ true
true_sealed [] a h = absurd h
true_sealed (Sealed b ∷ older) a (inl is) = or_left (a == b.0) (is_sealed older a) (eq-eqb a b.0 is)
true_sealed (Sealed b ∷ older) a (inr h) = or_right (a == b.0) (is_sealed older a) (true_sealed older a h)
true_sealed (e ∷ older) a h = true_sealed older a h

pub sealed_true : (l : List Entry) (a : ℕ) → is_sealed l a ≡ true → IsSealed l a
sealed_true [] a is = absurd (true≢false (sym is))
sealed_true (Sealed b ∷ older) a is = elim (or_cases (a == b.0) (is_sealed older a) is) [
  | inl h ↦ inl (eqb-true a b.0 h)
  | inr h ↦ inr (sealed_true older a h)
]
sealed_true (e ∷ older) a is = sealed_true older a is

committed_true : (l : List Entry) (a : ℕ) → is_committed l a ≡ true → IsCommitted l a
committed_true [] a is = absurd (true≢false (sym is))
committed_true (Committed b c ∷ older) a is =
    elim (or_cases (a == b.0) (is_committed older a) is) [
      | inl h ↦ inl (eqb-true a b.0 h)
      | inr h ↦
          inr (committed_true older a h)
    ]
committed_true (e ∷ older) a is = committed_true older a is

pub each_true : (p : ℕ → ℕ → Bool) (l : List Entry) (t s : ℕ) → each_begun p l ≡ true → IsBegun l t s → p t s ≡ true
each_true p [] t s is h = absurd h
each_true p (Begin u q ∷ older) t s is (inl h) = cc (h.0, h.1, (and_parts (p u.0 q.0) (each_begun p older) is).0)
each_true p (Begin u q ∷ older) t s is (inr h) =
    each_true p older t s (and_parts (p u.0 q.0) (each_begun p older) is).1 h
each_true p (e ∷ older) t s is h = each_true p older t s is h

not_both : (b : Bool) → not b ≡ true → b ≡ true → ⊥
not_both true n is = true≢false (sym n)
not_both false n is = true≢false (sym is)

open_true : (l : List Entry) (t s : ℕ) → is_open l t s ≡ true → IsOpen l t s
open_true l t s is =
    let p = and_parts (is_begun l t s) (not (is_ended l t)) is in
    (begun_true l t s p.0, λ h. not_both (is_ended l t) p.1 (true_ended l t h))

unsealed_true : (l : List Entry) (a : ℕ) → is_unsealed l a ≡ true → IsUnsealed l a
unsealed_true l a is =
    let p = and_parts (nat_lt 0 a && nat_le a (begun_in l)) ((atom_in l a == a) && not (is_sealed l a)) is in
    let n = and_parts (nat_lt 0 a) (nat_le a (begun_in l)) p.0 in
    let q = and_parts (atom_in l a == a) (not (is_sealed l a)) p.1 in
    record {
      counted = (ltb-true 0 a n.0, leb-true a (begun_in l) n.1);
      own = eqb-true (atom_in l a) a q.0;
      unsealed = λ h. not_both (is_sealed l a) q.1 (true_sealed l a h);
    }

some_true : (o : Option ℕ) (a : ℕ) → is_some o a ≡ true → o ≡ Some a
some_true None a is = absurd (true≢false (sym is))
some_true (Some b) a is = ap Some (eqb-true b a is)

follow_true : (older : List Entry) (e : Entry) → may_follow older e ≡ true → MayFollow older e
follow_true older (Begin u q) is =
    let p = and_parts (u.0 == begun_in older + 1) (each_begun (λ t s. not (s == q.0) || is_ended older t) older) is in (
      eqb-true u.0 (begun_in older + 1) p.0,
      λ t opn. elim
          (or_cases (not (q.0 == q.0)) (is_ended older t)
          (each_true (λ t s. not (s == q.0) || is_ended older t) older t q.0 p.1 opn.0)) [
            | inl h ↦ not_both (q.0 == q.0) h (eq-eqb q.0 q.0 refl)
            | inr h ↦ opn.1 (ended_true older t h)
          ],
    )
follow_true older (Fuse a b n) is =
    let p = and_parts (nat_lt a.0 b.0) (is_unsealed older a.0 && is_unsealed older b.0) is in
    let q = and_parts (is_unsealed older a.0) (is_unsealed older b.0) p.1 in
    (ltb-true a.0 b.0 p.0, unsealed_true older a.0 q.0, unsealed_true older b.0 q.1)
follow_true older (Done u q i c r) is = open_true older u.0 q.0 is
follow_true older (Refused u q i r) is =
    elim (or_cases (u.0 == 0) (is_open older u.0 q.0) is) [
      | inl h ↦ inl (eqb-true u.0 0 h)
      | inr h ↦
          inr (open_true older u.0 q.0 h)
    ]
follow_true older (Ended u) is = (script_of older u.0, open_true older u.0 (script_of older u.0) is)
follow_true older (Sealed a) is =
    let p = and_parts (is_unsealed older a.0)
    (each_begun (λ t s. is_ended older t || not (atom_in older t == a.0)) older &&
    (sealed_in older == committed_in older)) is in
    let q = and_parts (each_begun (λ t s. is_ended older t || not (atom_in older t == a.0)) older)
    (sealed_in older == committed_in older) p.1 in (
      unsealed_true older a.0 p.0,
      λ t s opn same. elim
          (or_cases (is_ended older t) (not (atom_in older t == a.0))
          (each_true (λ t s. is_ended older t || not (atom_in older t == a.0)) older t s q.0 opn.0)) [
            | inl h ↦ opn.1 (ended_true older t h)
            | inr h ↦ not_both (atom_in older t == a.0) h (eq-eqb (atom_in older t) a.0 same)
          ],
      eqb-true (sealed_in older) (committed_in older) q.1,
    )
follow_true older (Committed a c) is =
    let p = and_parts (is_some (last_sealed older) a.0)
    ((sealed_in older == committed_in older + 1) && nat_le (latest older) c) is in
    let q = and_parts (sealed_in older == committed_in older + 1) (nat_le (latest older) c) p.1 in (
      some_true (last_sealed older) a.0 p.0,
      eqb-true (sealed_in older) (committed_in older + 1) q.0,
      leb-true
          (latest older) c q.1,
    )
follow_true older (Acked s u c) is =
    let p = and_parts (u.0 == last_of older s.0)
    (each_begun (λ t q. not (q == s.0) || is_committed older (atom_in older t)) older && nat_le
    (latest older) c) is in
    let q = and_parts (each_begun (λ t q. not (q == s.0) || is_committed older (atom_in older t)) older)
    (nat_le (latest older) c) p.1 in (
      eqb-true u.0 (last_of older s.0) p.0,
      λ t h. elim
          (or_cases (not (s.0 == s.0)) (is_committed older (atom_in older t))
          (each_true (λ t q. not (q == s.0) || is_committed older (atom_in older t)) older t s.0 q.0 h)) [
            | inl n ↦ absurd (not_both (s.0 == s.0) n (eq-eqb s.0 s.0 refl))
            | inr is ↦ committed_true older (atom_in older t) is
          ],
      leb-true (latest older) c q.1,
    )
follow_true older (Broken c f) is = leb-true (latest older) c is

reopen_true : (r : Reply) (c : ℕ) → is_reopen r c ≡ true → r ≡ Reopen c
reopen_true (Reopen d) c is = ap Reopen (eqb-true d c is)
reopen_true r c is = absurd (true≢false (sym is))

reopens_true : (c : ℕ) (e : Entry) → reopens c e ≡ true → Reopens c e
reopens_true c (Refused u q i r) is = let p =
    and_parts (u.0 == 0) (is_reopen r c) is in (eqb-true u.0 0 p.0, reopen_true r c p.1)
reopens_true c e is = absurd (true≢false (sym is))

come_true : (o : Option ℕ) (e : Entry) → may_come_now o e ≡ true → MayComeNow o e
come_true None e is = tt
come_true (Some c) e is = reopens_true c e is

pub ordered_true : (trace : List Entry) → is_ordered trace ≡ true → IsOrdered trace
ordered_true [] is = tt
ordered_true (e ∷ older) is =
    let p = and_parts (may_follow older e) (may_come_now (broken_at older) e && is_ordered older) is in
    let q = and_parts (may_come_now (broken_at older) e) (is_ordered older) p.1 in
    (follow_true older e p.0, come_true (broken_at older) e q.0, ordered_true older q.1)

-- ---- every transaction has ended

abbrev pub all_ended : List Entry → Bool
all_ended trace = each_begun (λ t s. is_ended trace t) trace

pub each_ended : (trace : List Entry) (t s : ℕ) → all_ended trace ≡ true → IsBegun trace t s → IsEnded trace t
each_ended trace t s is h = ended_true trace t (each_true (λ t s. is_ended trace t) trace t s is h)
