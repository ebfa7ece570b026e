-- The scripts are looked at in their order, one after another.
use Rattle.std.proofs.Common.{◌≡◌, ◌≢◌, ◌⊎◌, ◌∙◌, ◌<◌, ◌==◌, inl, inr, None, Option, Some, ⊎_elim, ℕ}
use Rattle.std.proofs.Common.{ap, arith, cond, length, refl, subst, sym}
use Rattle.std.proofs.lemmas.Bool.{cases_eq, cond-false, cond-true, eq-eqb, ne_eqb}
use Rattle.std.specs.Prelude.{IfSome}
use Rattle.std.specs.Option.{option_or}
use Rattle.r4_base.specs.declared.things.ScriptNo.{ScriptNo}
use Rattle.r4_history.proofs.ServingSteps.{one_first}
use Rattle.r4_history.specs.Held.{IsOut, Need}
use Rattle.r4_history.specs.Serving.{IsPassedOver, IsReason, WaitsFor}
use Rattle.r4_history.specs.Tables.{IsFinished}
use Rattle.r4_history.specs.declared.why.Why.{Why}
use Rattle.r4_served.specs.r4_kept.View.{CoreSeen, tables_of}
use Rattle.r4_outside.specs.Device.{State}
use Rattle.r4_served.specs.Serving.{IsRead}
use Rattle.r4_turns.specs.Turns.{IsBefore, IsBehind, IsNext, IsScript, TurnsSeen, turn_at}
use Rattle.r4_turns.specs.declared.out.Out.{Out}
use Rattle.r4_next.specs.Order.{rank_of}
use Rattle.r4_next.specs.Taking.{AreRead, CanBeTaken, CannotBeTaken, IsDoneFor, IsReadAs, Serves, Takes, Waits}
use Rattle.r4_next.specs.Following.{taken_for}
use Rattle.r4_next.specs.declared.taken.Taken.TheVariants as taken
use Rattle.r4_next.specs.declared.taken.Taken.{Taken}
use Rattle.r4_next.proofs.Read.{read_both, read_itself, read_later}

-- ---- the order

-- the script was looked at, where this one was looked at last
abbrev pub IsUpTo : TurnsSeen → (last : Option ScriptNo) → (script : ℕ) → Type 0
IsUpTo t None q = ⊥
IsUpTo t (Some l) q = (q ≡ l.0) ⊎ IsBefore t q l.0

not_both : (t : TurnsSeen) (a b : ℕ) → IsBefore t a b → IsBefore t b a → ⊥
not_both t a b (inl lt) (inl gt) = omega (arith, lt, gt)
not_both t a b (inl lt) (inr same) = let e = same.0 in omega (arith, lt, e)
not_both t a b (inr same) (inl gt) = let e = same.0 in omega (arith, gt, e)
not_both t a b (inr one) (inr two) = let x = one.1 in let y = two.1 in omega (arith, x, y)

onward : (t : TurnsSeen) (a b c : ℕ) → IsBefore t a b → IsBefore t b c → IsBefore t a c
onward t a b c (inl x) (inl y) = inl (omega (arith, x, y))
onward t a b c (inl x) (inr y) = let e = y.0 in inl (omega (arith, x, e))
onward t a b c (inr x) (inl y) = let e = x.0 in inl (omega (arith, y, e))
onward t a b c (inr x) (inr y) = let p = x.1 in let q = y.1 in inr (x.0 ∙ y.0, omega (arith, p, q))

not_itself : (t : TurnsSeen) (a : ℕ) → IsBefore t a a → ⊥
not_itself t a h = not_both t a a h h

module _ {D : Type 0} (old : CoreSeen D) where
  abbrev t : TurnsSeen
  t = old.turns

  -- a script before the next one was looked at
  before_next : (last : Option ScriptNo) (s q : ℕ) → IsNext t last s → IsScript t q → IsBefore t q s
      → IsUpTo t last q
  before_next None s q next is before =
      absurd (not_both t q s before (next.first q is (λ e. not_itself t s (subst (λ z. IsBefore t z s) e before))))
  before_next (Some l) s q next is before = ⊎_elim (λ e. inl e)
      (⊎_elim (λ h. inr h)
      (λ behind. absurd (not_both t q s before (next.first q (is, behind)
      (λ e. not_itself t s (subst (λ z. IsBefore t z s) e before))))))
      (one_first (tables_of old) q l.0)

  up_to_next : (last : Option ScriptNo) (s : ScriptNo) (q : ℕ) → IsNext t last s.0 → IsScript t q
      → IsUpTo t (Some s) q → (q ≡ s.0) ⊎ IsUpTo t last q
  up_to_next last s q next is (inl e) = inl e
  up_to_next last s q next is (inr before) = inr (before_next last s.0 q next is before)

  -- once none is left, each was looked at
  all_up_to : (last : Option ScriptNo) → ((s : ℕ) → IsBehind t last s → ⊥) → (q : ℕ) → IsScript t q
      → IsUpTo t last q
  all_up_to None none q is = absurd (none q is)
  all_up_to (Some l) none q is =
      ⊎_elim (λ e. inl e) (⊎_elim (λ h. inr h) (λ behind. absurd (none q (is, behind))))
      (one_first (tables_of old) q l.0)

  next_is_script : (last : Option ScriptNo) (s : ℕ) → IsNext t last s → IsScript t s
  next_is_script None s next = next.behind
  next_is_script (Some l) s next = next.behind.0

  next_is_new : (last : Option ScriptNo) (s : ℕ) → IsNext t last s → IsUpTo t last s → ⊥
  next_is_new None s next up = up
  next_is_new (Some l) s next (inl e) = not_itself t s (subst (λ z. IsBefore t z s) (sym e) next.behind.1)
  next_is_new (Some l) s next (inr before) = not_both t s l.0 before next.behind.1

-- ---- what each next command reaches

abbrev pub with_need : (ℕ → Option Need) → (s : ℕ) → Option Need → ℕ → Option Need
with_need needs s need q = cond (q == s) need (needs q)

need_there : (needs : ℕ → Option Need) (s : ℕ) (need : Option Need) (q : ℕ) → q ≡ s
    → with_need needs s need q ≡ need
need_there needs s need q e = cond-true (q == s) need (needs q) (eq-eqb q s e)

need_elsewhere : (needs : ℕ → Option Need) (s : ℕ) (need : Option Need) (q : ℕ) → q ≢ s
    → with_need needs s need q ≡ needs q
need_elsewhere needs s need q other = cond-false (q == s) need (needs q) (ne_eqb q s other)

-- ---- the scripts that were looked at

-- The first of them that is not finished waits for this reason.
pub record IsFirstWaiting
    {D : Type 0} (old : CoreSeen D) (needs : ℕ → Option Need) (last : Option ScriptNo) (w : Why) : Type 0
  where
    pub script : ℕ
    pub is_script : IsScript old.turns script
    pub up_to : IsUpTo old.turns last script
    pub unfinished : IsFinished (tables_of old) script → ⊥
    pub first : (q : ℕ) → IsScript old.turns q → IsBefore old.turns q script → IsFinished (tables_of old) q
    pub reason : IsReason (tables_of old) old.locks (needs script) script (turn_at old.turns script).out w

abbrev pub IsFirstReason :
    {D : Type 0} → CoreSeen D → (ℕ → Option Need) → (last : Option ScriptNo) → Option Why → Type 0
IsFirstReason old needs last None = (q : ℕ) → IsScript old.turns q → IsUpTo old.turns last q
    → IsFinished (tables_of old) q
IsFirstReason old needs last (Some w) = IsFirstWaiting old needs last w

-- Up to the last one that was looked at, each script is passed over.
pub record IsOn
    {D : Type 0} (state : D → State) (old now : CoreSeen D) (last : Option ScriptNo) (first : Option Why) : Type 0
  where
    pub needs : ℕ → Option Need
    pub read : IsRead (state old.dev) (state now.dev) old now
    pub known : AreRead state (state old.dev) (state now.dev) old needs
    pub idle : first ≡ None → now ≡ old
    pub passed : (q : ℕ) → IsScript old.turns q → IsUpTo old.turns last q
        → IsPassedOver (tables_of old) old.locks needs q
    pub reason : IsFirstReason old needs last first

module _ {D : Type 0} (state : D → State) (old : CoreSeen D) where
  abbrev d : State
  d = state old.dev

  pub begins : IsOn state old old None None
  begins = record {
    needs = λ q. None;
    read = read_itself d old;
    idle = λ e. refl;
    known = λ q x n servable is. absurd (cc is);
    passed = λ q is up. absurd up;
    reason = λ q is up. absurd up;
  }

  -- a reason of a script stays one, where it is known of others what they reach
  passed_as : (needs more : ℕ → Option Need) (q : ℕ) → more q ≡ needs q
      → IsPassedOver (tables_of old) old.locks needs q → IsPassedOver (tables_of old) old.locks more q
  passed_as needs more q same p = ⊎_elim (λ f. inl f)
      (⊎_elim (λ o. inr (inl o))
      (λ w. inr (inr (w.0, subst (λ n. WaitsFor (tables_of old) old.locks n q w.0) (sym same) w.1)))) p

  reason_as : (needs more : ℕ → Option Need) (q : ℕ) (w : Why) → more q ≡ needs q
      → IsReason (tables_of old) old.locks (needs q) q (turn_at old.turns q).out w
      → IsReason (tables_of old) old.locks (more q) q (turn_at old.turns q).out w
  reason_as needs more q w same is =
      subst (λ n. IsReason (tables_of old) old.locks n q (turn_at old.turns q).out w) (sym same) is

  -- it is passed over for its reason
  passed_for : (need : Option Need) (s : ℕ) (w : Why) (o : Option Out) → (turn_at old.turns s).out ≡ o → IsScript old.turns s
      → IsReason (tables_of old) old.locks need s o w
      → ((out : Out) × IsOut old.turns s out) ⊎ ((v : Why) × WaitsFor (tables_of old) old.locks need s v)
  passed_for need s w (Some out) at is reason = inl (out, record { is_script = is; is_out = at })
  passed_for need s w None at is reason = inr (w, reason)

  module _ (now new : CoreSeen D) (last : Option ScriptNo) (first : Option Why)
      (on : IsOn state old now last first) (s : ScriptNo) (next : IsNext old.turns last s.0) where
    abbrev e : State
    e = state now.dev

    abbrev f : State
    f = state new.dev

    pub script_is : IsScript old.turns s.0
    script_is = next_is_script old last s.0 next

    not_yet : (q : ℕ) → IsUpTo old.turns last q → q ≡ s.0 → ⊥
    not_yet q up e = next_is_new old last s.0 next (subst (IsUpTo old.turns last) e up)

    -- what was looked at before is before the next one
    before_it : (l : Option ScriptNo) (q : ℕ) → IsNext old.turns l s.0 → IsUpTo old.turns l q → IsBefore old.turns q s.0
    before_it None q n up = absurd up
    before_it (Some z) q n (inl e) = subst (λ y. IsBefore old.turns y s.0) (sym e) n.behind.1
    before_it (Some z) q n (inr h) = onward old.turns q z.0 s.0 h n.behind.1

    still_up : (q : ℕ) → IsUpTo old.turns last q → IsUpTo old.turns (Some s) q
    still_up q up = inr (before_it last q next up)

    -- one that is finished
    pub on_finished : IsFinished (tables_of old) s.0 → IsOn state old now (Some s) first
    on_finished finished = record {
      needs = on.needs;
      read = on.read;
      known = on.known;
      idle = on.idle;
      passed = λ q is up. ⊎_elim
          (λ same. inl (subst (IsFinished (tables_of old)) (sym same) finished))
          (λ was. on.passed q is was) (up_to_next old last s q next is up);
      reason = so first on.reason;
    }
      where
        so : (o : Option Why) → IsFirstReason old on.needs last o → IsFirstReason old on.needs (Some s) o
        so None all = λ q is up. ⊎_elim (λ same. subst (IsFinished (tables_of old)) (sym same) finished)
            (λ was. all q is was) (up_to_next old last s q next is up)
        so (Some w) one = record {
          script = one.script;
          is_script = one.is_script;
          up_to = still_up one.script one.up_to;
          unfinished = one.unfinished;
          first = one.first;
          reason = one.reason;
        }

    -- one that cannot be taken
    module _ (w : Why) (cannot : CannotBeTaken state d f old s.0 w) (read : IsRead e f now new) where
      abbrev more : ℕ → Option Need
      more = with_need on.needs s.0 cannot.need

      elsewhere : (q : ℕ) → IsUpTo old.turns last q → more q ≡ on.needs q
      elsewhere q up = need_elsewhere on.needs s.0 cannot.need q (not_yet q up)

      known_more : (q : ℕ) → IsReadAs state d f old q (more q)
      known_more q = ⊎_elim
          (λ same. subst (IsReadAs state d f old q) (sym (need_there on.needs s.0 cannot.need q same))
          (subst (λ z. IsReadAs state d f old z cannot.need) (sym same) cannot.read))
          (λ other. subst (IsReadAs state d f old q) (sym (need_elsewhere on.needs s.0 cannot.need q other))
          (read_later state d e f old q (on.needs q) read.device (on.known q)))
          (cases_eq q s.0)

      here : IsReason (tables_of old) old.locks (more s.0) s.0 (turn_at old.turns s.0).out w
      here = subst (λ n. IsReason (tables_of old) old.locks n s.0 (turn_at old.turns s.0).out w)
          (sym (need_there on.needs s.0 cannot.need s.0 refl)) cannot.reason

      passed_more : (q : ℕ) → IsScript old.turns q → IsUpTo old.turns (Some s) q
          → IsPassedOver (tables_of old) old.locks more q
      passed_more q is up = ⊎_elim
          (λ same. subst (IsPassedOver (tables_of old) old.locks more) (sym same)
          (inr (passed_for (more s.0) s.0 w (turn_at old.turns s.0).out refl script_is here)))
          (λ was. passed_as on.needs more q (elsewhere q was) (on.passed q is was))
          (up_to_next old last s q next is up)

      so_waits : (o : Option Why) → IsFirstReason old on.needs last o
          → IsFirstReason old more (Some s) (option_or o (Some w))
      so_waits None all = record {
        script = s.0;
        is_script = script_is;
        up_to = inl refl;
        unfinished = cannot.unfinished;
        first = λ q is before. all q is (before_next old last s.0 q next is before);
        reason = here;
      }
      so_waits (Some v) one = record {
        script = one.script;
        is_script = one.is_script;
        up_to = still_up one.script one.up_to;
        unfinished = one.unfinished;
        first = one.first;
        reason = reason_as on.needs more one.script v (elsewhere one.script one.up_to) one.reason;
      }

      some_reason : (o : Option Why) → option_or o (Some w) ≡ None → ⊥
      some_reason None h = cc h
      some_reason (Some v) h = cc h

      pub on_waiting : IsOn state old new (Some s) (option_or first (Some w))
      on_waiting = record {
        needs = more;
        read = read_both d e f old now new on.read read;
        known = known_more;
        idle = λ none. absurd (some_reason first none);
        passed = passed_more;
        reason = so_waits first on.reason;
      }

    -- one that is served
    pub serves : (t : Taken) → CanBeTaken old s.0 → IsDoneFor e f now new s t → Serves state old new t
    serves t can done = record {
      needs = none_here;
      script = s;
      mid = now;
      read = on.read;
      known = λ q. ⊎_elim
          (λ same. λ x n servable is. absurd (cc (sym (need_there on.needs s.0 None q same) ∙ is)))
          (λ other. subst (IsReadAs state d e old q) (sym (need_elsewhere on.needs s.0 None q other)) (on.known q))
          (cases_eq q s.0);
      next = record {
        is_script = script_is;
        goes_on = λ p. ⊎_elim can.unfinished
            (⊎_elim (λ o. absurd (cc (sym can.free ∙ o.1.is_out)))
            (λ v. can.goes_on v.0 (subst (λ n. WaitsFor (tables_of old) old.locks n s.0 v.0)
            (need_there on.needs s.0 None s.0 refl) v.1))) p;
        order = λ q is before.
            (let up = before_next old last s.0 q next is before in
            passed_as on.needs none_here q (need_elsewhere on.needs s.0 None q (not_yet q up)) (on.passed q is up));
      };
      done = done;
    }
      where
        none_here : ℕ → Option Need
        none_here = with_need on.needs s.0 None

  -- none is left
  module _ (now : CoreSeen D) (last : Option ScriptNo) (none : (s : ℕ) → IsBehind old.turns last s → ⊥) where
    pub waits_so : (w : Why) → IsOn state old now last (Some w) → Waits state old now w
    waits_so w on = record {
      needs = on.needs;
      read = on.read;
      known = on.known;
      waits = record {
        script = on.reason.script;
        is_script = on.reason.is_script;
        unfinished = on.reason.unfinished;
        first = on.reason.first;
        reason = on.reason.reason;
        all = λ q is. on.passed q is (all_up_to old last none q is);
      };
    }

    pub finished_so : IsOn state old now last None
        → ((s : ℕ) → IsScript old.turns s → IsFinished (tables_of old) s) × (now ≡ old)
    finished_so on = (λ q is. on.reason q is (all_up_to old last none q is), on.idle refl)

-- ---- the scripts come to an end

pub rank_rises : (t : TurnsSeen) (last : Option ScriptNo) (s : ScriptNo) → IfSome last (λ l. l.0 < 4294967296)
    → IsNext t last s.0 → rank_of t last < rank_of t (Some s)
rank_rises t None s small next = let some = next.behind.0 in omega (arith, some)
rank_rises t (Some l) s small next = by next.behind.1
  where
    by : IsBefore t l.0 s.0 → rank_of t (Some l) < rank_of t (Some s)
    by (inl lt) = omega (arith, lt, small)
    by (inr both) = let e = both.0 in let lt = both.1 in omega (arith, e, lt)

-- ---- what holds at each turn of the loop

module _ {D : Type 0} (state : D → State) (old : CoreSeen D) where
  pub finished_before : (now : CoreSeen D) → IsRead (state old.dev) (state now.dev) old now → (s : ℕ)
      → IsFinished (tables_of now) s → IsFinished (tables_of old) s
  finished_before now read s f =
      let was = subst (λ (z : CoreSeen D). IsFinished (tables_of z) s) read.same f in
      record { answered = was.answered; closed = was.closed }

  pub next_of_old : (now : CoreSeen D) → IsRead (state old.dev) (state now.dev) old now → (last : Option ScriptNo) (s : ℕ)
      → IsNext now.turns last s → IsNext old.turns last s
  next_of_old now read last s next =
      subst (λ t. IsNext t last s) (ap (λ (x : CoreSeen D). x.turns) read.same) next

  -- the loop goes on
  pub goes_on : (new : CoreSeen D) (s : ScriptNo) (first : Option Why) → IsOn state old new (Some s) first
      → IsScript old.turns s.0 → s.0 < 4294967296 → length old.atoms.txns < 4294967295
      → IsOn state old new (Some s) first × IsScript new.turns s.0 × (s.0 < 4294967296)
      × (length new.atoms.txns < 4294967295)
  goes_on new s first on is small few = (
    on,
    subst (λ t. IsScript t s.0) (sym (ap (λ (x : CoreSeen D). x.turns) on.read.same)) is,
    small,
    subst (λ a. length a < 4294967295) (sym (ap (λ (x : CoreSeen D). x.atoms.txns) on.read.same)) few,
  )

  pub takes_served : (new : CoreSeen D) (t : Taken) → Serves state old new t → Takes state old new t
  takes_served new (taken.Work task) is = is
  takes_served new (taken.Replied script) is = is
  takes_served new (taken.Flush atom) is = is
  takes_served new (taken.Wait w) is = absurd is.done
  takes_served new taken.Finished is = absurd is.done

  pub takes_none : (now : CoreSeen D) (last : Option ScriptNo) → ((s : ℕ) → IsBehind now.turns last s → ⊥)
      → (first : Option Why) → IsOn state old now last first → Takes state old now (taken_for first)
  takes_none now last none None on = finished_so state old now last (left_none on) on
    where
      left_none : IsOn state old now last None → (s : ℕ) → IsBehind old.turns last s → ⊥
      left_none on s behind = none s (subst (λ t. IsBehind t last s)
          (sym (ap (λ (x : CoreSeen D). x.turns) on.read.same)) behind)
  takes_none now last none (Some w) on = waits_so state old now last (left_some on) w on
    where
      left_some : IsOn state old now last (Some w) → (s : ℕ) → IsBehind old.turns last s → ⊥
      left_some on s behind = none s (subst (λ t. IsBehind t last s)
          (sym (ap (λ (x : CoreSeen D). x.turns) on.read.same)) behind)
