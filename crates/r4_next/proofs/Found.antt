-- What is found of a script that is looked at.
use Rattle.std.proofs.Common.{Bool, ◌≡◌, ◌∙◌, ◌+◌, ◌<◌, ◌≤◌, ℕ, None, Option, Some, List, [], ◌∷◌, zero, suc, true, true≢false, ap, arith, false, length, refl, subst, sym}
use Rattle.std.specs.Prelude.{slice_get}
use Rattle.r4_atoms.specs.Atoms.{AllCommitted, IsSmallestAtom, IsUncommittedOf, NonePasses, is_pending_as}
use Rattle.r4_atoms.specs.declared.things.Uncommitted.TheVariants as uncommitted
use Rattle.r4_base.specs.declared.things.AtomNo.{AtomNo}
use Rattle.r4_base.specs.declared.things.ScriptNo.{ScriptNo}
use Rattle.r4_base.specs.declared.things.TaskId.{TaskId}
use Rattle.r4_content.specs.Locality.{commands}
use Rattle.r4_content.specs.Meaning.{greatest_size}
use Rattle.r4_content.specs.declared.command.Command.{Command}
use Rattle.r4_content.specs.declared.command.Command.TheVariants as asks
use Rattle.r4_history.proofs.WaitingSteps.{next_suits}
use Rattle.r4_history.specs.Held.{Need, TasksTell}
use Rattle.r4_history.specs.Serving.{IsHeldUp, IsInTheWay, IsInTheWayOf, IsReason, Suits}
use Rattle.r4_history.specs.Tables.{IsFinished, Stands, inside, next_at}
use Rattle.r4_history.specs.declared.why.Why.{Why}
use Rattle.r4_history.specs.declared.why.Why.TheVariants as why
use Rattle.r4_served.proofs.r4_kept.Turning.{owed_answered}
use Rattle.r4_served.specs.r4_kept.History.{owed, owed_for_commit}
use Rattle.r4_served.specs.r4_kept.Kept.{IsKept}
use Rattle.r4_served.specs.r4_kept.Naming.{Naming}
use Rattle.r4_served.specs.r4_kept.View.{CoreSeen, committing, tables_of}
use Rattle.r4_served.specs.r4_kept.declared.parts.Commit.{Commit}
use Rattle.std.specs.Option.{option_map}
use Rattle.r4_outside.specs.Device.{State}
use Rattle.r4_served.specs.r4_ready.Rooms.{HasMoreRoom}
use Rattle.r4_served.specs.Serving.{IsLeft, IsRead, IsServed, IsServedBy}
use Rattle.r4_history.specs.r4_trace.Job.{IsWork}
use Rattle.r4_turns.specs.Turns.{IsScript, answered_at, answered_one, commands_at, turn_at}
use Rattle.r4_turns.specs.declared.out.Out.{Out}
use Rattle.r4_turns.specs.declared.turn.Open.{Open}
use Rattle.r4_served.specs.r4_extent_reaching.Answers.{IsReach}
use Rattle.r4_served.specs.r4_extent_reaching.declared.reached.Reach.{Reach}
use Rattle.r4_served.specs.r4_search.Keeping.{keeping_state}
use Rattle.r4_served.specs.r4_search.Pool.{PoolState}
use Rattle.r4_served.specs.r4_ready.Readiness.{parts_of}
use Rattle.r4_served.specs.r4_serve.Serving.{IsAskedOf, PartsSeen, need_in}
use Rattle.r4_served.specs.r4_serve.declared.asked.Asked.{Asked}
use Rattle.r4_served.specs.r4_serve.declared.asked.Asked.TheVariants as asked
use Rattle.r4_served.specs.declared.serving.Served.{Served}
use Rattle.r4_served.specs.declared.serving.Served.TheVariants as served
use Rattle.r4_served.specs.r4_take.Sending.{IsNamed, IsServable}
use Rattle.r4_next.specs.Following.{looked_as}
use Rattle.r4_next.specs.declared.taken.Looked.TheVariants as looked
use Rattle.r4_next.specs.declared.taken.Taken.TheVariants as taken
use Rattle.r4_next.specs.Taking.{CanBeTaken, CannotBeTaken, IsLooked, IsReadAs, IsReplied, RepliesTo, WasRead}
use Rattle.r4_next.proofs.Read.{leaves_itself, read_itself}

-- ---- lists

get_within : {A : Type 0} (xs : List A) (i : ℕ) (x : A) → slice_get xs i ≡ Some x → i < length xs
get_within [] i x e = absurd (cc e)
get_within (y ∷ xs) zero x e = omega arith
get_within (y ∷ xs) (suc i) x e = let lt = get_within xs i x e in omega (arith, lt)

module _ {D : Type 0} (c : CoreSeen D) (s : ℕ) where
  pub unfinished_by_next : (x : Command) → next_at c.turns s ≡ Some x → IsFinished (tables_of c) s → ⊥
  unfinished_by_next x next f =
      let lt = get_within (commands_at c.turns s) (answered_at c.turns s) x next in
      let all = f.answered in
      omega (arith, lt, all)

  pub unfinished_by_txn : (o : Open) → c.broken ≡ None → (turn_at c.turns s).transaction ≡ Some o
      → IsFinished (tables_of c) s → ⊥
  unfinished_by_txn o sound some f = absurd (cc (sym some ∙ f.closed sound))

  -- it can be taken, since nothing holds up what comes next
  pub can_take : (n : Option Command) → next_at c.turns s ≡ n → (IsFinished (tables_of c) s → ⊥)
      → (turn_at c.turns s).out ≡ None → ((w : Why) → IsHeldUp (tables_of c) c.locks None s n w → ⊥)
      → CanBeTaken c s
  can_take n next unfinished free never = record {
    unfinished = unfinished;
    free = free;
    goes_on = λ w h. never w (subst (λ (z : Option Command). IsHeldUp (tables_of c) c.locks None s z w) next h.held_up);
  }

  pub can_after_failure : (clock : ℕ) → c.broken ≡ Some clock → (x : Command) → next_at c.turns s ≡ Some x
      → (turn_at c.turns s).out ≡ None → CanBeTaken c s
  can_after_failure clock failed x next free = record {
    unfinished = unfinished_by_next x next;
    free = free;
    goes_on = λ w h. absurd (cc (sym h.sound ∙ failed));
  }

  -- it cannot, since this holds up what comes next
  pub cannot_take : (state : D → State) (d e : State) (n : Option Command) → next_at c.turns s ≡ n → c.broken ≡ None
      → (IsFinished (tables_of c) s → ⊥) → (turn_at c.turns s).out ≡ None → (need : Option Need)
      → IsReadAs state d e c s need → (w : Why) → IsHeldUp (tables_of c) c.locks need s n w
      → CannotBeTaken state d e c s w
  cannot_take state d e n next sound unfinished free need read w held = record {
    unfinished = unfinished;
    need = need;
    read = read;
    reason = subst (λ (o : Option Out). IsReason (tables_of c) c.locks need s o w) (sym free) (record {
      sound = sound;
      held_up = subst (λ (z : Option Command). IsHeldUp (tables_of c) c.locks need s z w) (sym next) held;
    });
  }

  -- a task of it is out
  pub cannot_out : (state : D → State) (d e : State) (out : Out) → (turn_at c.turns s).out ≡ Some out → IsScript c.turns s
      → TasksTell (tables_of c) c.locks → CannotBeTaken state d e c s (why.Out out.task)
  cannot_out state d e out some is tells =
      let served = tells.served s out (record { is_script = is; is_out = some }) in
      record {
        unfinished = unfinished_by_next served.command served.next;
        need = None;
        read = λ x n servable known. absurd (cc known);
        reason = subst (λ (o : Option Out). IsReason (tables_of c) c.locks None s o (why.Out out.task)) (sym some) refl;
      }

  out_of : (o : Option Out) (task : TaskId) → option_map (λ (x : Out). x.task) o ≡ Some task
      → (out : Out) × (o ≡ Some out) × (out.task ≡ task)
  out_of None task e = absurd (cc e)
  out_of (Some out) task e = (out, refl, cc e)

  pub cannot_out_as : (state : D → State) (d e : State) (task : TaskId)
      → option_map (λ (x : Out). x.task) (turn_at c.turns s).out ≡ Some task → IsScript c.turns s
      → TasksTell (tables_of c) c.locks → CannotBeTaken state d e c s (why.Out task)
  cannot_out_as state d e task at is tells =
      let one = out_of (turn_at c.turns s).out task at in
      subst (λ (t : TaskId). CannotBeTaken state d e c s (why.Out t)) one.2 (cannot_out state d e one.0 one.1 is tells)

  -- ---- `commit`

  pub acked_goes_on : AllCommitted c.atoms s → (w : Why)
      → IsHeldUp (tables_of c) c.locks None s (Some asks.Commit) w → ⊥
  acked_goes_on all w held = held.0 all

  pub flush_goes_on : (tables_of c).commit ≡ None → (a : AtomNo) → IsUncommittedOf c.atoms s (uncommitted.Closed a)
      → (w : Why) → IsHeldUp (tables_of c) c.locks None s (Some asks.Commit) w → ⊥
  flush_goes_on rests a closed (why.Sealed atom) held = absurd (cc (sym rests ∙ held.1))
  flush_goes_on rests a closed (why.Open atom txn) held = none_pass held.1.1.0 closed
    where
      none_pass : NonePasses c.atoms (is_pending_as c.atoms s true) → IsSmallestAtom c.atoms (is_pending_as c.atoms s true) a.0
          → ⊥
      none_pass none some = true≢false (sym some.passes.2 ∙ none some.passes.0 some.passes.1)
  flush_goes_on rests a closed (why.Out task) held = held.1
  flush_goes_on rests a closed (why.Held node holder) held = held.1

  -- ---- work

  pub work_goes_on : (x : Command) → IsWork x → (w : Why) → IsHeldUp (tables_of c) c.locks None s (Some x) w → ⊥
  work_goes_on asks.Begin work w held = absurd work
  work_goes_on asks.End work w held = absurd work
  work_goes_on asks.Commit work w held = absurd work
  work_goes_on x work w held = held

  held_work : (x : Command) → IsWork x → (need : Option Need) (w : Why) → IsInTheWayOf c.atoms c.locks need w
      → IsHeldUp (tables_of c) c.locks need s (Some x) w
  held_work asks.Begin work need w h = absurd work
  held_work asks.End work need w h = absurd work
  held_work asks.Commit work need w h = absurd work
  held_work x work need w h = h

-- ---- work that was served

module _ {D : Type 0} (state : D → State) (c new : CoreSeen D) (s : ScriptNo) (sound : c.broken ≡ None) where
  abbrev d : State
  d = state c.dev

  abbrev e : State
  e = state new.dev

  waits_by : (w : Why) (is : IsServed d e c new s (served.Waits w)) (need : Need)
      → (reach : Reach) → IsReach (keeping_state is.asks.after true is.asks.met) c.tree is.named reach
      → need ≡ need_in reach → IsInTheWay c.atoms c.locks need w → CannotBeTaken state d e c s.0 w
  waits_by w is need reach reaches same in_way =
      let x = is.command in
      cannot_take c s.0 state d e (Some x) is.servable.stands.next sound
      (unfinished_by_next c s.0 x is.servable.stands.next) is.servable.free (Some need)
      (λ y n servable known. subst (WasRead state d e c s.0 y) (cc known) (record {
        draws = is.draws;
        named = is.named;
        name = subst (λ (z : Command). IsNamed c s.0 z is.draws is.named)
            (cc (sym is.servable.stands.next ∙ servable.stands.next)) is.name;
        from = c.dev;
        to = new.dev;
        before = leaves_itself d;
        behind = leaves_itself e;
        after = is.asks.after;
        met = is.asks.met;
        same = is.asks.same;
        reach = reach;
        is = reaches;
        need_is = same;
      }))
      w (held_work c s.0 x is.servable.work (Some need) w in_way)

  pub served_waits : (w : Why) → IsServed d e c new s (served.Waits w) → CannotBeTaken state d e c s.0 w × IsRead d e c new
  served_waits w is = by is.told refl
    where
      parts : PartsSeen
      parts = parts_of c

      pool : PoolState
      pool = keeping_state is.asks.after true is.asks.met

      answer : (told : Asked) → is.told ≡ told → IsServedBy is.mid new s is.named is.draws told (served.Waits w)
      answer told at =
          subst (λ z. IsServedBy is.mid new s is.named is.draws z (served.Waits w)) at is.served

      reached : (told : Asked) → is.told ≡ told → IsAskedOf pool parts is.named told
      reached told at = subst (IsAskedOf pool parts is.named) at is.asks.is

      still : new ≡ is.mid → IsRead d e c new
      still same = subst (IsRead d e c) (sym same) is.read

      by : (told : Asked) → is.told ≡ told → CannotBeTaken state d e c s.0 w × IsRead d e c new
      by (asked.Refused reply) at = let h = answer (asked.Refused reply) at in absurd (cc h.0)
      by (asked.Tall height) at = let h = answer (asked.Tall height) at in absurd (cc h.0)
      by (asked.Ready ready) at = let h = answer (asked.Ready ready) at in absurd (cc h.1)
      by (asked.Sealed atom) at =
          let h = answer (asked.Sealed atom) at in
          let a = reached (asked.Sealed atom) at in
          let so : w ≡ why.Sealed atom = cc h.0 in (
            waits_by w is (need_in a.0) a.0 a.1 refl
                (subst (IsInTheWay c.atoms c.locks (need_in a.0)) (sym so) a.2.1),
            still h.1,
          )
      by (asked.Busy node holder) at =
          let h = answer (asked.Busy node holder) at in
          let a = reached (asked.Busy node holder) at in
          let so : w ≡ why.Held node holder = cc h.0 in (
            waits_by w is (need_in a.0) a.0 a.1 refl
                (subst (IsInTheWay c.atoms c.locks (need_in a.0)) (sym so) a.2.1),
            still h.1,
          )

-- ---- room

pub room_for_one : {D : Type 0} (c m : CoreSeen D) → HasMoreRoom c m → (s : ℕ) → IsScript c.turns s
    → owed m.turns + owed_for_commit m.commit + 1 ≤ m.trace.spare
    → owed (answered_one m.turns s) + owed_for_commit m.commit + 1 ≤ m.trace.spare
room_for_one c m more s is room =
    let now = subst (λ t. IsScript t s) (sym (ap (λ (x : CoreSeen _). x.turns) more.same)) is in
    let less = owed_answered m.turns s now in
    omega (arith, less, room)

-- ---- without memory

module _ {D : Type 0} where
  -- there may be more room, and the device was not read
  pub left_in_room : (state : D → State) (c new : CoreSeen D) → HasMoreRoom c new
      → IsLeft (state c.dev) (state new.dev) c new
  left_in_room state c new more =
      subst (λ v. IsLeft (state c.dev) (state v) c new) (sym (ap (λ (x : CoreSeen D). x.dev) more.same)) (record {
        mid = c;
        read = read_itself (state c.dev) c;
        room = record { mid = c; holds = record { holds = λ task. refl; same = refl }; more = more };
      })

  -- ---- what suits the transaction

  pub next_fits : (r : Naming) (d : State) (c : CoreSeen D) → IsKept r d c → (s : ℕ) → IsScript c.turns s
      → c.broken ≡ None → (n : Option Command) → next_at c.turns s ≡ n → (o : Option Open)
      → (turn_at c.turns s).transaction ≡ o → Suits o n
  next_fits r d c k s is sound n next o at =
      next_suits (commands greatest_size) None d.clock (tables_of c) c.trace.entries (k.history.told None tt) s o n
      k.tables.ordered sound (record { is_script = is; transaction = at; next = next })

pub inside_of : (o : Open) → o.single ≡ false → o ≡ inside o.txn
inside_of o single = ap (λ (b : Bool). record { txn = o.txn; single = b }) single

-- ---- the commit under way

pub under_way : (commit : Option Commit) (o : Option AtomNo) → o ≡ option_map (λ (k : Commit). k.atom) commit
    → committing commit ≡ option_map (λ (a : AtomNo). a.0) o
under_way None o e = sym (ap (option_map (λ (a : AtomNo). a.0)) e)
under_way (Some k) o e = sym (ap (option_map (λ (a : AtomNo). a.0)) e)

-- ---- how a script stands

stands_outside : (o : Option Open) → Suits o (Some asks.Begin) → o ≡ None
stands_outside None ok = refl
stands_outside (Some o) ok = absurd ok

stands_apart : (o : Option Open) → Suits o (Some asks.Commit) → o ≡ None
stands_apart None ok = refl
stands_apart (Some o) ok = absurd ok

module _ {D : Type 0} (r : Naming) (d : State) (c : CoreSeen D) (k : IsKept r d c) (s : ℕ) (is : IsScript c.turns s)
    (sound : c.broken ≡ None) where
  fits : (n : Option Command) → next_at c.turns s ≡ n → (o : Option Open) → (turn_at c.turns s).transaction ≡ o
      → Suits o n
  fits n next o at = next_fits r d c k s is sound n next o at

  pub begin_stands : next_at c.turns s ≡ Some asks.Begin → Stands c.turns s None (Some asks.Begin)
  begin_stands next = record {
    is_script = is;
    transaction = stands_outside (turn_at c.turns s).transaction (fits (Some asks.Begin) next _ refl);
    next = next;
  }

  pub commit_stands : next_at c.turns s ≡ Some asks.Commit → Stands c.turns s None (Some asks.Commit)
  commit_stands next = record {
    is_script = is;
    transaction = stands_apart (turn_at c.turns s).transaction (fits (Some asks.Commit) next _ refl);
    next = next;
  }

  pub end_stands : next_at c.turns s ≡ Some asks.End → (o : Open) → (turn_at c.turns s).transaction ≡ Some o
      → Stands c.turns s (Some (inside o.txn)) (Some asks.End)
  end_stands next o at = record {
    is_script = is;
    transaction = at ∙ ap Some (inside_of o (fits (Some asks.End) next (Some o) at));
    next = next;
  }

  pub leave_stands : next_at c.turns s ≡ None → (o : Open) → (turn_at c.turns s).transaction ≡ Some o
      → Stands c.turns s (Some (inside o.txn)) None
  leave_stands next o at = record {
    is_script = is;
    transaction = at ∙ ap Some (inside_of o (fits None next (Some o) at));
    next = next;
  }

  pub no_end_outside : next_at c.turns s ≡ Some asks.End → (turn_at c.turns s).transaction ≡ None → ⊥
  no_end_outside next at = fits (Some asks.End) next None at

-- ---- a script that is finished

get_past : {A : Type 0} (xs : List A) (i : ℕ) → slice_get xs i ≡ None → length xs ≤ i
get_past [] i e = omega arith
get_past (y ∷ xs) zero e = absurd (cc e)
get_past (y ∷ xs) (suc i) e = let le = get_past xs i e in omega (arith, le)

pub is_finished : {D : Type 0} (c : CoreSeen D) (s : ℕ) → next_at c.turns s ≡ None
    → answered_at c.turns s ≤ length (commands_at c.turns s)
    → (c.broken ≡ None → (turn_at c.turns s).transaction ≡ None) → IsFinished (tables_of c) s
is_finished c s next within closed = record {
  answered = (let past = get_past (commands_at c.turns s) (answered_at c.turns s) next in omega (arith, past, within));
  closed = closed;
}

-- ---- what is answered

module _ {D : Type 0} (d e : State) (old new : CoreSeen D) (s : ScriptNo) where
  pub replied_after_failure : (clock : ℕ) → old.broken ≡ Some clock
      → RepliesTo d e old new s (Some clock) (next_at old.turns s.0) → IsReplied d e old new s
  replied_after_failure clock failed is =
      subst (λ (b : Option ℕ). RepliesTo d e old new s b (next_at old.turns s.0)) (sym failed) is

  pub replied_next : (n : Option Command) → old.broken ≡ None → next_at old.turns s.0 ≡ n
      → RepliesTo d e old new s None n → IsReplied d e old new s
  replied_next n sound next is =
      subst (λ (b : Option ℕ). RepliesTo d e old new s b (next_at old.turns s.0)) (sym sound)
      (subst (λ (z : Option Command). RepliesTo d e old new s None z) (sym next) is)

  pub refused_work : (x : Command) → IsWork x → IsServed d e old new s served.Refused
      → RepliesTo d e old new s None (Some x)
  refused_work asks.Begin work is = absurd work
  refused_work asks.End work is = absurd work
  refused_work asks.Commit work is = absurd work
  refused_work x work is = is

pub work_looked : {D : Type 0} (state : D → State) (c new : CoreSeen D) (s : ScriptNo) → c.broken ≡ None → (a : Served)
    → IsServed (state c.dev) (state new.dev) c new s a → IsLooked state c new s (looked_as s a)
work_looked state c new s sound a is = by a is
  where
    can : (x : Command) → IsServable c s.0 x → CanBeTaken c s.0
    can x servable =
        can_take c s.0 (Some x) servable.stands.next (unfinished_by_next c s.0 x servable.stands.next) servable.free
        (work_goes_on c s.0 x servable.work)

    by : (a : Served) → IsServed (state c.dev) (state new.dev) c new s a → IsLooked state c new s (looked_as s a)
    by served.Refused is = (
      can is.command is.servable,
      (
        refl,
        replied_next (state c.dev) (state new.dev) c new s (Some is.command) sound is.servable.stands.next
            (refused_work (state c.dev) (state new.dev) c new s is.command is.servable.work is),
      ),
    )
    by (served.Waits w) is = served_waits state c new s sound w is
    by (served.Out task) is = (can is.command is.servable, (sound, is))

-- what is answered by a little step is taken
module _ {D : Type 0} (state : D → State) (c new : CoreSeen D) (s : ScriptNo) (n : Option Command)
    (next : next_at c.turns s.0 ≡ n) (free : (turn_at c.turns s.0).out ≡ None)
    (unfinished : IsFinished (tables_of c) s.0 → ⊥) where
  pub takes_reply : c.broken ≡ None
      → ((w : Why) → IsHeldUp (tables_of c) c.locks None s.0 n w → ⊥)
      → RepliesTo (state c.dev) (state new.dev) c new s None n
      → IsLooked state c new s (looked.Takes (taken.Replied s))
  takes_reply sound goes_on is = (
    can_take c s.0 n next unfinished free goes_on,
    (
      refl,
      replied_next (state c.dev) (state new.dev) c new s n sound next is,
    ),
  )
