-- What the turns say of ids, step by step.
use Rattle.std.proofs.Common.{◌≡◌, inl, inr, ⊎_elim, ℕ, zero, suc, ◌+◌, ◌-◌, ◌<◌, ◌≤◌, ◌==◌, Bool, true, false, true≢false, cond, min, List, [], ◌∷◌, length, replicate, get_or, slice_get, Option, Some, None, refl, sym, ◌∙◌, ap, subst, arith}
use Rattle.std.proofs.lemmas.Bool.{cases_Bool, cases_eq, cases_lt, cond-false, cond-true, eq-eqb, false≢true, ne_eqb}
use Rattle.std.proofs.lemmas.List.{get_or-set_other, length-set, length-append, set-set, get_or_past}
use Rattle.r4_base.specs.declared.things.Oid.{Oid}
use Rattle.r4_base.specs.declared.things.ScriptNo.{ScriptNo}
use Rattle.r4_base.specs.declared.things.TxnNo.{TxnNo}
use Rattle.r4_content.specs.Meaning.{makes_object, with_id}
use Rattle.r4_content.specs.declared.command.Command.{Command}
use Rattle.r4_content.specs.declared.command.Command.TheVariants as commands
use Rattle.r4_content.specs.declared.reply.Reply.{Reply}
use Rattle.r4_turns.specs.r4_script.declared.job.Job.{Job}
use Rattle.r4_trace.specs.Ids.{IsDrawn, IsFree, IsInBounds, IsNewId, Start, id_of, no_id}
use Rattle.r4_trace.specs.Job.{Asked, commands_of, pushed}
use Rattle.r4_trace.specs.declared.entry.Entry.{Entry}
use Rattle.r4_trace.specs.declared.entry.Entry.TheVariants.{Done}
use Rattle.r4_turns.specs.Turns.{HasNext, IsScript, TurnsSeen, answered_at, answered_one, commands_at, dropped, entered, given_back, gone_out, left, start as no_turn, started, turn_at, with_command, with_turn}
use Rattle.r4_turns.specs.declared.out.Numbers.{Numbers}
use Rattle.r4_turns.specs.declared.out.Out.{Out}
use Rattle.r4_turns.specs.declared.turn.Open.{Open}
use Rattle.r4_turns.specs.declared.turn.Turn.{Turn}
use Rattle.r4_history.specs.Tables.{asked, next_at}
use Rattle.r4_history.specs.Told.{HasNewId}
use Rattle.r4_history.specs.Drawn.{AreDrawn, BeginsAt, GetsNumbers, IsNoDone, ahead_at, ahead_by, drawn_at, id_for, makers_by, next_after, numbers_of, numbers_in}
use Rattle.r4_history.proofs.Drawing.{Drawn, Ids, draw, drawn_on, from_few, from_grown, from_mono, raised}
use Rattle.r4_history.proofs.Places.{commands_are, commands_pushed, next_pushed, next_there, turn_now}
use Rattle.r4_history.proofs.RunSteps.{pushed_is}

-- ---- commands that make an object

made_id : (c : Command) (id : Oid) → makes_object c ≡ true → id_of (with_id id c) ≡ Some id.0
made_id (commands.Create p old) id is = refl
made_id (commands.Mkdir p old) id is = refl
made_id c id is = absurd (false≢true is)

made_none : (c : Command) (id : Oid) → makes_object c ≡ false → id_of (with_id id c) ≡ None
made_none (commands.Create p old) id is = absurd (true≢false is)
made_none (commands.Mkdir p old) id is = absurd (true≢false is)
made_none c id is = refl

had_id : (c : Command) → makes_object c ≡ true → (y : ℕ) × (id_of c ≡ Some y)
had_id (commands.Create p old) is = (old.0, refl)
had_id (commands.Mkdir p old) is = (old.0, refl)
had_id c is = absurd (false≢true is)

-- ---- turns, script by script

abbrev ids_of : TurnsSeen → (next : ℕ) → Ids
ids_of t next = record { next = next; drawn = drawn_at t; ahead = ahead_at t }

as_drawn : (o : ℕ) (t : TurnsSeen) (next : ℕ) (trace : List Entry) → AreDrawn o t next trace
    → Drawn o (asked t.job) (ids_of t next) trace
as_drawn o t next trace h = record {
  least = h.least;
  few = h.few;
  small = h.small;
  done = h.done;
  waits = h.waits;
  apart = h.apart;
  each = h.each;
}

-- what is drawn for turns that draw no more than these ids, and are as far ahead
drawn_from : (o : ℕ) (t : TurnsSeen) (ids : Ids) (trace : List Entry) (job : Asked) → Drawn o job ids trace
    → ((s x : ℕ) → drawn_at t s ≡ Some x → ids.drawn s ≡ Some x)
    → makers_by job ids.ahead ≤ makers_by (asked t.job) (ahead_at t)
    → ((s : ℕ) (n : Numbers) → IsScript t s → numbers_of (turn_at t s) ≡ Some n → HasNext t s)
    → AreDrawn o t ids.next trace
drawn_from o t ids trace job h back le only = record {
  least = h.least;
  few = omega (arith, h.few, le);
  small = h.small;
  done = h.done;
  waits = λ s x is. let w = h.waits s x (back s x is) in (w.0, omega (arith, w.1, le), w.2);
  apart = λ s x is. h.apart s x (back s x is);
  each = λ s q x is iq. h.each s q x (back s x is) (back q x iq);
  only_next = only;
}

-- the turn of another script
pub turn_other : (t : TurnsSeen) (s q : ℕ) (turn : Turn) → IsScript t s → 0 < q → (q ≡ s → ⊥)
    → turn_at (with_turn t s turn) q ≡ turn_at t q
turn_other t s q turn is some other =
    get_or-set_other t.turns (s - 1) (q - 1) turn no_turn (λ same. other (omega (arith, same, is.0, some)))

module _ (t : TurnsSeen) (s : ℕ) (turn : Turn) (is : IsScript t s) where
  drawn_now : drawn_at (with_turn t s turn) s ≡ id_for (slice_get (commands_at t s) turn.answered) (numbers_of turn)
  drawn_now = at s is refl
    where
      at : (q : ℕ) → IsScript t q → q ≡ s
          → drawn_at (with_turn t s turn) q ≡ id_for (slice_get (commands_at t s) turn.answered) (numbers_of turn)
      at zero there same = absurd (omega (arith, there.0))
      at (suc i) there same =
          ap (λ (q : ℕ). id_for (next_at (with_turn t s turn) q) (numbers_of (turn_at (with_turn t s turn) q))) same
          ∙ ap (λ (x : Turn). id_for (slice_get (commands_at t s) x.answered) (numbers_of x)) (turn_now t s turn is)

  drawn_other : (q : ℕ) → (q ≡ s → ⊥) → drawn_at (with_turn t s turn) q ≡ drawn_at t q
  drawn_other zero other = refl
  drawn_other (suc i) other =
      ap (λ (x : Turn). id_for (slice_get (commands_at t (suc i)) x.answered) (numbers_of x))
      (turn_other t s (suc i) turn is (omega arith) other)

  ahead_now : (q : ℕ) → q ≡ s → ahead_at (with_turn t s turn) q ≡ ahead_by (numbers_of turn) turn.answered
  ahead_now zero same = absurd (omega (arith, is.0, same))
  ahead_now (suc i) same =
      ap (λ (q : ℕ). ahead_by (numbers_of (turn_at (with_turn t s turn) q)) (answered_at (with_turn t s turn) q)) same
      ∙ ap (λ (x : Turn). ahead_by (numbers_of x) x.answered) (turn_now t s turn is)

  ahead_other : (q : ℕ) → (q ≡ s → ⊥) → ahead_at (with_turn t s turn) q ≡ ahead_at t q
  ahead_other zero other = refl
  ahead_other (suc i) other = ap (λ (x : Turn). ahead_by (numbers_of x) x.answered)
      (turn_other t s (suc i) turn is (omega arith) other)

  -- only a next command has numbers, where this one is next
  only_still : ((q : ℕ) (n : Numbers) → IsScript t q → numbers_of (turn_at t q) ≡ Some n → HasNext t q)
      → ((n : Numbers) → numbers_of turn ≡ Some n → turn.answered < length (commands_at t s))
      → (q : ℕ) (n : Numbers) → IsScript (with_turn t s turn) q
      → numbers_of (turn_at (with_turn t s turn) q) ≡ Some n → HasNext (with_turn t s turn) q
  only_still only mine q n there has =
      let count = length-set t.turns (s - 1) turn in
      elim (cases_eq q s) [
        | inl same ↦
            let now : turn_at (with_turn t s turn) q ≡ turn = ap (turn_at (with_turn t s turn)) same
            ∙ turn_now t s turn is in
            let lt = mine n (ap numbers_of (sym now) ∙ has) in
            let e = ap (λ (x : Turn). x.answered) now in
            let l = ap (λ (k : ℕ). length (commands_at t k)) same in
            omega (arith, lt, e, l)
        | inr other ↦
            let now = turn_other t s q turn is there.0 other in
            let lt = only q n (there.0, omega (arith, there.1, count)) (ap numbers_of (sym now) ∙ has) in
            let e = ap (λ (x : Turn). x.answered) now in
            omega (arith, lt, e)
      ]

ahead_was : (t : TurnsSeen) (s : ℕ) → 0 < s → ahead_at t s ≡ ahead_by (numbers_of (turn_at t s)) (answered_at t s)
ahead_was t zero some = absurd (omega (arith, some))
ahead_was t (suc i) some = refl

drawn_was : (t : TurnsSeen) (s : ℕ) → 0 < s → drawn_at t s ≡ id_for (next_at t s) (numbers_of (turn_at t s))
drawn_was t zero some = absurd (omega (arith, some))
drawn_was t (suc i) some = refl

module _ (o : ℕ) (t : TurnsSeen) (next : ℕ) (trace : List Entry) (h : AreDrawn o t next trace) where
  -- a turn with the same numbers, of the same command
  drawn_same : (s : ℕ) (turn : Turn) → IsScript t s → turn.answered ≡ answered_at t s
      → numbers_of turn ≡ numbers_of (turn_at t s)
      → AreDrawn o (with_turn t s turn) next trace
  drawn_same s turn is count numbers =
      let drawn : (q : ℕ) → drawn_at (with_turn t s turn) q ≡ drawn_at t q = λ q. elim (cases_eq q s) [
        | inl same ↦
            ap (drawn_at (with_turn t s turn)) same ∙ drawn_now t s turn is
            ∙ ap (λ (n : ℕ). id_for (slice_get (commands_at t s) n) (numbers_of turn)) count
            ∙ ap (id_for (next_at t s)) numbers ∙ sym (drawn_was t s is.0) ∙ ap (drawn_at t) (sym same)
        | inr other ↦ drawn_other t s turn is q other
      ] in
      let ahead : (q : ℕ) → ahead_at (with_turn t s turn) q ≡ ahead_at t q = λ q. elim (cases_eq q s) [
        | inl same ↦
            ahead_now t s turn is q same ∙ ap (ahead_by (numbers_of turn)) count
            ∙ ap (λ (x : Option Numbers). ahead_by x (answered_at t s)) numbers
            ∙ sym (ahead_was t s is.0) ∙ ap (ahead_at t) (sym same)
        | inr other ↦ ahead_other t s turn is q other
      ] in
      drawn_from o (with_turn t s turn) (ids_of t next) trace (asked t.job) (as_drawn o t next trace h)
      (λ q x has. sym (drawn q) ∙ has)
      (from_mono 1 (asked t.job) (ahead_at t) (ahead_at (with_turn t s turn))
      (λ q. let e = ahead q in omega (arith, e)))
      (only_still t s turn is h.only_next
      (λ n has. let lt = h.only_next s n is (sym numbers ∙ has) in omega (arith, lt, count)))

  -- a turn that has no numbers, one command further or not behind
  drawn_without : (s : ℕ) (turn : Turn) → IsScript t s → turn.answered ≡ answered_at t s + 1 → numbers_of turn ≡ None
      → AreDrawn o (with_turn t s turn) next trace
  drawn_without s turn is count none =
      drawn_from o (with_turn t s turn) (ids_of t next) trace (asked t.job) (as_drawn o t next trace h)
      (λ q x has. elim (cases_eq q s) [
        | inl same ↦ absurd (nothing (slice_get (commands_at t s) turn.answered) x
            (ap (id_for (slice_get (commands_at t s) turn.answered)) (sym none) ∙ sym (drawn_now t s turn is)
            ∙ ap (drawn_at (with_turn t s turn)) (sym same) ∙ has))
        | inr other ↦ sym (drawn_other t s turn is q other) ∙ has
      ])
      (from_mono 1 (asked t.job) (ahead_at t) (ahead_at (with_turn t s turn)) (λ q. elim (cases_eq q s) [
        | inl same ↦
            let now = ahead_now t s turn is q same ∙ ap (λ (x : Option Numbers). ahead_by x turn.answered) none in
            let was = ap (ahead_at t) same ∙ ahead_was t s is.0 in
            let le = few_ahead (numbers_of (turn_at t s)) (answered_at t s) in
            omega (arith, now, was, le, count)
        | inr other ↦ let e = ahead_other t s turn is q other in omega (arith, e)
      ]))
      (only_still t s turn is h.only_next (λ n has. absurd (cc (none, has))))
    where
      few_ahead : (x : Option Numbers) (n : ℕ) → ahead_by x n ≤ n + 1
      few_ahead None n = omega arith
      few_ahead (Some k) n = omega arith

      nothing : (c : Option Command) (x : ℕ) → id_for c None ≡ Some x → ⊥
      nothing None x e = cc e
      nothing (Some c) x e = cc e

  -- ---- a task goes out, and comes back

  took : (s : ℕ) (c : Command) (out : Out) (after : ℕ) → IsScript t s → next_at t s ≡ Some c → (turn_at t s).out ≡ None
      → numbers_of (turn_at t s) ≡ None → after ≡ next_after c next → (makes_object c ≡ true → out.numbers.oid.0 ≡ next)
      → AreDrawn o (gone_out t s out) after trace
  took s c out after is at free none is_after drawn = elim (cases_Bool (makes_object c)) [
    | inl makes ↦
        let y = had_id c makes in
        let turn : Turn = record (turn_at t s) { out = Some out } in
        let to = with_turn t s turn in
        let count : ahead_at t s ≡ answered_at t s = ahead_was t s is.0
        ∙ ap (λ (x : Option Numbers). ahead_by x (answered_at t s)) none in
        let there : slice_get (commands_of (asked t.job) s) (ahead_at t s) ≡ Some c =
        ap (slice_get (commands_of (asked t.job) s)) count
        ∙ ap (λ (l : List Command). slice_get l (answered_at t s)) (commands_are t s is.0) ∙ at in
        let d = drawn_on o (asked t.job) (ids_of t next) trace (as_drawn o t next trace h) s c y.0 there y.1 in
        let e : after ≡ min (next + 1) no_id = is_after
        ∙ cond-true (makes_object c) (min (next + 1) no_id) next makes in
        let mine : drawn_at to s ≡ Some next =
        drawn_now t s turn is ∙ ap (λ (x : Option Command). id_for x (Some out.numbers)) at
        ∙ cond-true (makes_object c) (Some out.numbers.oid.0) None makes ∙ ap Some (drawn makes) in
        subst (λ (n : ℕ). AreDrawn o to n trace) (sym e)
        (drawn_from o to (draw s (ids_of t next)) trace (asked t.job) d
        (λ q x has. elim (cases_eq q s) [
          | inl same ↦ cond-true (q == s) (Some next) (drawn_at t q) (eq-eqb q s same) ∙ sym mine
              ∙ ap (drawn_at to) (sym same) ∙ has
          | inr other ↦ cond-false (q == s) (Some next) (drawn_at t q) (ne_eqb q s other)
              ∙ sym (drawn_other t s turn is q other) ∙ has
        ])
        (from_mono 1 (asked t.job) (raised (ahead_at t) s) (ahead_at to) (λ q. elim (cases_eq q s) [
          | inl same ↦
              let a = ahead_now t s turn is q same in
              let b = cond-true (q == s) (ahead_at t q + 1) (ahead_at t q) (eq-eqb q s same) in
              let c = ap (ahead_at t) same ∙ count in
              omega (arith, a, b, c)
          | inr other ↦
              let a = ahead_other t s turn is q other in
              let b = cond-false (q == s) (ahead_at t q + 1) (ahead_at t q) (ne_eqb q s other) in
              omega (arith, a, b)
        ]))
        (only_still t s turn is h.only_next (λ n has. next_there t s c at)))
    | inr not ↦
        let turn : Turn = record (turn_at t s) { out = Some out } in
        let to = with_turn t s turn in
        let e : after ≡ next = is_after ∙ cond-false (makes_object c) (min (next + 1) no_id) next not in
        let count : ahead_at t s ≡ answered_at t s = ahead_was t s is.0
        ∙ ap (λ (x : Option Numbers). ahead_by x (answered_at t s)) none in
        let mine : drawn_at to s ≡ None =
        drawn_now t s turn is ∙ ap (λ (x : Option Command). id_for x (Some out.numbers)) at
        ∙ cond-false (makes_object c) (Some out.numbers.oid.0) None not in
        subst (λ (n : ℕ). AreDrawn o to n trace) (sym e)
        (drawn_from o to (ids_of t next) trace (asked t.job) (as_drawn o t next trace h)
        (λ q x has. elim (cases_eq q s) [
          | inl same ↦ absurd (cc (sym mine ∙ ap (drawn_at to) (sym same) ∙ has))
          | inr other ↦ sym (drawn_other t s turn is q other) ∙ has
        ])
        (from_mono 1 (asked t.job) (ahead_at t) (ahead_at to) (λ q. elim (cases_eq q s) [
          | inl same ↦
              let a = ahead_now t s turn is q same in
              let c = ap (ahead_at t) same ∙ count in
              omega (arith, a, c)
          | inr other ↦ let a = ahead_other t s turn is q other in omega (arith, a)
        ]))
        (only_still t s turn is h.only_next (λ n has. next_there t s c at)))
  ]

  pub drawn_out : (s : ℕ) (c : Command) (out : Out) (after : ℕ) → IsScript t s → next_at t s ≡ Some c
      → (turn_at t s).out ≡ None
      → GetsNumbers t s c next after out.numbers → AreDrawn o (gone_out t s out) after trace
  drawn_out s c out after is at free gets = by (numbers_of (turn_at t s)) refl
    where
      by : (x : Option Numbers) → numbers_of (turn_at t s) ≡ x → AreDrawn o (gone_out t s out) after trace
      by None none = let d = gets.drawn none in took s c out after is at free none d.0 d.1
      by (Some k) some =
          let d = gets.kept k some in
          subst (λ (n : ℕ). AreDrawn o (gone_out t s out) n trace) (sym d.1)
          (drawn_same s (record (turn_at t s) { out = Some out }) is refl (ap Some d.0 ∙ sym some))

  pub drawn_back : (s : ℕ) (out : Out) → IsScript t s → (turn_at t s).out ≡ Some out
      → AreDrawn o (given_back t s out.numbers) next trace
  drawn_back s out is has =
      drawn_same s (record (turn_at t s) { out = None; numbers = Some out.numbers }) is refl
      (ap (λ (x : Option Out). numbers_in x (turn_at t s).numbers) (sym has))

  pub drawn_entered : (s : ℕ) (x : Open) → IsScript t s → AreDrawn o (entered t s x) next trace
  drawn_entered s x is = drawn_same s (record (turn_at t s) { transaction = Some x }) is refl refl

  pub drawn_left : (s : ℕ) → IsScript t s → AreDrawn o (left t s) next trace
  drawn_left s is = drawn_same s (record (turn_at t s) { transaction = None }) is refl refl

  -- ---- a command is answered

  pub drawn_answered : (s : ℕ) → IsScript t s → (turn_at t s).out ≡ None → AreDrawn o (answered_one t s) next trace
  drawn_answered s is free =
      drawn_without s (record (turn_at t s) { answered = answered_at t s + 1; numbers = None }) is refl
      (ap (λ (x : Option Out). numbers_in x None) free)

  -- where its task was out
  pub drawn_dropped : (s : ℕ) → IsScript t s → AreDrawn o (answered_one (dropped t s) s) next trace
  drawn_dropped s is =
      let turn : Turn = record (turn_at t s) { out = None } in
      let last : Turn = record turn { answered = answered_at t s + 1; numbers = None } in
      let now = turn_now t s turn is in
      let one : answered_one (dropped t s) s ≡ with_turn (dropped t s) s last =
      ap (λ (x : Turn). with_turn (dropped t s) s (record x { answered = x.answered + 1; numbers = None })) now in
      let two : with_turn (dropped t s) s last ≡ with_turn t s last = ap (λ (l : List Turn). record t { turns = l })
      (set-set t.turns (s - 1) turn last) in
      subst (λ (x : TurnsSeen). AreDrawn o x next trace) (sym (one ∙ two)) (drawn_without s last is refl refl)

  -- ---- entries

  pub drawn_entry : (e : Entry) → IsNoDone e → AreDrawn o t next (e ∷ trace)
  drawn_entry e plain = record {
    least = h.least;
    few = h.few;
    small = h.small;
    done = λ x d. h.done x (by e plain x d);
    waits = h.waits;
    apart = λ s x is lt d. h.apart s x is lt (by e plain x d);
    each = h.each;
    only_next = h.only_next;
  }
    where
      by : (e : Entry) → IsNoDone e → (x : ℕ) → IsDrawn (e ∷ trace) x → IsDrawn trace x
      by (Done u s i c r) plain x d = absurd plain
      by e plain x d = d

  -- a command is done with the id that was drawn for it, and its task is out no more
  pub drawn_done : (u : TxnNo) (s : ScriptNo) (i : ℕ) (c had : Command) (r : Reply) (out : Out) → IsScript t s.0
      → next_at t s.0 ≡ Some had
      → (turn_at t s.0).out ≡ Some out → c ≡ with_id out.numbers.oid had
      → AreDrawn o (answered_one (dropped t s.0) s.0) next (Done u s i c r ∷ trace)
  drawn_done u s i c had r out is at has same =
      let base = drawn_dropped s.0 is in
      let to = answered_one (dropped t s.0) s.0 in
      record {
        least = base.least;
        few = base.few;
        small = base.small;
        done = λ x d lt. ⊎_elim (λ new. below x new lt) (λ was. h.done x was lt) d;
        waits = base.waits;
        apart = λ q x w lt d. ⊎_elim (λ new. other q x w new lt) (λ was. base.apart q x w lt was) d;
        each = base.each;
        only_next = base.only_next;
      }
    where
      mine : (x : ℕ) → id_of c ≡ Some x → drawn_at t s.0 ≡ Some x
      mine x is_x = elim (cases_Bool (makes_object had)) [
        | inl makes ↦
            let e : Some out.numbers.oid.0 ≡ Some x = sym (made_id had out.numbers.oid makes) ∙ ap id_of (sym same)
            ∙ is_x in
            drawn_was t s.0 is.0 ∙ ap (λ (y : Option Command). id_for y (numbers_of (turn_at t s.0))) at
            ∙ ap (λ (y : Option Out). id_for (Some had)
            (numbers_in y (turn_at t s.0).numbers)) has
            ∙ cond-true (makes_object had) (Some out.numbers.oid.0) None makes ∙ e
        | inr not ↦ absurd (cc (sym (made_none had out.numbers.oid not) ∙ ap id_of (sym same) ∙ is_x))
      ]

      below : (x : ℕ) → id_of c ≡ Some x → x < no_id → x < next
      below x new lt = (h.waits s.0 x (mine x new)).2 lt

      turn : Turn
      turn = record (turn_at t s.0) { answered = answered_at t s.0 + 1; out = None; numbers = None }

      to_is : answered_one (dropped t s.0) s.0 ≡ with_turn t s.0 turn
      to_is =
          let first : Turn = record (turn_at t s.0) { out = None } in
          let now = turn_now t s.0 first is in
          ap (λ (x : Turn). with_turn (dropped t s.0) s.0 (record x { answered = x.answered + 1; numbers = None })) now
          ∙ ap (λ (l : List Turn). record t { turns = l }) (set-set t.turns (s.0 - 1) first turn)

      none_for : (y : Option Command) → id_for y None ≡ None
      none_for None = refl
      none_for (Some y) = refl

      other : (q x : ℕ) → drawn_at (answered_one (dropped t s.0) s.0) q ≡ Some x → id_of c ≡ Some x → x < no_id → ⊥
      other q x w new lt = elim (cases_eq q s.0) [
        | inl here ↦
            cc (sym (none_for (slice_get (commands_at t s.0) turn.answered)) ∙ sym (drawn_now t s.0 turn is)
            ∙ ap (λ (y : TurnsSeen). drawn_at y s.0) (sym to_is)
            ∙ ap (drawn_at (answered_one (dropped t s.0) s.0)) (sym here) ∙ w)
        | inr there ↦
            there (h.each q s.0 x (sym (drawn_other t s.0 turn is q there)
            ∙ ap (λ (y : TurnsSeen). drawn_at y q) (sym to_is) ∙ w) (mine x new) lt)
      ]

  -- the id that is drawn is a new one
  pub drawn_new : (start : Option Start) (s x : ℕ) → BeginsAt o start → drawn_at t s ≡ Some x
      → IsNewId start (Some (asked t.job)) trace x
  drawn_new start s x begins has = record {
    once = λ lt d. h.apart s x has lt d;
    free = free start begins;
    bounds = bounds start begins;
  }
    where
      free : (b : Option Start) → BeginsAt o b → IsFree b x
      free None is = tt
      free (Some b) is = (is b refl).1 x (h.waits s x has).0

      bounds : (b : Option Start) → BeginsAt o b → IsInBounds b (Some (asked t.job)) x
      bounds None is = tt
      bounds (Some b) is =
          let w = h.waits s x has in
          let e = (is b refl).0 in
          let few = from_few 1 (asked t.job) (ahead_at t) in
          inl (omega (arith, w.0, e), omega (arith, w.1, few, e))

  pub drawn_for : (start : Option Start) (s : ℕ) (had c : Command) (out : Out) → BeginsAt o start → IsScript t s
      → next_at t s ≡ Some had
      → (turn_at t s).out ≡ Some out → c ≡ with_id out.numbers.oid had → HasNewId start (asked t.job) trace c
  drawn_for start s had c out begins is at has same x is_x = elim (cases_Bool (makes_object had)) [
    | inl makes ↦
        let e : Some out.numbers.oid.0 ≡ Some x = sym (made_id had out.numbers.oid makes) ∙ ap id_of (sym same)
        ∙ is_x in
        drawn_new start s x begins
        (drawn_was t s is.0 ∙ ap (λ (y : Option Command). id_for y (numbers_of (turn_at t s))) at
        ∙ ap (λ (y : Option Out). id_for (Some had)
        (numbers_in y (turn_at t s).numbers)) has
        ∙ cond-true (makes_object had) (Some out.numbers.oid.0) None makes ∙ e)
    | inr not ↦ absurd (cc (sym (made_none had out.numbers.oid not) ∙ ap id_of (sym same) ∙ is_x))
  ]

  -- ---- the job grows

  pub drawn_pushed : (s : ℕ) (c : Command) → IsScript t s → length t.turns ≡ length t.job.scripts
      → AreDrawn o (with_command t s c) next trace
  drawn_pushed s c is scripts =
      drawn_from o (with_command t s c) (ids_of t next) trace (asked t.job) (as_drawn o t next trace h)
      (λ q x has. back q x has)
      (grows (sym (pushed_is t s c is.0)))
      (λ q n there has. longer q (h.only_next q n there has))
    where
      grows : pushed (asked t.job) s c ≡ asked (with_command t s c).job
          → makers_by (asked t.job) (ahead_at t) ≤ makers_by (asked (with_command t s c).job) (ahead_at t)
      grows e = by_script s is.0 e
        where
          by_script : (q : ℕ) → 0 < q → pushed (asked t.job) q c ≡ asked (with_command t s c).job
              → makers_by (asked t.job) (ahead_at t) ≤ makers_by (asked (with_command t s c).job) (ahead_at t)
          by_script zero some e = absurd (omega (arith, some))
          by_script (suc n) some e =
              subst (λ (j : Asked). makers_by (asked t.job) (ahead_at t) ≤ makers_by j (ahead_at t)) e
              (from_grown 1 (asked t.job) n c (ahead_at t))

      longer : (q : ℕ) → HasNext t q → HasNext (with_command t s c) q
      longer q lt =
          ⊎_elim (λ same. let e = ap length same in omega (arith, lt, e))
          (λ more. let e = ap length more.1 ∙ length-append (commands_at t q) (c ∷ []) in omega (arith, lt, e))
          (commands_pushed t s c is scripts q)

      back : (q x : ℕ) → drawn_at (with_command t s c) q ≡ Some x → drawn_at t q ≡ Some x
      back zero x has = absurd (cc has)
      back (suc i) x has = by (numbers_of (turn_at t (suc i))) refl
        where
          none_for : (y : Option Command) → id_for y None ≡ Some x → ⊥
          none_for None e = cc e
          none_for (Some y) e = cc e

          in_range : (n : Numbers) → numbers_of (turn_at t (suc i)) ≡ Some n → suc i ≤ length t.turns
          in_range n some = elim (cases_lt i (length t.turns)) [
            | inl lt ↦ omega (arith, lt)
            | inr past ↦
                let e : suc i - 1 ≡ i = omega arith in
                absurd (cc (sym some ∙ ap (λ (k : ℕ). numbers_of (get_or t.turns k no_turn)) e
                ∙ ap numbers_of (get_or_past t.turns i no_turn past)))
          ]

          by : (y : Option Numbers) → numbers_of (turn_at t (suc i)) ≡ y → drawn_at t (suc i) ≡ Some x
          by None none = absurd (none_for (next_at (with_command t s c) (suc i))
              (ap (id_for (next_at (with_command t s c) (suc i))) (sym none) ∙ has))
          by (Some n) some =
              let lt = h.only_next (suc i) n (omega arith, in_range n some) some in
              ap (λ (y : Option Command). id_for y (numbers_of (turn_at t (suc i))))
              (sym (next_pushed t s c is scripts (suc i) lt)) ∙ has

-- ---- at the start

nothing_out : (n i : ℕ) → get_or (replicate n no_turn) i no_turn ≡ no_turn
nothing_out zero i = refl
nothing_out (suc n) zero = refl
nothing_out (suc n) (suc i) = nothing_out n i

pub drawn_first : (o : ℕ) (job : Job) → o ≤ no_id → AreDrawn o (started job) o []
drawn_first o job le = record {
  least = omega arith;
  few = omega arith;
  small = le;
  done = λ x d lt. absurd d;
  waits = λ s x is. absurd (none s x is);
  apart = λ s x is lt d. absurd d;
  each = λ s q x is iq lt. absurd (none s x is);
  only_next = λ s n is has. absurd (cc (sym has ∙ ap numbers_of (nothing_out (length job.scripts) (s - 1))));
}
  where
    none_for : (y : Option Command) (x : ℕ) → id_for y None ≡ Some x → ⊥
    none_for None x e = cc e
    none_for (Some y) x e = cc e

    none : (s x : ℕ) → drawn_at (started job) s ≡ Some x → ⊥
    none zero x e = cc e
    none (suc i) x e =
        none_for (next_at (started job) (suc i)) x
        (ap (λ (y : Turn). id_for (next_at (started job) (suc i)) (numbers_of y))
        (sym (nothing_out (length job.scripts) (suc i - 1))) ∙ e)

-- the last id is drawn again and again
pub last_stays : (c : Command) → next_after c no_id ≡ no_id
last_stays c = by (makes_object c)
  where
    by : (b : Bool) → cond b (min (no_id + 1) no_id) no_id ≡ no_id
    by true = omega arith
    by false = refl
