-- The nodes that are kept for tasks have their new names: nothing else of the turns changes.
use Rattle.std.proofs.Common.{◌≡◌, ℕ, zero, suc, ◌+◌, ◌-◌, ◌≤◌, ◌==◌, Bool, true, false, cond, List, [], ◌∷◌}
use Rattle.std.proofs.Common.{map, get_or, Option, Some, None, refl, sym, ◌∙◌, ap, subst, arith}
use Rattle.std.specs.Prelude.{count_by, slice_get, sum_by}
use Rattle.std.specs.Option.{option_map}
use Rattle.std.proofs.lemmas.Bool.{eq-eqb, eqb-true}
use Rattle.std.proofs.lemmas.List.{length-map}
use Rattle.std.proofs.lemmas.List.Sums.{sum_by-cons}
use Rattle.r4_base.specs.declared.things.NodeId.{NodeId}
use Rattle.r4_content.specs.Locality.{Meaning}
use Rattle.r4_content.specs.declared.command.Command.{Command}
use Rattle.r4_content.specs.declared.reply.Reply.{Reply}
use Rattle.r4_locks.specs.Locks.{LocksSeen}
use Rattle.r4_renaming.specs.r4_script.declared.job.Script.{Script}
use Rattle.r4_trace.specs.Ids.{Start}
use Rattle.r4_trace.specs.declared.entry.Entry.{Entry}
use Rattle.r4_renaming.specs.r4_turns.Turns.{IsScript, TurnsSeen, commands_at, start, turn_at}
use Rattle.r4_renaming.specs.r4_turns.declared.out.Numbers.{Numbers}
use Rattle.r4_renaming.specs.r4_turns.declared.out.Out.{Out}
use Rattle.r4_renaming.specs.r4_turns.declared.turn.Turn.{Turn}
use Rattle.r4_accounting.specs.r4_history.Drawn.{AreDrawn, ahead_at, ahead_by, drawn_at, id_for, makers_by, numbers_in, numbers_of}
use Rattle.r4_accounting.specs.r4_history.Held.{Holds, IsOut, IsServed, TasksTell}
use Rattle.r4_accounting.specs.r4_history.Tables.{Tables, asked, next_at, place_at, place_of}
use Rattle.r4_accounting.specs.r4_history.Told.{IsTold}
use Rattle.r4_accounting.specs.r4_kept.History.{owed, owed_by, owed_in}
use Rattle.r4_accounting.specs.r4_kept.TasksOut.{pins_in, pins_on}
use Rattle.r4_renaming.specs.Renaming.{turn_with_pins, turns_with_pins, with_pins}

module _ (f : ℕ → ℕ) where
  -- ---- one turn

  same_at : (turns : List Turn) (i : ℕ)
      → get_or (map (turn_with_pins f) turns) i start ≡ turn_with_pins f (get_or turns i start)
  same_at [] i = refl
  same_at (turn ∷ turns) zero = refl
  same_at (turn ∷ turns) (suc i) = same_at turns i

  numbers_same : (turn : Turn) → numbers_of (turn_with_pins f turn) ≡ numbers_of turn
  numbers_same turn = by turn.out
    where
      by : (o : Option Out) → numbers_in (option_map (with_pins f) o) turn.numbers ≡ numbers_in o turn.numbers
      by None = refl
      by (Some out) = refl

  module _ (t : TurnsSeen) where
    abbrev then : TurnsSeen
    then = turns_with_pins f t

    pub turn_then : (q : ℕ) → turn_at then q ≡ turn_with_pins f (turn_at t q)
    turn_then q = same_at t.turns (q - 1)

    pub scripts_before : (q : ℕ) → IsScript then q → IsScript t q
    scripts_before q is =
        let low = is.0 in
        let high = is.1 in
        let long = length-map t.turns (turn_with_pins f) in
        (low, omega (arith, high, long))

    -- a task that is out then was out before, with other names of the nodes that are kept for it
    pub out_before : (q : ℕ) (o : Out) → IsOut then q o → (was : Out) × IsOut t q was × (o ≡ with_pins f was)
    out_before q o is = by (turn_at t q).out refl (sym (ap (λ (x : Turn). x.out) (turn_then q)) ∙ is.is_out)
      where
        by : (was : Option Out) → (turn_at t q).out ≡ was → option_map (with_pins f) was ≡ Some o
            → (was : Out) × IsOut t q was × (o ≡ with_pins f was)
        by None at e = absurd (cc e)
        by (Some was) at e = (
          was,
          record { is_script = scripts_before q is.is_script; is_out = at },
          (let same : with_pins f was ≡ o = cc e in sym same),
        )

    pub out_then : (q : ℕ) (o : Out) → IsOut t q o → IsOut then q (with_pins f o)
    out_then q o is = record {
      is_script =
          (let low = is.is_script.0 in
          let high = is.is_script.1 in
          let long = length-map t.turns (turn_with_pins f) in
          (low, omega (arith, high, long)));
      is_out = ap (λ (x : Turn). x.out) (turn_then q) ∙ ap (option_map (with_pins f)) is.is_out;
    }

    pub numbers_then : (q : ℕ) → numbers_of (turn_at then q) ≡ numbers_of (turn_at t q)
    numbers_then q = ap numbers_of (turn_then q) ∙ numbers_same (turn_at t q)

    pub next_then : (q : ℕ) → next_at then q ≡ next_at t q
    next_then q = ap (λ (x : Turn). slice_get (commands_at t q) x.answered) (turn_then q)

    -- ---- what is summed

    summed : (g : Option Out → ℕ) → ((o : Option Out) → g (option_map (with_pins f) o) ≡ g o) → (turns : List Turn)
        → sum_by (λ (x : Turn). g x.out) (map (turn_with_pins f) turns) ≡ sum_by (λ (x : Turn). g x.out) turns
    summed g same [] = refl
    summed g same (turn ∷ turns) =
        let rest = summed g same turns in
        let here = same turn.out in
        let one = sum_by-cons (λ (x : Turn). g x.out) turn turns in
        let two =
        sum_by-cons (λ (x : Turn). g x.out) (turn_with_pins f turn) (map (turn_with_pins f) turns) in
        omega (arith, rest, here, one, two)

    pub sums_then : (g : Option Out → ℕ) → ((o : Option Out) → g (option_map (with_pins f) o) ≡ g o)
        → sum_by (λ (x : Turn). g x.out) then.turns ≡ sum_by (λ (x : Turn). g x.out) t.turns
    sums_then g same = summed g same t.turns

    owed_same : (turns : List Turn) (scripts : List Script)
        → owed_in (map (turn_with_pins f) turns) scripts ≡ owed_in turns scripts
    owed_same [] scripts = refl
    owed_same (turn ∷ turns) [] = refl
    owed_same (turn ∷ turns) (script ∷ scripts) =
        let rest = owed_same turns scripts in
        let here : owed_by (turn_with_pins f turn) script ≡ owed_by turn script = by turn.out in
        omega (arith, rest, here)
      where
        by : (o : Option Out)
            → owed_by (record turn { out = option_map (with_pins f) o }) script
            ≡ owed_by (record turn { out = o }) script
        by None = refl
        by (Some out) = refl

    pub owed_then : owed then ≡ owed t
    owed_then = owed_same t.turns t.job.scripts

    -- ---- pins

    more_pins : (i j : ℕ) → f i ≡ j → (pins : List NodeId)
        → count_by (λ (n : NodeId). n.0 == i) pins
        ≤ count_by (λ (n : NodeId). n.0 == j) (map (λ (n : NodeId). record { 0 = f n.0 }) pins)
    more_pins i j same [] = omega arith
    more_pins i j same (n ∷ pins) =
        let rest = more_pins i j same pins in
        let one = sum_by-cons (λ (m : NodeId). cond (m.0 == i) 1 0) n pins in
        let two =
        sum_by-cons (λ (m : NodeId). cond (m.0 == j) 1 0) (record { 0 = f n.0 })
        (map (λ (m : NodeId). record { 0 = f m.0 }) pins) in
        let here : cond {A = ℕ} (n.0 == i) 1 0 ≤ cond (f n.0 == j) 1 0 = by (n.0 == i) refl in
        omega (arith, rest, one, two, here)
      where
        by : (b : Bool) → (n.0 == i) ≡ b → cond {A = ℕ} b 1 0 ≤ cond (f n.0 == j) 1 0
        by false e = omega arith
        by true e =
            let hit : (f n.0 == j) ≡ true = eq-eqb (f n.0) j (ap f (eqb-true n.0 i e) ∙ same) in
            let count : cond {A = ℕ} (f n.0 == j) 1 0 ≡ 1 = ap (λ (b : Bool). cond b 1 0) hit in
            omega (arith, count)

    more_in : (i j : ℕ) → f i ≡ j → (o : Option Out) → pins_in o i ≤ pins_in (option_map (with_pins f) o) j
    more_in i j same None = omega arith
    more_in i j same (Some out) = more_pins i j same out.pins

    more_on : (i j : ℕ) → f i ≡ j → (turns : List Turn) → pins_on turns i ≤ pins_on (map (turn_with_pins f) turns) j
    more_on i j same [] = omega arith
    more_on i j same (turn ∷ turns) =
        let rest = more_on i j same turns in
        let here = more_in i j same turn.out in
        let one = sum_by-cons (λ (x : Turn). pins_in x.out i) turn turns in
        let two =
        sum_by-cons (λ (x : Turn). pins_in x.out j) (turn_with_pins f turn) (map (turn_with_pins f) turns) in
        omega (arith, rest, here, one, two)

    -- a node is kept as often under its new name, or more often
    pub pins_then : (i j : ℕ) → f i ≡ j → pins_on t.turns i ≤ pins_on then.turns j
    pins_then i j same = more_on i j same t.turns

    -- ---- what the tables tell

    places_same : (turns : List Turn) (s : ℕ) → place_at (map (turn_with_pins f) turns) s ≡ place_at turns s
    places_same turns zero = refl
    places_same turns (suc i) = ap place_of (same_at turns i)

    ahead_same : (s : ℕ) → ahead_at then s ≡ ahead_at t s
    ahead_same zero = refl
    ahead_same (suc i) =
        ap (λ (n : Option Numbers). ahead_by n (turn_at then (suc i)).answered) (numbers_then (suc i))
        ∙ ap (λ (x : Turn). ahead_by (numbers_of (turn_at t (suc i))) x.answered) (turn_then (suc i))

    drawn_same : (s : ℕ) → drawn_at then s ≡ drawn_at t s
    drawn_same zero = refl
    drawn_same (suc i) =
        ap (λ (n : Option Numbers). id_for (next_at then (suc i)) n) (numbers_then (suc i))
        ∙ ap (λ (c : Option Command). id_for c (numbers_of (turn_at t (suc i)))) (next_then (suc i))

    pub drawn_then : (o next : ℕ) (trace : List Entry) → AreDrawn o t next trace → AreDrawn o then next trace
    drawn_then o next trace h =
        let ahead : ahead_at then ≡ ahead_at t = λ i s. ahead_same s i in
        record {
          least = h.least;
          few = subst (λ (g : ℕ → ℕ). next ≤ o + makers_by (asked t.job) g) (sym ahead) h.few;
          small = h.small;
          done = h.done;
          waits = λ s x is.
              (let w = h.waits s x (sym (drawn_same s) ∙ is) in (
                w.0,
                subst (λ (g : ℕ → ℕ). suc x ≤ o + makers_by (asked t.job) g) (sym ahead) w.1,
                w.2,
              ));
          apart = λ s x is. h.apart s x (sym (drawn_same s) ∙ is);
          each = λ s q x is iq. h.each s q x (sym (drawn_same s) ∙ is) (sym (drawn_same q) ∙ iq);
          only_next = λ s n is has.
              (let lt = h.only_next s n (scripts_before s is) (sym (numbers_then s) ∙ has) in
              let same = ap (λ (x : Turn). x.answered) (turn_then s) in
              omega (arith, lt, same));
        }

  module _ (t : Tables) where
    abbrev tables : Tables
    tables = record t { turns = turns_with_pins f t.turns }

    pub told_then : (w : Meaning Command Reply) (start : Option Start) (clock : ℕ) (trace : List Entry)
        → IsTold w start clock t trace → IsTold w start clock tables trace
    told_then w first clock trace h = record {
      legal = h.legal;
      time = h.time;
      scripts = length-map t.turns.turns (turn_with_pins f) ∙ h.scripts;
      places = λ s. places_same t.turns t.turns.turns s ∙ h.places s;
      atoms = h.atoms;
      commit = h.commit;
      broken = h.broken;
    }

    holds_then : (locks : LocksSeen) (o : Out) → Holds locks o → Holds locks (with_pins f o)
    holds_then locks o h = record { stands = h.stands; modes = h.modes }

    pub tasks_then : (locks : LocksSeen) → TasksTell t locks → TasksTell tables locks
    tasks_then locks h = record {
      held = record {
        holds = λ s o is.
            (let (was, there, same) = out_before t.turns s o is in
            subst (Holds locks) (sym same) (holds_then locks was (h.held.holds s was there)));
        tasks = λ k is.
            (let (s, was, there, at) = h.held.tasks k is in (s, with_pins f was, out_then t.turns s was there, at));
        apart = λ s q x y is_x is_y same.
            (let (was_x, there_x, same_x) = out_before t.turns s x is_x in
            let (was_y, there_y, same_y) = out_before t.turns q y is_y in
            h.held.apart s q was_x was_y there_x there_y
            (sym (ap (λ (o : Out). o.task.0) same_x) ∙ same ∙ ap (λ (o : Out). o.task.0) same_y));
      };
      served = λ s o is.
          (let (was, there, same) = out_before t.turns s o is in
          let v = h.served s was there in
          subst (IsServed tables s) (sym same) (record {
            within = v.within;
            transaction = ap (λ (x : Turn). x.transaction) (turn_then t.turns s) ∙ v.transaction;
            txn = v.txn;
            command = v.command;
            next = next_then t.turns s ∙ v.next;
            work = v.work;
            owners = v.owners;
          }));
    }
