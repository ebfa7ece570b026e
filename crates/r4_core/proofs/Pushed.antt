-- A command comes to the end of a script, with room for its entry: what holds of a core holds still.
use Rattle.std.proofs.Common.{◌≡◌, ◌⊎◌, ℕ, ◌+◌, ◌-◌, ◌≤◌, ◌++◌, false, List, [], ◌∷◌, None, length, drop}
use Rattle.std.proofs.Common.{get_or, set, zero, suc, cond, max, Bool, true, refl, sym, ◌∙◌, subst, arith}
use Rattle.std.specs.Prelude.{count_by}
use Rattle.std.specs.Option.{option_map}
use Rattle.std.proofs.lemmas.List.Sums.{sum_by-cons}
use Rattle.r4_content.specs.Locality.{commands}
use Rattle.r4_content.specs.Meaning.{greatest_size}
use Rattle.r4_content.specs.declared.command.Command.{Command}
use Rattle.r4_content.specs.declared.command.Command.TheVariants as asks
use Rattle.r4_ready.specs.r4_durable.Meaning.{Beginning, IsNamed, start_of}
use Rattle.r4_others.specs.r4_history.Held.{IsOut}
use Rattle.r4_others.proofs.r4_history.DrawnSteps.{drawn_pushed}
use Rattle.r4_others.proofs.r4_history.Places.{next_pushed, next_there}
use Rattle.r4_others.proofs.r4_history.RunSteps.{told_pushed}
use Rattle.r4_others.proofs.r4_history.TaskSteps.{tasks_pushed}
use Rattle.r4_others.proofs.r4_history.WaitingSteps.{pushed_ordered}
use Rattle.r4_outside.specs.Device.{State}
use Rattle.r4_script.specs.declared.job.Script.{Script}
use Rattle.r4_trace.specs.Job.{HasNoBegin, IsWork}
use Rattle.r4_trace.specs.Kept.{Told}
use Rattle.r4_turns.specs.Turns.{HasNext, IsScript, TurnsSeen, commands_at, no_script, with_command}
use Rattle.r4_turns.specs.declared.out.Out.{Out}
use Rattle.r4_turns.specs.declared.turn.Turn.{Turn}
use Rattle.r4_ready.specs.r4_kept.History.{IsHistory, is_commit, owed, owed_for_commit, owed_in}
use Rattle.r4_ready.specs.r4_kept.Kept.{HasStory, IsKept}
use Rattle.r4_ready.specs.r4_kept.Naming.{Naming, names_in}
use Rattle.r4_ready.specs.r4_kept.Tables.{AreTables}
use Rattle.r4_ready.specs.r4_kept.View.{CoreSeen, tables_of}
use Rattle.r4_core.proofs.Answered.{TurnsGoOn, accounts_after, cells_after, tasks_after}

-- ---- entries for which room is kept

none_behind : (n : ℕ) → count_by is_commit (drop n []) ≡ 0
none_behind zero = refl
none_behind (suc n) = refl

one_more : (xs : List Command) (n : ℕ) (y : Command)
    → count_by is_commit (drop n (xs ++ y ∷ [])) ≤ count_by is_commit (drop n xs) + 1
one_more [] zero y =
    let e = sum_by-cons (λ x. cond (is_commit x) 1 0) y [] in
    let le : cond (is_commit y) 1 0 ≤ 1 = small (is_commit y) in
    omega (arith, e, le)
  where
    small : (b : Bool) → cond b 1 0 ≤ 1
    small true = omega arith
    small false = omega arith
one_more [] (suc n) y = let e = none_behind n in omega (arith, e)
one_more (x ∷ xs) zero y =
    let h = one_more xs zero y in
    let e = sum_by-cons (λ z. cond (is_commit z) 1 0) x (xs ++ y ∷ []) in
    let f = sum_by-cons (λ z. cond (is_commit z) 1 0) x xs in
    omega (arith, h, e, f)
one_more (x ∷ xs) (suc n) y = one_more xs n y

owed_in_pushed : (turns : List Turn) (scripts : List Script) (i : ℕ) (y : Command)
    → owed_in turns (set scripts i (record { commands = (get_or scripts i no_script).commands ++ y ∷ [] }))
    ≤ owed_in turns scripts + 1
owed_in_pushed [] scripts i y = omega arith
owed_in_pushed (t ∷ ts) [] i y = omega arith
owed_in_pushed (t ∷ ts) (x ∷ xs) zero y = let h = one_more x.commands t.answered y in omega (arith, h)
owed_in_pushed (t ∷ ts) (x ∷ xs) (suc i) y = let h = owed_in_pushed ts xs i y in omega (arith, h)

pub owed_pushed : (t : TurnsSeen) (s : ℕ) (y : Command) → owed (with_command t s y) ≤ owed t + 1
owed_pushed t s y = owed_in_pushed t.turns t.job.scripts (s - 1) y

-- ---- a core

goes_on_pushed : (t : TurnsSeen) (s : ℕ) (y : Command) → IsScript t s → length t.turns ≡ length t.job.scripts
    → ((q : ℕ) (out : Out) → IsOut t q out → HasNext t q) → TurnsGoOn t (with_command t s y)
goes_on_pushed t s y is scripts left = record {
  scripts = λ q has. has;
  outs = λ q out has. record { is_script = has.is_script; is_out = has.is_out };
  sums = λ f. refl;
  numbers = λ q n has is_n. is_n;
  nexts = λ q out has. next_pushed t s y is scripts q
      (left q out (record { is_script = has.is_script; is_out = has.is_out }));
}

goes_on_same : (t : TurnsSeen) → TurnsGoOn t t
goes_on_same t = record {
  scripts = λ q has. has;
  outs = λ q out has. has;
  sums = λ f. refl;
  numbers = λ q n has is_n. is_n;
  nexts = λ q out has. refl;
}

module _ {D : Type 0} (r : Naming) (d : State) (c : CoreSeen D) (k : IsKept r d c) where
  -- turns go on, and there is other room for entries
  module _ (turns : TurnsSeen) (spare : ℕ) (on : TurnsGoOn c.turns turns) where
    abbrev after : CoreSeen D
    after = record c {
      turns = turns;
      trace = record c.trace { spare = spare };
    }

    story_after : (b : Beginning) → IsNamed (names_in r) d.blocks b → HasStory r b d after
    story_after b named =
        let had = k.story b named in
        let m = had.means in
        record {
          story = had.story;
          means = record {
            reads = m.reads;
            session = m.session;
            trace = m.trace;
            owner = m.owner;
            root = m.root;
            cells = m.cells;
            clean = m.clean;
            reach = λ q out x has. m.reach q out x (on.outs q out has);
            owned = m.owned;
            born = m.born;
            gone = m.gone;
            at = m.at;
          };
          durable = λ t is tells.
              (let g = had.durable t is tells in
              record { each = g.each; now = g.now });
        }

    keeps_with : IsHistory r d after → AreTables after → IsKept r d after
    keeps_with history tables = record {
      history = history;
      tables = tables;
      accounts = accounts_after r d c k turns c.atoms.txns (record c.trace { spare = spare }) on (λ i. refl)
          (λ a opened. opened) refl (λ a. omega arith);
      cells = cells_after r d c k turns c.atoms.txns (record c.trace { spare = spare }) on (λ i. refl)
          (λ a opened. opened) refl (λ a. omega arith);
      tasks = tasks_after r d c k turns c.atoms.txns (record c.trace { spare = spare }) on (λ i. refl)
          (λ a opened. opened) refl (λ a. omega arith);
      lender = k.lender;
      story = story_after;
    }

  -- there is more room
  pub keeps_room : (spare : ℕ) → c.trace.spare ≤ spare
      → IsKept r d (record c { trace = record c.trace { spare = spare } })
  keeps_room spare le =
      let h = k.history in
      keeps_with c.turns spare (goes_on_same c.turns)
      (record {
        told = h.told;
        job = h.job;
        first = h.first;
        drawn = h.drawn;
        begins = h.begins;
        committed = h.committed;
        room = let had = h.room in omega (arith, had, le);
      }) (record { tasks = k.tables.tasks; ordered = k.tables.ordered })

  pub keeps_roomier : (n : ℕ) (entries : Told) → entries ≡ record c.trace { spare = max c.trace.spare n }
      → IsKept r d (record c { trace = entries })
  keeps_roomier n entries same =
      subst (λ (x : Told). IsKept r d (record c { trace = x })) (sym same)
      (keeps_room (max c.trace.spare n) (omega arith))

  pub room_for_one : (n : ℕ) → c.trace.spare + 1 ≤ n → owed c.turns + owed_for_commit c.commit + 1 ≤ n
  room_for_one n le = let had = k.history.room in omega (arith, had, le)

  -- a command comes to the end of a script
  module _ (s : ℕ) (y : Command) (unnamed : r.scripts ≡ None) (is : IsScript c.turns s)
      (plain : HasNoBegin (commands_at c.turns s)) (ok : IsWork y ⊎ (y ≡ asks.Commit))
      (more : owed c.turns + owed_for_commit c.commit + 1 ≤ c.trace.spare) where
    scripts : length c.turns.turns ≡ length c.turns.job.scripts
    scripts = (k.history.told None tt).scripts

    history_pushed : IsHistory r d (record c { turns = with_command c.turns s y })
    history_pushed =
        let h = k.history in
        record {
          told = λ o named. told_pushed (commands greatest_size) (option_map start_of o) d.clock (tables_of c)
              c.trace.entries (h.told o named) s y is plain;
          job = λ t named. absurd (cc (sym unnamed ∙ named));
          first = h.first;
          drawn = drawn_pushed h.first c.turns c.numbers.next_oid c.trace.entries h.drawn s y is scripts;
          begins = h.begins;
          committed = h.committed;
          room =
              let owes = owed_pushed c.turns s y in
              omega (arith, owes, more);
        }

    keeps_push : IsKept r d (record c { turns = with_command c.turns s y })
    keeps_push =
        keeps_with (with_command c.turns s y) c.trace.spare
        (goes_on_pushed c.turns s y is scripts
        (λ q out has.
        (let v = k.tables.tasks.served q out has in next_there c.turns q v.command v.next))) history_pushed
        (record {
          tasks = tasks_pushed (tables_of c) c.locks k.tables.tasks s y is scripts;
          ordered = pushed_ordered c.turns s y is scripts plain ok k.tables.ordered;
        })

    -- the same of turns that are as they are then
    pub keeps_pushed : (turns : TurnsSeen) → turns ≡ with_command c.turns s y
        → IsKept r d (record c { turns = turns })
    keeps_pushed turns are_turns =
        subst (λ (x : TurnsSeen). IsKept r d (record c { turns = x })) (sym are_turns) keeps_push
