-- Commands are answered that change no cell: `commit` is acknowledged, and a command is refused.
use Rattle.std.proofs.Common.{◌≡◌, ◌⊎◌, inl, inr, ℕ, ◌+◌, ◌≤◌, ◌∷◌, Option, Some, None}
use Rattle.std.proofs.Common.{refl, sym, ◌∙◌, ap, subst, arith, ⊎_elim, true≢false}
use Rattle.std.specs.Prelude.{IsSome}
use Rattle.std.specs.Option.{option_map}
use Rattle.r4_atoms.specs.Atoms.{AllCommitted}
use Rattle.r4_base.specs.declared.things.ScriptNo.{ScriptNo}
use Rattle.r4_base.specs.declared.things.TxnNo.{TxnNo}
use Rattle.r4_content.specs.Locality.{commands}
use Rattle.r4_content.specs.Meaning.{greatest_size}
use Rattle.r4_content.specs.declared.command.Command.{Command}
use Rattle.r4_content.specs.declared.command.Command.TheVariants as asks
use Rattle.r4_content.specs.declared.reply.Reply.{Reply}
use Rattle.r4_content.specs.declared.reply.Reply.TheVariants.{Reopen}
use Rattle.r4_ready.specs.r4_durable.Meaning.{Beginning, BeginsWith, start_of}
use Rattle.r4_others.specs.r4_history.Tables.{IsLastOf, Stands, next_at}
use Rattle.r4_others.specs.r4_history.Told.{IsTold}
use Rattle.r4_others.proofs.r4_history.Places.{next_there, turn_now}
use Rattle.r4_others.proofs.r4_history.Told.{told_acked, told_refused_commit, told_refused_inside, told_refused_outside}
use Rattle.r4_others.proofs.r4_history.Told.{told_reopen}
use Rattle.r4_outside.specs.Device.{State}
use Rattle.r4_trace.specs.Job.{IsWork}
use Rattle.r4_trace.specs.Kept.{Told}
use Rattle.r4_trace.specs.declared.entry.Entry.TheVariants.{Acked, Refused}
use Rattle.r4_turns.specs.Turns.{HasNext, IsScript, TurnsSeen, answered_at, answered_one, turn_at}
use Rattle.r4_turns.specs.declared.turn.Open.{Open}
use Rattle.r4_turns.specs.declared.turn.Turn.{Turn}
use Rattle.r4_ready.specs.r4_kept.History.{owed, owed_for_commit}
use Rattle.r4_ready.specs.r4_kept.Kept.{IsKept}
use Rattle.r4_ready.specs.r4_kept.Naming.{Naming, names_in}
use Rattle.r4_ready.specs.r4_kept.Steps.{IsRefusable, MayBeRefused, NamesTxn, with_entry}
use Rattle.r4_ready.specs.r4_kept.View.{CoreSeen, tables_of}
use Rattle.r4_core.proofs.Answered.{keeps_answered, not_out}
use Rattle.r4_ready.proofs.r4_kept.Turning.{commit_owed}

-- one command more is answered then
pub now_answered : (t : TurnsSeen) (s : ℕ) → IsScript t s → answered_at (answered_one t s) s ≡ answered_at t s + 1
now_answered t s is =
    ap (λ (x : Turn). x.answered)
    (turn_now t s (record (turn_at t s) { answered = (turn_at t s).answered + 1; numbers = None }) is)

module _ {D : Type 0} (r : Naming) (d : State) (c : CoreSeen D) (k : IsKept r d c) (s : ScriptNo) where
  -- ---- a `commit` is acknowledged

  module _ (txn : TxnNo) (sound : c.broken ≡ None) (st : Stands c.turns s.0 None (Some asks.Commit)) where
    -- there is room for the entry
    room_to_ack : owed (answered_one c.turns s.0) + owed_for_commit c.commit + 1 ≤ c.trace.spare
    room_to_ack =
        let had = k.history.room in
        let less = commit_owed c.turns s.0 st.is_script (k.history.told None tt).scripts st.next in
        omega (arith, had, less)

    pub keeps_acked : (last : IsLastOf c.atoms s.0 txn.0) (all : AllCommitted c.atoms s.0) (turns : TurnsSeen)
        (clock : ℕ) (entries : Told) → turns ≡ answered_one c.turns s.0 → clock ≡ d.clock
        → entries ≡ with_entry c.trace (Acked s txn clock) → IsKept r d (record c { turns = turns; trace = entries })
    keeps_acked last all turns clock entries are_turns is_clock are_entries =
        keeps_answered r d c k s (Acked s txn d.clock) st.is_script
        (not_out c k.tables s.0 st.is_script asks.Commit st.next (λ w. w)) tt tt
        (λ o named. told_acked (commands greatest_size) (option_map start_of o) d.clock (tables_of c) c.trace.entries
        (k.history.told o named) s txn sound st last all) room_to_ack turns entries are_turns
        (are_entries ∙ ap (λ (n : ℕ). with_entry c.trace (Acked s txn n)) is_clock)

    pub may_ack : HasNext c.turns s.0 × (1 ≤ c.trace.spare)
    may_ack = (next_there c.turns s.0 asks.Commit st.next, omega (arith, room_to_ack))

  -- ---- a command is refused

  work_or_commit : (x : Command) → MayBeRefused None x → (x ≡ asks.Commit) ⊎ IsWork x
  work_or_commit asks.Commit may = inl refl
  work_or_commit x may = inr may

  module _ (txn : TxnNo) (reply : Reply) (sound : c.broken ≡ None) where
    abbrev i : ℕ
    i = answered_at c.turns s.0 + 1

    tells_refused : (start : Option Beginning) → BeginsWith (names_in r) d.blocks start
        → (within : Option Open) (x : Command) → Stands c.turns s.0 within (Some x) → NamesTxn within txn
        → MayBeRefused within x
        → IsTold (commands greatest_size) (option_map start_of start) d.clock
        (record (tables_of c) { turns = answered_one c.turns s.0 }) (Refused txn s i reply ∷ c.trace.entries)
    tells_refused start named None x st is may =
        ⊎_elim (λ commit. told_refused_commit (commands greatest_size) (option_map start_of start) d.clock (tables_of c)
        c.trace.entries (k.history.told start named) txn s i reply sound
        (subst (λ (y : Command). Stands c.turns s.0 None (Some y)) commit st) refl is)
        (λ work. told_refused_outside (commands greatest_size) (option_map start_of start) d.clock (tables_of c)
        c.trace.entries (k.history.told start named) txn s i x reply sound st work refl is) (work_or_commit x may)
    tells_refused start named (Some o) x st is may =
        told_refused_inside (commands greatest_size) (option_map start_of start) d.clock (tables_of c)
        c.trace.entries (k.history.told start named) txn s i x reply sound
        (subst (λ (y : Open). Stands c.turns s.0 (Some y) (Some x)) is st) may refl

    pub keeps_refused : (can : IsRefusable c.turns s.0 txn)
        (room : owed (answered_one c.turns s.0) + owed_for_commit c.commit + 1 ≤ c.trace.spare)
        (turns : TurnsSeen) (index : ℕ) (entries : Told) → turns ≡ answered_one c.turns s.0 → index ≡ i
        → entries ≡ with_entry c.trace (Refused txn s index reply)
        → IsKept r d (record c { turns = turns; trace = entries })
    keeps_refused can room turns index entries are_turns is_index are_entries =
        keeps_answered r d c k s (Refused txn s i reply) can.stands.is_script can.free tt tt
        (λ start named. tells_refused start named can.within can.command can.stands can.names can.may) room turns
        entries are_turns (are_entries ∙ ap (λ (n : ℕ). with_entry c.trace (Refused txn s n reply)) is_index)

    pub may_refuse : IsRefusable c.turns s.0 txn → IsScript c.turns s.0 × HasNext c.turns s.0
    may_refuse can = (can.stands.is_script, next_there c.turns s.0 can.command can.stands.next)

  -- ---- after a call of the device failed

  module _ (failed : ℕ) (some : c.broken ≡ Some failed) (is : IsScript c.turns s.0)
      (free : (turn_at c.turns s.0).out ≡ None) where
    abbrev none : TxnNo
    none = record { 0 = 0 }

    tells_reopen : (o : Option Command) → next_at c.turns s.0 ≡ o → IsSome o → (start : Option Beginning)
        → BeginsWith (names_in r) d.blocks start
        → IsTold (commands greatest_size) (option_map start_of start) d.clock
        (record (tables_of c) { turns = answered_one c.turns s.0 })
        (Refused none s (answered_at c.turns s.0 + 1) (Reopen failed) ∷ c.trace.entries)
    tells_reopen None at has start named = absurd (true≢false (sym has))
    tells_reopen (Some x) at has start named =
        told_reopen (commands greatest_size) (option_map start_of start) d.clock (tables_of c) c.trace.entries
        (k.history.told start named) none s (answered_at c.turns s.0 + 1) x (turn_at c.turns s.0).transaction failed
        some (record { is_script = is; transaction = refl; next = at }) refl refl

    has_next : (o : Option Command) → next_at c.turns s.0 ≡ o → IsSome o → HasNext c.turns s.0
    has_next None at has = absurd (true≢false (sym has))
    has_next (Some x) at has = next_there c.turns s.0 x at

    pub keeps_reopened : (next : IsSome (next_at c.turns s.0))
        (room : owed (answered_one c.turns s.0) + owed_for_commit c.commit + 1 ≤ c.trace.spare)
        (turns : TurnsSeen) (index : ℕ) (entries : Told) → turns ≡ answered_one c.turns s.0
        → index ≡ answered_at c.turns s.0 + 1 → entries ≡ with_entry c.trace (Refused none s index (Reopen failed))
        → IsKept r d (record c { turns = turns; trace = entries })
    keeps_reopened next room turns index entries are_turns is_index are_entries =
        keeps_answered r d c k s (Refused none s (answered_at c.turns s.0 + 1) (Reopen failed)) is free tt tt
        (tells_reopen (next_at c.turns s.0) refl next) room turns entries are_turns
        (are_entries ∙ ap (λ (n : ℕ). with_entry c.trace (Refused none s n (Reopen failed))) is_index)

    pub may_reopen : IsSome (next_at c.turns s.0) → HasNext c.turns s.0
    may_reopen next = has_next (next_at c.turns s.0) refl next
