-- What a step has to show of its entry, and what the end of a run tells.
use Rattle.std.proofs.Common.{◌≡◌, ◌⊎◌, inl, inr, ⊎_elim, ℕ, ◌+◌, ◌≤◌, ◌==◌, true, List, [], ◌∷◌, slice_get, Option, Some, None, refl, sym, ◌∙◌, ap, subst, arith}
use Rattle.std.proofs.lemmas.Bool.{ne_eqb, cond-false}
use Rattle.r4_base.specs.Image.{Image}
use Rattle.r4_base.specs.Value.{Content}
use Rattle.r4_base.specs.declared.things.ScriptNo.{ScriptNo}
use Rattle.r4_base.specs.declared.things.TxnNo.{TxnNo}
use Rattle.r4_content.specs.Locality.{Meaning}
use Rattle.r4_content.specs.declared.command.Command.{Command}
use Rattle.r4_content.specs.declared.command.Command.TheVariants as commands
use Rattle.r4_content.specs.declared.reply.Reply.{Reply}
use Rattle.r4_outside.specs.Device.{State, Leaves, TellsCrashes}
use Rattle.r4_trace.specs.declared.entry.Entry.{Entry}
use Rattle.r4_trace.specs.declared.entry.Entry.TheVariants.{Begin, Done, Refused, Ended, Committed, Acked, Broken}
use Rattle.r4_trace.specs.Traced.{IsAcked, IsBegun, IsSaid, atom_in, begun_in, broken_at, committed_in, is_first, latest, sealed_in}
use Rattle.r4_trace.specs.Order.{IsOrdered, MayFollow}
use Rattle.r4_trace.specs.Job.{Answered, Answers, Asked, DoneIn, Inside, MayBeRefused, MayEnd, Outside, RefusedIn, Single, Within, commands_of, end_of, ended_in, place, txn_in}
use Rattle.r4_trace.specs.Legal.{IsFinished, IsWhole}
use Rattle.r4_trace.specs.Safe.{HasFirst, Holds, IsCrashSafe}
use Rattle.r4_trace.proofs.FirstOnes.{all_by, begun_le, ended_or_not, sealed_committed}
use Rattle.r4_trace.proofs.Places.{open_place, place_open}

-- a transaction is of one script
pub one_script : (trace : List Entry) (t s q : ℕ) → IsOrdered trace → IsBegun trace t s → IsBegun trace t q → s ≡ q
one_script [] t s q legal h k = absurd h
one_script (Begin u p ∷ older) t s q legal (inl h) (inl k) = h.1 ∙ sym k.1
one_script (Begin u p ∷ older) t s q legal (inl h) (inr k) =
    (let le = begun_le older t q legal.2 k in absurd (omega (arith, le, h.0, legal.0.0)))
one_script (Begin u p ∷ older) t s q legal (inr h) (inl k) =
    (let le = begun_le older t s legal.2 h in absurd (omega (arith, le, k.0, legal.0.0)))
one_script (Begin u p ∷ older) t s q legal (inr h) (inr k) = one_script older t s q legal.2 h k
one_script (e ∷ older) t s q legal h k = one_script older t s q legal.2 h k

-- ---- an entry that answers a command may follow

done_txn : (within : Within) (t : ℕ) → DoneIn within t → txn_in within ≡ Some t
done_txn Outside t h = absurd h
done_txn (Inside u) t h = ap Some (sym h)
done_txn (Single u) t h = ap Some (sym h)
done_txn (Answered u) t h = absurd h

end_txn : (next : Option Command) (within : Within) (t : ℕ) → MayEnd next within t → txn_in within ≡ Some t
end_txn next Outside t h = absurd h
end_txn next (Inside u) t h = ap Some (sym h.0)
end_txn next (Single u) t h = absurd h
end_txn next (Answered u) t h = ap Some (sym h)

refused_in_txn : (within : Within) (t : ℕ) → RefusedIn within t → (t ≡ 0) ⊎ (txn_in within ≡ Some t)
refused_in_txn Outside t h = inl h
refused_in_txn (Inside u) t h = inr (ap Some (sym h))
refused_in_txn (Single u) t h = inr (ap Some (sym h))
refused_in_txn (Answered u) t h = absurd h

refused_txn : (b : Option ℕ) (o : Option Command) (within : Within) (t : ℕ) → MayBeRefused b o within t
    → (t ≡ 0) ⊎ (txn_in within ≡ Some t)
refused_txn b None within t h = absurd h
refused_txn (Some c) (Some x) within t h = inl h
refused_txn None (Some commands.Begin) within t h = absurd h
refused_txn None (Some commands.End) within t h = absurd h
refused_txn None (Some commands.Commit) within t h = inl h.1
refused_txn None (Some x) within t h = refused_in_txn within t h

module _ (job : Asked) (older : List Entry) (legal : IsOrdered older) where
  pub begin_follows : (u : TxnNo) (q : ScriptNo) → Answers job older (Begin u q) → u.0 ≡ begun_in older + 1
      → MayFollow older (Begin u q)
  begin_follows u q h is = (
    is,
    λ t opn.
        (let at = open_place (commands_of job q.0) older t q.0 legal opn in absurd (cc (at, ap txn_in h.0))),
  )

  pub done_follows : (u : TxnNo) (q : ScriptNo) (i : ℕ) (c : Command) (r : Reply)
      → Answers job older (Done u q i c r) → MayFollow older (Done u q i c r)
  done_follows u q i c r h = place_open (commands_of job q.0) older u.0 q.0 legal (done_txn _ u.0 h.2)

  pub refused_follows : (u : TxnNo) (q : ScriptNo) (i : ℕ) (r : Reply) → Answers job older (Refused u q i r)
      → MayFollow older (Refused u q i r)
  refused_follows u q i r h =
      ⊎_elim inl (λ is. inr (place_open (commands_of job q.0) older u.0 q.0 legal is))
      (refused_txn (broken_at older) _ _ u.0 h.1)

  pub ended_follows : (u : TxnNo) → Answers job older (Ended u) → MayFollow older (Ended u)
  ended_follows u h = (h.0, place_open (commands_of job h.0) older u.0 h.0 legal (end_txn _ _ u.0 h.1))

-- ---- where a transaction ends, the other scripts stay

not_ended : (within : Within) (cs : List Command) (t n : ℕ) → (txn_in within ≡ Some t → ⊥)
    → ended_in within cs t n ≡ record { answered = n; within = within }
not_ended Outside cs t n other = refl
not_ended (Inside v) cs t n other =
    cond-false (t == v) (record { answered = end_of (slice_get cs n) n; within = Outside })
    (record { answered = n; within = Inside v }) (ne_eqb t v (λ same. other (ap Some (sym same))))
not_ended (Single v) cs t n other =
    cond-false (t == v) (record { answered = n; within = Outside }) (record { answered = n; within = Single v })
    (ne_eqb t v (λ same. other (ap Some (sym same))))
not_ended (Answered v) cs t n other =
    cond-false (t == v) (record { answered = n; within = Outside }) (record { answered = n; within = Answered v })
    (ne_eqb t v (λ same. other (ap Some (sym same))))

pub others_stay : (job : Asked) (older : List Entry) (u : TxnNo) (s q : ℕ) → IsOrdered older
    → txn_in (place (commands_of job s) older s).within ≡ Some u.0 → (q ≡ s → ⊥)
    → place (commands_of job q) (Ended u ∷ older) q ≡ place (commands_of job q) older q
others_stay job older u s q legal is other =
    not_ended (place (commands_of job q) older q).within (commands_of job q) u.0
    (place (commands_of job q) older q).answered
    (λ too. other
    (one_script older u.0 q s legal (place_open (commands_of job q) older u.0 q legal too).0
    (place_open (commands_of job s) older u.0 s legal is).0))

-- ---- the end of a run

pub whole : (job : Asked) (trace : List Entry) → IsOrdered trace → IsFinished job trace → IsWhole job trace
whole job trace legal end = record {
  answered = end.answered;
  ended = λ t s h. ⊎_elim (λ e. e)
      (λ un. absurd (cc (open_place (commands_of job s) trace t s legal (h, un), ap txn_in (end.outside s))))
      (ended_or_not trace t);
  durable = λ t s h. ⊎_elim (λ c. c) (λ late. absurd (omega (arith, late.1, end.committed)))
      (sealed_committed trace (atom_in trace t) legal (end.sealed t s h));
  sound = end.sound;
}

-- what a line says is acknowledged, at a moment that no clock is above
pub said_is_acked : (trace : List Entry) (m t : ℕ) → IsOrdered trace → latest trace ≤ m → IsSaid trace t
    → IsAcked trace m t
said_is_acked [] m t legal le h = absurd h
said_is_acked (Acked s u c ∷ older) m t legal le (inl h) = inl (le, h.0, h.1)
said_is_acked (Acked s u c ∷ older) m t legal le (inr h) =
    inr (said_is_acked older m t legal.2 (omega (arith, le, legal.0.2)) h)
said_is_acked (Committed a c ∷ older) m t legal le h = said_is_acked older m t legal.2 (omega (arith, le, legal.0.2)) h
said_is_acked (Broken c f ∷ older) m t legal le h = said_is_acked older m t legal.2 (omega (arith, le, legal.0)) h
said_is_acked (e ∷ older) m t legal le h = said_is_acked older m t legal.2 le h

module _ (means : Image → Content → Type 0) (w : Meaning Command Reply) (start : Option Content)
    (clock : Option ℕ) (trace : List Entry) (legal : IsOrdered trace) (d : State) where
  -- every image that a crash from now on leaves has each transaction of which a line says so
  pub said_is_kept : IsCrashSafe means w start clock trace d → TellsCrashes d → latest trace ≤ d.clock
      → (image : Image) → Leaves d d.clock image
      → (h : Holds means w start clock trace d.clock image) × ((t : ℕ) → IsSaid trace t → is_first trace h.k t ≡ true)
  said_is_kept safe tells time image left =
      let h = safe.each tells d.clock image (omega arith) left in
      (h, λ t said. h.acked t (said_is_acked trace d.clock t legal time said))

  -- and where all that is sealed is committed, reading gives what all of it made
  pub reading_has_all : IsCrashSafe means w start clock trace d → TellsCrashes d → latest trace ≤ d.clock
      → sealed_in trace ≡ committed_in trace
      → (x : Content) (t : ℕ) → start ≡ Some x → clock ≡ Some t → t ≤ d.clock
      → HasFirst means w x trace (sealed_in trace) d.seen
  reading_has_all safe tells time same x t is at lo =
      let h = safe.each tells d.clock d.seen (omega arith) tells in
      let all_count = all_by trace d.clock legal time in
      let k_is : h.k ≡ sealed_in trace = omega (arith, h.at_least, h.in_sealed, all_count, same) in
      subst (λ (k : ℕ). HasFirst means w x trace k d.seen) k_is (h.has x t is at lo)
