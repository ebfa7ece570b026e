-- What a step came to.
use Rattle.std.proofs.Common.{◌≡◌, None, ap, inl, inr, subst, sym, ℕ}
use Rattle.r4_atoms.specs.Atoms.{IsClosedAtom}
use Rattle.r4_history.specs.Serving.{AsksForFlush}
use Rattle.r4_history.specs.Tables.{IsOver}
use Rattle.r4_shared.specs.Finishing.{AllAnswered}
use Rattle.r4_base.specs.declared.things.AtomNo.{AtomNo}
use Rattle.r4_apply.specs.r4_next.Taking.{Takes}
use Rattle.r4_apply.specs.r4_next.declared.taken.Taken.TheVariants as taken
use Rattle.r4_apply.specs.r4_kept.View.{CoreSeen, committing, tables_of}
use Rattle.r4_outside.specs.Device.{State}
use Rattle.r4_shared.specs.Stepping.{IsFlushedAs, IsNext}
use Rattle.r4_shared.specs.declared.stepping.Next.{Next}

module _ {D : Type 0} (state : D → State) (old mid : CoreSeen D) where
  -- an atom that is to be flushed was asked for
  pub flush_asked : (atom : AtomNo) → Takes state old mid (taken.Flush atom)
      → (script : ℕ) × AsksForFlush (tables_of mid) script atom
  flush_asked atom takes = (
    takes.script.0,
    subst (λ (c : CoreSeen D). AsksForFlush (tables_of c) takes.script.0 atom) (sym takes.done.1) takes.done.0,
  )

  pub next_flush : (new : CoreSeen D) (atom : AtomNo) (n : Next) → Takes state old mid (taken.Flush atom)
      → IsFlushedAs mid new atom n → IsNext state old new n
  next_flush new atom n takes (inl f) = subst (IsNext state old new) (sym f.0) (mid, takes, f.1)
  next_flush new atom n takes (inr f) = subst (IsNext state old new) (sym f.0) (mid, takes, f.1)

-- a core whose scripts are answered, and where nothing is left to be committed
pub over : {D : Type 0} (c : CoreSeen D) → c.broken ≡ None → c.commit ≡ None
    → ((a : ℕ) → IsClosedAtom c.atoms a → ⊥) → AllAnswered c.turns → IsOver (tables_of c)
over c sound rests none all = record {
  finished = λ s is. record { answered = (all s is).answered; closed = λ so. (all s is).closed };
  no_atom = none;
  no_commit = ap committing rests;
  sound = sound;
}
