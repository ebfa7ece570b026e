-- How many commands of an atom were done.
use Rattle.std.proofs.Common.{◌≡◌, ℕ, zero, suc, ◌<◌, ◌≤◌, ◌==◌, Bool, true, false, cond, List, [], ◌∷◌, ◌++◌}
use Rattle.std.proofs.Common.{◌-◌, get_or, refl, subst, sym, arith}
use Rattle.std.proofs.lemmas.Bool.{eq-eqb, eqb-true}
use Rattle.r4_history.specs.r4_atoms.Atoms.{AtomsSeen, TxnSeen, atom_of, no_txn}
use Rattle.r4_history.specs.Drawn.{IsNoDone}
use Rattle.r4_history.specs.Tables.{Begins}
use Rattle.r4_durable.specs.r4_sets.Atoms.{ChangesNoCell}
use Rattle.r4_history.specs.r4_trace.declared.entry.Entry.{Entry}
use Rattle.r4_history.specs.r4_trace.declared.entry.Entry.TheVariants.{Begin, Fuse, Done, Refused, Ended, Sealed, Committed}
use Rattle.r4_history.specs.r4_trace.declared.entry.Entry.TheVariants.{Acked, Broken}
use Rattle.r4_kept.specs.Accounts.{dones_in, dones_of}

-- an entry of another kind is none
pub dones_told : (chosen : ℕ → Bool) (trace : List Entry) (e : Entry) → IsNoDone e
    → dones_of chosen (e ∷ trace) ≡ dones_of chosen trace
dones_told chosen trace (Begin txn script) plain = refl
dones_told chosen trace (Fuse kept gone node) plain = refl
dones_told chosen trace (Refused txn script i reply) plain = refl
dones_told chosen trace (Ended txn) plain = refl
dones_told chosen trace (Sealed atom) plain = refl
dones_told chosen trace (Committed atom clock) plain = refl
dones_told chosen trace (Acked script txn clock) plain = refl
dones_told chosen trace (Broken clock faults) plain = refl
dones_told chosen trace (Done txn script i command reply) plain = absurd plain

-- one that changes no cell is of another kind
pub changes_none : (e : Entry) → ChangesNoCell e → IsNoDone e
changes_none (Begin txn script) quiet = tt
changes_none (Refused txn script i reply) quiet = tt
changes_none (Ended txn) quiet = tt
changes_none (Acked script txn clock) quiet = tt
changes_none (Broken clock faults) quiet = tt
changes_none (Fuse kept gone node) quiet = tt
changes_none (Sealed atom) quiet = tt
changes_none (Committed atom clock) quiet = tt
changes_none (Done txn script i command reply) quiet = absurd quiet

one_more : (x y : Bool) → (x ≡ true → y ≡ true) → cond {A = ℕ} x 1 0 ≤ cond {A = ℕ} y 1 0
one_more true true h = omega arith
one_more true false h = absurd (cc (h refl))
one_more false true h = omega arith
one_more false false h = omega arith

-- of more transactions there are as many or more
pub more_dones : (few more : ℕ → Bool) → ((t : ℕ) → few t ≡ true → more t ≡ true) → (trace : List Entry)
    → dones_of few trace ≤ dones_of more trace
more_dones few more h [] = omega arith
more_dones few more h (Done txn script i command reply ∷ older) =
    let one = one_more (few txn.0) (more txn.0) (h txn.0) in
    let rest = more_dones few more h older in
    omega (arith, one, rest)
more_dones few more h (Begin txn script ∷ older) = more_dones few more h older
more_dones few more h (Fuse kept gone node ∷ older) = more_dones few more h older
more_dones few more h (Refused txn script i reply ∷ older) = more_dones few more h older
more_dones few more h (Ended txn ∷ older) = more_dones few more h older
more_dones few more h (Sealed atom ∷ older) = more_dones few more h older
more_dones few more h (Committed atom clock ∷ older) = more_dones few more h older
more_dones few more h (Acked script txn clock ∷ older) = more_dones few more h older
more_dones few more h (Broken clock faults ∷ older) = more_dones few more h older

-- where each transaction that was there is of its atom still, and an entry comes that is none, there are as many
module _ (s new : AtomsSeen) (a : ℕ) (trace : List Entry) where
  pub dones_stay : ((t : ℕ) → atom_of new t ≡ atom_of s t) → dones_in new a trace ≡ dones_in s a trace
  dones_stay same = λ i. dones_of (λ t. same t i == a) trace

  pub dones_on : ((t : ℕ) → atom_of s t ≡ a → atom_of new t ≡ a) → (e : Entry) → IsNoDone e
      → dones_in s a trace ≤ dones_in new a (e ∷ trace)
  dones_on stays e plain =
      let told = dones_told (λ t. atom_of new t == a) trace e plain in
      let more = more_dones (λ t. atom_of s t == a) (λ t. atom_of new t == a)
      (λ t is. eq-eqb (atom_of new t) a (stays t (eqb-true (atom_of s t) a is))) trace in
      omega (arith, told, more)

-- a transaction that begins leaves the atoms of the others
atom_there : (xs : List TxnSeen) (y : TxnSeen) (i a : ℕ) → 0 < a → (get_or xs i no_txn).atom ≡ a
    → (get_or (xs ++ y ∷ []) i no_txn).atom ≡ a
atom_there [] y i a some is = let none : ◌≡◌ {A = ℕ} 0 a = is in absurd (omega (arith, some, none))
atom_there (x ∷ xs) y zero a some is = is
atom_there (x ∷ xs) y (suc i) a some is = atom_there xs y i a some is

pub atom_stays : (s new : AtomsSeen) (script : ℕ) → Begins s new script → (t a : ℕ) → 0 < a → atom_of s t ≡ a
    → atom_of new t ≡ a
atom_stays s new script b t a some is =
    subst (λ (xs : List TxnSeen). (get_or xs (t - 1) no_txn).atom ≡ a) (sym b.txns)
    (atom_there s.txns _ (t - 1) a some is)
