-- The table of atoms where a transaction ends: atoms, owners and accounts are as they were.
use Rattle.std.proofs.Common.{◌≡◌, ℕ, ◌-◌, Option, Some, None, cond, false, length, refl, sym, ◌∙◌, ap, arith}
use Rattle.std.proofs.lemmas.List.{length-set}
use Rattle.r4_atoms.specs.Atoms.{AtomsSeen, IsOpenAtom, TxnSeen, atom_of, is_cleaned, no_txn, owner_by, owner_of}
use Rattle.r4_atoms.specs.Atoms.{txn_of}
use Rattle.r4_atoms.specs.Owned.{label_of}
use Rattle.r4_kept.specs.r4_history.Tables.{with_ended}
use Rattle.r4_kept.proofs.r4_history.AtomSteps.{kept_by_set}

module _ (s : AtomsSeen) (t : ℕ) where
  pub same_atom : (n : ℕ) → atom_of (with_ended s t) n ≡ atom_of s n
  same_atom n = kept_by_set (λ (x : TxnSeen). x.atom) s.txns (t - 1) (record (txn_of s t) { is_open = false }) no_txn
      refl (n - 1)

  pub same_owner : (n : ℕ) → owner_of (with_ended s t) n ≡ owner_of s n
  same_owner n = by (label_of n s.captured)
    where
      by : (o : Option ℕ) → owner_by (with_ended s t) o ≡ owner_by s o
      by None = refl
      by (Some x) = ap (λ (a : ℕ). cond (is_cleaned s a) None (Some a)) (same_atom x)

  pub same_count : length (with_ended s t).txns ≡ length s.txns
  same_count = length-set s.txns (t - 1) (record (txn_of s t) { is_open = false })

  pub open_before : (a : ℕ) → IsOpenAtom (with_ended s t) a → IsOpenAtom s a
  open_before a is = record {
    atom = record {
      begun =
          let e = same_count in
          record { some = is.atom.begun.some; within = omega (arith, is.atom.begun.within, e) };
      own = sym (same_atom a) ∙ is.atom.own;
    };
    unsealed = is.unsealed;
  }
