-- Where the state of one atom changes.
use Rattle.std.proofs.Common.{◌≡◌, ℕ, ◌-◌, ◌<◌, Bool, cond, Option, Some, None, length, refl, sym, ◌∙◌, ap, arith}
use Rattle.std.proofs.lemmas.List.{get_or-set_other, get_or-set_same}
use Rattle.r4_history.specs.r4_atoms.Atoms.{AtomsSeen, IsBegun, IsOpenAtom, atom_of, new_atom, owner_by, owner_of, state_of}
use Rattle.r4_history.specs.r4_atoms.Atoms.{with_state}
use Rattle.r4_history.specs.r4_atoms.Owned.{label_of}
use Rattle.r4_history.specs.r4_atoms.declared.things.AtomState.{AtomState}
use Rattle.r4_history.proofs.AtomSteps.{kept_by_set}

module _ (s : AtomsSeen) (a : ℕ) (x : AtomState) where
  -- what its new state keeps, each atom keeps
  pub state_same : {X : Type 0} (f : AtomState → X) → f x ≡ f (state_of s a) → (n : ℕ)
      → f (state_of (with_state s a x) n) ≡ f (state_of s n)
  state_same f e n = kept_by_set f s.atoms (a - 1) x new_atom e (n - 1)

  pub state_there : IsBegun s a → length s.atoms ≡ length s.txns → state_of (with_state s a x) a ≡ x
  state_there is states =
      get_or-set_same s.atoms (a - 1) x new_atom (omega (arith, is.some, is.within, states))

  -- and the others keep all
  pub state_others : IsBegun s a → (n : ℕ) → 0 < n → (n ≡ a → ⊥) → state_of (with_state s a x) n ≡ state_of s n
  state_others is n some other =
      get_or-set_other s.atoms (a - 1) (n - 1) x new_atom
      (λ same. (let here = is.some in other (omega (arith, same, some, here))))

  pub owners_same : x.cleaned ≡ (state_of s a).cleaned → (n : ℕ) → owner_of (with_state s a x) n ≡ owner_of s n
  owners_same e n = by (label_of n s.captured)
    where
      by : (o : Option ℕ) → owner_by (with_state s a x) o ≡ owner_by s o
      by None = refl
      by (Some t) =
          ap (λ (y : Bool). cond y None (Some (atom_of s t)))
          (state_same (λ (y : AtomState). y.cleaned) e (atom_of s t))

  pub opens_same : x.sealed ≡ (state_of s a).sealed → (n : ℕ) → IsOpenAtom (with_state s a x) n → IsOpenAtom s n
  opens_same e n is = record {
    atom = record {
      begun = record { some = is.atom.begun.some; within = is.atom.begun.within };
      own = is.atom.own;
    };
    unsealed = sym (state_same (λ (y : AtomState). y.sealed) e n) ∙ is.unsealed;
  }
