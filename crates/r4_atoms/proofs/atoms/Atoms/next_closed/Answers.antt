use Rattle.std.proofs.Common.{◌≡◌, ℕ, ◌+◌, ◌∙◌, sym, ap, subst, true, false, inl, inr, arith}
use Rattle.std.proofs.lemmas.Bool.{cases_lt, cases_eq}
use Rattle.r4_atoms.specs.Atoms.{IsClosedAtom, is_sealed}
use Rattle.r4_atoms.proofs.AtomLaws.{low_committed}
use Rattle.r4_atoms.proofs.atoms.Atoms.next_closed.Goals as goal

pub loop-at-init : goal.loop-at-init
loop-at-init c a closed = elim (cases_lt c.self.inside.low a) [
  | inl above ↦ above
  | inr below ↦
      let sealed = (low_committed _ _ _ _ _ _ _ c.self.invariant.0 _ c.self.view_is a closed.unsealed.atom.begun below).1 in
      let own = ap (λ (x : ℕ). is_sealed c.args.self.now x) closed.unsealed.atom.own in
      let open_atom = closed.unsealed.unsealed in
      let bad : true ≡ false = sym sealed ∙ own ∙ open_atom in
      absurd (cc)
]

pub loop-at-preserved : goal.loop-at-preserved
loop-at-preserved c a closed = elim (cases_eq a (c.loop-at.at + 1)) [
  | inl here ↦ absurd (c.if-is_closed_atom.ensures (subst (λ (x : ℕ). IsClosedAtom c.args.self.now x) here closed))
  | inr there ↦ let h = c.loop-at.invariant a closed in omega (arith, h)
]
