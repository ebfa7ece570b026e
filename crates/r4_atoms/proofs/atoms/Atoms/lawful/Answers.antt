use Rattle.std.proofs.Common.{◌≡◌, ℕ, ◌+◌, ◌-◌, ◌∙◌, sym, ap, subst, arith, get_or}
use Rattle.r4_atoms.specs.declared.things.AtomState.{AtomState}
use Rattle.r4_atoms.specs.Atoms.{atom_of, open_count, IsAtom}
use Rattle.r4_atoms.proofs.AtomLaws.{atom_at, begun_at, count_seen, name_within, atom_is, begun_within, length-seen, owner_begun, state_is}
use Rattle.r4_atoms.proofs.atoms.Atoms.lawful.Goals as goal

pub returns-clause-atoms : goal.returns-clause-atoms
returns-clause-atoms c t begun =
    let k = c.self.invariant.0 in
    let within = begun_within _ _ _ _ _ _ _ c.self.invariant.0 _ c.self.view_is t begun in
    let least = k.named.least (t - 1) within in
    let some = begun.some in
    let long = length-seen _ _ _ _ _ _ _ c.self.invariant.0 _ c.self.view_is in
    let is = atom_is _ _ _ _ _ _ _ c.self.invariant.0 _ c.self.view_is t begun in
    let j : ℕ = get_or c.self.inside.forest.names (t - 1) 0 in
    let inside = name_within _ _ _ _ _ _ _ c.self.invariant.0 _ c.self.view_is t begun in
    let named : atom_of c.args.self.now (j + 1) ≡ get_or c.self.inside.forest.names j 0 + 1 = atom_at _ _ _ _ _ _ _ c.self.invariant.0 _ c.self.view_is j inside in
    let own = k.named.own (t - 1) within in (
      omega arith,
      subst (λ (x : ℕ). IsAtom c.args.self.now x) (sym is) record { begun = begun_at _ _ _ _ _ _ _ c.self.invariant.0 _ c.self.view_is j inside; own = named ∙ ap (λ (x : ℕ). x + 1) own },
    )

pub returns-clause-owners : goal.returns-clause-owners
returns-clause-owners c n a owned =
    let parts = owner_begun _ _ _ _ _ _ _ c.self.invariant.0 _ c.self.view_is n a owned in
    let some = parts.0 in
    let plus : a - 1 + 1 ≡ a = omega arith in
    let named = atom_at _ _ _ _ _ _ _ c.self.invariant.0 _ c.self.view_is (a - 1) parts.1 in
    let begun = begun_at _ _ _ _ _ _ _ c.self.invariant.0 _ c.self.view_is (a - 1) parts.1 in (
      subst (λ (x : ℕ). IsAtom c.args.self.now x) plus record { begun = begun; own = named ∙ ap (λ (x : ℕ). x + 1) parts.2 },
      ap (λ (x : AtomState). x.cleaned) (state_is _ _ _ _ _ _ _ c.self.invariant.0 _ c.self.view_is a) ∙ parts.3,
    )

pub returns-clause-sealed : goal.returns-clause-sealed
returns-clause-sealed c a atom sealed =
    let some = atom.begun.some in
    let within = begun_within _ _ _ _ _ _ _ c.self.invariant.0 _ c.self.view_is a atom.begun in
    let plus : a - 1 + 1 ≡ a = omega arith in
    ap (open_count c.args.self.now) (sym plus) ∙ count_seen _ _ _ _ _ _ _ c.self.invariant.0 _ c.self.view_is (a - 1) within ∙ c.self.invariant.0.closed (a - 1) within (ap (λ (x : AtomState). x.sealed) (sym (state_is _ _ _ _ _ _ _ c.self.invariant.0 _ c.self.view_is a)) ∙ sealed)
