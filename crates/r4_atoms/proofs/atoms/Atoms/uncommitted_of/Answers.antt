use Rattle.std.proofs.Common.{◌≡◌, ℕ, ◌∙◌, ap, subst, eqb, true, false}
use Rattle.std.proofs.lemmas.Bool.{and_parts}
use Rattle.r4_atoms.specs.Atoms.{atom_of, is_pending, open_count, IsAtom}
use Rattle.r4_atoms.proofs.ScanLaws.{none_counted}
use Rattle.r4_atoms.proofs.atoms.Atoms.uncommitted_of.Goals as goal
use mathlib.Core.Bool.{beq}

pub first_open-requires : goal.first_open-requires
first_open-requires c =
    let first = c.in-Some-smallest_of.ensures.passes in
    subst (λ (x : ℕ). IsAtom c.args.self.now x) first.3 (c.lawful.ensures.atoms first.0 first.1).1

pub returns-in-None-first_open : goal.returns-in-None-first_open
returns-in-None-first_open c t begun =
    let none = none_counted c.args.self.now c.in-Some-smallest_of.atom.0 c.in-None-first_open.ensures in
    let first = c.in-Some-smallest_of.ensures.passes in
    let zero : open_count c.args.self.now (atom_of c.args.self.now first.0) ≡ 0 = ap (open_count c.args.self.now) first.3 ∙ none in
    let both = first.2 in
    let has : beq false (eqb (open_count c.args.self.now (atom_of c.args.self.now first.0)) 0) ≡ true = (and_parts (is_pending c.args.self.now c.args.script.0 first.0) (beq false (eqb (open_count c.args.self.now (atom_of c.args.self.now first.0)) 0)) both).1 in
    let bad : false ≡ true = rw zero at has in
    absurd (cc)
