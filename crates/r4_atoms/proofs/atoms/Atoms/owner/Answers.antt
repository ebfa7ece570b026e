use Rattle.std.proofs.Common.{◌≡◌, ℕ, ◌+◌, ◌-◌, ◌<◌, ◌∙◌, sym, ap, true, false, length, Some, arith, get_or}
use Rattle.std.proofs.lemmas.List.{get_or_read}
use Rattle.r4_atoms.specs.Owned.{label_of}
use Rattle.r4_atoms.specs.Atoms.{IsBegun, new_atom, state_at}
use Rattle.r4_atoms.proofs.AtomLaws.{atom_is, length-seen, owner_found}
use Rattle.r4_atoms.proofs.atoms.Atoms.owner.Goals as goal

pub returns-then-index-clause-owner : goal.returns-then-index-clause-owner
returns-then-index-clause-owner c =
    let i = c.self.inside in
    let found : label_of c.args.node.0 i.owners.entries ≡ Some c.in-Some.txn = sym c.in-Some.ensures in
    let k = c.self.invariant.0 in
    let owner = owner_found _ _ _ _ _ _ _ k _ c.self.view_is c.args.node.0 c.in-Some.txn found in
    let begun = k.begun c.args.node.0 c.in-Some.txn found in
    let least = k.named.least (c.in-Some.txn - 1) (omega arith) in
    let name : get_or i.forest.names (c.in-Some.txn - 1) 0 ≡ c.name-name.result = sym c.name-name.ensures in
    let inside : c.name-name.result < length i.states.items = omega (arith, k.same_states) in
    let state = get_or_read i.states.items c.name-name.result c.index.result.now inside c.index.ensures new_atom in
    let clean : (state_at i.states.items (get_or i.forest.names (c.in-Some.txn - 1) 0)).cleaned ≡ true = rw (name, ← state) c.if-index.true in
    sym (rw clean at owner)

pub returns-else-index-clause-owner : goal.returns-else-index-clause-owner
returns-else-index-clause-owner c =
    let i = c.self.inside in
    let found : label_of c.args.node.0 i.owners.entries ≡ Some c.in-Some.txn = sym c.in-Some.ensures in
    let k = c.self.invariant.0 in
    let owner = owner_found _ _ _ _ _ _ _ k _ c.self.view_is c.args.node.0 c.in-Some.txn found in
    let begun = k.begun c.args.node.0 c.in-Some.txn found in
    let least = k.named.least (c.in-Some.txn - 1) (omega arith) in
    let name : get_or i.forest.names (c.in-Some.txn - 1) 0 ≡ c.name-name.result = sym c.name-name.ensures in
    let inside : c.name-name.result < length i.states.items = omega (arith, k.same_states) in
    let state = get_or_read i.states.items c.name-name.result c.index.result.now inside c.index.ensures new_atom in
    let clean : (state_at i.states.items (get_or i.forest.names (c.in-Some.txn - 1) 0)).cleaned ≡ false = rw (name, ← state) c.if-index.false in
    rw c.name-name.ensures (sym (rw clean at owner))

pub returns-else-index-clause-atom : goal.returns-else-index-clause-atom
returns-else-index-clause-atom c =
    let i = c.self.inside in
    let found : label_of c.args.node.0 i.owners.entries ≡ Some c.in-Some.txn = sym c.in-Some.ensures in
    let k = c.self.invariant.0 in
    let owner = owner_found _ _ _ _ _ _ _ c.self.invariant.0 _ c.self.view_is c.args.node.0 c.in-Some.txn found in
    let begun = k.begun c.args.node.0 c.in-Some.txn found in
    let long = length-seen _ _ _ _ _ _ _ c.self.invariant.0 _ c.self.view_is in
    let inside : c.in-Some.txn - 1 < length i.forest.names = omega arith in
    let least = k.named.least (c.in-Some.txn - 1) inside in
    let own = k.named.own (c.in-Some.txn - 1) inside in
    let name : get_or i.forest.names (c.in-Some.txn - 1) 0 ≡ c.name-name.result = sym c.name-name.ensures in
    let is : IsBegun c.args.self.now (c.name-name.result + 1) = record { some = omega arith; within = omega arith } in
    let minus : c.name-name.result + 1 - 1 ≡ c.name-name.result = omega arith in
    let same : get_or i.forest.names c.name-name.result 0 ≡ c.name-name.result = ap (λ (x : ℕ). get_or i.forest.names x 0) (sym name) ∙ own ∙ name in
    record { begun = is; own = atom_is _ _ _ _ _ _ _ c.self.invariant.0 _ c.self.view_is (c.name-name.result + 1) is ∙ ap (λ (x : ℕ). get_or i.forest.names x 0 + 1) minus ∙ ap (λ (x : ℕ). x + 1) same }
