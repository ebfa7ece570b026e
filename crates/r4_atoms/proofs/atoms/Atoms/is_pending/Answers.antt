use Rattle.std.proofs.Common.{◌≡◌, ℕ, ◌<◌, ◌∙◌, refl, sym, ap, true, false, length, not, arith}
use Rattle.std.proofs.lemmas.Bool.{and_left, and_right, eq-eqb}
use Rattle.std.proofs.lemmas.List.{get_or_read}
use Rattle.r4_atoms.specs.declared.things.AtomState.{AtomState}
use Rattle.r4_atoms.specs.declared.things.Row.{Row}
use Rattle.r4_atoms.specs.Atoms.{atom_of, open_count, is_sealed, new_atom, no_row, row_at, state_at, txn_of}
use Rattle.r4_atoms.proofs.AtomLaws.{count_by_txn, name_within, state_by, begun_within}
use Rattle.r4_atoms.proofs.atoms.Atoms.is_pending.Goals as goal

pub name-name-requires : goal.name-name-requires
name-name-requires c = begun_within _ _ _ _ _ _ _ c.self.invariant.0 _ c.self.view_is c.args.txn.0 c.requires

pub returns-then-index : goal.returns-then-index
returns-then-index c =
    let i = c.self.inside in
    let inside : c.name-name.result < length i.states.items = rw c.name-name.ensures (let h = name_within _ _ _ _ _ _ _ c.self.invariant.0 _ c.self.view_is c.args.txn.0 c.requires in omega (arith, c.self.invariant.0.same_states)) in
    let read = get_or_read i.states.items c.name-name.result c.index.result.now inside c.index.ensures new_atom in
    let state = state_by _ _ _ _ _ _ _ c.self.invariant.0 _ c.self.view_is c.args.txn.0 c.requires in
    let sealed : is_sealed c.args.self.now (atom_of c.args.self.now c.args.txn.0) ≡ true = ap (λ (x : AtomState). x.sealed) (state ∙ ap (state_at i.states.items) (sym c.name-name.ensures) ∙ sym read) ∙ c.if-index.true in
    sym (and_left _ _ (and_right _ _ (ap not sealed)))

pub returns : goal.returns
returns c =
    let i = c.self.inside in
    let within = name_within _ _ _ _ _ _ _ c.self.invariant.0 _ c.self.view_is c.args.txn.0 c.requires in
    let inside : c.name-name.result < length i.states.items = rw c.name-name.ensures (omega (arith, c.self.invariant.0.same_states)) in
    let inside_rows : c.name-name.result < length i.rows.items = rw c.name-name.ensures (omega (arith, c.self.invariant.0.same_rows)) in
    let read = get_or_read i.states.items c.name-name.result c.index.result.now inside c.index.ensures new_atom in
    let row = get_or_read i.rows.items c.name-name.result c.index-2.result.now inside_rows c.index-2.ensures no_row in
    let state = state_by _ _ _ _ _ _ _ c.self.invariant.0 _ c.self.view_is c.args.txn.0 c.requires in
    let sealed : is_sealed c.args.self.now (atom_of c.args.self.now c.args.txn.0) ≡ false = ap (λ (x : AtomState). x.sealed) (state ∙ ap (state_at i.states.items) (sym c.name-name.ensures) ∙ sym read) ∙ c.if-index.false in
    let count : open_count c.args.self.now (atom_of c.args.self.now c.args.txn.0) ≡ c.index-2.result.now.open_txns = count_by_txn _ _ _ _ _ _ _ c.self.invariant.0 _ c.self.view_is c.args.txn.0 c.requires ∙ ap (λ (x : ℕ). (row_at i.rows.items x).open_txns) (sym c.name-name.ensures) ∙ ap (λ (x : Row). x.open_txns) (sym row) in
    let script : (txn_of c.args.self.now c.args.txn.0).script ≡ c.args.script.0 = sym c.script.ensures ∙ c.if-script.false in
    rw (eq-eqb (txn_of c.args.self.now c.args.txn.0).script c.args.script.0 script, sealed, count) refl
