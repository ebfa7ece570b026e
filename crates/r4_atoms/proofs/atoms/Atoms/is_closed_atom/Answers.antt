use Rattle.std.proofs.Common.{◌≡◌, ◌<◌, ◌∙◌, sym, ap, false, length, inl, inr, arith, get_or}
use Rattle.std.proofs.lemmas.Bool.{cases_eq, eq-eqb, ne_eqb}
use Rattle.std.proofs.lemmas.List.{get_or_read}
use Rattle.r4_atoms.specs.declared.things.AtomState.{AtomState}
use Rattle.r4_atoms.specs.declared.things.Row.{Row}
use Rattle.r4_atoms.specs.Atoms.{new_atom, no_row, state_at}
use Rattle.r4_atoms.proofs.AtomLaws.{closed_parts, is_closed, length-seen}
use Rattle.r4_atoms.proofs.atoms.Atoms.is_closed_atom.Goals as goal

pub name-requires : goal.name-requires
name-requires c = let e = length-seen _ _ _ _ _ _ _ c.self.invariant.0 _ c.self.view_is in omega (arith, c.requires)

pub returns-then-name-at : goal.returns-then-name-at
returns-then-name-at c closed =
    let e = length-seen _ _ _ _ _ _ _ c.self.invariant.0 _ c.self.view_is in
    let parts = closed_parts _ _ _ _ _ _ _ c.self.invariant.0 _ c.self.view_is c.args.at (omega (arith, c.requires)) closed in
    c.if-name-at.true (c.name.ensures ∙ parts.0)

pub returns : goal.returns
returns c =
    let i = c.self.inside in
    let k = c.self.invariant.0 in
    let e = length-seen _ _ _ _ _ _ _ c.self.invariant.0 _ c.self.view_is in
    let within : c.args.at < length i.forest.names = omega (arith, c.requires) in
    let state = get_or_read i.states.items c.args.at c.index.result.now (omega (arith, k.same_states)) c.index.ensures new_atom in
    let row = get_or_read i.rows.items c.args.at c.index-2.result.now (omega (arith, k.same_rows)) c.index-2.ensures no_row in
    let own : get_or i.forest.names c.args.at 0 ≡ c.args.at = sym c.name.ensures ∙ c.if-name-at.false in
    let unsealed : (state_at i.states.items c.args.at).sealed ≡ false = ap (λ (x : AtomState). x.sealed) (sym state) ∙ c.if-index.false in
    elim (cases_eq c.index-2.result.now.open_txns 0) [
      | inl none ↦ rw (eq-eqb c.index-2.result.now.open_txns 0 none) (is_closed _ _ _ _ _ _ _ c.self.invariant.0 _ c.self.view_is c.args.at within own unsealed (ap (λ (x : Row). x.open_txns) (sym row) ∙ none))
      | inr some ↦ rw (ne_eqb c.index-2.result.now.open_txns 0 some) (λ closed. some (ap (λ (x : Row). x.open_txns) row ∙ (closed_parts _ _ _ _ _ _ _ c.self.invariant.0 _ c.self.view_is c.args.at within closed).2))
    ]
