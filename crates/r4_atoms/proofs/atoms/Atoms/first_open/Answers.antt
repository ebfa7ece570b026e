use Rattle.std.proofs.Common.{◌≡◌, ◌+◌, ◌-◌, ◌<◌, ◌∙◌, sym, ap, length, arith}
use Rattle.std.proofs.lemmas.List.{get_or_read}
use Rattle.r4_atoms.specs.declared.things.Row.{Row}
use Rattle.r4_atoms.specs.Atoms.{AtomsSeen, no_row, row_at, txn_of, TxnSeen}
use Rattle.r4_atoms.proofs.AtomLaws.{atom_is, begun_within}
use Rattle.r4_atoms.proofs.KeptLaws.{none_open}
use Rattle.r4_atoms.proofs.atoms.Atoms.first_open.Goals as goal

pub index-requires : goal.index-requires
index-requires c =
    let within = begun_within _ _ _ _ _ _ _ c.self.invariant.0 _ c.self.view_is c.args.atom.0 c.requires.begun in
    omega (arith, c.self.invariant.0.same_rows, c.self.inside.rows.ok)

pub returns-then-index-eq0 : goal.returns-then-index-eq0
returns-then-index-eq0 c t is =
    let i = c.self.inside in
    let k = c.self.invariant.0 in
    let some = c.requires.begun.some in
    let within = begun_within _ _ _ _ _ _ _ c.self.invariant.0 _ c.self.view_is c.args.atom.0 c.requires.begun in
    let inside : c.args.atom.0 - 1 < length i.rows.items = omega (arith, k.same_rows) in
    let read = get_or_read i.rows.items (c.args.atom.0 - 1) c.index.result.now inside c.index.ensures no_row in
    let zero : (row_at i.rows.items (c.args.atom.0 - 1)).open_txns ≡ 0 = ap (λ (r : Row). r.open_txns) (sym read) ∙ c.if-index-eq0.true in
    let below = begun_within _ _ _ _ _ _ _ c.self.invariant.0 _ c.self.view_is t is.begun in
    let seen = ap (λ (a : AtomsSeen). txn_of a t) c.self.view_is in
    none_open i.forest.names i.rows.items i.states.items i.owners.entries i.low k (c.args.atom.0 - 1) within zero (t - 1) below
    (ap (λ (x : TxnSeen). x.atom) seen ∙ is.atom ∙ (let e : c.args.atom.0 ≡ c.args.atom.0 - 1 + 1 = omega arith in e)) (ap (λ (x : TxnSeen). x.is_open) seen ∙ is.opened)

pub loop-at-init : goal.loop-at-init
loop-at-init c t is =
    let below = begun_within _ _ _ _ _ _ _ c.self.invariant.0 _ c.self.view_is t is.begun in
    let named = sym (atom_is _ _ _ _ _ _ _ c.self.invariant.0 _ c.self.view_is t is.begun) ∙ is.atom in
    let least = c.self.invariant.0.named.least (t - 1) below in
    let some = is.begun.some in
    omega (arith, named, least, some)
