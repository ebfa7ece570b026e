use Rattle.std.proofs.Common.{◌-◌, ◌∙◌, sym, ap, false, List, arith, get_or, set}
use Rattle.r4_atoms.specs.Atoms.{AtomsSeen, txn_of, TxnSeen}
use Rattle.r4_atoms.proofs.AtomLaws.{begun_within, txn_is}
use Rattle.r4_atoms.proofs.KeptLaws.{kept_ended, length-ended, scripts_ended, some_open, txns_ended}
use Rattle.r4_atoms.proofs.atoms.Atoms.close.Goals as goal

pub name-name-requires : goal.name-name-requires
name-name-requires c = begun_within _ _ _ _ _ _ _ c.self.invariant.0 _ c.self.view_is c.args.txn.0 c.requires.begun

pub end_row-requires-clause-at : goal.end_row-requires-clause-at
end_row-requires-clause-at c =
    let within = begun_within _ _ _ _ _ _ _ c.self.invariant.0 _ c.self.view_is c.args.txn.0 c.requires.begun in
    omega (arith, c.self.invariant.0.same_rows)

pub end_row-requires-clause-some : goal.end_row-requires-clause-some
end_row-requires-clause-some c =
    let i = c.self.inside in
    let within = begun_within _ _ _ _ _ _ _ c.self.invariant.0 _ c.self.view_is c.args.txn.0 c.requires.begun in
    let was = ap (λ (t : TxnSeen). t.is_open) (sym (txn_is _ _ _ _ _ _ _ c.self.invariant.0 _ c.self.view_is c.args.txn.0 c.requires.begun)) ∙ c.requires.is_open in
    rw c.name-name.ensures (some_open i.forest.names i.rows.items i.states.items i.owners.entries i.low c.self.invariant.0 (c.args.txn.0 - 1) within was)

pub invariant_of-self : goal.invariant_of-self
invariant_of-self c =
    let i = c.self.inside in
    let within = begun_within _ _ _ _ _ _ _ c.self.invariant.0 _ c.self.view_is c.args.txn.0 c.requires.begun in
    let was = ap (λ (t : TxnSeen). t.is_open) (sym (txn_is _ _ _ _ _ _ _ c.self.invariant.0 _ c.self.view_is c.args.txn.0 c.requires.begun)) ∙ c.requires.is_open in
    let long = length-ended i.rows.items (c.args.txn.0 - 1) (get_or i.forest.names (c.args.txn.0 - 1) 0) in
    rw (c.end_row.ensures.items, c.end_row.ensures.capacity, c.name-name.ensures) (
      kept_ended i.forest.names i.rows.items i.states.items i.owners.entries i.low c.self.invariant.0 (c.args.txn.0 - 1) within was,
      record { rows_fit = rw long c.self.invariant.1.rows_fit; states_fit = c.self.invariant.1.states_fit },
      record { same = c.self.invariant.2.same ∙ sym (scripts_ended i.rows.items (c.args.txn.0 - 1) (get_or i.forest.names (c.args.txn.0 - 1) 0)); room = c.self.invariant.2.room },
    )

pub returns : goal.returns
returns c =
    let i = c.self.inside in
    let within = begun_within _ _ _ _ _ _ _ c.self.invariant.0 _ c.self.view_is c.args.txn.0 c.requires.begun in
    let was = ap (λ (t : TxnSeen). t.is_open) (sym (txn_is _ _ _ _ _ _ _ c.self.invariant.0 _ c.self.view_is c.args.txn.0 c.requires.begun)) ∙ c.requires.is_open in
    let txns = txns_ended i.forest.names i.rows.items i.states.items i.owners.entries i.low c.self.invariant.0 (c.args.txn.0 - 1) within was in
    rw (c.end_row.ensures.items, c.name-name.ensures) (
    ap (λ (ts : List TxnSeen). record { txns = ts; atoms = i.states.items; captured = i.owners.entries; spare = i.owners.spare; txn_spare = i.forest.spare }) txns
    ∙ ap (λ (a : AtomsSeen). record { txns = set a.txns (c.args.txn.0 - 1) (record { script = (txn_of a c.args.txn.0).script; atom = (txn_of a c.args.txn.0).atom; is_open = false }); atoms = a.atoms; captured = a.captured; spare = a.spare; txn_spare = a.txn_spare }) c.self.view_is)
