use Rattle.std.proofs.Common.{◌-◌, ◌<◌, ◌∙◌, sym, ap, length, arith}
use Rattle.std.proofs.lemmas.List.{get_or_read}
use Rattle.r4_atoms.specs.declared.things.Row.{Row}
use Rattle.r4_atoms.specs.Atoms.{no_row, TxnSeen}
use Rattle.r4_atoms.proofs.AtomLaws.{begun_within, txn_is}
use Rattle.r4_atoms.proofs.atoms.Atoms.script.Goals as goal

pub index-requires : goal.index-requires
index-requires c =
    let within = begun_within _ _ _ _ _ _ _ c.self.invariant.0 _ c.self.view_is c.args.txn.0 c.requires in
    omega (arith, c.self.invariant.0.same_rows, c.self.inside.rows.ok)

pub returns : goal.returns
returns c =
    let within = begun_within _ _ _ _ _ _ _ c.self.invariant.0 _ c.self.view_is c.args.txn.0 c.requires in
    let inside : c.args.txn.0 - 1 < length c.self.inside.rows.items = omega (arith, c.self.invariant.0.same_rows) in
    ap (λ (r : Row). r.script.0) (get_or_read c.self.inside.rows.items (c.args.txn.0 - 1) c.index.result.now inside c.index.ensures no_row) ∙ ap (λ (x : TxnSeen). x.script) (sym (txn_is _ _ _ _ _ _ _ c.self.invariant.0 _ c.self.view_is c.args.txn.0 c.requires))
