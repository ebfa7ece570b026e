use Rattle.std.proofs.Common.{◌≡◌, ◌∙◌, sym, false, true, arith}
use Rattle.std.specs.Option.{is_some}
use Rattle.r4_atoms.specs.Owned.{label_of}
use Rattle.r4_atoms.proofs.OwnedLaws.{labels_added, labels_shadowed, none_by_test, on_ok_at}
use Rattle.r4_atoms.proofs.owners.put.Goals as goal

pub returns-then-not-contains_key-clause-entries : goal.returns-then-not-contains_key-clause-entries
returns-then-not-contains_key-clause-entries c n =
    let t = c.args.table.now.entries in
    let place = c.insert.ensures.succeeds (omega (arith, c.requires)) in
    let updates = on_ok_at _ place c.insert.ensures.updates in
    let has_none : is_some (label_of c.args.one.now.node t) ≡ false = sym c.contains_key.ensures ∙ c.if-not-contains_key.true in
    updates.0 n ∙ sym (labels_added c.args.one.now.node c.args.one.now.label t (none_by_test _ has_none) n)

pub returns-else-not-contains_key-clause-entries : goal.returns-else-not-contains_key-clause-entries
returns-else-not-contains_key-clause-entries c n =
    let t = c.args.table.now.entries in
    let has : is_some (label_of c.args.one.now.node t) ≡ true = sym c.contains_key.ensures ∙ c.if-not-contains_key.false in
    sym (labels_shadowed c.args.one.now.node c.args.one.now.label t has n)
