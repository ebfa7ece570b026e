use Rattle.std.proofs.Common.{◌≡◌, ◌∙◌, sym, ap, Some, None}
use Rattle.r4_atoms.specs.Owned.{label_of, Owned, pairs_of}
use Rattle.r4_atoms.proofs.OwnedLaws.{label-append_none, label-append_some}
use Rattle.r4_atoms.proofs.owners.Owners.get.Goals as goal

pub returns-in-Some : goal.returns-in-Some
returns-in-Some c =
    let i = c.self.inside in
    let found : label_of c.args.node i.table.entries ≡ Some c.in-Some.label.now = sym c.in-Some.ensures.value in
    sym (ap (λ (o : Owned). label_of c.args.node o.entries) (sym c.self.view_is) ∙ label-append_some c.args.node c.in-Some.label.now i.table.entries (pairs_of i.moved.items) found)

pub returns-in-None : goal.returns-in-None
returns-in-None c =
    let i = c.self.inside in
    let none : label_of c.args.node i.table.entries ≡ None = sym c.in-None.ensures.value in
    let rest : c.label_in.result ≡ label_of c.args.node (pairs_of i.moved.items) = rw c.as_slice.ensures.value at c.label_in.ensures in
    rest ∙ sym (label-append_none c.args.node i.table.entries (pairs_of i.moved.items) none) ∙ ap (λ (o : Owned). label_of c.args.node o.entries) c.self.view_is
