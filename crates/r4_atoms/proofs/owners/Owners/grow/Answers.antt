use Rattle.std.proofs.Common.{◌≡◌, ◌∙◌, ap, List}
use Rattle.r4_atoms.specs.declared.owners.Label.{Label}
use Rattle.r4_atoms.specs.Owned.{label_of, Owned, pairs_of}
use Rattle.r4_atoms.proofs.OwnedLaws.{label-append_same}
use Rattle.r4_atoms.proofs.owners.Owners.grow.Goals as goal

pub returns-in_ok-reserve-3-clause-entries : goal.returns-in_ok-reserve-3-clause-entries
returns-in_ok-reserve-3-clause-entries c n =
    let i = c.self.inside in
    let table : label_of n c.reserve-then-self-nodes-2.new.self.entries ≡ label_of n i.table.entries = c.in_ok-reserve-3.ensures.entries.2 n in
    let row : label_of n (pairs_of c.reserve.new.self.items) ≡ label_of n (pairs_of i.moved.items) = ap (λ (r : List Label). label_of n (pairs_of r)) c.in_ok-reserve.ensures.items in
    label-append_same n _ i.table.entries _ (pairs_of i.moved.items) table row ∙ ap (λ (o : Owned). label_of n o.entries) c.self.view_is
