use Rattle.std.proofs.Common.{◌≡◌, ℕ, ◌++◌, ◌∙◌, refl, ap, List}
use Rattle.r4_atoms.specs.declared.owners.Label.{Label}
use Rattle.r4_atoms.specs.Owned.{label_of, Owned, pairs_of}
use Rattle.r4_atoms.proofs.OwnedLaws.{label-append_same, put_last}
use Rattle.r4_atoms.proofs.owners.Owners.empty_moved.Goals as goal

pub returns-then-is_ok-clause-entries : goal.returns-then-is_ok-clause-entries
returns-then-is_ok-clause-entries c n =
    let i = c.self.inside in
    let put : (q : ℕ) → label_of q c.put_all.new.table.entries ≡ label_of q (c.reserve.new.self.entries ++ pairs_of i.moved.items) =
    λ q. c.put_all.ensures.entries q ∙ ap (λ (r : List Label). label_of q (c.reserve.new.self.entries ++ pairs_of r)) c.as_slice.ensures.value in
    rw c.clear.ensures.items (put_last c.reserve.new.self.entries c.put_all.new.table.entries i.moved.items put n
    ∙ label-append_same n c.reserve.new.self.entries i.table.entries (pairs_of i.moved.items) (pairs_of i.moved.items) (c.reserve.ensures.entries.2 n) refl ∙ ap (λ (o : Owned). label_of n o.entries) c.self.view_is)
