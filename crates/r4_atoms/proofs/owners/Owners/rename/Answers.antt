use Rattle.std.proofs.Common.{◌≡◌, ℕ, ◌+◌, ◌≤◌, ◌++◌, ◌∷◌, [], ◌∙◌, refl, sym, ap, eqb, cond, true, length, filter, not, List, Some, None, arith, hash_map_len}
use Rattle.std.proofs.lemmas.List.{append_assoc, length_push}
use Rattle.std.specs.Option.{is_some}
use Rattle.std.proofs.lemmas.Bool.{eq-eqb}
use Rattle.r4_atoms.specs.declared.owners.Label.{Label}
use Rattle.r4_atoms.specs.Owned.{is_of, label_of, Owned, pairs_of}
use Rattle.r4_atoms.proofs.OwnedLaws.{labels_added, labels_changed, labels_renamed, length-forgotten, grown, labels_put, on_ok_at, places_left, pairs-append}
use Rattle.r4_atoms.proofs.owners.Owners.rename.Goals as goal

pub invariant_of-self : goal.invariant_of-self
invariant_of-self c =
    let i = c.self.inside in
    let s = ap (λ (o : Owned). o.spare) c.self.view_is in
    let has : label_of c.args.from (i.table.entries ++ pairs_of i.moved.items) ≡ Some c.unwrap-label.result = ap (λ (o : Owned). label_of c.args.from o.entries) c.self.view_is ∙ sym c.get.ensures ∙ c.unwrap-label.ensures in
    let one = c.remove.ensures in
    let two = c.remove-2.ensures in
    let left : hash_map_len c.remove.new.self + cond (is_some (label_of c.args.from i.table.entries)) 1 0 ≡ length i.table.entries = rw one.value at one.len in
    let gap = places_left c.args.from c.unwrap-label.result (hash_map_len c.remove.new.self) i.table.entries i.moved.items has left in
    let first : List Label = filter (λ l. not (is_of c.args.from l)) i.moved.items in
    let second : List Label = filter (λ l. not (is_of c.args.to l)) first in
    let rows : c.forget-2.new.row.items ≡ second = rw c.forget.ensures.items at c.forget-2.ensures.items in
    let less = length-forgotten c.args.to first in
    let fewer : hash_map_len c.remove-2.new.self ≤ hash_map_len c.remove.new.self = omega (arith, two.len) in
    let place = c.insert.ensures.succeeds (omega (arith, c.if-self-capacity.true, c.capacity.ensures, c.len.ensures.len)) in
    let more = grown _ _ _ c.insert.ensures.len place in
    rw rows record {
      table = omega (arith, c.insert.ensures.spare, c.if-self-capacity.true, c.capacity.ensures, c.len.ensures.len);
      moves = omega (arith, c.forget.ensures.capacity, c.forget-2.ensures.capacity, c.self.invariant.moves);
    }

pub add-requires : goal.add-requires
add-requires c =
    let i = c.self.inside in
    let s = ap (λ (o : Owned). o.spare) c.self.view_is in
    let has : label_of c.args.from (i.table.entries ++ pairs_of i.moved.items) ≡ Some c.unwrap-label.result = ap (λ (o : Owned). label_of c.args.from o.entries) c.self.view_is ∙ sym c.get.ensures ∙ c.unwrap-label.ensures in
    let one = c.remove.ensures in
    let two = c.remove-2.ensures in
    let left : hash_map_len c.remove.new.self + cond (is_some (label_of c.args.from i.table.entries)) 1 0 ≡ length i.table.entries = rw one.value at one.len in
    let gap = places_left c.args.from c.unwrap-label.result (hash_map_len c.remove.new.self) i.table.entries i.moved.items has left in
    let first : List Label = filter (λ l. not (is_of c.args.from l)) i.moved.items in
    let second : List Label = filter (λ l. not (is_of c.args.to l)) first in
    let rows : c.forget-2.new.row.items ≡ second = rw c.forget.ensures.items at c.forget-2.ensures.items in
    let less = length-forgotten c.args.to first in
    let fewer : hash_map_len c.remove-2.new.self ≤ hash_map_len c.remove.new.self = omega (arith, two.len) in
    let same = ap length rows in
    omega (arith, c.forget.ensures.capacity, c.forget-2.ensures.capacity, c.self.invariant.moves, c.forget-2.new.row.ok)

pub invariant_of-self-else-self-capacity : goal.invariant_of-self-else-self-capacity
invariant_of-self-else-self-capacity c =
    let i = c.self.inside in
    let s = ap (λ (o : Owned). o.spare) c.self.view_is in
    let has : label_of c.args.from (i.table.entries ++ pairs_of i.moved.items) ≡ Some c.unwrap-label.result = ap (λ (o : Owned). label_of c.args.from o.entries) c.self.view_is ∙ sym c.get.ensures ∙ c.unwrap-label.ensures in
    let one = c.remove.ensures in
    let two = c.remove-2.ensures in
    let left : hash_map_len c.remove.new.self + cond (is_some (label_of c.args.from i.table.entries)) 1 0 ≡ length i.table.entries = rw one.value at one.len in
    let gap = places_left c.args.from c.unwrap-label.result (hash_map_len c.remove.new.self) i.table.entries i.moved.items has left in
    let first : List Label = filter (λ l. not (is_of c.args.from l)) i.moved.items in
    let second : List Label = filter (λ l. not (is_of c.args.to l)) first in
    let rows : c.forget-2.new.row.items ≡ second = rw c.forget.ensures.items at c.forget-2.ensures.items in
    let less = length-forgotten c.args.to first in
    let fewer : hash_map_len c.remove-2.new.self ≤ hash_map_len c.remove.new.self = omega (arith, two.len) in
    let longer = length_push second (record { node = c.args.to; label = c.unwrap-label.result }) in
    rw (c.add.ensures.items, rows) record {
      table = omega (arith, one.spare, two.spare, c.self.invariant.table);
      moves = omega (arith, c.add.ensures.capacity, c.forget.ensures.capacity, c.forget-2.ensures.capacity, c.self.invariant.moves);
    }

pub returns-then-self-capacity-clause-entries : goal.returns-then-self-capacity-clause-entries
returns-then-self-capacity-clause-entries c n =
    let i = c.self.inside in
    let s = ap (λ (o : Owned). o.spare) c.self.view_is in
    let has : label_of c.args.from (i.table.entries ++ pairs_of i.moved.items) ≡ Some c.unwrap-label.result = ap (λ (o : Owned). label_of c.args.from o.entries) c.self.view_is ∙ sym c.get.ensures ∙ c.unwrap-label.ensures in
    let one = c.remove.ensures in
    let two = c.remove-2.ensures in
    let left : hash_map_len c.remove.new.self + cond (is_some (label_of c.args.from i.table.entries)) 1 0 ≡ length i.table.entries = rw one.value at one.len in
    let gap = places_left c.args.from c.unwrap-label.result (hash_map_len c.remove.new.self) i.table.entries i.moved.items has left in
    let first : List Label = filter (λ l. not (is_of c.args.from l)) i.moved.items in
    let second : List Label = filter (λ l. not (is_of c.args.to l)) first in
    let rows : c.forget-2.new.row.items ≡ second = rw c.forget.ensures.items at c.forget-2.ensures.items in
    let less = length-forgotten c.args.to first in
    let fewer : hash_map_len c.remove-2.new.self ≤ hash_map_len c.remove.new.self = omega (arith, two.len) in
    let l0 : label_of n (i.table.entries ++ pairs_of i.moved.items) ≡ label_of n c.args.self.now.entries = ap (λ (o : Owned). label_of n o.entries) c.self.view_is in
    let l1 = labels_changed c.args.from None i.table.entries c.remove.new.self.entries i.moved.items one.updates.0 n in
    let l2 = labels_changed c.args.to None c.remove.new.self.entries c.remove-2.new.self.entries first two.updates.0 n in
    let has' : label_of c.args.from c.args.self.now.entries ≡ Some c.unwrap-label.result = sym c.get.ensures ∙ c.unwrap-label.ensures in
    let place = c.insert.ensures.succeeds (omega (arith, c.if-self-capacity.true, c.capacity.ensures, c.len.ensures.len)) in
    let updates = on_ok_at _ place c.insert.ensures.updates in
    let l3 = labels_put c.args.to c.unwrap-label.result c.remove-2.new.self.entries c.insert.new.self.entries (pairs_of second) updates.0 n in
    rw (rows, has', ← l0) (labels_renamed c.args.from c.args.to c.unwrap-label.result n _ _ _ _ c.requires.differ l1 l2 l3)

pub returns-else-self-capacity-clause-entries : goal.returns-else-self-capacity-clause-entries
returns-else-self-capacity-clause-entries c n =
    let i = c.self.inside in
    let s = ap (λ (o : Owned). o.spare) c.self.view_is in
    let has : label_of c.args.from (i.table.entries ++ pairs_of i.moved.items) ≡ Some c.unwrap-label.result = ap (λ (o : Owned). label_of c.args.from o.entries) c.self.view_is ∙ sym c.get.ensures ∙ c.unwrap-label.ensures in
    let one = c.remove.ensures in
    let two = c.remove-2.ensures in
    let left : hash_map_len c.remove.new.self + cond (is_some (label_of c.args.from i.table.entries)) 1 0 ≡ length i.table.entries = rw one.value at one.len in
    let gap = places_left c.args.from c.unwrap-label.result (hash_map_len c.remove.new.self) i.table.entries i.moved.items has left in
    let first : List Label = filter (λ l. not (is_of c.args.from l)) i.moved.items in
    let second : List Label = filter (λ l. not (is_of c.args.to l)) first in
    let rows : c.forget-2.new.row.items ≡ second = rw c.forget.ensures.items at c.forget-2.ensures.items in
    let less = length-forgotten c.args.to first in
    let fewer : hash_map_len c.remove-2.new.self ≤ hash_map_len c.remove.new.self = omega (arith, two.len) in
    let l0 : label_of n (i.table.entries ++ pairs_of i.moved.items) ≡ label_of n c.args.self.now.entries = ap (λ (o : Owned). label_of n o.entries) c.self.view_is in
    let l1 = labels_changed c.args.from None i.table.entries c.remove.new.self.entries i.moved.items one.updates.0 n in
    let l2 = labels_changed c.args.to None c.remove.new.self.entries c.remove-2.new.self.entries first two.updates.0 n in
    let has' : label_of c.args.from c.args.self.now.entries ≡ Some c.unwrap-label.result = sym c.get.ensures ∙ c.unwrap-label.ensures in
    let here : eqb c.args.to c.args.to ≡ true = eq-eqb c.args.to c.args.to refl in
    let none : label_of c.args.to (c.remove-2.new.self.entries ++ pairs_of second) ≡ None = rw here at (labels_changed c.args.to None c.remove.new.self.entries c.remove-2.new.self.entries first two.updates.0 c.args.to) in
    let l3 = labels_added c.args.to c.unwrap-label.result (c.remove-2.new.self.entries ++ pairs_of second) none n in
    let new : Label = record { node = c.args.to; label = c.unwrap-label.result } in
    let whole : c.remove-2.new.self.entries ++ pairs_of c.add.new.row.items ≡ (c.remove-2.new.self.entries ++ pairs_of second) ++ (c.args.to, c.unwrap-label.result) ∷ [] =
    rw (c.add.ensures.items, rows) (ap (λ (back : List (ℕ × ℕ)). c.remove-2.new.self.entries ++ back) (pairs-append second new) ∙ sym (append_assoc c.remove-2.new.self.entries (pairs_of second) _)) in
    rw (whole, has', ← l0) (labels_renamed c.args.from c.args.to c.unwrap-label.result n _ _ _ _ c.requires.differ l1 l2 l3)
