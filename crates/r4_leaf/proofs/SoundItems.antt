-- What is said of an item of a leaf that has no fault, by its plugin.
use Rattle.std.proofs.Common.{◌≡◌, ◌⊎◌, ℕ, ◌+◌, ◌-◌, ◌<◌, ◌≤◌, Bool, true, false, not, List, [], ◌∷◌, length, map, inl, inr, refl, sym, ap, arith}
use Rattle.std.specs.Prelude.{Some, None, Ok, Err, ◌==◌, nat_le, if◌then◌else◌}
use Rattle.std.proofs.lemmas.Bool.{and_parts, eq-eqb, eqb-true, leb-true}
use Rattle.r4_base.specs.Cell.{bytes_from, entry_unit, fault_in, is_short_tail, item_body_fault, item_end, item_units}
use Rattle.r4_base.specs.Dir.{dir_fault, entries_of, entry_count, entry_key_at}
use Rattle.r4_base.specs.Key.{offset_of, rank}
use Rattle.r4_base.specs.Node.{Item}
use Rattle.r4_base.specs.Stat.{attr_of, kind_is_good, mask_is_good, stat_of}
use Rattle.r4_base.specs.Value.{Stat as StatValue}
use Rattle.r4_base.specs.declared.items.CellFault.{CellFault}
use Rattle.r4_base.specs.declared.items.CellFault.TheVariants.{Stat, Dir, Tail}
use Rattle.r4_base.specs.declared.items.StatFault.TheVariants.{Mask, Length, Kind}
use Rattle.r4_base.proofs.Dirs.{accepted, keys_rise}
use Rattle.r4_base.proofs.Choices.{none_under}
use Rattle.r4_leaf.specs.Items.{IsSoundItem}

pub record IsStatItem (it : Item) : Type 0 where
  pub body : fault_in (stat_of it.body) ≡ None
  pub units : item_units it ≡ (rank it.key, StatValue (attr_of it.body)) ∷ []
  pub end : item_end it ≡ rank it.key + 1

pub stat_item : (it : Item) → it.plugin ≡ 0 → IsSoundItem it → IsStatItem it
unfolding item_body_fault item_end item_units
stat_item it is s =
    let test : (it.plugin == 0) ≡ true = eq-eqb _ _ is in
    let body = s.body in
    record { body = none_under Stat (fault_in (stat_of it.body)) (rw test at body); units = rw test refl; end = rw test refl }

pub record IsEntriesItem (it : Item) : Type 0 where
  pub body : dir_fault it.key it.body ≡ None
  pub units : item_units it ≡ map entry_unit (entries_of it.key it.body)
  pub end : item_end it ≡ rank (entry_key_at it.key it.body (entry_count it.body - 1)) + 1

pub entries_item : (it : Item) → it.plugin ≡ 2 → IsSoundItem it → IsEntriesItem it
unfolding item_body_fault item_end item_units
entries_item it is s =
    let a : (it.plugin == 0) ≡ false = ap (λ (x : ℕ). x == 0) is in
    let b : (it.plugin == 2) ≡ true = ap (λ (x : ℕ). x == 2) is in
    let d : (it.plugin == 3) ≡ false = ap (λ (x : ℕ). x == 3) is in
    let body = s.body in
    record { body = none_under Dir (dir_fault it.key it.body) (rw (a, b) at body); units = rw (a, b) refl; end = rw (a, d, b) refl }

pub record IsTailItem (it : Item) : Type 0 where
  pub some : 1 ≤ length it.body
  pub short : offset_of it.key + length it.body ≤ 16384
  pub units : item_units it ≡ bytes_from (rank it.key) it.body
  pub end : item_end it ≡ rank it.key + length it.body

tail_test : (it : Item) (t : CellFault) → (if is_short_tail it then None else Some t) ≡ None → is_short_tail it ≡ true
tail_test it t e = by_test (is_short_tail it) e
  where
    by_test : (b : Bool) → (if b then None else Some t) ≡ None → b ≡ true
    by_test true h = refl
    by_test false h = absurd cc

pub tail_item : (it : Item) → it.plugin ≡ 6 → IsSoundItem it → IsTailItem it
unfolding item_body_fault item_end item_units
tail_item it is s =
    let a : (it.plugin == 0) ≡ false = ap (λ (x : ℕ). x == 0) is in
    let b : (it.plugin == 2) ≡ false = ap (λ (x : ℕ). x == 2) is in
    let d : (it.plugin == 3) ≡ false = ap (λ (x : ℕ). x == 3) is in
    let e : (it.plugin == 5) ≡ false = ap (λ (x : ℕ). x == 5) is in
    let body = s.body in
    let test = tail_test it Tail (rw (a, b, d, e) at body) in
    let parts = and_parts (nat_le 1 (length it.body)) (nat_le (offset_of it.key + length it.body) 16384) test in
    record { some = leb-true _ _ parts.0; short = leb-true _ _ parts.1; units = rw (a, b, d, e) refl; end = rw (a, d, b, e) refl }

-- an item's first unit has its key
pub item_has_end : (x : Item) → IsSoundItem x → rank x.key < item_end x
item_has_end x s = by_plugin s.plugin
  where
    by_plugin : (x.plugin ≡ 0) ⊎ ((x.plugin ≡ 2) ⊎ (x.plugin ≡ 6)) → rank x.key < item_end x
    by_plugin (inl is) = let end = (stat_item x is s).end in omega (arith, end)
    by_plugin (inr (inl is)) =
        let e = entries_item x is s in
        let end = e.end in
        let a = accepted x.key x.body e.body in
        let first = a.first in
        let some = a.some in
        let rise = keys_rise x.key x.body 0 (entry_count x.body - 1) a (omega (arith, some)) in
        let same : rank (entry_key_at x.key x.body (0 + (entry_count x.body - 1))) ≡ rank (entry_key_at x.key x.body (entry_count x.body - 1)) = ap (λ (k : ℕ). rank (entry_key_at x.key x.body k)) (omega arith) in
        omega (arith, end, first, rise, same)
    by_plugin (inr (inr is)) = let t = tail_item x is s in let end = t.end in let some = t.some in omega (arith, end, some)

pub stat_long : (b : List ℕ) → fault_in (stat_of b) ≡ None → length b ≡ 44
unfolding stat_of
stat_long b none = by_tests (mask_is_good b) (length b == 44) refl none
  where
    by_tests : (m t : Bool) → t ≡ (length b == 44) → fault_in (if not m then Err Mask else (if not t then Err Length else (if not (kind_is_good (attr_of b).mode) then Err Kind else Ok (attr_of b)))) ≡ None → length b ≡ 44
    by_tests true true e h = eqb-true (length b) 44 (sym e)
    by_tests true false e h = absurd cc
    by_tests false t e h = absurd cc
