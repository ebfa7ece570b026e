-- Values under ids (docs/check.md, "Objects").
use Rattle.std.specs.Prelude.{ℕ, ◌-◌, Bool, ◌&&◌, length, nat_le, nat_lt, if◌then◌else◌, slice_index_or, unwrap_or}
use Rattle.std.specs.BTreeMap.{get}
use Rattle.std.specs.Ordering.{nat_cmp}
use Rattle.r4_check_objects.specs.declared.table.Table.{Table}

-- whether an id is one of the span whose values stand in the list
abbrev pub is_near : {T : Type 0} → Table T → (id : ℕ) → Bool
is_near t q = nat_le t.first q && nat_lt (q - t.first) (length t.near.items)

-- the value under an id: a span of ids indexes a list, the others stand in a map, and one that is not there has none
abbrev pub value_at : {T : Type 0} → Table T → (id : ℕ) → T
value_at t q =
    if is_near t q then slice_index_or t.near.items (q - t.first) t.none
    else unwrap_or (get nat_cmp t.far q) t.none
