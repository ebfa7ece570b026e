-- An item that is no extent and points to no node names nothing.
use Rattle.std.proofs.Common.{◌≡◌, ◌≢◌, ℕ, ◌-◌, ◌≤◌, Bool, true, false, [], ap, arith}
use Rattle.std.specs.Prelude.{Contains, Option, Some, None, ◌==◌, if◌then◌else◌}
use Rattle.std.proofs.lemmas.Bool.{ne_eqb}
use Rattle.r4_base.specs.Cell.{block_names, item_names, pointer_names}
use Rattle.r4_base.specs.Extents.{pointer_of, units_of}
use Rattle.r4_base.specs.Key.{rank}
use Rattle.r4_base.specs.Node.{Item}
use Rattle.r4_base.specs.Tree.{Name}
use Rattle.r4_base.proofs.Choices.{nothing_in}
use Rattle.r4_base.proofs.FreshTree.{only}

pub names_nothing : (level next : ℕ) (it : Item) → 2 ≤ level → it.plugin ≢ 5
    → ((n : Name) → Contains (item_names level next it) n → n.level ≡ 0) → (n : Name)
    → Contains (item_names level next it) n → ⊥
unfolding item_names
names_nothing level next it two other zeros n at =
    let five : (it.plugin == 5) ≡ false = ne_eqb it.plugin 5 other in
    by (it.plugin == 3) (it.plugin == 5) five at (zeros n at)
  where
    pointed : (o : Option ℕ) → Contains (pointer_names level (rank it.key) next o) n → n.level ≡ 0 → ⊥
    pointed None h z = nothing_in n h
    pointed (Some to) h z =
        let e = ap (λ (x : Name). x.level)
        (only (record { id = to; level = level - 1; lo = rank it.key; hi = next }) n h) in
        omega (arith, e, z, two)

    by : (a b : Bool) → b ≡ false
        → Contains
        (if a then pointer_names level (rank it.key) next (pointer_of it.body) else
        (if b then block_names (rank it.key) (units_of it.body) else [])) n → n.level ≡ 0 → ⊥
    by true b no_extent h z = pointed (pointer_of it.body) h z
    by false true no_extent h z = absurd cc
    by false false no_extent h z = nothing_in n h
