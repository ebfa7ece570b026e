-- Stat data and entries of a cell have keys of their own.
use Rattle.std.proofs.Common.{◌≡◌, ◌⊎◌, inl, inr, ℕ, zero, suc, ◌+◌, ◌^◌, ◌≤◌, true, false, List, [], ◌∷◌, length, refl, ap, subst, arith}
use Rattle.std.specs.Prelude.{Contains, None}
use Rattle.std.proofs.lemmas.Bool.Decides.{nat_tests}
use Rattle.r4_base.specs.Cell.{cell_fault, cell_of, item_units, units_in}
use Rattle.r4_base.specs.Extents.{units_of}
use Rattle.r4_base.specs.Key.{rank}
use Rattle.r4_base.specs.Node.{Item, PluginsFit, fits_level, items_of}
use Rattle.r4_base.specs.Value.{Value}
use Rattle.r4_check.proofs.r4_cell.Faults.{cell_still}
use Rattle.r4_check.proofs.r4_cell.NodesAt.{node_at, plugins_at}
use Rattle.r4_leaf.proofs.LeafItems.{lie_rise}
use Rattle.r4_leaf.proofs.Rising.{Rise}
use Rattle.r4_leaf.proofs.Standing.{stand_lie}
use Rattle.r4_check_laws.proofs.Contents.{AreApart, Units, apart_bytes, is_named}
use Rattle.r4_check_laws.proofs.Lists.{either_in, none_in, one_of}
use Rattle.r4_check_laws.proofs.Pairs.{bytes_bare, extent_units, holes_bare, pointer_units}

risen : (from to : ℕ) (us : Units) → Rise from to us → (k : ℕ) (v : Value) → Contains us (k, v) → from ≤ k
risen from to [] rise k v at = absurd (none_in (k, v) at)
risen from to (u ∷ us) rise k v at = elim (one_of u us (k, v) at) [
  | inl e ↦ let same = ap (λ (p : ℕ × Value). p.0) e in let low = rise.0 in omega (arith, same, low)
  | inr more ↦ let low = rise.0 in let above = risen (u.0 + 1) to us rise.1 k v more in omega (arith, low, above)
]

rising_apart : (from to : ℕ) (us : Units) → Rise from to us → AreApart us
rising_apart from to [] rise = tt
rising_apart from to (u ∷ us) rise = (λ named v at. (let above = risen (u.0 + 1) to us rise.1 u.0 v at in omega (arith, above)), rising_apart (u.0 + 1) to us rise.1)

-- which plugins a node above the leaves has
pub is_upper : (level plugin : ℕ) → 2 ≤ level → fits_level level plugin ≡ true → (plugin ≡ 3) ⊎ ((level ≡ 2) × (plugin ≡ 5))
is_upper level plugin high fits = grind (arith, nat_tests)

-- and a leaf
pub is_lower : (level plugin : ℕ) → level ≡ 1 → fits_level level plugin ≡ true → (plugin ≡ 0) ⊎ ((plugin ≡ 2) ⊎ (plugin ≡ 6))
is_lower level plugin leaf fits = grind (arith, nat_tests)

upper_bare : (level : ℕ) (it : Item) → 2 ≤ level → fits_level level it.plugin ≡ true → (u : ℕ × Value) → Contains (item_units it) u → is_named u.1 ≡ false
upper_bare level it high fits u at = elim (is_upper level it.plugin high fits) [
  | inl pointer ↦ absurd (none_in u (subst (λ (us : Units). Contains us u) (pointer_units it pointer) at))
  | inr extent ↦ holes_bare (rank it.key) (units_of it.body) u (subst (λ (us : Units). Contains us u) (extent_units it extent.1) at)
]

uppers_bare : (level : ℕ) (items : List Item) → 2 ≤ level → PluginsFit level items → (u : ℕ × Value) → Contains (units_in items) u → is_named u.1 ≡ false
unfolding units_in
uppers_bare level [] high fits u at = absurd (none_in u at)
uppers_bare level (it ∷ items) high fits u at = elim (either_in (item_units it) (units_in items) u at) [
  | inl front ↦ upper_bare level it high (fits 0 it refl) u front
  | inr back ↦ uppers_bare level items high (λ k. fits (suc k)) u back
]

pub cell_apart : (blocks level lo hi : ℕ) (b : List ℕ) → blocks ≤ 2 ^ 64 → length b ≡ 4096 → lo ≤ hi → cell_fault false blocks level lo hi b ≡ None → AreApart (cell_of level lo hi b).units
unfolding cell_of
cell_apart blocks zero lo hi b few whole order sound = apart_bytes _ (bytes_bare lo b)
cell_apart blocks (suc zero) lo hi b few whole order sound =
    rising_apart lo hi (units_in (items_of b)) (lie_rise lo hi (items_of b) (stand_lie lo hi b (whole, cell_still false blocks (2 ^ 64) 1 lo hi b few sound) (inl order)))
cell_apart blocks (suc (suc l)) lo hi b few whole order sound =
    let node = node_at false blocks (suc (suc l)) lo hi b (omega arith) sound in
    apart_bytes _ (uppers_bare (suc (suc l)) (items_of b) (omega arith) (plugins_at false blocks (suc (suc l)) lo hi b whole node))

-- stat data and entries stand in leaves
pub named_in_leaf : (blocks level lo hi : ℕ) (b : List ℕ) → length b ≡ 4096 → cell_fault false blocks level lo hi b ≡ None → (u : ℕ × Value) → Contains (cell_of level lo hi b).units u → is_named u.1 ≡ true → level ≡ 1
unfolding cell_of
named_in_leaf blocks zero lo hi b whole sound u at named = let bare = bytes_bare lo b u at in absurd (cc)
named_in_leaf blocks (suc zero) lo hi b whole sound u at named = refl
named_in_leaf blocks (suc (suc l)) lo hi b whole sound u at named =
    let node = node_at false blocks (suc (suc l)) lo hi b (omega arith) sound in
    let bare = uppers_bare (suc (suc l)) (items_of b) (omega arith) (plugins_at false blocks (suc (suc l)) lo hi b whole node) u at in
    absurd (cc)
