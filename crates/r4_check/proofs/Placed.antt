-- What a walk looks at are blocks of the volume, and none of them is fixed.
use Rattle.std.proofs.Common.{◌≡◌, inl, inr, ℕ, zero, suc, ◌+◌, ◌*◌, ◌<◌, ◌≤◌, Bool, true, false, not, ◌&&◌, ◌||◌, List, [], ◌∷◌, refl, sym, ap, subst, ◌∙◌, arith}
use Rattle.std.specs.Prelude.{Option, Some, None, Contains, nat_lt, ◌==◌, if◌then◌else◌}
use Rattle.std.specs.Option.{is_none}
use Rattle.std.proofs.lemmas.Bool.{and_parts, cases_eq, eq-eqb, ltb-true, not-true, or_parts}
use Rattle.std.proofs.lemmas.Bool.Decides.{nat_tests}
use Rattle.std.proofs.lemmas.List.Elements.{Contains-append_cases}
use Rattle.r4_base.proofs.Choices.{chosen}
use Rattle.r4_base.specs.Bitmap.{is_fixed}
use Rattle.r4_base.specs.Cell.{block_names, cell_fault, cell_of, is_extent, item_body_fault, item_names, items_in_fault, names_block, names_in, next_key, pointer_names, run_names}
use Rattle.r4_base.specs.Extents.{AreLawfulUnits, IsLawfulUnit, holds_fixed, is_hole, pointer_of, units_of}
use Rattle.r4_base.specs.Image.{Image}
use Rattle.r4_base.specs.Key.{rank}
use Rattle.r4_base.specs.Node.{Item, items_of}
use Rattle.r4_base.specs.Tree.{Name, Node}
use Rattle.r4_base.specs.Value.{Value}
use Rattle.r4_base.specs.declared.items.CellFault.{CellFault}
use Rattle.r4_base.specs.declared.items.CellFault.TheVariants.{Pointer}
use Rattle.r4_base.specs.declared.items.Unit.{Unit as ExtentUnit}
use Rattle.r4_cell.proofs.Items.{good_item}
use Rattle.r4_cell.proofs.NodesAt.{node_at}
use Rattle.r4_cell.specs.OnDisk.{AreBlocks}
use Rattle.r4_twig.proofs.Faults.{body_lawful}
use Rattle.r4_check.specs.Walk.{Walk, cell_at, is_reached, look, meet, names_below, refusal_at}
use Rattle.r4_check.proofs.Items.{extent_body, extent_item, names_nothing}
use Rattle.r4_check.proofs.Kept.{look_keeps_with, meet_by, one_of}

-- ---- what an accepted cell names

no_names : (n : Name) → Contains [] n → ⊥
no_names n (k, lt, e) = omega (arith, lt)

run_fits : (blocks key start width : ℕ) → start + width ≤ blocks → holds_fixed blocks start width ≡ false → AreBlocks blocks (run_names key start width)
unfolding holds_fixed
run_fits blocks key start zero le spares n at = absurd (no_names n at)
run_fits blocks key start (suc w) le spares n at =
    let free = or_parts (is_fixed blocks start) (holds_fixed blocks (start + 1) w) spares in
    elim (one_of (record { id = start; level = 0; lo = key; hi = key + 4096 }) (run_names (key + 4096) (start + 1) w) n at) [
      | inl e ↦ let Q : Name → Type 0 = λ m. (m.id < blocks) × (is_fixed blocks m.id ≡ false) in subst Q e (omega (arith, le), free.0)
      | inr later ↦ run_fits blocks (key + 4096) (start + 1) w (omega (arith, le)) free.1 n later
    ]

unit_fits : (blocks key : ℕ) (u : ExtentUnit) (hole : Bool) → is_hole u ≡ hole → IsLawfulUnit false blocks u → AreBlocks blocks (if hole then [] else run_names key u.start u.width)
unit_fits blocks key u true is (inl unplaced) n at = absurd (no_names n at)
unit_fits blocks key u true is (inr lawful) n at = absurd (no_names n at)
unit_fits blocks key u false is (inl unplaced) n at = let never = unplaced.0 in absurd (cc)
unit_fits blocks key u false is (inr (inl hole)) n at = let t : (u.start == 0) ≡ true = eq-eqb u.start 0 hole.0 in absurd (cc)
unit_fits blocks key u false is (inr (inr run)) n at = run_fits blocks key u.start u.width run.within run.spares_fixed n at

units_fit : (blocks key : ℕ) (us : List ExtentUnit) → AreLawfulUnits false blocks us → AreBlocks blocks (block_names key us)
units_fit blocks key [] h n at = absurd (no_names n at)
units_fit blocks key (u ∷ us) h n at = elim (Contains-append_cases (if is_hole u then [] else run_names key u.start u.width) (block_names (key + 4096 * u.width) us) n at) [
  | inl here ↦ unit_fits blocks key u (is_hole u) refl h.0 n here
  | inr later ↦ units_fit blocks (key + 4096 * u.width) us h.1 n later
]

pointer_fits : (blocks level key next : ℕ) (o : Option ℕ) → names_block false blocks o ≡ true → AreBlocks blocks (pointer_names level key next o)
pointer_fits blocks level key next None h n at = absurd (no_names n at)
pointer_fits blocks level key next (Some to) h n at =
    let parts = and_parts (nat_lt to blocks) (not (is_fixed blocks to)) h in
    elim (one_of _ [] n at) [
      | inl e ↦ let Q : Name → Type 0 = λ m. (m.id < blocks) × (is_fixed blocks m.id ≡ false) in subst Q e (ltb-true to blocks parts.0, not-true _ parts.1)
      | inr later ↦ absurd (no_names n later)
    ]

pointer_good : (blocks : ℕ) (it : Item) → it.plugin ≡ 3 → item_body_fault false blocks it ≡ None → names_block false blocks (pointer_of it.body) ≡ true
unfolding item_body_fault
pointer_good blocks it is h =
    let a : (it.plugin == 0) ≡ false = ap (λ (k : ℕ). k == 0) is in
    let b : (it.plugin == 2) ≡ false = ap (λ (k : ℕ). k == 2) is in
    let t : (it.plugin == 3) ≡ true = eq-eqb it.plugin 3 is in
    let fault : item_body_fault false blocks it ≡ (if names_block false blocks (pointer_of it.body) then None else Some Pointer) = rw (a, b, t) refl in
    chosen (names_block false blocks (pointer_of it.body)) Pointer (sym fault ∙ h)

pointer_named : (level next : ℕ) (it : Item) → it.plugin ≡ 3 → pointer_names level (rank it.key) next (pointer_of it.body) ≡ item_names level next it
unfolding item_names
pointer_named level next it is = let t : (it.plugin == 3) ≡ true = eq-eqb it.plugin 3 is in rw t refl

item_fits : (blocks level next : ℕ) (it : Item) → item_body_fault false blocks it ≡ None → AreBlocks blocks (item_names level next it)
item_fits blocks level next it h = elim (cases_eq it.plugin 3) [
  | inl is ↦ subst (AreBlocks blocks) (pointer_named level next it is) (pointer_fits blocks level (rank it.key) next (pointer_of it.body) (pointer_good blocks it is h))
  | inr other ↦ elim (cases_eq it.plugin 5) [
    | inl is ↦ subst (AreBlocks blocks) (extent_item level next it is) (units_fit blocks (rank it.key) (units_of it.body) (body_lawful false blocks it.body (extent_body false blocks it is h)).2)
    | inr none ↦ let t : is_extent it ≡ false = grind (arith, nat_tests) in subst (AreBlocks blocks) (sym (names_nothing level next it other t)) (λ n at. absurd (no_names n at))
  ]
]

items_fit : (blocks level lo hi i : ℕ) (items : List Item) → items_in_fault false blocks level lo hi i items ≡ None → AreBlocks blocks (names_in level hi items)
unfolding names_in
items_fit blocks level lo hi i [] h n at = absurd (no_names n at)
items_fit blocks level lo hi i (it ∷ items) h n at =
    let good = good_item false blocks level lo hi i it items h in
    elim (Contains-append_cases (item_names level (next_key hi items) it) (names_in level hi items) n at) [
      | inl here ↦ item_fits blocks level (next_key hi items) it good.body n here
      | inr later ↦ items_fit blocks level lo hi (i + 1) items good.rest n later
    ]

pub accepted_fits : (blocks level lo hi : ℕ) (b : List ℕ) → cell_fault false blocks level lo hi b ≡ None → AreBlocks blocks (cell_of level lo hi b).names
unfolding cell_of
accepted_fits blocks zero lo hi b h n at = absurd (no_names n at)
accepted_fits blocks (suc l) lo hi b h n at = items_fit blocks (suc l) lo hi 0 (items_of b) (node_at false blocks (suc l) lo hi b (omega arith) h).items n at

-- ---- what a walk looks at

below_by : (blocks : ℕ) (again : Bool) (o : Option CellFault) (names : List Name) → (o ≡ None → AreBlocks blocks names) → AreBlocks blocks (if again then [] else if is_none o then names else [])
below_by blocks true o names fits n at = absurd (no_names n at)
below_by blocks false None names fits n at = fits refl n at
below_by blocks false (Some f) names fits n at = absurd (no_names n at)

below_fits : (blocks : ℕ) (image : Image) (w : Walk) (n : Name) → AreBlocks blocks (names_below blocks image w n)
unfolding names_below
below_fits blocks image w n = below_by blocks (is_reached w n.id) (refusal_at blocks image n) (cell_at image n).names (λ sound. accepted_fits blocks n.level n.lo n.hi _ sound)

abbrev pub IsFree : (blocks : ℕ) → ℕ → Type 0
IsFree blocks i = (i < blocks) × (is_fixed blocks i ≡ false)

-- ---- the cells of a walk

abbrev pub AreFree : (blocks : ℕ) → Walk → Type 0
AreFree blocks w = (i : ℕ) (c : Node Value) → Contains w.cells (i, c) → IsFree blocks i

pub free_kept : (blocks : ℕ) (image : Image) (w : Walk) (n : Name) → IsFree blocks n.id → AreFree blocks w → AreFree blocks (meet blocks image w n)
free_kept blocks image w n free h = meet_by (AreFree blocks) blocks image w n (λ again. h) (λ first sound. accepted) (λ f first bad. h)
  where
    accepted : (i : ℕ) (c : Node Value) → Contains ((n.id, cell_at image n) ∷ w.cells) (i, c) → IsFree blocks i
    accepted i c at = elim (one_of (n.id, cell_at image n) w.cells (i, c) at) [
      | inl e ↦ let Q : ℕ × Node Value → Type 0 = λ p. IsFree blocks p.0 in subst Q e free
      | inr more ↦ h i c more
    ]

pub look_keeps_free : (blocks : ℕ) (image : Image) (levels : ℕ) (w : Walk) (n : Name) → IsFree blocks n.id → AreFree blocks w → AreFree blocks (look levels blocks image w n)
look_keeps_free blocks image = look_keeps_with (λ n. IsFree blocks n.id) (AreFree blocks) blocks image (λ w n free. below_fits blocks image w n) (free_kept blocks image)
