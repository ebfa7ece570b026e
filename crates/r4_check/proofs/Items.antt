-- What the first items of a node name, and the first units of an extent.
use Rattle.std.proofs.Common.{◌≡◌, ◌≢◌, ℕ, zero, suc, ◌+◌, ◌-◌, ◌*◌, ◌^◌, ◌<◌, ◌≤◌, Bool, true, false, not, ◌&&◌, List, [], ◌∷◌, ◌++◌, length, drop, refl, sym, ap, subst, ◌∙◌, arith}
use Rattle.std.specs.Prelude.{Option, Some, None, slice_get, ◌==◌, nat_lt, if◌then◌else◌}
use Rattle.std.specs.Option.{option_map}
use Rattle.std.proofs.lemmas.Bool.{eq-eqb, ltb-true}
use Rattle.std.proofs.lemmas.Bool.Decides.{nat_tests}
use Rattle.std.proofs.lemmas.List.{append-nil, append_assoc}
use Rattle.r4_base.specs.Bitmap.{is_fixed}
use Rattle.r4_base.specs.Cell.{block_names, cell_fault, cell_of, is_extent, item_body_fault, item_names, names_block, names_in, next_key, run_names}
use Rattle.r4_base.specs.Extents.{AreLawfulUnits, IsLawfulUnit, body_fault, pointer_of, units_of}
use Rattle.r4_base.specs.Key.{rank}
use Rattle.r4_base.specs.Node.{Item, items_of}
use Rattle.r4_base.specs.Tree.{Name}
use Rattle.r4_base.specs.declared.items.CellFault.TheVariants.{Extent, Pointer}
use Rattle.r4_base.specs.declared.items.ExtentFault.{ExtentFault}
use Rattle.r4_base.proofs.Choices.{chosen}
use Rattle.r4_base.specs.declared.items.Unit.{Unit as ExtentUnit}
use Rattle.r4_base.specs.Node.{fits_level}
use Rattle.std.proofs.Common.{inl, inr}
use Rattle.std.proofs.lemmas.Bool.{cases_eq}
use Rattle.std.proofs.lemmas.Option.{same_Some}
use Rattle.r4_cell.proofs.NodesAt.{node_at, plugins_at}
use Rattle.r4_list.proofs.r4_search.Places.{body_at}
use Rattle.r4_base.specs.Image.{Image}
use Rattle.r4_outside.specs.Sink.{SinkState}
use Rattle.std.specs.Prelude.{Result, Ok}
use Rattle.r4_check.specs.Looking.{Steps}
use Rattle.r4_check.specs.Walk.{look_at}
use Rattle.r4_check.specs.declared.stop.Stop.{Stop}
use Rattle.r4_check.specs.declared.tally.Tally.{Tally}
use Rattle.r4_check.proofs.Steps.{steps_as, steps_then}
use Rattle.r4_check.proofs.Walks.{look_at_both}
use Rattle.r4_check.specs.Units.{unit_names}

-- ---- items

abbrev pub names_before : (level hi : ℕ) → List Item → (i : ℕ) → List Name
names_before level hi [] i = []
names_before level hi (it ∷ items) zero = []
names_before level hi (it ∷ items) (suc i) = item_names level (next_key hi items) it ++ names_before level hi items i

pub before_none : (level hi : ℕ) (items : List Item) → names_before level hi items 0 ≡ []
before_none level hi [] = refl
before_none level hi (it ∷ items) = refl

drop_none : (items : List Item) → drop 0 items ≡ items
drop_none [] = refl
drop_none (it ∷ items) = refl

pub before_more : (level hi : ℕ) (items : List Item) (i : ℕ) (it : Item) → slice_get items i ≡ Some it → names_before level hi items (suc i) ≡ names_before level hi items i ++ item_names level (next_key hi (drop (suc i) items)) it
before_more level hi [] i it is = absurd cc
before_more level hi (x ∷ items) zero it is =
    let e : x ≡ it = cc in
    ap (λ (l : List Name). item_names level (next_key hi items) x ++ l) (before_none level hi items) ∙ append-nil (item_names level (next_key hi items) x)
    ∙ ap (λ (l : List Item). item_names level (next_key hi l) x) (sym (drop_none items)) ∙ ap (λ (y : Item). item_names level (next_key hi (drop 0 items)) y) e
before_more level hi (x ∷ items) (suc i) it is =
    ap (λ (l : List Name). item_names level (next_key hi items) x ++ l) (before_more level hi items i it is)
    ∙ sym (append_assoc (item_names level (next_key hi items) x) (names_before level hi items i) (item_names level (next_key hi (drop (suc i) items)) it))

pub before_all : (level hi : ℕ) (items : List Item) (i : ℕ) → i ≡ length items → names_before level hi items i ≡ names_in level hi items
unfolding names_in
before_all level hi [] i is = refl
before_all level hi (it ∷ items) zero is = absurd (omega (arith, is))
before_all level hi (it ∷ items) (suc i) is = ap (λ (l : List Name). item_names level (next_key hi items) it ++ l) (before_all level hi items i (omega (arith, is)))

-- the names of the others
pub names_after : (level hi : ℕ) (items : List Item) (i : ℕ) → i ≤ length items → names_in level hi items ≡ names_before level hi items i ++ names_in level hi (drop i items)
unfolding names_in
names_after level hi [] zero le = refl
names_after level hi [] (suc i) le = refl
names_after level hi (it ∷ items) zero le = refl
names_after level hi (it ∷ items) (suc i) le =
    ap (λ (l : List Name). item_names level (next_key hi items) it ++ l) (names_after level hi items i (omega (arith, le)))
    ∙ sym (append_assoc (item_names level (next_key hi items) it) (names_before level hi items i) (names_in level hi (drop i items)))

pub names_of_cell : (level lo hi : ℕ) (b : List ℕ) → 1 ≤ level → (cell_of level lo hi b).names ≡ names_in level hi (items_of b)
unfolding cell_of
names_of_cell zero lo hi b some = absurd (omega (arith, some))
names_of_cell (suc l) lo hi b some = refl

-- ---- units

pub unit_run : (key : ℕ) (u : ExtentUnit) → u.start ≢ 0 → run_names key u.start u.width ≡ unit_names key u
unit_run key u other = let t : (u.start == 0) ≡ false = grind (arith, nat_tests) in rw t refl

abbrev pub units_before : (key : ℕ) → List ExtentUnit → (i : ℕ) → List Name
units_before key [] i = []
units_before key (u ∷ us) zero = []
units_before key (u ∷ us) (suc i) = unit_names key u ++ units_before (key + 4096 * u.width) us i

-- the key of unit i
abbrev pub unit_key : (key : ℕ) → List ExtentUnit → (i : ℕ) → ℕ
unit_key key [] i = key
unit_key key (u ∷ us) zero = key
unit_key key (u ∷ us) (suc i) = unit_key (key + 4096 * u.width) us i

pub units_none : (key : ℕ) (us : List ExtentUnit) → units_before key us 0 ≡ []
units_none key [] = refl
units_none key (u ∷ us) = refl

pub units_more : (key : ℕ) (us : List ExtentUnit) (i : ℕ) (u : ExtentUnit) → slice_get us i ≡ Some u → units_before key us (suc i) ≡ units_before key us i ++ unit_names (unit_key key us i) u
units_more key [] i u is = absurd cc
units_more key (v ∷ us) zero u is =
    let e : v ≡ u = cc in
    ap (λ (l : List Name). unit_names key v ++ l) (units_none (key + 4096 * v.width) us) ∙ append-nil (unit_names key v) ∙ ap (unit_names key) e
units_more key (v ∷ us) (suc i) u is =
    ap (λ (l : List Name). unit_names key v ++ l) (units_more (key + 4096 * v.width) us i u is)
    ∙ sym (append_assoc (unit_names key v) (units_before (key + 4096 * v.width) us i) (unit_names (unit_key (key + 4096 * v.width) us i) u))

pub units_all : (key : ℕ) (us : List ExtentUnit) (i : ℕ) → i ≡ length us → units_before key us i ≡ block_names key us
units_all key [] i is = refl
units_all key (u ∷ us) zero is = absurd (omega (arith, is))
units_all key (u ∷ us) (suc i) is = ap (λ (l : List Name). unit_names key u ++ l) (units_all (key + 4096 * u.width) us i (omega (arith, is)))

pub units_after : (key : ℕ) (us : List ExtentUnit) (i : ℕ) → i ≤ length us → block_names key us ≡ units_before key us i ++ block_names (unit_key key us i) (drop i us)
units_after key [] zero le = refl
units_after key [] (suc i) le = refl
units_after key (u ∷ us) zero le = refl
units_after key (u ∷ us) (suc i) le =
    ap (λ (l : List Name). unit_names key u ++ l) (units_after (key + 4096 * u.width) us i (omega (arith, le)))
    ∙ sym (append_assoc (unit_names key u) (units_before (key + 4096 * u.width) us i) (block_names (unit_key (key + 4096 * u.width) us i) (drop i us)))

pub lawful_at : (blocks : ℕ) (us : List ExtentUnit) (i : ℕ) (u : ExtentUnit) → AreLawfulUnits false blocks us → slice_get us i ≡ Some u → IsLawfulUnit false blocks u
lawful_at blocks [] i u h is = absurd cc
lawful_at blocks (v ∷ us) zero u h is = let e : v ≡ u = cc in subst (λ (x : ExtentUnit). IsLawfulUnit false blocks x) e h.0
lawful_at blocks (v ∷ us) (suc i) u h is = lawful_at blocks us i u h.1 is

-- ---- what is accepted

both_hold : (a b : Bool) → (a && b) ≡ true → a ≡ true
both_hold true b h = refl
both_hold false b h = absurd cc

none_of_extent : (f : Option ExtentFault) → option_map Extent f ≡ None → f ≡ None
none_of_extent None h = refl
none_of_extent (Some f) h = absurd cc

pub extent_body : (in_memory : Bool) (blocks : ℕ) (it : Item) → it.plugin ≡ 5 → item_body_fault in_memory blocks it ≡ None → body_fault in_memory blocks it.body ≡ None
unfolding item_body_fault
extent_body in_memory blocks it is h =
    let a : (it.plugin == 0) ≡ false = ap (λ (k : ℕ). k == 0) is in
    let b : (it.plugin == 2) ≡ false = ap (λ (k : ℕ). k == 2) is in
    let c : (it.plugin == 3) ≡ false = ap (λ (k : ℕ). k == 3) is in
    let t : (it.plugin == 5) ≡ true = eq-eqb it.plugin 5 is in
    let fault : item_body_fault in_memory blocks it ≡ option_map Extent (body_fault in_memory blocks it.body) = rw (a, b, c, t) refl in
    none_of_extent _ (sym fault ∙ h)

pub pointer_within : (blocks : ℕ) (it : Item) (to : ℕ) → it.plugin ≡ 3 → pointer_of it.body ≡ Some to → item_body_fault false blocks it ≡ None → to < blocks
unfolding item_body_fault
pointer_within blocks it to is at h =
    let a : (it.plugin == 0) ≡ false = ap (λ (k : ℕ). k == 0) is in
    let b : (it.plugin == 2) ≡ false = ap (λ (k : ℕ). k == 2) is in
    let t : (it.plugin == 3) ≡ true = eq-eqb it.plugin 3 is in
    let fault : item_body_fault false blocks it ≡ (if names_block false blocks (pointer_of it.body) then None else Some Pointer) = rw (a, b, t) refl in
    let names = chosen (names_block false blocks (pointer_of it.body)) Pointer (sym fault ∙ h) in
    ltb-true to blocks (both_hold (nat_lt to blocks) (not (is_fixed blocks to)) (subst (λ (o : Option ℕ). names_block false blocks o ≡ true) at names))

pub names_nothing : (level next : ℕ) (it : Item) → it.plugin ≢ 3 → is_extent it ≡ false → item_names level next it ≡ []
unfolding item_names
names_nothing level next it other none =
    let t : (it.plugin == 3) ≡ false = grind (arith, nat_tests) in
    rw (t, none) refl

-- ---- what an item of a node points to

pub shown_is : (xs ys : List Item) (i : ℕ) (a it : Item) → xs ≡ ys → slice_get xs i ≡ Some a → slice_get ys i ≡ Some it → a ≡ it
shown_is xs ys i a it e b at = same_Some a it (sym b ∙ ap (λ (l : List Item). slice_get l i) e ∙ at)

pointer_item : (level next to : ℕ) (it : Item) → it.plugin ≡ 3 → pointer_of it.body ≡ Some to → item_names level next it ≡ record { id = to; level = level - 1; lo = rank it.key; hi = next } ∷ []
unfolding item_names
pointer_item level next to it is e = let t : (it.plugin == 3) ≡ true = eq-eqb it.plugin 3 is in rw (t, e) refl

no_pointer : (it : Item) → it.plugin ≡ 3 → pointer_of it.body ≡ None → item_body_fault true (2 ^ 64) it ≡ Some Pointer
unfolding item_body_fault
no_pointer it is e =
    let a : (it.plugin == 0) ≡ false = ap (λ (k : ℕ). k == 0) is in
    let b : (it.plugin == 2) ≡ false = ap (λ (k : ℕ). k == 2) is in
    let t : (it.plugin == 3) ≡ true = eq-eqb it.plugin 3 is in
    rw (a, b, t, e) refl

pub named_item : (level lev next to lo hi : ℕ) (it : Item) → it.plugin ≡ 3 → pointer_of it.body ≡ Some to → lev ≡ level → lo ≡ rank it.key → hi ≡ next → item_names level next it ≡ record { id = to; level = lev - 1; lo = lo; hi = hi } ∷ []
named_item level lev next to lo hi it is at same from end =
    pointer_item level next to it is at
    ∙ ap (λ (l : ℕ). record { id = to; level = l - 1; lo = rank it.key; hi = next } ∷ []) (sym same)
    ∙ ap (λ (k : ℕ). record { id = to; level = lev - 1; lo = k; hi = next } ∷ []) (sym from)
    ∙ ap (λ (k : ℕ). record { id = to; level = lev - 1; lo = lo; hi = k } ∷ []) (sym end)

-- pointers stand above the leaves
high : (level : ℕ) → fits_level level 3 ≡ true → 1 ≤ level → 2 ≤ level
high level fits some = elim (cases_eq level 1) [
  | inl is ↦ absurd (leaf (subst (λ (l : ℕ). fits_level l 3 ≡ true) is fits))
  | inr other ↦ omega (arith, some, other)
]
  where
    leaf : fits_level 1 3 ≡ true → ⊥
    leaf h = cc

module _ (level lo hi : ℕ) (b : List ℕ) (whole : length b ≡ 4096) (some : 1 ≤ level) (i : ℕ) (it : Item) (at : slice_get (items_of b) i ≡ Some it) where
  pub body_on : (in_memory : Bool) (blocks : ℕ) → cell_fault in_memory blocks level lo hi b ≡ None → item_body_fault in_memory blocks it ≡ None
  body_on in_memory blocks h = body_at in_memory blocks level lo hi 0 (items_of b) i it (node_at in_memory blocks level lo hi b some h).items at

  pub pointer_high : (in_memory : Bool) (blocks : ℕ) → cell_fault in_memory blocks level lo hi b ≡ None → it.plugin ≡ 3 → 2 ≤ level
  pointer_high in_memory blocks h is = high level (subst (λ (p : ℕ). fits_level level p ≡ true) is (plugins_at in_memory blocks level lo hi b whole (node_at in_memory blocks level lo hi b some h) i it at)) some

  pub pointer_there : cell_fault true (2 ^ 64) level lo hi b ≡ None → it.plugin ≡ 3 → pointer_of it.body ≡ None → ⊥
  pointer_there h is e = let good = body_on true (2 ^ 64) h in let bad = no_pointer it is e in cc

-- ---- how a walk goes on over items and units

module _ {T : Type 0} (levels blocks : ℕ) (image : Image) (k l m : SinkState) (t u v : Tally) (r : Result T Stop) where
  pub names_on : (names a b : List Name) → names ≡ a ++ b → Steps {T = Unit {0}} blocks k t (Ok tt) l u (λ w. look_at levels blocks image w a) → Steps blocks l u r m v (λ w. look_at levels blocks image w b) → Steps blocks k t r m v (λ w. look_at levels blocks image w names)
  names_on names a b is f g = steps_as blocks k m t v r _ (λ w. look_at levels blocks image w names) (λ w h. sym (ap (look_at levels blocks image w) is ∙ look_at_both levels blocks image w a b))
      (steps_then blocks k l m t u v (tt {0}) r (λ w. look_at levels blocks image w a) (λ w. look_at levels blocks image w b) f g)

  pub unit_on : (key : ℕ) (us : List ExtentUnit) (i : ℕ) (x : ExtentUnit) → slice_get us i ≡ Some x → Steps {T = Unit {0}} blocks k t (Ok tt) l u (λ w. look_at levels blocks image w (units_before key us i))
      → Steps blocks l u r m v (λ w. look_at levels blocks image w (unit_names (unit_key key us i) x)) → Steps blocks k t r m v (λ w. look_at levels blocks image w (units_before key us (i + 1)))
  unit_on key us i x at f g =
      let next : suc i ≡ i + 1 = omega arith in
      names_on (units_before key us (i + 1)) (units_before key us i) (unit_names (unit_key key us i) x) (ap (units_before key us) (sym next) ∙ units_more key us i x at) f g

  pub item_on : (level hi : ℕ) (items : List Item) (i : ℕ) (it : Item) → slice_get items i ≡ Some it → Steps {T = Unit {0}} blocks k t (Ok tt) l u (λ w. look_at levels blocks image w (names_before level hi items i))
      → Steps blocks l u r m v (λ w. look_at levels blocks image w (item_names level (next_key hi (drop (i + 1) items)) it)) → Steps blocks k t r m v (λ w. look_at levels blocks image w (names_before level hi items (i + 1)))
  item_on level hi items i it at f g =
      let next : suc i ≡ i + 1 = omega arith in
      names_on (names_before level hi items (i + 1)) (names_before level hi items i) (item_names level (next_key hi (drop (i + 1) items)) it)
      (ap (names_before level hi items) (sym next) ∙ before_more level hi items i it at ∙ ap (λ (n : ℕ). names_before level hi items i ++ item_names level (next_key hi (drop n items)) it) next) f g

pub same_steps : {T : Type 0} (levels blocks : ℕ) (image : Image) (k l : SinkState) (t u : Tally) (r : Result T Stop) (a b : List Name) → a ≡ b → Steps blocks k t r l u (λ w. look_at levels blocks image w a) → Steps blocks k t r l u (λ w. look_at levels blocks image w b)
same_steps {T} levels blocks image k l t u r a b is f = steps_as blocks k l t u r (λ w. look_at levels blocks image w a) (λ w. look_at levels blocks image w b) (λ w h. ap (look_at levels blocks image w) is) f

pub extent_item : (level next : ℕ) (it : Item) → it.plugin ≡ 5 → block_names (rank it.key) (units_of it.body) ≡ item_names level next it
unfolding item_names
extent_item level next it is =
    let a : (it.plugin == 3) ≡ false = ap (λ (k : ℕ). k == 3) is in
    let t : (it.plugin == 5) ≡ true = eq-eqb it.plugin 5 is in
    rw (a, t) refl

pub no_extent : (it a : Item) → a ≡ it → a.plugin ≢ 5 → is_extent it ≡ false
no_extent it a same other = let t : (a.plugin == 5) ≡ false = grind (arith, nat_tests) in ap is_extent (sym same) ∙ t

pub units_lawful : (blocks : ℕ) (a b : List ExtentUnit) → a ≡ b → AreLawfulUnits false blocks a → AreLawfulUnits false blocks b
units_lawful blocks a b is h = subst (λ (us : List ExtentUnit). AreLawfulUnits false blocks us) is h
