-- A block that may stand as a leaf, and its items.
use Rattle.std.proofs.Common.{◌≡◌, ◌⊎◌, ℕ, suc, ◌+◌, ◌^◌, ◌≤◌, Bool, true, false, ◌||◌, List, [], ◌∷◌, length, inl, inr, refl, sym, ap, subst, ◌∙◌, arith}
use Rattle.std.specs.Prelude.{slice_get, Some, None, ◌==◌, nat_le, nat_lt, if◌then◌else◌}
use Rattle.std.specs.Option.{option_map}
use Rattle.std.proofs.lemmas.Bool.{and_parts, eqb-true, le-leb, leb-true, ltb-true}
use Rattle.std.proofs.lemmas.List.{length-append}
use Rattle.std.proofs.lemmas.Option.{same_Some, slice_get_within}
use Rattle.r4_base.specs.Cell.{cell_fault, item_body_fault, item_end, items_in_fault, next_key, offsets_fit, range_is_good}
use Rattle.r4_base.specs.Key.{IsKey, offset_of, rank}
use Rattle.r4_base.specs.Node.{Item, count_of, fits_level, item_at, items_of, level_of, node_fault}
use Rattle.r4_base.specs.declared.items.CellFault.TheVariants.{Node, Level, Range, Tail}
use Rattle.r4_node40.specs.Laid.{IsNode}
use Rattle.r4_node40.proofs.Accepted.{good}
use Rattle.r4_node40.proofs.Laid.{get-items_of, key_fits, length-items_of}
use Rattle.r4_leaf.specs.Items.{IsSoundItem, Lie}
use Rattle.r4_leaf.specs.Leaves.{IsGiven, MayBePut, MayStand, Packs}
use Rattle.r4_leaf.specs.Units.{LeafUnit, cut_units}
use Rattle.r4_leaf.specs.declared.leaf.Leaf.{Leaf}
use Rattle.r4_base.specs.Cell.{units_in}
use Rattle.r4_base.proofs.Choices.{chosen, none_of_node, or_none}

plugin_of : (p : ℕ) → (p == 0 || p == 2 || p == 6) ≡ true → (p ≡ 0) ⊎ ((p ≡ 2) ⊎ (p ≡ 6))
plugin_of p h = by_tests (p == 0) (p == 2) refl refl h
  where
    by_tests : (a b : Bool) → a ≡ (p == 0) → b ≡ (p == 2) → (a || b || p == 6) ≡ true → (p ≡ 0) ⊎ ((p ≡ 2) ⊎ (p ≡ 6))
    by_tests true b ea eb e = inl (eqb-true p 0 (sym ea))
    by_tests false true ea eb e = inr (inl (eqb-true p 2 (sym eb)))
    by_tests false false ea eb e = inr (inr (eqb-true p 6 e))

-- each item has a plugin of a leaf, and a key
abbrev pub AreOfLeaf : List Item → Type 0
AreOfLeaf xs = (k : ℕ) (x : Item) → slice_get xs k ≡ Some x → ((x.plugin ≡ 0) ⊎ ((x.plugin ≡ 2) ⊎ (x.plugin ≡ 6))) × IsKey x.key

pub good_lie : (lo bound hi i : ℕ) (xs : List Item) → AreOfLeaf xs → bound ≤ next_key hi xs → items_in_fault true (2 ^ 64) 1 lo hi i xs ≡ None → Lie bound hi xs
unfolding items_in_fault
good_lie lo bound hi i [] leaf le h = le
good_lie lo bound hi i (x ∷ xs) leaf le h =
    let outer = or_none (item_body_fault true (2 ^ 64) x) _ h in
    let rest = or_none (if range_is_good 1 lo hi (next_key hi xs) i x then None else Some (Range i)) _ outer.1 in
    let range : range_is_good 1 lo hi (next_key hi xs) i x ≡ true = chosen _ (Range i) rest.0 in
    let a = and_parts _ _ range in
    let b = and_parts _ (nat_le (item_end x) (next_key hi xs)) a.0 in
    let c = and_parts _ (nat_le (item_end x) hi) b.0 in
    let d = and_parts _ (offsets_fit x) c.0 in
    let own = leaf 0 x refl in
    (le, record { plugin = own.0; body = outer.0; fits = d.1; key = own.1 }, good_lie lo (item_end x) hi (i + 1) xs (λ k. leaf (suc k)) (leb-true _ _ b.1) rest.1)

pub first_from : (lo hi i : ℕ) (xs : List Item) → 1 ≤ length xs → items_in_fault true (2 ^ 64) 1 lo hi i xs ≡ None → lo ≤ next_key hi xs
unfolding items_in_fault
first_from lo hi i [] some h = absurd (omega (arith, some))
first_from lo hi i (x ∷ xs) some h =
    let outer = or_none (item_body_fault true (2 ^ 64) x) _ h in
    let rest = or_none (if range_is_good 1 lo hi (next_key hi xs) i x then None else Some (Range i)) _ outer.1 in
    let range : range_is_good 1 lo hi (next_key hi xs) i x ≡ true = chosen _ (Range i) rest.0 in
    let a = and_parts _ _ range in
    let b = and_parts _ (nat_le (item_end x) (next_key hi xs)) a.0 in
    let c = and_parts _ (nat_le (item_end x) hi) b.0 in
    let d = and_parts _ (offsets_fit x) c.0 in
    let e = and_parts (nat_le lo (rank x.key)) (nat_lt (rank x.key) hi) d.0 in
    leb-true _ _ e.0

module _ (lo hi : ℕ) (b : List ℕ) (stand : MayStand lo hi b) where
  parts : (node_fault b ≡ None) × (level_of b ≡ 1) × (items_in_fault true (2 ^ 64) 1 lo hi 0 (items_of b) ≡ None)
  unfolding cell_fault
  parts =
      let node = or_none (option_map Node (node_fault b)) _ stand.1 in
      let level = or_none (if level_of b == 1 then None else Some Level) _ node.1 in
      (none_of_node (node_fault b) node.0, eqb-true _ _ (chosen _ Level level.0), level.1)

  pub is_node : IsNode b
  is_node = (good b stand.0 parts.0).0

  of_leaf : AreOfLeaf (items_of b)
  unfolding item_at
  of_leaf k x at =
      let fit : fits_level 1 x.plugin ≡ true = ap (λ l. fits_level l x.plugin) (sym parts.1) ∙ is_node.plugins k x at in
      let within = slice_get_within (items_of b) k x at in
      let n = length-items_of b in
      let is = same_Some _ x (sym (get-items_of b (count_of b) k refl (omega (arith, within, n))) ∙ at) in
      (plugin_of x.plugin fit, subst IsKey (ap (λ (y : Item). y.key) is) (key_fits b k))

  pub stand_lie : (lo ≤ hi) ⊎ (1 ≤ length (items_of b)) → Lie lo hi (items_of b)
  stand_lie (inl le) = from_le (items_of b) of_leaf parts.2
    where
      from_le : (xs : List Item) → AreOfLeaf xs → items_in_fault true (2 ^ 64) 1 lo hi 0 xs ≡ None → Lie lo hi xs
      from_le [] leaf h = le
      from_le (x ∷ xs) leaf h = good_lie lo lo hi 0 (x ∷ xs) leaf (first_from lo hi 0 (x ∷ xs) (omega arith) h) h
  stand_lie (inr some) = good_lie lo lo hi 0 (items_of b) of_leaf (first_from lo hi 0 (items_of b) some parts.2) parts.2

-- an item that may be put in is sound
pub put_sound : (it : Item) → MayBePut it → IsKey it.key → IsSoundItem it
unfolding item_body_fault
put_sound it g key = record { plugin = g.plugin; body = g.sound; fits = fits_of g.plugin; key = key }
  where
    fits_of : (it.plugin ≡ 0) ⊎ ((it.plugin ≡ 2) ⊎ (it.plugin ≡ 6)) → offsets_fit it ≡ true
    fits_of (inl is) = let a : (it.plugin == 0) ≡ true = ap (λ (x : ℕ). x == 0) is in rw a refl
    fits_of (inr (inl is)) =
        let a : (it.plugin == 0) ≡ false = ap (λ (x : ℕ). x == 0) is in
        let b : (it.plugin == 2) ≡ true = ap (λ (x : ℕ). x == 2) is in
        let d : (it.plugin == 3) ≡ false = ap (λ (x : ℕ). x == 3) is in
        rw (a, d, b) refl
    fits_of (inr (inr is)) =
        let a : (it.plugin == 0) ≡ false = ap (λ (x : ℕ). x == 0) is in
        let b : (it.plugin == 2) ≡ false = ap (λ (x : ℕ). x == 2) is in
        let d : (it.plugin == 3) ≡ false = ap (λ (x : ℕ). x == 3) is in
        let e : (it.plugin == 5) ≡ false = ap (λ (x : ℕ). x == 5) is in
        let body = g.sound in
        let short = chosen _ Tail (rw (a, b, d, e) at body) in
        let t = and_parts _ (nat_le (offset_of it.key + length it.body) 16384) short in
        let low = leb-true _ _ t.1 in
        let far : nat_le (offset_of it.key + length it.body) (2 ^ 64) ≡ true = le-leb _ _ (omega (arith, low)) in
        rw (a, d, b, e) far

pub given_sound : (it : Item) → IsGiven it → IsKey it.key → IsSoundItem it
given_sound it g key = put_sound it (record { plugin = g.plugin; sound = g.sound }) key

-- a range of the items, which may be empty
pub some_range : (lo hi : ℕ) (b : List ℕ) → MayStand lo hi b → (h : ℕ) × Lie lo h (items_of b)
some_range lo hi b stand = by_items (items_of b) refl
  where
    by_items : (xs : List Item) → xs ≡ items_of b → (h : ℕ) × Lie lo h (items_of b)
    by_items [] is = (lo, subst (λ ys. Lie lo lo ys) is (omega arith))
    by_items (x ∷ xs) is = let n = ap length is in (hi, stand_lie lo hi b stand (inr (omega (arith, n))))

-- ---- a leaf without units may stand for every range

no_items : (lo i : ℕ) (xs : List Item) → items_in_fault true (2 ^ 64) 1 lo lo i xs ≡ None → xs ≡ []
unfolding items_in_fault
no_items lo i [] h = refl
no_items lo i (x ∷ xs) h =
    let outer = or_none (item_body_fault true (2 ^ 64) x) _ h in
    let rest = or_none (if range_is_good 1 lo lo (next_key lo xs) i x then None else Some (Range i)) _ outer.1 in
    let range : range_is_good 1 lo lo (next_key lo xs) i x ≡ true = chosen _ (Range i) rest.0 in
    let a = and_parts _ _ range in
    let b = and_parts _ (nat_le (item_end x) (next_key lo xs)) a.0 in
    let c = and_parts _ (nat_le (item_end x) lo) b.0 in
    let d = and_parts _ (offsets_fit x) c.0 in
    let e = and_parts (nat_le lo (rank x.key)) (nat_lt (rank x.key) lo) d.0 in
    let low = leb-true _ _ e.0 in
    let high = ltb-true _ _ e.1 in
    absurd (omega (arith, low, high))

any_range : (lo hi : ℕ) (b : List ℕ) → MayStand lo lo b → MayStand lo hi b
unfolding cell_fault items_in_fault
any_range lo hi b stand =
    let p = parts lo lo b stand in
    let none : items_of b ≡ [] = no_items lo 0 (items_of b) p.2 in
    let node = p.0 in
    let level : (level_of b == 1) ≡ true = ap (λ l. l == 1) p.1 in
    let good : items_in_fault true (2 ^ 64) 1 lo hi 0 (items_of b) ≡ None = ap (items_in_fault true (2 ^ 64) 1 lo hi 0) none in
    (stand.0, rw (node, level) good)

no_units : units_in [] ≡ []
unfolding units_in
no_units = refl

alone_anywhere : (lo hi : ℕ) (us : List LeafUnit) (leaves : List Leaf) → us ≡ [] → Packs lo lo us leaves → Packs lo hi us leaves
alone_anywhere lo hi us [] none p = p
alone_anywhere lo hi us (x ∷ []) none p = record { from = p.from; stands = any_range lo hi x.block p.stands; units = p.units; fits = p.fits; room = p.room }
alone_anywhere lo hi us (x ∷ (y ∷ more)) none p =
    let n = ap length (sym p.3 ∙ none) in
    let long = length-append p.0 (p.1 ∷ p.2) in
    absurd (omega (arith, n, long))

pub empty_packs : (lo hi from to : ℕ) (b : List ℕ) (leaves : List Leaf) → MayStand lo hi b → ((h : ℕ) → Lie lo h (items_of b) → Packs lo h (cut_units from to (units_in (items_of b))) leaves) → Packs lo hi (cut_units from to (units_in (items_of b))) leaves
empty_packs lo hi from to b leaves stand p = by_items (items_of b) refl
  where
    by_items : (xs : List Item) → xs ≡ items_of b → Packs lo hi (cut_units from to (units_in (items_of b))) leaves
    by_items (x ∷ xs) is = let n = ap length is in p hi (stand_lie lo hi b stand (inr (omega (arith, n))))
    by_items [] is =
        alone_anywhere lo hi (cut_units from to (units_in (items_of b))) leaves (ap (λ ys. cut_units from to (units_in ys)) (sym is) ∙ ap (cut_units from to) no_units)
        (p lo (subst (λ ys. Lie lo lo ys) is (omega arith)))
