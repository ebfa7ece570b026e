-- Trees of two levels for tests: a leaf with two units.
use Rattle.std.proofs.Common.{◌≡◌, inl, ℕ, ◌+◌, ◌^◌, ◌<◌, ◌≤◌, true, List, [], ◌∷◌, length, sym, ap, subst, ◌∙◌, arith}
use Rattle.std.specs.Prelude.{IsTrue, None, Some, nat_le, slice_get}
use Rattle.std.proofs.lemmas.Bool.Decides.{nat_tests}
use Rattle.std.proofs.lemmas.List.{length-append, length-map}
use Rattle.std.proofs.lemmas.Option.{same_Some}
use Rattle.r4_base.specs.Cell.{bytes_from, cell_fault, entry_unit, item_end, item_units, units_in}
use Rattle.r4_base.specs.Dir.{dir_fault, entries_of}
use Rattle.r4_base.specs.Key.{rank}
use Rattle.r4_base.specs.Node.{Item, items_of}
use Rattle.r4_cell.specs.Seen.{CellSeen, node_of}
use Rattle.r4_leaf.specs.Items.{IsSoundItem, Lie}
use Rattle.r4_leaf.proofs.Lying.{units_cons}
use Rattle.r4_leaf.proofs.SoundItems.{entries_item, tail_item}
use Rattle.r4_leaf.proofs.Standing.{stand_lie}
use Rattle.r4_path.proofs.CellNodes.{units_are}
use Rattle.r4_edit.proofs.HalvedLeaf.{lent_stands}
use Rattle.r4_leaf.proofs.LeafItems.{spread}

some_units : (x : Item) → IsSoundItem x → 1 ≤ length (item_units x)
some_units x s = let is = ap length (spread x s).units in omega (arith, is)

-- each item has a unit
many : (lo hi : ℕ) (xs : List Item) → Lie lo hi xs → length xs ≤ length (units_in xs)
many lo hi [] lie = omega arith
many lo hi (x ∷ xs) lie =
    let some = some_units x lie.1 in
    let rest = many (item_end x) hi xs lie.2 in
    let sum = ap length (units_cons x xs) in
    let both = length-append (item_units x) (units_in xs) in
    omega (arith, some, rest, sum, both)

bytes_many : (k : ℕ) (bs : List ℕ) → length (bytes_from k bs) ≡ length bs
bytes_many k [] = omega arith
bytes_many k (b ∷ bs) = let rest = bytes_many (k + 1) bs in omega (arith, rest)

tail_many : (x : Item) → IsSoundItem x → x.plugin ≡ 6 → length (item_units x) ≡ length x.body
tail_many x s is = ap length (tail_item x is s).units ∙ bytes_many (rank x.key) x.body

entries_many : (x : Item) → IsSoundItem x → x.plugin ≡ 2 → length (item_units x) ≡ length (entries_of x.key x.body)
entries_many x s is = ap length (entries_item x is s).units ∙ length-map (entries_of x.key x.body) entry_unit

sound_first : (lo hi : ℕ) (xs : List Item) (x : Item) → Lie lo hi xs → slice_get xs 0 ≡ Some x → IsSoundItem x
sound_first lo hi [] x lie at = absurd cc
sound_first lo hi (y ∷ ys) x lie at = subst IsSoundItem (same_Some y x at) lie.1

first_many : (xs : List Item) (x : Item) → slice_get xs 0 ≡ Some x → length (item_units x) ≤ length (units_in xs)
first_many [] x at = absurd cc
first_many (y ∷ ys) x at =
    let same = ap (λ (it : Item). length (item_units it)) (same_Some y x at) in
    let sum = ap length (units_cons y ys) in
    let both = length-append (item_units y) (units_in ys) in
    omega (arith, same, sum, both)

module _ (c p : CellSeen) (items : List Item) (is : p ≡ c) (level : c.level ≡ 1) (range : rank c.lo < rank c.hi)
    (whole : length p.block ≡ 4096) (accepted : cell_fault true (2 ^ 64) p.level (rank p.lo) (rank p.hi) p.block ≡ None)
    (items_are : items ≡ items_of p.block) where
  all_items : items ≡ items_of c.block
  all_items = items_are ∙ ap (λ (x : CellSeen). items_of x.block) is

  lie : Lie (rank c.lo) (rank c.hi) items
  lie = subst (Lie (rank c.lo) (rank c.hi)) (sym all_items)
      (stand_lie (rank c.lo) (rank c.hi) c.block (lent_stands c p is level whole accepted) (inl (omega (arith, range))))

  units : length (units_in items) ≡ length (node_of c).units
  units = ap length (ap units_in all_items ∙ sym (units_are c 0 level))

  pub by_items : 2 ≤ length items → 2 ≤ length (node_of c).units
  by_items two = let m = many (rank c.lo) (rank c.hi) items lie in let u = units in omega (arith, two, m, u)

  module _ (x : Item) (at : slice_get items 0 ≡ Some x) where
    sound : IsSoundItem x
    sound = sound_first (rank c.lo) (rank c.hi) items x lie at

    by_first : 2 ≤ length (item_units x) → 2 ≤ length (node_of c).units
    by_first two = let m = first_many items x at in let u = units in omega (arith, m, u, two)

    pub by_tail : x.plugin ≡ 6 → 2 ≤ length x.body → 2 ≤ length (node_of c).units
    by_tail tail two = let m = tail_many x sound tail in by_first (omega (arith, m, two))

    pub by_entries : x.plugin ≡ 2 → 2 ≤ length (entries_of x.key x.body) → 2 ≤ length (node_of c).units
    by_entries of_entries two = let m = entries_many x sound of_entries in by_first (omega (arith, m, two))

    pub no_dir_fault : x.plugin ≡ 2 → dir_fault x.key x.body ≡ None
    no_dir_fault of_entries = (entries_item x of_entries sound).body

pub at_least : (n : ℕ) → IsTrue (nat_le 2 n) → 2 ≤ n
at_least n h = grind (arith, nat_tests, h)
