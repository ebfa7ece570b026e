-- What nodes above the twigs ask for.
use Rattle.std.specs.Prelude.{◌≡◌, ℕ, suc, ◌+◌, ◌-◌, ◌*◌, ◌/◌, ◌≤◌, ◌^◌, ◌==◌, List, [], ◌∷◌, length}
use Rattle.std.specs.Prelude.{Bool, true, false, ◌&&◌, nat_lt, slice_get, if◌then◌else◌, IfSome, Option, None, Some}
use Rattle.std.proofs.Common.{arith, refl, sym, ap, ◌∙◌, length-append}
use Rattle.std.proofs.lemmas.Bool.{eq-eqb}
use Rattle.std.proofs.lemmas.Bool.Decides.{nat_tests}
use Rattle.r4_base.specs.Cell.{cell_fault, item_body_fault, item_names, names_in, next_key}
use Rattle.r4_base.specs.Extents.{pointer_of}
use Rattle.r4_base.specs.Key.{rank}
use Rattle.r4_base.specs.Node.{Item, PluginsFit, fits_level, items_of}
use Rattle.r4_base.specs.Tree.{Name}
use Rattle.r4_units.specs.r4_cell.Seen.{CellSeen, node_of}
use Rattle.r4_units.proofs.r4_cell.NodesAt.{node_at, plugins_at}
use Rattle.r4_twig_asks.proofs.r4_leaf_demands.Weighed.{IsLittle, block_is}
use Rattle.r4_twig_asks.specs.r4_marking.Marks.{most_for}
use Rattle.r4_twig_asks.specs.r4_marking.declared.demands.Asking.{Asking}
use Rattle.r4_twig_asks.specs.r4_path.Nodes.{weight}
use Rattle.r4_twig_asks.proofs.r4_path.Rising.{hi_is, lo_is}
use Rattle.r4_twig_asks.specs.r4_reach.Needs.{Ask, all_gone, all_more, asking, come_of, meets, moves, node_asks, node_need, over}
use Rattle.r4_twig_asks.specs.r4_reach.Touched.{Body}
use Rattle.r4_units.proofs.Leaves.{body_of}
use Rattle.r4_extent_asks.proofs.Named.{names_of}

-- ---- each item of a node names one

pointer_at : (level next : ℕ) (it : Item) → it.plugin ≡ 3 → item_body_fault true (2 ^ 64) it ≡ None
    → (o : Option ℕ) → pointer_of it.body ≡ o → length (item_names level next it) ≡ 1
unfolding item_body_fault item_names
pointer_at level next it is good (Some to) e = let t : (it.plugin == 3) ≡ true = eq-eqb it.plugin 3 is in rw (t, e) refl
pointer_at level next it is good None e =
    let a : (it.plugin == 0) ≡ false = ap (λ (x : ℕ). x == 0) is in
    let b : (it.plugin == 2) ≡ false = ap (λ (x : ℕ). x == 2) is in
    let d : (it.plugin == 3) ≡ true = ap (λ (x : ℕ). x == 3) is in
    let h = rw (a, b, d, e) at good in
    absurd cc

pointer_one : (level next : ℕ) (it : Item) → it.plugin ≡ 3 → item_body_fault true (2 ^ 64) it ≡ None
    → length (item_names level next it) ≡ 1
pointer_one level next it is good = pointer_at level next it is good (pointer_of it.body) refl

abbrev AreGood : List Item → Type 0
AreGood items = (k : ℕ) (it : Item) → slice_get items k ≡ Some it
    → (it.plugin ≡ 3) × (item_body_fault true (2 ^ 64) it ≡ None)

names_count : (level hi : ℕ) (items : List Item) → AreGood items → length (names_in level hi items) ≡ length items
unfolding names_in
names_count level hi [] good = refl
names_count level hi (it ∷ items) good =
    let first = good 0 it refl in
    let one = pointer_one level (next_key hi items) it first.0 first.1 in
    let rest = names_count level hi items (λ k x is. good (suc k) x is) in
    let both = length-append (item_names level (next_key hi items) it) (names_in level hi items) in
    omega (arith, one, rest, both)

pub as_many : (x : CellSeen) → 3 ≤ x.level → length x.block ≡ 4096
    → cell_fault true (2 ^ 64) x.level (rank x.lo) (rank x.hi) x.block ≡ None
    → length (node_of x).names ≡ length (items_of x.block)
as_many x three whole stands =
    ap length (names_of x (omega (arith, three)))
    ∙ names_count x.level (rank x.hi) (items_of x.block) (λ k it is.
    (pointer (it.plugin) (fits k it is), body_of x k it (omega (arith, three)) stands is))
  where
    fits : PluginsFit x.level (items_of x.block)
    fits = plugins_at true (2 ^ 64) x.level (rank x.lo) (rank x.hi) x.block whole
        (node_at true (2 ^ 64) x.level (rank x.lo) (rank x.hi) x.block (omega (arith, three)) stands)

    pointer : (p : ℕ) → fits_level x.level p ≡ true → p ≡ 3
    pointer p h = grind (arith, nat_tests, h, three)

-- ---- what it needs

module _ (b : Option Body) (x : CellSeen) (hs : List (Name × Ask)) where
  meets_at : meets (node_of x).lo (node_of x).hi (come_of b) ≡ meets (rank x.lo) (rank x.hi) (come_of b)
  meets_at = (λ i. meets (lo_is x i) (hi_is x i) (come_of b))

  pub need_is : (comes : Bool) → comes ≡ meets (rank x.lo) (rank x.hi) (come_of b) → node_need b (node_of x) hs
      ≡ weight (items_of x.block) + 46 * all_more hs - 46 * (if comes then all_gone hs else 0)
  need_is comes is =
      (λ i. weight (items_of (block_is x i)) + 46 * all_more hs
      - 46 * (if (meets_at ∙ sym is) i then all_gone hs else 0))

  pub asks_are : (always comes all : Bool) (more : ℕ) → always ≡ moves (come_of b) (node_of x)
      → comes ≡ meets (rank x.lo) (rank x.hi) (come_of b) → more ≡ over (node_need b (node_of x) hs)
      → all ≡ (length (node_of x).names == all_gone hs)
      → asking always (record { more = more; gone = comes && all }) ≡ node_asks b (node_of x) hs
  asks_are always comes all more a c m g =
      (λ i. asking (a i) (record { more = m i; gone = (c ∙ sym meets_at) i && g i }))

-- ---- it is little

over_most : (n : ℕ) → over n ≤ 1 + (n - 4068 + 1023) / 1024
over_most n = by_test (nat_lt 4068 n)
  where
    by_test : (t : Bool) → (if t then 1 + (n - 4068 + 1023) / 1024 else 0) ≤ 1 + (n - 4068 + 1023) / 1024
    by_test true = omega arith
    by_test false = omega arith

pub over_less : (level more bytes less n : ℕ) → IsLittle level more → bytes ≤ 4068
    → n ≡ over (bytes + 46 * more - less) → n ≤ most_for (level + 1)
over_less level more bytes less n h fits is =
    let most = over_most (bytes + 46 * more - less) in
    let all = h.all in
    let some = h.some in
    let next = h.next in
    omega (arith, is, most, all, some, next, fits)

pub some_few : (o : Option Asking) (n most : ℕ) → n ≤ most → IfSome o (λ a. a.more ≡ n) → IfSome o (λ a. a.more ≤ most)
some_few None n most le is = tt
some_few (Some a) n most le is = omega (arith, le, is)

pub at_most : (t : Bool) (n : ℕ) → (if t then n else 0) ≤ n
at_most true n = omega arith
at_most false n = omega arith
