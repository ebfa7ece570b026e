-- What a command asks of a tree is a budget for its edits.
use Rattle.std.proofs.Common.{◌≡◌, ◌≢◌, inl, inr, ℕ, suc, ◌+◌, ◌-◌, ◌*◌, ◌/◌, ◌<◌, ◌≤◌, Bool, true, false, List, [], ◌∷◌, ◌++◌, length, refl, ap, sym, ◌∙◌, arith}
use Rattle.std.specs.Prelude.{Option, None, Some, ◌==◌, ◌&&◌, ◌||◌, if◌then◌else◌, min, nat_lt, not, sum_by}
use Rattle.std.proofs.lemmas.Bool.{cases_lt, eqb-true}
use Rattle.std.proofs.lemmas.List.Sums.{sum_by-cons}
use Rattle.r4_base.specs.Cell.{block_names, item_names, names_in, next_key, pointer_names}
use Rattle.r4_base.specs.Extents.{pointer_of, units_of}
use Rattle.r4_base.specs.Key.{rank}
use Rattle.r4_base.specs.Node.{Item, items_of}
use Rattle.r4_base.specs.Tree.{Name, Node, Root, Store}
use Rattle.r4_base.specs.Value.{Value}
use Rattle.r4_reach.specs.r4_patch.Part.{IsPart}
use Rattle.r4_content.specs.Edited.{Edits, Intervals}
use Rattle.r4_reach.specs.r4_path.Nodes.{weight}
use Rattle.r4_reach.proofs.r4_path.CellNodes.{names_are}
use Rattle.r4_reach.proofs.r4_path.Rising.{level_is}
use Rattle.r4_reach.specs.Demand.{Demand, ask, ask_of, heard, heard_one}
use Rattle.r4_content.specs.Bodies.{larger}
use Rattle.r4_reach.specs.Needs.{Ask, all_gone, all_more, cell_asks, changes_pieces, come_of, demand_of, growing, is_touched}
use Rattle.r4_reach.specs.Needs.{leaf_asks, meets, moves, node_asks, node_need, over, pieces_after, twig_asks, twig_more}
use Rattle.r4_reach.specs.Touched.{Body}
use Rattle.r4_reach.proofs.Enough.{asks_some, node_needs, over_some, twig_needs}
use Rattle.r4_measure.specs.Budget.{AreSeen, Bears, Budget, IsBudget, below, grows, of_item, of_target}
use Rattle.r4_reach.specs.Leaves.{more_of}
use Rattle.r4_measure.specs.Asked.{asked_of}
use Rattle.r4_measure.specs.Begin.{IsQuiet}
use Rattle.r4_measure.proofs.Kept.{block_is}

-- ---- what pointers hear is what names hear

-- a number of each that asks, which is a function of how many it asks for
module _ (m : Ask → ℕ) (g : ℕ → ℕ) (none_is : g 0 ≡ 0) (same : (a : Ask) → g a.more ≡ m a) (f : Node Value → Option Ask) (t : Store Value) where
  all_of : List (Name × Ask) → ℕ
  all_of hs = sum_by (λ (h : Name × Ask). m h.1) hs

  one_more : (n : Name) (o : Option Ask) (rest : List (Name × Ask)) → all_of (heard_one n o rest) ≡ g (more_of o) + all_of rest
  unfolding all_of
  one_more n None rest = omega (arith, none_is)
  one_more n (Some a) rest =
      let e = sum_by-cons (λ (h : Name × Ask). m h.1) (n, a) rest in
      let s = same a in
      omega (arith, e, s)

  first_more : (n : Name) (ns : List Name) → n.level ≢ 0 → all_of (heard f t (n ∷ ns)) ≡ g (more_of (ask_of f (t n.id))) + all_of (heard f t ns)
  first_more n ns up = by_level (n.level == 0) refl
    where
      by_level : (v : Bool) → (n.level == 0) ≡ v → all_of (if v then heard f t ns else heard_one n (ask_of f (t n.id)) (heard f t ns)) ≡ g (more_of (ask_of f (t n.id))) + all_of (heard f t ns)
      by_level true h = absurd (up (eqb-true n.level 0 h))
      by_level false h = one_more n (ask_of f (t n.id)) (heard f t ns)

  any_more : (n : Name) (ns : List Name) → all_of (heard f t ns) ≤ all_of (heard f t (n ∷ ns))
  any_more n ns = by_level (n.level == 0)
    where
      by_level : (v : Bool) → all_of (heard f t ns) ≤ all_of (if v then heard f t ns else heard_one n (ask_of f (t n.id)) (heard f t ns))
      by_level true = omega arith
      by_level false = let h = one_more n (ask_of f (t n.id)) (heard f t ns) in omega (arith, h)

  more_behind : (ms ns : List Name) → all_of (heard f t ns) ≤ all_of (heard f t (ms ++ ns))
  more_behind [] ns = omega arith
  more_behind (k ∷ ks) ns = let h = more_behind ks ns in let a = any_more k (ks ++ ns) in omega (arith, h, a)

  item_more : (l next : ℕ) (it : Item) (ns : List Name) → 1 ≤ l → g (of_item (λ i. more_of (ask_of f (t i))) it) + all_of (heard f t ns) ≤ all_of (heard f t (item_names (suc l) next it ++ ns))
  unfolding item_names
  item_more l next it ns low = by_plugin (it.plugin == 3) (pointer_of it.body)
    where
      by_plugin : (v : Bool) (o : Option ℕ) → g (if v then of_target (λ i. more_of (ask_of f (t i))) o else 0) + all_of (heard f t ns)
          ≤ all_of (heard f t ((if v then pointer_names (suc l) (rank it.key) next o else (if it.plugin == 5 then block_names (rank it.key) (units_of it.body) else [])) ++ ns))
      by_plugin false o = let h = more_behind (if it.plugin == 5 then block_names (rank it.key) (units_of it.body) else []) ns in omega (arith, h, none_is)
      by_plugin true None = omega (arith, none_is)
      by_plugin true (Some k) =
          let n : Name = record { id = k; level = suc l - 1; lo = rank it.key; hi = next } in
          let h = first_more n ns (λ z. absurd (omega (arith, z, low))) in omega (arith, h)

  items_more : (l hi : ℕ) (items : List Item) → 1 ≤ l → sum_by (λ (it : Item). g (of_item (λ i. more_of (ask_of f (t i))) it)) items ≤ all_of (heard f t (names_in (suc l) hi items))
  unfolding names_in
  items_more l hi [] low = omega arith
  items_more l hi (x ∷ xs) low =
      let a = sum_by-cons (λ (it : Item). g (of_item (λ i. more_of (ask_of f (t i))) it)) x xs in
      let h = items_more l hi xs low in
      let i = item_more l (next_key hi xs) x (names_in (suc l) hi xs) low in
      omega (arith, a, h, i)

one_if : (a : Ask) → min 1 a.more ≡ (if nat_lt 0 a.more then 1 else 0)
one_if a = by_test (nat_lt 0 a.more) refl
  where
    by_test : (v : Bool) → nat_lt 0 a.more ≡ v → min 1 a.more ≡ (if v then 1 else 0)
    by_test true h = let some : 1 ≤ a.more = grind (arith, h) in omega (arith, some)
    by_test false h = let none : a.more ≤ 0 = grind (arith, h) in omega (arith, none)

module _ (f : Node Value → Option Ask) (t : Store Value) (l hi : ℕ) (items : List Item) (low : 1 ≤ l) where
  below_heard : below (λ i. more_of (ask_of f (t i))) items ≤ all_more (heard f t (names_in (suc l) hi items))
  unfolding all_of
  below_heard = items_more (λ a. a.more) (λ n. n) refl (λ a. refl) f t l hi items low

  grows_heard : grows (λ i. more_of (ask_of f (t i))) items ≤ growing (heard f t (names_in (suc l) hi items))
  unfolding all_of
  grows_heard = items_more (λ a. if nat_lt 0 a.more then 1 else 0) (λ n. min 1 n) refl one_if f t l hi items low

-- ---- what a cell asks for that hears too much

larger_least : (n m : ℕ) → (n ≤ larger n m) × (m ≤ larger n m)
larger_least n m = by_test (nat_lt n m) refl
  where
    by_test : (v : Bool) → nat_lt n m ≡ v → (n ≤ (if v then m else n)) × (m ≤ (if v then m else n))
    by_test true h = (let less : n < m = grind (arith, h) in omega (arith, less), omega arith)
    by_test false h = (omega arith, let less : m ≤ n = grind (arith, h) in less)

full_more : (n m : ℕ) → 4068 < n → (if nat_lt 4068 n then larger (over n) m else 0) ≡ larger (over n) m
full_more n m h = by_test (nat_lt 4068 n) refl
  where
    by_test : (v : Bool) → nat_lt 4068 n ≡ v → (if v then larger (over n) m else 0) ≡ larger (over n) m
    by_test true g = refl
    by_test false g = absurd (grind (arith, g, h))

module _ (b : Option Body) (e : Edits) (reads rs : Intervals) (quiet : come_of b ≡ (0, 0)) (c : Node Value) (x : Name × Ask) (xs : List (Name × Ask)) (still : c.level ≡ 2 → changes_pieces b e c ≡ false) (big : 4068 < weight (items_of c.block) + 46 * all_more (x ∷ xs)) where
  Asks : Option Ask → Type 0
  Asks o = (a : Ask) × (o ≡ Some a) × (over (weight (items_of c.block) + 46 * all_more (x ∷ xs)) ≤ a.more)
      × (c.level ≡ 2 → growing (x ∷ xs) ≤ a.more)

  twig : c.level ≡ 2 → Asks (twig_asks b e c (x ∷ xs))
  unfolding Asks
  twig two =
      let a : Ask = record {
        more = twig_more b e c (x ∷ xs);
        gone = meets c.lo c.hi (come_of b) && (length (pieces_after b e c (x ∷ xs)) == 0);
      } in
      let n : ℕ = weight (items_of c.block) + 46 * all_more (x ∷ xs) in
      let same : a.more ≡ larger (over n) (growing (x ∷ xs)) =
      ap (λ k. if nat_lt 4068 k then larger (over k) (growing (x ∷ xs)) else 0) (twig_needs b e reads rs quiet c (x ∷ xs) (still two))
      ∙ full_more n (growing (x ∷ xs)) big in
      let (own, each) = larger_least (over n) (growing (x ∷ xs)) in
      let some = over_some n big in
      (a, asks_some (moves (come_of b) c) a (omega (arith, same, own, some)), omega (arith, same, own), λ at. omega (arith, same, each))

  node : c.level ≢ 2 → Asks (node_asks b c (x ∷ xs))
  unfolding Asks
  node no_twig =
      let a : Ask = record {
        more = over (node_need b c (x ∷ xs));
        gone = meets c.lo c.hi (come_of b) && (length c.names == all_gone (x ∷ xs));
      } in
      let n : ℕ = weight (items_of c.block) + 46 * all_more (x ∷ xs) in
      let same : a.more ≡ over n = ap over (node_needs b e reads rs quiet c (x ∷ xs)) in
      let some = over_some n big in
      (a, asks_some (moves (come_of b) c) a (omega (arith, same, some)), omega (arith, same), λ two. absurd (no_twig two))

  asks_over : 2 ≤ c.level → Asks (cell_asks b e rs c (x ∷ xs))
  unfolding Asks
  asks_over high = by_touch (is_touched rs c)
    where
      by_twig : (v : Bool) → (c.level == 2) ≡ v → Asks (if v then twig_asks b e c (x ∷ xs) else node_asks b c (x ∷ xs))
      by_twig true g = twig (eqb-true c.level 2 g)
      by_twig false g = node (λ two. absurd (grind (arith, g, two)))

      by_leaf : (v : Bool) → (c.level == 1) ≡ v
          → Asks (if v then leaf_asks b e c else (if c.level == 2 then twig_asks b e c (x ∷ xs) else node_asks b c (x ∷ xs)))
      by_leaf true g = absurd (grind (arith, g, high))
      by_leaf false g = by_twig (c.level == 2) refl

      by_touch : (v : Bool) → Asks (if v || not (length (x ∷ xs) == 0) then (if c.level == 1 then leaf_asks b e c else (if c.level == 2 then twig_asks b e c (x ∷ xs) else node_asks b c (x ∷ xs))) else None)
      by_touch v = by_some (v || not (length (x ∷ xs) == 0)) (some v)
        where
          some : (v : Bool) → (v || not (length (x ∷ xs) == 0)) ≡ true
          some true = refl
          some false = grind arith

          by_some : (w : Bool) → w ≡ true → Asks (if w then (if c.level == 1 then leaf_asks b e c else (if c.level == 2 then twig_asks b e c (x ∷ xs) else node_asks b c (x ∷ xs))) else None)
          by_some true h = by_leaf (c.level == 1) refl
          by_some false h = absurd cc

-- ---- so many are asked for

pub over_enough : (n : ℕ) → 4068 < n → n ≤ 4068 + 1024 * over n
over_enough n h = by_test (nat_lt 4068 n) refl
  where
    by_test : (v : Bool) → nat_lt 4068 n ≡ v → n ≤ 4068 + 1024 * (if v then 1 + (n - 4068 + 1023) / 1024 else 0)
    by_test true g = omega (arith, h)
    by_test false g = absurd (grind (arith, g, h))

pub some_asked : (o : Option Ask) → 1 ≤ more_of o → (a : Ask) × (o ≡ Some a)
some_asked None h = absurd (omega (arith, h))
some_asked (Some a) h = (a, refl)

pub own_of : (d : Demand Ask) (t : Store Value) (i l : ℕ) (c : Node Value) → t i ≡ Some c → asked_of d t l i ≡ more_of (ask d t l c)
own_of d t i l c at = ap (λ o. more_of (ask_of (ask d t l) o)) at

-- ---- what comes below a node is what it hears

module _ (d : Demand Ask) (t : Store Value) (seen : AreSeen t) (i l : ℕ) (c : Node Value) (at : t i ≡ Some c) (up : c.level ≡ suc l) (pos : 1 ≤ l) where
  level_of : (seen i c at).0.level ≡ suc l
  level_of = let (x, same) = seen i c at in sym (level_is x) ∙ (ap (λ (y : Node Value). y.level) (sym same) ∙ up)

  names_of : c.names ≡ names_in (suc l) (rank (seen i c at).0.hi) (items_of (seen i c at).0.block)
  names_of = let (x, same) = seen i c at in ap (λ (y : Node Value). y.names) same ∙ names_are x l level_of

  block_of : c.block ≡ (seen i c at).0.block
  block_of = let (x, same) = seen i c at in ap (λ (y : Node Value). y.block) same ∙ block_is x

  pub below_is : below (asked_of d t l) (items_of c.block) ≤ all_more (heard (ask d t l) t c.names)
  below_is =
      let x = (seen i c at).0 in
      let h = below_heard (ask d t l) t l (rank x.hi) (items_of x.block) pos in
      let p = ap (λ (bytes : List ℕ). below (asked_of d t l) (items_of bytes)) block_of in
      let q = ap (λ ns. all_more (heard (ask d t l) t ns)) names_of in
      omega (arith, h, p, q)

  pub grows_is : grows (asked_of d t l) (items_of c.block) ≤ growing (heard (ask d t l) t c.names)
  grows_is =
      let x = (seen i c at).0 in
      let h = grows_heard (ask d t l) t l (rank x.hi) (items_of x.block) pos in
      let p = ap (λ (bytes : List ℕ). grows (asked_of d t l) (items_of bytes)) block_of in
      let q = ap (λ ns. growing (heard (ask d t l) t ns)) names_of in
      omega (arith, h, p, q)

module _ (bd : Option Body) (e : Edits) (reads rs : Intervals) (t : Store Value) (root : Root) (it : IsPart t root) (is : IsQuiet bd e reads rs t root) where
  abbrev d : Demand Ask
  d = demand_of bd e reads rs

  abbrev b : Budget
  b = asked_of d t

  own_is : (i l : ℕ) (c : Node Value) → t i ≡ Some c → b l i ≡ more_of (ask d t l c)
  own_is i l c at = ap (λ o. more_of (ask_of (ask d t l) o)) at

  module _ (i l : ℕ) (c : Node Value) (at : t i ≡ Some c) (up : c.level ≡ suc l) (pos : 1 ≤ l) where
    bears_of : (hs : List (Name × Ask)) → heard (ask d t l) t c.names ≡ hs → Bears (b l) (b (suc l)) (suc l) (items_of c.block) i
    unfolding Asks
    bears_of [] none =
        let z = ap all_more none in
        let h = below_is d t is.seen i l c at up pos in
        inr (inl (omega (arith, h, z)))
    bears_of (x ∷ xs) some =
        let h = below_is d t is.seen i l c at up pos in
        let k = grows_is d t is.seen i l c at up pos in
        let same = ap all_more some in
        let alike = ap growing some in
        elim (cases_lt 4068 (weight (items_of c.block) + 46 * all_more (x ∷ xs))) [
          | inr fits ↦ inl (omega (arith, h, same, fits))
          | inl full ↦
              let (a, asks, more, each) = asks_over bd e reads rs is.quiet c x xs (is.still i c at) full (omega (arith, up, pos)) in
              let own : b (suc l) i ≡ a.more = own_is i (suc l) c at ∙ (ap (λ ys. more_of (cell_asks bd e rs c ys)) some ∙ ap more_of asks) in
              let many = over_enough (weight (items_of c.block) + 46 * all_more (x ∷ xs)) full in
              elim (cases_lt 1 l) [
                | inl above ↦ inr (inr (inr (omega (arith, above), omega (arith, h, same, own, many, more))))
                | inr twig ↦
                    let one : l ≡ 1 = omega (arith, twig, pos) in
                    let g = each (omega (arith, up, one)) in
                    inr (inr (inl (omega (arith, one), omega (arith, k, alike, g, own))))
              ]
        ]

  pub asked_budget : IsBudget t root (asked_of (demand_of bd e reads rs) t)
  asked_budget = record {
    bears = λ i c l at up pos. bears_of i l c at up pos (heard (ask d t l) t c.names) refl;
    small = is.small;
    root = λ some.
        let own = own_is root.id root.height it.root_node it.root_is in
        let (a, asks) = some_asked (ask d t root.height it.root_node) (omega (arith, some, own)) in
        is.low a (it.root_node, it.root_is, asks);
  }
