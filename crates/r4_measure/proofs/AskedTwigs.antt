-- What is asked of twigs and of what stands above them is a budget.
use Rattle.std.proofs.Common.{◌≡◌, inl, inr, ℕ, suc, ◌+◌, ◌*◌, ◌<◌, ◌≤◌, Bool, true, false, List, [], ◌∷◌, length, refl, ap, sym, subst, ◌∙◌, arith}
use Rattle.std.specs.Prelude.{Option, None, Some, ◌==◌, ◌&&◌, ◌||◌, if◌then◌else◌, nat_le, not}
use Rattle.std.proofs.lemmas.Bool.{cases_lt, eqb-true}
use Rattle.std.proofs.lemmas.List.Sums.{sum_by-cons}
use Rattle.r4_base.specs.Node.{items_of}
use Rattle.r4_base.specs.Tree.{Name, Node, Root, Store}
use Rattle.r4_base.specs.Value.{Value}
use Rattle.r4_content.specs.Edited.{Edits, Intervals}
use Rattle.r4_reach.specs.r4_patch.Part.{IsPart}
use Rattle.r4_reach.specs.r4_path.Nodes.{weight}
use Rattle.r4_reach.proofs.Enough.{asks_some, over_some}
use Rattle.r4_reach.specs.Demand.{Demand, ask, ask_of, heard, heard_one}
use Rattle.r4_reach.specs.Leaves.{more_of}
use Rattle.r4_reach.specs.Needs.{Ask, all_gone, all_more, cell_asks, come_of, demand_of, is_touched, leaf_asks, meets, moves}
use Rattle.r4_reach.specs.Needs.{node_asks, node_need, over, pointers_gone, twig_asks}
use Rattle.r4_reach.specs.Touched.{Body}
use Rattle.r4_measure.specs.Asked.{AsksAbove, asked_above, asked_of}
use Rattle.r4_measure.specs.Budget.{Bears, Budget, IsBudget, below}
use Rattle.r4_measure.proofs.Asked.{below_is, over_enough, own_of, some_asked}
use Rattle.r4_measure.proofs.Grafted.{none_below}

-- ---- a budget from the twigs up

pub low_none : (d : Demand Ask) (t : Store Value) (l i : ℕ) → l ≤ 1 → asked_above d t l i ≡ 0
low_none d t l i low = by (nat_le l 1) refl
  where
    by : (v : Bool) → nat_le l 1 ≡ v → (if v then 0 else asked_of d t l i) ≡ 0
    by true h = refl
    by false h = absurd (grind (arith, h, low))

high_same : (d : Demand Ask) (t : Store Value) (l i : ℕ) → 2 ≤ l → asked_above d t l i ≡ asked_of d t l i
high_same d t l i high = by (nat_le l 1) refl
  where
    by : (v : Bool) → nat_le l 1 ≡ v → (if v then 0 else asked_of d t l i) ≡ asked_of d t l i
    by true h = absurd (grind (arith, h, high))
    by false h = refl

-- ---- none of them goes

module _ (d : Demand Ask) (t : Store Value) (l : ℕ) (stay : (i : ℕ) (c : Node Value) (a : Ask) → t i ≡ Some c → ask d t l c ≡ Some a → a.gone ≡ false) where
  none_gone : (ns : List Name) → all_gone (heard (ask d t l) t ns) ≡ 0
  none_gone [] = refl
  none_gone (n ∷ ns) = by_level (none_gone ns) (n.level == 0)
    where
      one : all_gone (heard (ask d t l) t ns) ≡ 0 → (o : Option Ask) → ((a : Ask) → o ≡ Some a → a.gone ≡ false) → all_gone (heard_one n o (heard (ask d t l) t ns)) ≡ 0
      one rest None h = rest
      one rest (Some a) h =
          let e = sum_by-cons (λ (x : Name × Ask). if x.1.gone then 1 else 0) (n, a) (heard (ask d t l) t ns) in
          let z = ap {B = ℕ} (λ (v : Bool). if v then 1 else 0) (h a refl) in
          omega (arith, e, z, rest)

      asked : (o : Option (Node Value)) → t n.id ≡ o → (a : Ask) → ask_of (ask d t l) o ≡ Some a → a.gone ≡ false
      asked None at a is = absurd cc
      asked (Some c) at a is = stay n.id c a at is

      by_level : all_gone (heard (ask d t l) t ns) ≡ 0 → (v : Bool) → all_gone (if v then heard (ask d t l) t ns else heard_one n (ask_of (ask d t l) (t n.id)) (heard (ask d t l) t ns)) ≡ 0
      by_level rest true = rest
      by_level rest false = one rest (ask_of (ask d t l) (t n.id)) (asked (t n.id) refl)

-- ---- a node above the twigs that hears too much

module _ (b : Option Body) (e : Edits) (rs : Intervals) (c : Node Value) (x : Name × Ask) (xs : List (Name × Ask)) (none : all_gone (x ∷ xs) ≡ 0) (high : 3 ≤ c.level) (big : 4068 < weight (items_of c.block) + 46 * all_more (x ∷ xs)) where
  abbrev n : ℕ
  n = weight (items_of c.block) + 46 * all_more (x ∷ xs)

  Asks : Option Ask → Type 0
  Asks o = (a : Ask) × (o ≡ Some a) × (a.more ≡ over n)

  no_pointers : pointers_gone (come_of b) c (x ∷ xs) ≡ 0
  no_pointers = by (meets c.lo c.hi (come_of b))
    where
      by : (v : Bool) → (if v then all_gone (x ∷ xs) else 0) ≡ 0
      by true = none
      by false = refl

  needs : node_need b c (x ∷ xs) ≡ n
  needs = let p = no_pointers in omega (arith, p)

  node : Asks (node_asks b c (x ∷ xs))
  unfolding Asks
  node =
      let a : Ask = record {
        more = over (node_need b c (x ∷ xs));
        gone = meets c.lo c.hi (come_of b) && (length c.names == all_gone (x ∷ xs));
      } in
      let same : a.more ≡ over n = ap over needs in
      let some = over_some n big in
      (a, asks_some (moves (come_of b) c) a (omega (arith, same, some)), same)

  node_above : Asks (cell_asks b e rs c (x ∷ xs))
  unfolding Asks
  node_above = by_touch (is_touched rs c)
    where
      by_twig : (v : Bool) → (c.level == 2) ≡ v → Asks (if v then twig_asks b e c (x ∷ xs) else node_asks b c (x ∷ xs))
      by_twig true g = absurd (let two = eqb-true c.level 2 g in omega (arith, two, high))
      by_twig false g = node

      by_leaf : (v : Bool) → (c.level == 1) ≡ v
          → Asks (if v then leaf_asks b e c else (if c.level == 2 then twig_asks b e c (x ∷ xs) else node_asks b c (x ∷ xs)))
      by_leaf true g = absurd (let one = eqb-true c.level 1 g in omega (arith, one, high))
      by_leaf false g = by_twig (c.level == 2) refl

      by_touch : (v : Bool) → Asks (if v || not (length (x ∷ xs) == 0) then (if c.level == 1 then leaf_asks b e c else (if c.level == 2 then twig_asks b e c (x ∷ xs) else node_asks b c (x ∷ xs))) else None)
      by_touch v = by_some (v || not (length (x ∷ xs) == 0)) (some v)
        where
          some : (v : Bool) → (v || not (length (x ∷ xs) == 0)) ≡ true
          some true = refl
          some false = grind arith

          by_some : (w : Bool) → w ≡ true → Asks (if w then (if c.level == 1 then leaf_asks b e c else (if c.level == 2 then twig_asks b e c (x ∷ xs) else node_asks b c (x ∷ xs))) else None)
          by_some true h = by_leaf (c.level == 1) refl
          by_some false h = absurd cc

-- ---- all of it

module _ (bd : Option Body) (e : Edits) (reads rs : Intervals) (t : Store Value) (root : Root) (it : IsPart t root) (is : AsksAbove (demand_of bd e reads rs) t root) where
  abbrev d : Demand Ask
  d = demand_of bd e reads rs

  abbrev b : Budget
  b = asked_above d t

  module _ (i l : ℕ) (c : Node Value) (at : t i ≡ Some c) (up : c.level ≡ suc l) (pos : 2 ≤ l) where
    same_below : b l ≡ asked_of d t l
    same_below j k = high_same d t l k pos j

    below_less : below (b l) (items_of c.block) ≤ all_more (heard (ask d t l) t c.names)
    below_less =
        let h = below_is d t is.seen i l c at up (omega (arith, pos)) in
        subst (λ g. below g (items_of c.block) ≤ all_more (heard (ask d t l) t c.names)) (sym same_below) h

    own_is : b (suc l) i ≡ more_of (ask d t (suc l) c)
    own_is = high_same d t (suc l) i (omega (arith, pos)) ∙ own_of d t i (suc l) c at

    bears_of : (hs : List (Name × Ask)) → heard (ask d t l) t c.names ≡ hs → Bears (b l) (b (suc l)) (suc l) (items_of c.block) i
    unfolding Asks
    bears_of [] none =
        let z = ap all_more none in
        let h = below_less in
        inr (inl (omega (arith, h, z)))
    bears_of (x ∷ xs) some =
        let h = below_less in
        let same = ap all_more some in
        let gone : all_gone (x ∷ xs) ≡ 0 = sym (ap all_gone some) ∙ none_gone d t l (λ j y a aty asks. is.stay l j y a pos aty asks) c.names in
        elim (cases_lt 4068 (weight (items_of c.block) + 46 * all_more (x ∷ xs))) [
          | inr fits ↦ inl (omega (arith, h, same, fits))
          | inl full ↦
              let (a, asks, more) = node_above bd e rs c x xs gone (omega (arith, up, pos)) full in
              let own : b (suc l) i ≡ a.more = own_is ∙ (ap (λ ys. more_of (cell_asks bd e rs c ys)) some ∙ ap more_of asks) in
              let many = over_enough (weight (items_of c.block) + 46 * all_more (x ∷ xs)) full in
              inr (inr (inr (omega (arith, pos), omega (arith, h, same, own, many, more))))
        ]

  bears_at : (i : ℕ) (c : Node Value) (l : ℕ) → t i ≡ Some c → c.level ≡ suc l → 1 ≤ l → Bears (b l) (b (suc l)) (suc l) (items_of c.block) i
  bears_at i c l at up pos = elim (cases_lt 1 l) [
    | inl above ↦ bears_of i l c at up (omega (arith, above)) (heard (ask d t l) t c.names) refl
    | inr twig ↦ inr (inl (none_below (b l) (λ j. low_none d t l j (omega (arith, twig))) (items_of c.block)))
  ]

  small_at : (l i : ℕ) → b l i ≤ 87
  small_at l i = elim (cases_lt 1 l) [
    | inl above ↦ let e2 = high_same d t l i (omega (arith, above)) in let h = is.small l i (omega (arith, above)) in omega (arith, e2, h)
    | inr low ↦ let z = low_none d t l i (omega (arith, low)) in omega (arith, z)
  ]

  low_root : 1 ≤ b root.height root.id → root.height < 8
  low_root some = elim (cases_lt 1 root.height) [
    | inr low ↦ omega (arith, low)
    | inl above ↦
        let e2 = high_same d t root.height root.id (omega (arith, above)) in
        let own = own_of d t root.id root.height it.root_node it.root_is in
        let (a, asks) = some_asked (ask d t root.height it.root_node) (omega (arith, some, e2, own)) in
        is.low a (it.root_node, it.root_is, asks)
  ]

  pub asked_above_budget : IsBudget t root (asked_above (demand_of bd e reads rs) t)
  asked_above_budget = record { bears = bears_at; small = small_at; root = low_root }
