-- What a cell asks for is at most what the leaves below it do, as far as their ranges are charged for it.
use Rattle.std.specs.Prelude.{◌≡◌, ◌≢◌, ◌⊎◌, ℕ, zero, suc, ◌+◌, ◌-◌, ◌*◌, ◌/◌, ◌^◌, ◌<◌, ◌≤◌, List, [], ◌∷◌, ◌++◌}
use Rattle.std.specs.Prelude.{length}
use Rattle.std.specs.Prelude.{Bool, true, false, not, ◌||◌, ◌==◌, nat_lt, Contains, Option, Some, None}
use Rattle.std.specs.Prelude.{if◌then◌else◌}
use Rattle.std.proofs.Common.{arith, inl, inr, refl, sym, ap, subst, ◌∙◌}
use Rattle.std.proofs.lemmas.Bool.{cases_lt, eqb-true}
use Rattle.std.proofs.lemmas.Bool.Decides.{nat_tests}
use Rattle.std.proofs.lemmas.Grind.{common_steps}
use Rattle.std.proofs.lemmas.List.{append_assoc}
use Rattle.std.proofs.lemmas.List.Elements.{Contains-append_left, Contains-append_right}
use Rattle.std.proofs.lemmas.List.Sums.{sum_by-cons}
use Rattle.r4_base.specs.Cell.{block_names, cell_of, body_bytes, item_end, item_names, items_in_fault, last_entry_key}
use Rattle.r4_base.specs.Cell.{names_in, next_key, pointer_names, run_names}
use Rattle.r4_base.specs.Extents.{is_hole, pointer_of, units_of}
use Rattle.r4_base.specs.Key.{rank, top}
use Rattle.r4_base.specs.Node.{Item, PluginsFit, fits_level, items_of, node_fault}
use Rattle.r4_base.specs.Tree.{Name, Node, Root, Store}
use Rattle.r4_base.specs.Value.{Value}
use Rattle.r4_base.specs.declared.items.Unit.{Unit as ExtentUnit}
use Rattle.r4_search.specs.r4_cell.Seen.{CellSeen, node_of}
use Rattle.r4_search.proofs.r4_cell.Items.{good_item}
use Rattle.r4_content.specs.Bodies.{larger}
use Rattle.r4_content.specs.Edited.{Edits, Intervals}
use Rattle.r4_build.specs.r4_leaf.Units.{leaf_bytes}
use Rattle.r4_search.proofs.r4_node40.Accepted.{good, space}
use Rattle.r4_build.specs.r4_patch.Part.{IsPart}
use Rattle.r4_build.proofs.r4_patch.Members.{here}
use Rattle.r4_build.specs.r4_path.Nodes.{weight}
use Rattle.r4_build.proofs.r4_path.CellNodes.{names_are}
use Rattle.r4_build.proofs.r4_path.Rising.{level_is, lo_is, hi_is}
use Rattle.r4_build.specs.r4_reach.Demand.{Demand, ask, ask_of, heard, heard_one}
use Rattle.r4_build.specs.r4_reach.Needs.{Ask, all_more, asking, cell_asks, changes_pieces, come_of, cut_in_two, demand_of}
use Rattle.r4_build.specs.r4_reach.Needs.{growing, is_gone, is_touched, leaf_asks}
use Rattle.r4_build.specs.r4_reach.Needs.{meets, moves, node_asks, node_need, over, twig_asks, twig_more, units_after}
use Rattle.r4_build.specs.r4_reach.Touched.{Body}
use Rattle.r4_build.proofs.r4_reach.Enough.{node_needs, twig_needs}
use Rattle.r4_search.proofs.Places.{IsBranch, branch}
use Rattle.r4_build.specs.r4_reach.Leaves.{more_of}
use Rattle.r4_build.specs.r4_measure.Asked.{asked_of}
use Rattle.r4_build.proofs.r4_measure.Kept.{block_is}
use Rattle.r4_suited.specs.Suited.{IsAccepted}
use Rattle.r4_spared.specs.Spared.{AreAccepted}

-- ---- numbers

-- none is asked for, or two at least
abbrev pub IsFine : ℕ → Type 0
IsFine n = (n ≡ 0) ⊎ (2 ≤ n)

fine_sum : (n m : ℕ) → IsFine n → IsFine m → IsFine (n + m)
fine_sum n m (inl a) (inl b) = inl (omega (arith, a, b))
fine_sum n m (inl a) (inr b) = inr (omega (arith, b))
fine_sum n m (inr a) b = inr (omega (arith, a))

pub over_cases : (n : ℕ) → ((n ≤ 4068) × (over n ≡ 0)) ⊎ ((4068 < n) × (over n ≡ 1 + (n - 4068 + 1023) / 1024))
over_cases n = by_test (nat_lt 4068 n) refl
  where
    by_test : (v : Bool) → nat_lt 4068 n ≡ v
        → ((n ≤ 4068) × ((if v then 1 + (n - 4068 + 1023) / 1024 else 0) ≡ 0))
        ⊎ ((4068 < n) × ((if v then 1 + (n - 4068 + 1023) / 1024 else 0) ≡ 1 + (n - 4068 + 1023) / 1024))
    by_test true h = inr (grind (arith, nat_tests, h), refl)
    by_test false h = inl (grind (arith, nat_tests, h), refl)

pub over_fine : (n : ℕ) → IsFine (over n)
over_fine n = elim (over_cases n) [
  | inl h ↦ inl h.1
  | inr h ↦ let (big, is) = h in inr (omega (arith, big, is))
]

-- a node that bears its items suffices for the pointers that come
over_few : (w x : ℕ) → w ≤ 4068 → IsFine x → over (w + 46 * x) ≤ x
over_few w x few fine = elim (over_cases (w + 46 * x)) [
  | inl h ↦ let z = h.1 in omega (arith, z)
  | inr h ↦ let (big, is) = h in elim fine [
    | inl none ↦ absurd (omega (arith, few, none, big))
    | inr some ↦ omega (arith, few, some, big, is)
  ]
]

larger_most : (n m k : ℕ) → n ≤ k → m ≤ k → larger n m ≤ k
larger_most n m k h g = by_test (nat_lt n m)
  where
    by_test : (v : Bool) → (if v then m else n) ≤ k
    by_test true = g
    by_test false = h

larger_least : (n m : ℕ) → n ≤ larger n m
larger_least n m = by_test (nat_lt n m) refl
  where
    by_test : (v : Bool) → nat_lt n m ≡ v → n ≤ (if v then m else n)
    by_test true h = let lt : n < m = grind (arith, nat_tests, h) in omega (arith, lt)
    by_test false h = omega arith

twig_few : (w x g : ℕ) → w ≤ 4068 → IsFine x → g ≤ x
    → ((if nat_lt 4068 (w + 46 * x) then larger (over (w + 46 * x)) g else 0) ≤ x)
    × IsFine (if nat_lt 4068 (w + 46 * x) then larger (over (w + 46 * x)) g else 0)
twig_few w x g few fine le = by_test (nat_lt 4068 (w + 46 * x)) refl
  where
    by_test : (v : Bool) → nat_lt 4068 (w + 46 * x) ≡ v
        → ((if v then larger (over (w + 46 * x)) g else 0) ≤ x) × IsFine (if v then larger (over (w + 46 * x)) g else 0)
    by_test false h = (omega arith, inl refl)
    by_test true h =
        let big : 4068 < w + 46 * x = grind (arith, nat_tests, h) in
        let least = larger_least (over (w + 46 * x)) g in
        let two : 2 ≤ over (w + 46 * x) = elim (over_cases (w + 46 * x)) [
          | inl f ↦ let low = f.0 in absurd (omega (arith, low, big))
          | inr f ↦ let is = f.1 in omega (arith, big, is)
        ] in
        (larger_most (over (w + 46 * x)) g x (over_few w x few fine) le, inr (omega (arith, least, two)))

-- so much is charged to a range
abbrev pub Bounds : (charge : ℕ → ℕ) → (lo hi n : ℕ) → Type 0
Bounds C lo hi n = (1024 * n + C lo ≤ C hi) × IsFine n

-- ---- what is heard

growing_few : (hs : List (Name × Ask)) → growing hs ≤ all_more hs
growing_few [] = omega arith
growing_few (h ∷ hs) =
    let a = sum_by-cons (λ (g : Name × Ask). if nat_lt 0 g.1.more then 1 else 0) h hs in
    let b = sum_by-cons (λ (g : Name × Ask). g.1.more) h hs in
    let one = own h.1.more in
    let rest = growing_few hs in
    omega (arith, a, b, one, rest)
  where
    own : (n : ℕ) → (if nat_lt 0 n then 1 else 0) ≤ n
    own n = by_test (nat_lt 0 n) refl
      where
        by_test : (v : Bool) → nat_lt 0 n ≡ v → (if v then 1 else 0) ≤ n
        by_test true h = grind (arith, nat_tests, h)
        by_test false h = omega arith

module _ (f : Node Value → Option Ask) (t : Store Value) where
  -- blocks ask for nothing
  skip_runs : (k start n : ℕ) (ns : List Name) → heard f t (run_names k start n ++ ns) ≡ heard f t ns
  skip_runs k start zero ns = refl
  skip_runs k start (suc n) ns = skip_runs (k + 4096) (start + 1) n ns

  skip_blocks : (k : ℕ) (us : List ExtentUnit) (ns : List Name) → heard f t (block_names k us ++ ns) ≡ heard f t ns
  skip_blocks k [] ns = refl
  skip_blocks k (u ∷ us) ns =
      ap (heard f t)
      (append_assoc (if is_hole u then [] else run_names k u.start u.width)
      (block_names (k + 4096 * u.width) us) ns)
      ∙ (own (is_hole u) (block_names (k + 4096 * u.width) us ++ ns) ∙ skip_blocks (k + 4096 * u.width) us ns)
    where
      own : (v : Bool) (ms : List Name) → heard f t ((if v then [] else run_names k u.start u.width) ++ ms)
          ≡ heard f t ms
      own true ms = refl
      own false ms = skip_runs k u.start u.width ms

  heard_first : (n : Name) (ns : List Name) → (all_more (heard f t (n ∷ ns)) ≡ all_more (heard f t ns))
      ⊎ ((n.level ≢ 0) × (all_more (heard f t (n ∷ ns)) ≡ more_of (ask_of f (t n.id)) + all_more (heard f t ns)))
  heard_first n ns = by_level (n.level == 0) refl
    where
      one_more : (o : Option Ask) → all_more (heard_one n o (heard f t ns)) ≡ more_of o + all_more (heard f t ns)
      one_more None = omega arith
      one_more (Some a) = sum_by-cons (λ (h : Name × Ask). h.1.more) (n, a) (heard f t ns)

      by_level : (v : Bool) → (n.level == 0) ≡ v
          → (all_more (if v then heard f t ns else heard_one n (ask_of f (t n.id)) (heard f t ns))
          ≡ all_more (heard f t ns))
          ⊎ ((n.level ≢ 0) ×
          (all_more (if v then heard f t ns else heard_one n (ask_of f (t n.id)) (heard f t ns))
          ≡ more_of (ask_of f (t n.id)) + all_more (heard f t ns)))
      by_level true h = inl refl
      by_level false h = inr ((λ z. absurd (grind (arith, nat_tests, h, z))), one_more (ask_of f (t n.id)))

  module _ (C : ℕ → ℕ) (mono : (k j : ℕ) → k ≤ j → C k ≤ C j) where
    abbrev IsBounded : Name → Type 0
    IsBounded n = n.level ≢ 0 → Bounds C n.lo n.hi (more_of (ask_of f (t n.id)))

    -- each item begins before the next one
    abbrev GoUp : ℕ → List Item → Type 0
    GoUp hi [] = Unit {0}
    GoUp hi (it ∷ items) = (rank it.key ≤ next_key hi items) × GoUp hi items

    item_bounds : (level next : ℕ) (it : Item) (ns : List Name) (hi : ℕ) → rank it.key ≤ next
        → ((n : Name) → Contains (item_names level next it) n → IsBounded n)
        → Bounds C next hi (all_more (heard f t ns))
        → Bounds C (rank it.key) hi (all_more (heard f t (item_names level next it ++ ns)))
    unfolding item_names
    item_bounds level next it ns hi le each rest = by_plugin (it.plugin == 3) (it.plugin == 5) (pointer_of it.body) each
      where
        wider : (n : ℕ) → n ≡ all_more (heard f t ns) → Bounds C (rank it.key) hi n
        wider n is =
            let (r, fine) = rest in
            let m = mono (rank it.key) next le in
            (omega (arith, r, m, is), subst IsFine (sym is) fine)

        by_plugin : (v w : Bool) (o : Option ℕ)
            → ((n : Name)
            → Contains
            (if v then pointer_names level (rank it.key) next o else
            (if w then block_names (rank it.key) (units_of it.body) else [])) n → IsBounded n)
            → Bounds C (rank it.key) hi
            (all_more
            (heard f t
            ((if v then pointer_names level (rank it.key) next o else
            (if w then block_names (rank it.key) (units_of it.body) else [])) ++ ns)))
        by_plugin false false o own = wider (all_more (heard f t ns)) refl
        by_plugin false true o own = wider _ (ap all_more (skip_blocks (rank it.key) (units_of it.body) ns))
        by_plugin true w None own = wider (all_more (heard f t ns)) refl
        by_plugin true w (Some to) own =
            let n : Name = record { id = to; level = level - 1; lo = rank it.key; hi = next } in
            elim (heard_first n ns) [
              | inl same ↦ wider _ same
              | inr h ↦
                  let (up, is) = h in
                  let (mine, fine) = own n (here n []) up in
                  let (r, others) = rest in (
                    omega (arith, is, mine, r),
                    subst IsFine (sym is)
                        (fine_sum (more_of (ask_of f (t to))) (all_more (heard f t ns)) fine others),
                  )
            ]

    items_bound : (level hi : ℕ) (items : List Item) → GoUp hi items
        → ((n : Name) → Contains (names_in level hi items) n → IsBounded n)
        → Bounds C (next_key hi items) hi (all_more (heard f t (names_in level hi items)))
    unfolding names_in
    items_bound level hi [] up each = (omega arith, inl refl)
    items_bound level hi (it ∷ items) up each =
        item_bounds level (next_key hi items) it (names_in level hi items) hi up.0
        (λ n at. each n (Contains-append_left (item_names level (next_key hi items) it) (names_in level hi items) n at))
        (items_bound level hi items up.1
        (λ n at. each n
        (Contains-append_right (item_names level (next_key hi items) it) (names_in level hi items) n at)))

-- ---- the items of a node above the leaves go up

rank_end : (it : Item) → (it.plugin == 2) ≡ false → rank it.key ≤ item_end it
unfolding item_end
rank_end it h = by_test (it.plugin == 0 || it.plugin == 3) (it.plugin == 2) h
  where
    by_test : (v w : Bool) → w ≡ false
        → rank it.key ≤
        (if v then rank it.key + 1 else (if w then last_entry_key it + 1 else rank it.key + body_bytes it))
    by_test true w g = omega arith
    by_test false true g = absurd cc
    by_test false false g = omega arith

no_entries : (level plugin : ℕ) → 2 ≤ level → fits_level level plugin ≡ true → (plugin == 2) ≡ false
no_entries level plugin two fits = grind (arith, nat_tests)

module _ (f : Node Value → Option Ask) (t : Store Value) (C : ℕ → ℕ) (mono : (k j : ℕ) → k ≤ j → C k ≤ C j) where
  go_up : (level lo hi i : ℕ) (items : List Item) → 2 ≤ level → PluginsFit level items
      → items_in_fault true (2 ^ 64) level lo hi i items ≡ None → GoUp f t C mono hi items
  go_up level lo hi i [] two fits h = tt
  go_up level lo hi i (it ∷ items) two fits h =
      let g = good_item true (2 ^ 64) level lo hi i it items h in
      let own = rank_end it (no_entries level it.plugin two (fits 0 it refl)) in
      let end = g.range.end in
      (omega (arith, own, end), go_up level lo hi (i + 1) items two (λ k. fits (suc k)) g.rest)

weight_few : (b : List ℕ) → length b ≡ 4096 → node_fault b ≡ None → weight (items_of b) ≤ 4068
weight_few b whole fine = let s = space b (good b whole fine).0.laid in omega (arith, s)

-- ---- what a cell asks for, by its level

pub unmet : (lo hi : ℕ) → meets lo hi (0, 0) ≡ false
unmet lo hi = grind (arith, common_steps)

module _ (P : ℕ → Type 0) (none : P 0) where
  asked_or_none : (v : Bool) (a : Ask) → P a.more → P (more_of (asking v a))
  asked_or_none v a h = by_test (v || (nat_lt 0 a.more || a.gone))
    where
      by_test : (w : Bool) → P (more_of (if w then Some a else None))
      by_test true = h
      by_test false = none

  module _ (b : Option Body) (e : Edits) (rs : Intervals) (quiet : come_of b ≡ (0, 0)) (c : Node Value) where
    of_leaf : P (over (leaf_bytes (units_after b e c))) → P (more_of (leaf_asks b e c))
    of_leaf h = by_test (meets c.lo c.hi (come_of b)) (ap (λ (r : ℕ × ℕ). meets c.lo c.hi r) quiet ∙ unmet c.lo c.hi)
      where
        by_test : (v : Bool) → v ≡ false → P (more_of (if v then asking true
            (record {
              more = over (leaf_bytes (units_after b e c)) + cut_in_two (come_of b) c
                  (units_after b e c);
              gone = is_gone (come_of b) c (units_after b e c);
            })
            else asking false (record { more = over (leaf_bytes (units_after b e c)); gone = false })))
        by_test true g = absurd cc
        by_test false g = asked_or_none false (record { more = over (leaf_bytes (units_after b e c)); gone = false }) h

    of_cell : (hs : List (Name × Ask)) → (c.level ≡ 0 → (is_touched rs c || not (length hs == 0)) ≡ false)
        → (c.level ≡ 1 → P (over (leaf_bytes (units_after b e c))))
        → (c.level ≡ 2 → P (twig_more b e c hs)) → (3 ≤ c.level → P (over (node_need b c hs)))
        → P (more_of (cell_asks b e rs c hs))
    of_cell hs low leaf twig node = by_touch (is_touched rs c || not (length hs == 0)) refl
      where
        by_twig : (v : Bool) → (c.level == 2) ≡ v → 2 ≤ c.level
            → P (more_of (if v then twig_asks b e c hs else node_asks b c hs))
        by_twig true g up = asked_or_none (moves (come_of b) c) _ (twig (eqb-true c.level 2 g))
        by_twig false g up = asked_or_none (moves (come_of b) c) _ (node (grind (arith, nat_tests, g, up)))

        by_leaf : (v : Bool) → (c.level == 1) ≡ v → 1 ≤ c.level
            → P (more_of
            (if v then leaf_asks b e c else (if c.level == 2 then twig_asks b e c hs else node_asks b c hs)))
        by_leaf true g up = of_leaf (leaf (eqb-true c.level 1 g))
        by_leaf false g up = by_twig (c.level == 2) refl (grind (arith, nat_tests, g, up))

        some_level : (is_touched rs c || not (length hs == 0)) ≡ true → 1 ≤ c.level
        some_level g = elim (cases_lt 0 c.level) [
          | inl up ↦ up
          | inr none_up ↦ let off = low (omega (arith, none_up)) in absurd
              (true_off (is_touched rs c || not (length hs == 0)) g off)
        ]
          where
            true_off : (v : Bool) → v ≡ true → v ≡ false → ⊥
            true_off true h k = absurd cc
            true_off false h k = absurd cc

        by_touch : (v : Bool) → (is_touched rs c || not (length hs == 0)) ≡ v
            → P (more_of
            (if v then
            (if c.level == 1 then leaf_asks b e c else
            (if c.level == 2 then twig_asks b e c hs else node_asks b c hs)) else None))
        by_touch true g = by_leaf (c.level == 1) refl (some_level g)
        by_touch false g = none

-- ---- in a part of a tree

module _ (b : Option Body) (e : Edits) (reads rs : Intervals) (quiet : come_of b ≡ (0, 0)) (t : Store Value)
    (root : Root)
    (it : IsPart t root) (accepted : AreAccepted t)
    (still : (i : ℕ) (c : Node Value) → t i ≡ Some c → c.level ≡ 2 → changes_pieces b e c ≡ false)
    (C : ℕ → ℕ) (mono : (k j : ℕ) → k ≤ j → C k ≤ C j)
    (leaf : (i : ℕ) (c : Node Value) → t i ≡ Some c → c.level ≡ 1
    → 1024 * over (leaf_bytes (units_after b e c)) + C c.lo ≤ C c.hi) where
  abbrev d : Demand Ask
  d = demand_of b e reads rs

  module _ (l : ℕ) (below : (i : ℕ) (c : Node Value) → t i ≡ Some c → Bounds C c.lo c.hi (more_of (ask d t l c)))
      (i : ℕ) (c : Node Value) (at : t i ≡ Some c) where
    abbrev hs : List (Name × Ask)
    hs = heard (ask d t l) t c.names

    child : (n : Name) → Contains c.names n → Bounds C n.lo n.hi (more_of (ask_of (ask d t l) (t n.id)))
    child n has = by_cell (t n.id) refl
      where
        by_cell : (o : Option (Node Value)) → t n.id ≡ o → Bounds C n.lo n.hi (more_of (ask_of (ask d t l) o))
        by_cell None is =
            let some = (it.nodes i c at).name_nonempty n has in
            let m = mono n.lo n.hi (omega (arith, some)) in
            (omega (arith, m), inl refl)
        by_cell (Some x) is =
            let fits = it.named i c x n at has is in
            let (bound, fine) = below n.id x is in
            let lo = ap C fits.lo in
            let hi = ap C fits.hi in
            (omega (arith, bound, lo, hi), fine)

    none : Bounds C c.lo c.hi 0
    none =
        let some = (it.nodes i c at).nonempty in
        let m = mono c.lo c.hi (omega (arith, some)) in
        (omega (arith, m), inl refl)

    module _ (x : CellSeen) (same : c ≡ node_of x) (whole : length x.block ≡ 4096) (good_cell : IsAccepted x)
        (two : 2 ≤ c.level) where
      level : x.level ≡ c.level
      level = sym (level_is x) ∙ ap (λ (y : Node Value). y.level) (sym same)

      stands : IsBranch x.level (rank x.lo) (rank x.hi) x.block
      stands = branch x.level (rank x.lo) (rank x.hi) x.block whole (omega (arith, two, level)) good_cell

      named : c.names ≡ names_in x.level (rank x.hi) (items_of x.block)
      named = by_level x.level refl
        where
          by_level : (k : ℕ) → x.level ≡ k → c.names ≡ names_in k (rank x.hi) (items_of x.block)
          by_level zero z = absurd (omega (arith, two, level, z))
          by_level (suc k) z = ap (λ (y : Node Value). y.names) same ∙ names_are x k z

      heard_bound : Bounds C c.lo c.hi (all_more hs)
      heard_bound =
          let (bound, fine) = items_bound (ask d t l) t C mono x.level (rank x.hi) (items_of x.block)
          (go_up (ask d t l) t C mono x.level (rank x.lo) (rank x.hi) 0 (items_of x.block)
          (omega (arith, two, level)) stands.fits stands.items)
          (λ n has up. child n (subst (λ (ns : List Name). Contains ns n) (sym named) has)) in
          let z = ap (λ (ns : List Name). all_more (heard (ask d t l) t ns)) named in
          let lo : C c.lo ≡ C (next_key (rank x.hi) (items_of x.block)) = ap C
          (ap (λ (y : Node Value). y.lo) same ∙ lo_is x ∙ sym stands.first) in
          let hi : C c.hi ≡ C (rank x.hi) = ap C (ap (λ (y : Node Value). y.hi) same ∙ hi_is x) in
          (omega (arith, bound, z, lo, hi), subst IsFine (sym z) fine)

      weighs : weight (items_of c.block) ≤ 4068
      weighs =
          let w = weight_few x.block whole stands.accepted in
          let z = ap (λ (s : List ℕ). weight (items_of s)) (ap (λ (y : Node Value). y.block) same ∙ block_is x) in
          omega (arith, w, z)

      from_few : (n : ℕ) → n ≤ all_more hs → IsFine n → Bounds C c.lo c.hi n
      from_few n le fine = let h = heard_bound.0 in (omega (arith, h, le), fine)

      of_twig : c.level ≡ 2 → Bounds C c.lo c.hi (twig_more b e c hs)
      of_twig is =
          let need = twig_needs b e reads rs quiet c hs (still i c at is) in
          let (few, fine) = twig_few (weight (items_of c.block)) (all_more hs) (growing hs) weighs heard_bound.1
          (growing_few hs) in
          let z : twig_more b e c hs
          ≡ (if nat_lt 4068 (weight (items_of c.block) + 46 * all_more hs) then larger
          (over (weight (items_of c.block) + 46 * all_more hs)) (growing hs) else 0)
          = ap (λ (k : ℕ). if nat_lt 4068 k then larger (over k) (growing hs) else 0) need in
          from_few (twig_more b e c hs) (omega (arith, z, few)) (subst IsFine (sym z) fine)

      of_node : Bounds C c.lo c.hi (over (node_need b c hs))
      of_node =
          let need = node_needs b e reads rs quiet c hs in
          let z = ap over need in
          let few = over_few (weight (items_of c.block)) (all_more hs) weighs heard_bound.1 in
          from_few (over (node_need b c hs)) (omega (arith, z, few)) (over_fine (node_need b c hs))

    untouched : (x : CellSeen) → c ≡ node_of x → c.level ≡ 0 → (is_touched rs c || not (length hs == 0)) ≡ false
    unfolding cell_of
    untouched x same low = subst
        (λ (y : Node Value). (is_touched rs y || not (length (heard (ask d t l) t y.names) == 0)) ≡ false) (sym same)
        (of_data x.level (sym (level_is x) ∙ (ap (λ (y : Node Value). y.level) (sym same) ∙ low)))
      where
        of_data : (k : ℕ) → k ≡ 0
            → (is_touched rs (cell_of k (rank x.lo) (rank x.hi) x.block) || not
            (length (heard (ask d t l) t (cell_of k (rank x.lo) (rank x.hi) x.block).names) == 0)) ≡ false
        of_data zero z = refl
        of_data (suc k) z = absurd (omega (arith, z))

    own_bound : Bounds C c.lo c.hi (more_of (cell_asks b e rs c hs))
    own_bound =
        let (x, same, whole, good_cell) = accepted.cells i c at in
        of_cell (λ n. Bounds C c.lo c.hi n) none b e rs quiet c hs (untouched x same)
        (λ is. (leaf i c at is, over_fine (leaf_bytes (units_after b e c))))
        (λ is. of_twig x same whole good_cell (omega (arith, is)) is)
        (λ up. of_node x same whole good_cell (omega (arith, up)))

  pub asks_bound : (l : ℕ) (i : ℕ) (c : Node Value) → t i ≡ Some c → Bounds C c.lo c.hi (more_of (ask d t l c))
  asks_bound zero i c at =
      let some = (it.nodes i c at).nonempty in
      let m = mono c.lo c.hi (omega (arith, some)) in
      (omega (arith, m), inl refl)
  asks_bound (suc l) i c at = own_bound l (asks_bound l) i c at

  pub asked_bound : (l i most : ℕ) → ((k : ℕ) → k ≤ top → C k ≤ 1024 * most + 1023)
      → asked_of (demand_of b e reads rs) t l i ≤ most
  asked_bound l i most all = by_cell (t i) refl
    where
      by_cell : (o : Option (Node Value)) → t i ≡ o → more_of (ask_of (ask d t l) o) ≤ most
      by_cell None is = omega arith
      by_cell (Some c) is =
          let h = (asks_bound l i c is).0 in
          let end = all c.hi (it.nodes i c is).to_top in
          omega (arith, h, end)
