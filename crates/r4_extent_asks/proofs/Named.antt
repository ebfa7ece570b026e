-- The leaves that a twig names and that end at a key.
use Rattle.std.specs.Prelude.{◌≡◌, ◌≢◌, ◌⊎◌, ℕ, zero, suc, ◌+◌, ◌-◌, ◌<◌, ◌≤◌, List, [], ◌∷◌, ◌++◌, drop, length, map}
use Rattle.std.specs.Prelude.{Bool, true, false, ◌&&◌, ◌==◌, nat_lt, Contains, Option, None, Some, if◌then◌else◌}
use Rattle.std.proofs.Common.{arith, inl, inr, refl, sym, ap, subst, ◌∙◌, append_assoc}
use Rattle.std.specs.List.{filter}
use Rattle.std.proofs.lemmas.Bool.{ne_eqb}
use Rattle.std.proofs.lemmas.List.{append-nil, drop_all, map-append}
use Rattle.std.proofs.lemmas.List.Elements.{Contains-append_cases, filter-append}
use Rattle.r4_base.specs.Cell.{block_names, cell_of, item_names, names_in, next_key, pointer_names}
use Rattle.r4_base.specs.Extents.{pointer_of, units_of}
use Rattle.r4_base.specs.Key.{rank}
use Rattle.r4_base.specs.Node.{Item, items_of}
use Rattle.r4_base.specs.Tree.{Name}
use Rattle.r4_units.specs.r4_cell.Seen.{CellSeen, node_of}
use Rattle.r4_twig_asks.specs.r4_marking.Marks.{IsChildAt, NoChildAt, names_at}
use Rattle.r4_units.proofs.r4_cell.ItemRows.{extent_data}
use Rattle.r4_twig_asks.proofs.r4_marking.Children.{data_nameless, names_next}
use Rattle.r4_twig_asks.proofs.r4_patch.Members.{cases, here, later, none}
use Rattle.r4_twig_asks.specs.r4_reach.Needs.{going_of, left_leaves}
use Rattle.r4_twig_asks.specs.r4_reach.Touched.{Body}
use Rattle.r4_units.proofs.r4_search.Places.{item_in}
use Rattle.r4_units.specs.r4_search.Place.{child_name}
use Rattle.r4_units.specs.r4_search.declared.inside.Child.{Child}
use Rattle.r4_extent_asks.specs.Behind.{AddsLeft, leaves_left}

named_at : (l lo hi : ℕ) (block : List ℕ) → 1 ≤ l → (cell_of l lo hi block).names ≡ names_in l hi (items_of block)
unfolding cell_of
named_at zero lo hi block none = absurd (omega (arith, none))
named_at (suc l) lo hi block more = refl

pub names_of : (c : CellSeen) → 1 ≤ c.level → (node_of c).names ≡ names_in c.level (rank c.hi) (items_of c.block)
names_of c some = named_at c.level (rank c.lo) (rank c.hi) c.block some

no_names : (k level hi : ℕ) → leaves_left k (names_in level hi []) ≡ []
unfolding names_in
no_names k level hi = refl

-- ---- which of them end at a key

left_append : (k : ℕ) (xs ys : List Name) → leaves_left k (xs ++ ys) ≡ leaves_left k xs ++ leaves_left k ys
left_append k xs ys =
    ap (map (λ (n : Name). n.id)) (filter-append (λ (n : Name). (n.level == 1) && (n.hi == k)) xs ys)
    ∙ map-append (λ (n : Name). n.id) (filter (λ (n : Name). (n.level == 1) && (n.hi == k)) xs)
    (filter (λ (n : Name). (n.level == 1) && (n.hi == k)) ys)

left_none : (k : ℕ) (ns : List Name) → ((n : Name) → Contains ns n → n.level ≡ 0) → leaves_left k ns ≡ []
left_none k [] h = refl
left_none k (n ∷ ns) h =
    let level : (n.level == 1) ≡ false = ne_eqb n.level 1 (λ one. let z = h n (here n ns) in omega (arith, one, z)) in
    by_test (n.level == 1) level (left_none k ns (λ m at. h m (later n m ns at)))
  where
    by_test : (t : Bool) → t ≡ false → leaves_left k ns ≡ []
        → map (λ (x : Name). x.id) (if t && (n.hi == k) then n ∷ filter (λ (x : Name). (x.level == 1) && (x.hi == k)) ns
        else filter (λ (x : Name). (x.level == 1) && (x.hi == k)) ns) ≡ []
    by_test true is rest = absurd cc
    by_test false is rest = rest

left_one : (k : ℕ) (n : Name) (t : Bool) → ((n.level == 1) && (n.hi == k)) ≡ t
    → leaves_left k (n ∷ []) ≡ (if t then n.id ∷ [] else [])
left_one k n t is = ap (λ (x : Bool). map (λ (y : Name). y.id) (if x then n ∷ [] else [])) is ∙ by_test t
  where
    by_test : (x : Bool) → map (λ (y : Name). y.id) (if x then n ∷ [] else []) ≡ (if x then n.id ∷ [] else [])
    by_test true = refl
    by_test false = refl

module _ (c : CellSeen) (place k : ℕ) (old : List ℕ) where
  pub adds_none : NoChildAt c place → AddsLeft c place k old old
  adds_none none it is = sym (append-nil old)
      ∙ ap (λ (xs : List ℕ). old ++ xs) (sym (left_none k (names_at c place it) (none it is)))

  module _ (child : Child) (ch : IsChildAt c place child) where
    pub adds_child : (t : Bool) → ((child.level == 1) && (rank child.hi == k)) ≡ t
        → AddsLeft c place k old (old ++ (if t then child.id.0 ∷ [] else []))
    adds_child t is it at = ap (λ (xs : List ℕ). old ++ xs)
        (sym (ap (leaves_left k) (ch.names it at) ∙ left_one k (child_name child) t is))

-- ---- item by item

abbrev pub LeftFrom : CellSeen → (key place : ℕ) → List ℕ → Type 0
LeftFrom c k place ids = ids ++ leaves_left k (names_in c.level (rank c.hi) (drop place (items_of c.block)))
    ≡ leaves_left k (names_in c.level (rank c.hi) (items_of c.block))

pub left_more : (c : CellSeen) (k place : ℕ) (old new : List ℕ) → place < length (items_of c.block)
    → LeftFrom c k place old → AddsLeft c place k old new → LeftFrom c k (place + 1) new
left_more c k place old new within h adds =
    let (it, is) = item_in (items_of c.block) place within in
    let rest = names_in c.level (rank c.hi) (drop (place + 1) (items_of c.block)) in
    ap (λ (xs : List ℕ). xs ++ leaves_left k rest) (adds it is)
    ∙ (append_assoc old (leaves_left k (names_at c place it)) (leaves_left k rest)
    ∙ (ap (λ (xs : List ℕ). old ++ xs) (sym (ap (leaves_left k) (names_next c.level (rank c.hi) (items_of c.block) place it is)
    ∙ left_append k (names_at c place it) rest)) ∙ h))

pub all_left : (c : CellSeen) (k place : ℕ) (ids : List ℕ) → 1 ≤ c.level → length (items_of c.block) ≤ place
    → LeftFrom c k place ids → ids ≡ leaves_left k (node_of c).names
all_left c k place ids some past h =
    let none = ap (λ (xs : List Item). leaves_left k (names_in c.level (rank c.hi) xs))
    (drop_all place (items_of c.block) past) ∙ no_names k c.level (rank c.hi) in
    sym (append-nil ids) ∙ ap (λ (xs : List ℕ). ids ++ xs) (sym none) ∙ h
    ∙ sym (ap (leaves_left k) (names_of c some))

-- ---- the leaves directly left of blocks that go

and_on : (y t : Bool) → t ≡ true → (y && t) ≡ y
and_on true t is = is
and_on false t is = refl

and_off : (y t : Bool) → t ≡ false → (y && t) ≡ false
and_off true t is = is
and_off false t is = refl

pub left_is : (b : Option Body) (ns : List Name) → nat_lt (going_of b).0 (going_of b).1 ≡ true
    → map (λ (n : Name). n.id) (filter (λ (n : Name). (n.level == 1)
    && ((n.hi == (going_of b).0) && nat_lt (going_of b).0 (going_of b).1)) ns) ≡ leaves_left (going_of b).0 ns
left_is b ns on = λ i. map (λ (n : Name). n.id) (filter (λ (n : Name). (n.level == 1)
    && and_on (n.hi == (going_of b).0) (nat_lt (going_of b).0 (going_of b).1) on i) ns)

none_kept : (ns : List Name) → filter (λ (n : Name). false) ns ≡ []
none_kept [] = refl
none_kept (n ∷ ns) = none_kept ns

pub left_off : (b : Option Body) (ns : List Name) → nat_lt (going_of b).0 (going_of b).1 ≡ false
    → filter (λ (n : Name). (n.level == 1)
    && ((n.hi == (going_of b).0) && nat_lt (going_of b).0 (going_of b).1)) ns ≡ []
left_off b ns off = (λ i. filter (λ (n : Name). and_off (n.level == 1)
    ((n.hi == (going_of b).0) && nat_lt (going_of b).0 (going_of b).1)
    (and_off (n.hi == (going_of b).0) (nat_lt (going_of b).0 (going_of b).1) off) i) ns) ∙ none_kept ns

-- ---- nodes that are no twigs name no leaves

item_levels : (level next : ℕ) (it : Item) (n : Name) → Contains (item_names level next it) n
    → (n.level ≡ 0) ⊎ (n.level ≡ level - 1)
unfolding item_names
item_levels level next it n at = by_plugin (it.plugin == 3) (it.plugin == 5) (pointer_of it.body) at
  where
    by_plugin : (x y : Bool) (o : Option ℕ) → Contains (if x then pointer_names level (rank it.key) next o
        else (if y then block_names (rank it.key) (units_of it.body) else [])) n
        → (n.level ≡ 0) ⊎ (n.level ≡ level - 1)
    by_plugin true y None h = absurd (none n h)
    by_plugin true y (Some to) h = elim (cases (record { id = to; level = level - 1; lo = rank it.key; hi = next }) n [] h) [
      | inl is ↦ inr (ap (λ (m : Name). m.level) is)
      | inr more ↦ absurd (none n more)
    ]
    by_plugin false true o h = inl (extent_data (rank it.key) (units_of it.body) n h)
    by_plugin false false o h = absurd (none n h)

names_levels : (level hi : ℕ) (items : List Item) (n : Name) → Contains (names_in level hi items) n
    → (n.level ≡ 0) ⊎ (n.level ≡ level - 1)
unfolding names_in
names_levels level hi [] n at = absurd (none n at)
names_levels level hi (it ∷ items) n at =
    elim (Contains-append_cases (item_names level (next_key hi items) it) (names_in level hi items) n at) [
      | inl first ↦ item_levels level (next_key hi items) it n first
      | inr rest ↦ names_levels level hi items n rest
    ]

no_leaf : (x : CellSeen) → x.level ≢ 2 → (n : Name) → Contains (node_of x).names n → n.level ≢ 1
no_leaf x other n at = by_level (compare x.level)
  where
    compare : (l : ℕ) → (l ≡ 0) ⊎ (1 ≤ l)
    compare zero = inl refl
    compare (suc l) = inr (omega arith)

    by_level : (x.level ≡ 0) ⊎ (1 ≤ x.level) → n.level ≢ 1
    by_level (inl z) = λ one. absurd (none n (subst (λ (ns : List Name). Contains ns n) (data_nameless x z) at))
    by_level (inr some) = λ one. elim (names_levels x.level (rank x.hi) (items_of x.block) n
        (subst (λ (ns : List Name). Contains ns n) (names_of x some) at)) [
          | inl z ↦ absurd (omega (arith, z, one))
          | inr up ↦ absurd (other (omega (arith, up, one, some)))
        ]

none_of : (p : Name → Bool) (ns : List Name) → ((n : Name) → Contains ns n → n.level ≢ 1)
    → filter (λ (n : Name). (n.level == 1) && p n) ns ≡ []
none_of p [] h = refl
none_of p (n ∷ ns) h = by_test (n.level == 1) (ne_eqb n.level 1 (h n (here n ns)))
    (none_of p ns (λ m at. h m (later n m ns at)))
  where
    by_test : (t : Bool) → t ≡ false → filter (λ (m : Name). (m.level == 1) && p m) ns ≡ []
        → (if t && p n then n ∷ filter (λ (m : Name). (m.level == 1) && p m) ns
        else filter (λ (m : Name). (m.level == 1) && p m) ns) ≡ []
    by_test true is rest = absurd cc
    by_test false is rest = rest

pub none_left : (b : Option Body) (x : CellSeen) → x.level ≢ 2 → left_leaves b (node_of x) ≡ []
none_left b x other = none_of (λ (n : Name). (n.hi == (going_of b).0) && nat_lt (going_of b).0 (going_of b).1)
    (node_of x).names (no_leaf x other)
