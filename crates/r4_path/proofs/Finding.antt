-- The pointer by which a node names a cell, among its items.
use Rattle.std.proofs.Common.{◌≡◌, ◌⊎◌, inl, inr, ℕ, zero, suc, ◌+◌, ◌-◌, ◌*◌, ◌<◌, ◌≤◌, Bool, true, false, List, [], ◌∷◌, ◌++◌}
use Rattle.std.proofs.Common.{length, map, take, drop, get_or, refl, sym, ap, subst, ◌∙◌, arith}
use Rattle.std.specs.Prelude.{Contains, Option, Some, None, ◌==◌, slice_get, if◌then◌else◌}
use Rattle.std.proofs.lemmas.Bool.{cases_lt, eqb-true}
use Rattle.std.proofs.lemmas.List.{append_assoc}
use Rattle.std.proofs.lemmas.List.Elements.{Contains-append_cases}
use Rattle.std.proofs.lemmas.Option.{get_or_from_slice_get, same_Some, slice_get_within}
use Rattle.r4_base.specs.Cell.{block_names, item_names, names_in, next_key, pointer_names}
use Rattle.r4_base.specs.Extents.{pointer_of, units_of}
use Rattle.r4_base.specs.Key.{rank}
use Rattle.r4_base.specs.Node.{Item, count_of, edge_at, item_at, items_of, offset_at}
use Rattle.r4_base.specs.Tree.{Name}
use Rattle.r4_base.proofs.Numbers.{length-slice_range}
use Rattle.r4_leaf.proofs.r4_node40.LaidItems.{item_bodied}
use Rattle.r4_patch.specs.r4_cell.Seen.{CellSeen}
use Rattle.r4_patch.proofs.r4_cell.ItemRows.{extent_data}
use Rattle.r4_leaf.specs.r4_node40.Laid.{IsLaid}
use Rattle.r4_leaf.proofs.r4_node40.Laid.{edge_next, edge_stands, edge_step, get_or-items_of, length-items_of}
use Rattle.r4_leaf.proofs.r4_node40.Accepted.{space}
use Rattle.r4_path.specs.Nodes.{pointer_item, weight, weight_of}
use Rattle.r4_path.specs.Rows.{with_pointers}
use Rattle.r4_path.proofs.Filling.{weight_cons}
use Rattle.r4_patch.proofs.Members.{cases, none}
use Rattle.r4_path.proofs.Rows.{Between, between_left, between_order}

-- The item p points to what is named, up to the items behind it.
pub record IsPointer (hi : ℕ) (n : Name) (p : Item) (behind : List Item) : Type 0 where
  pub plugin : p.plugin ≡ 3
  pub to : pointer_of p.body ≡ Some n.id
  pub key : rank p.key ≡ n.lo
  pub next : next_key hi behind ≡ n.hi

one_name : (level key next : ℕ) (o : Option ℕ) (n : Name) → Contains (pointer_names level key next o) n → (o ≡ Some n.id)
    × (key ≡ n.lo) × (next ≡ n.hi)
one_name level key next None n h = absurd (none n h)
one_name level key next (Some to) n h = elim (cases (record { id = to; level = level - 1; lo = key; hi = next }) n [] h) [
  | inl e ↦ (ap Some (sym (ap (λ (m : Name). m.id) e)), sym (ap (λ (m : Name). m.lo) e), sym (ap (λ (m : Name). m.hi) e))
  | inr more ↦ absurd (none n more)
]

chosen : (a b : Bool) (xs ys : List Name) (n : Name) → Contains (if a then xs else if b then ys else []) n
    → ((a ≡ true) × Contains xs n) ⊎ Contains ys n
chosen true b xs ys n h = inl (refl, h)
chosen false true xs ys n h = inr h
chosen false false xs ys n h = absurd (none n h)

pointer_names_it : (level next : ℕ) (p : Item) (n : Name) → 1 ≤ n.level → Contains (item_names level next p) n
    → (p.plugin ≡ 3) × (pointer_of p.body ≡ Some n.id) × (rank p.key ≡ n.lo) × (next ≡ n.hi)
unfolding item_names
pointer_names_it level next p n low h = elim
    (chosen (p.plugin == 3) (p.plugin == 5) (pointer_names level (rank p.key) next (pointer_of p.body))
    (block_names (rank p.key) (units_of p.body)) n h) [
      | inl pointer ↦ let (to, key, end) = one_name level (rank p.key) next (pointer_of p.body) n pointer.1 in
          (eqb-true p.plugin 3 pointer.0, to, key, end)
      | inr blocks ↦ let data_level = extent_data (rank p.key) (units_of p.body) n blocks in absurd (omega (arith, data_level, low))
    ]

names_first : (level hi : ℕ) (x : Item) (xs : List Item) → names_in level hi (x ∷ xs) ≡ item_names level (next_key hi xs) x
    ++ names_in level hi xs
unfolding names_in
names_first level hi x xs = refl

no_names : (level hi : ℕ) (n : Name) → Contains (names_in level hi []) n → ⊥
unfolding names_in
no_names level hi n h = none n h

-- the items before the pointer, the pointer, and the items behind it
pub record Found (hi : ℕ) (n : Name) (items : List Item) : Type 0 where
  pub before : List Item
  pub p : Item
  pub behind : List Item
  pub parts : items ≡ before ++ p ∷ behind
  pub points : IsPointer hi n p behind

pub find : (level hi : ℕ) (items : List Item) (n : Name) → 1 ≤ n.level → Contains (names_in level hi items) n → Found hi n items
find level hi [] n low h = absurd (no_names level hi n h)
find level hi (x ∷ xs) n low h = elim
    (Contains-append_cases (item_names level (next_key hi xs) x) (names_in level hi xs) n
    (subst (λ ns. Contains ns n) (names_first level hi x xs) h)) [
      | inl mine ↦ let (plugin, to, key, next) = pointer_names_it level (next_key hi xs) x n low mine in
          record { before = []; p = x; behind = xs; parts = refl; points = record { plugin = plugin; to = to; key = key; next = next } }
      | inr rest ↦ let f = find level hi xs n low rest in
          record { before = x ∷ f.before; p = f.p; behind = f.behind; parts = ap (λ zs. x ∷ zs) f.parts; points = f.points }
    ]

-- ---- its place

get_at : (xs : List Item) (p : Item) (ys : List Item) → slice_get (xs ++ p ∷ ys) (length xs) ≡ Some p
get_at [] p ys = refl
get_at (x ∷ xs) p ys = get_at xs p ys

get_front : (xs zs : List Item) (k : ℕ) (x : Item) → k < length xs → slice_get (xs ++ zs) k ≡ Some x → slice_get xs k ≡ Some x
get_front [] zs k x lt e = absurd (omega (arith, lt))
get_front (y ∷ ys) zs zero x lt e = e
get_front (y ∷ ys) zs (suc k) x lt e = get_front ys zs k x (omega (arith, lt)) e

between_get : (from to : ℕ) (xs : List Item) (k : ℕ) (x : Item) → Between from to xs → slice_get xs k ≡ Some x → rank x.key < to
between_get from to [] k x h e = absurd cc
between_get from to (y ∷ ys) zero x (low, rest) e = let over = between_order (rank y.key + 1) to ys rest in
    let same = ap (λ (z : Item). rank z.key) (same_Some y x e) in omega (arith, over, same)
between_get from to (y ∷ ys) (suc k) x (low, rest) e = between_get (rank y.key + 1) to ys k x rest e

some_at : (xs : List Item) (k : ℕ) → k < length xs → (x : Item) × (slice_get xs k ≡ Some x)
some_at [] k lt = absurd (omega (arith, lt))
some_at (x ∷ xs) zero lt = (x, refl)
some_at (x ∷ xs) (suc k) lt = some_at xs k (omega (arith, lt))

-- the place behind all smaller keys is the pointer's
pub placed : (lo hi key r : ℕ) (before : List Item) (p : Item) (behind : List Item) → Between lo hi (before ++ p ∷ behind)
    → rank p.key ≡ key
    → ((k : ℕ) (x : Item) → k < r → slice_get (before ++ p ∷ behind) k ≡ Some x → rank x.key < key)
    → ((x : Item) → slice_get (before ++ p ∷ behind) r ≡ Some x → key ≤ rank x.key)
    → r ≡ length before
placed lo hi key r before p behind between is below here = elim (cases_lt r (length before)) [
  | inl less ↦
      let (x, e) = some_at before r less in
      let low = between_get lo (rank p.key) before r x (between_left lo hi before p behind between) e in
      let high = here x (front before (p ∷ behind) r x e) in
      absurd (omega (arith, low, high, is))
  | inr more ↦ elim (cases_lt (length before) r) [
    | inl past ↦ let low = below (length before) p past (get_at before p behind) in absurd (omega (arith, low, is))
    | inr most ↦ omega (arith, more, most)
  ]
]
  where
    front : (xs zs : List Item) (k : ℕ) (x : Item) → slice_get xs k ≡ Some x → slice_get (xs ++ zs) k ≡ Some x
    front [] zs k x e = absurd cc
    front (y ∷ ys) zs zero x e = e
    front (y ∷ ys) zs (suc k) x e = front ys zs k x e

take_more : (xs : List Item) (p : Item) (ys : List Item) → take (length xs + 1) (xs ++ p ∷ ys) ≡ xs ++ p ∷ []
take_more [] p ys = refl
take_more (x ∷ xs) p ys = ap (λ k. take k (x ∷ (xs ++ p ∷ ys)))
    (let step : length (x ∷ xs) + 1 ≡ suc (length xs + 1) = omega arith in step) ∙ ap (λ zs. x ∷ zs) (take_more xs p ys)

drop_more : (xs : List Item) (p : Item) (ys : List Item) → drop (length xs + 1) (xs ++ p ∷ ys) ≡ ys
drop_more [] p ys = refl
drop_more (x ∷ xs) p ys = ap (λ k. drop k (x ∷ (xs ++ p ∷ ys)))
    (let step : length (x ∷ xs) + 1 ≡ suc (length xs + 1) = omega arith in step) ∙ drop_more xs p ys

-- pointers put in behind the item at that place
pub put_behind : (items before : List Item) (p : Item) (behind : List Item) (at : ℕ) (cells : List CellSeen) → items ≡ before
    ++ p ∷ behind → at ≡ length before → with_pointers items at cells ≡ before ++ p ∷ (map pointer_item cells ++ behind)
put_behind items before p behind at cells is here =
    ap (λ zs. take (at + 1) zs ++ (map pointer_item cells ++ drop (at + 1) zs)) is
    ∙ (ap (λ k. take (k + 1) (before ++ p ∷ behind) ++ (map pointer_item cells ++ drop (k + 1) (before ++ p ∷ behind))) here
    ∙ (ap (λ zs. zs ++ (map pointer_item cells ++ drop (length before + 1) (before ++ p ∷ behind))) (take_more before p behind)
    ∙ (ap (λ zs. (before ++ p ∷ []) ++ (map pointer_item cells ++ zs)) (drop_more before p behind)
    ∙ append_assoc before (p ∷ []) (map pointer_item cells ++ behind))))

-- ---- the bodies of a node's items

weighs_most : (xs : List Item) (k : ℕ) (x : Item) → slice_get xs k ≡ Some x → weight_of x ≤ weight xs
weighs_most [] k x e = absurd cc
weighs_most (y ∷ ys) zero x e = let same = ap weight_of (same_Some y x e) in let sum = weight_cons y ys in
    omega (arith, same, sum)
weighs_most (y ∷ ys) (suc k) x e = let h = weighs_most ys k x e in let sum = weight_cons y ys in omega (arith, h, sum)

pub node_weighs : (b : List ℕ) → IsLaid b → weight (items_of b) ≤ 4068
node_weighs b laid = let s = space b laid in omega (arith, s)

pub bodied : (b : List ℕ) → IsLaid b → (k : ℕ) (x : Item) → slice_get (items_of b) k ≡ Some x → (1 ≤ length x.body)
    × (length x.body ≤ 4030)
bodied b laid k x e =
    let within = slice_get_within (items_of b) k x e in
    let long = length-items_of b in
    let is : get_or (items_of b) k x
    ≡ item_at (count_of b) b k = get_or-items_of b (count_of b) k x refl (omega (arith, within, long)) in
    let at : x ≡ item_at (count_of b) b k = sym (get_or_from_slice_get (items_of b) k x x e) ∙ is in
    let most = weighs_most (items_of b) k x e in
    let whole = node_weighs b laid in (
      subst (λ (y : Item). 1 ≤ length y.body) (sym at)
          (item_bodied b (count_of b) k laid refl (omega (arith, within, long))),
      omega (arith, most, whole),
    )

pub weighs_length : (xs : List Item) → 38 * length xs ≤ weight xs
weighs_length [] = omega arith
weighs_length (x ∷ xs) = let h = weighs_length xs in let sum = weight_cons x xs in omega (arith, h, sum)
