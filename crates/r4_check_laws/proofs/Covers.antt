-- Which part of a body has a key: one at most.
use Rattle.std.proofs.Common.{◌≡◌, inl, inr, ℕ, zero, suc, ◌+◌, ◌*◌, ◌^◌, ◌<◌, ◌≤◌, Bool, true, false, List, [], ◌∷◌, length, map, refl, sym, ap, subst, ◌∙◌, arith}
use Rattle.std.specs.Prelude.{Contains, None, sum_by, nat_le, nat_lt, ◌&&◌}
use Rattle.std.specs.List.{flat_map}
use Rattle.std.proofs.lemmas.Bool.Decides.{nat_tests}
use Rattle.std.proofs.lemmas.List.Sums.{sum_by-append, sum_by-cons}
use Rattle.r4_base.specs.Cell.{cell_fault, cell_of, item_end}
use Rattle.r4_base.specs.Dir.{Entry as DirEntry, entries_of}
use Rattle.r4_base.specs.Extents.{blocks_in, units_of}
use Rattle.r4_base.specs.Key.{rank}
use Rattle.r4_base.specs.Node.{Item, items_of}
use Rattle.r4_base.specs.Stat.{attr_of}
use Rattle.r4_base.specs.Tree.{InNode, Node}
use Rattle.r4_base.specs.Value.{Value}
use Rattle.r4_check.proofs.r4_cell.NodesAt.{node_at, plugins_at}
use Rattle.r4_check.specs.Walk.{found_in}
use Rattle.r4_check_objects.specs.Held.{counted, facts_of, held_at, held_by, held_entry, held_in}
use Rattle.r4_check_objects.specs.Objects.{once}
use Rattle.r4_check_objects.specs.declared.held.Held.{Held}
use Rattle.r4_check_objects.specs.declared.held.Thing.{Thing}
use Rattle.r4_check_objects.specs.declared.held.Thing.TheVariants.{Entry, Extent, Stat, Tail}
use Rattle.r4_check_objects.specs.declared.held.Facts.{Facts}
use Rattle.r4_base.specs.declared.items.Target.{Target}
use Rattle.r4_branch.proofs.Filled.{item_has_end as twig_item_ends, lie_order as twig_order}
use Rattle.r4_branch.proofs.SoundItems.{extent_item}
use Rattle.r4_branch.proofs.Standing.{stand_lie as twig_lie}
use Rattle.r4_branch.specs.Items.{IsSoundItem as IsOfTwig, Lie as LieInTwig}
use Rattle.r4_check.proofs.r4_cell.Faults.{cell_still}
use Rattle.r4_leaf.proofs.Packed.{lie_order as leaf_order}
use Rattle.r4_leaf.proofs.SoundItems.{item_has_end as leaf_item_ends, tail_item}
use Rattle.r4_leaf.proofs.Standing.{stand_lie as leaf_lie}
use Rattle.r4_leaf.specs.Items.{IsSoundItem as IsOfLeaf, Lie as LieInLeaf}
use Rattle.r4_check_laws.proofs.Lists.{here, later}
use Rattle.r4_check_laws.proofs.Pairs.{IsTail, dir_held, extent_held, extent_thing, pointer_held, stat_held, tail_held}
use Rattle.r4_check_laws.proofs.Parts.{AreRead, cell_held, upper_pointers}
use Rattle.r4_check_laws.proofs.Stores.{AreOnce, Cells}
use Rattle.r4_check_laws.proofs.Totals.{lies_in}

-- how many bytes a thing has of bodies of a kind: those of tails, or those of extents
pub record IsLong (long : Thing → ℕ) : Type 0 where
  pub stat : (f : Facts) → long (Stat f) ≡ 0
  pub entry : (t : Target) → long (Entry t) ≡ 0
  pub tail : (n : ℕ) → long (Tail n) ≤ n
  pub extent : (n : ℕ) → long (Extent n) ≤ 4096 * n

abbrev pub covers : (long : Thing → ℕ) → (k : ℕ) → Held → ℕ
covers long k h = once (lies_in (rank h.key) (long h.thing) k)

-- at most one, and where it is one the key lies in the range
abbrev pub IsOneIn : (from to k n : ℕ) → Type 0
IsOneIn from to k n = (n ≤ 1) × (1 ≤ n → (from ≤ k) × (k < to))

one_by : (from long to k : ℕ) → from + long ≤ to → IsOneIn from to k (once (lies_in from long k))
one_by from long to k within = by (nat_le from k) (nat_lt k (from + long)) refl refl
  where
    by : (a b : Bool) → nat_le from k ≡ a → nat_lt k (from + long) ≡ b → IsOneIn from to k (once (a && b))
    by true true p q = (omega arith, λ some. (grind (arith, nat_tests), grind (arith, nat_tests)))
    by true false p q = (omega arith, λ some. absurd (omega (arith, some)))
    by false b p q = (omega arith, λ some. absurd (omega (arith, some)))

nothing_lies : (from long k : ℕ) → long ≡ 0 → once (lies_in from long k) ≡ 0
nothing_lies from long k none = by (nat_le from k) (nat_lt k (from + long)) refl refl
  where
    by : (a b : Bool) → nat_le from k ≡ a → nat_lt k (from + long) ≡ b → once (a && b) ≡ 0
    by true true p q = absurd (grind (arith, nat_tests))
    by true false p q = refl
    by false b p q = refl

one_none : (from to k n : ℕ) → n ≡ 0 → IsOneIn from to k n
one_none from to k n none = (omega (arith, none), λ some. absurd (omega (arith, none, some)))

one_as : (from to k n m : ℕ) → n ≡ m → IsOneIn from to k m → IsOneIn from to k n
one_as from to k n m e h = subst (IsOneIn from to k) (sym e) h

-- two ranges side by side
one_both : (from mid to end k n m : ℕ) → mid ≤ to → from ≤ to → mid ≤ end → to ≤ end → IsOneIn from mid k n → IsOneIn to end k m → IsOneIn from end k (n + m)
one_both from mid to end k n m a b c d x y = by n m refl refl
  where
    by : (i j : ℕ) → n ≡ i → m ≡ j → IsOneIn from end k (n + m)
    by zero zero p q = (omega (arith, p, q), λ some. absurd (omega (arith, p, q, some)))
    by zero (suc j) p q = let few = y.0 in let at = y.1 (omega (arith, q)) in (omega (arith, p, few), λ some. (omega (arith, b, at), omega (arith, at)))
    by (suc i) zero p q = let few = x.0 in let at = x.1 (omega (arith, p)) in (omega (arith, q, few), λ some. (omega (arith, at), omega (arith, c, at)))
    by (suc i) (suc j) p q = let at = x.1 (omega (arith, p)) in let also = y.1 (omega (arith, q)) in absurd (omega (arith, at, also, a))

module _ (long : Thing → ℕ) (is : IsLong long) (k : ℕ) where
  entries_none : (b : ℕ) (es : List DirEntry) → sum_by (covers long k) (map (held_entry b) es) ≡ 0
  entries_none b [] = refl
  entries_none b (e ∷ es) =
      let rest = entries_none b es in
      let sum = sum_by-cons (covers long k) (held_entry b e) (map (held_entry b) es) in
      let none = nothing_lies (rank e.key) (long (Entry e.target)) k (is.entry e.target) in
      omega (arith, rest, sum, none)

  abbrev sum_in : List Held → ℕ
  sum_in hs = sum_by (covers long k) hs

  one_held : (h : Held) → sum_in (h ∷ []) ≡ covers long k h
  one_held h = let e = sum_by-cons (covers long k) h [] in omega (arith, e)

  leaf_item : (b : ℕ) (it : Item) → IsOfLeaf it → IsOneIn (rank it.key) (item_end it) k (sum_in (held_by b it))
  leaf_item b it s = elim s.plugin [
    | inl stat ↦ one_as (rank it.key) (item_end it) k _ _ (ap sum_in (stat_held b it stat) ∙ one_held (held_at b it.key (Stat (facts_of (attr_of it.body))))) (one_none (rank it.key) (item_end it) k _ (nothing_lies (rank it.key) (long (Stat (facts_of (attr_of it.body)))) k (is.stat (facts_of (attr_of it.body)))))
    | inr (inl dir) ↦ one_as (rank it.key) (item_end it) k _ _ (ap sum_in (dir_held b it dir)) (one_none (rank it.key) (item_end it) k _ (entries_none b (entries_of it.key it.body)))
    | inr (inr tail) ↦
        let t = tail_item it tail s in
        let end = t.end in
        let short = is.tail (length it.body) in
        let other : IsTail it = record { no_stat = λ e. omega (arith, tail, e); no_dir = λ e. omega (arith, tail, e); no_pointer = λ e. omega (arith, tail, e); no_extent = λ e. omega (arith, tail, e) } in
        one_as (rank it.key) (item_end it) k _ _ (ap sum_in (tail_held b it other) ∙ one_held (held_at b it.key (Tail (length it.body)))) (one_by (rank it.key) (long (Tail (length it.body))) (item_end it) k (omega (arith, end, short)))
  ]

  twig_item : (b : ℕ) (it : Item) → IsOfTwig it → IsOneIn (rank it.key) (item_end it) k (sum_in (held_by b it))
  twig_item b it s = elim s.plugin [
    | inl pointer ↦ one_as (rank it.key) (item_end it) k _ _ (ap sum_in (pointer_held b it pointer)) (one_none (rank it.key) (item_end it) k 0 refl)
    | inr extent ↦
        let t = extent_item it extent s in
        let end = t.end in
        let short = is.extent (counted (blocks_in (units_of it.body))) in
        one_as (rank it.key) (item_end it) k _ _ (ap sum_in (extent_held b it extent) ∙ one_held (held_at b it.key (extent_thing it))) (one_by (rank it.key) (long (extent_thing it)) (item_end it) k (omega (arith, end, short)))
  ]

  leaf_items : (b from to : ℕ) (items : List Item) → LieInLeaf from to items → IsOneIn from to k (sum_in (flat_map (held_by b) items))
  leaf_items b from to [] lie = one_none from to k 0 refl
  leaf_items b from to (it ∷ items) lie =
      let first = leaf_item b it lie.1 in
      let rest = leaf_items b (item_end it) to items lie.2 in
      let low = lie.0 in
      let ends = leaf_item_ends it lie.1 in
      let order = leaf_order (item_end it) to items lie.2 in
      one_as from to k _ _ (sum_by-append (covers long k) (held_by b it) (flat_map (held_by b) items))
      (one_both from (item_end it) (item_end it) to k _ _ (omega arith) (omega (arith, low, ends)) order order (first.0, λ some. (let both = first.1 some in let a = both.0 in (omega (arith, a, low), both.1))) rest)

  twig_items : (b from to : ℕ) (items : List Item) → LieInTwig from to items → IsOneIn from to k (sum_in (flat_map (held_by b) items))
  twig_items b from to [] lie = one_none from to k 0 refl
  twig_items b from to (it ∷ items) lie =
      let first = twig_item b it lie.1 in
      let rest = twig_items b (item_end it) to items lie.2 in
      let low = lie.0 in
      let ends = twig_item_ends it lie.1 in
      let order = twig_order (item_end it) to items lie.2 in
      one_as from to k _ _ (sum_by-append (covers long k) (held_by b it) (flat_map (held_by b) items))
      (one_both from (item_end it) (item_end it) to k _ _ (omega arith) (omega (arith, low, ends)) order order (first.0, λ some. (let both = first.1 some in let a = both.0 in (omega (arith, a, low), both.1))) rest)

  pointers_none : (b : ℕ) (items : List Item) → ((x : Item) → Contains items x → x.plugin ≡ 3) → sum_in (flat_map (held_by b) items) ≡ 0
  pointers_none b [] all = refl
  pointers_none b (it ∷ items) all =
      let sum = sum_by-append (covers long k) (held_by b it) (flat_map (held_by b) items) in
      let first : sum_in (held_by b it) ≡ 0 = ap sum_in (pointer_held b it (all it (here it items))) in
      let rest = pointers_none b items (λ x at. all x (later it items x at)) in
      omega (arith, sum, first, rest)

  cell_covers : (blocks i level lo hi : ℕ) (b : List ℕ) → blocks ≤ 2 ^ 64 → length b ≡ 4096 → lo ≤ hi → cell_fault false blocks level lo hi b ≡ None → IsOneIn lo hi k (sum_in (held_in i (cell_of level lo hi b)))
  unfolding cell_of
  cell_covers blocks i zero lo hi b few whole order sound = one_none lo hi k 0 refl
  cell_covers blocks i (suc zero) lo hi b few whole order sound =
      leaf_items i lo hi (items_of b) (leaf_lie lo hi b (whole, cell_still false blocks (2 ^ 64) 1 lo hi b few sound) (inl order))
  cell_covers blocks i (suc (suc zero)) lo hi b few whole order sound =
      twig_items i lo hi (items_of b) (twig_lie lo hi b (whole, cell_still false blocks (2 ^ 64) 2 lo hi b few sound))
  cell_covers blocks i (suc (suc (suc l))) lo hi b few whole order sound =
      let node = node_at false blocks (suc (suc (suc l))) lo hi b (omega arith) sound in
      one_as lo hi k _ _ (ap sum_in (cell_held i (suc (suc (suc l))) lo hi b (omega arith))) (one_none lo hi k _ (pointers_none i (items_of b) (upper_pointers (suc (suc (suc l))) (items_of b) (omega arith) (plugins_at false blocks (suc (suc (suc l))) lo hi b whole node))))

  -- where no two cells of a level have a key in common, and all that counts stands at one level, at most one part has the key
  module _ (blocks lv : ℕ) (all : Cells) (read : AreRead blocks all) (one_level : (i : ℕ) (c : Node Value) → Contains all (i, c) → 1 ≤ sum_in (held_in i c) → c.level ≡ lv)
      (apart : (i j : ℕ) (c d : Node Value) → Contains all (i, c) → Contains all (j, d) → c.level ≡ lv → d.level ≡ lv → InNode c k → InNode d k → i ≡ j) where
    one_cell : (i : ℕ) (c : Node Value) → Contains all (i, c) → IsOneIn c.lo c.hi k (sum_in (held_in i c))
    one_cell i c at =
        let r = read i c at in
        let order = r.node.nonempty in
        subst (λ (d : Node Value). IsOneIn c.lo c.hi k (sum_in (held_in i d))) (sym r.says) (cell_covers blocks i c.level c.lo c.hi r.block r.few r.whole (omega (arith, order)) r.sound)

    abbrev IsOneOf : Cells → ℕ → Type 0
    IsOneOf cells n = (n ≤ 1) × (1 ≤ n → (i : ℕ) × (c : Node Value) × Contains cells (i, c) × (c.level ≡ lv) × InNode c k)

    found_covers : (cells : Cells) → AreOnce cells → ((i : ℕ) (c : Node Value) → Contains cells (i, c) → Contains all (i, c)) → IsOneOf cells (sum_in (found_in cells))
    found_covers [] once sub = (omega arith, λ some. absurd (omega (arith, some)))
    found_covers (c ∷ cells) once sub =
        let rest = found_covers cells once.1 (λ i d at. sub i d (later c cells (i, d) at)) in
        let first = one_cell c.0 c.1 (sub c.0 c.1 (here c cells)) in
        let level = one_level c.0 c.1 (sub c.0 c.1 (here c cells)) in
        let sum = sum_by-append (covers long k) (found_in cells) (held_in c.0 c.1) in
        subst (IsOneOf (c ∷ cells)) (sym sum) (by (sum_in (found_in cells)) (sum_in (held_in c.0 c.1)) rest first level)
      where
        by : (n m : ℕ) → IsOneOf cells n → IsOneIn c.1.lo c.1.hi k m → (1 ≤ m → c.1.level ≡ lv) → IsOneOf (c ∷ cells) (n + m)
        by zero zero x y level = (omega arith, λ some. absurd (omega (arith, some)))
        by zero (suc m) x y level = (let few = y.0 in omega (arith, few), λ some. (c.0, c.1, here c cells, level (omega arith), y.1 (omega arith)))
        by (suc n) zero x y level = (let few = x.0 in omega (arith, few), λ some. (let (i, d, at, lv_is, in_node) = x.1 (omega arith) in (i, d, later c cells (i, d) at, lv_is, in_node)))
        by (suc n) (suc m) x y level =
            let (i, d, at, lv_is, in_node) = x.1 (omega arith) in
            let same : i ≡ c.0 = apart i c.0 d c.1 (sub i d (later c cells (i, d) at)) (sub c.0 c.1 (here c cells)) lv_is (level (omega arith)) in_node (y.1 (omega arith)) in
            absurd (once.0 d (subst (λ (x : ℕ). Contains cells (x, d)) same at))

    pub covered_once : AreOnce all → sum_in (found_in all) ≤ 1
    covered_once once = (found_covers all once (λ i c at. at)).0
