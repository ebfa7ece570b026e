-- The tree of a fresh volume: its two cells, and the one unit.
use Rattle.std.specs.Prelude.{◌≡◌, ◌⊎◌, ℕ, zero, suc, ◌<◌, ◌≤◌, List, [], ◌∷◌, cond, Contains, Some, None, Ok, true, false, nat_lt, ◌==◌, if◌then◌else◌}
use mathlib.Core.Path.{refl, sym, ap, subst, ◌∙◌}
use mathlib.Core.Logic.{inl, inr}
use native.Mathlib.Omega.{arith}
use Rattle.std.proofs.Math.Dec.{lit<}
use Rattle.std.proofs.Math.Decide.{ℕ_discrete}
use Rattle.std.proofs.Math.Nat.{le_refl}
use Rattle.std.proofs.lemmas.Bool.{lt-ltb}
use Rattle.std.proofs.lemmas.Option.{same_Some}
use Rattle.std.specs.Ordering.{nat_cmp, eq_by_cmp}
use Rattle.std.specs.FinMap.{get-insert, get-empty, empty}
use Rattle.std.proofs.lemmas.Cmp.{nat_cmp_total}
use Rattle.std.proofs.lemmas.Grind.{common_steps}
use Rattle.r4_base.specs.Bytes.{FieldsFit, number_at, number_bytes}
use Rattle.r4_base.specs.Key.{rank, least, top}
use Rattle.r4_base.specs.Stat.{stat_body, stat_fields, stat_of, attr_of}
use Rattle.r4_base.specs.Extents.{pointer_of}
use Rattle.r4_base.specs.Value.{Value, Stat, at_key}
use Rattle.r4_base.specs.Tree.{Name, Span, Node as Cell, Store, Root, Fits, IsNode, IsTree}
use Rattle.r4_base.specs.Cell.{cell_fault, cell_of, items_in_fault, item_body_fault, item_end, item_names, item_units, names_in, spans_in, units_in}
use Rattle.r4_base.specs.Volume.{HasUnits, empty_volume, root_attr}
use Rattle.r4_base.specs.Fresh.{HasOneItem, root_key}
use Rattle.r4_base.proofs.Stats.{stat_again, attr_again}
use Rattle.r4_base.proofs.Choices.{nothing_in}

pub least_below : least < top
unfolding least top
least_below = lit< tt

pub only : {A : Type 0} (x y : A) → Contains (x ∷ []) y → y ≡ x
only x y (zero, l, e) = sym e
only x y (suc k, l, e) = absurd (omega (arith, l))

unfoldable pub down : Name
down = record { id = 23; level = 1; lo = least; hi = top }

unfoldable pub fresh_twig : List ℕ → Cell Value
fresh_twig b = record { level = 2; lo = least; hi = top; block = b; names = down ∷ []; spans = []; units = [] }

unfoldable pub fresh_leaf : List ℕ → Cell Value
fresh_leaf b = record { level = 1; lo = least; hi = top; block = b; names = []; spans = []; units = (least, Stat root_attr) ∷ [] }

-- ---- the blocks are read as these cells

pointer_23 : pointer_of (number_bytes 8 23) ≡ Some 23
unfolding pointer_of number_bytes number_at
pointer_23 = refl

root_fits : FieldsFit (stat_fields root_attr)
root_fits = (lit< tt, (lit< tt, (lit< tt, (lit< tt, (lit< tt, (lit< tt, (lit< tt, (lit< tt, (lit< tt, tt)))))))))

stat_root : stat_of (stat_body root_attr) ≡ Ok root_attr
stat_root = stat_again root_attr root_fits refl

attr_root : attr_of (stat_body root_attr) ≡ root_attr
attr_root = attr_again root_attr root_fits

root_rank : rank root_key ≡ least
unfolding rank least
root_rank = refl

pub twig_sound : (n : ℕ) (b : List ℕ) → 64 ≤ n → HasOneItem b 2 3 (number_bytes 8 23) → cell_fault false n 2 least top b ≡ None
unfolding cell_fault items_in_fault item_body_fault item_end least top rank
twig_sound n b low h = let lt : nat_lt 23 n ≡ true = lt-ltb 23 n (omega (arith, low)) in rw (h.sound, h.level_is, h.items, pointer_23, lt) refl

pub twig_says : (b : List ℕ) → HasOneItem b 2 3 (number_bytes 8 23) → fresh_twig b ≡ cell_of 2 least top b
unfolding fresh_twig cell_of down names_in spans_in units_in item_names item_units rank least
twig_says b h = rw (h.items, pointer_23) refl

pub leaf_sound : (n : ℕ) (b : List ℕ) → HasOneItem b 1 0 (stat_body root_attr) → cell_fault false n 1 least top b ≡ None
unfolding cell_fault items_in_fault item_body_fault item_end least top rank
leaf_sound n b h = rw (h.sound, h.level_is, h.items, stat_root) refl

pub leaf_says : (b : List ℕ) → HasOneItem b 1 0 (stat_body root_attr) → fresh_leaf b ≡ cell_of 1 least top b
unfolding fresh_leaf cell_of names_in spans_in units_in item_names item_units rank least
leaf_says b h = rw (h.items, attr_root) refl

-- ---- the tree

unfoldable pub fresh_root : Root
fresh_root = record { id = 22; height = 2 }

-- the cells of a fresh volume, whose blocks these are
pub fresh_store : (twig leaf : List ℕ) → Store Value
fresh_store a b i = if i == 22 then Some (fresh_twig a) else if i == 23 then Some (fresh_leaf b) else None

module _ (a b : List ℕ) where
  pub twig_there : fresh_store a b 22 ≡ Some (fresh_twig a)
  unfolding fresh_store
  twig_there = refl

  pub leaf_there : fresh_store a b 23 ≡ Some (fresh_leaf b)
  unfolding fresh_store
  leaf_there = refl

  -- a cell is one of the two
  pub fresh_cell : (i : ℕ) (c : Cell Value) → fresh_store a b i ≡ Some c → ((i ≡ 22) × (c ≡ fresh_twig a)) ⊎ ((i ≡ 23) × (c ≡ fresh_leaf b))
  unfolding fresh_store
  fresh_cell i c e = elim (ℕ_discrete i 22) [
    | yes x ↦ inl (x, sym (same_Some (fresh_twig a) c (subst (λ y. fresh_store a b y ≡ Some c) x e)))
    | no x ↦ elim (ℕ_discrete i 23) [
      | yes y ↦ inr (y, sym (same_Some (fresh_leaf b) c (subst (λ z. fresh_store a b z ≡ Some c) y e)))
      | no y ↦ absurd (neither x y)
    ]
  ]
    where
      neither : ¬ (i ≡ 22) → ¬ (i ≡ 23) → ⊥
      neither x y = grind (arith, common_steps, x, y, e)

  twig_node : IsNode (fresh_twig a)
  unfolding down fresh_twig
  twig_node = record {
    from_least = le_refl least;
    nonempty = least_below;
    to_top = le_refl top;
    below = λ n h. let e = only down n h in inl (omega (arith, ap (λ x. x.level) e), omega (arith, ap (λ x. x.level) e));
    name_nonempty = λ n h. let e = only down n h in subst (λ x. x.lo < x.hi) (sym e) least_below;
    name_from = λ n h. let e = only down n h in omega (arith, ap (λ x. x.lo) e);
    name_to = λ n h. let e = only down n h in omega (arith, ap (λ x. x.hi) e);
    names_apart = λ n m k x y _ _ _. only down n x ∙ sym (only down m y);
    spans_apart = λ n s k _ y _ _. absurd (nothing_in s y);
    span_from = λ s h. absurd (nothing_in s h);
    span_to = λ s h. absurd (nothing_in s h);
    spans_in_twigs = λ s h. absurd (nothing_in s h);
    covered = λ k _ at. inl (down, (zero, omega arith, refl), refl, at);
    data_in_span = λ n h low. let e = only down n h in absurd (omega (arith, ap (λ x. x.level) e, low));
    unit_in = λ k v h. absurd (nothing_in (k, v) h);
    unit_low = λ k v h. absurd (nothing_in (k, v) h);
    unit_in_hole = λ n k v _ _ h _. nothing_in (k, v) h;
    one_unit = λ k v w h _. absurd (nothing_in (k, v) h);
  }

  leaf_node : IsNode (fresh_leaf b)
  unfolding fresh_leaf
  leaf_node = record {
    from_least = le_refl least;
    nonempty = least_below;
    to_top = le_refl top;
    below = λ n h. absurd (nothing_in n h);
    name_nonempty = λ n h. absurd (nothing_in n h);
    name_from = λ n h. absurd (nothing_in n h);
    name_to = λ n h. absurd (nothing_in n h);
    names_apart = λ n m k x y _ _ _. absurd (nothing_in n x);
    spans_apart = λ n s k x _ _ _. absurd (nothing_in n x);
    span_from = λ s h. absurd (nothing_in s h);
    span_to = λ s h. absurd (nothing_in s h);
    spans_in_twigs = λ s h. absurd (nothing_in s h);
    covered = λ k two _. absurd (omega (arith, two));
    data_in_span = λ n h _. absurd (nothing_in n h);
    unit_in = λ k v h. let e = only (least, Stat root_attr) (k, v) h in let at : k ≡ least = ap (λ x. x.0) e in let full = least_below in (omega (arith, at), omega (arith, at, full));
    unit_low = λ k v h. inl (le_refl 1);
    unit_in_hole = λ n k v x _ _ _. nothing_in n x;
    one_unit = λ k v w x y. ap (λ z. z.1) (only (least, Stat root_attr) (k, v) x) ∙ sym (ap (λ z. z.1) (only (least, Stat root_attr) (k, w) y));
  }

  level_is : (i : ℕ) (c : Cell Value) → fresh_store a b i ≡ Some c → ((i ≡ 22) × (c.level ≡ 2)) ⊎ ((i ≡ 23) × (c.level ≡ 1))
  unfolding fresh_twig fresh_leaf
  level_is i c e = elim (fresh_cell i c e) [
    | inl h ↦ inl (h.0, ap (λ x. x.level) h.1)
    | inr h ↦ inr (h.0, ap (λ x. x.level) h.1)
  ]

  no_span : (i : ℕ) (c : Cell Value) (s : Span) → fresh_store a b i ≡ Some c → Contains c.spans s → ⊥
  unfolding fresh_twig fresh_leaf
  no_span i c s e h = elim (fresh_cell i c e) [
    | inl g ↦ nothing_in s (subst (λ x. Contains x.spans s) g.1 h)
    | inr g ↦ nothing_in s (subst (λ x. Contains x.spans s) g.1 h)
  ]

  fresh_named : (i : ℕ) (c : Cell Value) (n : Name) → fresh_store a b i ≡ Some c → Contains c.names n → (d : Cell Value) × (fresh_store a b n.id ≡ Some d) × Fits n d
  unfolding down fresh_twig fresh_leaf
  fresh_named i c n e h = elim (fresh_cell i c e) [
    | inr g ↦ absurd (nothing_in n (subst (λ x. Contains x.names n) g.1 h))
    | inl g ↦
        let is : n ≡ down = only down n (subst (λ x. Contains x.names n) g.1 h) in
        (fresh_leaf b, subst (λ x. fresh_store a b x.id ≡ Some (fresh_leaf b)) (sym is) leaf_there, record { level = ap (λ x. x.level) (sym is); lo = ap (λ x. x.lo) (sym is); hi = ap (λ x. x.hi) (sym is) })
  ]

  pub fresh_is_tree : IsTree (fresh_store a b) fresh_root
  unfolding fresh_root fresh_twig
  fresh_is_tree = record {
    nodes = λ i c e. elim (fresh_cell i c e) [
      | inl h ↦ subst IsNode (sym h.1) twig_node
      | inr h ↦ subst IsNode (sym h.1) leaf_node
    ];
    root_node = fresh_twig a;
    root_is = twig_there;
    root_level = refl;
    root_lo = refl;
    root_hi = refl;
    height = le_refl 2;
    none_above = λ i c e. elim (level_is i c e) [ inl h ↦ omega (arith, h) | inr h ↦ omega (arith, h) ];
    named = fresh_named;
    apart = λ i j c d k x y same _ _ _. elim (level_is i c x) [
      | inl h ↦ elim (level_is j d y) [ inl g ↦ omega (arith, h, g) | inr g ↦ absurd (omega (arith, h, g, same)) ]
      | inr h ↦ elim (level_is j d y) [ inl g ↦ absurd (omega (arith, h, g, same)) | inr g ↦ omega (arith, h, g) ]
    ];
    leaf_or_extent = λ i j c d s k _ y _ h _ _. no_span j d s y h;
    data_named = λ i c e low. absurd (elim (level_is i c e) [ inl h ↦ omega (arith, h, low) | inr h ↦ omega (arith, h, low) ]);
  }

at_empty : (k : ℕ) → at_key empty_volume k ≡ cond (eq_by_cmp nat_cmp k least) (Some (Stat root_attr)) None
unfolding empty_volume
at_empty k = get-insert nat_cmp_total empty least (Stat root_attr) k ∙ ap (cond (eq_by_cmp nat_cmp k least) (Some (Stat root_attr))) (get-empty nat_cmp k)

pub found : (k : ℕ) (v : Value) → at_key empty_volume k ≡ Some v → (k ≡ least) × (v ≡ Stat root_attr)
found k v e = grind (arith, common_steps, at_empty k, e)

pub root_at : at_key empty_volume least ≡ Some (Stat root_attr)
root_at = at_empty least ∙ grind (arith, common_steps)

pub fresh_units : (a b : List ℕ) → HasUnits (fresh_store a b) empty_volume
unfolding fresh_twig fresh_leaf
fresh_units a b k v = (
  λ e.
      let (is, value) = found k v e in
      (23, fresh_leaf b, leaf_there a b, (zero, omega arith, λ i. (sym is i, sym value i))),
  λ u.
      let (i, c, tc, has) = u in
      elim (fresh_cell a b i c tc) [
        | inl h ↦ absurd (nothing_in (k, v) (subst (λ x. Contains x.units (k, v)) h.1 has))
        | inr h ↦
            let e = only (least, Stat root_attr) (k, v) (subst (λ x. Contains x.units (k, v)) h.1 has) in
            let at : k ≡ least = ap (λ x. x.0) e in
            let value : v ≡ Stat root_attr = ap (λ x. x.1) e in
            ap (at_key empty_volume) at ∙ root_at ∙ ap Some (sym value)
      ],
)
