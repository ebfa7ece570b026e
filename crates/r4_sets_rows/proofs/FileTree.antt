-- The tree with one file is a tree.
use Rattle.std.specs.Prelude.{◌≡◌, ◌⊎◌, ℕ, zero, suc, ◌+◌, ◌<◌, ◌≤◌, List, [], ◌∷◌, Contains, Bool, true, false, Some}
use Rattle.std.proofs.Common.{arith, inl, inr, refl, sym, ap, subst, ◌∙◌}
use Rattle.std.proofs.Math.Decide.{ℕ_discrete, dec_le}
use Rattle.std.proofs.Math.Nat.{le_refl, lt_of_not-le}
use Rattle.std.proofs.lemmas.Grind.{common_steps}
use Rattle.std.proofs.lemmas.Option.{same_Some}
use Rattle.r4_base.specs.Key.{least, rank, top}
use Rattle.r4_base.specs.Tree.{Fits, InNode, InSpan, IsData, IsNode, IsTree, Name, Node, Span}
use Rattle.r4_base.specs.Value.{Value, Stat, Byte}
use Rattle.r4_base.proofs.Choices.{nothing_in}
use Rattle.r4_base.proofs.FreshTree.{only}
use Rattle.r4_patch.specs.SecondRoot.{small_root}
use Rattle.r4_sets_rows.specs.OneFile.{behind_at, body_at, extents_of, file_store, file_twig, file_with, left_leaf}
use Rattle.r4_sets_rows.specs.OneFile.{left_name, level_of, middle_cell, middle_name, right_leaf, right_name, stat_at}
use Rattle.r4_sets_rows.specs.OneFile.{the_extent, zeros}

-- ---- keys

pub low : least ≤ stat_at
unfolding least rank
low = omega arith

pub middle : stat_at < body_at
unfolding rank
middle = omega arith

pub high : body_at + 8192 < top
unfolding rank top
high = omega arith

-- ---- bytes 0

pub in_zeros : (from n k : ℕ) (v : Value) → Contains (zeros from n) (k, v) → (from ≤ k) × (k < from + n) × (v ≡ Byte 0)
unfolding zeros
in_zeros from zero k v h = absurd (nothing_in (k, v) h)
in_zeros from (suc n) k v (zero, lt, e) =
    let at : from ≡ k = ap (λ x. x.0) e in
    (omega (arith, at), omega (arith, at), sym (ap (λ x. x.1) e))
in_zeros from (suc n) k v (suc i, lt, e) =
    let (a, b, c) = in_zeros (from + 1) n k v (i, omega (arith, lt), e) in
    (omega (arith, a), omega (arith, b), c)

pub to_zeros : (from n k : ℕ) → from ≤ k → k < from + n → Contains (zeros from n) (k, Byte 0)
unfolding zeros
to_zeros from zero k le lt = absurd (omega (arith, le, lt))
to_zeros from (suc n) k le lt = elim (ℕ_discrete from k) [
  | yes is ↦ (zero, omega arith, λ i. (is i, Byte 0))
  | no other ↦ later (to_zeros (from + 1) n k (below from k other le) (omega (arith, lt)))
]
  where
    below : (a b : ℕ) → (a ≡ b → ⊥) → a ≤ b → a + 1 ≤ b
    below a b ne le = elim (dec_le (suc a) b) [
      | yes lt ↦ omega (arith, lt)
      | no past ↦ let back = lt_of_not-le past in absurd (ne (omega (arith, le, back)))
    ]

    later : Contains (zeros (from + 1) n) (k, Byte 0) → Contains ((from, Byte 0) ∷ zeros (from + 1) n) (k, Byte 0)
    later (i, lt, e) = (suc i, omega (arith, lt), e)

-- ---- the cells

module _ (t : Bool) (n j : ℕ) (few : j ≤ 4096) where
  pub twig_there : file_store t n j 22 ≡ Some (file_twig t)
  unfolding file_store
  twig_there = refl

  pub left_there : file_store t n j 23 ≡ Some (left_leaf n)
  unfolding file_store
  left_there = refl

  pub middle_there : file_store t n j 24 ≡ Some (middle_cell t)
  unfolding file_store
  middle_there = refl

  pub right_there : file_store t n j 25 ≡ Some (right_leaf j)
  unfolding file_store
  right_there = refl

  -- a cell is one of the four
  pub data IsOne (i : ℕ) (c : Node Value) : Type 0 where
    OfTwig : i ≡ 22 → c ≡ file_twig t → IsOne i c
    OfLeft : i ≡ 23 → c ≡ left_leaf n → IsOne i c
    OfMiddle : i ≡ 24 → c ≡ middle_cell t → IsOne i c
    OfRight : i ≡ 25 → c ≡ right_leaf j → IsOne i c

  same : (q : ℕ) (x c : Node Value) (i : ℕ) → i ≡ q → file_store t n j q ≡ Some x → file_store t n j i ≡ Some c → c ≡ x
  same q x c i is there e = same_Some c x (sym e ∙ ap (file_store t n j) is ∙ there)

  pub one_cell : (i : ℕ) (c : Node Value) → file_store t n j i ≡ Some c → IsOne i c
  unfolding file_store
  one_cell i c e = elim (ℕ_discrete i 22) [
    | yes a ↦ OfTwig a (same 22 (file_twig t) c i a twig_there e)
    | no a ↦ elim (ℕ_discrete i 23) [
      | yes b ↦ OfLeft b (same 23 (left_leaf n) c i b left_there e)
      | no b ↦ elim (ℕ_discrete i 24) [
        | yes d ↦ OfMiddle d (same 24 (middle_cell t) c i d middle_there e)
        | no d ↦ elim (ℕ_discrete i 25) [
          | yes f ↦ OfRight f (same 25 (right_leaf j) c i f right_there e)
          | no f ↦ absurd (none a b d f)
        ]
      ]
    ]
  ]
    where
      none : ¬ (i ≡ 22) → ¬ (i ≡ 23) → ¬ (i ≡ 24) → ¬ (i ≡ 25) → ⊥
      none a b d f = grind (arith, common_steps, a, b, d, f, e)

-- ---- each cell by itself

-- one of the twig's three names
three : (t : Bool) (m : Name) → Contains (left_name ∷ right_name ∷ middle_name t ∷ []) m → (m ≡ left_name)
    ⊎ ((m ≡ right_name) ⊎ (m ≡ middle_name t))
three t m (zero, lt, e) = inl (sym e)
three t m (suc zero, lt, e) = inr (inl (sym e))
three t m (suc (suc zero), lt, e) = inr (inr (sym e))
three t m (suc (suc (suc i)), lt, e) = absurd (omega (arith, lt))

is_left : (t : Bool) → Contains (left_name ∷ right_name ∷ middle_name t ∷ []) left_name
is_left t = (0, omega arith, refl)

is_right : (t : Bool) → Contains (left_name ∷ right_name ∷ middle_name t ∷ []) right_name
is_right t = (1, omega arith, refl)

is_middle : (t : Bool) → Contains (left_name ∷ right_name ∷ middle_name t ∷ []) (middle_name t)
is_middle t = (2, omega arith, refl)

-- what is so of the three names
each_name : (t : Bool) (P : Name → Type 0) → P left_name → P right_name → P (middle_name t) → (m : Name)
    → Contains (left_name ∷ right_name ∷ middle_name t ∷ []) m → P m
each_name t P l r m n h = elim (three t n h) [
  | inl e ↦ subst P (sym e) l
  | inr g ↦ elim g [ inl e ↦ subst P (sym e) r | inr e ↦ subst P (sym e) m ]
]

extent_is : (t : Bool) (s : Span) → Contains (extents_of t) s → (t ≡ false) × (s ≡ the_extent)
extent_is true s h = absurd (nothing_in s h)
extent_is false s h = (refl, only the_extent s h)

left_ends : (least ≤ body_at) × (least < body_at)
left_ends = let a = low in let b = middle in (omega (arith, a, b), omega (arith, a, b))

twig_node : (t : Bool) → IsNode (file_twig t)
twig_node t = record {
  from_least = le_refl least;
  nonempty = let a = low in let b = middle in let c = high in omega (arith, a, b, c);
  to_top = le_refl top;
  below = λ m. each_name t (λ m. ((1 ≤ m.level) × (suc m.level ≡ 2)) ⊎ (◌≡◌ {A = ℕ} 2 2 × IsData m))
      (inl (omega arith, refl)) (inl (omega arith, refl)) (of_level t) m;
  name_nonempty = each_name t (λ m. m.lo < m.hi) left_ends.1 (let c = high in omega (arith, c)) (omega arith);
  name_from = each_name t (λ m. least ≤ m.lo) (le_refl least) (let a = left_ends.0 in omega (arith, a)) left_ends.0;
  name_to = each_name t (λ m. m.hi ≤ top) (let c = high in omega (arith, c)) (le_refl top) (let c =
      high in omega (arith, c));
  names_apart = λ m q k hm hq same in_m in_q. apart m q k hm hq in_m in_q;
  spans_apart = λ m s k hm hs in_m in_s. in_extent m s k hm hs in_m in_s;
  span_from = λ s h. let e = (extent_is t s h).1 in let a = left_ends.0 in subst (λ x. least ≤ x.lo) (sym e) a;
  span_to = λ s h. let e = (extent_is t s h).1 in let c = high in subst (λ x. x.hi ≤ top) (sym e) (omega (arith, c));
  spans_in_twigs = λ s h. refl;
  covered = λ k two at. cover t k at;
  data_in_span = data_span t;
  unit_in = λ k v h. absurd (nothing_in (k, v) h);
  unit_low = λ k v h. absurd (nothing_in (k, v) h);
  unit_in_hole = λ m k v _ _ h _. nothing_in (k, v) h;
  one_unit = λ k v w h _. absurd (nothing_in (k, v) h);
}
  where
    of_level : (t : Bool) → ((1 ≤ level_of t) × (suc (level_of t) ≡ 2)) ⊎ (◌≡◌ {A = ℕ} 2 2 × (level_of t ≡ 0))
    of_level true = inl (omega arith, refl)
    of_level false = inr (refl, refl)

    data_span : (t : Bool) (m : Name) → Contains (left_name ∷ right_name ∷ middle_name t ∷ []) m → IsData m
        → (s : Span) × Contains (extents_of t) s × (s.lo ≤ m.lo) × (m.hi ≤ s.hi)
    data_span true m h = each_name true (λ m. IsData m → (s : Span) × Contains [] s × (s.lo ≤ m.lo) × (m.hi ≤ s.hi))
        (λ e. absurd (omega (arith, e))) (λ e. absurd (omega (arith, e))) (λ e. absurd (omega (arith, e))) m h
    data_span false m h = each_name false (λ m. IsData m → (s : Span) × Contains (the_extent ∷ []) s × (s.lo ≤ m.lo)
        × (m.hi ≤ s.hi)) (λ e. absurd (omega (arith, e))) (λ e. absurd (omega (arith, e)))
        (λ e. (the_extent, (0, omega arith, refl), omega arith, omega arith)) m h

    in_extent : (m : Name) (s : Span) (k : ℕ) → Contains (left_name ∷ right_name ∷ middle_name t ∷ []) m
        → Contains (extents_of t) s → (m.lo ≤ k) × (k < m.hi) → InSpan s k → IsData m
    in_extent m s k hm hs at_m at_s =
        let (no_tails, e) = extent_is t s hs in
        let at : (body_at ≤ k) × (k < behind_at) = subst (λ x. InSpan x k) e at_s in
        each_name t (λ m. (m.lo ≤ k) × (k < m.hi) → IsData m) (λ h. absurd (omega (arith, h, at)))
        (λ h. absurd (omega (arith, h, at))) (λ h. subst (λ q. level_of q ≡ 0) (sym no_tails) refl) m hm at_m

    apart : (m q : Name) (k : ℕ) → Contains (left_name ∷ right_name ∷ middle_name t ∷ []) m
        → Contains (left_name ∷ right_name ∷ middle_name t ∷ []) q → (m.lo ≤ k) × (k < m.hi) → (q.lo ≤ k) × (k < q.hi)
        → m ≡ q
    apart m q k hm hq = each_name t (λ m. (m.lo ≤ k) × (k < m.hi) → (q.lo ≤ k) × (k < q.hi) → m ≡ q)
        (each_name t (λ q. (least ≤ k) × (k < body_at) → (q.lo ≤ k) × (k < q.hi) → left_name ≡ q) (λ a b. refl)
        (λ a b. absurd (omega (arith, a, b))) (λ a b. absurd (omega (arith, a, b))) q hq)
        (each_name t (λ q. (behind_at ≤ k) × (k < top) → (q.lo ≤ k) × (k < q.hi) → right_name ≡ q)
        (λ a b. absurd (omega (arith, a, b))) (λ a b. refl) (λ a b. absurd (omega (arith, a, b))) q hq)
        (each_name t (λ q. (body_at ≤ k) × (k < behind_at) → (q.lo ≤ k) × (k < q.hi) → middle_name t ≡ q)
        (λ a b. absurd (omega (arith, a, b))) (λ a b. absurd (omega (arith, a, b))) (λ a b. refl) q hq)
        m hm

    by_middle : (t : Bool) (k : ℕ) → body_at ≤ k → k < behind_at
        → ((m : Name) × Contains (left_name ∷ right_name ∷ middle_name t ∷ []) m × (suc m.level ≡ 2)
        × ((m.lo ≤ k) × (k < m.hi)))
        ⊎ ((s : Span) × Contains (extents_of t) s × InSpan s k)
    by_middle true k a b = inl (middle_name true, is_middle true, refl, (a, b))
    by_middle false k a b = inr (the_extent, (0, omega arith, refl), (a, b))

    cover : (t : Bool) (k : ℕ) → (least ≤ k) × (k < top)
        → ((m : Name) × Contains (left_name ∷ right_name ∷ middle_name t ∷ []) m × (suc m.level ≡ 2)
        × ((m.lo ≤ k) × (k < m.hi)))
        ⊎ ((s : Span) × Contains (extents_of t) s × InSpan s k)
    cover t k (from, to) = elim (dec_le (suc k) body_at) [
      | yes left ↦ inl (left_name, is_left t, refl, (from, left))
      | no past ↦ elim (dec_le (suc k) behind_at) [
        | yes mid ↦ let a = lt_of_not-le past in by_middle t k (omega (arith, a)) mid
        | no far ↦ let a = lt_of_not-le far in inl (right_name, is_right t, refl, (omega (arith, a), to))
      ]
    ]

-- a cell with no names and no extents
leaf_node : (l lo hi : ℕ) (units : List (ℕ × Value)) → l ≤ 1 → least ≤ lo → lo < hi → hi ≤ top
    → ((k : ℕ) (v : Value) → Contains units (k, v) → (lo ≤ k) × (k < hi))
    → ((k : ℕ) (v w : Value) → Contains units (k, v) → Contains units (k, w) → v ≡ w)
    → IsNode (record { level = l; lo = lo; hi = hi; block = []; names = []; spans = []; units = units })
leaf_node l lo hi units leaf from some to within once = record {
  from_least = from;
  nonempty = some;
  to_top = to;
  below = λ n h. absurd (nothing_in n h);
  name_nonempty = λ n h. absurd (nothing_in n h);
  name_from = λ n h. absurd (nothing_in n h);
  name_to = λ n h. absurd (nothing_in n h);
  names_apart = λ n m k x y _ _ _. absurd (nothing_in n x);
  spans_apart = λ n s k x _ _ _. absurd (nothing_in n x);
  span_from = λ s h. absurd (nothing_in s h);
  span_to = λ s h. absurd (nothing_in s h);
  spans_in_twigs = λ s h. absurd (nothing_in s h);
  covered = λ k two _. absurd (omega (arith, two, leaf));
  data_in_span = λ n h _. absurd (nothing_in n h);
  unit_in = within;
  unit_low = λ k v h. inl leaf;
  unit_in_hole = λ n k v x _ _ _. nothing_in n x;
  one_unit = once;
}

both_zero : (from n k : ℕ) (v w : Value) → Contains (zeros from n) (k, v) → Contains (zeros from n) (k, w) → v ≡ w
both_zero from n k v w a b = (in_zeros from n k v a).2 ∙ sym (in_zeros from n k w b).2

left_node : (n : ℕ) → IsNode (left_leaf n)
left_node n = leaf_node 1 least body_at ((stat_at, Stat (file_with n)) ∷ []) (le_refl 1) (le_refl least) left_ends.1
    (let c = high in omega (arith, c))
    (λ k v h. let e : k ≡ stat_at = ap (λ x. x.0) (only (stat_at, Stat (file_with n)) (k, v) h) in let a =
    low in let b = middle in (omega (arith, e, a), omega (arith, e, b)))
    (λ k v w a b. ap (λ x. x.1) (only (stat_at, Stat (file_with n)) (k, v) a)
    ∙ sym (ap (λ x. x.1) (only (stat_at, Stat (file_with n)) (k, w) b)))

middle_node : (t : Bool) → IsNode (middle_cell t)
middle_node t = leaf_node (level_of t) body_at behind_at (zeros body_at 4096) (small t) left_ends.0 (omega arith)
    (let c = high in omega (arith, c))
    (λ k v h. let (a, b, _) = in_zeros body_at 4096 k v h in (a, b)) (both_zero body_at 4096)
  where
    small : (t : Bool) → level_of t ≤ 1
    small true = omega arith
    small false = omega arith

right_node : (j : ℕ) → j ≤ 4096 → IsNode (right_leaf j)
right_node j few = leaf_node 1 behind_at top (zeros behind_at j) (le_refl 1) (let a = left_ends.0 in omega (arith, a))
    (let c = high in omega (arith, c)) (le_refl top)
    (λ k v h. let (a, b, _) = in_zeros behind_at j k v h in let c = high in (a, omega (arith, b, c, few)))
    (both_zero behind_at j)

-- ---- the tree

module _ (t : Bool) (n j : ℕ) (few : j ≤ 4096) where
  -- where a cell stands
  data Band (i : ℕ) (c : Node Value) : Type 0 where
    Above : i ≡ 22 → c.level ≡ 2 → Band i c
    Left : i ≡ 23 → c.level ≡ 1 → c.hi ≡ body_at → Band i c
    Middle : i ≡ 24 → c.level ≡ level_of t → c.lo ≡ body_at → c.hi ≡ behind_at → Band i c
    Right : i ≡ 25 → c.level ≡ 1 → c.lo ≡ behind_at → Band i c

  band : (i : ℕ) (c : Node Value) → file_store t n j i ≡ Some c → Band i c
  band i c e = of (one_cell t n j few i c e)
    where
      of : IsOne t n j few i c → Band i c
      of (OfTwig a b) = Above a (ap (λ x. x.level) b)
      of (OfLeft a b) = Left a (ap (λ x. x.level) b) (ap (λ x. x.hi) b)
      of (OfMiddle a b) = Middle a (ap (λ x. x.level) b) (ap (λ x. x.lo) b) (ap (λ x. x.hi) b)
      of (OfRight a b) = Right a (ap (λ x. x.level) b) (ap (λ x. x.lo) b)

  node_of : (i : ℕ) (c : Node Value) → IsOne t n j few i c → IsNode c
  node_of i c (OfTwig a b) = subst IsNode (sym b) (twig_node t)
  node_of i c (OfLeft a b) = subst IsNode (sym b) (left_node n)
  node_of i c (OfMiddle a b) = subst IsNode (sym b) (middle_node t)
  node_of i c (OfRight a b) = subst IsNode (sym b) (right_node j few)

  low_level : level_of t ≤ 1
  low_level = small t
    where
      small : (t : Bool) → level_of t ≤ 1
      small true = omega arith
      small false = omega arith

  not_above : (i : ℕ) (c : Node Value) → Band i c → c.level ≤ 2
  not_above i c (Above a b) = omega (arith, b)
  not_above i c (Left a b d) = omega (arith, b)
  not_above i c (Middle a b d e) = let s = low_level in omega (arith, b, s)
  not_above i c (Right a b d) = omega (arith, b)

  names_of : (i : ℕ) (c : Node Value) (m : Name) → IsOne t n j few i c → Contains c.names m → (d : Node Value)
      × (file_store t n j m.id ≡ Some d) × Fits m d
  names_of i c m (OfTwig a b) h = each_name t (λ m. (d : Node Value) × (file_store t n j m.id ≡ Some d) × Fits m d)
      (left_leaf n, left_there t n j few, record { level = refl; lo = refl; hi = refl })
      (right_leaf j, right_there t n j few, record { level = refl; lo = refl; hi = refl })
      (middle_cell t, middle_there t n j few, record { level = refl; lo = refl; hi = refl }) m
      (subst (λ x. Contains x.names m) b h)
  names_of i c m (OfLeft a b) h = absurd (nothing_in m (subst (λ x. Contains x.names m) b h))
  names_of i c m (OfMiddle a b) h = absurd (nothing_in m (subst (λ x. Contains x.names m) b h))
  names_of i c m (OfRight a b) h = absurd (nothing_in m (subst (λ x. Contains x.names m) b h))

  bands_apart : (i q : ℕ) (c d : Node Value) (k : ℕ) → Band i c → Band q d → c.level ≡ d.level → InNode c k
      → InNode d k → i ≡ q
  bands_apart i q c d k (Above a b) (Above a2 b2) e x y = a ∙ sym a2
  bands_apart i q c d k (Above a b) (Left a2 b2 h2) e x y = absurd (omega (arith, b, b2, e))
  bands_apart i q c d k (Above a b) (Middle a2 b2 l2 h2) e x y = let s =
      low_level in absurd (omega (arith, b, b2, e, s))
  bands_apart i q c d k (Above a b) (Right a2 b2 l2) e x y = absurd (omega (arith, b, b2, e))
  bands_apart i q c d k (Left a b h) (Above a2 b2) e x y = absurd (omega (arith, b, b2, e))
  bands_apart i q c d k (Left a b h) (Left a2 b2 h2) e x y = a ∙ sym a2
  bands_apart i q c d k (Left a b h) (Middle a2 b2 l2 h2) e x y = absurd (omega (arith, h, l2, x, y))
  bands_apart i q c d k (Left a b h) (Right a2 b2 l2) e x y = absurd (omega (arith, h, l2, x, y))
  bands_apart i q c d k (Middle a b l h) (Above a2 b2) e x y = let s = low_level in absurd (omega (arith, b, b2, e, s))
  bands_apart i q c d k (Middle a b l h) (Left a2 b2 h2) e x y = absurd (omega (arith, l, h2, x, y))
  bands_apart i q c d k (Middle a b l h) (Middle a2 b2 l2 h2) e x y = a ∙ sym a2
  bands_apart i q c d k (Middle a b l h) (Right a2 b2 l2) e x y = absurd (omega (arith, h, l2, x, y))
  bands_apart i q c d k (Right a b l) (Above a2 b2) e x y = absurd (omega (arith, b, b2, e))
  bands_apart i q c d k (Right a b l) (Left a2 b2 h2) e x y = absurd (omega (arith, l, h2, x, y))
  bands_apart i q c d k (Right a b l) (Middle a2 b2 l2 h2) e x y = absurd (omega (arith, l, h2, x, y))
  bands_apart i q c d k (Right a b l) (Right a2 b2 l2) e x y = a ∙ sym a2

  span_in : (i : ℕ) (c : Node Value) (s : Span) → IsOne t n j few i c → Contains c.spans s → (t ≡ false)
      × (s ≡ the_extent)
  span_in i c s (OfTwig a b) h = extent_is t s (subst (λ x. Contains x.spans s) b h)
  span_in i c s (OfLeft a b) h = absurd (nothing_in s (subst (λ x. Contains x.spans s) b h))
  span_in i c s (OfMiddle a b) h = absurd (nothing_in s (subst (λ x. Contains x.spans s) b h))
  span_in i c s (OfRight a b) h = absurd (nothing_in s (subst (λ x. Contains x.spans s) b h))

  no_leaf : (i : ℕ) (c : Node Value) (k : ℕ) → Band i c → t ≡ false → c.level ≡ 1 → InNode c k → (body_at ≤ k)
      × (k < behind_at) → ⊥
  no_leaf i c k (Above a b) f e x y = absurd (omega (arith, b, e))
  no_leaf i c k (Left a b h) f e x y = absurd (omega (arith, h, x, y))
  no_leaf i c k (Middle a b l h) f e x y = let z : level_of t ≡ 0 = ap level_of f in absurd (omega (arith, b, e, z))
  no_leaf i c k (Right a b l) f e x y = absurd (omega (arith, l, x, y))

  data_in : (i : ℕ) (c : Node Value) → Band i c → c.level ≡ 0 → (q : ℕ) × (d : Node Value) × (m : Name)
      × (file_store t n j q ≡ Some d) × Contains d.names m × (m.id ≡ i)
  data_in i c (Above a b) e = absurd (omega (arith, b, e))
  data_in i c (Left a b h) e = absurd (omega (arith, b, e))
  data_in i c (Middle a b l h) e = (22, file_twig t, middle_name t, twig_there t n j few, is_middle t, sym a)
  data_in i c (Right a b l) e = absurd (omega (arith, b, e))

  pub file_is_tree : IsTree (file_store t n j) small_root
  file_is_tree = record {
    nodes = λ i c e. node_of i c (one_cell t n j few i c e);
    root_node = file_twig t;
    root_is = twig_there t n j few;
    root_level = refl;
    root_lo = refl;
    root_hi = refl;
    height = le_refl 2;
    none_above = λ i c e. not_above i c (band i c e);
    named = λ i c m e h. names_of i c m (one_cell t n j few i c e) h;
    apart = λ i q c d k x y same low_c at_c at_d. bands_apart i q c d k (band i c x) (band q d y) same at_c at_d;
    leaf_or_extent = λ i q c d s k x y leaf h at_c at_s.
        let (no_tails, e) = span_in q d s (one_cell t n j few q d y) h in
        no_leaf i c k (band i c x) no_tails leaf at_c (subst (λ z. InSpan z k) e at_s);
    data_named = λ i c e low. data_in i c (band i c e) low;
  }
