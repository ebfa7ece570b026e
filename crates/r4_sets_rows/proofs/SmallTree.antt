-- The small tree, and its content.
use Rattle.std.specs.Prelude.{◌≡◌, ◌⊎◌, ℕ, zero, ◌<◌, List, cond, Contains, Bool, Some, None, true, false, ◌==◌}
use Rattle.std.proofs.Common.{arith, inl, inr, refl, sym, ap, subst, ◌∙◌}
use Rattle.std.proofs.Math.Decide.{ℕ_discrete}
use Rattle.std.proofs.Math.Nat.{le_refl}
use Rattle.std.proofs.lemmas.Bool.{eqb-true, eq-eqb}
use Rattle.std.proofs.lemmas.Grind.{common_steps}
use Rattle.std.proofs.lemmas.Option.{none-some, same_Some}
use Rattle.std.specs.FinMap.{empty, get-empty}
use Rattle.std.specs.Ordering.{nat_cmp}
use Rattle.r4_base.specs.Key.{key_of_rank, least, minor_of, offset_of, top}
use Rattle.r4_base.specs.Tree.{Fits, IsNode, IsTree, Name, Node, Span, Store, UnitAt}
use Rattle.r4_base.specs.Value.{Value, Stat, at_key}
use Rattle.r4_base.specs.Volume.{HasFiles, HasStat, HasUnits, IsPadding, IsVisible, KeyFits, is_directory, stat_rank}
use Rattle.r4_base.specs.declared.items.Attr.{Attr}
use Rattle.r4_base.specs.declared.items.Target.{Target}
use Rattle.r4_base.proofs.FreshTree.{least_below, only}
use Rattle.r4_base.proofs.Choices.{nothing_in}
use Rattle.r4_base.proofs.FreshVolume.{same_attr}
use Rattle.r4_patch.specs.SecondRoot.{small_root, whole_twig}
use Rattle.r4_sets_rows.specs.Small.{alone, leaf_with, small_store}
use Rattle.r4_sets.specs.Session.{IsTreeOf}
use Rattle.r4_content.proofs.EditLaws.{at_insert}

-- the leaf, as the twig names it
abbrev sample_name : Name
sample_name = record { id = 23; level = 1; lo = least; hi = top }

module _ (a b : List ℕ) (r : Attr) where
  pub twig_there : small_store a b r 22 ≡ Some (whole_twig a)
  unfolding small_store
  twig_there = refl

  pub leaf_there : small_store a b r 23 ≡ Some (leaf_with b r)
  unfolding small_store
  leaf_there = refl

  -- a cell is one of the two
  pub small_cell : (i : ℕ) (c : Node Value) → small_store a b r i ≡ Some c → ((i ≡ 22) × (c ≡ whole_twig a))
      ⊎ ((i ≡ 23) × (c ≡ leaf_with b r))
  unfolding small_store
  small_cell i c e = elim (ℕ_discrete i 22) [
    | yes x ↦ inl (x, sym (same_Some (whole_twig a) c (subst (λ y. small_store a b r y ≡ Some c) x e)))
    | no x ↦ elim (ℕ_discrete i 23) [
      | yes y ↦ inr (y, sym (same_Some (leaf_with b r) c (subst (λ z. small_store a b r z ≡ Some c) y e)))
      | no y ↦ absurd (neither x y)
    ]
  ]
    where
      neither : ¬ (i ≡ 22) → ¬ (i ≡ 23) → ⊥
      neither x y = grind (arith, common_steps, x, y, e)

  twig_node : IsNode (whole_twig a)
  twig_node = record {
    from_least = le_refl least;
    nonempty = least_below;
    to_top = le_refl top;
    below = λ n h. let e = only sample_name n h in inl
        (omega (arith, ap (λ x. x.level) e), omega (arith, ap (λ x. x.level) e));
    name_nonempty = λ n h. let e = only sample_name n h in subst (λ x. x.lo < x.hi) (sym e) least_below;
    name_from = λ n h. let e = only sample_name n h in omega (arith, ap (λ x. x.lo) e);
    name_to = λ n h. let e = only sample_name n h in omega (arith, ap (λ x. x.hi) e);
    names_apart = λ n m k x y _ _ _. only sample_name n x ∙ sym (only sample_name m y);
    spans_apart = λ n s k _ y _ _. absurd (nothing_in s y);
    span_from = λ s h. absurd (nothing_in s h);
    span_to = λ s h. absurd (nothing_in s h);
    spans_in_twigs = λ s h. absurd (nothing_in s h);
    covered = λ k _ at. inl (sample_name, (zero, omega arith, refl), refl, at);
    data_in_span = λ n h low. let e = only sample_name n h in absurd (omega (arith, ap (λ x. x.level) e, low));
    unit_in = λ k v h. absurd (nothing_in (k, v) h);
    unit_low = λ k v h. absurd (nothing_in (k, v) h);
    unit_in_hole = λ n k v _ _ h _. nothing_in (k, v) h;
    one_unit = λ k v w h _. absurd (nothing_in (k, v) h);
  }

  leaf_node : IsNode (leaf_with b r)
  leaf_node = record {
    from_least = le_refl least;
    nonempty = least_below;
    to_top = le_refl top;
    below = λ n h. absurd (nothing_in n h);
    name_nonempty = λ n h. absurd (nothing_in n h);
    name_from = λ n h. absurd (nothing_in n h);
    name_to = λ n h. absurd (nothing_in n h);
    names_apart = λ n m k x y _ _ _. absurd (nothing_in n x);
    spans_apart = λ n s k x _ _ _. absurd (nothing_in n x);
    span_from = λ s h. absurd (nothing_in s h);
    span_to = λ s h. absurd (nothing_in s h);
    spans_in_twigs = λ s h. absurd (nothing_in s h);
    covered = λ k two _. absurd (omega (arith, two));
    data_in_span = λ n h _. absurd (nothing_in n h);
    unit_in = λ k v h. let e = only (least, Stat r) (k, v) h in let at : k ≡ least = ap (λ x. x.0) e in let full =
        least_below in (omega (arith, at), omega (arith, at, full));
    unit_low = λ k v h. inl (le_refl 1);
    unit_in_hole = λ n k v x _ _ _. nothing_in n x;
    one_unit = λ k v w x y. ap (λ z. z.1) (only (least, Stat r) (k, v) x)
        ∙ sym (ap (λ z. z.1) (only (least, Stat r) (k, w) y));
  }

  level_is : (i : ℕ) (c : Node Value) → small_store a b r i ≡ Some c → ((i ≡ 22) × (c.level ≡ 2))
      ⊎ ((i ≡ 23) × (c.level ≡ 1))
  level_is i c e = elim (small_cell i c e) [
    | inl h ↦ inl (h.0, ap (λ x. x.level) h.1)
    | inr h ↦ inr (h.0, ap (λ x. x.level) h.1)
  ]

  no_span : (i : ℕ) (c : Node Value) (s : Span) → small_store a b r i ≡ Some c → Contains c.spans s → ⊥
  no_span i c s e h = elim (small_cell i c e) [
    | inl g ↦ nothing_in s (subst (λ x. Contains x.spans s) g.1 h)
    | inr g ↦ nothing_in s (subst (λ x. Contains x.spans s) g.1 h)
  ]

  small_named : (i : ℕ) (c : Node Value) (n : Name) → small_store a b r i ≡ Some c → Contains c.names n
      → (d : Node Value) × (small_store a b r n.id ≡ Some d) × Fits n d
  small_named i c n e h = elim (small_cell i c e) [
    | inr g ↦ absurd (nothing_in n (subst (λ x. Contains x.names n) g.1 h))
    | inl g ↦
        let is : n ≡ sample_name = only sample_name n (subst (λ x. Contains x.names n) g.1 h) in (
          leaf_with b r,
          subst (λ x. small_store a b r x.id ≡ Some (leaf_with b r)) (sym is) leaf_there,
          record
              { level = ap (λ x. x.level) (sym is); lo = ap (λ x. x.lo) (sym is); hi = ap (λ x. x.hi) (sym is) },
        )
  ]

  pub small_is_tree : IsTree (small_store a b r) small_root
  small_is_tree = record {
    nodes = λ i c e. elim (small_cell i c e) [
      | inl h ↦ subst IsNode (sym h.1) twig_node
      | inr h ↦ subst IsNode (sym h.1) leaf_node
    ];
    root_node = whole_twig a;
    root_is = twig_there;
    root_level = refl;
    root_lo = refl;
    root_hi = refl;
    height = le_refl 2;
    none_above = λ i c e. elim (level_is i c e) [ inl h ↦ omega (arith, h) | inr h ↦ omega (arith, h) ];
    named = small_named;
    apart = λ i j c d k x y same _ _ _. elim (level_is i c x) [
      | inl h ↦ elim (level_is j d y) [ inl g ↦ omega (arith, h, g) | inr g ↦ absurd (omega (arith, h, g, same)) ]
      | inr h ↦ elim (level_is j d y) [ inl g ↦ absurd (omega (arith, h, g, same)) | inr g ↦ omega (arith, h, g) ]
    ];
    leaf_or_extent = λ i j c d s k _ y _ h _ _. no_span j d s y h;
    data_named = λ i c e low. absurd
        (elim (level_is i c e) [ inl h ↦ omega (arith, h, low) | inr h ↦ omega (arith, h, low) ]);
  }

-- ---- the content

pub at_alone : (r : Attr) (k : ℕ) → at_key (alone r) k ≡ cond (k == least) (Some (Stat r)) None
at_alone r k = at_insert empty least (Stat r) k ∙ ap (cond (k == least) (Some (Stat r))) (get-empty nat_cmp k)

pub found : (r : Attr) (k : ℕ) (v : Value) → at_key (alone r) k ≡ Some v → (k ≡ least) × (v ≡ Stat r)
found r k v e = by_test (k == least) refl (sym (at_alone r k) ∙ e)
  where
    by_test : (q : Bool) → (k == least) ≡ q → cond (k == least) (Some (Stat r)) None ≡ Some v → (k ≡ least)
        × (v ≡ Stat r)
    by_test true is h = (
      eqb-true k least is,
      sym
          (same_Some (Stat r) v (sym (ap (λ q. cond q (Some (Stat r)) None) is) ∙ h)),
    )
    by_test false is h = absurd (none-some v (sym (ap (λ q. cond q (Some (Stat r)) None) is) ∙ h))

pub there : (r : Attr) → at_key (alone r) least ≡ Some (Stat r)
there r = at_alone r least ∙ ap (λ q. cond q (Some (Stat r)) None) (eq-eqb least least refl)

pub small_units : (a b : List ℕ) (r : Attr) → HasUnits (small_store a b r) (alone r)
small_units a b r k v = (to, from)
  where
    to : at_key (alone r) k ≡ Some v → UnitAt (small_store a b r) k v
    to e = let (is, value) = found r k v e in
        (23, leaf_with b r, leaf_there a b r, (zero, omega arith, λ i. (sym is i, sym value i)))

    from : UnitAt (small_store a b r) k v → at_key (alone r) k ≡ Some v
    from (i, c, tc, has) = elim (small_cell a b r i c tc) [
      | inl h ↦ absurd (nothing_in (k, v) (subst (λ x. Contains x.units (k, v)) h.1 has))
      | inr h ↦
          let e : (k, v) ≡ (least, Stat r) =
          only (least, Stat r) (k, v) (subst (λ x. Contains x.units (k, v)) h.1 has) in
          ap (at_key (alone r)) (ap (λ x. x.0) e) ∙ there r ∙ ap Some (sym (ap (λ x. x.1) e))
    ]

pub least_key : (minor_of (key_of_rank least) ≡ 1) × (offset_of (key_of_rank least) ≡ 0)
unfolding key_of_rank least
least_key = (refl, refl)

pub no_file : (r : Attr) → is_directory r ≡ true → (o : Target) (a : Attr) → HasStat (alone r) o a → is_directory a
    ≡ false → ⊥
no_file r dir o a h file = let same : a ≡ r = same_attr a r (found r (stat_rank o) (Stat a) h.1).1 in let e : true
    ≡ false = sym dir ∙ ap is_directory (sym same) ∙ file in cc

-- there is no file
pub lone_files : (t : Store Value) (r : Attr) → is_directory r ≡ true → r.bytes ≡ r.size → HasFiles t (alone r)
lone_files t r dir size = record {
  keys = λ k v e. let (is, value) =
      found r k v e in subst (λ x. KeyFits (alone r) (key_of_rank k) x) (sym value)
      (subst (λ x. (minor_of (key_of_rank x) ≡ 1) × (offset_of (key_of_rank x) ≡ 0)) (sym is) least_key);
  bodies = λ o x h file. absurd (no_file r dir o x h file);
  bytes = λ o x h. let same : x ≡ r =
      same_attr x r (found r (stat_rank o) (Stat x) h.1).1 in ap (λ (y : Attr). y.bytes) same ∙ size
      ∙ sym (ap (λ (y : Attr). y.size) same);
}

pub small_visible : (r : Attr) → IsVisible (alone r) (alone r)
small_visible r k v = (λ e. (e, λ p. not_pad v (found r k v e).1 p), λ h. h.0)
  where
    not_pad : (v : Value) → v ≡ Stat r → IsPadding (alone r) (key_of_rank k) v → ⊥
    not_pad v e p = subst (λ x. IsPadding (alone r) (key_of_rank k) x) e p

pub small_of : (a b : List ℕ) (r : Attr) → is_directory r ≡ true → r.bytes ≡ r.size
    → IsTreeOf (small_store a b r) small_root (alone r)
small_of a b r dir size = record {
  tree = small_is_tree a b r;
  raw = alone r;
  units = small_units a b r;
  files =
      lone_files (small_store a b r) r dir size;
  visible = small_visible r;
}
