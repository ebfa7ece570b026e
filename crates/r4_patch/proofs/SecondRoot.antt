-- The points of a patch do not suffice: the tree's root has to be an old cell where the root changes.
use Rattle.std.specs.Prelude.{◌≡◌, ℕ, ◌⊎◌, List, Contains, None, Some}
use mathlib.Core.Path.{refl, sym, ap, subst, ◌∙◌}
use mathlib.Core.Logic.{inl, inr}
use native.Mathlib.Omega.{arith}
use Rattle.std.proofs.Math.Decide.{ℕ_discrete}
use Rattle.std.proofs.Math.Nat.{le_refl}
use Rattle.std.proofs.lemmas.Option.{none-some, same_Some}
use Rattle.std.proofs.lemmas.Grind.{common_steps}
use Rattle.r4_base.specs.Key.{least}
use Rattle.r4_base.specs.Tree.{Name, Node, Root, Store, InNode, IsNode, IsTree}
use Rattle.r4_base.specs.Value.{Value}
use Rattle.r4_base.proofs.FreshTree.{down, fresh_cell, fresh_is_tree, fresh_leaf, fresh_root, fresh_store, fresh_twig, least_below, leaf_there, only, twig_there}
use Rattle.r4_base.proofs.Choices.{nothing_in}
use Rattle.r4_cell.specs.Patch.{place, Names, IsNewRoot, IsPatch}
use Rattle.r4_patch.specs.SecondRoot.{second_root, small_root, small_tree, whole_leaf, whole_twig}
use Rattle.r4_patch.proofs.Placed.{some_or_none}

module _ (twig leaf : List ℕ) where
  other_cell : (i : ℕ) → ¬ (i ≡ 22) → ¬ (i ≡ 23) → small_tree twig leaf i ≡ None
  other_cell i x y = grind (arith, common_steps, x, y)

  -- it is the tree of a fresh volume
  same_cell : (i : ℕ) → fresh_store twig leaf i ≡ small_tree twig leaf i
  unfolding fresh_twig fresh_leaf down
  same_cell i = elim (ℕ_discrete i 22) [
    | yes x ↦ subst (λ j. fresh_store twig leaf j ≡ small_tree twig leaf j) (sym x) (twig_there twig leaf)
    | no x ↦ elim (ℕ_discrete i 23) [
      | yes y ↦ subst (λ j. fresh_store twig leaf j ≡ small_tree twig leaf j) (sym y) (leaf_there twig leaf)
      | no y ↦ elim (some_or_none (fresh_store twig leaf i)) [
        | inr gone ↦ gone ∙ sym (other_cell i x y)
        | inl h ↦ absurd (elim (fresh_cell twig leaf i h.0 h.1) [ inl g ↦ x g.0 | inr g ↦ y g.0 ])
      ]
    ]
  ]

  same_tree : fresh_store twig leaf ≡ small_tree twig leaf
  same_tree = λ j i. same_cell i j

  pub small_is_tree : IsTree (small_tree twig leaf) small_root
  unfolding fresh_root
  small_is_tree = subst (λ (s : Store Value). IsTree s fresh_root) same_tree (fresh_is_tree twig leaf)

  twig_node : IsNode (whole_twig twig)
  twig_node = small_is_tree.nodes 22 (whole_twig twig) refl

  leaf_node : IsNode (whole_leaf leaf)
  leaf_node = small_is_tree.nodes 23 (whole_leaf leaf) refl

  new_cell : (i : ℕ) (c : Node Value) → (second_root twig leaf).new i ≡ Some c → ((i ≡ 24) × (c ≡ (whole_twig twig))) ⊎ ((i ≡ 23) × (c ≡ (whole_leaf leaf)))
  new_cell i c e = elim (ℕ_discrete i 24) [
    | yes a ↦ inl (a, sym (same_Some (whole_twig twig) c (subst (λ x. (second_root twig leaf).new x ≡ Some c) a e)))
    | no a ↦ elim (ℕ_discrete i 23) [
      | yes b ↦ inr (b, sym (same_Some (whole_leaf leaf) c (subst (λ x. (second_root twig leaf).new x ≡ Some c) b e)))
      | no b ↦ absurd (neither a b)
    ]
  ]
    where
      neither : ¬ (i ≡ 24) → ¬ (i ≡ 23) → ⊥
      neither a b = grind (arith, common_steps, a, b, e)

  old_cell : (i : ℕ) (c : Node Value) → (second_root twig leaf).old i ≡ Some c → (i ≡ 23) × (c ≡ (whole_leaf leaf))
  old_cell i c e = elim (ℕ_discrete i 23) [
    | yes b ↦ (b, sym (same_Some (whole_leaf leaf) c (subst (λ x. (second_root twig leaf).old x ≡ Some c) b e)))
    | no b ↦ absurd (neither b)
  ]
    where
      neither : ¬ (i ≡ 23) → ⊥
      neither b = grind (arith, common_steps, b, e)

  old_names : (n : Name) → Names (second_root twig leaf).old n → ⊥
  old_names n (i, c, e, h) = nothing_in n (subst (λ x. Contains x.names n) (old_cell i c e).1 h)

  new_names : (n : Name) → Names (second_root twig leaf).new n → n ≡ down
  unfolding down
  new_names n (i, c, e, h) = elim (new_cell i c e) [
    | inl g ↦ only down n (subst (λ x. Contains x.names n) g.1 h)
    | inr g ↦ absurd (nothing_in n (subst (λ x. Contains x.names n) g.1 h))
  ]

  new_level : (i : ℕ) (c : Node Value) → (second_root twig leaf).new i ≡ Some c → ((i ≡ 24) × (c.level ≡ 2)) ⊎ ((i ≡ 23) × (c.level ≡ 1))
  new_level i c e = elim (new_cell i c e) [
    | inl h ↦ inl (h.0, ap (λ x. x.level) h.1)
    | inr h ↦ inr (h.0, ap (λ x. x.level) h.1)
  ]

  pub second_is_patch : IsPatch (second_root twig leaf)
  unfolding down
  second_is_patch = record {
    nodes = λ i c e. elim (new_cell i c e) [ inl h ↦ subst IsNode (sym h.1) twig_node | inr h ↦ subst IsNode (sym h.1) leaf_node ];
    covers_old = λ l k two u. let (i, c, e, cl, _) = u in let g : c.level ≡ 1 = ap (λ x. x.level) (old_cell i c e).1 in absurd (omega (arith, g, cl, two));
    covers_new = λ l k two u. inr (refl, λ i c e. let g : c.level ≡ 1 = ap (λ x. x.level) (old_cell i c e).1 in omega (arith, g, two));
    new_root = λ r e. subst (IsNewRoot (second_root twig leaf).new) (same_Some _ _ e) (record { node = (whole_twig twig); is = refl; level = refl; lo = refl; hi = refl; highest = λ i c h. elim (new_level i c h) [ inl g ↦ omega (arith, g) | inr g ↦ omega (arith, g) ] });
    apart = λ i j c d k a b same _ _ _. elim (new_level i c a) [
      | inl h ↦ elim (new_level j d b) [ inl g ↦ omega (arith, h, g) | inr g ↦ absurd (omega (arith, h, g, same)) ]
      | inr h ↦ elim (new_level j d b) [ inl g ↦ absurd (omega (arith, h, g, same)) | inr g ↦ omega (arith, h, g) ]
    ];
    named = λ n u.
        let is = new_names n u in
        inl ((whole_leaf leaf), subst (λ x. (second_root twig leaf).new x.id ≡ Some (whole_leaf leaf)) (sym is) refl, record { level = ap (λ x. x.level) (sym is); lo = ap (λ x. x.lo) (sym is); hi = ap (λ x. x.hi) (sym is) });
    kept = λ n u _. absurd (old_names n u);
    replaced = λ i c e _. let (is, same) = old_cell i c e in inl ((whole_leaf leaf), subst (λ x. (second_root twig leaf).new x ≡ Some (whole_leaf leaf)) (sym is) refl, (ap (λ x. x.level) (sym same), ap (λ x. x.lo) (sym same), ap (λ x. x.hi) (sym same)));
    reached = λ i c e needs. elim (new_cell i c e) [
      | inl h ↦ inr (record { id = 24; height = 2 }, refl, sym h.0)
      | inr h ↦ absurd (elim needs [
        | inl gone ↦ none-some (whole_leaf leaf) (sym (subst (λ x. (second_root twig leaf).old x ≡ None) h.0 gone))
        | inr g ↦ elim g [
          | inl u ↦ let (n, by, _) = u in old_names n by
          | inr u ↦
              let (o, oi, other) = u in
              let one : o ≡ c = (old_cell i o oi).1 ∙ sym h.1 in
              other (ap (λ x. x.level) one, ap (λ x. x.lo) one, ap (λ x. x.hi) one)
        ]
      ])
    ];
    leaves_old = λ k u. elim u [
      | inl h ↦
          let (i, c, e, cl, at) = h in
          let (is, same) = old_cell i c e in
          inl (23, (whole_leaf leaf), refl, refl, subst (λ x. InNode x k) same at)
      | inr h ↦ let (i, c, s, e, cs, _) = h in absurd (nothing_in s (subst (λ x. Contains x.spans s) (old_cell i c e).1 cs))
    ];
    leaves_new = λ k u. elim u [
      | inl h ↦
          let (i, c, e, cl, at) = h in
          elim (new_cell i c e) [
            | inl g ↦ let q : c.level ≡ 2 = ap (λ x. x.level) g.1 in absurd (omega (arith, q, cl))
            | inr g ↦ inl (23, (whole_leaf leaf), refl, refl, subst (λ x. InNode x k) g.1 at)
          ]
      | inr h ↦
          let (i, c, s, e, cs, _) = h in
          elim (new_cell i c e) [
            | inl g ↦ absurd (nothing_in s (subst (λ x. Contains x.spans s) g.1 cs))
            | inr g ↦ absurd (nothing_in s (subst (λ x. Contains x.spans s) g.1 cs))
          ]
    ];
  }

  pub second_has_old : (i : ℕ) (c : Node Value) → (second_root twig leaf).old i ≡ Some c → (small_tree twig leaf) i ≡ Some c
  second_has_old i c e = let (is, same) = old_cell i c e in subst (λ x. (small_tree twig leaf) x ≡ Some c) (sym is) (ap Some (sym same))

  pub second_free : (i : ℕ) (c : Node Value) → (second_root twig leaf).new i ≡ Some c → (second_root twig leaf).old i ≡ None → (small_tree twig leaf) i ≡ None
  second_free i c e gone = elim (new_cell i c e) [
    | inl h ↦ subst (λ x. (small_tree twig leaf) x ≡ None) (sym h.0) refl
    | inr h ↦ absurd (none-some (whole_leaf leaf) (sym (subst (λ x. (second_root twig leaf).old x ≡ None) h.0 gone)))
  ]

  pub second_is_no_tree : (root : Root) → IsTree (place (second_root twig leaf) (small_tree twig leaf)) root → ⊥
  second_is_no_tree root it =
      let is : 22 ≡ 24 = it.apart 22 24 (whole_twig twig) (whole_twig twig) least refl refl refl (omega arith) (le_refl least, least_below) (le_refl least, least_below) in
      omega (arith, is)
