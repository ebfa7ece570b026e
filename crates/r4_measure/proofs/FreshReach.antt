-- The two cells of a fresh volume, and what its root's new attributes ask of them.
use Rattle.std.proofs.Common.{◌≡◌, inl, inr, ℕ, zero, suc, ◌-◌, ◌^◌, ◌<◌, ◌≤◌, false, List, [], ◌∷◌, refl, ap, sym, subst, ◌∙◌, arith}
use Rattle.std.specs.Prelude.{Contains, Option, None, Some}
use Rattle.std.proofs.Math.Dec.{lit<}
use Rattle.std.proofs.Math.Decide.{ℕ_discrete}
use Rattle.r4_base.specs.Bytes.{number_bytes}
use Rattle.r4_base.specs.Cell.{cell_of}
use Rattle.r4_base.specs.Fresh.{HasOneItem, root_key}
use Rattle.r4_base.specs.Key.{key_of_rank, least, rank, top}
use Rattle.r4_base.specs.Stat.{stat_body}
use Rattle.r4_base.specs.Tree.{Name, Node, Store}
use Rattle.r4_base.specs.Value.{Value}
use Rattle.r4_base.specs.Volume.{root_attr}
use Rattle.r4_base.specs.declared.items.Attr.{Attr}
use Rattle.r4_base.proofs.FreshTree.{down, fresh_cell, fresh_is_tree, fresh_leaf, fresh_root as tree_root, fresh_store, fresh_twig, leaf_says, leaf_there, only, twig_says, twig_there}
use Rattle.r4_base.proofs.Choices.{nothing_in}
use Rattle.r4_reach.specs.r4_cell.Patch.{NamesId, by_name}
use Rattle.r4_reach.specs.r4_cell.Seen.{CellSeen, node_of}
use Rattle.r4_content.specs.Edited.{changed}
use Rattle.r4_reach.specs.r4_patch.Part.{IsPart}
use Rattle.r4_reach.proofs.r4_patch.Members.{absent, cases, here, later}
use Rattle.r4_reach.proofs.r4_patch.PartCells.{tree_is_part}
use Rattle.r4_reach.specs.r4_leaf.Units.{bytes_behind, unit_bytes}
use Rattle.r4_reach.specs.Demand.{Demand, ask, ask_of, heard, heard_one}
use Rattle.r4_reach.specs.Needs.{Ask, cell_asks, changes_pieces, demand_of}
use Rattle.r4_reach.specs.Leaves.{more_of}
use Rattle.r4_measure.specs.Asked.{asked_of}
use Rattle.r4_measure.specs.Begin.{IsQuiet, IsReachedFor}
use Rattle.r4_measure.specs.Examples.{fresh_cells, fresh_root, set_root, some_numbers}

pub lowest : rank root_key ≡ least
unfolding rank least
lowest = refl

pub highest : rank (key_of_rank (2 ^ 256 - 1)) ≡ top
unfolding rank key_of_rank top
highest = refl

module _ (twig leaf : List ℕ) (is_twig : HasOneItem twig 2 3 (number_bytes 8 23)) (is_leaf : HasOneItem leaf 1 0 (stat_body root_attr)) where
  abbrev cells : List CellSeen
  cells = fresh_cells twig leaf

  abbrev tree : Store Value
  tree = fresh_store twig leaf

  node_at : (l : ℕ) (b : List ℕ) → (let c : CellSeen = record { id = 0; level = l; lo = root_key; hi = key_of_rank (2 ^ 256 - 1); block = b } in node_of c) ≡ cell_of l least top b
  node_at l b = λ i. cell_of l (lowest i) (highest i) b

  part : IsPart tree fresh_root
  unfolding tree_root
  part = tree_is_part tree tree_root (fresh_is_tree twig leaf)

  abbrev pub twig_cell : CellSeen
  twig_cell = record { id = 22; level = 2; lo = root_key; hi = key_of_rank (2 ^ 256 - 1); block = twig }

  abbrev pub leaf_cell : CellSeen
  leaf_cell = record { id = 23; level = 1; lo = root_key; hi = key_of_rank (2 ^ 256 - 1); block = leaf }

  twig_is : node_of twig_cell ≡ fresh_twig twig
  twig_is = node_at 2 twig ∙ sym (twig_says twig is_twig)

  pub leaf_is : node_of leaf_cell ≡ fresh_leaf leaf
  leaf_is = node_at 1 leaf ∙ sym (leaf_says leaf is_leaf)

  same_at : (i : ℕ) → by_name cells i ≡ tree i
  same_at i = elim (ℕ_discrete i 22) [
    | yes x ↦ subst (λ j. by_name cells j ≡ tree j) (sym x) (ap Some twig_is ∙ sym (twig_there twig leaf))
    | no x ↦ elim (ℕ_discrete i 23) [
      | yes y ↦ subst (λ j. by_name cells j ≡ tree j) (sym y) (ap Some leaf_is ∙ sym (leaf_there twig leaf))
      | no y ↦ absent cells i (λ c at id. neither x y c at id) ∙ sym (by_node x y (tree i) refl)
    ]
  ]
    where
      neither : (i ≡ 22 → ⊥) → (i ≡ 23 → ⊥) → (c : CellSeen) → Contains cells c → c.id ≡ i → ⊥
      neither x y c at id = elim (cases twig_cell c (leaf_cell ∷ []) at) [
        | inl h ↦ x (sym id ∙ ap (λ (z : CellSeen). z.id) h)
        | inr h ↦ y (sym id ∙ ap (λ (z : CellSeen). z.id) (only leaf_cell c h))
      ]

      by_node : (i ≡ 22 → ⊥) → (i ≡ 23 → ⊥) → (o : Option (Node Value)) → tree i ≡ o → o ≡ None
      by_node x y None e = refl
      by_node x y (Some c) e = absurd (elim (fresh_cell twig leaf i c e) [ inl h ↦ x h.0 | inr h ↦ y h.0 ])

  same : by_name cells ≡ tree
  same = λ j i. same_at i j

  -- each cell is one of the two
  of_tree : (i : ℕ) (c : Node Value) → tree i ≡ Some c → (x : CellSeen) × Contains cells x × (x.id ≡ i) × (c ≡ node_of x)
  of_tree i c e = elim (fresh_cell twig leaf i c e) [
    | inl h ↦ (twig_cell, here twig_cell (leaf_cell ∷ []), sym h.0, h.1 ∙ sym twig_is)
    | inr h ↦ (leaf_cell, later twig_cell leaf_cell (leaf_cell ∷ []) (here leaf_cell []), sym h.0, h.1 ∙ sym leaf_is)
  ]

  stand : (c : CellSeen) → Contains cells c → tree c.id ≡ Some (node_of c)
  stand c at = elim (cases twig_cell c (leaf_cell ∷ []) at) [
    | inl h ↦ subst (λ (x : CellSeen). tree x.id ≡ Some (node_of x)) (sym h) (twig_there twig leaf ∙ ap Some (sym twig_is))
    | inr h ↦ subst (λ (x : CellSeen). tree x.id ≡ Some (node_of x)) (sym (only leaf_cell c h)) (leaf_there twig leaf ∙ ap Some (sym leaf_is))
  ]

  low : (i : ℕ) (c : Node Value) → tree i ≡ Some c → i < 2 ^ 63
  low i c e = elim (fresh_cell twig leaf i c e) [
    | inl h ↦ let at = h.0 in omega (arith, at)
    | inr h ↦ let at = h.0 in omega (arith, at)
  ]

  no_cell : (i : ℕ) → 2 ^ 63 ≤ i → tree i ≡ None
  no_cell i high = by_node (tree i) refl
    where
      by_node : (o : Option (Node Value)) → tree i ≡ o → o ≡ None
      by_node None e = refl
      by_node (Some c) e = let h = low i c e in absurd (omega (arith, h, high))

  no_name : (i : ℕ) → 2 ^ 63 ≤ i → NamesId tree i → ⊥
  unfolding down fresh_twig fresh_leaf
  no_name i high (n, (j, c, e, at), id) = elim (fresh_cell twig leaf j c e) [
    | inr h ↦ nothing_in n (subst (λ (x : Node Value). Contains x.names n) h.1 at)
    | inl h ↦
        let is : n ≡ down = only down n (subst (λ (x : Node Value). Contains x.names n) h.1 at) in
        let number = ap (λ (x : Name). x.id) is in
        absurd (omega (arith, number, id, high))
  ]

  module _ (a : Attr) where
    abbrev d : Demand Ask
    d = demand_of None (set_root a) [] (changed (set_root a))

    leaf_asks : (l : ℕ) → ask d tree l (fresh_leaf leaf) ≡ None
    unfolding fresh_leaf least top bytes_behind unit_bytes
    leaf_asks zero = refl
    leaf_asks (suc l) = refl

    twig_hears : (l : ℕ) → heard (ask d tree l) tree (down ∷ []) ≡ []
    unfolding down
    twig_hears l = ap (λ (o : Option (Node Value)). heard_one down (ask_of (ask d tree l) o) []) (leaf_there twig leaf) ∙ ap (λ (o : Option Ask). heard_one down o []) (leaf_asks l)

    twig_asks : (l : ℕ) → ask d tree l (fresh_twig twig) ≡ None
    unfolding fresh_twig
    twig_asks zero = refl
    twig_asks (suc l) = ap (λ hs. cell_asks None (set_root a) (changed (set_root a)) (fresh_twig twig) hs) (twig_hears l)

    small : (l i : ℕ) → asked_of d tree l i ≤ 87
    small l i = by_node (tree i) refl
      where
        by_node : (o : Option (Node Value)) → tree i ≡ o → more_of (ask_of (ask d tree l) o) ≤ 87
        by_node None e = omega arith
        by_node (Some c) e = elim (fresh_cell twig leaf i c e) [
          | inl h ↦ let none = ap more_of (ap (ask d tree l) h.1 ∙ twig_asks l) in omega (arith, none)
          | inr h ↦ let none = ap more_of (ap (ask d tree l) h.1 ∙ leaf_asks l) in omega (arith, none)
        ]

    still : (i : ℕ) (c : Node Value) → tree i ≡ Some c → changes_pieces None (set_root a) c ≡ false
    unfolding fresh_twig fresh_leaf
    still i c e = elim (fresh_cell twig leaf i c e) [
      | inl h ↦ ap (changes_pieces None (set_root a)) h.1
      | inr h ↦ ap (changes_pieces None (set_root a)) h.1
    ]

    quiet : IsQuiet None (set_root a) [] (changed (set_root a)) tree fresh_root
    quiet = record {
      quiet = refl;
      seen = λ i c e. let (x, at, id, is) = of_tree i c e in (x, is);
      still = λ i c e two. still i c e;
      small = small;
      low = λ x h. omega arith;
    }

    reached : IsReachedFor None (set_root a) [] (changed (set_root a)) tree fresh_root some_numbers cells
    reached = record {
      quiet = quiet;
      height = omega arith;
      cells_in = record {
        part = part;
        stand = stand;
        free = record { cells = λ i high end. no_cell i high; names = λ i high end. no_name i high };
        root_number = (lit< tt, refl);
      };
      written = λ i (c, e, h). let (x, at, id, is) = of_tree i c e in (x, at, id);
    }

    pub fresh_reached : IsReachedFor None (set_root a) [] (changed (set_root a)) (by_name cells) fresh_root some_numbers cells
    fresh_reached = subst (λ (t : Store Value). IsReachedFor None (set_root a) [] (changed (set_root a)) t fresh_root some_numbers cells) (sym same) reached
