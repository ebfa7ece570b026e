-- A root that is a twig, and some of the cells that it names, are a part of a tree, and the root is a path of it.
use Rattle.std.proofs.Common.{◌≡◌, ◌≢◌, ◌⊎◌, inl, inr, ℕ, ◌<◌, ◌≤◌, List, [], ◌∷◌, refl, sym, ap, subst, ◌∙◌, arith}
use Rattle.std.specs.Prelude.{Contains, None, Some}
use Rattle.r4_base.specs.Key.{least, rank, top}
use Rattle.r4_base.specs.Tree.{Fits, IsNode, Name, Node, Store}
use Rattle.r4_base.specs.Value.{Value}
use Rattle.r4_cell.specs.Patch.{NamesId, by_name}
use Rattle.r4_cell.specs.Seen.{CellSeen, node_of}
use Rattle.r4_cell.specs.declared.change.Fresh.{Fresh}
use Rattle.r4_patch.specs.Part.{IsPart}
use Rattle.r4_path.specs.Growing.{IsPathIn}
use Rattle.r4_path.specs.Nodes.{IsPointable}
use Rattle.r4_path.specs.Steps.{name_of}
use Rattle.r4_edit_testing.specs.Trials.{low_root}
use Rattle.r4_patch.proofs.Members.{absent, cases, found, here_named}
use Rattle.r4_path.proofs.Rising.{hi_is, level_is, lo_is}

own_name : (c : CellSeen) → Fits (name_of c) (node_of c)
own_name c = record { level = level_is c; lo = lo_is c; hi = hi_is c }

module _ (twig : CellSeen) (below : List CellSeen) (level : twig.level ≡ 2) (lo : rank twig.lo ≡ least)
    (hi : rank twig.hi ≡ top) (node : IsNode (node_of twig)) (nodes : (c : CellSeen) → Contains below c → IsNode (node_of c))
    (low : (c : CellSeen) → Contains below c → c.level ≤ 1)
    (named : (c : CellSeen) → Contains below c → Contains (node_of twig).names (name_of c))
    (once : (n m : Name) → Contains (node_of twig).names n → Contains (node_of twig).names m → n.id ≡ m.id → n ≡ m)
    (apart : (n : Name) → Contains (node_of twig).names n → n.id ≢ twig.id) where
  abbrev t : Store Value
  t = by_name (twig ∷ below)

  twig_there : t twig.id ≡ Some (node_of twig)
  twig_there = here_named twig below twig.id refl

  abbrev IsBelow : (i : ℕ) → Node Value → Type 0
  IsBelow i c = (x : CellSeen) × Contains below x × (x.id ≡ i) × (c ≡ node_of x)

  cell_is : (i : ℕ) (c : Node Value) → t i ≡ Some c → ((i ≡ twig.id) × (c ≡ node_of twig)) ⊎ IsBelow i c
  cell_is i c e =
      let (x, member, is, says) = found (twig ∷ below) i c e in
      elim (cases twig x below member) [
        | inl same ↦ inl (sym is ∙ ap (λ (y : CellSeen). y.id) same, says ∙ ap node_of same)
        | inr more ↦ inr (x, more, is, says)
      ]

  names_none : (c : Node Value) (x : CellSeen) (n : Name) → Contains below x → c ≡ node_of x → Contains c.names n → ⊥
  names_none c x n member same at =
      let l = level_is x in
      let less = low x member in
      elim ((nodes x member).below n (subst (λ (m : Node Value). Contains m.names n) same at)) [
        | inl b ↦ omega (arith, b, l, less)
        | inr b ↦ omega (arith, b, l, less)
      ]

  fits : (n : Name) (d : Node Value) → Contains (node_of twig).names n → t n.id ≡ Some d → Fits n d
  fits n d h there = elim (cell_is n.id d there) [
    | inl root ↦ absurd (apart n h root.0)
    | inr b ↦
        let (x, member, is, says) = b in
        subst (λ (m : Name). Fits m d) (sym (once n (name_of x) h (named x member) (sym is)))
        (subst (Fits (name_of x)) (sym says) (own_name x))
  ]

  part : IsPart t (low_root twig)
  part = record {
    nodes = λ i c e. elim (cell_is i c e) [
      | inl root ↦ subst IsNode (sym root.1) node
      | inr b ↦ let (x, member, is, says) = b in subst IsNode (sym says) (nodes x member)
    ];
    root_node = node_of twig;
    root_is = twig_there;
    root_level = level_is twig ∙ level;
    root_lo = lo_is twig ∙ lo;
    root_hi = hi_is twig ∙ hi;
    height = omega arith;
    none_above = λ i c e. elim (cell_is i c e) [
      | inl root ↦ let l = ap (λ (d : Node Value). d.level) root.1 in let a = level_is twig in omega (arith, l, a, level)
      | inr b ↦
          let (x, member, is, says) = b in
          let l = ap (λ (d : Node Value). d.level) says in
          let a = level_is x in
          let less = low x member in
          omega (arith, l, a, less)
    ];
    named = λ i c d n e h there. elim (cell_is i c e) [
      | inl root ↦ fits n d (subst (λ (m : Node Value). Contains m.names n) root.1 h) there
      | inr b ↦ let (x, member, is, says) = b in absurd (names_none c x n member says h)
    ];
    reached = λ i c e. elim (cell_is i c e) [
      | inl root ↦ inl root.0
      | inr b ↦ let (x, member, is, says) = b in inr (name_of x, (twig.id, node_of twig, twig_there, named x member), is)
    ];
  }

  module _ (from : ℕ) (few : (n : Name) → Contains (node_of twig).names n → n.id < from) (less : twig.id < from) where
    no_cell : (i : ℕ) → from ≤ i → t i ≡ None
    no_cell i high = absent (twig ∷ below) i (λ x member e. elim (cases twig x below member) [
      | inl same ↦ let id = ap (λ (y : CellSeen). y.id) same in omega (arith, high, less, e, id)
      | inr more ↦ let b = few (name_of x) (named x more) in omega (arith, high, b, e)
    ])

    no_name : (i : ℕ) → from ≤ i → NamesId t i → ⊥
    no_name i high (n, (j, c, e, h), is) = elim (cell_is j c e) [
      | inl root ↦ let b = few n (subst (λ (m : Node Value). Contains m.names n) root.1 h) in omega (arith, high, b, is)
      | inr b ↦ let (x, member, at, says) = b in names_none c x n member says h
    ]

    pub root_path : (f : Fresh) → from ≤ f.next → IsPointable twig.id
        → IsPathIn (by_name (twig ∷ below)) (low_root twig) (twig ∷ []) f
    root_path f next number = record {
      part = part;
      ascends = (twig_there, omega (arith, level), tt, tt);
      free = record {
        cells = λ i high to. no_cell i (omega (arith, next, high));
        names = λ i high to. no_name i (omega (arith, next, high));
      };
      root_number = number;
    }
