-- A root over the root of a part of a tree is that of a higher part, and of a longer path.
use Rattle.std.proofs.Common.{◌≡◌, ◌⊎◌, inl, inr, ℕ, ◌^◌, ◌<◌, ◌≤◌, List, [], ◌∷◌, refl, sym, ap, subst, ◌∙◌, arith}
use Rattle.std.specs.Prelude.{Contains, Some}
use Rattle.std.proofs.lemmas.Bool.{cases_eq}
use Rattle.std.proofs.lemmas.Option.{none-some, same_Some}
use Rattle.r4_base.specs.Tree.{Fits, IsNode, Name, Node, Store}
use Rattle.r4_base.specs.Value.{Value}
use Rattle.r4_cell.specs.Patch.{by_name}
use Rattle.r4_cell.specs.Seen.{CellSeen, node_of}
use Rattle.r4_cell.specs.declared.change.Fresh.{Fresh}
use Rattle.r4_edit_testing.specs.Trials.{low_root}
use Rattle.r4_extent_edit_tests.specs.Raised.{high_root}
use Rattle.r4_patch.proofs.Members.{cases, here, here_named, later_named, none}
use Rattle.r4_patch.specs.Part.{IsPart}
use Rattle.r4_path.proofs.Rising.{hi_is, level_is, lo_is}
use Rattle.r4_path.proofs.Upwards.{numbered}
use Rattle.r4_path.specs.Growing.{IsPathIn}
use Rattle.r4_path.specs.Nodes.{IsPointingTo}
use Rattle.r4_path.specs.Steps.{name_of}

module _ (cells : List CellSeen) (twig over : CellSeen) (f : Fresh)
    (path : IsPathIn (by_name cells) (low_root twig) (twig ∷ []) f)
    (level : twig.level ≡ 2) (points : IsPointingTo (twig ∷ []) 3 f.next over) (low : 2 ^ 63 ≤ f.next)
    (some : f.next < f.end)
    (high : f.end ≤ 2 ^ 64) where
  abbrev t : Store Value
  t = by_name cells

  abbrev u : Store Value
  u = by_name (over ∷ cells)

  abbrev is_next : over.id ≡ f.next
  is_next = points.number

  cell_is : (i : ℕ) (c : Node Value) → u i ≡ Some c → ((i ≡ over.id) × (c ≡ node_of over)) ⊎ (t i ≡ Some c)
  cell_is i c e = elim (cases_eq over.id i) [
    | inl is ↦ inl (sym is, same_Some c (node_of over) (sym e ∙ here_named over cells i is))
    | inr other ↦ inr (sym (later_named over cells i other) ∙ e)
  ]

  not_free : (i : ℕ) (c : Node Value) → t i ≡ Some c → f.next ≤ i → i < f.end → ⊥
  not_free i c e from to = none-some c (sym (path.free.cells i from to) ∙ e)

  pub stays : (i : ℕ) (c : Node Value) → t i ≡ Some c → u i ≡ Some c
  stays i c e = later_named over cells i
      (λ is. let id = is_next in not_free i c e (omega (arith, id, is)) (omega (arith, id, is, some))) ∙ e

  over_there : u over.id ≡ Some (node_of over)
  over_there = here_named over cells over.id refl

  twig_there : u twig.id ≡ Some (node_of twig)
  twig_there = stays twig.id (node_of twig) path.ascends.0

  twig_named : Contains (node_of over).names (name_of twig)
  twig_named = subst (λ ns. Contains ns (name_of twig)) (sym points.names) (here (name_of twig) [])

  only_twig : (n : Name) → Contains (node_of over).names n → n ≡ name_of twig
  only_twig n at = elim (cases (name_of twig) n [] (subst (λ ns. Contains ns n) points.names at)) [
    | inl is ↦ is
    | inr more ↦ absurd (none n more)
  ]

  fits_twig : (n : Name) (d : Node Value) → n ≡ name_of twig → u n.id ≡ Some d → Fits n d
  fits_twig n d is there =
      let id : n.id ≡ twig.id = ap (λ (m : Name). m.id) is in
      let says : node_of twig ≡ d = same_Some (node_of twig) d (sym twig_there ∙ (ap u (sym id) ∙ there)) in
      subst (λ (m : Name). Fits m d) (sym is) (subst (Fits (name_of twig)) says
      (record { level = level_is twig; lo = lo_is twig; hi = hi_is twig }))

  part : IsPart u (high_root over)
  part = record {
    nodes = λ i c e. elim (cell_is i c e) [
      | inl root ↦ subst IsNode (sym root.1) points.node
      | inr old ↦ path.part.nodes i c old
    ];
    root_node = node_of over;
    root_is = over_there;
    root_level = level_is over ∙ points.level_is;
    root_lo = lo_is over ∙ points.lo;
    root_hi = hi_is over ∙ points.hi;
    height = omega arith;
    none_above = λ i c e. elim (cell_is i c e) [
      | inl root ↦
          let l = ap (λ (d : Node Value). d.level) root.1 in
          let a = level_is over in
          let b = points.level_is in
          omega (arith, l, a, b)
      | inr old ↦ let b = path.part.none_above i c old in omega (arith, b)
    ];
    named = λ i c d n e h there. elim (cell_is i c e) [
      | inl root ↦ fits_twig n d (only_twig n (subst (λ (m : Node Value). Contains m.names n) root.1 h)) there
      | inr old ↦ elim (cell_is n.id d there) [
        | inl root ↦
            let id = is_next in
            let at = root.0 in
            absurd (path.free.names n.id (omega (arith, id, at)) (omega (arith, id, at, some))
            (n, (i, c, old, h), refl))
        | inr stands ↦ path.part.named i c d n old h stands
      ]
    ];
    reached = λ i c e. elim (cell_is i c e) [
      | inl root ↦ inl root.0
      | inr old ↦ elim (path.part.reached i c old) [
        | inl is ↦ inr (name_of twig, (over.id, node_of over, over_there, twig_named), sym is)
        | inr by ↦ let (n, (j, d, td, h), is) = by in inr (n, (j, d, stays j d td, h), is)
      ]
    ];
  }

  pub raised_path : (g : Fresh) → f.next < g.next → g.end ≤ f.end
      → IsPathIn (by_name (over ∷ cells)) (high_root over) (twig ∷ (over ∷ [])) g
  raised_path g next end = record {
    part = part;
    ascends = (
      twig_there,
      omega (arith, level),
      tt,
      (over_there, (let l = points.level_is in omega (arith, l)), twig_named, tt),
    );
    free = record {
      cells = λ i from to.
          later_named over cells i (λ is. let id = is_next in omega (arith, id, is, from, next))
          ∙ path.free.cells i (omega (arith, from, next)) (omega (arith, to, end));
      names = λ i from to by.
          let (n, (j, c, e, h), is) = by in
          elim (cell_is j c e) [
            | inl root ↦
                let id = ap (λ (m : Name). m.id)
                (only_twig n (subst (λ (m : Node Value). Contains m.names n) root.1 h)) in
                not_free twig.id (node_of twig) path.ascends.0 (omega (arith, from, next, id, is))
                (omega (arith, to, end, id, is))
            | inr old ↦
                path.free.names i (omega (arith, from, next)) (omega (arith, to, end)) (n, (j, c, old, h), is)
          ];
    };
    root_number = let id = is_next in numbered over.id (omega (arith, id, low)) (omega (arith, id, some, high));
  }
