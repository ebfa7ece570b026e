-- What a change of a twig says of what stands below it: leaves and data blocks, which with the extents cover the same keys.
use Rattle.std.proofs.Common.{◌≡◌, ◌⊎◌, ◌↔◌, inl, inr, ℕ, ◌<◌, ◌≤◌, List, [], ◌∷◌, ◌++◌, refl, sym, ap, subst, ◌∙◌, arith}
use Rattle.std.specs.Prelude.{Contains, Option, None, Some}
use Rattle.std.proofs.lemmas.List.Elements.{Contains-append_cases, Contains-append_left, Contains-append_right}
use Rattle.std.proofs.lemmas.Option.{none-some}
use Rattle.r4_base.specs.Key.{rank}
use Rattle.r4_base.specs.Tree.{InName, InNode, IsNode, Name, Node, Root, Span, Store}
use Rattle.r4_base.specs.Value.{Value}
use Rattle.r4_patch.specs.r4_cell.Patch.{by_name}
use Rattle.r4_patch.specs.r4_cell.Seen.{CellSeen, node_of}
use Rattle.r4_patch.specs.Joining.{ids_of}
use Rattle.r4_patch.proofs.PartCells.{named_once}
use Rattle.r4_path.specs.Steps.{IsNameOf, Step, name_of, news}
use Rattle.r4_patch.proofs.Members.{cases, found, here, later, none, there}
use Rattle.r4_path.proofs.Rising.{InCell, Within, follow_apart, follow_covers, follow_within, in_cell, in_node, level_is}
use Rattle.r4_path.specs.Twigs.{Below, CoversBelow, IsTwigChange}
use Rattle.r4_path.proofs.Ordered.{distinct}

none_or_some : (o : Option (Node Value)) → (o ≡ None) ⊎ ((c : Node Value) × (o ≡ Some c))
none_or_some None = inl refl
none_or_some (Some c) = inr (c, refl)

-- a cell of a number among some
pub id_cell : (cells : List CellSeen) (i : ℕ) → Contains (ids_of cells) i → (c : CellSeen) × Contains cells c × (c.id ≡ i)
id_cell [] i at = absurd (none i at)
id_cell (c ∷ cells) i at = elim (cases c.id i (ids_of cells) at) [
  | inl is ↦ (c, here c cells, sym is)
  | inr more ↦ let (x, member, is) = id_cell cells i more in (x, later c x cells member, is)
]

only : {A : Type 0} (x y : A) → Contains (x ∷ []) y → y ≡ x
only x y at = elim (cases x y [] at) [ inl is ↦ is | inr more ↦ absurd (none y more) ]

-- a node of level 2 names leaves and data blocks
low_name : (c : Node Value) (n : Name) → IsNode c → c.level ≡ 2 → Contains c.names n → n.level ≤ 1
low_name c n ok twig member = elim (ok.below n member) [ inl h ↦ omega (arith, h, twig) | inr h ↦ omega (arith, h) ]

module _ (t : Store Value) (r : Root) (b : Below) (s : Step) (more : List Step) (over : Option CellSeen)
    (is : IsTwigChange t r b s more over) where
  pub twig_there : t s.old.id ≡ Some (node_of s.old)
  twig_there = let (at, level, leads, rest) = is.path in at

  pub twig_node : IsNode (node_of s.old)
  twig_node = is.part.nodes s.old.id (node_of s.old) twig_there

  new_node : (u : CellSeen) → Contains s.new u → IsNode (node_of u)
  new_node u member = is.nodes u (Contains-append_right b.new (news (s ∷ more) over) u
      (Contains-append_left s.new (news more over) u member))

  old_level : (node_of s.old).level ≡ 2
  old_level = level_is s.old ∙ is.step.level

  inside : (u : CellSeen) → Contains s.new u → Within s.old.level (rank s.old.lo) (rank s.old.hi) u
  inside u member = follow_within s.old.level (rank s.old.lo) (rank s.old.hi) s.new u is.step.ranges member

  new_level : (u : CellSeen) → Contains s.new u → (node_of u).level ≡ 2
  new_level u member = level_is u ∙ ((inside u member).level_as ∙ is.step.level)

  -- ---- levels

  pub low_old : (c : CellSeen) → Contains b.old c → c.level ≤ 1
  low_old c member = low_name (node_of s.old) (name_of c) twig_node old_level (is.step.goes c member)

  pub low_new : (c : CellSeen) → Contains b.new c → c.level ≤ 1
  low_new c member = let (u, in_u, names) = (is.step.names (name_of c)).1 (inr (c, member, refl)) in low_name (node_of u)
      (name_of c) (new_node u in_u) (new_level u in_u) names

  pub low_below : (c : CellSeen) → Contains (b.old ++ b.new) c → c.level ≤ 1
  low_below c member = elim (Contains-append_cases b.old b.new c member)
      [ inl goes ↦ low_old c goes | inr comes ↦ low_new c comes ]

  -- ---- what goes, and what stays

  -- what has the number of a cell that goes is its name
  pub gone_id : (c : CellSeen) (n : Name) → Contains b.old c → Contains (node_of s.old).names n → n.id ≡ c.id → n ≡ name_of c
  gone_id c n in_b member same = (named_once t r is.part s.old.id s.old.id c.id (node_of s.old) (node_of s.old) (node_of c) n
      (name_of c) twig_there twig_there member (is.step.goes c in_b) (is.gone c in_b) same refl).1

  goes_or_stays : (n : Name) → Contains (node_of s.old).names n → IsNameOf b.old n ⊎ (IsNameOf b.old n → ⊥)
  goes_or_stays n member = elim (none_or_some (by_name b.old n.id)) [
    | inr h ↦
        let (d, e) = h in
        let (c, in_b, id, says) = found b.old n.id d e in
        inl (c, in_b, gone_id c n in_b member (sym id))
    | inl gone ↦ inr (λ goes.
        let (c, in_b, e) = goes in
        none-some (node_of c) (sym gone ∙ subst (λ i. by_name b.old i ≡ Some (node_of c)) (sym (ap (λ (m : Name). m.id) e))
        (there b.old c (distinct b.old is.numbers.old) in_b)))
  ]

  -- ---- keys

  old_at : (k : ℕ) → CoversBelow (s.old ∷ []) b.old k → InCell s.old k
  old_at k (inl (c, in_b, leaf, at)) =
      let goes = is.step.goes c in_b in
      let low = twig_node.name_from (name_of c) goes in
      let high = twig_node.name_to (name_of c) goes in
      let at_c = in_cell c k at in
      in_cell s.old k (omega (arith, low, at_c), omega (arith, high, at_c))
  old_at k (inr (x, (d, in_d, member), at)) =
      let has = subst (λ (c : CellSeen). Contains (node_of c).spans x) (only s.old d in_d) member in
      let low = twig_node.span_from x has in
      let high = twig_node.span_to x has in
      in_cell s.old k (omega (arith, low, at), omega (arith, high, at))

  under_name : (u : CellSeen) (n : Name) (k : ℕ) → Contains s.new u → Contains (node_of u).names n → InName n k → InCell u k
  under_name u n k in_u member at =
      let low = (new_node u in_u).name_from n member in
      let high = (new_node u in_u).name_to n member in
      in_cell u k (omega (arith, low, at), omega (arith, high, at))

  under_span : (u : CellSeen) (x : Span) (k : ℕ) → Contains s.new u → Contains (node_of u).spans x → (x.lo ≤ k) × (k < x.hi)
      → InCell u k
  under_span u x k in_u member at =
      let low = (new_node u in_u).span_from x member in
      let high = (new_node u in_u).span_to x member in
      in_cell u k (omega (arith, low, at), omega (arith, high, at))

  one_twig : (u v : CellSeen) (k : ℕ) → Contains s.new u → Contains s.new v → InCell u k → InCell v k → u ≡ v
  one_twig u v k in_u in_v at_u at_v = follow_apart s.old.level (rank s.old.lo)
      (rank s.old.hi) s.new u v k is.step.ranges in_u in_v at_u at_v

  -- no key of what goes lies under a leaf that stays
  old_apart : (k : ℕ) (n : Name) → CoversBelow (s.old ∷ []) b.old k → Contains (node_of s.old).names n → (IsNameOf b.old n → ⊥)
      → n.level ≡ 1 → InName n k → ⊥
  old_apart k n (inl (c, in_b, leaf, at)) member stays one under = stays
      (c, in_b, twig_node.names_apart n (name_of c) k member (is.step.goes c in_b) (one ∙ sym leaf) under (in_cell c k at))
  old_apart k n (inr (x, (d, in_d, has), at)) member stays one under =
      let data_block = twig_node.spans_apart n x k member (subst (λ (c : CellSeen). Contains (node_of c).spans x)
      (only s.old d in_d) has) under at in
      omega (arith, data_block, one)

  -- nor does one of what comes
  new_apart : (k : ℕ) (n : Name) → CoversBelow s.new b.new k → Contains (node_of s.old).names n → (IsNameOf b.old n → ⊥)
      → n.level ≡ 1 → InName n k → ⊥
  new_apart k n (inl (c, in_b, leaf, at)) member stays one under =
      let (v, in_v, has_n) = (is.step.names n).1 (inl (member, stays)) in
      let (u, in_u, has_c) = (is.step.names (name_of c)).1 (inr (c, in_b, refl)) in
      let at_c = in_cell c k at in
      let uv = one_twig u v k in_u in_v (under_name u (name_of c) k in_u has_c at_c) (under_name v n k in_v has_n under) in
      let same = (new_node v in_v).names_apart n (name_of c) k has_n
      (subst (λ (z : CellSeen). Contains (node_of z).names (name_of c)) uv has_c) (one ∙ sym leaf) under at_c in
      let id = ap (λ (m : Name). m.id) same in
      elim (is.numbers.each c in_b) [
        | inl again ↦ let (o, in_o, same_o) = id_cell b.old c.id again in stays
            (o, in_o, gone_id o n in_o member (id ∙ sym same_o))
        | inr new ↦ new.0.1 (n, (s.old.id, node_of s.old, twig_there, member), id)
      ]
  new_apart k n (inr (x, (u, in_u, has), at)) member stays one under =
      let (v, in_v, has_n) = (is.step.names n).1 (inl (member, stays)) in
      let uv = one_twig u v k in_u in_v (under_span u x k in_u has at) (under_name v n k in_v has_n under) in
      let data_block = (new_node v in_v).spans_apart n x k has_n
      (subst (λ (z : CellSeen). Contains (node_of z).spans x) uv has) under at in
      omega (arith, data_block, one)

  pub goes_covered : (k : ℕ) → CoversBelow (s.old ∷ []) b.old k → CoversBelow s.new b.new k
  goes_covered k h =
      let at = old_at k h in
      let (u, in_u, at_u) = follow_covers s.old.level (rank s.old.lo) (rank s.old.hi) s.new k is.step.ranges at.0 at.1 in
      let level = new_level u in_u in
      elim ((new_node u in_u).covered k (omega (arith, level)) (in_node u k at_u)) [
        | inr spanned ↦ let (x, member, in_x) = spanned in inr (x, (u, in_u, member), in_x)
        | inl named ↦
            let (n, member, up, under) = named in
            elim ((is.step.names n).0 (u, in_u, member)) [
              | inl stays ↦ absurd (old_apart k n h stays.0 stays.1 (omega (arith, up, level)) under)
              | inr comes ↦ let (c, in_b, e) = comes in inl (
                c,
                in_b,
                leaf_level n c e (omega (arith, up, level)),
                in_leaf n c k e under,
              )
            ]
      ]
    where
      leaf_level : (n : Name) (c : CellSeen) → n ≡ name_of c → n.level ≡ 1 → c.level ≡ 1
      leaf_level n c e one = sym (ap (λ (m : Name). m.level) e) ∙ one

      in_leaf : (n : Name) (c : CellSeen) (j : ℕ) → n ≡ name_of c → InName n j → InNode (node_of c) j
      in_leaf n c j e under = in_node c j (subst (λ (m : Name). InName m j) e under)

  new_at : (k : ℕ) → CoversBelow s.new b.new k → InCell s.old k
  new_at k (inl (c, in_b, leaf, at)) =
      let (u, in_u, has_c) = (is.step.names (name_of c)).1 (inr (c, in_b, refl)) in
      let at_u = under_name u (name_of c) k in_u has_c (in_cell c k at) in
      let low = (inside u in_u).from in
      let high = (inside u in_u).to in
      (omega (arith, low, at_u), omega (arith, high, at_u))
  new_at k (inr (x, (u, in_u, has), at)) =
      let at_u = under_span u x k in_u has at in
      let low = (inside u in_u).from in
      let high = (inside u in_u).to in
      (omega (arith, low, at_u), omega (arith, high, at_u))

  pub comes_covered : (k : ℕ) → CoversBelow s.new b.new k → CoversBelow (s.old ∷ []) b.old k
  comes_covered k h = elim (twig_node.covered k (omega (arith, old_level)) (in_node s.old k (new_at k h))) [
    | inr spanned ↦ let (x, member, in_x) = spanned in inr (x, (s.old, here s.old [], member), in_x)
    | inl named ↦
        let (n, member, up, under) = named in
        let one : n.level ≡ 1 = omega (arith, up, old_level) in
        elim (goes_or_stays n member) [
          | inl goes ↦ let (c, in_b, e) = goes in inl (
            c,
            in_b,
            sym (ap (λ (m : Name). m.level) e) ∙ one,
            in_node c k (subst (λ (m : Name). InName m k) e under),
          )
          | inr stays ↦ absurd (new_apart k n h member stays one under)
        ]
  ]

  pub covered : (k : ℕ) → CoversBelow (s.old ∷ []) b.old k ↔ CoversBelow s.new b.new k
  covered k = (goes_covered k, comes_covered k)
