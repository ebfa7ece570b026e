-- The new leaves of a twig, one behind the other: where their ranges lie.
use Rattle.std.proofs.Common.{◌≡◌, ◌⊎◌, inl, inr, ℕ, ◌<◌, ◌≤◌, List, [], ◌∷◌, ◌++◌, refl, sym, subst, arith}
use Rattle.std.specs.Prelude.{Contains, Option}
use Rattle.std.proofs.lemmas.List.Elements.{Contains-append_cases}
use Rattle.r4_base.specs.Key.{rank}
use Rattle.r4_base.specs.Tree.{IsNode, Span}
use Rattle.r4_extent_build.specs.r4_cell.Seen.{CellSeen, node_of}
use Rattle.r4_content.specs.Edited.{Edits, is_between}
use Rattle.r4_content.specs.Listed.{list_edited}
use Rattle.r4_extent_build.specs.r4_edit.Extents.{AreAmongExtents}
use Rattle.r4_build.proofs.r4_edit.AmongExtents.{among_extents}
use Rattle.r4_build.proofs.r4_edit.OverLeaf.{leaf_node}
use Rattle.r4_extent_build.specs.r4_extent_demands.Putting.{put_into}
use Rattle.r4_build.specs.r4_leaf.Units.{LeafUnit}
use Rattle.r4_build.proofs.r4_patch.Members.{cases, here, later, none}
use Rattle.r4_build.specs.r4_path.Sharing.{IsSound}
use Rattle.r4_build.specs.r4_path.Steps.{Follow}
use Rattle.r4_build.specs.r4_path.TwigPieces.{twig_pieces}
use Rattle.r4_build.proofs.r4_path.Rising.{follow_order, follow_within}
use Rattle.r4_build.specs.r4_reach.Needs.{leaf_edits}
use Rattle.r4_build.specs.r4_reach.Touched.{Body}
use Rattle.r4_build.proofs.r4_work.UnitMembers.{between, filtered}
use Rattle.r4_extent_among.specs.Among.{AreLeavesFor, AreLeavesIn, IsAmong}
use Rattle.r4_extent_among.proofs.Behind.{LieApart, lie_behind}
use Rattle.r4_extent_among.proofs.SpansRise.{IsEnd, SpansRise, twig_ends, twig_spans}
use Rattle.r4_extent_among.proofs.Values.{to_spans}

-- where a leaf's range ends: where a piece begins or the twig's range ends, or where the next leaf begins
abbrev pub EndsWell : CellSeen → (key : ℕ) → List CellSeen → Type 0
EndsWell twig k [] = IsEnd (twig_pieces twig) (rank twig.hi) k
EndsWell twig k (d ∷ ds) = IsEnd (twig_pieces twig) (rank twig.hi) k ⊎ (rank d.lo ≡ k)

pub record IsLink (twig c : CellSeen) (more : List CellSeen) : Type 0 where
  pub level : c.level ≡ 1
  pub sound : IsSound c
  pub keys : AreAmongExtents twig (rank c.lo) (rank c.hi)
  pub ends : EndsWell twig (rank c.hi) more
  pub apart : (d : CellSeen) → Contains more d → rank c.hi ≤ rank d.lo

abbrev pub IsChain : CellSeen → List CellSeen → Type 0
IsChain twig [] = Unit {0}
IsChain twig (c ∷ cs) = IsLink twig c cs × IsChain twig cs

-- all of the cells begin from a key on
abbrev pub AllFrom : (key : ℕ) → List CellSeen → Type 0
AllFrom k cs = (d : CellSeen) → Contains cs d → k ≤ rank d.lo

module _ (twig : CellSeen) where
  -- leaves of one range, with others behind them
  linked : (lo hi : ℕ) (cs others : List CellSeen) → Follow 1 lo hi cs
      → ((from to : ℕ) → lo ≤ from → from < to → to ≤ hi → AreAmongExtents twig from to)
      → ((c : CellSeen) → Contains cs c → IsSound c) → IsEnd (twig_pieces twig) (rank twig.hi) hi → AllFrom hi others → IsChain twig others
      → IsChain twig (cs ++ others)
  linked lo hi [] others f clear sound end behind chain = chain
  linked lo hi (c ∷ cs) others f clear sound end behind chain =
      let order = follow_order 1 (rank c.hi) hi cs f.3 in
      let at = f.1 in
      let wide = f.2 in (
        record {
          level = f.0;
          sound = sound c (here c cs);
          keys = clear (rank c.lo) (rank c.hi) (omega (arith, at)) (omega (arith, at, wide)) order;
          ends = by_more cs f.3;
          apart = λ d m. elim (Contains-append_cases cs others d m) [
            | inl mine ↦ (follow_within 1 (rank c.hi) hi cs d f.3 mine).from
            | inr other ↦ let h = behind d other in omega (arith, h, order)
          ];
        },
        linked (rank c.hi) hi cs others f.3 (λ from to a b z. clear from to (omega (arith, a, at, wide)) b z) (λ d m. sound d (later c d cs m)) end behind chain,
      )
    where
      by_others : (ds : List CellSeen) → rank c.hi ≡ hi → EndsWell twig (rank c.hi) ds
      by_others [] is = subst (IsEnd (twig_pieces twig) (rank twig.hi)) (sym is) end
      by_others (d ∷ ds) is = inl (subst (IsEnd (twig_pieces twig) (rank twig.hi)) (sym is) end)

      by_more : (ds : List CellSeen) → Follow 1 (rank c.hi) hi ds → EndsWell twig (rank c.hi) (ds ++ others)
      by_more [] is = by_others others is
      by_more (d ∷ ds) g = inr g.1

module _ (b : Option Body) (e : Edits) (twig : CellSeen) (is : IsAmong b e twig) where
  module _ (s : Span) (in_it : Contains (node_of twig).spans s) (u : LeafUnit) (at : Contains (put_into b e s.lo s.hi) u) where
    -- the value lies in the range
    pub value_in : (s.lo ≤ u.0) × (u.0 < s.hi)
    value_in = between s.lo s.hi u.0 (filtered (λ (w : LeafUnit). is_between s.lo s.hi w.0) (list_edited (leaf_edits b e) []) u at).1

    -- the twig's blocks and holes lie before it, or behind the range
    pub behind_of : LieApart (node_of twig).names (node_of twig).units u.0 s.hi
    behind_of =
        let free = is.free u (to_spans b e (node_of twig).spans s u in_it at) in
        lie_behind twig is.sound is.level s u.0 in_it value_in (free.blocks, free.holes)

    clear_from : (from to : ℕ) → u.0 ≤ from → from < to → to ≤ s.hi → AreAmongExtents twig from to
    clear_from from to low some high =
        let v = value_in in
        let h = behind_of in
        among_extents twig s from to is.node in_it (omega (arith, v, low)) some high
        (λ n named block. elim (h.0 n named block) [
          | inl before ↦ inl (omega (arith, before, low))
          | inr behind ↦ inr (omega (arith, behind, high))
        ])
        (λ k v own. elim (h.1 k v own) [
          | inl before ↦ inl (omega (arith, before, low))
          | inr behind ↦ inr (omega (arith, behind, high))
        ])

  -- the leaves of one range begin from its first key on
  mine_from : (s : Span) (us : List LeafUnit) (hi m : ℕ) (cs : List CellSeen) → ((u : LeafUnit) → Contains us u → s.lo ≤ u.0) → AreLeavesFor us hi m cs → AllFrom s.lo cs
  mine_from s [] hi m cs low h d at = absurd (none d (subst (λ ds. Contains ds d) h at))
  mine_from s (u ∷ us) hi m cs low h d at = let w = (follow_within 1 u.0 hi cs d h.ranges at).from in let l = low u (here u us) in omega (arith, w, l)

  for_one : (s : Span) (us : List LeafUnit) (m : ℕ) (mine others : List CellSeen) → Contains (node_of twig).spans s → us ≡ put_into b e s.lo s.hi
      → AreLeavesFor us s.hi m mine → AllFrom s.hi others → IsChain twig others → IsChain twig (mine ++ others)
  for_one s [] m mine others in_it us_is h behind chain = subst (λ cs. IsChain twig (cs ++ others)) (sym h) chain
  for_one s (u ∷ us) m mine others in_it us_is h behind chain =
      linked twig u.0 s.hi mine others h.ranges
      (clear_from s in_it u (subst (λ vs. Contains vs u) us_is (here u us))) h.sound (twig_ends twig is.sound is.level s in_it) behind chain

  chained : (m from : ℕ) (ss : List Span) (cs : List CellSeen) → SpansRise from ss → ((s : Span) → Contains ss s → Contains (node_of twig).spans s)
      → AreLeavesIn b e m ss cs → AllFrom from cs × IsChain twig cs
  chained m from [] cs rise among h = (λ d at. absurd (none d (subst (λ ds. Contains ds d) h at)), subst (IsChain twig) (sym h) tt)
  chained m from (s ∷ ss) cs rise among (mine, others, cs_are, h, rest) =
      let more = chained m s.hi ss others rise.2 (λ z at. among z (later s z ss at)) rest in
      let in_it = among s (here s ss) in
      let low = mine_from s (put_into b e s.lo s.hi) s.hi m mine (λ u at. (value_in s in_it u at).0) h in
      let a = rise.0 in
      let wide = rise.1 in (
        λ d at. elim (Contains-append_cases mine others d (subst (λ ds. Contains ds d) cs_are at)) [
          | inl x ↦ let l = low d x in omega (arith, l, a)
          | inr y ↦ let l = more.0 d y in omega (arith, l, a, wide)
        ],
        subst (IsChain twig) (sym cs_are) (for_one s (put_into b e s.lo s.hi) m mine others in_it refl h more.0 more.1),
      )

  pub chain_of : (m : ℕ) (cs : List CellSeen) → AreLeavesIn b e m (node_of twig).spans cs → IsChain twig cs
  chain_of m cs h = (chained m (rank twig.lo) (node_of twig).spans cs (twig_spans twig is.sound is.level) (λ s at. at) h).1

-- a leaf of a chain may stand
pub link_node : (twig c : CellSeen) (more : List CellSeen) → IsNode (node_of twig) → IsLink twig c more → IsNode (node_of c)
link_node twig c more node l =
    let low = l.keys.low in
    let high = l.keys.high in
    leaf_node twig c node l.level low l.keys.some high l.sound

pub chain_cell : (twig : CellSeen) (cs : List CellSeen) (c : CellSeen) → IsNode (node_of twig) → IsChain twig cs → Contains cs c → IsNode (node_of c) × (c.level ≡ 1)
chain_cell twig [] c node h at = absurd (none c at)
chain_cell twig (d ∷ ds) c node h at = elim (cases d c ds at) [
  | inl is ↦ subst (λ (x : CellSeen). IsNode (node_of x) × (x.level ≡ 1)) (sym is) (link_node twig d ds node h.0, h.0.level)
  | inr more ↦ chain_cell twig ds c node h.1 more
]
