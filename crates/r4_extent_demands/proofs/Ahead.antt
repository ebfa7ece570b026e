-- The extents of a node, one after the other.
use Rattle.std.specs.Prelude.{◌≡◌, ℕ, ◌+◌, ◌<◌, ◌≤◌, List, [], ◌∷◌, drop, length, Contains}
use Rattle.std.proofs.Common.{inl, inr, sym, ap, subst, ◌∙◌}
use Rattle.std.proofs.lemmas.List.{drop_all}
use Rattle.std.proofs.lemmas.List.Elements.{Contains-append_cases}
use Rattle.r4_base.specs.Cell.{spans_in}
use Rattle.r4_base.specs.Key.{rank}
use Rattle.r4_base.specs.Node.{items_of}
use Rattle.r4_base.specs.Tree.{Span}
use Rattle.r4_bodies.specs.r4_cell.Seen.{CellSeen, node_of}
use Rattle.r4_bodies.specs.r4_leaf_demands.Touching.{IsToldAt, spans_at}
use Rattle.r4_graft.proofs.r4_node40.Following.{item_first}
use Rattle.r4_bodies.proofs.r4_leaf_edits.r4_patch.Members.{cases, here, none}
use Rattle.r4_bodies.proofs.r4_search.Places.{item_in, spans_at as in_spans}
use Rattle.r4_extent_demands.specs.Ranges.{Holds, HoldsAt, HoldsIn}
use Rattle.r4_extent_demands.specs.declared.ranges.Way.{Way}
use Rattle.r4_extent_demands.proofs.Puts.{cell_spans, spans_next, spans_nil}

module _ (way : Way) (c : CellSeen) where
  -- what the extent at a place tells
  module _ (place : ℕ) (s : Span) (told : IsToldAt c place (s ∷ [])) where
    pub one_holds : place < length (items_of c.block) → Holds way s → HoldsAt way c place
    one_holds within h =
        let (it, is) = item_in (items_of c.block) place within in
        (it, s, is, subst (λ (ss : List Span). Contains ss s) (sym (told it is)) (here s []), h)

    pub holds_one : HoldsAt way c place → Holds way s
    holds_one (it, x, is, at, h) = elim (cases s x [] (subst (λ (ss : List Span). Contains ss x) (told it is) at)) [
      | inl same ↦ subst (Holds way) same h
      | inr more ↦ absurd (none x more)
    ]

  pub none_holds : (place : ℕ) → IsToldAt c place [] → HoldsAt way c place → ⊥
  none_holds place told (it, x, is, at, h) = none x (subst (λ (ss : List Span). Contains ss x) (told it is) at)

  -- ---- all extents

  -- those of which it holds stand from a place on
  abbrev pub AreAhead : (place : ℕ) → Type 0
  AreAhead place = (s : Span) → Contains (node_of c).spans s → Holds way s
      → Contains (spans_in (rank c.hi) (drop place (items_of c.block))) s

  module _ (some : 1 ≤ c.level) where
    pub all_ahead : AreAhead 0
    all_ahead s at h = subst (λ (ss : List Span). Contains ss s) (cell_spans c some) at

    pub holds_in : (place : ℕ) → HoldsAt way c place → HoldsIn way c
    holds_in place (it, s, is, at, h) = (
      s,
      subst (λ (ss : List Span). Contains ss s) (sym (cell_spans c some))
          (in_spans (rank c.hi) (items_of c.block) place it (drop (place + 1) (items_of c.block)) s
          (item_first (items_of c.block) place it is) at),
      h,
    )

    pub ahead_next : (place : ℕ) → place < length (items_of c.block) → AreAhead place
        → (HoldsAt way c place → ⊥) → AreAhead (place + 1)
    ahead_next place within ahead not s at h =
        let (it, is) = item_in (items_of c.block) place within in
        let rest = drop (place + 1) (items_of c.block) in
        elim (Contains-append_cases (spans_at c place it) (spans_in (rank c.hi) rest) s
        (subst (λ (ss : List Span). Contains ss s) (spans_next c place it is) (ahead s at h))) [
          | inl first ↦ absurd (not (it, s, is, first, h))
          | inr later ↦ later
        ]

    pub none_ahead : (place : ℕ) → length (items_of c.block) ≤ place → AreAhead place → HoldsIn way c → ⊥
    none_ahead place past ahead (s, at, h) =
        let nothing : spans_in (rank c.hi) (drop place (items_of c.block))
        ≡ [] = ap (spans_in (rank c.hi)) (drop_all place (items_of c.block) past) ∙ spans_nil (rank c.hi) in
        none s (subst (λ (ss : List Span). Contains ss s) nothing (ahead s at h))
