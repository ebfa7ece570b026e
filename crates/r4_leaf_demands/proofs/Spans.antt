-- The extents of a node, one after the other.
use Rattle.std.specs.Prelude.{◌≡◌, ℕ, suc, ◌+◌, ◌-◌, ◌<◌, ◌≤◌, List, [], ◌∷◌, ◌++◌, drop, length}
use Rattle.std.specs.Prelude.{Contains}
use Rattle.std.proofs.Common.{arith, inl, inr, refl, sym, ap, subst, ◌∙◌}
use Rattle.std.proofs.lemmas.List.{drop_all}
use Rattle.std.proofs.lemmas.List.Elements.{Contains-append_cases}
use Rattle.r4_base.specs.Cell.{next_key, spans_in}
use Rattle.r4_base.specs.Key.{rank}
use Rattle.r4_base.specs.Node.{Item, items_of}
use Rattle.r4_base.specs.Tree.{Span}
use Rattle.r4_cell.specs.Seen.{CellSeen, node_of}
use Rattle.r4_content.specs.Edited.{Edits, Intervals}
use Rattle.r4_node40.proofs.Following.{item_first}
use Rattle.r4_marking.proofs.r4_patch.Members.{cases, here, none}
use Rattle.r4_marking.proofs.r4_path.CellNodes.{spans_are}
use Rattle.r4_marking.proofs.r4_search.Places.{item_in, spans_at as in_spans}
use Rattle.r4_leaf_demands.specs.Touching.{IsToldAt, IsTouched, IsTouchedAt, IsTouchedIn, item_spans, spans_at}
use Rattle.r4_leaf_demands.specs.declared.touching.Way.{Way}

cell_spans : (c : CellSeen) → 1 ≤ c.level → (node_of c).spans ≡ spans_in (rank c.hi) (items_of c.block)
cell_spans c some = let e : c.level ≡ suc (c.level - 1) = omega (arith, some) in spans_are c (c.level - 1) e

pub spans_cons : (hi : ℕ) (it : Item) (items : List Item) → spans_in hi (it ∷ items)
    ≡ item_spans (next_key hi items) it ++ spans_in hi items
unfolding spans_in
spans_cons hi it items = refl

pub spans_nil : (hi : ℕ) → spans_in hi [] ≡ []
unfolding spans_in
spans_nil hi = refl

module _ (way : Way) (e : Edits) (reads : Intervals) (c : CellSeen) where
  -- what the extent at a place tells
  module _ (place : ℕ) (s : Span) (told : IsToldAt c place (s ∷ [])) where
    pub one_touched : place < length (items_of c.block) → IsTouched way e reads s → IsTouchedAt way e reads c place
    one_touched within h =
        let (it, is) = item_in (items_of c.block) place within in
        (it, s, is, subst (λ (ss : List Span). Contains ss s) (sym (told it is)) (here s []), h)

    pub touched_one : IsTouchedAt way e reads c place → IsTouched way e reads s
    touched_one (it, x, is, at, h) = elim (cases s x [] (subst (λ (ss : List Span). Contains ss x) (told it is) at)) [
      | inl same ↦ subst (IsTouched way e reads) same h
      | inr more ↦ absurd (none x more)
    ]

  pub none_touched : (place : ℕ) → IsToldAt c place [] → IsTouchedAt way e reads c place → ⊥
  none_touched place told (it, x, is, at, h) = none x (subst (λ (ss : List Span). Contains ss x) (told it is) at)

  -- ---- all extents

  -- those that are touched stand from a place on
  abbrev pub AreAhead : (place : ℕ) → Type 0
  AreAhead place = (s : Span) → Contains (node_of c).spans s → IsTouched way e reads s
      → Contains (spans_in (rank c.hi) (drop place (items_of c.block))) s

  module _ (some : 1 ≤ c.level) where
    pub all_ahead : AreAhead 0
    all_ahead s at h = subst (λ (ss : List Span). Contains ss s) (cell_spans c some) at

    pub touched_in : (place : ℕ) → IsTouchedAt way e reads c place → IsTouchedIn way e reads c
    touched_in place (it, s, is, at, h) = (
      s,
      subst (λ (ss : List Span). Contains ss s) (sym (cell_spans c some))
          (in_spans (rank c.hi) (items_of c.block) place it (drop (place + 1) (items_of c.block)) s
          (item_first (items_of c.block) place it is) at),
      h,
    )

    pub ahead_next : (place : ℕ) → place < length (items_of c.block) → AreAhead place
        → (IsTouchedAt way e reads c place → ⊥) → AreAhead (place + 1)
    ahead_next place within ahead not s at h =
        let (it, is) = item_in (items_of c.block) place within in
        let rest = drop (place + 1) (items_of c.block) in
        let parts : spans_in (rank c.hi) (drop place (items_of c.block))
        ≡ spans_at c place it ++ spans_in (rank c.hi) rest = ap (spans_in (rank c.hi))
        (item_first (items_of c.block) place it is) ∙ spans_cons (rank c.hi) it rest in
        elim (Contains-append_cases (spans_at c place it) (spans_in (rank c.hi) rest) s
        (subst (λ (ss : List Span). Contains ss s) parts (ahead s at h))) [
          | inl first ↦ absurd (not (it, s, is, first, h))
          | inr later ↦ later
        ]

    pub none_ahead : (place : ℕ) → length (items_of c.block) ≤ place → AreAhead place → IsTouchedIn way e reads c → ⊥
    none_ahead place past ahead (s, at, h) =
        let nothing : spans_in (rank c.hi) (drop place (items_of c.block))
        ≡ [] = ap (spans_in (rank c.hi)) (drop_all place (items_of c.block) past) ∙ spans_nil (rank c.hi) in
        none s (subst (λ (ss : List Span). Contains ss s) nothing (ahead s at h))
