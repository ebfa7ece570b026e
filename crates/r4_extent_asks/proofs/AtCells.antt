-- Which cells have keys that are changed or read.
use Rattle.std.specs.Prelude.{◌≡◌, ◌↔◌, ℕ, ◌≤◌, List, [], Bool, true, false, Contains, Option}
use Rattle.std.proofs.Common.{arith, inl, inr, sym, subst, ◌∙◌}
use Rattle.std.proofs.lemmas.Bool.{both_ways}
use Rattle.r4_base.specs.Key.{rank}
use Rattle.r4_base.specs.Tree.{Span}
use Rattle.r4_units.specs.r4_cell.Seen.{CellSeen, node_of}
use Rattle.r4_content.specs.Edited.{Edits, Intervals}
use Rattle.r4_twig_asks.specs.r4_leaf_demands.Touching.{MeetsKind}
use Rattle.r4_twig_asks.proofs.r4_extent_demands.Meets.{HasOf, keys_meet, met_keys}
use Rattle.r4_twig_asks.proofs.r4_marking.Asked.{node_level}
use Rattle.r4_twig_asks.proofs.r4_patch.Members.{none}
use Rattle.r4_twig_asks.proofs.r4_path.Rising.{hi_is, lo_is}
use Rattle.r4_twig_asks.specs.r4_reach.Demand.{Spans}
use Rattle.r4_twig_asks.specs.r4_reach.Needs.{demand_of, is_met}
use Rattle.r4_twig_asks.specs.r4_reach.Reach.{IsReadAt, IsWrittenAt}
use Rattle.r4_twig_asks.specs.r4_reach.Touched.{Body}

-- a test that is told by the keys of a range
pub met_iff : (t : Bool) (rs : Intervals) (lo hi : ℕ) → t ≡ is_met rs lo hi → (t ≡ true) ↔ HasOf rs lo hi
met_iff t rs lo hi is = ((λ e. met_keys rs lo hi (sym is ∙ e)), (λ h. is ∙ keys_meet rs lo hi h))

module _ (b : Option Body) (e : Edits) (reads rs : Intervals) (x : CellSeen) (t : Bool) where
  -- ---- low cells

  module _ (low : x.level ≤ 1) (nothing : (node_of x).spans ≡ []) where
    no_span : (k : ℕ) → Spans (node_of x) k → ⊥
    no_span k (s, at, in_s) = none s (subst (λ (ss : List Span). Contains ss s) nothing at)

    pub written_low : (t ≡ true) ↔ HasOf rs (rank x.lo) (rank x.hi)
        → (t ≡ true) ↔ IsWrittenAt (demand_of b e reads rs) (node_of x)
    written_low h =
        let level = node_level x in
        let from = lo_is x in
        let to = hi_is x in (
          (λ is. let (k, at, down, up) = h.0 is in
              (k, at, inl (omega (arith, level, low), (omega (arith, from, down), omega (arith, to, up))))),
          (λ w. let (k, at, place) = w in elim place [
            | inl here ↦
                (let (lt, range) = here in let (down, up) = range in h.1
                (k, at, omega (arith, from, down), omega (arith, to, up)))
            | inr span ↦ absurd (no_span k span.0)
          ]),
        )

    pub read_low : (t ≡ true) ↔ HasOf reads (rank x.lo) (rank x.hi)
        → (t ≡ true) ↔ IsReadAt (demand_of b e reads rs) (node_of x)
    read_low h =
        let level = node_level x in
        let from = lo_is x in
        let to = hi_is x in (
          (λ is. let (k, at, down, up) = h.0 is in
              (k, inl (at, inl (omega (arith, level, low), (omega (arith, from, down), omega (arith, to, up)))))),
          (λ r. let (k, way) = r in elim way [
            | inl read ↦ (let (at, place) = read in elim place [
              | inl here ↦
                  (let (lt, range) = here in let (down, up) = range in h.1
                  (k, at, omega (arith, from, down), omega (arith, to, up)))
              | inr span ↦ absurd (no_span k span)
            ])
            | inr change ↦ absurd (no_span k change.2)
          ]),
        )

  -- ---- nodes above the leaves

  module _ (high : 2 ≤ x.level) where
    pub written_high : (t ≡ true) ↔ ((s : Span) × Contains (node_of x).spans s × MeetsKind false rs s.lo s.hi)
        → (t ≡ true) ↔ IsWrittenAt (demand_of b e reads rs) (node_of x)
    written_high h =
        let level = node_level x in (
          (λ is. let (s, in_s, touched) = h.0 is in let (k, at, kind, down, up) = touched in
              (k, at, inr ((s, in_s, (down, up)), kind))),
          (λ w. let (k, at, place) = w in elim place [
            | inl here ↦ (let lt = here.0 in absurd (omega (arith, level, lt, high)))
            | inr span ↦
                (let (spans, kind) = span in let (s, in_s, range) = spans in h.1
                (s, in_s, (k, at, kind, range.0, range.1)))
          ]),
        )

    -- of two tests, one for keys that are read, and one for bodies' keys that are changed
    module _ (read : (t ≡ true) ↔ ((s : Span) × Contains (node_of x).spans s × (is_met reads s.lo s.hi ≡ true))) where
      read_first : t ≡ true → IsReadAt (demand_of b e reads rs) (node_of x)
      read_first is =
          let (s, in_s, met) = read.0 is in
          let (k, at, down, up) = met_keys reads s.lo s.hi met in
          (k, inl (at, inr (s, in_s, (down, up))))

    pub read_on : (t ≡ true) ↔ ((s : Span) × Contains (node_of x).spans s × (is_met reads s.lo s.hi ≡ true))
        → t ≡ true → (t ≡ true) ↔ IsReadAt (demand_of b e reads rs) (node_of x)
    read_on read on = ((λ is. read_first read is), (λ h. on))

    pub read_both : (u : Bool)
        → (t ≡ true) ↔ ((s : Span) × Contains (node_of x).spans s × (is_met reads s.lo s.hi ≡ true))
        → (u ≡ true) ↔ ((s : Span) × Contains (node_of x).spans s × MeetsKind true rs s.lo s.hi)
        → t ≡ false → (u ≡ true) ↔ IsReadAt (demand_of b e reads rs) (node_of x)
    read_both u read change off =
        let level = node_level x in (
          (λ is. let (s, in_s, touched) = change.0 is in
              let (k, at, kind, down, up) = touched in
              (k, inr (at, kind, (s, in_s, (down, up))))),
          (λ r. let (k, way) = r in elim way [
            | inl was ↦ (let (at, place) = was in elim place [
              | inl here ↦ (let lt = here.0 in absurd (omega (arith, level, lt, high)))
              | inr span ↦ (let (s, in_s, range) = span in
                  absurd (both_ways t off (read.1 (s, in_s, keys_meet reads s.lo s.hi (k, at, range.0, range.1)))))
            ])
            | inr changes ↦
                (let (at, kind, span) = changes in let (s, in_s, range) = span in
                change.1 (s, in_s, (k, at, kind, range.0, range.1)))
          ]),
        )
