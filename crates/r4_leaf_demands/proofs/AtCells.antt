-- Which cells have keys that are changed or read.
use Rattle.std.specs.Prelude.{◌≡◌, ◌↔◌, ℕ, zero, suc, ◌^◌, ◌≤◌, ◌==◌, List, [], ◌∷◌, ◌++◌, length, Bool, true, false}
use Rattle.std.specs.Prelude.{Contains, None}
use Rattle.std.proofs.Common.{arith, inl, inr, refl, ap, subst, ◌∙◌}
use Rattle.std.proofs.lemmas.Bool.Decides.{nat_tests}
use Rattle.r4_base.specs.Cell.{cell_fault, cell_of, next_key, spans_in}
use Rattle.r4_base.specs.Key.{rank}
use Rattle.r4_base.specs.Node.{Item, PluginsFit, fits_level, items_of}
use Rattle.r4_base.specs.Tree.{Span}
use Rattle.r4_cell.specs.Seen.{CellSeen, node_of}
use Rattle.r4_cell.proofs.NodesAt.{node_at, plugins_at}
use Rattle.r4_content.specs.Edited.{Edits, Intervals, changed}
use Rattle.r4_marking.proofs.Asked.{node_level}
use Rattle.r4_marking.proofs.r4_patch.Members.{none}
use Rattle.r4_marking.proofs.r4_path.CellNodes.{spans_are}
use Rattle.r4_marking.proofs.r4_path.Rising.{hi_is, lo_is}
use Rattle.r4_marking.specs.r4_reach.Demand.{Spans}
use Rattle.r4_marking.specs.r4_reach.Reach.{IsReadAt, IsWrittenAt}
use Rattle.r4_leaf_demands.specs.Leaves.{leaf_demand}
use Rattle.r4_leaf_demands.specs.Touching.{IsTouchedIn, item_spans}
use Rattle.r4_leaf_demands.specs.declared.touching.Way.TheVariants.{Change, Read}
use Rattle.r4_leaf_demands.proofs.Meets.{HasOf}
use Rattle.r4_leaf_demands.proofs.Spans.{spans_cons, spans_nil}

-- ---- leaves and data blocks have no extents

item_none : (level next : ℕ) (it : Item) → level ≡ 1 → fits_level level it.plugin ≡ true → item_spans next it ≡ []
item_none level next it one fits = let five : (it.plugin == 5)
    ≡ false = grind (arith, nat_tests, one, fits) in rw five refl

items_none : (level hi : ℕ) (items : List Item) → level ≡ 1 → PluginsFit level items → spans_in hi items ≡ []
items_none level hi [] one fits = spans_nil hi
items_none level hi (it ∷ items) one fits =
    spans_cons hi it items ∙ ap (λ (ss : List Span). ss ++ spans_in hi items)
    (item_none level (next_key hi items) it one (fits 0 it refl))
    ∙ items_none level hi items one (λ k x is. fits (suc k) x is)

pub leaf_none : (x : CellSeen) → x.level ≡ 1 → length x.block ≡ 4096 → cell_fault true (2 ^ 64) x.level (rank x.lo)
    (rank x.hi) x.block ≡ None → (node_of x).spans ≡ []
leaf_none x one whole stands =
    let at = node_at true (2 ^ 64) x.level (rank x.lo) (rank x.hi) x.block (omega (arith, one)) stands in
    spans_are x 0 one ∙ items_none x.level (rank x.hi) (items_of x.block) one
    (plugins_at true (2 ^ 64) x.level (rank x.lo) (rank x.hi) x.block whole at)

block_none : (level lo hi : ℕ) (b : List ℕ) → level ≡ 0 → (cell_of level lo hi b).spans ≡ []
unfolding cell_of
block_none zero lo hi b e = refl
block_none (suc l) lo hi b e = absurd (omega (arith, e))

pub data_none : (x : CellSeen) → x.level ≡ 0 → (node_of x).spans ≡ []
data_none x zero_is = block_none x.level (rank x.lo) (rank x.hi) x.block zero_is

module _ (e : Edits) (reads : Intervals) (x : CellSeen) (t : Bool) where
  -- ---- low cells

  module _ (low : x.level ≤ 1) (nothing : (node_of x).spans ≡ []) where
    no_span : (k : ℕ) → Spans (node_of x) k → ⊥
    no_span k (s, at, in_s) = none s (subst (λ (ss : List Span). Contains ss s) nothing at)

    pub written_low : (t ≡ true) ↔ HasOf (changed e) (rank x.lo) (rank x.hi)
        → (t ≡ true) ↔ IsWrittenAt (leaf_demand e reads) (node_of x)
    written_low h =
        let level = node_level x in
        let from = lo_is x in
        let to = hi_is x in (
          (λ is. let (k, at, down, up) = h.0 is in
              (k, at, inl (omega (arith, level, low), (omega (arith, from, down), omega (arith, to, up))))),
          (λ w. let (k, at, place) = w in elim place [
            | inl here ↦
                (let (lt, range) = here in let (down, up) = range in h.1
                (k, at, omega (arith, from, down), omega (arith, to, up)))
            | inr span ↦ absurd (no_span k span.0)
          ]),
        )

    pub read_low : (t ≡ true) ↔ HasOf reads (rank x.lo) (rank x.hi) → (t ≡ true) ↔ IsReadAt (leaf_demand e reads)
        (node_of x)
    read_low h =
        let level = node_level x in
        let from = lo_is x in
        let to = hi_is x in (
          (λ is. let (k, at, down, up) = h.0 is in
              (k, inl (at, inl (omega (arith, level, low), (omega (arith, from, down), omega (arith, to, up)))))),
          (λ r. let (k, way) = r in elim way [
            | inl read ↦ (let (at, place) = read in elim place [
              | inl here ↦
                  (let (lt, range) = here in let (down, up) = range in h.1
                  (k, at, omega (arith, from, down), omega (arith, to, up)))
              | inr span ↦ absurd (no_span k span)
            ])
            | inr change ↦ absurd (no_span k change.2)
          ]),
        )

  -- ---- nodes above the leaves

  module _ (high : 2 ≤ x.level) where
    pub written_high : (t ≡ true) ↔ IsTouchedIn Change e reads x → (t ≡ true) ↔ IsWrittenAt (leaf_demand e reads)
        (node_of x)
    written_high h =
        let level = node_level x in (
          (λ is. let (s, in_s, touched) = h.0 is in let (k, at, kind, down, up) = touched in
              (k, at, inr ((s, in_s, (down, up)), kind))),
          (λ w. let (k, at, place) = w in elim place [
            | inl here ↦ (let lt = here.0 in absurd (omega (arith, level, lt, high)))
            | inr span ↦
                (let (spans, kind) = span in let (s, in_s, range) = spans in h.1
                (s, in_s, (k, at, kind, range.0, range.1)))
          ]),
        )

    pub read_high : (t ≡ true) ↔ IsTouchedIn Read e reads x → (t ≡ true) ↔ IsReadAt (leaf_demand e reads) (node_of x)
    read_high h =
        let level = node_level x in (
          (λ is. let (s, in_s, touched) = h.0 is in elim touched [
            | inl read ↦ (let (k, at, down, up) = read in (k, inl (at, inr (s, in_s, (down, up)))))
            | inr change ↦ (let (k, at, kind, down, up) = change in (k, inr (at, kind, (s, in_s, (down, up)))))
          ]),
          (λ r. let (k, way) = r in elim way [
            | inl read ↦ (let (at, place) = read in elim place [
              | inl here ↦ (let lt = here.0 in absurd (omega (arith, level, lt, high)))
              | inr span ↦ (let (s, in_s, range) = span in h.1 (s, in_s, inl (k, at, range.0, range.1)))
            ])
            | inr change ↦
                (let (at, kind, span) = change in let (s, in_s, range) = span in h.1
                (s, in_s, inr (k, at, kind, range.0, range.1)))
          ]),
        )
