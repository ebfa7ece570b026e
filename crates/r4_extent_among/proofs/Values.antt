-- The values that come into the ranges of extents.
use Rattle.std.proofs.Common.{inl, inr, List, [], ◌∷◌, subst}
use Rattle.std.specs.Prelude.{Contains, Option}
use Rattle.std.specs.List.{flat_map}
use Rattle.std.proofs.lemmas.List.Elements.{Contains-append_cases, Contains-append_left, Contains-append_right}
use Rattle.r4_base.specs.Tree.{Span}
use Rattle.r4_content.specs.Edited.{Edits}
use Rattle.r4_extent_build.specs.r4_extent_demands.Putting.{put_into}
use Rattle.r4_build.specs.r4_leaf.Units.{LeafUnit}
use Rattle.r4_build.proofs.r4_patch.Members.{cases, here, later, none}
use Rattle.r4_build.specs.r4_reach.Touched.{Body}

module _ (b : Option Body) (e : Edits) where
  abbrev pub into : Span → List LeafUnit
  into s = put_into b e s.lo s.hi

  pub from_spans : (ss : List Span) (w : LeafUnit) → Contains (flat_map into ss) w → (s : Span) × Contains ss s × Contains (into s) w
  from_spans [] w at = absurd (none w at)
  from_spans (s ∷ ss) w at = elim (Contains-append_cases (into s) (flat_map into ss) w at) [
    | inl mine ↦ (s, here s ss, mine)
    | inr more ↦ let (z, m, has) = from_spans ss w more in (z, later s z ss m, has)
  ]

  pub to_spans : (ss : List Span) (s : Span) (w : LeafUnit) → Contains ss s → Contains (into s) w → Contains (flat_map into ss) w
  to_spans [] s w m at = absurd (none s m)
  to_spans (z ∷ ss) s w m at = elim (cases z s ss m) [
    | inl is ↦ Contains-append_left (into z) (flat_map into ss) w (subst (λ (y : Span). Contains (into y) w) is at)
    | inr more ↦ Contains-append_right (into z) (flat_map into ss) w (to_spans ss s w more at)
  ]
