-- All that a leaf gets, and what it makes of the leaf's units.
use Rattle.std.specs.Prelude.{◌≡◌, ℕ, List, [], ◌∷◌, ◌++◌, ◌&&◌, ◌||◌, map, All, Option}
use Rattle.std.proofs.Common.{sym, ap, subst, ◌∙◌}
use Rattle.std.specs.List.{filter}
use Rattle.std.specs.Option.{option_map}
use Rattle.std.proofs.lemmas.List.Elements.{All-head, All-nil, All-tail}
use Rattle.r4_base.specs.Cell.{units_in}
use Rattle.r4_base.specs.Node.{Item}
use Rattle.r4_content.specs.Edited.{Intervals, Pairs, is_between, is_in}
use Rattle.r4_content.specs.Held.{edits_of, interval_of}
use Rattle.r4_content.specs.declared.edits.Edits.{Edits as HeldEdits}
use Rattle.r4_content.specs.declared.edits.Interval.{Interval}
use Rattle.r4_reach.specs.r4_leaf.Remade.{AreWithin, item_of}
use Rattle.r4_reach.specs.r4_leaf.Units.{LeafUnit}
use Rattle.r4_reach.specs.r4_leaf.declared.remaking.Given.{Given}
use Rattle.r4_reach.specs.r4_leaf.declared.remaking.KeyRange.{KeyRange}
use Rattle.r4_reach.proofs.r4_leaf.Lying.{units_nil}
use Rattle.r4_reach.specs.Needs.{leaf_edits}
use Rattle.r4_reach.specs.Touched.{Body}
use Rattle.r4_leaf_edits.specs.Made.{AreItems, AreOfLeaf, CutsWithin, HaveKeys, MakesEdits, bytes_end, cuts_in, items_in, spread_keys}
use Rattle.r4_leaf_edits.specs.Making.{Gains, Gathers, IsOfRange, all_cuts, all_pairs, range_of}
use Rattle.r4_leaf_edits.specs.Suiting.{SuitLeaves}
use Rattle.r4_leaf_edits.specs.declared.leaf_edits.LeafEdits.{LeafEdits}
use Rattle.r4_leaf_edits.proofs.Law.{makes}
use Rattle.r4_leaf_edits.proofs.Meant.{means}
use Rattle.r4_leaf_edits.proofs.Puts.{MayAll}

pub gathers : (lo hi : ℕ) (rs : Intervals) (ps : Pairs) (x y : LeafEdits) → cuts_in x ≡ [] → items_in x ≡ [] → Gains lo hi rs ps x y → Gathers lo hi rs ps y
gathers lo hi rs ps x y no_cuts no_items g = record {
  cuts = λ k. g.cuts k ∙ ap (λ (cs : List KeyRange). is_in (map range_of cs) k || (is_between lo hi k && is_in rs k)) no_cuts;
  units = g.units ∙ ap (λ (is : List Item). units_in is ++ filter (λ p. is_between lo hi p.0) ps) no_items ∙ ap (λ (s : Pairs). s ++ filter (λ p. is_between lo hi p.0) ps) units_nil;
  sound = g.sound (record { cuts = subst (CutsWithin lo hi) (sym no_cuts) tt; items = subst (All (IsOfRange lo hi)) (sym no_items) (All-nil (IsOfRange lo hi)) });
}

-- ---- items, as they are given

module _ (lo hi : ℕ) where
  may_all : (gs : List Given) → All (IsOfRange lo hi) (map item_of gs) → MayAll gs
  may_all [] all = tt
  may_all (g ∷ gs) all = ((All-head (IsOfRange lo hi) (item_of g) (map item_of gs) all).put, may_all gs (All-tail (IsOfRange lo hi) (item_of g) (map item_of gs) all))

  are_within : (gs : List Given) → All (IsOfRange lo hi) (map item_of gs) → AreWithin lo hi gs
  are_within [] all = tt
  are_within (g ∷ gs) all =
      let first = All-head (IsOfRange lo hi) (item_of g) (map item_of gs) all in
      (first.low, first.high, are_within gs (All-tail (IsOfRange lo hi) (item_of g) (map item_of gs) all))

  have_keys : (gs : List Given) → All (IsOfRange lo hi) (map item_of gs) → HaveKeys gs
  have_keys [] all = tt
  have_keys (g ∷ gs) all = ((All-head (IsOfRange lo hi) (item_of g) (map item_of gs) all).key, have_keys gs (All-tail (IsOfRange lo hi) (item_of g) (map item_of gs) all))

  module _ (rs : Intervals) (ps : Pairs) (x : LeafEdits) (all : Gathers lo hi rs ps x) (gs : List Given) (are : AreItems x gs) where
    of_range : All (IsOfRange lo hi) (map item_of gs)
    of_range = subst (All (IsOfRange lo hi)) (sym are) all.sound.items

    pub within : AreWithin lo hi gs × HaveKeys gs
    within = (are_within gs of_range, have_keys gs of_range)

    pub may : MayAll gs
    may = may_all gs of_range

    pub units : units_in (map item_of gs) ≡ filter (λ p. is_between lo hi p.0) ps
    units = ap units_in are ∙ all.units

pub makes_edits : (lo hi : ℕ) (e : HeldEdits) (spread : Option Interval) (x : LeafEdits) → SuitLeaves (bytes_end spread) (edits_of e) → Gathers lo hi (all_cuts spread e) (all_pairs spread e) x
    → (b : Option Body) (us : List LeafUnit) (gs : List Given) → option_map interval_of spread ≡ spread_keys b → AreOfLeaf lo hi us → AreItems x gs → MakesEdits lo hi (leaf_edits b (edits_of e)) (cuts_in x) gs us
makes_edits lo hi e spread x suit all b us gs same leaf are =
    makes lo hi (leaf_edits b (edits_of e)) (all_cuts spread e) (all_pairs spread e) (cuts_in x) gs us (means e spread b suit same) leaf all.cuts
    (units lo hi (all_cuts spread e) (all_pairs spread e) x all gs are) (may lo hi (all_cuts spread e) (all_pairs spread e) x all gs are)
