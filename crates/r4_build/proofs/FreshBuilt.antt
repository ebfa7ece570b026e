-- The two cells of a fresh volume, and other attributes of its root.
use Rattle.std.proofs.Common.{◌≡◌, inl, inr, ℕ, ◌+◌, ◌<◌, ◌⊎◌, Bool, true, false, List, [], ◌∷◌, refl, sym, ap, subst, arith}
use Rattle.std.specs.Prelude.{Contains, None}
use Rattle.std.proofs.Math.Dec.{lit<}
use Rattle.std.proofs.lemmas.List.Elements.{All-cons, All-nil}
use Rattle.r4_base.specs.Bytes.{number_bytes}
use Rattle.r4_base.specs.Fresh.{HasOneItem}
use Rattle.r4_base.specs.Key.{key_of_rank, least, top}
use Rattle.r4_base.specs.Stat.{kind_is_good, stat_body}
use Rattle.r4_base.specs.Tree.{Node}
use Rattle.r4_base.specs.Value.{Stat, Value}
use Rattle.r4_base.specs.Volume.{root_attr}
use Rattle.r4_base.specs.declared.items.Attr.{Attr}
use Rattle.r4_base.proofs.FreshTree.{fresh_leaf, least_below, only}
use Rattle.r4_measure.specs.r4_cell.Patch.{HaveNames, by_name}
use Rattle.r4_measure.specs.r4_cell.Seen.{CellSeen, node_of}
use Rattle.r4_content.specs.Edited.{changed, is_in}
use Rattle.r4_measure.specs.r4_leaf.Units.{bytes_behind, leaf_bytes, unit_bytes}
use Rattle.r4_leaf_edits.specs.Suiting.{IsBefore, IsLawfulPut, SuitLeaves}
use Rattle.r4_measure.proofs.r4_patch.Members.{cases, have_names, here, later, none}
use Rattle.r4_measure.specs.r4_reach.Needs.{units_after}
use Rattle.r4_measure.specs.r4_reach.Reach.{is_body}
use Rattle.r4_measure.proofs.r4_work.Remade.{or_true}
use Rattle.r4_measure.proofs.r4_work.UnitMembers.{between}
use Rattle.r4_measure.specs.Examples.{fresh_cells, fresh_root, set_root, some_numbers}
use Rattle.r4_measure.proofs.FreshReach.{fresh_reached, highest, leaf_cell, leaf_is, lowest, twig_cell}
use Rattle.r4_build.specs.Building.{CanBuild, LiesInLeaf}

module _ (twig leaf : List ℕ) (is_twig : HasOneItem twig 2 3 (number_bytes 8 23)) (is_leaf : HasOneItem leaf 1 0 (stat_body root_attr)) (a : Attr) where
  abbrev cells : List CellSeen
  cells = fresh_cells twig leaf

  abbrev low : CellSeen
  low = leaf_cell twig leaf is_twig is_leaf

  abbrev high : CellSeen
  high = twig_cell twig leaf is_twig is_leaf

  names : HaveNames cells
  names = have_names cells (λ y at. (let e = ap (λ (z : CellSeen). z.id) (only low y at) in λ same. absurd (omega (arith, e, same))), ((λ y at. absurd (none y at)), tt))

  lie : (k : ℕ) → is_in (changed (set_root a)) k ≡ true → LiesInLeaf cells k
  lie k on =
      let (from, to) = between least (least + 1) k (one (or_true _ false on)) in
      let end = least_below in
      let lo = lowest in
      let hi = highest in
      (low, later high low (low ∷ []) (here low []), refl, (omega (arith, lo, from), omega (arith, hi, to, end)))
    where
      one : {b : Bool} → (b ≡ true) ⊎ (false ≡ true) → b ≡ true
      one {b} (inl h) = h
      one {b} (inr h) = absurd cc

  few : leaf_bytes (units_after None (set_root a) (fresh_leaf leaf)) < 58912
  unfolding fresh_leaf least top bytes_behind unit_bytes
  few = lit< tt

  small : (c : CellSeen) → Contains cells c → c.level ≡ 1 → leaf_bytes (units_after None (set_root a) (node_of c)) < 58912
  small c at level = elim (cases high c (low ∷ []) at) [
    | inl h ↦ let two = ap (λ (z : CellSeen). z.level) h in absurd (omega (arith, two, level))
    | inr h ↦ subst (λ (z : CellSeen). leaf_bytes (units_after None (set_root a) (node_of z)) < 58912) (sym (only low c h))
        (subst (λ (n : Node Value). leaf_bytes (units_after None (set_root a) n) < 58912) (sym (leaf_is twig leaf is_twig is_leaf)) few)
  ]

  pub fresh_built : CanBuild None (set_root a) [] (by_name cells) fresh_root some_numbers cells
  fresh_built = record {
    reached = fresh_reached twig leaf is_twig is_leaf a;
    tails = refl;
    names = names;
    lie = lie;
    small = λ c at level met. small c at level;
    unplaced = (lit< tt, lit< tt);
    numbers = lit< tt;
  }

no_body : is_body least ≡ false
unfolding least key_of_rank
no_body = refl

pub fresh_suits : (a : Attr) → kind_is_good a.mode ≡ true → SuitLeaves 16384 (set_root a)
fresh_suits a good = record {
  once = tt;
  bytes = All-nil (IsBefore 16384);
  values = All-cons IsLawfulPut (least, Stat a) [] (good, no_body) (All-nil IsLawfulPut);
}
