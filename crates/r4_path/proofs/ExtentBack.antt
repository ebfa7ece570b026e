-- The way back of the small change: the extent is taken away.
use Rattle.std.proofs.Common.{◌≡◌, ◌⊎◌, ◌↔◌, inl, inr, ◌<◌, [], ◌∷◌, ◌++◌, refl, sym, subst, arith}
use Rattle.std.specs.Prelude.{Contains, None, Some}
use Rattle.r4_base.specs.Fresh.{root_key}
use Rattle.r4_base.specs.Key.{rank}
use Rattle.r4_base.specs.Tree.{IsNode, Name}
use Rattle.r4_patch.specs.r4_cell.Patch.{IsChange, Patch, patch_of}
use Rattle.r4_patch.specs.r4_cell.Seen.{CellSeen, node_of}
use Rattle.r4_base.specs.Value.{Value}
use Rattle.r4_patch.specs.Part.{IsPart, MeetsPart}
use Rattle.r4_patch.specs.SecondRoot.{small_root}
use Rattle.r4_patch.proofs.PartCells.{tree_is_part}
use Rattle.r4_patch.proofs.Placed.{placed_part}
use Rattle.r4_patch.proofs.SecondRoot.{small_is_tree}
use Rattle.r4_path.specs.Steps.{AreNaming, IsNameOf, fresh_ids, name_of}
use Rattle.r4_patch.proofs.Members.{cases, here, none}
use Rattle.r4_path.specs.ExtentPut.{back_below, back_step, back_tree, extent_below, extent_block, extent_step, extent_tree}
use Rattle.r4_path.specs.ExtentPut.{last_key, leaf_cell, pointer_block, stat_block, twig_cell}
use Rattle.r4_path.specs.Twigs.{HaveNumbers, IsTwigChange, IsTwigStep}
use Rattle.r4_path.proofs.ExtentChange.{file_top, from_least, goes_name, least_file, names_from, names_to, new_cell, numbers}
use Rattle.r4_path.proofs.ExtentChange.{old_name, only, small_change, sound_node, to_top}
use Rattle.r4_path.proofs.Instance.{old_leaf_sound, was_sound}
use Rattle.r4_path.proofs.TwigPatch.{change_is, part_meets}

abbrev first : Patch Value
first = patch_of (extent_below.old ++ extent_step.old ∷ []) (extent_below.new ++ extent_step.new) None

is_change : IsChange (extent_below.old ++ extent_step.old ∷ []) (extent_below.new ++ extent_step.new) None
is_change = change_is extent_tree small_root extent_below extent_step [] None small_change

meets : MeetsPart first extent_tree small_root
meets = part_meets extent_tree small_root extent_below extent_step [] None small_change

part : IsPart back_tree small_root
part = placed_part first extent_tree small_root is_change.patch
    (tree_is_part extent_tree small_root (small_is_tree pointer_block stat_block)) meets.meets meets.unnamed

gone : (c : CellSeen) → Contains back_below.old c → back_tree c.id ≡ Some (node_of c)
gone c at = elim (new_cell c at) [
  | inl is ↦ subst (λ (x : CellSeen). back_tree x.id ≡ Some (node_of x)) (sym is) refl
  | inr more ↦ elim more [
    | inl is ↦ subst (λ (x : CellSeen). back_tree x.id ≡ Some (node_of x)) (sym is) refl
    | inr is ↦ subst (λ (x : CellSeen). back_tree x.id ≡ Some (node_of x)) (sym is) refl
  ]
]

names : (n : Name) → AreNaming back_step.new n ↔ ((Contains (node_of (twig_cell extent_block)).names n ×
    (IsNameOf back_below.old n → ⊥)) ⊎ IsNameOf back_below.new n)
names n = (
  λ h. let (c, at, member) = h in
      let is = old_name n (subst (λ (x : CellSeen). Contains (node_of x).names n)
      (only (twig_cell pointer_block) c at) member) in
      inr (leaf_cell last_key, here (leaf_cell last_key) [], is),
  λ h. elim h [
    | inl stays ↦ absurd (stays.1 (names_to n stays.0))
    | inr comes ↦
        let (c, at, e) = comes in (
          twig_cell pointer_block,
          here (twig_cell pointer_block) [],
          subst (Contains (node_of (twig_cell pointer_block)).names) (sym e)
              (subst (λ (x : CellSeen). Contains (node_of (twig_cell pointer_block)).names (name_of x))
              (sym (only (leaf_cell last_key) c at)) goes_name),
        )
  ],
)

step : IsTwigStep back_below back_step
step = record {
  level = refl;
  first = refl;
  ranges = (refl, refl, omega (arith, from_least, to_top, least_file, file_top), refl);
  goes = λ c at. names_from (name_of c) (c, at, refl);
  names = names;
}

nodes : (c : CellSeen) → Contains (leaf_cell last_key ∷ (twig_cell pointer_block ∷ [])) c → IsNode (node_of c)
nodes c at = elim (cases (leaf_cell last_key) c (twig_cell pointer_block ∷ []) at) [
  | inl is ↦ subst (λ (x : CellSeen). IsNode (node_of x)) (sym is)
      (sound_node (leaf_cell last_key) old_leaf_sound (omega arith) (omega (arith, from_least)) some (omega (arith, to_top)))
  | inr more ↦ subst (λ (x : CellSeen). IsNode (node_of x)) (sym (only (twig_cell pointer_block) c more))
      (sound_node (twig_cell pointer_block) was_sound (omega arith) (omega (arith, from_least)) some (omega (arith, to_top)))
]
  where
    some : rank root_key < rank last_key
    some = omega (arith, from_least, to_top, least_file, file_top)

back_numbers : HaveNumbers back_tree back_below (fresh_ids (back_step ∷ []) None)
back_numbers = record {
  old = numbers.new;
  new = numbers.old;
  each = λ c at. inl (subst (λ (x : CellSeen). Contains (23 ∷ (24 ∷ (25 ∷ []))) x.id) (sym (only (leaf_cell last_key) c at))
      (here 23 (24 ∷ (25 ∷ []))));
  once = λ i j d a b. absurd (omega (arith, b));
  unused = λ i at. absurd (none i at);
}

pub change_back : IsTwigChange back_tree small_root back_below back_step [] None
change_back = record {
  part = part;
  path = (refl, omega arith, tt, tt);
  gone = gone;
  step = step;
  climbs = tt;
  ends = (twig_cell pointer_block, refl);
  nodes = nodes;
  numbers = back_numbers;
}
