-- The units of a twig's pieces with an extent in a leaf's range.
use Rattle.std.proofs.Common.{◌≡◌, ◌-◌, ◌^◌, ◌<◌, ◌≤◌, Bool, true, false, List, [], ◌∷◌, ◌++◌, length, map, take, get_or, refl, sym, ap, subst, ◌∙◌, arith}
use Rattle.std.specs.Prelude.{Contains, Option, None, Some, reverse, ◌==◌, if◌then◌else◌}
use Rattle.std.proofs.lemmas.List.{append-nil, length-map, take-map}
use Rattle.r4_base.specs.Cell.{item_end, item_units}
use Rattle.r4_base.specs.Key.{rank}
use Rattle.r4_base.specs.Node.{Item}
use Rattle.r4_base.specs.Tree.{Root, Store}
use Rattle.r4_base.specs.Value.{Value}
use Rattle.r4_path.specs.r4_branch.Pieces.{item_pieces, part_units, units_of}
use Rattle.r4_path.specs.r4_branch.declared.piece.TwigPiece.{TwigPiece}
use Rattle.r4_path.proofs.r4_branch.ItemPieces.{follow_item, units_append, units_of_item}
use Rattle.r4_path.specs.r4_cell.Seen.{CellSeen, node_of}
use Rattle.r4_path.specs.r4_cell.declared.change.Change.{Change}
use Rattle.r4_path.specs.r4_cell.declared.change.Fresh.{Fresh}
use Rattle.r4_path.proofs.r4_graft.Joined.{end_of}
use Rattle.r4_path.specs.r4_leaf.Units.{put_units}
use Rattle.r4_path.proofs.r4_leaf.Rising.{Rise, put_run, rise_lower, rise_wider}
use Rattle.r4_edit.specs.Extents.{IsGivenExtent, IsOverIn, IsOverUp, PutsOverUp, given_cells, over_pieces, pointer_to}
use Rattle.r4_path.specs.TwigPieces.{ArePiecesOf, twig_pieces}
use Rattle.r4_path.specs.Grafts.{GraftsBelow}
use Rattle.r4_edit.specs.LeafParts.{PartsLeaf}
use Rattle.r4_path.specs.Steps.{name_of}
use Rattle.r4_edit.proofs.CutNames.{units_rise}
use Rattle.r4_path.proofs.LastCell.{last_up, up_some}
use Rattle.r4_edit.proofs.OverLeaf.{behind}
use Rattle.r4_edit.proofs.OverPath.{over_in, parted, ups}
use Rattle.r4_edit.proofs.OverPieces.{MayStandBehind, comes, over_is, parts, place_of_leaf, rest, stays}

pub pointer_none : (right : Option CellSeen) → units_of (pointer_to right) ≡ []
unfolding units_of
pointer_none None = refl
pointer_none (Some c) = refl

module _ (twig leaf : CellSeen) (ps : List TwigPiece) (are : ArePiecesOf twig ps)
    (named : Contains (node_of twig).names (name_of leaf)) (leaf_level : leaf.level ≡ 1)
    (it : Item) (right : Option CellSeen) (given : IsGivenExtent it) (from : rank leaf.lo ≤ rank it.key)
    (after : MayStandBehind it leaf right) (to : item_end it ≤ rank leaf.hi) where
  abbrev before_it : List TwigPiece
  before_it = (place_of_leaf twig leaf ps are named leaf_level it right given from after).before

  abbrev pointer : TwigPiece
  pointer = (place_of_leaf twig leaf ps are named leaf_level it right given from after).piece

  abbrev behind_it : List TwigPiece
  behind_it = (place_of_leaf twig leaf ps are named leaf_level it right given from after).behind

  kept_none : (b : Bool) → units_of (if b then [] else pointer ∷ []) ≡ []
  unfolding units_of
  kept_none true = refl
  kept_none false = ap (λ p. part_units (rank pointer.key) p ++ []) (place_of_leaf twig leaf ps are named leaf_level it right given from after).part

  pointed_none : units_of (pointer ∷ behind_it) ≡ units_of behind_it
  unfolding units_of
  pointed_none = ap (λ p. part_units (rank pointer.key) p ++ units_of behind_it) (place_of_leaf twig leaf ps are named leaf_level it right given from after).part

  come_units : units_of (comes twig leaf ps are named leaf_level it right given from after) ≡ item_units it
  come_units =
      units_append (stays twig leaf ps are named leaf_level it right given from after) (item_pieces it ++ pointer_to right)
      ∙ ((λ i. kept_none (rank it.key == rank leaf.lo) i ++ units_append (item_pieces it) (pointer_to right) i)
      ∙ ((λ i. units_of_item it given.sound i ++ pointer_none right i) ∙ append-nil (item_units it)))

  were_units : units_of ps ≡ units_of before_it ++ units_of behind_it
  were_units =
      ap units_of (place_of_leaf twig leaf ps are named leaf_level it right given from after).is
      ∙ (units_append before_it (pointer ∷ behind_it) ∙ ap (λ us. units_of before_it ++ us) pointed_none)

  before_rise : Rise (rank twig.lo) (rank it.key) (units_of before_it)
  before_rise =
      let p = parts twig leaf ps are named leaf_level it right given from after in
      let low = p.1.0 in
      let key = (place_of_leaf twig leaf ps are named leaf_level it right given from after).key in
      rise_wider (rank twig.lo) (end_of (rank twig.lo) before_it) (rank it.key) (units_of before_it) (omega (arith, low, key, from))
      (units_rise (rank twig.lo) (end_of (rank twig.lo) before_it) before_it p.0)

  behind_rise : Rise (item_end it) (rank twig.hi) (units_of behind_it)
  behind_rise = rise_lower (rank leaf.hi) (item_end it) (rank twig.hi) (units_of behind_it) to
      (units_rise (rank leaf.hi) (rank twig.hi) behind_it (rest twig leaf ps are named leaf_level it right given from after))

  item_rise : Rise (rank it.key) (item_end it) (item_units it)
  item_rise = subst (Rise (rank it.key) (item_end it)) (units_of_item it given.sound)
      (units_rise (rank it.key) (item_end it) (item_pieces it) (follow_item it given.sound))

  pub over_units : units_of (over_pieces it leaf right ps) ≡ put_units (item_units it) (node_of twig).units
  over_units =
      ap units_of (over_is twig leaf ps are named leaf_level it right)
      ∙ (units_append before_it (comes twig leaf ps are named leaf_level it right given from after ++ behind_it)
      ∙ (ap (λ us. units_of before_it ++ us) (units_append (comes twig leaf ps are named leaf_level it right given from after) behind_it)
      ∙ (ap (λ us. units_of before_it ++ (us ++ units_of behind_it)) come_units
      ∙ (sym (put_run (rank twig.lo) (rank it.key) (item_end it) (rank twig.hi) (item_units it) (units_of before_it) (units_of behind_it) before_rise item_rise behind_rise)
      ∙ ap (put_units (item_units it)) (sym were_units ∙ are.units)))))

-- ---- of a path that is given from the top down

module _ {A : Type 0} (h : A → CellSeen) (path : List A) (x y : A) (last : x ≡ get_or path (length path - 1) x)
    (next : y ≡ get_or path (length path - 1 - 1) y) (t : Store Value) (r : Root) (it : Item) (fresh : Fresh)
    (is : IsOverUp t r it fresh (reverse (map h path))) (are : ArePiecesOf (h y) (twig_pieces (h y))) (left right : Option CellSeen)
    (mid : Fresh) (parted_so : PartsLeaf (h x) it.key fresh mid left right) (unplaced : 2 ^ 63 ≤ fresh.next)
    (some : rank it.key < rank (h x).hi) where
  abbrev at : IsOverIn t r it (h x) (h y) (ups h path x y last next t r it fresh is) fresh
  at = over_in h path x y last next t r it fresh is

  abbrev qs : List TwigPiece
  qs = over_pieces it (h x) right (twig_pieces (h y))

  has_units : units_of qs ≡ put_units (item_units it) (node_of (h y)).units
  has_units = over_units (h y) (h x) (twig_pieces (h y)) are at.named at.leaf_level it right at.given at.from
      (behind t r it (h x) (h y) (ups h path x y last next t r it fresh is) fresh mid at are left right parted_so unplaced some) at.to

  path_is : map h (take (length path - 1) path) ≡ take (length (map h path) - 1) (map h path)
  path_is = sym (take-map h (length path - 1) path) ∙ ap (λ n. take (n - 1) (map h path)) (sym (length-map path h))

  pub puts_over_up : (after : Fresh) (c : Change)
      → GraftsBelow (map h (take (length path - 1) path)) qs (record { old = h x ∷ []; new = given_cells left ++ given_cells right }) mid after c
      → PutsOverUp (map h path) it fresh after c (reverse (map h path))
  puts_over_up after c grafts =
      last_up h (PutsOverUp (map h path) it fresh after c) path x (up_some h (IsOverUp t r it fresh) (λ e. e) path is) last
      (subst (λ cells. PutsOverUp (map h path) it fresh after c (h x ∷ cells)) (sym (parted h path x y last next t r it fresh is)) (record {
        left = left;
        right = right;
        mid = mid;
        parts = parted_so;
        grafts = subst (λ cells. GraftsBelow cells qs (record { old = h x ∷ []; new = given_cells left ++ given_cells right }) mid after c) path_is grafts;
        units = has_units;
      }))
