-- An extent in the place of a twig's holes: the pieces make a graft.
use Rattle.std.proofs.Common.{◌≡◌, ◌≢◌, ◌↔◌, ◌⊎◌, inl, inr, ℕ, ◌-◌, ◌≤◌, List, [], length, map, take, get_or, sym, ap}
use Rattle.std.proofs.Common.{subst, ◌∙◌, arith}
use Rattle.std.specs.Prelude.{Contains, reverse}
use Rattle.r4_base.specs.Cell.{item_end, item_units}
use Rattle.r4_base.specs.Key.{rank}
use Rattle.r4_base.specs.Node.{Item}
use Rattle.r4_base.specs.Tree.{Name, Root, Store}
use Rattle.r4_base.specs.Value.{Value}
use Rattle.r4_work.specs.r4_branch.Pieces.{AreTwigPieces, Follow, item_pieces, names_of, next_of, twig_bytes, units_of}
use Rattle.r4_work.specs.r4_branch.declared.piece.TwigPiece.{TwigPiece}
use Rattle.r4_work.proofs.r4_branch.ItemPieces.{bytes_of_item, follow_item, names_of_item, next_of_item, units_of_item}
use Rattle.r4_work.specs.r4_cell.Seen.{CellSeen, node_of}
use Rattle.r4_work.specs.r4_cell.declared.change.Change.{Change}
use Rattle.r4_work.specs.r4_cell.declared.change.Fresh.{Fresh}
use Rattle.r4_work.proofs.r4_graft.Placed.{not_in_none}
use Rattle.r4_work.specs.r4_leaf.Units.{cut_units, put_units}
use Rattle.r4_work.proofs.r4_patch.Members.{have_names}
use Rattle.r4_work.specs.r4_path.Grafts.{AreBlocksOf, GraftsBelow, IsGraftBelow, IsGraftBelowIn, IsGraftBelowUp, IsGraftIn}
use Rattle.r4_work.specs.r4_path.Grafts.{IsGraftOf, IsGraftedIn, IsGraftedUp}
use Rattle.r4_work.specs.r4_path.Steps.{IsNameOf}
use Rattle.r4_work.specs.r4_path.TwigPieces.{ArePiecesOf, twig_pieces}
use Rattle.r4_work.proofs.r4_path.LastCell.{last_up, up_last, up_some}
use Rattle.r4_work.specs.r4_edit.CutBlocks.{parted_twice, pieces_behind, pieces_below, pieces_between}
use Rattle.r4_work.specs.r4_edit.Extents.{item_blocks}
use Rattle.r4_work.proofs.r4_edit.CutParts.{AreSplit, split, twice_bytes, twice_follow, twice_names, twice_next, twice_units}
use Rattle.r4_work.proofs.r4_edit.Spread.{extent_level, extent_names, nothing}
use Rattle.r4_extent_edit.specs.Setting.{AreHoles, IsSetIn, IsSetUp, SetsUp, set_pieces}
use Rattle.r4_extent_edit.proofs.Between.{over_bytes, over_names, over_twigs, over_units}

module _ (t : Store Value) (r : Root) (it : Item) (twig : CellSeen) (ups : List CellSeen) (fresh : Fresh)
    (are : ArePiecesOf twig (twig_pieces twig)) (is : IsSetIn t r it twig ups fresh) where
  abbrev lo : ℕ
  lo = rank twig.lo

  abbrev hi : ℕ
  hi = rank twig.hi

  abbrev from : ℕ
  from = rank it.key

  abbrev to : ℕ
  to = item_end it

  abbrev ps : List TwigPiece
  ps = twig_pieces twig

  abbrev pp : List TwigPiece
  pp = parted_twice from to ps

  abbrev xs : List TwigPiece
  xs = pieces_below from pp

  abbrev ms : List TwigPiece
  ms = pieces_between from to pp

  abbrev ys : List TwigPiece
  ys = pieces_behind to pp

  abbrev ns : List TwigPiece
  ns = item_pieces it

  holes : AreHoles twig from to
  holes = is.holes

  s : AreSplit lo hi from to pp xs ms ys
  s = split lo hi from to ps are.pieces.follow holes.low holes.some holes.high holes.first_border holes.second_border

  follow : Follow lo hi pp
  follow = twice_follow lo hi from to ps are.pieces.follow holes.low holes.some holes.high holes.first_border
      holes.second_border

  names_are : names_of hi pp ≡ (node_of twig).names
  names_are = twice_names lo hi from to ps are.pieces.follow holes.low holes.some holes.high holes.first_border
      holes.second_border hi ∙ are.names

  first : next_of hi pp ≡ lo
  first = twice_next lo hi from to ps are.pieces.follow holes.low holes.some holes.high holes.first_border
      holes.second_border hi ∙ are.pieces.first

  item_follow : Follow from to ns
  item_follow = follow_item it is.given.sound

  begins : (h : ℕ) → next_of h ns ≡ from
  begins = next_of_item it is.given.sound

  set_twigs : AreTwigPieces lo hi (set_pieces it twig)
  set_twigs =
      let low = holes.low in
      let some = holes.some in
      let high = holes.high in
      over_twigs lo hi from to pp xs ms ys ns s item_follow begins low (omega (arith, low, some, high)) first

  set_fits : twig_bytes (set_pieces it twig) ≤ 16000
  set_fits =
      let a = over_bytes lo hi from to pp xs ms ys ns s item_follow begins in
      let b = twice_bytes lo hi from to ps are.pieces.follow holes.low holes.some holes.high holes.first_border
      holes.second_border in
      let c = are.fits in
      let d = bytes_of_item it is.given.sound in
      let e = is.given.short in
      omega (arith, a, b, c, d, e)

  pub set_units : units_of (set_pieces it twig) ≡ put_units (item_units it) (cut_units from to (node_of twig).units)
  set_units =
      over_units lo hi from to pp xs ms ys ns s item_follow begins
      ∙ ((λ i. put_units (units_of_item it is.given.sound i) (cut_units from to
      (twice_units lo hi from to ps are.pieces.follow holes.low holes.some holes.high holes.first_border
      holes.second_border i)))
      ∙ ap (λ us. put_units (item_units it) (cut_units from to us)) are.units)

  pub set_grafted : IsGraftedIn t r (set_pieces it twig) twig ups fresh
  set_grafted =
      let numbers = is.room.numbers in
      record {
        path = is.room.path;
        level = is.room.level;
        pieces = set_twigs;
        bytes = set_fits;
        enough = is.room.enough;
        numbers = omega (arith, numbers);
      }

  clear : (n : Name) → Contains (names_of hi pp) n → (n.hi ≤ from) ⊎ (to ≤ n.lo)
  clear n at = holes.clear n (subst (λ ns. Contains ns n) names_are at)

  set_of : IsGraftOf t twig (set_pieces it twig) nothing (item_blocks it)
  set_of = record {
    goes = λ c at. absurd (not_in_none c at);
    gone = λ c at. absurd (not_in_none c at);
    names = by_name;
    nodes = λ c at. absurd (not_in_none c at);
    blocks = λ n at. extent_level it is.given.plugin n at;
  }
    where
      mine : names_of (next_of hi ys) ns ≡ item_blocks it
      mine = names_of_item it is.given.sound (next_of hi ys) ∙ extent_names it (next_of hi ys) is.given.plugin

      by_name : (n : Name) → Contains (names_of hi (set_pieces it twig)) n ↔ ((Contains (node_of twig).names n
          × (IsNameOf [] n → ⊥)) ⊎ (IsNameOf [] n ⊎ Contains (item_blocks it) n))
      by_name n =
          let all = over_names lo hi from to pp xs ms ys ns s item_follow begins holes.some clear follow n in (
            λ at. elim (all.0 at) [
              | inl was ↦ inl (subst (λ ks. Contains ks n) names_are was, λ c. not_in_none c.0 c.1)
              | inr new ↦ inr (inr (subst (λ ks. Contains ks n) mine new))
            ],
            λ at. all.1 (elim at [
              | inl was ↦ inl (subst (λ ks. Contains ks n) (sym names_are) was.0)
              | inr new ↦ elim new [
                | inl none ↦ absurd (not_in_none none.0 none.1)
                | inr block ↦ inr (subst (λ ks. Contains ks n) (sym mine) block)
              ]
            ]),
          )

  pub set_below : (blocks : List CellSeen) → AreBlocksOf (item_blocks it) blocks
      → IsGraftBelow t r (set_pieces it twig) nothing blocks fresh.next fresh twig ups
  set_below blocks of = record {
    data_names = item_blocks it;
    grafted = set_grafted;
    of = set_of;
    blocks_are = of;
    counted = record {
      mine = [];
      old = have_names [] tt;
      new = have_names [] tt;
      each = λ c at. absurd (not_in_none c at);
      counts = tt;
      ends = omega arith;
      free = is.room.path.free;
      blocks = is.blocks.unused;
      once = is.blocks.once;
    };
  }

-- ---- of a path that is given from the top down

module _ {A : Type 0} (h : A → CellSeen) (path : List A) (x : A) (last : x ≡ get_or path (length path - 1) x)
    (t : Store Value) (r : Root) (it : Item) (fresh : Fresh) (is : IsSetUp t r it fresh (reverse (map h path))) where
  abbrev pub ups : List CellSeen
  ups = reverse (map h (take (length path - 1) path))

  pub set_in : IsSetIn t r it (h x) ups fresh
  set_in = up_last h (IsSetUp t r it fresh) (λ e. e) path x last is

  some : length path ≢ 0
  some = up_some h (IsSetUp t r it fresh) (λ e. e) path is

  module _ (are : ArePiecesOf (h x) (twig_pieces (h x))) where
    pub set_graft_in : IsGraftIn t r (map h path) (set_pieces it (h x)) fresh
    set_graft_in = last_up h (IsGraftedUp t r (set_pieces it (h x)) fresh) path x some last (set_grafted t r it
        (h x) ups fresh are set_in)

    pub set_below_in : (blocks : List CellSeen) → AreBlocksOf (item_blocks it) blocks
        → IsGraftBelowIn t r (map h path) (set_pieces it (h x)) nothing blocks fresh.next fresh
    set_below_in blocks of =
        last_up h (IsGraftBelowUp t r (set_pieces it (h x)) nothing blocks fresh.next fresh) path x some last
        (set_below t r it (h x) ups fresh are set_in blocks of)

    pub sets_up : (after : Fresh) (c : Change) → GraftsBelow (map h path) (set_pieces it (h x)) nothing fresh after c
        → SetsUp (map h path) it fresh after c (reverse (map h path))
    sets_up after c grafts = last_up h (SetsUp (map h path) it fresh after c) path x some last (record {
      grafts = grafts;
      units = set_units t r it (h x) ups fresh are set_in;
    })
