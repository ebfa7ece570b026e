-- Holes of a root may be filled.
use Rattle.std.proofs.Common.{◌≡◌, inl, inr, ℕ, ◌+◌, ◌*◌, ◌-◌, ◌/◌, ◌%◌, ◌^◌, slice_index, ◌<◌, ◌≤◌, List, [], ◌∷◌, length}
use Rattle.std.proofs.Common.{get_or, refl, sym, subst, ◌∙◌, arith}
use Rattle.std.proofs.Math.Dec.{lit<}
use Rattle.std.specs.Prelude.{Contains, reverse}
use Rattle.r4_base.specs.Cell.{item_end}
use Rattle.r4_base.specs.Key.{least, rank, top}
use Rattle.r4_base.specs.declared.key.Key.{Key}
use Rattle.r4_base.specs.Node.{Item}
use Rattle.r4_base.specs.Tree.{Name, Root, Store}
use Rattle.r4_base.specs.Value.{Value}
use Rattle.r4_branch.specs.Pieces.{item_pieces, twig_bytes}
use Rattle.r4_branch.specs.declared.piece.TwigPiece.{TwigPiece}
use Rattle.r4_branch.proofs.ItemPieces.{bytes_of_item, follow_item, next_of_item}
use Rattle.r4_cell.specs.Patch.{by_name}
use Rattle.r4_cell.specs.Seen.{CellSeen, node_of}
use Rattle.r4_cell.specs.declared.change.Fresh.{Fresh}
use Rattle.r4_edit.specs.CutBlocks.{parted_twice, pieces_behind, pieces_below, pieces_between}
use Rattle.r4_edit.specs.Extents.{AreNewBlocks, item_blocks}
use Rattle.r4_edit.specs.Splitting.{IsSplitIn}
use Rattle.r4_edit.proofs.CutParts.{split, twice_bytes}
use Rattle.r4_edit_testing.specs.Trials.{IsTwigOfHoles, low_root}
use Rattle.r4_edit_testing.proofs.HoleTwig.{may_be_parted}
use Rattle.r4_edit_testing.proofs.RootPart.{root_path}
use Rattle.r4_extent_edit.specs.Setting.{IsSetIn, IsSetUp, set_pieces}
use Rattle.r4_extent_edit_tests.specs.Blocks.{IsExtentOf}
use Rattle.r4_extent_edit_tests.specs.Borders.{IsAtBorder}
use Rattle.r4_extent_edit_tests.specs.Raised.{IsRaised, MayBeBelow, high_root}
use Rattle.r4_extent_edit_tests.proofs.NewBlocks.{block_count, ends, given, new_blocks}
use Rattle.r4_extent_edit_tests.proofs.Raised.{raised_path}
use Rattle.r4_extent_edit.proofs.Between.{over_bytes}
use Rattle.r4_graft.specs.Splices.{IsBorder}
use Rattle.r4_graft.proofs.Placed.{first_or_later, not_in_none}
use Rattle.r4_path.specs.Grafts.{extra_twigs}
use Rattle.r4_path.specs.Growing.{IsPathIn}
use Rattle.r4_path.specs.Levels.{IsLongEnough}
use Rattle.r4_path.specs.Nodes.{IsPointable, IsPointingTo}
use Rattle.r4_path.specs.TwigPieces.{ArePiecesOf, twig_pieces}
use Rattle.r4_patch.proofs.Members.{none}

pub two_borders : (k : ℕ) (ps : List TwigPiece) (d : TwigPiece) → 2 ≤ length ps → length ps < 3
    → IsAtBorder k (get_or ps 0 d) → IsAtBorder k (get_or ps 1 d) → IsBorder k ps
two_borders k [] d some few first second = absurd (omega (arith, some))
two_borders k (p ∷ []) d some few first second = absurd (omega (arith, some))
two_borders k (p ∷ (q ∷ [])) d some few first second = λ x at low high. elim (first_or_later p (q ∷ []) x at) [
  | inl is ↦ subst (IsAtBorder k) is first low
  | inr more ↦ elim (first_or_later q [] x more) [
    | inl is ↦ subst (IsAtBorder k) is second low
    | inr none_is ↦ absurd (not_in_none x none_is)
  ]
]
two_borders k (p ∷ (q ∷ (r ∷ ps))) d some few first second = absurd (omega (arith, few))

pub blocks_behind : (k : Key) (p : TwigPiece) → slice_index p.key.el 0 ≡ slice_index k.el 0 → slice_index p.key.el 1
    ≡ slice_index k.el 1
    → slice_index p.key.el 2 ≡ slice_index k.el 2 → slice_index p.key.el 3 ≤ slice_index k.el 3
    → (slice_index k.el 3 - slice_index p.key.el 3) % 4096 ≡ 0 → IsAtBorder (rank k) p
unfolding rank
blocks_behind k p zero one two from whole low =
    ((slice_index k.el 3 - slice_index p.key.el 3) / 4096, omega (arith, zero, one, two, from, whole))

module _ (twig : CellSeen) (is : IsTwigOfHoles twig) (are : ArePiecesOf twig (twig_pieces twig)) where
  abbrev wide : Fresh
  wide = record { next = 2 ^ 63 + 1000; end = 2 ^ 64 - 1 }

  abbrev numbers : 23 ≤ 2 ^ 63 + 1000
  numbers = omega arith

  abbrev t : Store Value
  t = (may_be_parted twig is wide numbers).0

  abbrev r : Root
  r = (may_be_parted twig is wide numbers).1.0

  in_split : IsSplitIn t r (twig ∷ []) wide
  in_split = (may_be_parted twig is wide numbers).1.1

  wide_path : IsPathIn t r (twig ∷ []) wide
  wide_path = in_split.path

  path : (f : Fresh) → f.next ≡ 2 ^ 63 + 1000 → f.end ≡ 2 ^ 63 + 2000 → IsPathIn t r (twig ∷ []) f
  path f next end = record {
    part = wide_path.part;
    ascends = wide_path.ascends;
    free = record {
      cells = λ i low high. wide_path.free.cells i (omega (arith, low, next)) (omega (arith, high, end));
      names = λ i low high. wide_path.free.names i (omega (arith, low, next)) (omega (arith, high, end));
    };
    root_number = wide_path.root_number;
  }

  set_in : (count : ℕ) (it : Item) → it.plugin ≡ 5 → IsExtentOf count it → least ≤ rank it.key → rank it.key + 4096 * count ≤ top
      → IsBorder (rank it.key) (twig_pieces twig) → IsBorder (rank it.key + 4096 * count) (twig_pieces twig) → (s : Store Value)
      (q : Root) (ups : List CellSeen) (f : Fresh) → IsPathIn s q (twig ∷ ups) f
      → IsLongEnough q (extra_twigs (set_pieces it twig)) twig ups → f.next + length ups ≤ 2 ^ 63 + 1002
      → f.end ≡ 2 ^ 63 + 2000 → AreNewBlocks s (item_blocks it) f → IsSetIn s q it twig ups f
  set_in count it five new low high one two t r ups f leads enough next end blocks =
      let last = ends count it five new in
      let begins = new.body.some in
      let lo = is.lo in
      let hi = is.hi in
      let second : IsBorder (item_end it) (twig_pieces twig) = subst (λ (k : ℕ). IsBorder k (twig_pieces twig))
      (sym last) two in
      let bytes = twice_bytes (rank twig.lo) (rank twig.hi) (rank it.key) (item_end it)
      (twig_pieces twig) are.pieces.follow (omega (arith, lo, low)) (omega (arith, last, begins)) (omega
      (arith, last, hi, high)) one second in
      let mine = bytes_of_item it (given count it five new).sound in
      let long = new.body.long in
      let short = new.body.few in
      let fits = are.fits in
      let pp = parted_twice (rank it.key) (item_end it) (twig_pieces twig) in
      let s = split (rank twig.lo) (rank twig.hi) (rank it.key) (item_end it) (twig_pieces twig) are.pieces.follow
      (omega (arith, lo, low)) (omega (arith, last, begins)) (omega (arith, last, hi, high)) one second in
      let few = over_bytes (rank twig.lo) (rank twig.hi) (rank it.key) (item_end it) pp (pieces_below
      (rank it.key) pp) (pieces_between (rank it.key) (item_end it) pp) (pieces_behind (item_end it) pp)
      (item_pieces it) s
      (follow_item it (given count it five new).sound) (next_of_item it (given count it five new).sound) in
      let all : twig_bytes (set_pieces it twig) ≤ 9000 = omega (arith, few, bytes, fits, mine, long, short) in
      record {
        room = record {
          path = leads;
          level = is.level;
          enough = inr enough;
          numbers = omega (arith, all, next, end);
        };
        holes = record {
          low = omega (arith, lo, low);
          some = omega (arith, last, begins);
          high = omega (arith, last, hi, high);
          first_border = one;
          second_border = second;
          clear = λ n at. absurd (none n (subst (λ ns. Contains ns n) is.names at));
        };
        given = given count it five new;
        behind = let fits = new.fits in let many = block_count count it five new in omega (arith, fits, many);
        blocks = blocks;
      }

  filled : (count : ℕ) (it : Item) → it.plugin ≡ 5 → IsExtentOf count it → least ≤ rank it.key → rank it.key + 4096 * count ≤ top
      → IsBorder (rank it.key) (twig_pieces twig) → IsBorder (rank it.key + 4096 * count) (twig_pieces twig) → (f : Fresh)
      → f.next ≡ 2 ^ 63 + 1000 → f.end ≡ 2 ^ 63 + 2000
      → IsSetIn t r it twig [] f
  filled count it five new low high one two f next end =
      set_in count it five new low high one two t r [] f (path f next end) in_split.enough (omega (arith, next)) end
      (new_blocks count it five new t wide f wide_path.free refl (omega arith) end)

  no_name : (n : Name) → Contains (node_of twig).names n → ⊥
  no_name n at = none n (subst (λ ns. Contains ns n) is.names at)

  low_path : IsPathIn (by_name (twig ∷ [])) (low_root twig) (twig ∷ []) wide
  low_path = root_path twig [] is.level is.lo is.hi is.node (λ c at. absurd (none c at)) (λ c at. absurd (none c at))
      (λ c at. absurd (none c at)) (λ n m at same e. absurd (no_name n at)) (λ n at. absurd (no_name n at)) 23
      (λ n at. absurd (no_name n at)) (let id = is.id in omega (arith, id)) wide numbers
      (subst IsPointable (sym is.id) (lit< tt, refl))

  module _ (over : CellSeen) (above : IsPointingTo (twig ∷ []) 3 (2 ^ 63 + 1000) over) where
    high_path : (f : Fresh) → f.next ≡ 2 ^ 63 + 1001 → f.end ≤ 2 ^ 64 - 1
        → IsPathIn (by_name (over ∷ (twig ∷ []))) (high_root over) (twig ∷ (over ∷ [])) f
    high_path f next end =
        raised_path (twig ∷ []) twig over wide low_path is.level above (omega arith) (omega arith) (omega arith) f
        (omega (arith, next)) end

    filled_high : (count : ℕ) (it : Item) → it.plugin ≡ 5 → IsExtentOf count it → least ≤ rank it.key → rank it.key + 4096 * count ≤ top
        → IsBorder (rank it.key) (twig_pieces twig) → IsBorder (rank it.key + 4096 * count) (twig_pieces twig) → (f : Fresh)
        → f.next ≡ 2 ^ 63 + 1001 → f.end ≡ 2 ^ 63 + 2000
        → IsSetIn (by_name (over ∷ (twig ∷ []))) (high_root over) it twig (over ∷ []) f
    filled_high count it five new low high one two f next end =
        let rest : Fresh = record { next = 2 ^ 63 + 1001; end = 2 ^ 64 - 1 } in
        let free = (high_path rest refl (omega arith)).free in
        set_in count it five new low high one two (by_name (over ∷ (twig ∷ []))) (high_root over) (over ∷ []) f
        (high_path f next (omega (arith, end)))
        (inr (refl, (let level = above.level_is in omega (arith, level)))) (omega (arith, next)) end
        (new_blocks count it five new (by_name (over ∷ (twig ∷ []))) rest f free refl (omega arith) end)

pub fill_here : (twig cell : CellSeen) (ps seen : List TwigPiece) (count : ℕ) (it : Item) (end : ℕ) → cell ≡ twig
    → IsTwigOfHoles twig
    → ArePiecesOf twig ps → seen ≡ ps → it.plugin ≡ 5 → IsExtentOf count it → least ≤ rank it.key → end ≤ top
    → end ≡ rank it.key + 4096 * count → IsBorder (rank it.key) seen → IsBorder end seen
    → (t : Store Value) × ((r : Root) × IsSetIn t r it cell [] (record { next = 2 ^ 63 + 1000; end = 2 ^ 63 + 2000 }))
fill_here twig cell ps seen count it end same is are same_pieces five new low high behind one two =
    let f : Fresh = record { next = 2 ^ 63 + 1000; end = 2 ^ 63 + 2000 } in
    let all = same_pieces ∙ are.is in
    let here = subst (ArePiecesOf twig) are.is are in
    let first = subst (IsBorder (rank it.key)) all one in
    let second = subst (λ k. IsBorder k (twig_pieces twig)) behind (subst (IsBorder end) all two) in
    subst (λ (x : CellSeen). (t : Store Value) × ((r : Root) × IsSetIn t r it x [] f)) (sym same) (
      t twig is here,
      (
        r twig is here,
        filled twig is here count it five new low (omega
            (arith, high, behind)) first second f refl refl,
      ),
    )

pub fill_raised : (twig cell : CellSeen) (path : List CellSeen) (ps seen : List TwigPiece) (count : ℕ) (it : Item) (end : ℕ)
    (f : Fresh) → cell ≡ twig → IsTwigOfHoles twig → IsRaised cell (2 ^ 63 + 1000) path → ArePiecesOf twig ps
    → seen ≡ ps → it.plugin ≡ 5 → IsExtentOf count it → least ≤ rank it.key → end ≤ top → end ≡ rank it.key + 4096 * count
    → IsBorder (rank it.key) seen → IsBorder end seen → f.next ≡ 2 ^ 63 + 1001 → f.end ≡ 2 ^ 63 + 2000
    → (t : Store Value) × ((r : Root) × IsSetUp t r it f (reverse path))
fill_raised twig cell path ps seen count it end f same is raised are same_pieces five new low high behind one two next stops =
    let up : IsRaised twig (2 ^ 63 + 1000) path =
    subst (λ (x : CellSeen). IsRaised x (2 ^ 63 + 1000) path) same raised in
    let all = same_pieces ∙ are.is in
    let here = subst (ArePiecesOf twig) are.is are in
    let first = subst (IsBorder (rank it.key)) all one in
    let second = subst (λ k. IsBorder k (twig_pieces twig)) behind (subst (IsBorder end) all two) in (
      by_name (up.over ∷ (twig ∷ [])),
      (
        high_root up.over,
        subst (λ (p : List CellSeen). IsSetUp (by_name (up.over ∷ (twig ∷ []))) (high_root up.over) it f (reverse p))
            (sym up.cells)
            (filled_high twig is here up.over up.points count it five new low (omega (arith, high, behind)) first second f
            next stops),
      ),
    )

pub holes_below : (twig cell : CellSeen) → cell ≡ twig → IsTwigOfHoles twig → MayBeBelow cell
holes_below twig cell same is = subst MayBeBelow (sym same)
    (record { level = is.level; lo = is.lo; hi = is.hi; able = subst IsPointable (sym is.id) (lit< tt, refl) })
