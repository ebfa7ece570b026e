-- An item of a leaf that is put among extents, in a new leaf.
use Rattle.std.proofs.Common.{◌≡◌, ◌≢◌, inl, inr, ℕ, ◌+◌, ◌-◌, ◌^◌, ◌<◌, ◌≤◌, true, List, [], ◌∷◌, length, map, take, drop, get_or, refl, sym, ap, subst, ◌∙◌, arith}
use Rattle.std.specs.Prelude.{AllPairs, Contains, Some, reverse}
use Rattle.std.proofs.Math.Seq.{drop-append_seam}
use Rattle.std.proofs.lemmas.Bool.{le-leb}
use Rattle.r4_base.specs.Cell.{item_end, names_block}
use Rattle.r4_base.specs.Key.{rank}
use Rattle.r4_base.specs.Node.{Item}
use Rattle.r4_base.specs.Tree.{IsNode, Root, Store}
use Rattle.r4_base.specs.Value.{Value}
use Rattle.r4_base.specs.declared.key.Key.{Key}
use Rattle.r4_path.specs.r4_branch.Pieces.{Follow, bytes_behind, names_of, next_of, piece_end, twig_bytes}
use Rattle.r4_path.specs.r4_branch.declared.piece.TwigPiece.{TwigPiece}
use Rattle.r4_path.specs.r4_cell.Seen.{CellSeen, node_of}
use Rattle.r4_path.specs.r4_cell.declared.change.Fresh.{Fresh}
use Rattle.r4_path.specs.r4_graft.Splices.{place}
use Rattle.r4_path.proofs.r4_graft.Placed.{first_member, first_or_later, follow_end, has_end, not_in_none}
use Rattle.r4_edit.specs.Extents.{AreAmongExtents, IsLeafPutIn, IsLeafPutUp, leaf_pointer}
use Rattle.r4_path.specs.TwigPieces.{ArePiecesOf, put_pieces, twig_pieces}
use Rattle.r4_path.specs.Grafts.{AreBlocksOf, AreCountedBelow, IsGraftBelow, IsGraftBelowIn, IsGraftBelowUp, IsGraftIn, IsGraftOf, IsGraftedIn, IsGraftedUp}
use Rattle.r4_edit.specs.LeafParts.{IsLeafOf}
use Rattle.r4_path.specs.Steps.{IsFree, OnlyTakes, name_of}
use Rattle.r4_path.specs.Twigs.{Below}
use Rattle.r4_path.proofs.GraftBelow.{path_later}
use Rattle.r4_edit.proofs.Gaps.{gap, spread_bytes, spread_names, spread_pieces}
use Rattle.r4_path.proofs.Grown.{map_names, names_map}
use Rattle.r4_path.proofs.LastCell.{last_up, up_last, up_some}
use Rattle.r4_path.proofs.r4_patch.Members.{have_names}
use Rattle.r4_edit.proofs.OverLeaf.{leaf_node}

-- the next piece begins before the range ends
next_upper : (from hi : ℕ) (ys : List TwigPiece) → Follow from hi ys → next_of hi ys ≤ hi
next_upper from hi [] f = omega arith
next_upper from hi (y ∷ ys) f = let e = has_end y f.1 in let rest = follow_end (piece_end y) hi ys f.2 in omega (arith, e, rest)

pointer_bytes : (key : Key) (id : ℕ) → twig_bytes (leaf_pointer key id) ≡ 46
unfolding bytes_behind
pointer_bytes key id = refl

pub item_fits : (twig : CellSeen) (it : Item) → ArePiecesOf twig (twig_pieces twig) → AreAmongExtents twig (rank it.key) (item_end it)
    → item_end it ≤ next_of (rank twig.hi) (drop (place (rank it.key) (twig_pieces twig)) (twig_pieces twig))
item_fits twig it are keys =
    let g = gap twig (twig_pieces twig) are (rank it.key) (item_end it) keys in
    let same = ap (next_of (rank twig.hi)) ((λ i. drop (g.at i) (g.is i)) ∙ drop-append_seam g.before g.behind) in
    let next = g.next in
    omega (arith, same, next)

module _ (t : Store Value) (r : Root) (it : Item) (twig : CellSeen) (ups : List CellSeen) (fresh after : Fresh)
    (are : ArePiecesOf twig (twig_pieces twig)) (is : IsLeafPutIn t r it twig ups fresh) (unplaced : 2 ^ 63 ≤ fresh.next)
    (took : after ≡ record fresh { next = fresh.next + 1 }) (leaf : CellSeen) (hi : Key) (mkfs_id : ℕ)
    (leaf_is : IsLeafOf it fresh.next hi mkfs_id leaf)
    (end : rank hi ≡ next_of (rank twig.hi) (drop (place (rank it.key) (twig_pieces twig)) (twig_pieces twig))) where
  abbrev ps : List TwigPiece
  ps = twig_pieces twig

  abbrev us : List TwigPiece
  us = leaf_pointer it.key fresh.next

  pub follows : Follow (rank it.key) (item_end it) us
  follows =
      let named : names_block true (2 ^ 64) (Some fresh.next) ≡ true = rw (le-leb (2 ^ 63) fresh.next unplaced) refl in
      let some = is.keys.some in
      (omega arith, (is.whole_key, named), omega (arith, some))

  -- the new leaf ends where the next piece begins
  end_is : rank leaf.hi ≡ next_of (rank twig.hi) (gap twig ps are (rank it.key) (item_end it) is.keys).behind
  end_is =
      let g = gap twig ps are (rank it.key) (item_end it) is.keys in
      ap rank leaf_is.to ∙ (end ∙ ap (next_of (rank twig.hi)) ((λ i. drop (g.at i) (g.is i)) ∙ drop-append_seam g.before g.behind))

  names_are : names_of (next_of (rank twig.hi) (gap twig ps are (rank it.key) (item_end it) is.keys).behind) us ≡ name_of leaf ∷ []
  unfolding names_of
  names_are = (λ i. record { id = sym leaf_is.number i; level = sym leaf_is.level_is i; lo = rank (sym leaf_is.from i); hi = sym end_is i } ∷ [])

  abbrev pub below : Below
  below = record { old = []; new = leaf ∷ [] }

  only_leaf : (c : CellSeen) → Contains (leaf ∷ []) c → leaf ≡ c
  only_leaf c at = elim (first_or_later leaf [] c at) [ inl same ↦ same | inr none ↦ absurd (not_in_none c none) ]

  twig_node : IsNode (node_of twig)
  twig_node = is.path.part.nodes twig.id (node_of twig) is.path.ascends.0

  node : IsNode (node_of leaf)
  node =
      let g = gap twig ps are (rank it.key) (item_end it) is.keys in
      let from = ap rank leaf_is.from in
      let to = end_is in
      let next = g.next in
      let some = is.keys.some in
      let low = is.keys.low in
      let upper = next_upper (item_end it) (rank twig.hi) g.behind g.high in
      leaf_node twig leaf twig_node leaf_is.level_is (omega (arith, low, from)) (omega (arith, from, to, next, some)) (omega (arith, to, upper)) leaf_is.sound

  pub leaf_grafted : IsGraftedIn t r (put_pieces it.key us ps) twig ups after
  leaf_grafted =
      let few = spread_bytes twig ps are (rank it.key) (item_end it) is.keys us follows in
      let fits = are.fits in
      let n = ap (λ (f : Fresh). f.next) took in
      let e = ap (λ (f : Fresh). f.end) took in
      let enough = is.room fresh.next in
      let numbers = enough.numbers in
      record {
        path = path_later t r (twig ∷ ups) fresh after (omega (arith, n)) e is.path;
        level = is.level;
        pieces = spread_pieces twig ps are (rank it.key) (item_end it) is.keys us follows;
        bytes = let b = pointer_bytes it.key fresh.next in omega (arith, few, fits, b);
        enough = enough.enough;
        numbers = omega (arith, numbers, n, e);
      }

  leaf_graft_of : IsGraftOf t twig (put_pieces it.key us ps) below []
  leaf_graft_of = record {
    goes = λ c at. absurd (not_in_none c at);
    gone = λ c at. absurd (not_in_none c at);
    names = λ n.
        let all = spread_names twig ps are (rank it.key) (item_end it) is.keys us follows n in (
          λ at. elim (all.0 at) [
            | inl was ↦ inl (was, λ c. not_in_none c.0 c.1)
            | inr new ↦ inr (inl (names_map (leaf ∷ []) n (subst (λ ns. Contains ns n) names_are new)))
          ],
          λ at. all.1 (elim at [
            | inl was ↦ inl was.0
            | inr new ↦ elim new [
              | inl x ↦ inr (subst (λ ns. Contains ns n) (sym names_are) (map_names (leaf ∷ []) n x))
              | inr none ↦ absurd (not_in_none n none)
            ]
          ]),
        );
    nodes = λ c at. subst (λ (x : CellSeen). IsNode (node_of x)) (only_leaf c at) node;
    blocks = λ n at. absurd (not_in_none n at);
  }

  no_ids : AllPairs (λ (i j : ℕ). i ≢ j) []
  no_ids i j d less lt = absurd (omega (arith, lt))

  counted : AreCountedBelow t below [] fresh.next after
  counted =
      let n = ap (λ (f : Fresh). f.next) took in
      let e = ap (λ (f : Fresh). f.end) took in
      record {
        mine = fresh.next ∷ [];
        old = have_names [] tt;
        new = have_names (leaf ∷ []) (λ y at. absurd (not_in_none y at), tt);
        each = λ c at. inr (subst (λ (i : ℕ). Contains (fresh.next ∷ []) i) (sym leaf_is.number ∙ ap (λ (x : CellSeen). x.id) (only_leaf c at)) (first_member fresh.next []));
        counts = (refl, tt);
        ends = omega (arith, n);
        free = subst (λ (m : ℕ). IsFree fresh.next m t) (sym e) is.path.free;
        blocks = λ x at. absurd (not_in_none x at);
        once = no_ids;
      }

  no_blocks : AreBlocksOf [] []
  no_blocks = record { names = refl; whole = λ c at. absurd (not_in_none c at) }

  pub leaf_below : IsGraftBelow t r (put_pieces it.key us ps) below [] fresh.next after twig ups
  leaf_below = record { data_names = []; grafted = leaf_grafted; of = leaf_graft_of; blocks_are = no_blocks; counted = counted }

-- ---- of a path that is given from the top down

-- a number that is taken where one is free
pub took_one : (f g : Fresh) → f.next < f.end → g ≡ record f { next = f.next + 1 } → OnlyTakes f g
took_one f g less took = let n = ap (λ (x : Fresh). x.next) took in let e = ap (λ (x : Fresh). x.end) took in (omega (arith, n), omega (arith, n, e, less), e)

module _ {A : Type 0} (h : A → CellSeen) (path : List A) (x : A) (last : x ≡ get_or path (length path - 1) x)
    (t : Store Value) (r : Root) (it : Item) (fresh : Fresh) (is : IsLeafPutUp t r it fresh (reverse (map h path))) where
  abbrev pub leaf_ups : List CellSeen
  leaf_ups = reverse (map h (take (length path - 1) path))

  pub leaf_put_in : IsLeafPutIn t r it (h x) leaf_ups fresh
  leaf_put_in = up_last h (IsLeafPutUp t r it fresh) (λ e. e) path x last is

  pub leaf_number : fresh.next < fresh.end
  leaf_number = let n = (leaf_put_in.room fresh.next).numbers in omega (arith, n)

  pub leaf_graft_in : (qs : List TwigPiece) (after : Fresh) → IsGraftedIn t r qs (h x) leaf_ups after → IsGraftIn t r (map h path) qs after
  leaf_graft_in qs after g = last_up h (IsGraftedUp t r qs after) path x (up_some h (IsLeafPutUp t r it fresh) (λ e. e) path is) last g

  pub leaf_below_in : (qs : List TwigPiece) (after : Fresh) (b : Below) (blocks : List CellSeen) (first : ℕ) → IsGraftBelow t r qs b blocks first after (h x) leaf_ups
      → IsGraftBelowIn t r (map h path) qs b blocks first after
  leaf_below_in qs after b blocks first g = last_up h (IsGraftBelowUp t r qs b blocks first after) path x (up_some h (IsLeafPutUp t r it fresh) (λ e. e) path is) last g

  -- ---- as the cells of a call

  module _ (unplaced : 2 ^ 63 ≤ fresh.next) (after : Fresh) (took : after ≡ record fresh { next = fresh.next + 1 }) (leaf : CellSeen)
      (hi : Key) (mkfs_id : ℕ) (leaf_is : IsLeafOf it fresh.next hi mkfs_id leaf)
      (end : rank hi ≡ next_of (rank (h x).hi) (drop (place (rank it.key) (twig_pieces (h x))) (twig_pieces (h x))))
      (are : ArePiecesOf (h x) (twig_pieces (h x))) (qs : List TwigPiece)
      (packed : qs ≡ put_pieces it.key (leaf_pointer it.key fresh.next) (twig_pieces (h x))) where
    pub packed_in : IsGraftIn t r (map h path) qs after
    packed_in = subst (λ ps. IsGraftIn t r (map h path) ps after) (sym packed)
        (leaf_graft_in _ after (leaf_grafted t r it (h x) leaf_ups fresh after are leaf_put_in unplaced took leaf hi mkfs_id leaf_is end))

    pub packed_below : (olds news : List CellSeen) → olds ≡ [] → news ≡ leaf ∷ [] → IsGraftBelowIn t r (map h path) qs (record { old = olds; new = news }) [] fresh.next after
    packed_below olds news none one =
        subst (λ ps. IsGraftBelowIn t r (map h path) ps (record { old = olds; new = news }) [] fresh.next after) (sym packed)
        (subst (λ (b : Below). IsGraftBelowIn t r (map h path) (put_pieces it.key (leaf_pointer it.key fresh.next) (twig_pieces (h x))) b [] fresh.next after) (λ i. record { old = sym none i; new = sym one i })
        (leaf_below_in _ after (record { old = []; new = leaf ∷ [] }) [] fresh.next (leaf_below t r it (h x) leaf_ups fresh after are leaf_put_in unplaced took leaf hi mkfs_id leaf_is end)))
