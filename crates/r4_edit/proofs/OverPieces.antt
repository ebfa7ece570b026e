-- An extent in a leaf's range: the pieces, and what they name.
use Rattle.std.proofs.Common.{map, ◌≡◌, ◌≢◌, ◌↔◌, ◌⊎◌, ℕ, ◌+◌, ◌^◌, ◌<◌, ◌≤◌, Bool, true, false, List, [], ◌∷◌, ◌++◌, length, take, refl, sym, ap, subst, ◌∙◌, arith}
use Rattle.std.specs.Prelude.{Contains, Option, None, Some, ◌==◌, if◌then◌else◌}
use Rattle.std.proofs.Math.Seq.{drop-append-add, take-append-add, take-append_seam}
use Rattle.std.proofs.lemmas.Bool.{eqb-true, eqb-false}
use Rattle.std.proofs.lemmas.List.{append_assoc, length-append}
use Rattle.r4_base.specs.Cell.{item_end, names_block}
use Rattle.r4_base.specs.Key.{IsKey, offset_of, rank}
use Rattle.r4_base.specs.Node.{Item}
use Rattle.r4_base.specs.Tree.{Name}
use Rattle.r4_path.specs.r4_branch.Pieces.{AreTwigPieces, Follow, IsSoundPart, bytes_behind, item_pieces, last_end, names_of, next_of, part_bytes, part_end, part_names, piece_end, twig_bytes}
use Rattle.r4_path.specs.r4_branch.declared.piece.TwigPiece.{TwigPiece}
use Rattle.r4_path.proofs.r4_branch.ItemPieces.{bytes_of_item, follow_item, names_of_item, next_of_item}
use Rattle.r4_path.specs.r4_cell.Seen.{CellSeen, node_of}
use Rattle.r4_path.specs.r4_graft.Places.{HasPointer}
use Rattle.r4_path.specs.r4_graft.Splices.{place, spliced}
use Rattle.r4_path.proofs.r4_graft.FoundPlaces.{find_pointer}
use Rattle.r4_path.proofs.r4_graft.Joined.{bytes_join, bytes_most, end_of, follow_join, follow_parts, names_join, next_join, spliced_bytes}
use Rattle.r4_path.proofs.r4_graft.SplicedNames.{spliced_names}
use Rattle.r4_edit.specs.Extents.{IsGivenExtent, given_cells, item_blocks, over_pieces, pointer_to}
use Rattle.r4_path.specs.TwigPieces.{ArePiecesOf}
use Rattle.r4_path.specs.Steps.{name_of}
use Rattle.r4_edit.proofs.Spread.{extent_names}

module _ (twig leaf : CellSeen) (ps : List TwigPiece) (are : ArePiecesOf twig ps)
    (named : Contains (node_of twig).names (name_of leaf)) (leaf_level : leaf.level ≡ 1) where
  pub at : HasPointer (rank twig.hi) ps (name_of leaf)
  at = find_pointer (rank twig.lo) (rank twig.hi) (rank twig.hi) ps (name_of leaf) are.pieces.follow (subst (λ ns. Contains ns (name_of leaf)) (sym are.names) named) leaf_level

  pub place_before_end : place (rank leaf.lo) ps < length ps
  place_before_end =
      let here = at.at in
      let long = ap length at.is ∙ length-append at.before (at.piece ∷ at.behind) in
      omega (arith, here, long)

  pub leaf_pointed : names_block true (2 ^ 64) (Some leaf.id) ≡ true
  leaf_pointed =
      let parts = follow_parts (rank twig.lo) (rank twig.hi) at.before (at.piece ∷ at.behind) (subst (Follow (rank twig.lo) (rank twig.hi)) at.is are.pieces.follow) in
      subst (IsSoundPart (offset_of at.piece.key)) at.part parts.1.1.1

module _ (twig leaf : CellSeen) (ps : List TwigPiece) (are : ArePiecesOf twig ps)
    (named : Contains (node_of twig).names (name_of leaf)) (leaf_level : leaf.level ≡ 1)
    (it : Item) (right : Option CellSeen) where
  abbrev pub found : HasPointer (rank twig.hi) ps (name_of leaf)
  found = at twig leaf ps are named leaf_level

  -- the pointer, where it stays
  abbrev pub kept : List TwigPiece
  kept = if rank it.key == rank leaf.lo then [] else found.piece ∷ []

  abbrev pub come : List TwigPiece
  come = kept ++ (item_pieces it ++ pointer_to right)

  taken : (b : Bool) → spliced (length found.before + (if b then 0 else 1)) (length found.before + 1) (item_pieces it ++ pointer_to right) (found.before ++ (found.piece ∷ found.behind)) ≡ found.before ++ (((if b then [] else found.piece ∷ []) ++ (item_pieces it ++ pointer_to right)) ++ found.behind)
  taken true =
      let none : length found.before + 0 ≡ length found.before = omega arith in
      (λ i. take (none i) (found.before ++ (found.piece ∷ found.behind)) ++ ((item_pieces it ++ pointer_to right) ++ drop-append-add found.before (found.piece ∷ found.behind) 1 i))
      ∙ ap (λ xs. xs ++ ((item_pieces it ++ pointer_to right) ++ found.behind)) (take-append_seam found.before (found.piece ∷ found.behind))
  taken false =
      (λ i. take-append-add found.before (found.piece ∷ found.behind) 1 i ++ ((item_pieces it ++ pointer_to right) ++ drop-append-add found.before (found.piece ∷ found.behind) 1 i))
      ∙ append_assoc found.before (found.piece ∷ []) ((item_pieces it ++ pointer_to right) ++ found.behind)

  pub over_is : over_pieces it leaf right ps ≡ found.before ++ (come ++ found.behind)
  over_is =
      (λ i. spliced (found.at i + (if rank it.key == rank leaf.lo then 0 else 1)) (found.at i + 1) (item_pieces it ++ pointer_to right) (found.is i))
      ∙ taken (rank it.key == rank leaf.lo)

-- ---- the pieces may make twigs

-- A part of the leaf behind an item.
pub record StandsBehind (it : Item) (leaf c : CellSeen) : Type 0 where
  pub low : item_end it ≤ rank c.lo
  pub high : rank c.lo < rank leaf.hi
  pub whole_key : IsKey c.lo
  pub may_be_named : names_block true (2 ^ 64) (Some c.id) ≡ true
  pub level_is : c.level ≡ 1
  pub to : c.hi ≡ leaf.hi

abbrev pub MayStandBehind : Item → CellSeen → Option CellSeen → Type 0
MayStandBehind it leaf None = item_end it ≤ rank leaf.hi
MayStandBehind it leaf (Some c) = StandsBehind it leaf c

pub item_some : (it : Item) → IsGivenExtent it → 1 ≤ length (item_pieces it)
item_some it given = by_pieces (item_pieces it) refl
  where
    by_pieces : (xs : List TwigPiece) → xs ≡ item_pieces it → 1 ≤ length xs
    by_pieces [] same =
        let e : rank it.key + 1 ≡ rank it.key = ap (next_of (rank it.key + 1)) same ∙ next_of_item it given.sound (rank it.key + 1) in
        absurd (omega (arith, e))
    by_pieces (x ∷ xs) same = omega arith

pub pointer_follows : (it : Item) (leaf : CellSeen) (right : Option CellSeen)
    → MayStandBehind it leaf right → Follow (item_end it) (rank leaf.hi) (pointer_to right)
pointer_follows it leaf None h = h
pointer_follows it leaf (Some c) h = let high = h.high in (h.low, (h.whole_key, h.may_be_named), omega (arith, high))

pub pointer_names : (it : Item) (leaf : CellSeen) (right : Option CellSeen) → MayStandBehind it leaf right
    → names_of (rank leaf.hi) (pointer_to right) ≡ map name_of (given_cells right)
unfolding names_of
pointer_names it leaf None h = refl
pointer_names it leaf (Some c) h = (λ i. record { id = c.id; level = sym h.level_is i; lo = rank c.lo; hi = rank (sym h.to i) } ∷ [])

pub pointer_bytes : (right : Option CellSeen) → twig_bytes (pointer_to right) ≤ 46
unfolding bytes_behind
pointer_bytes None = omega arith
pointer_bytes (Some c) = omega arith

module _ (twig leaf : CellSeen) (ps : List TwigPiece) (are : ArePiecesOf twig ps)
    (named : Contains (node_of twig).names (name_of leaf)) (leaf_level : leaf.level ≡ 1)
    (it : Item) (right : Option CellSeen) (given : IsGivenExtent it) (from : rank leaf.lo ≤ rank it.key)
    (behind : MayStandBehind it leaf right) where
  abbrev pub place_of_leaf : HasPointer (rank twig.hi) ps (name_of leaf)
  place_of_leaf = found twig leaf ps are named leaf_level it right

  abbrev pub stays : List TwigPiece
  stays = kept twig leaf ps are named leaf_level it right

  abbrev pub comes : List TwigPiece
  comes = come twig leaf ps are named leaf_level it right

  abbrev was : Follow (rank twig.lo) (rank twig.hi) (place_of_leaf.before ++ (place_of_leaf.piece ∷ place_of_leaf.behind))
  was = subst (Follow (rank twig.lo) (rank twig.hi)) place_of_leaf.is are.pieces.follow

  pub parts : Follow (rank twig.lo) (end_of (rank twig.lo) place_of_leaf.before) place_of_leaf.before × Follow (end_of (rank twig.lo) place_of_leaf.before) (rank twig.hi) (place_of_leaf.piece ∷ place_of_leaf.behind)
  parts = follow_parts (rank twig.lo) (rank twig.hi) place_of_leaf.before (place_of_leaf.piece ∷ place_of_leaf.behind) was

  -- what is behind the leaf's pointer begins where the leaf ends
  pub rest : Follow (rank leaf.hi) (rank twig.hi) place_of_leaf.behind
  rest = from_next place_of_leaf.behind place_of_leaf.next parts.1.2
    where
      from_next : (ys : List TwigPiece) → next_of (rank twig.hi) ys ≡ rank leaf.hi → Follow (piece_end place_of_leaf.piece) (rank twig.hi) ys → Follow (rank leaf.hi) (rank twig.hi) ys
      from_next [] next f = omega (arith, next)
      from_next (y ∷ ys) next f = (omega (arith, next), f.1, f.2)

  kept_follows : (b : Bool) → b ≡ (rank it.key == rank leaf.lo) → Follow (end_of (rank twig.lo) place_of_leaf.before) (rank it.key) (if b then [] else place_of_leaf.piece ∷ [])
  kept_follows true same = let low = parts.1.0 in let key = place_of_leaf.key in omega (arith, low, key, from)
  kept_follows false same =
      let key = place_of_leaf.key in
      let e : piece_end place_of_leaf.piece ≡ rank place_of_leaf.piece.key + 1 = ap (part_end (rank place_of_leaf.piece.key)) place_of_leaf.part in
      let other = eqb-false (rank it.key) (rank leaf.lo) (sym same) in
      (parts.1.0, parts.1.1, omega (arith, e, key, from, other))

  comes_follow : Follow (end_of (rank twig.lo) place_of_leaf.before) (rank leaf.hi) comes
  comes_follow =
      follow_join (end_of (rank twig.lo) place_of_leaf.before) (rank it.key) (rank leaf.hi) stays (item_pieces it ++ pointer_to right) (kept_follows (rank it.key == rank leaf.lo) refl)
      (follow_join (rank it.key) (item_end it) (rank leaf.hi) (item_pieces it) (pointer_to right) (follow_item it given.sound) (pointer_follows it leaf right behind))

  -- the first of what comes has the leaf's first key
  first_comes : (z : ℕ) → next_of z comes ≡ rank leaf.lo
  first_comes z = by_test (rank it.key == rank leaf.lo) refl
    where
      by_test : (b : Bool) → b ≡ (rank it.key == rank leaf.lo) → next_of z ((if b then [] else place_of_leaf.piece ∷ []) ++ (item_pieces it ++ pointer_to right)) ≡ rank leaf.lo
      by_test true same = next_join z (item_pieces it) (pointer_to right) ∙ (next_of_item it given.sound (next_of z (pointer_to right)) ∙ eqb-true (rank it.key) (rank leaf.lo) (sym same))
      by_test false same = place_of_leaf.key

  pub over_twigs : AreTwigPieces (rank twig.lo) (rank twig.hi) (over_pieces it leaf right ps)
  over_twigs =
      let is = over_is twig leaf ps are named leaf_level it right in
      let z = next_of (rank twig.hi) place_of_leaf.behind in
      let before = length-append place_of_leaf.before (comes ++ place_of_leaf.behind) in
      let more = length-append comes place_of_leaf.behind in
      let mine = item_some it given in
      let whole = length-append stays (item_pieces it ++ pointer_to right) in
      let both = length-append (item_pieces it) (pointer_to right) in
      subst (AreTwigPieces (rank twig.lo) (rank twig.hi)) (sym is) (record {
        some = omega (arith, before, more, mine, whole, both);
        first = next_join (rank twig.hi) place_of_leaf.before (comes ++ place_of_leaf.behind)
            ∙ (ap (λ (n : ℕ). next_of n place_of_leaf.before) (next_join (rank twig.hi) comes place_of_leaf.behind ∙ (first_comes z ∙ sym place_of_leaf.key))
            ∙ (sym (next_join (rank twig.hi) place_of_leaf.before (place_of_leaf.piece ∷ place_of_leaf.behind)) ∙ (ap (next_of (rank twig.hi)) (sym place_of_leaf.is) ∙ are.pieces.first)));
        follow = follow_join (rank twig.lo) (end_of (rank twig.lo) place_of_leaf.before) (rank twig.hi) place_of_leaf.before (comes ++ place_of_leaf.behind) parts.0
            (follow_join (end_of (rank twig.lo) place_of_leaf.before) (rank leaf.hi) (rank twig.hi) comes place_of_leaf.behind comes_follow rest);
      })

  kept_bytes : (b : Bool) → twig_bytes (if b then [] else place_of_leaf.piece ∷ []) ≤ 54
  unfolding bytes_behind
  kept_bytes true = omega arith
  kept_bytes false = let e = ap (part_bytes None (rank place_of_leaf.piece.key)) place_of_leaf.part in omega (arith, e)

  pub over_bytes : twig_bytes (over_pieces it leaf right ps) ≤ 4068 + 4300
  over_bytes =
      let is = ap twig_bytes (over_is twig leaf ps are named leaf_level it right) in
      let all = spliced_bytes place_of_leaf.before (place_of_leaf.piece ∷ []) place_of_leaf.behind comes in
      let were = ap twig_bytes place_of_leaf.is in
      let fits = are.fits in
      let a = bytes_join None stays (item_pieces it ++ pointer_to right) in
      let b = bytes_join (last_end None stays) (item_pieces it) (pointer_to right) in
      let c = bytes_most (last_end None stays) (item_pieces it) in
      let d = bytes_most (last_end (last_end None stays) (item_pieces it)) (pointer_to right) in
      let e = bytes_of_item it given.sound in
      let f = pointer_bytes right in
      let g = kept_bytes (rank it.key == rank leaf.lo) in
      let short = given.short in
      omega (arith, is, all, were, fits, a, b, c, d, e, f, g, short)

  -- ---- what they name

  begins : next_of (rank leaf.hi) (item_pieces it ++ pointer_to right) ≡ rank it.key
  begins = next_join (rank leaf.hi) (item_pieces it) (pointer_to right) ∙ next_of_item it given.sound (next_of (rank leaf.hi) (pointer_to right))

  module _ (left : Option CellSeen) (none_is : rank it.key ≡ rank leaf.lo → left ≡ None)
      (some_is : (rank it.key ≢ rank leaf.lo) → (c : CellSeen) × (left ≡ Some c) × (name_of c ≡ record { id = leaf.id; level = 1; lo = rank leaf.lo; hi = rank it.key })) where
    kept_names : (b : Bool) → b ≡ (rank it.key == rank leaf.lo) → names_of (next_of (rank leaf.hi) (item_pieces it ++ pointer_to right)) (if b then [] else place_of_leaf.piece ∷ []) ≡ map name_of (given_cells left)
    unfolding names_of
    kept_names true same = ap (λ o. map name_of (given_cells o)) (sym (none_is (eqb-true (rank it.key) (rank leaf.lo) (sym same))))
    kept_names false same =
        let some = some_is (eqb-false (rank it.key) (rank leaf.lo) (sym same)) in
        (λ i. part_names (place_of_leaf.key i) (begins i) (place_of_leaf.part i) ++ [])
        ∙ ((λ i. sym some.2 i ∷ []) ∙ ap (λ o. map name_of (given_cells o)) (sym some.1))

    -- What comes names the leaf's parts, and the blocks.
    pub comes_names : names_of (next_of (rank twig.hi) place_of_leaf.behind) comes ≡ map name_of (given_cells left) ++ (item_blocks it ++ map name_of (given_cells right))
    comes_names =
        let z = place_of_leaf.next in
        let item : names_of (next_of (rank leaf.hi) (pointer_to right)) (item_pieces it) ≡ item_blocks it = names_of_item it given.sound _ ∙ extent_names it _ given.plugin in
        ap (λ (n : ℕ). names_of n comes) z
        ∙ (names_join (rank leaf.hi) stays (item_pieces it ++ pointer_to right)
        ∙ ((λ i. kept_names (rank it.key == rank leaf.lo) refl i ++ names_join (rank leaf.hi) (item_pieces it) (pointer_to right) i)
        ∙ (λ i. map name_of (given_cells left) ++ (item i ++ pointer_names it leaf right behind i))))

  -- The leaf goes.
  pub gone_names : names_of (next_of (rank twig.hi) place_of_leaf.behind) (place_of_leaf.piece ∷ []) ≡ name_of leaf ∷ []
  unfolding names_of
  gone_names = (λ i. part_names (place_of_leaf.key i) (place_of_leaf.next i) (place_of_leaf.part i) ++ []) ∙ (λ i. record { id = leaf.id; level = sym leaf_level i; lo = rank leaf.lo; hi = rank leaf.hi } ∷ [])

  pub over_names : (n : Name) → Contains (names_of (rank twig.hi) (over_pieces it leaf right ps)) n ↔
      ((Contains (node_of twig).names n × (Contains (name_of leaf ∷ []) n → ⊥)) ⊎ Contains (names_of (next_of (rank twig.hi) place_of_leaf.behind) comes) n)
  over_names n =
      subst (λ ns. Contains ns n ↔ ((Contains (node_of twig).names n × (Contains (name_of leaf ∷ []) n → ⊥)) ⊎ Contains (names_of (next_of (rank twig.hi) place_of_leaf.behind) comes) n)) (ap (names_of (rank twig.hi)) (sym (over_is twig leaf ps are named leaf_level it right)))
      (subst (λ gone. Contains (names_of (rank twig.hi) (place_of_leaf.before ++ (comes ++ place_of_leaf.behind))) n ↔ ((Contains (node_of twig).names n × (Contains gone n → ⊥)) ⊎ Contains (names_of (next_of (rank twig.hi) place_of_leaf.behind) comes) n)) gone_names
      (subst (λ ns. Contains (names_of (rank twig.hi) (place_of_leaf.before ++ (comes ++ place_of_leaf.behind))) n ↔ ((Contains ns n × (Contains (names_of (next_of (rank twig.hi) place_of_leaf.behind) (place_of_leaf.piece ∷ [])) n → ⊥)) ⊎ Contains (names_of (next_of (rank twig.hi) place_of_leaf.behind) comes) n))
      (ap (names_of (rank twig.hi)) (sym place_of_leaf.is) ∙ are.names)
      (spliced_names (rank twig.hi) (rank twig.lo) (rank twig.hi) place_of_leaf.before (place_of_leaf.piece ∷ []) comes place_of_leaf.behind was
      (ap (λ (k : ℕ). names_of k place_of_leaf.before) (first_comes (next_of (rank twig.hi) place_of_leaf.behind) ∙ sym place_of_leaf.key)) n)))
