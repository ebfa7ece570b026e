-- Which way units are cut out: by what stands behind the twigs of the path.
use Rattle.std.proofs.Common.{map, true, false, ◌≡◌, inl, inr, ℕ, zero, suc, ◌+◌, ◌-◌, ◌<◌, ◌≤◌, List, [], ◌∷◌, ◌++◌, length, take, drop, refl, sym, ap, subst, ◌∙◌, arith}
use Rattle.std.specs.Prelude.{Contains, Option, None, Some, reverse}
use Rattle.std.proofs.Math.Seq.{drop-append_seam, take-append_seam}
use Rattle.std.proofs.lemmas.Bool.{cases_lt, eq-eqb, le-leb, le-ltb, lt-leb, lt-ltb, ne_eqb}
use Rattle.std.proofs.lemmas.List.{reverse-append, reverse-reverse}
use Rattle.std.proofs.lemmas.List.Elements.{Contains-append_cases}
use Rattle.std.proofs.lemmas.Option.{same_Some}
use Rattle.r4_base.specs.Key.{rank}
use Rattle.r4_base.specs.Tree.{Root, Store}
use Rattle.r4_base.specs.Value.{Value}
use Rattle.r4_base.specs.declared.key.Key.{Key}
use Rattle.r4_path.specs.r4_cell.Seen.{CellSeen, node_of}
use Rattle.r4_path.specs.r4_branch.declared.piece.TwigPiece.{TwigPiece}
use Rattle.r4_path.specs.r4_cell.declared.change.Change.{Change}
use Rattle.r4_path.specs.r4_cell.declared.change.Fresh.{Fresh}
use Rattle.r4_path.specs.r4_graft.Splices.{place}
use Rattle.r4_path.proofs.r4_graft.Placed.{first_member, first_or_later, later_member, not_in_none, place_none, place_some}
use Rattle.r4_edit.specs.CutBlocks.{BeginsAt, IsCutUp, IsLeftOf, IsOutOfExtentsIn, IsOutOfLeafIn, IsTakenOutIn, is_in_range, leaf_first, parted_twice, pieces_between, rest_behind, trunk, CutsUp}
use Rattle.r4_edit.specs.Editing.{IsCutOutUp}
use Rattle.r4_edit.specs.Extents.{given_cells}
use Rattle.r4_path.specs.TwigPieces.{twig_pieces}
use Rattle.r4_path.specs.Levels.{Leads}
use Rattle.r4_path.specs.Steps.{name_of}
use Rattle.r4_path.proofs.Begun.{leads_of}

true_not_false : true ≡ false → ⊥
true_not_false e = absurd cc

-- ---- what goes begins below the second key

begins_below : (from to k : ℕ) (ps : List TwigPiece) → from < to → BeginsAt k (pieces_between from to ps) → k < to
begins_below from to k [] less at = absurd at
begins_below from to k (p ∷ ps) less at = elim (cases_lt (rank p.key) from) [
  | inl lt ↦
      let a = place_some from p ps lt in
      let b = place_some to p ps (omega (arith, lt, less)) in
      let less_one : suc (place to ps) - suc (place from ps) ≡ place to ps - place from ps = omega arith in
      let same : pieces_between from to (p ∷ ps) ≡ pieces_between from to ps =
      rw (a, b) (ap (λ n. take n (drop (place from ps) ps)) less_one) in
      begins_below from to k ps less (subst (BeginsAt k) same at)
  | inr ge ↦
      let a = place_none from p ps ge in
      elim (cases_lt (rank p.key) to) [
        | inl lt ↦
            let b = place_some to p ps lt in
            let all : suc (place to ps) - 0 ≡ suc (place to ps) = omega arith in
            let same : pieces_between from to (p ∷ ps) ≡ p ∷ take (place to ps) ps = rw (a, b) (ap (λ n. take n (p ∷ ps)) all) in
            let is : rank p.key ≡ k = subst (BeginsAt k) same at in
            omega (arith, is, lt)
        | inr past ↦
            let b = place_none to p ps past in
            let same : pieces_between from to (p ∷ ps) ≡ [] = rw (a, b) refl in
            absurd (subst (BeginsAt k) same at)
      ]
]

-- ---- the cells above leaf level, and those below

-- the first of the cells, if there is one, is no twig
IsLow : List CellSeen → Type 0
IsLow [] = Unit {0}
IsLow (c ∷ cells) = c.level < 2

trunk_is : (xs ys : List CellSeen) → ((c : CellSeen) → Contains xs c → 2 ≤ c.level) → IsLow ys → trunk (xs ++ ys) ≡ length xs
unfolding IsLow
trunk_is [] [] high low = refl
trunk_is [] (y ∷ ys) high low = rw (lt-leb 2 y.level low) refl
trunk_is (x ∷ xs) ys high low =
    let rest = trunk_is xs ys (λ c at. high c (later_member x xs c at)) low in
    let one : trunk ((x ∷ xs) ++ ys) ≡ 1 + trunk (xs ++ ys) = rw (le-leb 2 x.level (high x (first_member x xs))) refl in
    omega (arith, rest, one)

-- The path's cells, parted where the trunk ends.
pub record IsPartedAt (path above below : List CellSeen) : Type 0 where
  pub above_is : take (trunk path) path ≡ above
  pub below_is : drop (trunk path) path ≡ below

parted_at : (path xs ys : List CellSeen) → path ≡ xs ++ ys → ((c : CellSeen) → Contains xs c → 2 ≤ c.level) → IsLow ys → IsPartedAt path xs ys
parted_at path xs ys is high low =
    let n : trunk path ≡ length xs = ap trunk is ∙ trunk_is xs ys high low in
    record {
      above_is = (λ i. take (n i) (is i)) ∙ take-append_seam xs ys;
      below_is = (λ i. drop (n i) (is i)) ∙ drop-append_seam xs ys;
    }

-- ---- a leaf's units

above_high : (b : CellSeen) (cells : List CellSeen) → 1 ≤ b.level → Leads b cells → (c : CellSeen) → Contains cells c → 2 ≤ c.level
above_high b [] low leads c at = absurd (not_in_none c at)
above_high b (d ∷ cells) low (named, level, some, rest) c at = elim (first_or_later d cells c at) [
  | inl is ↦ subst (λ (x : CellSeen). 2 ≤ x.level) is (omega (arith, level, low))
  | inr more ↦ above_high d cells (omega (arith, level, low)) rest c more
]

reverse-cons : (b : CellSeen) (cells : List CellSeen) → reverse (b ∷ cells) ≡ reverse cells ++ b ∷ []
reverse-cons b cells = reverse-append (b ∷ []) cells

reversed : (xs : List CellSeen) (b : CellSeen) (cells : List CellSeen) → reverse xs ≡ b ∷ cells → xs ≡ reverse cells ++ b ∷ []
reversed xs b cells is = sym (reverse-reverse xs) ∙ (ap reverse is ∙ reverse-cons b cells)

in_reversed : (xs : List CellSeen) (c : CellSeen) → Contains (reverse xs) c → Contains xs c
in_reversed [] c at = at
in_reversed (x ∷ xs) c at = elim (Contains-append_cases (reverse xs) (x ∷ []) c (subst (λ ys. Contains ys c) (reverse-cons x xs) at)) [
  | inl more ↦ later_member x xs c (in_reversed xs c more)
  | inr here ↦ elim (first_or_later x [] c here) [
    | inl is ↦ subst (λ (y : CellSeen). Contains (x ∷ xs) y) is (first_member x xs)
    | inr none ↦ absurd (not_in_none c none)
  ]
]

module _ (t : Store Value) (r : Root) (path : List CellSeen) (from to : Key) (fresh : Fresh) where
  abbrev pub above : List CellSeen
  above = take (trunk path) path

  abbrev pub below : List CellSeen
  below = drop (trunk path) path

  -- ---- out of a leaf

  leaf_range : IsOutOfLeafIn t r path from to fresh → is_in_range (leaf_first below) (rank from) ≡ true
  unfolding IsLow
  leaf_range is = by_cells (reverse path) refl is.cuts
    where
      by_cells : (cells : List CellSeen) → reverse path ≡ cells → IsCutOutUp t r from to fresh cells → is_in_range (leaf_first below) (rank from) ≡ true
      by_cells [] same e = absurd e
      by_cells (leaf ∷ ups) same e =
          let one = e.edited.level in
          let ascends = e.edited.path.ascends in
          let high = above_high leaf ups (omega (arith, one)) (leads_of t r e.edited.path.part leaf ups (omega (arith, one)) ascends.3) in
          let parts = parted_at path (reverse ups) (leaf ∷ []) (reversed path leaf ups same) (λ c at. high c (in_reversed ups c at)) (omega (arith, one)) in
          let order = e.order in
          let end = e.high in
          ap (λ cells. is_in_range (leaf_first cells) (rank from)) parts.below_is
          ∙ (rw (eq-eqb leaf.level 1 one) (lt-ltb (rank from) (rank leaf.hi) (omega (arith, order, end))))

  -- ---- out of extents

  module _ (is : IsOutOfExtentsIn t r path from to fresh) where
    -- the leaf has level 1, and the blocks level 0
    Levels : Type 0
    Levels = ((c : CellSeen) → is.leaf ≡ Some c → c.level ≡ 1) × ((c : CellSeen) → Contains is.blocks c → c.level ≡ 0)

    levels : Levels
    unfolding Levels
    levels = by_cells (reverse is.above) is.cuts
      where
        by_left : (twig : CellSeen) (going : List TwigPiece) (leaf : Option CellSeen) → IsLeftOf t twig going leaf → (c : CellSeen) → leaf ≡ Some c → c.level ≡ 1
        by_left twig going None left c e = absurd cc
        by_left twig going (Some l) left c e = sym (ap (λ (x : CellSeen). x.level) (same_Some l c e)) ∙ left.level_is

        by_cells : (cells : List CellSeen) → IsCutUp t r is.leaf is.blocks (rank from) (rank to) fresh cells → ((c : CellSeen) → is.leaf ≡ Some c → c.level ≡ 1) × ((c : CellSeen) → Contains is.blocks c → c.level ≡ 0)
        by_cells [] e = absurd e
        by_cells (twig ∷ ups) e = (by_left twig _ is.leaf e.left, λ c at. ((e.goes (name_of c)).0 (c, at, refl)).1.0)

    low : (leaf : Option CellSeen) (blocks : List CellSeen) → ((c : CellSeen) → leaf ≡ Some c → c.level ≡ 1) → ((c : CellSeen) → Contains blocks c → c.level ≡ 0) → IsLow (given_cells leaf ++ blocks)
    unfolding IsLow
    low (Some l) blocks one none = let e = one l refl in omega (arith, e)
    low None [] one none = tt
    low None (b ∷ blocks) one none = let e = none b (first_member b blocks) in omega (arith, e)

    parted_path : IsPartedAt path is.above (given_cells is.leaf ++ is.blocks)
    unfolding Levels
    parted_path = parted_at path is.above (given_cells is.leaf ++ is.blocks) is.is is.branches (low is.leaf is.blocks levels.0 levels.1)

    first_is : (leaf : Option CellSeen) (blocks : List CellSeen) → ((c : CellSeen) → leaf ≡ Some c → c.level ≡ 1) → ((c : CellSeen) → Contains blocks c → c.level ≡ 0) → (leaf_first (given_cells leaf ++ blocks) ≡ leaf) × (rest_behind (given_cells leaf ++ blocks) ≡ blocks)
    first_is (Some l) blocks one none = let e = eq-eqb l.level 1 (one l refl) in (rw e refl, rw e refl)
    first_is None [] one none = (refl, refl)
    first_is None (b ∷ blocks) one none = let e = ne_eqb b.level 1 (λ same. let z = none b (first_member b blocks) in omega (arith, z, same)) in (rw e refl, rw e refl)

    pub above_is : is.above ≡ above
    above_is = sym parted_path.above_is

    pub leaf_is : is.leaf ≡ leaf_first below
    unfolding Levels
    leaf_is = sym (ap leaf_first parted_path.below_is ∙ (first_is is.leaf is.blocks levels.0 levels.1).0)

    pub blocks_are : is.blocks ≡ rest_behind below
    unfolding Levels
    blocks_are = sym (ap rest_behind parted_path.below_is ∙ (first_is is.leaf is.blocks levels.0 levels.1).1)

    -- the leaf ends where what goes begins, or before
    leaf_ends : (cells : List CellSeen) → IsCutUp t r is.leaf is.blocks (rank from) (rank to) fresh cells → (c : CellSeen)
        → is.leaf ≡ Some c → rank c.hi ≤ rank from
    leaf_ends [] e c same = absurd e
    leaf_ends (twig ∷ ups) e c same =
        let left = subst (IsLeftOf t twig (pieces_between (rank from) (rank to) (parted_twice (rank from) (rank to) (twig_pieces twig))))
        same e.left in
        elim (e.clear (name_of c) left.named left.level_is) [
          | inl before ↦ before
          | inr past ↦
              let path = (e.room 0).path in
              let node = path.part.nodes twig.id (node_of twig) path.ascends.0 in
              let wide = node.name_nonempty (name_of c) left.named in
              let below = begins_below (rank from) (rank to) (rank c.hi)
              (parted_twice (rank from) (rank to) (twig_pieces twig)) e.some left.ends in
              absurd (omega (arith, past, wide, below))
        ]

    extent_range : is_in_range (leaf_first below) (rank from) ≡ false
    extent_range = subst (λ o. is_in_range o (rank from) ≡ false) leaf_is (by_leaf is.leaf (leaf_ends (reverse is.above) is.cuts))
      where
        by_leaf : (o : Option CellSeen) → ((c : CellSeen) → o ≡ Some c → rank c.hi ≤ rank from) → is_in_range o (rank from) ≡ false
        by_leaf None ends = refl
        by_leaf (Some c) ends = le-ltb (rank from) (rank c.hi) (ends c refl)

    pub cut_up : IsCutUp t r (leaf_first below) (rest_behind below) (rank from) (rank to) fresh (reverse above)
    cut_up = subst (λ cells. IsCutUp t r (leaf_first below) (rest_behind below) (rank from) (rank to) fresh (reverse cells)) above_is
        (subst (λ blocks. IsCutUp t r (leaf_first below) blocks (rank from) (rank to) fresh (reverse is.above)) blocks_are
        (subst (λ o. IsCutUp t r o is.blocks (rank from) (rank to) fresh (reverse is.above)) leaf_is is.cuts))

    pub not_in_leaf : is_in_range (leaf_first below) (rank from) ≡ true → ⊥
    not_in_leaf e = true_not_false (sym e ∙ extent_range)

    pub cuts_up : (before after : Fresh) (c : Change) → CutsUp above (leaf_first below) (rest_behind below) (rank from) (rank to) before after c (reverse above) → CutsUp is.above is.leaf is.blocks (rank from) (rank to) before after c (reverse is.above)
    cuts_up before after c cuts =
        subst (λ cells. CutsUp cells is.leaf is.blocks (rank from) (rank to) before after c (reverse cells)) (sym above_is)
        (subst (λ blocks. CutsUp above is.leaf blocks (rank from) (rank to) before after c (reverse above)) (sym blocks_are)
        (subst (λ o. CutsUp above o (rest_behind below) (rank from) (rank to) before after c (reverse above)) (sym leaf_is) cuts))

  -- ---- which way

  pub of_leaf : IsTakenOutIn t r path from to fresh → is_in_range (leaf_first below) (rank from) ≡ true → IsOutOfLeafIn t r path from to fresh
  of_leaf (inl leaf) e = leaf
  of_leaf (inr extents) e = absurd (not_in_leaf extents e)

  pub of_extents : IsTakenOutIn t r path from to fresh → is_in_range (leaf_first below) (rank from) ≡ false → IsOutOfExtentsIn t r path from to fresh
  of_extents (inl leaf) e = absurd (true_not_false (sym (leaf_range leaf) ∙ e))
  of_extents (inr extents) e = extents

  pub no_leaf : IsOutOfLeafIn t r path from to fresh → is_in_range (leaf_first below) (rank from) ≡ false → ⊥
  no_leaf leaf e = true_not_false (sym (leaf_range leaf) ∙ e)

-- ---- slices of a path

pub map_take : {A B : Type 0} (f : A → B) (n : ℕ) (xs : List A) → map f (take n xs) ≡ take n (map f xs)
map_take f zero xs = refl
map_take f (suc n) [] = refl
map_take f (suc n) (x ∷ xs) = ap (λ ys. f x ∷ ys) (map_take f n xs)

pub map_drop : {A B : Type 0} (f : A → B) (n : ℕ) (xs : List A) → map f (drop n xs) ≡ drop n (map f xs)
map_drop f zero xs = refl
map_drop f (suc n) [] = refl
map_drop f (suc n) (x ∷ xs) = map_drop f n xs

pub trunk_within : (cells : List CellSeen) → trunk cells ≤ length cells
trunk_within [] = omega arith
trunk_within (c ∷ cells) = let rest = trunk_within cells in elim (cases_lt c.level 2) [
  | inl lt ↦ let none : trunk (c ∷ cells) ≡ 0 = rw (lt-leb 2 c.level lt) refl in omega (arith, none)
  | inr ge ↦ let one : trunk (c ∷ cells) ≡ 1 + trunk cells = rw (le-leb 2 c.level ge) refl in omega (arith, one, rest)
]
