-- What comes in the place of the pointers to leaves: an extent between pointers to what stays of them.
use Rattle.std.proofs.Common.{map, ◌≡◌, ◌↔◌, ◌⊎◌, ℕ, ◌+◌, ◌^◌, ◌<◌, ◌≤◌, Bool, List, []}
use Rattle.std.proofs.Common.{◌∷◌, ◌++◌, length, refl, sym, ap, subst, ◌∙◌, arith, eq-eqb}
use Rattle.std.specs.Prelude.{Contains, Option, None, Some, false, true, ◌==◌, if◌then◌else◌, option_map}
use Rattle.std.proofs.lemmas.List.{append-nil, length-append}
use Rattle.r4_base.specs.Cell.{names_block}
use Rattle.r4_base.specs.Key.{IsKey, key_of_rank, offset_of, rank}
use Rattle.r4_base.specs.Tree.{Name}
use Rattle.r4_base.specs.declared.key.Key.{Key}
use Rattle.r4_build.specs.r4_branch.Pieces.{AreTwigPieces, Follow, IsSoundPart, names_of, next_of, part_names, part_units, units_of}
use Rattle.r4_build.specs.r4_branch.declared.piece.TwigPiece.{TwigPiece}
use Rattle.r4_build.proofs.r4_branch.ItemPieces.{units_append}
use Rattle.r4_extent_build.specs.r4_cell.Seen.{CellSeen, node_of}
use Rattle.r4_content.specs.Edited.{Edits}
use Rattle.r4_extent_build.specs.r4_edit.Extents.{given_cells, pointer_to}
use Rattle.r4_extent_build.specs.r4_edit.LeafParts.{HasLeft, HasRight}
use Rattle.r4_build.proofs.r4_edit.CutGraft.{may_be_named}
use Rattle.r4_build.proofs.r4_edit.OverLeaf.{first_there}
use Rattle.r4_build.proofs.r4_edit.OverUnits.{pointer_none}
use Rattle.r4_extent_build.specs.Growing.{end_after}
use Rattle.r4_extent_build.specs.Numbering.{names_coming}
use Rattle.r4_extent_build.proofs.r4_extent_demands.r4_leaf_edits.KeyRanks.{key_again}
use Rattle.r4_extent_build.specs.r4_extent_edit.Between.{pieces_over}
use Rattle.r4_extent_build.specs.r4_extent_edit.Turning.{AreAround}
use Rattle.r4_extent_build.proofs.r4_extent_edit.LeafPointers.{HasPointers}
use Rattle.r4_extent_build.proofs.r4_extent_edit.TurnPieces.{front, h, last_in, over_is, rest}
use Rattle.r4_extent_build.proofs.r4_graft.Joined.{end_of, follow_join, follow_parts, names_join, next_join}
use Rattle.r4_extent_build.proofs.r4_graft.SplicedNames.{spliced_names}
use Rattle.r4_build.specs.r4_path.Steps.{name_of}
use Rattle.r4_build.specs.r4_path.TwigPieces.{twig_pieces}
use Rattle.r4_build.proofs.r4_path.Rising.{hi_is}
use Rattle.r4_build.specs.r4_reach.Touched.{Body, first_byte}
use Rattle.r4_extent_turn.specs.Turning.{AreKept, IsTurnFor, IsTurningBody, Kept, Turn, blocks_turned}
use Rattle.r4_extent_turn.specs.Turning.{last_of, left_pointer, leaves_of, numbered, pieces_with, right_number, told_extent, with_id}
use Rattle.r4_extent_turn.proofs.Bodies.{extent, extent_follow, extent_names, extent_next, extent_units}

module _ (b : Body) (x : Turn) (c : IsTurnFor b x) where
  abbrev pub end : ℕ
  end = rank (last_of x).hi

  abbrev pub p : HasPointers (rank x.twig.hi) (twig_pieces x.twig) x.leaf x.more end
  p = h x.twig c.pieces x.leaf x.more c.beside c.named

  -- the range of the leaves, up to where the extent ends
  pub around_leaf : AreAround x.leaf x.more (rank x.leaf.lo) (end_after b)
  around_leaf = record { low = omega arith; begins = c.beside.2; ends = c.around.ends; high = c.around.high }

  pub over : (zs : List TwigPiece) → pieces_over (rank x.leaf.lo) (end_after b) zs x.twig ≡ p.before ++ (zs ++ p.behind)
  over zs =
      over_is x.twig c.pieces x.leaf x.more c.beside c.named (rank x.leaf.lo) (end_after b) around_leaf zs
      ∙ ap (λ (t : Bool). p.before ++ (((if t then [] else p.piece ∷ []) ++ zs) ++ p.behind)) (eq-eqb (rank x.leaf.lo) (rank x.leaf.lo) refl)

  parts : Follow (rank x.twig.lo) (end_of (rank x.twig.lo) p.before) p.before
      × Follow (end_of (rank x.twig.lo) p.before) (rank x.twig.hi) (p.piece ∷ (p.others ++ p.behind))
  parts = follow_parts (rank x.twig.lo) (rank x.twig.hi) p.before (p.piece ∷ (p.others ++ p.behind)) (subst (Follow
      (rank x.twig.lo) (rank x.twig.hi)) p.is c.pieces.pieces.follow)

  piece_key : IsKey p.piece.key
  piece_key = parts.1.1.0

  pub before_follow : Follow (rank x.twig.lo) (rank x.leaf.lo) p.before
  before_follow = front x.twig c.pieces x.leaf x.more c.beside c.named

  pub behind_follow : Follow end (rank x.twig.hi) p.behind
  behind_follow = rest x.twig c.pieces x.leaf x.more c.beside c.named

  -- ---- what the twig had

  gone_none : units_of (p.piece ∷ p.others) ≡ []
  unfolding units_of
  gone_none = (λ i. part_units (rank p.piece.key) (p.part i) ++ p.units i)

  pub were_units : (node_of x.twig).units ≡ units_of p.before ++ units_of p.behind
  were_units =
      sym c.pieces.units
      ∙ (ap units_of p.is
      ∙ (units_append p.before ((p.piece ∷ p.others) ++ p.behind)
      ∙ ap (λ us. units_of p.before ++ us) (units_append (p.piece ∷ p.others) p.behind
      ∙ ap (λ us. us ++ units_of p.behind) gone_none)))

  gone_names : names_of (next_of (rank x.twig.hi) p.behind) (p.piece ∷ p.others) ≡ map name_of (leaves_of x)
  unfolding names_of
  gone_names =
      ap (λ (n : ℕ). names_of n (p.piece ∷ p.others)) p.next
      ∙ ((λ i. part_names (p.key i) (p.begins i) (p.part i) ++ p.names i)
      ∙ (λ i. record { id = x.leaf.id; level = sym c.beside.0 i; lo = rank x.leaf.lo; hi = rank x.leaf.hi }
      ∷ map name_of x.more))

  -- ---- the pointer to what stays of the first leaf

  module _ (s : Kept) (k : AreKept b x s) where
    left_key : (l : CellSeen) → l.lo ≡ x.leaf.lo → key_of_rank (rank l.lo) ≡ p.piece.key
    left_key l same = ap key_of_rank (ap rank same ∙ sym p.key) ∙ key_again p.piece.key piece_key

    left_at : (l : CellSeen) → l.lo ≡ x.leaf.lo → rank (key_of_rank (rank l.lo)) ≡ rank x.leaf.lo
    left_at l same = ap rank (left_key l same) ∙ p.key

    -- its number may be named, since the leaf's own one was
    left_sound : (l : CellSeen) → l.id ≡ x.leaf.id → names_block true (2 ^ 64) (Some l.id) ≡ true
    left_sound l same = subst (λ (i : ℕ). names_block true (2 ^ 64) (Some i) ≡ true) (sym same)
        (subst (IsSoundPart (offset_of p.piece.key)) p.part parts.1.1.1)

    abbrev pub lefts : List TwigPiece
    lefts = left_pointer s.left

    pub lefts_follow : Follow (rank x.leaf.lo) (first_byte b) lefts
    lefts_follow = by_left s.left k.left
      where
        by_left : (o : Option CellSeen) → HasLeft x.leaf k.from o → Follow (rank x.leaf.lo) (first_byte b) (left_pointer o)
        by_left None left = c.around.low
        by_left (Some l) left =
            let at = left_at l left.1.from in
            let lt = left.0 in
            let is = k.from_is in
            (omega (arith, at), (subst IsKey (sym (left_key l left.1.from)) piece_key, left_sound l left.1.number), omega (arith, at, lt, is))

    -- with an extent behind it, that begins with the first of the blocks
    pub lefts_next : (z : ℕ) → z ≡ first_byte b → next_of z lefts ≡ rank x.leaf.lo
    lefts_next z same = by_left s.left k.left
      where
        by_left : (o : Option CellSeen) → HasLeft x.leaf k.from o → next_of z (left_pointer o) ≡ rank x.leaf.lo
        by_left None left = same ∙ (sym k.from_is ∙ left)
        by_left (Some l) left = left_at l left.1.from

    pub lefts_names : names_of (first_byte b) lefts ≡ map name_of (given_cells s.left)
    unfolding names_of
    lefts_names = by_left s.left k.left
      where
        by_left : (o : Option CellSeen) → HasLeft x.leaf k.from o → names_of (first_byte b) (left_pointer o) ≡ map name_of (given_cells o)
        by_left None left = refl
        by_left (Some l) left =
            let hi : first_byte b ≡ rank l.hi = sym k.from_is ∙ ap rank (sym left.1.to) in
            let lo : rank (key_of_rank (rank l.lo)) ≡ rank l.lo = left_at l left.1.from ∙ ap rank (sym left.1.from) in
            (λ i. record { id = l.id; level = sym left.1.level_is i; lo = lo i; hi = hi i } ∷ [])

    pub lefts_units : units_of lefts ≡ []
    unfolding units_of
    lefts_units = by_left s.left
      where
        by_left : (o : Option CellSeen) → units_of (left_pointer o) ≡ []
        by_left None = refl
        by_left (Some l) = refl

    -- ---- and that to what stays of the last one

    pub right_low : (l : CellSeen) → s.right ≡ Some l → (end_after b ≤ rank l.lo) × (rank l.lo < end)
    right_low l is = by_right (subst (HasRight (last_of x) k.to k.right_id) is k.right)
      where
        by_right : HasRight (last_of x) k.to k.right_id (Some l) → (end_after b ≤ rank l.lo) × (rank l.lo < end)
        by_right r =
            let there = first_there (rank k.to) (node_of (last_of x)).units (rank l.lo) r.from in
            let inside = (c.nodes (last_of x) (last_in x.leaf x.more)).unit_in (rank l.lo) there.0 there.1 in
            let hi = hi_is (last_of x) in
            let low = there.2 in
            let is = k.to_is in
            (omega (arith, low, is), omega (arith, inside, hi))

    module _ (m : ℕ) where
      abbrev pub rights : List TwigPiece
      rights = pointer_to (option_map (with_id m) s.right)

      pub rights_follow : 2 ^ 63 ≤ m → Follow (end_after b) end rights
      rights_follow high = by_right s.right refl k.right
        where
          by_right : (o : Option CellSeen) → s.right ≡ o → HasRight (last_of x) k.to k.right_id o → Follow (end_after b) end (pointer_to (option_map (with_id m) o))
          by_right None is right = c.around.high
          by_right (Some l) is right =
              let low = right_low l is in
              (low.0, (right.whole_key, may_be_named m high), omega (arith, low))

      pub rights_names : names_of end rights ≡ map name_of (given_cells (option_map (with_id m) s.right))
      unfolding names_of
      rights_names = by_right s.right k.right
        where
          by_right : (o : Option CellSeen) → HasRight (last_of x) k.to k.right_id o → names_of end (pointer_to (option_map (with_id m) o)) ≡ map name_of (given_cells (option_map (with_id m) o))
          by_right None right = refl
          by_right (Some l) right = (λ i. record { id = m; level = sym right.level_is i; lo = rank l.lo; hi = rank (sym right.to i) } ∷ [])

    -- ---- all that comes

    module _ (first : Key) (g : IsTurningBody b first) (e : Edits) (n : ℕ) (high : 2 ^ 63 ≤ n) where
      abbrev pub new : Kept
      new = numbered x (n + blocks_turned b e) s

      abbrev pub comes : List TwigPiece
      comes = left_pointer new.left ++ (extent b first g e n high ++ pointer_to new.right)

      abbrev pub qs : List TwigPiece
      qs = pieces_with b x (extent b first g e n high) new

      pub qs_are : qs ≡ p.before ++ (comes ++ p.behind)
      qs_are = over comes

      abbrev at_right : ℕ
      at_right = right_number x (n + blocks_turned b e)

      high_right : 2 ^ 63 ≤ at_right
      high_right = by_test (x.leaf.id == n + blocks_turned b e)
        where
          by_test : (t : Bool) → 2 ^ 63 ≤ (if t then n + blocks_turned b e + 1 else n + blocks_turned b e)
          by_test true = omega (arith, high)
          by_test false = omega (arith, high)

      comes_follow : Follow (rank x.leaf.lo) end comes
      comes_follow =
          follow_join (rank x.leaf.lo) (first_byte b) end lefts (extent b first g e n high ++ rights at_right) lefts_follow
          (follow_join (first_byte b) (end_after b) end (extent b first g e n high) (rights at_right) (extent_follow b first g e n high) (rights_follow at_right high_right))

      extent_first : (z : ℕ) → next_of z (extent b first g e n high ++ rights at_right) ≡ first_byte b
      extent_first z = next_join z (extent b first g e n high) (rights at_right) ∙ extent_next b first g e n high (next_of z (rights at_right))

      comes_first : (z : ℕ) → next_of z comes ≡ rank x.leaf.lo
      comes_first z =
          next_join z lefts (extent b first g e n high ++ rights at_right)
          ∙ lefts_next (next_of z (extent b first g e n high ++ rights at_right)) (extent_first z)

      some_comes : 1 ≤ length comes
      some_comes = by_length comes (comes_first (rank x.leaf.lo + 1))
        where
          by_length : (zs : List TwigPiece) → next_of (rank x.leaf.lo + 1) zs ≡ rank x.leaf.lo → 1 ≤ length zs
          by_length [] same = absurd (omega (arith, same))
          by_length (z ∷ zs) same = omega arith

      pub qs_pieces : AreTwigPieces (rank x.twig.lo) (rank x.twig.hi) qs
      qs_pieces =
          let before = length-append p.before (comes ++ p.behind) in
          let whole = length-append comes p.behind in
          let some = some_comes in
          subst (AreTwigPieces (rank x.twig.lo) (rank x.twig.hi)) (sym qs_are) (record {
            some = omega (arith, before, whole, some);
            first = next_join (rank x.twig.hi) p.before (comes ++ p.behind)
                ∙ (ap (λ (z : ℕ). next_of z p.before) (next_join (rank x.twig.hi) comes p.behind
                ∙ (comes_first (next_of (rank x.twig.hi) p.behind) ∙ sym p.key))
                ∙ (sym (next_join (rank x.twig.hi) p.before (p.piece ∷ (p.others ++ p.behind)))
                ∙ (ap (next_of (rank x.twig.hi)) (sym p.is) ∙ c.pieces.pieces.first)));
            follow = follow_join (rank x.twig.lo) (rank x.leaf.lo) (rank x.twig.hi) p.before (comes ++ p.behind) before_follow
                (follow_join (rank x.leaf.lo) end (rank x.twig.hi) comes p.behind comes_follow behind_follow);
          })

      -- ---- units

      comes_units : units_of comes ≡ units_of (told_extent b e)
      comes_units =
          units_append lefts (extent b first g e n high ++ rights at_right)
          ∙ ((λ i. lefts_units i ++ units_append (extent b first g e n high) (rights at_right) i)
          ∙ ((λ i. extent_units b first g e n high i ++ pointer_none (option_map (with_id at_right) s.right) i) ∙ append-nil (units_of (told_extent b e))))

      pub qs_units : units_of qs ≡ units_of p.before ++ (units_of (told_extent b e) ++ units_of p.behind)
      qs_units =
          ap units_of qs_are
          ∙ (units_append p.before (comes ++ p.behind)
          ∙ (ap (λ us. units_of p.before ++ us) (units_append comes p.behind)
          ∙ ap (λ us. units_of p.before ++ (us ++ units_of p.behind)) comes_units))

      -- ---- what they name

      abbrev pub come_names : List Name
      come_names = map name_of (given_cells new.left) ++ (names_coming [] n (told_extent b e) ++ map name_of (given_cells new.right))

      comes_names : names_of (next_of (rank x.twig.hi) p.behind) comes ≡ come_names
      comes_names =
          ap (λ (z : ℕ). names_of z comes) p.next
          ∙ (names_join end lefts (extent b first g e n high ++ rights at_right)
          ∙ ((λ i. names_of (extent_first end i) lefts ++ names_join end (extent b first g e n high) (rights at_right) i)
          ∙ (λ i. lefts_names i ++ (extent_names b first g e n high (next_of end (rights at_right)) i ++ rights_names at_right i))))

      pub qs_names : (m : Name) → Contains (names_of (rank x.twig.hi) qs) m ↔
          ((Contains (node_of x.twig).names m × (Contains (map name_of (leaves_of x)) m → ⊥)) ⊎ Contains come_names m)
      qs_names m =
          subst (λ (ns : List Name). Contains (names_of (rank x.twig.hi) qs) m ↔ ((Contains (node_of x.twig).names m × (Contains (map name_of (leaves_of x)) m → ⊥)) ⊎ Contains ns m)) comes_names
          (subst (λ (ns : List Name). Contains ns m ↔ ((Contains (node_of x.twig).names m × (Contains (map name_of (leaves_of x)) m → ⊥))
          ⊎ Contains (names_of (next_of (rank x.twig.hi) p.behind) comes) m)) (ap (names_of (rank x.twig.hi)) (sym qs_are))
          (subst (λ (gone : List Name). Contains (names_of (rank x.twig.hi) (p.before ++ (comes ++ p.behind))) m
          ↔ ((Contains (node_of x.twig).names m × (Contains gone m → ⊥))
          ⊎ Contains (names_of (next_of (rank x.twig.hi) p.behind) comes) m)) gone_names
          (subst (λ (ns : List Name). Contains (names_of (rank x.twig.hi) (p.before ++ (comes ++ p.behind))) m ↔ ((Contains ns m
          × (Contains (names_of (next_of (rank x.twig.hi) p.behind) (p.piece ∷ p.others)) m → ⊥))
          ⊎ Contains (names_of (next_of (rank x.twig.hi) p.behind) comes) m))
          (ap (names_of (rank x.twig.hi)) (sym p.is) ∙ c.pieces.names)
          (spliced_names (rank x.twig.hi) (rank x.twig.lo) (rank x.twig.hi) p.before (p.piece ∷ p.others) comes p.behind (subst
          (Follow (rank x.twig.lo) (rank x.twig.hi)) p.is c.pieces.pieces.follow)
          (ap (λ (z : ℕ). names_of z p.before) (comes_first (next_of (rank x.twig.hi) p.behind) ∙ sym p.key)) m))))
