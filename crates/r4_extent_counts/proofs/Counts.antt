-- Blocks that get bytes, counted in parts.
use Rattle.std.specs.Prelude.{◌≡◌, ℕ, zero, suc, ◌+◌, ◌-◌, ◌*◌, ◌/◌, ◌^◌, ◌<◌, Bool, true, false, ◌&&◌, if◌then◌else◌}
use Rattle.std.specs.Prelude.{List, Some, drop, length, sum_by, take}
use Rattle.std.proofs.Common.{add_assoc, arith, refl, sym, ap, ◌∙◌, zero-add}
use Rattle.r4_base.specs.Extents.{is_hole}
use Rattle.r4_base.specs.Key.{rank}
use Rattle.r4_base.specs.Node.{items_of}
use Rattle.r4_base.specs.Tree.{Node}
use Rattle.r4_base.specs.Value.{Value}
use Rattle.r4_base.specs.declared.items.Unit.{Unit as ExtentUnit}
use Rattle.r4_base.specs.declared.key.Key.{Key}
use Rattle.r4_base.specs.declared.things.NodeId.{NodeId}
use Rattle.r4_extent_demands.specs.r4_branch.Pieces.{pieces_in}
use Rattle.r4_extent_demands.specs.r4_branch.declared.piece.TwigPart.{TwigPart}
use Rattle.r4_extent_demands.specs.r4_branch.declared.piece.TwigPart.TheVariants.{Blocks, Pointer}
use Rattle.r4_extent_demands.specs.r4_branch.declared.piece.TwigPiece.{TwigPiece}
use Rattle.r4_extent_demands.specs.r4_cell.Seen.{CellSeen, node_of}
use Rattle.r4_content.specs.Edited.{Edits}
use Rattle.r4_extent_demands.specs.r4_graft.Splices.{parted, place}
use Rattle.r4_extent_demands.specs.r4_leaf.Units.{is_between}
use Rattle.r4_extent_demands.proofs.r4_leaf_demands.Weighed.{block_is}
use Rattle.r4_extent_demands.specs.r4_path.TwigPieces.{twig_pieces}
use Rattle.r4_extent_demands.specs.r4_reach.Touched.{Body, blocks_end, coming, first_byte, going, is_spread}
use Rattle.r4_extent_demands.specs.r4_reach.Needs.{cut_pieces, gets_bytes, taken_up}
use Rattle.r4_extent_counts.specs.Coming.{body_cells, come_to, filled_in, gaining, leaf_taking_up}

module _ (gets : ℕ → Bool) where
  -- none does
  pub none_gaining : (k n : ℕ) → ((i : ℕ) → i < n → gets (k + 4096 * i) ≡ false) → gaining gets k n ≡ 0
  none_gaining k zero h = refl
  none_gaining k (suc n) h =
      let here : k ≡ k + 4096 * 0 = omega arith in
      let first : gets k ≡ false = ap gets here ∙ h 0 (omega arith) in
      let rest : gaining gets (k + 4096) n ≡ 0 =
      none_gaining (k + 4096) n
      (λ i lt. let at : k + 4096 + 4096 * i ≡ k + 4096 * (i + 1) = omega arith in
      ap gets at ∙ h (i + 1) (omega (arith, lt))) in
      (λ j. (if first j then 1 else 0) + rest j)

  pub one_gaining : (k : ℕ) → gets k ≡ true → gaining gets k 1 ≡ 1
  one_gaining k on = (λ j. (if on j then 1 else 0) + 0)

  -- the first of them, and the others
  pub both_gaining : (m n k : ℕ) → gaining gets k (m + n) ≡ gaining gets k m + gaining gets (k + 4096 * m) n
  both_gaining zero n k =
      let some : zero + n ≡ n = omega arith in
      let here : k ≡ k + 4096 * zero = omega arith in
      ap (gaining gets k) some ∙ ap (λ (j : ℕ). gaining gets j n) here
      ∙ sym (zero-add (gaining gets (k + 4096 * zero) n))
  both_gaining (suc m) n k =
      let some : suc m + n ≡ suc (m + n) = omega arith in
      let next : k + 4096 + 4096 * m ≡ k + 4096 * suc m = omega arith in
      let one : ℕ = if gets k then 1 else 0 in
      ap (gaining gets k) some
      ∙ ap (λ (x : ℕ). one + x) (both_gaining m n (k + 4096))
      ∙ sym (add_assoc one (gaining gets (k + 4096) m) (gaining gets (k + 4096 + 4096 * m) n))
      ∙ ap (λ (j : ℕ). (one + gaining gets (k + 4096) m) + gaining gets j n) next

  pub in_halves : (k count half at : ℕ) → half < count → at ≡ k + 4096 * half
      → gaining gets k half + gaining gets at (count - half) ≡ gaining gets k count
  in_halves k count half at lt is =
      let whole : half + (count - half) ≡ count = omega (arith, lt) in
      ap (λ (j : ℕ). gaining gets k half + gaining gets j (count - half)) is
      ∙ sym (both_gaining half (count - half) k) ∙ ap (gaining gets k) whole

-- ---- a piece

module _ (b : Body) (e : Edits) (k : Key) where
  abbrev at_key : TwigPart → TwigPiece
  at_key t = record { key = k; part = t }

  pub no_blocks : (to : NodeId) → filled_in b e (at_key (Pointer to)) ≡ 0
  no_blocks to = refl

  abbrev mine : Bool
  mine = is_between (first_byte b) (first_byte b + 2 ^ 64) (rank k)

  pub no_hole : (u : ExtentUnit) → is_hole u ≡ false → filled_in b e (at_key (Blocks u)) ≡ 0
  no_hole u off = ap (λ (t : Bool). if t && mine then gaining (gets_bytes b e) (rank k) u.width else 0) off

  pub not_own : (u : ExtentUnit) → mine ≡ false → filled_in b e (at_key (Blocks u)) ≡ 0
  not_own u off = by_test (is_hole u)
    where
      by_both : (t : Bool) → (if t && mine then gaining (gets_bytes b e) (rank k) u.width else 0)
          ≡ (if t && false then gaining (gets_bytes b e) (rank k) u.width else 0)
      by_both t = ap (λ (m : Bool). if t && m then gaining (gets_bytes b e) (rank k) u.width else 0) off

      by_test : (t : Bool) → (if t && mine then gaining (gets_bytes b e) (rank k) u.width else 0) ≡ 0
      by_test true = by_both true
      by_test false = refl

  pub own_hole : (u : ExtentUnit) → is_hole u ≡ true → mine ≡ true
      → filled_in b e (at_key (Blocks u)) ≡ gaining (gets_bytes b e) (rank k) u.width
  own_hole u hole own =
      (λ i. if hole i && own i then gaining (gets_bytes b e) (rank k) u.width else 0)

-- ---- blocks that come

module _ (b : Body) (e : Edits) (c : Node Value) where
  -- how many, and where they come from
  abbrev come_by : (spread : Bool) → ℕ × ℕ
  come_by t = if t then (if b.in_extents then blocks_end b b.was else first_byte b, blocks_end b b.now) else (0, 0)

  pub none_come : is_spread b ≡ false → come_to b e c ≡ 0
  none_come off = ap at off ∙ by_test (is_between c.lo c.hi 0)
    where
      at : Bool → ℕ
      at t = if is_between c.lo c.hi (come_by t).0
          then gaining (gets_bytes b e) (come_by t).0 (((come_by t).1 - (come_by t).0) / 4096) else 0

      by_test : (t : Bool) → (if t then gaining (gets_bytes b e) 0 ((0 - 0) / 4096) else 0) ≡ 0
      by_test true = refl
      by_test false = refl

  pub come_elsewhere : is_between c.lo c.hi (coming b).0 ≡ false → come_to b e c ≡ 0
  come_elsewhere off =
      ap (λ (t : Bool). if t then gaining (gets_bytes b e) (coming b).0 (((coming b).1 - (coming b).0) / 4096) else 0) off

  pub come_here : is_between c.lo c.hi (coming b).0 ≡ true
      → come_to b e c ≡ gaining (gets_bytes b e) (coming b).0 (((coming b).1 - (coming b).0) / 4096)
  come_here on =
      ap (λ (t : Bool). if t then gaining (gets_bytes b e) (coming b).0 (((coming b).1 - (coming b).0) / 4096) else 0) on

-- ---- a leaf that takes up the range of blocks that go

pub taking_is : (b : Body) (x : CellSeen) (all first parts : List TwigPiece) (from to f t : ℕ) → all ≡ twig_pieces x
    → f ≡ (going b).0 → t ≡ (going b).1 → first ≡ parted f all → parts ≡ parted t first → from ≡ place f parts
    → to ≡ place t parts
    → length (taken_up (node_of x) (take from parts) (take (to - from) (drop from parts)))
    ≡ leaf_taking_up b (node_of x)
taking_is b x all first parts from to f t all_are f_is t_is first_are parts_are from_is to_is =
    (λ i. length (taken_up (node_of x) (take (from_is i) parts) (take (to_is i - from_is i) (drop (from_is i) parts))))
    ∙ (λ i. taking (f_is i) (t_is i) (all_parts i))
  where
    taking : ℕ → ℕ → List TwigPiece → ℕ
    taking g u qs = length (taken_up (node_of x) (take (place g qs) qs)
        (take (place u qs - place g qs) (drop (place g qs) qs)))

    own_pieces : all ≡ pieces_in (items_of (node_of x).block)
    own_pieces = all_are ∙ ap (λ (bytes : List ℕ). pieces_in (items_of bytes)) (sym (block_is x))

    all_parts : parts ≡ parted (going b).1 (parted (going b).0 (pieces_in (items_of (node_of x).block)))
    all_parts = parts_are ∙ ap (parted t) first_are ∙ (λ i. parted (t_is i) (parted (f_is i) (own_pieces i)))

-- ---- all of a body's

pub own_are : (b : Body) (e : Edits) (x : CellSeen) (all left : List TwigPiece) (filled come leaf sum : ℕ)
    → all ≡ twig_pieces x → left ≡ cut_pieces (going b) (node_of x) all → filled ≡ sum_by (filled_in b e) left
    → come ≡ come_to b e (node_of x) → leaf ≡ leaf_taking_up b (node_of x) → sum ≡ filled + (come + leaf)
    → sum ≡ body_cells (Some b) e (node_of x)
own_are b e x all left filled come leaf sum all_are left_are filled_is come_is leaf_is sum_is =
    sum_is ∙ (λ i. in_filled i + (come_is i + leaf_is i))
  where
    own_pieces : all ≡ pieces_in (items_of (node_of x).block)
    own_pieces = all_are ∙ ap (λ (bytes : List ℕ). pieces_in (items_of bytes)) (sym (block_is x))

    in_filled : filled ≡ sum_by (filled_in b e)
        (cut_pieces (going b) (node_of x) (pieces_in (items_of (node_of x).block)))
    in_filled = filled_is ∙ ap (sum_by (filled_in b e)) (left_are ∙ ap (cut_pieces (going b) (node_of x)) own_pieces)
