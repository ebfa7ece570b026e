-- The pieces that a twig has more after the edits, where a body comes to extents there: those of the extent.
use Rattle.std.proofs.Common.{◌≡◌, ℕ, ◌+◌, ◌-◌, ◌/◌, ◌^◌, ◌≤◌, inl, inr, Bool, true, false, cond, List, [], ◌∷◌, ◌++◌, length, take, drop, refl, sym, ap, ◌∙◌, arith, subst}
use Rattle.std.specs.Prelude.{Contains, Some, ◌&&◌, not}
use Rattle.std.specs.List.{filter, flat_map, list_any}
use Rattle.std.proofs.Math.Seq.{drop-append_seam, take-append_seam}
use Rattle.std.proofs.lemmas.List.{length-append, length-drop, length-take-le}
use Rattle.std.proofs.lemmas.List.Concat.{flat_map-cons}
use Rattle.r4_base.specs.Extents.{is_hole}
use Rattle.r4_base.specs.Key.{rank}
use Rattle.r4_base.specs.Node.{items_of}
use Rattle.r4_base.specs.Volume.{blocks_for}
use Rattle.r4_base.specs.declared.key.Key.{Key}
use Rattle.r4_build.specs.r4_branch.Pieces.{Follow, piece_end, pieces_in}
use Rattle.r4_build.specs.r4_branch.declared.piece.TwigPart.{TwigPart}
use Rattle.r4_build.specs.r4_branch.declared.piece.TwigPart.TheVariants.{Blocks, Pointer}
use Rattle.r4_build.specs.r4_branch.declared.piece.TwigPiece.{TwigPiece}
use Rattle.r4_extent_build.specs.r4_cell.Seen.{CellSeen, node_of}
use Rattle.r4_content.specs.Edited.{Edits, is_between}
use Rattle.r4_extent_build.specs.Growing.{end_after}
use Rattle.r4_extent_build.specs.Setting.{is_hole_of}
use Rattle.r4_extent_build.proofs.UncutTwigs.{none_gone, nothing_goes}
use Rattle.r4_extent_build.specs.r4_graft.Splices.{place, spliced}
use Rattle.r4_extent_build.proofs.r4_graft.Joined.{follow_lower}
use Rattle.r4_extent_build.proofs.r4_graft.Placed.{has_end, place_within}
use Rattle.r4_build.proofs.r4_measure.Kept.{block_is}
use Rattle.r4_build.proofs.r4_patch.Members.{cases, here, later, none}
use Rattle.r4_build.specs.r4_path.TwigPieces.{ArePiecesOf, twig_pieces}
use Rattle.r4_build.proofs.r4_path.Rising.{hi_is, lo_is}
use Rattle.r4_base.specs.Tree.{Name}
use Rattle.r4_build.specs.r4_reach.Needs.{Ask, points_to, cut_pieces, filled, gets_bytes, is_hole_part, pieces_after, runs, with_coming, without_gone}
use Rattle.r4_build.specs.r4_reach.Touched.{Body, blocks_end, first_byte, going}
use Rattle.r4_extent_turn.specs.Turning.{IsTurningBody, told_extent}
use Rattle.r4_extent_turn.proofs.Bodies.{coming_is, turned}

pub kept_member : {X : Type 0} (f : X → Bool) (xs : List X) (y : X) → Contains (filter f xs) y → Contains xs y
kept_member f [] y at = absurd (none y at)
kept_member {X} f (x ∷ xs) y at = by_test (f x) at (kept_member f xs y)
  where
    by_test : (t : Bool) → Contains (cond t (x ∷ filter f xs) (filter f xs)) y → (Contains (filter f xs) y → Contains xs y) → Contains (x ∷ xs) y
    by_test true m rest = elim (cases x y (filter f xs) m) [
      | inl is ↦ subst (Contains (x ∷ xs)) (sym is) (here x xs)
      | inr more ↦ later x y xs (rest more)
    ]
    by_test false m rest = later x y xs (rest m)

-- some pieces follow each other where all do
pub follow_filter : (from to : ℕ) (f : TwigPiece → Bool) (ps : List TwigPiece) → Follow from to ps → Follow from to (filter f ps)
follow_filter from to f [] h = h
follow_filter from to f (p ∷ ps) h = by_test (f p) refl (follow_filter (piece_end p) to f ps h.2)
  where
    by_test : (t : Bool) → f p ≡ t → Follow (piece_end p) to (filter f ps) → Follow from to (filter f (p ∷ ps))
    by_test true e rest = subst (λ (t : Bool). Follow from to (cond t (p ∷ filter f ps) (filter f ps))) (sym e) (h.0, h.1, rest)
    by_test false e rest = subst (λ (t : Bool). Follow from to (cond t (p ∷ filter f ps) (filter f ps))) (sym e)
        (follow_lower (piece_end p) from to (filter f ps) (let low = h.0 in let end = has_end p h.1 in omega (arith, low, end)) rest)

-- a piece that is no hole of the body
as_it_is : (b : Body) (e : Edits) (p : TwigPiece) → is_hole_of b p ≡ false → filled b e p ≡ p ∷ []
as_it_is b e p off = by_part p.part refl
  where
    by_part : (t : TwigPart) → p.part ≡ t → filled b e p ≡ p ∷ []
    by_part (Pointer to) is = ap (λ (x : TwigPart). filled b e (record p { part = x })) is ∙ ap (λ (x : TwigPart). record p { part = x } ∷ []) (sym is)
    by_part (Blocks u) is =
        let h : (is_hole u && is_between (first_byte b) (first_byte b + 2 ^ 64) (rank p.key)) ≡ false = sym (ap (λ (x : TwigPart). is_hole_part x && is_between (first_byte b) (first_byte b + 2 ^ 64) (rank p.key)) is) ∙ off in
        ap (λ (x : TwigPart). filled b e (record p { part = x })) is ∙ (ap (λ (t : Bool). cond t (runs (gets_bytes b e) (rank p.key) u.width) (record p { part = Blocks u } ∷ [])) h
        ∙ ap (λ (x : TwigPart). record p { part = x } ∷ []) (sym is))

none_filled : (b : Body) (e : Edits) (ps : List TwigPiece) → ((p : TwigPiece) → Contains ps p → is_hole_of b p ≡ false) → flat_map (filled b e) ps ≡ ps
none_filled b e [] off = refl
none_filled b e (p ∷ ps) off = flat_map-cons (filled b e) p ps ∙ (λ i. as_it_is b e p (off p (here p ps)) i ++ none_filled b e ps (λ q at. off q (later p q ps at)) i)

-- pieces in the middle of others
pub from_middle : (k : ℕ) (ps ms all : List TwigPiece) → k ≤ length ps → all ≡ take k ps ++ (ms ++ drop k ps)
    → (length all ≡ length ps + length ms) × (take (length all - length ps) (drop k all) ≡ ms)
from_middle k ps ms all within is =
    let a = length-append (take k ps) (ms ++ drop k ps) in
    let z = length-append ms (drop k ps) in
    let t : length (take k ps) ≡ k = length-take-le k ps within in
    let d : length (drop k ps) ≡ length ps - k = length-drop k ps in
    let l : length all ≡ length (take k ps ++ (ms ++ drop k ps)) = ap length is in
    let long : length all ≡ length ps + length ms = omega (arith, a, z, t, d, l, within) in
    let front : drop k all ≡ ms ++ drop k ps = (λ i. drop (sym t i) (is i)) ∙ drop-append_seam (take k ps) (ms ++ drop k ps) in
    let n : length all - length ps ≡ length ms = omega (arith, long) in
    (long, (λ i. take (n i) (front i)) ∙ take-append_seam ms (drop k ps))

module _ (b : Body) (first : Key) (g : IsTurningBody b first) (e : Edits) (twig : CellSeen) (are : ArePiecesOf twig (twig_pieces twig))
    (within : is_between (rank twig.lo) (rank twig.hi) (first_byte b) ≡ true) (no_holes : (p : TwigPiece) → Contains (twig_pieces twig) p → is_hole_of b p ≡ false) where
  abbrev ps : List TwigPiece
  ps = twig_pieces twig

  going_is : going b ≡ (0, 0)
  going_is = ap (λ (t : Bool). cond t (end_after b, blocks_end b b.was) (0, 0)) (turned b first g).0

  -- without some pointers
  module _ (hs : List (Name × Ask)) where
    abbrev pub left : List TwigPiece
    left = without_gone hs ps

    left_is : cut_pieces (going b) (node_of twig) (without_gone hs (pieces_in (items_of (node_of twig).block))) ≡ left
    left_is =
        ap (λ bytes. cut_pieces (going b) (node_of twig) (without_gone hs (pieces_in (items_of bytes)))) (block_is twig)
        ∙ (ap (λ (r : ℕ × ℕ). cut_pieces r (node_of twig) left) going_is
        ∙ nothing_goes (node_of twig) (rank twig.lo) (rank twig.hi) left (follow_filter (rank twig.lo) (rank twig.hi) (λ p. not (list_any (λ h. h.1.gone && points_to h.0.id p.part) hs)) ps are.pieces.follow)
        0 0 (omega arith) (λ p m. inr (omega arith)))

  many : (end_after b - first_byte b) / 4096 ≡ blocks_for b.now
  many = omega arith

  pub after_of : (hs : List (Name × Ask)) → pieces_after (Some b) e (node_of twig) hs ≡ take (place (first_byte b) (left hs)) (left hs) ++ (told_extent b e ++ drop (place (first_byte b) (left hs)) (left hs))
  after_of hs =
      ap (λ xs. with_coming b e (node_of twig) (flat_map (filled b e) xs)) (left_is hs)
      ∙ (ap (with_coming b e (node_of twig)) (none_filled b e (left hs) (λ p at. no_holes p (kept_member (λ q. not (list_any (λ h. h.1.gone && points_to h.0.id q.part) hs)) ps p at)))
      ∙ ((λ i. cond (is_between (lo_is twig i) (hi_is twig i) ((coming_is b first g i).0)) (spliced (place ((coming_is b first g i).0) (left hs)) (place ((coming_is b first g i).0) (left hs)) (runs (gets_bytes b e) ((coming_is b first g i).0) (((coming_is b first g i).1 - (coming_is b first g i).0) / 4096)) (left hs)) (left hs))
      ∙ (ap (λ (t : Bool). cond t (spliced (place (first_byte b) (left hs)) (place (first_byte b) (left hs)) (runs (gets_bytes b e) (first_byte b) ((end_after b - first_byte b) / 4096)) (left hs)) (left hs)) within
      ∙ ap (λ (n : ℕ). spliced (place (first_byte b) (left hs)) (place (first_byte b) (left hs)) (runs (gets_bytes b e) (first_byte b) n) (left hs)) many)))

  pub after_is : pieces_after (Some b) e (node_of twig) [] ≡ take (place (first_byte b) ps) ps ++ (told_extent b e ++ drop (place (first_byte b) ps) ps)
  after_is = after_of [] ∙ (λ i. take (place (first_byte b) (none_gone ps i)) (none_gone ps i) ++ (told_extent b e ++ drop (place (first_byte b) (none_gone ps i)) (none_gone ps i)))

  pub told_are : (all : List TwigPiece) → all ≡ pieces_after (Some b) e (node_of twig) []
      → (length all ≡ length ps + length (told_extent b e)) × (take (length all - length ps) (drop (place (first_byte b) ps) all) ≡ told_extent b e)
  told_are all is = from_middle (place (first_byte b) ps) ps (told_extent b e) all (place_within (first_byte b) ps) (is ∙ after_is)
