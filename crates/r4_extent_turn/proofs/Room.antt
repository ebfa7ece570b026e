-- The room that a turned twig's pieces need is what was told.
use Rattle.std.proofs.Common.{◌≡◌, ℕ, ◌+◌, ◌*◌, ◌^◌, Bool, true, false, cond, List, [], ◌∷◌, ◌++◌, refl, sym, ap, ◌∙◌}
use Rattle.std.specs.Prelude.{None, Option, Some, nat_lt, option_map}
use Rattle.r4_base.specs.Key.{offset_of, rank}
use Rattle.r4_build.specs.r4_branch.Pieces.{bytes_behind, last_end, open_end, twig_bytes}
use Rattle.r4_build.specs.r4_branch.declared.piece.TwigPart.{TwigPart}
use Rattle.r4_build.specs.r4_branch.declared.piece.TwigPart.TheVariants.{Blocks, Pointer}
use Rattle.r4_build.specs.r4_branch.declared.piece.TwigPiece.{TwigPiece}
use Rattle.r4_extent_build.specs.r4_cell.Seen.{CellSeen}
use Rattle.r4_content.specs.Edited.{Edits}
use Rattle.r4_extent_build.specs.r4_edit.Extents.{pointer_to}
use Rattle.r4_extent_build.specs.Numbering.{block_of, is_coming, with_numbers}
use Rattle.r4_extent_build.proofs.Numbers.{numbers_bytes, numbers_off, numbers_on, told}
use Rattle.r4_extent_build.proofs.r4_graft.Joined.{bytes_join, last_join}
use Rattle.r4_build.specs.r4_reach.Touched.{Body}
use Rattle.r4_extent_turn.specs.Turning.{IsTurnFor, Kept, Turn, left_pointer, pieces_with, told_extent, told_pieces, with_id}
use Rattle.r4_extent_turn.proofs.Comes.{over, p}

-- These pieces need the same room, whatever stands before them, and leave the same behind them.
abbrev pub SameRoom : (xs ys : List TwigPiece) → Type 0
SameRoom xs ys = (d : Option ℕ) → (bytes_behind d xs ≡ bytes_behind d ys) × (last_end d xs ≡ last_end d ys)

pub same_all : (xs : List TwigPiece) → SameRoom xs xs
same_all xs d = (refl, refl)

pub same_join : (xs ys us vs : List TwigPiece) → SameRoom xs ys → SameRoom us vs → SameRoom (xs ++ us) (ys ++ vs)
same_join xs ys us vs f h d = (
  bytes_join d xs us ∙ ((λ i. (f d).0 i + bytes_behind ((f d).1 i) us) ∙ (ap (λ n. bytes_behind d ys + n) (h (last_end d ys)).0 ∙ sym (bytes_join d ys vs))),
  last_join d xs us ∙ (ap (λ (o : Option ℕ). last_end o us) (f d).1 ∙ ((h (last_end d ys)).1 ∙ sym (last_join d ys vs))),
)

-- ---- a pointer

same_right : (m : ℕ) (o : Option CellSeen) → SameRoom (pointer_to (option_map (with_id m) o)) (pointer_to o)
unfolding bytes_behind
same_right m None d = (refl, refl)
same_right m (Some c) d = (refl, refl)

-- ---- blocks with numbers

unfoldable pub open_by : (offset key : ℕ) → TwigPart → Option ℕ
open_by o k (Pointer to) = None
open_by o k (Blocks u) = cond (nat_lt (o + 4096 * u.width) (2 ^ 64)) (Some (k + 4096 * u.width)) None

pub open_is : (p : TwigPiece) → open_end p ≡ open_by (offset_of p.key) (rank p.key) p.part
unfolding open_by
open_is p = refl

same_open : (n : ℕ) (p : TwigPiece) → p.part ≡ Blocks (record { start = 2 ^ 63; width = 1 }) → open_end (block_of p.key n) ≡ open_end p
unfolding open_by
same_open n p t = open_is (block_of p.key n) ∙ (sym (ap (open_by (offset_of p.key) (rank p.key)) t) ∙ sym (open_is p))

numbers_last : (old : List TwigPiece) (n : ℕ) (d : Option ℕ) (ps : List TwigPiece) → last_end d (with_numbers old n ps) ≡ last_end d ps
unfolding with_numbers
numbers_last old n d [] = refl
numbers_last old n d (q ∷ ps) = by_test (is_coming old q) refl (λ m o. numbers_last old m o ps)
  where
    by_test : (b : Bool) → is_coming old q ≡ b → ((m : ℕ) (o : Option ℕ) → last_end o (with_numbers old m ps) ≡ last_end o ps)
        → last_end d (with_numbers old n (q ∷ ps)) ≡ last_end (open_end q) ps
    by_test true e rest =
        ap (last_end d) (numbers_on old n q ps e)
        ∙ (ap (λ (o : Option ℕ). last_end o (with_numbers old (n + 1) ps)) (same_open n q (told old q e).is) ∙ rest (n + 1) (open_end q))
    by_test false e rest = ap (last_end d) (numbers_off old n q ps e) ∙ rest n (open_end q)

same_numbers : (n : ℕ) (ps : List TwigPiece) → SameRoom (with_numbers [] n ps) ps
same_numbers n ps d = (numbers_bytes [] n d ps, numbers_last [] n d ps)

-- ---- all of them

module _ (b : Body) (x : Turn) (c : IsTurnFor b x) (e : Edits) (s : Kept) (n r : ℕ) where
  -- with an extent of other numbers, and a pointer to a cell of another
  abbrev pub others : Kept
  others = record s { right = option_map (with_id r) s.right }

  pub same_bytes : twig_bytes (pieces_with b x (with_numbers [] n (told_extent b e)) others) ≡ twig_bytes (told_pieces b e x s)
  same_bytes =
      let middle = same_join (left_pointer others.left) (left_pointer s.left) (with_numbers [] n (told_extent b e) ++ pointer_to others.right) (told_extent b e ++ pointer_to s.right) (same_all (left_pointer s.left))
      (same_join (with_numbers [] n (told_extent b e)) (told_extent b e) (pointer_to others.right) (pointer_to s.right) (same_numbers n (told_extent b e)) (same_right r s.right)) in
      let all = same_join (p b x c).before (p b x c).before ((left_pointer others.left ++ (with_numbers [] n (told_extent b e) ++ pointer_to others.right)) ++ (p b x c).behind)
      ((left_pointer s.left ++ (told_extent b e ++ pointer_to s.right)) ++ (p b x c).behind) (same_all (p b x c).before)
      (same_join (left_pointer others.left ++ (with_numbers [] n (told_extent b e) ++ pointer_to others.right)) (left_pointer s.left ++ (told_extent b e ++ pointer_to s.right)) (p b x c).behind (p b x c).behind middle (same_all (p b x c).behind)) in
      ap twig_bytes (over b x c (left_pointer others.left ++ (with_numbers [] n (told_extent b e) ++ pointer_to others.right)))
      ∙ ((all None).0 ∙ ap twig_bytes (sym (over b x c (left_pointer s.left ++ (told_extent b e ++ pointer_to s.right)))))
