-- A standing twig of a body that grows is ready for its turn.
use Rattle.std.proofs.Common.{◌≡◌, ℕ, ◌+◌, ◌-◌, ◌/◌, ◌<◌, ◌≤◌, List, [], ◌∷◌, refl, sym, ap, subst, ◌∙◌, arith}
use Rattle.std.specs.Prelude.{Contains, None, Some}
use Rattle.r4_base.specs.Key.{rank}
use Rattle.r4_base.specs.Tree.{Root, Store}
use Rattle.r4_base.specs.Value.{Value}
use Rattle.r4_base.specs.declared.key.Key.{Key}
use Rattle.r4_extent_demands.specs.r4_branch.Pieces.{AreTwigPieces, Follow, piece_end, twig_bytes}
use Rattle.r4_extent_demands.specs.r4_branch.declared.piece.TwigPiece.{TwigPiece}
use Rattle.r4_extent_demands.specs.r4_cell.Seen.{CellSeen, node_of}
use Rattle.r4_extent_demands.specs.r4_cell.declared.change.Fresh.{Fresh}
use Rattle.r4_content.specs.Edited.{Edits}
use Rattle.r4_extent_demands.proofs.r4_graft.Placed.{follow_end, has_end}
use Rattle.r4_twig_turns.specs.r4_measure.Budget.{Budget}
use Rattle.r4_extent_demands.proofs.r4_patch.Members.{none}
use Rattle.r4_extent_demands.specs.r4_path.Grafts.{extra_twigs}
use Rattle.r4_extent_demands.specs.r4_path.TwigPieces.{twig_pieces}
use Rattle.r4_extent_demands.proofs.r4_path.Rising.{hi_is, level_is, lo_is}
use Rattle.r4_extent_demands.specs.r4_reach.Needs.{pieces_after}
use Rattle.r4_extent_demands.specs.r4_reach.Touched.{Body}
use Rattle.r4_twig_turns.specs.Turning.{IsReady}
use Rattle.r4_twig_turns.specs.r4_work.Working.{IsWorking, standing}
use Rattle.r4_twig_turns.specs.r4_work.declared.working.WorkingSet.{WorkingSet}
use Rattle.r4_twig_turns.proofs.r4_work.InPlace.{standing_is}
use Rattle.r4_extent_build.specs.Growing.{IsClearFor, IsGrowing}
use Rattle.r4_extent_build.specs.Turns.{growing_turn}
use Rattle.r4_extent_build.proofs.GrowingTurns.{turn_of}
use Rattle.r4_extent_build.proofs.Numbers.{numbers_bytes}

some_key : (lo hi : ℕ) (ps : List TwigPiece) → AreTwigPieces lo hi ps → lo < hi
some_key lo hi [] is = let s = is.some in absurd (omega (arith, s))
some_key lo hi (p ∷ ps) is = ends (is.follow)
  where
    ends : Follow lo hi (p ∷ ps) → lo < hi
    ends f =
        let low = f.0 in
        let e = has_end p f.1 in
        let g = follow_end (piece_end p) hi ps f.2 in
        omega (arith, low, e, g)

module _ (t : Store Value) (r : Root) (f : Fresh) (w : WorkingSet) (working : IsWorking t r f w) (u : Budget) (b : Body) (first : Key) (e : Edits) (c : CellSeen) (level : c.level ≡ 2) (stands : Contains (standing w) c) (g : IsGrowing b first) (clear : IsClearFor b c)
    (small : twig_bytes (pieces_after (Some b) e (node_of c) []) ≤ 16000) (few : extra_twigs (pieces_after (Some b) e (node_of c) []) ≤ u 2 c.id) where
  pub is_ready : IsReady t w u (growing_turn b e c) c.id
  is_ready = record {
    node = node_of c;
    node_is = refl;
    at = standing_is t r f w working c stands;
    stands = (c, stands, refl);
    level = level_is c ∙ level;
    key = let l = lo_is c in let h = hi_is c in let m = some_key (rank c.lo) (rank c.hi) (twig_pieces c) clear.pieces.pieces in (omega (arith, l), omega (arith, h, m));
    turn = λ n high room. turn_of b first e c g clear small n high;
    goes = λ n x at. absurd (none x at);
    named = λ n x at. absurd (none x at);
    come = λ n. let same = numbers_bytes (twig_pieces c) n None (pieces_after (Some b) e (node_of c) []) in subst (λ m. (m - 4068 + 1023) / 1024 ≤ u 2 c.id) (sym same) few;
  }
