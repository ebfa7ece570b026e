use Rattle.std.proofs.Common.{◌≡◌, ℕ, ◌+◌, ◌≤◌, List, length, sym, subst, arith, true, false}
use Rattle.std.specs.Prelude.{◌==◌}
use Rattle.std.proofs.lemmas.Bool.Decides.{nat_tests}
use Rattle.r4_base.specs.Cell.{bytes_from}
use Rattle.r4_base.specs.Key.{rank}
use Rattle.r4_leaf.specs.Pieces.{Leads, piece_units}
use Rattle.r4_leaf.specs.declared.piece.Piece.{Piece}
use Rattle.r4_leaf.specs.declared.piece.Piece.TheVariants.{Bytes}
use Rattle.r4_leaf.proofs.CutPieces.{leads_empty, leads_one}
use Rattle.r4_leaf.proofs.cutting.keep_part.Goals as goal

some_bytes : (bs : List ℕ) → false ≡ (length bs == 0) → 1 ≤ length bs
some_bytes bs test = grind (arith, nat_tests, test)

no_bytes : (bs : List ℕ) → true ≡ (length bs == 0) → length bs ≡ 0
no_bytes bs test = grind (arith, nat_tests, test)

pub returns-in_ok-push : goal.returns-in_ok-push
unfolding piece_units
returns-in_ok-push c =
    subst (λ (ps : List Piece). Leads c.args.left.now.items (rank c.args.key) (rank c.args.key + length c.args.bytes) (bytes_from (rank c.args.key) c.args.bytes) ps) (sym (c.in_ok-push.ensures.items))
    (leads_one c.args.left.now.items (Bytes c.args.key c.args.bytes) (some_bytes c.args.bytes c.if-not-is_empty.ensures, c.requires))

pub returns-else-not-is_empty : goal.returns-else-not-is_empty
returns-else-not-is_empty c = leads_empty c.args.left.now.items (rank c.args.key) c.args.bytes (no_bytes c.args.bytes c.if-not-is_empty.ensures)
