use Rattle.std.proofs.Common.{◌≡◌, ◌⊎◌, ℕ, ◌<◌, ◌≤◌, List, true, false, inl, inr, sym, ap, subst, arith}
use Rattle.std.specs.Prelude.{nat_lt}
use Rattle.std.proofs.lemmas.Bool.{ltb-true, ltb-false}
use Rattle.r4_base.specs.Key.{rank}
use Rattle.r4_leaf.specs.Pieces.{Leads, piece_end, piece_key, piece_units}
use Rattle.r4_leaf.specs.Units.{cut_units}
use Rattle.r4_leaf.specs.declared.piece.Piece.{Piece}
use Rattle.r4_leaf.proofs.CutPieces.{leads_as, leads_none, leads_one, no_run, some_units, unit_gone, unit_kept}
use Rattle.r4_leaf.proofs.cutting.keep.Goals as goal
use Rattle.r4_leaf.proofs.cutting.keep.Goals.{then-is_below-via-then-is_below, then-is_below-via-else-is_below+then-not-is_below}

out : (k key from to : ℕ) → k ≡ key → (true ≡ nat_lt k from) ⊎ (false ≡ nat_lt k to) → (key < from) ⊎ (to ≤ key)
out k key from to is (inl t) = let lt = ltb-true k from (sym t) in inl (omega (arith, lt, is))
out k key from to is (inr f) = let le = ltb-false k to (sym f) in inr (omega (arith, le, is))

pub returns-in_ok-push : goal.returns-in_ok-push
returns-in_ok-push c =
    let from = rank c.args.from.now in let to = rank c.args.to.now in
    let test : (true ≡ nat_lt (rank c.key-key.result) from) ⊎ (false ≡ nat_lt (rank c.key-key.result) to) = elim c.then-is_below.branch [
      | then-is_below-via-then-is_below w ↦ inl (w.if-is_below.ensures)
      | then-is_below-via-else-is_below+then-not-is_below w ↦ inr (w.if-not-is_below.ensures)
    ] in
    subst (λ (ps : List Piece). Leads c.args.left.now.items (rank (piece_key c.args.piece)) (piece_end c.args.piece) (cut_units from to (piece_units c.args.piece)) ps) (sym (c.in_ok-push.ensures.items))
    (leads_as c.args.left.now.items _ (rank (piece_key c.args.piece)) (piece_end c.args.piece) _ _ (sym (unit_kept from to c.args.piece (no_run c.args.piece c.in_default.not-Bytes) (out _ _ from to (ap rank c.key-key.ensures) test))) (leads_one c.args.left.now.items c.args.piece c.requires))

pub returns-else-not-is_below : goal.returns-else-not-is_below
returns-else-not-is_below c =
    let from = rank c.args.from.now in let to = rank c.args.to.now in
    let some = some_units c.args.piece c.requires in
    let same = ap rank c.key-key.ensures in
    let low = ltb-false (rank c.key-key.result) from (sym c.if-is_below.ensures) in
    let high = ltb-true (rank c.key-key.result) to (sym c.if-not-is_below.ensures) in
    leads_as c.args.left.now.items _ (rank (piece_key c.args.piece)) (piece_end c.args.piece) _ _ (sym (unit_gone from to c.args.piece (no_run c.args.piece c.in_default.not-Bytes) (omega (arith, low, same)) (omega (arith, high, same)))) (leads_none c.args.left.now.items (rank (piece_key c.args.piece)) (piece_end c.args.piece) (omega (arith, some)))
