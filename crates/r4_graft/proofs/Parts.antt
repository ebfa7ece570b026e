-- Pieces parted one after the other.
use Rattle.std.proofs.Common.{◌≡◌, ℕ, zero, suc, ◌+◌, ◌<◌, List, [], ◌∷◌, ◌++◌, length, take, get_or, sym, ap, ◌∙◌, arith}
use Rattle.std.proofs.lemmas.List.{append_assoc, append-nil}
use Rattle.r4_branch.specs.Pieces.{Follow, IsSound, piece_end}
use Rattle.r4_branch.specs.declared.piece.TwigPiece.{TwigPiece}
use Rattle.r4_graft.specs.Splices.{parted, parted_piece}

pub sound_at : (from to : ℕ) (ps : List TwigPiece) (i : ℕ) (d : TwigPiece) → Follow from to ps → i < length ps → IsSound (get_or ps i d)
sound_at from to [] i d h lt = absurd (omega (arith, lt))
sound_at from to (p ∷ ps) zero d h lt = h.1
sound_at from to (p ∷ ps) (suc i) d h lt = sound_at (piece_end p) to ps i d h.2 (omega (arith, lt))

pub parted_more : (k : ℕ) (ps : List TwigPiece) (i : ℕ) (d : TwigPiece) → i < length ps → parted k (take (i + 1) ps) ≡ parted k (take i ps) ++ parted_piece k (get_or ps i d)
parted_more k [] i d lt = absurd (omega (arith, lt))
parted_more k (p ∷ ps) zero d lt = append-nil (parted_piece k p)
parted_more k (p ∷ ps) (suc i) d lt =
    let step : suc i + 1 ≡ suc (i + 1) = omega arith in
    ap (λ n. parted k (take n (p ∷ ps))) step
    ∙ (ap (λ qs. parted_piece k p ++ qs) (parted_more k ps i d (omega (arith, lt)))
    ∙ sym (append_assoc (parted_piece k p) (parted k (take i ps)) (parted_piece k (get_or ps i d))))
