-- Borders of the blocks of a piece, for tests.
use Rattle.std.specs.Prelude.{◌≡◌, ℕ, ◌+◌, ◌*◌, ◌<◌}
use Rattle.r4_base.specs.Key.{rank}
use Rattle.r4_branch.specs.declared.piece.TwigPiece.{TwigPiece}

-- The key, where it lies behind the piece's, is some whole blocks behind it.
abbrev pub IsAtBorder : (key : ℕ) → TwigPiece → Type 0
IsAtBorder k p = rank p.key < k → (n : ℕ) × (k ≡ rank p.key + 4096 * n)
