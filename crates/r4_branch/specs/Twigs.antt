-- Twigs that share out pieces (docs/volume.md, "Twigs").
use Rattle.std.specs.Prelude.{◌≡◌, ℕ, ◌+◌, ◌*◌, ◌<◌, ◌≤◌, List, [], ◌∷◌, ◌++◌, length, None}
use Rattle.r4_base.specs.Cell.{names_in, units_in}
use Rattle.r4_base.specs.Key.{rank}
use Rattle.r4_base.specs.Node.{items_of}
use Rattle.r4_node40.specs.Laid.{room_of}
use Rattle.r4_branch.specs.Pieces.{MayStand, last_end, names_of, part_bytes, twig_bytes, units_of}
use Rattle.r4_branch.specs.declared.piece.TwigPiece.{TwigPiece}
use Rattle.r4_branch.specs.declared.twig.Twig.{Twig}

-- It may stand for this range, names what the pieces name and has their units; there is room for them, and they take up no
-- more than they need.
pub record IsTwig (lo hi : ℕ) (ps : List TwigPiece) (x : Twig) : Type 0 where
  pub from : rank x.lo ≡ lo
  pub stands : MayStand lo hi x.block
  pub names : names_in 2 hi (items_of x.block) ≡ names_of hi ps
  pub units : units_in (items_of x.block) ≡ units_of ps
  pub fits : twig_bytes ps ≤ 4068
  pub room : room_of x.block + twig_bytes ps ≡ 4068

-- The next piece has no room behind these.
pub record IsFull (ps : List TwigPiece) (next : TwigPiece) : Type 0 where
  pub some : 1 ≤ length ps
  pub full : 4068 < twig_bytes ps + part_bytes (last_end None ps) (rank next.key) next.part

-- The twigs have these pieces in their order, and share out this range: each but the first begins at its first piece's key,
-- and the one before it had no room for that piece.
abbrev pub PacksTwigs : (lo hi : ℕ) → List TwigPiece → List Twig → Type 0
PacksTwigs lo hi ps [] = ⊥
PacksTwigs lo hi ps (x ∷ []) = IsTwig lo hi ps x
PacksTwigs lo hi ps (x ∷ (y ∷ more)) = (first : List TwigPiece) × (next : TwigPiece) × (rest : List TwigPiece)
    × (ps ≡ first ++ next ∷ rest) × (rank y.lo ≡ rank next.key) × (lo < rank next.key) × IsTwig lo (rank next.key) first x
    × IsFull first next × PacksTwigs (rank next.key) hi (next ∷ rest) (y ∷ more)

-- Pieces that need at most 4068 bytes are in one twig; and others are in at most one more for each 1024 bytes that are too
-- many, or a part of these.
pub record AreFewTwigs (ps : List TwigPiece) (twigs : List Twig) : Type 0 where
  pub one : twig_bytes ps ≤ 4068 → length twigs ≡ 1
  pub several : 4068 < twig_bytes ps → 2 ≤ length twigs
  pub more : 4068 < twig_bytes ps → 1024 * length twigs + 2020 < twig_bytes ps
