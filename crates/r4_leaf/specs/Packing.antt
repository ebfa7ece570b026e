-- Leaves that are filled one after the other (docs/volume.md, "Leaves").
use Rattle.std.specs.Prelude.{◌≡◌, ◌⊎◌, ℕ, ◌≤◌, List, [], ◌∷◌, ◌++◌, reverse, Option, Some, None}
use Rattle.r4_base.specs.Key.{rank}
use Rattle.r4_leaf.specs.Filling.{IsFilled, IsFullFor, Puts}
use Rattle.r4_leaf.specs.Pieces.{Follow, IsSound, piece_end, piece_key, piece_units, units_of}
use Rattle.r4_leaf.specs.Units.{LeafUnit}
use Rattle.r4_leaf.specs.declared.piece.Piece.{Piece}

-- A piece of which this is left, since there is no room for its first unit.
pub record IsLeft (p q : Piece) (old new : List ℕ) : Type 0 where
  pub done : List LeafUnit
  pub next : LeafUnit
  pub more : List LeafUnit
  pub units : piece_units p ≡ done ++ piece_units q
  pub first : piece_units q ≡ next ∷ more
  pub key : next.0 ≡ rank (piece_key q)
  pub sound : IsSound q
  pub end : piece_end q ≡ piece_end p
  pub low : rank (piece_key p) ≤ rank (piece_key q)
  pub puts : Puts (rank (piece_key p)) (rank (piece_key q)) done old new
  pub full : IsFullFor next new

-- The piece is put in, but for what is left of it.
abbrev pub TakesPiece : Piece → (left : Option Piece) → (old new : List ℕ) → Type 0
TakesPiece p None old new = Puts (rank (piece_key p)) (piece_end p) (piece_units p) old new
TakesPiece p (Some q) old new = IsLeft p q old new

-- The first pieces are in the leaf, and these are left; the last one comes first.
pub record Fills (lo hi : ℕ) (pieces left : List Piece) (b : List ℕ) : Type 0 where
  pub us : List LeafUnit
  pub to : ℕ
  pub units : units_of (reverse pieces) ≡ us ++ units_of (reverse left)
  pub filled : IsFilled lo to us b
  pub follow : Follow to hi (reverse left)

-- There is no room for the first unit of the first piece.
pub record Stops (left : List Piece) (b : List ℕ) : Type 0 where
  pub before : List Piece
  pub q : Piece
  pub is : left ≡ before ++ q ∷ []
  pub next : LeafUnit
  pub more : List LeafUnit
  pub first : piece_units q ≡ next ∷ more
  pub key : next.0 ≡ rank (piece_key q)
  pub full : IsFullFor next b

-- As many are in the leaf as there is room for.
pub record FillsUp (lo hi : ℕ) (pieces left : List Piece) (b : List ℕ) : Type 0 where
  pub fills : Fills lo hi pieces left b
  pub stops : (left ≡ []) ⊎ Stops left b
