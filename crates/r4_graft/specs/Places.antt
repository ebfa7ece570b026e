-- Where among a twig's pieces others belong (docs/volume.md, "Twigs").
use Rattle.std.specs.Prelude.{◌≡◌, ◌⊎◌, ℕ, ◌<◌, ◌≤◌, List, ◌∷◌, ◌++◌, length, Contains}
use Rattle.r4_base.specs.Key.{rank}
use Rattle.r4_base.specs.Tree.{Name}
use Rattle.r4_base.specs.Value.{Value}
use Rattle.r4_branch.specs.Pieces.{Follow, names_of, next_of}
use Rattle.r4_branch.specs.declared.piece.TwigPart.TheVariants.{Pointer}
use Rattle.r4_branch.specs.declared.piece.TwigPiece.{TwigPiece}
use Rattle.r4_graft.specs.Splices.{place}

-- One of the pieces points to the leaf that is named so.
pub record HasPointer (hi : ℕ) (ps : List TwigPiece) (n : Name) : Type 0 where
  pub before : List TwigPiece
  pub piece : TwigPiece
  pub behind : List TwigPiece
  pub is : ps ≡ before ++ (piece ∷ behind)
  pub key : rank piece.key ≡ n.lo
  pub part : piece.part ≡ Pointer (record { 0 = n.id })
  pub next : next_of hi behind ≡ n.hi
  pub at : place n.lo ps ≡ length before

-- No name has a key from one on and below another, and no unit has one.
pub record AreClear (names : List Name) (units : List (ℕ × Value)) (from to : ℕ) : Type 0 where
  pub named : (n : Name) → Contains names n → (n.hi ≤ from) ⊎ (to ≤ n.lo)
  pub own : (k : ℕ) (v : Value) → Contains units (k, v) → (k < from) ⊎ (to ≤ k)

-- There is a place for such keys between the pieces, behind one that is no pointer.
pub record HasGap (lo hi from to : ℕ) (ps : List TwigPiece) : Type 0 where
  pub before : List TwigPiece
  pub behind : List TwigPiece
  pub is : ps ≡ before ++ behind
  pub at : place from ps ≡ length before
  pub low : Follow lo from before
  pub high : Follow to hi behind
  pub next : to ≤ next_of hi behind
  pub left : (j : ℕ) → names_of j before ≡ names_of (next_of hi behind) before
  pub some : 1 ≤ length before
