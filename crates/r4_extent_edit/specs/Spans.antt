-- Keys of one extent that may be cut out of it, or filled (docs/volume.md, "Edits").
use Rattle.std.specs.Prelude.{◌≡◌, ◌⊎◌, ℕ, ◌+◌, ◌*◌, ◌<◌, ◌≤◌, Contains}
use Rattle.r4_base.specs.Tree.{IsData, IsNode, Name, Span}
use Rattle.r4_work.specs.r4_cell.Seen.{CellSeen, node_of}
use Rattle.r4_work.specs.r4_graft.Splices.{IsBorder}
use Rattle.r4_work.specs.r4_path.Sharing.{IsSound}
use Rattle.r4_work.specs.r4_path.TwigPieces.{twig_pieces}

-- The key lies some whole blocks behind the extent's first one, or where its range ends.
abbrev pub IsSpanBorder : Span → ℕ → Type 0
IsSpanBorder s k = (k ≡ s.hi) ⊎ ((n : ℕ) × (k ≡ s.lo + 4096 * n))

-- The keys lie in the range of one extent of a twig that may stand, and begin and end at borders of
-- its blocks.
pub record AreOfSpan (twig : CellSeen) (s : Span) (from to : ℕ) : Type 0 where
  pub sound : IsSound twig
  pub level : twig.level ≡ 2
  pub node : IsNode (node_of twig)
  pub span : Contains (node_of twig).spans s
  pub low : s.lo ≤ from
  pub some : from < to
  pub high : to ≤ s.hi
  pub first : IsSpanBorder s from
  pub second : IsSpanBorder s to

-- No leaf has one of the keys, and of a data block either all keys are among them, or none.
pub record AreWholeBlocks (twig : CellSeen) (from to : ℕ) : Type 0 where
  pub first_border : IsBorder from (twig_pieces twig)
  pub second_border : IsBorder to (twig_pieces twig)
  pub clear : (n : Name) → Contains (node_of twig).names n → n.level ≡ 1 → (n.hi ≤ from)
      ⊎ (to ≤ n.lo)
  pub whole : (n : Name) → Contains (node_of twig).names n → IsData n
      → ((n.hi ≤ from) ⊎ (to ≤ n.lo)) ⊎ ((from ≤ n.lo) × (n.hi ≤ to))
