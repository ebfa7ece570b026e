-- A root over a twig alone, for tests.
use Rattle.std.specs.Prelude.{◌≡◌, ℕ, List, [], ◌∷◌}
use Rattle.r4_base.specs.Key.{least, rank, top}
use Rattle.r4_base.specs.Tree.{Root}
use Rattle.r4_cell.specs.Seen.{CellSeen}
use Rattle.r4_path.specs.Nodes.{IsPointable, IsPointingTo}

-- The twig has all keys, and may be pointed to.
pub record MayBeBelow (twig : CellSeen) : Type 0 where
  pub level : twig.level ≡ 2
  pub lo : rank twig.lo ≡ least
  pub hi : rank twig.hi ≡ top
  pub able : IsPointable twig.id

-- The path has a root, of this number, that points to the twig alone, and the twig.
pub record IsRaised (twig : CellSeen) (id : ℕ) (path : List CellSeen) : Type 0 where
  pub over : CellSeen
  pub cells : path ≡ over ∷ (twig ∷ [])
  pub points : IsPointingTo (twig ∷ []) 3 id over

-- The root has this name, in a tree of three levels.
abbrev pub high_root : CellSeen → Root
high_root over = record { id = over.id; height = 3 }
