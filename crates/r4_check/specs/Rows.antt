-- Small trees, as examples of a walk (docs/check.md).
use Rattle.std.specs.Prelude.{◌≡◌, ◌≢◌, ℕ, [], ◌∷◌, None, true}
use Rattle.r4_base.specs.Bitmap.{is_marked}
use Rattle.r4_base.specs.Image.{Image}
use Rattle.r4_base.specs.Tree.{Name}
use Rattle.r4_check.specs.Walk.{cell_at, refusal_at}

-- The block of the name may stand there, and is a node that names nothing.
pub record IsAccepted (blocks : ℕ) (image : Image) (n : Name) : Type 0 where
  pub sound : refusal_at blocks image n ≡ None
  pub names : (cell_at image n).names ≡ []

-- The root's block is marked and may stand there, and names this one alone.
pub record IsFirstNamed (blocks : ℕ) (image : Image) (root child : Name) : Type 0 where
  pub marked : is_marked image root.id ≡ true
  pub sound : refusal_at blocks image root ≡ None
  pub names : (cell_at image root).names ≡ child ∷ []

-- The same of a root and a leaf in another block.
pub record IsSmall (blocks : ℕ) (image : Image) (root leaf : Name) : Type 0 where
  pub named : IsFirstNamed blocks image root leaf
  pub other : leaf.id ≢ root.id
