-- The smallest volumes, whole and broken: a root with one pointer, to a leaf with one item (docs/volume.md, "Small images").
use Rattle.std.specs.Prelude.{◌≡◌, ℕ, ◌^◌, ◌<◌, Ok}
use Rattle.r4_base.specs.Bytes.{FieldsFit, number_bytes}
use Rattle.r4_base.specs.Image.{Image, block_at}
use Rattle.r4_base.specs.Layout.{super_of}
use Rattle.r4_base.specs.Stat.{stat_body, stat_fields}
use Rattle.r4_base.specs.Fresh.{HasOneItem}
use Rattle.r4_base.specs.declared.items.Attr.{Attr}
use Rattle.r4_base.specs.declared.superblock.Super40.{Super40}
use Rattle.r4_base.specs.declared.limits.TheConstants.{FRESH_TWIG, LEAF, SUPER_BLOCK, TWIG}
use Rattle.r4_base.specs.declared.plugin.TheConstants.{POINTER, STAT}

-- The root, in block 22, is a twig whose one pointer names block `to`.
pub record HasOnePointer (n : ℕ) (image : Image) (super : Super40) (to : ℕ) : Type 0 where
  pub format : super_of n (block_at image SUPER_BLOCK.0) ≡ Ok super
  pub root : super.root_block ≡ FRESH_TWIG.0
  pub height : super.tree_height ≡ TWIG
  pub fits : to < 2 ^ 64
  pub twig : HasOneItem (block_at image FRESH_TWIG.0) TWIG POINTER (number_bytes 8 to)

-- And that block is a leaf with the root directory's stat data.
pub record HasOneObject (n : ℕ) (image : Image) (super : Super40) (to : ℕ) (a : Attr) : Type 0 where
  pub pointer : HasOnePointer n image super to
  pub leaf : HasOneItem (block_at image to) LEAF STAT (stat_body a)
  pub fits : FieldsFit (stat_fields a)
