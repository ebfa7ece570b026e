-- The bytes in which a key spells a short name.
use Rattle.std.specs.Prelude.{ℕ, List, ◌++◌, slice_index}
use Rattle.r4_base.specs.declared.key.Key.{Key}
use Rattle.r4_base.specs.Name.{unpacked}

-- the 7 lower bytes of the ordering, and the 8 bytes of the object id and of the offset, the highest first
unfoldable pub spelling : Key → List ℕ
spelling k = unpacked 7 (slice_index k.el 1) ++ (unpacked 8 (slice_index k.el 2) ++ unpacked 8 (slice_index k.el 3))
