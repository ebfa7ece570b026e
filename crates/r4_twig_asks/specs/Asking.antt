-- What a twig asks for (docs/volume.md, "Reach").
use Rattle.std.specs.Prelude.{ℕ, nat_lt, if◌then◌else◌}
use Rattle.r4_content.specs.Bodies.{larger}
use Rattle.r4_extent_demands.specs.r4_marking.r4_reach.Needs.{over}

-- So many pointers, where the twig needs so many bytes and so many leaves ask for some.
abbrev pub more_for : (bytes leaves : ℕ) → ℕ
more_for bytes leaves = if nat_lt 4068 bytes then larger (over bytes) leaves else 0
