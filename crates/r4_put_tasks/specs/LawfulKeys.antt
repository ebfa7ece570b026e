-- Which intervals have only keys such as items may have (docs/volume.md, "Bodies in extents";
-- docs/layout.md, "Keys"). A key is its rank.
use Rattle.std.specs.Prelude.{ℕ, Bool, ◌&&◌, ◌||◌, nat_le}
use Rattle.r4_base.specs.Key.{least, top}

-- The interval has no key, or begins at the least one of all or behind it, and ends at the key of
-- four greatest numbers at the latest, which no item has.
abbrev pub is_lawful : ℕ × ℕ → Bool
is_lawful r = nat_le r.1 r.0 || (nat_le least r.0 && nat_le r.1 top)
