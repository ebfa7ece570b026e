-- Values, and contents (docs/volume.md, "Content").
use Rattle.std.specs.Prelude.{ℕ, List, Option}
use Rattle.std.specs.Ordering.{nat_cmp}
use Rattle.std.specs.FinMap.{FinMap, get}
use Rattle.r4_base.specs.declared.items.Attr.{Attr}
use Rattle.r4_base.specs.declared.items.Target.{Target}
use Rattle.r4_base.specs.declared.values.Value.{Value as Held}
use Rattle.r4_base.specs.declared.values.Value.TheVariants.{Attr as HeldAttr, Entry as HeldEntry, Byte as HeldByte}

-- what stands at a key: attributes at a stat key, a name and its target at an entry's, a byte at a body's
pub data Value : Type 0 where
  Stat : Attr → Value
  Entry : List ℕ → Target → Value
  Byte : ℕ → Value

-- one that is held in memory
abbrev pub value_of : Held → Value
value_of (HeldAttr a) = Stat a
value_of (HeldEntry n o) = Entry n o
value_of (HeldByte x) = Byte x

-- A finite map from keys, by their ranks, to values.
abbrev pub Content : Type 0
Content = FinMap nat_cmp Value

-- what stands at the key of a rank
abbrev pub at_key : Content → ℕ → Option Value
at_key m k = get m k
