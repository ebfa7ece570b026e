-- A content without the bytes of its files, as it is kept to be summed up.
use Rattle.std.specs.Prelude.{◌≡◌, ℕ, ◌+◌, Bool, true, false, not, List, [], ◌∷◌, All, Option, Some}
use Rattle.std.specs.Prelude.{None, if◌then◌else◌}
use Rattle.std.specs.FinMap.{entries, put}
use Rattle.std.specs.List.{filter, flat_map}
use Rattle.std.specs.Ordering.{nat_cmp}
use Rattle.r4_base.specs.Key.{rank}
use Rattle.r4_base.specs.Value.{Value, Stat, Entry, Byte, Content}
use Rattle.r4_content.specs.Edited.{Edits, Pairs}
use Rattle.r4_content.specs.Held.{part_pairs}
use Rattle.r4_content.specs.Listed.{list_cut}
use Rattle.r4_content.specs.Seen.{Rises}
use Rattle.r4_content.specs.declared.seen.SeenPart.{SeenPart}
use Rattle.r4_content.specs.declared.seen.SeenPart.TheVariants.{One, Run}

abbrev pub is_byte : Value → Bool
is_byte (Stat a) = false
is_byte (Entry n o) = false
is_byte (Byte x) = true

abbrev pub without_bytes : Pairs → Pairs
without_bytes s = filter (λ e. not (is_byte e.1)) s

-- a byte counts for nothing
abbrev pub no_byte : Option Value → Option Value
no_byte None = None
no_byte (Some v) = if is_byte v then None else Some v

-- one value, no run of bytes
abbrev pub IsOne : SeenPart → Type 0
IsOne (One k v) = Unit {0}
IsOne (Run r) = ⊥

abbrev pub pairs_in : List SeenPart → Pairs
pairs_in parts = flat_map part_pairs parts

-- One part for each key, rising.
pub record AreKept (parts : List SeenPart) : Type 0 where
  pub ones : All IsOne parts
  pub rises : Rises (pairs_in parts)

-- The parts are what a content has, without the bytes of its files.
pub record Keeps (parts : List SeenPart) (m : Content) : Type 0 where
  pub kept : AreKept parts
  pub pairs : pairs_in parts ≡ without_bytes (entries m)

-- ---- what edits do to what is kept

-- a value is set; where it is a byte, the key has nothing that is kept
abbrev pub kept_put : ℕ × Value → Pairs → Pairs
kept_put e s = if is_byte e.1 then list_cut ((e.0, e.0 + 1) ∷ []) s else put nat_cmp e.0 e.1 s

abbrev pub kept_puts : Pairs → Pairs → Pairs
kept_puts [] s = s
kept_puts (e ∷ es) s = kept_puts es (kept_put e s)

-- keys that get the byte 0 have nothing that is kept
abbrev pub kept_edited : Edits → Pairs → Pairs
kept_edited e s = kept_puts e.puts (list_cut e.zeros (list_cut e.cuts s))

-- the least key of a part
abbrev pub key_in : SeenPart → ℕ
key_in (One k v) = rank k
key_in (Run r) = rank r.from
