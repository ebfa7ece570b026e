-- What was seen at one key, runs of bytes aside.
use Rattle.std.specs.Prelude.{ℕ, List, length, [], ◌∷◌, ◌==◌, if◌then◌else◌, Option, Some, None}
use Rattle.r4_base.specs.Key.{rank}
use Rattle.r4_base.specs.Value.{Value, Stat, Entry, Byte, value_of}
use Rattle.r4_content.specs.Ways.{Named}
use Rattle.r4_content.specs.declared.seen.SeenPart.{SeenPart}
use Rattle.r4_content.specs.declared.seen.SeenPart.TheVariants.{One, Run}
use Rattle.r4_dir.specs.declared.finding.SeenEntry.{SeenEntry}

abbrev pub one_at : List SeenPart → (key : ℕ) → Option Value
one_at [] k = None
one_at (One key v ∷ parts) k = if rank key == k then Some (value_of v) else one_at parts k
one_at (Run r ∷ parts) k = one_at parts k

-- the first key of a part; a run of no bytes has none
abbrev pub first_in : SeenPart → Option ℕ
first_in (One key v) = Some (rank key)
first_in (Run r) = if length r.bytes == 0 then None else Some (rank r.from)

-- nothing, or a byte
abbrev pub IsNoneOrByte : Option Value → Type 0
IsNoneOrByte None = Unit {0}
IsNoneOrByte (Some (Stat a)) = ⊥
IsNoneOrByte (Some (Entry n t)) = ⊥
IsNoneOrByte (Some (Byte x)) = Unit {0}

abbrev pub named_of : SeenEntry → Named
named_of e = record { name = e.name.now; target = e.target }
