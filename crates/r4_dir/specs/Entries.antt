-- The entries of a directory among what was seen (docs/commands.md, "Entries").
use Rattle.std.specs.Prelude.{ℕ, List, [], ◌∷◌, ◌++◌, Bool, nat_lt, length, if◌then◌else◌}
use Rattle.r4_base.specs.Key.{rank}
use Rattle.r4_base.specs.declared.values.Value.TheVariants.{Attr, Entry, Byte}
use Rattle.r4_content.specs.Edited.{is_between}
use Rattle.r4_content.specs.Entries.{entries_from, entries_to}
use Rattle.r4_content.specs.declared.seen.SeenPart.{SeenPart}
use Rattle.r4_content.specs.declared.seen.SeenPart.TheVariants.{One, Run}

-- the name of a directory's entry that a part has
abbrev pub part_names : (dir : ℕ) → SeenPart → List (List ℕ)
part_names dir (One key (Attr a)) = []
part_names dir (One key (Entry n t)) = if is_between (entries_from dir) (entries_to dir)
    (rank key) then n ∷ [] else []
part_names dir (One key (Byte x)) = []
part_names dir (Run r) = []

-- the part is an entry of the directory
abbrev pub has_name : (dir : ℕ) → SeenPart → Bool
has_name dir p = nat_lt 0 (length (part_names dir p))

-- the names of its entries, in order
abbrev pub names_among : (dir : ℕ) → List SeenPart → List (List ℕ)
names_among dir [] = []
names_among dir (p ∷ parts) = part_names dir p ++ names_among dir parts
