-- Commands on a fresh volume, and what they see (docs/volume.md, "Building").
use Rattle.std.specs.Prelude.{ℕ, ◌-◌, ◌*◌, ◌^◌, List, [], ◌∷◌, ◌++◌, replicate}
use Rattle.r4_base.specs.Key.{least}
use Rattle.r4_base.specs.Value.{Entry, Stat}
use Rattle.r4_base.specs.Volume.{byte_rank, root_attr, root_object, stat_rank}
use Rattle.r4_base.specs.declared.items.Target.{Target}
use Rattle.r4_content.specs.Edited.{Edits, Pairs}
use Rattle.r4_content.specs.Objects.{byte_pairs, entry_rank, new_file, sized}
use Rattle.r4_content.specs.declared.command.Command.{Command}
use Rattle.r4_content.specs.declared.command.Command.TheVariants.{Chmod, Create, Times, Write}

-- "a"
abbrev pub file_name : List ℕ
file_name = 97 ∷ []

abbrev pub file : Target
file = record { locality = 42; ordering = 97 * 256 ^ 6; oid = record { 0 = 65536 } }

abbrev pub create_file : Command
create_file = Create (file_name ∷ []) (record { 0 = 65536 })

abbrev pub chmod_file : Command
chmod_file = Chmod (file_name ∷ []) 0o600

abbrev pub set_times : Command
set_times = Times [] 11 12 13

-- "hello"
abbrev pub file_text : List ℕ
file_text = 104 ∷ 101 ∷ 108 ∷ 108 ∷ 111 ∷ []

abbrev pub write_file : Command
write_file = Write (file_name ∷ []) 0 file_text

-- what is seen of a fresh volume, and once the file is there
abbrev pub fresh_seen : Pairs
fresh_seen = (least, Stat root_attr) ∷ []

abbrev pub file_seen : Pairs
file_seen =
    (least, Stat (sized root_attr 1)) ∷ (entry_rank root_object file_name, Entry file_name file)
    ∷ (stat_rank file, Stat new_file) ∷ []

-- Bytes 2 to 19 of the file go, bytes 4 to 7 become 7, bytes 10 to 14 are "hello", and the root gets attributes.
abbrev pub mixed : Edits
mixed = record {
  cuts = (byte_rank file 2, byte_rank file 20) ∷ [];
  zeros = [];
  puts = byte_pairs (byte_rank file 4) (replicate (byte_rank file 8 - byte_rank file 4) 7)
      ++ (byte_pairs (byte_rank file 10) file_text ++ (least, Stat root_attr) ∷ []);
}
