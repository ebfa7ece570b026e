use Rattle.r4_base.proofs.Dirs.{get-entries_of, length-entries_of}
use Rattle.r4_base.proofs.EntryLists.{entries_in, entries_lawful, entries_rise, first_is, part_room_is, room_is, same_entries}
use Rattle.r4_base.proofs.Names.{bytes_of}
use Rattle.r4_cde.proofs.laws.dir_law.Goals as goal

pub returns : goal.returns
returns c = record {
  count = length-entries_of;
  entry = get-entries_of;
  within = entries_in;
  same = same_entries;
  first = first_is;
  rise = entries_rise;
  lawful = λ item b key bytes. entries_lawful item b key (bytes_of b bytes);
  room = room_is;
  part = part_room_is;
}
