use Rattle.r4_dir.proofs.EntryParts.{empty_or_not}
use Rattle.r4_dir.proofs.entries.has_entries.Goals as goal

pub returns : goal.returns
returns c = empty_or_not c.args.dir.0 c.args.seen.now.parts.items c.is_any_entry.result c.is_any_entry.ensures
