use Rattle.r4_dir.proofs.EntryParts.{names_found}
use Rattle.r4_dir.proofs.entries.names_of.Goals as goal

pub returns : goal.returns
returns c = names_found c.args.dir.0 c.as_slice.result.now c.args.seen.now.parts.items c.collect_names.result c.as_slice.ensures.value c.collect_names.ensures
