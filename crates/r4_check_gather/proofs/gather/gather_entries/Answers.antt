use Rattle.r4_cde.specs.Shown.{entry_shown, view_entries}
use Rattle.r4_check_objects.specs.Held.{held_entry}
use Rattle.r4_check_gather.proofs.Gathered.{map_more}
use Rattle.r4_check_gather.proofs.gather.gather_entries.Goals as goal

pub loop-i-preserved : goal.loop-i-preserved
loop-i-preserved c = map_more (held_entry c.args.block) (view_entries c.args.entries.now) c.loop-i.i (entry_shown c.entry-entry.result) c.args.found.now.items c.loop-i.found.items c.push.new.self.items c.entry-entry.ensures.shown c.loop-i.invariant c.in_ok-push.ensures.items
