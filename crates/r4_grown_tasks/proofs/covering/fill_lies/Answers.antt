use Rattle.std.proofs.Common.{map, sym, ◌∙◌}
use Rattle.r4_content.specs.Held.{interval_of}
use Rattle.r4_grown_tasks.proofs.LyingBytes.{fill_each}
use Rattle.r4_grown_tasks.proofs.covering.fill_lies.Goals as goal

pub returns : goal.returns
returns c = c.lies.ensures ∙ sym (fill_each (map interval_of c.args.places.now) c.args.fill.now)
