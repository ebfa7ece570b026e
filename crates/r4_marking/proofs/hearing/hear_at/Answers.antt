use Rattle.std.proofs.Common.{map}
use Rattle.r4_marking.specs.Marks.{asks_seen, heard_seen}
use Rattle.r4_marking.proofs.Children.{hears_none}
use Rattle.r4_marking.proofs.hearing.hear_at.Goals as goal

pub returns-in-None : goal.returns-in-None
returns-in-None c = hears_none c.args.cell.now (asks_seen c.args.asks.now.entries) c.args.place (map heard_seen c.args.heard.now.items) c.in-None.ensures.none
