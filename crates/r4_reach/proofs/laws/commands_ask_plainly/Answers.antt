use Rattle.r4_reach.specs.Touched.{body_on, changes_on, edits_on, reads_on}
use Rattle.r4_reach.proofs.Plain.{demand_plain}
use Rattle.r4_reach.proofs.laws.commands_ask_plainly.Goals as goal

pub returns : goal.returns
returns c command s k = demand_plain (body_on command s k) (edits_on command s) (reads_on command s k)
    (changes_on command s k)
