use Rattle.r4_run.specs.declared.ending.End.TheVariants.{Opened, Unopened}
use Rattle.r4_run.proofs.Told.{end_same}
use Rattle.r4_run.proofs.ending.tell_end.Goals as goal

pub returns-in-Unopened : goal.returns-in-Unopened
returns-in-Unopened g c = end_same _ (Unopened c.in-Unopened.why) _ _ _ _ _ c.in-Unopened.is c.tell_why.ensures

pub returns-in-Opened : goal.returns-in-Opened
returns-in-Opened g c =
    end_same _ (Opened c.in-Opened.standing c.in-Opened.printed) _ _ _ _ _ c.in-Opened.is c.tell_served.ensures
