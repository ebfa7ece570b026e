-- Group B, the tables: what tasks hold, and what their scripts are doing (docs/histories.md).
use Rattle.r4_history.specs.Held.{TasksTell}
use Rattle.r4_history.specs.Serving.{AreOrdered}
use Rattle.r4_kept.specs.View.{CoreSeen, tables_of}

pub record AreTables {D : Type 0} (c : CoreSeen D) : Type 0 where
  -- the tasks that are out hold what they were given; each is of its script's open transaction and
  -- next command, and no other atom owns a node that it reaches
  pub tasks : TasksTell (tables_of c) c.locks
  -- no `commit` stands inside of a transaction
  pub ordered : AreOrdered c.turns
