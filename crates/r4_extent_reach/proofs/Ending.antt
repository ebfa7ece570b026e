-- The answer on what a command reads and writes.
use Rattle.std.proofs.Common.{inr}
use Rattle.std.specs.Prelude.{MatchResult, Result, Ok, Err}
use Rattle.r4_extent_commands.specs.r4_cell.declared.change.Root.{Root}
use Rattle.r4_content.specs.declared.command.Command.{Command}
use Rattle.r4_extent_reaching.specs.Answers.{IsReach, StopsReach, StopsWriting}
use Rattle.r4_extent_reaching.specs.declared.reached.Reach.{Reach}
use Rattle.r4_extent_asks.specs.r4_search.Pool.{PoolState}
use Rattle.r4_extent_asks.specs.r4_search.declared.pool.FetchFault.{FetchFault}

abbrev pub IsAnswered : PoolState → Root → Command → Result Reach FetchFault → Type 0
IsAnswered p root c r = MatchResult r (IsReach p root c) (StopsReach p root c)

pub stops_wider : (p : PoolState) (root : Root) (c : Command) (r : Result Reach FetchFault)
    → MatchResult r (IsReach p root c) (StopsWriting p root c) → IsAnswered p root c r
stops_wider p root c (Ok found) h = h
stops_wider p root c (Err e) h = inr h
