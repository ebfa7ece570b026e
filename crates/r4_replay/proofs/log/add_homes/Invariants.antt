use Rattle.std.proofs.Common.{◌≡◌, ℕ, take}
use Rattle.r4_base.specs.Chain.{home_from}
use Rattle.r4_replay.specs.Homes.{home_in}
use Rattle.r4_replay.proofs.log.add_homes.Given as goal

abbrev pub invariant-loop-original : goal.invariant-loop-original
invariant-loop-original l = (b : ℕ) → home_in l.homes b ≡ home_from (take l.original-index l.pairs) b (home_in l.fn.homes b)
