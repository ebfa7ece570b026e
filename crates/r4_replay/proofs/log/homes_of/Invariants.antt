use Rattle.std.proofs.Common.{◌≡◌, ℕ, take}
use Rattle.r4_base.specs.Chain.{chain_pairs, home}
use Rattle.r4_replay.specs.Txns.{chain_shown}
use Rattle.r4_replay.specs.Homes.{home_in}
use Rattle.r4_replay.proofs.log.homes_of.Given as goal

abbrev pub invariant-loop-txn : goal.invariant-loop-txn
invariant-loop-txn l = (b : ℕ) → home_in l.homes b ≡ home (chain_pairs (chain_shown (take l.txn-index l.txns))) b
