-- Where the content of each block stands (docs/layout.md, "Replay").
use Rattle.std.specs.Prelude.{◌≡◌, ℕ, ◌<◌, List, length, Result, Ok, Err}
use Rattle.std.specs.Ordering.{nat_cmp}
use Rattle.std.specs.Option.{unwrap_or}
use Rattle.std.specs.BTreeMap.{BTreeMap, get}
use Rattle.r4_base.specs.Image.{IsLawful, block_at, put_pairs}
use Rattle.r4_base.specs.Chain.{Txn, HasLog, chain_pairs, committed, home}
use Rattle.r4_base.specs.declared.limits.TheConstants.{HEADER_BLOCK}
use Rattle.r4_outside.specs.Device.{State, TellsReads, Rose}
use Rattle.r4_replay.specs.declared.fault.Stop.{Stop}
use Rattle.r4_replay.specs.declared.fault.Stop.TheVariants.{Failed, Memory as NoMemory, Log as Fault}
use Rattle.r4_replay.specs.declared.fault.ReplayFault.{ReplayFault}
use Rattle.r4_replay.specs.declared.log.Log.{Log}
use Rattle.r4_replay.specs.Replay.{RefusedAs, Faulted}

-- the block that a map has for a block, or the block itself
abbrev pub home_in : BTreeMap ℕ ℕ → ℕ → ℕ
home_in homes b = unwrap_or (get nat_cmp homes b) b

-- A log says where each block of the settled image stands, how many transactions there are, and the head that the journal header names.
pub record TellsHomes (old : State) (log : Log) : Type 0 where
  pub chain : List Txn
  pub has : HasLog old.blocks old.seen chain
  pub count : log.count ≡ length chain
  pub homes : (b : ℕ) → home_in log.homes b ≡ home (chain_pairs chain) b
  pub settled : (b : ℕ) → b < old.blocks → block_at (put_pairs (chain_pairs chain) old.seen) b ≡ block_at old.seen (home_in log.homes b)
  pub head : log.head ≡ committed old.seen
  -- the journal header has no copy
  pub header : home_in log.homes HEADER_BLOCK.0 ≡ HEADER_BLOCK.0

-- the home of a block below n is below n
abbrev pub StaysWithin : (n : ℕ) → Log → Type 0
StaysWithin n log = (b : ℕ) → b < n → home_in log.homes b < n

-- The log of a device of a lawful size.
abbrev pub Looked : State → Result Log Stop → State → Type 0
Looked old (Ok log) new = TellsReads old → TellsHomes old log
Looked old (Err (Fault block fault)) new = TellsReads old → RefusedAs old.blocks old.seen (record { block = block; fault = fault })
Looked old (Err Failed) new = Rose old.faults new.faults
Looked old (Err NoMemory) new = Unit {0}

abbrev pub LooksUp : State → Result Log ReplayFault → State → Type 0
LooksUp old (Ok log) new = IsLawful old.blocks × (TellsReads old → TellsHomes old log)
LooksUp old (Err fault) new = Faulted old fault new
