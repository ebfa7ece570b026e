-- The log as it is read.
use Rattle.std.specs.Prelude.{◌≡◌, ℕ, List, All, Result, Ok, Err}
use Rattle.std.specs.Global.{Vec}
use Rattle.r4_base.specs.Chain.{Txn as Transaction, PairInRange, HasLog, committed, flushed}
use Rattle.r4_base.specs.Refusal.{IsRefused}
use Rattle.r4_outside.specs.Device.{State, TellsReads, Rose}
use Rattle.r4_replay.specs.declared.fault.Stop.{Stop}
use Rattle.r4_replay.specs.declared.fault.Stop.TheVariants.{Failed, Memory, Log}
use Rattle.r4_replay.specs.declared.chain.Whole.{Whole}
use Rattle.r4_replay.specs.declared.txn.Txn.{Txn}
use Rattle.r4_replay.specs.Txns.{chain_shown}

abbrev pub chain_of : Vec Txn → List Transaction
chain_of txns = chain_shown txns.items

-- each pair of each transaction is in range
abbrev pub InRangeAll : ℕ → List Txn → Type 0
InRangeAll n txns = All (λ t. All (PairInRange n) t.pairs.items) txns

-- The log from these two numbers: its transactions, or the refusal.
abbrev pub ReadsLog : (header footer : ℕ) → State → Result (Vec Txn) Stop → State → Type 0
ReadsLog header footer old (Ok txns) new = TellsReads old → header ≡ committed old.seen → footer ≡ flushed old.seen → HasLog old.blocks old.seen (chain_of txns)
ReadsLog header footer old (Err (Log b f)) new = TellsReads old → header ≡ committed old.seen → footer ≡ flushed old.seen → IsRefused old.blocks old.seen (record { block = b; fault = f })
ReadsLog header footer old (Err Failed) new = Rose old.faults new.faults
ReadsLog header footer old (Err Memory) new = Unit {0}

-- The whole log: its transactions and the head that the header names, or the refusal.
abbrev pub ReadsWhole : State → Result Whole Stop → State → Type 0
ReadsWhole old (Ok whole) new = TellsReads old → HasLog old.blocks old.seen (chain_of whole.txns) × (whole.head ≡ committed old.seen)
ReadsWhole old (Err (Log b f)) new = TellsReads old → IsRefused old.blocks old.seen (record { block = b; fault = f })
ReadsWhole old (Err Failed) new = Rose old.faults new.faults
ReadsWhole old (Err Memory) new = Unit {0}
