-- Transactions as they are kept, and what reading their records finds.
use Rattle.std.specs.Prelude.{◌≡◌, ◌⊎◌, ℕ, ◌+◌, ◌<◌, ◌≤◌, true, false, List, ◌++◌, length, map, reverse, Result, Ok, Err}
use Rattle.std.specs.List.{list_all}
use Rattle.r4_base.specs.Log.{Record}
use Rattle.r4_base.specs.Chain.{Txn as Transaction}
use Rattle.r4_base.specs.Refusal.{Refusal, pair_is_in_range}
use Rattle.r4_base.specs.declared.journal.LogFault.TheVariants.{Range, Pairs}
use Rattle.r4_outside.specs.Device.{State, TellsReads}
use Rattle.r4_replay.specs.declared.fault.Stop.{Stop}
use Rattle.r4_replay.specs.declared.fault.Stop.TheVariants.{Failed, Memory, Log}
use Rattle.r4_replay.specs.declared.txn.Txn.{Txn}
use Rattle.r4_replay.specs.Reading.{Finds}

abbrev pub txn_shown : Txn → Transaction
txn_shown t = record { head = t.head.at; says = t.head.says; records = t.records.items; pairs = t.pairs.items }

-- transactions that are kept the oldest first, as a chain
abbrev pub chain_shown : List Txn → List Transaction
chain_shown txns = reverse (map txn_shown txns)

-- The pairs of a record at a block are taken behind those before it.
abbrev pub TakesPairs : {T : Type 0} → (n at : ℕ) → (ps before after : List (ℕ × ℕ)) → Result T Stop → Type 0
TakesPairs n at ps before after (Ok v) = (list_all (pair_is_in_range n) ps ≡ true) × (length before + length ps ≤ n) × (after ≡ before ++ ps)
TakesPairs n at ps before after (Err (Log b f)) = (b ≡ at) × (((f ≡ Range) × (list_all (pair_is_in_range n) ps ≡ false)) ⊎ ((f ≡ Pairs) × (list_all (pair_is_in_range n) ps ≡ true) × (n < length before + length ps)))
TakesPairs n at ps before after (Err Memory) = Unit {0}
TakesPairs n at ps before after (Err Failed) = ⊥

-- The next number is the record's, and its pairs were taken.
pub record HasTaken (says : Result Record Refusal) (before after : List (ℕ × ℕ)) (next : ℕ) : Type 0 where
  pub found : Record
  pub says_so : says ≡ Ok found
  pub goes_on : next ≡ found.next_block
  pub taken : after ≡ before ++ found.pairs

abbrev pub JudgesRecord : Result Record Refusal → (before after : List (ℕ × ℕ)) → Result ℕ Stop → Type 0
JudgesRecord says before after (Ok next) = HasTaken says before after next
JudgesRecord says before after (Err (Log b f)) = says ≡ Err (record { block = b; fault = f })
JudgesRecord says before after (Err Memory) = Unit {0}
JudgesRecord says before after (Err Failed) = ⊥

abbrev pub FindsRecord : State → Result Record Refusal → (before after : List (ℕ × ℕ)) → Result ℕ Stop → State → Type 0
FindsRecord old says before after (Ok next) new = TellsReads old → HasTaken says before after next
FindsRecord old says before after (Err e) new = Finds (λ (r : Record). r) old says (Err e) new
