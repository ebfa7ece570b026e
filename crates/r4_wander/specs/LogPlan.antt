-- The writes that a plan asks for, and its transaction as the log has it (docs/commit.md, "Order", and docs/layout.md, "The log").
use Rattle.std.specs.Prelude.{◌≡◌, ◌≢◌, ℕ, ◌+◌, ◌*◌, ◌/◌, ◌<◌, List, [], ◌∷◌, ◌++◌, length, map, take, drop, replicate, slice_index, slice_index_or, All}
use Rattle.std.specs.List.{range_with_len}
use Rattle.r4_base.specs.Bytes.{put_all}
use Rattle.r4_base.specs.Log.{Record, header_fields, footer_fields, head_block, record_block}
use Rattle.r4_base.specs.Chain.{Txn}
use Rattle.r4_base.specs.declared.journal.Footer.{Footer}
use Rattle.r4_base.specs.declared.journal.Header.{Header}
use Rattle.r4_base.specs.declared.journal.TxHead.{TxHead}
use Rattle.r4_wander.specs.Torn.{Write}
use Rattle.r4_wander.specs.Parts.{Parts}
use Rattle.r4_wander.specs.declared.plan.LogPlan.{LogPlan}

-- the pairs of the transaction: each copy's original and block
abbrev pub pairs : LogPlan → List (ℕ × ℕ)
pairs p = map (λ w. (w.original, w.copy)) p.wandered

-- the originals
abbrev pub originals_of : LogPlan → List ℕ
originals_of p = map (λ w. w.original) p.wandered

-- the placed cells, each in its block
abbrev pub placed_writes : LogPlan → List Write
placed_writes p = map (λ c. (c.at, c.cell.block)) p.placed

-- the copies, each in its block
abbrev pub copies : LogPlan → List Write
copies p = map (λ w. (w.copy, w.block)) p.wandered

-- the homes: the new contents at the originals
abbrev pub news : LogPlan → List Write
news p = map (λ w. (w.original, w.block)) p.wandered

-- the block of record k, counted from 0, or the head's where there is none
abbrev pub number_after : LogPlan → ℕ → ℕ
number_after p k = slice_index_or p.records k p.head.0

-- the head and its records
abbrev pub total : LogPlan → ℕ
total p = length p.records + 1

-- the head names the first record
unfoldable pub head_says : LogPlan → TxHead
head_says p = record { id = p.id; total = total p; prev_tx = p.prev.0; next_block = number_after p 0; free_blocks = p.free_blocks; nr_files = p.nr_files; next_oid = p.next_oid }

-- record k has the next 254 pairs, and names the next record or the head
unfoldable pub record_says : LogPlan → ℕ → Record
record_says p k = record { id = p.id; total = total p; serial = k + 1; next_block = number_after p (k + 1); pairs = take 254 (drop (254 * k) (pairs p)) }

-- record k in its block
abbrev pub record_write : LogPlan → ℕ → Write
record_write p k = (slice_index p.records k, record_block (record_says p k))

-- the records in order, each in its block
abbrev pub record_writes : LogPlan → List Write
record_writes p = map (record_write p) (range_with_len 0 (length p.records))

-- the head in its block
abbrev pub head_write : LogPlan → Write
head_write p = (p.head.0, head_block (head_says p))

-- the journal header names the head, and so does the journal footer
abbrev pub header_says : LogPlan → Header
header_says p = record { last = p.head.0 }

-- the footer has the three numbers too
abbrev pub footer_says : LogPlan → Footer
footer_says p = record { last = p.head.0; free_blocks = p.free_blocks; nr_files = p.nr_files; next_oid = p.next_oid }

-- the block of the journal header: its field, and zeros
unfoldable pub header_bytes : LogPlan → List ℕ
header_bytes p = put_all (header_fields (header_says p)) 0 (replicate 4096 0)

-- the block of the journal footer: its fields, and zeros
unfoldable pub footer_bytes : LogPlan → List ℕ
footer_bytes p = put_all (footer_fields (footer_says p)) 0 (replicate 4096 0)

-- the log's own writes of the first part: copies, records, head
abbrev pub scratch : LogPlan → List Write
scratch p = copies p ++ (record_writes p ++ head_write p ∷ [])

-- the first part: the placed cells, and the log's own writes
abbrev pub first : LogPlan → List Write
first p = placed_writes p ++ scratch p

-- the four parts
abbrev pub parts_of : LogPlan → Parts
parts_of p = record { first = first p; header = header_bytes p; homes = news p; footer = footer_bytes p }

-- the transaction, as the log then has it
abbrev pub txn_of : LogPlan → Txn
txn_of p = record { head = p.head.0; says = head_says p; records = p.records; pairs = pairs p }

-- There is one record for each 254 pairs or part of them, fewer than 2^32 - 1, and no original is 0.
pub record CanBeWritten (p : LogPlan) : Type 0 where
  pub enough : length p.records ≡ (length p.wandered + 253) / 254
  pub few : length p.records < 4294967295
  pub named : All (λ o. o ≢ 0) (originals_of p)

-- Every block of the plan but `prev` is below a number of blocks.
pub record IsBelow (n : ℕ) (p : LogPlan) : Type 0 where
  pub head : p.head.0 < n
  pub records : All (λ b. b < n) p.records
  pub placed : All (λ c. c.at < n) p.placed
  pub wandered : All (λ w. (w.original < n) × (w.copy < n)) p.wandered
