-- Which fault of a log is found first, and where (docs/layout.md, "Replay").
use Rattle.std.specs.Prelude.{◌≡◌, ℕ, zero, suc, ◌+◌, ◌-◌, ◌≤◌, ◌==◌, ◌&&◌, ◌||◌, not, nat_le, nat_lt, Bool, if◌then◌else◌, List, [], ◌∷◌, ◌++◌, length, Contains, Option, Some, None, Result, Ok, Err, MatchResult}
use Rattle.std.specs.List.{list_all}
use Rattle.r4_base.specs.Image.{Image, block_at}
use Rattle.r4_base.specs.Log.{Record, head_of, record_of}
use Rattle.r4_base.specs.Chain.{Txn, committed, flushed, originals, kept_blocks}
use Rattle.r4_base.specs.declared.journal.TxHead.{TxHead}
use Rattle.r4_base.specs.declared.journal.LogFault.{LogFault}
use Rattle.r4_base.specs.declared.journal.LogFault.TheVariants.{Range, HeadMagic, Total, Long, RecordMagic, Id, Serial, Pairs, Circle, Overlap}
use Rattle.r4_base.specs.declared.limits.TheConstants.{FIRST_BITMAP, FIRST_PLACE, HEADER_BLOCK, MOST_HEADS, SUPER_BLOCK}

-- a fault, and the block that it names
pub record Refusal : Type 0 where
  pub block : ℕ
  pub fault : LogFault

abbrev pub refuse : {X : Type 0} → ℕ → LogFault → Result X Refusal
refuse b f = Err (record { block = b; fault = f })

abbrev pub is_log_block : ℕ → ℕ → Bool
is_log_block n b = nat_le FIRST_PLACE b && nat_lt b n

abbrev pub is_original_number : ℕ → ℕ → Bool
is_original_number n b = b == SUPER_BLOCK.0 || (b == FIRST_BITMAP.0 || is_log_block n b)

abbrev pub pair_is_in_range : ℕ → ℕ × ℕ → Bool
pair_is_in_range n p = is_original_number n p.0 && is_log_block n p.1

-- go on where nothing was refused
abbrev pub then_with : {X Y : Type 0} → Result X Refusal → (X → Result Y Refusal) → Result Y Refusal
then_with (Ok x) go = go x
then_with (Err r) go = Err r

-- ---- heads: `Range` names the block that holds the number, all others the head

abbrev pub checked_head : ℕ → ℕ → Option TxHead → Result TxHead Refusal
checked_head n at None = refuse at HeadMagic
checked_head n at (Some h) = if nat_le 2 h.total && nat_le h.total n then Ok h else refuse at Total

unfoldable pub head_at : ℕ → Image → (holder at : ℕ) → Result TxHead Refusal
head_at n image holder at = if is_log_block n at then checked_head n at (head_of (block_at image at)) else refuse holder Range

-- a head in a log, with what it says
abbrev pub Head : Type 0
Head = ℕ × TxHead

-- The heads from a number back, the newest first, until the footer's; `more` heads may stand there, and the one after them is `Long`.
unfoldable pub heads_from : (more n : ℕ) → Image → (footer holder at : ℕ) → Result (List Head) Refusal
heads_from zero n image footer holder at = if at == footer then Ok [] else then_with (head_at n image holder at) (λ h. refuse at Long)
heads_from (suc more) n image footer holder at = if at == footer then Ok [] else then_with (head_at n image holder at) (λ h.
    then_with (heads_from more n image footer at h.prev_tx) (λ older. Ok ((at, h) ∷ older)))

-- ---- the records of a transaction: `Range` of a record's number names its holder; that of a pair, and all others, the record

-- `before` pairs were counted in the transaction's records before this one
abbrev pub checked_record : (n id serial before at : ℕ) → Option Record → Result Record Refusal
checked_record n id serial before at None = refuse at RecordMagic
checked_record n id serial before at (Some r) =
    if not (r.id == id) then refuse at Id else
    if not (r.serial == serial) then refuse at Serial else
    if not (list_all (pair_is_in_range n) r.pairs) then refuse at Range else
    if nat_lt n (before + length r.pairs) then refuse at Pairs else
    Ok r

unfoldable pub record_at : ℕ → Image → (id serial before holder at : ℕ) → Result Record Refusal
record_at n image id serial before holder at =
    if is_log_block n at then checked_record n id serial before at (record_of (block_at image at)) else refuse holder Range

-- what a transaction's records are found to be: their blocks, and their pairs
pub record Found : Type 0 where
  pub records : List ℕ
  pub pairs : List (ℕ × ℕ)

-- `left` records from a number on; the last one has to name the head
unfoldable pub records_from : (left n : ℕ) → Image → (id head serial before holder at : ℕ) → Result Found Refusal
records_from zero n image id head serial before holder at = if at == head then Ok (record { records = []; pairs = [] }) else refuse holder Circle
records_from (suc left) n image id head serial before holder at = then_with (record_at n image id serial before holder at) (λ r.
    then_with (records_from left n image id head (serial + 1) (before + length r.pairs) at r.next_block) (λ rest.
    Ok (record { records = at ∷ rest.records; pairs = r.pairs ++ rest.pairs })))

unfoldable pub txn_at : ℕ → Image → Head → Result Txn Refusal
txn_at n image h = then_with (records_from (h.1.total - 1) n image h.1.id h.0 1 0 h.0 h.1.next_block) (λ found.
    Ok (record { head = h.0; says = h.1; records = found.records; pairs = found.pairs }))

-- ---- the log: all heads first, then the transactions, the oldest first, then the smallest original that is also another block of the log

unfoldable pub txns_at : ℕ → Image → List Head → Result (List Txn) Refusal
txns_at n image [] = Ok []
txns_at n image (h ∷ older) = then_with (txns_at n image older) (λ ts. then_with (txn_at n image h) (λ t. Ok (t ∷ ts)))

unfoldable pub log_of : ℕ → Image → Result (List Txn) Refusal
log_of n image = then_with (heads_from MOST_HEADS n image (flushed image) HEADER_BLOCK.0 (committed image)) (txns_at n image)

-- An original that is also a head, a record or a wandered block, and the smallest such one.
pub record IsOverlap (chain : List Txn) (b : ℕ) : Type 0 where
  pub original : Contains (originals chain) b
  pub kept : Contains (kept_blocks chain) b
  pub smallest : (c : ℕ) → Contains (originals chain) c → Contains (kept_blocks chain) c → b ≤ c

-- The log of an image of n blocks is refused at this block with this fault.
abbrev pub IsRefused : ℕ → Image → Refusal → Type 0
IsRefused n image r = MatchResult (log_of n image) (λ chain. (r.fault ≡ Overlap) × IsOverlap chain r.block) (λ first. first ≡ r)
