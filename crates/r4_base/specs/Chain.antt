-- The log of an image, as a chain of transactions, and the settled image (docs/layout.md, "Replay").
use Rattle.std.specs.Prelude.{◌≡◌, ◌≢◌, ◌⊎◌, ℕ, ◌+◌, ◌<◌, ◌≤◌, ◌==◌, if◌then◌else◌, List, [], ◌∷◌, ◌++◌, length, map, Contains, All, Some}
use Rattle.r4_base.specs.Image.{Image, block_at, put_pairs, AgreesOutside}
use Rattle.r4_base.specs.Log.{Record, header_of, footer_of, head_of, record_of}
use Rattle.r4_base.specs.declared.journal.TxHead.{TxHead}
use Rattle.r4_base.specs.declared.limits.TheConstants.{FIRST_BITMAP, FIRST_PLACE, FOOTER_BLOCK, HEADER_BLOCK, MOST_HEADS, SUPER_BLOCK}

-- the head that the journal header names, and the one that the journal footer names
abbrev pub committed : Image → ℕ
committed image = (header_of (block_at image HEADER_BLOCK.0)).last

abbrev pub flushed : Image → ℕ
flushed image = (footer_of (block_at image FOOTER_BLOCK.0)).last

-- A log block's number, and a wandered block's, is at least 22 and below the number of blocks n.
abbrev pub InRange : ℕ → ℕ → Type 0
InRange n b = (FIRST_PLACE ≤ b) × (b < n)

-- An original is block 17, block 18 or a log block's number.
abbrev pub IsOriginalNumber : ℕ → ℕ → Type 0
IsOriginalNumber n b = (b ≡ SUPER_BLOCK.0) ⊎ (b ≡ FIRST_BITMAP.0) ⊎ InRange n b

abbrev pub PairInRange : ℕ → ℕ × ℕ → Type 0
PairInRange n p = IsOriginalNumber n p.0 × InRange n p.1

-- A transaction of a log: the block of its head and what the head says; the blocks of its records, in order, and all their pairs.
pub record Txn : Type 0 where
  pub head : ℕ
  pub says : TxHead
  pub records : List ℕ
  pub pairs : List (ℕ × ℕ)

-- The records of a transaction from a number on: in range, of the transaction's id and with rising serials, each naming the next one and the
-- last one the head; and their pairs, each in range.
abbrev pub HasRecords : ℕ → Image → (id head serial at : ℕ) → List ℕ → List (ℕ × ℕ) → Type 0
HasRecords n image id head serial at [] pairs = (at ≡ head) × (pairs ≡ [])
HasRecords n image id head serial at (r ∷ rs) pairs =
    (says : Record) × (rest : List (ℕ × ℕ)) × (at ≡ r) × InRange n r × (record_of (block_at image r) ≡ Some says) × (says.id ≡ id) × (says.serial ≡ serial)
    × All (PairInRange n) says.pairs × (pairs ≡ says.pairs ++ rest) × HasRecords n image id head (serial + 1) says.next_block rs rest

-- A transaction: its head counts itself and its records, at most as many blocks as the device has, and it has no more pairs than that.
pub record HasTxn (n : ℕ) (image : Image) (t : Txn) : Type 0 where
  pub in_range : InRange n t.head
  pub head : head_of (block_at image t.head) ≡ Some t.says
  pub total : t.says.total ≡ length t.records + 1
  pub some : 1 ≤ length t.records
  pub fits : t.says.total ≤ n
  pub records : HasRecords n image t.says.id t.head 1 t.says.next_block t.records t.pairs
  pub few : length t.pairs ≤ n

-- The transactions from a head back, the newest first, until a head's predecessor is the one that the footer names.
abbrev pub HasTxns : ℕ → Image → (footer at : ℕ) → List Txn → Type 0
HasTxns n image footer at [] = at ≡ footer
HasTxns n image footer at (t ∷ older) = (at ≡ t.head) × (at ≢ footer) × HasTxn n image t × HasTxns n image footer t.says.prev_tx older

-- the pairs of a chain, the oldest transaction's first
abbrev pub chain_pairs : List Txn → List (ℕ × ℕ)
chain_pairs [] = []
chain_pairs (t ∷ older) = chain_pairs older ++ t.pairs

-- the originals, and the blocks that none of them may be: heads, records and wandered blocks
abbrev pub originals : List Txn → List ℕ
originals chain = map (λ p. p.0) (chain_pairs chain)

abbrev pub wandered : List Txn → List ℕ
wandered chain = map (λ p. p.1) (chain_pairs chain)

abbrev pub log_blocks : List Txn → List ℕ
log_blocks [] = []
log_blocks (t ∷ older) = t.head ∷ (t.records ++ log_blocks older)

abbrev pub kept_blocks : List Txn → List ℕ
kept_blocks chain = wandered chain ++ log_blocks chain

-- The unflushed transactions of an image of n blocks, the newest first.
pub record HasLog (n : ℕ) (image : Image) (chain : List Txn) : Type 0 where
  pub txns : HasTxns n image (flushed image) (committed image) chain
  pub few : length chain ≤ MOST_HEADS
  pub apart : (b : ℕ) → Contains (originals chain) b → Contains (kept_blocks chain) b → ⊥

-- The settled image: all pairs put in place, the oldest transaction's first. No image where the log is refused.
pub record Settles (n : ℕ) (image settled : Image) : Type 0 where
  pub chain : List Txn
  pub has : HasLog n image chain
  pub is : settled ≡ put_pairs (chain_pairs chain) image

-- Where the settled content of a block stands: in the wandered block of the last pair with that original, or in the block itself.
abbrev pub home_from : List (ℕ × ℕ) → ℕ → ℕ → ℕ
home_from [] b so_far = so_far
home_from (p ∷ ps) b so_far = home_from ps b (if b == p.0 then p.1 else so_far)

abbrev pub home : List (ℕ × ℕ) → ℕ → ℕ
home ps b = home_from ps b b

-- An image that settles to this one but for the blocks of W.
pub record SettlesTo (n : ℕ) (W : ℕ → Type 0) (target image : Image) : Type 0 where
  pub settled : Image
  pub settles : Settles n image settled
  pub agrees : AgreesOutside W target settled

abbrev pub is_footer : ℕ → Type 0
is_footer b = b ≡ FOOTER_BLOCK.0
