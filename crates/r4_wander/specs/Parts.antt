-- A commit as four lists of writes, each ended by a sync, and what a crash leaves of each (docs/commit.md, "Order").
use Rattle.std.specs.Prelude.{◌≡◌, ◌≢◌, ◌⊎◌, ℕ, zero, suc, ◌<◌, ◌≤◌, List, [], ◌∷◌, length, Contains}
use Rattle.std.specs.List.Sorted.{IsPermutation, IsNonDecreasingBy}
use Rattle.r4_base.specs.Image.{Image, IsImage, IsBlock, block_at, put_pairs}
use Rattle.r4_base.specs.Log.{header_of, footer_of}
use Rattle.r4_base.specs.Chain.{Txn, HasTxn, HasLog, SettlesTo, chain_pairs, originals, kept_blocks, committed, flushed, home}
use Rattle.r4_wander.specs.Torn.{Write, put_writes, IsTarget}

-- The writes of a commit: placed cells, copies, records and the head; the journal header; the homes; the journal footer.
pub record Parts : Type 0 where
  pub first : List Write
  pub header : List ℕ
  pub homes : List Write
  pub footer : List ℕ

-- the writes of a part, counted from 0
abbrev pub part : Parts → ℕ → List Write
part plan zero = plan.first
part plan (suc zero) = (19, plan.header) ∷ []
part plan (suc (suc zero)) = plan.homes
part plan (suc (suc (suc zero))) = (20, plan.footer) ∷ []
part plan (suc (suc (suc (suc more)))) = []

-- a write falls on the block, in whichever part
abbrev pub FallsOn : Parts → (block : ℕ) → Type 0
FallsOn plan b = (p : ℕ) × IsTarget (part plan p) b

-- the image as a part begins
abbrev pub base_of : Parts → Image → ℕ → Image
base_of plan base zero = base
base_of plan base (suc i) = put_writes (part plan i) (base_of plan base i)

-- The same writes, those of the first part and the homes each in rising order of blocks.
pub record IsOrderOf (plan sorted : Parts) : Type 0 where
  pub first : IsPermutation plan.first sorted.first
  pub header : sorted.header ≡ plan.header
  pub homes : IsPermutation plan.homes sorted.homes
  pub footer : sorted.footer ≡ plan.footer
  pub first_rises : IsNonDecreasingBy (λ w. w.0) sorted.first
  pub homes_rise : IsNonDecreasingBy (λ w. w.0) sorted.homes

-- the blocks of the journal header and the journal footer
abbrev pub is_log_number : ℕ → Type 0
is_log_number b = (b ≡ 19) ⊎ (b ≡ 20)

-- What the order of the parts rests on: the first part writes the transaction `txn`, and nothing that the chain keeps or puts in place.
pub record IsCommit (n : ℕ) (base : Image) (chain : List Txn) (txn : Txn) (plan : Parts) : Type 0 where
  pub image : IsImage n base
  pub first_image : IsImage n (base_of plan base 1)
  pub header_whole : IsBlock plan.header
  pub more : 20 < n
  pub log : HasLog n base chain
  pub few : length chain < 8
  pub has_txn : HasTxn n (base_of plan base 1) txn
  pub prev : txn.says.prev_tx ≡ committed base
  pub fresh : txn.head ≢ flushed base
  pub free : (b : ℕ) → IsTarget plan.first b → (b ≢ 19) × (b ≢ 20) × (Contains (kept_blocks chain) b → ⊥)
  pub apart : (b : ℕ) → Contains (originals (txn ∷ chain)) b → (b ≢ 19) × (b ≢ 20) × (Contains (kept_blocks (txn ∷ chain)) b → ⊥)
  pub kept : (b : ℕ) → Contains (kept_blocks (txn ∷ chain)) b → 22 ≤ b
  pub header : (header_of plan.header).last ≡ txn.head

-- The homes and the footer of a commit that settles: the homes are originals, and get what the newest copies hold.
pub record HasHomes (n : ℕ) (base : Image) (chain : List Txn) (txn : Txn) (plan : Parts) : Type 0 where
  pub image : IsImage n (base_of plan base 3)
  pub homes : (b : ℕ) → IsTarget plan.homes b → Contains (originals (txn ∷ chain)) b
  pub placed : (b : ℕ) → b < n → block_at (base_of plan base 3) b ≡ block_at (base_of plan base 2) (home (chain_pairs (txn ∷ chain)) b)
  pub footer : (footer_of plan.footer).last ≡ txn.head

-- What a crash leaves settles as if the commit had not been, or as with it.
abbrev pub Without : ℕ → Image → List Txn → Parts → Image → Type 0
Without n base chain plan image = SettlesTo n (λ b. IsTarget plan.first b ⊎ is_log_number b) (put_pairs (chain_pairs chain) base) image

-- As with the commit: outside blocks 19 and 20 it settles as the image with the longer chain.
abbrev pub With : ℕ → Image → List Txn → Txn → Parts → Image → Type 0
With n base chain txn plan image = SettlesTo n is_log_number (put_pairs (chain_pairs (txn ∷ chain)) (base_of plan base 2)) image

-- by the part that is under way
abbrev pub MayLeave : ℕ → Image → List Txn → Txn → Parts → ℕ → Image → Type 0
MayLeave n base chain txn plan zero image = Without n base chain plan image
MayLeave n base chain txn plan (suc zero) image = Without n base chain plan image ⊎ With n base chain txn plan image
MayLeave n base chain txn plan (suc (suc i)) image = With n base chain txn plan image
