-- The plans for which a commit is safe, and what a crash then leaves (docs/commit.md, "Safe plans").
use Rattle.std.specs.Prelude.{◌≡◌, ◌≢◌, ◌⊎◌, ℕ, zero, suc, ◌*◌, ◌<◌, ◌≤◌, List, length, Contains, All, Some}
use Rattle.r4_base.specs.Image.{AreDifferent, Image, IsImage, IsBlock, put_pairs}
use Rattle.r4_base.specs.Log.{header_of, footer_of, head_of, head_block, record_of, record_block}
use Rattle.r4_base.specs.Chain.{Txn, InRange, IsOriginalNumber, HasLog, SettlesTo, chain_pairs, originals, kept_blocks, committed, flushed}
use Rattle.r4_wander.specs.Torn.{put_writes, targets, IsTarget}
use Rattle.r4_wander.specs.Parts.{is_log_number}
use Rattle.r4_wander.specs.LogPlan.{originals_of, placed_writes, news, head_says, record_says, header_says, footer_says, header_bytes, footer_bytes, scratch, first}
use Rattle.r4_wander.specs.declared.plan.LogPlan.{LogPlan}

-- What is written reads back as what the plan says, and all of it is whole blocks.
pub record IsEncoded (p : LogPlan) : Type 0 where
  pub head : head_of (head_block (head_says p)) ≡ Some (head_says p)
  pub records : (k : ℕ) → k < length p.records → record_of (record_block (record_says p k)) ≡ Some (record_says p k)
  pub header : header_of (header_bytes p) ≡ header_says p
  pub footer : footer_of (footer_bytes p) ≡ footer_says p
  pub enough : length p.wandered ≤ 254 * length p.records
  pub first_whole : All (λ w. IsBlock w.1) (first p)
  pub homes_whole : All (λ w. IsBlock w.1) (news p)
  pub header_whole : IsBlock (header_bytes p)
  pub footer_whole : IsBlock (footer_bytes p)

-- A plan whose commit is safe on an image of n blocks with this chain of unflushed transactions.
pub record IsSafe (n : ℕ) (base : Image) (chain : List Txn) (p : LogPlan) : Type 0 where
  pub image : IsImage n base
  pub more : 20 < n
  pub log : HasLog n base chain
  -- at most seven transactions are unflushed before it, and it has a pair
  pub few : length chain < 8
  pub some : 1 ≤ length p.wandered
  -- it follows the newest transaction, and its head is not the block that the journal footer names
  pub prev : p.prev.0 ≡ committed base
  pub fresh : p.head.0 ≢ flushed base
  -- the blocks of the first part are different log blocks, none of them an original of its own
  pub in_range : (b : ℕ) → IsTarget (first p) b → InRange n b
  pub different : AreDifferent (targets (first p))
  pub no_original : (b : ℕ) → IsTarget (first p) b → Contains (originals_of p) b → ⊥
  -- nor kept by the unflushed transactions, nor an original of theirs
  pub not_kept : (b : ℕ) → IsTarget (first p) b → Contains (kept_blocks chain) b → ⊥
  pub no_home : (b : ℕ) → IsTarget (first p) b → Contains (originals chain) b → ⊥
  -- the originals are different and in range, and kept by none of the unflushed transactions
  pub originals_range : All (IsOriginalNumber n) (originals_of p)
  pub originals_differ : AreDifferent (originals_of p)
  pub originals_apart : (b : ℕ) → Contains (originals_of p) b → Contains (kept_blocks chain) b → ⊥

-- The settled image with the atom's cells: placed cells in their blocks, and each original with its new content.
abbrev pub with_atom : Image → List Txn → LogPlan → Image
with_atom base chain p = put_writes (news p) (put_writes (placed_writes p) (put_pairs (chain_pairs chain) base))

-- the blocks in which an image with the atom may differ from that: those of the log
abbrev pub is_scratch : LogPlan → ℕ → Type 0
is_scratch p b = IsTarget (scratch p) b ⊎ is_log_number b

-- It settles to what was there, outside the blocks of the first part and the log's own.
abbrev pub WithoutAtom : ℕ → Image → List Txn → LogPlan → Image → Type 0
WithoutAtom n base chain p image = SettlesTo n (λ b. IsTarget (first p) b ⊎ is_log_number b) (put_pairs (chain_pairs chain) base) image

-- It settles to that with the atom's cells, outside the log.
abbrev pub WithAtom : ℕ → Image → List Txn → LogPlan → Image → Type 0
WithAtom n base chain p image = SettlesTo n (is_scratch p) (with_atom base chain p) image

-- By the part that is under way: without the atom; without or with it; with it.
abbrev pub ByPart : ℕ → Image → List Txn → LogPlan → ℕ → Image → Type 0
ByPart n base chain p zero image = WithoutAtom n base chain p image
ByPart n base chain p (suc zero) image = WithoutAtom n base chain p image ⊎ WithAtom n base chain p image
ByPart n base chain p (suc (suc i)) image = WithAtom n base chain p image
