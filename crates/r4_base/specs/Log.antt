-- What the blocks of the log spell (docs/layout.md, "The log").
use Rattle.std.specs.Prelude.{ℕ, zero, suc, ◌+◌, ◌*◌, List, [], ◌∷◌, ◌++◌, codes, length, replicate, ◌-◌, Option, Some, None, nat_eq, ◌==◌, if◌then◌else◌}
use Rattle.std.specs.List.{starts_with, flat_map}
use Rattle.r4_base.specs.Bytes.{number_at, fields_bytes}
use Rattle.r4_base.specs.declared.journal.Header.{Header}
use Rattle.r4_base.specs.declared.journal.Footer.{Footer}
use Rattle.r4_base.specs.declared.journal.TxHead.{TxHead}
use Rattle.r4_base.specs.declared.limits.TheConstants.{RECORD_PAIRS}

-- ---- the journal header and the journal footer

unfoldable pub header_of : List ℕ → Header
header_of b = record { last = number_at 8 0 b }

unfoldable pub footer_of : List ℕ → Footer
footer_of b = record { last = number_at 8 0 b; free_blocks = number_at 8 8 b; nr_files = number_at 8 16 b; next_oid = number_at 8 24 b }

-- the fields, each with its width
abbrev pub header_fields : Header → List (ℕ × ℕ)
header_fields h = (8, h.last) ∷ []

abbrev pub footer_fields : Footer → List (ℕ × ℕ)
footer_fields f = (8, f.last) ∷ (8, f.free_blocks) ∷ (8, f.nr_files) ∷ (8, f.next_oid) ∷ []

-- ---- the head of a transaction

abbrev pub head_magic : List ℕ
head_magic = codes "TxMagic4"

-- the fields behind the magic; the third is padding
abbrev pub head_fields : TxHead → List (ℕ × ℕ)
head_fields h = (8, h.id) ∷ (4, h.total) ∷ (4, 0) ∷ (8, h.prev_tx) ∷ (8, h.next_block) ∷ (8, h.free_blocks) ∷ (8, h.nr_files) ∷ (8, h.next_oid) ∷ []

-- the block that spells a head
unfoldable pub head_block : TxHead → List ℕ
head_block h = head_magic ++ (fields_bytes (head_fields h) ++ replicate 4032 0)

-- the head that a block spells; none exactly at a false magic
unfoldable pub head_of : List ℕ → Option TxHead
head_of b = if starts_with nat_eq b head_magic then Some (record { id = number_at 8 8 b; total = number_at 4 16 b; prev_tx = number_at 8 24 b; next_block = number_at 8 32 b; free_blocks = number_at 8 40 b; nr_files = number_at 8 48 b; next_oid = number_at 8 56 b }) else None

-- ---- a record of a transaction: its pairs, each of an original and a wandered block

pub record Record : Type 0 where
  pub id : ℕ
  pub total : ℕ
  pub serial : ℕ
  pub next_block : ℕ
  pub pairs : List (ℕ × ℕ)

abbrev pub record_magic : List ℕ
record_magic = codes "LogMagc4"

abbrev pub pair_at : List ℕ → ℕ → ℕ × ℕ
pair_at b i = (number_at 8 (32 + 16 * i) b, number_at 8 (40 + 16 * i) b)

-- at most n pairs from the i-th on; an original 0 ends them
unfoldable pub pairs_from : ℕ → ℕ → List ℕ → List (ℕ × ℕ)
pairs_from zero i b = []
pairs_from (suc n) i b = if (pair_at b i).0 == 0 then [] else (pair_at b i ∷ pairs_from n (i + 1) b)

unfoldable pub pairs_of : List ℕ → List (ℕ × ℕ)
pairs_of b = pairs_from RECORD_PAIRS 0 b

-- the record that a block spells; none exactly at a false magic
unfoldable pub record_of : List ℕ → Option Record
record_of b = if starts_with nat_eq b record_magic then Some (record { id = number_at 8 8 b; total = number_at 4 16 b; serial = number_at 4 20 b; next_block = number_at 8 24 b; pairs = pairs_of b }) else None

abbrev pub record_fields : Record → List (ℕ × ℕ)
record_fields r = (8, r.id) ∷ (4, r.total) ∷ (4, r.serial) ∷ (8, r.next_block) ∷ []

-- a pair as two fields
abbrev pub pair_fields : ℕ × ℕ → List (ℕ × ℕ)
pair_fields p = (8, p.0) ∷ (8, p.1) ∷ []

-- the block that spells a record: the unused pairs are zero
unfoldable pub record_block : Record → List ℕ
record_block r = record_magic ++ (fields_bytes (record_fields r) ++ (fields_bytes (flat_map pair_fields r.pairs) ++ replicate (4064 - 16 * length r.pairs) 0))
