-- Edits that leaves can take (docs/volume.md, "Which edits a leaf gets"). A key is its rank.
use Rattle.std.specs.Prelude.{◌≡◌, ℕ, ◌-◌, ◌<◌, [], ◌∷◌, ◌++◌, replicate, All}
use Rattle.std.specs.Prelude.{Bool, true, false}
use Rattle.std.specs.List.{filter, flat_map}
use Rattle.r4_base.specs.Entries.{IsLawfulEntry}
use Rattle.r4_base.specs.Key.{key_of_rank, offset_of}
use Rattle.r4_base.specs.Stat.{kind_is_good}
use Rattle.r4_base.specs.Value.{Byte, Entry, Stat, Value}
use Rattle.r4_content.specs.Edited.{Edits, Pairs, is_in, put_keys}
use Rattle.r4_content.specs.Objects.{byte_pairs}
use Rattle.r4_reach.specs.Reach.{is_body}

abbrev pub is_byte : Value → Bool
is_byte (Stat a) = false
is_byte (Entry n t) = false
is_byte (Byte x) = true

-- the keys of an interval, each with the byte 0
abbrev pub zero_pairs : ℕ × ℕ → Pairs
zero_pairs r = byte_pairs r.0 (replicate (r.1 - r.0) 0)

-- the bytes that edits set
abbrev pub bytes_set : Edits → Pairs
bytes_set e = flat_map zero_pairs e.zeros ++ filter (λ p. is_byte p.1) e.puts

-- No key comes twice.
abbrev pub AreOnce : Pairs → Type 0
AreOnce [] = Unit {0}
AreOnce (p ∷ ps) = (is_in (put_keys ps) p.0 ≡ false) × AreOnce ps

-- a key of a body, of a byte that comes before this one
abbrev pub IsBefore : (end : ℕ) → ℕ × Value → Type 0
IsBefore end p = (is_body p.0 ≡ true) × (offset_of (key_of_rank p.0) < end)

-- Attributes are a directory's or a file's, and at no body's key; an entry has a lawful name, and its key.
abbrev pub IsLawfulPut : ℕ × Value → Type 0
IsLawfulPut (k, Stat a) = (kind_is_good a.mode ≡ true) × (is_body k ≡ false)
IsLawfulPut (k, Entry n t) = IsLawfulEntry (record { key = key_of_rank k; target = t; name = n })
IsLawfulPut (k, Byte x) = Unit {0}

-- Each byte that is set is one of a body, before byte `end` of its file, and no key gets two; the other values are
-- lawful.
pub record SuitLeaves (end : ℕ) (e : Edits) : Type 0 where
  pub once : AreOnce (bytes_set e)
  pub bytes : All (IsBefore end) (bytes_set e)
  pub values : All IsLawfulPut e.puts
