-- The pieces of which a leaf is built anew (docs/volume.md, "Leaves").
use Rattle.std.specs.Prelude.{◌≡◌, ℕ, ◌+◌, ◌<◌, ◌≤◌, List, [], ◌∷◌, ◌++◌, length, reverse, None}
use Rattle.r4_base.specs.Cell.{bytes_from, entry_unit, fault_in}
use Rattle.r4_base.specs.Entries.{IsLawfulEntry}
use Rattle.r4_base.specs.Key.{IsKey, offset_of, rank}
use Rattle.r4_base.specs.Stat.{attr_of, stat_of}
use Rattle.r4_base.specs.Value.{Stat as StatValue}
use Rattle.r4_base.specs.declared.key.Key.{Key}
use Rattle.r4_cde.specs.Shown.{entry_shown}
use Rattle.r4_leaf.specs.Units.{LeafUnit}
use Rattle.r4_leaf.specs.declared.piece.Piece.{Piece}
use Rattle.r4_leaf.specs.declared.piece.Piece.TheVariants.{Stat, Entry, Bytes}

abbrev pub piece_key : Piece → Key
piece_key (Stat k body) = k
piece_key (Entry e) = e.key
piece_key (Bytes k bytes) = k

-- one more than the key of its last unit
abbrev pub piece_end : Piece → ℕ
piece_end (Stat k body) = rank k + 1
piece_end (Entry e) = rank e.key + 1
piece_end (Bytes k bytes) = rank k + length bytes

unfoldable pub piece_units : Piece → List LeafUnit
piece_units (Stat k body) = (rank k, StatValue (attr_of body.now)) ∷ []
piece_units (Entry e) = entry_unit (entry_shown e) ∷ []
piece_units (Bytes k bytes) = bytes_from (rank k) bytes

-- the units of pieces, one after the other
abbrev pub units_of : List Piece → List LeafUnit
units_of [] = []
units_of (p ∷ ps) = piece_units p ++ units_of ps

-- It may stand in a leaf.
abbrev pub IsSound : Piece → Type 0
IsSound (Stat k body) = fault_in (stat_of body.now) ≡ None
IsSound (Entry e) = IsLawfulEntry (entry_shown e) × IsKey e.key
IsSound (Bytes k bytes) = (1 ≤ length bytes) × (offset_of k + length bytes ≤ 16384)

-- Sound pieces from one key up to another, each behind the one before it.
abbrev pub Follow : (from to : ℕ) → List Piece → Type 0
Follow from to [] = from ≤ to
Follow from to (p ∷ ps) = (from ≤ rank (piece_key p)) × IsSound p × Follow (piece_end p) to ps

-- These pieces have the others behind them, with these units, from one key up to another.
pub record Adds (old : List Piece) (from to : ℕ) (us : List LeafUnit) (new : List Piece) : Type 0 where
  pub units : units_of new ≡ units_of old ++ us
  pub follow : (lo : ℕ) → Follow lo from old → Follow lo to new

-- The pieces that are kept, the last one first: with one more before them, which has these units.
pub record Leads (old : List Piece) (from to : ℕ) (us : List LeafUnit) (new : List Piece) : Type 0 where
  pub units : units_of (reverse new) ≡ us ++ units_of (reverse old)
  pub follow : (hi : ℕ) → Follow to hi (reverse old) → Follow from hi (reverse new)

-- the last of the pieces, if there is one, has a key below this one
abbrev pub LastBelow : ℕ → List Piece → Type 0
LastBelow k [] = Unit {0}
LastBelow k (p ∷ []) = rank (piece_key p) < k
LastBelow k (p ∷ (q ∷ ps)) = LastBelow k (q ∷ ps)

-- the first of the pieces, if there is one, has this key or one above it
abbrev pub FirstAbove : ℕ → List Piece → Type 0
FirstAbove k [] = Unit {0}
FirstAbove k (p ∷ ps) = k ≤ rank (piece_key p)

-- The pieces behind the last one with a key below this key are moved before those that were moved, the last one first.
pub record Moves (k : ℕ) (pieces merged left new : List Piece) : Type 0 where
  pub moved : List Piece
  pub from : pieces ≡ left ++ moved
  pub to : reverse new ≡ moved ++ reverse merged
  pub above : FirstAbove k moved
  pub below : LastBelow k left
