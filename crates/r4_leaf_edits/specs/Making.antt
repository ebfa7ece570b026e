-- How what a leaf gets is put together. A key is its rank.
use Rattle.std.specs.Prelude.{◌≡◌, ℕ, ◌+◌, ◌≤◌, [], ◌∷◌, ◌++◌, length, map, All}
use Rattle.std.specs.Prelude.{Bool, not, ◌&&◌, ◌||◌, if◌then◌else◌, Option, Some, None}
use Rattle.std.specs.List.{filter, flat_map}
use Rattle.std.specs.Option.{is_none}
use Rattle.r4_base.specs.Cell.{item_end, item_units, units_in}
use Rattle.r4_base.specs.Key.{IsKey, rank}
use Rattle.r4_base.specs.Node.{Item}
use Rattle.r4_base.specs.Value.{Value}
use Rattle.r4_base.specs.declared.key.Key.{Key}
use Rattle.r4_content.specs.Edited.{Intervals, Pairs, is_between, is_in, put_keys}
use Rattle.r4_content.specs.Held.{fill_pairs, interval_of, pair_of, run_pairs}
use Rattle.r4_content.specs.declared.edits.Edits.{Edits as HeldEdits}
use Rattle.r4_content.specs.declared.edits.Interval.{Interval}
use Rattle.r4_reach.specs.r4_leaf.Leaves.{MayBePut}
use Rattle.r4_reach.specs.r4_leaf.declared.remaking.KeyRange.{KeyRange}
use Rattle.r4_leaf_edits.specs.Made.{CutsWithin, cuts_in, items_in}
use Rattle.r4_leaf_edits.specs.declared.leaf_edits.LeafEdits.{LeafEdits}
use Rattle.r4_leaf_edits.specs.Suiting.{zero_pairs}
use Rattle.r4_reach.specs.Reach.{is_body}

abbrev pub range_of : KeyRange → ℕ × ℕ
range_of c = (rank c.from, rank c.to)

-- An item that may be put into a leaf of this range.
pub record IsOfRange (lo hi : ℕ) (it : Item) : Type 0 where
  pub put : MayBePut it
  pub low : lo ≤ rank it.key
  pub high : item_end it ≤ hi
  pub key : IsKey it.key

pub record AreSound (lo hi : ℕ) (x : LeafEdits) : Type 0 where
  pub cuts : CutsWithin lo hi (cuts_in x)
  pub items : All (IsOfRange lo hi) (items_in x)

-- An item of this key with one unit.
pub record IsUnit (key : Key) (v : Value) (it : Item) : Type 0 where
  pub fits : IsKey key
  pub same : it.key ≡ key
  pub units : item_units it ≡ (rank key, v) ∷ []
  pub put : MayBePut it
  pub end : item_end it ≡ rank key + 1

-- What lies in the range of these keys goes, and what lies in it of these units comes behind what came.
pub record Gains (lo hi : ℕ) (rs : Intervals) (ps : Pairs) (old new : LeafEdits) : Type 0 where
  pub cuts : (k : ℕ) → is_in (map range_of (cuts_in new)) k
      ≡ (is_in (map range_of (cuts_in old)) k || (is_between lo hi k && is_in rs k))
  pub units : units_in (items_in new) ≡ units_in (items_in old)
      ++ filter (λ p. is_between lo hi p.0) ps
  pub sound : AreSound lo hi old → AreSound lo hi new

-- All that lies in the range of these keys goes, and all that lies in it of these units comes.
pub record Gathers (lo hi : ℕ) (rs : Intervals) (ps : Pairs) (x : LeafEdits) : Type 0 where
  pub cuts : (k : ℕ) → is_in (map range_of (cuts_in x)) k ≡ (is_between lo hi k && is_in rs k)
  pub units : units_in (items_in x) ≡ filter (λ p. is_between lo hi p.0) ps
  pub sound : AreSound lo hi x

-- At most so many ranges come, and at most so many items.
pub record Grows (n : ℕ) (old new : LeafEdits) : Type 0 where
  pub cuts : length (cuts_in new) ≤ length (cuts_in old) + n
  pub items : length (items_in new) ≤ length (items_in old) + n

abbrev pub Sets : (lo hi : ℕ) → Pairs → LeafEdits → LeafEdits → Type 0
Sets lo hi ps old new = Gains lo hi (put_keys ps) ps old new

-- ---- of a command's edits

-- the bytes of zeros, fills and runs
abbrev pub bytes_of : HeldEdits → Pairs
bytes_of e = flat_map zero_pairs (map interval_of e.zeros.items)
    ++ (flat_map fill_pairs e.fills.items ++ flat_map run_pairs e.runs.items)

-- what is cut out and what is put in for them: where the body goes to extents, all its keys, and nothing
abbrev pub body_cuts : Option Interval → HeldEdits → Intervals
body_cuts None e = put_keys (bytes_of e)
body_cuts (Some body) e = interval_of body ∷ []

abbrev pub body_pairs : Option Interval → HeldEdits → Pairs
body_pairs None e = bytes_of e
body_pairs (Some body) e = []

-- whether a leaf gets a value: not where it is a body's and bodies are left out
abbrev pub is_kept : (bytes : Bool) → ℕ × Value → Bool
is_kept bytes p = bytes || not (is_body p.0)

-- the last of the values of each key that a leaf gets
abbrev pub values_set : (bytes : Bool) → Pairs → Pairs
values_set bytes [] = []
values_set bytes (p ∷ ps) =
    if is_kept bytes p && not (is_in (put_keys ps) p.0) then p ∷ values_set bytes ps
    else values_set bytes ps

-- all of it
abbrev pub all_cuts : Option Interval → HeldEdits → Intervals
all_cuts spread e = map interval_of e.cuts.items
    ++ (body_cuts spread e ++ put_keys (values_set (is_none spread) (map pair_of e.puts.items)))

abbrev pub all_pairs : Option Interval → HeldEdits → Pairs
all_pairs spread e = body_pairs spread e ++ values_set (is_none spread) (map pair_of e.puts.items)
