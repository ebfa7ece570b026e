-- What is known of the things that a tree holds, to judge each of them at once (docs/check.md, "Objects").
use Rattle.std.specs.Prelude.{◌≡◌, ◌≢◌, ℕ, ◌+◌, ◌^◌, ◌<◌, List, length, Bool, true, not, ◌&&◌, Option, filter, is_some, sum_by}
use Rattle.std.specs.Option.{option_map_or}
use Rattle.r4_base.specs.Volume.{object_of}
use Rattle.r4_check_objects.specs.Held.{counted, is_stat_data}
use Rattle.r4_check_objects.specs.Objects.{facts_in, head_of, ids_of, is_owner, is_reached, share_under, sum_of}
use Rattle.r4_check_objects.specs.declared.heads.Firsts.{Firsts}
use Rattle.r4_check_objects.specs.declared.held.Held.{Held}
use Rattle.r4_check_objects.specs.declared.judging.Judge.{Judge}
use Rattle.r4_check_objects.specs.declared.totals.Totals.{Totals}
use Rattle.r4_check_objects.specs.declared.known.Known.{Known}
use Rattle.r4_check_objects.specs.declared.table.Table.{Table}
use Rattle.r4_check_objects.specs.Table.{value_at}
use Rattle.r4_check_objects.specs.declared.sums.Part.{Part}
use Rattle.r4_check_objects.specs.declared.sums.Part.TheVariants.{Entries, Directories, Links, Reached, Tails, Blocks, Past, Strays}

-- These are the first things under their ids.
pub record AreHeads (found : List Held) (heads : Table (Option Held)) : Type 0 where
  pub each : (q : ℕ) → value_at heads q ≡ head_of found q

-- whether a thing comes first, where this one did so far
abbrev pub goes_first : (before : Option Held) → Held → Bool
goes_first before h = option_map_or (λ f. not (is_stat_data f) && is_stat_data h) before true

-- These are the first things, and the ids.
pub record AreFirsts (found : List Held) (f : Firsts) : Type 0 where
  pub heads : AreHeads found f.heads
  pub ids : f.ids.keys ≡ ids_of found

-- stat data of an object that does not own its id
abbrev pub is_other : List Held → Held → Bool
is_other found h = is_some (facts_in h) && not (is_owner found (object_of h.key))

-- What is looked up for each thing: owners, other objects, and what the root reaches.
pub record IsKnown (found : List Held) (k : Known) : Type 0 where
  pub heads : AreHeads found k.heads
  pub others : k.others.items ≡ filter (is_other found) found
  pub reached : (q : ℕ) → value_at k.reached q ≡ is_reached found q

-- These are the sums of a part, as they are counted.
pub record AreSums (part : Part) (found : List Held) (sums : Table ℕ) : Type 0 where
  pub each : (q : ℕ) → value_at sums q ≡ counted (sum_of part found q)

-- These are the sums of a part over the first things, where each share is judged by all that was found.
pub record AreSumsOf (part : Part) (found before : List Held) (sums : Table ℕ) : Type 0 where
  pub each : (q : ℕ) → value_at sums q ≡ counted (sum_by (share_under part found q) before)

-- A number is added under an id, and nothing under the others.
pub record AddsUnder (id more : ℕ) (old new : Table ℕ) : Type 0 where
  pub here : value_at new id ≡ counted (value_at old id + more)
  pub others : (q : ℕ) → q ≢ id → value_at new q ≡ value_at old q

-- These are the sums of each part.
pub record AreTotals (found : List Held) (t : Totals) : Type 0 where
  pub entries : AreSums Entries found t.entries
  pub directories : AreSums Directories found t.directories
  pub links : AreSums Links found t.links
  pub reached : AreSums Reached found t.reached
  pub tails : AreSums Tails found t.tails
  pub blocks : AreSums Blocks found t.blocks
  pub past : AreSums Past found t.past
  pub strays : AreSums Strays found t.strays

-- These are the sums of each part over the first things.
pub record AreTotalsOf (found before : List Held) (t : Totals) : Type 0 where
  pub entries : AreSumsOf Entries found before t.entries
  pub directories : AreSumsOf Directories found before t.directories
  pub links : AreSumsOf Links found before t.links
  pub reached : AreSumsOf Reached found before t.reached
  pub tails : AreSumsOf Tails found before t.tails
  pub blocks : AreSumsOf Blocks found before t.blocks
  pub past : AreSumsOf Past found before t.past
  pub strays : AreSumsOf Strays found before t.strays

-- All this is of these things, which fit into memory.
pub record IsJudge (found : List Held) (j : Judge) : Type 0 where
  pub known : IsKnown found j.known
  pub totals : AreTotals found j.totals
  pub few : length found < 2 ^ 64
