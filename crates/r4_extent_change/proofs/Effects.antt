-- What all three kinds of steps do to units, as one effect.
use Rattle.std.proofs.Common.{◌≡◌, ℕ, Bool, true, false, List, refl}
use Rattle.std.specs.Prelude.{◌||◌, Option, None, Some, if◌then◌else◌, unwrap_or}
use Rattle.std.specs.Option.{is_some, option_map}
use Rattle.std.proofs.lemmas.Bool.{and_parts}
use Rattle.r4_base.specs.Value.{Byte, Value}
use Rattle.r4_build.proofs.Changing.{same_effect}
use Rattle.r4_build.proofs.Made.{all_keys}
use Rattle.r4_build.specs.Building.{LiesInLeaf, set_by}
use Rattle.r4_build.specs.Making.{changed_among}
use Rattle.r4_content.specs.Edited.{Edits, changed, is_in}
use Rattle.r4_extent_loss.specs.r4_extent_build.Looping.{keys_of_each}
use Rattle.r4_extent_loss.specs.r4_extent_build.Setting.{bytes_after}
use Rattle.r4_extent_renew.specs.Overwriting.{blocks_among, bytes_set, in_blocks, is_set_in}
use Rattle.r4_build.specs.r4_measure.r4_cell.Seen.{CellSeen}
use Rattle.r4_build.specs.r4_measure.r4_patch.Effect.{HasEffect, Placed, either, in_extent, later}
use Rattle.r4_build.specs.r4_measure.r4_patch.Joining.{patch_of_change}
use Rattle.r4_build.specs.r4_measure.r4_reach.Touched.{Body}
use Rattle.r4_build.specs.r4_measure.r4_work.Remaking.{Changes}
use Rattle.r4_build.specs.r4_measure.r4_work.Working.{HasNoEffect}
use Rattle.r4_build.specs.r4_measure.r4_work.declared.working.WorkingSet.{WorkingSet}
use Rattle.r4_extent_change.specs.Beside.{turning_among, without_bytes}
use Rattle.r4_extent_change.specs.Changing.{grown_keys, grown_values}

set_byte : (o : Option ℕ) → is_some o ≡ true → in_extent (option_map (λ (x : ℕ). Byte x) o) ≡ Some (Byte (unwrap_or o 0), false)
set_byte None h = absurd cc
set_byte (Some x) h = refl

-- a byte that is set in a block is the one that stands there afterwards
set_as_after : (e : Edits) (cells : List CellSeen) (k : ℕ) → is_set_in e cells k ≡ true → bytes_set e k ≡ bytes_after e k
set_as_after e cells k h = set_byte _ (and_parts (in_blocks cells k) _ h).1

keys_again : (one two three all : Bool) → all ≡ three → (all || (two || one)) ≡ (((false || one) || two) || three)
keys_again one two three true h = by_three one two three h
  where
    by_three : (one two three : Bool) → true ≡ three → true ≡ (((false || one) || two) || three)
    by_three true two three h = refl
    by_three false true three h = refl
    by_three false false three h = h
keys_again one two three false h = by_three one two three h
  where
    by_three : (one two three : Bool) → false ≡ three → (two || one) ≡ (((false || one) || two) || three)
    by_three true true false h = refl
    by_three true false false h = refl
    by_three false true false h = refl
    by_three false false false h = refl
    by_three one two true h = absurd cc

values_again : (one two three all : Bool) (x y z : Option (Placed Value)) → all ≡ three → (((false || one) || two) || three) ≡ true → (one ≡ true → x ≡ y)
    → (if three then z else (if two then y else (if one then x else None))) ≡ (if all then z else y)
values_again one two true true x y z h on same = refl
values_again one true false false x y z h on same = refl
values_again true false false false x y z h on same = same refl
values_again false false false false x y z h on same = absurd cc
values_again one two true false x y z h on same = absurd cc
values_again one two false true x y z h on same = absurd cc

module _ (b : Body) (e : Edits) (cells : List CellSeen) (w0 w1 w2 now : WorkingSet) (at : CellSeen → ℕ → Bool) where
  abbrev beside : Edits
  beside = without_bytes e

  abbrev one : ℕ → Bool
  one = is_set_in e (blocks_among cells)

  abbrev two : ℕ → Bool
  two = keys_of_each at (turning_among b e cells)

  abbrev three : ℕ → Bool
  three = changed_among beside cells

  pub whole_effect : HasNoEffect w0 → Changes w0 w1 one (bytes_set e) → Changes w1 w2 two (bytes_after e) → Changes w2 now three (set_by beside)
      → ((k : ℕ) → is_in (changed beside) k ≡ true → LiesInLeaf cells k) → HasEffect (patch_of_change now.change) (grown_keys b e cells at) (grown_values e)
  whole_effect start overwritten turned made lie =
      let nothing : ℕ → Bool = λ k. false in
      let no_value : ℕ → Option (Placed Value) = λ k. None in
      let all = made (either (either nothing one) two) (later two (bytes_after e) (later one (bytes_set e) no_value)) (turned (either nothing one) (later one (bytes_set e) no_value) (overwritten nothing no_value start)) in
      same_effect (patch_of_change now.change) (either (either (either nothing one) two) three) (grown_keys b e cells at) (later three (set_by beside) (later two (bytes_after e) (later one (bytes_set e) no_value))) (grown_values e) all
      (λ k. keys_again (one k) (two k) (three k) (is_in (changed beside) k) (all_keys beside cells lie k))
      (λ k on. values_again (one k) (two k) (three k) (is_in (changed beside) k) (bytes_set e k) (bytes_after e k) (set_by beside k) (all_keys beside cells lie k) on (set_as_after e (blocks_among cells) k))
