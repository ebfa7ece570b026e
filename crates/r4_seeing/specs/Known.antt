-- Keys that are known, and parts that are put among others (docs/volume.md, "Sight"). A key is its rank.
use Rattle.std.specs.Prelude.{◌≡◌, ℕ, ◌+◌, ◌<◌, ◌≤◌, List, ◌++◌, All, true, false, drop, length, take}
use Rattle.std.specs.Prelude.{slice_get, Some}
use Rattle.r4_base.specs.Key.{rank}
use Rattle.r4_base.specs.declared.key.Key.{Key}
use Rattle.r4_content.specs.Edited.{Intervals, is_in}
use Rattle.r4_content.specs.declared.seen.SeenPart.{SeenPart}
use Rattle.r4_content.specs.declared.seen.SeenPart.TheVariants.{One, Run}
use Rattle.r4_seeing.specs.declared.gaps.Gap.{Gap}
use Rattle.r4_seeing.specs.declared.gaps.Gap.TheVariants.{Known, New}

-- each key from one on up to another is known, or none is
abbrev pub AreKnown : Intervals → (from to : ℕ) → Type 0
AreKnown known from to = (k : ℕ) → from ≤ k → k < to → is_in known k ≡ true

abbrev pub AreNew : Intervals → (from to : ℕ) → Type 0
AreNew known from to = (k : ℕ) → from ≤ k → k < to → is_in known k ≡ false

-- The keys from one on are known up to this one, or new.
abbrev pub IsGap : Intervals → (from to : ℕ) → Gap → Type 0
IsGap known from to (Known key) = (from < rank key) × AreKnown known from (rank key)
IsGap known from to (New key) = (from < rank key) × (rank key ≤ to) × AreNew known from (rank key)

-- the key of a part, or the first one of a run
abbrev pub part_key : SeenPart → Key
part_key (One k v) = k
part_key (Run r) = r.from

-- The parts from the place on begin above the key, and the one before it does not.
pub record IsPlaceFor (parts : List SeenPart) (from : ℕ) (at : ℕ) : Type 0 where
  pub within : at ≤ length parts
  pub above : All (λ (p : SeenPart). from < rank (part_key p)) (drop at parts)
  pub last : (i : ℕ) (p : SeenPart) → i < at → at ≤ i + 1 → slice_get parts i ≡ Some p
      → rank (part_key p) ≤ from

-- The parts are put at the place for this key among the others.
pub record IsNoted (from : ℕ) (old parts new : List SeenPart) : Type 0 where
  pub at : ℕ
  pub place : IsPlaceFor old from at
  pub put : new ≡ take at old ++ (parts ++ drop at old)
