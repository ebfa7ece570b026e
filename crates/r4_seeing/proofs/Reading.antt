-- What is kept as more is read.
use Rattle.std.proofs.Common.{◌≡◌, ◌⊎◌, inl, inr, ℕ, ◌+◌, ◌<◌, ◌≤◌, Bool, true, false, List, [], ◌∷◌, ◌++◌, map, refl}
use Rattle.std.proofs.Common.{sym, ap, subst, ◌∙◌, arith}
use Rattle.std.specs.Prelude.{Option, Some, None, Contains, ◌||◌}
use Rattle.std.specs.Option.{option_map}
use Rattle.std.specs.FinMap.{find}
use Rattle.std.specs.Ordering.{nat_cmp}
use Rattle.std.proofs.lemmas.Bool.Decides.{nat_tests}
use Rattle.std.proofs.lemmas.List.{map-append}
use Rattle.r4_base.specs.Key.{least, rank, top}
use Rattle.r4_cell.specs.Seen.{CellSeen, node_of}
use Rattle.r4_cell.specs.declared.change.Root.{Root}
use Rattle.r4_content.specs.Edited.{Intervals, is_between, is_in}
use Rattle.r4_content.specs.Held.{interval_of}
use Rattle.r4_content.specs.declared.edits.Interval.{Interval}
use Rattle.r4_content.specs.declared.seen.SeenPart.{SeenPart}
use Rattle.r4_search.specs.Path.{root_name}
use Rattle.r4_search.specs.Pool.{Goes, IsOf, PoolState}
use Rattle.r4_sight.specs.Parts.{all_pairs}
use Rattle.r4_sight.specs.Stretches.{IsStretch, Looks}
use Rattle.r4_sight.specs.declared.stretch.Stretch.{Stretch}
use Rattle.r4_seeing.specs.Known.{AreKnown, AreNew, IsNoted}
use Rattle.r4_seeing.specs.Looking.{IsLooking, KnowsBetween, MeetsBetween, met_cells}
use Rattle.r4_seeing.proofs.Hanging.{met_for, still_found, still_hung}
use Rattle.r4_seeing.proofs.Noting.{IsShown, found_out, is_known, known_more, noted, noted_full, values_stay, was_known}

-- ---- keys that are new

-- one more interval that does not have the first key, and begins behind them if above it
pub new_more : (known : Intervals) (r : ℕ × ℕ) (from end next : ℕ) → AreNew known from end → next ≤ end
    → is_between r.0 r.1 from ≡ false → (from < r.0 → next ≤ r.0) → AreNew (known ++ r ∷ []) from next
new_more known r from end next h le out begins = λ k low high. known_more known r k
    ∙ by k low high (is_in known k) (h k low (omega (arith, high, le)))
  where
    compare : (m n : ℕ) → (m < n) ⊎ (n ≤ m)
    compare m n = grind (arith, nat_tests)

    outside : (k : ℕ) → from ≤ k → k < next → is_between r.0 r.1 k ≡ false
    outside k low high = elim (compare from r.0) [
      | inl before ↦ (let far = begins before in grind (arith, nat_tests, far, high))
      | inr past ↦ grind (arith, nat_tests, past, out, low)
    ]

    by : (k : ℕ) → from ≤ k → k < next → (b : Bool) → b ≡ false → (b || is_between r.0 r.1 k) ≡ false
    by k low high true is = absurd cc
    by k low high false is = outside k low high

-- ---- over a pool that has met more

module _ (root : Root) (at : ℕ) (old new : PoolState) (parts : List SeenPart) (known : Intervals)
    (h : IsLooking old root parts known) (g : Goes old new) (l : Looks root at old new) where
  pub stays : IsLooking new root parts known
  stays = record {
    height = h.height;
    begins = g.known (root_name root) h.begins;
    keeps = λ level. g.keeps level ∙ h.keeps level;
    hung = still_hung root at old new h.keeps g l h.hung;
    full = h.full;
    found = still_found root at old new h.keeps g l known (all_pairs parts) h.found;
  }

  -- each cell that was met has the key that was looked at
  pub meets_at : (end : ℕ) → least ≤ at → at < end → end ≤ top → MeetsBetween at end old new
  meets_at end low lt high i c is was =
      let below : at < top = omega (arith, lt, high) in
      let (up, down) = met_for root at old new h.keeps g l low below i c is was in
      (at, omega arith, lt, up, down)

  module _ (end : ℕ) (s : Stretch) (is : IsStretch (IsOf old) new at end s) (low : least ≤ at) (high : end ≤ top)
      (fresh : AreNew known at end) (now : List SeenPart) (n : IsNoted at parts s.parts.items now) where
    shown : IsShown (met_cells new) at (rank s.to) s.parts.items
    shown = record {
      id = is.cell.id;
      cell = node_of is.cell;
      is = ap (option_map node_of) (is.met (stays.keeps is.cell.level));
      order = is.of.onward;
      low = low;
      high = let within = is.of.within in omega (arith, within, high);
      holds = is.of.holds;
      pairs = is.of.pairs;
      rises = is.of.rises;
      full = is.of.full;
    }

    new_here : AreNew known at (rank s.to)
    new_here k le lt = let within = is.of.within in fresh k le (omega (arith, lt, within))

    pub goes_on : IsLooking new root now (known ++ (at, rank s.to) ∷ [])
    goes_on = record {
      height = stays.height;
      begins = stays.begins;
      keeps = stays.keeps;
      hung = stays.hung;
      full = noted_full (met_cells new) known parts s.parts.items now at (rank s.to) stays.found h.full new_here shown
          n;
      found = noted (met_cells new) known parts s.parts.items now at (rank s.to) stays.found h.full new_here shown n;
    }

    pub values_are : (k : ℕ) → is_in known k ≡ true → find nat_cmp k (all_pairs now) ≡ find nat_cmp k (all_pairs parts)
    values_are k was = values_stay (met_cells new) known parts s.parts.items now at
        (rank s.to) stays.found h.full new_here shown n k was

    pub outside_are : (k : ℕ) → (k < least) ⊎ (top ≤ k) → find nat_cmp k (all_pairs now)
        ≡ find nat_cmp k (all_pairs parts)
    outside_are k out = found_out (met_cells new) known parts s.parts.items now at
        (rank s.to) stays.found h.full new_here shown n k (apart out)
      where
        apart : (k < least) ⊎ (top ≤ k) → (k < at) ⊎ (rank s.to ≤ k)
        apart (inl lt) = inl (omega (arith, lt, low))
        apart (inr le) = let within = is.of.within in inr (omega (arith, le, within, high))

pub known_behind : (items : List Interval) (r : Interval) → map interval_of (items ++ r ∷ [])
    ≡ map interval_of items ++ (rank r.from, rank r.to) ∷ []
known_behind items r = map-append interval_of items (r ∷ [])

pub all_known : (known : Intervals) (from to : ℕ) → AreKnown (known ++ (from, to) ∷ []) from to
all_known known from to k le lt = is_known known (from, to) k le lt

-- the keys of one more interval are known, and no others
pub knows_at : (known : Intervals) (from to end : ℕ) → to ≤ end → KnowsBetween from end known (known ++ (from, to) ∷ [])
knows_at known from to end le k is out =
    inside (sym (ap (λ (b : Bool). b || is_between from to k) out) ∙ (sym (known_more known (from, to) k) ∙ is))
  where
    inside : is_between from to k ≡ true → (from ≤ k) × (k < end)
    inside it = (grind (arith, nat_tests, it), let lt : k < to = grind (arith, nat_tests, it) in omega (arith, lt, le))
