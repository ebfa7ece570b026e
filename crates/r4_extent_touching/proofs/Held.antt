-- Cells that hold keys stay, and one that was looked at holds the keys of its stretch.
use Rattle.std.proofs.Common.{◌≡◌, ◌⊎◌, inl, inr, ℕ, ◌+◌, ◌<◌, ◌≤◌, Bool, true, false, List, ◌∷◌, ◌||◌, map, refl}
use Rattle.std.proofs.Common.{sym, ap, ◌∙◌, arith}
use Rattle.std.specs.Prelude.{Option, Some, None}
use Rattle.std.specs.Option.{option_map}
use Rattle.std.proofs.lemmas.Bool.Decides.{nat_tests}
use Rattle.r4_base.specs.Key.{least, rank, top}
use Rattle.r4_base.specs.Tree.{Node}
use Rattle.r4_base.specs.Value.{Value}
use Rattle.r4_touching.specs.r4_cell.Seen.{CellSeen, node_of}
use Rattle.r4_touching.specs.r4_cell.declared.change.Root.{Root}
use Rattle.r4_content.specs.Edited.{is_between, is_in}
use Rattle.r4_content.specs.Held.{interval_of}
use Rattle.r4_content.specs.declared.edits.Interval.{Interval}
use Rattle.r4_marking.specs.r4_search.Pool.{Goes, IsOf, PoolState}
use Rattle.r4_touching.proofs.r4_seeing.Hanging.{met_for, still_hung}
use Rattle.r4_touching.specs.r4_seeing.Looking.{met_cells}
use Rattle.r4_touching.specs.r4_sight.Stretches.{IsStretch, Looks}
use Rattle.r4_touching.specs.r4_sight.declared.stretch.Stretch.{Stretch}
use Rattle.r4_touching.specs.Touching.{Touches}
use Rattle.r4_extent_touching.specs.Holding.{AreHeld, IsHeld}

-- ---- a pool that has met more

module _ (old new : PoolState) (g : Goes old new) where
  pub held_still : (k : ℕ) → IsHeld (met_cells old) k → IsHeld (met_cells new) k
  held_still k (i, c, is, holds) = (i, c, stays i c (old.met i) refl is, holds)
    where
      stays : (i : ℕ) (c : Node Value) (o : Option CellSeen) → old.met i ≡ o
          → option_map node_of (old.met i) ≡ Some c → option_map node_of (new.met i) ≡ Some c
      stays i c (Some x) was is = ap (option_map node_of) (g.met i x was) ∙ (sym (ap (option_map node_of) was) ∙ is)
      stays i c None was is = absurd (let none = sym (ap (option_map node_of) was) ∙ is in cc)

  pub all_still : (keys : ℕ → Bool) → AreHeld old keys → AreHeld new keys
  all_still keys h k is low high = held_still k (h k is low high)

-- ---- one cell

pub touches_looked : (root : Root) (key : ℕ) (old new : PoolState) → ((level : ℕ) → old.keeps level ≡ true)
    → least ≤ key → key < top → Goes old new → Looks root key old new
    → Touches root (is_between key (key + 1)) old new
touches_looked root key old new keeps low high g l = record {
  goes = g;
  hung = still_hung root key old new keeps g l;
  met = λ i c is was. let (up, down) = met_for root key old new keeps g l low high i c is was in
      (key, itself key, up, down);
}
  where
    itself : (k : ℕ) → is_between k (k + 1) k ≡ true
    itself k = grind (arith, nat_tests)

-- the cell of a stretch holds its keys, and was met
pub stretch_held : (old new : PoolState) (from to : ℕ) (s : Stretch) → ((level : ℕ) → new.keeps level ≡ true)
    → IsStretch (IsOf old) new from to s → AreHeld new (is_between from (rank s.to))
stretch_held old new from to s keeps h k is low high = (
  h.cell.id,
  node_of h.cell,
  ap (option_map node_of) (h.met (keeps h.cell.level)),
  h.of.holds k (grind (arith, nat_tests, is)) (grind (arith, nat_tests, is)),
)

-- ---- keys one after another

-- the keys of an interval, up to one
abbrev pub AreSoFar : (from at : ℕ) → PoolState → Type 0
AreSoFar from at p = AreHeld p (is_between from at)

pub so_far_on : (from at end : ℕ) (old new : PoolState) → Goes old new → AreSoFar from at old
    → AreHeld new (is_between at end) → AreSoFar from end new
so_far_on from at end old new g before here k is low high = elim (compare k at) [
  | inl less ↦ held_still old new g k (before k (grind (arith, nat_tests, is, less)) low high)
  | inr past ↦ here k (grind (arith, nat_tests, is, past)) low high
]
  where
    compare : (m n : ℕ) → (m < n) ⊎ (n ≤ m)
    compare m n = grind (arith, nat_tests)

-- nothing is below the first key of a tree
pub none_before : (from at : ℕ) (p : PoolState) → (at ≡ from) ⊎ (at ≡ least) → AreSoFar from at p
none_before from at p (inl e) k is low high = absurd (grind (arith, nat_tests, is, e))
none_before from at p (inr e) k is low high = absurd (grind (arith, nat_tests, is, e, low))

-- all of them, where the end was reached, or that of all keys
pub all_held : (from to at : ℕ) (p : PoolState) → (to ≤ at) ⊎ (top ≤ at) → AreSoFar from at p
    → AreHeld p (is_between from to)
all_held from to at p (inl past) h k is low high = h k (grind (arith, nat_tests, is, past)) low high
all_held from to at p (inr past) h k is low high = h k (grind (arith, nat_tests, is, past, high)) low high

-- ---- one interval, and the rest

pub held_both : (mid new : PoolState) (first : Interval) (rest keys : List Interval) → keys ≡ first ∷ rest
    → Goes mid new → AreHeld mid (is_between (rank first.from) (rank first.to))
    → AreHeld new (is_in (map interval_of rest)) → AreHeld new (is_in (map interval_of keys))
held_both mid new first rest keys are g one others k is low high =
    by (is_between (rank first.from) (rank first.to) k) refl
    (sym (ap (λ (xs : List Interval). is_in (map interval_of xs) k) are) ∙ is)
  where
    by : (b : Bool) → is_between (rank first.from) (rank first.to) k ≡ b
        → (b || is_in (map interval_of rest) k) ≡ true → IsHeld (met_cells new) k
    by true at h = held_still mid new g k (one k at low high)
    by false at h = others k h low high
