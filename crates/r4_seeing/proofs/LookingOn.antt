-- Looks one after another.
use Rattle.std.proofs.Common.{◌≡◌, ◌⊎◌, inl, inr, ℕ, ◌<◌, ◌≤◌, Bool, true, false, refl, sym, ap, ◌∙◌, arith}
use Rattle.std.specs.Prelude.{Option, Some, None, Result, Ok, Err, IfErr}
use Rattle.std.proofs.lemmas.Bool.Decides.{nat_tests}
use Rattle.std.proofs.lemmas.Option.{same_Some}
use Rattle.r4_base.specs.Key.{rank}
use Rattle.r4_cell.specs.Seen.{CellSeen}
use Rattle.r4_content.specs.Edited.{Intervals, is_in}
use Rattle.r4_search.specs.Pool.{Goes, PoolState}
use Rattle.r4_search.specs.declared.pool.FetchFault.{FetchFault}
use Rattle.r4_search.proofs.Walks.{goes_both}
use Rattle.r4_seeing.specs.Known.{AreKnown}
use Rattle.r4_seeing.specs.Looking.{KnowsBetween, KnowsMore, LookingSeen, MeetsBetween, StopsBetween}

pub knows_both : {P : Type 0} (a b c : LookingSeen P) → KnowsMore a b → KnowsMore b c → KnowsMore a c
knows_both a b c f g = record {
  root = g.root ∙ f.root;
  known = λ k is. g.known k (f.known k is);
  values = λ k is. g.values k (f.known k is) ∙ f.values k is;
  outside = λ k out. g.outside k out ∙ f.outside k out;
}

pub stops_after : (from to at end : ℕ) (old mid new : PoolState) (e : FetchFault) → from ≤ at → end ≤ to → Goes old mid
    → StopsBetween at end mid e new → StopsBetween from to old e new
stops_after from to at end old mid new e begin close g s = record {
  key = s.key;
  low = let le = s.low in omega (arith, le, begin);
  high = let lt = s.high in omega (arith, lt, close);
  mid = s.mid;
  before = goes_both old mid s.mid g s.before;
  stops = s.stops;
  after = s.after;
}

pub err_after : {A : Type 0} (r : Result A FetchFault) (from to at end : ℕ) (old mid new : PoolState) → from ≤ at
    → end ≤ to → Goes old mid → IfErr r (λ e. StopsBetween at end mid e new)
    → IfErr r (λ e. StopsBetween from to old e new)
err_after (Ok x) from to at end old mid new begin close g h = tt
err_after (Err e) from to at end old mid new begin close g h = stops_after from to at end old mid new e begin close g h

-- known up to a key, and on from there
pub known_on : (old new : Intervals) (from at to : ℕ) → ((k : ℕ) → is_in old k ≡ true → is_in new k ≡ true)
    → AreKnown old from at → AreKnown new at to → AreKnown new from to
known_on old new from at to more first last k le lt = elim
    (compare k at) [ inl low ↦ more k (first k le low) | inr high ↦ last k high lt ]
  where
    compare : (m n : ℕ) → (m < n) ⊎ (n ≤ m)
    compare m n = grind (arith, nat_tests)

-- ---- what was met, and what became known

pub meets_none : (from to : ℕ) (p : PoolState) → MeetsBetween from to p p
meets_none from to p i c is was = absurd (let e = sym is ∙ was in cc)

pub knows_none : (from to : ℕ) (known : Intervals) → KnowsBetween from to known known
knows_none from to known k is out = absurd (let e = sym is ∙ out in cc)

-- the keys of fewer are keys of more
pub meets_wider : (from to at end : ℕ) (old new : PoolState) → from ≤ at → end ≤ to → MeetsBetween at end old new
    → MeetsBetween from to old new
meets_wider from to at end old new begin close h i c is was =
    let (key, low, high, up, down) = h i c is was in
    (key, omega (arith, begin, low), omega (arith, high, close), up, down)

pub knows_wider : (from to at end : ℕ) (old new : Intervals) → from ≤ at → end ≤ to → KnowsBetween at end old new
    → KnowsBetween from to old new
knows_wider from to at end old new begin close h k is was =
    let (low, high) = h k is was in (omega (arith, begin, low), omega (arith, high, close))

-- one look, and another behind it
pub meets_both : (from to at : ℕ) (old mid new : PoolState) → from ≤ at → Goes mid new → MeetsBetween from to old mid
    → MeetsBetween at to mid new → MeetsBetween from to old new
meets_both from to at old mid new begin g first last i c is was = by (mid.met i) refl
  where
    by : (m : Option CellSeen) → mid.met i ≡ m → (key : ℕ) × (from ≤ key) × (key < to) × (rank c.lo ≤ key) ×
        (key < rank c.hi)
    by (Some x) then =
        let same : x ≡ c = same_Some x c (sym (g.met i x then) ∙ is) in
        first i c (then ∙ ap (λ (y : CellSeen). Some y) same) was
    by None then = meets_wider from to at to mid new begin (omega arith) last i c is then

pub knows_only_both : (from to at : ℕ) (old mid new : Intervals) → from ≤ at → KnowsBetween from to old mid
    → KnowsBetween at to mid new → KnowsBetween from to old new
knows_only_both from to at old mid new begin first last k is was = by (is_in mid k) refl
  where
    by : (b : Bool) → is_in mid k ≡ b → (from ≤ k) × (k < to)
    by true then = first k then was
    by false then = knows_wider from to at to mid new begin (omega arith) last k is then
