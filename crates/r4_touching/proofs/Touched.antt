-- What a way to a key does to a pool, and several of them.
use Rattle.std.proofs.Common.{◌≡◌, ◌⊎◌, inl, inr, ℕ, ◌+◌, ◌<◌, ◌≤◌, Bool, true, false, List, ◌∷◌, ◌||◌, map, refl, sym}
use Rattle.std.proofs.Common.{ap, ◌∙◌, arith}
use Rattle.std.specs.Prelude.{◌≢◌, Option, Some, None, IfNone, IfSome}
use Rattle.std.specs.Option.{option_map}
use Rattle.std.proofs.lemmas.Bool.Decides.{nat_tests}
use Rattle.std.proofs.lemmas.Option.{same_Some}
use Rattle.r4_base.specs.Key.{least, rank, top}
use Rattle.r4_base.specs.declared.key.Key.{Key}
use Rattle.r4_cell.specs.Seen.{CellSeen}
use Rattle.r4_cell.specs.declared.change.Root.{Root}
use Rattle.r4_content.specs.Edited.{is_between, is_in}
use Rattle.r4_content.specs.Held.{interval_of}
use Rattle.r4_content.specs.declared.edits.Interval.{Interval}
use Rattle.r4_seeing.specs.r4_search.Path.{MeetsOn}
use Rattle.r4_seeing.specs.r4_search.Pool.{Goes, PoolState}
use Rattle.r4_seeing.specs.r4_search.declared.pool.FetchFault.{FetchFault}
use Rattle.r4_seeing.proofs.r4_search.Walks.{goes_both, goes_same}
use Rattle.r4_seeing.specs.r4_sight.Stretches.{IsWaysEnd, Looks, StopsAt}
use Rattle.r4_seeing.proofs.r4_sight.Fetching.{looks_only}
use Rattle.r4_seeing.proofs.Hanging.{met_for, still_hung}
use Rattle.r4_touching.specs.Touching.{AreHeld, AreInLeaves, EndsLeaf, IsInLeaf, StopsFor, Touches}

-- ---- one way

pub touches_one : (root : Root) (key : ℕ) (old new : PoolState) → ((level : ℕ) → old.keeps level ≡ true) → least ≤ key
    → key < top → Goes old new → MeetsOn root key old new → Touches root (is_between key (key + 1)) old new
touches_one root key old new keeps low high g way =
    let l : Looks root key old new = looks_only root key old new way in
    record {
      goes = g;
      hung = still_hung root key old new keeps g l;
      met = λ i c is was. let (up, down) = met_for root key old new keeps g l low high i c is was in
          (key, itself key, up, down);
    }
  where
    itself : (k : ℕ) → is_between k (k + 1) k ≡ true
    itself k = grind (arith, nat_tests)

pub stops_one : (key : ℕ) (old new : PoolState) (e : FetchFault) → least ≤ key → key < top → Goes old new
    → StopsAt key old e new → StopsFor (is_between key (key + 1)) old e new
stops_one key old new e low high g s = record {
  key = key;
  low = low;
  high = high;
  is = itself key;
  mid = old;
  before = goes_same old;
  stops = s;
  after = g;
}
  where
    itself : (k : ℕ) → is_between k (k + 1) k ≡ true
    itself k = grind (arith, nat_tests)

-- ---- several ways

pub touches_none : (root : Root) (keys : ℕ → Bool) (p : PoolState) → Touches root keys p p
touches_none root keys p = record
    { goes = goes_same p; hung = λ h. h; met = λ i c is was. absurd (let e = sym is ∙ was in cc) }

pub touches_wider : (root : Root) (keys more : ℕ → Bool) (old new : PoolState)
    → ((k : ℕ) → keys k ≡ true → more k ≡ true) → Touches root keys old new → Touches root more old new
touches_wider root keys more old new all t = record {
  goes = t.goes;
  hung = t.hung;
  met = λ i c is was. let (key, at, up, down) = t.met i c is was in (key, all key at, up, down);
}

pub touches_both : (root : Root) (keys : ℕ → Bool) (old mid new : PoolState) → Touches root keys old mid
    → Touches root keys mid new → Touches root keys old new
touches_both root keys old mid new a b = record {
  goes = goes_both old mid new a.goes b.goes;
  hung = λ h. b.hung (a.hung h);
  met = λ i c is was. by i c is was (mid.met i) refl;
}
  where
    by : (i : ℕ) (c : CellSeen) → new.met i ≡ Some c → old.met i ≡ None → (m : Option CellSeen) → mid.met i ≡ m
        → (key : ℕ) × (keys key ≡ true) × (rank c.lo ≤ key) × (key < rank c.hi)
    by i c is was (Some x) then =
        let same : x ≡ c = same_Some x c (sym (b.goes.met i x then) ∙ is) in
        a.met i c (then ∙ ap (λ (y : CellSeen). Some y) same) was
    by i c is was None then = b.met i c is then

pub stops_wider : (keys more : ℕ → Bool) (old mid new : PoolState) (e : FetchFault)
    → ((k : ℕ) → keys k ≡ true → more k ≡ true) → Goes old mid → StopsFor keys mid e new → StopsFor more old e new
stops_wider keys more old mid new e all g s = record {
  key = s.key;
  low = s.low;
  high = s.high;
  is = all s.key s.is;
  mid = s.mid;
  before = goes_both old mid s.mid g s.before;
  stops = s.stops;
  after = s.after;
}

pub in_leaf_still : (old new : PoolState) (k : ℕ) → Goes old new → IsInLeaf old k → IsInLeaf new k
in_leaf_still old new k g h = record
    { leaf = h.leaf; met = g.met h.leaf.id h.leaf h.met; level = h.level; from = h.from; below = h.below }

-- the keys of an interval, up to one
abbrev pub AreSoFar : (from at : ℕ) → PoolState → Type 0
AreSoFar from at p = (k : ℕ) → from ≤ k → k < at → IsInLeaf p k

pub within : (from to key k : ℕ) → from ≤ key → key < to → is_between key (key + 1) k ≡ true → is_between from to k
    ≡ true
within from to key k low high at = grind (arith, nat_tests, low, high, at)

pub so_far_on : (from at end : ℕ) (old new : PoolState) → Goes old new → AreSoFar from at old
    → (at < end) × ((k : ℕ) → at ≤ k → k < end → IsInLeaf new k) → AreSoFar from end new
so_far_on from at end old new g before (on, here) k low high = elim (compare k at) [
  | inl less ↦ in_leaf_still old new k g (before k low less)
  | inr past ↦ here k past high
]
  where
    compare : (m n : ℕ) → (m < n) ⊎ (n ≤ m)
    compare m n = grind (arith, nat_tests)

pub all_in : (from to at : ℕ) (p : PoolState) → to ≤ at → AreSoFar from at p → AreInLeaves p (is_between from to)
all_in from to at p past h k is low high =
    let a : from ≤ k = grind (arith, nat_tests, is) in
    let b : k < to = grind (arith, nat_tests, is) in
    h k a (omega (arith, b, past))

-- ---- where the way ends

pub ends_of : (p : PoolState) (key : ℕ) (c : CellSeen) (o : Option Key) → ((level : ℕ) → p.keeps level ≡ true)
    → IfSome o (λ end. (c.level ≡ 1) × (end ≡ c.hi)) → IfNone o (c.level ≢ 1) → IsWaysEnd p key c
    → EndsLeaf p key (option_map (λ k. rank k) o)
ends_of p key c (Some end) keeps (level, is) none w =
    let hi = ap rank is in
    let below = w.below in (
      omega (arith, below, hi),
      (λ k low high. record {
        leaf = c;
        met = w.met (keeps c.level);
        level = level;
        from =
            (let from = w.from in omega (arith, from, low));
        below = omega (arith, high, hi);
      }),
    )
ends_of p key c None keeps some other w = elim w.ends [
  | inl leaf ↦ absurd (other leaf)
  | inr (span, among, inside) ↦ record
      { twig = c; met = w.met (keeps c.level); span = span; among = among; within = inside }
]

-- ---- one interval, and the rest

-- the keys of the first interval, as far as they are keys of a tree
pub first_all : (first : Interval) (rest keys : List Interval) (from to : ℕ) → keys ≡ first ∷ rest
    → rank first.from ≤ from → to ≤ rank first.to → (k : ℕ) → is_between from to k ≡ true
    → is_in (map interval_of keys) k ≡ true
first_all first rest keys from to are low high k is =
    ap (λ (xs : List Interval). is_in (map interval_of xs) k) are
    ∙ ap (λ (b : Bool). b || is_in (map interval_of rest) k)
    (wider from to (rank first.from) (rank first.to) low high is)
  where
    wider : (a b c d : ℕ) → c ≤ a → b ≤ d → is_between a b k ≡ true → is_between c d k ≡ true
    wider a b c d l h at = grind (arith, nat_tests, l, h, at)

pub rest_all : (first : Interval) (rest keys : List Interval) → keys ≡ first ∷ rest → (k : ℕ)
    → is_in (map interval_of rest) k ≡ true → is_in (map interval_of keys) k ≡ true
rest_all first rest keys are k is = ap (λ (xs : List Interval). is_in (map interval_of xs) k) are
    ∙ by (is_between (rank first.from) (rank first.to) k) is
  where
    by : (b : Bool) → is_in (map interval_of rest) k ≡ true → (b || is_in (map interval_of rest) k) ≡ true
    by true h = refl
    by false h = h

pub in_first_or_rest : (first : Interval) (rest keys : List Interval) (from to : ℕ) → keys ≡ first ∷ rest
    → (from ≡ rank first.from) ⊎ (from ≡ least) → (to ≡ rank first.to) ⊎ (to ≡ top)
    → (k : ℕ) → is_in (map interval_of keys) k ≡ true → least ≤ k → k < top
    → (is_between from to k ≡ true) ⊎ (is_in (map interval_of rest) k ≡ true)
in_first_or_rest first rest keys from to are low high k is up down =
    by (is_between (rank first.from) (rank first.to) k) refl
    (sym (ap (λ (xs : List Interval). is_in (map interval_of xs) k) are) ∙ is)
  where
    begins : is_between (rank first.from) (rank first.to) k ≡ true → (from ≡ rank first.from) ⊎ (from ≡ least)
        → from ≤ k
    begins at (inl e) = let a : rank first.from ≤ k = grind (arith, nat_tests, at) in omega (arith, a, e)
    begins at (inr e) = omega (arith, up, e)

    ends : is_between (rank first.from) (rank first.to) k ≡ true → (to ≡ rank first.to) ⊎ (to ≡ top) → k < to
    ends at (inl e) = let a : k < rank first.to = grind (arith, nat_tests, at) in omega (arith, a, e)
    ends at (inr e) = omega (arith, down, e)

    between : (a b : ℕ) → a ≤ k → k < b → is_between a b k ≡ true
    between a b l h = grind (arith, nat_tests, l, h)

    by : (b : Bool) → is_between (rank first.from) (rank first.to) k ≡ b → (b || is_in (map interval_of rest) k) ≡ true
        → (is_between from to k ≡ true) ⊎ (is_in (map interval_of rest) k ≡ true)
    by true at h = inl (between from to (begins at low) (ends at high))
    by false at h = inr h

pub held_first : (p : PoolState) (keys more : ℕ → Bool) (b : Bool) → b ≡ false
    → ((k : ℕ) → keys k ≡ true → more k ≡ true) → AreHeld p keys b → AreHeld p more b
held_first p keys more true not_so all h = absurd cc
held_first p keys more false no_leaf all (k, low, high, is, at) = (k, low, high, all k is, at)

pub held_rest : (mid new : PoolState) (first rest keys : ℕ → Bool) (a b : Bool) → a ≡ true → Goes mid new
    → ((k : ℕ) → keys k ≡ true → least ≤ k → k < top → (first k ≡ true) ⊎ (rest k ≡ true))
    → ((k : ℕ) → rest k ≡ true → keys k ≡ true)
    → AreHeld mid first a → AreHeld new rest b → AreHeld new keys b
held_rest mid new first rest keys false b is g either all h1 h2 = absurd cc
held_rest mid new first rest keys true true is g either all h1 h2 = λ k at low high. elim (either k at low high) [
  | inl here ↦ in_leaf_still mid new k g (h1 k here low high)
  | inr there ↦ h2 k there low high
]
held_rest mid new first rest keys true false is g either all h1 (k, low, high, at, inside) =
    (k, low, high, all k at, inside)
