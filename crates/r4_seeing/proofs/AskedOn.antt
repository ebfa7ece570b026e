-- What is kept as more is asked for.
use Rattle.std.proofs.Common.{◌≡◌, ◌⊎◌, inl, inr, ℕ, zero, suc, ◌+◌, ◌<◌, ◌≤◌, Bool, true, false, List, [], ◌∷◌, ◌++◌}
use Rattle.std.proofs.Common.{length, map, take, refl, sym, ap, subst, ◌∙◌, arith}
use Rattle.std.specs.Prelude.{Option, Some, None, Result, Ok, Err, IfErr, OnOk, ◌||◌, ◌&&◌, ◌==◌, reverse}
use Rattle.std.specs.Prelude.{slice_index_or}
use Rattle.std.specs.FinMap.{find}
use Rattle.std.specs.List.{list_any}
use Rattle.std.specs.Ordering.{nat_cmp}
use Rattle.std.proofs.lemmas.Bool.{eqb-true}
use Rattle.std.proofs.lemmas.Bool.Decides.{nat_tests}
use Rattle.std.proofs.lemmas.List.{map-append, reverse-append, take_more}
use Rattle.std.proofs.lemmas.Option.{same_Some}
use Rattle.r4_base.specs.Key.{least, rank, top}
use Rattle.r4_cell.specs.Seen.{CellSeen}
use Rattle.r4_content.specs.Edited.{Intervals, is_between, is_in}
use Rattle.r4_content.specs.Held.{interval_of, pairs_of}
use Rattle.r4_content.specs.declared.edits.Interval.{Interval}
use Rattle.r4_gather.specs.Asking.{IsLater, has}
use Rattle.r4_gather.specs.declared.sight.Asked.{Asked}
use Rattle.r4_search.specs.Pool.{Goes, PoolState}
use Rattle.r4_search.specs.declared.pool.FetchFault.{FetchFault}
use Rattle.r4_search.proofs.Walks.{goes_both, goes_same}
use Rattle.r4_seeing.specs.Known.{AreKnown, AreNew}
use Rattle.r4_seeing.specs.Looking.{KnowsBetween, KnowsMore, LookingSeen, MeetsBetween, StopsBetween}
use Rattle.r4_gather.specs.Finding.{asked_keys}
use Rattle.r4_seeing.specs.Seeing.{IsAskedIn, IsNotedFault, IsSeeing, IsStopped, SeeingSeen, sighting}
use Rattle.r4_seeing.proofs.Reading.{new_more}

-- ---- gaps

pub in_at : (known : List Interval) (i : ℕ) (d : Interval) (k : ℕ) → i < length known
    → is_between (rank (slice_index_or known i d).from) (rank (slice_index_or known i d).to) k ≡ true
    → is_in (map interval_of known) k ≡ true
in_at [] i d k lt at = absurd (omega (arith, lt))
in_at (r ∷ rs) zero d k lt at = ap (λ (b : Bool). b || is_in (map interval_of rs) k) at
in_at (r ∷ rs) (suc i) d k lt at = by (is_between (rank r.from) (rank r.to) k) (in_at rs i d k (omega (arith, lt)) at)
  where
    by : (b : Bool) → is_in (map interval_of rs) k ≡ true → (b || is_in (map interval_of rs) k) ≡ true
    by true h = refl
    by false h = h

pub known_from : (known : List Interval) (i : ℕ) (d : Interval) (from : ℕ) → i < length known
    → is_between (rank (slice_index_or known i d).from) (rank (slice_index_or known i d).to) from ≡ true
    → (from < rank (slice_index_or known i d).to) × AreKnown (map interval_of known) from
    (rank (slice_index_or known i d).to)
known_from known i d from lt at = (
  grind (arith, nat_tests, at),
  (λ k le below. in_at known i d k lt (grind (arith, nat_tests, at, le, below))),
)

pub next_gap : (known : List Interval) (i : ℕ) (d : Interval) (from end next : ℕ) → i < length known
    → AreNew (map interval_of (take i known)) from end → next ≤ end → is_between (rank (slice_index_or known i d).from)
    (rank (slice_index_or known i d).to) from ≡ false
    → (from < rank (slice_index_or known i d).from → next ≤ rank (slice_index_or known i d).from)
    → AreNew (map interval_of (take (i + 1) known)) from next
next_gap known i d from end next lt fresh le out begins =
    let r = slice_index_or known i d in
    let is : map interval_of (take (i + 1) known) ≡ map interval_of (take i known) ++ (rank r.from, rank r.to) ∷ [] = ap
    (map interval_of) (take_more known i d lt) ∙ map-append interval_of (take i known) (r ∷ []) in
    subst (λ (q : Intervals). AreNew q from next) (sym is)
    (new_more (map interval_of (take i known)) (rank r.from, rank r.to) from end next fresh le out begins)

-- ---- what was asked for

pub asked_more : (items : List Asked) (a : Asked) → reverse (map asked_keys (items ++ a ∷ []))
    ≡ asked_keys a ∷ reverse (map asked_keys items)
asked_more items a = ap reverse (map-append asked_keys items (a ∷ []))
    ∙ reverse-append (map asked_keys items) (asked_keys a ∷ [])

-- what was asked for was asked for, also with more
also_asked : (r : ℕ × ℕ) (asked : Intervals) (k : ℕ) → is_in asked k ≡ true → is_in (r ∷ asked) k ≡ true
also_asked r asked k h = by (is_between r.0 r.1 k) h
  where
    by : (b : Bool) → is_in asked k ≡ true → (b || is_in asked k) ≡ true
    by true h = refl
    by false h = h

also_asked_in : (r : ℕ × ℕ) (asked : Intervals) (c : CellSeen) → IsAskedIn asked c → IsAskedIn (r ∷ asked) c
also_asked_in r asked c (key, at, low, high) = (key, also_asked r asked key at, low, high)

stopped_still : (p q : PoolState) (asked : Intervals) (r : ℕ × ℕ) (e : FetchFault) → Goes p q → IsStopped p asked e
    → IsStopped q (r ∷ asked) e
stopped_still p q asked r e g s = record {
  key = s.key;
  is_asked = also_asked r asked s.key s.is_asked;
  before = s.before;
  at = s.at;
  goes = s.goes;
  stops = s.stops;
  since = goes_both s.at p q s.since g;
}

in_cases : (r : ℕ × ℕ) (asked : Intervals) (k : ℕ) → is_in (r ∷ asked) k ≡ true
    → (is_between r.0 r.1 k ≡ true) ⊎ (is_in asked k ≡ true)
in_cases r asked k h = by (is_between r.0 r.1 k) refl h
  where
    by : (b : Bool) → is_between r.0 r.1 k ≡ b → (b || is_in asked k) ≡ true
        → (is_between r.0 r.1 k ≡ true) ⊎ (is_in asked k ≡ true)
    by true is e = inl is
    by false is e = inr e

-- a key of no tree
pub asked_outside : (p : PoolState) (known asked : Intervals) (fault : Option FetchFault) (k : ℕ)
    → is_between least top k ≡ false → IsSeeing p known asked fault → IsSeeing p known ((k, k + 1) ∷ asked) fault
asked_outside p known asked fault k out h = record {
  looked = λ no_fault j at low high. elim (in_cases (k, k + 1) asked j at) [
    | inl it ↦ absurd
        (let in_it : is_between least top j ≡ true = between least top j low high in let same : j
        ≡ k = one j it in let other = ap (is_between least top) same ∙ out in differ in_it other)
    | inr more ↦ h.looked no_fault j more low high
  ];
  only = λ j is. also_asked (k, k + 1) asked j (h.only j is);
  met = λ i c is. also_asked_in (k, k + 1) asked c (h.met i c is);
  stopped = λ e is. stopped_still p p asked (k, k + 1) e (goes_same p) (h.stopped e is);
}
  where
    one : (j : ℕ) → is_between k (k + 1) j ≡ true → j ≡ k
    one j it = grind (arith, nat_tests, it)

    between : (a b j : ℕ) → a ≤ j → j < b → is_between a b j ≡ true
    between a b j le lt = grind (arith, nat_tests, le, lt)

    differ : {b : Bool} → b ≡ true → b ≡ false → ⊥
    differ t f = let e = sym t ∙ f in cc

-- the keys of an interval were looked at, or the look-up ended with a fault
module _ (p q : PoolState) (known now asked : Intervals) (r : ℕ × ℕ) (from to : ℕ) (fault : Option FetchFault)
    (h : IsSeeing p known asked fault) (g : Goes p q)
    (inside : (k : ℕ) → is_between r.0 r.1 k ≡ true → least ≤ k → k < top → (from ≤ k) × (k < to))
    (outside : (k : ℕ) → from ≤ k → k < to → is_between r.0 r.1 k ≡ true)
    (meets : MeetsBetween from to p q) (knows : KnowsBetween from to known now) where
  asked_now : (k : ℕ) → from ≤ k → k < to → is_in (r ∷ asked) k ≡ true
  asked_now k low high = ap (λ (b : Bool). b || is_in asked k) (outside k low high)

  only_asked : (k : ℕ) → is_in now k ≡ true → is_in (r ∷ asked) k ≡ true
  only_asked k is = by (is_in known k) refl
    where
      by : (b : Bool) → is_in known k ≡ b → is_in (r ∷ asked) k ≡ true
      by true then = also_asked r asked k (h.only k then)
      by false then = let (low, high) = knows k is then in asked_now k low high

  met_asked : (i : ℕ) (c : CellSeen) → q.met i ≡ Some c → IsAskedIn (r ∷ asked) c
  met_asked i c is = by (p.met i) refl
    where
      by : (m : Option CellSeen) → p.met i ≡ m → IsAskedIn (r ∷ asked) c
      by (Some x) then =
          let same : x ≡ c = same_Some x c (sym (g.met i x then) ∙ is) in
          also_asked_in r asked c (h.met i c (then ∙ ap (λ (y : CellSeen). Some y) same))
      by None then = let (key, low, high, up, down) = meets i c is then in (key, asked_now key low high, up, down)

  pub asked_within : (fault2 : Option FetchFault) (result : Result Unit FetchFault)
      → ((k : ℕ) → is_in known k ≡ true → is_in now k ≡ true) → OnOk result (AreKnown now from to)
      → IfErr result (λ e. StopsBetween from to p e q) → IsNotedFault fault result fault2 → fault ≡ None
      → IsSeeing q now (r ∷ asked) fault2
  asked_within fault2 (Ok u) more known_now stops noted was = record {
    looked = λ no_fault j at low high. elim (in_cases r asked j at) [
      | inl it ↦ let (a, b) = inside j it low high in known_now j a b
      | inr before ↦ more j (h.looked was j before low high)
    ];
    only = only_asked;
    met = met_asked;
    stopped = λ e is. absurd (let none = sym is ∙ (noted ∙ was) in cc);
  }
  asked_within fault2 (Err e) more known_now stops noted was = record {
    looked = λ no_fault j at low high. absurd (let some = sym noted ∙ no_fault in cc);
    only = only_asked;
    met = met_asked;
    stopped = λ x is. subst (λ (y : FetchFault). IsStopped q (r ∷ asked) y) (same_Some e x (sym noted ∙ is)) it;
  }
    where
      it : IsStopped q (r ∷ asked) e
      it = record {
        key = stops.key;
        is_asked = asked_now stops.key stops.low stops.high;
        before = stops.mid;
        at = q;
        goes = stops.after;
        stops = stops.stops;
        since = goes_same q;
      }

-- ---- what was seen stays

has_one : (asked : Intervals) (k : ℕ) → has asked (k, k + 1) ≡ true → is_in asked k ≡ true
has_one [] k h = absurd cc
has_one (r ∷ asked) k h = by ((r.0 == k) && (r.1 == k + 1)) refl h (has_one asked k)
  where
    by : (b : Bool) → ((r.0 == k) && (r.1 == k + 1)) ≡ b → (b || has asked (k, k + 1)) ≡ true
        → (has asked (k, k + 1) ≡ true → is_in asked k ≡ true) → (is_between r.0 r.1 k || is_in asked k) ≡ true
    by true is e more = ap (λ (b : Bool). b || is_in asked k) (whole is)
      where
        whole : ((r.0 == k) && (r.1 == k + 1)) ≡ true → is_between r.0 r.1 k ≡ true
        whole is = grind (arith, nat_tests, is)
    by false is e more = or_right (is_between r.0 r.1 k) (is_in asked k) (more e)
      where
        or_right : (a b : Bool) → b ≡ true → (a || b) ≡ true
        or_right true b h = refl
        or_right false b h = h

pub later_seeing : {P : Type 0} (p : PoolState) (old new : SeeingSeen P) (r : ℕ × ℕ)
    → IsSeeing p old.looking.known old.asked old.fault → old.fault ≡ None → new.asked ≡ r ∷ old.asked
    → KnowsMore old.looking new.looking → IsLater (sighting old) (sighting new)
later_seeing {P} p old new r h none asked more = record {
  keeps = λ q at. ap (λ (g : Intervals). has g q) asked ∙ or_right ((r.0 == q.0) && (r.1 == q.1)) (has old.asked q) at;
  values = λ k at. by k (has_one old.asked k at) (compare k least) (compare k top);
}
  where
    or_right : (a b : Bool) → b ≡ true → (a || b) ≡ true
    or_right true b h = refl
    or_right false b h = h

    compare : (m n : ℕ) → (m < n) ⊎ (n ≤ m)
    compare m n = grind (arith, nat_tests)

    by : (k : ℕ) → is_in old.asked k ≡ true → (k < least) ⊎ (least ≤ k) → (k < top) ⊎ (top ≤ k)
        → find nat_cmp k (pairs_of new.looking.seen) ≡ find nat_cmp k (pairs_of old.looking.seen)
    by k is (inl lt) up = more.outside k (inl lt)
    by k is (inr le) (inr past) = more.outside k (inr past)
    by k is (inr le) (inl lt) = more.values k (h.looked none k is le lt)

-- ---- an interval, as far as it is one of a tree

pub clipped : (a b from to : ℕ) → (from ≤ a) ⊎ (from ≤ least) → (b ≤ to) ⊎ (top ≤ to) → (k : ℕ) → is_between a b k
    ≡ true → least ≤ k → k < top → (from ≤ k) × (k < to)
clipped a b from to low high k it up down = (first low, last high)
  where
    begins : is_between a b k ≡ true → a ≤ k
    begins it = grind (arith, nat_tests, it)

    ends : is_between a b k ≡ true → k < b
    ends it = grind (arith, nat_tests, it)

    first : (from ≤ a) ⊎ (from ≤ least) → from ≤ k
    first (inl le) = let at = begins it in omega (arith, le, at)
    first (inr le) = omega (arith, le, up)

    last : (b ≤ to) ⊎ (top ≤ to) → k < to
    last (inl le) = let at = ends it in omega (arith, le, at)
    last (inr le) = omega (arith, le, down)

pub clipped_in : (a b from to : ℕ) → a ≤ from → to ≤ b → (k : ℕ) → from ≤ k → k < to → is_between a b k ≡ true
clipped_in a b from to low high k le lt =
    let begins : a ≤ k = omega (arith, low, le) in
    let ends : k < b = omega (arith, high, lt) in
    grind (arith, nat_tests, begins, ends)
