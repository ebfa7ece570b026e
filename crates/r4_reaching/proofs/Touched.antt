-- What was seen is still seen when more cells are met; and the keys that were touched are those that have to lie in
-- leaves.
use Rattle.std.proofs.Common.{◌≡◌, inl, inr, ℕ, ◌+◌, ◌<◌, ◌≤◌, Bool, true, false, List, ◌∷◌, [], map, refl, sym, ap, subst, ◌∙◌, arith}
use Rattle.std.specs.Prelude.{◌||◌, MatchResult, Option}
use Rattle.std.specs.Prelude.{Result, Ok, Err}
use Rattle.std.specs.Result.{IsErrAnd}
use Rattle.std.proofs.lemmas.Bool.Decides.{nat_tests}
use Rattle.r4_base.specs.Key.{least, top}
use Rattle.r4_bodies.specs.Told.{intervals_of}
use Rattle.r4_cell.specs.declared.change.Root.{Root}
use Rattle.r4_content.specs.Edited.{Intervals, changed, is_in}
use Rattle.r4_content.specs.Held.{edits_of, interval_of, pairs_of}
use Rattle.r4_content.specs.declared.command.Command.{Command}
use Rattle.r4_content.specs.declared.edits.Edits.{Edits as HeldEdits}
use Rattle.r4_content.specs.declared.edits.Interval.{Interval}
use Rattle.r4_content.specs.declared.seen.Seen.{Seen}
use Rattle.r4_touching.specs.r4_gather.Asking.{StaysOver}
use Rattle.r4_touching.proofs.r4_gather.Staying.{stays_both}
use Rattle.r4_outside.specs.Device.{State}
use Rattle.r4_search.specs.Pool.{Goes, LeavesDevice, PoolState}
use Rattle.r4_search.specs.declared.pool.FetchFault.{FetchFault}
use Rattle.r4_touching.proofs.r4_seeing.Staying.{goes_stay}
use Rattle.r4_touching.specs.Touching.{AreHeld, AreInLeaves, StopsFor, Touches}
use Rattle.r4_reaching.specs.Answers.{IsAllSeen, IsPlanned, IsSeenIn, IsTouched, StopsOnWay, TouchesExtent, has_to_lie}
use Rattle.r4_reaching.specs.Gathering.{IsOneMet}
use Rattle.r4_reaching.proofs.Standing.{found_on}

-- an error that is handed on
pub handed_match : {T : Type 0} (O : T → Type 0) (P : FetchFault → Type 0) (r : Result T FetchFault) (e : FetchFault)
    → IsErrAnd r (λ y. y ≡ e) → P e → MatchResult r O P
handed_match {T} O P (Ok x) e h p = absurd h
handed_match {T} O P (Err y) e h p = subst P (sym h) p

pub stays_touching : (d e f : State) (p q r : PoolState) (root : Root)
    → StaysOver d e (record { root = root; pool = p }) (record { root = root; pool = q }) → LeavesDevice e f
    → Goes q r → StaysOver d f (record { root = root; pool = p }) (record { root = root; pool = r })
stays_touching d e f p q r root stays device goes =
    stays_both d e f (record { root = root; pool = p }) (record { root = root; pool = q })
    (record { root = root; pool = r }) stays (goes_stay e f q r root root refl device goes)

pub one_stays : (p q : PoolState) → Goes p q → IsOneMet p → IsOneMet q
one_stays p q goes (i, x, at) = (i, x, goes.met i x at)

pub seen_in : (p : PoolState) (root : Root) (c : Command) (s : Seen) (known questions : Intervals)
    → IsAllSeen p root c s known questions → IsSeenIn p c (pairs_of s)
seen_in p root c s known questions h = record {
  rises = h.found.rises;
  found = λ k on low high. h.found.found k
      (h.looked k (ap (λ (qs : Intervals). is_in qs k) h.questions_are ∙ on) low high);
}

pub all_still : (p q : PoolState) (root : Root) (keys : ℕ → Bool) (c : Command) (s : Seen) (known questions : Intervals)
    → Touches root keys p q → IsAllSeen p root c s known questions → IsAllSeen q root c s known questions
all_still p q root keys c s known questions t h = record {
  height = h.height;
  begins = t.goes.known _ h.begins;
  keeps = λ level. t.goes.keeps level ∙ h.keeps level;
  hung = t.hung h.hung;
  found = found_on p q known (pairs_of s) t.goes h.found;
  questions_are = h.questions_are;
  looked = h.looked;
}

pub planned_still : (p q : PoolState) (root : Root) (keys : ℕ → Bool) (c : Command) (s : Seen)
    (known questions : Intervals) (e : HeldEdits) (read : Option Interval) → Touches root keys p q
    → IsPlanned p root c s known questions e read → IsPlanned q root c s known questions e read
planned_still p q root keys c s known questions e read t h = record {
  all_seen = all_still p q root keys c s known questions t h.all_seen;
  edits = h.edits;
  body = h.body;
  own = h.own;
  read_is = h.read_is;
  kind = h.kind;
  leaves = h.leaves;
  keys = h.keys;
}

module _ (p : PoolState) (root : Root) (c : Command) (s : Seen) (known questions : Intervals) (e : HeldEdits)
    (read : Option Interval) (h : IsPlanned p root c s known questions e read) (keys : List Interval)
    (are : (k : ℕ) → least ≤ k → k < top → is_in (map interval_of keys) k
    ≡ (is_in (intervals_of read) k || is_in (changed (edits_of e)) k)) where
  -- they are the keys that have to lie in leaves
  same_keys : (k : ℕ) → least ≤ k → k < top → is_in (map interval_of keys) k ≡ has_to_lie c (pairs_of s) k
  same_keys k low high = are k low high
      ∙ (λ i. is_in (h.read_is i) k || is_in (changed (h.edits i)) k)

  pub held_keys : AreHeld p (is_in (map interval_of keys)) true → AreInLeaves p (has_to_lie c (pairs_of s))
  held_keys held k on low high = held k (same_keys k low high ∙ on) low high

  pub touched : AreHeld p (is_in (map interval_of keys)) true → IsOneMet p
      → IsTouched p root c s known questions e read
  touched held some = record { planned = h; held = held_keys held; some = some }

  pub in_extent : AreHeld p (is_in (map interval_of keys)) false → TouchesExtent p c
  in_extent (k, low, high, on, inside) = record {
    seen = pairs_of s;
    saw = seen_in p root c s known questions h.all_seen;
    extent = inr (k, low, high, sym (same_keys k low high) ∙ on, inside);
  }

  pub stops_touching : (q : PoolState) (f : FetchFault) → StopsFor (is_in (map interval_of keys)) p f q
      → StopsOnWay q c f
  stops_touching q f stops = record {
    seen = pairs_of s;
    before = p;
    saw = seen_in p root c s known questions h.all_seen;
    keys = is_in (map interval_of keys);
    are = λ k low high on. inl (sym (same_keys k low high) ∙ on);
    stops = stops;
  }

pub stops_first : (p q : PoolState) (root : Root) (c : Command) (s : Seen) (known questions : Intervals) (f : FetchFault)
    → IsAllSeen p root c s known questions → StopsFor (is_in ((least, least + 1) ∷ [])) p f q → StopsOnWay q c f
stops_first p q root c s known questions f h stops = record {
  seen = pairs_of s;
  before = p;
  saw = seen_in p root c s known questions h;
  keys = is_in ((least, least + 1) ∷ []);
  are = λ k low high on. inr (just_least k on);
  stops = stops;
}
  where
    just_least : (k : ℕ) → is_in ((least, least + 1) ∷ []) k ≡ true → k ≡ least
    just_least k on = grind (arith, nat_tests, on)
