-- The cells that are met for a command's changes, one step after another.
use Rattle.std.proofs.Common.{◌≡◌, ◌⊎◌, inl, inr, ℕ, ◌+◌, ◌<◌, ◌≤◌, Bool, true, List, [], ◌∷◌, ◌||◌, map, refl, sym, ap}
use Rattle.std.proofs.Common.{◌∙◌, arith}
use Rattle.std.specs.Prelude.{Option, Some, None}
use Rattle.std.specs.Option.{option_map}
use Rattle.std.proofs.lemmas.Bool.Decides.{nat_tests}
use Rattle.r4_base.specs.Key.{least, top}
use Rattle.r4_base.specs.Tree.{Node}
use Rattle.r4_base.specs.Value.{Value}
use Rattle.r4_extent_commands.specs.r4_cell.Seen.{CellSeen, node_of}
use Rattle.r4_content.specs.Edited.{Edits, Intervals, is_in}
use Rattle.r4_content.specs.Held.{interval_of}
use Rattle.r4_content.specs.declared.edits.Interval.{Interval}
use Rattle.r4_extent_reaching.specs.r4_extent_touching.Holding.{AreHeld}
use Rattle.r4_extent_reaching.proofs.r4_extent_touching.Held.{all_still}
use Rattle.r4_extent_reaching.specs.r4_touching.r4_reach.Touched.{Body, kind_reads}
use Rattle.r4_extent_reaching.specs.r4_reaching.Gathering.{IsOneMet}
use Rattle.r4_extent_asks.specs.r4_search.Pool.{Goes, PoolState}
use Rattle.r4_extent_asks.specs.r4_search.declared.pool.FetchFault.{FetchFault}
use Rattle.r4_extent_asks.specs.r4_search.declared.pool.FetchFault.TheVariants.{Memory}
use Rattle.r4_extent_asks.proofs.r4_search.Walks.{goes_both}
use Rattle.r4_extent_reaching.specs.r4_touching.Touching.{StopsFor}
use Rattle.r4_extent_reaching.proofs.r4_touching.Touched.{stops_wider}
use Rattle.r4_extent_reach.specs.Meeting.{AreBesideMet, HasMet, StopsAtLeft, StopsMeeting, touched_keys}

pub held_one : (p : PoolState) (keys : ℕ → Bool) → keys least ≡ true → least < top → AreHeld p keys → IsOneMet p
held_one p keys on below held =
    let (i, n, is, holds) = held least on (omega arith) below in by i n (p.met i) refl is
  where
    by : (i : ℕ) (n : Node Value) (o : Option CellSeen) → p.met i ≡ o → option_map node_of (p.met i) ≡ Some n
        → IsOneMet p
    by i n (Some x) was is = (i, x, was)
    by i n None was is = absurd (let none = sym (ap (option_map node_of) was) ∙ is in cc)

-- the least key is among the first ones
pub first_on : (a b : ℕ) → a ≡ least → b ≡ least + 1 → is_in ((a, b) ∷ []) least ≡ true
first_on a b from to = grind (arith, nat_tests, from, to)

pub first_same : (a b : ℕ) → a ≡ least → b ≡ least + 1 → (k : ℕ) → is_in ((a, b) ∷ []) k ≡ true
    → is_in ((least, least + 1) ∷ []) k ≡ true
first_same a b from to k on = (λ i. is_in ((sym from i, sym to i) ∷ []) k) ∙ on

pub one_still : (p q : PoolState) → Goes p q → IsOneMet p → IsOneMet q
one_still p q g (i, x, at) = (i, x, g.met i x at)

module _ (b : Option Body) (e : Edits) (changes : Intervals) where
  pub first_stops : (p q : PoolState) (f : FetchFault) → StopsFor (is_in ((least, least + 1) ∷ [])) p f q
      → StopsMeeting b e changes p f q
  first_stops p q f stops = inr (inl (record {
    keys = is_in ((least, least + 1) ∷ []);
    are = λ k low high on. inr (just_least k on);
    stops = stops;
  }))
    where
      just_least : (k : ℕ) → is_in ((least, least + 1) ∷ []) k ≡ true → k ≡ least
      just_least k on = grind (arith, nat_tests, on)

  module _ (read : Intervals) (is : read ≡ kind_reads b) (keys : List Interval)
      (are : (k : ℕ) → least ≤ k → k < top → is_in (map interval_of keys) k ≡ (is_in read k || is_in changes k)) where
    same_keys : (k : ℕ) → least ≤ k → k < top → is_in (map interval_of keys) k ≡ touched_keys b changes k
    same_keys k low high = are k low high ∙ ap (λ (rs : Intervals). is_in rs k || is_in changes k) is

    pub key_stops : (o p q : PoolState) (f : FetchFault) → Goes o p → StopsFor (is_in (map interval_of keys)) p f q
        → StopsMeeting b e changes o f q
    key_stops o p q f g stops = inr (inl (record {
      keys = is_in (map interval_of keys);
      are = λ k low high on. inl (sym (same_keys k low high) ∙ on);
      stops = stops_wider (is_in (map interval_of keys)) (is_in (map interval_of keys)) o p q f (λ k on. on) g stops;
    }))

    pub has_met : (m p q : PoolState) → Goes m p → Goes p q → IsOneMet m → AreHeld p (is_in (map interval_of keys))
        → AreBesideMet b e changes q → HasMet b e changes q
    has_met m p q f g some held beside = record {
      held = λ k on low high. all_still p q g (is_in (map interval_of keys)) held k (same_keys k low high ∙ on) low high;
      beside = beside;
      some = one_still m q (goes_both m p q f g) some;
    }

  pub left_stops : (o p q : PoolState) (f : FetchFault) → Goes o p → (f ≡ Memory) ⊎ StopsAtLeft b e changes p f q
      → StopsMeeting b e changes o f q
  left_stops o p q f g (inl memory) = inl memory
  left_stops o p q f g (inr s) = inr (inr (record {
    mid = s.mid;
    goes = goes_both o p s.mid g s.goes;
    twig = s.twig;
    met = s.met;
    turns = s.turns;
    go = s.go;
    stops = s.stops;
  }))
