-- The search for a key by halves.
use Rattle.std.proofs.Common.{◌≡◌, ◌≢◌, ℕ, ◌+◌, ◌<◌, ◌≤◌, Bool, true, false, eqb, ltb, List, Some, sym, ap, ◌∙◌, arith, inl, inr}
use Rattle.std.proofs.lemmas.Bool.{cases_lt, cases_eq, ltb-true, ltb-false, eqb-false}
use Rattle.std.proofs.lemmas.List.Elements.{All-from_get_or}
use Rattle.std.specs.List.{All}
use Rattle.std.specs.Option.{option_map}
use Rattle.std.specs.Prelude.{slice_get}
use Rattle.r4_base.specs.declared.key.Key.{Key}
use Rattle.r4_base.specs.Key.{rank}
use Rattle.r4_base.specs.Dir.{Entry, entry_at, entry_count, entry_key_at, entries_of}
use Rattle.r4_base.proofs.Dirs.{IsAccepted, get-entries_of, get_or-entries_of, length-entries_of, keys_apart}

-- The keys below one place are below the key, and those from another place on are not.
pub record IsNarrowed (item : Key) (b : List ℕ) (key : Key) (low high : ℕ) : Type 0 where
  pub order : low ≤ high
  pub within : high ≤ entry_count b
  pub below : (k : ℕ) → k < low → rank (entry_key_at item b k) < rank key
  pub above : (k : ℕ) → high ≤ k → k < entry_count b → rank key ≤ rank (entry_key_at item b k)

pub narrowed_none : (item : Key) (b : List ℕ) (key : Key) (n : ℕ) → n ≡ entry_count b → IsNarrowed item b key 0 n
narrowed_none item b key n is = record { order = omega arith; within = omega arith; below = λ k lt. absurd (omega arith); above = λ k le lt. absurd (omega arith) }

pub narrowed_up : (item : Key) (b : List ℕ) (key here : Key) (low high middle : ℕ) (r : Bool) → IsAccepted item b → here ≡ entry_key_at item b middle → r ≡ ltb (rank here) (rank key) → r ≡ true
    → low ≤ middle → middle < high → IsNarrowed item b key low high → IsNarrowed item b key (middle + 1) high
narrowed_up item b key here low high middle r a is e is_so ge lt s =
    let within = s.within in
    let small : rank here < rank key = ltb-true _ _ (sym e ∙ is_so) in
    let same : rank here ≡ rank (entry_key_at item b middle) = ap rank is in
    record {
      order = omega arith;
      within = s.within;
      below = λ k under. elim (cases_eq k middle) [
        | inl at ↦ let at' : rank (entry_key_at item b k) ≡ rank (entry_key_at item b middle) = ap (λ (m : ℕ). rank (entry_key_at item b m)) at in omega arith
        | inr other ↦ let up = keys_apart item b k middle a (omega arith) (omega arith) in omega arith
      ];
      above = s.above;
    }

pub narrowed_down : (item : Key) (b : List ℕ) (key here : Key) (low high middle : ℕ) (r : Bool) → IsAccepted item b → here ≡ entry_key_at item b middle → r ≡ ltb (rank here) (rank key) → r ≡ false
    → low ≤ middle → middle < high → IsNarrowed item b key low high → IsNarrowed item b key low middle
narrowed_down item b key here low high middle r a is e is_so ge lt s =
    let within = s.within in
    let large : rank key ≤ rank here = ltb-false _ _ (sym e ∙ is_so) in
    let same : rank here ≡ rank (entry_key_at item b middle) = ap rank is in
    record {
      order = omega arith;
      within = omega arith;
      below = s.below;
      above = λ k over below. elim (cases_eq k middle) [
        | inl at ↦ let at' : rank (entry_key_at item b k) ≡ rank (entry_key_at item b middle) = ap (λ (m : ℕ). rank (entry_key_at item b m)) at in omega arith
        | inr other ↦ let up = keys_apart item b middle k a (omega arith) below in omega arith
      ];
    }

-- ---- what is found

pub found : (item : Key) (b : List ℕ) (key here : Key) (low : ℕ) → low < entry_count b → here ≡ entry_key_at item b low → here ≡ key
    → option_map (λ e. e.key) (slice_get (entries_of item b) low) ≡ Some key
unfolding entry_at
found item b key here low lt is same = rw (get-entries_of item b low lt) (ap (λ (k : Key). Some k) (sym is ∙ same))

-- no entry has the key, where the one at the place that is left has another
pub absent : (item : Key) (b : List ℕ) (key : Key) (low high : ℕ) → IsAccepted item b → IsNarrowed item b key low high → high ≤ low → (low < entry_count b → rank (entry_key_at item b low) ≢ rank key) → All (λ e. e.key ≢ key) (entries_of item b)
unfolding entry_at
absent item b key low high a s over other =
    let n = length-entries_of item b in
    let order = s.order in
    All-from_get_or (λ (e : Entry). e.key ≢ key) (entries_of item b) (entry_at item b 0) (λ k within.
    rw (get_or-entries_of item b k (entry_at item b 0) (omega arith)) (λ (same : entry_key_at item b k ≡ key).
    let rank_is : rank (entry_key_at item b k) ≡ rank key = ap rank same in
    elim (cases_lt k low) [
      | inl below ↦ let lt = s.below k below in omega arith
      | inr ge ↦
          elim (cases_eq k low) [
            | inl at ↦ other (omega arith) (ap (λ (m : ℕ). rank (entry_key_at item b m)) (sym at) ∙ rank_is)
            | inr past ↦
                let le = s.above low (omega arith) (omega arith) in
                let up = keys_apart item b low k a (omega arith) (omega arith) in
                omega arith
          ]
    ]))

pub other_rank : (item : Key) (b : List ℕ) (key here : Key) (low : ℕ) (r : Bool) → here ≡ entry_key_at item b low → r ≡ eqb (rank here) (rank key) → r ≡ false → rank (entry_key_at item b low) ≢ rank key
other_rank item b key here low r is e no_key = eqb-false (rank (entry_key_at item b low)) (rank key) (rw (← is) (sym e ∙ no_key))
