-- Keys that come behind others.
use Rattle.std.proofs.Common.{◌≡◌, ℕ, ◌+◌, ◌-◌, ◌<◌, ◌≤◌, ◌||◌, Bool, true, false, List, [], ◌∷◌, ◌++◌, length, map}
use Rattle.std.proofs.Common.{refl, sym, ap, ◌∙◌, arith, append_assoc}
use Rattle.std.proofs.lemmas.List.{map-append}
use Rattle.std.proofs.lemmas.Bool.Decides.{nat_tests}
use Rattle.std.specs.Prelude.{replicate}
use Rattle.std.proofs.lemmas.List.{length-replicate}
use Rattle.r4_base.specs.Key.{least, rank, top}
use Rattle.r4_content.specs.Edited.{Intervals, Pairs, changed, is_between, is_in, put_keys}
use Rattle.r4_content.specs.Held.{edits_of, fill_pairs, interval_of, pair_of, run_pairs}
use Rattle.std.specs.List.{flat_map}
use Rattle.r4_content.specs.declared.edits.Edits.{Edits as HeldEdits}
use Rattle.r4_content.specs.declared.edits.FilledInterval.{FilledInterval}
use Rattle.r4_content.specs.declared.edits.Interval.{Interval}
use Rattle.r4_content.proofs.BytePairs.{keys_in}
use Rattle.r4_content.proofs.EditLaws.{in_append}
use Rattle.r4_leaf_edits.proofs.Puts.{put_keys_append}
use Rattle.r4_touching.specs.Changed.{AddsKeys}

or_none : (b : Bool) → b ≡ (b || false)
or_none true = refl
or_none false = refl

or_assoc : (a b c : Bool) → ((a || b) || c) ≡ (a || (b || c))
or_assoc true b c = refl
or_assoc false b c = refl

pub adds_none : (a : List Interval) (rs : Intervals) → rs ≡ [] → AddsKeys a rs a
adds_none a rs none k low high = or_none (is_in (map interval_of a) k)
    ∙ ap (λ (ss : Intervals). is_in (map interval_of a) k || is_in ss k) (sym none)

pub adds_one : (a b : List Interval) (r : Interval) (rs : Intervals) → b ≡ a ++ r ∷ []
    → ((k : ℕ) → least ≤ k → k < top → is_in (interval_of r ∷ []) k ≡ is_in rs k) → AddsKeys a rs b
adds_one a b r rs is same k low high =
    ap (λ (xs : List Interval). is_in (map interval_of xs) k) is
    ∙ (ap (λ (ss : Intervals). is_in ss k) (map-append interval_of a (r ∷ []))
    ∙ (in_append (map interval_of a) (interval_of r ∷ []) k
    ∙ ap (λ (t : Bool). is_in (map interval_of a) k || t) (same k low high)))

pub adds_both : (a b c : List Interval) (rs ss all : Intervals) → all ≡ rs ++ ss → AddsKeys a rs b → AddsKeys b ss c
    → AddsKeys a all c
adds_both a b c rs ss all is first next k low high =
    next k low high
    ∙ (ap (λ (t : Bool). t || is_in ss k) (first k low high)
    ∙ (or_assoc (is_in (map interval_of a) k) (is_in rs k) (is_in ss k)
    ∙ ap (λ (t : Bool). is_in (map interval_of a) k || t)
    (sym (ap (λ (qs : Intervals). is_in qs k) is ∙ in_append rs ss k))))

-- the keys of pairs, one list behind another
pub keys_both : (ps qs all : Pairs) → all ≡ ps ++ qs → put_keys all ≡ put_keys ps ++ put_keys qs
keys_both ps qs all is = ap put_keys is ∙ put_keys_append ps qs

pub nothing_of : {A : Type 0} (xs : List A) → length xs ≡ 0 → xs ≡ []
nothing_of [] e = refl
nothing_of (x ∷ xs) e = absurd (omega (arith, e))

-- the keys of a fill
pub fill_keys : (f : FilledInterval) (k : ℕ) → is_in ((rank f.from, rank f.to) ∷ []) k
    ≡ is_in (put_keys (fill_pairs f)) k
fill_keys f k =
    or_false (is_between (rank f.from) (rank f.to) k)
    ∙ (to_end (rank f.from) (rank f.to) k
    ∙ (ap (λ (n : ℕ). is_between (rank f.from) (rank f.from + n) k)
    (sym (length-replicate (rank f.to - rank f.from) f.byte))
    ∙ sym (keys_in (rank f.from) (replicate (rank f.to - rank f.from) f.byte) k)))
  where
    or_false : (b : Bool) → (b || false) ≡ b
    or_false true = refl
    or_false false = refl

    to_end : (a b k : ℕ) → is_between a b k ≡ is_between a (a + (b - a)) k
    to_end a b k = grind (arith, nat_tests)

-- all of a command's keys, one list behind another
module _ (e : HeldEdits) where
  abbrev fs : Intervals
  fs = put_keys (flat_map fill_pairs e.fills.items)

  abbrev rs : Intervals
  rs = put_keys (flat_map run_pairs e.runs.items)

  abbrev vs : Intervals
  vs = put_keys (map pair_of e.puts.items)

  abbrev zs : Intervals
  zs = map interval_of e.zeros.items

  abbrev cs : Intervals
  cs = map interval_of e.cuts.items

  in_order : changed (edits_of e) ≡ (((fs ++ rs) ++ vs) ++ zs) ++ cs
  in_order =
      ap (λ (qs : Intervals). qs ++ (zs ++ cs))
      (keys_both (flat_map fill_pairs e.fills.items) (flat_map run_pairs e.runs.items ++ map pair_of e.puts.items)
      (edits_of e).puts refl
      ∙ (ap (λ (qs : Intervals). fs ++ qs)
      (keys_both (flat_map run_pairs e.runs.items) (map pair_of e.puts.items)
      (flat_map run_pairs e.runs.items ++ map pair_of e.puts.items) refl)
      ∙ sym (append_assoc fs rs vs)))
      ∙ sym (append_assoc ((fs ++ rs) ++ vs) zs cs)

  pub all_added : (a b c d f : List Interval) → AddsKeys [] fs a → AddsKeys a rs b → AddsKeys b vs c → AddsKeys c zs d
      → AddsKeys d cs f → (k : ℕ) → least ≤ k → k < top → is_in (map interval_of f) k ≡ is_in (changed (edits_of e)) k
  all_added a b c d f fills runs values zeros cuts k low high =
      let one = adds_both [] a b fs rs (fs ++ rs) refl fills runs in
      let two = adds_both [] b c (fs ++ rs) vs ((fs ++ rs) ++ vs) refl one values in
      let three = adds_both [] c d ((fs ++ rs) ++ vs) zs (((fs ++ rs) ++ vs) ++ zs) refl two zeros in
      let four = adds_both [] d f (((fs ++ rs) ++ vs) ++ zs) cs ((((fs ++ rs) ++ vs) ++ zs) ++ cs) refl three cuts in
      four k low high ∙ sym (ap (λ (qs : Intervals). is_in qs k) in_order)
