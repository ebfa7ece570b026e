-- What is put together for a leaf is what the edits of leaves mean.
use Rattle.std.specs.Prelude.{◌≡◌, ℕ, ◌+◌, ◌^◌, [], ◌∷◌, ◌++◌, Bool, true, false, not, ◌&&◌, ◌||◌, cond, if◌then◌else◌, map, All, Option, Some, None}
use Rattle.std.proofs.Common.{refl, sym, ap, subst, ◌∙◌}
use Rattle.std.specs.List.{filter, flat_map}
use Rattle.std.specs.Option.{option_map}
use Rattle.std.proofs.lemmas.Bool.{both_ways}
use Rattle.std.proofs.lemmas.List.{append_assoc}
use Rattle.std.proofs.lemmas.List.Elements.{filter-append}
use Rattle.std.proofs.lemmas.Option.{none-some, same_Some}
use Rattle.r4_base.specs.Value.{Byte, Value}
use Rattle.r4_content.specs.Edited.{Edits, Intervals, Pairs, changed, is_between, is_in, put_keys}
use Rattle.r4_content.specs.Held.{edits_of, fill_pairs, interval_of, pair_of, run_pairs}
use Rattle.r4_content.specs.declared.edits.Edits.{Edits as HeldEdits}
use Rattle.r4_content.specs.declared.edits.Interval.{Interval}
use Rattle.r4_content.proofs.EditLaws.{in_append, in_changed, last_put, put_off}
use Rattle.r4_reach.specs.Needs.{leaf_edits}
use Rattle.r4_reach.specs.Reach.{is_body}
use Rattle.r4_reach.specs.Touched.{Body, first_byte, is_spread}
use Rattle.r4_leaf_edits.specs.Made.{bytes_end, spread_keys}
use Rattle.r4_leaf_edits.specs.Making.{all_cuts, all_pairs, bytes_of, values_set}
use Rattle.r4_leaf_edits.specs.Suiting.{AreOnce, IsBefore, IsLawfulPut, SuitLeaves, bytes_set, is_byte, zero_pairs}
use Rattle.r4_leaf_edits.proofs.Clipped.{all_left, all_right}
use Rattle.r4_leaf_edits.proofs.Law.{AreOfEdits, kept_keys, kept_last}
use Rattle.r4_leaf_edits.proofs.Puts.{in_both, last_of_both, once_both, once_cross, once_left}
use Rattle.r4_leaf_edits.proofs.Whole.{bodies_are_bytes, bodies_only, fills_filter, runs_filter, values_keys, values_last, values_once, zeros_keys, zeros_last}

module _ (e : HeldEdits) where
  abbrev pub zs : Intervals
  zs = map interval_of e.zeros.items

  abbrev pub fs : Pairs
  fs = flat_map fill_pairs e.fills.items

  abbrev pub rs : Pairs
  rs = flat_map run_pairs e.runs.items

  abbrev pub ps : Pairs
  ps = map pair_of e.puts.items

  -- the bytes that are set, apart from those of values
  pub bytes_are : bytes_set (edits_of e) ≡ bytes_of e ++ filter (λ p. is_byte p.1) ps
  bytes_are =
      ap (λ (s : Pairs). flat_map zero_pairs zs ++ s) (filter-append (λ p. is_byte p.1) fs (rs ++ ps) ∙ (λ i. fills_filter e.fills.items i ++ (filter-append (λ p. is_byte p.1) rs ps ∙ (λ j. runs_filter e.runs.items j ++ filter (λ p. is_byte p.1) ps)) i))
      ∙ ap (λ (s : Pairs). flat_map zero_pairs zs ++ s) (sym (append_assoc fs rs (filter (λ p. is_byte p.1) ps)))
      ∙ sym (append_assoc (flat_map zero_pairs zs) (fs ++ rs) (filter (λ p. is_byte p.1) ps))

  module _ (end : ℕ) (suit : SuitLeaves end (edits_of e)) where
    pub bytes_before : All (IsBefore end) (bytes_of e)
    bytes_before = all_left (IsBefore end) (bytes_of e) (filter (λ p. is_byte p.1) ps) (subst (All (IsBefore end)) bytes_are suit.bytes)

    pub values_before : All (IsBefore end) (filter (λ p. is_byte p.1) ps)
    values_before = all_right (IsBefore end) (bytes_of e) (filter (λ p. is_byte p.1) ps) (subst (All (IsBefore end)) bytes_are suit.bytes)

    pub values_lawful : All IsLawfulPut ps
    values_lawful = all_right IsLawfulPut rs ps (all_right IsLawfulPut fs (rs ++ ps) suit.values)

    fs_before : All (IsBefore end) fs
    fs_before = all_left (IsBefore end) fs rs (all_right (IsBefore end) (flat_map zero_pairs zs) (fs ++ rs) bytes_before)

    rs_before : All (IsBefore end) rs
    rs_before = all_right (IsBefore end) fs rs (all_right (IsBefore end) (flat_map zero_pairs zs) (fs ++ rs) bytes_before)

    -- ---- bytes of leaves

    or_swap : (c z f r p : Bool) → (c || ((z || (f || r)) || p)) ≡ ((f || (r || p)) || (z || c))
    or_swap true z true r p = refl
    or_swap true z false true p = refl
    or_swap true z false false true = refl
    or_swap true true false false false = refl
    or_swap true false false false false = refl
    or_swap false true true r p = refl
    or_swap false false true r p = refl
    or_swap false true false true p = refl
    or_swap false false false true p = refl
    or_swap false true false false true = refl
    or_swap false false false false true = refl
    or_swap false true false false false = refl
    or_swap false false false false false = refl

    in_bytes : (k : ℕ) → is_in (put_keys (bytes_of e)) k ≡ (is_in zs k || (is_in (put_keys fs) k || is_in (put_keys rs) k))
    in_bytes k = in_both (flat_map zero_pairs zs) (fs ++ rs) k ∙ (λ i. zeros_keys zs k i || in_both fs rs k i)

    in_puts : (k : ℕ) → is_in (put_keys (fs ++ (rs ++ ps))) k ≡ (is_in (put_keys fs) k || (is_in (put_keys rs) k || is_in (put_keys ps) k))
    in_puts k = in_both fs (rs ++ ps) k ∙ ap (λ (b : Bool). is_in (put_keys fs) k || b) (in_both rs ps k)

    tail_keys : (k : ℕ) → is_in (all_cuts None e) k ≡ is_in (changed (edits_of e)) k
    tail_keys k =
        in_append (map interval_of e.cuts.items) (put_keys (bytes_of e) ++ put_keys (values_set true ps)) k
        ∙ ap (λ (b : Bool). is_in (map interval_of e.cuts.items) k || b) (in_append (put_keys (bytes_of e)) (put_keys (values_set true ps)) k ∙ (λ i. in_bytes k i || values_keys true ps k i))
        ∙ or_swap (is_in (map interval_of e.cuts.items) k) (is_in zs k) (is_in (put_keys fs) k) (is_in (put_keys rs) k) (is_in (put_keys ps) k)
        ∙ sym (in_changed (edits_of e) k ∙ ap (λ (b : Bool). b || (is_in zs k || is_in (map interval_of e.cuts.items) k)) (in_puts k))

    tail_puts : (k : ℕ) (v : Option Value) → last_put (all_pairs None e) k v ≡ last_put (fs ++ (rs ++ ps)) k (cond (is_in zs k) (Some (Byte 0)) v)
    tail_puts k v =
        last_of_both (bytes_of e) (values_set true ps) k v
        ∙ values_last true ps k (last_put (bytes_of e) k v)
        ∙ ap (last_put ps k) (last_of_both (flat_map zero_pairs zs) (fs ++ rs) k v ∙ last_of_both fs rs k (last_put (flat_map zero_pairs zs) k v) ∙ ap (λ (w : Option Value). last_put rs k (last_put fs k w)) (zeros_last zs k v))
        ∙ sym (last_of_both fs (rs ++ ps) k (cond (is_in zs k) (Some (Byte 0)) v) ∙ last_of_both rs ps k (last_put fs k (cond (is_in zs k) (Some (Byte 0)) v)))

    tail_once : AreOnce (all_pairs None e)
    tail_once =
        let both = subst AreOnce bytes_are suit.once in
        once_both (bytes_of e) (values_set true ps) (once_left (bytes_of e) (filter (λ p. is_byte p.1) ps) both) (values_once true ps) (λ k at.
        values_keys true ps k ∙ sym (bodies_are_bytes ps k values_lawful (is_one k at)) ∙ once_cross (bytes_of e) (filter (λ p. is_byte p.1) ps) both k at)
      where
        is_one : (k : ℕ) → is_in (put_keys (bytes_of e)) k ≡ true → is_body k ≡ true
        is_one k at = by_test (is_body k) refl
          where
            by_test : (b : Bool) → is_body k ≡ b → b ≡ true
            by_test true h = refl
            by_test false h = absurd (both_ways _ (bodies_only end (bytes_of e) k bytes_before h) at)

    or_mid : (c b v : Bool) → (b || v) ≡ true → (c || (b || v)) ≡ true
    or_mid true b v h = refl
    or_mid false b v h = h

    tail_set : (k : ℕ) → is_in (put_keys (all_pairs None e)) k ≡ true → is_in (all_cuts None e) k ≡ true
    tail_set k at =
        in_append (map interval_of e.cuts.items) (put_keys (bytes_of e) ++ put_keys (values_set true ps)) k
        ∙ ap (λ (b : Bool). is_in (map interval_of e.cuts.items) k || b) (in_append (put_keys (bytes_of e)) (put_keys (values_set true ps)) k)
        ∙ or_mid (is_in (map interval_of e.cuts.items) k) (is_in (put_keys (bytes_of e)) k) (is_in (put_keys (values_set true ps)) k) (sym (in_both (bytes_of e) (values_set true ps) k) ∙ at)

    pub in_tails : AreOfEdits (edits_of e) (all_cuts None e) (all_pairs None e)
    in_tails = record { once = tail_once; keys = tail_keys; set = tail_set; puts = tail_puts }

    -- ---- a body that goes to extents

    module _ (body : Interval) (from to : ℕ) (is : interval_of body ≡ (from, to)) where
      abbrev pub spread : Edits
      spread = record { cuts = (from, to) ∷ map interval_of e.cuts.items; zeros = []; puts = filter (λ p. not (is_body p.0)) (fs ++ (rs ++ ps)) }

      abbrev vs : Pairs
      vs = values_set false ps

      and_same : (k : ℕ) (b : Bool) → is_body k ≡ b → (not b && is_in (put_keys ps) k) ≡ (not b && is_in (put_keys (fs ++ (rs ++ ps))) k)
      and_same k true h = refl
      and_same k false h = sym (in_puts k ∙ (λ i. bodies_only end fs k fs_before h i || (bodies_only end rs k rs_before h i || is_in (put_keys ps) k)))

      or_turn : (c b v : Bool) → (c || (b || v)) ≡ (v || (false || (b || c)))
      or_turn true true true = refl
      or_turn true true false = refl
      or_turn true false true = refl
      or_turn true false false = refl
      or_turn false true true = refl
      or_turn false true false = refl
      or_turn false false true = refl
      or_turn false false false = refl

      in_rest : (k : ℕ) → is_in (all_cuts (Some body) e) k ≡ (is_in (map interval_of e.cuts.items) k || (is_between (interval_of body).0 (interval_of body).1 k || is_in (put_keys vs) k))
      in_rest k = in_append (map interval_of e.cuts.items) ((interval_of body ∷ []) ++ put_keys vs) k

      spread_keys_are : (k : ℕ) → is_in (all_cuts (Some body) e) k ≡ is_in (changed spread) k
      spread_keys_are k =
          in_rest k
          ∙ (λ i. is_in (map interval_of e.cuts.items) k || (is_between (is i).0 (is i).1 k || values_keys false ps k i))
          ∙ or_turn (is_in (map interval_of e.cuts.items) k) (is_between from to k) (not (is_body k) && is_in (put_keys ps) k)
          ∙ ap (λ (b : Bool). b || (false || (is_between from to k || is_in (map interval_of e.cuts.items) k))) (and_same k (is_body k) refl ∙ sym (kept_keys (λ j. not (is_body j)) (fs ++ (rs ++ ps)) k))
          ∙ sym (in_changed spread k)

      spread_puts : (k : ℕ) (v : Option Value) → last_put vs k v ≡ last_put spread.puts k v
      spread_puts k v = values_last false ps k v ∙ by_body (is_body k) refl ∙ sym (kept_last (λ j. not (is_body j)) (fs ++ (rs ++ ps)) k v)
        where
          by_body : (b : Bool) → is_body k ≡ b → cond (not b) (last_put ps k v) v ≡ cond (not b) (last_put (fs ++ (rs ++ ps)) k v) v
          by_body true h = refl
          by_body false h = sym (last_of_both fs (rs ++ ps) k v ∙ last_of_both rs ps k (last_put fs k v)
              ∙ ap (last_put ps k) (put_off rs k (last_put fs k v) (bodies_only end rs k rs_before h) ∙ put_off fs k v (bodies_only end fs k fs_before h)))

      or_last : (c b v : Bool) → v ≡ true → (c || (b || v)) ≡ true
      or_last true b v h = refl
      or_last false true v h = refl
      or_last false false v h = h

      pub in_extents : AreOfEdits spread (all_cuts (Some body) e) (all_pairs (Some body) e)
      in_extents = record {
        once = values_once false ps;
        keys = spread_keys_are;
        set = λ k at. in_rest k ∙ or_last (is_in (map interval_of e.cuts.items) k) (is_between (interval_of body).0 (interval_of body).1 k) (is_in (put_keys vs) k) at;
        puts = spread_puts;
      }

-- ---- where the body stands

some_only : (x : ℕ × ℕ) (t : Bool) (y : ℕ × ℕ) → (if t then Some y else None) ≡ Some x → (t ≡ true) × (x ≡ y)
some_only x true y e = (refl, sym (same_Some y x e))
some_only x false y e = absurd (none-some x e)

none_only : (t : Bool) (y : ℕ × ℕ) → (if t then Some y else None) ≡ None → t ≡ false
none_only true y e = absurd (none-some y (sym e))
none_only false y e = refl

-- by the keys that go to extents
pub means : (e : HeldEdits) (spread : Option Interval) (b : Option Body) → SuitLeaves (bytes_end spread) (edits_of e) → option_map interval_of spread ≡ spread_keys b
    → AreOfEdits (leaf_edits b (edits_of e)) (all_cuts spread e) (all_pairs spread e)
means e None None suit same = in_tails e 16384 suit
means e None (Some b) suit same =
    let no_spread = none_only (is_spread b) (first_byte b, first_byte b + 2 ^ 64) (sym same) in
    subst (λ (x : Edits). AreOfEdits x (all_cuts None e) (all_pairs None e)) (sym (as_is (is_spread b) no_spread)) (in_tails e 16384 suit)
  where
    as_is : (t : Bool) → t ≡ false → (let x : Edits = if t then (record { cuts = (first_byte b, first_byte b + 2 ^ 64) ∷ (edits_of e).cuts; zeros = []; puts = filter (λ p. not (is_body p.0)) (edits_of e).puts }) else edits_of e in x) ≡ edits_of e
    as_is true h = absurd cc
    as_is false h = refl
means e (Some body) None suit same = absurd (none-some (interval_of body) (sym same))
means e (Some body) (Some b) suit same =
    let told = some_only (interval_of body) (is_spread b) (first_byte b, first_byte b + 2 ^ 64) (sym same) in
    subst (λ (x : Edits). AreOfEdits x (all_cuts (Some body) e) (all_pairs (Some body) e)) (sym (as_spread (is_spread b) told.0)) (in_extents e (2 ^ 64) suit body (first_byte b) (first_byte b + 2 ^ 64) told.1)
  where
    as_spread : (t : Bool) → t ≡ true → (let x : Edits = if t then (record { cuts = (first_byte b, first_byte b + 2 ^ 64) ∷ (edits_of e).cuts; zeros = []; puts = filter (λ p. not (is_body p.0)) (edits_of e).puts }) else edits_of e in x)
        ≡ (let y : Edits = record { cuts = (first_byte b, first_byte b + 2 ^ 64) ∷ (edits_of e).cuts; zeros = []; puts = filter (λ p. not (is_body p.0)) (edits_of e).puts } in y)
    as_spread true h = refl
    as_spread false h = absurd cc
