-- Which keys a command changes, bytes of bodies and others.
use Rattle.std.specs.Prelude.{◌≡◌, ◌⊎◌, ◌↔◌, ℕ, ◌<◌, ◌≤◌, [], ◌∷◌, ◌++◌, map, Bool, true, false, ◌||◌}
use Rattle.std.proofs.Common.{arith, inl, inr, refl, sym, ap, ◌∙◌}
use Rattle.std.specs.List.{filter, flat_map}
use Rattle.std.proofs.lemmas.Bool.{both_ways, lt-ltb, ltb-true, or_cases, or_from, or_left, or_parts, or_right}
use Rattle.std.proofs.lemmas.List.Elements.{filter-append}
use Rattle.r4_content.specs.Bodies.{larger, smaller}
use Rattle.r4_content.specs.Edited.{Intervals, Pairs, changed, is_between, is_in, put_keys}
use Rattle.r4_content.specs.Held.{edits_of, fill_pairs, interval_of, pair_of, run_pairs}
use Rattle.r4_content.specs.declared.edits.Edits.{Edits as HeldEdits}
use Rattle.r4_content.proofs.EditLaws.{in_append}
use Rattle.r4_suited.specs.r4_leaf_edits.Suiting.{SuitLeaves, bytes_set, is_byte, zero_pairs}
use Rattle.r4_suited.proofs.r4_leaf_edits.Puts.{in_both}
use Rattle.r4_suited.proofs.r4_leaf_edits.Whole.{bodies_only, fills_filter, runs_filter, zeros_keys}
use Rattle.r4_marking.specs.r4_reach.Needs.{is_met, meets}
use Rattle.r4_marking.specs.r4_reach.Reach.{is_body}
use Rattle.r4_leaf_demands.specs.Touching.{MeetsKind}
use Rattle.r4_leaf_demands.proofs.BodyKeys.{clip_in, clip_out, meets_cases, meets_first, meets_rest}

-- an interval has a key of the range
abbrev pub HasOf : Intervals → (lo hi : ℕ) → Type 0
HasOf rs lo hi = (k : ℕ) × (is_in rs k ≡ true) × (lo ≤ k) × (k < hi)

pub met_keys : (rs : Intervals) (lo hi : ℕ) → is_met rs lo hi ≡ true → HasOf rs lo hi
met_keys [] lo hi e = absurd (both_ways false refl e)
met_keys (r ∷ rs) lo hi e = elim (or_cases (meets lo hi r) (is_met rs lo hi) e) [
  | inl first ↦
      let lt = ltb-true (larger lo r.0) (smaller hi r.1) first in
      let (low, high, at) = clip_in lo hi r.0 r.1 (larger lo r.0) (omega arith) lt in
      (larger lo r.0, or_left (is_between r.0 r.1 (larger lo r.0)) (is_in rs (larger lo r.0)) at, low, high)
  | inr rest ↦
      let (k, at, low, high) = met_keys rs lo hi rest in
      (k, or_right (is_between r.0 r.1 k) (is_in rs k) at, low, high)
]

pub keys_meet : (rs : Intervals) (lo hi : ℕ) → HasOf rs lo hi → is_met rs lo hi ≡ true
keys_meet [] lo hi (k, at, low, high) = absurd (both_ways false refl at)
keys_meet (r ∷ rs) lo hi (k, at, low, high) = elim (or_cases (is_between r.0 r.1 k) (is_in rs k) at) [
  | inl first ↦
      let (down, up) = clip_out lo hi r.0 r.1 k low high first in
      or_left (meets lo hi r) (is_met rs lo hi) (lt-ltb (larger lo r.0) (smaller hi r.1) (omega (arith, down, up)))
  | inr rest ↦ or_right (meets lo hi r) (is_met rs lo hi) (keys_meet rs lo hi (k, rest, low, high))
]

-- a test that is told by them
pub met_iff : (t : Bool) (rs : Intervals) (lo hi : ℕ) → t ≡ is_met rs lo hi → (t ≡ true) ↔ HasOf rs lo hi
met_iff t rs lo hi is = ((λ e. met_keys rs lo hi (sym is ∙ e)), (λ h. is ∙ keys_meet rs lo hi h))

-- ---- of a command's edits

shuffle : (f r v z c : Bool) → ((f || (r || v)) || (z || c)) ≡ ((z || (f || r)) || (v || c))
shuffle true r v true c = refl
shuffle true r v false c = refl
shuffle false true v true c = refl
shuffle false true v false c = refl
shuffle false false true true c = refl
shuffle false false true false c = refl
shuffle false false false true c = refl
shuffle false false false false c = refl

module _ (e : HeldEdits) where
  fs : Pairs
  fs = flat_map fill_pairs e.fills.items

  rs : Pairs
  rs = flat_map run_pairs e.runs.items

  vs : Pairs
  vs = map pair_of e.puts.items

  zs : Intervals
  zs = map interval_of e.zeros.items

  cs : Intervals
  cs = map interval_of e.cuts.items

  -- the keys that get bytes, and those of values and cuts
  abbrev pub byte_keys : Intervals
  byte_keys = map interval_of e.zeros.items ++ put_keys
      (flat_map fill_pairs e.fills.items ++ flat_map run_pairs e.runs.items)

  abbrev pub single_keys : Intervals
  single_keys = put_keys (map pair_of e.puts.items) ++ map interval_of e.cuts.items

  pub in_changed : (k : ℕ) → is_in (changed (edits_of e)) k ≡ is_in (byte_keys ++ single_keys) k
  unfolding fs rs vs zs cs
  in_changed k =
      in_append (put_keys (fs ++ (rs ++ vs))) (zs ++ cs) k
      ∙ (λ i. in_both fs (rs ++ vs) k i || in_append zs cs k i)
      ∙ ap (λ (b : Bool). (is_in (put_keys fs) k || b) || (is_in zs k || is_in cs k)) (in_both rs vs k)
      ∙ shuffle (is_in (put_keys fs) k) (is_in (put_keys rs) k) (is_in (put_keys vs) k) (is_in zs k) (is_in cs k)
      ∙ sym (in_append (zs ++ put_keys (fs ++ rs)) (put_keys vs ++ cs) k
      ∙ (λ i. (in_append zs (put_keys (fs ++ rs)) k i) || (in_append (put_keys vs) cs k i))
      ∙ ap (λ (b : Bool). (is_in zs k || b) || (is_in (put_keys vs) k || is_in cs k)) (in_both fs rs k))

  module _ (suit : SuitLeaves 16384 (edits_of e)) where
    filtered : filter (λ p. is_byte p.1) (fs ++ (rs ++ vs)) ≡ fs ++ (rs ++ filter (λ p. is_byte p.1) vs)
    unfolding fs rs
    filtered =
        filter-append (λ p. is_byte p.1) fs (rs ++ vs)
        ∙ (λ i. fills_filter e.fills.items i ++
        (filter-append (λ p. is_byte p.1) rs vs ∙ ap (λ (ps : Pairs). ps ++ filter (λ p. is_byte p.1) vs)
        (runs_filter e.runs.items)) i)

    -- bytes are bodies' alone
    no_bytes : (k : ℕ) → is_body k ≡ false → is_in byte_keys k ≡ false
    unfolding fs rs vs zs
    no_bytes k none =
        let nothing = bodies_only 16384 (bytes_set (edits_of e)) k suit.bytes none in
        let parts = or_parts (is_in (put_keys (flat_map zero_pairs zs)) k)
        (is_in (put_keys (filter (λ p. is_byte p.1) (fs ++ (rs ++ vs)))) k)
        (sym (in_both (flat_map zero_pairs zs) (filter (λ p. is_byte p.1) (fs ++ (rs ++ vs))) k) ∙ nothing) in
        let lists : is_in (put_keys (fs ++ (rs ++ filter (λ p. is_byte p.1) vs))) k
        ≡ false = ap (λ (ps : Pairs). is_in (put_keys ps) k) (sym filtered) ∙ parts.1 in
        let first = or_parts (is_in (put_keys fs) k) (is_in (put_keys (rs ++ filter (λ p. is_byte p.1) vs)) k)
        (sym (in_both fs (rs ++ filter (λ p. is_byte p.1) vs) k) ∙ lists) in
        let second = or_parts (is_in (put_keys rs) k) (is_in (put_keys (filter (λ p. is_byte p.1) vs)) k)
        (sym (in_both rs (filter (λ p. is_byte p.1) vs) k) ∙ first.1) in
        in_append zs (put_keys (fs ++ rs)) k
        ∙ or_from (is_in zs k) (is_in (put_keys (fs ++ rs)) k) (sym (zeros_keys zs k) ∙ parts.0)
        (in_both fs rs k ∙ or_from (is_in (put_keys fs) k) (is_in (put_keys rs) k) first.0 second.0)

    bytes_bodies : (k : ℕ) → is_in byte_keys k ≡ true → is_body k ≡ true
    bytes_bodies k at = by_test (is_body k) refl
      where
        by_test : (b : Bool) → is_body k ≡ b → b ≡ true
        by_test true h = refl
        by_test false h = absurd (both_ways (is_in byte_keys k) (no_bytes k h) at)

    module _ (lo hi : ℕ) where
      as_changed : (body : Bool) → MeetsKind body (byte_keys ++ single_keys) lo hi
          → MeetsKind body (changed (edits_of e)) lo hi
      as_changed body (k, at, kind, low, high) = (k, in_changed k ∙ at, kind, low, high)

      changed_as : (body : Bool) → MeetsKind body (changed (edits_of e)) lo hi
          → MeetsKind body (byte_keys ++ single_keys) lo hi
      changed_as body (k, at, kind, low, high) = (k, sym (in_changed k) ∙ at, kind, low, high)

      -- of keys that are no body's
      pub other_in : MeetsKind false single_keys lo hi → MeetsKind false (changed (edits_of e)) lo hi
      other_in h = as_changed false (meets_rest false byte_keys single_keys lo hi h)

      pub in_other : MeetsKind false (changed (edits_of e)) lo hi → MeetsKind false single_keys lo hi
      in_other h = elim (meets_cases false byte_keys single_keys lo hi (changed_as false h)) [
        | inl bytes ↦ (let (k, at, kind, low, high) = bytes in absurd (both_ways (is_body k) kind (bytes_bodies k at)))
        | inr rest ↦ rest
      ]

      -- of bodies' keys
      pub byte_in : HasOf byte_keys lo hi → MeetsKind true (changed (edits_of e)) lo hi
      byte_in (k, at, low, high) = as_changed true
          (meets_first true byte_keys single_keys lo hi (k, at, bytes_bodies k at, low, high))

      pub single_in : MeetsKind true single_keys lo hi → MeetsKind true (changed (edits_of e)) lo hi
      single_in h = as_changed true (meets_rest true byte_keys single_keys lo hi h)

      pub body_cases : MeetsKind true (changed (edits_of e)) lo hi
          → HasOf byte_keys lo hi ⊎ MeetsKind true single_keys lo hi
      body_cases h = elim (meets_cases true byte_keys single_keys lo hi (changed_as true h)) [
        | inl bytes ↦ (let (k, at, kind, low, high) = bytes in inl (k, at, low, high))
        | inr rest ↦ inr rest
      ]
