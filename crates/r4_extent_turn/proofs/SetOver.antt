-- What stood in leaves, with what edits put over it.
use Rattle.std.proofs.Common.{◌≡◌, ℕ, ◌+◌, ◌-◌, ◌<◌, ◌≤◌, Bool, true, false, cond, List, [], ◌∷◌, ◌++◌, replicate, refl, sym, ap, ◌∙◌, arith, inl, inr}
use Rattle.std.specs.Prelude.{Contains, None, Option, Some, unwrap_or, ◌==◌, ◌&&◌, ◌||◌, nat_lt}
use Rattle.std.specs.Option.{option_or}
use Rattle.std.proofs.lemmas.Bool.{eqb-true, ltb-false}
use Rattle.std.proofs.lemmas.List.Concat.{flat_map-cons}
use Rattle.std.proofs.lemmas.List.Elements.{Contains-append_cases}
use Rattle.r4_base.specs.Value.{Byte, Value}
use Rattle.r4_extent_build.specs.r4_cell.Seen.{CellSeen, node_of}
use Rattle.r4_content.specs.Edited.{Edits, Intervals, Pairs, is_between, is_in, put_keys}
use Rattle.r4_content.specs.Objects.{byte_pairs}
use Rattle.r4_content.specs.Seen.{pairs_in}
use Rattle.r4_extent_build.specs.r4_extent_blocks.Setting.{byte_of, byte_set, last_put, zero_in}
use Rattle.r4_extent_build.proofs.r4_extent_blocks.Sets.{last_filled, last_more}
use Rattle.r4_extent_build.proofs.TurnEffect.{calm}
use Rattle.r4_extent_build.specs.Growing.{end_after}
use Rattle.r4_extent_build.specs.Setting.{byte_after}
use Rattle.r4_build.proofs.r4_patch.Members.{here, later, none}
use Rattle.r4_build.specs.r4_reach.Needs.{gets_bytes, is_met}
use Rattle.r4_build.specs.r4_reach.Touched.{Body, first_byte, turns_out}
use Rattle.r4_build.proofs.r4_work.UnitMembers.{filtered}
use Rattle.r4_extent_turn.specs.Gathering.{units_within}
use Rattle.r4_extent_turn.specs.Turning.{IsTurnFor, IsTurningBody, Turn, leaves_of, pairs_put, set_over, tails_of, turned_byte, zero_pairs}
use Rattle.r4_base.specs.declared.key.Key.{Key}

pub or_none : (o : Option ℕ) → option_or o None ≡ o
or_none None = refl
or_none (Some x) = refl

-- ---- zeros as pairs

zeros_put : (rs : Intervals) (k : ℕ) → last_put (zero_pairs rs) k ≡ zero_in rs k
zeros_put [] k = refl
zeros_put (r ∷ rs) k =
    ap (λ (ps : Pairs). last_put ps k) (flat_map-cons (λ (x : ℕ × ℕ). byte_pairs x.0 (replicate (x.1 - x.0) 0)) r rs)
    ∙ (sym (last_more (byte_pairs r.0 (replicate (r.1 - r.0) 0)) (zero_pairs rs) k)
    ∙ ((λ i. option_or (zeros_put rs k i) (last_filled r.0 r.1 0 k i)) ∙ by_tests (is_in rs k) (is_between r.0 r.1 k)))
  where
    by_tests : (a b : Bool) → option_or {T = ℕ} (cond a (Some 0) None) (cond b (Some 0) None) ≡ cond (b || a) (Some 0) None
    by_tests true true = refl
    by_tests true false = refl
    by_tests false true = refl
    by_tests false false = refl

pub put_all : (e : Edits) (k : ℕ) → last_put (pairs_put e) k ≡ byte_set e k
put_all e k = sym (last_more (zero_pairs e.zeros) e.puts k) ∙ ap (option_or (last_put e.puts k)) (zeros_put e.zeros k)

-- edits that put what others put, and over it what further ones put
pub over_is : (t e : Edits) (k : ℕ) → byte_set (set_over t e) k ≡ option_or (byte_set e k) (byte_set t k)
over_is t e k =
    or_none (last_put (pairs_put t ++ pairs_put e) k)
    ∙ (sym (last_more (pairs_put t) (pairs_put e) k) ∙ (λ i. option_or (put_all e k i) (put_all t k i)))

pub unwrap_over : (x y : Option ℕ) → unwrap_or (option_or x y) 0 ≡ unwrap_or x (unwrap_or y 0)
unwrap_over None y = refl
unwrap_over (Some x) y = refl

pub byte_over : (b : Body) (e : Edits) (x : Turn) (k : ℕ) → byte_after (set_over (tails_of b x) e) k ≡ turned_byte b e x k
byte_over b e x k = ap (λ (o : Option ℕ). Byte (unwrap_or o 0)) (over_is (tails_of b x) e k) ∙ ap Byte (unwrap_over (byte_set e k) (byte_set (tails_of b x) k))

-- ---- a block that gets no bytes

no_pair : (ps : Pairs) (k : ℕ) → ((p : ℕ × Value) → Contains ps p → p.0 ≡ k → ⊥) → last_put ps k ≡ None
no_pair [] k never = refl
no_pair (p ∷ ps) k never = (λ i. option_or (no_pair ps k (λ q at. never q (later p q ps at)) i) (cond (other (p.0 == k) refl i) (byte_of p.1) None))
  where
    other : (t : Bool) → (p.0 == k) ≡ t → (p.0 == k) ≡ false
    other true h = absurd (never p (here p ps) (eqb-true p.0 k h))
    other false h = h

-- a unit of one of the leaves, between the keys
pub in_leaf : (from to : ℕ) (cells : List CellSeen) (p : ℕ × Value) → Contains (units_within from to cells) p
    → (c : CellSeen) × (Contains cells c × (Contains (node_of c).units p × (is_between from to p.0 ≡ true)))
in_leaf from to [] p at = absurd (none p at)
in_leaf from to (c ∷ cs) p at =
    let parts = ap (λ (ps : Pairs). Contains ps p) (flat_map-cons (λ (d : CellSeen). pairs_in (node_of d).units from to) c cs) in
    elim (Contains-append_cases (pairs_in (node_of c).units from to) (units_within from to cs) p (by_parts at)) [
      | inl mine ↦ let f = filtered (λ (u : ℕ × Value). is_between from to u.0) (node_of c).units p mine in (c, (here c cs, f))
      | inr more ↦ let (d, (m, h)) = in_leaf from to cs p more in (d, (later c d cs m, h))
    ]
  where
    by_parts : Contains (units_within from to (c ∷ cs)) p → Contains (pairs_in (node_of c).units from to ++ units_within from to cs) p
    by_parts m = rw (flat_map-cons (λ (d : CellSeen). pairs_in (node_of d).units from to) c cs) at m

module _ (b : Body) (first : Key) (g : IsTurningBody b first) (x : Turn) (c : IsTurnFor b x) (e : Edits) where
  no_tail : (k : ℕ) → first_byte b + b.was ≤ k → byte_set (tails_of b x) k ≡ None
  no_tail k past = or_none (last_put (units_within (first_byte b) (end_after b) (leaves_of x)) k)
      ∙ no_pair (units_within (first_byte b) (end_after b) (leaves_of x)) k (λ p at same.
      let (d, (m, (has, on))) = in_leaf (first_byte b) (end_after b) (leaves_of x) p at in
      let low = c.short d p.0 p.1 m has on in
      omega (arith, low, same, past))

  pub still : (k : ℕ) → gets_bytes b e k ≡ false → (j : ℕ) → k ≤ j → j < k + 4096 → unwrap_or (byte_set (set_over (tails_of b x) e) j) 0 ≡ 0
  still k off j low high =
      let (no_put, no_byte) = by_tests (is_met (put_keys e.puts) k (k + 4096)) (turns_out b) (nat_lt k (first_byte b + b.was)) off g.turns in
      let past : first_byte b + b.was ≤ k = is_past k no_byte in
      ap (λ (o : Option ℕ). unwrap_or o 0) (over_is (tails_of b x) e j ∙ (ap (option_or (byte_set e j)) (no_tail j (omega (arith, past, low))) ∙ or_none (byte_set e j)))
      ∙ calm b e k off j low high
    where
      by_tests : (p t l : Bool) → (p || (t && l)) ≡ false → t ≡ true → (p ≡ false) × (l ≡ false)
      by_tests true t l h on = absurd cc
      by_tests false true true h on = absurd cc
      by_tests false true false h on = (refl, refl)
      by_tests false false l h on = absurd cc

      is_past : (k : ℕ) → nat_lt k (first_byte b + b.was) ≡ false → first_byte b + b.was ≤ k
      is_past k h = ltb-false k (first_byte b + b.was) h
