use Rattle.std.proofs.Common.{◌≡◌, ℕ, ◌+◌, ◌-◌, ◌*◌, ◌^◌, ◌<◌, ◌≤◌, Bool, false, sym, ap, ◌∙◌, arith, inl, inr}
use Rattle.std.specs.Prelude.{◌==◌, ◌&&◌, slice_index}
use Rattle.std.proofs.lemmas.Bool.{and_from, both_ways, cases_order, eq-eqb, le-ltb, ltb-false}
use Rattle.r4_base.specs.Key.{IsKey, offset_of, rank, with_offset}
use Rattle.r4_base.specs.declared.key.Key.{Key}
use Rattle.r4_leaf_edits.proofs.touching.reaches.Goals as goal

abbrev same : Key → Key → Bool
same a b = slice_index a.el 0 == slice_index b.el 0 && (slice_index a.el 1 == slice_index b.el 1 && slice_index a.el 2 == slice_index b.el 2)

-- what stands above the offset
abbrev upper : Key → ℕ
upper k = slice_index k.el 0 * 2 ^ 128 + (slice_index k.el 1 * 2 ^ 64 + slice_index k.el 2)

rank_is : (k : Key) → rank k ≡ upper k * 2 ^ 64 + offset_of k
unfolding rank
rank_is k = omega arith

-- keys of other bodies differ above their offsets
upper_apart : (a b : Key) → IsKey a → IsKey b → same a b ≡ false → upper a ≡ upper b → ⊥
upper_apart a b ka kb other e =
    let a1 = ka.small 1 in
    let a2 = ka.small 2 in
    let b1 = kb.small 1 in
    let b2 = kb.small 2 in
    let e0 : slice_index a.el 0 ≡ slice_index b.el 0 = omega arith in
    let e1 : slice_index a.el 1 ≡ slice_index b.el 1 = omega arith in
    let e2 : slice_index a.el 2 ≡ slice_index b.el 2 = omega arith in
    both_ways (same a b) other (and_from _ _ (eq-eqb _ _ e0) (and_from _ _ (eq-eqb _ _ e1) (eq-eqb _ _ e2)))

upper_with : (k : Key) (n : ℕ) → rank (with_offset k n) ≡ upper k * 2 ^ 64 + n
unfolding rank
upper_with k n = omega arith

far_numbers : (f o b fo oo bo count : ℕ) → fo < 2 ^ 64 → oo < 2 ^ 64 → bo < 2 ^ 64 → count < 2 ^ 64 → b * 2 ^ 64 + bo ≡ f * 2 ^ 64 + (2 ^ 64 - 1) + 1 → f * 2 ^ 64 + fo ≤ o * 2 ^ 64 + oo → (f ≡ o → ⊥) → (b ≡ o → ⊥)
    → f * 2 ^ 64 + fo + count ≤ o * 2 ^ 64 + oo
far_numbers f o b fo oo bo count hf ho hb hc next order apart_f apart_b =
    let b_is : b ≡ f + 1 = omega (arith, next, hb) in
    let above : f < o = elim (cases_order f o) [ inl same ↦ absurd (apart_f same) | inr rest ↦ elim rest [ inl lt ↦ lt | inr gt ↦ absurd (omega (arith, gt, order, hf, ho)) ] ] in
    let more : f + 1 < o = elim (cases_order b o) [ inl same ↦ absurd (apart_b same) | inr rest ↦ elim rest [ inl lt ↦ omega (arith, lt, b_is) | inr gt ↦ absurd (omega (arith, gt, above, b_is)) ] ] in
    omega (arith, more, hf, hc)

far : (f o b end : Key) (count : ℕ) → IsKey f → IsKey o → IsKey b → count < 2 ^ 64 → end ≡ with_offset f (2 ^ 64 - 1) → rank b ≡ rank end + 1 → rank f ≤ rank o → same f o ≡ false → same b o ≡ false → rank f + count ≤ rank o
far f o b end count kf ko kb small is next order apart_f apart_b =
    let rf = rank_is f in
    let ro = rank_is o in
    let rb = rank_is b in
    let re : rank end ≡ upper f * 2 ^ 64 + (2 ^ 64 - 1) = ap rank is ∙ upper_with f (2 ^ 64 - 1) in
    let told = far_numbers (upper f) (upper o) (upper b) (offset_of f) (offset_of o) (offset_of b) count (kf.small 3) (ko.small 3) (kb.small 3) small (omega (arith, rb, re, next)) (omega (arith, rf, ro, order))
    (upper_apart f o kf ko apart_f) (upper_apart b o kb ko apart_b) in
    omega (arith, told, rf, ro)

pub returns-else-is_same_body-2 : goal.returns-else-is_same_body-2
returns-else-is_same_body-2 c =
    let f = c.args.from in
    let o = c.args.other in
    let order = c.if-is_below.false in
    c.if-is_same_body-2.false
    ∙ sym (le-ltb (rank o) (rank f + c.args.count)
    (far f o c.next_key-border.result c.with_offset.result c.args.count c.is_same_body.ensures.keys.0 c.is_same_body.ensures.keys.1 c.is_same_body-2.ensures.keys.0 (omega arith) c.with_offset.ensures c.next_key-border.ensures
    (ltb-false (rank o) (rank f) (sym c.is_below.ensures ∙ order)) (sym c.if-is_same_body.ensures.same) (sym c.if-is_same_body-2.ensures.same)))
