-- The loop that makes neighbouring units one.
use Rattle.std.proofs.Common.{◌≡◌, inl, inr, ℕ, suc, ◌+◌, ◌-◌, ◌*◌, ◌/◌, ◌^◌, ◌<◌, ◌≤◌, true, false, List, [], ◌∷◌, ◌++◌, length, get_or, set, take, drop, None, refl, sym, ap, subst, ◌∙◌, arith}
use Rattle.std.proofs.Math.Seq.{drop-cons}
use Rattle.std.proofs.lemmas.Bool.{cases_lt}
use Rattle.std.proofs.lemmas.List.{same_lists, length-set, length-append, get_or-set_same, get_or-set_other, get_or_append_left, get_or-append_right, append_assoc, drop_all}
use Rattle.r4_base.specs.declared.items.Unit.{Unit as ExtentUnit}
use Rattle.r4_base.specs.Extents.{unit_at, units_from, units_of, body_fault, continues, joined, joined_to, WidthsFit, AreLawfulUnits}
use Rattle.r4_twig.proofs.Places.{unit_at-moved, length-units_of_take, get_or-units_of_take}
use Rattle.r4_twig.proofs.Joins.{made_one, joined_more, joined_next, width_fits, lawful-joined}
use Rattle.r4_twig.proofs.Edits.{accepted, accepted_none}

-- The units before unit i are made one as far as they go on: those before `end` are written, and `last` is at hand.
pub record IsJoinedSoFar (b : List ℕ) (used : ℕ) (body : List ℕ) (last : ExtentUnit) (end i : ℕ) : Type 0 where
  pub apart : end < i
  pub behind : (k : ℕ) → 16 * i ≤ k → get_or body k 0 ≡ get_or b k 0
  pub units : joined (units_of (take used b)) ≡ units_of (take (16 * end) body) ++ joined_to last (drop i (units_of (take used b)))

rest_at : (b : List ℕ) (used i : ℕ) → used ≤ length b → i < used / 16 → drop i (units_of (take used b)) ≡ unit_at b i ∷ drop (i + 1) (units_of (take used b))
rest_at b used i le lt =
    let us = units_of (take used b) in
    let n = length-units_of_take used b le in
    let s : suc i ≡ i + 1 = omega arith in
    let one = drop-cons us i (unit_at b i) (omega arith) in
    let u = get_or-units_of_take used i (unit_at b i) b le lt in
    one ∙ ap (λ (v : ExtentUnit). v ∷ drop (suc i) us) u ∙ ap (λ (k : ℕ). unit_at b i ∷ drop k us) s

none_yet : (b : List ℕ) → units_of (take (16 * 0) b) ≡ []
unfolding units_of units_from
none_yet b = refl

pub first_state : (b : List ℕ) (used : ℕ) → used ≤ length b → body_fault true (2 ^ 63) (take used b) ≡ None → IsJoinedSoFar b used b (unit_at b 0) 0 1
first_state b used le none =
    let some = (accepted (2 ^ 63) b used le none).some in
    let us = units_of (take used b) in
    let one : us ≡ unit_at b 0 ∷ drop 1 us = rest_at b used 0 le (omega arith) in
    record {
      apart = omega arith;
      behind = λ k _. refl;
      units = ap joined one ∙ sym (ap (λ (vs : List ExtentUnit). vs ++ joined_to (unit_at b 0) (drop 1 us)) (none_yet b));
    }

same_unit : (b body : List ℕ) (i : ℕ) → ((k : ℕ) → 16 * i ≤ k → get_or body k 0 ≡ get_or b k 0) → unit_at body i ≡ unit_at b i
same_unit b body i h = unit_at-moved i i body b (λ k lt. h (16 * i + k) (omega arith))

-- the units that are left, with the next one
next_unit : (b : List ℕ) (used : ℕ) (body : List ℕ) (last : ExtentUnit) (end i : ℕ) (unit : ExtentUnit) → used ≤ length b → i < used / 16 → unit ≡ unit_at body i → IsJoinedSoFar b used body last end i
    → joined (units_of (take used b)) ≡ units_of (take (16 * end) body) ++ joined_to last (unit ∷ drop (i + 1) (units_of (take used b)))
next_unit b used body last end i unit le lt is h =
    let us = units_of (take used b) in
    let u : unit_at b i ≡ unit = sym (is ∙ same_unit b body i h.behind) in
    let left : drop i us ≡ unit ∷ drop (i + 1) us = rest_at b used i le lt ∙ ap (λ (v : ExtentUnit). v ∷ drop (i + 1) us) u in
    h.units ∙ ap (λ (vs : List ExtentUnit). units_of (take (16 * end) body) ++ joined_to last vs) left

-- the unit goes on
pub more_state : (b : List ℕ) (used : ℕ) (body : List ℕ) (last : ExtentUnit) (end i : ℕ) (unit : ExtentUnit) → used ≤ length b → i < used / 16 → unit ≡ unit_at body i → continues last unit ≡ true → IsJoinedSoFar b used body last end i
    → IsJoinedSoFar b used body (made_one last unit) end (i + 1)
more_state b used body last end i unit le lt is on h =
    let apart = h.apart in
    record {
      apart = omega arith;
      behind = λ k past. h.behind k (omega arith);
      units = next_unit b used body last end i unit le lt is h ∙ ap (λ (vs : List ExtentUnit). units_of (take (16 * end) body) ++ vs) (joined_more last unit (drop (i + 1) (units_of (take used b))) on);
    }

fits_behind : (us vs : List ExtentUnit) → WidthsFit (us ++ vs) → WidthsFit vs
fits_behind [] vs h = h
fits_behind (u ∷ us) vs h = fits_behind us vs h.1

pub sum_fits : (b : List ℕ) (used : ℕ) (body : List ℕ) (last : ExtentUnit) (end i : ℕ) (unit : ExtentUnit) → used ≤ length b → i < used / 16 → unit ≡ unit_at body i → continues last unit ≡ true → IsJoinedSoFar b used body last end i
    → WidthsFit (joined (units_of (take used b))) → last.width + unit.width < 2 ^ 64
sum_fits b used body last end i unit le lt is on h fit =
    let more = more_state b used body last end i unit le lt is on h in
    let rest = drop (i + 1) (units_of (take used b)) in
    width_fits rest (made_one last unit) (fits_behind (units_of (take (16 * end) body)) (joined_to (made_one last unit) rest) (subst WidthsFit more.units fit))

-- one more unit is written
pub written_one : (body new : List ℕ) (last : ExtentUnit) (end : ℕ) → 16 * end + 16 ≤ length body → units_of (take (16 * (end + 1)) new) ≡ set (units_of (take (16 * (end + 1)) body)) end last
    → units_of (take (16 * (end + 1)) new) ≡ units_of (take (16 * end) body) ++ (last ∷ [])
written_one body new last end le is =
    let ws = units_of (take (16 * end) body) in
    let vs = units_of (take (16 * (end + 1)) body) in
    let n = length-units_of_take (16 * end) body (omega arith) in
    let m = length-units_of_take (16 * (end + 1)) body (omega arith) in
    let l = length-set vs end last in
    let a = length-append ws (last ∷ []) in
    is ∙ same_lists (set vs end last) (ws ++ (last ∷ [])) (omega arith) (λ j d lt. elim (cases_lt j end) [
      | inl early ↦ get_or-set_other vs end j last d (λ e. omega arith) ∙ get_or-units_of_take (16 * (end + 1)) j d body (omega arith) (omega arith)
          ∙ sym (get_or_append_left ws (last ∷ []) d j (omega arith) ∙ get_or-units_of_take (16 * end) j d body (omega arith) (omega arith))
      | inr late ↦
          let here : j ≡ end = omega arith in
          let zero_left : end - end ≡ 0 = omega arith in
          let one : get_or (ws ++ (last ∷ [])) end d ≡ last = get_or-append_right ws (last ∷ []) end end d (omega arith) (omega arith) ∙ ap (λ (k : ℕ). get_or (last ∷ []) k d) zero_left in
          rw here (get_or-set_same vs end last d (omega arith) ∙ sym one)
    ])

-- the unit does not go on: the one at hand is written
pub next_state : (b : List ℕ) (used : ℕ) (body new : List ℕ) (last : ExtentUnit) (end i : ℕ) (unit : ExtentUnit) → used ≤ length b → length body ≡ length b → i < used / 16 → unit ≡ unit_at body i → continues last unit ≡ false
    → units_of (take (16 * (end + 1)) new) ≡ set (units_of (take (16 * (end + 1)) body)) end last → ((k : ℕ) → 16 * end + 16 ≤ k → get_or new k 0 ≡ get_or body k 0) → IsJoinedSoFar b used body last end i
    → IsJoinedSoFar b used new unit (end + 1) (i + 1)
next_state b used body new last end i unit le long lt is off written elsewhere h =
    let apart = h.apart in
    let rest = drop (i + 1) (units_of (take used b)) in
    let ws = units_of (take (16 * end) body) in
    let one = written_one body new last end (omega arith) written in
    record {
      apart = omega arith;
      behind = λ k past. elsewhere k (omega arith) ∙ h.behind k (omega arith);
      units = next_unit b used body last end i unit le lt is h
          ∙ ap (λ (vs : List ExtentUnit). ws ++ vs) (joined_next last unit rest off)
          ∙ sym (append_assoc ws (last ∷ []) (joined_to unit rest))
          ∙ ap (λ (vs : List ExtentUnit). vs ++ joined_to unit rest) (sym one);
    }

-- no unit is left: the one at hand is written
pub all_joined : (b : List ℕ) (used : ℕ) (body new : List ℕ) (last : ExtentUnit) (end i : ℕ) → used ≤ length b → length body ≡ length b → i ≡ used / 16
    → units_of (take (16 * (end + 1)) new) ≡ set (units_of (take (16 * (end + 1)) body)) end last → IsJoinedSoFar b used body last end i
    → units_of (take (16 * (end + 1)) new) ≡ joined (units_of (take used b))
all_joined b used body new last end i le long done written h =
    let apart = h.apart in
    let us = units_of (take used b) in
    let n = length-units_of_take used b le in
    let left : drop i us ≡ [] = drop_all i us (omega arith) in
    written_one body new last end (omega arith) written ∙ sym (h.units ∙ ap (λ (vs : List ExtentUnit). units_of (take (16 * end) body) ++ joined_to last vs) left)

-- what is made one is accepted again
pub join_accepted : (b new : List ℕ) (used end : ℕ) → used ≤ length b → length new ≡ length b → 16 * (end + 1) ≤ used → body_fault true (2 ^ 63) (take used b) ≡ None
    → units_of (take (16 * (end + 1)) new) ≡ joined (units_of (take used b)) → body_fault true (2 ^ 63) (take (16 * (end + 1)) new) ≡ None
join_accepted b new used end le long short none is =
    let h = accepted (2 ^ 63) b used le none in
    accepted_none (2 ^ 63) new (16 * (end + 1)) (omega arith) (omega arith) (omega arith)
    (subst (AreLawfulUnits true (2 ^ 63)) (sym is) (lawful-joined true (2 ^ 63) (units_of (take used b)) h.units))
