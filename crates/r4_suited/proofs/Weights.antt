-- How many bytes rising units need at most in a leaf, where keys are cut out of them and values are put in.
use Rattle.std.specs.Prelude.{◌≡◌, ◌⊎◌, ℕ, zero, suc, ◌+◌, ◌-◌, ◌*◌, ◌<◌, ◌≤◌, List, [], ◌∷◌, length, replicate, Bool}
use Rattle.std.specs.Prelude.{true, false, not, ◌||◌, ◌==◌, cond, All, Option, Some, None, T, if◌then◌else◌}
use Rattle.std.proofs.Common.{arith, inl, inr, refl, sym, ap, subst, ◌∙◌, Less, Equal, Greater}
use Rattle.std.specs.Cmp.{nat_cmp_is, unsigned_tied}
use Rattle.std.specs.FinMap.{find, is_sorted, put}
use Rattle.std.specs.FinMap.Entries.{below_all, by_order, find-put, is_sorted-put}
use Rattle.std.specs.List.{filter}
use Rattle.std.specs.Ordering.{is_lt, nat_cmp}
use Rattle.std.proofs.lemmas.Bool.{cases_lt, eq-eqb, eqb-true}
use Rattle.std.proofs.lemmas.Bool.Decides.{nat_tests}
use Rattle.std.proofs.lemmas.Cmp.{nat_cmp_total}
use Rattle.std.proofs.lemmas.Grind.{common_steps}
use Rattle.std.proofs.lemmas.List.{length-replicate}
use Rattle.std.proofs.lemmas.List.Elements.{All-head, All-tail}
use Rattle.std.proofs.lemmas.Option.{same_Some}
use Rattle.r4_base.specs.Name.{is_long_name, name_fault}
use Rattle.r4_base.specs.Value.{Byte, Entry, Stat, Value}
use Rattle.r4_base.specs.declared.items.Target.{Target}
use Rattle.r4_base.proofs.Names.{is_name}
use Rattle.r4_content.specs.Edited.{Edits, Intervals, Pairs, is_between}
use Rattle.r4_content.specs.Listed.{list_cut, list_put, list_zero_from}
use Rattle.r4_content.specs.Objects.{byte_pairs}
use Rattle.r4_content.specs.Seen.{Rises}
use Rattle.r4_content.proofs.EditLaws.{last_put}
use Rattle.r4_content.proofs.Counting.{below_lt, first_holds, second_holds}
use Rattle.r4_leaf_edits.specs.r4_leaf.Units.{LeafUnit, bytes_behind, entry_bytes, leaf_bytes, unit_bytes}
use Rattle.r4_leaf_edits.proofs.r4_leaf.Rising.{Rise, below_kept, between_cut, cut_high}
use Rattle.r4_leaf_edits.proofs.r4_leaf.Weighed.{byte_cost, entry_weighs, headed, stat_cost}
use Rattle.r4_leaf_edits.proofs.Lookups.{edited_rises, found, kept_rises, same_rising}
use Rattle.r4_suited.proofs.Few.{IsValue}

-- ---- units rise

rise_behind : (j : ℕ) (us : Pairs) → T (below_all nat_cmp j us) → Rises us → (to : ℕ) × Rise (j + 1) to us
rise_behind j [] b r = (j + 1, omega arith)
rise_behind j (u ∷ us) b r =
    let lt = below_lt j u.0 (first_holds (is_lt (nat_cmp j u.0)) (below_all nat_cmp j us) b) in
    let (to, rest) = rise_behind u.0 us (first_holds (below_all nat_cmp u.0 us) (is_sorted nat_cmp us) r)
    (second_holds (below_all nat_cmp u.0 us) (is_sorted nat_cmp us) r) in
    (to, (omega (arith, lt), rest))

pub rise_of : (us : Pairs) → Rises us → (to : ℕ) × Rise 0 to us
rise_of [] r = (0, omega arith)
rise_of (u ∷ us) r =
    let (to, rest) = rise_behind u.0 us (first_holds (below_all nat_cmp u.0 us) (is_sorted nat_cmp us) r)
    (second_holds (below_all nat_cmp u.0 us) (is_sorted nat_cmp us) r) in
    (to, (omega arith, rest))

-- ---- the unit before matters by a header alone

pub any_before : (b d : Option LeafUnit) (us : List LeafUnit) → bytes_behind b us ≤ bytes_behind d us + 40
unfolding bytes_behind
any_before b d [] = omega arith
any_before b d (u ∷ us) =
    let one = (headed b u).0 in
    let other = (headed d u).1 in
    omega (arith, one, other)

-- ---- cuts

-- from the first key that goes on
cut_on : (from to a end : ℕ) (b d : Option LeafUnit) (us : List LeafUnit) → from ≤ a → Rise a end us
    → bytes_behind b (filter (λ u. not (is_between from to u.0)) us) ≤ bytes_behind d us + 40
unfolding bytes_behind
cut_on from to a end b d [] le h = omega arith
cut_on from to a end b d (u ∷ us) le h = elim (cases_lt u.0 to) [
  | inl within ↦
      let low = h.0 in
      let gone = between_cut from to u.0 (omega (arith, le, low)) within in
      let rest = cut_on from to (u.0 + 1) end b (Some u) us (omega (arith, le, low)) h.1 in
      rw gone (omega (arith, rest))
  | inr past ↦
      let same = ap (bytes_behind b) (cut_high from to u.0 end (u ∷ us) past (omega arith, h.1)) in
      let any = any_before b d (u ∷ us) in
      omega (arith, same, any)
]

cut_costs : (from to a end : ℕ) (b : Option LeafUnit) (us : List LeafUnit) → Rise a end us
    → bytes_behind b (filter (λ u. not (is_between from to u.0)) us) ≤ bytes_behind b us + 40
unfolding bytes_behind
cut_costs from to a end b [] h = omega arith
cut_costs from to a end b (u ∷ us) h = elim (cases_lt u.0 from) [
  | inl below ↦
      let kept = below_kept from to u.0 below in
      let rest = cut_costs from to (u.0 + 1) end (Some u) us h.1 in
      rw kept (omega (arith, rest))
  | inr past ↦ cut_on from to u.0 end b b (u ∷ us) past (omega arith, h.1)
]

-- ---- a window

outside_low : (lo hi k : ℕ) → k < lo → is_between lo hi k ≡ false
outside_low lo hi k lt = grind (arith, nat_tests, lt)

outside_high : (lo hi k : ℕ) → hi ≤ k → is_between lo hi k ≡ false
outside_high lo hi k le = grind (arith, nat_tests, le)

inside : (lo hi k : ℕ) → lo ≤ k → k < hi → is_between lo hi k ≡ true
inside lo hi k le lt = grind (arith, nat_tests, le, lt)

none_beyond : (lo hi a end : ℕ) (us : List LeafUnit) → hi ≤ a → Rise a end us
    → filter (λ u. is_between lo hi u.0) us ≡ []
none_beyond lo hi a end [] le h = refl
none_beyond lo hi a end (u ∷ us) le h =
    let low = h.0 in
    let gone = outside_high lo hi u.0 (omega (arith, le, low)) in
    let rest = none_beyond lo hi (u.0 + 1) end us (omega (arith, le, low)) h.1 in
    rw gone rest

window_on : (lo hi a end : ℕ) (b : Option LeafUnit) (us : List LeafUnit) → lo ≤ a → Rise a end us
    → bytes_behind b (filter (λ u. is_between lo hi u.0) us) ≤ bytes_behind b us
unfolding bytes_behind
window_on lo hi a end b [] le h = omega arith
window_on lo hi a end b (u ∷ us) le h = elim (cases_lt u.0 hi) [
  | inl within ↦
      let low = h.0 in
      let kept = inside lo hi u.0 (omega (arith, le, low)) within in
      let rest = window_on lo hi (u.0 + 1) end (Some u) us (omega (arith, le, low)) h.1 in
      rw kept (omega (arith, rest))
  | inr past ↦
      let none = ap (bytes_behind b) (none_beyond lo hi u.0 end (u ∷ us) past (omega arith, h.1)) in
      omega (arith, none)
]

pub window_costs : (lo hi a end : ℕ) (b d : Option LeafUnit) (us : List LeafUnit) → Rise a end us
    → bytes_behind b (filter (λ u. is_between lo hi u.0) us) ≤ bytes_behind d us + 40
unfolding bytes_behind
window_costs lo hi a end b d [] h = omega arith
window_costs lo hi a end b d (u ∷ us) h = elim (cases_lt u.0 lo) [
  | inl below ↦
      let gone = outside_low lo hi u.0 below in
      let rest = window_costs lo hi (u.0 + 1) end b (Some u) us h.1 in
      rw gone (omega (arith, rest))
  | inr past ↦
      let on = window_on lo hi u.0 end b (u ∷ us) past (omega arith, h.1) in
      let any = any_before b d (u ∷ us) in
      omega (arith, on, any)
]

-- ---- one value is put in

put_less : (k : ℕ) (v : Value) (u : LeafUnit) (us : List LeafUnit) → k < u.0
    → put nat_cmp k v (u ∷ us) ≡ (k, v) ∷ (u ∷ us)
put_less k v u us lt = ap (λ o. by_order o ((k, v) ∷ (u ∷ us)) ((u.0, v) ∷ us) (u ∷ put nat_cmp k v us))
    (sym (nat_cmp_is k u.0 Less lt))

put_same : (k : ℕ) (v : Value) (u : LeafUnit) (us : List LeafUnit) → k ≡ u.0 → put nat_cmp k v (u ∷ us) ≡ (u.0, v) ∷ us
put_same k v u us e = ap (λ o. by_order o ((k, v) ∷ (u ∷ us)) ((u.0, v) ∷ us) (u ∷ put nat_cmp k v us))
    (sym (nat_cmp_is k u.0 Equal e))

put_later : (k : ℕ) (v : Value) (u : LeafUnit) (us : List LeafUnit) → u.0 < k
    → put nat_cmp k v (u ∷ us) ≡ u ∷ put nat_cmp k v us
put_later k v u us lt = ap (λ o. by_order o ((k, v) ∷ (u ∷ us)) ((u.0, v) ∷ us) (u ∷ put nat_cmp k v us))
    (sym (nat_cmp_is k u.0 Greater lt))

cases_order : (a b : ℕ) → (a < b) ⊎ ((a ≡ b) ⊎ (b < a))
cases_order a b = elim (cases_lt a b) [
  | inl lt ↦ inl lt
  | inr ge ↦ elim
      (cases_lt b a) [ inl gt ↦ inr (inr gt) | inr le ↦ inr (inl (omega (arith, ge, le))) ]
]

pub put_costs : (b : Option LeafUnit) (k : ℕ) (v : Value) (us : List LeafUnit)
    → bytes_behind b (put nat_cmp k v us) ≤ bytes_behind b us + (unit_bytes None (k, v) + 40)
unfolding bytes_behind
put_costs b k v [] = let h = (headed b (k, v)).0 in omega (arith, h)
put_costs b k v (u ∷ us) = elim (cases_order k u.0) [
  | inl lt ↦
      let own = (headed b (k, v)).0 in
      let next = (headed (Some (k, v)) u).0 in
      let was = (headed b u).1 in
      rw (put_less k v u us lt) (omega (arith, own, next, was))
  | inr (inl e) ↦
      let own = (headed b (u.0, v)).0 in
      let alike = ap (λ (j : ℕ). unit_bytes None (j, v)) e in
      let rest = any_before (Some (u.0, v)) (Some u) us in
      rw (put_same k v u us e) (omega (arith, own, alike, rest))
  | inr (inr gt) ↦
      let rest = put_costs (Some u) k v us in
      rw (put_later k v u us gt) (omega (arith, rest))
]

-- ---- the next byte of a run

-- bytes of one key weigh alike for what follows
same_tip : (j x y : ℕ) (us : List LeafUnit) → bytes_behind (Some (j, Byte x)) us ≡ bytes_behind (Some (j, Byte y)) us
unfolding bytes_behind unit_bytes
same_tip j x y [] = refl
same_tip j x y ((k, Stat a) ∷ us) = refl
same_tip j x y ((k, Entry n t) ∷ us) = refl
same_tip j x y ((k, Byte z) ∷ us) = refl

not_next : (a b : ℕ) → a < b → (a == b) ≡ false
not_next a b lt = grind (arith, nat_tests, lt)

-- what does not follow a byte at once has its header
full_behind : (j x : ℕ) (u : LeafUnit) → j + 1 < u.0 → unit_bytes (Some (j, Byte x)) u ≡ unit_bytes None u
unfolding unit_bytes
full_behind j x (k, Stat a) lt = refl
full_behind j x (k, Entry n t) lt = refl
full_behind j x (k, Byte y) lt = ap (λ (t : Bool). 1 + (if t then 0 else 38)) (not_next (j + 1) k lt)

byte_next : (j x y : ℕ) → unit_bytes (Some (j, Byte x)) (j + 1, Byte y) ≡ 1
unfolding unit_bytes
byte_next j x y = ap (λ (t : Bool). 1 + (if t then 0 else 38)) (eq-eqb (j + 1) (j + 1) refl)

entry_full : (k x j : ℕ) (n : List ℕ) (t : Target) → unit_bytes (Some (k, Byte x)) (j, Entry n t) ≡ 66 + entry_bytes n
unfolding unit_bytes
entry_full k x j n t = omega arith

-- a byte in the place of a value, behind a byte
over_value : (k x y : ℕ) (u : LeafUnit) (us : List LeafUnit) → k + 1 ≡ u.0
    → unit_bytes (Some (k, Byte x)) (u.0, Byte y) + bytes_behind (Some (u.0, Byte y)) us ≤ unit_bytes
    (Some (k, Byte x)) u + bytes_behind (Some u) us + 1
over_value k x y (j, Byte z) us e =
    let one = byte_cost (Some (k, Byte x)) j y in
    let was = byte_cost (Some (k, Byte x)) j z in
    let same = same_tip j y z us in
    omega (arith, one, was, same)
over_value k x y (j, Stat a) us e =
    let one = (headed (Some (k, Byte x)) (j, Byte y)).0 in
    let alone = byte_cost None j y in
    let was = stat_cost (Some (k, Byte x)) j a in
    let any = any_before (Some (j, Byte y)) (Some (j, Stat a)) us in
    omega (arith, one, alone, was, any)
over_value k x y (j, Entry n t) us e =
    let one = (headed (Some (k, Byte x)) (j, Byte y)).0 in
    let alone = byte_cost None j y in
    let was = entry_full k x j n t in
    let least = (entry_weighs None j n t).1 in
    let any = any_before (Some (j, Byte y)) (Some (j, Entry n t)) us in
    omega (arith, one, alone, was, least, any)

at_byte : (k x y : ℕ) (end : ℕ) (us : List LeafUnit) → Rise (k + 1) end us
    → bytes_behind (Some (k, Byte x)) (put nat_cmp (k + 1) (Byte y) us) ≤ bytes_behind (Some (k, Byte x)) us + 1
unfolding bytes_behind
at_byte k x y end [] h = let one = byte_next k x y in omega (arith, one)
at_byte k x y end (u ∷ us) h = elim (cases_order (k + 1) u.0) [
  | inl lt ↦
      let one = byte_next k x y in
      let next = (headed (Some (k + 1, Byte y)) u).0 in
      let was = full_behind k x u lt in
      rw (put_less (k + 1) (Byte y) u us lt) (omega (arith, one, next, was))
  | inr (inl e) ↦ let over = over_value k x y u us e in rw (put_same (k + 1) (Byte y) u us e) (omega (arith, over))
  | inr (inr gt) ↦ let low = h.0 in absurd (omega (arith, low, gt))
]

found_low : (k a end : ℕ) (v : Value) (us : List LeafUnit) → Rise a end us → find nat_cmp k us ≡ Some v → a ≤ k
found_low k a end v [] h at = absurd cc
found_low k a end v (u ∷ us) h at =
    by_key (k == u.0) refl (sym (ap (λ (t : Bool). cond t (Some u.1) (find nat_cmp k us)) (unsigned_tied k u.0)) ∙ at)
    (found_low k (u.0 + 1) end v us h.1)
  where
    by_key : (t : Bool) → (k == u.0) ≡ t → cond t (Some u.1) (find nat_cmp k us) ≡ Some v
        → (find nat_cmp k us ≡ Some v → u.0 + 1 ≤ k) → a ≤ k
    by_key true e g rest = let same = eqb-true k u.0 e in let low = h.0 in omega (arith, same, low)
    by_key false e g rest = let more = rest g in let low = h.0 in omega (arith, more, low)

-- where a byte stands, the next one costs one
next_costs : (b : Option LeafUnit) (k x y a end : ℕ) (us : List LeafUnit) → Rise a end us
    → find nat_cmp k us ≡ Some (Byte x) → bytes_behind b (put nat_cmp (k + 1) (Byte y) us) ≤ bytes_behind b us + 1
unfolding bytes_behind
next_costs b k x y a end [] h at = absurd cc
next_costs b k x y a end (u ∷ us) h at =
    by_key (k == u.0) refl (sym (ap (λ (t : Bool). cond t (Some u.1) (find nat_cmp k us)) (unsigned_tied k u.0)) ∙ at)
    (next_costs (Some u) k x y (u.0 + 1) end us h.1)
  where
    by_key : (t : Bool) → (k == u.0) ≡ t → cond t (Some u.1) (find nat_cmp k us) ≡ Some (Byte x)
        → (find nat_cmp k us ≡ Some (Byte x)
        → bytes_behind (Some u) (put nat_cmp (k + 1) (Byte y) us) ≤ bytes_behind (Some u) us + 1)
        → bytes_behind b (put nat_cmp (k + 1) (Byte y) (u ∷ us)) ≤ unit_bytes b u + bytes_behind (Some u) us + 1
    by_key true e g more =
        let same = eqb-true k u.0 e in
        let unit : u ≡ (k, Byte x) = λ i. (sym same i, same_Some u.1 (Byte x) g i) in
        let at_it = at_byte k x y end us (subst (λ (j : ℕ). Rise (j + 1) end us) (sym same) h.1) in
        let rest : bytes_behind (Some u) (put nat_cmp (k + 1) (Byte y) us) ≤ bytes_behind (Some u) us + 1
        = subst (λ (w : LeafUnit). bytes_behind (Some w) (put nat_cmp (k + 1) (Byte y) us) ≤ bytes_behind
        (Some w) us + 1) (sym unit) at_it in
        rw (put_later (k + 1) (Byte y) u us (omega (arith, same))) (omega (arith, rest))
    by_key false e g more =
        let low = found_low k (u.0 + 1) end (Byte x) us h.1 g in
        let rest = more g in
        rw (put_later (k + 1) (Byte y) u us (omega (arith, low))) (omega (arith, rest))

-- ---- names are short

name_short : (n : List ℕ) → name_fault n ≡ None → entry_bytes n ≤ 280
name_short n legal = by_test (is_long_name n)
  where
    by_test : (t : Bool) → (if t then 24 + (length n + 1) else 24) ≤ 280
    by_test true = let few = (is_name n legal).few in omega (arith, few)
    by_test false = omega arith

-- ---- what edits add

-- The second list rises, and needs at most so many bytes more.
pub record Grows (n : ℕ) (us vs : Pairs) : Type 0 where
  pub rises : Rises vs
  pub bytes : leaf_bytes vs ≤ leaf_bytes us + n

pub grows_both : (n m k : ℕ) (us vs ws : Pairs) → n + m ≤ k → Grows n us vs → Grows m vs ws → Grows k us ws
grows_both n m k us vs ws le a b =
    let p = a.bytes in
    let q = b.bytes in
    record { rises = b.rises; bytes = omega (arith, le, p, q) }

pub grows_none : (us : Pairs) → Rises us → Grows 0 us us
grows_none us r = record { rises = r; bytes = omega arith }

put_rises : (k : ℕ) (v : Value) (us : Pairs) → Rises us → Rises (put nat_cmp k v us)
put_rises k v us r = is_sorted-put nat_cmp nat_cmp_total k v us r

pub cuts_grow : (rs : Intervals) (us : Pairs) → Rises us → Grows (40 * length rs) us (list_cut rs us)
cuts_grow [] us r = record { rises = r; bytes = omega arith }
cuts_grow (c ∷ rs) us r =
    let (end, rise) = rise_of us r in
    grows_both 40 (40 * length rs) (40 * length (c ∷ rs)) us (filter (λ e. not (is_between c.0 c.1 e.0)) us)
    (list_cut (c ∷ rs) us) (omega arith)
    (record { rises = kept_rises (λ k. not (is_between c.0 c.1 k)) us r; bytes = cut_costs c.0 c.1 0 end None us rise })
    (cuts_grow rs (filter (λ e. not (is_between c.0 c.1 e.0)) us) (kept_rises (λ k. not (is_between c.0 c.1 k)) us r))

-- one value that is no byte
one_grows : (k : ℕ) (v : Value) (us : Pairs) → Rises us → IsValue (k, v) → Grows 386 us (put nat_cmp k v us)
one_grows k v us r value =
    let most = at_most k v value in
    let costs = put_costs None k v us in
    record { rises = put_rises k v us r; bytes = omega (arith, most, costs) }
  where
    at_most : (k : ℕ) (v : Value) → IsValue (k, v) → unit_bytes None (k, v) ≤ 346
    at_most k (Stat a) h = let c = stat_cost None k a in omega (arith, c)
    at_most k (Entry n t) h =
        let w = (entry_weighs None k n t).0 in
        let s = name_short n h.0.legal in
        omega (arith, w, s)
    at_most k (Byte x) h = absurd (let e = h.1 in cc)

pub values_grow : (ps : Pairs) (us : Pairs) → Rises us → All IsValue ps → Grows (386 * length ps) us (list_put ps us)
values_grow [] us r all = record { rises = r; bytes = omega arith }
values_grow (p ∷ ps) us r all =
    let one = one_grows p.0 p.1 us r (All-head IsValue p ps all) in
    grows_both 386 (386 * length ps) (386 * length (p ∷ ps)) us (put nat_cmp p.0 p.1 us) (list_put (p ∷ ps) us)
    (omega arith) one (values_grow ps (put nat_cmp p.0 p.1 us) one.rises (All-tail IsValue p ps all))

-- bytes behind one that stands
run_on : (k x : ℕ) (xs : List ℕ) (us : Pairs) → Rises us → find nat_cmp k us ≡ Some (Byte x)
    → Grows (length xs) us (list_put (byte_pairs (k + 1) xs) us)
run_on k x [] us r at = record { rises = r; bytes = omega arith }
run_on k x (y ∷ xs) us r at =
    let (end, rise) = rise_of us r in
    let vs = put nat_cmp (k + 1) (Byte y) us in
    let rises = put_rises (k + 1) (Byte y) us r in
    grows_both 1 (length xs) (length (y ∷ xs)) us vs (list_put (byte_pairs (k + 1) (y ∷ xs)) us) (omega arith)
    (record { rises = rises; bytes = next_costs None k x y 0 end us rise at })
    (run_on (k + 1) y xs vs rises (put_finds (k + 1) y us))
  where
    put_finds : (k y : ℕ) (us : Pairs) → find nat_cmp k (put nat_cmp k (Byte y) us) ≡ Some (Byte y)
    put_finds k y us = find-put nat_cmp nat_cmp_total k k (Byte y) us
        ∙ ap (λ (t : Bool). cond t (Some (Byte y)) (find nat_cmp k us)) (unsigned_tied k k ∙ eq-eqb k k refl)

pub run_grows : (k : ℕ) (xs : List ℕ) (us : Pairs) → Rises us
    → Grows (79 + length xs) us (list_put (byte_pairs k xs) us)
run_grows k [] us r = record { rises = r; bytes = omega arith }
run_grows k (x ∷ xs) us r =
    let rises = put_rises k (Byte x) us r in
    let one = put_costs None k (Byte x) us in
    let cost = byte_cost None k x in
    grows_both 79 (length xs) (79 + length (x ∷ xs)) us (put nat_cmp k (Byte x) us)
    (list_put (byte_pairs k (x ∷ xs)) us) (omega arith)
    (record { rises = rises; bytes = omega (arith, one, cost) })
    (run_on k x xs (put nat_cmp k (Byte x) us) rises
    (find-put nat_cmp nat_cmp_total k k (Byte x) us
    ∙ ap (λ (t : Bool). cond t (Some (Byte x)) (find nat_cmp k us)) (unsigned_tied k k ∙ eq-eqb k k refl)))

-- ---- zeros are bytes

no_key : (from k : ℕ) → false ≡ is_between from (from + 0) k
no_key from k = grind (arith, common_steps)

zero_found : (from n k : ℕ) (v : Option Value)
    → last_put (byte_pairs from (replicate n 0)) k v ≡ cond (is_between from (from + n) k) (Some (Byte 0)) v
zero_found from zero k v = ap (λ (t : Bool). cond t (Some (Byte 0)) v) (no_key from k)
zero_found from (suc n) k v = zero_found (from + 1) n k (cond (k == from) (Some (Byte 0)) v)
    ∙ both_ways (is_between (from + 1) (from + 1 + n) k) (k == from)
    ∙ ap (λ (t : Bool). cond t (Some (Byte 0)) v) (first_or_rest from n k)
  where
    both_ways : (a b : Bool) → cond a (Some (Byte 0)) (cond b (Some (Byte 0)) v) ≡ cond (a || b) (Some (Byte 0)) v
    both_ways true b = refl
    both_ways false b = refl

    first_or_rest : (from n k : ℕ) → (is_between (from + 1) (from + 1 + n) k || k == from)
        ≡ is_between from (from + suc n) k
    first_or_rest from n k = grind (arith, common_steps)

abbrev zero_edits : (from to : ℕ) → Edits
zero_edits from to = record { cuts = []; zeros = (from, to) ∷ []; puts = [] }

abbrev byte_edits : (from n : ℕ) → Edits
byte_edits from n = record { cuts = []; zeros = []; puts = byte_pairs from (replicate n 0) }

to_end : (from to k : ℕ) → (is_between from to k || false) ≡ is_between from (from + (to - from)) k
to_end from to k = grind (arith, common_steps)

zeros_are : (from to : ℕ) (us : Pairs) → Rises us
    → list_zero_from from (to - from) us ≡ list_put (byte_pairs from (replicate (to - from) 0)) us
zeros_are from to us r = same_rising (list_zero_from from (to - from) us)
    (list_put (byte_pairs from (replicate (to - from) 0)) us)
    (edited_rises (zero_edits from to) us r) (edited_rises (byte_edits from (to - from)) us r) (λ k.
    found (zero_edits from to) us k r ∙ ap (λ (t : Bool). cond t (Some (Byte 0)) (find nat_cmp k us)) (to_end from to k)
    ∙ sym (found (byte_edits from (to - from)) us k r ∙ zero_found from (to - from) k (find nat_cmp k us)))

pub zeros_grow : (from to : ℕ) (us : Pairs) → Rises us
    → Grows (79 + (to - from)) us (list_zero_from from (to - from) us)
zeros_grow from to us r =
    let run = run_grows from (replicate (to - from) 0) us r in
    let long = length-replicate {A = ℕ} (to - from) 0 in
    subst (λ (vs : Pairs). Grows (79 + (to - from)) us vs) (sym (zeros_are from to us r))
    (grows_both (79 + length (replicate (to - from) 0)) 0 (79 + (to - from)) us
    (list_put (byte_pairs from (replicate (to - from) 0)) us)
    (list_put (byte_pairs from (replicate (to - from) 0)) us) (omega (arith, long)) run
    (grows_none (list_put (byte_pairs from (replicate (to - from) 0)) us) run.rises))
