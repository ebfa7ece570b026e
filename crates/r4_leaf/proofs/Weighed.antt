-- The bytes that units take up behind others.
use Rattle.std.proofs.Common.{◌≡◌, ℕ, suc, ◌+◌, ◌-◌, ◌/◌, ◌^◌, ◌≤◌, Bool, true, false, List, [], ◌∷◌, ◌++◌, length, map, refl, sym, ap, ◌∙◌, arith}
use Rattle.std.specs.Prelude.{slice_get, slice_index, Option, Some, None, ◌==◌, if◌then◌else◌}
use Rattle.std.proofs.lemmas.Bool.Decides.{nat_tests}
use Rattle.r4_base.specs.Cell.{bytes_from, entry_unit}
use Rattle.r4_base.specs.Dir.{Entry as DirEntry}
use Rattle.r4_base.specs.Key.{IsKey, rank}
use Rattle.r4_base.specs.Name.{is_long_name}
use Rattle.r4_base.specs.Value.{Stat as StatValue, Entry as EntryValue, Byte}
use Rattle.r4_base.specs.declared.items.Attr.{Attr}
use Rattle.r4_base.specs.declared.items.Target.{Target}
use Rattle.r4_base.specs.declared.key.Key.{Key}
use Rattle.r4_leaf.specs.Filling.{last_of}
use Rattle.r4_leaf.specs.Measure.{last_or}
use Rattle.r4_leaf.specs.Units.{LeafUnit, bytes_behind, continues_entries, continues_tail, entry_bytes, unit_bytes}

last_at : (u : LeafUnit) (us : List LeafUnit) → last_or (Some u) us ≡ slice_get (u ∷ us) (length us)
last_at u [] = refl
last_at u (v ∷ us) = last_at v us

pub last_is : (us : List LeafUnit) → last_of us ≡ last_or None us
last_is [] = refl
last_is (u ∷ us) = ap (slice_get (u ∷ us)) (let e : length (u ∷ us) - 1 ≡ length us = omega arith in e) ∙ sym (last_at u us)

pub last_append : (before : Option LeafUnit) (us vs : List LeafUnit) → last_or before (us ++ vs) ≡ last_or (last_or before us) vs
last_append before [] vs = refl
last_append before (u ∷ us) vs = last_append (Some u) us vs

pub behind_append : (before : Option LeafUnit) (us vs : List LeafUnit) → bytes_behind before (us ++ vs) ≡ bytes_behind before us + bytes_behind (last_or before us) vs
unfolding bytes_behind
behind_append before [] vs = omega arith
behind_append before (u ∷ us) vs = let h = behind_append (Some u) us vs in omega (arith, h)

pub behind_one : (before : Option LeafUnit) (u : LeafUnit) → bytes_behind before (u ∷ []) ≡ unit_bytes before u
unfolding bytes_behind
behind_one before u = omega arith

-- ---- a header

pub stat_cost : (before : Option LeafUnit) (k : ℕ) (a : Attr) → unit_bytes before (k, StatValue a) ≡ 82
unfolding unit_bytes
stat_cost before k a = refl

entry_header : Bool → ℕ
entry_header t = if t then 0 else 40

tail_header : Bool → ℕ
tail_header t = if t then 0 else 38

entry_costs : (before : Option LeafUnit) (k : ℕ) (name : List ℕ) (target : Target)
    → unit_bytes before (k, EntryValue name target) ≡ (26 + entry_bytes name) + entry_header (continues_entries before k)
unfolding unit_bytes entry_header
entry_costs before k name target = refl

tail_costs : (before : Option LeafUnit) (k x : ℕ) → unit_bytes before (k, Byte x) ≡ 1 + tail_header (continues_tail before k)
unfolding unit_bytes tail_header
tail_costs before k x = refl

entry_most : (t : Bool) → entry_header t ≤ 40
unfolding entry_header
entry_most true = omega arith
entry_most false = omega arith

tail_most : (t : Bool) → tail_header t ≤ 38
unfolding tail_header
tail_most true = omega arith
tail_most false = omega arith

-- an entry and a byte of a tail weigh at most so much
pub entry_weighs : (before : Option LeafUnit) (k : ℕ) (name : List ℕ) (target : Target) → (unit_bytes before (k, EntryValue name target) ≤ 66 + entry_bytes name) × (24 ≤ entry_bytes name)
entry_weighs before k name target =
    let cost = entry_costs before k name target in
    let most = entry_most (continues_entries before k) in
    (omega (arith, cost, most), by_test (is_long_name name))
  where
    by_test : (t : Bool) → 24 ≤ (if t then 24 + (length name + 1) else 24)
    by_test true = omega arith
    by_test false = omega arith

pub tail_weighs : (before : Option LeafUnit) (k x : ℕ) → unit_bytes before (k, Byte x) ≤ 39
tail_weighs before k x = let cost = tail_costs before k x in let most = tail_most (continues_tail before k) in omega (arith, cost, most)

entry_full : entry_header false ≡ 40
unfolding entry_header
entry_full = refl

tail_full : tail_header false ≡ 38
unfolding tail_header
tail_full = refl

-- a header makes a unit longer, by 40 bytes at most
pub headed : (before : Option LeafUnit) (u : LeafUnit) → (unit_bytes before u ≤ unit_bytes None u) × (unit_bytes None u ≤ unit_bytes before u + 40)
headed before (k, StatValue a) =
    let here = stat_cost before k a in
    let alone = stat_cost None k a in
    (omega (arith, here, alone), omega (arith, here, alone))
headed before (k, EntryValue name target) =
    let here = entry_costs before k name target in
    let alone = entry_costs None k name target in
    let most = entry_most (continues_entries before k) in
    let full = entry_full in
    (omega (arith, here, alone, most, full), omega (arith, here, alone, full))
headed before (k, Byte x) =
    let here = tail_costs before k x in
    let alone = tail_costs None k x in
    let most = tail_most (continues_tail before k) in
    let full = tail_full in
    (omega (arith, here, alone, most, full), omega (arith, here, alone, full))

-- ---- bytes of a tail

pub tail_cost : Bool → ℕ
tail_cost t = 1 + (if t then 0 else 38)

pub byte_cost : (before : Option LeafUnit) (k x : ℕ) → unit_bytes before (k, Byte x) ≡ 1 + (if continues_tail before k then 0 else 38)
unfolding unit_bytes
byte_cost before k x = refl

next_bytes : (k x : ℕ) (bs : List ℕ) → bytes_behind (Some (k, Byte x)) (bytes_from (k + 1) bs) ≡ length bs
unfolding bytes_behind unit_bytes
next_bytes k x [] = refl
next_bytes k x (b ∷ bs) =
    let h = next_bytes (k + 1) b bs in
    let test : (k + 1 == k + 1) ≡ true = grind (arith, nat_tests) in
    rw test (omega (arith, h))

pub run_cost : (before : Option LeafUnit) (k : ℕ) (bs : List ℕ) → 1 ≤ length bs → bytes_behind before (bytes_from k bs) ≡ length bs + (if continues_tail before k then 0 else 38)
unfolding bytes_behind
run_cost before k [] some = absurd (omega (arith, some))
run_cost before k (b ∷ bs) some = let h = next_bytes k b bs in let one = byte_cost before k b in omega (arith, h, one)

-- ---- the last unit of an item

pub last_byte : (before : Option LeafUnit) (k : ℕ) (bs : List ℕ) → 1 ≤ length bs → (j : ℕ) × (x : ℕ) × (j + 1 ≡ k + length bs) × (last_or before (bytes_from k bs) ≡ Some (j, Byte x))
last_byte before k [] some = absurd (omega (arith, some))
last_byte before k (b ∷ []) some = (k, b, omega arith, refl)
last_byte before k (b ∷ (d ∷ bs)) some = let h = last_byte (Some (k, Byte b)) (k + 1) (d ∷ bs) (omega arith) in (h.0, h.1, (let e = h.2 in omega (arith, e)), h.3)

pub last_entry : (before : Option LeafUnit) (es : List DirEntry) → 1 ≤ length es → (e : DirEntry) × (slice_get es (length es - 1) ≡ Some e) × (last_or before (map entry_unit es) ≡ Some (entry_unit e))
last_entry before [] some = absurd (omega (arith, some))
last_entry before (e ∷ []) some = (e, refl, refl)
last_entry before (d ∷ (e ∷ es)) some =
    let h = last_entry (Some (entry_unit d)) (e ∷ es) (omega arith) in
    (h.0, ap (slice_get (d ∷ (e ∷ es))) (let s : length (d ∷ (e ∷ es)) - 1 ≡ suc (length (e ∷ es) - 1) = omega arith in s) ∙ h.1, h.2)

-- ---- the first number of a key

pub first_number : (k : Key) → IsKey k → rank k / 2 ^ 192 ≡ slice_index k.el 0
unfolding rank
first_number k is =
    let a = is.small 1 in
    let b = is.small 2 in
    let c = is.small 3 in
    omega arith

pub no_weight : bytes_behind None [] ≡ 0
unfolding bytes_behind
no_weight = refl
