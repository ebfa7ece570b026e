-- The entries of a body that is accepted, as a list.
use Rattle.std.proofs.Common.{◌≡◌, ◌⊎◌, inl, inr, ℕ, zero, suc, ◌+◌, ◌-◌, ◌*◌, ◌/◌, ◌^◌, ◌<◌, ◌≤◌, Bool, true, false, cond, not, eqb, leb, ◌&&◌, List, [], ◌∷◌, ◌++◌, length, get_or, take, drop, Some, None, refl, sym, ap, subst, ◌∙◌, arith}
use Rattle.std.proofs.lemmas.Bool.{and_parts, cases_lt, eq-eqb, eqb-true, le-ltb, leb-true, lt-ltb, ne_eqb}
use Rattle.std.proofs.lemmas.List.{length-append, length-take, get_or-take, get_or_past}
use Rattle.std.proofs.lemmas.List.Sums.{sum_by-cons}
use Rattle.std.proofs.lemmas.Option.{slice_get_past}
use Rattle.std.specs.List.{prefix_len, sum_by}
use Rattle.std.specs.Option.{is_none}
use Rattle.std.specs.Prelude.{slice_get, slice_range}
use Rattle.r4_base.specs.declared.key.Key.{Key}
use Rattle.r4_base.specs.declared.items.Target.{Target}
use Rattle.r4_base.specs.Key.{IsKey, rank}
use Rattle.r4_base.specs.Name.{dir_of_key, is_long_key, is_long_name, key_of_name, name_fault, short_name_in, unpacked}
use Rattle.r4_base.specs.Dir.{Entry, dir_fault, entry_at, entry_body, entry_count, entry_edge, entry_header, entry_key_at, entry_offset, entry_name_is_good, entries_from, entries_of, name_of}
use Rattle.r4_base.specs.Entries.{AreIn, AreLawful, EntriesRise, IsLawfulEntry, body_room, entries_room, first_key}
use Rattle.r4_base.proofs.Keys.{equal}
use Rattle.r4_base.proofs.Names.{dir_is, is_none_none, key_fits, ordering_long, ordering_short}
use Rattle.r4_base.proofs.Numbers.{AreBytes, length-slice_range, get_or-slice_range}
use Rattle.r4_base.proofs.Dirs.{IsAccepted, accepted, edge_last, edge_next, edge_stands, edges_rise, entry_key_fits, get-entries_of, length-entries_of}

-- ---- an entry of the list

pub record IsEntryAt (item : Key) (b : List ℕ) (k : ℕ) (e : Entry) : Type 0 where
  pub within : k < entry_count b
  pub is : e ≡ entry_at item b k

pub entry_of : (item : Key) (b : List ℕ) (k : ℕ) (e : Entry) → slice_get (entries_of item b) k ≡ Some e → IsEntryAt item b k e
entry_of item b k e h =
    let n = length-entries_of item b in
    elim (cases_lt k (entry_count b)) [
      | inl lt ↦
          let at = get-entries_of item b k lt in
          let same : Some e ≡ Some (entry_at item b k) = sym h ∙ at in
          record { within = lt; is = cc }
      | inr past ↦
          let none : None ≡ Some e = sym (slice_get_past (entries_of item b) k (omega arith)) ∙ h in
          absurd cc
    ]

-- ---- the directory of a list

same_key : (item other : Key) (b : List ℕ) (k : ℕ) → get_or item.el 0 0 ≡ get_or other.el 0 0 → entry_key_at item b k ≡ entry_key_at other b k
unfolding entry_key_at
same_key item other b k e = rw e refl

same_from : (item other : Key) (n i : ℕ) (b : List ℕ) → get_or item.el 0 0 ≡ get_or other.el 0 0 → entries_from item n i b ≡ entries_from other n i b
unfolding entries_from entry_at
same_from item other zero i b e = refl
same_from item other (suc n) i b e = rw (same_key item other b i e, same_from item other n (i + 1) b e) refl

pub same_entries : (item other : Key) (b : List ℕ) → get_or item.el 0 0 ≡ get_or other.el 0 0 → entries_of item b ≡ entries_of other b
unfolding entries_of
same_entries item other b e = same_from item other (entry_count b) 0 b e

pub first_is : (item dir : Key) (b : List ℕ) → IsKey item → get_or dir.el 0 0 ≡ get_or item.el 0 0 → dir_fault item b ≡ None → first_key dir b ≡ item
first_is item dir b key e ok = same_key dir item b 0 e ∙ equal (entry_key_at item b 0) item (entry_key_fits item b 0 key) key (accepted item b ok).first

pub entries_in : (item : Key) (b : List ℕ) → AreIn item (entries_of item b)
unfolding entry_at entry_key_at
entries_in item b k e h = ap (λ (x : Entry). get_or x.key.el 0 0) (entry_of item b k e h).is

pub entries_rise : (item : Key) (b : List ℕ) → dir_fault item b ≡ None → EntriesRise (entries_of item b)
unfolding entry_at
entries_rise item b ok k x y hx hy =
    let one = entry_of item b k x hx in
    let two = entry_of item b (k + 1) y hy in
    rw (one.is, two.is) ((accepted item b ok).rise k two.within)

-- ---- the names of a list

digits : (n v i : ℕ) → get_or (unpacked n v) i 0 < 256
unfolding unpacked
digits zero v i = omega arith
digits (suc n) v zero = omega arith
digits (suc n) v (suc i) = digits n v i

length-unpacked : (n v : ℕ) → length (unpacked n v) ≡ n
unfolding unpacked
length-unpacked zero v = refl
length-unpacked (suc n) v = let ih = length-unpacked n v in omega arith

bytes_append : (xs ys : List ℕ) → AreBytes xs → AreBytes ys → AreBytes (xs ++ ys)
bytes_append [] ys h g k = g k
bytes_append (x ∷ xs) ys h g zero = h 0
bytes_append (x ∷ xs) ys h g (suc k) = bytes_append xs ys (λ i. h (suc i)) g k

bytes_take : (n : ℕ) (xs : List ℕ) → AreBytes xs → AreBytes (take n xs)
bytes_take n xs h k = elim (cases_lt k n) [
  | inl lt ↦ rw (get_or-take n xs k 0 lt) (h k)
  | inr past ↦ rw (get_or_past (take n xs) k 0 (omega (arith, length-take n xs))) (omega arith)
]

bytes_range : (b : List ℕ) (from to : ℕ) → from ≤ to → to ≤ length b → AreBytes b → AreBytes (slice_range b from to)
bytes_range b from to order within h k = elim (cases_lt k (to - from)) [
  | inl lt ↦ rw (get_or-slice_range b from to k lt) (h (from + k))
  | inr past ↦ let n = length-slice_range b from to order within in rw (get_or_past (slice_range b from to) k 0 (omega arith)) (omega arith)
]

short_bytes : (k : Key) → AreBytes (short_name_in k)
unfolding short_name_in
short_bytes k =
    let all = unpacked 7 (get_or k.el 1 0) ++ (unpacked 8 (get_or k.el 2 0) ++ unpacked 8 (get_or k.el 3 0)) in
    bytes_take (prefix_len (λ x. not (eqb x 0)) all) all (bytes_append (unpacked 7 (get_or k.el 1 0)) _ (digits 7 (get_or k.el 1 0)) (bytes_append (unpacked 8 (get_or k.el 2 0)) _ (digits 8 (get_or k.el 2 0)) (digits 8 (get_or k.el 3 0))))

short_length : (k : Key) → length (short_name_in k) ≤ 23
unfolding short_name_in
short_length k =
    let a = length-unpacked 7 (get_or k.el 1 0) in
    let b = length-unpacked 8 (get_or k.el 2 0) in
    let c = length-unpacked 8 (get_or k.el 3 0) in
    let all : List ℕ = unpacked 7 (get_or k.el 1 0) ++ (unpacked 8 (get_or k.el 2 0) ++ unpacked 8 (get_or k.el 3 0)) in
    let n = length-append (unpacked 7 (get_or k.el 1 0)) (unpacked 8 (get_or k.el 2 0) ++ unpacked 8 (get_or k.el 3 0)) in
    let m = length-append (unpacked 8 (get_or k.el 2 0)) (unpacked 8 (get_or k.el 3 0)) in
    omega (arith, length-take (prefix_len (λ x. not (eqb x 0)) all) all)

-- what the form of an entry's body says
pub record HasForm (k : Key) (body : List ℕ) : Type 0 where
  pub legal : name_fault (name_of k body) ≡ None
  pub key : rank (key_of_name (dir_of_key k) (name_of k body)) ≡ rank k
  pub form : ((is_long_key k ≡ true) × (is_long_name (name_of k body) ≡ true) × (25 ≤ length body)) ⊎ ((is_long_key k ≡ false) × (length body ≡ 24))

pub has_form : (k : Key) (body : List ℕ) → entry_name_is_good k body ≡ true → HasForm k body
has_form k body e =
    let name = name_of k body in
    let long : Bool = is_long_name name && leb 25 (length body) && eqb (get_or body (length body - 1) 0) 0 in
    let one = and_parts (is_none (name_fault name) && eqb (rank (key_of_name (dir_of_key k) name)) (rank k)) (cond (is_long_key k) long (eqb (length body) 24)) e in
    let two = and_parts (is_none (name_fault name)) (eqb (rank (key_of_name (dir_of_key k) name)) (rank k)) one.0 in
    record { legal = is_none_none (name_fault name) two.0; key = eqb-true _ _ two.1; form = split (is_long_key k) refl one.1 }
  where
    parts : (p q r : Bool) → (p && q && r) ≡ true → (p ≡ true) × (q ≡ true)
    parts true true r e = (refl, refl)
    parts true false r e = absurd cc
    parts false q r e = absurd cc

    split : (t : Bool) → is_long_key k ≡ t → cond t (is_long_name (name_of k body) && leb 25 (length body) && eqb (get_or body (length body - 1) 0) 0) (eqb (length body) 24) ≡ true
        → ((is_long_key k ≡ true) × (is_long_name (name_of k body) ≡ true) × (25 ≤ length body)) ⊎ ((is_long_key k ≡ false) × (length body ≡ 24))
    split true is h = let p = parts (is_long_name (name_of k body)) (leb 25 (length body)) (eqb (get_or body (length body - 1) 0) 0) h in inl (is, p.0, leb-true _ _ p.1)
    split false is h = inr (is, eqb-true _ _ h)

name_bytes_of : (k : Key) (body : List ℕ) → AreBytes body → HasForm k body → AreBytes (name_of k body)
unfolding name_of
name_bytes_of k body bytes f = elim f.form [
  | inl long ↦ rw long.0 (bytes_range body 24 (length body - 1) (omega arith) (omega arith) bytes)
  | inr short ↦ rw short.0 (short_bytes k)
]

lawful_at : (item : Key) (b : List ℕ) (k : ℕ) → IsKey item → AreBytes b → IsAccepted item b → k < entry_count b → IsLawfulEntry (entry_at item b k)
unfolding entry_at entry_body
lawful_at item b k key bytes a lt =
    let f = has_form (entry_key_at item b k) (entry_body b k) (a.named k lt) in
    let here = edge_next b k lt in
    let step = a.laid.steps k lt in
    let top = (edge_stands b (k + 1) a.laid (omega arith)).high in
    let fits = entry_key_fits item b k key in
    let high = fits.small 0 in
    let body : AreBytes (entry_body b k) = bytes_range b (entry_offset b k) (entry_edge b (k + 1)) (omega arith) (omega arith) bytes in
    let named = name_bytes_of (entry_key_at item b k) (entry_body b k) body f in
    record {
      legal = f.legal;
      key = equal _ (entry_key_at item b k) (key_fits (dir_of_key (entry_key_at item b k)) (name_of (entry_key_at item b k) (entry_body b k)) (omega arith) named) fits f.key;
    }

pub entries_lawful : (item : Key) (b : List ℕ) → IsKey item → AreBytes b → dir_fault item b ≡ None → AreLawful (entries_of item b)
entries_lawful item b key bytes ok k e h = let x = entry_of item b k e h in subst IsLawfulEntry (sym x.is) (lawful_at item b k key bytes (accepted item b ok) x.within)

-- ---- the room of a list

long_length : (k : Key) (body : List ℕ) → is_long_key k ≡ true → 25 ≤ length body → length (name_of k body) + 25 ≡ length body
unfolding name_of
long_length k body long room = let n = length-slice_range body 24 (length body - 1) (omega arith) (omega arith) in rw long (omega arith)

short_name_short : (k : Key) (body : List ℕ) → is_long_key k ≡ false → length (name_of k body) ≤ 23
unfolding name_of
short_name_short k body short = rw short (short_length k)

form_room : (k : Key) (body : List ℕ) → HasForm k body → cond (is_long_name (name_of k body)) (24 + (length (name_of k body) + 1)) 24 ≡ length body
form_room k body f = elim f.form [
  | inl long ↦ let n = long_length k body long.0 long.2 in rw (long.1) (omega arith)
  | inr short ↦ let n = short_name_short k body short.0 in rw (le-ltb 23 (length (name_of k body)) n) (sym short.1)
]

room_at : (item : Key) (b : List ℕ) (k : ℕ) → IsAccepted item b → k < entry_count b → body_room (entry_at item b k) + entry_edge b k ≡ entry_edge b (k + 1)
unfolding entry_at entry_body
room_at item b k a lt =
    let f = has_form (entry_key_at item b k) (entry_body b k) (a.named k lt) in
    let here = edge_next b k lt in
    let step = a.laid.steps k lt in
    let top = (edge_stands b (k + 1) a.laid (omega arith)).high in
    let n = length-slice_range b (entry_offset b k) (entry_edge b (k + 1)) (omega arith) (omega arith) in
    let room = form_room (entry_key_at item b k) (entry_body b k) f in
    omega arith

sum_from : (item : Key) (n i : ℕ) (b : List ℕ) → IsAccepted item b → i + n ≤ entry_count b → sum_by (λ (x : Entry). 26 + body_room x) (entries_from item n i b) + entry_edge b i ≡ 26 * n + entry_edge b (i + n)
unfolding entries_from
sum_from item zero i b a le = let e : entry_edge b i ≡ entry_edge b (i + 0) = ap (entry_edge b) (omega arith) in omega arith
sum_from item (suc n) i b a le =
    let ih = sum_from item n (i + 1) b a (omega arith) in
    let here = room_at item b i a (omega arith) in
    let sum = sum_by-cons (λ (x : Entry). 26 + body_room x) (entry_at item b i) (entries_from item n (i + 1) b) in
    let e : entry_edge b (i + 1 + n) ≡ entry_edge b (i + suc n) = ap (entry_edge b) (omega arith) in
    omega arith

room_from : (item : Key) (n i : ℕ) (b : List ℕ) → IsAccepted item b → 0 < n → i + n ≤ entry_count b → entries_room (entries_from item n i b) ≡ entry_header n + (entry_edge b (i + n) - entry_edge b i)
unfolding entries_from entries_room
room_from item zero i b a some le = absurd (omega arith)
room_from item (suc n) i b a some le =
    let sum = sum_from item (suc n) i b a le in
    let up = edges_rise b i (i + suc n) a.laid (omega arith) le in
    omega arith

-- a part of the list
part_from : (item : Key) (m i n : ℕ) (b : List ℕ) (first : ℕ) → first + m ≤ n → take m (drop first (entries_from item n i b)) ≡ entries_from item m (i + first) b
unfolding entries_from
part_from item zero i n b first le = refl
part_from item (suc m) i zero b first le = absurd (omega arith)
part_from item (suc m) i (suc n) b zero le =
    let ih = part_from item m (i + 1) n b 0 (omega arith) in
    let e : i + 0 ≡ i = omega arith in
    let e' : i + 1 + 0 ≡ i + 0 + 1 = omega arith in
    rw e (ap (λ (xs : List Entry). entry_at item b i ∷ xs) (ih ∙ ap (λ (j : ℕ). entries_from item m j b) (omega arith)))
part_from item (suc m) i (suc n) b (suc first) le =
    let ih = part_from item (suc m) (i + 1) n b first (omega arith) in
    let e : i + 1 + first ≡ i + suc first = omega arith in
    ih ∙ ap (λ (j : ℕ). entries_from item (suc m) j b) e

pub part_room_is : (item : Key) (b : List ℕ) (first end : ℕ) → dir_fault item b ≡ None → first < end → end ≤ entry_count b → entries_room (take (end - first) (drop first (entries_of item b))) ≡ entry_header (end - first) + (entry_edge b end - entry_edge b first)
unfolding entries_of
part_room_is item b first end ok some within =
    let a = accepted item b ok in
    let part = part_from item (end - first) 0 (entry_count b) b first (omega arith) in
    let room = room_from item (end - first) (0 + first) b a (omega arith) (omega arith) in
    let e : entry_edge b (0 + first + (end - first)) ≡ entry_edge b end = ap (entry_edge b) (omega arith) in
    let e' : entry_edge b (0 + first) ≡ entry_edge b first = ap (entry_edge b) (omega arith) in
    ap entries_room part ∙ room ∙ rw (e, e') refl

pub room_is : (item : Key) (b : List ℕ) → dir_fault item b ≡ None → entries_room (entries_of item b) ≡ length b
unfolding entries_of
room_is item b ok =
    let a = accepted item b ok in
    let some = a.some in
    let room = room_from item (entry_count b) 0 b a some (omega arith) in
    let first = a.laid.first in
    let s = edge_stands b 0 a.laid (omega arith) in
    let high = s.high in
    let last = edge_last b (0 + entry_count b) (omega arith) in
    omega arith

-- ---- an entry that a name has

pub named_lawful : (dir : ℕ) (s : List ℕ) (t : Target) → name_fault s ≡ None → IsLawfulEntry (record { key = key_of_name dir s; target = t; name = s })
named_lawful dir s t legal = record { legal = legal; key = ap (λ (d : ℕ). key_of_name d s) (dir_is dir s) }

pub long_key : (dir : ℕ) (s : List ℕ) → AreBytes s → is_long_key (key_of_name dir s) ≡ is_long_name s
long_key dir s bytes = elim (cases_lt 23 (length s)) [
  | inl lt ↦ eq-eqb (get_or (key_of_name dir s).el 1 0 / 2 ^ 56) 1 (ordering_long dir s bytes lt) ∙ sym (lt-ltb 23 (length s) lt)
  | inr le ↦
      let zero = ordering_short dir s bytes le in
      ne_eqb (get_or (key_of_name dir s).el 1 0 / 2 ^ 56) 1 (λ one. absurd (omega arith)) ∙ sym (le-ltb 23 (length s) le)
]
