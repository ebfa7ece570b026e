-- An entry that is put in.
use Rattle.std.proofs.Common.{◌≡◌, ◌⊎◌, inl, inr, ℕ, ◌+◌, ◌-◌, ◌/◌, ◌^◌, ◌<◌, ◌≤◌, true, List, [], ◌∷◌, ◌++◌, length, get_or, take, Option, Some, None, refl, sym, ap, ◌∙◌, arith}
use Rattle.std.proofs.lemmas.Bool.{cases_eq, cases_lt, eq-eqb, eqb-true, ne_eqb, lt-ltb, le-leb}
use Rattle.std.proofs.lemmas.List.{places, ext_get_or, length-append, length-take, length-take-le}
use Rattle.std.specs.List.{All, insert}
use Rattle.std.specs.Option.{IfSome, is_some}
use Rattle.std.specs.Prelude.{slice_range}
use Rattle.r4_base.specs.Bytes.{number_bytes, overwrite, fields_bytes}
use Rattle.r4_base.specs.declared.key.Key.{Key}
use Rattle.r4_base.specs.declared.items.Target.{Target}
use Rattle.r4_base.specs.Key.{rank}
use Rattle.r4_base.specs.Name.{dir_of_key, is_long_key, key_of_name, short_name_in}
use Rattle.r4_base.specs.Dir.{Entry, dir_fault, entries_of, entry_at, entry_body, entry_count, entry_edge, entry_header, entry_key_at, entry_offset, entry_name_is_good, name_of, target_of}
use Rattle.r4_base.specs.Entries.{IsLaid, IsLawfulEntry, first_key}
use Rattle.r4_base.proofs.Numbers.{length-overwrite, length-slice_range, length-fields_bytes, get_or-slice_range, get_or-overwrite_below, get_or-overwrite_inside, get_or-overwrite_above}
use Rattle.r4_base.proofs.Names.{bytes_of, ordering_short}
use Rattle.r4_base.proofs.Dirs.{accepted, accepted_none, edge_last, edge_stands, get-entries_of, length-entries_of}
use Rattle.r4_cde.specs.Edits.{GoesBetween, IsAcceptedOrEmpty, IsBegun, given_body, given_entry, given_name, given_room, target_fields}
use Rattle.r4_cde.specs.Splice.{CanSplice, IsSpliced}
use Rattle.r4_cde.specs.declared.splice.Splice.{Splice}
use Rattle.r4_cde.proofs.Splices.{counted, same_header}
use Rattle.r4_cde.proofs.Edits.{Edited, can_splice, edited, take_byte, take_count, take_header}
use Rattle.r4_cde.proofs.Carried.{accepted_by, carried_low, carried_high, carries_named, carries_rank, edge_high, edited_insert, edited_laid, same_dir}
use Rattle.r4_cde.proofs.Cuts.{empty_count, no_entries}

-- ---- a body with a count

begun_laid : (c : List ℕ) → length c ≡ 2 → entry_count c ≡ 0 → IsLaid c
begun_laid c two none =
    let last = edge_last c 0 (sym none) in
    record { two = omega arith; first = omega arith; steps = λ k lt. absurd (omega arith) }

pub begun_new : (dir : Key) (b c : List ℕ) → 2 ≤ length b → c ≡ overwrite 0 (number_bytes 2 0) b → IsBegun dir 0 b 2 c
begun_new dir b c room e =
    let co = counted 0 b c room (omega arith) e in
    let long : length c ≡ length b = co.whole in
    let two : length (take 2 c) ≡ 2 = length-take-le 2 c (omega arith) in
    let none : entry_count (take 2 c) ≡ 0 = take_count 2 c (omega arith) ∙ co.count in
    record {
      used_is = refl;
      whole = co.whole;
      laid = begun_laid (take 2 c) two none;
      entries = λ item. no_entries item (take 2 c) none ∙ sym (no_entries item (take 0 b) (empty_count (take 0 b) (length-take-le 0 b (omega arith))));
      accepted = inl none;
      rest = λ k le. co.bytes k le;
    }

pub begun_same : (dir : Key) (used : ℕ) (b : List ℕ) → (used ≡ 0 → ⊥) → used ≤ length b → IsAcceptedOrEmpty dir (take used b) → IsBegun dir used b used b
begun_same dir used b some inside ok =
    let long : length (take used b) ≡ used = length-take-le used b inside in
    let good : dir_fault (first_key dir (take used b)) (take used b) ≡ None = elim ok [ inl none ↦ absurd (some (sym long ∙ none)) | inr h ↦ h ] in
    record {
      used_is = rw (ne_eqb used 0 some) refl;
      whole = refl;
      laid = (accepted (first_key dir (take used b)) (take used b) good).laid;
      entries = λ item. refl;
      accepted = inr good;
      rest = λ k le. refl;
    }

pub begun_count : (dir : Key) (used u : ℕ) (b c : List ℕ) → IsBegun dir used b u c → entry_count (take u c) ≡ entry_count (take used b)
begun_count dir used u b c g = sym (length-entries_of dir (take u c)) ∙ ap length (g.entries dir) ∙ length-entries_of dir (take used b)

-- ---- the splice

abbrev pub inserting : (at from new : ℕ) → Splice
inserting at from new = record { at = at; gone = 0; come = 1; from = from; old = 0; new = new }

pub can_insert : (used at from new : ℕ) (b : List ℕ) → length b ≤ 4096 → used + new + 26 ≤ length b → IsLaid (take used b) → at ≤ entry_count (take used b) → from ≡ entry_edge (take used b) at → CanSplice (inserting at from new) used b
can_insert used at from new b short room laid within is =
    let same : from + 0 ≡ entry_edge (take used b) (at + 0) = let e : entry_edge (take used b) (at + 0) ≡ entry_edge (take used b) at = ap (entry_edge (take used b)) (omega arith) in omega arith in
    can_splice (inserting at from new) used b short (omega arith) laid (omega arith) is same (omega arith) (omega arith) (omega arith)

-- where an entry is put
pub record Place (used at from : ℕ) (b : List ℕ) : Type 0 where
  pub low : entry_header at ≤ from
  pub high : from ≤ used

pub placed : (used at from : ℕ) (b : List ℕ) → used ≤ length b → IsLaid (take used b) → at ≤ entry_count (take used b) → from ≡ entry_edge (take used b) at → Place used at from b
placed used at from b inside laid within is =
    let n = length-take-le used b inside in
    let s = edge_stands (take used b) at laid within in
    let low = s.low in
    let high = s.high in
    record { low = omega arith; high = omega arith }

pub inserted : (used u at from new : ℕ) (header ys b mid d e : List ℕ) → length b ≤ 4096 → used + new + 26 ≤ length b → IsLaid (take used b) → at ≤ entry_count (take used b) → from ≡ entry_edge (take used b) at → IsSpliced (inserting at from new) used b u mid
    → length header ≡ 26 → length ys ≡ new → 24 ≤ new → d ≡ overwrite (entry_header at) header mid → e ≡ overwrite (from + 26) ys d → entry_offset d at ≡ from + 26 → Edited (inserting at from new) (take used b) (take u e)
inserted used u at from new header ys b mid d e short room laid within is sp h n big e1 e2 offset =
    let can = can_insert used at from new b short room laid within is in
    let p = placed used at from b (omega arith) laid within is in
    let low = p.low in
    let high = p.high in
    let long = sp.whole in
    let fit1 : entry_header at + length header ≤ length mid = omega arith in
    let long1 : length d ≡ length mid = ap length e1 ∙ length-overwrite (entry_header at) header mid fit1 in
    let fit2 : from + 26 + length ys ≤ length d = omega arith in
    let long2 : length e ≡ length d = ap length e2 ∙ length-overwrite (from + 26) ys d fit2 in
    let before = λ (q : ℕ) (lt : q < from + 26). ap (λ (xs : List ℕ). get_or xs q 0) e2 ∙ get_or-overwrite_below (from + 26) ys d q 0 fit2 lt in
    let behind = λ (q : ℕ) (ge : from + 26 + new ≤ q). ap (λ (xs : List ℕ). get_or xs q 0) e2 ∙ get_or-overwrite_above (from + 26) ys d q 0 fit2 (omega arith) in
    let under = λ (q : ℕ) (lt : q < entry_header at). ap (λ (xs : List ℕ). get_or xs q 0) e1 ∙ get_or-overwrite_below (entry_header at) header mid q 0 fit1 lt in
    let over = λ (q : ℕ) (ge : entry_header at + 26 ≤ q). ap (λ (xs : List ℕ). get_or xs q 0) e1 ∙ get_or-overwrite_above (entry_header at) header mid q 0 fit1 (omega arith) in
    let same = same_header e d at at (λ r small. before (entry_header at + r) (omega arith)) in
    let kept : entry_offset e at ≡ entry_offset d at = same.offset in
    let to : from + 0 ≡ entry_edge (take used b) (at + 0) = let x : entry_edge (take used b) (at + 0) ≡ entry_edge (take used b) at = ap (entry_edge (take used b)) (omega arith) in omega arith in
    edited (inserting at from new) used u b mid e can laid is to sp (long2 ∙ long1)
    (λ q lt. before q (omega arith) ∙ under q lt)
    (λ q ge lt. before q (omega arith) ∙ over q (omega arith))
    (λ q ge. behind q (omega arith) ∙ over q (omega arith))
    (λ one. omega arith) (λ one. big) (λ none. absurd (omega arith))

-- ---- the entry that was put in

range_put : (u at : ℕ) (ys xs : List ℕ) → at + length ys ≤ u → u ≤ length xs → slice_range (take u (overwrite at ys xs)) at (at + length ys) ≡ ys
range_put u at ys xs fit inside =
    let long = length-overwrite at ys xs (omega arith) in
    let n = length-take-le u (overwrite at ys xs) (omega arith) in
    let m = length-slice_range (take u (overwrite at ys xs)) at (at + length ys) (omega arith) (omega arith) in
    ext_get_or 0 (slice_range (take u (overwrite at ys xs)) at (at + length ys)) ys (omega arith) (λ k lt.
    let back : at + k - at ≡ k = omega arith in
    get_or-slice_range (take u (overwrite at ys xs)) at (at + length ys) k (omega arith) ∙ take_byte u (at + k) (overwrite at ys xs) (omega arith) ∙ get_or-overwrite_inside at ys xs (at + k) 0 (omega arith) (omega arith) (omega arith) ∙ ap (λ (i : ℕ). get_or ys i 0) back)

pub new_body : (u at from new : ℕ) (ys b d e : List ℕ) → Edited (inserting at from new) b (take u e) → length ys ≡ new → u ≤ length d → e ≡ overwrite (from + 26) ys d → entry_body (take u e) at ≡ ys
unfolding entry_body
new_body u at from new ys b d e ed n inside e2 =
    let c : List ℕ = take u e in
    let laid = edited_laid (inserting at from new) b c ed in
    let place = ed.place refl in
    let count = ed.count in
    let within = ed.within in
    let high = edge_high (inserting at from new) b c at ed (omega arith) within in
    let same : entry_edge b (at + 0) ≡ entry_edge b at = ap (entry_edge b) (omega arith) in
    let is = ed.from in
    let begin : entry_offset c at ≡ from + 26 = omega arith in
    let end : entry_edge c (at + 1) ≡ from + 26 + length ys = omega arith in
    let top = (edge_stands c (at + 1) laid (omega arith)).high in
    let fit2 : from + 26 + length ys ≤ length c = omega arith in
    let m : length c ≤ u = omega (arith, length-take u e) in
    rw (begin, end, e2) (range_put u (from + 26) ys d (omega arith) inside)

pub new_key : (u at from : ℕ) (k : Key) (ys d e : List ℕ) → entry_header (at + 1) ≤ u → entry_header (at + 1) ≤ from + 26 → from + 26 + length ys ≤ length d → e ≡ overwrite (from + 26) ys d → entry_key_at k d at ≡ k → entry_key_at k (take u e) at ≡ k
new_key u at from k ys d e room low fit e2 key =
    let x = take_header u at e room in
    let y = same_header e d at at (λ r small. ap (λ (xs : List ℕ). get_or xs (entry_header at + r) 0) e2 ∙ get_or-overwrite_below (from + 26) ys d (entry_header at + r) 0 fit (omega arith)) in
    x.key k ∙ y.key k ∙ key

-- ---- what the new entry says

name_range : (front s : List ℕ) → length front ≡ 24 → slice_range (front ++ (s ++ 0 ∷ [])) 24 (length (front ++ (s ++ 0 ∷ [])) - 1) ≡ s
name_range front s n =
    let m : length (front ++ (s ++ 0 ∷ [])) ≡ 24 + length s + 1 = simp length-append (omega arith) in
    let k = length-slice_range (front ++ (s ++ 0 ∷ [])) 24 (length (front ++ (s ++ 0 ∷ [])) - 1) (omega arith) (omega arith) in
    ext_get_or 0 (slice_range (front ++ (s ++ 0 ∷ [])) 24 (length (front ++ (s ++ 0 ∷ [])) - 1)) s (omega arith) (λ i lt.
    get_or-slice_range (front ++ (s ++ 0 ∷ [])) 24 (length (front ++ (s ++ 0 ∷ [])) - 1) i (omega arith) ∙ inner front s i n (omega arith))
  where
    inner : (front s : List ℕ) (i : ℕ) → length front ≡ 24 → i < length s → get_or (front ++ (s ++ 0 ∷ [])) (24 + i) 0 ≡ get_or s i 0
    inner front s i n lt = grind (arith, places)

last_zero : (front s : List ℕ) → get_or (front ++ (s ++ 0 ∷ [])) (length (front ++ (s ++ 0 ∷ [])) - 1) 0 ≡ 0
last_zero front s =
    let m : length (front ++ (s ++ 0 ∷ [])) ≡ length front + length s + 1 = simp length-append (omega arith) in
    let at : length (front ++ (s ++ 0 ∷ [])) - 1 ≡ length front + length s = omega arith in
    rw at (inner front s)
  where
    inner : (front s : List ℕ) → get_or (front ++ (s ++ 0 ∷ [])) (length front + length s) 0 ≡ 0
    inner front s = grind (arith, places)

pub given_name_is : (k : Key) (t : Target) (long : Option (List ℕ)) → is_long_key k ≡ is_some long → name_of k (given_body t long) ≡ given_name k long
unfolding name_of
given_name_is k t None form = rw form refl
given_name_is k t (Some s) form = rw form (name_range (fields_bytes (target_fields t)) s (length-fields_bytes (target_fields t)))

pub given_length : (t : Target) (long : Option (List ℕ)) → length (given_body t long) ≡ given_room long
given_length t None = length-fields_bytes (target_fields t)
given_length t (Some s) =
    let n : length (fields_bytes (target_fields t)) ≡ 24 = length-fields_bytes (target_fields t) in
    omega (arith, length-append (fields_bytes (target_fields t)) (s ++ 0 ∷ []), length-append s (0 ∷ []))

long_enough : (k : Key) (s : List ℕ) → is_long_key k ≡ true → key_of_name (dir_of_key k) s ≡ k → All (λ x. x < 256) s → 23 < length s
long_enough k s long key bytes = elim (cases_lt 23 (length s)) [
  | inl lt ↦ lt
  | inr le ↦
      let low = ordering_short (dir_of_key k) s (bytes_of s bytes) le in
      let high = eqb-true _ _ long in
      let same : get_or (key_of_name (dir_of_key k) s).el 1 0 / 2 ^ 56 ≡ get_or k.el 1 0 / 2 ^ 56 = ap (λ (x : Key). get_or x.el 1 0 / 2 ^ 56) key in
      absurd (omega arith)
]

pub given_good : (k : Key) (t : Target) (long : Option (List ℕ)) → is_long_key k ≡ is_some long → IsLawfulEntry (given_entry k t long) → IfSome long (λ s. All (λ x. x < 256) s) → entry_name_is_good k (given_body t long) ≡ true
given_good k t None form lawful bytes =
    let name = given_name_is k t None form in
    let n = given_length t None in
    rw (name, lawful.legal, form, eq-eqb (rank (key_of_name (dir_of_key k) (short_name_in k))) (rank k) (ap rank lawful.key), eq-eqb (length (given_body t None)) 24 n) refl
given_good k t (Some s) form lawful bytes =
    let name = given_name_is k t (Some s) form in
    let n = given_length t (Some s) in
    let long = long_enough k s form lawful.key bytes in
    let zero = last_zero (fields_bytes (target_fields t)) s in
    rw (name, lawful.legal, form, eq-eqb (rank (key_of_name (dir_of_key k) s)) (rank k) (ap rank lawful.key), lt-ltb 23 (length s) long, le-leb 25 (length (given_body t (Some s))) (omega arith), zero) refl

pub given_is : (k : Key) (t : Target) (long : Option (List ℕ)) (c : List ℕ) (at : ℕ) → entry_key_at k c at ≡ k → entry_body c at ≡ given_body t long → target_of (given_body t long) ≡ t → is_long_key k ≡ is_some long → entry_at k c at ≡ given_entry k t long
unfolding entry_at
given_is k t long c at key body target form = rw (key, body, target, given_name_is k t long form) refl

-- ---- the body once the entry is there

-- What it says that the entries of a body are accepted, also where there is none.
pub record Rises (dir : Key) (b : List ℕ) : Type 0 where
  pub rise : (k : ℕ) → k + 1 < entry_count b → rank (entry_key_at dir b k) < rank (entry_key_at dir b (k + 1))
  pub named : (k : ℕ) → k < entry_count b → entry_name_is_good (entry_key_at dir b k) (entry_body b k) ≡ true

pub rises : (dir : Key) (b : List ℕ) → (entry_count b ≡ 0) ⊎ (dir_fault (first_key dir b) b ≡ None) → Rises dir b
rises dir b (inl none) = record { rise = λ k lt. absurd (omega arith); named = λ k lt. absurd (omega arith) }
rises dir b (inr ok) =
    let a = accepted (first_key dir b) b ok in
    record {
      rise = λ k lt. rw (same_dir dir b k, same_dir dir b (k + 1)) at (a.rise k lt);
      named = λ k lt. rw (same_dir dir b k) at (a.named k lt);
    }

key_above : (dir : Key) (es : List Entry) (b : List ℕ) (at k : ℕ) → GoesBetween es at dir → es ≡ entries_of dir b → k + 1 ≡ at → k < entry_count b → rank (entry_key_at dir b k) < rank dir
unfolding entry_at
key_above dir es b at k between same e lt = between.above k (entry_at dir b k) e (rw same (get-entries_of dir b k lt))

key_below : (dir : Key) (es : List Entry) (b : List ℕ) (at : ℕ) → GoesBetween es at dir → es ≡ entries_of dir b → at < entry_count b → rank dir < rank (entry_key_at dir b at)
unfolding entry_at
key_below dir es b at between same lt = between.below (entry_at dir b at) (rw same (get-entries_of dir b at lt))

pub insert_accepted : (dir : Key) (at from new : ℕ) (es : List Entry) (b c : List ℕ) → Edited (inserting at from new) b c → Rises dir b → GoesBetween es at dir → es ≡ entries_of dir b → entry_key_at dir c at ≡ dir → entry_name_is_good dir (entry_body c at) ≡ true → dir_fault (first_key dir c) c ≡ None
insert_accepted dir at from new es b c e r between same key good =
    let s : Splice = inserting at from new in
    let count = e.count in
    let within = e.within in
    let here : rank (entry_key_at dir c at) ≡ rank dir = ap rank key in
    let low = λ (k : ℕ) (lt : k < at). carries_rank dir b c k k (carried_low s b c k e lt) in
    let high = λ (k : ℕ) (ge : at ≤ k) (lt : k < entry_count b).
    let f : rank (entry_key_at dir c (k + 1)) ≡ rank (entry_key_at dir b (k + 0)) = carries_rank dir b c (k + 0) (k + 1) (carried_high s b c k e ge (omega arith)) in
    let g : rank (entry_key_at dir b (k + 0)) ≡ rank (entry_key_at dir b k) = ap (λ (m : ℕ). rank (entry_key_at dir b m)) (omega arith) in
    f ∙ g in
    let rise : (k : ℕ) → k + 1 < entry_count c → rank (entry_key_at dir c k) < rank (entry_key_at dir c (k + 1)) = λ k lt.
    elim (cases_lt (k + 1) at) [
      | inl below ↦ let x = low k (omega arith) in let y = low (k + 1) below in let up = r.rise k (omega arith) in omega arith
      | inr ge ↦
          elim (cases_eq (k + 1) at) [
            | inl next ↦
                let x = low k (omega arith) in
                let z : rank (entry_key_at dir c (k + 1)) ≡ rank (entry_key_at dir c at) = ap (λ (m : ℕ). rank (entry_key_at dir c m)) next in
                let up = key_above dir es b at k between same next (omega arith) in
                omega arith
            | inr past ↦
                let y = high k (omega arith) (omega arith) in
                elim (cases_eq k at) [
                  | inl this ↦
                      let z : rank (entry_key_at dir c k) ≡ rank (entry_key_at dir c at) = ap (λ (m : ℕ). rank (entry_key_at dir c m)) this in
                      let w : rank (entry_key_at dir b k) ≡ rank (entry_key_at dir b at) = ap (λ (m : ℕ). rank (entry_key_at dir b m)) this in
                      let up = key_below dir es b at between same (omega arith) in
                      omega arith
                  | inr later ↦
                      let j : ℕ = k - 1 in
                      let x = high j (omega arith) (omega arith) in
                      let z : rank (entry_key_at dir c (j + 1)) ≡ rank (entry_key_at dir c k) = ap (λ (m : ℕ). rank (entry_key_at dir c m)) (omega arith) in
                      let w : rank (entry_key_at dir b (j + 1)) ≡ rank (entry_key_at dir b k) = ap (λ (m : ℕ). rank (entry_key_at dir b m)) (omega arith) in
                      let up = r.rise j (omega arith) in
                      omega arith
                ]
          ]
    ] in
    let named : (k : ℕ) → k < entry_count c → entry_name_is_good (entry_key_at dir c k) (entry_body c k) ≡ true = λ k lt.
    elim (cases_lt k at) [
      | inl below ↦ carries_named dir b c k k (carried_low s b c k e below) (r.named k (omega arith))
      | inr ge ↦
          elim (cases_eq k at) [
            | inl this ↦ rw this (rw key good)
            | inr later ↦
                let j : ℕ = k - 1 in
                let was : entry_name_is_good (entry_key_at dir b (j + 0)) (entry_body b (j + 0)) ≡ true = r.named (j + 0) (omega arith) in
                let now : entry_name_is_good (entry_key_at dir c (j + 1)) (entry_body c (j + 1)) ≡ true = carries_named dir b c (j + 0) (j + 1) (carried_high s b c j e (omega arith) (omega arith)) was in
                let is : j + 1 ≡ k = omega arith in
                rw is at now
          ]
    ] in
    accepted_none (first_key dir c) c (accepted_by dir c (edited_laid s b c e) (omega arith) rise named)

-- all that is said of the entries once one was put in
pub record Done (k : Key) (t : Target) (long : Option (List ℕ)) (at : ℕ) (es : List Entry) (c : List ℕ) : Type 0 where
  pub entries : entries_of k c ≡ insert es at (given_entry k t long)
  pub lawful : dir_fault (first_key k c) c ≡ None

pub done : (k : Key) (t : Target) (long : Option (List ℕ)) (used u at from v : ℕ) (header a b mid d e : List ℕ) → IsBegun k used a u b → length a ≤ 4096 → u + given_room long + 26 ≤ length a → at ≤ entry_count (take used a) → from ≡ entry_edge (take u b) at
    → IsSpliced (inserting at from (given_room long)) u b v mid → length header ≡ 26 → d ≡ overwrite (entry_header at) header mid → e ≡ overwrite (from + 26) (given_body t long) d → entry_offset d at ≡ from + 26 → entry_key_at k d at ≡ k
    → target_of (given_body t long) ≡ t → is_long_key k ≡ is_some long → IsLawfulEntry (given_entry k t long) → IfSome long (λ s. All (λ x. x < 256) s) → GoesBetween (entries_of k (take used a)) at k → Done k t long at (entries_of k (take used a)) (take v e)
done k t long used u at from v header a b mid d e g short room within is sp h e1 e2 offset key target form lawful bytes between =
    let whole = g.whole in
    let count = begun_count k used u a b g in
    let new : ℕ = given_room long in
    let n : length (given_body t long) ≡ new = given_length t long in
    let big = room_big long in
    let ed : Edited (inserting at from new) (take u b) (take v e) = inserted u v at from new header (given_body t long) b mid d e (omega arith) (omega arith) g.laid (omega arith) is sp h n big e1 e2 offset in
    let p = placed u at from b (omega arith) g.laid (omega arith) is in
    let low = p.low in
    let high = p.high in
    let used_is = sp.used_is in
    let long_mid = sp.whole in
    let long_d : length d ≡ length mid = ap length e1 ∙ length-overwrite (entry_header at) header mid (omega arith) in
    let key' : entry_key_at k (take v e) at ≡ k = new_key v at from k (given_body t long) d e (omega arith) (omega arith) (omega arith) e2 key in
    let body : entry_body (take v e) at ≡ given_body t long = new_body v at from new (given_body t long) (take u b) d e ed n (omega arith) e2 in
    let entry : entry_at k (take v e) at ≡ given_entry k t long = given_is k t long (take v e) at key' body target form in
    let good : entry_name_is_good k (entry_body (take v e) at) ≡ true = rw body (given_good k t long form lawful bytes) in
    record {
      entries = edited_insert (inserting at from new) k (take u b) (take v e) ed refl refl ∙ rw (entry, g.entries k) refl;
      lawful = insert_accepted k at from new (entries_of k (take used a)) (take u b) (take v e) ed (rises k (take u b) g.accepted) between (sym (g.entries k)) key' good;
    }
  where
    room_big : (long : Option (List ℕ)) → 24 ≤ given_room long
    room_big None = omega arith
    room_big (Some s) = omega arith

-- what stands behind the entries stays
pub rest_kept : (k : Key) (used u at from new v q : ℕ) (header ys a b mid d e : List ℕ) → IsBegun k used a u b → IsSpliced (inserting at from new) u b v mid → entry_header at ≤ from → from ≤ u → length header ≡ 26 → length ys ≡ new → v ≤ length mid
    → d ≡ overwrite (entry_header at) header mid → e ≡ overwrite (from + 26) ys d → v ≤ q → get_or e q 0 ≡ get_or a q 0
rest_kept k used u at from new v q header ys a b mid d e g sp low high h n inside e1 e2 past =
    let used_is = sp.used_is in
    let long1 : length d ≡ length mid = ap length e1 ∙ length-overwrite (entry_header at) header mid (omega arith) in
    ap (λ (xs : List ℕ). get_or xs q 0) e2 ∙ get_or-overwrite_above (from + 26) ys d q 0 (omega arith) (omega arith)
    ∙ ap (λ (xs : List ℕ). get_or xs q 0) e1 ∙ get_or-overwrite_above (entry_header at) header mid q 0 (omega arith) (omega arith)
    ∙ sp.rest q (omega arith) past (omega arith) ∙ g.rest q (omega arith)
