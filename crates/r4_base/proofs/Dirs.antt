-- Directory items: their lists of entries, and what it says that a body is accepted.
use Rattle.std.proofs.Common.{◌≡◌, ℕ, zero, suc, ◌+◌, ◌-◌, ◌*◌, ◌<◌, ◌≤◌, Bool, true, false, cond, not, eqb, ltb, leb, ◌&&◌, List, length, get_or, Option, Some, None, refl, sym, ap, ◌∙◌, arith, inl, inr}
use Rattle.std.proofs.lemmas.Bool.{and_parts, cases_eq, eq-eqb, eqb-true, le-leb, leb-true, lt-ltb, ltb-true, ne_eqb}
use Rattle.std.specs.Option.{option_or}
use Rattle.std.specs.Prelude.{slice_get}
use Rattle.r4_base.specs.declared.key.Key.{Key}
use Rattle.r4_base.specs.declared.items.DirFault.{DirFault}
use Rattle.r4_base.specs.declared.items.DirFault.TheVariants.{Count, Offset, Order, Name}
use Rattle.r4_base.specs.Key.{IsKey, rank}
use Rattle.r4_base.specs.Dir.{Entry, entry_count, entry_header, entry_key_at, entry_offset, entry_edge, entry_body, entry_at, entries_from, entries_of, entry_count_is_good, entry_offset_is_good, entry_order_is_good, entry_name_is_good, entry_fault, entries_fault, dir_fault}
use Rattle.r4_base.specs.Entries.{IsLaid}
use Rattle.r4_base.proofs.Keys.{is_key}
use Rattle.r4_base.proofs.Numbers.{number_at-lt}
use Rattle.r4_base.proofs.Choices.{if_true}

-- ---- the list of entries

length-entries_from : (item : Key) (n i : ℕ) (b : List ℕ) → length (entries_from item n i b) ≡ n
unfolding entries_from
length-entries_from item zero i b = refl
length-entries_from item (suc n) i b = let ih = length-entries_from item n (i + 1) b in omega arith

pub length-entries_of : (item : Key) (b : List ℕ) → length (entries_of item b) ≡ entry_count b
unfolding entries_of
length-entries_of item b = length-entries_from item (entry_count b) 0 b

get-entries_from : (item : Key) (n i j : ℕ) (b : List ℕ) → j < n → slice_get (entries_from item n i b) j ≡ Some (entry_at item b (i + j))
unfolding entries_from
get-entries_from item zero i j b lt = absurd (omega arith)
get-entries_from item (suc n) i zero b lt = let e : i ≡ i + 0 = omega arith in ap (λ (m : ℕ). Some (entry_at item b m)) e
get-entries_from item (suc n) i (suc j) b lt = let e : i + 1 + j ≡ i + suc j = omega arith in get-entries_from item n (i + 1) j b (omega arith) ∙ ap (λ (m : ℕ). Some (entry_at item b m)) e

pub get-entries_of : (item : Key) (b : List ℕ) (j : ℕ) → j < entry_count b → slice_get (entries_of item b) j ≡ Some (entry_at item b j)
unfolding entries_of
get-entries_of item b j lt = let e : 0 + j ≡ j = omega arith in get-entries_from item (entry_count b) 0 j b lt ∙ rw e refl

get_or-entries_from : (item : Key) (n i j : ℕ) (d : Entry) (b : List ℕ) → j < n → get_or (entries_from item n i b) j d ≡ entry_at item b (i + j)
unfolding entries_from
get_or-entries_from item zero i j d b lt = absurd (omega arith)
get_or-entries_from item (suc n) i zero d b lt = let e : i ≡ i + 0 = omega arith in ap (entry_at item b) e
get_or-entries_from item (suc n) i (suc j) d b lt = let e : i + 1 + j ≡ i + suc j = omega arith in get_or-entries_from item n (i + 1) j d b (omega arith) ∙ ap (entry_at item b) e

pub get_or-entries_of : (item : Key) (b : List ℕ) (j : ℕ) (d : Entry) → j < entry_count b → get_or (entries_of item b) j d ≡ entry_at item b j
unfolding entries_of
get_or-entries_of item b j d lt = let e : 0 + j ≡ j = omega arith in get_or-entries_from item (entry_count b) 0 j d b lt ∙ rw e refl

-- the numbers of an entry's key are numbers of 64 bits
pub entry_key_fits : (item : Key) (b : List ℕ) (i : ℕ) → IsKey item → IsKey (entry_key_at item b i)
unfolding entry_key_at
entry_key_fits item b i key =
    let first = key.small 0 in
    let small = λ (at : ℕ). number_at-lt 8 at b in
    is_key (entry_key_at item b i) refl (omega arith) (omega (arith, small (entry_header i))) (omega (arith, small (entry_header i + 8))) (omega (arith, small (entry_header i + 16)))

-- ---- edges: where bodies begin, and where the last one ends

pub edge_next : (b : List ℕ) (i : ℕ) → i < entry_count b → entry_edge b i ≡ entry_offset b i
unfolding entry_edge
edge_next b i lt = rw (ne_eqb i (entry_count b) (λ e. omega (arith, e))) refl

pub edge_last : (b : List ℕ) (i : ℕ) → i ≡ entry_count b → entry_edge b i ≡ length b
unfolding entry_edge
edge_last b i e = rw (eq-eqb i (entry_count b) e) refl

-- an edge is at least 24 bytes for each entry behind an earlier one
pub edges_apart : (b : List ℕ) (k j : ℕ) → IsLaid b → k + j ≤ entry_count b → entry_edge b k + 24 * j ≤ entry_edge b (k + j)
edges_apart b k zero laid le = let e : entry_edge b k ≡ entry_edge b (k + 0) = ap (entry_edge b) (omega arith) in omega arith
edges_apart b k (suc j) laid le =
    let ih = edges_apart b k j laid (omega arith) in
    let step = laid.steps (k + j) (omega arith) in
    let e : entry_edge b (k + j + 1) ≡ entry_edge b (k + suc j) = ap (entry_edge b) (omega arith) in
    omega arith

pub edges_rise : (b : List ℕ) (k m : ℕ) → IsLaid b → k ≤ m → m ≤ entry_count b → entry_edge b k ≤ entry_edge b m
edges_rise b k m laid le le' =
    let h = edges_apart b k (m - k) laid (omega arith) in
    let e : entry_edge b (k + (m - k)) ≡ entry_edge b m = ap (entry_edge b) (omega arith) in
    omega arith

-- where an edge stands
pub record EdgeStands (b : List ℕ) (i : ℕ) : Type 0 where
  pub low : entry_header (entry_count b) + 24 * i ≤ entry_edge b i
  pub high : entry_edge b i + 24 * (entry_count b - i) ≤ length b

pub edge_stands : (b : List ℕ) (i : ℕ) → IsLaid b → i ≤ entry_count b → EdgeStands b i
edge_stands b i laid le =
    let a = edges_apart b 0 i laid (omega arith) in
    let z = edges_apart b i (entry_count b - i) laid (omega arith) in
    let first = laid.first in
    let at : entry_edge b (0 + i) ≡ entry_edge b i = ap (entry_edge b) (omega arith) in
    let last : entry_edge b (i + (entry_count b - i)) ≡ length b = edge_last b (i + (entry_count b - i)) (omega arith) in
    record { low = omega arith; high = omega arith }

-- ---- a body that is accepted

pub record IsAccepted (item : Key) (b : List ℕ) : Type 0 where
  pub laid : IsLaid b
  pub some : 0 < entry_count b
  pub first : rank (entry_key_at item b 0) ≡ rank item
  pub rise : (k : ℕ) → k + 1 < entry_count b → rank (entry_key_at item b k) < rank (entry_key_at item b (k + 1))
  pub named : (k : ℕ) → k < entry_count b → entry_name_is_good (entry_key_at item b k) (entry_body b k) ≡ true

-- the keys rise all along
pub keys_rise : (item : Key) (b : List ℕ) (k j : ℕ) → IsAccepted item b → k + j < entry_count b → rank (entry_key_at item b k) + j ≤ rank (entry_key_at item b (k + j))
keys_rise item b k zero a lt = let e : rank (entry_key_at item b k) ≡ rank (entry_key_at item b (k + 0)) = ap (λ (m : ℕ). rank (entry_key_at item b m)) (omega arith) in omega arith
keys_rise item b k (suc j) a lt =
    let ih = keys_rise item b k j a (omega arith) in
    let up = a.rise (k + j) (omega arith) in
    let e : rank (entry_key_at item b (k + j + 1)) ≡ rank (entry_key_at item b (k + suc j)) = ap (λ (m : ℕ). rank (entry_key_at item b m)) (omega arith) in
    omega arith

pub keys_apart : (item : Key) (b : List ℕ) (k m : ℕ) → IsAccepted item b → k < m → m < entry_count b → rank (entry_key_at item b k) < rank (entry_key_at item b m)
keys_apart item b k m a lt within =
    let h = keys_rise item b k (m - k) a (omega arith) in
    let e : rank (entry_key_at item b (k + (m - k))) ≡ rank (entry_key_at item b m) = ap (λ (x : ℕ). rank (entry_key_at item b x)) (omega arith) in
    omega arith

-- ---- tests in a row

past : {X : Type 0} (p : Bool) (f : X) (o : Option X) → cond (not p) (Some f) o ≡ None → (p ≡ true) × (o ≡ None)
past true f o e = (refl, e)
past false f o e = absurd cc

neither : {X : Type 0} (x y : Option X) → option_or x y ≡ None → (x ≡ None) × (y ≡ None)
neither None y e = (refl, e)
neither (Some x) y e = absurd cc

if_false : (p x y : Bool) → p ≡ false → cond p x y ≡ true → y ≡ true
if_false true x y e h = absurd cc
if_false false x y e h = h

-- What it says of an entry that it has no fault.
pub record EntryIsGood (item : Key) (b : List ℕ) (i : ℕ) : Type 0 where
  pub first : i ≡ 0 → entry_offset b 0 ≡ entry_header (entry_count b)
  pub within : entry_edge b (i + 1) ≤ length b
  pub room : entry_offset b i + 24 ≤ entry_edge b (i + 1)
  pub key : i ≡ 0 → rank (entry_key_at item b 0) ≡ rank item
  pub rises : 0 < i → rank (entry_key_at item b (i - 1)) < rank (entry_key_at item b i)
  pub named : entry_name_is_good (entry_key_at item b i) (entry_body b i) ≡ true

pub entry_is_good : (item : Key) (b : List ℕ) (i : ℕ) → entry_fault item b i ≡ None → EntryIsGood item b i
unfolding entry_fault
entry_is_good item b i e =
    let one = past (entry_offset_is_good b i) (Offset i) _ e in
    let two = past (entry_order_is_good item b i) (Order i) _ one.1 in
    let three = past (entry_name_is_good (entry_key_at item b i) (entry_body b i)) (Name i) None two.1 in
    let at0 : Bool = eqb (entry_offset b 0) (entry_header (entry_count b)) in
    let ends = and_parts (cond (eqb i 0) at0 true && leb (entry_edge b (i + 1)) (length b)) (leb (entry_offset b i + 24) (entry_edge b (i + 1))) one.0 in
    let begins = and_parts (cond (eqb i 0) at0 true) (leb (entry_edge b (i + 1)) (length b)) ends.0 in
    let same : Bool = eqb (rank (entry_key_at item b 0)) (rank item) in
    let up : Bool = ltb (rank (entry_key_at item b (i - 1))) (rank (entry_key_at item b i)) in
    record {
      first = λ z. eqb-true _ _ (if_true (eqb i 0) at0 true (eq-eqb i 0 z) begins.0);
      within = leb-true _ _ begins.1;
      room = leb-true _ _ ends.1;
      key = λ z. eqb-true _ _ (if_true (eqb i 0) same up (eq-eqb i 0 z) two.0);
      rises = λ pos. ltb-true _ _ (if_false (eqb i 0) same up (ne_eqb i 0 (λ z. omega (arith, z))) two.0);
      named = three.0;
    }

if_is : (p x y : Bool) → (p ≡ true → x ≡ true) → (p ≡ false → y ≡ true) → cond p x y ≡ true
if_is true x y h g = h refl
if_is false x y h g = g refl

pub good_entry : (item : Key) (b : List ℕ) (i : ℕ) → EntryIsGood item b i → entry_fault item b i ≡ None
unfolding entry_fault
good_entry item b i g =
    let at0 : Bool = eqb (entry_offset b 0) (entry_header (entry_count b)) in
    let begins : cond (eqb i 0) at0 true ≡ true = if_is (eqb i 0) at0 true (λ e. eq-eqb _ _ (g.first (eqb-true i 0 e))) (λ e. refl) in
    let same : Bool = eqb (rank (entry_key_at item b 0)) (rank item) in
    let up : Bool = ltb (rank (entry_key_at item b (i - 1))) (rank (entry_key_at item b i)) in
    let order : cond (eqb i 0) same up ≡ true = if_is (eqb i 0) same up (λ e. eq-eqb _ _ (g.key (eqb-true i 0 e))) (λ e. lt-ltb _ _ (g.rises (positive i e))) in
    rw (begins, le-leb (entry_edge b (i + 1)) (length b) g.within, le-leb (entry_offset b i + 24) (entry_edge b (i + 1)) g.room, order, g.named) refl
  where
    positive : (i : ℕ) → eqb i 0 ≡ false → 0 < i
    positive zero e = absurd cc
    positive (suc i) e = omega arith

-- ---- the entries one after the other

pub each_good : (item : Key) (b : List ℕ) (n i k : ℕ) → entries_fault item n i b ≡ None → i ≤ k → k < i + n → entry_fault item b k ≡ None
unfolding entries_fault
each_good item b zero i k e le lt = absurd (omega arith)
each_good item b (suc n) i k e le lt =
    let here = neither (entry_fault item b i) (entries_fault item n (i + 1) b) e in
    elim (cases_eq k i) [
      | inl same ↦ rw same here.0
      | inr other ↦ each_good item b n (i + 1) k here.1 (omega arith) (omega arith)
    ]

pub all_good : (item : Key) (b : List ℕ) (n i : ℕ) → ((k : ℕ) → i ≤ k → k < i + n → entry_fault item b k ≡ None) → entries_fault item n i b ≡ None
unfolding entries_fault
all_good item b zero i h = refl
all_good item b (suc n) i h = rw (h i (omega arith) (omega arith), all_good item b n (i + 1) (λ k le lt. h k (omega arith) (omega arith))) refl

-- What it says of the count that it is good.
pub record CountIsGood (b : List ℕ) : Type 0 where
  pub two : 2 ≤ length b
  pub some : 1 ≤ entry_count b
  pub headers : entry_header (entry_count b) ≤ length b

pub count_is_good : (b : List ℕ) → entry_count_is_good b ≡ true → CountIsGood b
count_is_good b e =
    let one = and_parts (leb 2 (length b) && leb 1 (entry_count b)) (leb (entry_header (entry_count b)) (length b)) e in
    let two = and_parts (leb 2 (length b)) (leb 1 (entry_count b)) one.0 in
    record { two = leb-true _ _ two.0; some = leb-true _ _ two.1; headers = leb-true _ _ one.1 }

pub accepted : (item : Key) (b : List ℕ) → dir_fault item b ≡ None → IsAccepted item b
unfolding dir_fault
accepted item b e =
    let parts = past (entry_count_is_good b) Count (entries_fault item (entry_count b) 0 b) e in
    let count = count_is_good b parts.0 in
    let each = λ (k : ℕ) (lt : k < entry_count b). entry_is_good item b k (each_good item b (entry_count b) 0 k parts.1 (omega arith) (omega arith)) in
    let begin = each 0 count.some in
    record {
      laid = record {
        two = count.two;
        first = edge_next b 0 count.some ∙ begin.first refl;
        steps = λ k lt. let g = each k lt in let next = edge_next b k lt in omega (arith, g.room);
      };
      some = count.some;
      first = begin.key refl;
      rise = λ k lt.
          let up = (each (k + 1) lt).rises (omega arith) in
          let back : k + 1 - 1 ≡ k = omega arith in
          rw back at up;
      named = λ k lt. (each k lt).named;
    }

pub accepted_none : (item : Key) (b : List ℕ) → IsAccepted item b → dir_fault item b ≡ None
unfolding dir_fault
accepted_none item b a =
    let two = a.laid.two in
    let some = a.some in
    let headers = (edge_stands b 0 a.laid (omega arith)).high in
    let begin = a.laid.first in
    let count : entry_count_is_good b ≡ true = rw (le-leb 2 (length b) two, le-leb 1 (entry_count b) some, le-leb (entry_header (entry_count b)) (length b) (omega arith)) refl in
    let each = λ (k : ℕ) (le : 0 ≤ k) (lt : k < 0 + entry_count b).
    let within : k < entry_count b = omega arith in
    let here = edge_next b k within in
    let step = a.laid.steps k within in
    let high = (edge_stands b (k + 1) a.laid (omega arith)).high in
    let g : EntryIsGood item b k = record {
      first = λ z. let zeroth = edge_next b 0 some in omega arith;
      within = omega arith;
      room = omega arith;
      key = λ z. a.first;
      rises = λ pos.
          let up = a.rise (k - 1) (omega arith) in
          let back : k - 1 + 1 ≡ k = omega arith in
          rw back at up;
      named = a.named k within;
    } in
    good_entry item b k g in
    rw count (all_good item b (entry_count b) 0 each)

-- ---- a loop over the entries

pub passed : (item : Key) (b : List ℕ) (n i : ℕ) (total : Option DirFault) → i < n → entry_fault item b i ≡ None → entries_fault item (n - i) i b ≡ total → entries_fault item (n - (i + 1)) (i + 1) b ≡ total
unfolding entries_fault
passed item b n i total lt ok so_far =
    let k : n - i ≡ suc (n - (i + 1)) = omega arith in
    let one : entries_fault item (n - i) i b ≡ entries_fault item (n - (i + 1)) (i + 1) b = rw (k, ok) refl in
    sym one ∙ so_far

pub stopped : (item : Key) (b : List ℕ) (n i : ℕ) (f : DirFault) (total : Option DirFault) → i < n → entry_fault item b i ≡ Some f → entries_fault item (n - i) i b ≡ total → Some f ≡ total
unfolding entries_fault
stopped item b n i f total lt e so_far =
    let k : n - i ≡ suc (n - (i + 1)) = omega arith in
    let one : entries_fault item (n - i) i b ≡ Some f = rw (k, e) refl in
    sym one ∙ so_far

pub all_passed : (item : Key) (b : List ℕ) (n i : ℕ) (total : Option DirFault) → n ≤ i → entries_fault item (n - i) i b ≡ total → None ≡ total
unfolding entries_fault
all_passed item b n i total le so_far =
    let k : n - i ≡ 0 = omega arith in
    let one : entries_fault item (n - i) i b ≡ None = rw k refl in
    sym one ∙ so_far
