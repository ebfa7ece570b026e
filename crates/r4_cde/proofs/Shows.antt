-- What a view of a directory item shows.
use Rattle.std.proofs.Common.{◌≡◌, ℕ, ◌+◌, ◌-◌, ◌<◌, ◌≤◌, Bool, true, false, cond, eqb, leb, ◌&&◌, List, length, get_or, Some, refl, sym, ap, ◌∙◌, arith}
use Rattle.std.proofs.lemmas.Bool.{and_parts, leb-true}
use Rattle.std.specs.Option.{is_none}
use Rattle.std.specs.Prelude.{slice_get, slice_range}
use Rattle.r4_base.specs.declared.key.Key.{Key}
use Rattle.r4_base.specs.declared.items.Target.{Target}
use Rattle.r4_base.specs.Key.{rank}
use Rattle.r4_base.specs.Name.{is_long_key, is_long_name, name_fault, key_of_name, dir_of_key}
use Rattle.r4_base.specs.Dir.{dir_fault, name_of, target_of, entry_at, entry_body, entry_count, entry_edge, entry_header, entry_key_at, entry_name_is_good, entry_offset, entries_of}
use Rattle.r4_base.proofs.Dirs.{IsAccepted, accepted, edge_stands, get-entries_of}
use Rattle.r4_base.proofs.Names.{is_none_none}
use Rattle.r4_base.proofs.Numbers.{length-slice_range, get_or-slice_range, slice_range-same}
use Rattle.r4_base.proofs.Choices.{if_true}

-- ---- a name, and an entry

range_of_range : (b : List ℕ) (from to : ℕ) → from + 25 ≤ to → to ≤ length b → slice_range (slice_range b from to) 24 (length (slice_range b from to) - 1) ≡ slice_range b (from + 24) (to - 1)
range_of_range b from to room inside =
    let n = length-slice_range b from to (omega arith) inside in
    slice_range-same (slice_range b from to) b 24 (length (slice_range b from to) - 1) (from + 24) (to - 1) (omega arith) (omega arith) (omega arith) (omega arith) (omega arith) (λ k lt.
    let e : from + (24 + k) ≡ from + 24 + k = omega arith in
    get_or-slice_range b from to (24 + k) (omega arith) ∙ ap (λ (p : ℕ). get_or b p 0) e)

pub long_name_is : (k : Key) (b : List ℕ) (from to : ℕ) → is_long_key k ≡ true → from + 25 ≤ to → to ≤ length b → slice_range b (from + 24) (to - 1) ≡ name_of k (slice_range b from to)
unfolding name_of
long_name_is k b from to long room inside = rw long (sym (range_of_range b from to room inside))

pub named_room : (k : Key) (body : List ℕ) → entry_name_is_good k body ≡ true → is_long_key k ≡ true → 25 ≤ length body
named_room k body e long =
    let form = and_parts (is_none (name_fault (name_of k body)) && eqb (rank (key_of_name (dir_of_key k) (name_of k body))) (rank k)) _ e in
    let parts = if_true (is_long_key k) (is_long_name (name_of k body) && leb 25 (length body) && eqb (get_or body (length body - 1) 0) 0) (eqb (length body) 24) long form.1 in
    let two = and_parts (is_long_name (name_of k body) && leb 25 (length body)) (eqb (get_or body (length body - 1) 0) 0) parts in
    leb-true _ _ (and_parts (is_long_name (name_of k body)) (leb 25 (length body)) two.0).1

pub good : (item : Key) (b : List ℕ) → is_none (dir_fault item b) ≡ true → IsAccepted item b
good item b e = accepted item b (is_none_none (dir_fault item b) e)

-- what an accepted body has room for
pub record HasRoom (b : List ℕ) (i : ℕ) : Type 0 where
  pub header : entry_header (i + 1) ≤ length b
  pub count : i < entry_count b

pub has_room : (item : Key) (b : List ℕ) (i : ℕ) → IsAccepted item b → i < entry_count b → HasRoom b i
has_room item b i a lt = let s = edge_stands b 0 a.laid (omega arith) in let high = s.high in let low = s.low in record { header = omega arith; count = lt }

pub long_room : (item : Key) (b : List ℕ) (i from to : ℕ) (k : Key) → IsAccepted item b → i < entry_count b → from ≡ entry_offset b i → to ≡ entry_edge b (i + 1) → from ≤ to → to ≤ length b → k ≡ entry_key_at item b i → is_long_key k ≡ true → from + 25 ≤ to
unfolding entry_body
long_room item b i from to k a lt begin end order inside is long =
    let named = a.named i lt in
    let body : entry_body b i ≡ slice_range b from to = rw (begin, end) refl in
    let n = length-slice_range b from to order inside in
    let room = named_room (entry_key_at item b i) (entry_body b i) named (ap is_long_key (sym is) ∙ long) in
    let same : length (entry_body b i) ≡ length (slice_range b from to) = ap length body in
    omega arith

pub shown_is : (item : Key) (b : List ℕ) (i from to : ℕ) (k : Key) (t : Target) (name : List ℕ) → i < entry_count b → from ≡ entry_offset b i → to ≡ entry_edge b (i + 1) → k ≡ entry_key_at item b i → t ≡ target_of (slice_range b from to) → name ≡ name_of k (slice_range b from to)
    → slice_get (entries_of item b) i ≡ Some (record { key = k; target = t; name = name })
unfolding entry_at entry_body
shown_is item b i from to k t name lt begin end is target named = get-entries_of item b i lt ∙ rw (target, named, is, begin, end) refl
