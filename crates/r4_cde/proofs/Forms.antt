-- The form of an entry's body: what the code answers.
use Rattle.std.proofs.Common.{◌≡◌, ℕ, ◌+◌, ◌-◌, ◌/◌, ◌^◌, ◌≤◌, Bool, true, false, cond, not, eqb, ◌&&◌, List, length, get_or, take, drop, Some, None, refl, sym, ap, ◌∙◌, arith, inl, inr}
use Rattle.std.proofs.lemmas.Bool.{cases_lt, eq-eqb, eqb-true, lt-ltb, le-leb}
use Rattle.std.proofs.lemmas.List.{get_or-take, get_or-drop, get_or_past, length-take}
use Rattle.std.specs.Option.{is_none}
use Rattle.std.specs.Prelude.{slice_range}
use Rattle.r4_base.specs.declared.key.Key.{Key}
use Rattle.r4_base.specs.declared.items.DirFault.TheVariants.{Name}
use Rattle.r4_base.specs.Key.{rank}
use Rattle.r4_base.specs.Name.{dir_of_key, is_long_key, is_long_name, key_of_name, name_fault, short_name_in}
use Rattle.r4_base.specs.Dir.{name_of, entry_body, entry_edge, entry_fault, entry_key_at, entry_name_is_good, entry_offset, entry_offset_is_good, entry_order_is_good}
use Rattle.r4_base.proofs.Numbers.{AreBytes}
use Rattle.r4_base.proofs.Names.{ordering_short}

-- whether bytes are a name and a key is its
abbrev pub is_key_named : Key → List ℕ → Bool
is_key_named k s = is_none (name_fault s) && eqb (rank (key_of_name (dir_of_key k) s)) (rank k)

and_true : (p : Bool) → p ≡ (p && true)
and_true true = refl
and_true false = refl

same_form : (r f : Bool) → (r ≡ true → f ≡ true) → r ≡ (r && f)
same_form true f h = sym (h refl)
same_form false f h = refl

pub short_form : (k : Key) (body name : List ℕ) (r : Bool) → is_long_key k ≡ false → length body ≡ 24 → name ≡ short_name_in k → r ≡ is_key_named k name → r ≡ entry_name_is_good k body
unfolding name_of
short_form k body name r short long is e =
    rw (short, eq-eqb (length body) 24 long, ← is) (e ∙ and_true (is_key_named k name))

pub bytes_between : (b : List ℕ) (from to : ℕ) → AreBytes b → AreBytes (slice_range b from to)
bytes_between b from to bytes k = elim (cases_lt k (to - from)) [
  | inl lt ↦ rw (get_or-take (to - from) (drop from b) k 0 lt ∙ get_or-drop from b k 0) (bytes (from + k))
  | inr past ↦ rw (get_or_past (take (to - from) (drop from b)) k 0 (omega (arith, length-take (to - from) (drop from b)))) (omega arith)
]

pub long_form : (k : Key) (body : List ℕ) (end : ℕ) (r : Bool) → is_long_key k ≡ true → end ≡ length body - 1 → 24 ≤ end → get_or body end 0 ≡ 0 → AreBytes body
    → r ≡ is_key_named k (slice_range body 24 end) → (r ≡ true → key_of_name (dir_of_key k) (slice_range body 24 end) ≡ k) → r ≡ entry_name_is_good k body
unfolding name_of
long_form k body end r long at room zero bytes e key =
    let s = slice_range body 24 end in
    let ends : get_or body (length body - 1) 0 ≡ 0 = rw (← at) zero in
    let name : slice_range body 24 (length body - 1) ≡ s = ap (slice_range body 24) (sym at) in
    let named : r ≡ true → is_long_name s ≡ true = λ is. elim (cases_lt 23 (length s)) [
      | inl lt ↦ lt-ltb 23 (length s) lt
      | inr le ↦
          let low = ordering_short (dir_of_key k) s (bytes_between body 24 end bytes) le in
          let high = eqb-true _ _ long in
          let same : get_or (key_of_name (dir_of_key k) s).el 1 0 / 2 ^ 56 ≡ get_or k.el 1 0 / 2 ^ 56 = ap (λ (x : Key). get_or x.el 1 0 / 2 ^ 56) (key is) in
          absurd (omega arith)
    ] in
    rw (long, le-leb 25 (length body) (omega arith), ends, name) (e ∙ rw (← e) (same_form r (is_long_name s && true && true) (λ is. rw (named is) refl)))

-- ---- the faults of an entry

pub name_fault_is : (item : Key) (b : List ℕ) (i from to : ℕ) (key : Key) (r : Bool) → entry_offset_is_good b i ≡ true → entry_order_is_good item b i ≡ true → from ≡ entry_offset b i → to ≡ entry_edge b (i + 1)
    → key ≡ entry_key_at item b i → r ≡ entry_name_is_good key (slice_range b from to) → entry_fault item b i ≡ cond (not r) (Some (Name i)) None
unfolding entry_fault entry_body
name_fault_is item b i from to key r place order begin end is e =
    let named : entry_name_is_good (entry_key_at item b i) (entry_body b i) ≡ r = rw (← is, ← begin, ← end) (sym e) in
    rw (place, order, named) refl
