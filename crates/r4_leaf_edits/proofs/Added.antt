-- One edit more for a leaf.
use Rattle.std.specs.Prelude.{◌≡◌, ℕ, ◌+◌, ◌-◌, ◌%◌, ◌^◌, ◌<◌, ◌≤◌, List, [], ◌∷◌, ◌++◌, length, replicate, take, Bool, true, false, ◌&&◌, ◌||◌, cond, All, Result, Ok, Err, OnOk}
use Rattle.std.proofs.Common.{arith, refl, sym, ap, subst, ◌∙◌}
use Rattle.std.proofs.lemmas.Bool.Decides.{nat_tests}
use Rattle.std.proofs.lemmas.List.{drop-replicate, length-replicate, take-replicate}
use Rattle.r4_base.specs.Key.{IsKey, later, offset_of, rank}
use Rattle.r4_base.specs.Node.{Item}
use Rattle.r4_base.specs.Value.{Value}
use Rattle.r4_base.specs.declared.key.Key.{Key}
use Rattle.r4_content.specs.Bodies.{larger, smaller}
use Rattle.r4_content.specs.Edited.{Pairs, is_between, is_in, put_keys}
use Rattle.r4_content.specs.Objects.{byte_pairs}
use Rattle.r4_content.proofs.BytePairs.{keys_in}
use Rattle.r4_content.proofs.Ranks.{between_is}
use Rattle.r4_reach.specs.r4_leaf.declared.remaking.KeyRange.{KeyRange}
use Rattle.r4_leaf_edits.specs.Made.{cuts_in, items_in}
use Rattle.r4_leaf_edits.specs.Making.{Gains, IsUnit, Sets}
use Rattle.r4_leaf_edits.specs.Suiting.{IsBefore}
use Rattle.r4_leaf_edits.specs.declared.leaf_edits.LeafEdits.{LeafEdits}
use Rattle.r4_leaf_edits.proofs.Clipped.{ends_before, no_bytes, no_part, part_before, part_bytes, part_keys, part_of_bytes}
use Rattle.r4_leaf_edits.proofs.Gained.{gains_cut, gains_item, gains_nothing}
use Rattle.r4_leaf_edits.proofs.Spelled.{offset_is, tail_is, tail_item}

pub both_ok : {T E P Q R : Type 0} (r : Result T E) → (P → Q → R) → OnOk r P → OnOk r Q → OnOk r R
both_ok (Ok x) f p q = f p q
both_ok (Err e) f p q = tt

larger_low : (lo a : ℕ) → lo ≤ larger lo a
larger_low lo a = grind (arith, nat_tests)

smaller_high : (hi b : ℕ) → smaller hi b ≤ hi
smaller_high hi b = grind (arith, nat_tests)

or_none : (b : Bool) → b ≡ (b || false)
or_none true = refl
or_none false = refl

-- ---- an interval that is cut out

module _ (lo hi a b : ℕ) where
  one_interval : (k : ℕ) (r : Bool) → r ≡ (is_between lo hi k && is_between a b k) → r ≡ (is_between lo hi k && is_in ((a, b) ∷ []) k)
  one_interval k r e = e ∙ ap (λ (t : Bool). is_between lo hi k && t) (or_none (is_between a b k))

  pub cut_added : (x y : LeafEdits) (p : KeyRange) → rank p.from ≡ larger lo a → rank p.to ≡ smaller hi b → cuts_in y ≡ cuts_in x ++ p ∷ [] → items_in y ≡ items_in x → Gains lo hi ((a, b) ∷ []) [] x y
  cut_added x y p from to cut same =
      let low = larger_low lo a in
      let high = smaller_high hi b in
      gains_cut lo hi ((a, b) ∷ []) x y p cut (omega (arith, from, low)) (omega (arith, to, high))
      (λ k. one_interval k _ ((λ i. is_between (from i) (to i) k) ∙ part_keys lo hi a b k)) same

  pub cut_nothing : (x : LeafEdits) → smaller hi b ≤ larger lo a → Gains lo hi ((a, b) ∷ []) [] x x
  cut_nothing x h = gains_nothing lo hi ((a, b) ∷ []) [] x (λ k. sym (one_interval k false (sym (no_part lo hi a b k h)))) refl

-- ---- bytes that are set

module _ (lo hi a : ℕ) (xs : List ℕ) where
  pub bytes_nothing : (x : LeafEdits) → smaller hi (a + length xs) ≤ larger lo a → Sets lo hi (byte_pairs a xs) x x
  bytes_nothing x h =
      gains_nothing lo hi (put_keys (byte_pairs a xs)) (byte_pairs a xs) x
      (λ k. ap (λ (t : Bool). is_between lo hi k && t) (keys_in a xs k) ∙ no_part lo hi a (a + length xs) k h) (no_bytes lo hi a xs h)

  -- how far the part goes
  pub part_ends : (f t : ℕ) → f ≡ larger lo a → t ≡ smaller hi (a + length xs) → f < t → All (IsBefore 16384) (byte_pairs a xs) → f % 2 ^ 64 + (t - f) ≤ 16384
  part_ends f t from to lt all =
      let part = part_of_bytes lo hi a xs f t from to lt in
      let long = part.long in
      let end = ends_before f (part_bytes a f t xs) (omega (arith, long, lt)) (part_before lo hi a xs f t (part_bytes a f t xs) part all) in
      omega (arith, long, end)

  pub bytes_added : (x y : LeafEdits) (p : KeyRange) → rank p.from ≡ larger lo a → rank p.to ≡ smaller hi (a + length xs) → rank p.from < rank p.to → All (IsBefore 16384) (byte_pairs a xs) → IsKey p.from
      → cuts_in y ≡ cuts_in x ++ p ∷ [] → items_in y ≡ items_in x ++ tail_item p.from (part_bytes a (rank p.from) (rank p.to) xs) ∷ [] → Sets lo hi (byte_pairs a xs) x y
  bytes_added x y p from to lt all is cut more =
      let f = rank p.from in
      let t = rank p.to in
      let ys = part_bytes a f t xs in
      let part = part_of_bytes lo hi a xs f t from to lt in
      let long = part.long in
      let end = part_ends f t from to lt all in
      let offset = offset_is p.from is in
      let tail = tail_is p.from ys (omega (arith, long, lt)) (omega (arith, long, end, offset)) in
      let low = larger_low lo a in
      let high = smaller_high hi (a + length xs) in
      let last = tail.end in
      gains_item lo hi (put_keys (byte_pairs a xs)) x y p cut (omega (arith, from, low)) (omega (arith, to, high))
      (λ k. (λ i. is_between (from i) (to i) k) ∙ part_keys lo hi a (a + length xs) k ∙ ap (λ (b : Bool). is_between lo hi k && b) (sym (keys_in a xs k)))
      (byte_pairs a xs) (tail_item p.from ys) more
      (record { put = tail.put; low = omega (arith, from, low); high = omega (arith, last, long, to, high); key = is })
      (tail.units ∙ sym part.kept)

-- ---- bytes of one value

module _ (lo hi a b byte : ℕ) where
  abbrev pub same_bytes_of : List ℕ
  same_bytes_of = replicate (b - a) byte

  end_is : (f t : ℕ) → f ≡ larger lo a → t ≡ smaller hi b → f < t → a + length same_bytes_of ≡ b
  end_is f t from to lt =
      let n = length-replicate (b - a) byte in
      let low = larger_high in
      let high = smaller_low in
      omega (arith, n, from, to, lt, low, high)
    where
      larger_high : a ≤ larger lo a
      larger_high = grind (arith, nat_tests)

      smaller_low : smaller hi b ≤ b
      smaller_low = grind (arith, nat_tests)

  pub fill_ends : (f t : ℕ) → f ≡ larger lo a → t ≡ smaller hi b → f < t → All (IsBefore 16384) (byte_pairs a same_bytes_of) → f % 2 ^ 64 + (t - f) ≤ 16384
  fill_ends f t from to lt all = part_ends lo hi a same_bytes_of f t from (to ∙ ap (smaller hi) (sym (end_is f t from to lt))) lt all

  pub fill_nothing : (x : LeafEdits) → smaller hi b ≤ larger lo a → Sets lo hi (byte_pairs a same_bytes_of) x x
  fill_nothing x h = bytes_nothing lo hi a same_bytes_of x (let n = length-replicate (b - a) byte in none (a + length same_bytes_of) (omega (arith, n)))
    where
      none : (c : ℕ) → (c ≡ a + (b - a)) → smaller hi c ≤ larger lo a
      none c e = grind (arith, nat_tests)

  part_is : (f t : ℕ) → f ≡ larger lo a → t ≡ smaller hi b → f < t → part_bytes a f t same_bytes_of ≡ replicate (t - f) byte
  part_is f t from to lt =
      let low : a ≤ larger lo a = grind (arith, nat_tests) in
      let high : smaller hi b ≤ b = grind (arith, nat_tests) in
      ap (take (t - f)) (drop-replicate (f - a) (b - a) byte) ∙ take-replicate (t - f) (b - a - (f - a)) byte (omega (arith, from, to, lt, low, high))

  pub fill_added : (x y : LeafEdits) (p : KeyRange) (count : ℕ) → rank p.from ≡ larger lo a → rank p.to ≡ smaller hi b → rank p.from < rank p.to → All (IsBefore 16384) (byte_pairs a same_bytes_of) → IsKey p.from
      → count ≡ rank p.to - rank p.from → cuts_in y ≡ cuts_in x ++ p ∷ [] → items_in y ≡ items_in x ++ tail_item p.from (replicate count byte) ∷ [] → Sets lo hi (byte_pairs a same_bytes_of) x y
  fill_added x y p count from to lt all is n cut more =
      bytes_added lo hi a same_bytes_of x y p from (to ∙ ap (smaller hi) (sym (end_is (rank p.from) (rank p.to) from to lt))) lt all is cut
      (more ∙ ap (λ (ys : List ℕ). items_in x ++ tail_item p.from ys ∷ []) (ap (λ (m : ℕ). replicate m byte) n ∙ sym (part_is (rank p.from) (rank p.to) from to lt)))

-- ---- a value that is set

module _ (lo hi : ℕ) (key : Key) (v : Value) where
  abbrev one : Pairs
  one = (rank key, v) ∷ []

  pub value_nothing : (x : LeafEdits) → is_between lo hi (rank key) ≡ false → Sets lo hi one x x
  value_nothing x out = gains_nothing lo hi (put_keys one) one x (λ k. no_key k) (ap (λ (b : Bool). cond b one []) out)
    where
      none : (k b : ℕ) → is_between lo hi b ≡ false → (is_between lo hi k && (is_between b (b + 1) k || false)) ≡ false
      none k b e = grind (arith, nat_tests)

      no_key : (k : ℕ) → (is_between lo hi k && is_in (put_keys one) k) ≡ false
      no_key k = none k (rank key) out

  pub value_added : (x y : LeafEdits) (p : KeyRange) (it : Item) → is_between lo hi (rank key) ≡ true → rank p.from ≡ rank key → rank p.to ≡ rank key + 1 → IsUnit key v it
      → cuts_in y ≡ cuts_in x ++ p ∷ [] → items_in y ≡ items_in x ++ it ∷ [] → Sets lo hi one x y
  value_added x y p it within from to unit cut more =
      let (low, high) = between_is lo hi (rank key) within in
      let end = unit.end in
      let same : rank it.key ≡ rank key = ap rank unit.same in
      gains_item lo hi (put_keys one) x y p cut (omega (arith, from, low)) (omega (arith, to, high)) (λ k. (λ i. is_between (from i) (to i) k) ∙ one_there k (rank key) within) one it more
      (record { put = unit.put; low = omega (arith, same, low); high = omega (arith, end, high); key = subst IsKey (sym unit.same) unit.fits })
      (unit.units ∙ sym (ap (λ (b : Bool). cond b one []) within))
    where
      one_there : (k b : ℕ) → is_between lo hi b ≡ true → is_between b (b + 1) k ≡ (is_between lo hi k && (is_between b (b + 1) k || false))
      one_there k b e = grind (arith, nat_tests)

-- ---- a run of bytes

later_is : (k : Key) (n : ℕ) → rank (later k n) ≡ rank k + n
unfolding rank
later_is k n = omega arith

module _ (lo hi : ℕ) (key : Key) (is : IsKey key) (xs : List ℕ) (some : 1 ≤ length xs) (all : All (IsBefore 16384) (byte_pairs (rank key) xs)) where
  pub run_short : offset_of key + length xs ≤ 16384
  run_short =
      let offset = offset_is key is in
      let end = ends_before (rank key) xs some all in
      omega (arith, offset, end)

  module _ (end : Key) (last : end ≡ later key (length xs)) where
    pub run_end : rank end ≡ rank key + length xs
    run_end = ap rank last ∙ later_is key (length xs)

    pub run_bounds : (f t : ℕ) → f ≡ larger lo (rank key) → t ≡ smaller hi (rank end) → (rank key ≤ f) × (t ≤ rank key + length xs)
    run_bounds f t from to =
        let at = run_end in
        let a : rank key ≤ larger lo (rank key) = grind (arith, nat_tests) in
        let b : smaller hi (rank end) ≤ rank end = grind (arith, nat_tests) in
        (omega (arith, from, a), omega (arith, to, b, at))

    pub run_nothing : (x : LeafEdits) → smaller hi (rank end) ≤ larger lo (rank key) → Sets lo hi (byte_pairs (rank key) xs) x x
    run_nothing x h = bytes_nothing lo hi (rank key) xs x (subst (λ (b : ℕ). smaller hi b ≤ larger lo (rank key)) run_end h)

    pub run_added : (x y : LeafEdits) (p : KeyRange) (ys : List ℕ) → rank p.from ≡ larger lo (rank key) → rank p.to ≡ smaller hi (rank end) → rank p.from < rank p.to → IsKey p.from
        → ys ≡ part_bytes (rank key) (rank p.from) (rank p.to) xs → cuts_in y ≡ cuts_in x ++ p ∷ [] → items_in y ≡ items_in x ++ tail_item p.from ys ∷ [] → Sets lo hi (byte_pairs (rank key) xs) x y
    run_added x y p ys from to lt is_from same cut more =
        bytes_added lo hi (rank key) xs x y p from (to ∙ ap (smaller hi) run_end) lt all is_from cut (more ∙ ap (λ (zs : List ℕ). items_in x ++ tail_item p.from zs ∷ []) same)
