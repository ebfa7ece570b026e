-- Where the bodies of a block begin and end, and its list of items.
use Rattle.std.proofs.Common.{◌≡◌, ℕ, zero, suc, ◌+◌, ◌-◌, ◌*◌, ◌<◌, ◌≤◌, List, length, get_or, Some, refl, sym, ap, ◌∙◌, arith, inl, inr}
use Rattle.std.proofs.lemmas.Bool.{cases_eq, eq-eqb, ne_eqb}
use Rattle.std.specs.Prelude.{slice_get, slice_range}
use Rattle.r4_base.specs.declared.key.Key.{Key}
use Rattle.r4_base.specs.Key.{IsKey}
use Rattle.r4_base.proofs.Keys.{is_key}
use Rattle.r4_base.proofs.Numbers.{number_at-lt}
use Rattle.r4_base.specs.Node.{Item, header, count_of, start_of, free_of, key_at, plugin_at, offset_at, edge_at, end_at, item_at, items_from, items_of}
use Rattle.r4_node40.specs.Laid.{IsLaid}

-- ---- edges: where bodies begin, and where they end

pub edge_next : (n i : ℕ) (b : List ℕ) → i < n → edge_at n b i ≡ offset_at b i
unfolding edge_at
edge_next n i b lt = let t = ne_eqb i n (λ e. omega (arith, e)) in rw t refl

pub edge_last : (n i : ℕ) (b : List ℕ) → i ≡ n → edge_at n b i ≡ start_of b
unfolding edge_at
edge_last n i b e = let t = eq-eqb i n e in rw t refl

-- an edge is below the next one
pub edge_step : (b : List ℕ) (n k : ℕ) → IsLaid b → n ≡ count_of b → k < n → edge_at n b k < edge_at n b (k + 1)
edge_step b n k laid is lt =
    let here = edge_next n k b lt in
    elim (cases_eq (k + 1) n) [
      | inl last ↦ let next = edge_last n (k + 1) b last in let under = (laid.placed k (omega arith)).below in omega arith
      | inr more ↦
          let next = edge_next n (k + 1) b (omega arith) in
          let same : offset_at b (k + 1 - 1) ≡ offset_at b k = ap (offset_at b) (omega arith) in
          let up = (laid.placed (k + 1) (omega arith)).later (omega arith) in
          omega arith
    ]

pub edges_rise : (b : List ℕ) (n k m : ℕ) → IsLaid b → n ≡ count_of b → k < m → m ≤ n → edge_at n b k < edge_at n b m
edges_rise b n k zero laid is lt le = absurd (omega arith)
edges_rise b n k (suc m) laid is lt le =
    let same : edge_at n b (m + 1) ≡ edge_at n b (suc m) = ap (edge_at n b) (omega arith) in
    let step = edge_step b n m laid is (omega arith) in
    elim (cases_eq k m) [
      | inl at ↦ let e : edge_at n b k ≡ edge_at n b m = ap (edge_at n b) at in omega arith
      | inr other ↦ let ih = edges_rise b n k m laid is (omega arith) (omega arith) in omega arith
    ]

-- an edge is not above a later one
pub edges_apart : (b : List ℕ) (n k m : ℕ) → IsLaid b → n ≡ count_of b → k ≤ m → m ≤ n → edge_at n b k ≤ edge_at n b m
edges_apart b n k m laid is le le' = elim (cases_eq k m) [
  | inl at ↦ let e : edge_at n b k ≡ edge_at n b m = ap (edge_at n b) at in omega arith
  | inr other ↦ let r = edges_rise b n k m laid is (omega arith) le' in omega arith
]

-- the first body begins at 28
pub edge_first : (b : List ℕ) (n : ℕ) → IsLaid b → n ≡ count_of b → 0 < n → edge_at n b 0 ≡ 28
edge_first b n laid is pos = edge_next n 0 b pos ∙ (laid.placed 0 (omega arith)).first refl

-- where an edge stands
pub record EdgeStands (b : List ℕ) (n i : ℕ) : Type 0 where
  pub room : 38 * n ≤ 4068
  pub low : 28 ≤ edge_at n b i
  pub high : edge_at n b i ≤ start_of b
  pub start : start_of b + 38 * n ≤ 4096

pub edge_stands : (b : List ℕ) (n i : ℕ) → IsLaid b → n ≡ count_of b → i ≤ n → EdgeStands b n i
edge_stands b n i laid is le =
    let sum = laid.sum in
    let start_low = laid.low in
    let last = edge_last n n b refl in
    let under = edges_apart b n i n laid is le (omega arith) in
    let low : 28 ≤ edge_at n b i = elim (cases_eq n 0) [
      | inl none ↦ let here = edge_last n i b (omega arith) in omega arith
      | inr some ↦ let first = edge_first b n laid is (omega arith) in let up = edges_apart b n 0 i laid is (omega arith) le in omega arith
    ] in
    record { room = omega arith; low = low; high = omega arith; start = omega arith }

-- a block whose edges rise is laid
pub laid_by_edges : (b : List ℕ) (n : ℕ) → n ≡ count_of b → length b ≡ 4096 → 28 ≤ start_of b → start_of b + free_of b + 38 * n ≡ 4096 → (0 < n → edge_at n b 0 ≡ 28) → ((k : ℕ) → k < n → edge_at n b k < edge_at n b (k + 1)) → IsLaid b
laid_by_edges b n is whole low sum first steps =
    let up : (k j : ℕ) → j + k ≡ n → edge_at n b k ≤ start_of b = climb b n steps in
    record {
      whole = whole;
      low = low;
      sum = omega arith;
      placed = λ k lt.
          let here = edge_next n k b (omega arith) in
          let step = steps k (omega arith) in
          let top = up (k + 1) (n - (k + 1)) (omega arith) in
          record {
            first = λ z.
                let zeroth = first (omega arith) in
                let same : edge_at n b 0 ≡ edge_at n b k = ap (edge_at n b) (sym z) in
                omega arith;
            later = λ pos.
                let before = edge_next n (k - 1) b (omega arith) in
                let near = steps (k - 1) (omega arith) in
                let same : edge_at n b (k - 1 + 1) ≡ edge_at n b k = ap (edge_at n b) (omega arith) in
                omega arith;
            below = omega arith;
          };
    }
  where
    climb : (b : List ℕ) (n : ℕ) → ((k : ℕ) → k < n → edge_at n b k < edge_at n b (k + 1)) → (k j : ℕ) → j + k ≡ n → edge_at n b k ≤ start_of b
    climb b n steps k zero e = let last = edge_last n k b (omega arith) in omega arith
    climb b n steps k (suc j) e =
        let step = steps k (omega arith) in
        let ih = climb b n steps (k + 1) j (omega arith) in
        omega arith

-- ---- the list of items

pub length-items_from : (n k i : ℕ) (b : List ℕ) → length (items_from n k i b) ≡ k
unfolding items_from
length-items_from n zero i b = refl
length-items_from n (suc k) i b = let ih = length-items_from n k (i + 1) b in omega arith

pub length-items_of : (b : List ℕ) → length (items_of b) ≡ count_of b
unfolding items_of
length-items_of b = length-items_from (count_of b) (count_of b) 0 b

pub get-items_from : (n k i j : ℕ) (b : List ℕ) → j < k → slice_get (items_from n k i b) j ≡ Some (item_at n b (i + j))
unfolding items_from
get-items_from n zero i j b lt = absurd (omega arith)
get-items_from n (suc k) i zero b lt = let e : i ≡ i + 0 = omega arith in ap (λ (m : ℕ). Some (item_at n b m)) e
get-items_from n (suc k) i (suc j) b lt = let e : i + 1 + j ≡ i + suc j = omega arith in get-items_from n k (i + 1) j b (omega arith) ∙ ap (λ (m : ℕ). Some (item_at n b m)) e

pub get-items_of : (b : List ℕ) (n j : ℕ) → n ≡ count_of b → j < n → slice_get (items_of b) j ≡ Some (item_at n b j)
unfolding items_of
get-items_of b n j is lt = let e : 0 + j ≡ j = omega arith in get-items_from (count_of b) (count_of b) 0 j b (omega arith) ∙ rw (e, is) refl

pub shown_is : (b : List ℕ) (n i plugin from to : ℕ) (key : Key) → n ≡ count_of b → i < n → key ≡ key_at b i → plugin ≡ plugin_at b i → from ≡ offset_at b i → to ≡ end_at n b i
    → slice_get (items_of b) i ≡ Some (record { key = key; plugin = plugin; body = slice_range b from to })
unfolding item_at
shown_is b n i plugin from to key is lt k p f t = get-items_of b n i is lt ∙ rw (k, p, f, t) refl

pub get_or-items_from : (n k i j : ℕ) (d : Item) (b : List ℕ) → j < k → get_or (items_from n k i b) j d ≡ item_at n b (i + j)
unfolding items_from
get_or-items_from n zero i j d b lt = absurd (omega arith)
get_or-items_from n (suc k) i zero d b lt = let e : i ≡ i + 0 = omega arith in ap (item_at n b) e
get_or-items_from n (suc k) i (suc j) d b lt = let e : i + 1 + j ≡ i + suc j = omega arith in get_or-items_from n k (i + 1) j d b (omega arith) ∙ ap (item_at n b) e

pub get_or-items_of : (b : List ℕ) (n j : ℕ) (d : Item) → count_of b ≡ n → j < n → get_or (items_of b) j d ≡ item_at n b j
unfolding items_of
get_or-items_of b n j d is lt = let e : 0 + j ≡ j = omega arith in get_or-items_from (count_of b) (count_of b) 0 j d b (omega arith) ∙ rw (e, is) refl

-- the numbers of a key in a block are numbers of 64 bits
pub key_fits : (b : List ℕ) (i : ℕ) → IsKey (key_at b i)
unfolding key_at
key_fits b i =
    let small = λ (at : ℕ). number_at-lt 8 at b in
    is_key (key_at b i) refl (omega (arith, small (header i))) (omega (arith, small (header i + 8))) (omega (arith, small (header i + 16))) (omega (arith, small (header i + 24)))
