-- Which item stands at a place of a row.
use Rattle.std.proofs.Common.{◌≡◌, ℕ, zero, suc, ◌+◌, ◌-◌, ◌<◌, ◌≤◌, List, [], ◌∷◌, ◌++◌, length, map, take, drop, refl, sym}
use Rattle.std.proofs.Common.{ap, ◌∙◌, arith}
use Rattle.std.specs.Prelude.{slice_get, option_map}
use Rattle.std.proofs.lemmas.List.{length-append, length-drop}
use Rattle.std.proofs.lemmas.Option.{slice_get-map}
use Rattle.r4_base.specs.Node.{Item, KeysRise, PluginsFit}
use Rattle.r4_patch.specs.r4_cell.Seen.{CellSeen}
use Rattle.r4_path.specs.Nodes.{pointer_item}
use Rattle.r4_path.specs.Rows.{with_pointers}
use Rattle.r4_path.proofs.CellNodes.{long_pointers}
use Rattle.r4_path.proofs.Filling.{long_take}

module _ {A : Type 0} where
  get_left : (xs ys : List A) (i : ℕ) → i < length xs → slice_get (xs ++ ys) i ≡ slice_get xs i
  get_left [] ys i lt = absurd (omega (arith, lt))
  get_left (x ∷ xs) ys zero lt = refl
  get_left (x ∷ xs) ys (suc i) lt = get_left xs ys i (omega (arith, lt))

  get_right : (xs ys : List A) (i : ℕ) → slice_get (xs ++ ys) (length xs + i) ≡ slice_get ys i
  get_right [] ys i = ap (slice_get ys) (omega arith)
  get_right (x ∷ xs) ys i = ap (slice_get (x ∷ (xs ++ ys)))
      (let step : length (x ∷ xs) + i ≡ suc (length xs + i) = omega arith in step) ∙ get_right xs ys i

  get_take : (n : ℕ) (xs : List A) (i : ℕ) → i < n → slice_get (take n xs) i ≡ slice_get xs i
  get_take zero xs i lt = absurd (omega (arith, lt))
  get_take (suc n) [] i lt = refl
  get_take (suc n) (x ∷ xs) zero lt = refl
  get_take (suc n) (x ∷ xs) (suc i) lt = get_take n xs i (omega (arith, lt))

  pub get_drop : (n : ℕ) (xs : List A) (i : ℕ) → slice_get (drop n xs) i ≡ slice_get xs (n + i)
  get_drop zero xs i = ap (slice_get xs) (omega arith)
  get_drop (suc n) [] i = refl
  get_drop (suc n) (x ∷ xs) i = get_drop n xs i
      ∙ ap (slice_get (x ∷ xs)) (let step : suc (n + i) ≡ suc n + i = omega arith in step)

module _ (items : List Item) (at : ℕ) (cells : List CellSeen) (within : at < length items) where
  front : length (take (at + 1) items) ≡ at + 1
  front = long_take (at + 1) items (omega (arith, within))

  pub row_length : length (with_pointers items at cells) ≡ length items + length cells
  row_length =
      let a = length-append (take (at + 1) items) (map pointer_item cells ++ drop (at + 1) items) in
      let b = length-append (map pointer_item cells) (drop (at + 1) items) in
      let d = length-drop (at + 1) items in
      let m = long_pointers cells in
      omega (arith, a, b, d, m, front)

  pub row_low : (i : ℕ) → i ≤ at → slice_get (with_pointers items at cells) i ≡ slice_get items i
  row_low i le = get_left (take (at + 1) items) (map pointer_item cells ++ drop (at + 1) items) i (omega (arith, le, front))
      ∙ get_take (at + 1) items i (omega (arith, le))

  behind : (k : ℕ) → slice_get (with_pointers items at cells) (at + 1 + k)
      ≡ slice_get (map pointer_item cells ++ drop (at + 1) items) k
  behind k = ap (slice_get (with_pointers items at cells))
      (let step : at + 1 + k ≡ length (take (at + 1) items) + k = omega (arith, front) in step)
      ∙ get_right (take (at + 1) items) (map pointer_item cells ++ drop (at + 1) items) k

  pub row_comes : (i : ℕ) → at < i → i - at - 1 < length cells → slice_get (with_pointers items at cells) i
      ≡ option_map pointer_item (slice_get cells (i - at - 1))
  row_comes i late lt =
      let k = i - at - 1 in
      let m = long_pointers cells in
      ap (slice_get (with_pointers items at cells)) (let step : i ≡ at + 1 + (i - at - 1) = omega (arith, late) in step)
      ∙ (behind k ∙ (get_left (map pointer_item cells) (drop (at + 1) items) k (omega (arith, lt, m))
      ∙ slice_get-map pointer_item cells k))

  pub row_high : (i : ℕ) → at + 1 + length cells ≤ i → slice_get (with_pointers items at cells) i
      ≡ slice_get items (i - length cells)
  row_high i late =
      let m = long_pointers cells in
      let k = i - (at + 1 + length cells) in
      ap (slice_get (with_pointers items at cells))
      (let step : i ≡ at + 1 + (length (map pointer_item cells) +
      (i - (at + 1 + length cells))) = omega (arith, late, m) in step)
      ∙ (behind (length (map pointer_item cells) + k)
      ∙ (get_right (map pointer_item cells) (drop (at + 1) items) k
      ∙ (get_drop (at + 1) items k ∙ ap (slice_get items)
      (let step : at + 1 + (i - (at + 1 + length cells)) ≡ i - length cells = omega (arith, late) in step))))

-- ---- what is known of a list is known of its end

pub rise_drop : (n : ℕ) (xs : List Item) → KeysRise xs → KeysRise (drop n xs)
rise_drop n xs rise k x y ex ey = rise (n + k) x y (sym (get_drop n xs k) ∙ ex)
    (ap (slice_get xs) (let step : n + k + 1 ≡ n + (k + 1) = omega arith in step) ∙ (sym (get_drop n xs (k + 1)) ∙ ey))

pub fit_drop : (level n : ℕ) (xs : List Item) → PluginsFit level xs → PluginsFit level (drop n xs)
fit_drop level n xs fit k x e = fit (n + k) x (sym (get_drop n xs k) ∙ e)
