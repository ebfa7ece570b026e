-- A list of items cut in two.
use Rattle.std.proofs.Common.{◌≡◌, ℕ, zero, suc, ◌+◌, ◌-◌, ◌*◌, ◌<◌, ◌≤◌, List, [], ◌∷◌, ◌++◌, length, map, take, drop, refl}
use Rattle.std.proofs.Common.{sym, ap, ◌∙◌, arith}
use Rattle.std.specs.Prelude.{All}
use Rattle.std.proofs.lemmas.List.{append_assoc, length-append, length-drop}
use Rattle.std.proofs.lemmas.List.Elements.{All-head, All-tail, All-take, All-drop}
use Rattle.std.proofs.lemmas.List.Sums.{sum_by-append, sum_by-take-drop}
use Rattle.r4_base.specs.Node.{Item}
use Rattle.r4_patch.specs.r4_cell.Seen.{CellSeen}
use Rattle.r4_path.specs.Nodes.{pointer_item, weight, weight_of}
use Rattle.r4_path.specs.Rows.{with_pointers}
use Rattle.r4_path.proofs.CellNodes.{long_pointers}
use Rattle.r4_path.proofs.Filling.{long_take, weight_cons, weight_take}
use Rattle.r4_path.proofs.Pointers.{pointers_weigh}

module _ {A : Type 0} where
  take_front : (xs ys : List A) (n : ℕ) → n ≡ length xs → take n (xs ++ ys) ≡ xs
  take_front [] ys zero e = refl
  take_front [] ys (suc n) e = absurd (omega (arith, e))
  take_front (x ∷ xs) ys zero e = absurd (omega (arith, e))
  take_front (x ∷ xs) ys (suc n) e = ap (λ zs. x ∷ zs) (take_front xs ys n (omega (arith, e)))

  drop_front : (xs ys : List A) (n : ℕ) → n ≡ length xs → drop n (xs ++ ys) ≡ ys
  drop_front [] ys zero e = refl
  drop_front [] ys (suc n) e = absurd (omega (arith, e))
  drop_front (x ∷ xs) ys zero e = absurd (omega (arith, e))
  drop_front (x ∷ xs) ys (suc n) e = drop_front xs ys n (omega (arith, e))

  pub take_whole : (xs : List A) (n : ℕ) → length xs ≤ n → take n xs ≡ xs
  take_whole [] zero le = refl
  take_whole [] (suc n) le = refl
  take_whole (x ∷ xs) zero le = absurd (omega (arith, le))
  take_whole (x ∷ xs) (suc n) le = ap (λ zs. x ∷ zs) (take_whole xs n (omega (arith, le)))

  pub both_parts : (n : ℕ) (xs : List A) → xs ≡ take n xs ++ drop n xs
  both_parts zero xs = refl
  both_parts (suc n) [] = refl
  both_parts (suc n) (x ∷ xs) = ap (λ zs. x ∷ zs) (both_parts n xs)

-- the items between two places
abbrev pub part : List Item → (from to : ℕ) → List Item
part list from to = take (to - from) (drop from list)

module _ (list xs ys : List Item) (cut : ℕ) (is : list ≡ xs ++ ys) (at : cut ≡ length xs) where
  pub left_part : part list 0 cut ≡ xs
  left_part = ap (λ r. take (cut - 0) r) is ∙ take_front xs ys (cut - 0) (omega (arith, at))

  long : length list ≡ length xs + length ys
  long = ap length is ∙ length-append xs ys

  pub right_part : part list cut (length list) ≡ ys
  right_part = ap (λ r. take (length list - cut) (drop cut r)) is
      ∙ (ap (take (length list - cut)) (drop_front xs ys cut at) ∙ take_whole ys (length list - cut) (omega (arith, long, at)))

  pub parts_weigh : weight list ≡ weight xs + weight ys
  parts_weigh = ap weight is ∙ sum_by-append weight_of xs ys

pub alike_weigh : (xs : List Item) → All (λ x. weight_of x ≡ 46) xs → weight xs ≡ 46 * length xs
alike_weigh [] all = refl
alike_weigh (x ∷ xs) all =
    let one = All-head (λ (y : Item). weight_of y ≡ 46) x xs all in
    let rest = alike_weigh xs (All-tail (λ (y : Item). weight_of y ≡ 46) x xs all) in
    let sum = weight_cons x xs in
    omega (arith, one, rest, sum)

pub cut_parts : (list : List Item) (cut : ℕ) → cut ≤ length list → (part list 0 cut ≡ take cut list)
    × (part list cut (length list) ≡ drop cut list)
cut_parts list cut le =
    let long : length (take cut list) ≡ cut = long_take cut list le in (
      left_part list (take cut list) (drop cut list) cut (both_parts cut list) (sym long),
      right_part list (take cut list)
          (drop cut list) cut (both_parts cut list) (sym long),
    )

-- half of pointers alike
pub record IsHalved (list : List Item) (cut : ℕ) : Type 0 where
  pub left : weight (part list 0 cut) ≡ 46 * cut
  pub right : weight (part list cut (length list)) + 46 * cut ≡ 46 * length list
  pub whole : weight list ≡ 46 * length list

pub halved : (list : List Item) (cut : ℕ) → cut ≤ length list → All (λ x. weight_of x ≡ 46) list → IsHalved list cut
halved list cut le all =
    let (l, r) = cut_parts list cut le in
    let long = long_take cut list le in
    let rest = length-drop cut list in
    let a = alike_weigh (take cut list) (All-take (λ (y : Item). weight_of y ≡ 46) cut list all) in
    let b = alike_weigh (drop cut list) (All-drop (λ (y : Item). weight_of y ≡ 46) cut list all) in
    let lw = ap weight l in
    let rw' = ap weight r in
    record { left = omega (arith, lw, a, long); right = omega (arith, rw', b, rest, le); whole = alike_weigh list all }

-- beside the pointers that come
module _ (items : List Item) (at : ℕ) (cells : List CellSeen) (within : at < length items) where
  front : length (take (at + 1) items) ≡ at + 1
  front = long_take (at + 1) items (omega (arith, within))

  come : weight (map pointer_item cells) ≡ 46 * length cells
  come = pointers_weigh (λ c. c) cells

  pub record Beside : Type 0 where
    pub before : weight (part (with_pointers items at cells) 0 (at + 1)) ≡ weight (take (at + 1) items)
    pub after : weight (part (with_pointers items at cells) (at + 1) (length (with_pointers items at cells)))
        ≡ 46 * length cells + weight (drop (at + 1) items)
    pub before_behind : weight (part (with_pointers items at cells) 0 (at + 1 + length cells))
        ≡ weight (take (at + 1) items) + 46 * length cells
    pub after_behind : weight (part (with_pointers items at cells) (at + 1 + length cells)
        (length (with_pointers items at cells))) ≡ weight (drop (at + 1) items)
    pub items_weigh : weight items ≡ weight (take (at + 1) items) + weight (drop (at + 1) items)
    pub whole : weight (with_pointers items at cells)
        ≡ weight (take (at + 1) items) + (46 * length cells + weight (drop (at + 1) items))

  pub beside : Beside
  beside =
      let list = with_pointers items at cells in
      let xs = take (at + 1) items in
      let ys = drop (at + 1) items in
      let ps = map pointer_item cells in
      let ends : at + 1 + length cells ≡ length (xs ++ ps) = let a = length-append xs ps in let m = long_pointers cells in
      omega (arith, a, m, front) in
      let behind : list ≡ (xs ++ ps) ++ ys = sym (append_assoc xs ps ys) in
      let sum = sum_by-append weight_of xs ps in
      let rest = sum_by-append weight_of ps ys in
      record {
        before = ap weight (left_part list xs (ps ++ ys) (at + 1) refl (sym front));
        after = ap weight (right_part list xs (ps ++ ys) (at + 1) refl (sym front)) ∙ (rest ∙ ap (λ k. k + weight ys) come);
        before_behind = ap weight (left_part list (xs ++ ps) ys (at + 1 + length cells) behind ends)
            ∙ (sum ∙ ap (λ k. weight xs + k) come);
        after_behind = ap weight (right_part list (xs ++ ps) ys (at + 1 + length cells) behind ends);
        items_weigh = ap weight (both_parts (at + 1) items) ∙ sum_by-append weight_of xs ys;
        whole = sum_by-append weight_of xs (ps ++ ys) ∙ ap (λ k. weight xs + k) (rest ∙ ap (λ k. k + weight ys) come);
      }

pub part_lighter : (list : List Item) (from to : ℕ) → weight (part list from to) ≤ weight list
part_lighter list from to =
    let a = weight_take (to - from) (drop from list) in
    let b = sum_by-take-drop weight_of list from in
    omega (arith, a, b)
