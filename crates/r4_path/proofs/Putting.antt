-- One more item of a row is put into a node.
use Rattle.std.proofs.Common.{◌≡◌, ℕ, zero, suc, ◌+◌, ◌-◌, ◌<◌, ◌≤◌, true, List, [], ◌∷◌, ◌++◌, length, take, drop, refl, sym}
use Rattle.std.proofs.Common.{ap, subst, ◌∙◌, arith}
use Rattle.std.specs.Prelude.{slice_get, Some}
use Rattle.std.proofs.lemmas.List.Sums.{sum_by-append}
use Rattle.r4_base.specs.Node.{Item, KeysRise, PluginsFit, count_of, fits_level, items_of, level_of}
use Rattle.r4_leaf.specs.r4_node40.Edits.{GoesBetween}
use Rattle.r4_leaf.specs.r4_node40.Laid.{room_of}
use Rattle.r4_path.specs.Nodes.{IsAppended, IsNodeOf, weight, weight_of}
use Rattle.r4_path.proofs.Filling.{above, counted, next, plugin, room, take_more, weight_one}
use Rattle.r4_path.proofs.RowPlaces.{fit_drop, get_drop, rise_drop}

module _ (items : List Item) (from i : ℕ) (it : Item) (order : from ≤ i) (at : slice_get items i ≡ Some it) where
  there : slice_get (drop from items) (i - from) ≡ Some it
  there = get_drop from items (i - from)
      ∙ (ap (slice_get items) (let step : from + (i - from) ≡ i = omega (arith, order) in step) ∙ at)

  one_more : i + 1 - from ≡ i - from + 1
  one_more = omega (arith, order)

  pub part_more : take (i + 1 - from) (drop from items) ≡ take (i - from) (drop from items) ++ it ∷ []
  part_more = ap (λ k. take k (drop from items)) one_more ∙ take_more (i - from) (drop from items) it there

  pub weight_more : weight (take (i + 1 - from) (drop from items)) ≡ weight (take (i - from) (drop from items)) + weight_of it
  weight_more = let sum = ap weight part_more ∙ sum_by-append weight_of (take (i - from) (drop from items)) (it ∷ []) in
      let one = weight_one it in omega (arith, sum, one)

  module _ (level : ℕ) (b : List ℕ) (rise : KeysRise items) (fit : PluginsFit level items)
      (node : IsNodeOf level (take (i - from) (drop from items)) b) where
    pub put_counted : i - from ≡ count_of b
    put_counted = counted (drop from items) level (i - from) b it (rise_drop from items rise)
        (fit_drop level from items fit) there node

    pub put_plugin : fits_level (level_of b) it.plugin ≡ true
    put_plugin = plugin (drop from items) level (i - from) b it (rise_drop from items rise)
        (fit_drop level from items fit) there node

    pub put_above : GoesBetween (items_of b) (i - from) it.key
    put_above = above (drop from items) level (i - from) b it (rise_drop from items rise)
        (fit_drop level from items fit) there node

    pub put_room : weight (take (i + 1 - from) (drop from items)) ≤ 4068 → length it.body + 38 ≤ room_of b
    put_room few = room (drop from items) level (i - from) b it (rise_drop from items rise)
        (fit_drop level from items fit) there node (subst (λ k. weight (take k (drop from items)) ≤ 4068) one_more few)

    pub put_next : (c : List ℕ) → IsAppended b it c → IsNodeOf level (take (i + 1 - from) (drop from items)) c
    put_next c appended = subst (λ k. IsNodeOf level (take k (drop from items)) c) (sym one_more)
        (next (drop from items) level (i - from) b it (rise_drop from items rise)
        (fit_drop level from items fit) there node c appended)

-- a part of a part weighs no more
pub part_less : (n m : ℕ) (items : List Item) → n ≤ m → weight (take n items) ≤ weight (take m items)
part_less zero m items le = omega arith
part_less (suc n) zero items le = absurd (omega (arith, le))
part_less (suc n) (suc m) [] le = omega arith
part_less (suc n) (suc m) (x ∷ xs) le = let h = part_less n m xs (omega (arith, le)) in let a = cons_weight x (take n xs) in
    let b = cons_weight x (take m xs) in omega (arith, h, a, b)
  where
    cons_weight : (y : Item) (ys : List Item) → weight (y ∷ ys) ≡ weight_of y + weight ys
    cons_weight y ys = let h = sum_by-append weight_of (y ∷ []) ys in let one = weight_one y in omega (arith, h, one)

pub item_there : (items : List Item) (i : ℕ) → i < length items → (x : Item) × (slice_get items i ≡ Some x)
item_there [] i lt = absurd (omega (arith, lt))
item_there (x ∷ xs) zero lt = (x, refl)
item_there (x ∷ xs) (suc i) lt = item_there xs i (omega (arith, lt))
