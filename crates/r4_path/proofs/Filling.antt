-- A node that is filled with the items of a list, one after the other.
use Rattle.std.proofs.Common.{◌≡◌, ℕ, zero, suc, ◌+◌, ◌<◌, ◌≤◌, true, List, [], ◌∷◌, ◌++◌, length, take, refl, sym, ap, subst}
use Rattle.std.proofs.Common.{◌∙◌, arith}
use Rattle.std.specs.Prelude.{slice_get, Some}
use Rattle.std.proofs.lemmas.List.Sums.{sum_by-append}
use Rattle.std.proofs.lemmas.Option.{slice_get_within, same_Some}
use Rattle.r4_base.specs.Key.{IsBelow}
use Rattle.r4_base.specs.Node.{Item, KeysRise, PluginsFit, count_of, fits_level, items_of, level_of}
use Rattle.r4_base.proofs.Choices.{none_at}
use Rattle.r4_leaf.specs.r4_node40.Edits.{GoesBetween}
use Rattle.r4_leaf.specs.r4_node40.Laid.{IsFresh, room_of}
use Rattle.r4_leaf.proofs.r4_node40.Accepted.{space}
use Rattle.r4_leaf.proofs.r4_node40.Laid.{length-items_of}
use Rattle.r4_path.specs.Nodes.{IsAppended, IsNodeOf, weight, weight_of}

module _ {A : Type 0} where
  pub take_more : (n : ℕ) (xs : List A) (x : A) → slice_get xs n ≡ Some x → take (n + 1) xs ≡ take n xs ++ x ∷ []
  take_more zero [] x e = absurd cc
  take_more (suc n) [] x e = absurd cc
  take_more zero (y ∷ ys) x e = ap (λ z. z ∷ []) (same_Some y x e)
  take_more (suc n) (y ∷ ys) x e = let step : suc n + 1 ≡ suc (n + 1) = omega arith in
      ap (λ k. take k (y ∷ ys)) step ∙ ap (λ zs. y ∷ zs) (take_more n ys x e)

  pub in_take : (n : ℕ) (xs : List A) (k : ℕ) (x : A) → slice_get (take n xs) k ≡ Some x → slice_get xs k ≡ Some x
  in_take zero xs k x e = absurd cc
  in_take (suc n) [] k x e = absurd cc
  in_take (suc n) (y ∷ ys) zero x e = e
  in_take (suc n) (y ∷ ys) (suc k) x e = in_take n ys k x e

  pub long_take : (n : ℕ) (xs : List A) → n ≤ length xs → length (take n xs) ≡ n
  long_take zero xs le = refl
  long_take (suc n) [] le = absurd (omega (arith, le))
  long_take (suc n) (y ∷ ys) le = let h = long_take n ys (omega (arith, le)) in omega (arith, h)

-- ---- what items weigh

pub weight_one : (x : Item) → weight (x ∷ []) ≡ weight_of x
weight_one x = omega arith

pub weight_cons : (x : Item) (xs : List Item) → weight (x ∷ xs) ≡ weight_of x + weight xs
weight_cons x xs = let h = sum_by-append weight_of (x ∷ []) xs in let one = weight_one x in omega (arith, h, one)

pub weight_take : (n : ℕ) (items : List Item) → weight (take n items) ≤ weight items
weight_take zero items = omega arith
weight_take (suc n) [] = omega arith
weight_take (suc n) (x ∷ xs) = let h = weight_take n xs in let a = weight_cons x (take n xs) in let b = weight_cons x xs in
    omega (arith, h, a, b)

-- ---- filling

-- a node without items
pub begun : (level mkfs_id : ℕ) (b : List ℕ) → IsFresh b level mkfs_id → IsNodeOf level [] b
begun level mkfs_id b fresh = record {
  node = record {
    laid = fresh.laid;
    head = fresh.head;
    plugins = subst (PluginsFit (level_of b)) (sym fresh.items) (λ k x e. absurd (none_at k x e));
    keys = subst KeysRise (sym fresh.items) (λ k x y e g. absurd (none_at k x e));
  };
  level_is = fresh.level_is;
  items_are = fresh.items;
}

module _ (part : List Item) (level n : ℕ) (b : List ℕ) (it : Item) (rise : KeysRise part) (fit : PluginsFit level part)
    (at : slice_get part n ≡ Some it) (filled : IsNodeOf level (take n part) b) where
  pub within : n < length part
  within = slice_get_within part n it at

  pub counted : n ≡ count_of b
  counted = let w = within in sym (long_take n part (omega (arith, w))) ∙ (ap length (sym filled.items_are) ∙ length-items_of b)

  pub plugin : fits_level (level_of b) it.plugin ≡ true
  plugin = ap (λ l. fits_level l it.plugin) filled.level_is ∙ fit n it at

  last_below : (k : ℕ) (x : Item) → k + 1 ≡ n → slice_get part k ≡ Some x → IsBelow x.key it.key
  last_below k x next is = rise k x it is (subst (λ m. slice_get part m ≡ Some it) (sym next) at)

  pub above : GoesBetween (items_of b) n it.key
  above = record {
    above = λ k x next is. last_below k x next (in_take n part k x (subst (λ xs. slice_get xs k ≡ Some x) filled.items_are is));
    below = λ y is. let past = slice_get_within (items_of b) n y is in let c = counted in let long = length-items_of b in
        absurd (omega (arith, past, c, long));
  }

  pub room : weight (take (n + 1) part) ≤ 4068 → length it.body + 38 ≤ room_of b
  room few =
      let sum : room_of b + weight (items_of b) ≡ 4068 = space b filled.node.laid in
      let same : weight (items_of b) ≡ weight (take n part) = ap weight filled.items_are in
      let more : weight (take (n + 1) part) ≡ weight (take n part) + weight (it ∷ []) = ap weight (take_more n part it at)
      ∙ sum_by-append weight_of (take n part) (it ∷ []) in
      let one = weight_one it in
      omega (arith, sum, same, more, one, few)

  pub next : (c : List ℕ) → IsAppended b it c → IsNodeOf level (take (n + 1) part) c
  next c appended = record {
    node = appended.node;
    level_is = appended.level ∙ filled.level_is;
    items_are = appended.items ∙ (ap (λ xs. xs ++ it ∷ []) filled.items_are ∙ sym (take_more n part it at));
  }
