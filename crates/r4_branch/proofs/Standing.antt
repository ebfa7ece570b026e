-- A block that may stand as a twig, and its items.
use Rattle.std.proofs.Common.{◌≡◌, ◌⊎◌, ℕ, zero, suc, ◌+◌, ◌^◌, ◌≤◌, Bool, true, false, ◌||◌, List, [], ◌∷◌, length, inl, inr, refl, sym, ap, subst, ◌∙◌, arith}
use Rattle.std.specs.Prelude.{slice_get, Option, Some, None, ◌==◌, ◌&&◌, nat_le, nat_lt, if◌then◌else◌}
use Rattle.std.specs.List.{sum_by}
use Rattle.std.specs.Option.{option_map, option_or}
use Rattle.std.proofs.lemmas.Bool.{and_parts, eqb-false, eqb-true, leb-true}
use Rattle.std.proofs.lemmas.List.Sums.{sum_by-cons}
use Rattle.std.proofs.lemmas.Option.{same_Some, slice_get_within}
use Rattle.r4_base.specs.Cell.{cell_fault, item_body_fault, item_end, items_in_fault, next_key, offsets_fit, range_is_good}
use Rattle.r4_base.specs.Key.{IsKey, rank}
use Rattle.r4_base.specs.Node.{Item, count_of, fits_level, item_at, items_of, level_of, node_fault}
use Rattle.r4_base.specs.declared.items.CellFault.{CellFault}
use Rattle.r4_base.specs.declared.items.CellFault.TheVariants.{Node, Level, Range}
use Rattle.r4_base.specs.declared.node.NodeFault.{NodeFault}
use Rattle.r4_base.proofs.Choices.{chosen, none_of_node, or_none}
use Rattle.r4_node40.specs.Laid.{IsNode}
use Rattle.r4_node40.proofs.Accepted.{good, space, takes}
use Rattle.r4_node40.proofs.Laid.{get-items_of, key_fits, length-items_of}
use Rattle.r4_branch.specs.Items.{Lie}
use Rattle.r4_branch.specs.Pieces.{MayStand}

plugin_of : (p : ℕ) → (p == 3 || p == 5) ≡ true → (p ≡ 3) ⊎ (p ≡ 5)
plugin_of p h = by_test (p == 3) refl h
  where
    by_test : (a : Bool) → a ≡ (p == 3) → (a || p == 5) ≡ true → (p ≡ 3) ⊎ (p ≡ 5)
    by_test true ea e = inl (eqb-true p 3 (sym ea))
    by_test false ea e = inr (eqb-true p 5 e)

-- what is known of an item by its place
pub record IsOfTwig (x : Item) : Type 0 where
  pub plugin : (x.plugin ≡ 3) ⊎ (x.plugin ≡ 5)
  pub key : IsKey x.key
  pub short : length x.body ≤ 4096

pub good_lie : (lo bound hi i : ℕ) (xs : List Item) → ((k : ℕ) (x : Item) → slice_get xs k ≡ Some x → IsOfTwig x) → bound ≤ next_key hi xs → items_in_fault true (2 ^ 64) 2 lo hi i xs ≡ None → Lie bound hi xs
unfolding items_in_fault
good_lie lo bound hi i [] twig le h = le
good_lie lo bound hi i (x ∷ xs) twig le h =
    let outer = or_none (item_body_fault true (2 ^ 64) x) _ h in
    let rest = or_none (if range_is_good 2 lo hi (next_key hi xs) i x then None else Some (Range i)) _ outer.1 in
    let range : range_is_good 2 lo hi (next_key hi xs) i x ≡ true = chosen _ (Range i) rest.0 in
    let a = and_parts _ _ range in
    let b = and_parts _ (nat_le (item_end x) (next_key hi xs)) a.0 in
    let c = and_parts _ (nat_le (item_end x) hi) b.0 in
    let d = and_parts _ (offsets_fit x) c.0 in
    let own = twig 0 x refl in
    (le, record { plugin = own.plugin; body = outer.0; fits = d.1; key = own.key; short = own.short }, good_lie lo (item_end x) hi (i + 1) xs (λ k. twig (suc k)) (leb-true _ _ b.1) rest.1)

pub first_is : (lo hi : ℕ) (xs : List Item) → 1 ≤ length xs → items_in_fault true (2 ^ 64) 2 lo hi 0 xs ≡ None → next_key hi xs ≡ lo
unfolding items_in_fault
first_is lo hi [] some h = absurd (omega (arith, some))
first_is lo hi (x ∷ xs) some h =
    let outer = or_none (item_body_fault true (2 ^ 64) x) _ h in
    let rest = or_none (if range_is_good 2 lo hi (next_key hi xs) 0 x then None else Some (Range 0)) _ outer.1 in
    let range : range_is_good 2 lo hi (next_key hi xs) 0 x ≡ true = chosen _ (Range 0) rest.0 in
    let a = and_parts _ _ range in
    eqb-true (rank x.key) lo a.1

part_of : (xs : List Item) (k : ℕ) (x : Item) → slice_get xs k ≡ Some x → takes x ≤ sum_by takes xs
part_of [] zero x e = absurd cc
part_of [] (suc k) x e = absurd cc
part_of (y ∷ ys) zero x e = let same = ap takes (same_Some y x e) in let cons = sum_by-cons takes y ys in omega (arith, same, cons)
part_of (y ∷ ys) (suc k) x e = let h = part_of ys k x e in let cons = sum_by-cons takes y ys in omega (arith, h, cons)

module _ (lo hi : ℕ) (b : List ℕ) (stand : MayStand lo hi b) where
  parts : (node_fault b ≡ None) × (level_of b ≡ 2) × (items_in_fault true (2 ^ 64) 2 lo hi 0 (items_of b) ≡ None)
  unfolding cell_fault
  parts =
      let node = or_none (option_map Node (node_fault b)) _ stand.1 in
      let level = or_none (if level_of b == 2 then None else Some Level) _ node.1 in
      (none_of_node (node_fault b) node.0, eqb-true _ _ (chosen _ Level level.0), level.1)

  pub is_node : IsNode b
  is_node = (good b stand.0 parts.0).0

  pub weight : sum_by takes (items_of b) ≤ 4068
  weight = let s = space b is_node.laid in omega (arith, s)

  of_twig : (k : ℕ) (x : Item) → slice_get (items_of b) k ≡ Some x → IsOfTwig x
  unfolding item_at
  of_twig k x at =
      let fit : fits_level 2 x.plugin ≡ true = ap (λ l. fits_level l x.plugin) (sym parts.1) ∙ is_node.plugins k x at in
      let within = slice_get_within (items_of b) k x at in
      let n = length-items_of b in
      let is = same_Some _ x (sym (get-items_of b (count_of b) k refl (omega (arith, within, n))) ∙ at) in
      let part = part_of (items_of b) k x at in
      let all = weight in
      record { plugin = plugin_of x.plugin fit; key = subst IsKey (ap (λ (y : Item). y.key) is) (key_fits b k); short = omega (arith, part, all) }

  pub some_items : 1 ≤ length (items_of b)
  some_items =
      let full = (good b stand.0 parts.0).1 in
      let level = parts.1 in
      let n = length-items_of b in
      let test : (nat_lt 1 2 && count_of b == 0) ≡ false = ap (λ (l : ℕ). nat_lt 1 l && count_of b == 0) (sym level) ∙ full in
      let ne = eqb-false (count_of b) 0 test in
      by_count (count_of b) n ne
    where
      by_count : (m : ℕ) → length (items_of b) ≡ m → (m ≡ 0 → ⊥) → 1 ≤ length (items_of b)
      by_count zero e ne = absurd (ne refl)
      by_count (suc m) e ne = omega (arith, e)

  pub stand_first : next_key hi (items_of b) ≡ lo
  stand_first = first_is lo hi (items_of b) some_items parts.2

  pub stand_lie : Lie lo hi (items_of b)
  stand_lie = let first = stand_first in good_lie lo lo hi 0 (items_of b) of_twig (omega (arith, first)) parts.2
