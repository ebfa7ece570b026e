-- Nodes of pointers that come behind others.
use Rattle.std.proofs.Common.{◌≡◌, ℕ, ◌<◌, ◌≤◌, List, [], ◌∷◌, ◌++◌, drop, length, take, get_or}
use Rattle.std.proofs.Common.{refl, sym, ap, subst, ◌∙◌, arith}
use Rattle.std.proofs.Common.{Bool, false, ◌-◌}
use Rattle.std.specs.Prelude.{◌==◌}
use Rattle.std.proofs.lemmas.Bool.Decides.{nat_tests}
use Rattle.std.proofs.lemmas.List.{append_assoc, map-append, take-append-drop}
use Rattle.r4_base.specs.Cell.{next_key}
use Rattle.r4_base.specs.Node.{Item}
use Rattle.r4_squeeze.specs.Items.{item_meant, items_meant}
use Rattle.r4_squeeze.specs.Packing.{AddsNodes, ArePointers, IsFilledWith}
use Rattle.r4_squeeze.specs.declared.filled.Filled.{Filled}
use Rattle.r4_squeeze.specs.declared.items.NodeItem.{NodeItem}
use Rattle.r4_squeeze.proofs.Adding.{length_meant}
use Rattle.r4_squeeze.proofs.Standing.{pointers_left, pointers_right}

pub meant_parts : (n : ℕ) (items mine behind : List NodeItem) → mine ≡ take n items → behind ≡ drop n items
    → items_meant items ≡ items_meant mine ++ items_meant behind
meant_parts n items mine behind a b = ap items_meant (sym (take-append-drop n items))
    ∙ (map-append item_meant (take n items) (drop n items)
    ∙ (ap (λ xs. items_meant xs ++ items_meant (drop n items)) (sym a)
    ∙ ap (λ xs. items_meant mine ++ items_meant xs) (sym b)))

module _ (level hi n : ℕ) (items mine behind : List NodeItem) (a : mine ≡ take n items) (b : behind ≡ drop n items)
    (p : ArePointers level hi (items_meant items)) where
  pub mine_point : ArePointers level (next_key hi (items_meant behind)) (items_meant mine)
  mine_point = pointers_left level hi (items_meant mine) (items_meant behind)
      (subst (ArePointers level hi) (meant_parts n items mine behind a b) p)

  pub behind_point : ArePointers level hi (items_meant behind)
  behind_point = pointers_right level hi (items_meant mine) (items_meant behind)
      (subst (ArePointers level hi) (meant_parts n items mine behind a b) p)

pub first_meant : (xs : List NodeItem) (x : NodeItem) → 1 ≤ length xs → x ≡ get_or xs 0 x
    → items_meant xs ≡ item_meant x ∷ items_meant (drop 1 xs)
first_meant [] x some is = absurd (omega (arith, some))
first_meant (y ∷ ys) x some is = ap (λ z. item_meant z ∷ items_meant ys) (sym is)

pub none_meant : (xs : List NodeItem) → length xs ≡ 0 → items_meant xs ≡ []
none_meant [] e = refl
none_meant (x ∷ xs) e = absurd (omega (arith, e))

pub one_node : (level m : ℕ) (items mine : List Item) (first : Item) (x : Filled) (old new : List Filled)
    → items ≡ first ∷ mine → length mine < 88 → IsFilledWith level m first mine x → new ≡ old ++ x ∷ []
    → AddsNodes level m items old new
one_node level m items mine first x old new are few fills e = (x ∷ [], e, (first, mine, are, few, fills))

pub more_nodes : (level m : ℕ) (items mine rest : List Item) (first : Item) (x : Filled) (old mid new : List Filled)
    → items ≡ first ∷ (mine ++ rest) → length mine ≡ 87 → IsFilledWith level m first mine x → mid ≡ old ++ x ∷ []
    → AddsNodes level m rest mid new → AddsNodes level m items old new
more_nodes level m items mine rest first x old mid new are full fills e ([], is, packs) = absurd packs
more_nodes level m items mine rest first x old mid new are full fills e (y ∷ more, is, packs) = (
  x ∷ (y ∷ more),
  is ∙ (ap (λ xs. xs ++ y ∷ more) e ∙ append_assoc old (x ∷ []) (y ∷ more)),
  (first, mine, rest, are, full, fills, packs),
)

pub some_left : (n : ℕ) (b : Bool) → b ≡ (n == 0) → b ≡ false → 1 ≤ n
some_left n b is none = grind (arith, nat_tests, is, none)

pub long_rest : (xs : List NodeItem) → length (items_meant (drop 1 xs)) ≡ length xs - 1
long_rest [] = refl
long_rest (x ∷ xs) = let h = length_meant xs in omega (arith, h)
