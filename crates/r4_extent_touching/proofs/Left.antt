-- The leaf of a twig that ends at a key.
use Rattle.std.proofs.Common.{◌≡◌, inl, inr, ℕ, zero, suc, ◌+◌, ◌-◌, ◌<◌, ◌≤◌, List, [], ◌∷◌, drop, length, refl, sym, ap, subst, ◌∙◌, arith}
use Rattle.std.specs.Prelude.{Contains, None, Option, Some, slice_get}
use Rattle.std.proofs.lemmas.List.Elements.{Contains-append_cases, Contains-append_left, Contains-append_right}
use Rattle.std.proofs.lemmas.Option.{same_Some}
use Rattle.r4_base.specs.Cell.{item_names, names_in, next_key}
use Rattle.r4_base.specs.Key.{rank}
use Rattle.r4_base.specs.Node.{Item, items_of}
use Rattle.r4_base.specs.Tree.{Name}
use Rattle.r4_touching.specs.r4_cell.Seen.{CellSeen, node_of}
use Rattle.r4_marking.specs.Marks.{IsChildAt, NoChildAt}
use Rattle.r4_marking.proofs.r4_path.CellNodes.{names_are}
use Rattle.r4_marking.proofs.r4_patch.Members.{here}
use Rattle.r4_marking.proofs.r4_search.Walks.{goes_both}
use Rattle.r4_marking.specs.r4_search.Place.{child_name}
use Rattle.r4_marking.specs.r4_search.Pool.{Goes, IsNamed, KnowsNames, PoolState}
use Rattle.r4_marking.specs.r4_search.declared.inside.Child.{Child}
use Rattle.r4_marking.specs.r4_search.declared.pool.FetchFault.{FetchFault}
use Rattle.r4_extent_touching.specs.Holding.{AreLeftMet, AreLeftMetAt, MeetsLeft, StopsLeft}

-- ---- names, item by item

named_in : (level hi : ℕ) (items : List Item) (n : Name) → Contains (names_in level hi items) n
    → (place : ℕ) × (item : Item) × (slice_get items place ≡ Some item)
    × Contains (item_names level (next_key hi (drop (suc place) items)) item) n
unfolding names_in
named_in level hi [] n at = absurd (let (i, less, is) = at in omega (arith, less))
named_in level hi (x ∷ xs) n at = elim (Contains-append_cases (item_names level (next_key hi xs) x) (names_in level hi xs) n at) [
  | inl first ↦ (0, x, refl, first)
  | inr more ↦ let (place, item, is, there) = named_in level hi xs n more in (suc place, item, is, there)
]

in_names : (level hi : ℕ) (items : List Item) (place : ℕ) (item : Item) (n : Name) → slice_get items place ≡ Some item
    → Contains (item_names level (next_key hi (drop (suc place) items)) item) n → Contains (names_in level hi items) n
unfolding names_in
in_names level hi [] place item n is at = absurd cc
in_names level hi (x ∷ xs) zero item n is at =
    Contains-append_left (item_names level (next_key hi xs) x) (names_in level hi xs) n
    (subst (λ (y : Item). Contains (item_names level (next_key hi xs) y) n) (sym (same_Some x item is)) at)
in_names level hi (x ∷ xs) (suc place) item n is at =
    Contains-append_right (item_names level (next_key hi xs) x) (names_in level hi xs) n (in_names level hi xs place item n is at)

module _ (c : CellSeen) (branch : 2 ≤ c.level) where
  level_is : c.level ≡ suc (c.level - 1)
  level_is = omega (arith, branch)

  names_here : (node_of c).names ≡ names_in c.level (rank c.hi) (items_of c.block)
  names_here = names_are c (c.level - 1) level_is
      ∙ ap (λ (l : ℕ). names_in l (rank c.hi) (items_of c.block)) (sym level_is)

  item_at : (place : ℕ) → place < length (items_of c.block) → (item : Item) × (slice_get (items_of c.block) place ≡ Some item)
  item_at place within = got (items_of c.block) place within
    where
      got : (xs : List Item) (i : ℕ) → i < length xs → (x : Item) × (slice_get xs i ≡ Some x)
      got [] i less = absurd (omega (arith, less))
      got (x ∷ xs) zero less = (x, refl)
      got (x ∷ xs) (suc i) less = got xs i (omega (arith, less))

  one_on : (place : ℕ) → suc place ≡ place + 1
  one_on place = omega arith

  -- a child is named by the cell
  pub child_named : (place : ℕ) (child : Child) → place < length (items_of c.block) → IsChildAt c place child
      → Contains (node_of c).names (child_name child)
  child_named place child within is =
      let (item, at) = item_at place within in
      subst (λ ns. Contains ns (child_name child)) (sym names_here)
      (in_names c.level (rank c.hi) (items_of c.block) place item (child_name child) at
      (subst (λ k. Contains (item_names c.level (next_key (rank c.hi) (drop k (items_of c.block))) item) (child_name child)) (sym (one_on place))
      (subst (λ ns. Contains ns (child_name child)) (sym (is.names item at)) (here (child_name child) []))))

  pub no_left : (p : PoolState) (place key : ℕ) → NoChildAt c place → AreLeftMetAt p c place key
  no_left p place key not item n at named some is = let zero_level = not item at n named in absurd (omega (arith, zero_level, some))

  -- all places were looked at
  pub all_left : (p : PoolState) (key end : ℕ) → length (items_of c.block) ≤ end
      → ((place : ℕ) → place < end → AreLeftMetAt p c place key) → AreLeftMet p c key
  all_left p key end past each n named some is =
      let (place, item, at, there) = named_in c.level (rank c.hi) (items_of c.block) n (subst (λ ns. Contains ns n) names_here named) in
      let less = within (items_of c.block) place item at in
      each place (omega (arith, past, less)) item n at
      (subst (λ k. Contains (item_names c.level (next_key (rank c.hi) (drop k (items_of c.block))) item) n) (one_on place) there) some is
    where
      within : (xs : List Item) (i : ℕ) (x : Item) → slice_get xs i ≡ Some x → i < length xs
      within [] i x is = absurd cc
      within (y ∷ ys) zero x is = omega arith
      within (y ∷ ys) (suc i) x is = let h = within ys i x is in omega (arith, h)

-- ---- one after another

module _ (c : CellSeen) (key : ℕ) (old mid new : PoolState) (a : Goes old mid) (b : Goes mid new) where
  pub left_both : MeetsLeft c key old mid → MeetsLeft c key mid new → MeetsLeft c key old new
  left_both f g i x is was = by (mid.met i) refl
    where
      by : (m : Option CellSeen) → mid.met i ≡ m
          → (n : Name) × Contains (node_of c).names n × (n.hi ≡ key) × IsNamed n x
      by (Some y) then =
          let same : y ≡ x = same_Some y x (sym (b.met i y then) ∙ is) in
          f i x (then ∙ ap (λ (z : CellSeen). Some z) same) was
      by None then = g i x is then

  pub left_stops : (e : FetchFault) → StopsLeft c key mid e new → StopsLeft c key old e new
  left_stops e (n, named, is, m, goes, refused) = (n, named, is, m, goes_both old mid m a goes, refused)

  pub left_still : (place : ℕ) → AreLeftMetAt mid c place key → AreLeftMetAt new c place key
  left_still place met item n at named some is = let (x, there) = met item n at named some is in (x, b.met n.id x there)

  pub left_known : KnowsNames old c → KnowsNames mid c
  left_known knows m named = a.known m (knows m named)

pub left_same : (c : CellSeen) (key : ℕ) (p : PoolState) → MeetsLeft c key p p
left_same c key p i x is was = absurd (let e = sym is ∙ was in cc)
