-- A patch does in one tree what it does in another that has the same cells where it matters.
use Rattle.std.specs.Prelude.{◌≡◌, ◌==◌, ℕ, ◌<◌, ◌≤◌, ◌↔◌, Contains, None, Some, suc}
use mathlib.Core.Path.{refl, ap, subst, ◌∙◌}
use mathlib.Core.Logic.{inl, inr}
use native.Mathlib.Omega.{arith}
use Rattle.std.proofs.Math.Decide.{dec_le}
use Rattle.r4_base.specs.Key.{least, top}
use Rattle.r4_base.specs.Value.{Value}
use Rattle.r4_base.specs.Tree.{Node, Store, Root, IsTree, UnitAt, Holds}
use Rattle.r4_base.proofs.Trees.{one_cell, not_both, holder, holder_once, holds_in}
use Rattle.r4_patch.specs.r4_cell.Patch.{Patch, place, root_after, IsPatch, Meets}
use Rattle.r4_patch.proofs.Placed.{over_from, over_kept, over_new, some_or_none, placed_tree}
use Rattle.r4_patch.specs.Effect.{Placed, UnitIn}
use Rattle.r4_sets.specs.Units.{SameUnit}

pub then_iff : {A B C : Type 0} → A ↔ B → B ↔ C → A ↔ C
then_iff f g = (λ a. g.0 (f.0 a), λ c. f.1 (g.1 c))

pub back_iff : {A B : Type 0} → A ↔ B → B ↔ A
back_iff f = (f.1, f.0)

-- what is so of the cell that holds a key
abbrev pub On : Store Value → ℕ → (Node Value → Type 0) → Type 0
On t k q = (i : ℕ) × (c : Node Value) × (t i ≡ Some c) × Holds c k × q c

-- a key that both trees hold in the same cell
abbrev pub IsShared : (t u : Store Value) → ℕ → Type 0
IsShared t u k = (i : ℕ) × (c : Node Value) × (t i ≡ Some c) × (u i ≡ Some c) × Holds c k

-- ---- one tree

module _ (t : Store Value) (root : Root) (it : IsTree t root) where
  pub on_iff : (k : ℕ) (q : Node Value → Type 0) (i : ℕ) (c : Node Value) → t i ≡ Some c → Holds c k → On t k q ↔ q c
  on_iff k q i c tc h = (to, λ x. (i, c, tc, h, x))
    where
      to : On t k q → q c
      to (j, d, td, hd, x) =
          let is : j ≡ i = holder_once t root it j i d c k td tc hd h in
          let same : d ≡ c = one_cell t i d c (subst (λ y. t y ≡ Some d) is td) tc in
          subst q same x

  pub in_range : (k : ℕ) (q : Node Value → Type 0) → On t k q → (least ≤ k) × (k < top)
  in_range k q (i, c, tc, h, x) =
      let at = holds_in t root it i c k tc h in
      let ic = it.nodes i c tc in
      let from = ic.from_least in
      let to = ic.to_top in
      (omega (arith, at, from), omega (arith, at, to))

  unit_holder : (i : ℕ) (c : Node Value) (k : ℕ) (v : Value) → t i ≡ Some c → Contains c.units (k, v) → Holds c k
  unit_holder i c k v tc has =
      let ic = it.nodes i c tc in
      elim (ic.unit_low k v has) [
        | inl h ↦ inl (h, ic.unit_in k v has)
        | inr h ↦ let (s, cs, at) = h in inr (s, cs, at, λ n cn low at_n. ic.unit_in_hole n k v cn low has at_n)
      ]

  pub unit_on : (k : ℕ) (v : Placed Value) → UnitIn t k v
      ↔ On t k (λ c. Contains c.units (k, v.0) × ((c.level == 1) ≡ v.1))
  unit_on k v = (
    λ (i, c, tc, has, kind). (i, c, tc, unit_holder i c k v.0 tc has, (has, kind)),
    λ (i, c, tc, h, (has, kind)). (i, c, tc, has, kind),
  )

-- ---- the units that a store has, whatever the kind of cell

pub same_unit : (t u : Store Value) (k : ℕ) (v : Value) → SameUnit t u k → UnitAt t k v ↔ UnitAt u k v
same_unit t u k v h = (
  λ (i, c, tc, has). let (j, d, ud, there, _) = (h (v, c.level == 1)).0 (i, c, tc, has, refl) in (j, d, ud, there),
  λ (j, d, ud, has). let (i, c, tc, there, _) = (h (v, d.level == 1)).1 (j, d, ud, has, refl) in (i, c, tc, there),
)

pub unit_back : (t u : Store Value) (k : ℕ) → SameUnit t u k → SameUnit u t k
unit_back t u k h v = back_iff (h v)

pub unit_then : (t u s : Store Value) (k : ℕ) → SameUnit t u k → SameUnit u s k → SameUnit t s k
unit_then t u s k h g v = then_iff (h v) (g v)

-- ---- two trees

module _ (t u : Store Value) (root_t root_u : Root) (tree_t : IsTree t root_t) (tree_u : IsTree u root_u) where
  pub on_units : (k : ℕ) → ((q : Node Value → Type 0) → On t k q ↔ On u k q) → SameUnit t u k
  on_units k h v = then_iff (unit_on t root_t tree_t k v)
      (then_iff (h (λ c. Contains c.units (k, v.0) × ((c.level == 1) ≡ v.1))) (back_iff (unit_on u root_u tree_u k v)))

  pub shared_units : (k : ℕ) → IsShared t u k → SameUnit t u k
  shared_units k (i, c, tc, uc, h) =
      on_units k (λ q. then_iff (on_iff t root_t tree_t k q i c tc h) (back_iff (on_iff u root_u tree_u k q i c uc h)))

  pub none_units : (k : ℕ) → ((least ≤ k) × (k < top) → ⊥) → SameUnit t u k
  none_units k out = on_units k (λ q.
      (λ x. absurd (out (in_range t root_t tree_t k q x)), λ x. absurd (out (in_range u root_u tree_u k q x))))

-- ---- a patch that meets both

module _ (t u : Store Value) (root_t root_u : Root) (tree_t : IsTree t root_t) (tree_u : IsTree u root_u)
    (p : Patch Value) (ip : IsPatch p) (mt : Meets p t root_t) (mu : Meets p u root_u) where
  placed_t : IsTree (place p t) (root_after p root_t)
  placed_t = placed_tree p t root_t ip tree_t mt

  placed_u : IsTree (place p u) (root_after p root_u)
  placed_u = placed_tree p u root_u ip tree_u mu

  -- the new holder of a key of an old cell is a new cell, in both trees
  pub new_holder : (i : ℕ) (c : Node Value) (k : ℕ) → p.old i ≡ Some c → Holds c k → (j : ℕ) × (d : Node Value)
      × (p.new j ≡ Some d) × Holds d k
  new_holder i c k oc h =
      let tc = mt.has_old i c oc in
      let at = holds_in t root_t tree_t i c k tc h in
      let ic = tree_t.nodes i c tc in
      let from = ic.from_least in
      let to = ic.to_top in
      let (j, d, pd, hd) = holder (place p t) (root_after p root_t) placed_t k (omega (arith, at, from))
      (omega (arith, at, to)) in
      elim (over_from (p.new j) (p.old j) (t j) d pd) [
        | inl nd ↦ (j, d, nd, hd)
        | inr g ↦
            let is : j ≡ i = holder_once t root_t tree_t j i d c k g.2 tc hd h in
            absurd (not_both p.old i c (subst (λ x. p.old x ≡ None) is g.1) oc)
      ]

  -- what an old cell held is held by the same new cell
  old_shared : (i : ℕ) (c : Node Value) (k : ℕ) → p.old i ≡ Some c → Holds c k → IsShared (place p t) (place p u) k
  old_shared i c k oc h =
      let (j, d, nd, hd) = new_holder i c k oc h in
      (j, d, over_new (p.new j) (p.old j) (t j) d nd, over_new (p.new j) (p.old j) (u j) d nd, hd)

  kept_t : (i : ℕ) (c : Node Value) → p.old i ≡ None → t i ≡ Some c → place p t i ≡ Some c
  kept_t i c gone tc = over_kept (p.new i) (p.old i) (t i) c (λ d x. not_both t i c (mt.free i d x gone) tc) gone tc

  kept_u : (i : ℕ) (c : Node Value) → p.old i ≡ None → u i ≡ Some c → place p u i ≡ Some c
  kept_u i c gone uc = over_kept (p.new i) (p.old i) (u i) c (λ d x. not_both u i c (mu.free i d x gone) uc) gone uc

  old_is : (i : ℕ) (o c : Node Value) → p.old i ≡ Some o → t i ≡ Some c → p.old i ≡ Some c
  old_is i o c oi tc = oi ∙ ap Some (one_cell t i o c (mt.has_old i o oi) tc)

  -- a key that is held by the same cell is so after the patch
  pub shared_after : (k : ℕ) → IsShared t u k → IsShared (place p t) (place p u) k
  shared_after k (i, c, tc, uc, h) = elim (some_or_none (p.old i)) [
    | inl (o, oi) ↦ old_shared i c k (old_is i o c oi tc) h
    | inr gone ↦ (i, c, kept_t i c gone tc, kept_u i c gone uc, h)
  ]

  -- a unit that stays in the one tree stays in the other
  pub stays_too : (k : ℕ) → SameUnit u (place p u) k → SameUnit t (place p t) k
  stays_too k stays = elim (dec_le least k) [
    | no before ↦ none_units t (place p t) root_t (root_after p root_t) tree_t placed_t k (λ h. before h.0)
    | yes from ↦ elim (dec_le (suc k) top) [
      | no past ↦ none_units t (place p t) root_t (root_after p root_t) tree_t placed_t k (λ h. past h.1)
      | yes to ↦
          let (i, c, tc, h) = holder t root_t tree_t k from to in
          elim (some_or_none (p.old i)) [
            | inl (o, oi) ↦
                let oc = old_is i o c oi tc in
                let before = shared_units t u root_t root_u tree_t tree_u k (i, c, tc, mu.has_old i c oc, h) in
                let after = shared_units (place p t) (place p u) (root_after p root_t) (root_after p root_u) placed_t
                placed_u k (old_shared i c k oc h) in
                unit_then t (place p u) (place p t) k (unit_then t u (place p u) k before stays)
                (unit_back (place p t) (place p u) k after)
            | inr gone ↦ shared_units t (place p t) root_t (root_after p root_t) tree_t placed_t k
                (i, c, tc, kept_t i c gone tc, h)
          ]
    ]
  ]
