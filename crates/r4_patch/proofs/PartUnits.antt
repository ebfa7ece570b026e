-- The units of a part of a tree: the cell that holds a key has what stands there.
use Rattle.std.proofs.Common.{◌≡◌, ◌↔◌, ℕ, subst}
use Rattle.std.specs.Prelude.{Contains, Some}
use Rattle.r4_base.specs.Tree.{Holds, Node, Root, Store, UnitAt}
use Rattle.r4_base.proofs.Trees.{one_cell}
use Rattle.r4_patch.specs.Part.{IsPart}
use Rattle.r4_patch.proofs.Holding.{one_holder, unit_held}

pub held_unit : {V : Type 0} (t : Store V) (root : Root) → IsPart t root → (i : ℕ) (c : Node V) (k : ℕ) (v : V)
    → t i ≡ Some c → Holds c k → UnitAt t k v ↔ Contains c.units (k, v)
held_unit t root it i c k v tc h = (
  λ (j, d, td, has).
      (let is = one_holder t root it k j i d c td tc (unit_held d k v (it.nodes j d td) has) h in
      let same = one_cell t i d c (subst (λ x. t x ≡ Some d) is td) tc in
      subst (λ x. Contains x.units (k, v)) same has),
  λ has. (i, c, tc, has),
)
