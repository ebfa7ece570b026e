-- What is held by cells of a part of a tree is touched there.
use Rattle.std.proofs.Common.{◌≡◌, inl, inr, ℕ, ◌≤◌, sym, ap, subst, ◌∙◌, arith}
use Rattle.std.specs.Prelude.{Contains, Some}
use Rattle.std.proofs.Math.Decide.{dec_le}
use Rattle.std.proofs.Math.Nat.{lt_of_not-le}
use Rattle.r4_base.specs.Tree.{Holds, InName, InNode, IsData, Name, Node, Root, Store}
use Rattle.r4_base.specs.Value.{Value}
use Rattle.r4_base.proofs.Trees.{one_cell}
use Rattle.r4_marking.specs.r4_patch.Part.{IsPart}
use Rattle.r4_marking.proofs.r4_patch.Holding.{block_twig, one_name, one_span}
use Rattle.r4_marking.proofs.r4_patch.PartCells.{leaf_or_extent}
use Rattle.r4_marking.specs.r4_reach.Demand.{Covers, Demand}
use Rattle.r4_marking.specs.r4_reach.Reach.{HasTouched}
use Rattle.r4_extent_touching.specs.Holding.{HoldsTouched, IsHeld}

module _ (t : Store Value) (root : Root) (part : IsPart t root) where
  abbrev CoveredAt : ℕ → Type 0
  CoveredAt k = (i : ℕ) × (c : Node Value) × (t i ≡ Some c) × Covers c k

  -- the leaf or the twig of a key that is held
  covered : (k : ℕ) → IsHeld t k → CoveredAt k
  covered k (i, c, is, holds) = by holds
    where
      low : c.level ≤ 1 → InNode c k → CoveredAt k
      low le at = elim (dec_le 1 c.level) [
        | yes one ↦ (i, c, is, inl (omega (arith, le, one), at))
        | no zero_level ↦
            (let (j, e, n, r, te, en, same, z, at_n, er, at_r) = block_twig t root part i c k is
            (omega (arith, lt_of_not-le zero_level)) at in
            (j, e, te, inr (r, er, at_r)))
      ]

      by : Holds c k → CoveredAt k
      by (inl (le, at)) = low le at
      by (inr (r, has, at, none)) = (i, c, is, inr (r, has, at))

  -- a data block that has a key which is held is there
  block_there : (i : ℕ) (c : Node Value) (n : Name) (k : ℕ) → t i ≡ Some c → Contains c.names n → IsData n
      → InName n k → IsHeld t k → (b : Node Value) × (t n.id ≡ Some b)
  block_there i c n k tc named z at (f, x, is, holds) = by holds
    where
      by : Holds x k → (b : Node Value) × (t n.id ≡ Some b)
      by (inl (le, in_x)) = elim (dec_le 1 x.level) [
        | yes one ↦
            (let (r, cr, from, to) = (part.nodes i c tc).data_in_span n named z in
            absurd (leaf_or_extent t root part f i x c r k is tc (omega (arith, le, one)) cr in_x
            (omega (arith, from, at), omega (arith, to, at))))
        | no zero_level ↦
            (let (j, e, m, r, te, em, id, zm, at_m, er, at_r) = block_twig t root part f x k is
            (omega (arith, lt_of_not-le zero_level)) in_x in
            let same : n ≡ m = one_name t root part k i j c e n m tc te named z at em zm at_m in
            (x, subst (λ (a : ℕ). t a ≡ Some x) (sym (ap (λ (y : Name). y.id) same ∙ id)) is))
      ]
      by (inr (r, has, in_r, none)) =
          let (q, cq, from, to) = (part.nodes i c tc).data_in_span n named z in
          let same : f ≡ i = one_span t root part k f i x c r q is tc has in_r cq
          (omega (arith, from, at), omega (arith, to, at)) in
          let cell : x ≡ c = one_cell t i x c (subst (λ (a : ℕ). t a ≡ Some x) same is) tc in
          absurd (none n (subst (λ (y : Node Value). Contains y.names n) (sym cell) named) z at)

  pub all_there : {A : Type 0} (d : Demand A) → HoldsTouched d t → HasTouched d t
  all_there d h = record {
    piece = λ k touches low high. covered k (h.held k touches low high);
    block = λ i c n k tc named z at touches.
        let node = part.nodes i c tc in
        let from = node.name_from n named in
        let to = node.name_to n named in
        let first = node.from_least in
        let last = node.to_top in
        block_there i c n k tc named z at
        (h.held k touches (omega (arith, from, first, at)) (omega (arith, to, last, at)));
    beside = h.beside;
  }
