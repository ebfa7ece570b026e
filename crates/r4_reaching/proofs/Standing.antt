-- What was seen stands in the cells that were met, and what is touched is among them.
use Rattle.std.proofs.Common.{◌≡◌, ◌⊎◌, inl, inr, ℕ, ◌<◌, ◌≤◌, Bool, true, false, refl, sym, ap, subst, ◌∙◌, arith}
use Rattle.std.specs.Prelude.{◌↔◌, Contains, Option, Some, None}
use Rattle.std.specs.FinMap.{find}
use Rattle.std.specs.Option.{option_map}
use Rattle.std.specs.Ordering.{nat_cmp}
use Rattle.std.proofs.Math.Decide.{dec_le}
use Rattle.std.proofs.Math.Nat.{lt_of_not-le}
use Rattle.r4_base.specs.Key.{least, top}
use Rattle.r4_base.specs.Tree.{Covers as CoversAt, Holds, InName, InNode, IsData, Name, Node, Root, Store, UnitAt}
use Rattle.r4_base.specs.Value.{Value}
use Rattle.r4_base.proofs.Trees.{one_cell}
use Rattle.r4_cell.specs.Seen.{CellSeen, node_of}
use Rattle.r4_content.specs.Edited.{Intervals, Pairs, is_in}
use Rattle.r4_touching.proofs.r4_patch.Holding.{block_twig, one_holder, one_name, one_span, unit_held}
use Rattle.r4_touching.proofs.r4_patch.PartCells.{leaf_or_extent}
use Rattle.r4_touching.specs.r4_reach.Demand.{Covers, Demand}
use Rattle.r4_touching.specs.r4_reach.Reach.{HasTouched}
use Rattle.r4_search.specs.Pool.{Goes, PoolState}
use Rattle.r4_touching.specs.r4_seeing.Looking.{AreFound, IsFoundAt, met_cells}
use Rattle.r4_reaching.specs.Reaching.{IsSeenPart, StaysInLeaves}

-- ---- over a pool that has met more

pub found_on : (p q : PoolState) (known : Intervals) (s : Pairs) → Goes p q → AreFound (met_cells p) known s
    → AreFound (met_cells q) known s
found_on p q known s g f = record {
  rises = f.rises;
  within = f.within;
  found = λ k is. moved k (f.found k is);
  only = f.only;
}
  where
    moved : (k : ℕ) {o : Option Value} → IsFoundAt (met_cells p) k o → IsFoundAt (met_cells q) k o
    moved k h = record { id = h.id; cell = h.cell; is = stays (p.met h.id) refl h.is; holds = h.holds; has = h.has }
      where
        stays : (o : Option CellSeen) → p.met h.id ≡ o → option_map node_of (p.met h.id) ≡ Some h.cell
            → option_map node_of (q.met h.id) ≡ Some h.cell
        stays (Some c) was is = ap (option_map node_of) (g.met h.id c was) ∙ (sym (ap (option_map node_of) was) ∙ is)
        stays None was is = absurd (let none = sym (ap (option_map node_of) was) ∙ is in cc)

-- ---- what was seen

module _ (t : Store Value) (root : Root) (known : Intervals) (s : Pairs) (h : IsSeenPart t root known s) where
  -- a unit's key is one of a tree
  unit_inside : (k : ℕ) (v : Value) → UnitAt t k v → (least ≤ k) × (k < top)
  unit_inside k v (i, c, is, has) =
      let n = h.part.nodes i c is in
      let (low, high) = n.unit_in k v has in
      let first = n.from_least in
      let last = n.to_top in
      (omega (arith, low, first), omega (arith, high, last))

  -- at a key that is known
  known_stands : (k : ℕ) (v : Value) → is_in known k ≡ true → (find nat_cmp k s ≡ Some v) ↔ UnitAt t k v
  known_stands k v at =
      let f = h.found.found k at in (
        λ seen. (f.id, f.cell, f.is, (f.has v).0 seen),
        λ u. back f u,
      )
    where
      back : IsFoundAt t k (find nat_cmp k s) → UnitAt t k v → find nat_cmp k s ≡ Some v
      back f (i, c, is, has) =
          let same : i ≡ f.id = one_holder t root h.part k i f.id c f.cell is f.is
          (unit_held c k v (h.part.nodes i c is) has) f.holds in
          let cell : c ≡ f.cell = one_cell t f.id c f.cell (subst (λ (j : ℕ). t j ≡ Some c) same is) f.is in
          (f.has v).1 (subst (λ (d : Node Value). Contains d.units (k, v)) cell has)

  pub seen_stands : (asked : Intervals) → ((k : ℕ) → is_in asked k ≡ true → least ≤ k → k < top → is_in known k ≡ true)
      → (k : ℕ) (v : Value) → is_in asked k ≡ true → (find nat_cmp k s ≡ Some v) ↔ UnitAt t k v
  seen_stands asked looked k v at = by (is_in known k) refl
    where
      by : (b : Bool) → is_in known k ≡ b → (find nat_cmp k s ≡ Some v) ↔ UnitAt t k v
      by true is = known_stands k v is
      by false is = (
        (λ seen. absurd (let none = sym (h.found.only k is) ∙ seen in cc)),
        (λ u. absurd
            (let (low, high) = unit_inside k v u in let yes = looked k at low high in let both = sym yes ∙ is in cc)),
      )

  -- ---- what is touched

  module _ {A : Type 0} (d : Demand A) (stays : StaysInLeaves d t known) where
    abbrev CoveredAt : ℕ → Type 0
    CoveredAt k = (i : ℕ) × (c : Node Value) × (t i ≡ Some c) × Covers c k

    covered_known : (k : ℕ) → IsFoundAt t k (find nat_cmp k s) → CoveredAt k
    covered_known k f = by f.holds
      where
        low : f.cell.level ≤ 1 → InNode f.cell k → CoveredAt k
        low le at = elim (dec_le 1 f.cell.level) [
          | yes one ↦ (f.id, f.cell, f.is, inl (omega (arith, le, one), at))
          | no zero_level ↦
              (let (j, e, n, r, te, en, is, z, at_n, er, at_r) = block_twig t root h.part f.id f.cell k f.is
              (omega (arith, lt_of_not-le zero_level)) at in
              (j, e, te, inr (r, er, at_r)))
        ]

        by : Holds f.cell k → CoveredAt k
        by (inl (le, at)) = low le at
        by (inr (r, has, at, none)) = (f.id, f.cell, f.is, inr (r, has, at))

    covered_leaf : (k : ℕ) → CoversAt t 1 k → CoveredAt k
    covered_leaf k (i, c, is, level, at) = (i, c, is, inl (level, at))

    -- a data block that has a touched key is there
    block_there : (i : ℕ) (c : Node Value) (n : Name) (k : ℕ) → t i ≡ Some c → Contains c.names n → IsData n
        → InName n k → (is_in known k ≡ true) ⊎ CoversAt t 1 k → (b : Node Value) × (t n.id ≡ Some b)
    block_there i c n k tc named z at (inr (j, e, te, level, in_e)) =
        let (r, cr, from, to) = (h.part.nodes i c tc).data_in_span n named z in
        absurd (leaf_or_extent t root h.part j i e c r k te tc level cr in_e
        (omega (arith, from, at), omega (arith, to, at)))
    block_there i c n k tc named z at (inl is) = by (h.found.found k is)
      where
        by : IsFoundAt t k (find nat_cmp k s) → (b : Node Value) × (t n.id ≡ Some b)
        by f = holding f.holds
          where
            holding : Holds f.cell k → (b : Node Value) × (t n.id ≡ Some b)
            holding (inl (le, in_f)) = elim (dec_le 1 f.cell.level) [
              | yes one ↦
                  (let (r, cr, from, to) = (h.part.nodes i c tc).data_in_span n named z in
                  absurd (leaf_or_extent t root h.part f.id i f.cell c r k f.is tc (omega (arith, le, one)) cr in_f
                  (omega (arith, from, at), omega (arith, to, at))))
              | no zero_level ↦
                  (let (j, e, m, r, te, em, id, zm, at_m, er, at_r) = block_twig t root h.part f.id f.cell k f.is
                  (omega (arith, lt_of_not-le zero_level)) in_f in
                  let same : n ≡ m = one_name t root h.part k i j c e n m tc te named z at em zm at_m in
                  (f.cell, subst (λ (a : ℕ). t a ≡ Some f.cell) (sym (ap (λ (x : Name). x.id) same ∙ id)) f.is))
            ]
            holding (inr (r, has, in_r, none)) =
                let (q, cq, from, to) = (h.part.nodes i c tc).data_in_span n named z in
                let same : f.id ≡ i = one_span t root h.part k f.id i f.cell c r q f.is tc has in_r cq
                (omega (arith, from, at), omega (arith, to, at)) in
                let cell : f.cell ≡ c = one_cell t i f.cell c (subst (λ (a : ℕ). t a ≡ Some f.cell) same f.is) tc in
                absurd (none n (subst (λ (x : Node Value). Contains x.names n) (sym cell) named) z at)

    pub all_touched : HasTouched d t
    all_touched = record {
      piece = λ k touches low high. elim touches [
        | inl reads ↦ elim (stays.reads k reads low high) [
          | inl is ↦ covered_known k (h.found.found k is)
          | inr leaf ↦ covered_leaf k leaf
        ]
        | inr changes ↦ covered_leaf k (stays.changes k changes low high)
      ];
      block = λ i c n k tc named z at touches.
          let node = h.part.nodes i c tc in
          let from = node.name_from n named in
          let to = node.name_to n named in
          let first = node.from_least in
          let last = node.to_top in
          let low : least ≤ k = omega (arith, from, first, at) in
          let high : k < top = omega (arith, to, last, at) in
          elim touches [
            | inl reads ↦ block_there i c n k tc named z at (stays.reads k reads low high)
            | inr changes ↦ block_there i c n k tc named z at (inr (stays.changes k changes low high))
          ];
      beside = λ i c n tc turns named. absurd (stays.still i c tc turns);
    }
