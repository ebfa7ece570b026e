use Rattle.std.proofs.Common.{◌≡◌, map, take, drop, sym, ap, subst, ◌∙◌, arith}
use Rattle.std.specs.Prelude.{reverse}
use Rattle.std.specs.Arc.{arc_value}
use Rattle.std.specs.Option.{option_copied, option_map}
use Rattle.std.proofs.lemmas.Result.{IfOk-weaker}
use Rattle.r4_base.specs.Key.{rank}
use Rattle.r4_base.specs.Tree.{Root as TreeRoot, Store}
use Rattle.r4_base.specs.Value.{Value}
use Rattle.r4_path.specs.r4_cell.declared.change.Change.{Change}
use Rattle.r4_edit.specs.CutBlocks.{CutsUp, IsCutUp, IsTakenOutIn, is_in_range, leaf_first, rest_behind, trunk}
use Rattle.r4_path.proofs.CellNodes.{long_map}
use Rattle.r4_edit.proofs.CutKinds.{cut_up, cuts_up, map_drop, map_take, no_leaf, not_in_leaf, of_extents, of_leaf, trunk_within}
use Rattle.r4_edit.proofs.editing.cut.Goals as goal

module _ (c : goal.After-cut_leaf-arg-1) where
  l_back : map arc_value c.split_at.result.1.now ≡ drop (trunk (map arc_value c.args.path.now)) (map arc_value c.args.path.now)
  l_back = ap (map arc_value) c.split_at.ensures.back ∙ (map_drop arc_value c.trunk_of.result c.args.path.now ∙ ap (λ n. drop n (map arc_value c.args.path.now)) c.trunk_of.ensures)

  l_front : map arc_value c.split_at.result.0.now ≡ take (trunk (map arc_value c.args.path.now)) (map arc_value c.args.path.now)
  l_front = ap (map arc_value) c.split_at.ensures.front ∙ (map_take arc_value c.trunk_of.result c.args.path.now ∙ ap (λ n. take n (map arc_value c.args.path.now)) c.trunk_of.ensures)

  l_leaf : option_map arc_value (option_copied c.first_leaf-leaf.result) ≡ leaf_first (drop (trunk (map arc_value c.args.path.now)) (map arc_value c.args.path.now))
  l_leaf = c.first_leaf-leaf.ensures ∙ ap leaf_first l_back

  l_range : is_in_range (leaf_first (drop (trunk (map arc_value c.args.path.now)) (map arc_value c.args.path.now))) (rank c.args.from.now) ≡ c.goes_on_behind.result
  l_range = sym (c.goes_on_behind.ensures ∙ ap (λ o. is_in_range o (rank c.args.from.now)) l_leaf)

pub cut_leaf-requires-clause-path : goal.cut_leaf-requires-clause-path
cut_leaf-requires-clause-path c =
    let (t, (r, is)) = c.requires.path in
    (t, (r, (of_leaf t r (map arc_value c.args.path.now) c.args.from.now c.args.to.now c.args.fresh.now is (l_range c ∙ c.if-goes_on_behind.true)).cuts))

pub cut_leaf-requires-clause-numbers : goal.cut_leaf-requires-clause-numbers
cut_leaf-requires-clause-numbers c =
    let (t, (r, is)) = c.requires.path in
    let numbers = (of_leaf t r (map arc_value c.args.path.now) c.args.from.now c.args.to.now c.args.fresh.now is (l_range c ∙ c.if-goes_on_behind.true)).numbers in
    let long = long_map arc_value c.args.path.now in
    (c.requires.numbers, omega (arith, numbers, long))

module _ (c : goal.After-cut_leaf) where
  m_back : map arc_value c.split_at.result.1.now ≡ drop (trunk (map arc_value c.args.path.now)) (map arc_value c.args.path.now)
  m_back = ap (map arc_value) c.split_at.ensures.back ∙ (map_drop arc_value c.trunk_of.result c.args.path.now ∙ ap (λ n. drop n (map arc_value c.args.path.now)) c.trunk_of.ensures)

  m_front : map arc_value c.split_at.result.0.now ≡ take (trunk (map arc_value c.args.path.now)) (map arc_value c.args.path.now)
  m_front = ap (map arc_value) c.split_at.ensures.front ∙ (map_take arc_value c.trunk_of.result c.args.path.now ∙ ap (λ n. take n (map arc_value c.args.path.now)) c.trunk_of.ensures)

  m_leaf : option_map arc_value (option_copied c.first_leaf-leaf.result) ≡ leaf_first (drop (trunk (map arc_value c.args.path.now)) (map arc_value c.args.path.now))
  m_leaf = c.first_leaf-leaf.ensures ∙ ap leaf_first m_back

  m_range : is_in_range (leaf_first (drop (trunk (map arc_value c.args.path.now)) (map arc_value c.args.path.now))) (rank c.args.from.now) ≡ c.goes_on_behind.result
  m_range = sym (c.goes_on_behind.ensures ∙ ap (λ o. is_in_range o (rank c.args.from.now)) m_leaf)

pub returns-then-goes_on_behind-clause-meets : goal.returns-then-goes_on_behind-clause-meets
returns-then-goes_on_behind-clause-meets c =
    IfOk-weaker c.cut_leaf.result _ _ (λ d meets t r is. meets t r (of_leaf t r (map arc_value c.args.path.now) c.args.from.now c.args.to.now c.args.fresh.now is (m_range c ∙ c.if-goes_on_behind.true)).cuts) c.cut_leaf.ensures.meets

pub returns-then-goes_on_behind-clause-extents : goal.returns-then-goes_on_behind-clause-extents
returns-then-goes_on_behind-clause-extents c =
    IfOk-weaker c.cut_leaf.result _ _ (λ d cuts t r is. absurd (not_in_leaf t r (map arc_value c.args.path.now) c.args.from.now c.args.to.now c.args.fresh.now is (m_range c ∙ c.if-goes_on_behind.true))) c.cut_leaf.ensures.cuts

module _ (c : goal.After-cut_blocks-arg-1) where
  b_back : map arc_value c.split_at.result.1.now ≡ drop (trunk (map arc_value c.args.path.now)) (map arc_value c.args.path.now)
  b_back = ap (map arc_value) c.split_at.ensures.back ∙ (map_drop arc_value c.trunk_of.result c.args.path.now ∙ ap (λ n. drop n (map arc_value c.args.path.now)) c.trunk_of.ensures)

  b_front : map arc_value c.split_at.result.0.now ≡ take (trunk (map arc_value c.args.path.now)) (map arc_value c.args.path.now)
  b_front = ap (map arc_value) c.split_at.ensures.front ∙ (map_take arc_value c.trunk_of.result c.args.path.now ∙ ap (λ n. take n (map arc_value c.args.path.now)) c.trunk_of.ensures)

  b_leaf : option_map arc_value (option_copied c.first_leaf-leaf.result) ≡ leaf_first (drop (trunk (map arc_value c.args.path.now)) (map arc_value c.args.path.now))
  b_leaf = c.first_leaf-leaf.ensures ∙ ap leaf_first b_back

  b_range : is_in_range (leaf_first (drop (trunk (map arc_value c.args.path.now)) (map arc_value c.args.path.now))) (rank c.args.from.now) ≡ c.goes_on_behind.result
  b_range = sym (c.goes_on_behind.ensures ∙ ap (λ o. is_in_range o (rank c.args.from.now)) b_leaf)

  b_rest : map arc_value c.behind_leaf.result.now ≡ rest_behind (drop (trunk (map arc_value c.args.path.now)) (map arc_value c.args.path.now))
  b_rest = c.behind_leaf.ensures ∙ ap rest_behind b_back

  b_up : (t : Store Value) (r : TreeRoot) → IsTakenOutIn t r (map arc_value c.args.path.now) c.args.from.now c.args.to.now c.args.fresh.now
      → IsCutUp t r (option_map arc_value (option_copied c.first_leaf-leaf.result)) (map arc_value c.behind_leaf.result.now) (rank c.args.from.now) (rank c.args.to.now) c.args.fresh.now (reverse (map arc_value c.split_at.result.0.now))
  b_up t r is =
      subst (λ cells. IsCutUp t r (option_map arc_value (option_copied c.first_leaf-leaf.result)) (map arc_value c.behind_leaf.result.now) (rank c.args.from.now) (rank c.args.to.now) c.args.fresh.now (reverse cells)) (sym b_front)
      (subst (λ blocks. IsCutUp t r (option_map arc_value (option_copied c.first_leaf-leaf.result)) blocks (rank c.args.from.now) (rank c.args.to.now) c.args.fresh.now (reverse (take (trunk (map arc_value c.args.path.now)) (map arc_value c.args.path.now)))) (sym b_rest)
      (subst (λ o. IsCutUp t r o (rest_behind (drop (trunk (map arc_value c.args.path.now)) (map arc_value c.args.path.now))) (rank c.args.from.now) (rank c.args.to.now) c.args.fresh.now (reverse (take (trunk (map arc_value c.args.path.now)) (map arc_value c.args.path.now)))) (sym b_leaf)
      (cut_up t r (map arc_value c.args.path.now) c.args.from.now c.args.to.now c.args.fresh.now (of_extents t r (map arc_value c.args.path.now) c.args.from.now c.args.to.now c.args.fresh.now is (b_range ∙ c.if-goes_on_behind.false)))))

pub cut_blocks-requires-clause-path : goal.cut_blocks-requires-clause-path
cut_blocks-requires-clause-path c = let (t, (r, is)) = c.requires.path in (t, (r, b_up c t r is))

module _ (c : goal.After-cut_blocks) where
  e_back : map arc_value c.split_at.result.1.now ≡ drop (trunk (map arc_value c.args.path.now)) (map arc_value c.args.path.now)
  e_back = ap (map arc_value) c.split_at.ensures.back ∙ (map_drop arc_value c.trunk_of.result c.args.path.now ∙ ap (λ n. drop n (map arc_value c.args.path.now)) c.trunk_of.ensures)

  e_front : map arc_value c.split_at.result.0.now ≡ take (trunk (map arc_value c.args.path.now)) (map arc_value c.args.path.now)
  e_front = ap (map arc_value) c.split_at.ensures.front ∙ (map_take arc_value c.trunk_of.result c.args.path.now ∙ ap (λ n. take n (map arc_value c.args.path.now)) c.trunk_of.ensures)

  e_leaf : option_map arc_value (option_copied c.first_leaf-leaf.result) ≡ leaf_first (drop (trunk (map arc_value c.args.path.now)) (map arc_value c.args.path.now))
  e_leaf = c.first_leaf-leaf.ensures ∙ ap leaf_first e_back

  e_range : is_in_range (leaf_first (drop (trunk (map arc_value c.args.path.now)) (map arc_value c.args.path.now))) (rank c.args.from.now) ≡ c.goes_on_behind.result
  e_range = sym (c.goes_on_behind.ensures ∙ ap (λ o. is_in_range o (rank c.args.from.now)) e_leaf)

  e_rest : map arc_value c.behind_leaf.result.now ≡ rest_behind (drop (trunk (map arc_value c.args.path.now)) (map arc_value c.args.path.now))
  e_rest = c.behind_leaf.ensures ∙ ap rest_behind e_back

  e_up : (t : Store Value) (r : TreeRoot) → IsTakenOutIn t r (map arc_value c.args.path.now) c.args.from.now c.args.to.now c.args.fresh.now
      → IsCutUp t r (option_map arc_value (option_copied c.first_leaf-leaf.result)) (map arc_value c.behind_leaf.result.now) (rank c.args.from.now) (rank c.args.to.now) c.args.fresh.now (reverse (map arc_value c.split_at.result.0.now))
  e_up t r is =
      subst (λ cells. IsCutUp t r (option_map arc_value (option_copied c.first_leaf-leaf.result)) (map arc_value c.behind_leaf.result.now) (rank c.args.from.now) (rank c.args.to.now) c.args.fresh.now (reverse cells)) (sym e_front)
      (subst (λ blocks. IsCutUp t r (option_map arc_value (option_copied c.first_leaf-leaf.result)) blocks (rank c.args.from.now) (rank c.args.to.now) c.args.fresh.now (reverse (take (trunk (map arc_value c.args.path.now)) (map arc_value c.args.path.now)))) (sym e_rest)
      (subst (λ o. IsCutUp t r o (rest_behind (drop (trunk (map arc_value c.args.path.now)) (map arc_value c.args.path.now))) (rank c.args.from.now) (rank c.args.to.now) c.args.fresh.now (reverse (take (trunk (map arc_value c.args.path.now)) (map arc_value c.args.path.now)))) (sym e_leaf)
      (cut_up t r (map arc_value c.args.path.now) c.args.from.now c.args.to.now c.args.fresh.now (of_extents t r (map arc_value c.args.path.now) c.args.from.now c.args.to.now c.args.fresh.now is (e_range ∙ c.if-goes_on_behind.false)))))

  e_cuts : (d : Change) → CutsUp (map arc_value c.split_at.result.0.now) (option_map arc_value (option_copied c.first_leaf-leaf.result)) (map arc_value c.behind_leaf.result.now) (rank c.args.from.now) (rank c.args.to.now) c.args.fresh.now c.cut_blocks.new.fresh d (reverse (map arc_value c.split_at.result.0.now))
      → CutsUp (take (trunk (map arc_value c.args.path.now)) (map arc_value c.args.path.now)) (leaf_first (drop (trunk (map arc_value c.args.path.now)) (map arc_value c.args.path.now))) (rest_behind (drop (trunk (map arc_value c.args.path.now)) (map arc_value c.args.path.now))) (rank c.args.from.now) (rank c.args.to.now) c.args.fresh.now c.cut_blocks.new.fresh d (reverse (take (trunk (map arc_value c.args.path.now)) (map arc_value c.args.path.now)))
  e_cuts d cuts =
      subst (λ cells. CutsUp cells (leaf_first (drop (trunk (map arc_value c.args.path.now)) (map arc_value c.args.path.now))) (rest_behind (drop (trunk (map arc_value c.args.path.now)) (map arc_value c.args.path.now))) (rank c.args.from.now) (rank c.args.to.now) c.args.fresh.now c.cut_blocks.new.fresh d (reverse cells)) e_front
      (subst (λ blocks. CutsUp (map arc_value c.split_at.result.0.now) (leaf_first (drop (trunk (map arc_value c.args.path.now)) (map arc_value c.args.path.now))) blocks (rank c.args.from.now) (rank c.args.to.now) c.args.fresh.now c.cut_blocks.new.fresh d (reverse (map arc_value c.split_at.result.0.now))) e_rest
      (subst (λ o. CutsUp (map arc_value c.split_at.result.0.now) o (map arc_value c.behind_leaf.result.now) (rank c.args.from.now) (rank c.args.to.now) c.args.fresh.now c.cut_blocks.new.fresh d (reverse (map arc_value c.split_at.result.0.now))) e_leaf cuts))

pub returns-clause-meets : goal.returns-clause-meets
returns-clause-meets c = IfOk-weaker c.cut_blocks.result _ _ (λ d meets t r is. meets t r (e_up c t r is)) c.cut_blocks.ensures.meets

pub returns-clause-leaf : goal.returns-clause-leaf
returns-clause-leaf c = IfOk-weaker c.cut_blocks.result _ _ (λ d cuts t r is. absurd (no_leaf t r (map arc_value c.args.path.now) c.args.from.now c.args.to.now c.args.fresh.now is (e_range c ∙ c.if-goes_on_behind.false))) c.cut_blocks.ensures.cuts

pub returns-clause-extents : goal.returns-clause-extents
returns-clause-extents c = IfOk-weaker c.cut_blocks.result _ _ (λ d cuts t r is. cuts_up t r (map arc_value c.args.path.now) c.args.from.now c.args.to.now c.args.fresh.now is c.args.fresh.now c.cut_blocks.new.fresh d (e_cuts c d cuts)) c.cut_blocks.ensures.cuts

pub split_at-requires : goal.split_at-requires
split_at-requires c =
    let within = trunk_within (map arc_value c.args.path.now) in
    let long = long_map arc_value c.args.path.now in
    let at = c.trunk_of.ensures in
    omega (arith, within, long, at)
