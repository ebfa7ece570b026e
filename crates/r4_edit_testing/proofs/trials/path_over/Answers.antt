use Rattle.std.proofs.Common.{◌≡◌, ◌∙◌, ◌+◌, ◌++◌, ◌^◌, true, [], ◌∷◌, List, length, ap, sym, subst, arith, map}
use Rattle.std.specs.Prelude.{None}
use Rattle.std.specs.Arc.{arc_value}
use Rattle.r4_base.specs.Cell.{cell_fault}
use Rattle.r4_base.specs.Key.{rank}
use Rattle.r4_cell.specs.Patch.{by_name}
use Rattle.r4_cell.specs.Seen.{CellSeen}
use Rattle.r4_cell.specs.declared.change.Fresh.{Fresh}
use Rattle.r4_patch.specs.Joining.{ids_of}
use Rattle.r4_path.specs.Growing.{IsPathIn}
use Rattle.r4_path.specs.Nodes.{IsPointingTo}
use Rattle.r4_edit_testing.specs.Trials.{AreLeaves, IsPathOver, low_root}
use Rattle.r4_edit_testing.proofs.ShortPath.{short_path}
use Rattle.r4_path.proofs.Rising.{count_within}
use Rattle.r4_edit_testing.proofs.Trying.{first_of}
use Rattle.r4_path.proofs.Upwards.{all_numbered, long_ids}
use Rattle.r4_edit_testing.proofs.trials.path_over.Goals as goal

pub root_over-requires-clause-able : goal.root_over-requires-clause-able
root_over-requires-clause-able c =
    let cells = map arc_value c.args.leaves.now in
    let long = long_ids cells in
    let few = c.requires.leaves.few in
    all_numbered (2 ^ 63) (2 ^ 63 + length (ids_of cells)) cells (omega arith) (omega (arith, long, few))
    (λ i member. count_within (2 ^ 63) (ids_of cells) i c.requires.leaves.counts member)

pub returns-clause-path : goal.returns-clause-path
returns-clause-path c =
    let (rest, e) = first_of arc_value c.args.leaves.now c.index-leaves-0.result c.requires.leaves.some c.index-leaves-0.is in
    let leaf = arc_value c.index-leaves-0.result in
    let twig = arc_value c.in_ok-twig.twig in
    let cells : map arc_value c.push-2.new.self.items ≡ twig ∷ (leaf ∷ []) =
    ap (map arc_value) (c.in_ok-push-2.ensures.items
    ∙ ap (λ xs. xs ++ c.in_ok-try_clone.field-0 ∷ [])
    (c.in_ok-push.ensures.items ∙ ap (λ xs. xs ++ c.in_ok-twig.twig ∷ []) c.in_ok-path.ensures.items))
    ∙ (λ i. twig ∷ (c.in_ok-try_clone.ensures i ∷ [])) in
    let points : IsPointingTo (leaf ∷ rest) 2 (2 ^ 63 + 1000) twig =
    subst (λ n. IsPointingTo (leaf ∷ rest) 2 n twig) c.requires.next
    (subst (λ (cs : List CellSeen). IsPointingTo cs 2 c.args.fresh.now.next twig) e c.in_ok-twig.ensures.root) in
    let stands = subst (λ (x : CellSeen). cell_fault true (2 ^ 64) x.level (rank x.lo) (rank x.hi) x.block
    ≡ None) c.deref.ensures c.node-node.ensures.stands in
    let whole = subst (λ (x : CellSeen). length x.block ≡ 4096) c.deref.ensures c.node-node.ensures.whole in
    let took = ap (λ (f : Fresh). f.next) c.in_ok-twig.ensures.fresh in
    let next = c.requires.next in
    subst (λ cs. IsPathOver cs c.root_over.new.fresh (map arc_value c.push-2.new.self.items)) (sym e) (record {
      twig = twig;
      cells = cells;
      level = points.level_is;
      leads = subst (λ (p : List CellSeen). IsPathIn (by_name p) (low_root twig) (leaf ∷ (twig ∷ [])) c.root_over.new.fresh)
          (sym cells)
          (short_path leaf twig rest (subst AreLeaves e c.requires.leaves) c.root_over.new.fresh stands whole points
          (omega (arith, took, next)));
    })
