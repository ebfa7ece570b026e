-- Cells that name nothing.
use Rattle.std.proofs.Common.{◌≡◌, ◌^◌, ℕ, zero, suc, true, List, [], length, refl, sym, subst, ◌∙◌, arith}
use Rattle.std.specs.Prelude.{None}
use Rattle.r4_base.specs.Cell.{cell_fault}
use Rattle.r4_base.specs.Key.{rank}
use Rattle.r4_base.specs.Node.{items_of}
use Rattle.r4_base.specs.Tree.{Name}
use Rattle.r4_cell.specs.Seen.{CellSeen, node_of}
use Rattle.r4_cell.proofs.NodesAt.{node_at, plugins_at}
use Rattle.r4_marking.proofs.Children.{data_nameless, leaf_names}
use Rattle.r4_search.specs.Pool.{StandsInMemory}
use Rattle.r4_sight.proofs.r4_units.ExtentUnits.{names_of}
use Rattle.r4_judging.specs.Judging.{IsJudged}
use Rattle.r4_judging.proofs.Firsts.{no_names}

pub leaf_judged : (c : CellSeen) (cells : List CellSeen) → c.level ≡ 1 → length c.block ≡ 4096 → StandsInMemory c
    → IsJudged (node_of c).names cells None
leaf_judged c cells level whole stands =
    let at = node_at true (2 ^ 64) c.level (rank c.lo) (rank c.hi) c.block (omega (arith, level)) stands in
    let none : (node_of c).names ≡ [] = names_of c.level (rank c.lo) (rank c.hi) c.block (omega (arith, level))
    ∙ leaf_names c.level (rank c.hi) (items_of c.block) level
    (plugins_at true (2 ^ 64) c.level (rank c.lo) (rank c.hi) c.block whole at) in
    subst (λ (ns : List Name). IsJudged ns cells None) (sym none) (no_names cells)

pub data_judged : (c : CellSeen) (cells : List CellSeen) → c.level ≡ 0 → IsJudged (node_of c).names cells None
data_judged c cells level = subst (λ (ns : List Name). IsJudged ns cells None) (sym (data_nameless c level))
    (no_names cells)

data_fine : (level lo hi : ℕ) (b : List ℕ) → level ≡ 0 → cell_fault true (2 ^ 64) level lo hi b ≡ None
unfolding cell_fault
data_fine zero lo hi b is = refl
data_fine (suc l) lo hi b is = absurd cc

pub data_stands : (c : CellSeen) → c.level ≡ 0 → StandsInMemory c
data_stands c level = data_fine c.level (rank c.lo) (rank c.hi) c.block level
