-- What is known of a node that may stand as a cell.
use Rattle.std.proofs.Common.{◌≡◌, ℕ, zero, suc, ◌≤◌, Bool, List, length, refl, subst, arith}
use Rattle.std.specs.Prelude.{Option, Some, None, ◌==◌, if◌then◌else◌}
use Rattle.std.specs.Option.{option_map, option_or, is_none}
use Rattle.std.specs.Bool.{IsTrue}
use Rattle.std.proofs.lemmas.Bool.{eqb-true}
use Rattle.r4_base.specs.Cell.{cell_fault, items_in_fault}
use Rattle.r4_base.specs.Node.{PluginsFit, items_of, level_of, node_fault}
use Rattle.r4_base.specs.declared.node.NodeFault.{NodeFault}
use Rattle.r4_base.specs.declared.items.CellFault.{CellFault}
use Rattle.r4_base.specs.declared.items.CellFault.TheVariants.{Level, Node}
use Rattle.r4_base.proofs.Choices.{chosen, none_of_node, or_none}
use Rattle.r4_node40.proofs.Accepted.{good}

pub no_fault : (f : Option CellFault) → IsTrue (is_none f) → f ≡ None
no_fault None h = refl
no_fault (Some f) h = absurd cc

pub record IsNodeAt (in_memory : Bool) (blocks level lo hi : ℕ) (b : List ℕ) : Type 0 where
  pub accepted : node_fault b ≡ None
  pub level_is : level_of b ≡ level
  pub items : items_in_fault in_memory blocks level lo hi 0 (items_of b) ≡ None

pub node_at : (in_memory : Bool) (blocks level lo hi : ℕ) (b : List ℕ) → 1 ≤ level → cell_fault in_memory blocks level lo hi b ≡ None → IsNodeAt in_memory blocks level lo hi b
unfolding cell_fault
node_at in_memory blocks zero lo hi b some h = absurd (omega (arith, some))
node_at in_memory blocks (suc l) lo hi b some h =
    let node = or_none (option_map Node (node_fault b)) _ h in
    let level = or_none (if level_of b == suc l then None else Some Level) _ node.1 in
    record {
      accepted = none_of_node (node_fault b) node.0;
      level_is = eqb-true _ _ (chosen _ Level level.0);
      items = level.1;
    }

-- its items' plugins are those of its level
pub plugins_at : (in_memory : Bool) (blocks level lo hi : ℕ) (b : List ℕ) → length b ≡ 4096 → IsNodeAt in_memory blocks level lo hi b → PluginsFit level (items_of b)
plugins_at in_memory blocks level lo hi b whole at = subst (λ (k : ℕ). PluginsFit k (items_of b)) at.level_is (good b whole at.accepted).0.plugins
