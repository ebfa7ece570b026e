use Rattle.r4_list.specs.Lists.{root_name_of}
use Rattle.r4_check.specs.Walk.{nothing_met}
use Rattle.r4_check.proofs.Kept.{AreCells, AreMarked, AreOnce, cells_kept, look_keeps, marked_kept, no_cell, once_kept}
use Rattle.std.proofs.Common.{ℕ, inl, refl, sym, ap, arith}
use Rattle.r4_base.specs.Tree.{Node}
use Rattle.r4_base.specs.Value.{Value}
use Rattle.r4_check.proofs.Parents.{look_named}
use Rattle.r4_check.proofs.Closed.{look_keeps_low}
use Rattle.r4_check.proofs.Nodes.{look_nodes, root_proper}
use Rattle.r4_check.proofs.Placed.{look_keeps_free}
use Rattle.r4_check.proofs.laws.cells_are_read.Goals as goal

pub returns-clause-cells : goal.returns-clause-cells
returns-clause-cells c s image = look_keeps (AreCells s.block_count image) s.block_count image (cells_kept s.block_count image) s.tree_height nothing_met (root_name_of s) (λ i d h. absurd (no_cell i d h))

pub returns-clause-nodes : goal.returns-clause-nodes
returns-clause-nodes c n s image i d whole lawful at =
    look_nodes n s.block_count image whole lawful.blocks.2 s.tree_height nothing_met (root_name_of s) (root_proper n s lawful) (λ j x h. absurd (no_cell j x h)) i d at

pub returns-clause-levels : goal.returns-clause-levels
returns-clause-levels c s image i d at = look_keeps_low s.tree_height s.block_count image s.tree_height nothing_met (root_name_of s) (omega arith) (λ j x h. absurd (no_cell j x h)) i d at

pub returns-clause-named : goal.returns-clause-named
returns-clause-named c s image i d at =
    let (n, named, e) = (look_named s.block_count image (root_name_of s) s.tree_height nothing_met (root_name_of s) (inl refl) (λ j x h. absurd (no_cell j x h))).0 i d at in
    (n, named, sym (ap (λ (p : ℕ × Node Value). p.0) e), sym (ap (λ (p : ℕ × Node Value). p.1) e))

pub returns-clause-once : goal.returns-clause-once
returns-clause-once c s image = look_keeps AreOnce s.block_count image (once_kept s.block_count image) s.tree_height nothing_met (root_name_of s) tt

pub returns-clause-places : goal.returns-clause-places
returns-clause-places c n s image i d lawful none at =
    let marked = look_keeps (AreMarked image) s.block_count image (marked_kept s.block_count image) s.tree_height nothing_met (root_name_of s) (λ e j x h. absurd (no_cell j x h)) none i d at in
    let free = look_keeps_free s.block_count image s.tree_height nothing_met (root_name_of s) (lawful.root.1, lawful.root_not_fixed) (λ j x h. absurd (no_cell j x h)) i d at in
    (free.0, free.1, marked)
