use Rattle.std.proofs.Common.{◌≡◌, ◌∙◌, List, [], ◌∷◌, sym, subst, arith}
use Rattle.r4_base.specs.Key.{rank}
use Rattle.r4_cell.specs.Seen.{node_of}
use Rattle.r4_leaf.specs.Leaves.{Packs}
use Rattle.r4_leaf.specs.Units.{cut_units}
use Rattle.r4_leaf.specs.declared.leaf.Leaf.{Leaf}
use Rattle.r4_edit_testing.proofs.Trying.{clear, one_leaf, same_bytes}
use Rattle.r4_edit_testing.proofs.trials.is_clear.Goals as goal

pub returns : goal.returns
returns c same k v =
    let from = rank c.args.from.now in
    let to = rank c.args.to.now in
    let low = c.in-len1.len_at_least in
    let high = c.in-len1.len_below in
    let alone : c.in_ok-leaves.leaves.items ≡ c.one-item.result ∷ [] = sym c.as_slice.ensures.value
    ∙ one_leaf c.as_slice.result.now c.one-item.result (omega (arith, low, high)) c.one-item.is in
    clear c.args.leaf.now from to c.one-item.result c.requires.level
    (subst (λ (ls : List Leaf). Packs (rank c.args.leaf.now.lo) (rank c.args.leaf.now.hi) (cut_units from to (node_of c.args.leaf.now).units) ls)
    alone c.in_ok-leaves.ensures.leaves.packs)
    (sym c.bytes.ensures.value ∙ (same_bytes c.bytes.result.now c.bytes-2.result.now c.eq.result c.eq.ensures same
    ∙ (c.bytes-2.ensures.value ∙ c.block.ensures))) k v
