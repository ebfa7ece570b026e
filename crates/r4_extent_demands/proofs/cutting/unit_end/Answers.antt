use Rattle.std.proofs.Common.{◌≡◌, ℕ, ◌+◌, ◌*◌, ◌∙◌, Some, ap, sym, arith}
use Rattle.r4_base.specs.Key.{offset_of, rank, with_offset}
use Rattle.r4_graft.proofs.Halves.{later_rank}
use Rattle.r4_extent_demands.proofs.Rooms.{open_blocks}
use Rattle.r4_extent_demands.proofs.cutting.unit_end.Goals as goal

pub returns : goal.returns
returns c =
    let p = c.args.piece.now in
    let (fits, bytes) = c.in_ok-bytes.ensures in
    let (below, offset) = c.in_ok-offset.ensures in
    let at : c.in_ok-offset.offset ≡ offset_of p.key + 4096 * c.in-Blocks.unit.width = omega (arith, bytes, offset) in
    let end : rank c.with_offset.result ≡ rank p.key + 4096 * c.in-Blocks.unit.width = ap rank c.with_offset.ensures
    ∙ ap (λ (o : ℕ). rank (with_offset p.key o)) at ∙ later_rank p.key (4096 * c.in-Blocks.unit.width) in
    ap Some end ∙ sym (open_blocks p c.in-Blocks.unit c.in-Blocks.is (omega (arith, below, bytes, offset)))
