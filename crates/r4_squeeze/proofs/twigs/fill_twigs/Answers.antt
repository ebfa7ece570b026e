use Rattle.std.proofs.Common.{◌∙◌, ap, map}
use Rattle.std.specs.Arc.{arc_value}
use Rattle.std.proofs.lemmas.Result.{IfOk-weaker}
use Rattle.r4_base.specs.Key.{rank}
use Rattle.r4_base.specs.Node.{mkfs_id_of}
use Rattle.r4_cell.specs.Seen.{CellSeen}
use Rattle.r4_squeeze.proofs.TwigSlums.{first_id, first_lo, slum_twig_pieces, slum_twigs}
use Rattle.r4_squeeze.proofs.twigs.fill_twigs.Goals as goal

pub pack_twigs-requires : goal.pack_twigs-requires
pack_twigs-requires c =
    let (from, ends) = c.requires.slum in
    let (to, both) = ends in
    let (each, theirs, same) = c.in_ok-pieces.ensures in (
      to,
      slum_twig_pieces (map arc_value c.args.slum.now) from to (rank c.lo.result) each c.as_slice.result.now theirs
          (c.as_slice.ensures.value ∙ same)
          (ap rank (c.lo.ensures ∙ ap (λ (x : CellSeen). x.lo) c.deref-2.ensures)
          ∙ first_lo arc_value 2 from to c.args.slum.now c.index-slum-0.result c.index-slum-0.is both.1 both.0)
          both.1 both.0,
    )

pub returns : goal.returns
returns c =
    let (each, theirs, same) = c.in_ok-pieces.ensures in
    IfOk-weaker c.filled_of.result _ _ (λ v is. λ from to less follow.
    slum_twigs (map arc_value c.args.slum.now) from to (rank c.lo.result) each c.as_slice.result.now theirs
    (c.as_slice.ensures.value ∙ same)
    (ap rank (c.lo.ensures ∙ ap (λ (x : CellSeen). x.lo) c.deref-2.ensures)
    ∙ first_lo arc_value 2 from to c.args.slum.now c.index-slum-0.result c.index-slum-0.is follow less)
    follow less c.in_ok-twigs.twigs.items c.get32-mkfs_id.result v.items c.in_ok-twigs.ensures.packs
    c.in_ok-twigs.ensures.few c.in_ok-twigs.ensures.id
    (c.get32-mkfs_id.ensures ∙ (ap mkfs_id_of (c.bytes.ensures.value ∙ (c.block.ensures
    ∙ ap (λ (x : CellSeen). x.block) c.deref.ensures))
    ∙ first_id arc_value 2 from to c.args.slum.now c.index-slum-0.result c.index-slum-0.is follow less))
    is) c.filled_of.ensures
