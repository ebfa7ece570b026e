use Rattle.std.proofs.Common.{◌≡◌, ◌^◌, true, slice_index_or, ap, subst, sym, ◌∙◌}
use Rattle.std.specs.Prelude.{None}
use Rattle.std.specs.Arc.{arc_value}
use Rattle.r4_base.specs.Cell.{cell_fault}
use Rattle.r4_base.specs.Key.{rank}
use Rattle.r4_base.specs.Node.{mkfs_id_of}
use Rattle.r4_base.specs.declared.key.Key.{Key}
use Rattle.r4_path.specs.r4_branch.Pieces.{AreTwigPieces}
use Rattle.r4_path.specs.r4_branch.Twigs.{IsTwig}
use Rattle.r4_path.specs.r4_cell.Seen.{CellSeen}
use Rattle.r4_path.specs.TwigPieces.{ArePiecesOf}
use Rattle.r4_edit.proofs.HalvedTwig.{halves_of, no_piece, left_fits, left_pieces, right_fits, right_pieces, twig_parted}
use Rattle.r4_edit.proofs.splitting.part_extent.Goals as goal

pub one_twig-requires-clause-pieces : goal.one_twig-requires-clause-pieces
one_twig-requires-clause-pieces c =
    let twig = arc_value c.args.twig.now in
    let ps = c.in_ok-pieces.pieces.items in
    let left = c.split_at.result.0.now in
    let right = c.split_at.result.1.now in
    let key = (slice_index_or right 0 no_piece).key in
    let of = subst (λ (x : CellSeen). ArePiecesOf x ps) c.deref-2.ensures c.in_ok-pieces.ensures in
    let halves = halves_of twig ps c.as_slice.result.now left right c.len.result no_piece of c.requires.two c.as_slice.ensures.value
    (c.len.ensures ∙ c.in_ok-pieces.pieces.ok.0) c.split_at.ensures.front c.split_at.ensures.back in (
      rank key,
      subst (λ (k : Key). AreTwigPieces (rank k) (rank key) left) (sym (c.lo.ensures ∙ ap (λ (x : CellSeen). x.lo) c.deref-3.ensures))
          (left_pieces (rank twig.lo) (rank twig.hi) ps left right key halves of.pieces of.fits),
    )

pub one_twig-requires-clause-fits : goal.one_twig-requires-clause-fits
one_twig-requires-clause-fits c =
    let twig = arc_value c.args.twig.now in
    let ps = c.in_ok-pieces.pieces.items in
    let left = c.split_at.result.0.now in
    let right = c.split_at.result.1.now in
    let key = (slice_index_or right 0 no_piece).key in
    let of = subst (λ (x : CellSeen). ArePiecesOf x ps) c.deref-2.ensures c.in_ok-pieces.ensures in
    let halves = halves_of twig ps c.as_slice.result.now left right c.len.result no_piece of c.requires.two c.as_slice.ensures.value
    (c.len.ensures ∙ c.in_ok-pieces.pieces.ok.0) c.split_at.ensures.front c.split_at.ensures.back in
    left_fits (rank twig.lo) (rank twig.hi) ps left right key halves of.pieces of.fits

pub one_twig-requires-2-clause-pieces : goal.one_twig-requires-2-clause-pieces
one_twig-requires-2-clause-pieces c =
    let twig = arc_value c.args.twig.now in
    let ps = c.in_ok-pieces.pieces.items in
    let left = c.split_at.result.0.now in
    let right = c.split_at.result.1.now in
    let key = (slice_index_or right 0 no_piece).key in
    let of = subst (λ (x : CellSeen). ArePiecesOf x ps) c.deref-2.ensures c.in_ok-pieces.ensures in
    let halves = halves_of twig ps c.as_slice.result.now left right c.len.result no_piece of c.requires.two c.as_slice.ensures.value
    (c.len.ensures ∙ c.in_ok-pieces.pieces.ok.0) c.split_at.ensures.front c.split_at.ensures.back in
    (rank twig.hi, right_pieces (rank twig.lo) (rank twig.hi) ps left right key halves of.pieces of.fits)

pub one_twig-requires-2-clause-fits : goal.one_twig-requires-2-clause-fits
one_twig-requires-2-clause-fits c =
    let twig = arc_value c.args.twig.now in
    let ps = c.in_ok-pieces.pieces.items in
    let left = c.split_at.result.0.now in
    let right = c.split_at.result.1.now in
    let key = (slice_index_or right 0 no_piece).key in
    let of = subst (λ (x : CellSeen). ArePiecesOf x ps) c.deref-2.ensures c.in_ok-pieces.ensures in
    let halves = halves_of twig ps c.as_slice.result.now left right c.len.result no_piece of c.requires.two c.as_slice.ensures.value
    (c.len.ensures ∙ c.in_ok-pieces.pieces.ok.0) c.split_at.ensures.front c.split_at.ensures.back in
    right_fits (rank twig.lo) (rank twig.hi) ps left right key halves of.pieces of.fits

pub new_cell-requires : goal.new_cell-requires
new_cell-requires c =
    let twig = arc_value c.args.twig.now in
    let ps = c.in_ok-pieces.pieces.items in
    let left = c.split_at.result.0.now in
    let right = c.split_at.result.1.now in
    let key = (slice_index_or right 0 no_piece).key in
    let of = subst (λ (x : CellSeen). ArePiecesOf x ps) c.deref-2.ensures c.in_ok-pieces.ensures in
    let halves = halves_of twig ps c.as_slice.result.now left right c.len.result no_piece of c.requires.two c.as_slice.ensures.value
    (c.len.ensures ∙ c.in_ok-pieces.pieces.ok.0) c.split_at.ensures.front c.split_at.ensures.back in
    let lo_is = c.lo.ensures ∙ ap (λ (x : CellSeen). x.lo) c.deref-3.ensures in
    let lo_2 = c.lo-2.ensures ∙ ap (λ (x : CellSeen). x.lo) c.deref-5.ensures in
    let low = c.in_ok-left.ensures.twig (rank key) (subst (λ (k : Key). AreTwigPieces (rank k) (rank key) left) (sym lo_is)
    (left_pieces (rank twig.lo) (rank twig.hi) ps left right key halves of.pieces of.fits)) in
    subst (λ (k : Key). cell_fault true (2 ^ 64) 2 (rank k) (rank key) c.in_ok-left.left ≡ None) (lo_is ∙ sym lo_2) low.stands.1

pub new_cell-requires-2 : goal.new_cell-requires-2
new_cell-requires-2 c =
    let twig = arc_value c.args.twig.now in
    let ps = c.in_ok-pieces.pieces.items in
    let left = c.split_at.result.0.now in
    let right = c.split_at.result.1.now in
    let key = (slice_index_or right 0 no_piece).key in
    let of = subst (λ (x : CellSeen). ArePiecesOf x ps) c.deref-2.ensures c.in_ok-pieces.ensures in
    let halves = halves_of twig ps c.as_slice.result.now left right c.len.result no_piece of c.requires.two c.as_slice.ensures.value
    (c.len.ensures ∙ c.in_ok-pieces.pieces.ok.0) c.split_at.ensures.front c.split_at.ensures.back in
    let high = c.in_ok-right.ensures.twig (rank twig.hi)
    (right_pieces (rank twig.lo) (rank twig.hi) ps left right key halves of.pieces of.fits) in
    subst (λ (k : Key). cell_fault true (2 ^ 64) 2 (rank key) (rank k) c.in_ok-right.right ≡ None)
    (sym (c.hi.ensures ∙ ap (λ (x : CellSeen). x.hi) c.deref-6.ensures)) high.stands.1

pub returns-clause-parted : goal.returns-clause-parted
returns-clause-parted c =
    let twig = arc_value c.args.twig.now in
    let ps = c.in_ok-pieces.pieces.items in
    let left = c.split_at.result.0.now in
    let right = c.split_at.result.1.now in
    let key = (slice_index_or right 0 no_piece).key in
    let of = subst (λ (x : CellSeen). ArePiecesOf x ps) c.deref-2.ensures c.in_ok-pieces.ensures in
    let halves = halves_of twig ps c.as_slice.result.now left right c.len.result no_piece of c.requires.two c.as_slice.ensures.value
    (c.len.ensures ∙ c.in_ok-pieces.pieces.ok.0) c.split_at.ensures.front c.split_at.ensures.back in
    let lo_is = c.lo.ensures ∙ ap (λ (x : CellSeen). x.lo) c.deref-3.ensures in
    let lo_2 = c.lo-2.ensures ∙ ap (λ (x : CellSeen). x.lo) c.deref-5.ensures in
    let hi_is = c.hi.ensures ∙ ap (λ (x : CellSeen). x.hi) c.deref-6.ensures in
    let id_is = c.id.ensures ∙ ap (λ (x : CellSeen). x.id) c.deref-4.ensures in
    let m_is = c.get32-mkfs_id.ensures ∙ ap mkfs_id_of (c.bytes.ensures.value ∙ (c.block.ensures
    ∙ ap (λ (x : CellSeen). x.block) c.deref.ensures)) in
    let low = subst (λ (k : Key). IsTwig (rank k) (rank key) left (record { lo = k; block = c.in_ok-left.left })) lo_is
    (c.in_ok-left.ensures.twig (rank key) (subst (λ (k : Key). AreTwigPieces (rank k) (rank key) left) (sym lo_is)
    (left_pieces (rank twig.lo) (rank twig.hi) ps left right key halves of.pieces of.fits))) in
    let high = c.in_ok-right.ensures.twig (rank twig.hi)
    (right_pieces (rank twig.lo) (rank twig.hi) ps left right key halves of.pieces of.fits) in
    twig_parted twig c.requires.level ps left right key halves of c.in_ok-left.left c.in_ok-right.right low high
    (c.in_ok-left.ensures.mkfs_id ∙ m_is) (c.in_ok-right.ensures.mkfs_id ∙ m_is) c.args.fresh.now c.take_number.new.fresh
    c.take_number.ensures.next (arc_value c.in_ok-try_clone.field-0) c.in_ok-new.new _ _ c.in_ok-try_clone.ensures
    (c.in_ok-left-2.ensures ∙ (λ i. record { id = id_is i; level = 2; lo = lo_2 i; hi = key; block = c.in_ok-left.left }))
    (c.in_ok-right-2.ensures ∙ (λ i. record { id = c.take_number.ensures.number i; level = 2; lo = key; hi = hi_is i; block = c.in_ok-right.right }))
    c.in_ok-new.ensures
