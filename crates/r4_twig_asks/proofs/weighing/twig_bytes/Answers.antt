use Rattle.std.proofs.Common.{[], ap, arith, get_or, refl, sym, take, ◌∙◌, ◌+◌}
use Rattle.std.specs.Prelude.{None}
use Rattle.std.proofs.lemmas.List.{take_more}
use Rattle.r4_base.specs.Key.{rank}
use Rattle.r4_extent_demands.specs.r4_branch.Pieces.{bytes_behind, last_end, part_bytes, twig_bytes}
use Rattle.r4_extent_demands.specs.r4_branch.declared.piece.TwigPart.TheVariants.{Pointer}
use Rattle.r4_extent_demands.specs.r4_branch.declared.piece.TwigPiece.{TwigPiece}
use Rattle.r4_extent_demands.proofs.r4_branch.Following.{bytes_more, last_more}
use Rattle.r4_twig_asks.proofs.weighing.twig_bytes.Goals as goal

-- what stands for no piece
abbrev nothing : TwigPiece
nothing = record { key = record { el = [] }; part = Pointer (record { 0 = 0 }) }

pub overflow_add-bytes : goal.overflow_add-bytes
overflow_add-bytes c =
    let short = c.well_formed.0.1 in
    let lt = c.loop-piece-test.true in
    let a = c.loop-piece.invariant.few in
    let b = c.piece_bytes-bytes.ensures.few in
    omega (arith, short, lt, a, b)

pub loop-piece-init : goal.loop-piece-init
unfolding bytes_behind
loop-piece-init c = record { bytes = refl; end = refl; few = omega arith }

pub loop-piece-preserved : goal.loop-piece-preserved
loop-piece-preserved c =
    let ps = c.args.pieces.now in
    let i = c.loop-piece.piece-index in
    let p = get_or ps i nothing in
    let lt = c.loop-piece-test.true in
    let more = take_more ps i nothing (omega (arith, lt)) in
    let inv = c.loop-piece.invariant in
    let a = inv.few in
    let b = c.piece_bytes-bytes.ensures.few in
    record {
      bytes = (λ j. inv.bytes j + (c.piece_bytes-bytes.ensures.bytes
          ∙ ap (λ e. part_bytes e (rank p.key) p.part) inv.end) j)
          ∙ sym (ap twig_bytes more ∙ bytes_more (take i ps) p);
      end = c.unit_end-end.ensures ∙ sym (ap (last_end None) more ∙ last_more None (take i ps) p);
      few = omega (arith, a, b);
    }
