use Rattle.std.proofs.Common.{[], ◌∷◌, ◌++◌, List, ap, arith, get_or, sym, take, ◌∙◌}
use Rattle.std.specs.List.{flat_map}
use Rattle.std.proofs.lemmas.Grind.{flat_map-append}
use Rattle.std.proofs.lemmas.List.{append-nil, take_more}
use Rattle.r4_graft.specs.r4_branch.declared.piece.TwigPart.TheVariants.{Pointer}
use Rattle.r4_graft.specs.r4_branch.declared.piece.TwigPiece.{TwigPiece}
use Rattle.r4_content.specs.Held.{edits_of}
use Rattle.r4_bodies.specs.r4_leaf_edits.r4_reach.Needs.{filled}
use Rattle.r4_extent_demands.proofs.piecing.fill_each.Goals as goal

-- what stands for no piece
abbrev nothing : TwigPiece
nothing = record { key = record { el = [] }; part = Pointer (record { 0 = 0 }) }

pub loop-piece-preserved : goal.loop-piece-preserved
loop-piece-preserved c =
    let fill = filled c.args.body.now (edits_of c.args.edits.now) in
    let ps = c.args.pieces.now in
    let i = c.loop-piece.piece-index in
    let p = get_or ps i nothing in
    let lt = c.loop-piece-test.true in
    c.in_ok-add_filled.ensures ∙ ap (λ (qs : List TwigPiece). qs ++ fill p) c.loop-piece.invariant
    ∙ sym (ap (flat_map fill) (take_more ps i nothing (omega (arith, lt))) ∙ flat_map-append fill (take i ps) (p ∷ [])
    ∙ ap (λ (qs : List TwigPiece). flat_map fill (take i ps) ++ qs) (append-nil (fill p)))
