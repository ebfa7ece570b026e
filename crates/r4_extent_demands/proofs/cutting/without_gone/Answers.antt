use Rattle.std.proofs.Common.{[], ◌∷◌, ◌++◌, List, map, not, ◌&&◌, get_or, sym, ap, take, ◌∙◌, arith}
use Rattle.std.specs.List.{list_any}
use Rattle.std.proofs.lemmas.List.{take_more}
use Rattle.std.proofs.lemmas.List.Elements.{filter-append}
use Rattle.r4_graft.specs.r4_branch.declared.piece.TwigPart.TheVariants.{Pointer}
use Rattle.r4_graft.specs.r4_branch.declared.piece.TwigPiece.{TwigPiece}
use Rattle.r4_bodies.specs.r4_marking.Marks.{heard_seen}
use Rattle.r4_bodies.specs.r4_leaf_edits.r4_reach.Needs.{points_to, without_gone}
use Rattle.r4_extent_demands.proofs.cutting.without_gone.Goals as goal

-- what stands for no piece
abbrev nothing : TwigPiece
nothing = record { key = record { el = [] }; part = Pointer (record { 0 = 0 }) }

pub loop-piece-preserved : goal.loop-piece-preserved
loop-piece-preserved c =
    let ps = c.args.pieces.now in
    let hs = map heard_seen c.args.heard.now in
    let i = c.loop-piece.piece-index in
    let p = get_or ps i nothing in
    let lt = c.loop-piece-test.true in
    c.in_ok-add_unless_gone.ensures
    ∙ ap (λ (qs : List TwigPiece). qs ++ without_gone hs (p ∷ [])) c.loop-piece.invariant
    ∙ sym (ap (without_gone hs) (take_more ps i nothing (omega (arith, lt)))
    ∙ filter-append (λ q. not (list_any (λ h. h.1.gone && points_to h.0.id q.part) hs)) (take i ps) (p ∷ []))
