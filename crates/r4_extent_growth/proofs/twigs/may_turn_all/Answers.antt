use Rattle.std.proofs.Common.{◌≡◌, inl, inr, ◌+◌, ◌<◌, ◌∷◌, List, drop, map, sym, ap, subst, ◌∙◌}
use Rattle.std.specs.Prelude.{Contains}
use Rattle.std.proofs.lemmas.Bool.{cases_lt}
use Rattle.std.specs.Arc.{arc_value}
use Rattle.r4_content.specs.Held.{edits_of}
use Rattle.r4_extent_change.specs.r4_measure.r4_cell.Seen.{CellSeen}
use Rattle.r4_extent_change.specs.r4_measure.r4_path.TwigPieces.{ArePiecesOf, twig_pieces}
use Rattle.r4_extent_change.specs.Beside.{turning_among}
use Rattle.r4_extent_growth.specs.Turning.{may_turn_all}
use Rattle.r4_extent_growth.proofs.AllTurn.{goes_on, needs_more, pieces_of_all, refused, rest_is}
use Rattle.r4_extent_growth.proofs.twigs.may_turn_all.Goals as goal

pub returns-in_default-clause-exact : goal.returns-in_default-clause-exact
returns-in_default-clause-exact c =
    let b = c.args.body.now in
    let e = edits_of c.args.edits.now in
    let i = c.loop-cell.cell-index in
    let left = c.loop-cell.left in
    let first = c.deref.result.now in
    let rest : List CellSeen = map (λ x. arc_value x) (drop (i + 1) c.args.cells.now) in
    let is : map (λ x. arc_value x) (drop i c.args.cells.now) ≡ first ∷ rest
    = rest_is (λ x. arc_value x) c.args.cells.now i _ c.loop-cell-test.true first (c.deref.ensures ∙ ap (λ x. arc_value x) c.cell-item.is) in
    let none = sym c.in_ok-count.ensures.exact ∙ c.in_default.is in
    sym (c.loop-cell.invariant.exact ∙ (ap (λ xs. may_turn_all b e xs left) is ∙ refused b e first rest left none))

pub returns-in_default-checked_sub-clause-exact : goal.returns-in_default-checked_sub-clause-exact
returns-in_default-checked_sub-clause-exact c =
    let b = c.args.body.now in
    let e = edits_of c.args.edits.now in
    let i = c.loop-cell.cell-index in
    let left = c.loop-cell.left in
    let first = c.deref.result.now in
    let rest : List CellSeen = map (λ x. arc_value x) (drop (i + 1) c.args.cells.now) in
    let is : map (λ x. arc_value x) (drop i c.args.cells.now) ≡ first ∷ rest
    = rest_is (λ x. arc_value x) c.args.cells.now i _ c.loop-cell-test.true first (c.deref.ensures ∙ ap (λ x. arc_value x) c.cell-item.is) in
    let count = sym c.in_ok-count.ensures.exact ∙ c.in-Some.is in
    let few : left < c.in-Some.count = elim (cases_lt left c.in-Some.count) [ inl lt ↦ lt | inr ge ↦ absurd (c.in_default-checked_sub.ensures ge) ] in
    sym (c.loop-cell.invariant.exact ∙ (ap (λ xs. may_turn_all b e xs left) is ∙ needs_more b e first rest c.in-Some.count left count few))

pub loop-cell-preserved : goal.loop-cell-preserved
loop-cell-preserved c =
    let b = c.args.body.now in
    let e = edits_of c.args.edits.now in
    let i = c.loop-cell.cell-index in
    let left = c.loop-cell.left in
    let first = c.deref.result.now in
    let rest : List CellSeen = map (λ x. arc_value x) (drop (i + 1) c.args.cells.now) in
    let is : map (λ x. arc_value x) (drop i c.args.cells.now) ≡ first ∷ rest
    = rest_is (λ x. arc_value x) c.args.cells.now i _ c.loop-cell-test.true first (c.deref.ensures ∙ ap (λ x. arc_value x) c.cell-item.is) in
    let count = sym c.in_ok-count.ensures.exact ∙ c.in-Some.is in
    let (enough, more) = c.in-Some-checked_sub.ensures in
    record {
      exact = c.loop-cell.invariant.exact ∙ (ap (λ xs. may_turn_all b e xs left) is
          ∙ (goes_on b e first rest c.in-Some.count left count enough ∙ ap (may_turn_all b e rest) (sym more)));
      pieces = λ others. c.loop-cell.invariant.pieces
          (subst (λ (xs : List CellSeen). (x : CellSeen) → Contains (turning_among b e xs) x → ArePiecesOf x (twig_pieces x)) (sym is)
          (pieces_of_all b e first rest c.in_ok-count.ensures.pieces others));
    }
