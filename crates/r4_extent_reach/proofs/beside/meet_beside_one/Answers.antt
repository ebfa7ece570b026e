use Rattle.std.proofs.Common.{◌≡◌, arith, sym, true, ◌∙◌}
use Rattle.std.proofs.lemmas.Result.{IfErr-weaker}
use Rattle.r4_base.specs.Key.{rank}
use Rattle.r4_content.specs.Held.{edits_of}
use Rattle.r4_extent_reaching.specs.r4_extent_touching.Holding.{StopsLeft}
use Rattle.r4_extent_reach.specs.Meeting.{turns_of}
use Rattle.r4_extent_reach.proofs.LeftMet.{turns_twig}
use Rattle.r4_extent_reach.proofs.beside.meet_beside_one.Goals as goal

pub touch_left-requires-clause-level : goal.touch_left-requires-clause-level
touch_left-requires-clause-level g c =
    let d = c.args.demands.now in
    let on : turns_of d c.args.cell.now ≡ true = sym c.turns.ensures ∙ c.if-not-turns.false in
    let two = turns_twig d.body (edits_of d.edits) d.changes c.args.cell.now on in
    omega (arith, two)

pub returns-clause-only : goal.returns-clause-only
returns-clause-only g c = λ i x is was.
    let on : turns_of c.args.demands.now c.args.cell.now ≡ true = sym c.turns.ensures ∙ c.if-not-turns.false in
    let (n, named, at, same) = c.touch_left.ensures.only i x is was in
    (on, (n, named, same))

pub returns-clause-err : goal.returns-clause-err
returns-clause-err g c =
    let on : turns_of c.args.demands.now c.args.cell.now ≡ true = sym c.turns.ensures ∙ c.if-not-turns.false in
    let old = g.P.Pool.state c.args.pool.now in
    let new = g.P.Pool.state c.touch_left.new.pool in
    IfErr-weaker c.touch_left.result (λ e. StopsLeft c.args.cell.now (rank c.args.at.now) old e new)
    (λ e. (turns_of c.args.demands.now c.args.cell.now ≡ true) × StopsLeft c.args.cell.now (rank c.args.at.now) old e new)
    (λ e s. (on, s)) c.touch_left.ensures.err
