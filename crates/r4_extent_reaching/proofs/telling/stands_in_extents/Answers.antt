use Rattle.std.proofs.Common.{◌+◌, ◌∙◌, List, [], ◌∷◌, length, nat_lt, subst, sym}
use Rattle.r4_base.specs.Key.{rank}
use Rattle.r4_content.specs.Edited.{is_between, is_in}
use Rattle.r4_content.specs.declared.seen.SeenPart.{SeenPart}
use Rattle.r4_reaching.proofs.r4_search.Walks.{goes_same, handed}
use Rattle.r4_reaching.specs.r4_touching.Touching.{AreHeld, StopsFor}
use Rattle.r4_reaching.proofs.r4_touching.Touched.{stops_one, stops_wider, touches_both, touches_wider}
use Rattle.r4_extent_touching.proofs.Held.{touches_looked}
use Rattle.r4_extent_reaching.specs.Telling.{IsKindTold}
use Rattle.r4_extent_reaching.proofs.Told.{extent_still, one_in_extent, shown_beside, to_key}
use Rattle.r4_extent_reaching.proofs.telling.stands_in_extents.Goals as goal

pub returns-in_err-touch-clause-err : goal.returns-in_err-touch-clause-err
returns-in_err-touch-clause-err g c =
    let key = rank c.args.key in
    let behind = rank c.key_after-behind.result in
    let old = g.P.Pool.state c.args.pool.now in
    let new = g.P.Pool.state c.touch.new.pool in
    handed (λ e. StopsFor (is_between key (key + 1)) old e new) c.from_residual.result c.in_err-touch.field-0.0
    c.from_residual.ensures.1
    (stops_wider (is_in ((key, behind) ∷ [])) (is_between key (key + 1)) old old new c.in_err-touch.field-0.0
    (to_key key behind c.key_after-behind.ensures) (goes_same old) c.in_err-touch.ensures.err)

pub returns-in_err-stretch-clause-touches : goal.returns-in_err-stretch-clause-touches
returns-in_err-stretch-clause-touches g c =
    let key = rank c.args.key in
    let behind = rank c.key_after-behind.result in
    let root = c.args.root.now in
    let old = g.P.Pool.state c.args.pool.now in
    let mid = g.P.Pool.state c.touch.new.pool in
    let new = g.P.Pool.state c.stretch_from.new.pool in
    touches_both root (is_between key (key + 1)) old mid new
    (touches_wider root (is_in ((key, behind) ∷ [])) (is_between key (key + 1)) old mid
    (to_key key behind c.key_after-behind.ensures) c.in_ok-touch.ensures.touches)
    (touches_looked root key mid new (λ level. c.in_ok-touch.ensures.touches.goes.keeps level ∙ c.requires.keeps level)
    c.requires.from c.requires.below c.in_err-stretch.ensures.goes c.in_err-stretch.ensures.looks)

pub returns-in_err-stretch-clause-err : goal.returns-in_err-stretch-clause-err
returns-in_err-stretch-clause-err g c =
    let key = rank c.args.key in
    let old = g.P.Pool.state c.args.pool.now in
    let mid = g.P.Pool.state c.touch.new.pool in
    let new = g.P.Pool.state c.stretch_from.new.pool in
    handed (λ e. StopsFor (is_between key (key + 1)) old e new) c.from_residual-in_err-stretch.result
    c.in_err-stretch.field-0.0 c.from_residual-in_err-stretch.ensures.1
    (stops_wider (is_between key (key + 1)) (is_between key (key + 1)) old mid new c.in_err-stretch.field-0.0
    (λ k at. at) c.in_ok-touch.ensures.touches.goes
    (stops_one key mid new c.in_err-stretch.field-0.0 c.requires.from c.requires.below c.in_err-stretch.ensures.goes
    c.in_err-stretch.ensures.err))

pub returns-clause-touches : goal.returns-clause-touches
returns-clause-touches g c =
    let key = rank c.args.key in
    let behind = rank c.key_after-behind.result in
    let root = c.args.root.now in
    let old = g.P.Pool.state c.args.pool.now in
    let mid = g.P.Pool.state c.touch.new.pool in
    let new = g.P.Pool.state c.stretch_from.new.pool in
    touches_both root (is_between key (key + 1)) old mid new
    (touches_wider root (is_in ((key, behind) ∷ [])) (is_between key (key + 1)) old mid
    (to_key key behind c.key_after-behind.ensures) c.in_ok-touch.ensures.touches)
    (touches_looked root key mid new (λ level. c.in_ok-touch.ensures.touches.goes.keeps level ∙ c.requires.keeps level)
    c.requires.from c.requires.below c.in_ok-stretch.ensures.goes c.in_ok-stretch.ensures.looks)

pub returns-clause-told : goal.returns-clause-told
returns-clause-told g c =
    let key = rank c.args.key in
    let behind = rank c.key_after-behind.result in
    let mid = g.P.Pool.state c.touch.new.pool in
    let new = g.P.Pool.state c.stretch_from.new.pool in
    let goes = c.in_ok-stretch.ensures.goes in
    let extent = one_in_extent key behind c.key_after-behind.ensures mid
    (subst (AreHeld mid (is_in ((key, behind) ∷ []))) c.if-branch.false c.in_ok-touch.ensures.held) in
    subst (λ (xs : List SeenPart). IsKindTold new key (nat_lt 0 (length xs))) (sym c.as_slice.ensures.value)
    (shown_beside mid new key behind c.in_ok-stretch.stretch c.key_after-behind.ensures
    (λ level. goes.keeps level ∙ (c.in_ok-touch.ensures.touches.goes.keeps level ∙ c.requires.keeps level))
    (extent_still mid new key goes extent) c.in_ok-stretch.ensures.stretch)
