use Rattle.std.proofs.Common.{◌++◌, ◌∙◌, ap, map, subst, sym}
use Rattle.std.specs.Arc.{arc_value}
use Rattle.r4_base.specs.Key.{rank}
use Rattle.r4_measure.specs.r4_cell.declared.change.Change.{Change}
use Rattle.r4_twig_work.proofs.Regrafted.{regraft_below, regraft_does, regraft_made, regraft_next, regraft_path, regraft_working}
use Rattle.r4_twig_work.proofs.regrafting.regraft.Goals as goal
use Rattle.r4_twig_work.specs.Regrafting.{beside_of}
use Rattle.r4_measure.proofs.r4_work.Ranges.{kept_by_place}
use Rattle.r4_measure.specs.r4_work.Working.{IsNextEdit, IsPutInPlace, now_of, root_of}

pub graft_below-requires-clause-path : goal.graft_below-requires-clause-path
graft_below-requires-clause-path c =
    let (t, (r, (first, is))) = c.requires.can in
    let up = ap (map (λ x. arc_value x)) c.as_slice.ensures.value ∙ c.in_ok-path.ensures t r c.args.fresh.now is.working in (
      now_of c.args.set.now t,
      (
        root_of c.args.set.now r,
        regraft_path t r c.args.fresh.now c.args.set.now (rank c.args.key.now) c.args.pieces.now (beside_of c.args.below) first is
            (map (λ x. arc_value x) c.as_slice.result.now) up,
      ),
    )

pub put_in_place-requires : goal.put_in_place-requires
put_in_place-requires c =
    let (t, (r, (first, is))) = c.requires.can in
    let w = c.args.set.now in
    let x = beside_of c.args.below in
    let cells = map (λ x. arc_value x) c.as_slice.result.now in
    let up = ap (map (λ x. arc_value x)) c.as_slice.ensures.value ∙ c.in_ok-path.ensures t r c.args.fresh.now is.working in
    let at = regraft_below t r c.args.fresh.now w (rank c.args.key.now) c.args.pieces.now x first is cells up in
    let d : Change = record c.in_ok-change.change { new = c.in_ok-change.change.new ++ x.blocks } in
    let next : IsNextEdit t r w c.args.fresh.now c.graft_below.new.fresh d =
    regraft_next t r c.args.fresh.now w (rank c.args.key.now) c.args.pieces.now x first is cells up c.graft_below.new.fresh
    c.in_ok-change.change (c.in_ok-change.ensures.change (now_of w t) (root_of w r) x.blocks first at)
    (c.in_ok-change.ensures.meets (now_of w t) (root_of w r) x.blocks first at) c.in_ok-change.ensures.grafts c.graft_below.ensures.numbers in
    kept_by_place t r c.args.fresh.now w is.working c.graft_below.new.fresh c.in_ok-change-2.change
    (subst (IsNextEdit t r w c.args.fresh.now c.graft_below.new.fresh) (sym c.in_ok-change-2.ensures) next)

pub returns-clause-working : goal.returns-clause-working
returns-clause-working c t r first is =
    let w = c.args.set.now in
    let x = beside_of c.args.below in
    let cells = map (λ x. arc_value x) c.as_slice.result.now in
    let up = ap (map (λ x. arc_value x)) c.as_slice.ensures.value ∙ c.in_ok-path.ensures t r c.args.fresh.now is.working in
    let at = regraft_below t r c.args.fresh.now w (rank c.args.key.now) c.args.pieces.now x first is cells up in
    regraft_working t r c.args.fresh.now w (rank c.args.key.now) c.args.pieces.now x first is cells up c.graft_below.new.fresh
    c.in_ok-change.change (c.in_ok-change.ensures.change (now_of w t) (root_of w r) x.blocks first at)
    (c.in_ok-change.ensures.meets (now_of w t) (root_of w r) x.blocks first at) c.in_ok-change.ensures.grafts c.graft_below.ensures.numbers
    c.put_in_place.new.self (subst (λ (d : Change). IsPutInPlace w d c.put_in_place.new.self) c.in_ok-change-2.ensures c.in_ok-put_in_place.ensures.done)

pub returns-clause-effect : goal.returns-clause-effect
returns-clause-effect c t r first is =
    let w = c.args.set.now in
    let x = beside_of c.args.below in
    let cells = map (λ x. arc_value x) c.as_slice.result.now in
    let up = ap (map (λ x. arc_value x)) c.as_slice.ensures.value ∙ c.in_ok-path.ensures t r c.args.fresh.now is.working in
    let at = regraft_below t r c.args.fresh.now w (rank c.args.key.now) c.args.pieces.now x first is cells up in
    regraft_does t r c.args.fresh.now w (rank c.args.key.now) c.args.pieces.now x first is cells up c.graft_below.new.fresh
    c.in_ok-change.change (c.in_ok-change.ensures.change (now_of w t) (root_of w r) x.blocks first at)
    (c.in_ok-change.ensures.meets (now_of w t) (root_of w r) x.blocks first at) c.in_ok-change.ensures.grafts c.graft_below.ensures.numbers
    c.put_in_place.new.self (subst (λ (d : Change). IsPutInPlace w d c.put_in_place.new.self) c.in_ok-change-2.ensures c.in_ok-put_in_place.ensures.done)

pub returns-clause-regrafted : goal.returns-clause-regrafted
returns-clause-regrafted c t r first is =
    let w = c.args.set.now in
    let x = beside_of c.args.below in
    let cells = map (λ x. arc_value x) c.as_slice.result.now in
    let up = ap (map (λ x. arc_value x)) c.as_slice.ensures.value ∙ c.in_ok-path.ensures t r c.args.fresh.now is.working in
    let at = regraft_below t r c.args.fresh.now w (rank c.args.key.now) c.args.pieces.now x first is cells up in
    regraft_made t r c.args.fresh.now w (rank c.args.key.now) c.args.pieces.now x first is cells up c.graft_below.new.fresh
    c.in_ok-change.change (c.in_ok-change.ensures.change (now_of w t) (root_of w r) x.blocks first at)
    (c.in_ok-change.ensures.meets (now_of w t) (root_of w r) x.blocks first at) c.in_ok-change.ensures.grafts c.graft_below.ensures.numbers
    c.put_in_place.new.self (subst (λ (d : Change). IsPutInPlace w d c.put_in_place.new.self) c.in_ok-change-2.ensures c.in_ok-put_in_place.ensures.done)
