use Rattle.std.proofs.Common.{◌≡◌, ◌∙◌, ◌+◌, ◌-◌, ap, sym, subst, arith, rules, length, map, List, take}
use Rattle.std.proofs.lemmas.Result.{IfOk-weaker}
use Rattle.std.specs.Prelude.{option_map, reverse, Some}
use Rattle.std.specs.Arc.{arc_value}
use Rattle.r4_patch.specs.r4_cell.Seen.{CellSeen}
use Rattle.r4_path.specs.Levels.{CanClimb, Climbed, step_of}
use Rattle.r4_path.specs.Nodes.{IsPointingTo}
use Rattle.r4_path.specs.Steps.{Step}
use Rattle.r4_path.proofs.CellNodes.{long_map}
use Rattle.r4_path.proofs.Upwards.{ends_root, goes_on, last_first, none_above, pushed, went_on}
use Rattle.r4_path.proofs.climbing.+climb.Goals as goal

pub climb-requires : goal.climb-requires
climb-requires t c =
    let above = c.args.above.now in
    let up = last_first arc_value above c.index-above-count.result c.if-count-eq0.false c.index-above-count.is in
    let two : length c.args.level.new ≡ 1
    → ⊥ = λ one. c.if-as_slice-eq1.false
    (let long = long_map arc_value c.as_slice.result.now in let same = ap length c.as_slice.ensures in
    omega (arith, long, same, one)) in (
      search rules,
      goes_on (step_of c.args.level) (arc_value c.index-above-count.result)
          (reverse (map arc_value (take (length above - 1) above))) c.args.fresh.now
          (subst (λ ups. CanClimb (step_of c.args.level) ups c.args.fresh.now) up c.requires) two c.over.new.fresh
          (step_of c.in_ok-next.next) c.in_ok-next.ensures.step,
    )

pub returns-clause-climbed : goal.returns-clause-climbed
returns-clause-climbed t c =
    let above = c.args.above.now in
    let up = last_first arc_value above c.index-above-count.result c.if-count-eq0.false c.index-above-count.is in
    let two : length c.args.level.new ≡ 1
    → ⊥ = λ one. c.if-as_slice-eq1.false
    (let long = long_map arc_value c.as_slice.result.now in let same = ap length c.as_slice.ensures in
    omega (arith, long, same, one)) in
    let more = pushed step_of c.args.levels.now.items c.push-2.new.self.items c.args.level c.in_ok-push-3.ensures.items in
    IfOk-weaker c.climb.result _ _ (λ over done.
    subst (λ (ups : List CellSeen). Climbed (step_of c.args.level) ups c.args.fresh.now c.climb.new.fresh
    (map step_of c.args.levels.now.items) (map step_of c.climb.new.levels.items) (option_map (λ x. arc_value x) over))
    (sym up)
    (went_on (step_of c.args.level) (arc_value c.index-above-count.result)
    (reverse (map arc_value (take (length above - 1) above))) c.args.fresh.now
    (subst (λ ups. CanClimb (step_of c.args.level) ups c.args.fresh.now) up c.requires) two c.over.new.fresh
    (step_of c.in_ok-next.next) c.in_ok-next.ensures.step
    c.climb.new.fresh (map step_of c.args.levels.now.items) (map step_of c.climb.new.levels.items)
    (option_map (λ x. arc_value x) over)
    (subst (λ (were : List Step). Climbed (step_of c.in_ok-next.next)
    (reverse (map arc_value (take (length above - 1) above))) c.over.new.fresh c.climb.new.fresh were
    (map step_of c.climb.new.levels.items) (option_map (λ x. arc_value x) over)) more done))) c.climb.ensures.climbed

pub returns-then-count-eq0-clause-climbed : goal.returns-then-count-eq0-clause-climbed
returns-then-count-eq0-clause-climbed t c =
    let none = none_above arc_value c.args.above.now c.if-count-eq0.true in
    let two : length c.args.level.new ≡ 1
    → ⊥ = λ one. c.if-as_slice-eq1.false
    (let long = long_map arc_value c.as_slice.result.now in let same = ap length c.as_slice.ensures in
    omega (arith, long, same, one)) in
    let more = pushed step_of c.args.levels.now.items c.push-then-count-eq0.new.self.items c.args.level c.in_ok-push-2.ensures.items in
    let level = c.level.ensures ∙ ap (λ (x : CellSeen). x.level) c.deref.ensures in
    subst (λ (ups : List CellSeen). Climbed (step_of c.args.level) ups c.args.fresh.now c.root_over.new.fresh
    (map step_of c.args.levels.now.items) (map step_of c.push-then-count-eq0.new.self.items)
    (Some (arc_value c.in_ok-root.root))) (sym none)
    (ends_root (step_of c.args.level) c.args.fresh.now
    (subst (λ ups. CanClimb (step_of c.args.level) ups c.args.fresh.now) none c.requires) two c.root_over.new.fresh
    (map step_of c.args.levels.now.items) (map step_of c.push-then-count-eq0.new.self.items) (arc_value c.in_ok-root.root)
    (subst (λ l. IsPointingTo c.args.level.new (l + 1) c.args.fresh.now.next (arc_value c.in_ok-root.root)) level
    (subst (λ cells. IsPointingTo cells (c.level.result + 1) c.args.fresh.now.next
    (arc_value c.in_ok-root.root)) c.as_slice-then-count-eq0.ensures c.in_ok-root.ensures.root))
    c.in_ok-root.ensures.fresh more)
