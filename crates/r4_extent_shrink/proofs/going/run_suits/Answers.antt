use Rattle.std.proofs.Common.{◌≡◌, ◌+◌, ◌*◌, ◌-◌, Bool, List, map, sym, ap, ◌∙◌, arith}
use Rattle.std.specs.Prelude.{◌&&◌}
use Rattle.std.specs.Arc.{arc_value}
use Rattle.std.specs.List.{list_all}
use Rattle.r4_base.specs.Cell.{run_names}
use Rattle.r4_base.specs.Key.{rank}
use Rattle.r4_extent_growth.proofs.r4_graft.Halves.{later_rank}
use Rattle.r4_extent_growth.specs.r4_measure.r4_cell.Seen.{CellSeen}
use Rattle.r4_extent_shrink.specs.Going.{block_suits, name_suits}
use Rattle.r4_extent_shrink.proofs.Names.{run_next}
use Rattle.r4_extent_shrink.proofs.going.run_suits.Goals as goal

pub returns-then-not-block_suits : goal.returns-then-not-block_suits
returns-then-not-block_suits c =
    let cells : List CellSeen = map (λ x. arc_value x) c.args.cells.now in
    let from = rank c.args.gone.now.from in
    let to = rank c.args.gone.now.to in
    let k = rank c.args.key in
    let u = c.args.unit in
    let i = c.loop-i.i in
    let r = ap rank c.behind.ensures ∙ later_rank c.args.key _ in
    let at : rank c.behind.result ≡ k + 4096 * i = omega (arith, r) in
    let told = ap (λ x. block_suits from to cells x (u.start + i)) (sym at) ∙ (sym c.block_suits.ensures ∙ c.if-not-block_suits.true) in
    sym (c.loop-i.invariant ∙ (run_next (name_suits from to cells) k u.start u.width i c.loop-i-test.true
    ∙ ap (λ (v : Bool). v && list_all (name_suits from to cells) (run_names (k + 4096 * (i + 1)) (u.start + (i + 1)) (u.width - (i + 1)))) told))

pub loop-i-preserved : goal.loop-i-preserved
loop-i-preserved c =
    let cells : List CellSeen = map (λ x. arc_value x) c.args.cells.now in
    let from = rank c.args.gone.now.from in
    let to = rank c.args.gone.now.to in
    let k = rank c.args.key in
    let u = c.args.unit in
    let i = c.loop-i.i in
    let r = ap rank c.behind.ensures ∙ later_rank c.args.key _ in
    let at : rank c.behind.result ≡ k + 4096 * i = omega (arith, r) in
    let told = ap (λ x. block_suits from to cells x (u.start + i)) (sym at) ∙ (sym c.block_suits.ensures ∙ c.if-not-block_suits.false) in
    c.loop-i.invariant ∙ (run_next (name_suits from to cells) k u.start u.width i c.loop-i-test.true
    ∙ ap (λ (v : Bool). v && list_all (name_suits from to cells) (run_names (k + 4096 * (i + 1)) (u.start + (i + 1)) (u.width - (i + 1)))) told)
