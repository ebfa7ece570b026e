use Rattle.std.proofs.Common.{map, sym, subst}
use Rattle.std.specs.Arc.{arc_value}
use Rattle.r4_cell.specs.Patch.{by_name, root_of_pair}
use Rattle.std.specs.Prelude.{All}
use Rattle.r4_judging.specs.Judging.{HangTogether, IsSound}
use Rattle.r4_touching.specs.r4_patch.Part.{IsPart}
use Rattle.r4_search.specs.Keeping.{keeping_state, met_in}
use Rattle.r4_reaching.specs.Gathering.{AreAllMet}
use Rattle.r4_reaching.proofs.Listed.{as_marked, hang_as_met, same_store}
use Rattle.r4_reaching.proofs.parting.part_met.Goals as goal

-- src/parting.rt:36:5
pub judge-requires : goal.judge-requires
judge-requires g c =
    let p = keeping_state (g.P.Pool.state c.args.pool.now.pool) c.args.pool.now.all c.args.pool.now.met.entries in
    let cells = map (λ x. arc_value x) c.in_ok-cells.cells.items in
    let all = subst (λ m. AreAllMet (met_in m.entries) cells) c.met.ensures c.in_ok-cells.ensures.all in
    subst (λ xs. HangTogether c.args.root.now (map (λ x. arc_value x) xs)) (sym c.as_slice.ensures.value)
    (hang_as_met p c.args.root.now cells c.requires.hung all c.requires.height c.requires.some)

-- src/parting.rt:19:1
pub returns : goal.returns
returns g c =
    let p = keeping_state (g.P.Pool.state c.args.pool.now.pool) c.args.pool.now.all c.args.pool.now.met.entries in
    let cells = map (λ x. arc_value x) c.in_ok-cells.cells.items in
    let all = subst (λ m. AreAllMet (met_in m.entries) cells) c.met.ensures c.in_ok-cells.ensures.all in
    record {
      all = all;
      store = same_store p c.args.root.now cells c.requires.hung all;
      order = c.in_ok-cells.ensures.order;
      met = as_marked p c.args.root.now cells all c.in_ok-cells.ensures.order
          (subst (λ xs. IsPart (by_name (map (λ x. arc_value x) xs)) (root_of_pair c.args.root.now))
          c.as_slice.ensures.value c.in_ok-judge.ensures.judged);
      sound = subst (λ xs. All IsSound (map (λ x. arc_value x) xs)) c.as_slice.ensures.value c.in_ok-judge.ensures.sound;
    }
