use Rattle.std.proofs.Common.{◌≡◌, ◌+◌, ◌≤◌, ℕ, length, map, take, ap, sym, ◌∙◌, subst, arith, List}
use Rattle.std.specs.Arc.{arc_value}
use Rattle.std.specs.Option.{option_map}
use Rattle.std.proofs.lemmas.List.{length-map}
use Rattle.std.specs.Prelude.{sum_by}
use Rattle.r4_search.specs.r4_cell.Patch.{by_name, root_of_pair}
use Rattle.r4_search.specs.r4_cell.Seen.{CellSeen}
use Rattle.r4_reach.specs.Leaves.{more_of}
use Rattle.r4_marking.specs.Marks.{AddsMark, ask_seen, asks_seen}
use Rattle.r4_marking.proofs.Asked.{at_place}
use Rattle.r4_marking.proofs.Marked.{AreMarking, all_taken, asked_in_all, marked, marking_more, taken_more}
use Rattle.r4_marking.proofs.marking.mark.Goals as goal

pub loop-cell-preserved : goal.loop-cell-preserved
loop-cell-preserved g c =
    let d = g.D.Demands.demand c.args.demands.now in
    let f = asks_seen c.in_ok-asks.asks.entries in
    let cells : List CellSeen = map (λ x. arc_value x) c.args.met.now in
    let reads : List CellSeen = map (λ x. arc_value x) c.loop-cell.marks.reads.items in
    let writes : List CellSeen = map (λ x. arc_value x) c.loop-cell.marks.writes.items in
    let more_reads : List CellSeen = map (λ x. arc_value x) c.mark_cell.new.marks.reads.items in
    let more_writes : List CellSeen = map (λ x. arc_value x) c.mark_cell.new.marks.writes.items in
    let cell : CellSeen = arc_value c.cell-item.result in (
      ap (option_map ask_seen) c.in_ok-mark_cell.ensures.0 ∙ c.loop-cell.invariant.0,
      subst (λ (xs : List CellSeen). AreMarking d f c.in_ok-beside.beside.items xs more_reads more_writes)
          (sym (taken_more c.loop-cell.cell-index cells cell (at_place (λ x. arc_value x) c.args.met.now c.loop-cell.cell-index c.cell-item.result cell c.loop-cell-test.true (ap (λ x. arc_value x) c.cell-item.is))))
          (marking_more d f c.in_ok-beside.beside.items (take c.loop-cell.cell-index cells) reads writes more_reads more_writes cell c.loop-cell.invariant.1
          (subst (λ (ids : List ℕ). AddsMark d f ids cell reads writes more_reads more_writes) c.deref.ensures.value c.in_ok-mark_cell.ensures.1)),
    )

pub returns-clause-marks : goal.returns-clause-marks
returns-clause-marks g c =
    let d = g.D.Demands.demand c.args.demands.now in
    let f = asks_seen c.in_ok-asks.asks.entries in
    let cells : List CellSeen = map (λ x. arc_value x) c.args.met.now in
    let reads : List CellSeen = map (λ x. arc_value x) c.loop-cell.marks.reads.items in
    let writes : List CellSeen = map (λ x. arc_value x) c.loop-cell.marks.writes.items in
    let past = c.loop-cell-test.false in
    let long : length (map (λ x. arc_value x) c.args.met.now) ≡ length c.args.met.now = length-map c.args.met.now (λ x. arc_value x) in
    marked d cells (root_of_pair c.args.root.now) c.requires f c.in_ok-asks.ensures c.in_ok-beside.beside.items c.in_ok-beside.ensures reads writes (option_map ask_seen c.loop-cell.marks.rises)
    (subst (λ (xs : List CellSeen). AreMarking d f c.in_ok-beside.beside.items xs reads writes) (all_taken c.loop-cell.cell-index cells (omega (arith, past, long))) c.loop-cell.invariant.1) c.loop-cell.invariant.0

pub returns-clause-more : goal.returns-clause-more
returns-clause-more g c =
    let d = g.D.Demands.demand c.args.demands.now in
    let f = asks_seen c.in_ok-asks.asks.entries in
    let cells : List CellSeen = map (λ x. arc_value x) c.args.met.now in
    let reads : List CellSeen = map (λ x. arc_value x) c.loop-cell.marks.reads.items in
    let writes : List CellSeen = map (λ x. arc_value x) c.loop-cell.marks.writes.items in
    let past = c.loop-cell-test.false in
    let long : length (map (λ x. arc_value x) c.args.met.now) ≡ length c.args.met.now =
    length-map c.args.met.now (λ x. arc_value x) in
    let m = marked d cells (root_of_pair c.args.root.now) c.requires f c.in_ok-asks.ensures c.in_ok-beside.beside.items
    c.in_ok-beside.ensures reads writes (option_map ask_seen c.loop-cell.marks.rises)
    (subst (λ (xs : List CellSeen). AreMarking d f c.in_ok-beside.beside.items xs reads writes)
    (all_taken c.loop-cell.cell-index cells (omega (arith, past, long))) c.loop-cell.invariant.1)
    c.loop-cell.invariant.0 in
    subst (λ xs. c.in_ok-more.more ≡ sum_by (λ x. more_of (f x.id)) (map (λ x. arc_value x) xs)) c.deref-2.ensures.value
    c.in_ok-more.ensures
    ∙ asked_in_all d (by_name cells) f cells writes c.in_ok-asks.ensures (λ x at. ((m.written.are x).0 at).0)
