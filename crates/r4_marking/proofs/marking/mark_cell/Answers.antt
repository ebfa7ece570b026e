use Rattle.std.proofs.Common.{◌≡◌, map, refl, ap, ◌∙◌, ◌∷◌, [], ◌++◌}
use Rattle.std.specs.Arc.{arc_value}
use Rattle.r4_search.specs.r4_cell.Seen.{CellSeen}
use Rattle.r4_search.proofs.Walks.{map_push}
use Rattle.r4_marking.specs.Marks.{asks_seen}
use Rattle.r4_marking.proofs.Marked.{one_left, one_read, one_written}
use Rattle.r4_marking.proofs.marking.mark_cell.Goals as goal

pub returns-in_ok-push : goal.returns-in_ok-push
returns-in_ok-push g c = (
  refl,
  one_written (g.D.Demands.demand c.args.demands.now) (asks_seen c.args.asks.now.entries) c.args.beside.now (arc_value c.args.cell.now) c.deref.result.now c.deref.ensures (map (λ x. arc_value x) c.args.marks.now.reads.items) (map (λ x. arc_value x) c.args.marks.now.writes.items) c.in_ok-is_written.field-0 c.in_ok-is_written.ensures
      (map (λ x. arc_value x) c.push.new.self.items) c.if-branch.true
      (map_push (λ x. arc_value x) c.args.marks.now.writes.items c.push.new.self.items c.in_ok-try_clone.field-0 c.in_ok-push.ensures.items ∙ ap (λ (y : CellSeen). map (λ x. arc_value x) c.args.marks.now.writes.items ++ y ∷ []) c.in_ok-try_clone.ensures),
)

pub returns-in_ok-push-2 : goal.returns-in_ok-push-2
returns-in_ok-push-2 g c = (
  refl,
  one_read (g.D.Demands.demand c.args.demands.now) (asks_seen c.args.asks.now.entries) c.args.beside.now (arc_value c.args.cell.now) c.deref.result.now c.deref.ensures (map (λ x. arc_value x) c.args.marks.now.reads.items) (map (λ x. arc_value x) c.args.marks.now.writes.items) c.in_ok-is_written.field-0 c.in_ok-is_written.ensures
      c.deref-else-branch.result.now c.deref-else-branch.ensures c.reads_at.result c.reads_at.ensures
      (map (λ x. arc_value x) c.push-then-reads_at.new.self.items) c.if-branch.false c.if-reads_at.true
      (map_push (λ x. arc_value x) c.args.marks.now.reads.items c.push-then-reads_at.new.self.items c.in_ok-try_clone-2.field-0 c.in_ok-push-2.ensures.items ∙ ap (λ (y : CellSeen). map (λ x. arc_value x) c.args.marks.now.reads.items ++ y ∷ []) c.in_ok-try_clone-2.ensures),
)

pub returns-else-reads_at : goal.returns-else-reads_at
returns-else-reads_at g c = (
  refl,
  one_left (g.D.Demands.demand c.args.demands.now) (asks_seen c.args.asks.now.entries) c.args.beside.now (arc_value c.args.cell.now) c.deref.result.now c.deref.ensures (map (λ x. arc_value x) c.args.marks.now.reads.items) (map (λ x. arc_value x) c.args.marks.now.writes.items) c.in_ok-is_written.field-0 c.in_ok-is_written.ensures
      c.deref-else-branch.result.now c.deref-else-branch.ensures c.reads_at.result c.reads_at.ensures c.if-branch.false c.if-reads_at.false,
)
