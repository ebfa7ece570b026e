use Rattle.std.proofs.Common.{◌-◌, sym, subst, arith, length, map, take}
use Rattle.std.proofs.lemmas.Result.{IfOk-weaker}
use Rattle.std.specs.Prelude.{reverse}
use Rattle.std.specs.Arc.{arc_value}
use Rattle.r4_patch.specs.r4_cell.Seen.{CellSeen}
use Rattle.r4_path.specs.Grafts.{AreTwigsOf, GraftsUp, IsGraftedUp}
use Rattle.r4_path.specs.Levels.{step_of}
use Rattle.r4_path.proofs.Grafted.{graft_grafts, graft_starts, some_grafted}
use Rattle.r4_path.proofs.Upwards.{last_first}
use Rattle.r4_path.proofs.grafting.graft.Goals as goal

pub rise-requires : goal.rise-requires
rise-requires c =
    let (t, (r, is)) = c.requires.path in
    let path = c.args.path.now in
    let qs = c.args.pieces.now in
    let some = some_grafted t r qs c.args.fresh.now arc_value path is in
    let up = last_first arc_value path c.index-path-count.result some c.index-path-count.is in
    let at = subst (IsGraftedUp t r qs c.args.fresh.now) up is in
    let are = subst (λ (x : CellSeen). AreTwigsOf x qs c.in_ok-twigs.twigs.items) c.deref.ensures c.in_ok-twigs.ensures in
    graft_starts (arc_value c.index-path-count.result) (reverse (map arc_value (take (length path - 1) path))) qs
    c.args.fresh.now c.twig_level.new.fresh (step_of c.in_ok-lowest.lowest)
    (c.in_ok-lowest.ensures.step qs are.packs are.few are.mkfs_id) t r at c.requires.numbers (omega arith)

pub returns-clause-grafts : goal.returns-clause-grafts
returns-clause-grafts c =
    let (t, (r, is)) = c.requires.path in
    let path = c.args.path.now in
    let qs = c.args.pieces.now in
    let some = some_grafted t r qs c.args.fresh.now arc_value path is in
    let up = last_first arc_value path c.index-path-count.result some c.index-path-count.is in
    let are = subst (λ (x : CellSeen). AreTwigsOf x qs c.in_ok-twigs.twigs.items) c.deref.ensures c.in_ok-twigs.ensures in
    IfOk-weaker c.rise.result _ _ (λ d rises.
    subst (GraftsUp qs c.args.fresh.now c.rise.new.fresh d) (sym up)
    (graft_grafts (arc_value c.index-path-count.result) (reverse (map arc_value (take (length path - 1) path))) qs
    c.args.fresh.now c.twig_level.new.fresh (step_of c.in_ok-lowest.lowest)
    (c.in_ok-lowest.ensures.step qs are.packs are.few are.mkfs_id) c.rise.new.fresh d rises)) c.rise.ensures.rises
