use Rattle.std.proofs.Common.{◌-◌, sym, subst, arith, length, map, take}
use Rattle.std.proofs.lemmas.Result.{IfOk-weaker}
use Rattle.std.specs.Prelude.{reverse}
use Rattle.std.specs.Arc.{arc_value}
use Rattle.r4_path.specs.Levels.{step_of}
use Rattle.r4_edit.specs.Splitting.{IsPartedUp, PartsUp}
use Rattle.r4_edit.proofs.Parted.{final_change, final_meets, final_parts, some_path, step_starts}
use Rattle.r4_path.proofs.Upwards.{last_first, long_above}
use Rattle.r4_edit.proofs.splitting.split.Goals as goal

pub part-requires-clause-node : goal.part-requires-clause-node
part-requires-clause-node c =
    let (t, (r, is)) = c.requires.path in
    let path = c.args.path.now in
    let up = last_first arc_value path c.index-path-count.result
    (some_path t r c.args.fresh.now arc_value path is) c.index-path-count.is in
    let parted = subst (IsPartedUp t r c.args.fresh.now) up is in
    parted.path.part.nodes _ _ parted.path.ascends.0

pub rise-requires : goal.rise-requires
rise-requires c =
    let (t, (r, is)) = c.requires.path in
    let path = c.args.path.now in
    let some = some_path t r c.args.fresh.now arc_value path is in
    let up = last_first arc_value path c.index-path-count.result some c.index-path-count.is in
    let parted = subst (IsPartedUp t r c.args.fresh.now) up is in
    let long = long_above arc_value path some in
    let n = c.requires.numbers in
    step_starts (arc_value c.index-path-count.result)
    (reverse (map arc_value (take (length path - 1) path))) c.args.fresh.now c.part.new.fresh
    (step_of c.in_ok-first.first) c.in_ok-first.ensures.parted
    t r parted n.0 (omega (arith, n, long)) (omega arith)

pub returns-clause-change : goal.returns-clause-change
returns-clause-change c =
    let (t, (r, is)) = c.requires.path in
    let path = c.args.path.now in
    let some = some_path t r c.args.fresh.now arc_value path is in
    let up = last_first arc_value path c.index-path-count.result some c.index-path-count.is in
    let parted = subst (IsPartedUp t r c.args.fresh.now) up is in
    IfOk-weaker c.rise.result _ _ (λ d rises.
    final_change (arc_value c.index-path-count.result)
    (reverse (map arc_value (take (length path - 1) path))) c.args.fresh.now c.part.new.fresh
    (step_of c.in_ok-first.first) c.in_ok-first.ensures.parted
    c.rise.new.fresh d rises t r parted) c.rise.ensures.rises

pub returns-clause-meets : goal.returns-clause-meets
returns-clause-meets c =
    let (t, (r, is)) = c.requires.path in
    let path = c.args.path.now in
    let some = some_path t r c.args.fresh.now arc_value path is in
    let up = last_first arc_value path c.index-path-count.result some c.index-path-count.is in
    IfOk-weaker c.rise.result _ _ (λ d rises t2 r2 is2.
    final_meets (arc_value c.index-path-count.result)
    (reverse (map arc_value (take (length path - 1) path))) c.args.fresh.now c.part.new.fresh
    (step_of c.in_ok-first.first) c.in_ok-first.ensures.parted
    c.rise.new.fresh d rises t2 r2 (subst (IsPartedUp t2 r2 c.args.fresh.now) up is2)) c.rise.ensures.rises

pub returns-clause-splits : goal.returns-clause-splits
returns-clause-splits c =
    let (t, (r, is)) = c.requires.path in
    let path = c.args.path.now in
    let some = some_path t r c.args.fresh.now arc_value path is in
    let up = last_first arc_value path c.index-path-count.result some c.index-path-count.is in
    IfOk-weaker c.rise.result _ _ (λ d rises.
    subst (PartsUp c.args.fresh.now c.rise.new.fresh d) (sym up)
    (final_parts (arc_value c.index-path-count.result)
    (reverse (map arc_value (take (length path - 1) path))) c.args.fresh.now c.part.new.fresh
    (step_of c.in_ok-first.first) c.in_ok-first.ensures.parted
    c.rise.new.fresh d rises)) c.rise.ensures.rises
