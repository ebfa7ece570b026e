use Rattle.std.proofs.Common.{◌+◌, length, arith, ap, ◌++◌, map, subst, sym}
use Rattle.std.specs.Prelude.{All}
use Rattle.std.specs.List.{flat_map}
use Rattle.std.proofs.lemmas.Result.{on_ok_weaker}
use Rattle.r4_base.specs.Key.{rank}
use Rattle.r4_content.specs.Edited.{Pairs}
use Rattle.r4_content.specs.Held.{fill_pairs, interval_of, run_pairs}
use Rattle.r4_content.specs.declared.edits.Edits.{Edits}
use Rattle.r4_leaf_edits.specs.Making.{Sets}
use Rattle.r4_leaf_edits.specs.Suiting.{IsBefore, zero_pairs}
use Rattle.r4_leaf_edits.proofs.Few.{grows_both, grows_less}
use Rattle.r4_leaf_edits.proofs.Clipped.{all_left, all_right}
use Rattle.r4_leaf_edits.proofs.Gained.{sets_both}
use Rattle.r4_leaf_edits.proofs.making.set_bytes.Goals as goal

abbrev zs : Edits → Pairs
zs e = flat_map zero_pairs (map interval_of e.zeros.items)

abbrev fs : Edits → Pairs
fs e = flat_map fill_pairs e.fills.items

abbrev rs : Edits → Pairs
rs e = flat_map run_pairs e.runs.items

pub zero_each-requires : goal.zero_each-requires
zero_each-requires c =
    subst (λ is. All (IsBefore 16384) (flat_map zero_pairs (map interval_of is))) (sym c.as_slice.ensures.value)
    (all_left (IsBefore 16384) (zs c.args.edits.now) (fs c.args.edits.now ++ rs c.args.edits.now) c.requires)

pub fill_each-requires : goal.fill_each-requires
fill_each-requires c =
    subst (λ is. All (IsBefore 16384) (flat_map fill_pairs is)) (sym c.as_slice-2.ensures.value)
    (all_left (IsBefore 16384) (fs c.args.edits.now) (rs c.args.edits.now) (all_right (IsBefore 16384) (zs c.args.edits.now) (fs c.args.edits.now ++ rs c.args.edits.now) c.requires))

pub set_runs-requires : goal.set_runs-requires
set_runs-requires c =
    subst (λ is. All (IsBefore 16384) (flat_map run_pairs is)) (sym c.as_slice-3.ensures.value)
    (all_right (IsBefore 16384) (fs c.args.edits.now) (rs c.args.edits.now) (all_right (IsBefore 16384) (zs c.args.edits.now) (fs c.args.edits.now ++ rs c.args.edits.now) c.requires))

pub returns-clause-gains : goal.returns-clause-gains
returns-clause-gains c =
    let lo = rank c.args.range.now.from in
    let hi = rank c.args.range.now.to in
    let e = c.args.edits.now in
    let z = subst (λ is. Sets lo hi (flat_map zero_pairs (map interval_of is)) c.args.made.now c.zero_each.new.made) c.as_slice.ensures.value c.in_ok-zero_each.ensures.gains in
    let f = subst (λ is. Sets lo hi (flat_map fill_pairs is) c.zero_each.new.made c.fill_each.new.made) c.as_slice-2.ensures.value c.in_ok-fill_each.ensures.gains in
    on_ok_weaker c.set_runs.result
    (λ (r : Sets lo hi (flat_map run_pairs c.as_slice-3.result.now) c.fill_each.new.made c.set_runs.new.made).
    sets_both lo hi (zs e) (fs e ++ rs e) c.args.made.now c.zero_each.new.made c.set_runs.new.made z
    (sets_both lo hi (fs e) (rs e) c.zero_each.new.made c.fill_each.new.made c.set_runs.new.made f
    (subst (λ is. Sets lo hi (flat_map run_pairs is) c.fill_each.new.made c.set_runs.new.made) c.as_slice-3.ensures.value r))) c.set_runs.ensures.gains

pub returns-clause-few : goal.returns-clause-few
returns-clause-few c =
    let e = c.args.edits.now in
    let a = ap length c.as_slice.ensures.value in
    let b = ap length c.as_slice-2.ensures.value in
    let d = ap length c.as_slice-3.ensures.value in
    on_ok_weaker c.set_runs.result
    (λ r. grows_both (length e.zeros.items) (length e.fills.items + length e.runs.items) (length e.zeros.items + (length e.fills.items + length e.runs.items)) c.args.made.now c.zero_each.new.made c.set_runs.new.made (omega arith)
    (grows_less (length c.as_slice.result.now) (length e.zeros.items) c.args.made.now c.zero_each.new.made (omega (arith, a)) c.in_ok-zero_each.ensures.few)
    (grows_both (length c.as_slice-2.result.now) (length c.as_slice-3.result.now) (length e.fills.items + length e.runs.items) c.zero_each.new.made c.fill_each.new.made c.set_runs.new.made (omega (arith, b, d)) c.in_ok-fill_each.ensures.few r)) c.set_runs.ensures.few
