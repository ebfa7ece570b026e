use Rattle.std.proofs.Common.{length, arith, ◌++◌, List, ℕ, ap, sym, ◌∙◌, rules}
use Rattle.std.specs.List.{flat_map}
use Rattle.std.proofs.lemmas.Result.{on_ok_weaker}
use Rattle.r4_base.specs.Key.{rank}
use Rattle.r4_content.specs.Held.{run_pairs}
use Rattle.r4_content.specs.Objects.{byte_pairs}
use Rattle.r4_leaf_edits.specs.Suiting.{IsBefore}
use Rattle.r4_leaf_edits.proofs.Few.{grows_both, grows_none}
use Rattle.r4_leaf_edits.proofs.OneByOne.{rest_of, sets_all}
use Rattle.r4_leaf_edits.proofs.making.+set_runs.Goals as goal

pub set_runs-requires : goal.set_runs-requires
set_runs-requires t c = (
  search rules,
  rest_of (IsBefore 16384) (run_pairs c.in-Some.first.now) (flat_map run_pairs c.in-Some.rest.now) (flat_map run_pairs c.args.runs.now) (ap (flat_map run_pairs) c.in-Some.ensures.cases.0) c.requires,
)

pub returns-in_ok-set_run-in-Some-clause-gains : goal.returns-in_ok-set_run-in-Some-clause-gains
returns-in_ok-set_run-in-Some-clause-gains t c =
    let rest = flat_map run_pairs c.in-Some.rest.now in
    on_ok_weaker c.set_runs.result
    (sets_all (rank c.args.range.now.from) (rank c.args.range.now.to) (byte_pairs (rank c.in-Some.first.now.from) c.as_slice.result.now) rest (flat_map run_pairs c.args.runs.now) c.args.made.now c.set_run.new.edits c.set_runs.new.made
    (ap (flat_map run_pairs) c.in-Some.ensures.cases.0 ∙ ap (λ (bs : List ℕ). byte_pairs (rank c.in-Some.first.now.from) bs ++ rest) (sym c.as_slice.ensures)) c.in_ok-set_run-in-Some.ensures.gains) c.set_runs.ensures.gains

pub returns-in_ok-set_run-in-Some-clause-few : goal.returns-in_ok-set_run-in-Some-clause-few
returns-in_ok-set_run-in-Some-clause-few t c =
    let n = c.in-Some.ensures.cases.1 in
    on_ok_weaker c.set_runs.result
    (grows_both 1 (length c.in-Some.rest.now) (length c.args.runs.now) c.args.made.now c.set_run.new.edits c.set_runs.new.made (omega (arith, n)) c.in_ok-set_run-in-Some.ensures.few) c.set_runs.ensures.few

pub returns-in-None-clause-few : goal.returns-in-None-clause-few
returns-in-None-clause-few t c = grows_none (length c.args.runs.now) c.args.made.now
