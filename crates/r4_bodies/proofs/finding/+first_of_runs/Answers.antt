use Rattle.std.proofs.Common.{sym, subst, ap, ◌∙◌, ◌^◌, ℕ, List, length, rules}
use Rattle.std.specs.List.{flat_map}
use Rattle.std.specs.Prelude.{All, ◌==◌}
use Rattle.r4_base.specs.Key.{rank}
use Rattle.r4_content.specs.Edited.{put_keys}
use Rattle.r4_content.specs.Held.{run_pairs}
use Rattle.r4_leaf_demands.specs.r4_leaf_edits.Suiting.{IsBefore}
use Rattle.r4_leaf_demands.proofs.r4_leaf_edits.Clipped.{all_left, all_right}
use Rattle.r4_bodies.proofs.FirstKeys.{here, keys_both, run_first, some_bytes}
use Rattle.r4_bodies.proofs.finding.+first_of_runs.Goals as goal

pub first_of_runs-requires : goal.first_of_runs-requires
first_of_runs-requires t c = (
  search rules,
  all_right (IsBefore (2 ^ 64)) (run_pairs c.in-Some.first.now) (flat_map run_pairs c.in-Some.rest.now)
      (subst (All (IsBefore (2 ^ 64))) (ap (flat_map run_pairs) c.in-Some.ensures.cases.0) c.requires),
)

pub returns-else-is_empty : goal.returns-else-is_empty
returns-else-is_empty t c =
    let r = c.in-Some.first.now in
    let rest = flat_map run_pairs c.in-Some.rest.now in
    let is = ap (flat_map run_pairs) c.in-Some.ensures.cases.0 in
    let some = some_bytes (length r.bytes)
    (ap (λ (xs : List ℕ). length xs == 0) (sym c.as_slice.ensures) ∙ sym c.is_empty.ensures ∙ c.if-is_empty.false) in
    here (put_keys (run_pairs r)) (put_keys rest) (put_keys (flat_map run_pairs c.args.runs.now)) (rank r.from)
    (keys_both (run_pairs r) rest (flat_map run_pairs c.args.runs.now) is)
    (run_first (2 ^ 64) r
    (all_left (IsBefore (2 ^ 64)) (run_pairs r) rest (subst (All (IsBefore (2 ^ 64))) is c.requires)) some)
