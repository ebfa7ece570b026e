use Rattle.std.proofs.Common.{map, sym, subst, ◌++◌, ◌^◌}
use Rattle.std.specs.List.{flat_map}
use Rattle.std.specs.Prelude.{All}
use Rattle.r4_content.specs.Edited.{put_keys}
use Rattle.r4_content.specs.Held.{fill_pairs, interval_of, pair_of, run_pairs}
use Rattle.r4_twig_asks.specs.r4_leaf_edits.Suiting.{IsBefore, zero_pairs}
use Rattle.r4_twig_asks.proofs.r4_leaf_edits.Clipped.{all_left, all_right}
use Rattle.r4_twig_asks.proofs.r4_leaf_edits.Meant.{bytes_before}
use Rattle.r4_extent_asks.specs.Widening.{AddsChanges}
use Rattle.r4_extent_asks.proofs.Adding.{all_added}
use Rattle.r4_extent_asks.proofs.intervals.intervals_of.Goals as goal

pub add_fills-requires : goal.add_fills-requires
add_fills-requires c =
    let e = c.args.edits.now in
    let zs = flat_map zero_pairs (map interval_of e.zeros.items) in
    let fs = flat_map fill_pairs e.fills.items in
    let rs = flat_map run_pairs e.runs.items in
    subst (λ is. All (IsBefore (2 ^ 30)) (flat_map fill_pairs is)) (sym c.as_slice.ensures.value)
    (all_left (IsBefore (2 ^ 30)) fs rs (all_right (IsBefore (2 ^ 30)) zs (fs ++ rs) (bytes_before e (2 ^ 30) c.requires)))

pub add_runs-requires : goal.add_runs-requires
add_runs-requires c =
    let e = c.args.edits.now in
    let zs = flat_map zero_pairs (map interval_of e.zeros.items) in
    let fs = flat_map fill_pairs e.fills.items in
    let rs = flat_map run_pairs e.runs.items in
    subst (λ is. All (IsBefore (2 ^ 30)) (flat_map run_pairs is)) (sym c.as_slice-2.ensures.value)
    (all_right (IsBefore (2 ^ 30)) fs rs (all_right (IsBefore (2 ^ 30)) zs (fs ++ rs) (bytes_before e (2 ^ 30) c.requires)))

pub returns : goal.returns
returns c =
    let e = c.args.edits.now in
    let a = c.add_fills.new.keys.items in
    let b = c.add_runs.new.keys.items in
    let d = c.add_values.new.keys.items in
    let f = c.add_intervals.new.keys.items in
    all_added e a b d f c.add_intervals-2.new.keys.items
    (subst (λ zs. AddsChanges zs (put_keys (flat_map fill_pairs e.fills.items)) a) c.new-keys.ensures.items
    (subst (λ xs. AddsChanges c.new-keys.result.items (put_keys (flat_map fill_pairs xs)) a) c.as_slice.ensures.value
    c.in_ok-add_fills.ensures))
    (subst (λ xs. AddsChanges a (put_keys (flat_map run_pairs xs)) b) c.as_slice-2.ensures.value c.in_ok-add_runs.ensures)
    (subst (λ xs. AddsChanges b (put_keys (map pair_of xs)) d) c.as_slice-3.ensures.value c.in_ok-add_values.ensures)
    (subst (λ xs. AddsChanges d (map interval_of xs) f) c.as_slice-4.ensures.value c.in_ok-add_intervals.ensures)
    (subst (λ xs. AddsChanges f (map interval_of xs) c.add_intervals-2.new.keys.items) c.as_slice-5.ensures.value
    c.in_ok-add_intervals-2.ensures)
