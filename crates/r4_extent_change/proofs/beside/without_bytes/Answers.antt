use Rattle.std.proofs.Common.{◌≡◌, ◌++◌, map, not, sym, ap, ◌∙◌}
use Rattle.std.specs.List.{filter, flat_map}
use Rattle.r4_content.specs.Held.{fill_pairs, interval_of, pair_of, run_pairs}
use Rattle.r4_build.specs.r4_leaf_edits.Suiting.{is_byte}
use Rattle.r4_build.specs.r4_measure.r4_reach.Reach.{is_body}
use Rattle.r4_extent_change.proofs.NoBytes.{values_left}
use Rattle.r4_extent_change.proofs.beside.without_bytes.Goals as goal

pub returns : goal.returns
returns c =
    let e = c.args.edits.now in
    let cuts : map interval_of c.cut_each.new.cuts.items ≡ filter (λ r. not (is_body r.0)) (map interval_of e.cuts.items)
    = c.in_ok-cut_each.ensures ∙ (ap (λ xs. map interval_of xs ++ filter (λ r. not (is_body r.0)) (map interval_of c.as_slice.result.now)) c.new-cuts.ensures.items
    ∙ ap (λ xs. filter (λ r. not (is_body r.0)) (map interval_of xs)) c.as_slice.ensures.value) in
    let puts : map pair_of c.put_each.new.puts.items ≡ filter (λ p. not (is_byte p.1)) (map pair_of e.puts.items)
    = c.in_ok-put_each.ensures ∙ (ap (λ xs. map pair_of xs ++ filter (λ p. not (is_byte p.1)) (map pair_of c.as_slice-2.result.now)) c.new-puts.ensures.items
    ∙ ap (λ xs. filter (λ p. not (is_byte p.1)) (map pair_of xs)) c.as_slice-2.ensures.value) in
    let values = (λ i. flat_map fill_pairs (c.new-2.ensures.items i) ++ (flat_map run_pairs (c.new-3.ensures.items i) ++ puts i)) ∙ sym (values_left e.fills.items e.runs.items (map pair_of e.puts.items)) in
    λ i. record { cuts = cuts i; zeros = map interval_of (c.new.ensures.items i); puts = values i }
