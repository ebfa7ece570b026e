use Rattle.std.proofs.Common.{map, sym, ap, refl, ◌∙◌, ◌++◌}
use Rattle.std.specs.Prelude.{Some}
use Rattle.std.specs.Option.{option_map}
use Rattle.r4_base.specs.Key.{rank}
use Rattle.r4_content.specs.Edited.{changed, put_keys}
use Rattle.r4_content.specs.Held.{edits_of, interval_of}
use Rattle.r4_leaf_demands.specs.r4_reach.Touched.{body_key}
use Rattle.r4_bodies.proofs.FirstKeys.{behind, here}
use Rattle.r4_bodies.proofs.finding.first_key.Goals as goal

pub returns-in-Some : goal.returns-in-Some
returns-in-Some c =
    let e = edits_of c.args.edits.now in
    here (put_keys e.puts) (e.zeros ++ e.cuts) (changed e) (rank c.in-Some.key) refl (sym c.in-Some.ensures)

pub returns-in-Some-first_of_intervals : goal.returns-in-Some-first_of_intervals
returns-in-Some-first_of_intervals c =
    let e = edits_of c.args.edits.now in
    let key = rank c.in-Some-first_of_intervals.key in
    let zeros = ap (λ xs. body_key (map interval_of xs)) c.as_slice.ensures.value in
    behind (put_keys e.puts) (e.zeros ++ e.cuts) (changed e) (Some key) refl (sym c.in_default.ensures)
    (here e.zeros e.cuts (e.zeros ++ e.cuts) key refl (sym (c.in-Some-first_of_intervals.ensures ∙ zeros)))

pub returns : goal.returns
returns c =
    let e = edits_of c.args.edits.now in
    let o = option_map rank c.first_of_intervals-2.result in
    let zeros = ap (λ xs. body_key (map interval_of xs)) c.as_slice.ensures.value in
    let cuts = ap (λ xs. body_key (map interval_of xs)) c.as_slice-2.ensures.value in
    behind (put_keys e.puts) (e.zeros ++ e.cuts) (changed e) o refl (sym c.in_default.ensures)
    (behind e.zeros e.cuts (e.zeros ++ e.cuts) o refl (sym (c.in_default-first_of_intervals.ensures ∙ zeros))
    (c.first_of_intervals-2.ensures ∙ cuts))
