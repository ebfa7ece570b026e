use Rattle.std.proofs.Common.{◌≡◌, ◌++◌, List, ap, map, sym, ◌∙◌}
use Rattle.std.specs.Arc.{arc_value}
use Rattle.std.specs.List.{list_all}
use Rattle.std.proofs.lemmas.Bool.{and_from}
use Rattle.r4_content.specs.Edited.{Intervals}
use Rattle.r4_content.specs.Held.{edits_of, interval_of}
use Rattle.r4_lost_tasks.specs.r4_extent_growth.r4_measure.r4_cell.Seen.{CellSeen}
use Rattle.r4_grown_tasks.specs.Places.{bytes_lie, have_first, lies, places, put_lies, still}
use Rattle.r4_grown_tasks.proofs.LyingBytes.{have}
use Rattle.r4_grown_tasks.proofs.places.bytes_have_places.Goals as goal

pub returns-clause-have : goal.returns-clause-have
returns-clause-have c = λ on.
    (let b = c.args.body.now in
    let e = edits_of c.args.edits.now in
    let reads : List CellSeen = map (λ x. arc_value x) c.args.reads.now in
    let cells : List CellSeen = map (λ x. arc_value x) c.args.cells.now in
    let ps : Intervals = places b e cells in
    let ss : Intervals = still b reads in
    let both : map interval_of c.add_still.new.places.items ≡ ps ++ ss =
    c.in_ok-add_still.ensures.added ∙ ap (λ (rs : Intervals). rs ++ ss) c.in_ok-places.ensures in
    have b e reads cells c.in_ok-add_still.ensures.read (and_from (have_first b e cells) (bytes_lie ps ss e)
    (sym c.have_first.ensures ∙ c.if-not-have_first.false)
    (and_from (list_all (put_lies ps) e.puts) (list_all (lies (ps ++ ss)) e.zeros)
    (ap (λ (rs : Intervals). list_all (put_lies rs) e.puts) (sym c.in_ok-places.ensures)
    ∙ (ap (λ xs. list_all (put_lies (map interval_of xs)) e.puts) (sym c.as_slice.ensures.value)
    ∙ (sym c.puts_lie.ensures ∙ c.if-not-puts_lie.false)))
    (ap (λ (rs : Intervals). list_all (lies rs) e.zeros) (sym both)
    ∙ (ap (λ xs. list_all (lies (map interval_of xs)) e.zeros) (sym c.as_slice-2.ensures.value)
    ∙ (ap (λ zs. list_all (lies (map interval_of c.as_slice-2.result.now)) (map interval_of zs)) (sym c.as_slice-3.ensures.value)
    ∙ (sym c.zeros_lie.ensures ∙ on)))))))
