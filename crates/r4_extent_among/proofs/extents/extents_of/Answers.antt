use Rattle.std.proofs.Common.{◌≡◌, ◌+◌, [], ◌++◌, List, ap, arith, length, map, sym, ◌∙◌}
use Rattle.std.specs.Prelude.{drop}
use Rattle.std.proofs.lemmas.List.{append-nil, append_assoc, drop_all}
use Rattle.r4_base.specs.Cell.{spans_in}
use Rattle.r4_base.specs.Key.{rank}
use Rattle.r4_base.specs.Node.{items_of}
use Rattle.r4_base.specs.Tree.{Span}
use Rattle.r4_extent_build.specs.r4_leaf_demands.Touching.{span_of, spans_at}
use Rattle.r4_extent_build.proofs.r4_extent_demands.r4_bodies.r4_search.Places.{item_in}
use Rattle.r4_extent_build.proofs.r4_extent_demands.Puts.{cell_spans, spans_next, spans_nil}
use Rattle.r4_extent_among.proofs.extents.extents_of.Goals as goal

pub loop-i-preserved : goal.loop-i-preserved
loop-i-preserved c =
    let x = c.args.twig.now in
    let i = c.loop-i.i in
    let old = c.loop-i.ranges.items in
    let within = c.loop-i-test.true in
    let count = c.len-i-end.ensures in
    let same = ap length c.node-node.ensures.items in
    let (it, is) = item_in (items_of x.block) i (omega (arith, within, count, same)) in
    ap (λ (ss : List Span). ss ++ spans_in (rank x.hi) (drop (i + 1) (items_of x.block)))
    (c.in_ok-add_extent.ensures it is)
    ∙ append_assoc (map span_of old) (spans_at x i it) (spans_in (rank x.hi) (drop (i + 1) (items_of x.block)))
    ∙ ap (λ (ss : List Span). map span_of old ++ ss) (sym (spans_next x i it is)) ∙ c.loop-i.invariant

pub returns : goal.returns
returns c =
    let x = c.args.twig.now in
    let i = c.loop-i.i in
    let ranges = c.loop-i.ranges.items in
    let past = c.loop-i-test.false in
    let count = c.len-i-end.ensures in
    let same = ap length c.node-node.ensures.items in
    let none : spans_in (rank x.hi) (drop i (items_of x.block)) ≡ []
    = ap (spans_in (rank x.hi)) (drop_all i (items_of x.block) (omega (arith, past, count, same)))
    ∙ spans_nil (rank x.hi) in
    sym (append-nil (map span_of ranges)) ∙ ap (λ (ss : List Span). map span_of ranges ++ ss) (sym none)
    ∙ c.loop-i.invariant ∙ sym (cell_spans x c.requires)
