use Rattle.std.proofs.Common.{◌≡◌, ◌+◌, ◌*◌, ap, arith, false, length, map, sym, true, ◌∙◌}
use Rattle.std.specs.Option.{option_copied}
use Rattle.std.specs.Prelude.{Bool, nat_lt, ◌&&◌, ◌||◌, ◌==◌}
use Rattle.std.proofs.lemmas.Bool.{or_parts}
use Rattle.r4_base.specs.Key.{rank}
use Rattle.r4_base.specs.Node.{items_of}
use Rattle.r4_extent_demands.specs.r4_branch.Pieces.{twig_bytes}
use Rattle.r4_extent_demands.specs.r4_cell.Seen.{node_of}
use Rattle.r4_content.specs.Held.{edits_of}
use Rattle.r4_extent_demands.specs.r4_marking.Marks.{heard_seen}
use Rattle.r4_extent_demands.specs.r4_marking.r4_reach.Needs.{come_of, meets, pieces_after, put_among}
use Rattle.r4_extent_demands.specs.Changing.{changes_units}
use Rattle.r4_twig_asks.proofs.Asks.{asks_are, few_below, low_suit, need_items, need_pieces, some_few}
use Rattle.r4_twig_asks.proofs.asking.twig_asks.Goals as goal

pub all_more-more-requires : goal.all_more-more-requires
all_more-more-requires c =
    let less = (few_below c.args.heard.now c.node_bytes-items.result (length (items_of c.args.twig.now.block))
    c.node_bytes-items.ensures.fits c.node_bytes-items.ensures.few c.requires.few c.requires.small).0 in
    omega (arith, less)

pub overflow_mul-need : goal.overflow_mul-need
overflow_mul-need c =
    let less = (few_below c.args.heard.now c.node_bytes-items.result (length (items_of c.args.twig.now.block))
    c.node_bytes-items.ensures.fits c.node_bytes-items.ensures.few c.requires.few c.requires.small).0 in
    let more = c.all_more-more.ensures in
    omega (arith, less, more)

pub overflow_add-need : goal.overflow_add-need
overflow_add-need c =
    let less = (few_below c.args.heard.now c.node_bytes-items.result (length (items_of c.args.twig.now.block))
    c.node_bytes-items.ensures.fits c.node_bytes-items.ensures.few c.requires.few c.requires.small).0 in
    let more = c.all_more-more.ensures in
    let fits = c.node_bytes-items.ensures.fits in
    omega (arith, less, more, fits)

pub more_for-requires-clause-bytes : goal.more_for-requires-clause-bytes
more_for-requires-clause-bytes c =
    let less = (few_below c.args.heard.now c.node_bytes-items.result (length (items_of c.args.twig.now.block))
    c.node_bytes-items.ensures.fits c.node_bytes-items.ensures.few c.requires.few c.requires.small).0 in
    let more = c.all_more-more.ensures in
    let fits = c.node_bytes-items.ensures.fits in
    omega (arith, less, more, fits)

pub returns-then-not-is_packed-clause-asks : goal.returns-then-not-is_packed-clause-asks
returns-then-not-is_packed-clause-asks c =
    let x = c.args.twig.now in
    let b = option_copied c.args.body in
    let e = edits_of c.args.edits.now in
    let n = node_of c.args.twig.now in
    let hs = map heard_seen c.args.heard.now in
    let off : ((nat_lt 0 (put_among b e n) || changes_units b e n) || meets (rank x.lo) (rank x.hi) (come_of b)) ≡ false
    = sym (λ i. (nat_lt 0 (c.in_ok-put.ensures.count i) || c.changes_some-changes.ensures i) || c.comes_into-comes.ensures i)
    ∙ sym c.is_packed.ensures ∙ c.if-not-is_packed.true in
    let apart = (or_parts (nat_lt 0 (put_among b e n) || changes_units b e n) (meets (rank x.lo) (rank x.hi) (come_of b)) off).1 in
    let need = (λ i. c.node_bytes-items.ensures.weight i + 46 * c.all_more-more.ensures i) ∙ sym (need_items b e x hs off) in
    c.asking_for.ensures.asks ∙ asks_are b e x hs c.moves-moves.result (c.node_bytes-items.result + 46 * c.all_more-more.result)
    c.more_for.result false c.moves-moves.ensures need c.more_for.ensures.more
    (sym (ap (λ (t : Bool). t && (length (pieces_after b e n hs) == 0)) apart))

pub returns-then-not-is_packed-clause-small : goal.returns-then-not-is_packed-clause-small
returns-then-not-is_packed-clause-small c =
    let (less, count, few) = few_below c.args.heard.now c.node_bytes-items.result (length (items_of c.args.twig.now.block))
    c.node_bytes-items.ensures.fits c.node_bytes-items.ensures.few c.requires.few c.requires.small in
    let more = c.all_more-more.ensures in
    let fits = c.node_bytes-items.ensures.fits in
    some_few c.asking_for.result c.more_for.result 32768 (c.more_for.ensures.small (omega (arith, less, more, fits)) count)
    c.asking_for.ensures.more

pub overflow_add-need-2 : goal.overflow_add-need-2
overflow_add-need-2 c =
    let (less, count, few) = few_below c.args.heard.now c.node_bytes-items.result (length (items_of c.args.twig.now.block))
    c.node_bytes-items.ensures.fits c.node_bytes-items.ensures.few c.requires.few c.requires.small in
    let more = c.all_more-more.ensures in
    let put = c.in_ok-put.ensures.few in
    omega (arith, less, more, few, put)

pub overflow_mul-need-2 : goal.overflow_mul-need-2
overflow_mul-need-2 c =
    let (less, count, few) = few_below c.args.heard.now c.node_bytes-items.result (length (items_of c.args.twig.now.block))
    c.node_bytes-items.ensures.fits c.node_bytes-items.ensures.few c.requires.few c.requires.small in
    let more = c.all_more-more.ensures in
    let put = c.in_ok-put.ensures.few in
    omega (arith, less, more, few, put)

pub overflow_add-need-3 : goal.overflow_add-need-3
overflow_add-need-3 c =
    let (less, count, few) = few_below c.args.heard.now c.node_bytes-items.result (length (items_of c.args.twig.now.block))
    c.node_bytes-items.ensures.fits c.node_bytes-items.ensures.few c.requires.few c.requires.small in
    let more = c.all_more-more.ensures in
    let put = c.in_ok-put.ensures.few in
    let most = c.in_ok-made.ensures.few (low_suit (option_copied c.args.body) (edits_of c.args.edits.now) c.requires.edits.suit) in
    let bytes = c.twig_bytes.ensures ∙ ap twig_bytes c.as_slice-pieces.ensures.value in
    omega (arith, less, more, few, put, most, bytes)

pub more_for-requires-2-clause-bytes : goal.more_for-requires-2-clause-bytes
more_for-requires-2-clause-bytes c =
    let (less, count, few) = few_below c.args.heard.now c.node_bytes-items.result (length (items_of c.args.twig.now.block))
    c.node_bytes-items.ensures.fits c.node_bytes-items.ensures.few c.requires.few c.requires.small in
    let more = c.all_more-more.ensures in
    let put = c.in_ok-put.ensures.few in
    let most = c.in_ok-made.ensures.few (low_suit (option_copied c.args.body) (edits_of c.args.edits.now) c.requires.edits.suit) in
    let bytes = c.twig_bytes.ensures ∙ ap twig_bytes c.as_slice-pieces.ensures.value in
    omega (arith, less, more, few, put, most, bytes)

pub returns-clause-asks : goal.returns-clause-asks
returns-clause-asks c =
    let x = c.args.twig.now in
    let b = option_copied c.args.body in
    let e = edits_of c.args.edits.now in
    let n = node_of c.args.twig.now in
    let hs = map heard_seen c.args.heard.now in
    let on : ((nat_lt 0 (put_among b e n) || changes_units b e n) || meets (rank x.lo) (rank x.hi) (come_of b)) ≡ true
    = sym (λ i. (nat_lt 0 (c.in_ok-put.ensures.count i) || c.changes_some-changes.ensures i) || c.comes_into-comes.ensures i)
    ∙ sym c.is_packed.ensures ∙ c.if-not-is_packed.false in
    let pieces : c.as_slice-pieces.result.now ≡ pieces_after b e n hs = c.as_slice-pieces.ensures.value
    ∙ c.in_ok-made.ensures.pieces in
    let bytes = c.twig_bytes.ensures ∙ ap twig_bytes pieces in
    let need = (λ i. bytes i + 46 * (c.all_more-more.ensures i + c.in_ok-put.ensures.count i))
    ∙ sym (need_pieces b e x hs on) in
    let gone = c.is_gone-gone.ensures ∙ (λ i. c.comes_into-comes.ensures i && (length (pieces i) == 0)) in
    c.asking_for-2.ensures.asks ∙ asks_are b e x hs c.moves-moves.result
    (c.twig_bytes.result + 46 * (c.all_more-more.result + c.in_ok-put.put)) c.more_for-2.result c.is_gone-gone.result
    c.moves-moves.ensures need c.more_for-2.ensures.more gone

pub returns-clause-small : goal.returns-clause-small
returns-clause-small c =
    let (less, count, few) = few_below c.args.heard.now c.node_bytes-items.result (length (items_of c.args.twig.now.block))
    c.node_bytes-items.ensures.fits c.node_bytes-items.ensures.few c.requires.few c.requires.small in
    let more = c.all_more-more.ensures in
    let put = c.in_ok-put.ensures.few in
    let most = c.in_ok-made.ensures.few (low_suit (option_copied c.args.body) (edits_of c.args.edits.now) c.requires.edits.suit) in
    let bytes = c.twig_bytes.ensures ∙ ap twig_bytes c.as_slice-pieces.ensures.value in
    some_few c.asking_for-2.result c.more_for-2.result 32768
    (c.more_for-2.ensures.small (omega (arith, less, more, few, put, most, bytes)) count) c.asking_for-2.ensures.more
