use Rattle.std.proofs.Common.{◌≡◌, ◌+◌, ◌-◌, ◌*◌, ap, arith, length, map, sym, ◌∙◌}
use Rattle.std.specs.Option.{option_copied}
use Rattle.std.specs.Prelude.{◌==◌, if◌then◌else◌}
use Rattle.r4_units.specs.r4_cell.Seen.{node_of}
use Rattle.r4_twig_asks.proofs.r4_leaf_demands.Weighed.{little}
use Rattle.r4_twig_asks.specs.r4_marking.Marks.{heard_seen, most_for}
use Rattle.r4_twig_asks.specs.r4_reach.Needs.{asking, node_need, over}
use Rattle.r4_extent_asks.proofs.Naming.{as_many, asks_are, at_most, need_is, over_less, some_few}
use Rattle.r4_extent_asks.proofs.nodes.node_asks.Goals as goal

pub all_more-requires : goal.all_more-requires
all_more-requires c =
    let x = c.args.cell.now in
    let fits = c.node_bytes.ensures.fits in
    let items = c.node_bytes.ensures.few in
    let few = c.requires.few in
    let less = little x.level c.args.heard.now c.node_bytes.ensures.level
    (omega (arith, fits, items, few)) c.requires.small in
    let all = less.all in
    let most = less.most in
    omega (arith, all, most)

pub overflow_mul-bytes : goal.overflow_mul-bytes
overflow_mul-bytes c =
    let x = c.args.cell.now in
    let fits = c.node_bytes.ensures.fits in
    let items = c.node_bytes.ensures.few in
    let few = c.requires.few in
    let less = little x.level c.args.heard.now c.node_bytes.ensures.level
    (omega (arith, fits, items, few)) c.requires.small in
    let all = less.all in
    let most = less.most in
    let more = c.all_more.ensures in
    omega (arith, all, most, more)

pub overflow_add-bytes : goal.overflow_add-bytes
overflow_add-bytes c =
    let x = c.args.cell.now in
    let fits = c.node_bytes.ensures.fits in
    let items = c.node_bytes.ensures.few in
    let few = c.requires.few in
    let less = little x.level c.args.heard.now c.node_bytes.ensures.level
    (omega (arith, fits, items, few)) c.requires.small in
    let all = less.all in
    let most = less.most in
    let more = c.all_more.ensures in
    omega (arith, fits, all, most, more)

pub overflow_mul-left : goal.overflow_mul-left
overflow_mul-left c =
    let fits = c.node_bytes.ensures.fits in
    let items = c.node_bytes.ensures.few in
    let few = c.requires.few in
    let gone = c.all_gone-gone.ensures.few in
    let less = at_most c.comes_into-comes.result c.all_gone-gone.result in
    let is = c.left_out-left.ensures in
    omega (arith, fits, items, few, gone, less, is)

pub over-requires : goal.over-requires
over-requires c =
    let x = c.args.cell.now in
    let fits = c.node_bytes.ensures.fits in
    let items = c.node_bytes.ensures.few in
    let few = c.requires.few in
    let less = little x.level c.args.heard.now c.node_bytes.ensures.level
    (omega (arith, fits, items, few)) c.requires.small in
    let all = less.all in
    let most = less.most in
    let more = c.all_more.ensures in
    let is = c.saturating_sub.ensures in
    omega (arith, fits, all, most, more, is)

pub returns-clause-asks : goal.returns-clause-asks
returns-clause-asks c =
    let x = c.args.cell.now in
    let b = option_copied c.args.body in
    let hs = map heard_seen c.args.heard.now in
    let comes = c.comes_into-comes.ensures in
    let need : c.saturating_sub.result ≡ node_need b (node_of x) hs = c.saturating_sub.ensures
    ∙ (λ i. c.node_bytes.ensures.weight i + 46 * c.all_more.ensures i
    - 46 * (c.left_out-left.ensures ∙ ap (λ n. if c.comes_into-comes.result then n else 0) c.all_gone-gone.ensures.count) i)
    ∙ sym (need_is b x hs c.comes_into-comes.result comes) in
    let count : c.len.result ≡ length (node_of x).names = c.len.ensures ∙ ap length c.node.ensures.items
    ∙ sym (as_many x c.requires.node c.node.ensures.whole c.node.ensures.stands) in
    c.asking_for.ensures.asks ∙ ap (λ t. asking c.moves.result (record { more = c.over.result; gone = t })) c.is_gone-goes.ensures
    ∙ asks_are b x hs c.moves.result c.comes_into-comes.result (c.len.result == c.all_gone-gone.result) c.over.result
    c.moves.ensures comes (c.over.ensures ∙ ap over need) (λ i. count i == c.all_gone-gone.ensures.count i)

pub returns-clause-small : goal.returns-clause-small
returns-clause-small c =
    let x = c.args.cell.now in
    let fits = c.node_bytes.ensures.fits in
    let items = c.node_bytes.ensures.few in
    let few = c.requires.few in
    let less = little x.level c.args.heard.now c.node_bytes.ensures.level
    (omega (arith, fits, items, few)) c.requires.small in
    let all = less.all in
    let most = less.most in
    some_few c.asking_for.result c.over.result (most_for (x.level + 1))
    (over_less x.level _ c.node_bytes.result (46 * c.left_out-left.result) c.over.result less fits
    (c.over.ensures ∙ ap over (c.saturating_sub.ensures
    ∙ ap (λ n. c.node_bytes.result + 46 * n - 46 * c.left_out-left.result) c.all_more.ensures))) c.asking_for.ensures.more
