use Rattle.std.proofs.Common.{◌≡◌, ◌+◌, ◌*◌, map, ap, sym, ◌∙◌, arith, ℕ}
use Rattle.r4_cell.specs.Seen.{node_of}
use Rattle.r4_content.specs.Bodies.{larger}
use Rattle.r4_marking.specs.Marks.{heard_seen, most_for}
use Rattle.r4_marking.specs.r4_reach.Needs.{growing, over}
use Rattle.r4_leaf_demands.specs.Leaves.{bearing, node_more}
use Rattle.r4_leaf_demands.proofs.Weighed.{bearing_is, larger_little, little, max_larger, more_above, more_full}
use Rattle.r4_leaf_demands.proofs.Weighed.{more_none, over_little}
use Rattle.r4_leaf_demands.proofs.weighing.node_more.Goals as goal

pub all_more-requires : goal.all_more-requires
all_more-requires c =
    let cell = c.args.cell.now in
    let hs = map heard_seen c.args.heard.now in
    let fits = c.node_bytes.ensures.fits in
    let items = c.node_bytes.ensures.few in
    let few = c.requires.few in
    let less = little cell.level c.args.heard.now c.node_bytes.ensures.level
    (omega (arith, fits, items, few)) c.requires.small in
    let all = less.all in
    let most = less.most in
    omega (arith, all, most)

pub overflow_mul-bytes : goal.overflow_mul-bytes
overflow_mul-bytes c =
    let cell = c.args.cell.now in
    let hs = map heard_seen c.args.heard.now in
    let fits = c.node_bytes.ensures.fits in
    let items = c.node_bytes.ensures.few in
    let few = c.requires.few in
    let less = little cell.level c.args.heard.now c.node_bytes.ensures.level
    (omega (arith, fits, items, few)) c.requires.small in
    let more = c.all_more.ensures in
    let all = less.all in
    let most = less.most in
    omega (arith, fits, more, all, most)

pub overflow_add-bytes : goal.overflow_add-bytes
overflow_add-bytes c =
    let cell = c.args.cell.now in
    let hs = map heard_seen c.args.heard.now in
    let fits = c.node_bytes.ensures.fits in
    let items = c.node_bytes.ensures.few in
    let few = c.requires.few in
    let less = little cell.level c.args.heard.now c.node_bytes.ensures.level
    (omega (arith, fits, items, few)) c.requires.small in
    let more = c.all_more.ensures in
    let all = less.all in
    let most = less.most in
    omega (arith, fits, more, all, most)

pub over-requires : goal.over-requires
over-requires c =
    let cell = c.args.cell.now in
    let hs = map heard_seen c.args.heard.now in
    let fits = c.node_bytes.ensures.fits in
    let items = c.node_bytes.ensures.few in
    let few = c.requires.few in
    let less = little cell.level c.args.heard.now c.node_bytes.ensures.level
    (omega (arith, fits, items, few)) c.requires.small in
    let more = c.all_more.ensures in
    let all = less.all in
    let most = less.most in
    omega (arith, fits, more, all, most)

pub over-requires-then-bytes-from : goal.over-requires-then-bytes-from
over-requires-then-bytes-from c =
    let cell = c.args.cell.now in
    let hs = map heard_seen c.args.heard.now in
    let fits = c.node_bytes.ensures.fits in
    let items = c.node_bytes.ensures.few in
    let few = c.requires.few in
    let less = little cell.level c.args.heard.now c.node_bytes.ensures.level
    (omega (arith, fits, items, few)) c.requires.small in
    let more = c.all_more.ensures in
    let all = less.all in
    let most = less.most in
    omega (arith, fits, more, all, most)

pub returns-then-level-ne-TWIG-clause-more : goal.returns-then-level-ne-TWIG-clause-more
returns-then-level-ne-TWIG-clause-more c =
    let cell = c.args.cell.now in
    let hs = map heard_seen c.args.heard.now in
    let bytes : bearing (node_of cell) hs ≡ c.node_bytes.result + 46 * c.all_more.result = bearing_is cell hs
    ∙ sym (λ i. c.node_bytes.ensures.weight i + 46 * c.all_more.ensures i) in
    c.over.ensures ∙ sym (ap (λ (n : ℕ). node_more cell.level n (growing hs)) bytes
    ∙ more_above cell.level (c.node_bytes.result + 46 * c.all_more.result) (growing hs)
    (λ two. c.if-level-ne-TWIG.true (c.level.ensures ∙ two)))

pub returns-then-level-ne-TWIG-clause-small : goal.returns-then-level-ne-TWIG-clause-small
returns-then-level-ne-TWIG-clause-small c =
    let cell = c.args.cell.now in
    let hs = map heard_seen c.args.heard.now in
    let fits = c.node_bytes.ensures.fits in
    let items = c.node_bytes.ensures.few in
    let few = c.requires.few in
    let less = little cell.level c.args.heard.now c.node_bytes.ensures.level
    (omega (arith, fits, items, few)) c.requires.small in
    over_little cell.level _ c.node_bytes.result c.over.result less fits
    (c.over.ensures ∙ ap (λ (n : ℕ). over (c.node_bytes.result + 46 * n)) c.all_more.ensures)

pub returns-then-bytes-from-clause-more : goal.returns-then-bytes-from-clause-more
returns-then-bytes-from-clause-more c =
    let cell = c.args.cell.now in
    let hs = map heard_seen c.args.heard.now in
    let bytes : bearing (node_of cell) hs ≡ c.node_bytes.result + 46 * c.all_more.result = bearing_is cell hs
    ∙ sym (λ i. c.node_bytes.ensures.weight i + 46 * c.all_more.ensures i) in
    let room = c.from.ensures in
    let told = c.if-bytes-from.true in
    let level = c.level.ensures in
    let two = c.if-level-ne-TWIG.false in
    c.max.ensures ∙ max_larger c.over-then-bytes-from.result c.growing.result
    ∙ (λ i. larger (c.over-then-bytes-from.ensures i) (c.growing.ensures.count i))
    ∙ sym (ap (λ (n : ℕ). node_more cell.level n (growing hs)) bytes
    ∙ more_full cell.level (c.node_bytes.result + 46 * c.all_more.result) (growing hs) (sym level ∙ two)
    (omega (arith, told, room)))

pub returns-then-bytes-from-clause-small : goal.returns-then-bytes-from-clause-small
returns-then-bytes-from-clause-small c =
    let cell = c.args.cell.now in
    let hs = map heard_seen c.args.heard.now in
    let fits = c.node_bytes.ensures.fits in
    let items = c.node_bytes.ensures.few in
    let few = c.requires.few in
    let less = little cell.level c.args.heard.now c.node_bytes.ensures.level
    (omega (arith, fits, items, few)) c.requires.small in
    let over_few = over_little cell.level _ c.node_bytes.result c.over-then-bytes-from.result less fits
    (c.over-then-bytes-from.ensures ∙ ap (λ (n : ℕ). over (c.node_bytes.result + 46 * n)) c.all_more.ensures) in
    let count = c.growing.ensures.few in
    let some = less.some in
    let next = less.next in
    let both = larger_little (most_for (cell.level + 1)) c.over-then-bytes-from.result c.growing.result over_few
    (omega (arith, count, some, next, few, items, fits)) in
    let is = c.max.ensures ∙ max_larger c.over-then-bytes-from.result c.growing.result in
    omega (arith, is, both)

pub returns-else-bytes-from-clause-more : goal.returns-else-bytes-from-clause-more
returns-else-bytes-from-clause-more c =
    let cell = c.args.cell.now in
    let hs = map heard_seen c.args.heard.now in
    let bytes : bearing (node_of cell) hs ≡ c.node_bytes.result + 46 * c.all_more.result = bearing_is cell hs
    ∙ sym (λ i. c.node_bytes.ensures.weight i + 46 * c.all_more.ensures i) in
    let room = c.from.ensures in
    let told = c.if-bytes-from.false in
    let level = c.level.ensures in
    let two = c.if-level-ne-TWIG.false in
    sym (ap (λ (n : ℕ). node_more cell.level n (growing hs)) bytes
    ∙ more_none cell.level (c.node_bytes.result + 46 * c.all_more.result) (growing hs) (sym level ∙ two)
    (omega (arith, told, room)))
