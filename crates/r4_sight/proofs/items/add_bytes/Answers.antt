use Rattle.std.proofs.Common.{◌∙◌, sym, ap, arith}
use Rattle.std.specs.Prelude.{slice_range}
use Rattle.r4_base.specs.Key.{rank}
use Rattle.r4_content.specs.Edited.{Pairs}
use Rattle.r4_content.specs.Objects.{byte_pairs}
use Rattle.r4_content.specs.Seen.{pairs_in}
use Rattle.r4_node40.specs.View.{item_shown}
use Rattle.r4_leaf.proofs.SoundItems.{tail_item}
use Rattle.r4_sight.proofs.Adding.{adds_as, tail_none, tail_some}
use Rattle.r4_sight.proofs.items.add_bytes.Goals as goal

pub bytes_up_to-from-requires : goal.bytes_up_to-from-requires
bytes_up_to-from-requires c = record { short = (tail_item (item_shown c.args.item.now) c.requires.plugin c.requires.sound).short }

pub bytes_up_to-to-requires : goal.bytes_up_to-to-requires
bytes_up_to-to-requires c = record { short = (tail_item (item_shown c.args.item.now) c.requires.plugin c.requires.sound).short }

pub behind-requires : goal.behind-requires
behind-requires c =
    let short = (tail_item (item_shown c.args.item.now) c.requires.plugin c.requires.sound).short in
    let from = c.bytes_up_to-from.ensures in
    omega (arith, short, from)

pub returns-then-from-to : goal.returns-then-from-to
returns-then-from-to c =
    let it = item_shown c.args.item.now in
    let a = rank c.args.within.from in
    let b = rank c.args.within.to in
    let test = c.if-from-to.true in
    adds_as c.args.parts.now.items c.args.parts.now.items _ _ (ap (λ (us : Pairs). pairs_in us a b) (sym (tail_item it c.requires.plugin c.requires.sound).units))
    (tail_none a b (rank it.key) it.body c.bytes_up_to-from.result c.bytes_up_to-to.result c.args.parts.now.items c.bytes_up_to-from.ensures c.bytes_up_to-to.ensures (omega (arith, test)))

pub returns : goal.returns
returns c =
    let it = item_shown c.args.item.now in
    let a = rank c.args.within.from in
    let b = rank c.args.within.to in
    let test = c.if-from-to.false in
    adds_as c.args.parts.now.items c.push.new.self.items _ _ (ap (λ (us : Pairs). pairs_in us a b) (sym (tail_item it c.requires.plugin c.requires.sound).units))
    (tail_some a b (rank it.key) it.body c.bytes_up_to-from.result c.bytes_up_to-to.result c.args.parts.now.items c.push.new.self.items c.in_ok-run_of.field-0 c.bytes_up_to-from.ensures c.bytes_up_to-to.ensures (omega (arith, test)) c.in_ok-push.ensures.items
    (c.in_ok-run_of.ensures ∙ ap (λ k. byte_pairs k (slice_range it.body c.bytes_up_to-from.result c.bytes_up_to-to.result)) c.behind.ensures))
