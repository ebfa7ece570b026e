use Rattle.std.proofs.Common.{◌≡◌, arith, subst, sym, ap, ◌∙◌, length}
use Rattle.std.specs.Prelude.{slice_get, Some}
use Rattle.r4_base.specs.Dir.{entries_of}
use Rattle.r4_base.specs.Key.{rank}
use Rattle.r4_cde.specs.Shown.{entry_shown, view_entries}
use Rattle.r4_content.specs.Edited.{Pairs}
use Rattle.r4_content.specs.Seen.{pairs_in}
use Rattle.r4_node40.specs.View.{item_shown}
use Rattle.r4_leaf.proofs.SoundItems.{entries_item}
use Rattle.r4_sight.proofs.Adding.{added_all, added_more, added_none, adds_as}
use Rattle.r4_sight.proofs.items.add_entries.Goals as goal

pub of_item-entries-requires : goal.of_item-entries-requires
of_item-entries-requires c = (entries_item (item_shown c.args.item.now) c.requires.plugin c.requires.sound).body

pub loop-i-init : goal.loop-i-init
loop-i-init c = added_none (rank c.args.within.from) (rank c.args.within.to) (entries_of c.args.item.now.key c.args.item.now.body.now) c.args.parts.now.items

pub loop-i-preserved : goal.loop-i-preserved
loop-i-preserved c =
    let key = c.args.item.now.key in
    let body = c.args.item.now.body.now in
    let same : view_entries c.of_item-entries.result ≡ entries_of key body = (λ i. entries_of (c.of_item-entries.ensures.key i) (c.of_item-entries.ensures.lent i).now) in
    let shown : slice_get (entries_of key body) c.loop-i.i ≡ Some (entry_shown c.entry.result) = subst (λ es. slice_get es c.loop-i.i ≡ Some (entry_shown c.entry.result)) same c.entry.ensures.shown in
    added_more (rank c.args.within.from) (rank c.args.within.to) (entries_of key body) c.loop-i.i (entry_shown c.entry.result) c.args.parts.now.items c.loop-i.parts.items c.add_entry.new.parts.items shown c.loop-i.invariant c.in_ok-add_entry.ensures

pub returns : goal.returns
returns c =
    let key = c.args.item.now.key in
    let body = c.args.item.now.body.now in
    let a = rank c.args.within.from in
    let b = rank c.args.within.to in
    let same : view_entries c.of_item-entries.result ≡ entries_of key body = (λ i. entries_of (c.of_item-entries.ensures.key i) (c.of_item-entries.ensures.lent i).now) in
    let count = c.len-i-end.ensures.entries ∙ ap length same in
    let past = c.loop-i-test.false in
    adds_as c.args.parts.now.items c.loop-i.parts.items _ _ (ap (λ (us : Pairs). pairs_in us a b) (sym (entries_item (item_shown c.args.item.now) c.requires.plugin c.requires.sound).units))
    (added_all a b (entries_of key body) c.loop-i.i c.args.parts.now.items c.loop-i.parts.items (omega (arith, count, past)) c.loop-i.invariant)
