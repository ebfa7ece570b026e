use Rattle.std.proofs.Common.{◌∙◌, refl, sym}
use Rattle.r4_base.specs.Key.{rank}
use Rattle.r4_node40.specs.View.{item_shown}
use Rattle.r4_leaf.proofs.SoundItems.{stat_item}
use Rattle.r4_sight.proofs.Adding.{stat_none, stat_read, stat_some}
use Rattle.r4_sight.proofs.items.add_stat.Goals as goal

pub returns-then-not-is_within : goal.returns-then-not-is_within
returns-then-not-is_within c =
    let it = item_shown c.args.item.now in
    stat_none (rank c.args.within.from) (rank c.args.within.to) it c.args.parts.now.items (stat_item it c.requires.plugin c.requires.sound).units (sym c.is_within.ensures ∙ c.if-not-is_within.true)

pub unreachable-requires : goal.unreachable-requires
unreachable-requires c =
    let it = item_shown c.args.item.now in
    stat_read it.body c.in-Err.field-0 (stat_item it c.requires.plugin c.requires.sound).body (sym c.read_stat.ensures.value ∙ c.in-Err.is)

pub returns : goal.returns
returns c =
    let it = item_shown c.args.item.now in
    stat_some (rank c.args.within.from) (rank c.args.within.to) it c.in-Ok.attr c.args.parts.now.items c.push.new.self.items _ (stat_item it c.requires.plugin c.requires.sound).units (sym c.read_stat.ensures.value ∙ c.in-Ok.is)
    (sym c.is_within.ensures ∙ c.if-not-is_within.false) c.in_ok-push-in-Ok.ensures.items refl
