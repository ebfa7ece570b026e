use Rattle.std.proofs.Common.{ℕ, List, ◌++◌, map, ◌∙◌, ap, sym}
use Rattle.std.specs.Borrow.{Bor}
use Rattle.r4_base.specs.Dir.{entries_of}
use Rattle.r4_base.specs.declared.key.Key.{Key}
use Rattle.r4_cde.specs.Shown.{view_body}
use Rattle.r4_node40.specs.View.{item_shown}
use Rattle.r4_check_objects.specs.Held.{held_entry}
use Rattle.r4_check_objects.specs.declared.held.Held.{Held}
use Rattle.r4_check_gather.proofs.Gathered.{base_more, dir_good, dir_held, nothing_held, thing_held}
use Rattle.r4_check_gather.proofs.gather.gather_item.Goals as goal

pub of_item-requires : goal.of_item-requires
of_item-requires c = dir_good (item_shown c.args.item.now) c.if-item-eq-ENTRIES.true c.requires.sound

pub returns-then-item-eq-ENTRIES : goal.returns-then-item-eq-ENTRIES
returns-then-item-eq-ENTRIES c =
    c.in_ok-gather_entries.ensures
    ∙ base_more c.args.found.now.items _ _ (ap (λ (k : Key). map (held_entry c.args.block) (entries_of k (view_body c.of_item.result).now)) c.of_item.ensures.key ∙ ap (λ (b : Bor (List ℕ)). map (held_entry c.args.block) (entries_of c.args.item.now.key b.now)) c.of_item.ensures.lent
    ∙ sym (dir_held c.args.block (item_shown c.args.item.now) c.if-item-eq-ENTRIES.true))

pub returns-in_ok-push : goal.returns-in_ok-push
returns-in_ok-push c = thing_held c.args.block (item_shown c.args.item.now) c.thing_of.result c.in-Some.thing c.args.found.now.items c.push.new.self.items c.if-item-eq-ENTRIES.false c.thing_of.ensures c.in-Some.is c.in_ok-push.ensures.items

pub returns-in_default : goal.returns-in_default
returns-in_default c = nothing_held c.args.block (item_shown c.args.item.now) c.thing_of.result c.args.found.now.items c.if-item-eq-ENTRIES.false c.thing_of.ensures c.in_default.is
