use Rattle.std.proofs.Common.{◌≡◌, List, length, ◌/◌, refl, subst}
use Rattle.std.specs.Prelude.{slice_get, Some}
use Rattle.r4_base.specs.Dir.{Entry, entries_of}
use Rattle.r4_cde.specs.Shown.{entry_shown, view_entries}
use Rattle.r4_leaf.proofs.Halved.{entry_middle}
use Rattle.r4_leaf.proofs.SoundItems.{entries_item}
use Rattle.r4_leaf.proofs.middle.middle_entry.Goals as goal

pub of_item-entries-requires : goal.of_item-entries-requires
of_item-entries-requires c = (entries_item _ refl c.requires).body

pub returns : goal.returns
returns c =
    let same : view_entries c.of_item-entries.result ≡ entries_of c.args.key.now c.args.body.now = (λ i. entries_of (c.of_item-entries.ensures.key i) (c.of_item-entries.ensures.lent i).now) in
    let shown : slice_get (view_entries c.of_item-entries.result) (length (view_entries c.of_item-entries.result) / 2) ≡ Some (entry_shown c.entry.result) = subst (λ n. slice_get (view_entries c.of_item-entries.result) (n / 2) ≡ Some (entry_shown c.entry.result)) c.len.ensures.entries c.entry.ensures.shown in
    entry_middle c.args.key.now c.args.body.now (entry_shown c.entry.result) c.requires
    (subst (λ (es : List Entry). slice_get es (length es / 2) ≡ Some (entry_shown c.entry.result)) same shown)
