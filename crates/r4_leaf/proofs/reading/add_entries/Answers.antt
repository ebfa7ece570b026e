use Rattle.std.proofs.Common.{◌≡◌, List, refl, arith, subst, sym, ap, ◌∙◌, length, ◌+◌}
use Rattle.std.specs.Prelude.{slice_get, Some}
use Rattle.r4_base.specs.Dir.{entries_of}
use Rattle.r4_cde.specs.Shown.{entry_shown, view_entries}
use Rattle.r4_leaf.specs.declared.piece.Piece.{Piece}
use Rattle.r4_leaf.proofs.EntryPieces.{Added, added_all, added_more, added_none}
use Rattle.r4_leaf.proofs.SoundItems.{entries_item}
use Rattle.r4_leaf.proofs.reading.add_entries.Goals as goal

pub of_item-entries-requires : goal.of_item-entries-requires
of_item-entries-requires c = (entries_item _ refl c.requires).body

pub loop-i-init : goal.loop-i-init
loop-i-init c = added_none c.args.key.now c.args.body.now c.args.pieces.now.items

pub loop-i-preserved : goal.loop-i-preserved
loop-i-preserved c =
    let same : view_entries c.of_item-entries.result ≡ entries_of c.args.key.now c.args.body.now = (λ i. entries_of (c.of_item-entries.ensures.key i) (c.of_item-entries.ensures.lent i).now) in
    let shown : slice_get (entries_of c.args.key.now c.args.body.now) c.loop-i.i ≡ Some (entry_shown c.entry.result) = subst (λ es. slice_get es c.loop-i.i ≡ Some (entry_shown c.entry.result)) same c.entry.ensures.shown in
    subst (λ (ps : List Piece). Added c.args.key.now c.args.body.now (c.loop-i.i + 1) c.args.pieces.now.items ps) (sym c.in_ok-push.ensures.items)
    (added_more c.args.key.now c.args.body.now (entries_item _ refl c.requires).body c.requires.key (λ k. let b = c.type_inv.body k in omega (arith, b)) c.loop-i.i c.entry.result shown c.args.pieces.now.items c.loop-i.pieces.items c.loop-i.invariant)

pub returns : goal.returns
returns c =
    let same : view_entries c.of_item-entries.result ≡ entries_of c.args.key.now c.args.body.now = (λ i. entries_of (c.of_item-entries.ensures.key i) (c.of_item-entries.ensures.lent i).now) in
    let count = c.len-i-end.ensures.entries ∙ ap length same in
    let past = c.loop-i-test.false in
    let within = c.loop-i.auto.i-end in
    added_all c.args.key.now c.args.body.now c.requires c.loop-i.i c.args.pieces.now.items c.loop-i.pieces.items (omega (arith, count, past, within)) c.loop-i.invariant
