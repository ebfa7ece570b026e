use Rattle.std.proofs.Common.{◌≡◌, ℕ, ◌≤◌, List, length, arith}
use Rattle.std.specs.Prelude.{◌==◌, slice_get, Some}
use Rattle.std.proofs.lemmas.Bool.{eqb-true}
use Rattle.r4_base.specs.Node.{Item, items_of}
use Rattle.r4_base.proofs.Dirs.{accepted}
use Rattle.r4_cde.specs.Shown.{entry_shown}
use Rattle.r4_node40.specs.Loan.{bytes_of}
use Rattle.r4_leaf.specs.Filling.{IsFilled, IsPlaceFor, entry_need}
use Rattle.r4_leaf.specs.Units.{LeafUnit}
use Rattle.r4_base.specs.declared.key.Key.{Key}
use Rattle.r4_leaf.proofs.EntryFilled.{entry_puts, full_for_entry, takes_entry}
use Rattle.r4_leaf.proofs.Lying.{lie_sound}
use Rattle.r4_leaf.proofs.SoundItems.{entries_item}
use Rattle.r4_leaf.proofs.TailFilled.{both_tests, need_is}
use Rattle.r4_leaf.proofs.filling.put_entry.Goals as goal

pub returns-then-room-need_of-clause-full : goal.returns-then-room-need_of-clause-full
returns-then-room-need_of-clause-full c = λ no_room.
    let r = c.room.ensures in let n = c.need_of.ensures.need in let h = c.header.ensures in let lt = c.if-room-need_of.true in
    full_for_entry (bytes_of c.args.node.now) (entry_shown c.args.entry.now) c.place_for-place.result.item c.place_for-place.result.used c.requires.key c.place_for-place.ensures (omega (arith, r, n, h, lt))

has_count : (lo mid : ℕ) (us : List LeafUnit) (b : List ℕ) (key : Key) (i used : ℕ) → IsFilled lo mid us b → IsPlaceFor b key 2 i used → 1 ≤ used → (it : Item) × (slice_get (items_of b) i ≡ Some it) × (2 ≤ length it.body)
has_count lo mid us b key i used f p some =
    let o = p.old some in
    let t = both_tests (o.0.plugin == 2) _ o.4 in
    (o.0, o.2, (accepted o.0.key o.0.body (entries_item o.0 (eqb-true _ _ t.0) (lie_sound lo mid (items_of b) i o.0 f.lie o.2)).body).laid.two)

pub entries_at-at-requires-clause-item : goal.entries_at-at-requires-clause-item
entries_at-at-requires-clause-item c = λ some. let f = c.requires.filled in has_count f.0 f.1 f.2 (bytes_of c.args.node.now) c.args.entry.now.key c.place_for-place.result.item c.place_for-place.result.used f.3 c.place_for-place.ensures some

pub put_entry_at-requires-clause-place : goal.put_entry_at-requires-clause-place
put_entry_at-requires-clause-place c =
    let f = c.requires.filled in
    let r = c.room.ensures in let n = c.need_of.ensures.need in let h = c.header.ensures in let le = c.if-room-need_of.false in
    let t = takes_entry f.0 f.1 f.2 (bytes_of c.args.node.now) (entry_shown c.args.entry.now) c.place_for-place.result.item c.place_for-place.result.used c.entries_at-at.result c.requires.key f.3 f.4 c.place_for-place.ensures c.entries_at-at.ensures.none c.entries_at-at.ensures.some in
    let k = need_is t.0 c.place_for-place.result.used (entry_need c.place_for-place.result.used (entry_shown c.args.entry.now)) t.1.receives.long in
    (t.0, t.1, omega (arith, r, n, h, le, k))

pub returns-clause-puts : goal.returns-clause-puts
returns-clause-puts c = λ yes.
    let r = c.room.ensures in let n = c.need_of.ensures.need in let h = c.header.ensures in let le = c.if-room-need_of.false in
    entry_puts (bytes_of c.args.node.now) (entry_shown c.args.entry.now) c.place_for-place.result.item c.place_for-place.result.used c.requires.key c.place_for-place.ensures (bytes_of c.put_entry_at.new.node) c.entries_at-at.result c.entries_at-at.ensures.none c.entries_at-at.ensures.some (omega (arith, r, n, h, le)) c.put_entry_at.ensures.holds
