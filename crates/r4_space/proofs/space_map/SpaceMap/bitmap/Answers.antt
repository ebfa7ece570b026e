use Rattle.std.proofs.Common.{◌≡◌, ◌∙◌, ◌*◌, ◌+◌, ℕ, List, length, refl, ap}
use Rattle.r4_base.proofs.Lent.{refilled_is}
use Rattle.r4_base.specs.Bitmap.{is_used}
use Rattle.r4_space.specs.Space.{Space, is_marked_by}
use Rattle.r4_space.proofs.SpaceLaws.{marked_by}
use Rattle.r4_space.proofs.space_map.SpaceMap.bitmap.Goals as goal

pub returns-clause-bits : goal.returns-clause-bits
returns-clause-bits c i lt =
    let s = c.self.inside in
    let b = c.args.n * 32736 + i in
    let size : length c.write_bitmap.new.block ≡ length c.args.into.now = c.write_bitmap.auto.block ∙ ap length c.bytes_mut.ensures.value in
    let shown = marked_by s.blocks b _ s.marked _ s.placed s.held.items _ s.deferred.items s.ledger.atoms _ s.ledger.sealed s.ledger.spare c.args.atom (is_used c.write_bitmap.new.block i)
    refl refl c.as_slice.ensures.value c.sealed.ensures c.self.invariant.blocks.marked_size (c.write_bitmap.ensures.bits i lt) in
    ap (λ (bytes : List ℕ). is_used bytes i) (refilled_is c.args.into.now c.write_bitmap.new.block size) ∙ shown ∙ ap (λ (s : Space). is_marked_by s c.args.atom b) c.self.view_is
