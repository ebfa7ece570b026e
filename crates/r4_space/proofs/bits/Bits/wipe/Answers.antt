use Rattle.std.proofs.Common.{◌≡◌, ◌∙◌, ℕ, length, ap, sym}
use Rattle.std.specs.Prelude.{replicate, false}
use Rattle.r4_space.proofs.BitsLaws.{same_size}
use Rattle.r4_space.proofs.SpaceLaws.{changed}
use Rattle.r4_space.proofs.TakenLaws.{first_bits-zeros, length-first_bits}
use Rattle.r4_space.proofs.bits.Bits.wipe.Goals as goal

pub invariant_of-self : goal.invariant_of-self
invariant_of-self c =
    let i = c.self.inside in
    let new = changed i.words c.as_mut_slice.result.now c.wipe.new.words c.as_mut_slice.ensures.value c.wipe.auto.words in
    rw new (same_size i.size i.words.items c.wipe.new.words (c.wipe.auto.words ∙ ap length c.as_mut_slice.ensures.value) c.self.invariant)

pub returns : goal.returns
returns c =
    let i = c.self.inside in
    let new = changed i.words c.as_mut_slice.result.now c.wipe.new.words c.as_mut_slice.ensures.value c.wipe.auto.words in
    let size : i.size ≡ length c.args.self.now = sym (length-first_bits i.size i.words.items) ∙ ap length c.self.view_is in
    rw (new, c.wipe.ensures) (first_bits-zeros i.size (length c.as_mut_slice.result.now) ∙ ap (λ (n : ℕ). replicate n false) size)
