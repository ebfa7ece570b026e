use Rattle.std.proofs.Common.{ap, sym, ◌∙◌, ℕ, length, replicate}
use Rattle.std.proofs.lemmas.List.{length-replicate}
use Rattle.r4_base.proofs.Lent.{refilled_is}
use Rattle.r4_mkfs.proofs.making.fill_zeros.Goals as goal

pub returns : goal.returns
returns c =
    let zeros = c.blank.ensures ∙ ap (λ (n : ℕ). replicate n 0) (ap length c.bytes_mut.ensures.value ∙ c.bytes_mut.ensures.len) in
    refilled_is _ _ (ap length zeros ∙ length-replicate {A = ℕ} 4096 0 ∙ sym c.bytes_mut.ensures.len) ∙ zeros
