use Rattle.std.proofs.Common.{◌+◌, ◌/◌, ℕ, length, ap, ◌∙◌}
use Rattle.std.proofs.lemmas.List.{length-replicate}
use Rattle.r4_space.proofs.TakenLaws.{first_bits-zeros}
use Rattle.r4_space.proofs.bits.Bits.new.Goals as goal

pub invariant_of-result : goal.invariant_of-result
invariant_of-result c =
    let z : ℕ = 0 in
    record { most = c.requires; covers = ap length c.in_ok-zeros.ensures ∙ length-replicate (c.args.size / 64 + 1) z }

pub returns : goal.returns
returns c = rw c.in_ok-zeros.ensures (first_bits-zeros c.args.size (c.args.size / 64 + 1))
