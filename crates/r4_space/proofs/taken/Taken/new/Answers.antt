use Rattle.std.proofs.Common.{◌+◌, ◌/◌, arith}
use Rattle.r4_space.proofs.TakenLaws.{first_bits-zeros, same_words, taken_zeros}
use Rattle.r4_space.proofs.taken.Taken.new.Goals as goal

pub invariant_of-result : goal.invariant_of-result
invariant_of-result c =
    let n = c.args.size in
    same_words n n _ _ _ _ _ _ c.in_ok-zeros.ensures c.in_ok-zeros-2.ensures c.in_ok-zeros-3.ensures (taken_zeros n (n / 64 + 1) (n / 4096 + 1) (n / 262144 + 1) (omega arith) (omega arith) (omega arith) (omega arith) (omega arith) (omega arith))

pub returns : goal.returns
returns c = rw c.in_ok-zeros.ensures (first_bits-zeros c.args.size (c.args.size / 64 + 1))
