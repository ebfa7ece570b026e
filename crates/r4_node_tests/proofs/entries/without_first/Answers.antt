use Rattle.std.proofs.Common.{List, ℕ, length, refl, ap, arith}
use Rattle.std.specs.Borrow.{Bor}
use Rattle.r4_node_tests.proofs.EntryTests.{counted, whole_count}
use Rattle.r4_node_tests.proofs.entries.without_first.Goals as goal

pub cut-requires-clause-within : goal.cut-requires-clause-within
cut-requires-clause-within c =
    let n = counted _ _ c.args.body.now c.len.result (ap (λ (x : Bor (List ℕ)). x.now) c.in-Ok.ensures.lent) c.len.ensures.entries in
    let m = whole_count c.args.body.now (length c.args.body.now) refl in
    omega arith
