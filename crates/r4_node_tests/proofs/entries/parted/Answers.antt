use Rattle.std.proofs.Common.{List, ℕ, ap, arith}
use Rattle.std.specs.Borrow.{Bor}
use Rattle.r4_base.specs.Dir.{entry_count}
use Rattle.r4_node_tests.proofs.EntryTests.{counted, dir_body, part_fits}
use Rattle.r4_node_tests.proofs.entries.parted.Goals as goal

pub split-requires-clause-lawful : goal.split-requires-clause-lawful
split-requires-clause-lawful c = dir_body c.args.item.now c.args.body.now c.in-Ok.ensures.ok

pub split-requires-clause-within : goal.split-requires-clause-within
split-requires-clause-within c = let n = counted _ _ c.args.body.now c.len.result (ap (λ (x : Bor (List ℕ)). x.now) c.in-Ok.ensures.lent) c.len.ensures.entries in omega arith

pub split-requires-clause-left_room : goal.split-requires-clause-left_room
split-requires-clause-left_room c =
    let n = counted _ _ c.args.body.now c.len.result (ap (λ (x : Bor (List ℕ)). x.now) c.in-Ok.ensures.lent) c.len.ensures.entries in
    let fits = part_fits c.args.body.now 0 1 (dir_body c.args.item.now c.args.body.now c.in-Ok.ensures.ok) (omega arith) (omega arith) in
    omega arith

pub split-requires-clause-right_room : goal.split-requires-clause-right_room
split-requires-clause-right_room c =
    let n = counted _ _ c.args.body.now c.len.result (ap (λ (x : Bor (List ℕ)). x.now) c.in-Ok.ensures.lent) c.len.ensures.entries in
    let fits = part_fits c.args.body.now 1 (entry_count c.args.body.now) (dir_body c.args.item.now c.args.body.now c.in-Ok.ensures.ok) (omega arith) (omega arith) in
    omega arith
