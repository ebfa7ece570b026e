use Rattle.std.proofs.Common.{◌≡◌, ◌≤◌, length, ap, arith}
use Rattle.std.specs.Prelude.{vec_capacity}
use Rattle.r4_space.specs.Accounts.{without_account}
use Rattle.r4_space.proofs.AccountLaws.{small_pair, length-without_open, books_merged, once-without, stands_open, upto_with, upto_without}
use Rattle.r4_space.proofs.ledger.Ledger.merge.Goals as goal

pub overflow_add-sum : goal.overflow_add-sum
overflow_add-sum c =
    let i = c.self.inside in
    let pair = small_pair i.bitmaps i.owed i.spare _ _ i.atoms.items i.sealed.items c.args.kept c.args.gone c.self.invariant.0 c.requires in
    rw (c.account_at-had.ensures, c.account_at-left.ensures, c.as_slice-atoms.ensures.value) (omega (arith, pair.first, pair.second))

pub overflow_add-sum-2 : goal.overflow_add-sum-2
overflow_add-sum-2 c =
    let i = c.self.inside in
    let pair = small_pair i.bitmaps i.owed i.spare _ _ i.atoms.items i.sealed.items c.args.kept c.args.gone c.self.invariant.0 c.requires in
    rw (c.account_at-had.ensures, c.account_at-left.ensures, c.as_slice-atoms.ensures.value) (omega (arith, pair.first, pair.second))

pub due-requires-clause-cells : goal.due-requires-clause-cells
due-requires-clause-cells c =
    let i = c.self.inside in
    let pair = small_pair i.bitmaps i.owed i.spare _ _ i.atoms.items i.sealed.items c.args.kept c.args.gone c.self.invariant.0 c.requires in
    rw (c.account_at-had.ensures, c.as_slice-atoms.ensures.value) (omega (arith, pair.first))

pub due-requires-clause-fresh : goal.due-requires-clause-fresh
due-requires-clause-fresh c =
    let i = c.self.inside in
    let pair = small_pair i.bitmaps i.owed i.spare _ _ i.atoms.items i.sealed.items c.args.kept c.args.gone c.self.invariant.0 c.requires in
    rw (c.account_at-had.ensures, c.as_slice-atoms.ensures.value) (omega (arith, pair.first))

pub overflow_sub-self : goal.overflow_sub-self
overflow_sub-self c =
    let i = c.self.inside in
    let pair = small_pair i.bitmaps i.owed i.spare _ _ i.atoms.items i.sealed.items c.args.kept c.args.gone c.self.invariant.0 c.requires in
    rw (c.due.ensures, c.account_at-had.ensures, c.as_slice-atoms.ensures.value) pair.part

pub due-requires-2-clause-cells : goal.due-requires-2-clause-cells
due-requires-2-clause-cells c =
    let i = c.self.inside in
    let pair = small_pair i.bitmaps i.owed i.spare _ _ i.atoms.items i.sealed.items c.args.kept c.args.gone c.self.invariant.0 c.requires in
    rw (c.account_at-left.ensures, c.as_slice-atoms.ensures.value) (omega (arith, pair.second))

pub due-requires-2-clause-fresh : goal.due-requires-2-clause-fresh
due-requires-2-clause-fresh c =
    let i = c.self.inside in
    let pair = small_pair i.bitmaps i.owed i.spare _ _ i.atoms.items i.sealed.items c.args.kept c.args.gone c.self.invariant.0 c.requires in
    rw (c.account_at-left.ensures, c.as_slice-atoms.ensures.value) (omega (arith, pair.second))

pub overflow_sub-self-2 : goal.overflow_sub-self-2
overflow_sub-self-2 c =
    let i = c.self.inside in
    let pair = small_pair i.bitmaps i.owed i.spare _ _ i.atoms.items i.sealed.items c.args.kept c.args.gone c.self.invariant.0 c.requires in
    rw (c.due.ensures, c.due-2.ensures, c.account_at-had.ensures, c.account_at-left.ensures, c.as_slice-atoms.ensures.value) pair.rest

pub due-requires-3-clause-cells : goal.due-requires-3-clause-cells
due-requires-3-clause-cells c =
    let i = c.self.inside in
    let pair = small_pair i.bitmaps i.owed i.spare _ _ i.atoms.items i.sealed.items c.args.kept c.args.gone c.self.invariant.0 c.requires in
    rw (c.account_at-had.ensures, c.account_at-left.ensures, c.as_slice-atoms.ensures.value) (omega (arith, pair.first, pair.second))

pub due-requires-3-clause-fresh : goal.due-requires-3-clause-fresh
due-requires-3-clause-fresh c =
    let i = c.self.inside in
    let pair = small_pair i.bitmaps i.owed i.spare _ _ i.atoms.items i.sealed.items c.args.kept c.args.gone c.self.invariant.0 c.requires in
    rw (c.account_at-had.ensures, c.account_at-left.ensures, c.as_slice-atoms.ensures.value) (omega (arith, pair.first, pair.second))

pub put-requires-clause-room : goal.put-requires-clause-room
put-requires-clause-room c =
    let i = c.self.inside in
    let opened = stands_open i.atoms.items c.args.gone c.in-Some.from (rw c.as_slice-atoms.ensures.value at c.in-Some.ensures) in
    let fewer = length-without_open c.args.gone i.atoms.items opened in
    let same : length c.forget.new.atoms.items ≡ length (without_account c.args.gone i.atoms.items) = ap length c.forget.ensures.items in
    omega (arith, c.forget.new.atoms.ok.0, i.atoms.ok.0, c.forget.ensures.capacity, c.self.invariant.0.enough, i.atoms.ok)

pub position-at-requires : goal.position-at-requires
position-at-requires c =
    let i = c.self.inside in
    rw (c.as_slice.ensures.value, c.forget.ensures.items) (upto_without i.highest i.atoms.items c.args.gone c.self.invariant.1)

pub put-requires-clause-once : goal.put-requires-clause-once
put-requires-clause-once c =
    let i = c.self.inside in
    rw c.forget.ensures.items (once-without c.args.gone i.atoms.items c.self.invariant.0.once)

pub invariant_of-self : goal.invariant_of-self
invariant_of-self c =
    let i = c.self.inside in
    let opened = stands_open i.atoms.items c.args.gone c.in-Some.from (rw c.as_slice-atoms.ensures.value at c.in-Some.ensures) in
    let room : vec_capacity i.atoms ≤ vec_capacity c.put.new.atoms = omega (arith, c.forget.ensures.capacity, c.put.ensures.capacity) in
    rw (c.put.ensures.items, c.forget.ensures.items, c.due.ensures, c.due-2.ensures, c.due-3.ensures, c.account_at-had.ensures, c.account_at-left.ensures, c.as_slice-atoms.ensures.value) (
      books_merged i.bitmaps i.owed i.spare _ _ _ i.atoms.items i.sealed.items c.args.kept c.args.gone c.self.invariant.0 c.requires opened room,
      upto_with i.highest _ (without_account c.args.gone i.atoms.items) _ (upto_without i.highest i.atoms.items c.args.gone c.self.invariant.1) (omega arith) (omega arith),
    )

pub returns : goal.returns
returns c =
    let i = c.self.inside in
    let opened = stands_open i.atoms.items c.args.gone c.in-Some.from (rw c.as_slice-atoms.ensures.value at c.in-Some.ensures) in
    rw (c.put.ensures.items, c.forget.ensures.items, c.account_at-had.ensures, c.account_at-left.ensures, c.as_slice-atoms.ensures.value, ← c.self.view_is, opened)
