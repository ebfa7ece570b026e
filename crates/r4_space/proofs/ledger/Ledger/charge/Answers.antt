use Rattle.std.proofs.Common.{◌≡◌, ◌+◌, ap, arith}
use Rattle.r4_space.specs.Books.{Books}
use Rattle.r4_space.specs.Accounts.{account_at, due_of}
use Rattle.r4_space.proofs.AccountLaws.{due_small, books_charged, upto_with}
use Rattle.r4_space.proofs.ledger.Ledger.charge.Goals as goal

pub due-before-requires-clause-cells : goal.due-before-requires-clause-cells
due-before-requires-clause-cells c =
    let i = c.self.inside in
    let small = (due_small i.bitmaps i.owed i.spare _ _ i.atoms.items i.sealed.items c.args.atom c.self.invariant.0).1 in
    rw (c.account_at.ensures, c.as_slice-atoms.ensures.value) (omega arith)

pub due-before-requires-clause-fresh : goal.due-before-requires-clause-fresh
due-before-requires-clause-fresh c =
    let i = c.self.inside in
    let small = (due_small i.bitmaps i.owed i.spare _ _ i.atoms.items i.sealed.items c.args.atom c.self.invariant.0).2 in
    rw (c.account_at.ensures, c.as_slice-atoms.ensures.value) (omega arith)

pub overflow_sub-self-2 : goal.overflow_sub-self-2
overflow_sub-self-2 c =
    let i = c.self.inside in
    rw (c.due-before.ensures, c.account_at.ensures, c.as_slice-atoms.ensures.value) (due_small i.bitmaps i.owed i.spare _ _ i.atoms.items i.sealed.items c.args.atom c.self.invariant.0).0

pub invariant_of-self-2 : goal.invariant_of-self-2
invariant_of-self-2 c =
    let i = c.self.inside in
    let before : c.due-before.result ≡ due_of i.bitmaps (account_at i.atoms.items c.args.atom) = rw (c.account_at.ensures, c.as_slice-atoms.ensures.value) at c.due-before.ensures in
    let spare : i.spare ≡ c.args.self.now.spare = ap (λ (b : Books). b.spare) c.self.view_is in
    let small = c.self.invariant.0.small in
    let price = c.price.ensures in
    rw c.put.ensures.items (
      books_charged i.bitmaps i.owed i.spare _ _ _ c.due-before.result (c.price.result + c.args.fresh) c.saturating_sub-need.result c.saturating_sub-free.result i.atoms.items i.sealed.items _ c.self.invariant.0 before (omega arith) c.saturating_sub-need.ensures c.if-need-free.false (omega arith) c.put.ensures.capacity (omega arith),
      upto_with i.highest _ i.atoms.items _ c.self.invariant.1 (omega arith) (omega arith),
    )
