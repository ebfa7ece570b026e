use Rattle.std.proofs.Common.{◌≡◌, false, arith}
use Rattle.r4_space.specs.Accounts.{StandsAt, is_open}
use Rattle.r4_space.proofs.AccountLaws.{due_small, books_sealed, none_without, stands_open, upto_without}
use Rattle.r4_space.proofs.ledger.Ledger.seal.Goals as goal

pub due-requires-clause-cells : goal.due-requires-clause-cells
due-requires-clause-cells c =
    let i = c.self.inside in
    let small = (due_small i.bitmaps i.owed i.spare _ _ i.atoms.items i.sealed.items c.args.atom c.self.invariant.0).1 in
    rw (c.account_at.ensures, c.as_slice-atoms.ensures.value) (omega arith)

pub due-requires-clause-fresh : goal.due-requires-clause-fresh
due-requires-clause-fresh c =
    let i = c.self.inside in
    let small = (due_small i.bitmaps i.owed i.spare _ _ i.atoms.items i.sealed.items c.args.atom c.self.invariant.0).2 in
    rw (c.account_at.ensures, c.as_slice-atoms.ensures.value) (omega arith)

pub overflow_sub-self : goal.overflow_sub-self
overflow_sub-self c =
    let i = c.self.inside in
    rw (c.due.ensures, c.account_at.ensures, c.as_slice-atoms.ensures.value) (due_small i.bitmaps i.owed i.spare _ _ i.atoms.items i.sealed.items c.args.atom c.self.invariant.0).0

pub invariant_of-self : goal.invariant_of-self
invariant_of-self c =
    let i = c.self.inside in
    let at : StandsAt i.atoms.items c.args.atom c.in-Some.at = rw c.as_slice-atoms.ensures.value at c.in-Some.ensures in
    let opened = stands_open i.atoms.items c.args.atom c.in-Some.at at in
    let room = c.forget.ensures.capacity in
    rw (c.forget.ensures.items, c.add.ensures.items, c.due.ensures, c.account_at.ensures, c.as_slice-atoms.ensures.value, room)
    (books_sealed i.bitmaps i.owed i.spare _ _ _ i.atoms.items i.sealed.items c.args.atom c.self.invariant.0 opened c.add.ensures.capacity, upto_without i.highest i.atoms.items c.args.atom c.self.invariant.1)

pub returns-in_default : goal.returns-in_default
returns-in_default c =
    let i = c.self.inside in
    let closed : is_open i.atoms.items c.args.atom ≡ false = rw c.as_slice-atoms.ensures.value at c.in_default.ensures in
    rw (← c.self.view_is, closed, none_without c.args.atom i.atoms.items closed)
