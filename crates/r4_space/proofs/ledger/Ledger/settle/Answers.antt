use Rattle.std.proofs.Common.{◌≡◌, rules, arith}
use Rattle.std.proofs.lemmas.Fn.{filter_same}
use Rattle.r4_space.specs.Accounts.{without_atom}
use Rattle.r4_space.proofs.AccountLaws.{due_small, books_settled, upto_without}
use Rattle.r4_space.proofs.ledger.Ledger.settle.Goals as goal

pub due-requires-clause-cells : goal.due-requires-clause-cells
due-requires-clause-cells c =
    let i = c.self.inside in
    let small = (due_small i.bitmaps i.owed i.spare _ _ i.atoms.items i.sealed.items c.args.atom c.self.invariant.0).1 in
    rw (c.account_at.ensures, c.as_slice-atoms.ensures.value) (omega arith)

pub due-requires-clause-fresh : goal.due-requires-clause-fresh
due-requires-clause-fresh c =
    let i = c.self.inside in
    let small = (due_small i.bitmaps i.owed i.spare _ _ i.atoms.items i.sealed.items c.args.atom c.self.invariant.0).2 in
    rw (c.account_at.ensures, c.as_slice-atoms.ensures.value) (omega arith)

pub overflow_sub-self : goal.overflow_sub-self
overflow_sub-self c =
    let i = c.self.inside in
    rw (c.due.ensures, c.account_at.ensures, c.as_slice-atoms.ensures.value) (due_small i.bitmaps i.owed i.spare _ _ i.atoms.items i.sealed.items c.args.atom c.self.invariant.0).0

pub invariant_of-self : goal.invariant_of-self
invariant_of-self c =
    let i = c.self.inside in
    let left : c.retain.new.self.items ≡ without_atom c.args.atom i.sealed.items = filter_same _ _ _ (λ x b f' k. search rules) _ _ c.retain.ensures.filtered in
    let room = c.forget.ensures.capacity in
    rw (c.forget.ensures.items, left, c.due.ensures, c.account_at.ensures, c.as_slice-atoms.ensures.value, room, c.retain.ensures.capacity)
    (books_settled i.bitmaps i.owed i.spare _ _ i.atoms.items i.sealed.items c.args.atom c.self.invariant.0, upto_without i.highest i.atoms.items c.args.atom c.self.invariant.1)

pub returns : goal.returns
returns c =
    let left : c.retain.new.self.items ≡ without_atom c.args.atom c.self.inside.sealed.items = filter_same _ _ _ (λ x b f' k. search rules) _ _ c.retain.ensures.filtered in
    rw (left, c.forget.ensures.items, ← c.self.view_is)
