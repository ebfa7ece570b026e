use Rattle.std.proofs.Common.{◌≡◌, ◌<◌, false, ap, arith}
use Rattle.r4_space.specs.Books.{Books}
use Rattle.r4_space.specs.Accounts.{is_open, no_account}
use Rattle.r4_space.proofs.AccountLaws.{books_opened, upto_add}
use Rattle.r4_space.proofs.ledger.Ledger.open.Goals as goal

pub invariant_of-self-2 : goal.invariant_of-self-2
invariant_of-self-2 c =
    let i = c.self.inside in
    let closed : is_open i.atoms.items c.args.atom ≡ false = rw c.as_slice-2.ensures.value at c.in-None.ensures in
    let spare : i.spare ≡ c.args.self.now.spare = ap (λ (b : Books). b.spare) c.self.view_is in
    let some : 0 < i.spare = omega arith in
    rw (c.add.ensures.items, c.no_account.ensures) (
      books_opened i.bitmaps i.owed i.spare _ _ _ i.atoms.items i.sealed.items c.args.atom c.self.invariant.0 closed c.add.ensures.capacity some,
      upto_add i.highest _ i.atoms.items (no_account c.args.atom) c.self.invariant.1 (omega arith) (omega arith),
    )
