use Rattle.std.proofs.Common.{arith}
use Rattle.r4_space.proofs.AccountLaws.{books_none}
use Rattle.r4_space.proofs.ledger.Ledger.new.Goals as goal

pub invariant_of-result : goal.invariant_of-result
invariant_of-result c = rw (c.new.ensures.items, c.new-2.ensures.items) (books_none c.args.bitmaps _ _ c.requires, λ k d lt. absurd (omega arith))
