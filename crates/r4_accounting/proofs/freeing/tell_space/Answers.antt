use Rattle.std.proofs.Common.{◌∙◌, ap, subst}
use Rattle.r4_done.specs.r4_buffer.Seen.{cells_of}
use Rattle.r4_accounting.specs.Accounting.{HasDeferred}
use Rattle.r4_accounting.proofs.ChargedCells.{charged_open, has_charged}
use Rattle.r4_space.specs.Accounts.{is_open}
use Rattle.r4_space.specs.Space.{Space}
use Rattle.r4_accounting.proofs.freeing.tell_space.Goals as goal

pub defer_all-requires-clause-opened : goal.defer_all-requires-clause-opened
defer_all-requires-clause-opened c =
    ap (λ (s : Space). is_open s.atoms c.args.atom) c.in_ok-charge.ensures.charged
    ∙ charged_open c.args.space.now.atoms
    (record { atom = c.args.atom; cells = c.args.account.now.cells; fresh = c.args.account.now.fresh })

pub returns-clause-told : goal.returns-clause-told
returns-clause-told c = λ calls few.
    has_charged c.args.space.now c.defer_all.new.space c.lawful.ensures c.requires.covered c.args.atom
    c.args.account.now.cells c.args.account.now.fresh c.in_ok-charge.ensures.ok (cells_of c.args.old.now)
    (cells_of c.args.new.now)
    (subst (λ (s : Space). HasDeferred s c.defer_all.new.space c.args.atom (cells_of c.args.old.now)
    (cells_of c.args.new.now)) c.in_ok-charge.ensures.charged c.defer_all.ensures) calls few
