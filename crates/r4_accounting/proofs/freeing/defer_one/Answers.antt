use Rattle.std.proofs.Common.{ℕ, ◌∙◌, ap, sym}
use Rattle.r4_done.specs.r4_buffer.Seen.{cells_of}
use Rattle.r4_space.specs.Space.{with_deferred}
use Rattle.r4_accounting.proofs.DeferredCells.{deferred_one}
use Rattle.r4_accounting.proofs.freeing.defer_one.Goals as goal

pub returns-then-frees : goal.returns-then-frees
returns-then-frees c =
    deferred_one c.args.space.now c.defer.new.self c.args.atom c.args.cell.now (cells_of c.args.new.now)
    c.requires.opened (sym c.frees.ensures ∙ c.if-frees.true)
    (c.defer.ensures ∙ ap (λ (n : ℕ). with_deferred c.args.space.now c.args.atom (record { 0 = n })) c.id.ensures)
