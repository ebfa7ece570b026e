use Rattle.std.specs.Arc.{arc_value}
use Rattle.r4_base.specs.declared.things.AtomNo.{AtomNo}
use Rattle.r4_buffer.specs.Seen.{EntrySeen}
use Rattle.r4_core.specs.r4_kept.View.{tables_of}
use Rattle.r4_seal.proofs.Clear.{none_given, none_kept, none_named_so}
use Rattle.r4_seal.proofs.checking.is_clear.Goals as goal

pub returns-in-Free : goal.returns-in-Free
returns-in-Free g c ok =
    let free = rw c.locks.ensures at c.in-Free.ensures in
    record {
      cell =
          none_kept (λ x. x.now) (λ a. arc_value a) (λ (e : EntrySeen). e.cell) c.get.result _
          (rw c.buffer.ensures at c.get.ensures) c.if-is_some.ensures;
      owner =
          none_named_so (λ (a : AtomNo). a.0) c.owner.result _ (rw c.atoms.ensures at c.owner.ensures.owner)
          c.if-is_some-2.ensures;
      given =
          none_given (tables_of c.args.core.now) c.args.core.now.locks c.lawful.ensures.kept.tables.tasks c.args.block
          free.0 free.1;
    }
