use Rattle.std.proofs.Common.{arith}
use Rattle.r4_base.proofs.Numbers.{AreBytes}
use Rattle.r4_node_tests.proofs.EntryTests.{goes_alone, short_entry, short_form}
use Rattle.r4_node_tests.proofs.entries.put_alone.Goals as goal

pub insert-requires-clause-form : goal.insert-requires-clause-form
insert-requires-clause-form c =
    let bytes : AreBytes c.args.name.now = λ i. let fits = c.type_inv.name i in omega (arith, fits) in
    short_form 42 c.args.name.now c.in-Ok.key bytes (omega arith) c.in-Ok.ensures.key

pub insert-requires-clause-entry : goal.insert-requires-clause-entry
insert-requires-clause-entry c =
    let bytes : AreBytes c.args.name.now = λ i. let fits = c.type_inv.name i in omega (arith, fits) in
    short_entry 42 c.args.name.now c.in-Ok.key _ bytes c.in-Ok.ensures.legal (omega arith) c.in-Ok.ensures.key

pub insert-requires-clause-between : goal.insert-requires-clause-between
insert-requires-clause-between c = goes_alone c.in-Ok.key c.args.body.now
