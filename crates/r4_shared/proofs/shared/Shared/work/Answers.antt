use Rattle.r4_shared.proofs.shared.Shared.work.Goals as goal

pub make-built-requires-clause-task : goal.make-built-requires-clause-task
make-built-requires-clause-task g c κs within =
    let r = c.requires in
    (_, (_, r.is_task))
