use Rattle.std.proofs.Common.{List, ℕ, subst, ap, ◌∙◌, ◌++◌}
use Rattle.std.specs.Prelude.{Ok}
use Rattle.r4_trace.specs.Text.{entry_text}
use Rattle.r4_print.proofs.Printed.{Adds, written}
use Rattle.r4_print.proofs.printing.print_line.Goals as goal

pub returns : goal.returns
returns g c =
    let text = c.as_slice.ensures.value
    ∙ (c.in_ok-line.ensures.ok
    ∙ ap (λ (l : List ℕ). l ++ entry_text c.args.entry.now) c.clear.ensures.items) in
    subst (λ (l : List ℕ). Adds l (g.K.Sink.state c.args.out.now) (Ok tt) (g.K.Sink.state c.write.new.self)) text
    (written c.as_slice.result.now _ _ c.in_ok-write.ensures)
