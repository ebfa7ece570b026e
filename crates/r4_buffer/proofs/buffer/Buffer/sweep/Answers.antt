use Rattle.std.proofs.Common.{◌∙◌, ◌≡◌, ℕ, List, Bool, true, cond, ap, sym}
use Rattle.std.specs.Prelude.{nat_lt}
use Rattle.std.proofs.lemmas.Bool.{lt-ltb}
use Rattle.r4_buffer.specs.Changed.{dropped, in_turn, swept}
use Rattle.r4_buffer.specs.Seen.{buffered, idle_count}
use Rattle.r4_buffer.proofs.Swept.{swept_is}
use Rattle.r4_buffer.proofs.buffer.Buffer.sweep.Goals as goal

pub returns-in_ok-ids-clause-ok : goal.returns-in_ok-ids-clause-ok
returns-in_ok-ids-clause-ok c = λ i.
    let b = c.args.self.now in
    let many : nat_lt c.args.most (idle_count b) ≡ true = ap (nat_lt c.args.most) (sym c.idle_count.ensures) ∙ lt-ltb _ _ c.if-most-idle_count.true in
    c.take_all.ensures.buffered i
    ∙ ap (λ (ids : List ℕ). in_turn dropped ids i (buffered b i)) (c.as_slice.ensures.value ∙ c.in_ok-ids.ensures)
    ∙ swept_is b c.lawful.ensures.unique i
    ∙ sym (ap (λ (t : Bool). cond t (swept b (buffered b i)) (buffered b i)) many)
