use Rattle.std.proofs.Common.{ℕ, ◌-◌, replicate, ap, sym, ◌∙◌}
use Rattle.std.proofs.lemmas.List.{length-replicate}
use Rattle.r4_base.proofs.Numbers.{pasted, length-slice_range}
use Rattle.r4_node40.proofs.edit.zero.Goals as goal

pub returns : goal.returns
returns c =
    let n = length-slice_range c.args.b.now c.args.from c.args.to c.requires.order c.requires.within in
    pasted c.args.from (c.args.to - c.args.from) c.args.b.now (replicate (c.args.to - c.args.from) 0) c.blank.new.b (sym (length-replicate {A = ℕ} (c.args.to - c.args.from) 0)) (c.blank.ensures ∙ ap (λ (k : ℕ). replicate {A = ℕ} k 0) n)
