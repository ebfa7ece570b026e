use Rattle.std.proofs.Common.{ap, take, ℕ, ◌∙◌, arith, replicate}
use Rattle.r4_mkfs.proofs.Marks.{marks_taken}
use Rattle.r4_mkfs.proofs.bitmaps.fill_bits.Goals as goal

pub returns-clause-bits : goal.returns-clause-bits
returns-clause-bits c i lt = marks_taken c.args.blocks c.args.n i c.first_free.result c.min-end.result c.blank.new.b c.mark.new.bytes c.mark-2.new.bytes c.requires.blocks c.requires.within lt c.first_free.ensures (omega arith)
    (c.blank.ensures ∙ ap (λ (n : ℕ). replicate n 0) c.requires.whole) c.mark.ensures.inside c.mark.ensures.outside c.mark-2.ensures.inside c.mark-2.ensures.outside

pub returns-clause-front : goal.returns-clause-front
returns-clause-front c = c.mark-2.ensures.front ∙ c.mark.ensures.front ∙ ap (take 4) (c.blank.ensures ∙ ap (λ (n : ℕ). replicate n 0) c.requires.whole)
