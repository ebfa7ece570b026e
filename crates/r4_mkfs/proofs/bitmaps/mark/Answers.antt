use Rattle.std.proofs.Common.{refl, ◌∙◌, ⊎_elim, inl, inr, arith}
use Rattle.r4_mkfs.proofs.Marks.{none_marked, one_more}
use Rattle.r4_mkfs.proofs.bitmaps.mark.Goals as goal

pub loop-i-init : goal.loop-i-init
loop-i-init c = record { marked = none_marked _ _; front = refl }

pub loop-i-preserved : goal.loop-i-preserved
loop-i-preserved c = record {
  marked = one_more _ _ _ _ _ c.loop-i.auto.i (omega arith) c.loop-i.invariant.marked c.mark_one.ensures.bits;
  front = c.mark_one.ensures.front ∙ c.loop-i.invariant.front;
}

pub returns-clause-inside : goal.returns-clause-inside
returns-clause-inside c k from lt = c.loop-i.invariant.marked.inside k from (omega arith) (omega arith)

pub returns-clause-outside : goal.returns-clause-outside
returns-clause-outside c k lt out = c.loop-i.invariant.marked.outside k lt (⊎_elim inl (λ past. inr (omega arith)) out)

pub returns-clause-front : goal.returns-clause-front
returns-clause-front c = c.loop-i.invariant.front
