use Rattle.std.proofs.Common.{inl, inr, sym, ◌∙◌}
use Rattle.r4_list.proofs.Lookups.{handed_on}
use Rattle.r4_search.proofs.Walks.{goes_both, leaves_both}
use Rattle.r4_list.proofs.OverAnswers.{over_handed}
use Rattle.r4_list.proofs.walk.step.Goals as goal

pub returns-in_err-attr-clause-fetched : goal.returns-in_err-attr-clause-fetched
returns-in_err-attr-clause-fetched g c = handed_on c.args.root.now _ _ _ c.from_residual-in_err-attr.result c.in_err-attr.field-0.0 _ _ _ c.target_of.ensures.fetched.goes c.target_of.ensures.fetched.device c.attr_of.ensures.fetched.goes c.attr_of.ensures.fetched.device c.from_residual-in_err-attr.ensures.1 c.in_err-attr.ensures.fetched.cause

pub returns-in_default-2-clause-fetched : goal.returns-in_default-2-clause-fetched
returns-in_default-2-clause-fetched g c = record { goes = goes_both _ _ _ c.target_of.ensures.fetched.goes c.attr_of.ensures.fetched.goes; device = leaves_both _ _ _ c.target_of.ensures.fetched.device c.attr_of.ensures.fetched.device; cause = tt }

pub returns-clause-fetched : goal.returns-clause-fetched
returns-clause-fetched g c = record { goes = goes_both _ _ _ c.target_of.ensures.fetched.goes c.attr_of.ensures.fetched.goes; device = leaves_both _ _ _ c.target_of.ensures.fetched.device c.attr_of.ensures.fetched.device; cause = tt }

pub returns-in_err-object-clause-over : goal.returns-in_err-object-clause-over
returns-in_err-object-clause-over g c = λ n image m has legal over. over_handed has c.args.root.now _ _ _ c.in_err-object.field-0.0 c.from_residual.result (c.in_err-object.ensures.over n image m has legal over) c.from_residual.ensures.1

pub returns-in_default-clause-over : goal.returns-in_default-clause-over
returns-in_default-clause-over g c = λ n image m has legal over.
    let f = c.in_ok-object.ensures.over n image m has legal over in
    record { over = f.over; found = inl (sym f.found ∙ c.in_default.is); undamaged = tt }

pub returns-in_err-attr-clause-over : goal.returns-in_err-attr-clause-over
returns-in_err-attr-clause-over g c = λ n image m has legal over.
    let f = c.in_ok-object.ensures.over n image m has legal over in
    over_handed has c.args.root.now _ _ _ c.in_err-attr.field-0.0 c.from_residual-in_err-attr.result (c.in_err-attr.ensures.over n image m has f.over) c.from_residual-in_err-attr.ensures.1

pub returns-in_default-2-clause-over : goal.returns-in_default-2-clause-over
returns-in_default-2-clause-over g c = λ n image m has legal over.
    let f = c.in_ok-object.ensures.over n image m has legal over in
    let h = c.in_ok-attr.ensures.over n image m has f.over in
    record { over = h.over; found = inr (c.in-Some.object, sym f.found ∙ c.in-Some.is, sym h.found ∙ c.in_default-2.is); undamaged = tt }

pub returns-clause-over : goal.returns-clause-over
returns-clause-over g c = λ n image m has legal over.
    let f = c.in_ok-object.ensures.over n image m has legal over in
    let h = c.in_ok-attr.ensures.over n image m has f.over in
    record { over = h.over; found = (sym f.found ∙ c.in-Some.is, sym h.found ∙ c.in-Some-2.is); undamaged = tt }
