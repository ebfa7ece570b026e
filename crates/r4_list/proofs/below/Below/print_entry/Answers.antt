use Rattle.std.proofs.Common.{◌∙◌, sym, subst, Ok}
use Rattle.std.proofs.lemmas.Option.{same_Some}
use Rattle.r4_base.specs.declared.items.Attr.{Attr}
use Rattle.r4_list.specs.Below.{PrintsOne}
use Rattle.r4_list.specs.Listing.{line_of}
use Rattle.r4_list.specs.declared.fault.Stop.TheVariants.{Fetch}
use Rattle.r4_list.proofs.BelowPrints.{stopped_other}
use Rattle.r4_list.proofs.BodyOver.{nothing_part}
use Rattle.r4_list.proofs.BelowSteps.{none_or_some, one_stopped}
use Rattle.r4_list.proofs.Stages.{ended_by, ended_well, went_fetched}
use Rattle.r4_list.proofs.below.Below.print_entry.Goals as goal

pub returns-in-Some-clause-printed : goal.returns-in-Some-clause-printed
returns-in-Some-clause-printed g c = ended_by c.args.root.now _ _ _ _ _ _ (went_fetched c.args.root.now _ _ _ _ _ (g.K.Sink.state c.args.out.now) c.attr_of.ensures.fetched) _ _ _ c.print_one.result c.print_one.ensures.printed

pub returns-in-None-clause-printed : goal.returns-in-None-clause-printed
returns-in-None-clause-printed g c = ended_well c.args.root.now _ _ _ _ _ _ (went_fetched c.args.root.now _ _ _ _ _ (g.K.Sink.state c.args.out.now) c.attr_of.ensures.fetched) tt

pub returns-in_err-attr-clause-over : goal.returns-in_err-attr-clause-over
returns-in_err-attr-clause-over g c = λ n image m has over a at.
    let h = c.in_err-attr.ensures.over n image m has over in
    one_stopped has c.args.root.now c.args.object.now a c.args.self.now c.args.self.now _ _ _ c.from_residual.result (Fetch c.in_err-attr.field-0.0) c.from_residual.ensures.1
    (stopped_other has c.args.root.now (line_of a c.args.self.now.path.items) _ _ _ h.over c.from_residual.result _ c.from_residual.ensures.1 h.undamaged (λ before w. nothing_part _ before _ w))

pub returns-in-Some-clause-over : goal.returns-in-Some-clause-over
returns-in-Some-clause-over g c = λ n image m has over a at.
    let h = c.in_ok-attr.ensures.over n image m has over in
    let same = same_Some c.in-Some.attr a (sym c.in-Some.is ∙ (h.found ∙ at)) in
    subst (λ (x : Attr). PrintsOne has c.args.root.now c.args.object.now x c.args.self.now (g.K.Sink.state c.args.out.now) c.print_one.result (g.P.Pool.state c.print_one.new.pool) c.print_one.new.self (g.K.Sink.state c.print_one.new.out)) same
    (c.print_one.ensures.over n image m has h.over)

pub returns-in-None-clause-over : goal.returns-in-None-clause-over
returns-in-None-clause-over g c = λ n image m has over a at.
    let h = c.in_ok-attr.ensures.over n image m has over in
    absurd {A = PrintsOne has c.args.root.now c.args.object.now a c.args.self.now (g.K.Sink.state c.args.out.now) (Ok tt) (g.P.Pool.state c.attr_of.new.pool) c.args.self.now (g.K.Sink.state c.args.out.now)} (none_or_some c.in_ok-attr.field-0 a c.in-None.is (h.found ∙ at))
