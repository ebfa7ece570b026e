use Rattle.std.proofs.Common.{refl, subst, suc, List, ℕ}
use Rattle.r4_list.specs.Below.{IsOnward}
use Rattle.r4_list.specs.Listing.{lines_of}
use Rattle.r4_list.specs.Printed.{PrintsOver}
use Rattle.r4_list.proofs.BelowBegins.{begins, ends, goes_no_further, goes_on, none_in, not_begun, takes}
use Rattle.r4_list.proofs.Stages.{went_both, went_printed, ended_printing}
use Rattle.r4_list.proofs.below.print_object.Goals as goal

pub loop-frame-init : goal.loop-frame-init
loop-frame-init g c = (
  went_printed c.args.root.now _ _ c.print_one.result _ _ _ _ c.print_one.ensures.printed,
  λ n image m has over s reached is steps enough.
      let one = c.in_ok-print_one.ensures.over n image m has over in
      let first = begins has c.args.root.now s c.args.object.now c.args.attr.now reached is steps (record { frames = c.new.result; printed = c.new-2.result; path = c.in_ok-from_slice.field-0; line = c.new-3.result }) _ _ _ c.in_ok-print_one.field-0 c.print_one.new.self c.new.ensures.items c.new-2.ensures.empty one in
      (one.prints.over, subst (λ (t : List ℕ). IsOnward has c.args.object.now steps (lines_of m (suc steps) c.args.object.now t) (g.K.Sink.state c.args.out.now) c.print_one.new.self (g.K.Sink.state c.print_one.new.out)) c.in_ok-from_slice.ensures.items first),
)

pub loop-frame-preserved : goal.loop-frame-preserved
loop-frame-preserved g c = (
  went_both _ _ _ _ _ _ _ _ _ c.loop-frame.invariant.0 (went_printed c.args.root.now _ _ c.go_on.result _ _ _ _ c.go_on.ensures.printed),
  λ n image m has over s reached is steps enough.
      let (now, on) = c.loop-frame.invariant.1 n image m has over s reached is steps enough in
      let taken = takes has c.args.object.now steps (lines_of m (suc steps) c.args.object.now c.args.path.now) (g.K.Sink.state c.args.out.now) c.loop-frame.below (record { frames = c.pop.new.self; printed = c.loop-frame.below.printed; path = c.loop-frame.below.path; line = c.loop-frame.below.line }) c.in-Some.frame _ c.in-Some.ensures.items refl refl on in
      let gone = c.in_ok-go_on.ensures.over n image m has now c.args.object.now taken.f taken.fs taken.held taken.walks steps enough in
      (gone.over, goes_on has c.args.object.now steps _ _ c.args.root.now _ _ c.in-Some.frame _ _ _ taken c.in_ok-go_on.field-0 gone),
)

pub returns-in_err-print_one-clause-over : goal.returns-in_err-print_one-clause-over
returns-in_err-print_one-clause-over g c = λ n image m has over s reached is steps enough.
    subst (λ (t : List ℕ). PrintsOver has c.args.root.now (lines_of m (suc steps) c.args.object.now t) (g.K.Sink.state c.args.out.now) c.from_residual-in_err-print_one.result (g.P.Pool.state c.print_one.new.pool) (g.K.Sink.state c.print_one.new.out)) c.in_ok-from_slice.ensures.items
    (not_begun has c.args.root.now s c.args.object.now c.args.attr.now reached is steps (record { frames = c.new.result; printed = c.new-2.result; path = c.in_ok-from_slice.field-0; line = c.new-3.result }) _ _ _ c.in_err-print_one.field-0.0 c.from_residual-in_err-print_one.result c.from_residual-in_err-print_one.ensures.1 c.print_one.new.self (c.in_err-print_one.ensures.over n image m has over))

pub returns-in_err-go_on-clause-over : goal.returns-in_err-go_on-clause-over
returns-in_err-go_on-clause-over g c = λ n image m has over s reached is steps enough.
    let (now, on) = c.loop-frame.invariant.1 n image m has over s reached is steps enough in
    let taken = takes has c.args.object.now steps (lines_of m (suc steps) c.args.object.now c.args.path.now) (g.K.Sink.state c.args.out.now) c.loop-frame.below (record { frames = c.pop.new.self; printed = c.loop-frame.below.printed; path = c.loop-frame.below.path; line = c.loop-frame.below.line }) c.in-Some.frame _ c.in-Some.ensures.items refl refl on in
    goes_no_further has c.args.object.now steps _ _ c.args.root.now _ _ c.in-Some.frame _ _ _ taken c.in_err-go_on.field-0.0 c.from_residual-in_err-go_on.result c.from_residual-in_err-go_on.ensures.1
    (c.in_err-go_on.ensures.over n image m has now c.args.object.now taken.f taken.fs taken.held taken.walks steps enough)

pub returns-clause-over : goal.returns-clause-over
returns-clause-over g c = λ n image m has over s reached is steps enough.
    let (now, on) = c.loop-frame.invariant.1 n image m has over s reached is steps enough in
    ends has c.args.object.now steps _ _ tt c.args.root.now c.loop-frame.below _ _ now (none_in c.loop-frame.below.frames.items c.loop-frame.below.frames.len c.loop-frame.below.frames.ok.0 c.in_default.ensures.cases.0) on

pub returns-in_err-go_on-clause-printed : goal.returns-in_err-go_on-clause-printed
returns-in_err-go_on-clause-printed g c = ended_printing c.args.root.now _ _ _ _ _ _ c.loop-frame.invariant.0 _ _ _ c.from_residual-in_err-go_on.result c.go_on.result c.in_err-go_on.field-0.0 c.in_err-go_on.was c.go_on.ensures.printed c.from_residual-in_err-go_on.ensures.1
