use Rattle.std.proofs.Common.{[], subst}
use Rattle.r4_content.specs.Meaning.{greatest_size}
use Rattle.r4_ready.proofs.r4_durable.Meant.{safe_trace}
use Rattle.r4_space.specs.Lawful.{IsLawful}
use Rattle.r4_ready.specs.r4_kept.Naming.{Naming, names_in}
use Rattle.r4_core.proofs.AtStart.{keeps_start, safe_begun}
use Rattle.r4_core.proofs.core_state.Core.open.Goals as goal

pub returns-in-Err-clause-safe : goal.returns-in-Err-clause-safe
returns-in-Err-clause-safe g c =
    let d = g.D.Device.state in
    let r : Naming = record {
      start = g.R.Run.start;
      clock = g.R.Run.clock;
      scripts = g.R.Run.scripts;
      lender = g.R.Run.lender;
    } in
    safe_trace greatest_size (names_in r) [] tt (d c.start_of.new.dev)
    (safe_begun r (d c.args.dev) (d c.start_of.new.dev) c.in-Err.ensures.goes c.in-Err.ensures.moments c.requires.start
    c.requires.clock c.requires.quiet)

pub invariant_of-result : goal.invariant_of-result
invariant_of-result g c =
    let d = g.D.Device.state in
    let s = c.in-Ok.ensures.started in
    let start = c.in-Ok.start in
    keeps_start _ (d c.args.dev) (d c.start_of.new.dev) c.start_of.new.dev c.args.job _ s.found
    c.new.result start.tree start.trace.spare c.in-Ok.ensures.goes s.is_found (subst IsLawful s.space s.lawful)
    c.new.ensures s.tree s.room c.in-Ok.ensures.moments c.in-Ok.ensures.quiet c.requires.job c.requires.start
    c.requires.clock c.requires.quiet c.requires.scripts c.requires.lender start.turns c.new-2.result c.new-3.result
    start.space start.numbers start.volume start.trace.entries s.turns c.new-2.ensures c.new-3.ensures s.space s.numbers
    s.volume s.trace
