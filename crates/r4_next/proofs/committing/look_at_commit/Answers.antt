use Rattle.std.proofs.Common.{None, Some, refl, subst, sym}
use Rattle.r4_atoms.specs.Atoms.{AllCommitted, IsUncommittedOf}
use Rattle.r4_atoms.specs.declared.things.Uncommitted.TheVariants as uncommitted
use Rattle.r4_content.specs.Locality.{commands}
use Rattle.r4_content.specs.Meaning.{greatest_size}
use Rattle.r4_content.specs.declared.command.Command.TheVariants as asks
use Rattle.r4_history.proofs.WaitingSteps.{all_committed}
use Rattle.r4_history.specs.Tables.{IsLastOf}
use Rattle.r4_history.specs.declared.why.Why.TheVariants as why
use Rattle.r4_served.specs.r4_kept.View.{tables_of}
use Rattle.r4_next.proofs.Found.{acked_goes_on, can_take, cannot_take, commit_stands, flush_goes_on, takes_reply}
use Rattle.r4_next.proofs.Found.{under_way, unfinished_by_next}
use Rattle.r4_next.proofs.Read.{read_itself}
use Rattle.r4_next.proofs.committing.look_at_commit.Goals as goal

pub acknowledge-requires-clause-stands : goal.acknowledge-requires-clause-stands
acknowledge-requires-clause-stands g c κs within =
    commit_stands _ _ c.args.core.now c.lawful.ensures.kept c.args.script.0 c.requires.script c.requires.sound
    c.requires.next

pub returns-then-all_committed : goal.returns-then-all_committed
returns-then-all_committed g c =
    let core = c.args.core.now in
    let s = c.args.script in
    let all = subst (λ a. AllCommitted a s.0) c.atoms.ensures c.if-all_committed.ensures in
    let last = subst (λ a. IsLastOf a s.0 c.last_of-last.result.0) c.atoms-then-all_committed.ensures c.last_of-last.ensures in
    takes_reply g.D.Device.state core c.acknowledge.new.self s (Some asks.Commit) c.requires.next c.requires.free
    (unfinished_by_next core s.0 asks.Commit c.requires.next) c.requires.sound (acked_goes_on core s.0 all)
    (c.last_of-last.result, last, all, c.acknowledge.ensures)

pub returns-in-Some : goal.returns-in-Some
returns-in-Some g c =
    let core = c.args.core.now in
    let s = c.args.script in
    let d = g.D.Device.state core.dev in
    let none : AllCommitted core.atoms s.0 → ⊥ = λ all. c.if-all_committed.ensures (subst (λ a. AllCommitted a s.0) (sym c.atoms.ensures) all) in (
      cannot_take core s.0 g.D.Device.state d d (Some asks.Commit) c.requires.next c.requires.sound
          (unfinished_by_next core s.0 asks.Commit c.requires.next) c.requires.free None (λ x n servable is. absurd (cc is))
          (why.Sealed c.in-Some.atom) (none, under_way core.commit (Some c.in-Some.atom) c.in-Some.ensures),
      read_itself d core,
    )

pub unreachable-requires : goal.unreachable-requires
unreachable-requires g c =
    let core = c.args.core.now in
    let s = c.args.script in
    let rests = under_way core.commit None c.in_default.ensures in
    let d = g.D.Device.state core.dev in
    let none = subst (λ a. IsUncommittedOf a s.0 uncommitted.None) c.atoms-2.ensures c.in-None.ensures in
    c.if-all_committed.ensures (subst (λ a. AllCommitted a s.0) (sym c.atoms.ensures)
    (all_committed (commands greatest_size) None d.clock (tables_of core) core.trace.entries
    (c.lawful.ensures.kept.history.told None tt) s.0 c.requires.sound rests none))

pub returns-in-Closed : goal.returns-in-Closed
returns-in-Closed g c =
    let core = c.args.core.now in
    let s = c.args.script in
    let rests = under_way core.commit None c.in_default.ensures in
    let none : AllCommitted core.atoms s.0 → ⊥ = λ all. c.if-all_committed.ensures (subst (λ a. AllCommitted a s.0) (sym c.atoms.ensures) all) in
    let closed = subst (λ a. IsUncommittedOf a s.0 (uncommitted.Closed c.in-Closed.atom)) c.atoms-2.ensures
    c.in-Closed.ensures in (
      can_take core s.0 (Some asks.Commit) c.requires.next (unfinished_by_next core s.0 asks.Commit c.requires.next)
          c.requires.free (flush_goes_on core s.0 rests c.in-Closed.atom closed),
      (
        record {
          sound = c.requires.sound;
          waits = none;
          rests = rests;
          smallest = closed;
        },
        refl,
      ),
    )

pub returns-in-Open : goal.returns-in-Open
returns-in-Open g c =
    let core = c.args.core.now in
    let s = c.args.script in
    let d = g.D.Device.state core.dev in
    let rests = under_way core.commit None c.in_default.ensures in
    let none : AllCommitted core.atoms s.0 → ⊥ = λ all. c.if-all_committed.ensures (subst (λ a. AllCommitted a s.0) (sym c.atoms.ensures) all) in
    let opened = subst (λ a. IsUncommittedOf a s.0 (uncommitted.Open c.in-Open.atom c.in-Open.txn)) c.atoms-2.ensures
    c.in-Open.ensures in (
      cannot_take core s.0 g.D.Device.state d d (Some asks.Commit) c.requires.next c.requires.sound
          (unfinished_by_next core s.0 asks.Commit c.requires.next) c.requires.free None (λ x n servable is. absurd (cc is))
          (why.Open c.in-Open.atom c.in-Open.txn) (none, (rests, opened)),
      read_itself d core,
    )
