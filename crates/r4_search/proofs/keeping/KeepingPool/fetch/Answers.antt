use Rattle.std.proofs.Common.{sym, ◌∙◌}
use Rattle.std.specs.Arc.{arc_value}
use Rattle.r4_cell.specs.Seen.{CellSeen}
use Rattle.r4_search.specs.Keeping.{Shared, keeping_state}
use Rattle.r4_search.specs.Pool.{called}
use Rattle.r4_search.proofs.Kept.{again_fetched, found_is, handed_on, kept_fetched, known_in, met_more, missing_is, passed_fetched, refused_fetched, was_answered, were_answered_on}
use Rattle.r4_search.proofs.keeping.KeepingPool.fetch.Goals as goal

pub returns-in-Some-clause-fetches : goal.returns-in-Some-clause-fetches
returns-in-Some-clause-fetches g c =
    let me = c.args.self.now in
    let p = g.P.Pool.state me.pool in
    let n = called c.args.id.0 c.args.level c.args.lo c.args.hi in
    let has = found_is me.met.entries c.args.id.0 c.in-Some.cell.now c.in-Some.ensures.value in
    again_fetched (λ cell. arc_value cell) p p me.all me.met.entries me.sound n (arc_value c.in-Some.cell.now) c.requires has c.again.result c.again.ensures.ok c.again.ensures.err

pub fetch-requires : goal.fetch-requires
fetch-requires g c =
    let me = c.args.self.now in
    let n = called c.args.id.0 c.args.level c.args.lo c.args.hi in
    let none = missing_is me.met.entries c.args.id.0 c.in_default.ensures.value in
    known_in (g.P.Pool.state me.pool) me.all me.met.entries me.sound n none c.requires

pub invariant_of-self : goal.invariant_of-self
invariant_of-self g c =
    let me = c.args.self.now in
    let fetched = c.fetch.ensures.fetches in
    record {
      raw = λ level. fetched.goes.keeps level ∙ me.raw level;
      sound = were_answered_on (g.P.Pool.state me.pool) (g.P.Pool.state c.fetch.new.self) fetched.goes (fetched.still (me.raw c.args.level)) me.met.entries me.sound;
    }

pub returns-in_err-cell-clause-fetches : goal.returns-in_err-cell-clause-fetches
returns-in_err-cell-clause-fetches g c =
    let me = c.args.self.now in
    let p = g.P.Pool.state me.pool in
    let q = g.P.Pool.state c.fetch.new.self in
    let n = called c.args.id.0 c.args.level c.args.lo c.args.hi in
    let none = missing_is me.met.entries c.args.id.0 c.in_default.ensures.value in
    let fetched = c.fetch.ensures.fetches in
    handed_on (λ cell. arc_value cell) n (keeping_state p me.all me.met.entries) (keeping_state q me.all me.met.entries) c.from_residual.result c.in_err-cell.field-0.0 c.from_residual.ensures.1
    (refused_fetched (λ cell. arc_value cell) p q me.all me.met.entries me.sound n none fetched.goes (fetched.still (me.raw c.args.level)) c.in_err-cell.field-0.0 c.in_err-cell.ensures.fetches.err)

pub invariant_of-self-else-is_kept : goal.invariant_of-self-else-is_kept
invariant_of-self-else-is_kept g c =
    let me = c.args.self.now in
    let fetched = c.fetch.ensures.fetches in
    record {
      raw = λ level. fetched.goes.keeps level ∙ me.raw level;
      sound = were_answered_on (g.P.Pool.state me.pool) (g.P.Pool.state c.fetch.new.self) fetched.goes (fetched.still (me.raw c.args.level)) me.met.entries me.sound;
    }

pub returns-clause-fetches : goal.returns-clause-fetches
returns-clause-fetches g c =
    let me = c.args.self.now in
    let p = g.P.Pool.state me.pool in
    let q = g.P.Pool.state c.fetch.new.self in
    let n = called c.args.id.0 c.args.level c.args.lo c.args.hi in
    let none = missing_is me.met.entries c.args.id.0 c.in_default.ensures.value in
    let fetched = c.fetch.ensures.fetches in
    passed_fetched (λ cell. arc_value cell) p q me.all me.met.entries me.sound n none fetched.goes (fetched.still (me.raw c.args.level)) c.in_ok-cell.cell c.in_ok-cell.ensures.fetches.ok
    (sym c.is_kept.ensures ∙ c.if-is_kept.false)

pub invariant_of-self-then-is_kept : goal.invariant_of-self-then-is_kept
invariant_of-self-then-is_kept g c =
    let me = c.args.self.now in
    let p = g.P.Pool.state me.pool in
    let q = g.P.Pool.state c.fetch.new.self in
    let n = called c.args.id.0 c.args.level c.args.lo c.args.hi in
    let none = missing_is me.met.entries c.args.id.0 c.in_default.ensures.value in
    let fetched = c.fetch.ensures.fetches in
    let still = fetched.still (me.raw c.args.level) in
    let x : CellSeen = arc_value c.in_ok-cell.cell in
    record {
      raw = λ level. fetched.goes.keeps level ∙ me.raw level;
      sound = met_more q me.met.entries c.keep.new.met.entries x c.keep.result (were_answered_on p q fetched.goes still me.met.entries me.sound)
          (was_answered {T = Shared} (λ cell. arc_value cell) p q me.all me.met.entries me.sound n none fetched.goes still x c.in_ok-cell.ensures.fetches.ok) c.keep.ensures.kept;
    }

pub returns-then-is_kept-clause-fetches : goal.returns-then-is_kept-clause-fetches
returns-then-is_kept-clause-fetches g c =
    let me = c.args.self.now in
    let p = g.P.Pool.state me.pool in
    let q = g.P.Pool.state c.fetch.new.self in
    let n = called c.args.id.0 c.args.level c.args.lo c.args.hi in
    let none = missing_is me.met.entries c.args.id.0 c.in_default.ensures.value in
    let fetched = c.fetch.ensures.fetches in
    kept_fetched (λ cell. arc_value cell) p q me.all me.met.entries me.sound n none fetched.goes (fetched.still (me.raw c.args.level)) c.keep.new.met.entries (arc_value c.in_ok-cell.cell) c.in_ok-cell.ensures.fetches.ok c.requires
    (sym c.is_kept.ensures ∙ c.if-is_kept.true) c.keep.result c.keep.ensures.ok c.keep.ensures.kept
