use Rattle.std.proofs.Common.{◌≡◌, ◌++◌, [], ◌∷◌, ℕ, List, map, sym, ap, subst, ◌∙◌, refl, arith}
use Rattle.std.proofs.Common.{◌≤◌, ◌<◌}
use Rattle.r4_base.specs.Key.{rank}
use Rattle.std.specs.Prelude.{true}
use Rattle.r4_content.specs.Edited.{Intervals, is_in}
use Rattle.r4_content.specs.Held.{interval_of}
use Rattle.r4_content.specs.declared.edits.Interval.{Interval}
use Rattle.r4_content.specs.declared.seen.SeenPart.{SeenPart}
use Rattle.r4_search.proofs.Walks.{goes_same, handed}
use Rattle.r4_seeing.specs.Known.{AreKnown, AreNew}
use Rattle.r4_seeing.specs.Looking.{IsLooking, KnowsBetween, KnowsMore, MeetsBetween, StopsBetween}
use Rattle.r4_seeing.proofs.LookingOn.{knows_none}
use Rattle.r4_seeing.proofs.Reading.{all_known, goes_on, known_behind, knows_at, meets_at, outside_are, stays}
use Rattle.r4_seeing.proofs.Reading.{values_are}
use Rattle.r4_seeing.proofs.Noting.{was_known}
use Rattle.r4_seeing.proofs.looking.Looking.read_on.Goals as goal

pub invariant_of-self : goal.invariant_of-self
invariant_of-self g c =
    stays c.self.inside.root (rank c.args.at) (g.P.Pool.state c.self.inside.pool)
    (g.P.Pool.state c.stretch_from.new.pool) c.self.inside.seen.parts.items
    (map interval_of c.self.inside.known.items) c.self.invariant c.in_err-stretch.ensures.goes
    c.in_err-stretch.ensures.looks

pub returns-in_err-stretch-clause-err : goal.returns-in_err-stretch-clause-err
returns-in_err-stretch-clause-err g c =
    handed (λ e. StopsBetween (rank c.args.at) (rank c.args.end) (g.P.Pool.state c.args.self.now.pool) e
    (g.P.Pool.state c.stretch_from.new.pool)) c.from_residual.result c.in_err-stretch.field-0.0
    c.from_residual.ensures.1
    (subst (λ v. StopsBetween (rank c.args.at) (rank c.args.end) (g.P.Pool.state v.pool) c.in_err-stretch.field-0.0
    (g.P.Pool.state c.stretch_from.new.pool)) c.self.view_is
    (record {
      key = rank c.args.at;
      low = omega arith;
      high = c.requires.order;
      mid = g.P.Pool.state c.self.inside.pool;
      before = goes_same (g.P.Pool.state c.self.inside.pool);
      stops = c.in_err-stretch.ensures.err;
      after =
          c.in_err-stretch.ensures.goes;
    }))

pub invariant_of-self-in_err-note : goal.invariant_of-self-in_err-note
invariant_of-self-in_err-note g c =
    let before : IsLooking (g.P.Pool.state c.stretch_from.new.pool) c.self.inside.root c.self.inside.seen.parts.items
    (map interval_of c.self.inside.known.items) =
    stays c.self.inside.root (rank c.args.at) (g.P.Pool.state c.self.inside.pool)
    (g.P.Pool.state c.stretch_from.new.pool) c.self.inside.seen.parts.items
    (map interval_of c.self.inside.known.items) c.self.invariant c.in_ok-stretch.ensures.goes
    c.in_ok-stretch.ensures.looks in
    subst (λ (items : List Interval). IsLooking (g.P.Pool.state c.stretch_from.new.pool) c.self.inside.root
    c.note.new.seen.parts.items (map interval_of items)) (sym c.in_err-note.ensures.still)
    (subst (λ (parts : List SeenPart). IsLooking (g.P.Pool.state c.stretch_from.new.pool) c.self.inside.root parts
    (map interval_of c.self.inside.known.items)) (sym c.in_err-note.ensures.same) before)

pub returns-in_err-note-clause-err : goal.returns-in_err-note-clause-err
returns-in_err-note-clause-err g c =
    handed (λ e. StopsBetween (rank c.args.at) (rank c.args.end) (g.P.Pool.state c.args.self.now.pool) e
    (g.P.Pool.state c.stretch_from.new.pool)) c.from_residual-in_err-note.result _
    c.from_residual-in_err-note.ensures.1
    (subst (λ v. StopsBetween (rank c.args.at) (rank c.args.end) (g.P.Pool.state v.pool) _
    (g.P.Pool.state c.stretch_from.new.pool)) c.self.view_is
    (record {
      key = rank c.args.at;
      low = omega arith;
      high = c.requires.order;
      mid = g.P.Pool.state c.self.inside.pool;
      before = goes_same (g.P.Pool.state c.self.inside.pool);
      stops = tt;
      after = c.in_ok-stretch.ensures.goes;
    }))

pub invariant_of-self-2 : goal.invariant_of-self-2
invariant_of-self-2 g c =
    let fresh = subst (λ v. AreNew v.known (rank c.args.at) (rank c.args.end)) (sym c.self.view_is) c.requires.new in
    subst (λ (known : Intervals). IsLooking (g.P.Pool.state c.stretch_from.new.pool) c.self.inside.root
    c.note.new.seen.parts.items known)
    (sym (ap (map interval_of) c.in_ok-note.ensures.known
    ∙ known_behind c.self.inside.known.items (record { from = c.args.at; to = c.in_ok-stretch.stretch.to })))
    (goes_on c.self.inside.root (rank c.args.at) (g.P.Pool.state c.self.inside.pool)
    (g.P.Pool.state c.stretch_from.new.pool) c.self.inside.seen.parts.items
    (map interval_of c.self.inside.known.items) c.self.invariant c.in_ok-stretch.ensures.goes
    c.in_ok-stretch.ensures.looks
    (rank c.args.end) c.in_ok-stretch.stretch c.in_ok-stretch.ensures.stretch c.requires.from c.requires.to fresh
    c.note.new.seen.parts.items c.in_ok-note.ensures.ok)

pub returns-clause-more : goal.returns-clause-more
returns-clause-more g c =
    let fresh = subst (λ v. AreNew v.known (rank c.args.at) (rank c.args.end)) (sym c.self.view_is) c.requires.new in
    let now = ap (map interval_of) c.in_ok-note.ensures.known
    ∙ known_behind c.self.inside.known.items (record { from = c.args.at; to = c.in_ok-stretch.stretch.to }) in
    subst (λ v. KnowsMore v
    (record {
      pool = c.stretch_from.new.pool;
      root = c.self.inside.root;
      seen = c.note.new.seen;
      known = map
          interval_of c.note.new.known.items;
    })) c.self.view_is
    (record {
      root = refl;
      known = λ k was. subst (λ (known : Intervals). is_in known k ≡ true) (sym now)
          (was_known (map interval_of c.self.inside.known.items) (rank c.args.at, rank c.in_ok-stretch.stretch.to) k
          was);
      values = values_are c.self.inside.root (rank c.args.at) (g.P.Pool.state c.self.inside.pool)
          (g.P.Pool.state c.stretch_from.new.pool) c.self.inside.seen.parts.items
          (map interval_of c.self.inside.known.items) c.self.invariant c.in_ok-stretch.ensures.goes
          c.in_ok-stretch.ensures.looks
          (rank c.args.end) c.in_ok-stretch.stretch c.in_ok-stretch.ensures.stretch c.requires.from c.requires.to fresh
          c.note.new.seen.parts.items c.in_ok-note.ensures.ok;
      outside = outside_are c.self.inside.root (rank c.args.at) (g.P.Pool.state c.self.inside.pool)
          (g.P.Pool.state c.stretch_from.new.pool) c.self.inside.seen.parts.items
          (map interval_of c.self.inside.known.items) c.self.invariant c.in_ok-stretch.ensures.goes
          c.in_ok-stretch.ensures.looks
          (rank c.args.end) c.in_ok-stretch.stretch c.in_ok-stretch.ensures.stretch c.requires.from c.requires.to fresh
          c.note.new.seen.parts.items c.in_ok-note.ensures.ok;
    })

pub returns-clause-looked : goal.returns-clause-looked
returns-clause-looked g c =
    let now = ap (map interval_of) c.in_ok-note.ensures.known
    ∙ known_behind c.self.inside.known.items (record { from = c.args.at; to = c.in_ok-stretch.stretch.to }) in
    subst (λ (known : Intervals). AreKnown known (rank c.args.at) (rank c.in_ok-stretch.stretch.to)) (sym now)
    (all_known (map interval_of c.self.inside.known.items) (rank c.args.at) (rank c.in_ok-stretch.stretch.to))

pub returns-in_err-stretch-clause-met : goal.returns-in_err-stretch-clause-met
returns-in_err-stretch-clause-met g c =
    subst (λ v. MeetsBetween (rank c.args.at) (rank c.args.end) (g.P.Pool.state v.pool)
    (g.P.Pool.state c.stretch_from.new.pool)) c.self.view_is
    (meets_at c.self.inside.root (rank c.args.at) (g.P.Pool.state c.self.inside.pool)
    (g.P.Pool.state c.stretch_from.new.pool) c.self.inside.seen.parts.items
    (map interval_of c.self.inside.known.items) c.self.invariant c.in_err-stretch.ensures.goes
    c.in_err-stretch.ensures.looks (rank c.args.end) c.requires.from c.requires.order c.requires.to)

pub returns-in_err-note-clause-met : goal.returns-in_err-note-clause-met
returns-in_err-note-clause-met g c =
    subst (λ v. MeetsBetween (rank c.args.at) (rank c.args.end) (g.P.Pool.state v.pool)
    (g.P.Pool.state c.stretch_from.new.pool)) c.self.view_is
    (meets_at c.self.inside.root (rank c.args.at) (g.P.Pool.state c.self.inside.pool)
    (g.P.Pool.state c.stretch_from.new.pool) c.self.inside.seen.parts.items
    (map interval_of c.self.inside.known.items) c.self.invariant c.in_ok-stretch.ensures.goes
    c.in_ok-stretch.ensures.looks (rank c.args.end) c.requires.from c.requires.order c.requires.to)

pub returns-clause-met : goal.returns-clause-met
returns-clause-met g c =
    subst (λ v. MeetsBetween (rank c.args.at) (rank c.args.end) (g.P.Pool.state v.pool)
    (g.P.Pool.state c.stretch_from.new.pool)) c.self.view_is
    (meets_at c.self.inside.root (rank c.args.at) (g.P.Pool.state c.self.inside.pool)
    (g.P.Pool.state c.stretch_from.new.pool) c.self.inside.seen.parts.items
    (map interval_of c.self.inside.known.items) c.self.invariant c.in_ok-stretch.ensures.goes
    c.in_ok-stretch.ensures.looks (rank c.args.end) c.requires.from c.requires.order c.requires.to)

pub returns-in_err-stretch-clause-only : goal.returns-in_err-stretch-clause-only
returns-in_err-stretch-clause-only g c =
    subst (λ v. KnowsBetween (rank c.args.at) (rank c.args.end) v.known (map interval_of c.self.inside.known.items))
    c.self.view_is
    (knows_none (rank c.args.at) (rank c.args.end) (map interval_of c.self.inside.known.items))

pub returns-in_err-note-clause-only : goal.returns-in_err-note-clause-only
returns-in_err-note-clause-only g c =
    subst (λ v. KnowsBetween (rank c.args.at) (rank c.args.end) v.known (map interval_of c.note.new.known.items))
    c.self.view_is
    (subst (λ (items : List Interval). KnowsBetween (rank c.args.at) (rank c.args.end)
    (map interval_of c.self.inside.known.items) (map interval_of items)) (sym c.in_err-note.ensures.still)
    (knows_none (rank c.args.at) (rank c.args.end) (map interval_of c.self.inside.known.items)))

pub returns-clause-only : goal.returns-clause-only
returns-clause-only g c =
    let now = ap (map interval_of) c.in_ok-note.ensures.known
    ∙ known_behind c.self.inside.known.items (record { from = c.args.at; to = c.in_ok-stretch.stretch.to }) in
    subst (λ v. KnowsBetween (rank c.args.at) (rank c.args.end) v.known (map interval_of c.note.new.known.items))
    c.self.view_is
    (subst (λ (known : Intervals). KnowsBetween (rank c.args.at) (rank c.args.end)
    (map interval_of c.self.inside.known.items) known) (sym now)
    (knows_at (map interval_of c.self.inside.known.items) (rank c.args.at) (rank c.in_ok-stretch.stretch.to)
    (rank c.args.end) c.in_ok-stretch.ensures.stretch.of.within))
