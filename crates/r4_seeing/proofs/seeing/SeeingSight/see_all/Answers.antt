use Rattle.std.proofs.Common.{◌≡◌, ◌⊎◌, ◌+◌, ◌<◌, ◌≤◌, ℕ, List, map, sym, ap, subst, ◌∙◌, refl, arith}
use Rattle.std.specs.Prelude.{reverse, true}
use Rattle.std.proofs.lemmas.Bool.Decides.{nat_tests}
use Rattle.r4_base.specs.Key.{least, rank, top}
use Rattle.r4_content.specs.Edited.{Intervals, is_between}
use Rattle.r4_gather.specs.Asking.{IsLater, StaysOver}
use Rattle.r4_gather.proofs.Staying.{stays_same}
use Rattle.r4_gather.specs.declared.sight.Asked.{Asked}
use Rattle.r4_gather.specs.declared.sight.Asked.TheVariants.{Within}
use Rattle.r4_gather.specs.Finding.{asked_keys}
use Rattle.r4_seeing.specs.Seeing.{IsSeeing, sighting}
use Rattle.r4_seeing.proofs.Staying.{goes_stay}
use Rattle.r4_seeing.proofs.AskedOn.{asked_more, asked_within, clipped, clipped_in, later_seeing}
use Rattle.r4_seeing.proofs.seeing.SeeingSight.see_all.Goals as goal

pub invariant_of-self-2 : goal.invariant_of-self-2
invariant_of-self-2 g c =
    let low : (rank c.greater-from.result ≤ rank c.args.within.from) ⊎ (rank c.greater-from.result ≤ least) = subst
    (λ (k : ℕ). (rank c.greater-from.result ≤ rank c.args.within.from) ⊎ (rank c.greater-from.result ≤ k))
    c.least.ensures c.greater-from.ensures.is in
    let high : (rank c.args.within.to ≤ rank c.lesser-to.result) ⊎ (top ≤ rank c.lesser-to.result) = subst
    (λ (k : ℕ). (rank c.args.within.to ≤ rank c.lesser-to.result) ⊎ (k ≤ rank c.lesser-to.result)) c.top.ensures
    c.lesser-to.ensures.is in
    subst (λ (q : Intervals). IsSeeing (g.P.Pool.state c.look-looked.new.self.pool) c.look-looked.new.self.known q
    c.noted.new.fault)
    (sym (ap (λ (items : List Asked). reverse (map asked_keys items)) c.in_ok-push.ensures.items
    ∙ asked_more c.self.inside.asked.items (Within c.args.within)))
    (asked_within (g.P.Pool.state c.self.inside.looking.pool)
    (g.P.Pool.state c.look-looked.new.self.pool) c.self.inside.looking.known c.look-looked.new.self.known
    (reverse (map asked_keys c.self.inside.asked.items)) (rank c.args.within.from, rank c.args.within.to)
    (rank c.greater-from.result) (rank c.lesser-to.result) c.self.inside.fault
    c.self.invariant c.look-looked.ensures.goes
    (clipped (rank c.args.within.from) (rank c.args.within.to) (rank c.greater-from.result)
    (rank c.lesser-to.result) low high)
    (clipped_in (rank c.args.within.from) (rank c.args.within.to) (rank c.greater-from.result)
    (rank c.lesser-to.result) c.greater-from.ensures.one c.lesser-to.ensures.one)
    c.look-looked.ensures.met c.look-looked.ensures.only c.noted.new.fault c.look-looked.result
    c.look-looked.ensures.more.known c.look-looked.ensures.looked c.look-looked.ensures.err c.noted.ensures.fault
    c.in_default.is)

pub returns-clause-later : goal.returns-clause-later
returns-clause-later g c =
    subst (λ v. IsLater (sighting v)
    (sighting
    (record {
      looking = c.look-looked.new.self;
      asked = reverse (map asked_keys c.push.new.self.items);
      fault =
          c.noted.new.fault;
    }))) c.self.view_is
    (later_seeing (g.P.Pool.state c.self.inside.looking.pool) _
    (record {
      looking = c.look-looked.new.self;
      asked = reverse (map asked_keys c.push.new.self.items);
      fault =
          c.noted.new.fault;
    }) (rank c.args.within.from, rank c.args.within.to) c.self.invariant c.in_default.is
    (ap (λ (items : List Asked). reverse (map asked_keys items)) c.in_ok-push.ensures.items
    ∙ asked_more c.self.inside.asked.items (Within c.args.within)) c.look-looked.ensures.more)

pub returns-in-Some-clause-stays : goal.returns-in-Some-clause-stays
returns-in-Some-clause-stays g c =
    let l = c.args.self.now.looking in
    stays_same (g.P.Pool.device l.pool) (record { root = l.root; pool = g.P.Pool.state l.pool })

pub returns-in_err-push-clause-stays : goal.returns-in_err-push-clause-stays
returns-in_err-push-clause-stays g c =
    let l = c.self.inside.looking in
    subst (λ v. StaysOver (g.P.Pool.device v.looking.pool) (g.P.Pool.device l.pool)
    (record { root = v.looking.root; pool = g.P.Pool.state v.looking.pool })
    (record { root = l.root; pool = g.P.Pool.state l.pool })) c.self.view_is
    (stays_same (g.P.Pool.device l.pool) (record { root = l.root; pool = g.P.Pool.state l.pool }))

pub returns-clause-stays : goal.returns-clause-stays
returns-clause-stays g c =
    let l = c.self.inside.looking in
    let m = c.look-looked.new.self in
    subst (λ v. StaysOver (g.P.Pool.device v.looking.pool) (g.P.Pool.device m.pool)
    (record { root = v.looking.root; pool = g.P.Pool.state v.looking.pool })
    (record { root = m.root; pool = g.P.Pool.state m.pool })) c.self.view_is
    (goes_stay (g.P.Pool.device l.pool) (g.P.Pool.device m.pool) (g.P.Pool.state l.pool) (g.P.Pool.state m.pool)
    l.root m.root c.look-looked.ensures.more.root c.look-looked.ensures.device c.look-looked.ensures.goes)
