use Rattle.std.proofs.Common.{◌≡◌, ◌+◌, ◌<◌, ◌≤◌, ℕ, List, map, sym, ap, subst, ◌∙◌, refl, arith}
use Rattle.std.specs.Prelude.{reverse, true}
use Rattle.std.proofs.lemmas.Bool.Decides.{nat_tests}
use Rattle.r4_base.specs.Key.{rank}
use Rattle.r4_content.specs.Edited.{Intervals, is_between}
use Rattle.r4_gather.specs.Asking.{IsLater, StaysOver}
use Rattle.r4_gather.proofs.Staying.{stays_same}
use Rattle.r4_gather.specs.declared.sight.Asked.{Asked}
use Rattle.r4_gather.specs.declared.sight.Asked.TheVariants.{Key as AskedKey}
use Rattle.r4_gather.specs.Finding.{asked_keys}
use Rattle.r4_seeing.specs.Seeing.{IsSeeing, sighting}
use Rattle.r4_seeing.proofs.Staying.{goes_stay}
use Rattle.r4_seeing.proofs.AskedOn.{asked_more, asked_outside, asked_within, later_seeing}
use Rattle.r4_seeing.proofs.seeing.SeeingSight.see.Goals as goal

pub invariant_of-self-then-not-is_in_tree : goal.invariant_of-self-then-not-is_in_tree
invariant_of-self-then-not-is_in_tree g c =
    subst (λ (q : Intervals). IsSeeing (g.P.Pool.state c.self.inside.looking.pool) c.self.inside.looking.known q
    c.self.inside.fault)
    (sym (ap (λ (items : List Asked). reverse (map asked_keys items)) c.in_ok-push.ensures.items
    ∙ asked_more c.self.inside.asked.items (AskedKey c.args.key)))
    (asked_outside (g.P.Pool.state c.self.inside.looking.pool) c.self.inside.looking.known
    (reverse (map asked_keys c.self.inside.asked.items)) c.self.inside.fault (rank c.args.key)
    (sym c.if-not-is_in_tree.ensures) c.self.invariant)

pub invariant_of-self-2 : goal.invariant_of-self-2
invariant_of-self-2 g c =
    let end = c.key_after.ensures in
    subst (λ (q : Intervals). IsSeeing (g.P.Pool.state c.look-looked.new.self.pool) c.look-looked.new.self.known q
    c.noted.new.fault)
    (sym (ap (λ (items : List Asked). reverse (map asked_keys items)) c.in_ok-push.ensures.items
    ∙ asked_more c.self.inside.asked.items (AskedKey c.args.key)))
    (asked_within (g.P.Pool.state c.self.inside.looking.pool)
    (g.P.Pool.state c.look-looked.new.self.pool) c.self.inside.looking.known c.look-looked.new.self.known
    (reverse (map asked_keys c.self.inside.asked.items)) (rank c.args.key, rank c.args.key + 1) (rank c.args.key)
    (rank c.key_after.result) c.self.inside.fault
    c.self.invariant c.look-looked.ensures.goes
    (λ k it low high. (
      grind (arith, nat_tests, it),
      let lt : k < rank c.args.key + 1 = grind (arith, nat_tests, it) in omega
          (arith, lt, end),
    ))
    (λ k low high. let lt : k < rank c.args.key + 1 = omega (arith, high, end) in grind (arith, nat_tests, low, lt))
    c.look-looked.ensures.met c.look-looked.ensures.only c.noted.new.fault c.look-looked.result
    c.look-looked.ensures.more.known c.look-looked.ensures.looked c.look-looked.ensures.err c.noted.ensures.fault
    c.in_default.is)

pub returns-clause-later : goal.returns-clause-later
returns-clause-later g c =
    subst (λ v. IsLater (sighting v)
    (sighting
    (record {
      looking = c.look-looked.new.self;
      asked = reverse (map asked_keys c.push.new.self.items);
      fault =
          c.noted.new.fault;
    }))) c.self.view_is
    (later_seeing (g.P.Pool.state c.self.inside.looking.pool) _
    (record {
      looking = c.look-looked.new.self;
      asked = reverse (map asked_keys c.push.new.self.items);
      fault =
          c.noted.new.fault;
    }) (rank c.args.key, rank c.args.key + 1) c.self.invariant c.in_default.is
    (ap (λ (items : List Asked). reverse (map asked_keys items)) c.in_ok-push.ensures.items
    ∙ asked_more c.self.inside.asked.items (AskedKey c.args.key)) c.look-looked.ensures.more)

pub returns-in-Some-clause-stays : goal.returns-in-Some-clause-stays
returns-in-Some-clause-stays g c =
    let l = c.args.self.now.looking in
    stays_same (g.P.Pool.device l.pool) (record { root = l.root; pool = g.P.Pool.state l.pool })

pub returns-in_err-push-clause-stays : goal.returns-in_err-push-clause-stays
returns-in_err-push-clause-stays g c =
    let l = c.self.inside.looking in
    subst (λ v. StaysOver (g.P.Pool.device v.looking.pool) (g.P.Pool.device l.pool)
    (record { root = v.looking.root; pool = g.P.Pool.state v.looking.pool })
    (record { root = l.root; pool = g.P.Pool.state l.pool })) c.self.view_is
    (stays_same (g.P.Pool.device l.pool) (record { root = l.root; pool = g.P.Pool.state l.pool }))

pub returns-then-not-is_in_tree-clause-stays : goal.returns-then-not-is_in_tree-clause-stays
returns-then-not-is_in_tree-clause-stays g c =
    let l = c.self.inside.looking in
    subst (λ v. StaysOver (g.P.Pool.device v.looking.pool) (g.P.Pool.device l.pool)
    (record { root = v.looking.root; pool = g.P.Pool.state v.looking.pool })
    (record { root = l.root; pool = g.P.Pool.state l.pool })) c.self.view_is
    (stays_same (g.P.Pool.device l.pool) (record { root = l.root; pool = g.P.Pool.state l.pool }))

pub returns-clause-stays : goal.returns-clause-stays
returns-clause-stays g c =
    let l = c.self.inside.looking in
    let m = c.look-looked.new.self in
    subst (λ v. StaysOver (g.P.Pool.device v.looking.pool) (g.P.Pool.device m.pool)
    (record { root = v.looking.root; pool = g.P.Pool.state v.looking.pool })
    (record { root = m.root; pool = g.P.Pool.state m.pool })) c.self.view_is
    (goes_stay (g.P.Pool.device l.pool) (g.P.Pool.device m.pool) (g.P.Pool.state l.pool) (g.P.Pool.state m.pool)
    l.root m.root c.look-looked.ensures.more.root c.look-looked.ensures.device c.look-looked.ensures.goes)
