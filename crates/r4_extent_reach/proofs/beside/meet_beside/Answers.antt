use Rattle.std.proofs.Common.{◌≡◌, ◌⊎◌, List, ap, inr, map, subst, sym, true, ◌∙◌}
use Rattle.std.proofs.lemmas.Result.{IfErr-weaker, on_ok_weaker}
use Rattle.std.specs.Prelude.{Contains, Option, nat_lt}
use Rattle.r4_base.specs.Key.{rank}
use Rattle.r4_content.specs.Held.{edits_of, interval_of}
use Rattle.r4_extent_reaching.specs.r4_extent_touching.Holding.{AreLeftMet}
use Rattle.r4_extent_reaching.specs.r4_touching.r4_reach.Needs.{going_of}
use Rattle.r4_extent_reaching.specs.r4_touching.r4_reach.Touched.{Body}
use Rattle.r4_extent_reaching.specs.r4_reaching.Gathering.{AreAllMet}
use Rattle.r4_extent_asks.specs.r4_search.Keeping.{Shared, keeping_state, met_in}
use Rattle.r4_extent_asks.specs.r4_search.declared.pool.FetchFault.TheVariants.{Memory as NoMemory}
use Rattle.r4_extent_reach.specs.Meeting.{MeetsBeside, StopsAtLeft, StopsBesideOf, turns_by, turns_of}
use Rattle.r4_extent_reach.proofs.Hung.{knows_each}
use Rattle.r4_extent_reach.proofs.LeftMet.{all_beside, goes_beside, seen_of, stops_at_left}
use Rattle.r4_extent_reach.proofs.beside.meet_beside.Goals as goal

pub meet_beside_each-requires-clause-knows : goal.meet_beside_each-requires-clause-knows
meet_beside_each-requires-clause-knows g c = λ x at.
    let k = c.args.pool.now in
    let cells = seen_of c.in_ok-met.met.items in
    let are = subst (λ m. AreAllMet (met_in m.entries) cells) c.met.ensures c.in_ok-met.ensures.all in
    knows_each (g.P.Pool.state k.pool) k.all k.met.entries k.sound c.args.root.now c.requires.meet cells are x
    (subst (λ (xs : List Shared). Contains (seen_of xs) x) c.as_slice.ensures.value at)

pub returns-clause-on : goal.returns-clause-on
returns-clause-on g c =
    let k = c.args.pool.now in
    let n = c.meet_beside_each.new.pool in
    let p = keeping_state (g.P.Pool.state k.pool) k.all k.met.entries in
    let q = keeping_state (g.P.Pool.state n.pool) n.all n.met.entries in
    let turns = turns_of c.new-demands.result in
    let cells = seen_of c.in_ok-met.met.items in
    let are = subst (λ m. AreAllMet (met_in m.entries) cells) c.met.ensures c.in_ok-met.ensures.all in
    let only = subst (λ (xs : List Shared). MeetsBeside turns (seen_of xs) p q) c.as_slice.ensures.value
    c.meet_beside_each.ensures.only in
    goes_beside turns cells (g.P.Pool.device k.pool) (g.P.Pool.device n.pool) c.args.root.now p q are
    c.meet_beside_each.ensures.device c.meet_beside_each.ensures.goes only

pub returns-clause-beside : goal.returns-clause-beside
returns-clause-beside g c =
    let k = c.args.pool.now in
    let n = c.meet_beside_each.new.pool in
    let p = keeping_state (g.P.Pool.state k.pool) k.all k.met.entries in
    let q = keeping_state (g.P.Pool.state n.pool) n.all n.met.entries in
    let b = c.args.known.now.body in
    let e = edits_of c.args.known.now.edits in
    let rs = map interval_of c.args.changes.now in
    let d = c.new-demands.result in
    let cells = seen_of c.in_ok-met.met.items in
    let are = subst (λ m. AreAllMet (met_in m.entries) cells) c.met.ensures c.in_ok-met.ensures.all in
    let body_is : d.body ≡ b = c.new-demands.ensures.body ∙ c.as_ref-body.ensures.value in
    let turns : turns_of d ≡ turns_by b e rs =
    (λ i. turns_by (body_is i) (edits_of (c.new-demands.ensures.edits i)) (c.new-demands.ensures.changes i)) in
    let only = subst (λ t. MeetsBeside t cells p q) turns
    (subst (λ (xs : List Shared). MeetsBeside (turns_of d) (seen_of xs) p q) c.as_slice.ensures.value
    c.meet_beside_each.ensures.only) in
    let key : rank c.in-Some.at ≡ (going_of b).0 =
    c.in-Some.ensures.1 ∙ ap (λ (o : Option Body). (going_of o).0) c.as_ref-body.ensures.value in
    on_ok_weaker c.meet_beside_each.result
    (λ met. all_beside b e rs cells p q are c.meet_beside_each.ensures.goes only
    (λ x at on. subst (λ key. AreLeftMet q x key) key
    (met x (subst (λ (xs : List Shared). Contains (seen_of xs) x) (sym c.as_slice.ensures.value) at)
    (ap (λ t. t x) turns ∙ on))))
    c.meet_beside_each.ensures.met

pub returns-clause-err : goal.returns-clause-err
returns-clause-err g c =
    let k = c.args.pool.now in
    let n = c.meet_beside_each.new.pool in
    let p = keeping_state (g.P.Pool.state k.pool) k.all k.met.entries in
    let q = keeping_state (g.P.Pool.state n.pool) n.all n.met.entries in
    let b = c.args.known.now.body in
    let e = edits_of c.args.known.now.edits in
    let rs = map interval_of c.args.changes.now in
    let d = c.new-demands.result in
    let cells = seen_of c.in_ok-met.met.items in
    let are = subst (λ m. AreAllMet (met_in m.entries) cells) c.met.ensures c.in_ok-met.ensures.all in
    let body_is : d.body ≡ b = c.new-demands.ensures.body ∙ c.as_ref-body.ensures.value in
    let turns : turns_of d ≡ turns_by b e rs =
    (λ i. turns_by (body_is i) (edits_of (c.new-demands.ensures.edits i)) (c.new-demands.ensures.changes i)) in
    let only = subst (λ t. MeetsBeside t cells p q) turns
    (subst (λ (xs : List Shared). MeetsBeside (turns_of d) (seen_of xs) p q) c.as_slice.ensures.value
    c.meet_beside_each.ensures.only) in
    let key : rank c.in-Some.at ≡ (going_of b).0 =
    c.in-Some.ensures.1 ∙ ap (λ (o : Option Body). (going_of o).0) c.as_ref-body.ensures.value in
    let go : nat_lt (going_of b).0 (going_of b).1 ≡ true =
    ap (λ (o : Option Body). nat_lt (going_of o).0 (going_of o).1) (sym c.as_ref-body.ensures.value)
    ∙ c.in-Some.ensures.0 in
    IfErr-weaker c.meet_beside_each.result
    (λ f. StopsBesideOf (turns_of d) (seen_of c.as_slice.result.now) (rank c.in-Some.at) p f q)
    (λ f. (f ≡ NoMemory) ⊎ StopsAtLeft b e rs p f q)
    (λ f s. inr (stops_at_left b e rs cells p q are c.meet_beside_each.ensures.goes only f go
    (subst (λ key. StopsBesideOf (turns_by b e rs) cells key p f q) key
    (subst (λ t. StopsBesideOf t cells (rank c.in-Some.at) p f q) turns
    (subst (λ (xs : List Shared). StopsBesideOf (turns_of d) (seen_of xs) (rank c.in-Some.at) p f q)
    c.as_slice.ensures.value s)))))
    c.meet_beside_each.ensures.err
