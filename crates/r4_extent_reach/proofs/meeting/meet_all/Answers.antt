use Rattle.std.proofs.Common.{◌≡◌, ◌⊎◌, ◌||◌, ◌<◌, ◌≤◌, ℕ, List, ap, arith, map, ◌∙◌}
use Rattle.std.proofs.lemmas.Result.{IfErr-weaker, on_ok_weaker}
use Rattle.r4_base.specs.Key.{least, top}
use Rattle.r4_extent_asks.specs.r4_bodies.Told.{intervals_of}
use Rattle.r4_content.specs.Edited.{is_in}
use Rattle.r4_content.specs.Held.{edits_of, interval_of}
use Rattle.r4_content.specs.declared.edits.Interval.{Interval}
use Rattle.r4_extent_asks.specs.r4_search.Keeping.{keeping_state}
use Rattle.r4_extent_asks.specs.r4_search.declared.pool.FetchFault.TheVariants.{Memory as NoMemory}
use Rattle.r4_extent_asks.proofs.r4_search.Walks.{goes_both, handed}
use Rattle.r4_extent_reach.specs.Meeting.{StopsAtLeft, StopsMeeting}
use Rattle.r4_extent_reach.proofs.Going.{meets_on, on_both, on_same, on_touch}
use Rattle.r4_extent_reach.proofs.AllMet.{first_stops, has_met, key_stops, left_stops}
use Rattle.r4_extent_reach.proofs.meeting.meet_all.Goals as goal

pub returns-in_err-keys-clause-on : goal.returns-in_err-keys-clause-on
returns-in_err-keys-clause-on g c =
    let k = c.args.pool.now in
    on_same (g.P.Pool.device k.pool) c.args.root.now (keeping_state (g.P.Pool.state k.pool) k.all k.met.entries)

pub returns-in_err-meet_some-clause-err : goal.returns-in_err-meet_some-clause-err
returns-in_err-meet_some-clause-err g c =
    let k = c.args.pool.now in
    let m = c.meet_some.new.pool in
    let p = keeping_state (g.P.Pool.state k.pool) k.all k.met.entries in
    let q = keeping_state (g.P.Pool.state m.pool) m.all m.met.entries in
    let b = c.args.known.now.body in
    let e = edits_of c.args.known.now.edits in
    let rs = map interval_of c.args.changes.now in
    handed (λ f. StopsMeeting b e rs p f q) c.from_residual-in_err-meet_some.result c.in_err-meet_some.field-0.0
    c.from_residual-in_err-meet_some.ensures.1
    (first_stops b e rs p q c.in_err-meet_some.field-0.0 c.in_err-meet_some.ensures.err)

pub touch_all-requires-clause-some : goal.touch_all-requires-clause-some
touch_all-requires-clause-some g c = let high = c.requires.meet.height in omega (arith, high)

pub touch_all-requires-clause-known : goal.touch_all-requires-clause-known
touch_all-requires-clause-known g c =
    let k = c.args.pool.now in
    let m = c.meet_some.new.pool in
    (meets_on (g.P.Pool.device k.pool) (g.P.Pool.device m.pool) c.args.root.now
    (keeping_state (g.P.Pool.state k.pool) k.all k.met.entries)
    (keeping_state (g.P.Pool.state m.pool) m.all m.met.entries) c.in_ok-meet_some.ensures.on c.requires.meet).begins

pub touch_all-requires-clause-keeps : goal.touch_all-requires-clause-keeps
touch_all-requires-clause-keeps g c =
    let k = c.args.pool.now in
    let m = c.meet_some.new.pool in
    (meets_on (g.P.Pool.device k.pool) (g.P.Pool.device m.pool) c.args.root.now
    (keeping_state (g.P.Pool.state k.pool) k.all k.met.entries)
    (keeping_state (g.P.Pool.state m.pool) m.all m.met.entries) c.in_ok-meet_some.ensures.on c.requires.meet).keeps

pub returns-in_err-touch_all-clause-on : goal.returns-in_err-touch_all-clause-on
returns-in_err-touch_all-clause-on g c =
    let root = c.args.root.now in
    let k = c.args.pool.now in
    let m = c.meet_some.new.pool in
    let n = c.touch_all.new.pool in
    let p = keeping_state (g.P.Pool.state k.pool) k.all k.met.entries in
    let q = keeping_state (g.P.Pool.state m.pool) m.all m.met.entries in
    let r = keeping_state (g.P.Pool.state n.pool) n.all n.met.entries in
    on_both (g.P.Pool.device k.pool) (g.P.Pool.device m.pool) (g.P.Pool.device n.pool) root p q r
    c.in_ok-meet_some.ensures.on
    (on_touch (g.P.Pool.device m.pool) (g.P.Pool.device n.pool) root (is_in (map interval_of c.as_slice.result.now)) q r
    c.in_err-touch_all.ensures.device c.in_err-touch_all.ensures.touches)

pub returns-in_err-touch_all-clause-err : goal.returns-in_err-touch_all-clause-err
returns-in_err-touch_all-clause-err g c =
    let k = c.args.pool.now in
    let m = c.meet_some.new.pool in
    let n = c.touch_all.new.pool in
    let p = keeping_state (g.P.Pool.state k.pool) k.all k.met.entries in
    let q = keeping_state (g.P.Pool.state m.pool) m.all m.met.entries in
    let r = keeping_state (g.P.Pool.state n.pool) n.all n.met.entries in
    let b = c.args.known.now.body in
    let e = edits_of c.args.known.now.edits in
    let rs = map interval_of c.args.changes.now in
    let read = intervals_of c.args.known.now.read in
    let are : (x : ℕ) → least ≤ x → x < top → is_in (map interval_of c.as_slice.result.now) x
    ≡ (is_in read x || is_in rs x) =
    (λ x low high. ap (λ (xs : List Interval). is_in (map interval_of xs) x) c.as_slice.ensures.value
    ∙ c.in_ok-keys.ensures x low high) in
    handed (λ f. StopsMeeting b e rs p f r) c.from_residual-in_err-touch_all.result c.in_err-touch_all.field-0.0
    c.from_residual-in_err-touch_all.ensures.1
    (key_stops b e rs read c.requires.read c.as_slice.result.now are p q r c.in_err-touch_all.field-0.0
    c.in_ok-meet_some.ensures.on.goes c.in_err-touch_all.ensures.err)

pub meet_beside-requires-clause-meet : goal.meet_beside-requires-clause-meet
meet_beside-requires-clause-meet g c =
    let root = c.args.root.now in
    let k = c.args.pool.now in
    let m = c.meet_some.new.pool in
    let n = c.touch_all.new.pool in
    let p = keeping_state (g.P.Pool.state k.pool) k.all k.met.entries in
    let q = keeping_state (g.P.Pool.state m.pool) m.all m.met.entries in
    let r = keeping_state (g.P.Pool.state n.pool) n.all n.met.entries in
    let on = on_touch (g.P.Pool.device m.pool) (g.P.Pool.device n.pool) root
    (is_in (map interval_of c.as_slice.result.now)) q r c.in_ok-touch_all.ensures.device
    c.in_ok-touch_all.ensures.touches in
    meets_on (g.P.Pool.device m.pool) (g.P.Pool.device n.pool) root q r on
    (meets_on (g.P.Pool.device k.pool) (g.P.Pool.device m.pool) root p q c.in_ok-meet_some.ensures.on c.requires.meet)

pub returns-clause-on : goal.returns-clause-on
returns-clause-on g c =
    let root = c.args.root.now in
    let k = c.args.pool.now in
    let m = c.meet_some.new.pool in
    let n = c.touch_all.new.pool in
    let l = c.meet_beside.new.pool in
    let p = keeping_state (g.P.Pool.state k.pool) k.all k.met.entries in
    let q = keeping_state (g.P.Pool.state m.pool) m.all m.met.entries in
    let r = keeping_state (g.P.Pool.state n.pool) n.all n.met.entries in
    let s = keeping_state (g.P.Pool.state l.pool) l.all l.met.entries in
    let on = on_touch (g.P.Pool.device m.pool) (g.P.Pool.device n.pool) root
    (is_in (map interval_of c.as_slice.result.now)) q r c.in_ok-touch_all.ensures.device
    c.in_ok-touch_all.ensures.touches in
    on_both (g.P.Pool.device k.pool) (g.P.Pool.device m.pool) (g.P.Pool.device l.pool) root p q s
    c.in_ok-meet_some.ensures.on
    (on_both (g.P.Pool.device m.pool) (g.P.Pool.device n.pool) (g.P.Pool.device l.pool) root q r s on
    c.meet_beside.ensures.on)

pub returns-clause-met : goal.returns-clause-met
returns-clause-met g c =
    let k = c.args.pool.now in
    let m = c.meet_some.new.pool in
    let n = c.touch_all.new.pool in
    let l = c.meet_beside.new.pool in
    let q = keeping_state (g.P.Pool.state m.pool) m.all m.met.entries in
    let r = keeping_state (g.P.Pool.state n.pool) n.all n.met.entries in
    let s = keeping_state (g.P.Pool.state l.pool) l.all l.met.entries in
    let b = c.args.known.now.body in
    let e = edits_of c.args.known.now.edits in
    let rs = map interval_of c.args.changes.now in
    let read = intervals_of c.args.known.now.read in
    let are : (x : ℕ) → least ≤ x → x < top → is_in (map interval_of c.as_slice.result.now) x
    ≡ (is_in read x || is_in rs x) =
    (λ x low high. ap (λ (xs : List Interval). is_in (map interval_of xs) x) c.as_slice.ensures.value
    ∙ c.in_ok-keys.ensures x low high) in
    on_ok_weaker c.meet_beside.result
    (has_met b e rs read c.requires.read c.as_slice.result.now are q r s c.in_ok-touch_all.ensures.touches.goes
    c.meet_beside.ensures.on.goes c.in_ok-meet_some.ensures.some c.in_ok-touch_all.ensures.held)
    c.meet_beside.ensures.beside

pub returns-clause-err : goal.returns-clause-err
returns-clause-err g c =
    let k = c.args.pool.now in
    let m = c.meet_some.new.pool in
    let n = c.touch_all.new.pool in
    let l = c.meet_beside.new.pool in
    let p = keeping_state (g.P.Pool.state k.pool) k.all k.met.entries in
    let q = keeping_state (g.P.Pool.state m.pool) m.all m.met.entries in
    let r = keeping_state (g.P.Pool.state n.pool) n.all n.met.entries in
    let s = keeping_state (g.P.Pool.state l.pool) l.all l.met.entries in
    let b = c.args.known.now.body in
    let e = edits_of c.args.known.now.edits in
    let rs = map interval_of c.args.changes.now in
    IfErr-weaker c.meet_beside.result (λ f. (f ≡ NoMemory) ⊎ StopsAtLeft b e rs r f s)
    (λ f. StopsMeeting b e rs p f s)
    (λ f. left_stops b e rs p r s f
    (goes_both p q r c.in_ok-meet_some.ensures.on.goes c.in_ok-touch_all.ensures.touches.goes))
    c.meet_beside.ensures.err
