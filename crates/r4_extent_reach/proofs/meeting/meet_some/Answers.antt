use Rattle.std.proofs.Common.{hash_map_len, ◌∙◌, ◌≡◌, ◌+◌, ap, sym, subst, arith, map, ◌∷◌, []}
use Rattle.std.proofs.lemmas.Result.{IfErr-weaker, on_ok_weaker}
use Rattle.r4_base.specs.Key.{least, rank}
use Rattle.r4_base.proofs.FreshTree.{least_below}
use Rattle.r4_content.specs.Edited.{is_in}
use Rattle.r4_content.specs.Held.{interval_of}
use Rattle.r4_extent_reaching.proofs.r4_reaching.Some.{one_kept}
use Rattle.r4_extent_asks.specs.r4_search.Keeping.{keeping_state}
use Rattle.r4_extent_asks.proofs.r4_search.Walks.{goes_same}
use Rattle.r4_extent_reaching.specs.r4_touching.Touching.{StopsFor}
use Rattle.r4_extent_reaching.proofs.r4_touching.Touched.{stops_wider}
use Rattle.r4_extent_reach.proofs.Going.{on_same, on_touch}
use Rattle.r4_extent_reach.proofs.AllMet.{first_on, first_same, held_one}
use Rattle.r4_extent_reach.proofs.meeting.meet_some.Goals as goal

pub key_after-requires-clause-below : goal.key_after-requires-clause-below
key_after-requires-clause-below g c =
    let a = least_below in
    let b = c.least-2.ensures in
    omega (arith, a, b)

pub returns-then-not-is_empty-clause-on : goal.returns-then-not-is_empty-clause-on
returns-then-not-is_empty-clause-on g c =
    let k = c.args.pool.now in
    on_same (g.P.Pool.device k.pool) c.args.root.now (keeping_state (g.P.Pool.state k.pool) k.all k.met.entries)

pub returns-then-not-is_empty-clause-some : goal.returns-then-not-is_empty-clause-some
returns-then-not-is_empty-clause-some g c =
    let k = c.args.pool.now in
    one_kept (g.P.Pool.state k.pool) k.all k.met.entries
    (λ none. let yes = c.is_empty.ensures.1 (subst (λ m. hash_map_len m ≡ 0) (sym c.met.ensures) none) in
    let no = c.if-not-is_empty.true in
    cc)

pub returns-clause-on : goal.returns-clause-on
returns-clause-on g c =
    let k = c.args.pool.now in
    let m = c.touch_all.new.pool in
    on_touch (g.P.Pool.device k.pool) (g.P.Pool.device m.pool) c.args.root.now
    (is_in (map interval_of (record { from = c.least.result; to = c.key_after.result } ∷ [])))
    (keeping_state (g.P.Pool.state k.pool) k.all k.met.entries)
    (keeping_state (g.P.Pool.state m.pool) m.all m.met.entries) c.touch_all.ensures.device c.touch_all.ensures.touches

pub returns-clause-some : goal.returns-clause-some
returns-clause-some g c =
    let m = c.touch_all.new.pool in
    on_ok_weaker c.touch_all.result
    (λ held. held_one (keeping_state (g.P.Pool.state m.pool) m.all m.met.entries)
    (is_in (map interval_of (record { from = c.least.result; to = c.key_after.result } ∷ [])))
    (first_on (rank c.least.result) (rank c.key_after.result) c.least.ensures
    (c.key_after.ensures ∙ ap (λ n. n + 1) c.least-2.ensures)) least_below held)
    c.touch_all.ensures.held

pub returns-clause-err : goal.returns-clause-err
returns-clause-err g c =
    let k = c.args.pool.now in
    let m = c.touch_all.new.pool in
    let p = keeping_state (g.P.Pool.state k.pool) k.all k.met.entries in
    let q = keeping_state (g.P.Pool.state m.pool) m.all m.met.entries in
    let keys = is_in (map interval_of (record { from = c.least.result; to = c.key_after.result } ∷ [])) in
    IfErr-weaker c.touch_all.result (λ f. StopsFor keys p f q) (λ f. StopsFor (is_in ((least, least + 1) ∷ [])) p f q)
    (λ f s. stops_wider keys (is_in ((least, least + 1) ∷ [])) p p q f
    (first_same (rank c.least.result) (rank c.key_after.result) c.least.ensures
    (c.key_after.ensures ∙ ap (λ n. n + 1) c.least-2.ensures)) (goes_same p) s)
    c.touch_all.ensures.err
