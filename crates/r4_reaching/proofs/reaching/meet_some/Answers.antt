use Rattle.std.proofs.Common.{hash_map_len, ◌∙◌, ◌≡◌, ◌+◌, ap, sym, subst, refl, arith, map, ◌∷◌, []}
use Rattle.r4_base.specs.Key.{rank}
use Rattle.r4_base.proofs.FreshTree.{least_below}
use Rattle.r4_content.specs.Edited.{is_in}
use Rattle.r4_content.specs.Held.{interval_of}
use Rattle.r4_touching.proofs.r4_gather.Staying.{stays_same}
use Rattle.r4_search.specs.Keeping.{keeping_state}
use Rattle.r4_touching.proofs.r4_seeing.Staying.{goes_stay}
use Rattle.r4_reaching.proofs.Some.{held_some, is_first, one_kept}
use Rattle.r4_reaching.proofs.reaching.meet_some.Goals as goal

pub key_after-requires-clause-below : goal.key_after-requires-clause-below
key_after-requires-clause-below g c =
    let a = least_below in
    let b = c.least-2.ensures in
    omega (arith, a, b)

pub returns-then-not-is_empty-clause-stays : goal.returns-then-not-is_empty-clause-stays
returns-then-not-is_empty-clause-stays g c =
    let k = c.args.pool.now in
    stays_same (g.P.Pool.device k.pool)
    (record { root = c.args.root.now; pool = keeping_state (g.P.Pool.state k.pool) k.all k.met.entries })

pub returns-then-not-is_empty-clause-some : goal.returns-then-not-is_empty-clause-some
returns-then-not-is_empty-clause-some g c =
    let k = c.args.pool.now in
    one_kept (g.P.Pool.state k.pool) k.all k.met.entries
    (λ none. let yes = c.is_empty.ensures.1 (subst (λ m. hash_map_len m ≡ 0) (sym c.met.ensures) none) in
    let no = c.if-not-is_empty.true in
    cc)

pub returns-in_err-touch-clause-stays : goal.returns-in_err-touch-clause-stays
returns-in_err-touch-clause-stays g c =
    let k = c.args.pool.now in
    let m = c.touch.new.pool in
    goes_stay (g.P.Pool.device k.pool) (g.P.Pool.device m.pool)
    (keeping_state (g.P.Pool.state k.pool) k.all k.met.entries)
    (keeping_state (g.P.Pool.state m.pool) m.all m.met.entries) c.args.root.now c.args.root.now refl
    c.touch.ensures.device c.touch.ensures.touches.goes

pub returns-clause-stays : goal.returns-clause-stays
returns-clause-stays g c =
    let k = c.args.pool.now in
    let m = c.touch.new.pool in
    goes_stay (g.P.Pool.device k.pool) (g.P.Pool.device m.pool)
    (keeping_state (g.P.Pool.state k.pool) k.all k.met.entries)
    (keeping_state (g.P.Pool.state m.pool) m.all m.met.entries) c.args.root.now c.args.root.now refl
    c.touch.ensures.device c.touch.ensures.touches.goes

pub returns-clause-some : goal.returns-clause-some
returns-clause-some g c =
    let m = c.touch.new.pool in
    held_some (keeping_state (g.P.Pool.state m.pool) m.all m.met.entries)
    (is_in (map interval_of (record { from = c.least.result; to = c.key_after.result } ∷ []))) c.in_ok-touch.field-0
    (is_first (rank c.least.result) (rank c.key_after.result) c.least.ensures
    (c.key_after.ensures ∙ ap (λ n. n + 1) c.least-2.ensures)) least_below c.in_ok-touch.ensures.held
