use Rattle.std.proofs.Common.{◌≡◌, ◌++◌, ◌≤◌, ℕ, inl, Bool, true, ap, map, subst, sym, ◌∙◌}
use Rattle.std.specs.Prelude.{None, reverse}
use Rattle.r4_extent_commands.specs.r4_cell.declared.change.Root.{Root}
use Rattle.r4_content.specs.Edited.{Intervals}
use Rattle.r4_content.specs.Held.{pairs_of}
use Rattle.r4_content.specs.declared.seen.Seen.{Seen}
use Rattle.r4_extent_reaching.proofs.r4_touching.r4_gather.Staying.{stays_same}
use Rattle.r4_extent_reaching.specs.r4_touching.r4_gather.Asking.{EndsIn, StaysOver}
use Rattle.r4_extent_reaching.specs.r4_touching.r4_gather.Finding.{asked_keys}
use Rattle.r4_extent_asks.specs.r4_search.Keeping.{keeping_state, met_in}
use Rattle.r4_extent_asks.specs.r4_search.declared.keeping.Keeping.{Keeping}
use Rattle.r4_extent_reaching.specs.r4_reaching.Answers.{IsAllSeen, IsSamePool, StopsAsking, asked_by}
use Rattle.r4_extent_reaching.proofs.r4_reaching.Ending.{is_all_seen, keeps_all, root_stays, same_pool, stays_joined, stops_asking}
use Rattle.r4_extent_reach.proofs.Ending.{IsAnswered, stops_wider}
use Rattle.r4_extent_reach.proofs.reaching.reach.Goals.{in-Ok, in-Err}
use Rattle.r4_extent_reach.proofs.reaching.reach.Goals as goal

pub reach_of_seen-found-requires-clause-seen : goal.reach_of_seen-found-requires-clause-seen
reach_of_seen-found-requires-clause-seen g c =
    let command = c.args.command.now in
    let sight = c.see_for-saw.new.sight in
    let k = sight.looking.pool in
    let s = sight.looking.seen in
    let questions = map asked_keys c.deref.result.now in
    let begun = c.new-sight.result.looking in
    let b = begun.pool in
    let root_is : sight.looking.root ≡ c.args.root.now =
    root_stays (g.P.Pool.device b.pool) (g.P.Pool.device k.pool)
    (keeping_state (g.P.Pool.state b.pool) b.all b.met.entries)
    (keeping_state (g.P.Pool.state k.pool) k.all k.met.entries) begun.root sight.looking.root
    c.see_for-saw.ensures.stays ∙ c.new-sight.ensures.root in
    let was = c.in-Ok.ensures.asked
    ∙ ap (λ (qs : Intervals). reverse (asked_by command (pairs_of s)) ++ qs) c.new-sight.ensures.asked in
    let is = ap (λ xs. reverse (map asked_keys xs)) c.deref.ensures.value ∙ c.into_parts-pool.ensures.asked in
    let seen = is_all_seen (keeping_state (g.P.Pool.state k.pool) k.all k.met.entries) sight.looking.root command s
    sight.looking.known sight.asked questions sight.fault
    (subst (λ (r : Root). 2 ≤ r.height) (sym root_is) c.requires.height) c.lawful.ensures.looking
    c.lawful.ensures.seeing (c.in-Ok.ensures.kept ∙ c.new-sight.ensures.fault) was is in
    let of_root = subst (λ (r : Root). IsAllSeen (keeping_state (g.P.Pool.state k.pool) k.all k.met.entries) r command
    s sight.looking.known questions) root_is seen in
    let of_pool = subst (λ (x : Keeping g.row.P.Denot g.P.Pool). IsAllSeen (keeping_state (g.P.Pool.state x.pool)
    x.all x.met.entries) c.args.root.now command s sight.looking.known questions)
    (sym c.into_parts-pool.ensures.pool) of_root in (
      sight.looking.known,
      subst (λ (v : Seen). IsAllSeen (keeping_state (g.P.Pool.state c.into_parts-pool.result.0.pool)
          c.into_parts-pool.result.0.all c.into_parts-pool.result.0.met.entries) c.args.root.now command v
          sight.looking.known questions) (sym c.into_parts-pool.ensures.seen) of_pool,
    )

pub returns : goal.returns
returns g c =
    let root = c.args.root.now in
    let command = c.args.command.now in
    let begun = c.new-sight.result.looking in
    let b = begun.pool in
    let sight = c.see_for-saw.new.sight in
    let k = sight.looking.pool in
    let mid = c.into_parts-pool.result.0 in
    let last = c.match-saw.pool in
    let met = last.met.entries in
    -- from the cells that were looked at to the last ones
    let then : StaysOver (g.P.Pool.device mid.pool) (g.P.Pool.device last.pool)
    (record { root = root; pool = keeping_state (g.P.Pool.state mid.pool) mid.all mid.met.entries })
    (record { root = root; pool = keeping_state (g.P.Pool.state last.pool) last.all met }) =
    elim c.match-saw.branch [
      | in-Ok w ↦ subst (λ (x : Keeping g.row.P.Denot g.P.Pool). StaysOver (g.P.Pool.device mid.pool)
          (g.P.Pool.device x.pool)
          (record { root = root; pool = keeping_state (g.P.Pool.state mid.pool) mid.all mid.met.entries })
          (record { root = root; pool = keeping_state (g.P.Pool.state x.pool) x.all x.met.entries })) (sym w.pool-is)
          w.reach_of_seen-found.ensures.stays
      | in-Err w ↦ subst (λ (x : Keeping g.row.P.Denot g.P.Pool). StaysOver (g.P.Pool.device mid.pool)
          (g.P.Pool.device x.pool)
          (record { root = root; pool = keeping_state (g.P.Pool.state mid.pool) mid.all mid.met.entries })
          (record { root = root; pool = keeping_state (g.P.Pool.state x.pool) x.all x.met.entries })) (sym w.pool-is)
          (stays_same (g.P.Pool.device mid.pool)
          (record { root = root; pool = keeping_state (g.P.Pool.state mid.pool) mid.all mid.met.entries }))
    ] in
    let same_mid = subst (λ (x : Keeping g.row.P.Denot g.P.Pool). StaysOver (g.P.Pool.device x.pool)
    (g.P.Pool.device last.pool)
    (record { root = root; pool = keeping_state (g.P.Pool.state x.pool) x.all x.met.entries })
    (record { root = root; pool = keeping_state (g.P.Pool.state last.pool) last.all met }))
    c.into_parts-pool.ensures.pool then in
    let joined = stays_joined (g.P.Pool.device b.pool) (g.P.Pool.device k.pool) (g.P.Pool.device last.pool)
    (g.P.Pool.state b.pool) (g.P.Pool.state k.pool) (g.P.Pool.state last.pool) root begun.root sight.looking.root
    b.met.entries k.met.entries met b.all k.all last.all
    (ap (λ (x : Keeping g.row.P.Denot g.P.Pool). x.all) c.new-sight.ensures.pool ∙ c.all.ensures.all)
    c.new-sight.ensures.root c.see_for-saw.ensures.stays same_mid in
    let all = keeps_all (g.P.Pool.device b.pool) (g.P.Pool.device last.pool) (g.P.Pool.state b.pool)
    (g.P.Pool.state last.pool) root root b.met.entries met last.all joined in
    let none = subst (λ (x : Keeping g.row.P.Denot g.P.Pool). (i : ℕ) → met_in x.met.entries i ≡ None)
    (sym c.new-sight.ensures.pool) c.all.ensures.empty in
    let same = same_pool (g.P.Pool.device b.pool) (g.P.Pool.device last.pool) (g.P.Pool.state b.pool)
    (g.P.Pool.state last.pool) root root b.met.entries met last.all joined none last.sound in
    let pool_is = ap (λ (x : Keeping g.row.P.Denot g.P.Pool). x.pool) c.new-sight.ensures.pool ∙ c.all.ensures.pool in
    let of_first = subst (λ x. IsSamePool (g.P.Pool.device x) (g.P.Pool.device last.pool) (g.P.Pool.state x)
    (g.P.Pool.state last.pool) root met) pool_is same in
    let of_both = subst (λ x. IsSamePool (g.P.Pool.device c.args.pool) (g.P.Pool.device x) (g.P.Pool.state c.args.pool)
    (g.P.Pool.state x) root met) (sym c.into_pool.ensures) of_first in
    let found : IsAnswered (keeping_state (g.P.Pool.state last.pool) last.all met) root command c.match-saw.found =
    elim c.match-saw.branch [
      | in-Ok w ↦ (let made = w.reach_of_seen-found.new.pool in
          let wide = stops_wider (keeping_state (g.P.Pool.state made.pool) made.all made.met.entries) root command
          w.reach_of_seen-found.result w.reach_of_seen-found.ensures.reach in
          subst (λ r. IsAnswered (keeping_state (g.P.Pool.state last.pool) last.all met) root command r)
          (sym w.found-is)
          (subst (λ (x : Keeping g.row.P.Denot g.P.Pool). IsAnswered (keeping_state (g.P.Pool.state x.pool) x.all
          x.met.entries) root command w.reach_of_seen-found.result) (sym w.pool-is) wide))
      | in-Err w ↦ (let ends = subst (λ (qs : Intervals). EndsIn sight.asked
          (reverse (asked_by command (pairs_of sight.looking.seen)) ++ qs)) c.new-sight.ensures.asked
          w.in-Err.ensures.stops in
          let stops = stops_asking (keeping_state (g.P.Pool.state k.pool) k.all k.met.entries) sight.looking.root
          command sight.looking.seen sight.looking.known sight.asked sight.fault w.in-Err.fault
          c.lawful.ensures.looking c.lawful.ensures.seeing ends w.in-Err.ensures.cause in
          subst (λ r. IsAnswered (keeping_state (g.P.Pool.state last.pool) last.all met) root command r)
          (sym w.found-is)
          (inl (subst (λ (x : Keeping g.row.P.Denot g.P.Pool). StopsAsking (keeping_state (g.P.Pool.state x.pool)
          x.all x.met.entries) command w.in-Err.fault) (sym (w.pool-is ∙ c.into_parts-pool.ensures.pool)) stops)))
    ] in
    let of_all = subst (λ (x : Bool). IsAnswered (keeping_state (g.P.Pool.state last.pool) x met) root command
    c.match-saw.found) all found in (
      met,
      of_both,
      subst (λ x. IsAnswered (keeping_state (g.P.Pool.state x) true met) root command c.match-saw.found)
          (sym c.into_pool.ensures) of_all,
    )
