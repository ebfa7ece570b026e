use Rattle.std.proofs.Common.{◌≡◌, ◌∙◌, ℕ, ◌-◌, ap}
use Rattle.std.proofs.lemmas.Result.{on_ok_weaker, IfErr-weaker}
use Rattle.r4_space.specs.Accounts.{dues, need_of}
use Rattle.r4_space.specs.Space.{Space, free_of, need_at}
use Rattle.r4_space.proofs.SpaceLaws.{free_is, le_along}
use Rattle.r4_space.proofs.space_map.SpaceMap.charge.Goals as goal

pub returns-clause-ok : goal.returns-clause-ok
returns-clause-ok c =
    let i = c.self.inside in
    let need : need_of i.ledger.bitmaps i.ledger.atoms c.args.atom c.args.cells c.args.fresh ≡ need_at c.args.self.now c.args.atom c.args.cells c.args.fresh =
    ap (λ (b : ℕ). need_of b i.ledger.atoms c.args.atom c.args.cells c.args.fresh) c.self.invariant.bitmaps_are ∙ ap (λ (s : Space). need_at s c.args.atom c.args.cells c.args.fresh) c.self.view_is in
    let free : c.clear-unused.result - dues i.ledger.bitmaps i.ledger.atoms ≡ free_of c.args.self.now =
    rw c.clear-unused.ensures.count (free_is i.blocks i.marked i.placed i.held.items i.deferred.items i.claimed i.twice i.taken i.ledger.bitmaps i.ledger.spare _ _ i.ledger.atoms i.ledger.sealed c.self.invariant) ∙ ap free_of c.self.view_is in
    on_ok_weaker c.charge.result (λ h. le_along _ _ _ _ need free h) c.charge.ensures.ok

pub returns-clause-short : goal.returns-clause-short
returns-clause-short c =
    let i = c.self.inside in
    let need : need_of i.ledger.bitmaps i.ledger.atoms c.args.atom c.args.cells c.args.fresh ≡ need_at c.args.self.now c.args.atom c.args.cells c.args.fresh =
    ap (λ (b : ℕ). need_of b i.ledger.atoms c.args.atom c.args.cells c.args.fresh) c.self.invariant.bitmaps_are ∙ ap (λ (s : Space). need_at s c.args.atom c.args.cells c.args.fresh) c.self.view_is in
    let free : c.clear-unused.result - dues i.ledger.bitmaps i.ledger.atoms ≡ free_of c.args.self.now =
    rw c.clear-unused.ensures.count (free_is i.blocks i.marked i.placed i.held.items i.deferred.items i.claimed i.twice i.taken i.ledger.bitmaps i.ledger.spare _ _ i.ledger.atoms i.ledger.sealed c.self.invariant) ∙ ap free_of c.self.view_is in
    IfErr-weaker c.charge.result _ _ (λ e h. (h.0, h.1 ∙ need, h.2 ∙ free)) c.charge.ensures.short
