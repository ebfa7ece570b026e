-- A tree stays the same over calls that follow one another.
use Rattle.std.proofs.Common.{◌≡◌, ℕ, List, Option, None, Some, ◌∙◌, refl, subst, sym}
use Rattle.std.proofs.lemmas.Option.{none-some, same_Some}
use Rattle.r4_search.specs.r4_cell.Seen.{CellSeen}
use Rattle.r4_gather.specs.Asking.{Over, StaysOver}
use Rattle.r4_outside.specs.Device.{State}
use Rattle.r4_search.specs.Pool.{IsRead}
use Rattle.r4_search.proofs.Walks.{leaves_both, leaves_same}

pub stays_both : (a b c : State) (o p q : Over) → StaysOver a b o p → StaysOver b c p q → StaysOver a c o q
unfolding StaysOver
stays_both a b c o p q f g = record {
  device = leaves_both a b c f.device g.device;
  root = g.root ∙ f.root;
  named = g.named ∙ f.named;
  blocks = g.blocks ∙ f.blocks;
  meant = λ i. g.meant i ∙ f.meant i;
  kept = λ i x at. g.kept i x (f.kept i x at);
  added = λ i x at none. by i x at none (p.pool.kept i) refl;
  keeps = λ level. g.keeps level ∙ f.keeps level;
}
  where
    by : (i : ℕ) (x : CellSeen) → q.pool.kept i ≡ Some x → o.pool.kept i ≡ None → (mid : Option CellSeen)
        → p.pool.kept i ≡ mid → (x.id ≡ i) × IsRead o.pool.blocks (o.pool.meant i) x
    by i x at none None e =
        let r = g.added i x at e in (
          r.0,
          subst (λ (n : ℕ). IsRead n (o.pool.meant i) x) f.blocks
              (subst (λ (m : Option (List ℕ)). IsRead p.pool.blocks m x) (f.meant i) r.1),
        )
    by i x at none (Some y) e =
        subst (λ (z : CellSeen). (z.id ≡ i) × IsRead o.pool.blocks (o.pool.meant i) z)
        (same_Some y x (sym (g.kept i y e) ∙ at)) (f.added i y e none)

pub stays_same : (d : State) (o : Over) → StaysOver d d o o
unfolding StaysOver
stays_same d o = record {
  device = leaves_same d;
  root = refl;
  named = refl;
  blocks = refl;
  meant = λ i. refl;
  kept = λ i x at. at;
  added = λ i x at none. absurd (none-some x (sym none ∙ at));
  keeps = λ level. refl;
}
