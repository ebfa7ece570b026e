-- From what is kept to an atom that is sealed.
use Rattle.std.proofs.Common.{◌≡◌, ℕ, ◌^◌, ◌≤◌, ◌<◌, [], Option, sym, ap, ◌∙◌, subst, arith}
use Rattle.std.specs.Prelude.{◌↔◌, Some}
use Rattle.r4_base.specs.Image.{Image, block_at}
use Rattle.r4_base.specs.Tree.{Node, Store}
use Rattle.r4_base.specs.Value.{Content, Value}
use Rattle.r4_base.specs.Volume.{IsLost}
use Rattle.r4_base.specs.declared.superblock.Super40.{Super40}
use Rattle.r4_base.proofs.Superblocks.{read_lawful}
use Rattle.r4_content.specs.Locality.{commands}
use Rattle.r4_open.specs.r4_space.Space.{Space}
use Rattle.r4_flushed.specs.r4_trace.Job.{Asked}
use Rattle.r4_flushed.specs.r4_trace.Safe.{HasNow}
use Rattle.r4_flushed.specs.r4_trace.Traced.{committed_in}
use Rattle.r4_flushed.specs.r4_wander.declared.plan.LogPlan.{LogPlan}
use Rattle.r4_flushed.specs.r4_sets.Session.{Layer, Session}
use Rattle.r4_flushed.specs.r4_sealed.Contents.{RenewsSuper}
use Rattle.r4_flushed.specs.r4_place.Chosen.{placed_all}
use Rattle.r4_flushed.specs.Deferred.{AreDeferredBut}
use Rattle.r4_flushed.specs.Flushed.{AreFlushed, AreUnowned, IsSealedTo, OwnsBlocks, sealed_to, with_flushed}
use Rattle.r4_flushed.specs.r4_placed.Flushing.{Flushing, IsAtRest}
use Rattle.r4_flushed.proofs.Deferring.{deferred_sealed, freed_is_gone}
use Rattle.r4_flushed.proofs.Owned.{sealed_owns}
use Rattle.r4_flushed.proofs.r4_placed.Planning.{unowned_from}
use Rattle.r4_flushed.proofs.Remembering.{sealed_cells}
use Rattle.r4_durable.specs.Kept.{CanSeal, Means, sealing_of}
use Rattle.r4_durable.specs.Meaning.{Beginning, IsNextId, WasLost, first_id, means}
use Rattle.r4_durable.specs.Sealing.{IsSealing, made_by, session_after}

-- what is kept means the committed atoms
module _ (limit : ℕ) (b : Beginning) (job : Option Asked) (c : Session) (s : Space) (image : Image)
    (kept : Means limit b job c s image) where
  has_now : HasNow (means b) (commands limit) c.start c.trace image
  has_now =
      let none = kept.none_sealed in
      let is = ap (λ (x : Super40). x.oid) kept.rests.has.same_super in
      let may = kept.rests.next_id in
      let low = may.0 in
      let high = may.1 in
      record {
        k = committed_in c.trace;
        at_least = omega arith;
        at_most = omega arith;
        in_sealed = omega (arith, none);
        has = record {
          content = record {
            volume = record {
              whole = kept.rests.whole;
              chain = [];
              log = kept.rests.log;
              content = kept.rests.has.content;
            };
            least = omega (arith, is, low);
            most = omega (arith, is, high);
            none_lost = λ k l. (kept.rests.lost k).0 l;
          };
          replies = kept.session.sets.committed.replies;
        };
      }

  pub means_now : HasNow (means b) (commands limit) b.content c.trace image
  means_now = subst (λ (m : Content). HasNow (means b) (commands limit) m c.trace image) kept.session.start has_now

module _ (limit : ℕ) (b : Beginning) (job : Option Asked) (c : Session) (work : Flushing) (plan : LogPlan)
    (kept : Means limit b job c work.space work.base) (can : CanSeal limit b c kept.rests.super40 work plan) where
  abbrev base_store : Store Value
  base_store = kept.rests.has.content.store

  same_store : base_store ≡ c.base.cells
  same_store = kept.rests.has.same_store

  pub renews : RenewsSuper kept.rests.has.content.super work.next
  renews = subst (λ (x : Super40). RenewsSuper x work.next) (sym kept.rests.has.same_super) can.renews

  -- an owned block is one of a committed cell
  pub owned_there : (i k : ℕ) → c.owner i ≡ Some k → i < 2 ^ 63 → (d : Node Value) × (base_store i ≡ Some d)
  owned_there i k own low =
      let (d, is) = kept.session.owns i k own low in
      (d, ap (λ (t : Store Value). t i) same_store ∙ ap (λ (l : Layer). l.cells i) (sym kept.alone) ∙ is)

  abbrev pub rest : IsAtRest b.blocks work (made_by limit c (committed_in c.trace))
  rest = record {
    content = kept.rests.has.content;
    image = kept.rests.whole;
    log = kept.rests.log;
    prev = can.chosen.prev;
    here = kept.rests.here;
    lawful = kept.rests.lawful;
    still_lawful = can.chosen.still_lawful;
    within =
        let c0 = kept.rests.has.content in
        let lawful = (read_lawful b.blocks (block_at work.base 17) c0.super c0.layout.format).0 in
        subst (λ (k : ℕ). k ≤ b.blocks) kept.rests.here.count lawful.blocks.2;
    blocks = renews.blocks ∙ kept.rests.here.count;
    none_placed = kept.rests.none_placed;
    names = can.chosen.names;
    chosen = can.chosen.chosen;
    old = λ x one low. owned_there x.id work.atom.0 (can.flushed.owned x one).0 low;
  }

  -- a committed cell stands under the open atoms
  same_under : (i : ℕ) → c.under.cells i ≡ base_store i
  same_under i = ap (λ (l : Layer). l.cells i) kept.alone ∙ sym (ap (λ (t : Store Value). t i) same_store)

  flushed : AreFlushed c work base_store
  flushed = record {
    alone = same_under;
    flush = can.flushed;
    deferred = λ k.
        let freed = freed_is_gone c work.space work.atom kept.deferred can.sealed k in (
          λ e.
              let g = freed.0 e in
              let (d, is) = g.was in
              record { own = g.own; gone = g.gone; was = (d, sym (same_under k) ∙ is) },
          λ g.
              let (d, is) = g.was in
              freed.1 (record { own = g.own; gone = g.gone; was = (d, same_under k ∙ is) }),
        );
  }

  unowned : AreUnowned c work
  unowned = unowned_from b.blocks work (made_by limit c (committed_in c.trace)) rest c.owner owned_there

  pub sealed_now : IsSealedTo c work base_store (with_flushed c work c.base.cells) (with_flushed c work c.memory)
  sealed_now =
      subst (λ (t : Store Value). IsSealedTo c work base_store (with_flushed c work t) (with_flushed c work c.memory))
      same_store
      (sealed_cells (commands limit) b.blocks work (made_by limit c (committed_in c.trace)) rest c kept.session.sets
      flushed
      unowned)

  abbrev pub is_sealing : IsSealing limit (first_id b) job b.blocks (sealing_of c work plan)
  is_sealing = record {
    sets = kept.session.sets;
    run = kept.session.run;
    none_sealed = kept.none_sealed;
    rest = rest;
    to = sealed_now;
    plan = can.has_plan;
    renews = renews;
    root = can.root;
    counts = can.counts;
  }

  pub still_owned : OwnsBlocks (session_after (sealing_of c work plan))
  still_owned =
      subst (λ (t : Store Value). OwnsBlocks (sealed_to c work (with_flushed c work t)
      (with_flushed c work c.memory)))
      same_store
      (sealed_owns b.blocks work (made_by limit c (committed_in c.trace)) rest c flushed kept.session.owns)

  pub id_may_be : IsNextId b is_sealing.rest.content.super.oid
  id_may_be = subst (λ (x : Super40). IsNextId b x.oid) (sym kept.rests.has.same_super) kept.rests.next_id

  pub same_lost : (k : ℕ) → IsLost is_sealing.rest.content k ↔ WasLost b k
  same_lost = kept.rests.lost

  -- and the others' blocks are deferred
  pub still_deferred : AreDeferredBut work.atom (session_after (sealing_of c work plan))
      (placed_all work.space work.answers)
  still_deferred =
      subst
      (λ (t : Store Value). AreDeferredBut work.atom (sealed_to c work (with_flushed c work t)
      (with_flushed c work c.memory))
      (placed_all work.space work.answers))
      same_store
      (deferred_sealed b.blocks work (made_by limit c (committed_in c.trace)) rest c flushed unowned kept.deferred)
