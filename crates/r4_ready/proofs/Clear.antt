-- Nothing stands in the way of a command that is ready.
use Rattle.std.proofs.Common.{◌≡◌, ⊎_elim, ◌++◌, Option, Some, None, Contains, refl, ℕ}
use Rattle.std.proofs.lemmas.List.Elements.{Contains-append_cases}
use Rattle.r4_base.specs.declared.things.NodeId.{NodeId}
use Rattle.r4_base.specs.declared.things.TaskId.{TaskId}
use Rattle.r4_serve.specs.r4_cell.Seen.{CellSeen}
use Rattle.r4_content.specs.declared.command.Command.{Command}
use Rattle.r4_serve.specs.r4_history.Serving.{IsSealedOwner}
use Rattle.r4_serve.specs.r4_history.declared.why.Why.TheVariants as why
use Rattle.r4_locks.specs.Locks.{conflict_of}
use Rattle.r4_outside.specs.Device.{State}
use Rattle.r4_serve.specs.Serving.{need_in}
use Rattle.r4_serve.specs.declared.asked.Ready.{Ready}
use Rattle.r4_taking.specs.r4_kept.Kept.{IsKept}
use Rattle.r4_taking.specs.r4_kept.Naming.{Naming}
use Rattle.r4_taking.specs.r4_kept.View.{CoreSeen}
use Rattle.r4_ready.specs.Readiness.{IsReady}
use Rattle.r4_ready.proofs.MetCells.{clear, is_reach}

module _ {D : Type 0} (r : Naming) (d e : State) (c : CoreSeen D) (k : IsKept r d c) (x : Command) (ready : Ready)
    (is : IsReady d e c x ready) where
  -- no sealed atom owns a node of its reach
  pub none_sealed : (a : ℕ) → IsSealedOwner c.atoms (need_in ready.reach) a → ⊥
  none_sealed a h = clear r d e c k x ready is (why.Sealed (record { 0 = a })) h

  -- and no hold conflicts
  pub none_holds : conflict_of c.locks None (need_in ready.reach).reads (need_in ready.reach).writes ≡ None
  none_holds = by (conflict_of c.locks None (need_in ready.reach).reads (need_in ready.reach).writes) refl
    where
      by : (o : Option (NodeId × TaskId))
          → conflict_of c.locks None (need_in ready.reach).reads (need_in ready.reach).writes ≡ o
          → conflict_of c.locks None (need_in ready.reach).reads (need_in ready.reach).writes ≡ None
      by None at = at
      by (Some (node, holder)) at =
          absurd (clear r d e c k x ready is (why.Held node holder) (none_sealed, at))

  -- what it reads and writes was met
  pub among_met : (y : CellSeen) → Contains (ready.reach.reads ++ ready.reach.writes) y → Contains ready.reach.met y
  among_met y has =
      ⊎_elim (λ read. (((is_reach r d e c k x ready is).answer.read y).0 read).0)
      (λ written. (((is_reach r d e c k x ready is).answer.written y).0 written).0)
      (Contains-append_cases ready.reach.reads ready.reach.writes y has)
