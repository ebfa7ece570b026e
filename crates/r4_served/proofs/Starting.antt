-- A command that the core calls ready may be sent.
use Rattle.std.proofs.Common.{◌≡◌, inl, inr, ◌<◌, ◌≤◌, ◌^◌, ℕ, None, arith, subst, sym}
use Rattle.r4_content.specs.Fields.{HasBytePaths}
use Rattle.r4_content.specs.declared.command.Command.{Command}
use Rattle.r4_take.specs.r4_kept.Cells.{IsName}
use Rattle.r4_take.specs.r4_kept.Kept.{IsKept}
use Rattle.r4_take.specs.r4_kept.Naming.{Naming}
use Rattle.r4_take.specs.r4_kept.View.{CoreSeen, blocks_of}
use Rattle.r4_outside.specs.Device.{State}
use Rattle.r4_take.proofs.r4_ready.Startable.{may_start}
use Rattle.r4_take.specs.r4_ready.Readiness.{parts_of}
use Rattle.r4_take.specs.r4_serve.Serving.{Asks}
use Rattle.r4_take.specs.r4_serve.declared.asked.Asked.TheVariants as asked
use Rattle.r4_take.specs.r4_serve.declared.asked.Ready.{Ready}
use Rattle.r4_take.specs.Sending.{IsNamed, IsServable, MaySend}
use Rattle.r4_take.specs.declared.drawing.Draws.{Draws}

-- the root has a name of 64 bits
name_small : (blocks next i : ℕ) → blocks ≤ 1048576 → next < 2 ^ 64 → IsName blocks next i → i < 2 ^ 64
name_small blocks next i few small (inl at) = let low = at.0 in omega (arith, few, low)
name_small blocks next i few small (inr at) = let low = at.1 in omega (arith, small, low)

module _ {D : Type 0} (r : Naming) (d e : State) (c new : CoreSeen D) (k : IsKept r d c) (s : ℕ) (x : Command)
    (draws : Draws) (named : Command) (servable : IsServable c s x) (name : IsNamed c s x draws named)
    (paths : HasBytePaths named) (sound : c.broken ≡ None) (small : c.numbers.next_name < 2 ^ 64)
    (ready : Ready) (asks : Asks d e (parts_of c) named (asked.Ready ready))
    (same : new ≡ record c { dev = new.dev }) where
  root_small : c.tree.id.0 < 2 ^ 64
  root_small = name_small (blocks_of c) c.numbers.next_name c.tree.id.0 k.cells.super40.blocks.1 small k.cells.root

  pub may_send : MaySend e new s named draws ready
  may_send = subst (λ (z : CoreSeen D). MaySend e z s named draws ready) (sym same) (record {
    command = x;
    servable = record { stands = servable.stands; work = servable.work; free = servable.free };
    name = record { drawn = name.drawn; is = name.is };
    start = may_start r d e c k named ready (record { sound = sound; asks = asks }) new.dev paths root_small;
  })
