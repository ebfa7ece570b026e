use Rattle.std.proofs.Common.{arith}
use Rattle.r4_atoms.proofs.ScriptLaws.{linked_same}
use Rattle.r4_atoms.proofs.scripts.Scripts.room.Goals as goal

pub invariant_of-self-then-self-txns : goal.invariant_of-self-then-self-txns
invariant_of-self-then-self-txns c =
    let i = c.self.inside in
    rw c.in_ok-reserve.ensures.items (
      linked_same i.rows.items i.last.entries _ c.self.invariant.0 (λ q. c.in_ok-reserve-2.ensures.entries.2 q),
      record {
        table = omega (arith, c.in_ok-reserve-2.ensures.ok);
        row = omega (arith, c.in_ok-reserve.ensures.ok, c.in_ok-reserve.ensures.len, i.rows.ok);
      },
    )
