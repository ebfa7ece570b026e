use Rattle.std.proofs.Common.{◌≡◌, map, take}
use Rattle.r4_turns.specs.declared.turn.Turn.{Turn}
use Rattle.r4_renaming.specs.Steps.{name_in, pins_then}
use Rattle.r4_renaming.proofs.pins.read_pins.Given as goal

abbrev pub invariant-loop-place : goal.invariant-loop-place
invariant-loop-place l = l.pins.items
    ≡ map (λ (t : Turn). pins_then (name_in l.names) t.out) (take l.place l.turns.turns)
