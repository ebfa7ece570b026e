use Rattle.std.proofs.Common.{◌≡◌, ℕ, ◌≤◌, take, length, get_or, None}
use Rattle.r4_renaming.specs.Steps.{turns_keeping}
use Rattle.r4_renaming.proofs.pins.put_pins.Given as goal

abbrev pub invariant-loop-place : goal.invariant-loop-place
invariant-loop-place l = record {
  done : l.turns
      ≡ record l.initial.turns { turns = turns_keeping (take l.place l.initial.pins.items) l.initial.turns.turns };
  count : length l.pins.items ≡ length l.initial.pins.items;
  left : (k : ℕ) → l.place ≤ k → get_or l.pins.items k None ≡ get_or l.initial.pins.items k None;
}
