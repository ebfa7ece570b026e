use Rattle.std.proofs.Common.{◌≡◌, ◌+◌, ◌-◌, ◌*◌, ◌^◌, ◌<◌, drop}
use Rattle.r4_base.specs.Name.{packed}
use Rattle.r4_cde.proofs.name.packed.Given as goal

abbrev pub invariant-loop-i : goal.invariant-loop-i
invariant-loop-i l = record {
  number : packed l.n (drop l.from l.name) ≡ l.number * 256 ^ (l.i-end - l.i) + packed (l.i-end - l.i) (drop l.i l.name);
  small : l.number < 256 ^ (l.i - l.from);
}
