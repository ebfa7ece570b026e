use Rattle.std.proofs.Common.{◌≡◌, ◌≤◌, ◌+◌, ◌-◌, length, drop}
use Rattle.r4_script.specs.Progress.{nothing}
use Rattle.r4_script.specs.Split.{split}
use Rattle.r4_script.specs.Text.{lines_read}
use Rattle.r4_script.proofs.text.read_lines.Given as goal

abbrev pub invariant-lines : goal.invariant-lines
invariant-lines l = record {
  within : l.place ≤ length l.text;
  few : l.number ≤ l.place + 1;
  same : lines_read l.long l.number l.progress (split 10 (drop l.place l.text)) ≡ lines_read l.long 1 nothing (split 10 l.text);
}

abbrev pub decreases-lines : goal.decreases-lines
decreases-lines l = length l.text - l.place
