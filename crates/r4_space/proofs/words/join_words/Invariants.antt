use Rattle.std.proofs.Common.{◌≡◌, ℕ, ◌<◌, ◌≤◌, get_or}
use Rattle.std.specs.Prelude.{bit_or}
use Rattle.r4_space.proofs.words.join_words.Given as goal

abbrev pub invariant-loop-w : goal.invariant-loop-w
invariant-loop-w l = record {
  done : (v : ℕ) → v < l.w → get_or l.words v 0 ≡ bit_or (get_or l.initial.words v 0) (get_or l.other v 0);
  rest : (v : ℕ) → l.w ≤ v → get_or l.words v 0 ≡ get_or l.initial.words v 0;
}
