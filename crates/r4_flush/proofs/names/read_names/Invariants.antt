use Rattle.std.proofs.Common.{◌≡◌, ℕ, take}
use Rattle.std.specs.Ordering.{nat_cmp}
use Rattle.std.specs.BTreeMap.{get}
use Rattle.r4_flushed.specs.r4_commit.Places.{place_of}
use Rattle.r4_flush.proofs.names.read_names.Given as goal

abbrev pub invariant-loop-answer : goal.invariant-loop-answer
invariant-loop-answer l = (name : ℕ) → get nat_cmp l.names name ≡ place_of (take l.answer-index l.answers) name
