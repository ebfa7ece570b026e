-- The edits of commands, where a body stands in extents afterwards.
use Rattle.std.specs.Prelude.{ℕ, ◌+◌, ◌^◌, ◌≤◌, ◌==◌, All, Bool, true, false, None, Option, Some, length, nat_lt}
use Rattle.std.specs.Prelude.{if◌then◌else◌}
use Rattle.std.proofs.Common.{arith, inl, inr, refl, sym, subst}
use Rattle.std.proofs.lemmas.List.Elements.{All-nil}
use Rattle.r4_content.specs.Edited.{Edits, Pairs}
use Rattle.r4_content.specs.Fields.{HasBytePaths}
use Rattle.r4_content.specs.Seen.{Rises}
use Rattle.r4_content.specs.declared.command.Command.{Command}
use Rattle.r4_bodies.specs.r4_leaf_edits.Suiting.{IsBefore, SuitLeaves}
use Rattle.r4_bodies.specs.r4_leaf_edits.r4_reach.Touched.{Body, body_on, edits_on, is_spread}
use Rattle.r4_bodies.specs.r4_suited.Suited.{AreLawfulSeen, end_of_bytes as end_suited}
use Rattle.r4_bodies.proofs.r4_suited.Runs.{few_set, grown_end, sized_run, written_run, run_suits}
use Rattle.r4_bodies.proofs.r4_suited.Small.{leaf_small}
use Rattle.r4_bodies.proofs.r4_suited.Suits.{command_suits}
use Rattle.r4_bodies.proofs.r4_suited.Walked.{AreMade, edits_made}
use Rattle.r4_extent_demands.specs.Sizes.{AreExtentEdits, IsSized, end_of_bytes}

grown_low : (n : ℕ) (t : Bool) → n ≤ 2 ^ 30 → grown_end n t ≤ 2 ^ 30
grown_low n true le = le
grown_low n false le = omega arith

made_low : (s : Pairs) (end : ℕ) (e : Edits) → AreMade s e → SuitLeaves end e → SuitLeaves (2 ^ 30) e
made_low s end e (inl few) suit = record {
  once = suit.once;
  bytes = subst (λ (ps : Pairs). All (IsBefore (2 ^ 30)) ps) (sym (few_set 4 3 e few)) (All-nil (IsBefore (2 ^ 30)));
  values = suit.values;
}
made_low s end e (inr (inl w)) suit = subst (SuitLeaves (2 ^ 30)) (sym w.is)
    (run_suits w.file.target (w.from + length w.bytes) (2 ^ 30) _ w.here.object (written_run w.file w.from w.bytes)
    w.fits (omega arith) (subst (SuitLeaves end) w.is suit).values)
made_low s end e (inr (inr w)) suit = subst (SuitLeaves (2 ^ 30)) (sym w.is)
    (run_suits w.file.target
    (grown_end w.size (if nat_lt w.size w.file.attr.size then false else nat_lt w.file.attr.size w.size)) (2 ^ 30) _
    w.here.object
    (sized_run w.file w.size (nat_lt w.size w.file.attr.size) (nat_lt w.file.attr.size w.size) (w.file.attr.size == w.size)
    refl)
    (grown_low w.size (if nat_lt w.size w.file.attr.size then false else nat_lt w.file.attr.size w.size) w.fits)
    (omega arith) (subst (SuitLeaves end) w.is suit).values)

by_body : (b : Option Body) (e : Edits) → SuitLeaves (end_suited b) e → SuitLeaves (2 ^ 30) e
    → SuitLeaves (end_of_bytes b) e
by_body None e suit low = suit
by_body (Some b) e suit low = by_test (is_spread b) suit
  where
    by_test : (t : Bool) → SuitLeaves (if t then 2 ^ 64 else 16384) e → SuitLeaves (if t then 2 ^ 30 else 16384) e
    by_test true s = low
    by_test false s = s

pub command_asks : (c : Command) (s : Pairs) (in_extents : Bool) → HasBytePaths c → Rises s → AreLawfulSeen c s
    → IsSized (body_on c s in_extents) → AreExtentEdits (body_on c s in_extents) (edits_on c s)
command_asks c s in_extents paths rises lawful is =
    let suit = command_suits c s in_extents paths rises lawful in
    record {
      body = is;
      suit = by_body (body_on c s in_extents) (edits_on c s) suit
          (made_low s (end_suited (body_on c s in_extents)) (edits_on c s) (edits_made c s lawful paths) suit);
      small = λ n up few. leaf_small c s in_extents n paths rises lawful up few;
    }
