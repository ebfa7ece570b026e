-- A command goes out with the cells that a reading of the tree met: what holds of a core holds still.
use Rattle.std.proofs.Common.{◌≡◌, ◌∙◌, ℕ, ◌+◌, List, None, length, refl, sym, ap, subst}
use Rattle.r4_kept.specs.r4_buffer.Changed.{in_turn, used}
use Rattle.r4_kept.specs.r4_buffer.Seen.{BufferSeen, IsLawful, buffered}
use Rattle.r4_kept.specs.r4_cell.Patch.{HaveNames, by_name, root_of_pair}
use Rattle.r4_kept.specs.r4_cell.Seen.{CellSeen}
use Rattle.r4_kept.specs.r4_history.Held.{HoldsNew}
use Rattle.r4_kept.specs.r4_locks.Locks.{LocksSeen}
use Rattle.r4_outside.specs.Device.{State}
use Rattle.r4_kept.specs.r4_patch.Part.{IsPart}
use Rattle.r4_kept.specs.r4_turns.Turns.{IsScript, TurnsSeen, gone_out}
use Rattle.r4_kept.specs.r4_turns.declared.out.Out.{Out}
use Rattle.r4_kept.specs.Kept.{IsKept}
use Rattle.r4_kept.specs.Naming.{Naming}
use Rattle.r4_kept.specs.View.{CoreSeen}
use Rattle.r4_kept.specs.declared.parts.Numbers.{Numbers as Next}
use Rattle.r4_taking.specs.GoingOut.{CanGoOut, HasGoneOut}
use Rattle.r4_taking.proofs.GoneOut.{keeps_out_by}
use Rattle.r4_taking.proofs.MetInMemory.{met_in_memory}

module _ {D : Type 0} (r : Naming) (d : State) (c : CoreSeen D) (k : IsKept r d c) (s : ℕ) (out : Out)
    (is : IsScript c.turns s) (sound : c.broken ≡ None) (met : List CellSeen) (names : HaveNames met)
    (part : IsPart (by_name met) (root_of_pair c.tree)) (next : Next) (can : CanGoOut d c s out met next) where
  -- of parts that are as they are then
  pub keeps_given_by : (locks : LocksSeen) → HoldsNew c.locks locks out → (buffer : BufferSeen)
      → ((i : ℕ) → buffered buffer i ≡ in_turn used met i (buffered c.buffer i))
      → buffer.spare + length met ≡ c.buffer.spare → IsLawful c.buffer → IsLawful buffer → (turns : TurnsSeen)
      → turns ≡ gone_out c.turns s out
      → IsKept r d (record c { turns = turns; locks = locks; buffer = buffer; numbers = next })
  keeps_given_by locks holds buffer cells room lawful still turns are_turns =
      keeps_out_by r d c k s out is met next can locks holds buffer cells room lawful still
      (λ b named. met_in_memory r d c k sound met can.met_are names part b named) turns are_turns

  -- of a core that is as it is then
  pub keeps_gone_out : (new : CoreSeen D) → new.numbers ≡ next → IsLawful c.buffer → IsLawful new.buffer
      → HasGoneOut c new s out met → IsKept r d new
  keeps_gone_out new numbers lawful still h =
      subst (IsKept r d)
      (ap (λ (n : Next). record c {
        turns = gone_out c.turns s out;
        locks = new.locks;
        buffer = new.buffer;
        numbers = n;
      }) (sym numbers) ∙ sym h.same)
      (keeps_given_by new.locks h.holds new.buffer h.cells h.room lawful still (gone_out c.turns s out) refl)
