-- A command that is ready may start, on the core whose device was read.
use Rattle.std.proofs.Common.{◌∙◌, ℕ, ◌<◌, ◌^◌, ap, sym}
use Rattle.r4_serve.specs.r4_cell.Seen.{CellSeen}
use Rattle.r4_content.specs.Fields.{HasBytePaths}
use Rattle.r4_content.specs.declared.command.Command.{Command}
use Rattle.r4_outside.specs.Device.{State}
use Rattle.r4_serve.specs.Serving.{need_in}
use Rattle.r4_serve.specs.declared.asked.Ready.{Ready}
use Rattle.r4_taking.specs.GoingOut.{IsMet}
use Rattle.r4_serve.specs.r4_turns.declared.out.Out.{Out}
use Rattle.r4_taking.specs.r4_kept.Kept.{IsKept}
use Rattle.r4_taking.specs.r4_kept.Naming.{Naming}
use Rattle.r4_taking.specs.r4_kept.View.{CoreSeen}
use Rattle.r4_ready.specs.Readiness.{AreGotten, IsReady, MayStart}
use Rattle.r4_ready.proofs.Clear.{among_met, none_holds, none_sealed}
use Rattle.r4_ready.proofs.Given.{is_given}
use Rattle.r4_ready.proofs.MetCells.{is_met, is_reach, reach_is}

module _ {D : Type 0} (r : Naming) (d e : State) (c : CoreSeen D) (k : IsKept r d c) (x : Command) (ready : Ready)
    (is : IsReady d e c x ready) (dev : D) (paths : HasBytePaths x) (small : c.tree.id.0 < 2 ^ 64) where
  met_then : (y : CellSeen) → IsMet e c y → IsMet e (record c { dev = dev }) y
  met_then y h = record {
    captured = h.captured;
    on_disk = λ loose.
        (let g = h.on_disk loose in
        record {
          block = g.block;
          free = g.free;
          accepted = g.accepted;
          same = g.same;
          unowned = g.unowned;
          spared = g.spared;
        });
  }

  gotten_before : (s : ℕ) (out : Out) → AreGotten (record c { dev = dev }) s out.numbers → AreGotten c s out.numbers
  gotten_before s out h = record { kept = h.kept; drawn = h.drawn }

  pub may_start : MayStart e (record c { dev = dev }) x ready
  may_start = record {
    sound = is.sound;
    given = λ s is_script out of_reach gotten.
        is_given r d e c k x ready is s is_script out of_reach (gotten_before s out gotten) paths small;
    met = λ y has. met_then y (is_met r d e c k x ready is y has);
    among = among_met r d e c k x ready is;
    names = (is_reach r d e c k x ready is).all.names;
    part = (is_reach r d e c k x ready is).answer.part;
    need = is.asks.is.2.1.3 ∙ ap need_in (sym (reach_is r d e c k x ready is));
    unsealed = none_sealed r d e c k x ready is;
    clear = none_holds r d e c k x ready is;
  }
