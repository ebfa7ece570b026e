use Rattle.std.proofs.Common.{◌≡◌, ◌-◌}
use Rattle.r4_base.specs.Refusal.{heads_from}
use Rattle.r4_outside.specs.Device.{TellsReads}
use Rattle.r4_replay.specs.Reading.{Idles}
use Rattle.r4_replay.specs.Heads.{heads_shown}
use Rattle.r4_replay.proofs.Found.{after_heads}
use Rattle.r4_replay.proofs.heads.read_heads.Given as goal

abbrev pub invariant-loop : goal.invariant-loop
invariant-loop g l =
    let old = g.D.Device.state l.fn.dev in
    record {
      idles : Idles old (g.D.Device.state l.dev);
      so_far : TellsReads old → heads_from 8 l.blocks old.seen l.footer 19 l.header ≡ after_heads (heads_shown l.heads) (heads_from (8 - l.counter) l.blocks old.seen l.footer l.holder l.at);
    }
