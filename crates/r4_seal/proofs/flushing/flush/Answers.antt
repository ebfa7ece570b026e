use Rattle.std.proofs.Common.{sym}
use Rattle.r4_core.specs.r4_ready.Rooms.{HasMoreRoom}
use Rattle.r4_seal.proofs.Sealings.{any_err, at_err}
use Rattle.r4_seal.specs.Flushing.{RefusesWaiting}
use Rattle.r4_seal.proofs.flushing.flush.Goals as goal

pub returns-then-is_err-clause-waits : goal.returns-then-is_err-clause-waits
returns-then-is_err-clause-waits g c =
    any_err c.seal-sealed.result (RefusesWaiting c.args.core.now c.refuse_waiting.new.core c.args.atom) (record {
      roomy = c.seal-sealed.new.core;
      room = at_err c.seal-sealed.result (HasMoreRoom c.args.core.now c.seal-sealed.new.core) (sym c.if-is_err.ensures.value) c.seal-sealed.ensures.err;
      scripts = c.refuse_waiting.ensures.0;
      waiting = c.refuse_waiting.ensures.1;
      refused = c.refuse_waiting.ensures.2;
    })
