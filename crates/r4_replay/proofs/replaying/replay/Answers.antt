use Rattle.r4_replay.proofs.Idling.{idle_always}
use Rattle.r4_replay.proofs.Finishing.{always_after}
use Rattle.r4_replay.proofs.replaying.replay.Goals as goal

pub returns-in_err-blocks-clause-any_moment : goal.returns-in_err-blocks-clause-any_moment
returns-in_err-blocks-clause-any_moment g c = idle_always _ _ c.lawful_blocks.ensures.idles.goes c.lawful_blocks.ensures.idles.clock

pub returns-in-Ok-clause-any_moment : goal.returns-in-Ok-clause-any_moment
returns-in-Ok-clause-any_moment g c = λ quiet. always_after (g.D.Device.state c.args.dev.now) (g.D.Device.state c.lawful_blocks.new.dev) _ c.lawful_blocks.ensures.idles quiet c.read_and_put.ensures.any_moment

pub returns-in-Err-clause-any_moment : goal.returns-in-Err-clause-any_moment
returns-in-Err-clause-any_moment g c = λ quiet. always_after (g.D.Device.state c.args.dev.now) (g.D.Device.state c.lawful_blocks.new.dev) _ c.lawful_blocks.ensures.idles quiet c.read_and_put.ensures.any_moment
