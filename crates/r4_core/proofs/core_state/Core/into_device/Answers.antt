use Rattle.std.proofs.Common.{None}
use Rattle.std.specs.Option.{option_map}
use Rattle.r4_content.specs.Locality.{commands}
use Rattle.r4_content.specs.Meaning.{greatest_size}
use Rattle.r4_ready.specs.r4_durable.Meaning.{start_of}
use Rattle.r4_ready.proofs.r4_durable.Meant.{safe_trace}
use Rattle.r4_others.proofs.r4_history.RunSteps.{told_legal}
use Rattle.r4_ready.proofs.r4_kept.Resting.{has_content}
use Rattle.r4_core.proofs.core_state.Core.into_device.Goals as goal

pub returns-clause-legal : goal.returns-clause-legal
returns-clause-legal g c = rw (← c.self.view_is) (λ o named.
    told_legal (commands greatest_size) (option_map start_of o) _ _ _ (c.self.invariant.history.told o named))

pub returns-clause-time : goal.returns-clause-time
returns-clause-time g c = rw (← c.self.view_is) (c.self.invariant.history.told None tt).time

pub returns-clause-safe : goal.returns-clause-safe
returns-clause-safe g c = rw (← c.self.view_is) (safe_trace greatest_size _ _
    (c.self.invariant.history.told None tt).legal.order (g.D.Device.state c.self.inside.dev)
    (λ tells b t named at. ((c.self.invariant.story b named).durable t at tells).each))

pub returns-clause-content : goal.returns-clause-content
returns-clause-content g c = λ b named sound none. rw (← c.self.view_is) (has_content _ _ _ c.self.invariant b named
    (rw (← c.self.view_is) at sound) (rw (← c.self.view_is) at none))
