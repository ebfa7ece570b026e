use Rattle.r4_content.proofs.Refusals.{refused_leaves, refused_changes, reading_leaves}
use Rattle.r4_content.proofs.laws.refusals_change_nothing.Goals as goal

pub returns : goal.returns
returns c = record { content = refused_leaves; keys = refused_changes; reading = reading_leaves }
