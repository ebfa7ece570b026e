use Rattle.std.proofs.Common.{◌∙◌, ap}
use Rattle.std.specs.Option.{option_map_or}
use Rattle.std.specs.Prelude.{Option, false}
use Rattle.r4_check_objects.specs.Objects.{is_object_at}
use Rattle.r4_check_objects.specs.declared.held.Held.{Held}
use Rattle.r4_check_objects.proofs.known.owns.Goals as goal

pub returns-in-Some : goal.returns-in-Some
returns-in-Some c found heads = c.is_object_at.ensures ∙ ap (λ (o : Option Held). option_map_or (is_object_at c.args.object.now) o false) (c.in-Some.ensures found heads)
