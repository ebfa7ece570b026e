use Rattle.r4_history.proofs.ServingSteps.{fewest_first, one_served}
use Rattle.r4_history.proofs.serving.one_script_is_served.Goals as goal

pub returns : goal.returns
returns c = record { one = one_served; fewest = fewest_first }
