use Rattle.r4_content_rows.proofs.OtherNames.{others_stay}
use Rattle.r4_content_rows.proofs.names.other_names_stay.Goals as goal

pub returns : goal.returns
returns c = others_stay
