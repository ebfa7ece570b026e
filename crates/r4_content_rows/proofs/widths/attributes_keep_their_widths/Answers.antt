use Rattle.r4_content_rows.proofs.Fields.{chmod_fits, chown_fits, times_fit}
use Rattle.r4_content_rows.proofs.widths.attributes_keep_their_widths.Goals as goal

pub returns : goal.returns
returns c = record { chmod = chmod_fits; chown = chown_fits; times = times_fit }
