use Rattle.r4_content_rows.proofs.Deep.{fill_loses, truncate_loses, write_loses}
use Rattle.r4_content_rows.proofs.Lost.{deep_numbers}
use Rattle.r4_content_rows.proofs.written.sizes_past_offsets.Goals as goal

pub returns : goal.returns
returns c = record { write = write_loses; fill = fill_loses; truncate = truncate_loses; numbers = deep_numbers }
