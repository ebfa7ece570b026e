use Rattle.r4_content_rows.proofs.Lost.{own_id, own_id_numbers, used_on_the_way}
use Rattle.r4_content_rows.proofs.written.ids_in_use.Goals as goal

pub returns : goal.returns
returns c = record { create = used_on_the_way; mkdir = own_id; numbers = own_id_numbers }
