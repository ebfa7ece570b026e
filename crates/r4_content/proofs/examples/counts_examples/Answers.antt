use Rattle.r4_content.proofs.Computed.{all_counts, stat_at_entry, under_stat_key, used_id}
use Rattle.r4_content.proofs.examples.counts_examples.Goals as goal

pub returns : goal.returns
returns c = record { counts = all_counts; used = used_id; unlawful = stat_at_entry; no_bytes = under_stat_key }
