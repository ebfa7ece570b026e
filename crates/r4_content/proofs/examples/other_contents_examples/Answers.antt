use Rattle.r4_content.proofs.Computed.{counted, full_directory, links, more_links, without_object, without_root}
use Rattle.r4_content.proofs.examples.other_contents_examples.Goals as goal

pub returns : goal.returns
returns c = record { links = links; more_links = more_links; full_directory = full_directory; no_object = without_object; no_root = without_root; miscounted = counted }
