use Rattle.r4_base.proofs.EntryLists.{long_key, named_lawful}
use Rattle.r4_base.proofs.Names.{bytes_of, key_spells}
use Rattle.r4_cde.proofs.laws.given_law.Goals as goal

pub returns : goal.returns
returns c = record {
  lawful = named_lawful;
  form = λ dir s bytes. long_key dir s (bytes_of s bytes);
  short = λ dir s bytes. key_spells dir s (bytes_of s bytes);
}
