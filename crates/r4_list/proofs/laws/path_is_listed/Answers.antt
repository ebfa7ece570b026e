use Rattle.std.proofs.Common.{codes, refl}
use Rattle.r4_content.specs.Walk.{NoName, NoDirectory, NoEntry}
use Rattle.r4_list.proofs.LinesOfPath.{object_listing, one_listing, some_listing, word_listing}
use Rattle.r4_list.proofs.laws.path_is_listed.Goals as goal

pub returns : goal.returns
returns c = record {
  some = some_listing;
  one = one_listing;
  object = object_listing;
  no_name = λ m path at. word_listing m path (codes "name\n") NoName (λ steps. refl) at;
  no_directory = λ m path at. word_listing m path (codes "notdir\n") NoDirectory (λ steps. refl) at;
  no_entry = λ m path at. word_listing m path (codes "absent\n") NoEntry (λ steps. refl) at;
}
