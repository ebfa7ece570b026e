use Rattle.std.proofs.Common.{refl}
use Rattle.r4_base.specs.Bytes.{number_at, number_bytes}
use Rattle.r4_base.specs.Extents.{units_from, units_of}
use Rattle.r4_base.specs.Key.{key_of_rank, least, rank}
use Rattle.r4_base.specs.Name.{key_of_name, packed, r5_from}
use Rattle.r4_base.specs.Node.{edge_at, item_at, items_from, items_of, key_at, offset_at, plugin_at}
use Rattle.r4_path.specs.r4_branch.Pieces.{bytes_behind}
use Rattle.r4_reach.proofs.examples.twig_examples.Goals as goal

pub returns : goal.returns
unfolding rank least key_of_rank key_of_name packed r5_from bytes_behind items_of items_from item_at edge_at key_at
    offset_at plugin_at number_at number_bytes units_of units_from
returns c = record {
  overwritten = refl;
  filled = refl;
  hole_goes = refl;
  grows = refl;
  after = refl;
  after_growth = refl;
  beside = refl;
  not_beside = refl;
  leaves = refl;
  pointers = refl;
  pieces = refl;
}
