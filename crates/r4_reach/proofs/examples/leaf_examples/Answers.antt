use Rattle.std.proofs.Common.{refl}
use Rattle.r4_base.specs.Bytes.{number_at, number_bytes}
use Rattle.r4_base.specs.Extents.{units_from, units_of}
use Rattle.r4_base.specs.Key.{key_of_rank, least, rank}
use Rattle.r4_base.specs.Name.{key_of_name, packed, r5_from}
use Rattle.r4_base.specs.Node.{edge_at, item_at, items_from, items_of, key_at, offset_at, plugin_at}
use Rattle.r4_path.specs.r4_branch.Pieces.{bytes_behind}
use Rattle.r4_path.specs.r4_leaf.Units.{bytes_behind as leaf_bytes_behind, unit_bytes}
use Rattle.r4_reach.proofs.examples.leaf_examples.Goals as goal

pub returns : goal.returns
unfolding rank least key_of_rank key_of_name packed r5_from bytes_behind leaf_bytes_behind unit_bytes items_of
    items_from item_at edge_at key_at offset_at plugin_at number_at number_bytes units_of units_from
returns c = record {
  cut = refl;
  left = refl;
  goes = refl;
  right = refl;
  away = refl;
  moves = refl;
  stays = refl;
  behind = refl;
  turned = refl;
  among = refl;
  among_changes = refl;
  among_needs = refl;
}
