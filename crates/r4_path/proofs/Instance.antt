-- What the cells of the small change say, byte by byte.
use Rattle.std.proofs.Common.{◌≡◌, ℕ, [], ◌∷◌, length, refl}
use Rattle.r4_base.specs.Bytes.{number_at, number_bytes}
use Rattle.r4_base.specs.Cell.{cell_fault, cell_of, item_body_fault, item_end, item_names, item_units, items_in_fault, names_in}
use Rattle.r4_base.specs.Cell.{spans_in, units_in}
use Rattle.r4_base.specs.Extents.{body_fault, holds_fixed, pointer_of, unit_fault, units_fault, units_from, units_of}
use Rattle.r4_base.specs.Key.{least, rank, top}
use Rattle.r4_base.specs.Node.{edge_at, header_fault, item_at, item_fault, items_fault, items_from, items_of, key_at}
use Rattle.r4_base.specs.Node.{node_fault, offset_at, plugin_at}
use Rattle.r4_base.specs.Stat.{attr_of, stat_body, stat_of}
use Rattle.r4_patch.specs.r4_cell.Seen.{node_of}
use Rattle.r4_patch.specs.SecondRoot.{whole_leaf, whole_twig}
use Rattle.r4_path.specs.Sharing.{IsSound}
use Rattle.r4_path.specs.Steps.{name_of}
use Rattle.r4_path.specs.ExtentPut.{data_cell, extent_block, file_key, last_key, leaf_cell, pointer_block, stat_block}
use Rattle.r4_path.specs.ExtentPut.{twig_cell}

pub old_twig : node_of (twig_cell pointer_block) ≡ whole_twig pointer_block
unfolding cell_of names_in spans_in units_in item_names item_units items_of items_from item_at key_at offset_at plugin_at
    edge_at number_at number_bytes rank least top pointer_of units_of units_from
old_twig = refl

pub old_leaf : node_of (leaf_cell last_key) ≡ whole_leaf stat_block
unfolding cell_of names_in spans_in units_in item_names item_units items_of items_from item_at key_at offset_at plugin_at
    edge_at number_at number_bytes rank least top attr_of stat_body
old_leaf = refl

pub new_names : (node_of (twig_cell extent_block)).names ≡ name_of (leaf_cell (file_key 0)) ∷ name_of (data_cell 0) ∷ name_of
    (data_cell 1) ∷ []
unfolding cell_of names_in item_names items_of items_from item_at key_at offset_at plugin_at edge_at number_at number_bytes rank
    pointer_of units_of units_from
new_names = refl

pub new_spans : (node_of (twig_cell extent_block)).spans ≡ record { lo = rank (file_key 0); hi = rank last_key } ∷ []
unfolding cell_of spans_in items_of items_from item_at key_at offset_at plugin_at edge_at number_at number_bytes rank
new_spans = refl

-- ---- they are accepted

twig_whole : length extent_block ≡ 4096
unfolding number_bytes
twig_whole = refl

was_whole : length pointer_block ≡ 4096
unfolding number_bytes
was_whole = refl

leaf_whole : length stat_block ≡ 4096
unfolding number_bytes stat_body
leaf_whole = refl

pub twig_sound : IsSound (twig_cell extent_block)
unfolding cell_fault node_fault header_fault items_fault item_fault items_in_fault item_body_fault item_end body_fault
    units_fault unit_fault holds_fixed items_of items_from item_at key_at offset_at plugin_at edge_at number_at number_bytes
    rank pointer_of units_of units_from
twig_sound = record { whole = twig_whole; accepted = refl }

pub was_sound : IsSound (twig_cell pointer_block)
unfolding cell_fault node_fault header_fault items_fault item_fault items_in_fault item_body_fault item_end items_of items_from
    item_at key_at offset_at plugin_at edge_at number_at number_bytes rank pointer_of
was_sound = record { whole = was_whole; accepted = refl }

pub leaf_sound : IsSound (leaf_cell (file_key 0))
unfolding cell_fault node_fault header_fault items_fault item_fault items_in_fault item_body_fault item_end items_of items_from
    item_at key_at offset_at plugin_at edge_at number_at number_bytes rank stat_of attr_of stat_body
leaf_sound = record { whole = leaf_whole; accepted = refl }

pub old_leaf_sound : IsSound (leaf_cell last_key)
unfolding cell_fault node_fault header_fault items_fault item_fault items_in_fault item_body_fault item_end items_of items_from
    item_at key_at offset_at plugin_at edge_at number_at number_bytes rank stat_of attr_of stat_body
old_leaf_sound = record { whole = leaf_whole; accepted = refl }

pub data_sound : (nth : ℕ) → IsSound (data_cell nth)
unfolding cell_fault
data_sound nth = record { whole = refl; accepted = refl }
