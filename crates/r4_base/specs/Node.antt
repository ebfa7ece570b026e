-- What a block says as a node, and the first fault where it says nothing (docs/layout.md, "Nodes").
use Rattle.std.specs.Prelude.{◌≡◌, ℕ, zero, suc, ◌+◌, ◌-◌, ◌*◌, List, [], ◌∷◌, slice_get, slice_index, slice_range, Bool, true, not, ◌&&◌, ◌||◌, Option, Some, None, nat_lt, nat_le, ◌==◌, if◌then◌else◌}
use Rattle.r4_base.specs.Bytes.{number_at}
use Rattle.r4_base.specs.Key.{rank, IsBelow}
use Rattle.r4_base.specs.declared.key.Key.{Key}
use Rattle.r4_base.specs.declared.node.NodeFault.{NodeFault}
use Rattle.r4_base.specs.declared.node.NodeFault.TheVariants.{Magic, Level, Empty, Space, Offset, Plugin, Order}
use Rattle.r4_base.specs.declared.limits.TheConstants.{ITEM_HEADER, LEAF, MOST_LEVELS, NODE_HEAD, TWIG}
use Rattle.r4_base.specs.declared.plugin.TheConstants.{ENTRIES, EXTENT, POINTER, STAT, TAIL}

-- ---- the header of a node

abbrev pub plugin_of : List ℕ → ℕ
plugin_of b = number_at 2 0 b

-- how many items the node has
abbrev pub count_of : List ℕ → ℕ
count_of b = number_at 2 2 b

-- how many bytes are free between the bodies and the item headers
abbrev pub free_of : List ℕ → ℕ
free_of b = number_at 2 4 b

-- where the bodies end
abbrev pub start_of : List ℕ → ℕ
start_of b = number_at 2 6 b

abbrev pub magic_of : List ℕ → ℕ
magic_of b = number_at 4 8 b

abbrev pub mkfs_id_of : List ℕ → ℕ
mkfs_id_of b = number_at 4 12 b

abbrev pub flush_id_of : List ℕ → ℕ
flush_id_of b = number_at 8 16 b

abbrev pub flags_of : List ℕ → ℕ
flags_of b = number_at 2 24 b

abbrev pub level_of : List ℕ → ℕ
level_of b = slice_index b 26

abbrev pub pad_of : List ℕ → ℕ
pad_of b = slice_index b 27

-- ---- the header of item i

abbrev pub header : ℕ → ℕ
header i = 4096 - ITEM_HEADER * (i + 1)

unfoldable pub key_at : List ℕ → ℕ → Key
key_at b i = record { el = number_at 8 (header i) b ∷ number_at 8 (header i + 8) b ∷ number_at 8 (header i + 16) b ∷ number_at 8 (header i + 24) b ∷ [] }

unfoldable pub offset_at : List ℕ → ℕ → ℕ
offset_at b i = number_at 2 (header i + 32) b

unfoldable pub plugin_at : List ℕ → ℕ → ℕ
plugin_at b i = number_at 2 (header i + 36) b

-- the flags of item i, which nobody reads
unfoldable pub item_flags_at : List ℕ → ℕ → ℕ
item_flags_at b i = number_at 2 (header i + 34) b

-- where the body of item i begins, of n items, and where the bodies end at i = n
unfoldable pub edge_at : ℕ → List ℕ → ℕ → ℕ
edge_at n b i = if i == n then start_of b else offset_at b i

-- where the body of item i ends, of n items
abbrev pub end_at : ℕ → List ℕ → ℕ → ℕ
end_at n b i = edge_at n b (i + 1)

-- ---- items

pub record Item : Type 0 where
  pub key : Key
  pub plugin : ℕ
  pub body : List ℕ

unfoldable pub item_at : ℕ → List ℕ → ℕ → Item
item_at n b i = record { key = key_at b i; plugin = plugin_at b i; body = slice_range b (offset_at b i) (end_at n b i) }

-- the items from i on, of n, of which k are left
unfoldable pub items_from : ℕ → ℕ → ℕ → List ℕ → List Item
items_from n zero i b = []
items_from n (suc k) i b = item_at n b i ∷ items_from n k (i + 1) b

unfoldable pub items_of : List ℕ → List Item
items_of b = items_from (count_of b) (count_of b) 0 b

-- ---- the first fault

abbrev pub then_fault : Option NodeFault → Option NodeFault → Option NodeFault
then_fault None f = f
then_fault (Some e) f = Some e

abbrev pub magic_is_good : List ℕ → Bool
magic_is_good b = magic_of b == 0x52344653 && plugin_of b == 0

abbrev pub level_is_good : List ℕ → Bool
level_is_good b = nat_le LEAF (level_of b) && nat_le (level_of b) MOST_LEVELS

abbrev pub is_empty_branch : List ℕ → Bool
is_empty_branch b = nat_lt LEAF (level_of b) && count_of b == 0

abbrev pub space_is_good : List ℕ → Bool
space_is_good b = nat_le NODE_HEAD (start_of b) && start_of b + free_of b + ITEM_HEADER * count_of b == 4096

unfoldable pub header_fault : List ℕ → Option NodeFault
header_fault b =
    if not (magic_is_good b) then Some Magic else
    if not (level_is_good b) then Some Level else
    if is_empty_branch b then Some Empty else
    if not (space_is_good b) then Some Space else
    None

-- the plugins of a level
abbrev pub fits_level : (level plugin : ℕ) → Bool
fits_level level plugin =
    if level == LEAF then plugin == STAT || plugin == ENTRIES || plugin == TAIL else
    if level == TWIG then plugin == POINTER || plugin == EXTENT else
    (plugin == POINTER)

abbrev pub offset_is_good : List ℕ → ℕ → Bool
offset_is_good b i = (if i == 0 then offset_at b i == NODE_HEAD else nat_lt (offset_at b (i - 1)) (offset_at b i)) && nat_lt (offset_at b i) (start_of b)

abbrev pub order_is_good : List ℕ → ℕ → Bool
order_is_good b i = i == 0 || nat_lt (rank (key_at b (i - 1))) (rank (key_at b i))

unfoldable pub item_fault : List ℕ → ℕ → Option NodeFault
item_fault b i =
    if not (offset_is_good b i) then Some (Offset i) else
    if not (fits_level (level_of b) (plugin_at b i)) then Some (Plugin i) else
    if not (order_is_good b i) then Some (Order i) else
    None

-- the first fault of k items from i on
unfoldable pub items_fault : ℕ → ℕ → List ℕ → Option NodeFault
items_fault zero i b = None
items_fault (suc k) i b = then_fault (item_fault b i) (items_fault k (i + 1) b)

unfoldable pub node_fault : List ℕ → Option NodeFault
node_fault b = then_fault (header_fault b) (items_fault (count_of b) 0 b)

-- ---- what the faults of items say of the list of items

-- each item has a plugin of the level
abbrev pub PluginsFit : (level : ℕ) → List Item → Type 0
PluginsFit level items = (k : ℕ) (x : Item) → slice_get items k ≡ Some x → fits_level level x.plugin ≡ true

-- each key is above the one before it
abbrev pub KeysRise : List Item → Type 0
KeysRise items = (k : ℕ) (x y : Item) → slice_get items k ≡ Some x → slice_get items (k + 1) ≡ Some y → IsBelow x.key y.key
