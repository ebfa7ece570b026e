-- A tree with one file, whose body of one block stands in an extent or in tails.
use Rattle.std.specs.Prelude.{ℕ, zero, suc, ◌+◌, ◌==◌, List, [], ◌∷◌, Bool, true, false, if◌then◌else◌, Some, None}
use Rattle.std.specs.FinMap.{empty, insert}
use Rattle.r4_base.specs.Key.{least, top}
use Rattle.r4_base.specs.Tree.{Name, Node, Span, Store}
use Rattle.r4_base.specs.Value.{Value, Stat, Byte, Content}
use Rattle.r4_base.specs.Volume.{byte_rank, stat_rank}
use Rattle.r4_base.specs.declared.items.Attr.{Attr}
use Rattle.r4_base.specs.declared.items.Target.{Target}
use Rattle.r4_content.specs.Objects.{new_file, sized}

abbrev pub the_file : Target
the_file = record { locality = 42; ordering = 0; oid = record { 0 = 65536 } }

abbrev pub stat_at : ℕ
stat_at = stat_rank the_file

-- the key of its first byte, and the first one behind its first block
abbrev pub body_at : ℕ
body_at = byte_rank the_file 0

abbrev pub behind_at : ℕ
behind_at = body_at + 4096

abbrev pub file_with : (size : ℕ) → Attr
file_with n = sized new_file n

-- bytes 0 from a key on
unfoldable pub zeros : (from n : ℕ) → List (ℕ × Value)
zeros from zero = []
zeros from (suc n) = (from, Byte 0) ∷ zeros (from + 1) n

-- the file, with so many bytes 0
unfoldable pub file_content : (size n : ℕ) → Content
file_content size zero = insert empty stat_at (Stat (file_with size))
file_content size (suc n) = insert (file_content size n) (body_at + n) (Byte 0)

-- ---- cells: a leaf with the stat data, the block in an extent or a leaf, and a leaf with what is behind

abbrev pub left_name : Name
left_name = record { id = 23; level = 1; lo = least; hi = body_at }

abbrev pub right_name : Name
right_name = record { id = 25; level = 1; lo = behind_at; hi = top }

abbrev pub level_of : (tails : Bool) → ℕ
level_of true = 1
level_of false = 0

abbrev pub middle_name : (tails : Bool) → Name
middle_name t = record { id = 24; level = level_of t; lo = body_at; hi = behind_at }

abbrev pub the_extent : Span
the_extent = record { lo = body_at; hi = behind_at }

abbrev pub extents_of : (tails : Bool) → List Span
extents_of true = []
extents_of false = the_extent ∷ []

abbrev pub file_twig : (tails : Bool) → Node Value
file_twig t = record {
  level = 2;
  lo = least;
  hi = top;
  block = [];
  names = left_name ∷ right_name ∷ middle_name t ∷ [];
  spans = extents_of t;
  units = [];
}

abbrev pub left_leaf : (size : ℕ) → Node Value
left_leaf n = record {
  level = 1;
  lo = least;
  hi = body_at;
  block = [];
  names = [];
  spans = [];
  units = (stat_at, Stat (file_with n)) ∷ [];
}

abbrev pub middle_cell : (tails : Bool) → Node Value
middle_cell t = record {
  level = level_of t;
  lo = body_at;
  hi = behind_at;
  block = [];
  names = [];
  spans = [];
  units = zeros body_at 4096;
}

abbrev pub right_leaf : (more : ℕ) → Node Value
right_leaf j = record {
  level = 1;
  lo = behind_at;
  hi = top;
  block = [];
  names = [];
  spans = [];
  units = zeros behind_at j;
}

unfoldable pub file_store : (tails : Bool) → (size more : ℕ) → Store Value
file_store t n j i = if i == 22 then Some (file_twig t) else if i == 23 then Some (left_leaf n)
    else if i == 24 then Some (middle_cell t) else if i == 25 then Some (right_leaf j) else None
