-- Objects, and how one of them is changed (docs/commands.md, "Numbers").
use Rattle.std.specs.Prelude.{ℕ, ◌+◌, ◌-◌, ◌^◌, List, [], ◌∷◌, Bool, false, ◌&&◌, ◌||◌, ◌==◌}
use Rattle.std.specs.Prelude.{nat_le, nat_lt, slice_index, if◌then◌else◌}
use Rattle.r4_base.specs.Key.{rank}
use Rattle.r4_base.specs.Name.{key_of_name}
use Rattle.r4_base.specs.Value.{Stat, Entry, Byte}
use Rattle.r4_base.specs.Volume.{byte_rank, is_directory, stat_rank}
use Rattle.r4_base.specs.declared.items.Attr.{Attr}
use Rattle.r4_base.specs.declared.items.Target.{Target}
use Rattle.r4_base.specs.declared.things.Oid.{Oid}
use Rattle.r4_content.specs.Edited.{Pairs, Edits, and_also}

-- an object that was found
pub record Object : Type 0 where
  pub target : Target
  pub attr : Attr

abbrev pub is_dir : Object → Bool
is_dir o = is_directory o.attr

abbrev pub is_same_target : Target → Target → Bool
is_same_target t u = t.locality == u.locality && t.ordering == u.ordering && t.oid.0 == u.oid.0

abbrev pub is_same : Object → Object → Bool
is_same o p = is_same_target o.target p.target

abbrev pub is_among : Object → List Object → Bool
is_among o [] = false
is_among o (p ∷ ps) = is_same o p || is_among o ps

-- the key of a name in a directory
abbrev pub entry_rank : (dir : Target) → (name : List ℕ) → ℕ
entry_rank dir n = rank (key_of_name dir.oid.0 n)

-- ---- numbers: one that would fall below 0 or pass the end of its field stays as it is

abbrev pub one_more : (last : ℕ) → ℕ → ℕ
one_more last n = if nat_lt n last then n + 1 else n

-- an object with a link more, or less. Here `-` ends at 0
abbrev pub link_more : Attr → Attr
link_more a = record a { nlink = one_more (2 ^ 32 - 1) a.nlink }

abbrev pub link_less : Attr → Attr
link_less a = record a { nlink = a.nlink - 1 }

-- no object may get more links than these
abbrev pub is_full : Object → Bool
is_full o = nat_le 65535 o.attr.nlink

-- `bytes` is the size
abbrev pub sized : Attr → ℕ → Attr
sized a n = record a { size = n; bytes = n }

-- a directory with an entry more, or less; the entry of a directory is a link, too
abbrev pub entry_more : (is_dir : Bool) → Attr → Attr
entry_more d a = let b = sized a (one_more (2 ^ 64 - 1) a.size) in if d then link_more b else b

abbrev pub entry_less : (is_dir : Bool) → Attr → Attr
entry_less d a = let b = sized a (a.size - 1) in if d then link_less b else b

-- ---- edits of one object

abbrev pub set_attr : Object → Attr → Edits
set_attr o a = record { cuts = []; zeros = []; puts = (stat_rank o.target, Stat a) ∷ [] }

abbrev pub set_entry : (dir : Object) → (name : List ℕ) → Target → Edits
set_entry dir n t = record {
  cuts = [];
  zeros = [];
  puts = (entry_rank dir.target n, Entry n t)
      ∷ [];
}

abbrev pub cut_key : ℕ → Edits
cut_key k = record { cuts = (k, k + 1) ∷ []; zeros = []; puts = [] }

-- the bytes of a body from an offset up to another one
abbrev pub cut_body : Object → (from to : ℕ) → Edits
cut_body o from to = record {
  cuts = (byte_rank o.target from, byte_rank o.target to)
      ∷ [];
  zeros = [];
  puts = [];
}

abbrev pub zero_body : Object → (from to : ℕ) → Edits
zero_body o from to = record {
  cuts = [];
  zeros =
      (byte_rank o.target from, byte_rank o.target to) ∷ [];
  puts = [];
}

abbrev pub byte_pairs : (key : ℕ) → List ℕ → Pairs
byte_pairs k [] = []
byte_pairs k (x ∷ xs) = (k, Byte x) ∷ byte_pairs (k + 1) xs

abbrev pub set_body : Object → (from : ℕ) → List ℕ → Edits
set_body o from xs = record {
  cuts = [];
  zeros = [];
  puts = byte_pairs
      (byte_rank o.target from) xs;
}

-- An entry that names the object goes. A directory goes with it, and with the last one a file goes
-- with its bytes.
abbrev pub unnamed : Object → Edits
unnamed o =
    if is_dir o then cut_key (stat_rank o.target)
    else if nat_le o.attr.nlink 1
    then and_also (cut_key (stat_rank o.target)) (cut_body o 0 o.attr.size)
    else set_attr o (link_less o.attr)

-- ---- new objects

abbrev pub newborn : (mode nlink : ℕ) → Attr
newborn mode nlink = record {
  mode = mode;
  nlink = nlink;
  size = 0;
  uid = 0;
  gid = 0;
  atime = 0;
  mtime = 0;
  ctime = 0;
  bytes = 0;
}

abbrev pub new_file : Attr
new_file = newborn 0o100644 1

abbrev pub new_directory : Attr
new_directory = newborn 0o40755 2

-- what is made in a directory under a name: its locality is the directory's id, and its ordering
-- that of the entry's key
abbrev pub made_in : (dir : Object) → (name : List ℕ) → Oid → Attr → Object
made_in dir n oid a = record {
  target = record {
    locality = dir.target.oid.0;
    ordering =
        slice_index (key_of_name dir.target.oid.0 n).el 1;
    oid = oid;
  };
  attr = a;
}
