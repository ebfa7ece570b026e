-- Where a path leads (docs/volume.md, "Paths").
use Rattle.std.specs.Prelude.{ℕ, ◌^◌, List, [], ◌∷◌, Bool, ◌&&◌, nat_eq, nat_lt, bytes_eq, Option}
use Rattle.std.specs.Prelude.{Some, None, if◌then◌else◌}
use Rattle.std.specs.Option.{is_none}
use Rattle.std.specs.List.{list_all}
use Rattle.r4_base.specs.Key.{rank}
use Rattle.r4_base.specs.Name.{key_of_name, name_fault}
use Rattle.r4_base.specs.Value.{Value, Stat, Entry, Byte, Content, at_key}
use Rattle.r4_base.specs.Volume.{is_directory, root_object, stat_rank}
use Rattle.r4_base.specs.declared.items.Attr.{Attr}
use Rattle.r4_base.specs.declared.items.Target.{Target}

abbrev pub attr_in : Option Value → Option Attr
attr_in None = None
attr_in (Some (Stat a)) = Some a
attr_in (Some (Entry n o)) = None
attr_in (Some (Byte x)) = None

-- no object has a locality or an object id of 2^60 or more
abbrev pub may_be_object : Target → Bool
may_be_object o = nat_lt o.locality (2 ^ 60) && nat_lt o.oid.0 (2 ^ 60)

-- the attributes of an object; there are none where it has no stat data
abbrev pub attr_at : Content → Target → Option Attr
attr_at m o = if may_be_object o then attr_in (at_key m (stat_rank o)) else None

abbrev pub target_in : (name : List ℕ) → Option Value → Option Target
target_in n None = None
target_in n (Some (Stat a)) = None
target_in n (Some (Entry s o)) = if bytes_eq s n then Some o else None
target_in n (Some (Byte x)) = None

-- what the entry of exactly this name names, in the directory of this id
abbrev pub target_at : Content → (dir : ℕ) → (name : List ℕ) → Option Target
target_at m dir n = if nat_lt dir (2 ^ 60)
    then target_in n (at_key m (rank (key_of_name dir n))) else None

-- where a walk ends: at an object with its attributes, or why at none
pub data Walked : Type 0 where
  At : Target → Attr → Walked
  NoName : Walked
  NoDirectory : Walked
  NoEntry : Walked

abbrev pub walk_on : (Target → Walked) → Option Target → Walked
walk_on go None = NoEntry
walk_on go (Some o) = go o

-- From an object with these attributes, if it has any, each name is a step: it needs a directory,
-- and in it an entry of exactly that name,
-- whose object has stat data.
unfoldable pub walk_from : Content → List (List ℕ) → Target → Option Attr → Walked
walk_from m names o None = NoEntry
walk_from m [] o (Some a) = At o a
walk_from m (n ∷ names) o (Some a) = if is_directory a then walk_on
    (λ p. walk_from m names p (attr_at m p)) (target_at m o.oid.0 n) else NoDirectory

abbrev pub walk_root : Content → List (List ℕ) → Option Attr → Walked
walk_root m names None = NoDirectory
walk_root m names (Some a) = walk_from m names root_object (Some a)

-- the names are looked at first; a root without stat data is no directory
abbrev pub walk : Content → List (List ℕ) → Walked
walk m names = if list_all (λ n. is_none (name_fault n)) names
    then walk_root m names (attr_at m root_object) else NoName

-- ---- the names of a path that begins with a slash: what stands between the slashes behind it,
-- and none in the slash alone

abbrev pub before_first : ℕ → List (List ℕ) → List (List ℕ)
before_first x [] = (x ∷ []) ∷ []
before_first x (s ∷ pieces) = (x ∷ s) ∷ pieces

unfoldable pub pieces_of : List ℕ → List (List ℕ)
pieces_of [] = [] ∷ []
pieces_of (x ∷ xs) = if nat_eq x 47 then [] ∷ pieces_of xs else before_first x (pieces_of xs)

abbrev pub names_in : (path : List ℕ) → List (List ℕ)
names_in [] = []
names_in (x ∷ []) = []
names_in (x ∷ (y ∷ xs)) = pieces_of (y ∷ xs)
