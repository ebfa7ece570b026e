-- A walk that prints a listing: directories that are open, the deepest first, each with a key from which on its entries are left
-- (docs/program.md, "Listing"). A key is its rank.
use Rattle.std.specs.Prelude.{◌≡◌, ◌≢◌, ◌⊎◌, ◌↔◌, ℕ, ◌+◌, ◌-◌, ◌<◌, ◌≤◌, nat_le, Bool, true, ◌&&◌, List, [], ◌∷◌, ◌++◌, length, All, AllPairs, filter, Some}
use Rattle.std.specs.FinMap.{entries}
use Rattle.r4_base.specs.Key.{key_of_rank}
use Rattle.r4_base.specs.Name.{dir_of_key}
use Rattle.r4_base.specs.Value.{Value, Entry, Content, at_key}
use Rattle.r4_base.specs.Volume.{IsReached, is_directory, is_entry_in}
use Rattle.r4_base.specs.declared.items.Attr.{Attr}
use Rattle.r4_base.specs.declared.items.Target.{Target}
use Rattle.r4_content.specs.Walk.{attr_at}
use Rattle.r4_list.specs.Listing.{lines_below, lines_of}

-- A directory whose entries are left from a key on, with its path.
pub record OpenDir : Type 0 where
  pub dir : Target
  pub path : List ℕ
  pub from : ℕ

abbrev pub open_dir : Target → (path : List ℕ) → (from : ℕ) → OpenDir
open_dir o path from = record { dir = o; path = path; from = from }

-- the same with its entries left from another key on
abbrev pub open_from : OpenDir → (from : ℕ) → OpenDir
open_from f from = record { dir = f.dir; path = f.path; from = from }

-- ---- what is left to be printed

-- whether a unit is an entry of a directory, at a key or behind it
abbrev pub is_left : (dir from : ℕ) → ℕ × Value → Bool
is_left dir from u = is_entry_in dir u && nat_le from u.0

-- the lines of what is left of a directory
unfoldable pub left_of : Content → (Target → List ℕ → List ℕ) → OpenDir → List ℕ
left_of m lines f = lines_below lines f.path (filter (is_left f.dir.oid.0 f.from) (entries m))

-- The lines of what is left of all. Below the entries of the one that was opened first there are at most so many steps, and
-- one less for each that was opened later.
unfoldable pub rest_of : Content → (steps : ℕ) → List OpenDir → List ℕ
rest_of m steps [] = []
rest_of m steps (f ∷ fs) = left_of m (lines_of m (steps - length fs)) f ++ rest_of m steps fs

-- An entry of a directory, at a key from which on its entries are left.
pub record IsLeftAt (m : Content) (f : OpenDir) (key : ℕ) (name : List ℕ) (object : Target) : Type 0 where
  pub stands : at_key m key ≡ Some (Entry name object)
  pub in_dir : dir_of_key (key_of_rank key) ≡ f.dir.oid.0
  pub left : f.from ≤ key

-- no entry that is left has a key below this one
abbrev pub NoneBefore : Content → OpenDir → (key : ℕ) → Type 0
NoneBefore m f key = (k : ℕ) (name : List ℕ) (object : Target) → IsLeftAt m f k name object → key ≤ k

-- no entry is left
abbrev pub NoneLeft : Content → OpenDir → Type 0
NoneLeft m f = (k : ℕ) (name : List ℕ) (object : Target) → IsLeftAt m f k name object → ⊥

-- ---- a walk from a directory, and which objects' lines were printed

-- each is reached from the root by one step more than the one that was opened before it
abbrev pub AreReached : Content → (steps : ℕ) → List OpenDir → Type 0
AreReached m steps [] = Unit {0}
AreReached m steps (f ∷ fs) = IsReached m (steps + length fs) f.dir × AreReached m steps fs

-- there is an object that is a directory
abbrev pub IsDirectoryAt : Content → Target → Type 0
IsDirectoryAt m o = (a : Attr) × (attr_at m o ≡ Some a) × (is_directory a ≡ true)

-- the entry at a key was met: its directory's line was printed, and where that is open, the key is below what is left
abbrev pub IsMet : List OpenDir → (printed : ℕ → Bool) → (key : ℕ) → Type 0
IsMet fs printed key = (printed (dir_of_key (key_of_rank key)) ≡ true) × All (λ f. f.dir.oid.0 ≡ dir_of_key (key_of_rank key) → key < f.from) fs

-- an entry that was met names the object of this id
abbrev pub IsNamed : Content → List OpenDir → (printed : ℕ → Bool) → (id : ℕ) → Type 0
IsNamed m fs printed id = (key : ℕ) × (name : List ℕ) × (object : Target) × (at_key m key ≡ Some (Entry name object)) × (object.oid.0 ≡ id) × IsMet fs printed key

-- A walk from a directory that is reached from the root. `printed` tells the ids of the directories whose lines were printed.
pub record IsWalking (m : Content) (start : Target) (fs : List OpenDir) (printed : ℕ → Bool) : Type 0 where
  pub steps : ℕ
  pub begins : IsReached m steps start
  pub reached : AreReached m steps fs
  pub dirs : All (λ f. IsDirectoryAt m f.dir) fs
  pub on : All (λ f. printed f.dir.oid.0 ≡ true) fs
  pub apart : AllPairs (λ f g. f.dir.oid.0 ≢ g.dir.oid.0) fs
  pub named : (id : ℕ) → printed id ≡ true → (id ≡ start.oid.0) ⊎ IsNamed m fs printed id

-- one more is printed
abbrev pub PrintsToo : (printed : ℕ → Bool) → (id : ℕ) → (next : ℕ → Bool) → Type 0
PrintsToo printed id next = (d : ℕ) → (next d ≡ true) ↔ ((printed d ≡ true) ⊎ (d ≡ id))

-- so many steps are enough for the entries of each directory that a walk opens
abbrev pub IsEnough : Content → (steps : ℕ) → Type 0
IsEnough m steps = (start : Target) (f : OpenDir) (fs : List OpenDir) (printed : ℕ → Bool) → IsWalking m start (f ∷ fs) printed → length fs < steps
