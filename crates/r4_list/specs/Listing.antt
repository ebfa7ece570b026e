-- The text of a listing (docs/program.md, "Listing").
use Rattle.std.specs.Prelude.{◌≡◌, ℕ, zero, suc, ◌+◌, ◌/◌, ◌%◌, ◌^◌, ◌≤◌, min, List, [], ◌∷◌, ◌++◌, codes, decimal, filter, Option, Some, None, if◌then◌else◌}
use Rattle.std.specs.FinMap.{entries}
use Rattle.r4_base.specs.Value.{Value, Stat, Entry, Byte, Content, at_key}
use Rattle.r4_base.specs.Volume.{byte_rank, is_directory, is_entry_in}
use Rattle.r4_base.specs.declared.items.Attr.{Attr}
use Rattle.r4_base.specs.declared.items.Target.{Target}
use Rattle.r4_content.specs.Walk.{Walked, At, NoName, NoDirectory, NoEntry, attr_at, walk, names_in}

-- ---- the line of an object: kind, mode, links, owner, group, size and path, with a blank between

abbrev pub kind_text : Attr → List ℕ
kind_text a = if is_directory a then codes "d" else codes "f"

-- the digit of a number below ten
abbrev pub digit : ℕ → ℕ
digit d = 48 + d

-- the low twelve bits of the mode, as four octal digits
abbrev pub mode_text : Attr → List ℕ
mode_text a = digit (a.mode / 512 % 8) ∷ digit (a.mode / 64 % 8) ∷ digit (a.mode / 8 % 8) ∷ digit (a.mode % 8) ∷ []

-- the root's path has no name, and is a slash
abbrev pub path_text : (path : List ℕ) → List ℕ
path_text [] = codes "/"
path_text (x ∷ xs) = x ∷ xs

unfoldable pub line_of : Attr → (path : List ℕ) → List ℕ
line_of a path =
    kind_text a ++ (codes " " ++ (mode_text a ++ (codes " " ++ (decimal a.nlink ++ (codes " " ++ (decimal a.uid ++ (codes " " ++ (decimal a.gid
    ++ (codes " " ++ (decimal a.size ++ (codes " " ++ (path_text path ++ codes "\n"))))))))))))

-- ---- an object, and what is below it

-- a directory's entries in the order of their keys
unfoldable pub entries_of : Content → (dir : ℕ) → List (ℕ × Value)
entries_of m dir = filter (is_entry_in dir) (entries m)

-- what each entry names, with its path
unfoldable pub lines_below : (Target → List ℕ → List ℕ) → (path : List ℕ) → List (ℕ × Value) → List ℕ
lines_below lines path [] = []
lines_below lines path ((k, Stat a) ∷ us) = lines_below lines path us
lines_below lines path ((k, Entry n o) ∷ us) = lines o (path ++ 47 ∷ n) ++ lines_below lines path us
lines_below lines path ((k, Byte x) ∷ us) = lines_below lines path us

-- an object's line, and for a directory what is below it
abbrev pub lines_at : Content → (Target → List ℕ → List ℕ) → Target → (path : List ℕ) → Option Attr → List ℕ
lines_at m lines o path None = []
lines_at m lines o path (Some a) = line_of a path ++ (if is_directory a then lines_below lines path (entries_of m o.oid.0) else [])

-- the lines of an object and of all that is at most so many steps below it
unfoldable pub lines_of : Content → (steps : ℕ) → Target → (path : List ℕ) → List ℕ
lines_of m zero o path = []
lines_of m (suc steps) o path = lines_at m (lines_of m steps) o path (attr_at m o)

-- ---- the bytes of a file

abbrev pub byte_in : Option Value → List ℕ
byte_in None = []
byte_in (Some (Stat a)) = []
byte_in (Some (Entry n o)) = []
byte_in (Some (Byte x)) = x ∷ []

-- so many from an offset on
unfoldable pub bytes_from : Content → Target → (count offset : ℕ) → List ℕ
bytes_from m o zero offset = []
bytes_from m o (suc count) offset = byte_in (at_key m (byte_rank o offset)) ++ bytes_from m o count (offset + 1)

-- at most 2^30
abbrev pub file_text : Content → Target → Attr → List ℕ
file_text m o a = if is_directory a then [] else (bytes_from m o (min a.size (2 ^ 30)) 0 ++ codes "\n")

-- ---- what is printed for a path

abbrev pub text_at : Content → (steps : ℕ) → (path : List ℕ) → Walked → List ℕ
text_at m steps path (At o a) = lines_of m steps o path ++ file_text m o a
text_at m steps path NoName = codes "name\n"
text_at m steps path NoDirectory = codes "notdir\n"
text_at m steps path NoEntry = codes "absent\n"

-- the path of an object as lines show it: none for the root
abbrev pub shown_path : (path : List ℕ) → List ℕ
shown_path [] = []
shown_path (x ∷ []) = []
shown_path (x ∷ (y ∷ xs)) = x ∷ (y ∷ xs)

-- The text of a path's listing: whatever is the number of steps, from some number on.
pub record IsListing (m : Content) (path text : List ℕ) : Type 0 where
  pub deep : ℕ
  pub is : (steps : ℕ) → deep ≤ steps → text ≡ text_at m steps (shown_path path) (walk m (names_in path))
