-- What contracts see of a cache: a list of cells, the latest used first.
use Rattle.std.specs.Prelude.{◌≡◌, ℕ, ◌<◌, ◌≤◌, ◌==◌, nat_eq, if◌then◌else◌, List, [], ◌∷◌, map, find, length, take, Option, None, Some}
use Rattle.std.specs.List.{IsDistinct}
use Rattle.std.specs.Arc.{arc_value}
use Rattle.std.specs.declared.sync.Arc.{Arc}
use Rattle.std.specs.declared.alloc.Global.{Global}
use Rattle.r4_cell.specs.Seen.{CellSeen}

pub record CacheSeen : Type 0 where
  pub entries : List CellSeen
  -- how many entries there may be
  pub cap : ℕ

-- the cell of a name
abbrev pub cell_named : ℕ → List CellSeen → Option CellSeen
cell_named id cells = find (λ c. id == c.id) cells

-- the cells without the one of a name
abbrev pub without : ℕ → List CellSeen → List CellSeen
without id [] = []
without id (c ∷ cs) = if id == c.id then cs else c ∷ without id cs

abbrev pub front_or_all : Option CellSeen → List CellSeen → List CellSeen → List CellSeen
front_or_all None rest all = all
front_or_all (Some c) rest all = c ∷ rest

-- the cell of a name goes first, where there is one
abbrev pub in_front : ℕ → List CellSeen → List CellSeen
in_front id cells = front_or_all (cell_named id cells) (without id cells) cells

-- a cell goes first, in place of the one of its name, and the last goes where there are more than `cap`
abbrev pub put_in : (cap : ℕ) → CellSeen → List CellSeen → List CellSeen
put_in cap cell cells = take cap (cell ∷ without cell.id cells)

-- The names differ, and there are at most `cap` entries.
pub record IsLawful (c : CacheSeen) : Type 0 where
  pub names : IsDistinct nat_eq (map (λ cell. cell.id) c.entries)
  pub fits : length c.entries ≤ c.cap
  pub room : 0 < c.cap

-- ---- how they are kept

abbrev pub Entry : Type 0
Entry = ℕ × Arc CellSeen Global

abbrev pub cells_of : List Entry → List CellSeen
cells_of entries = map (λ (e : Entry). arc_value e.1) entries

-- Each cell stands under its name.
abbrev pub IsNamed : List Entry → Type 0
IsNamed [] = Unit {0}
IsNamed (e ∷ es) = (e.0 ≡ (arc_value e.1).id) × IsNamed es
