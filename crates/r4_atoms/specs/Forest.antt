-- Numbers from 0 on, each of which stands under another or is a top: the names of their sets.
use Rattle.std.specs.Prelude.{◌≡◌, ℕ, zero, suc, ◌+◌, ◌<◌, ◌≤◌, ◌^◌, List, length, map, true, false, cond, slice_index_or, slice_set}
use Rattle.std.specs.List.{range_with_len, sum_by}
use Rattle.r4_atoms.specs.declared.forest.Link.{Link}
use Rattle.r4_atoms.specs.Names.{AreNames}

abbrev pub no_link : Link
no_link = record { up = 0; size = 0; name = 0; top = false }

abbrev pub link_at : List Link → ℕ → Link
link_at links i = slice_index_or links i no_link

-- so many steps up
unfoldable pub climb : List Link → ℕ → ℕ → ℕ
climb links zero i = i
climb links (suc steps) i = climb links steps (link_at links i).up

-- the top of a number's set
abbrev pub root_of : List Link → ℕ → ℕ
root_of links i = climb links (length links) i

abbrev pub name_at : List Link → ℕ → ℕ
name_at links i = (link_at links (root_of links i)).name

abbrev pub names_of : List Link → List ℕ
names_of links = map (name_at links) (range_with_len 0 (length links))

-- the members of the set of which this is the top
abbrev pub weight : Link → ℕ
weight link = cond link.top link.size 0

pub record IsTop (links : List Link) (i : ℕ) : Type 0 where
  pub within : i < length links
  pub top : (link_at links i).top ≡ true

-- the top `hang` under the top `keep`, which has this name then
abbrev pub linked : List Link → (hang keep name : ℕ) → List Link
linked links hang keep name =
    slice_set (slice_set links hang (record { up = keep; size = (link_at links hang).size; name = (link_at links hang).name; top = false })) keep
    (record { up = (link_at links keep).up; size = (link_at links keep).size + (link_at links hang).size; name = name; top = (link_at links keep).top })

-- a set of its own for the next number
abbrev pub next_link : List Link → Link
next_link links = record { up = length links; size = 1; name = length links; top = true }

-- What stands under another has fewer members under it, so each way up ends at a top; all tops together have all members.
pub record IsForest (links : List Link) : Type 0 where
  pub up_in : (i : ℕ) → i < length links → (link_at links i).up < length links
  pub rises : (i : ℕ) → i < length links → (link_at links i).top ≡ false → (link_at links i).size < (link_at links (link_at links i).up).size
  pub still : (i : ℕ) → i < length links → (link_at links i).top ≡ true → (link_at links i).up ≡ i
  pub some : (i : ℕ) → i < length links → 0 < (link_at links i).size
  pub small : (i : ℕ) → i < length links → (link_at links i).size ≤ length links
  pub total : sum_by weight links ≡ length links

-- The name of a top is a member of its set.
abbrev pub OwnNames : List Link → Type 0
OwnNames links = (i : ℕ) → IsTop links i → ((link_at links i).name < length links) × (root_of links (link_at links i).name ≡ i)

-- The links make a forest of well named sets, with room for `spare` more.
pub record HasRoom (links : List Link) (spare capacity : ℕ) : Type 0 where
  pub forest : IsForest links
  pub own : OwnNames links
  pub named : AreNames (names_of links)
  pub few : length links < 2 ^ 32
  pub enough : length links + spare ≤ capacity
