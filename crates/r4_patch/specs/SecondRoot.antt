-- A patch whose law fails in a tree, where the root changes and the tree's root is no old cell.
use Rattle.std.specs.Prelude.{ℕ, List, [], ◌∷◌, ◌==◌, if◌then◌else◌, None, Some}
use Rattle.r4_base.specs.Key.{least, top}
use Rattle.r4_base.specs.Tree.{Node, Store, Root}
use Rattle.r4_base.specs.Value.{Value, Stat}
use Rattle.r4_base.specs.Volume.{root_attr}
use Rattle.r4_cell.specs.Patch.{Patch}

-- the cells of a list, by number: the first of a number counts
abbrev pub numbered : List (ℕ × Node Value) → Store Value
numbered [] i = None
numbered (e ∷ es) i = if e.0 == i then Some e.1 else numbered es i

-- the two cells of a fresh volume, with any blocks
abbrev pub whole_leaf : List ℕ → Node Value
whole_leaf block = record { level = 1; lo = least; hi = top; block = block; names = []; spans = []; units = (least, Stat root_attr) ∷ [] }

abbrev pub whole_twig : List ℕ → Node Value
whole_twig block = record { level = 2; lo = least; hi = top; block = block; names = record { id = 23; level = 1; lo = least; hi = top } ∷ []; spans = []; units = [] }

abbrev pub small_tree : (twig leaf : List ℕ) → Store Value
small_tree twig leaf = numbered ((22, whole_twig twig) ∷ (23, whole_leaf leaf) ∷ [])

abbrev pub small_root : Root
small_root = record { id = 22; height = 2 }

-- a second root beside the old one, over the same leaf
abbrev pub second_root : (twig leaf : List ℕ) → Patch Value
second_root twig leaf = record { old = numbered ((23, whole_leaf leaf) ∷ []); new = numbered ((24, whole_twig twig) ∷ (23, whole_leaf leaf) ∷ []); root = Some (record { id = 24; height = 2 }) }
