-- A change that follows another one, and both as one (docs/volume.md, "Changes").
use Rattle.std.specs.Prelude.{◌≡◌, ℕ, ◌==◌, ◌++◌, Bool, not, List}
use Rattle.std.specs.List.{filter, list_any}
use Rattle.std.specs.Option.{option_or}
use Rattle.r4_base.specs.Tree.{Root, Store}
use Rattle.r4_base.specs.Value.{Value}
use Rattle.r4_cell.specs.Patch.{IsChange, IsPatch, Patch, place, root_after}
use Rattle.r4_cell.specs.Seen.{CellSeen}
use Rattle.r4_cell.specs.declared.change.Change.{Change}
use Rattle.r4_patch.specs.Joining.{ids_of, patch_of_change}
use Rattle.r4_patch.specs.Part.{IsPart, MeetsPart}

-- The first is a patch of this part of a tree, and the second one of what it leaves.
pub record Follows {V : Type 0} (p q : Patch V) (t : Store V) (root : Root) : Type 0 where
  pub part : IsPart t root
  pub one_is : IsPatch p
  pub one_meets : MeetsPart p t root
  pub two_is : IsPatch q
  pub two_meets : MeetsPart q (place p t) (root_after p root)

-- whether the number is one of these
abbrev pub is_among : List ℕ → ℕ → Bool
is_among ids i = list_any (λ j. j == i) ids

-- the cells but those that have one of these numbers
abbrev pub without : (ids : List ℕ) → List CellSeen → List CellSeen
without ids cells = filter (λ c. not (is_among ids c.id)) cells

-- Of the second change's old cells those are old that the first did not make, and of the first
-- one's new cells those are new that the second left.
pub record IsFollowed (one two c : Change) : Type 0 where
  pub old : c.old ≡ one.old ++ without (ids_of one.new) two.old
  pub new : c.new ≡ two.new ++ without (ids_of two.old) one.new
  pub root : c.root ≡ option_or two.root one.root

-- The first is a change of this part of a tree, and the second one of what it leaves.
pub record AreInTurn (one two : Change) (t : Store Value) (root : Root) : Type 0 where
  pub part : IsPart t root
  pub one_is : IsChange one.old one.new one.root
  pub one_meets : MeetsPart (patch_of_change one) t root
  pub two_is : IsChange two.old two.new two.root
  pub two_meets : MeetsPart (patch_of_change two) (place (patch_of_change one) t)
      (root_after (patch_of_change one) root)
