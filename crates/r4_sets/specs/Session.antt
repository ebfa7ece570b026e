-- What the cells of a session mean: any set of open atoms in place is a tree, with the content of its commands
-- (docs/sets.md).
--     Session     the trace, the committed cells, those with the sealed atom in place, and those in memory
--     IsTreeOf    cells that are a tree with a content
--     Stands      cells that have the content of chosen transactions
--     Sets        what each set of open atoms means
use Rattle.std.specs.Prelude.{◌≡◌, ◌⊎◌, ◌≤◌, ℕ, Bool, true, false, ◌||◌, ◌==◌, cond, List, [], ◌∷◌, Option, Some, None}
use Rattle.r4_base.specs.Tree.{Store, Root, IsTree}
use Rattle.r4_base.specs.Value.{Value, Content, at_key}
use Rattle.r4_base.specs.Volume.{HasUnits, HasFiles, IsVisible}
use Rattle.r4_patch.specs.r4_cell.Patch.{Patch}
use Rattle.r4_content.specs.Locality.{Meaning, Touches}
use Rattle.r4_content.specs.declared.command.Command.{Command}
use Rattle.r4_content.specs.declared.reply.Reply.{Reply}
use Rattle.r4_trace.specs.Folds.{HasItsReplies, content_of, everything}
use Rattle.r4_trace.specs.Traced.{atom_in, committed_in, is_first, sealed_in}
use Rattle.r4_trace.specs.declared.entry.Entry.{Entry}
use Rattle.r4_trace.specs.declared.entry.Entry.TheVariants.{Done}

-- ---- chosen transactions

-- Where a command of one of them was done, it finds in the content of the chosen ones, at each key that it reads or
-- changes, what it found where all were done.
abbrev pub FindsAlike : Meaning Command Reply → Content → (ℕ → Bool) → List Entry → Type 0
FindsAlike w start chosen [] = Unit {0}
FindsAlike w start chosen (Done txn script index x reply ∷ older) =
    (chosen txn.0 ≡ true → (k : ℕ) → Touches w x (content_of w start everything older) k
    → at_key (content_of w start chosen older) k ≡ at_key (content_of w start everything older) k)
    × FindsAlike w start chosen older
FindsAlike w start chosen (e ∷ older) = FindsAlike w start chosen older

-- the two choices have the same of those in which a command was done
abbrev pub ChoosesAlike : (s u : ℕ → Bool) → List Entry → Type 0
ChoosesAlike s u [] = Unit {0}
ChoosesAlike s u (Done txn script index x reply ∷ older) = (s txn.0 ≡ u txn.0) × ChoosesAlike s u older
ChoosesAlike s u (e ∷ older) = ChoosesAlike s u older

-- ---- trees and their contents

-- The cells are a tree, whose files are as a volume has them, and m is what is visible of its units.
pub record IsTreeOf (t : Store Value) (root : Root) (m : Content) : Type 0 where
  pub tree : IsTree t root
  pub raw : Content
  pub units : HasUnits t raw
  pub files : HasFiles t raw
  pub visible : IsVisible raw m

-- The content of the tree is that of the chosen transactions, and in it each of their commands has its reply.
pub record Stands
    (w : Meaning Command Reply) (start : Content) (trace : List Entry) (chosen : ℕ → Bool)
    (t : Store Value) (root : Root) : Type 0 where
  pub is : IsTreeOf t root (content_of w start chosen trace)
  pub replies : HasItsReplies w start chosen trace
  pub alike : FindsAlike w start chosen trace

-- ---- sessions

-- cells, and their root pair
pub record Layer : Type 0 where
  pub cells : Store Value
  pub root : Root

-- What a run has: the content with which it began, its trace, the newest entry first, and cells.
pub record Session : Type 0 where
  pub start : Content
  pub trace : List Entry
  -- the committed cells
  pub base : Layer
  -- those with the sealed atom's in place; where no atom is sealed, the committed ones
  pub under : Layer
  -- those with every open atom's in place
  pub memory : Store Value
  pub root : Root
  -- the open atom that a cell belongs to. A cell that belongs to none stands under the open atoms
  pub owner : ℕ → Option ℕ

-- the content after all that was done
abbrev pub all_done : Meaning Command Reply → Session → Content
all_done w c = content_of w c.start everything c.trace

-- ---- sets of open atoms

abbrev pub nothing : ℕ → Bool
nothing n = false

-- the set has this atom alone
abbrev pub only : (atom : ℕ) → ℕ → Bool
only a n = n == a

-- and this one beside those of s
abbrev pub also : (atom : ℕ) → (ℕ → Bool) → ℕ → Bool
also a s n = only a n || s n

-- the set has the owner
abbrev pub picks : (ℕ → Bool) → Option ℕ → Bool
picks s None = false
picks s (Some n) = s n

-- The cells with a set of open atoms in place: those that belong to them as they are in memory, all others as they
-- stand
-- under the open atoms.
abbrev pub cells : Session → (ℕ → Bool) → Store Value
cells c s i = cond (picks s (c.owner i)) (c.memory i) (c.under.cells i)

-- The root pair belongs to whom the root belongs.
abbrev pub root_with : Session → (ℕ → Bool) → Root
root_with c s = cond (picks s (c.owner c.root.id)) c.root c.under.root

-- the transactions of the committed atoms; those of the sealed one too; and those of a set of open atoms too
abbrev pub in_base : Session → (txn : ℕ) → Bool
in_base c t = is_first c.trace (committed_in c.trace) t

abbrev pub in_under : Session → (txn : ℕ) → Bool
in_under c t = is_first c.trace (sealed_in c.trace) t

abbrev pub in_set : Session → (ℕ → Bool) → (txn : ℕ) → Bool
in_set c s t = in_under c t || s (atom_in c.trace t)

-- What each set of open atoms means. Where an atom is sealed, each of them is meant with it; without it there are the
-- committed cells alone.
pub record Sets (w : Meaning Command Reply) (c : Session) : Type 0 where
  -- a cell of no open atom is in memory as it stands under them
  pub clean : (i : ℕ) → c.owner i ≡ None → c.memory i ≡ c.under.cells i
  -- so is the root pair, or one open atom has both roots
  pub one_root : (c.root ≡ c.under.root)
      ⊎ ((n : ℕ) × (c.owner c.root.id ≡ Some n) × (c.owner c.under.root.id ≡ Some n))
  -- what is committed is sealed
  pub counts : committed_in c.trace ≤ sealed_in c.trace
  pub committed : Stands w c.start c.trace (in_base c) c.base.cells c.base.root
  pub each : (s : ℕ → Bool) → Stands w c.start c.trace (in_set c s) (cells c s) (root_with c s)

-- ---- the patch of an open atom

-- the old and the new cells of an open atom, and the root pair where it is the atom's
abbrev pub patch_of : Session → (atom : ℕ) → Patch Value
patch_of c a = record {
  old = λ i. cond (picks (only a) (c.owner i)) (c.under.cells i) None;
  new = λ i. cond (picks (only a) (c.owner i)) (c.memory i) None;
  root = cond (picks (only a) (c.owner c.root.id)) (Some c.root) None;
}
