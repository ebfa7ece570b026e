-- An atom that has taken up one committed cell and left it as it was.
use Rattle.std.specs.Prelude.{◌≡◌, ℕ, List, [], ◌∷◌, ◌==◌, ◌≤◌, cond, Some, None, false, slice_index_or}
use Rattle.r4_base.specs.Chain.{HasLog, committed}
use Rattle.r4_base.specs.Image.{IsImage}
use Rattle.r4_base.specs.Tree.{Root, Store}
use Rattle.r4_base.specs.Value.{Content, Value}
use Rattle.r4_base.specs.Volume.{HasContent}
use Rattle.r4_base.specs.declared.things.AtomNo.{AtomNo}
use Rattle.r4_placed.specs.r4_cell.Seen.{CellSeen, node_of}
use Rattle.r4_placed.specs.r4_space.Lawful.{IsLawful}
use Rattle.r4_placed.specs.r4_place.declared.placed.How.TheVariants.{Overwrite}
use Rattle.r4_placed.specs.r4_place.declared.placed.Placed.{Placed}
use Rattle.r4_placed.specs.r4_sets.Atoms.{opened}
use Rattle.r4_placed.specs.r4_sets.Session.{Session}
use Rattle.r4_placed.specs.r4_sealed.Written.{IsSpaceOf}
use Rattle.r4_placed.specs.Flushing.{Flushing}

abbrev pub overwrites : CellSeen → List Placed
overwrites x = record { node = record { 0 = x.id }; how = Overwrite } ∷ []

-- the flush with this one cell
abbrev pub with_one : Flushing → CellSeen → Flushing
with_one work x = record work { cells = x ∷ []; answers = overwrites x }

-- The content has the cell; nothing is unflushed, placed or deferred.
pub record IsOfOne {n : ℕ} {m : Content} (work : Flushing) (x : CellSeen)
    (c : HasContent n work.base m) : Type 0 where
  pub there : c.store x.id ≡ Some (node_of x)
  pub image : IsImage n work.base
  pub log : HasLog n work.base []
  pub prev : work.last.0 ≡ committed work.base
  pub lawful : IsLawful work.space
  pub here : IsSpaceOf c work.space
  pub within : work.space.block_count ≤ n
  pub blocks : work.next.block_count ≡ work.space.block_count
  pub none_placed : (b : ℕ) → slice_index_or work.space.placed b false ≡ false
  pub none_deferred : work.space.deferred ≡ []

-- the session of the atom, which has begun with these cells
abbrev pub took : Store Value → Root → Content → (i : ℕ) → AtomNo → Session
took t root m i a = record (opened t root m) { owner = λ j. cond (j == i) (Some a.0) None }
