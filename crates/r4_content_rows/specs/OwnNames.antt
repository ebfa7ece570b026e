-- The names that a command makes, takes away or moves. What stands under all others stays.
use Rattle.std.specs.Prelude.{◌≡◌, ◌⊎◌, ℕ, ◌-◌, List, [], ◌++◌, length, take, slice_index_or}
use Rattle.r4_base.specs.Value.{Content}
use Rattle.r4_base.specs.declared.items.Attr.{Attr}
use Rattle.r4_base.specs.declared.items.Target.{Target}
use Rattle.r4_content.specs.Walk.{At, walk}
use Rattle.r4_content.specs.declared.command.Command.{Command}
use Rattle.r4_content.specs.declared.command.Command.TheVariants.{Create, Mkdir, Link, Unlink}
use Rattle.r4_content.specs.declared.command.Command.TheVariants.{Rmdir, Rename}

-- the name is the last one of the path, in the directory of this id, to which the others lead
abbrev pub IsLastName : Content → (path : List (List ℕ)) → (dir : ℕ) → (name : List ℕ) → Type 0
IsLastName m path dir n = (o : Target) × (a : Attr)
    × (walk m (take (length path - 1) path) ≡ At o a) × (o.oid.0 ≡ dir)
    × (slice_index_or path (length path - 1) [] ≡ n)

abbrev pub IsOwnName : Content → Command → (dir : ℕ) → (name : List ℕ) → Type 0
IsOwnName m (Create path oid) dir n = IsLastName m path dir n
IsOwnName m (Mkdir path oid) dir n = IsLastName m path dir n
IsOwnName m (Link from to) dir n = IsLastName m to dir n
IsOwnName m (Unlink path) dir n = IsLastName m path dir n
IsOwnName m (Rmdir path) dir n = IsLastName m path dir n
IsOwnName m (Rename from to) dir n = IsLastName m from dir n ⊎ IsLastName m to dir n
IsOwnName m c dir n = ⊥

-- ---- paths that begin with one of these

abbrev pub BeginsWith : (first path : List (List ℕ)) → Type 0
BeginsWith first path = (rest : List (List ℕ)) × (path ≡ first ++ rest)

abbrev pub BeginsWithOwn : Command → (path : List (List ℕ)) → Type 0
BeginsWithOwn (Create own oid) path = BeginsWith own path
BeginsWithOwn (Mkdir own oid) path = BeginsWith own path
BeginsWithOwn (Link from to) path = BeginsWith to path
BeginsWithOwn (Unlink own) path = BeginsWith own path
BeginsWithOwn (Rmdir own) path = BeginsWith own path
BeginsWithOwn (Rename from to) path = BeginsWith from path ⊎ BeginsWith to path
BeginsWithOwn c path = ⊥
