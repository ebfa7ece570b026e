-- What holds of each content that is stored, and of each path that is held: numbers of their
-- fields' widths.
use Rattle.std.specs.Prelude.{◌≡◌, ◌≢◌, ℕ, ◌^◌, ◌<◌, List, All, Some}
use Rattle.r4_base.specs.Value.{Content, Entry, at_key}
use Rattle.r4_base.specs.Volume.{HasStat}
use Rattle.r4_base.specs.declared.items.Attr.{Attr}
use Rattle.r4_base.specs.declared.items.Target.{Target}
use Rattle.r4_base.specs.declared.things.Oid.{Oid}
use Rattle.r4_content.specs.declared.command.Command.{Command}
use Rattle.r4_content.specs.declared.command.Command.TheVariants.{Create, Mkdir, Write, Fill}
use Rattle.r4_content.specs.declared.command.Command.TheVariants.{Truncate, Read, Stat, Names, Link}
use Rattle.r4_content.specs.declared.command.Command.TheVariants.{Unlink, Rmdir, Rename, Chmod}
use Rattle.r4_content.specs.declared.command.Command.TheVariants.{Chown, Times, Begin, End, Commit}

-- The orderings and sizes of a content are numbers of 64 bits.
pub record HasNumbers (m : Content) : Type 0 where
  pub orderings : (k : ℕ) (n : List ℕ) (o : Target) → at_key m k ≡ Some (Entry n o)
      → o.ordering < 2 ^ 64
  pub sizes : (o : Target) (a : Attr) → HasStat m o a → a.size < 2 ^ 64

-- the names of a path are lists of bytes
abbrev pub HasBytes : List (List ℕ) → Type 0
HasBytes path = All (All (λ x. x < 256)) path

-- no object has this id
abbrev pub IsUnused : Content → Oid → Type 0
IsUnused m oid = (o : Target) (a : Attr) → HasStat m o a → o.oid ≢ oid

-- the paths of a command are of bytes
abbrev pub HasBytePaths : Command → Type 0
HasBytePaths (Create path oid) = HasBytes path
HasBytePaths (Mkdir path oid) = HasBytes path
HasBytePaths (Write path offset text) = HasBytes path
HasBytePaths (Fill path offset len byte) = HasBytes path
HasBytePaths (Truncate path size) = HasBytes path
HasBytePaths (Read path offset len) = HasBytes path
HasBytePaths (Stat path) = HasBytes path
HasBytePaths (Names path) = HasBytes path
HasBytePaths (Link from to) = HasBytes from × HasBytes to
HasBytePaths (Unlink path) = HasBytes path
HasBytePaths (Rmdir path) = HasBytes path
HasBytePaths (Rename from to) = HasBytes from × HasBytes to
HasBytePaths (Chmod path mode) = HasBytes path
HasBytePaths (Chown path uid gid) = HasBytes path
HasBytePaths (Times path atime mtime ctime) = HasBytes path
HasBytePaths Begin = Unit {0}
HasBytePaths End = Unit {0}
HasBytePaths Commit = Unit {0}

-- where a command names a new object, no object has its id
abbrev pub NamesUnused : Content → Command → Type 0
NamesUnused m (Create path oid) = IsUnused m oid
NamesUnused m (Mkdir path oid) = IsUnused m oid
NamesUnused m c = Unit {0}
