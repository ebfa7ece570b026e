-- What each command that is done does to a lawful content: so what holds of the edits of each, holds of the command's.
use Rattle.std.specs.Prelude.{◌≡◌, ℕ, ◌+◌, ◌*◌, ◌/◌, ◌%◌, ◌^◌, ◌<◌, ◌≤◌, List, false, length, replicate}
use Rattle.std.proofs.Common.{inl, inr, sym, subst}
use Rattle.r4_base.specs.Value.{Content}
use Rattle.r4_base.specs.declared.items.Attr.{Attr}
use Rattle.r4_content.specs.Bodies.{truncated, written}
use Rattle.r4_content.specs.Course.{ending, of_content}
use Rattle.r4_content.specs.Edited.{Edits, no_edits}
use Rattle.r4_content.specs.Fields.{HasBytePaths, NamesUnused}
use Rattle.r4_content.specs.Lawful.{IsLawful}
use Rattle.r4_content.specs.Meaning.{course, reply}
use Rattle.r4_content.specs.Objects.{Object, is_dir, new_directory, new_file, set_attr}
use Rattle.r4_content.specs.declared.command.Command.{Command}
use Rattle.r4_content.specs.declared.command.Command.TheVariants.{Create, Mkdir, Write, Fill, Truncate, Read, Stat, Names, Link, Unlink, Rmdir, Rename, Chmod, Chown, Times, Begin, End, Commit}
use Rattle.r4_content.specs.declared.reply.Reply.TheVariants.{Okay}
use Rattle.r4_content.proofs.Makers.{LinksAll, MakesAll, create_done, links_done, mkdir_done}
use Rattle.r4_content.proofs.Movers.{MovesAll, rename_done}
use Rattle.r4_content.proofs.OneObject.{attrs_done, numbers_of, truncate_done, write_done}
use Rattle.r4_content.proofs.Refusals.{nothing_or_okay, only_reads}
use Rattle.r4_content.proofs.SameWay.{IsThere}
use Rattle.r4_content.proofs.Takers.{LosesAll, rmdir_done, unlink_done}

-- the attributes of an object become others
abbrev pub SetsAll : Content → (Edits → Type 0) → (Attr → Attr) → Type 0
SetsAll m P f = (o : Object) → IsThere m o → P (set_attr o (f o.attr))

abbrev pub WritesAll : (limit : ℕ) → Content → (Edits → Type 0) → (from : ℕ) → List ℕ → Type 0
WritesAll limit m P from xs = (o : Object) → IsThere m o → is_dir o ≡ false → from + length xs ≤ limit → P (written o from xs)

abbrev pub CutsAll : (limit : ℕ) → Content → (Edits → Type 0) → (size : ℕ) → Type 0
CutsAll limit m P n = (o : Object) → IsThere m o → is_dir o ≡ false → n ≤ limit → P (truncated o n)

-- P holds of whatever edits the command may make where it is done
abbrev pub HoldsOf : (limit : ℕ) → Content → (Edits → Type 0) → Command → Type 0
HoldsOf limit m P (Create path oid) = MakesAll m P oid new_file
HoldsOf limit m P (Mkdir path oid) = MakesAll m P oid new_directory
HoldsOf limit m P (Write path from xs) = WritesAll limit m P from xs
HoldsOf limit m P (Fill path from len x) = WritesAll limit m P from (replicate len x)
HoldsOf limit m P (Truncate path n) = CutsAll limit m P n
HoldsOf limit m P (Read path from len) = Unit {0}
HoldsOf limit m P (Stat path) = Unit {0}
HoldsOf limit m P (Names path) = Unit {0}
HoldsOf limit m P (Link from to) = LinksAll m P
HoldsOf limit m P (Unlink path) = LosesAll m P
HoldsOf limit m P (Rmdir path) = LosesAll m P
HoldsOf limit m P (Rename from to) = MovesAll limit m from to P
HoldsOf limit m P (Chmod path mode) = SetsAll m P (λ a. record a { mode = a.mode / 4096 * 4096 + mode % 4096 })
HoldsOf limit m P (Chown path uid gid) = SetsAll m P (λ a. record a { uid = uid; gid = gid })
HoldsOf limit m P (Times path atime mtime ctime) = SetsAll m P (λ a. record a { atime = atime; mtime = mtime; ctime = ctime })
HoldsOf limit m P Begin = Unit {0}
HoldsOf limit m P End = Unit {0}
HoldsOf limit m P Commit = Unit {0}

pub done_by : (limit : ℕ) (c : Command) (m : Content) → limit < 2 ^ 64 → IsLawful limit m → HasBytePaths c → NamesUnused m c → (P : Edits → Type 0) → P no_edits
    → HoldsOf limit m P c → reply limit c m ≡ Okay → P (ending (course limit c) (of_content m)).edits
done_by limit (Create path oid) m lt lawful bytes unused P none h okay = create_done limit path oid m lt lawful bytes unused P h okay
done_by limit (Mkdir path oid) m lt lawful bytes unused P none h okay = mkdir_done limit path oid m lt lawful bytes unused P h okay
done_by limit (Write path from xs) m lt lawful bytes unused P none h okay = write_done limit path from xs m (numbers_of limit m lt lawful) P none h okay
done_by limit (Fill path from len x) m lt lawful bytes unused P none h okay = write_done limit path from (replicate len x) m (numbers_of limit m lt lawful) P none h okay
done_by limit (Truncate path n) m lt lawful bytes unused P none h okay = truncate_done limit path n m (numbers_of limit m lt lawful) P h okay
done_by limit (Link from to) m lt lawful bytes unused P none h okay = links_done limit from to m lt lawful bytes.1 P h okay
done_by limit (Unlink path) m lt lawful bytes unused P none h okay = unlink_done limit path m lt lawful bytes P h okay
done_by limit (Rmdir path) m lt lawful bytes unused P none h okay = rmdir_done limit path m lt lawful bytes P h okay
done_by limit (Rename from to) m lt lawful bytes unused P none h okay = rename_done limit from to m lt lawful bytes.0 bytes.1 P none h okay
done_by limit (Chmod path mode) m lt lawful bytes unused P none h okay = attrs_done path (λ a. record a { mode = a.mode / 4096 * 4096 + mode % 4096 }) m (numbers_of limit m lt lawful) P h okay
done_by limit (Chown path uid gid) m lt lawful bytes unused P none h okay = attrs_done path (λ a. record a { uid = uid; gid = gid }) m (numbers_of limit m lt lawful) P h okay
done_by limit (Times path atime mtime ctime) m lt lawful bytes unused P none h okay =
    attrs_done path (λ a. record a { atime = atime; mtime = mtime; ctime = ctime }) m (numbers_of limit m lt lawful) P h okay
done_by limit (Read path from len) m lt lawful bytes unused P none h okay = subst P (sym (only_reads limit (Read path from len) m tt)) none
done_by limit (Stat path) m lt lawful bytes unused P none h okay = subst P (sym (only_reads limit (Stat path) m tt)) none
done_by limit (Names path) m lt lawful bytes unused P none h okay = subst P (sym (only_reads limit (Names path) m tt)) none
done_by limit Begin m lt lawful bytes unused P none h okay = none
done_by limit End m lt lawful bytes unused P none h okay = none
done_by limit Commit m lt lawful bytes unused P none h okay = none

-- also where it is not done
pub holds_of : (limit : ℕ) (c : Command) (m : Content) → limit < 2 ^ 64 → IsLawful limit m → HasBytePaths c → NamesUnused m c → (P : Edits → Type 0) → P no_edits
    → HoldsOf limit m P c → P (ending (course limit c) (of_content m)).edits
holds_of limit c m lt lawful bytes unused P none h = elim (nothing_or_okay (course limit c) (of_content m)) [
  | inl e ↦ subst P (sym e) none
  | inr okay ↦ done_by limit c m lt lawful bytes unused P none h okay
]
