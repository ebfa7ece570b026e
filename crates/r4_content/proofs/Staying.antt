-- Lawful contents stay lawful.
use Rattle.std.specs.Prelude.{ℕ, ◌^◌, ◌<◌}
use Rattle.std.proofs.Common.{subst, sym}
use Rattle.r4_base.specs.Value.{Content}
use Rattle.r4_content.specs.Fields.{HasBytePaths, NamesUnused}
use Rattle.r4_content.specs.Lawful.{IsLawful}
use Rattle.r4_content.specs.Meaning.{after}
use Rattle.r4_content.specs.Reading.{OnlyReads}
use Rattle.r4_content.specs.declared.command.Command.{Command}
use Rattle.r4_content.specs.declared.command.Command.TheVariants.{Create, Mkdir, Write, Fill, Truncate, Read, Stat, Names, Link, Unlink, Rmdir, Rename, Chmod, Chown, Times, Begin, End, Commit}
use Rattle.r4_content.proofs.Keeping.{Stays}
use Rattle.r4_content.proofs.Makers.{create_lawful, link_lawful, mkdir_lawful}
use Rattle.r4_content.proofs.Movers.{rename_lawful}
use Rattle.r4_content.proofs.OneObject.{chmod_lawful, chown_lawful, fill_lawful, numbers_of, times_lawful, truncate_lawful, write_lawful}
use Rattle.r4_content.proofs.Refusals.{reading_leaves}
use Rattle.r4_content.proofs.Takers.{rmdir_lawful, unlink_lawful}

reading : (limit : ℕ) (c : Command) (m : Content) → IsLawful limit m → OnlyReads c → Stays limit (after limit c m)
reading limit c m lawful h = subst (λ (x : Content). Stays limit x) (sym (reading_leaves limit c m h)) (lawful.objects, lawful.bodies)

pub lawful_stays : (limit : ℕ) (c : Command) (m : Content) → limit < 2 ^ 64 → IsLawful limit m → HasBytePaths c → NamesUnused m c → Stays limit (after limit c m)
lawful_stays limit (Create path oid) m lt lawful bytes unused = create_lawful limit path oid m lt lawful bytes unused
lawful_stays limit (Mkdir path oid) m lt lawful bytes unused = mkdir_lawful limit path oid m lt lawful bytes unused
lawful_stays limit (Write path offset text) m lt lawful bytes unused = write_lawful limit path offset text m lt lawful
lawful_stays limit (Fill path offset len byte) m lt lawful bytes unused = fill_lawful limit path offset len byte m lt lawful
lawful_stays limit (Truncate path size) m lt lawful bytes unused = truncate_lawful limit path size m lt lawful
lawful_stays limit (Read path offset len) m lt lawful bytes unused = reading limit (Read path offset len) m lawful tt
lawful_stays limit (Stat path) m lt lawful bytes unused = reading limit (Stat path) m lawful tt
lawful_stays limit (Names path) m lt lawful bytes unused = reading limit (Names path) m lawful tt
lawful_stays limit (Link from to) m lt lawful bytes unused = link_lawful limit from to m lt lawful bytes.1
lawful_stays limit (Unlink path) m lt lawful bytes unused = unlink_lawful limit path m lt lawful bytes
lawful_stays limit (Rmdir path) m lt lawful bytes unused = rmdir_lawful limit path m lt lawful bytes
lawful_stays limit (Rename from to) m lt lawful bytes unused = rename_lawful limit from to m lt lawful bytes.0 bytes.1
lawful_stays limit (Chmod path mode) m lt lawful bytes unused = chmod_lawful limit path mode m (numbers_of limit m lt lawful) lawful
lawful_stays limit (Chown path uid gid) m lt lawful bytes unused = chown_lawful limit path uid gid m (numbers_of limit m lt lawful) lawful
lawful_stays limit (Times path atime mtime ctime) m lt lawful bytes unused = times_lawful limit path atime mtime ctime m (numbers_of limit m lt lawful) lawful
lawful_stays limit Begin m lt lawful bytes unused = reading limit Begin m lawful tt
lawful_stays limit End m lt lawful bytes unused = reading limit End m lawful tt
lawful_stays limit Commit m lt lawful bytes unused = reading limit Commit m lawful tt
