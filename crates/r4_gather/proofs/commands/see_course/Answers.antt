use Rattle.std.proofs.Common.{◌+◌, ◌*◌, ◌/◌, ◌%◌, replicate}
use Rattle.r4_content.specs.Meaning.{greatest_size}
use Rattle.r4_gather.proofs.commands.see_course.Goals as goal

pub returns-in-Create-clause-asked : goal.returns-in-Create-clause-asked
returns-in-Create-clause-asked g c = rw c.in-Create.is
    (rw c.as_slice.ensures at c.see_for_new.ensures.create c.in-Create.oid)

pub returns-in-Create-clause-stops : goal.returns-in-Create-clause-stops
returns-in-Create-clause-stops g c = rw c.in-Create.is
    (rw c.as_slice.ensures at c.see_for_new.ensures.create_stops c.in-Create.oid)

pub returns-in-Mkdir-clause-asked : goal.returns-in-Mkdir-clause-asked
returns-in-Mkdir-clause-asked g c = rw c.in-Mkdir.is
    (rw c.as_slice-in-Mkdir.ensures at c.see_for_new-in-Mkdir.ensures.mkdir c.in-Mkdir.oid)

pub returns-in-Mkdir-clause-stops : goal.returns-in-Mkdir-clause-stops
returns-in-Mkdir-clause-stops g c = rw c.in-Mkdir.is
    (rw c.as_slice-in-Mkdir.ensures at c.see_for_new-in-Mkdir.ensures.mkdir_stops c.in-Mkdir.oid)

pub returns-in-Write-clause-asked : goal.returns-in-Write-clause-asked
returns-in-Write-clause-asked g c = rw c.in-Write.is
    (rw c.as_slice-in-Write.ensures at c.see_for_object.ensures.write greatest_size c.in-Write.offset c.in-Write.text)

pub returns-in-Write-clause-stops : goal.returns-in-Write-clause-stops
returns-in-Write-clause-stops g c = rw c.in-Write.is
    (rw c.as_slice-in-Write.ensures at c.see_for_object.ensures.write_stops greatest_size c.in-Write.offset
    c.in-Write.text)

pub returns-in-Fill-clause-asked : goal.returns-in-Fill-clause-asked
returns-in-Fill-clause-asked g c = rw c.in-Fill.is
    (rw c.as_slice-in-Fill.ensures at c.see_for_object-in-Fill.ensures.write greatest_size c.in-Fill.offset
    (replicate c.in-Fill.len c.in-Fill.byte))

pub returns-in-Fill-clause-stops : goal.returns-in-Fill-clause-stops
returns-in-Fill-clause-stops g c = rw c.in-Fill.is
    (rw c.as_slice-in-Fill.ensures at c.see_for_object-in-Fill.ensures.write_stops greatest_size c.in-Fill.offset
    (replicate c.in-Fill.len c.in-Fill.byte))

pub returns-in-Truncate-clause-asked : goal.returns-in-Truncate-clause-asked
returns-in-Truncate-clause-asked g c = rw c.in-Truncate.is
    (rw c.as_slice-in-Truncate.ensures at c.see_for_object-in-Truncate.ensures.truncate greatest_size
    c.in-Truncate.size)

pub returns-in-Truncate-clause-stops : goal.returns-in-Truncate-clause-stops
returns-in-Truncate-clause-stops g c = rw c.in-Truncate.is
    (rw c.as_slice-in-Truncate.ensures at c.see_for_object-in-Truncate.ensures.truncate_stops greatest_size
    c.in-Truncate.size)

pub returns-in-Read-clause-asked : goal.returns-in-Read-clause-asked
returns-in-Read-clause-asked g c = rw c.in-Read.is (rw c.as_slice-in-Read.ensures at c.see_for_read.ensures.asked)

pub returns-in-Read-clause-stops : goal.returns-in-Read-clause-stops
returns-in-Read-clause-stops g c = rw c.in-Read.is (rw c.as_slice-in-Read.ensures at c.see_for_read.ensures.stops)

pub returns-in-Stat-clause-asked : goal.returns-in-Stat-clause-asked
returns-in-Stat-clause-asked g c = rw c.in-Stat.is
    (rw c.as_slice-in-Stat.ensures at c.see_for_object-in-Stat.ensures.stat)

pub returns-in-Stat-clause-stops : goal.returns-in-Stat-clause-stops
returns-in-Stat-clause-stops g c = rw c.in-Stat.is
    (rw c.as_slice-in-Stat.ensures at c.see_for_object-in-Stat.ensures.stat_stops)

pub returns-in-Names-clause-asked : goal.returns-in-Names-clause-asked
returns-in-Names-clause-asked g c = rw c.in-Names.is (rw c.as_slice-in-Names.ensures at c.see_for_names.ensures.asked)

pub returns-in-Names-clause-stops : goal.returns-in-Names-clause-stops
returns-in-Names-clause-stops g c = rw c.in-Names.is (rw c.as_slice-in-Names.ensures at c.see_for_names.ensures.stops)

pub returns-in-Unlink-clause-asked : goal.returns-in-Unlink-clause-asked
returns-in-Unlink-clause-asked g c = rw c.in-Unlink.is
    (rw c.as_slice-in-Unlink.ensures at c.see_for_unlink.ensures.asked)

pub returns-in-Unlink-clause-stops : goal.returns-in-Unlink-clause-stops
returns-in-Unlink-clause-stops g c = rw c.in-Unlink.is
    (rw c.as_slice-in-Unlink.ensures at c.see_for_unlink.ensures.stops)

pub returns-in-Rmdir-clause-asked : goal.returns-in-Rmdir-clause-asked
returns-in-Rmdir-clause-asked g c = rw c.in-Rmdir.is (rw c.as_slice-in-Rmdir.ensures at c.see_for_rmdir.ensures.asked)

pub returns-in-Rmdir-clause-stops : goal.returns-in-Rmdir-clause-stops
returns-in-Rmdir-clause-stops g c = rw c.in-Rmdir.is (rw c.as_slice-in-Rmdir.ensures at c.see_for_rmdir.ensures.stops)

pub returns-in-Chmod-clause-asked : goal.returns-in-Chmod-clause-asked
returns-in-Chmod-clause-asked g c = rw c.in-Chmod.is
    (rw c.as_slice-in-Chmod.ensures at c.see_for_object-in-Chmod.ensures.attrs
    (λ a. record a { mode = a.mode / 4096 * 4096 + c.in-Chmod.mode % 4096 }))

pub returns-in-Chmod-clause-stops : goal.returns-in-Chmod-clause-stops
returns-in-Chmod-clause-stops g c = rw c.in-Chmod.is
    (rw c.as_slice-in-Chmod.ensures at c.see_for_object-in-Chmod.ensures.attrs_stops
    (λ a. record a { mode = a.mode / 4096 * 4096 + c.in-Chmod.mode % 4096 }))

pub returns-in-Chown-clause-asked : goal.returns-in-Chown-clause-asked
returns-in-Chown-clause-asked g c = rw c.in-Chown.is
    (rw c.as_slice-in-Chown.ensures at c.see_for_object-in-Chown.ensures.attrs
    (λ a. record a { uid = c.in-Chown.uid; gid = c.in-Chown.gid }))

pub returns-in-Chown-clause-stops : goal.returns-in-Chown-clause-stops
returns-in-Chown-clause-stops g c = rw c.in-Chown.is
    (rw c.as_slice-in-Chown.ensures at c.see_for_object-in-Chown.ensures.attrs_stops
    (λ a. record a { uid = c.in-Chown.uid; gid = c.in-Chown.gid }))

pub returns-in-Times-clause-asked : goal.returns-in-Times-clause-asked
returns-in-Times-clause-asked g c = rw c.in-Times.is
    (rw c.as_slice-in-Times.ensures at c.see_for_object-in-Times.ensures.attrs
    (λ a. record a { atime = c.in-Times.atime; mtime = c.in-Times.mtime; ctime = c.in-Times.ctime }))

pub returns-in-Times-clause-stops : goal.returns-in-Times-clause-stops
returns-in-Times-clause-stops g c = rw c.in-Times.is
    (rw c.as_slice-in-Times.ensures at c.see_for_object-in-Times.ensures.attrs_stops
    (λ a. record a { atime = c.in-Times.atime; mtime = c.in-Times.mtime; ctime = c.in-Times.ctime }))

pub returns-in-Link-clause-asked : goal.returns-in-Link-clause-asked
returns-in-Link-clause-asked g c = rw c.in-Link.is
    (rw c.as_slice-in-Link-2.ensures at rw c.as_slice-in-Link.ensures at c.see_for_link.ensures.asked)

pub returns-in-Link-clause-stops : goal.returns-in-Link-clause-stops
returns-in-Link-clause-stops g c = rw c.in-Link.is
    (rw c.as_slice-in-Link-2.ensures at rw c.as_slice-in-Link.ensures at c.see_for_link.ensures.stops)

pub returns-in-Rename-clause-asked : goal.returns-in-Rename-clause-asked
returns-in-Rename-clause-asked g c = rw c.in-Rename.is
    (rw c.as_slice-in-Rename-2.ensures at rw c.as_slice-in-Rename.ensures at c.see_for_rename.ensures.asked)

pub returns-in-Rename-clause-stops : goal.returns-in-Rename-clause-stops
returns-in-Rename-clause-stops g c = rw c.in-Rename.is
    (rw c.as_slice-in-Rename-2.ensures at rw c.as_slice-in-Rename.ensures at c.see_for_rename.ensures.stops)
