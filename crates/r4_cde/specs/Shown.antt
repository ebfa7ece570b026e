-- What names, entries and views of directory items show.
use Rattle.std.specs.Prelude.{◌≡◌, ℕ, ◌+◌, List, take}
use Rattle.std.specs.Borrow.{Bor}
use Rattle.r4_base.specs.declared.key.Key.{Key}
use Rattle.r4_base.specs.Dir.{Entry, entries_of}
use Rattle.r4_cde.specs.declared.short.ShortName.{ShortName}
use Rattle.r4_cde.specs.declared.lent.NameRef.{NameRef}
use Rattle.r4_cde.specs.declared.lent.NameRef.TheVariants.{Short, Long}
use Rattle.r4_cde.specs.declared.view.EntryRef.{EntryRef}
use Rattle.r4_cde.specs.declared.view.DirView.{DirView}

-- the bytes of a short name
abbrev pub short_bytes : ShortName → List ℕ
short_bytes s = take s.len s.bytes

-- the bytes of an entry's name
abbrev pub name_bytes : NameRef → List ℕ
name_bytes (Short s) = short_bytes s
name_bytes (Long s) = s.now

-- A long name is the very slice that begins at this place of the body.
abbrev pub IsLentAt : NameRef → Bor (List ℕ) → ℕ → Type 0
IsLentAt (Short s) body at = Unit {0}
IsLentAt (Long s) body at = s.ref_ptr ≡ (body.ref_ptr.0, body.ref_ptr.1 + at)

-- the entry that is shown
abbrev pub entry_shown : EntryRef → Entry
entry_shown e = record { key = e.key; target = e.target; name = name_bytes e.name }

-- the item's key
abbrev pub view_key : DirView → Key
view_key v = v.item

-- the body that is lent
abbrev pub view_body : DirView → Bor (List ℕ)
view_body v = v.body

-- the entries that it spells
abbrev pub view_entries : DirView → List Entry
view_entries v = entries_of v.item v.body.now
