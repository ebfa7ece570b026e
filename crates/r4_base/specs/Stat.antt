-- Stat data: the attributes of an object (docs/layout.md, "Items").
use Rattle.std.specs.Prelude.{ℕ, ◌/◌, ◌==◌, ◌&&◌, ◌||◌, not, nat_le, Bool, if◌then◌else◌, List, [], ◌∷◌, length, Result, Ok, Err}
use Rattle.r4_base.specs.Bytes.{number_at, fields_bytes}
use Rattle.r4_base.specs.declared.items.Attr.{Attr}
use Rattle.r4_base.specs.declared.items.StatFault.{StatFault}
use Rattle.r4_base.specs.declared.items.StatFault.TheVariants.{Mask, Length, Kind}

-- the mask: it says which fields follow
abbrev pub stat_mask : ℕ
stat_mask = 3

-- the fields behind the mask, each with its width
abbrev pub stat_fields : Attr → List (ℕ × ℕ)
stat_fields a = (2, a.mode) ∷ (4, a.nlink) ∷ (8, a.size) ∷ (4, a.uid) ∷ (4, a.gid) ∷ (4, a.atime) ∷ (4, a.mtime) ∷ (4, a.ctime) ∷ (8, a.bytes) ∷ []

-- the fields of a body, whatever they are
unfoldable pub attr_of : List ℕ → Attr
attr_of b = record { mode = number_at 2 2 b; nlink = number_at 4 4 b; size = number_at 8 8 b; uid = number_at 4 16 b; gid = number_at 4 20 b; atime = number_at 4 24 b; mtime = number_at 4 28 b; ctime = number_at 4 32 b; bytes = number_at 8 36 b }

abbrev pub mask_is_good : List ℕ → Bool
mask_is_good b = nat_le 2 (length b) && number_at 2 0 b == stat_mask

-- the type in a mode's upper four bits: a directory's is 4, and a file's 8
abbrev pub kind_is_good : (mode : ℕ) → Bool
kind_is_good mode = mode / 4096 == 4 || mode / 4096 == 8

-- the attributes that a body says, or its first fault
unfoldable pub stat_of : List ℕ → Result Attr StatFault
stat_of b =
    if not (mask_is_good b) then Err Mask else
    if not (length b == 44) then Err Length else
    if not (kind_is_good (attr_of b).mode) then Err Kind else
    Ok (attr_of b)

-- the 44 bytes that spell attributes
unfoldable pub stat_body : Attr → List ℕ
stat_body a = fields_bytes ((2, stat_mask) ∷ stat_fields a)
