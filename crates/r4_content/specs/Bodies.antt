-- Commands on the bytes of a file (docs/commands.md, "Bytes").
use Rattle.std.specs.Prelude.{ℕ, ◌+◌, List, [], ◌∷◌, ◌==◌, nat_lt, length, if◌then◌else◌}
use Rattle.r4_base.specs.Value.{Stat, Entry, Byte}
use Rattle.r4_base.specs.Volume.{byte_rank}
use Rattle.r4_content.specs.Course.{Course, Scan, Answer, Change}
use Rattle.r4_content.specs.Edited.{Pairs, Edits, no_edits, and_also}
use Rattle.r4_content.specs.Objects.{Object, cut_body, is_dir, set_attr, set_body, sized, zero_body}
use Rattle.r4_content.specs.Ways.{to_file, to_object}
use Rattle.r4_content.specs.declared.reply.Reply.TheVariants.{Okay, Data, Isdir}

abbrev pub smaller : ℕ → ℕ → ℕ
smaller a b = if nat_lt a b then a else b

abbrev pub larger : ℕ → ℕ → ℕ
larger a b = if nat_lt a b then b else a

-- the stat data change exactly where the size does
abbrev pub resize : Object → (size : ℕ) → Edits
resize o n = if o.attr.size == n then no_edits else set_attr o (sized o.attr n)

-- zeros from the size up to an offset
abbrev pub fill_gap : Object → (to : ℕ) → Edits
fill_gap o to = if nat_lt o.attr.size to then zero_body o o.attr.size to else no_edits

abbrev pub written : Object → (from : ℕ) → List ℕ → Edits
written o from xs = and_also (fill_gap o from) (and_also (set_body o from xs) (resize o
    (larger o.attr.size (from + length xs))))

-- no bytes change nothing
abbrev pub write : (limit : ℕ) → List (List ℕ) → (from : ℕ) → List ℕ → Course
write limit path from xs = to_file limit path (from + length xs) (λ o. if length xs == 0
    then Answer Okay else Change (written o from xs))

abbrev pub truncated : Object → (size : ℕ) → Edits
truncated o n = and_also (if nat_lt n o.attr.size then cut_body o n o.attr.size
    else fill_gap o n) (resize o n)

abbrev pub truncate : (limit : ℕ) → List (List ℕ) → (size : ℕ) → Course
truncate limit path n = to_file limit path n (λ o. Change (truncated o n))

-- the bytes that stand in an interval of keys
abbrev pub bytes_in : Pairs → List ℕ
bytes_in [] = []
bytes_in ((k, Stat a) ∷ es) = bytes_in es
bytes_in ((k, Entry n t) ∷ es) = bytes_in es
bytes_in ((k, Byte x) ∷ es) = x ∷ bytes_in es

-- the bytes that the file has; none are asked for from its size on
abbrev pub read_in : Object → (from len : ℕ) → Course
read_in o from len =
    let to = smaller (from + len) o.attr.size in
    if nat_lt from to then Scan (byte_rank o.target from) (byte_rank o.target to)
    (λ es. Answer (Data (bytes_in es))) else Answer (Data [])

abbrev pub read : List (List ℕ) → (from len : ℕ) → Course
read path from len = to_object path (λ p. if is_dir p.here then Answer Isdir
    else read_in p.here from len)
