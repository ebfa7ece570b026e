-- What commands have in common, whatever they are: each does the same in contents that agree where
-- it reads (docs/commands.md, "Reading").
use Rattle.std.specs.Prelude.{◌≡◌, ℕ, ◌<◌, ◌⊎◌, true, false}
use Rattle.r4_base.specs.Key.{key_of_rank, minor_of, offset_of}
use Rattle.r4_base.specs.Value.{Content, at_key}
use Rattle.r4_base.specs.Volume.{HasStat, object_of, stat_rank}
use Rattle.r4_base.specs.declared.items.Attr.{Attr}
use Rattle.r4_content.specs.Edited.{Intervals, is_in}
use Rattle.r4_content.specs.Meaning.{after, changes, reads, reply}
use Rattle.r4_content.specs.declared.command.Command.{Command}
use Rattle.r4_content.specs.declared.reply.Reply.{Reply}

-- commands C with replies R
pub record Meaning (C R : Type 0) : Type 0 where
  pub after : C → Content → Content
  pub reply : C → Content → R
  pub reads : C → Content → Intervals
  pub changes : C → Content → Intervals

-- those of this project
abbrev pub commands : (limit : ℕ) → Meaning Command Reply
commands limit = record {
  after = after limit;
  reply = reply limit;
  reads = reads limit;
  changes =
      changes limit;
}

-- the two contents agree where the command reads the first
abbrev pub Agree : {C R : Type 0} → Meaning C R → C → Content → Content → Type 0
Agree w x m n = (k : ℕ) → is_in (w.reads x m) k ≡ true → at_key m k ≡ at_key n k

-- Contents that agree where the command reads the first are read and changed at the same keys,
-- with the same reply and the same values there. All
-- other keys keep their values.
pub record IsLocal {C R : Type 0} (w : Meaning C R) : Type 0 where
  pub same_reads : (x : C) (m n : Content) → Agree w x m n → w.reads x m ≡ w.reads x n
  pub same_changes : (x : C) (m n : Content) → Agree w x m n → w.changes x m ≡ w.changes x n
  pub same_reply : (x : C) (m n : Content) → Agree w x m n → w.reply x m ≡ w.reply x n
  pub same_values : (x : C) (m n : Content) (k : ℕ) → Agree w x m n → is_in (w.changes x m) k
      ≡ true → at_key (w.after x m) k ≡ at_key (w.after x n) k
  pub others : (x : C) (m : Content) (k : ℕ) → is_in (w.changes x m) k ≡ false
      → at_key (w.after x m) k ≡ at_key m k

-- the command reads the key, or changes it
abbrev pub Touches : {C R : Type 0} → Meaning C R → C → Content → ℕ → Type 0
Touches w x m k = (is_in (w.reads x m) k ≡ true) ⊎ (is_in (w.changes x m) k ≡ true)

-- y changes nothing that x touches
abbrev pub Spares : {C R : Type 0} → Meaning C R → (y x : C) → Content → Type 0
Spares w y x m = (k : ℕ) → Touches w x m k → is_in (w.changes y m) k ≡ false

-- with each key of a body that the command reads or changes, it reads the stat key of the body's
-- object
abbrev pub AsksForStats : (limit : ℕ) → Command → Content → Type 0
AsksForStats limit x m = (k : ℕ) → Touches (commands limit) x m k → minor_of (key_of_rank k) ≡ 4
    → is_in (reads limit x m) (stat_rank (object_of (key_of_rank k))) ≡ true

-- the key of a body is that of one of the bytes that its file has
abbrev pub IsByteKey : Content → (key : ℕ) → Type 0
IsByteKey m k = (a : Attr) × HasStat m (object_of (key_of_rank k)) a
    × (offset_of (key_of_rank k) < a.size)

-- each key of a body that the command reads is one of these
abbrev pub ReadsBytes : (limit : ℕ) → Command → Content → Type 0
ReadsBytes limit x m = (k : ℕ) → is_in (reads limit x m) k ≡ true → minor_of (key_of_rank k) ≡ 4
    → IsByteKey m k
