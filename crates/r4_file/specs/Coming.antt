-- Where the way to a file leads on what was seen (docs/commands.md, "Ways").
use Rattle.std.specs.Prelude.{◌≡◌, ℕ, List, nat_lt, if◌then◌else◌}
use Rattle.r4_content.specs.Course.{Course, Answer, ending}
use Rattle.r4_content.specs.Edited.{Pairs, no_edits}
use Rattle.r4_content.specs.Objects.{Object}
use Rattle.r4_content.specs.Seen.{of_seen}
use Rattle.r4_content.specs.Ways.{to_file}
use Rattle.r4_content.specs.declared.reply.Reply.{Reply}
use Rattle.r4_content.specs.declared.reply.Reply.TheVariants.{Toobig}

-- the way comes to a file, whatever follows: where the bytes would end past the limit, the command
-- is refused
abbrev pub ComesToFile : List (List ℕ) → Pairs → Object → Type 0
ComesToFile path s o = (limit end : ℕ) (next : Object → Course)
    → ending (to_file limit path end next) (of_seen s) ≡ ending (if nat_lt limit end
    then Answer Toobig else next o) (of_seen s)

-- the way ends, and the command is refused
abbrev pub StopsAtFile : List (List ℕ) → Pairs → Reply → Type 0
StopsAtFile path s r = (limit end : ℕ) (next : Object → Course)
    → ending (to_file limit path end next) (of_seen s) ≡ record { edits = no_edits; reply = r }
