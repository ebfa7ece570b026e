-- What the commands of a trace make, the newest entry first (docs/traces.md).
use Rattle.std.specs.Prelude.{◌≡◌, ℕ, Bool, true, if◌then◌else◌, List, [], ◌∷◌}
use Rattle.r4_base.specs.Value.{Content}
use Rattle.r4_content.specs.Locality.{Meaning}
use Rattle.r4_content.specs.declared.command.Command.{Command}
use Rattle.r4_content.specs.declared.reply.Reply.{Reply}
use Rattle.r4_trace.specs.declared.entry.Entry.{Entry}
use Rattle.r4_trace.specs.declared.entry.Entry.TheVariants.{Done}
use Rattle.r4_trace.specs.Traced.{is_first}

-- every transaction
abbrev pub everything : ℕ → Bool
everything t = true

-- the content after the Done entries of the chosen transactions
abbrev pub content_of : Meaning Command Reply → Content → (ℕ → Bool) → List Entry → Content
content_of w start chosen [] = start
content_of w start chosen (Done txn script index command reply ∷ older) =
    if chosen txn.0 then w.after command (content_of w start chosen older)
    else content_of w start chosen older
content_of w start chosen (e ∷ older) = content_of w start chosen older

-- each of them has its own reply there
abbrev pub HasItsReplies :
    Meaning Command Reply → Content → (ℕ → Bool) → List Entry → Type 0
HasItsReplies w start chosen [] = Unit {0}
HasItsReplies w start chosen (Done txn script index command reply ∷ older) =
    (chosen txn.0 ≡ true → reply ≡ w.reply command (content_of w start chosen older))
    × HasItsReplies w start chosen older
HasItsReplies w start chosen (e ∷ older) = HasItsReplies w start chosen older

-- the content after the first k atoms that were sealed
abbrev pub after_first : Meaning Command Reply → Content → List Entry → (k : ℕ) → Content
after_first w start trace k = content_of w start (is_first trace k) trace

-- in it each Done has its own reply again
abbrev pub HasFirstReplies : Meaning Command Reply → Content → List Entry → (k : ℕ) → Type 0
HasFirstReplies w start trace k = HasItsReplies w start (is_first trace k) trace
