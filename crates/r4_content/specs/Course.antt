-- The course of a command: what it asks of a content, one question after another, and what comes
-- of it (docs/commands.md, "Reading").
use Rattle.std.specs.Prelude.{ℕ, ◌+◌, [], ◌∷◌, Option}
use Rattle.r4_base.specs.Value.{Value, Content, at_key}
use Rattle.r4_content.specs.Edited.{Pairs, Intervals, Edits, no_edits, pairs_between}
use Rattle.r4_content.specs.declared.reply.Reply.{Reply}
use Rattle.r4_content.specs.declared.reply.Reply.TheVariants.{Okay}

pub data Course : Type 0 where
  -- what stands at a key is asked for
  Ask : ℕ → (Option Value → Course) → Course
  -- all that stands in an interval is asked for
  Scan : (from to : ℕ) → (Pairs → Course) → Course
  -- nothing changes
  Answer : Reply → Course
  -- the edits are made, and the reply is `ok`: so a refusal changes nothing
  Change : Edits → Course

-- who is asked
pub record Source : Type 0 where
  pub value : ℕ → Option Value
  pub pairs : (from to : ℕ) → Pairs

abbrev pub of_content : Content → Source
of_content m = record { value = at_key m; pairs = pairs_between m }

pub record Ending : Type 0 where
  pub edits : Edits
  pub reply : Reply

abbrev pub ending : Course → Source → Ending
ending (Ask k next) s = ending (next (s.value k)) s
ending (Scan from to next) s = ending (next (s.pairs from to)) s
ending (Answer r) s = record { edits = no_edits; reply = r }
ending (Change e) s = record { edits = e; reply = Okay }

-- the keys that are asked for
abbrev pub asked : Course → Source → Intervals
asked (Ask k next) s = (k, k + 1) ∷ asked (next (s.value k)) s
asked (Scan from to next) s = (from, to) ∷ asked (next (s.pairs from to)) s
asked (Answer r) s = []
asked (Change e) s = []
