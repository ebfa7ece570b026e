-- What a command has seen of a content (docs/commands.md, "Reading"): a list of pairs that rises
-- by key and is asked as a content is.
use Rattle.std.specs.Prelude.{◌≡◌, ℕ, true, T}
use Rattle.std.specs.List.{filter}
use Rattle.std.specs.Ordering.{nat_cmp}
use Rattle.std.specs.FinMap.{find, is_sorted}
use Rattle.r4_base.specs.Value.{Content, at_key}
use Rattle.r4_content.specs.Course.{Source, asked}
use Rattle.r4_content.specs.Edited.{Pairs, is_between, is_in}
use Rattle.r4_content.specs.Meaning.{course}
use Rattle.r4_content.specs.declared.command.Command.{Command}

abbrev pub pairs_in : Pairs → (from to : ℕ) → Pairs
pairs_in s from to = filter (λ e. is_between from to e.0) s

abbrev pub of_seen : Pairs → Source
of_seen s = record { value = λ k. find nat_cmp k s; pairs = pairs_in s }

-- the keys strictly rise
abbrev pub Rises : Pairs → Type 0
Rises s = T (is_sorted nat_cmp s)

-- What was seen is what the content has, at each key that the command asks for.
pub record IsSeen (limit : ℕ) (c : Command) (s : Pairs) (m : Content) : Type 0 where
  pub rises : Rises s
  pub agrees : (k : ℕ) → is_in (asked (course limit c) (of_seen s)) k ≡ true → find nat_cmp k s
      ≡ at_key m k
