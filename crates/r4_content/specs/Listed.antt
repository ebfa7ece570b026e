-- Commands on a content that is given as the list of its pairs, rising by key.
use Rattle.std.specs.Prelude.{ℕ, zero, suc, ◌+◌, ◌-◌, List, [], ◌∷◌, not}
use Rattle.std.specs.List.{filter}
use Rattle.std.specs.Ordering.{nat_cmp}
use Rattle.std.specs.FinMap.{put}
use Rattle.r4_base.specs.Value.{Byte}
use Rattle.r4_content.specs.Course.{ending}
use Rattle.r4_content.specs.Edited.{Pairs, Intervals, Edits, is_between}
use Rattle.r4_content.specs.Meaning.{course}
use Rattle.r4_content.specs.Seen.{of_seen}
use Rattle.r4_content.specs.declared.command.Command.{Command}
use Rattle.r4_content.specs.declared.reply.Reply.{Reply}

abbrev pub list_cut : Intervals → Pairs → Pairs
list_cut [] s = s
list_cut (r ∷ rs) s = list_cut rs (filter (λ e. not (is_between r.0 r.1 e.0)) s)

abbrev pub list_zero_from : (from n : ℕ) → Pairs → Pairs
list_zero_from from zero s = s
list_zero_from from (suc n) s = put nat_cmp from (Byte 0) (list_zero_from (from + 1) n s)

abbrev pub list_zero : Intervals → Pairs → Pairs
list_zero [] s = s
list_zero (r ∷ rs) s = list_zero rs (list_zero_from r.0 (r.1 - r.0) s)

abbrev pub list_put : Pairs → Pairs → Pairs
list_put [] s = s
list_put (e ∷ es) s = list_put es (put nat_cmp e.0 e.1 s)

abbrev pub list_edited : Edits → Pairs → Pairs
list_edited e s = list_put e.puts (list_zero e.zeros (list_cut e.cuts s))

-- the list after a command, and the replies of one command after another
abbrev pub list_after : (limit : ℕ) → Command → Pairs → Pairs
list_after limit c s = list_edited (ending (course limit c) (of_seen s)).edits s

abbrev pub list_replies : (limit : ℕ) → List Command → Pairs → List Reply
list_replies limit [] s = []
list_replies limit (c ∷ cs) s = (ending (course limit c) (of_seen s)).reply
    ∷ list_replies limit cs (list_after limit c s)
