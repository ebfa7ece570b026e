-- Which images are refused before a command looks at them.
use Rattle.std.specs.Prelude.{◌≡◌, ◌⊎◌, ℕ, ◌<◌, List}
use Rattle.r4_base.specs.Words.{layout_word_of, log_word_of}
use Rattle.r4_base.specs.declared.journal.LogFault.{LogFault}
use Rattle.r4_base.specs.declared.superblock.LayoutFault.{LayoutFault}
use Rattle.r4_outside.specs.Device.{State, TellsReads}
use Rattle.r4_replay.specs.Replay.{RefusedAs}
use Rattle.r4_check_laws.specs.r4_list.Lists.{OfSettled}
use Rattle.r4_check_laws.specs.r4_open.Opening.{layout_misfit, misfit}

-- fewer blocks than a volume may have, or more
abbrev pub IsUnlawful : ℕ → Type 0
IsUnlawful blocks = (blocks < 64) ⊎ (1048576 < blocks)

-- The log is refused at a block, in these words, or the superblocks and bitmaps of the image that the
-- device settles to are.
abbrev pub IsUnopened : State → (block : ℕ) (what : List ℕ) → Type 0
IsUnopened d block what =
    ((f : LogFault) × (what ≡ log_word_of f)
    × (TellsReads d → RefusedAs d.blocks d.seen (record { block = block; fault = f })))
    ⊎ ((f : LayoutFault) × (what ≡ layout_word_of f)
    × OfSettled d (λ image. layout_misfit d.blocks image ≡ misfit block f))
