-- Commands in another order, and what was seen in another order.
use Rattle.std.specs.Prelude.{ℕ, [], ◌∷◌}
use Rattle.std.specs.FinMap.{from_sorted}
use Rattle.r4_base.specs.Value.{Content, Entry, Stat, Value}
use Rattle.r4_base.specs.Volume.{HasObjects, root_object, stat_rank}
use Rattle.r4_content.specs.Edited.{Pairs}
use Rattle.r4_content.specs.Examples.{a, at, below, d, f, id, made}
use Rattle.r4_content.specs.Lawful.{HasBodies}
use Rattle.r4_content.specs.Locality.{Meaning, commands}
use Rattle.r4_content.specs.Meaning.{after, greatest_size}
use Rattle.r4_content.specs.Objects.{entry_rank, new_directory, sized}
use Rattle.r4_content.specs.declared.command.Command.{Command}
use Rattle.r4_content.specs.declared.command.Command.TheVariants.{Create, Mkdir}
use Rattle.r4_content.specs.declared.reply.Reply.{Reply}
use Rattle.r4_content_rows.specs.Conditions.{root_alone}

-- ---- two commands

abbrev pub product : Meaning Command Reply
product = commands greatest_size

abbrev pub alone : Content
alone = from_sorted root_alone

abbrev pub makes_d : Command
makes_d = Mkdir (at d) (id 65536)

-- this one is refused where there is no directory d
abbrev pub makes_below : Command
makes_below = Create (below d f) (id 65537)

abbrev pub makes_f : Command
makes_f = Create (at f) (id 65536)

-- ---- what was seen

abbrev pub named_f : ℕ × Value
named_f = (entry_rank root_object f, Entry f (made f 65536))

abbrev pub named_a : ℕ × Value
named_a = (entry_rank root_object a, Entry a (made a 65537))

abbrev pub root_of_two : ℕ × Value
root_of_two = (stat_rank root_object, Stat (sized new_directory 2))

abbrev pub rising : Pairs
rising = root_of_two ∷ named_a ∷ named_f ∷ []

abbrev pub unsorted : Pairs
unsorted = root_of_two ∷ named_f ∷ named_a ∷ []

-- ---- contents that do not stay lawful

abbrev pub LosesObjects : Command → Content → Type 0
LosesObjects c m = HasObjects (after greatest_size c m) → ⊥

abbrev pub LosesBodies : Command → Content → Type 0
LosesBodies c m = HasBodies greatest_size (after greatest_size c m) → ⊥
