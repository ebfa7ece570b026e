-- The smallest trace with an atom that changes something: the mode of the root directory
-- (docs/durable.md, "Wrong bodies").
use Rattle.std.specs.Prelude.{List, [], ◌∷◌}
use Rattle.r4_base.specs.declared.things.AtomNo.{AtomNo}
use Rattle.r4_content.specs.declared.command.Command.TheVariants.{Chmod}
use Rattle.r4_content.specs.declared.reply.Reply.TheVariants.{Okay}
use Rattle.r4_trace.specs.declared.entry.Entry.{Entry}
use Rattle.r4_trace.specs.declared.entry.Entry.TheVariants.{Begin, Done, Ended, Sealed}

abbrev pub first_atom : AtomNo
first_atom = record { 0 = 1 }

-- one transaction, whose atom is sealed; the newest entry first
abbrev pub one_change : List Entry
one_change =
    Sealed first_atom
    ∷ Ended (record { 0 = 1 })
    ∷ Done (record { 0 = 1 }) (record { 0 = 1 }) 1 (Chmod [] 0o700) Okay
    ∷ Begin (record { 0 = 1 }) (record { 0 = 1 })
    ∷ []
