-- The numbers that a command gets (docs/core.md, "Going out").
use Rattle.std.specs.Prelude.{◌+◌, ℕ, Bool, None, Option, Some, if◌then◌else◌, min}
use Rattle.r4_seal.specs.r4_kept.declared.parts.Numbers.{Numbers as Next}
use Rattle.r4_take.specs.declared.drawing.Draws.{Draws}
use Rattle.r4_seal.specs.r4_trace.Ids.{no_id}
use Rattle.r4_turns.specs.declared.out.Numbers.{Numbers}

-- how many numbers for new cells a command gets
abbrev pub names_drawn : ℕ
names_drawn = 1048640

-- new ones, the next id among them, which is used up where the command makes an object
abbrev pub new_draws : Next → (makes : Bool) → Draws
new_draws next makes = record {
  own = record {
    oid = record { 0 = next.next_oid };
    fresh = record { next = next.next_name; end = next.next_name + names_drawn };
  };
  next = record {
    next_oid = if makes then min (next.next_oid + 1) no_id else next.next_oid;
    next_name = next.next_name + names_drawn;
  };
}

-- Those that are kept for it, and then no others are drawn; else new ones.
abbrev pub draws_for : Option Numbers → Next → (makes : Bool) → Draws
draws_for (Some own) next makes = record { own = own; next = next }
draws_for None next makes = new_draws next makes
