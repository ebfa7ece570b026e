-- A way that has come to a place, with names that are left (docs/commands.md, "Asking").
use Rattle.std.specs.Prelude.{◌≡◌, List, ℕ}
use Rattle.r4_content.specs.Course.{Course}
use Rattle.r4_content.specs.Seen.{of_seen}
use Rattle.r4_content.specs.Ways.{Place, steps, to_object}
use Rattle.r4_gather.specs.Asking.{IsLater, Sighting, asking}

pub record IsWalking (path left : List (List ℕ)) (old now : Sighting) (p : Place) : Type 0 where
  pub later : IsLater old now
  pub at : (next : Place → Course) (last : Sighting) → IsLater now last
      → asking (to_object path next) (of_seen last.seen) old.asked
      ≡ asking (steps left next p) (of_seen last.seen) now.asked
