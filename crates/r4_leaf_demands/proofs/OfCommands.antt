-- The edits of commands that leave no body in extents.
use Rattle.std.specs.Prelude.{◌≡◌, ◌<◌, ℕ, Bool, None, Option, Some}
use Rattle.std.proofs.Common.{ap, subst, refl}
use Rattle.std.specs.List.{filter}
use Rattle.r4_content.specs.Edited.{Edits, Pairs, is_between}
use Rattle.r4_content.specs.Fields.{HasBytePaths}
use Rattle.r4_content.specs.Listed.{list_edited}
use Rattle.r4_content.specs.Seen.{Rises}
use Rattle.r4_content.specs.declared.command.Command.{Command}
use Rattle.r4_leaf.specs.Units.{leaf_bytes}
use Rattle.r4_suited.specs.r4_leaf_edits.Suiting.{SuitLeaves}
use Rattle.r4_marking.specs.r4_reach.Touched.{Body, body_on, edits_on}
use Rattle.r4_suited.specs.Suited.{AreLawfulSeen, end_of_bytes}
use Rattle.r4_suited.proofs.Small.{leaf_small}
use Rattle.r4_suited.proofs.Suits.{command_suits}
use Rattle.r4_leaf_demands.specs.Leaves.{AreLeafEdits, IsInLeaves}
use Rattle.r4_leaf_demands.proofs.Alike.{in_leaves_edits}

ends : (b : Option Body) → IsInLeaves b → end_of_bytes b ≡ 16384
ends None h = refl
ends (Some b) h = rw h refl

pub leaf_edits_of : (c : Command) (s : Pairs) (in_extents : Bool) → HasBytePaths c → Rises s → AreLawfulSeen c s
    → IsInLeaves (body_on c s in_extents) → AreLeafEdits (edits_on c s)
leaf_edits_of c s in_extents paths rises lawful leaves =
    let b = body_on c s in_extents in
    let e = edits_on c s in
    record {
      suit = subst (λ (end : ℕ). SuitLeaves end e) (ends b leaves) (command_suits c s in_extents paths rises lawful);
      small = λ n up few.
          let same = ap (λ (x : Edits). leaf_bytes (filter (λ u. is_between n.lo n.hi u.0) (list_edited x n.units)))
          (in_leaves_edits b e leaves) in
          subst (λ (k : ℕ). k < 58912) same (leaf_small c s in_extents n paths rises lawful up few);
    }
