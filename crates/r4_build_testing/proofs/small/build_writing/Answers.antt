use Rattle.std.proofs.Common.{◌≡◌, false, None, ℕ, List, [], ◌∷◌, sym, subst}
use Rattle.r4_content.specs.Edited.{Pairs}
use Rattle.r4_content.specs.Held.{pairs_of}
use Rattle.r4_content.specs.Seen.{Rises}
use Rattle.r4_content.specs.declared.command.Command.TheVariants.{Write}
use Rattle.r4_leaf_edits.specs.Made.{spread_keys}
use Rattle.r4_reach.specs.Touched.{body_on, edits_on}
use Rattle.r4_build_testing.specs.Commands.{file_name, file_seen}
use Rattle.r4_build_testing.specs.Small.{AreLawful}
use Rattle.r4_build_testing.proofs.Lawful.{file_rises, write_lawful, write_tails}
use Rattle.r4_build_testing.proofs.small.build_writing.Goals as goal

pub built-requires-clause-lawful : goal.built-requires-clause-lawful
built-requires-clause-lawful g c κs within =
    subst (λ (p : List (List ℕ)). AreLawful (edits_on (Write p 0 c.in_ok-text.text) (pairs_of c.in_ok-seen.seen))) (sym c.in_ok-path.ensures)
    (subst (λ (s : Pairs). AreLawful (edits_on (Write (file_name ∷ []) 0 c.in_ok-text.text) s)) (sym c.in_ok-seen.ensures)
    (subst (λ (x : List ℕ). AreLawful (edits_on (Write (file_name ∷ []) 0 x) file_seen)) (sym c.in_ok-text.ensures) write_lawful))

pub built-requires-clause-rises : goal.built-requires-clause-rises
built-requires-clause-rises g c κs within = subst Rises (sym c.in_ok-seen.ensures) file_rises

pub built-requires-clause-tails : goal.built-requires-clause-tails
built-requires-clause-tails g c κs within =
    subst (λ (p : List (List ℕ)). spread_keys (body_on (Write p 0 c.in_ok-text.text) (pairs_of c.in_ok-seen.seen) false) ≡ None)
    (sym c.in_ok-path.ensures)
    (subst (λ (s : Pairs). spread_keys (body_on (Write (file_name ∷ []) 0 c.in_ok-text.text) s false) ≡ None) (sym c.in_ok-seen.ensures)
    (subst (λ (x : List ℕ). spread_keys (body_on (Write (file_name ∷ []) 0 x) file_seen false) ≡ None) (sym c.in_ok-text.ensures)
    write_tails))
