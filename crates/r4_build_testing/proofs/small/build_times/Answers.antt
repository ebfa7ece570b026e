use Rattle.std.proofs.Common.{◌≡◌, false, None, ℕ, List, sym, subst, ◌∙◌}
use Rattle.r4_content.specs.Edited.{Pairs}
use Rattle.r4_content.specs.Held.{pairs_of}
use Rattle.r4_content.specs.declared.command.Command.TheVariants.{Times}
use Rattle.r4_leaf_edits.specs.Made.{spread_keys}
use Rattle.r4_reach.specs.Touched.{body_on, edits_on}
use Rattle.r4_build_testing.specs.Commands.{set_times}
use Rattle.r4_build_testing.specs.Small.{AreLawful}
use Rattle.r4_build_testing.proofs.Lawful.{times_lawful, times_tails}
use Rattle.r4_build_testing.proofs.small.build_times.Goals as goal

pub built-requires-clause-lawful : goal.built-requires-clause-lawful
built-requires-clause-lawful g c κs within =
    subst (λ (p : List (List ℕ)). AreLawful (edits_on (Times p 11 12 13) (pairs_of c.in_ok-seen.seen))) (sym (c.from_vec.ensures ∙ c.new.ensures.items))
    (subst (λ (s : Pairs). AreLawful (edits_on set_times s)) (sym c.in_ok-seen.ensures) times_lawful)

pub built-requires-clause-tails : goal.built-requires-clause-tails
built-requires-clause-tails g c κs within =
    subst (λ (p : List (List ℕ)). spread_keys (body_on (Times p 11 12 13) (pairs_of c.in_ok-seen.seen) false) ≡ None)
    (sym (c.from_vec.ensures ∙ c.new.ensures.items))
    (subst (λ (s : Pairs). spread_keys (body_on set_times s false) ≡ None) (sym c.in_ok-seen.ensures) times_tails)
