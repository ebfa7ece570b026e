use Rattle.std.proofs.Common.{◌≡◌, false, ℕ, ap, arith, length, sym, ◌∙◌}
use Rattle.std.specs.Prelude.{Option, ◌==◌}
use Rattle.std.specs.Option.{option_map}
use Rattle.std.proofs.lemmas.Bool.{eqb-false}
use Rattle.r4_base.specs.Key.{rank}
use Rattle.r4_graft.specs.r4_branch.Pieces.{is_at}
use Rattle.r4_extent_demands.proofs.Cuts.{last_at}
use Rattle.r4_extent_demands.proofs.Nothing.{nothing}
use Rattle.r4_extent_demands.proofs.cutting.ends_at.Goals as goal

pub returns-in-None : goal.returns-in-None
returns-in-None c =
    let ps = c.args.pieces.now in
    let none : (length ps == 0) ≡ false = sym c.is_empty.ensures ∙ c.if-is_empty.false in
    let some = eqb-false (length ps) 0 none in
    sym (ap (λ (o : Option ℕ). is_at o (rank c.args.key))
    (last_at ps nothing (omega (arith, some)) ∙ sym c.unit_end.ensures ∙ ap (option_map rank) c.in-None.is))

pub returns-in-Some : goal.returns-in-Some
returns-in-Some c =
    let ps = c.args.pieces.now in
    let none : (length ps == 0) ≡ false = sym c.is_empty.ensures ∙ c.if-is_empty.false in
    let some = eqb-false (length ps) 0 none in
    c.is_same.ensures.ranks ∙ sym (ap (λ (o : Option ℕ). is_at o (rank c.args.key))
    (last_at ps nothing (omega (arith, some)) ∙ sym c.unit_end.ensures ∙ ap (option_map rank) c.in-Some.is))
