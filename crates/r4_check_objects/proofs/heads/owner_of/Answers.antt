use Rattle.std.proofs.Common.{◌≡◌, ◌∙◌, ap, sym, false}
use Rattle.std.specs.Prelude.{Some, None}
use Rattle.r4_check_objects.specs.Held.{is_stat_data}
use Rattle.r4_check_objects.specs.Objects.{head_of, owner_of}
use Rattle.r4_check_objects.specs.declared.held.Held.{Held}
use Rattle.r4_check_objects.proofs.FirstThings.{owner_none, owner_stat}
use Rattle.r4_check_objects.proofs.heads.owner_of.Goals as goal
use Rattle.r4_check_objects.proofs.heads.owner_of.Goals.{in_default-via-in-Some+else-is_stat_data, in_default-via-in_default}

pub returns-in-Some : goal.returns-in-Some
returns-in-Some c found heads =
    sym (owner_stat found c.args.id c.in-Some.first (sym (heads.each c.args.id) ∙ sym c.at.ensures ∙ c.in-Some.is) (sym c.is_stat_data.ensures ∙ c.if-is_stat_data.true))

pub returns-in_default : goal.returns-in_default
returns-in_default c found heads = elim c.in_default.branch as (λ x. None ≡ owner_of found c.args.id) [
  | in_default-via-in-Some+else-is_stat_data w ↦
      let head : head_of found c.args.id ≡ Some w.in-Some.first = sym (heads.each c.args.id) ∙ sym c.at.ensures ∙ w.in-Some.is in
      let no : is_stat_data w.in-Some.first ≡ false = sym w.is_stat_data.ensures ∙ w.if-is_stat_data.false in
      sym (owner_none found c.args.id (λ (h : Held) is. let same : h ≡ w.in-Some.first = cc in ap is_stat_data same ∙ no))
  | in_default-via-in_default w ↦
      let head : head_of found c.args.id ≡ None = sym (heads.each c.args.id) ∙ sym c.at.ensures ∙ w.in_default.is in
      sym (owner_none found c.args.id (λ (h : Held) is. cc))
]
