use Rattle.std.proofs.Common.{◌≡◌, ◌∙◌, ap, sym, List, false}
use Rattle.std.specs.Prelude.{Option, option_and_then}
use Rattle.std.specs.List.{find}
use Rattle.std.specs.Option.{option_copied, option_map_or}
use Rattle.r4_check_objects.specs.Objects.{facts_in, is_object_at, is_owner, owner_of}
use Rattle.r4_check_objects.specs.declared.held.Held.{Held}
use Rattle.r4_check_objects.proofs.SameObjects.{facts_other, facts_owner}
use Rattle.r4_check_objects.proofs.known.Known.facts_at.Goals as goal
use Rattle.r4_check_objects.proofs.known.Known.facts_at.Goals.{in_default-via-in-Some+else-is_object_at, in_default-via-in_default}

pub returns-in-Some : goal.returns-in-Some
returns-in-Some c found known =
    c.facts.ensures ∙ sym (facts_owner found c.args.object.now c.in-Some.owner.now (sym (c.in-Some.ensures found known.heads)) (sym c.is_object_at.ensures ∙ c.if-is_object_at.true))

pub returns-in_default : goal.returns-in_default
returns-in_default c found known =
    let owned : (o : Option Held) → owner_of found c.args.object.now.oid.0 ≡ o → is_owner found c.args.object.now ≡ option_map_or (is_object_at c.args.object.now) o false =
    λ o is. ap (λ (x : Option Held). option_map_or (is_object_at c.args.object.now) x false) is in
    let own : is_owner found c.args.object.now ≡ false = elim c.in_default.branch [
      | in_default-via-in-Some+else-is_object_at w ↦ owned _ (sym (w.in-Some.ensures found known.heads)) ∙ sym w.is_object_at.ensures ∙ w.if-is_object_at.false
      | in_default-via-in_default w ↦ owned _ (sym (c.owner_of.ensures found known.heads) ∙ ap option_copied w.in_default.is)
    ] in
    c.facts_among.ensures ∙ ap (λ (l : List Held). option_and_then facts_in (find (is_object_at c.args.object.now) l)) (c.deref.ensures.value ∙ known.others) ∙ facts_other found c.args.object.now own
