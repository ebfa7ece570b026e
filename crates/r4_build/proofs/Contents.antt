-- What a change makes of a tree's content.
use Rattle.std.proofs.Common.{◌≡◌, ◌∙◌, ℕ, Bool, true, false, [], ap, refl, subst, sym}
use Rattle.std.specs.FinMap.{find}
use Rattle.std.specs.Option.{option_map}
use Rattle.std.specs.Ordering.{nat_cmp}
use Rattle.std.specs.Prelude.{◌&&◌, None, Option, Some, if◌then◌else◌}
use Rattle.std.specs.Arc.{arc_value}
use Rattle.r4_base.specs.Tree.{Root, Store}
use Rattle.r4_base.specs.Value.{Content, Value, at_key}
use Rattle.r4_base.specs.Volume.{HasUnits}
use Rattle.r4_measure.specs.r4_cell.Patch.{Patch, place}
use Rattle.r4_content.specs.Counts.{born, gone, is_okay, stats_in}
use Rattle.r4_content.specs.Course.{Ending}
use Rattle.r4_content.specs.Edited.{Edits, changed, edited, is_in}
use Rattle.r4_content.specs.Held.{pairs_of}
use Rattle.r4_content.specs.Listed.{list_edited}
use Rattle.r4_content.specs.Meaning.{after, greatest_size, makes_object, reply}
use Rattle.r4_content.specs.Seen.{IsSeen}
use Rattle.r4_content.proofs.EditLaws.{edited_off}
use Rattle.r4_content.proofs.SeenLaws.{seen}
use Rattle.r4_measure.specs.r4_patch.Effect.{HasEffect, in_leaf}
use Rattle.r4_measure.specs.r4_patch.Joining.{patch_of_change}
use Rattle.r4_measure.specs.r4_patch.Part.{IsPart, MeetsPart}
use Rattle.r4_measure.proofs.r4_patch.Effects.{content_after}
use Rattle.r4_build.specs.Building.{set_by}
use Rattle.r4_build.specs.Built.{BuiltSeen, IsBuilt, IsPlain, edits_for}
use Rattle.r4_build.proofs.LeafKeys.{listed_on}

as_set : (o : Option Value) → option_map (λ u. u.0) (in_leaf o) ≡ o
as_set None = refl
as_set (Some v) = refl

chosen : (b c : Bool) (x y z : Option Value) → c ≡ b → (c ≡ true → x ≡ y) → (c ≡ false → x ≡ z) → x ≡ (if b then y else z)
chosen true c x y z is on off = on is
chosen false c x y z is on off = off is

-- where edits change a key they set it
pub set_is : (e : Edits) (m : Content) (k : ℕ) → at_key (edited e m) k
    ≡ (if is_in (changed e) k then option_map (λ u. u.0) (set_by e k) else at_key m k)
set_is e m k =
    chosen (is_in (changed e) k) (is_in (changed e) k) (at_key (edited e m) k) (option_map (λ u. u.0)
    (set_by e k)) (at_key m k) refl
    (λ on. sym (as_set (find nat_cmp k (list_edited e [])) ∙ listed_on e [] m k tt on)) (edited_off e m k)

pub edits_made : (p : Patch Value) (t : Store Value) (root : Root) (e : Edits) (m : Content) → IsPart t root → MeetsPart p t root → HasEffect p (is_in (changed e)) (set_by e) → HasUnits t m → HasUnits (place p t) (edited e m)
edits_made p t root e m part meets effect units =
    content_after p t root (is_in (changed e)) (set_by e) m (edited e m) part meets effect units (set_is e m)

module _ (x : BuiltSeen) (plain : IsPlain x.task (patch_of_change x.change)) (m : Content)
    (saw : IsSeen greatest_size x.task.command (pairs_of (arc_value x.task.seen)) m) where
  pub built_content : (t : Store Value) (root : Root) → IsPart t root → MeetsPart (patch_of_change x.change) t root → HasUnits t m → HasUnits (place (patch_of_change x.change) t) (after greatest_size x.task.command m)
  built_content t root part meets units =
      subst (HasUnits (place (patch_of_change x.change) t)) (ap (λ (e : Ending). edited e.edits m) (seen greatest_size x.task.command (pairs_of (arc_value x.task.seen)) m saw))
      (edits_made (patch_of_change x.change) t root (edits_for x.task) m part meets plain.effect units)

module _ (x : BuiltSeen) (is : IsBuilt x) (m : Content)
    (saw : IsSeen greatest_size x.task.command (pairs_of (arc_value x.task.seen)) m) where
  pub built_reply : x.reply ≡ reply greatest_size x.task.command m
  built_reply = is.reply ∙ ap (λ (e : Ending). e.reply) (seen greatest_size x.task.command (pairs_of (arc_value x.task.seen)) m saw)

  pub built_born : x.objects.born ≡ born greatest_size x.task.command m
  built_born = is.born ∙ ap (λ (e : Ending). if makes_object x.task.command && is_okay e.reply then 1 else 0) (seen greatest_size x.task.command (pairs_of (arc_value x.task.seen)) m saw)

  pub built_gone : x.objects.gone ≡ gone greatest_size x.task.command m
  built_gone = is.gone ∙ ap (λ (e : Ending). stats_in e.edits.cuts) (seen greatest_size x.task.command (pairs_of (arc_value x.task.seen)) m saw)
