-- What `chmod` does to the root directory alone.
use Rattle.std.specs.Prelude.{◌≡◌, ℕ, ◌+◌, ◌*◌, ◌/◌, ◌%◌, [], ◌∷◌, cond, Bool, Option, Some, None, true, false, ◌==◌}
use Rattle.std.proofs.Common.{refl, sym, ap, ◌∙◌}
use Rattle.r4_base.specs.Key.{least}
use Rattle.r4_base.specs.Value.{Value, Stat, at_key}
use Rattle.r4_base.specs.Volume.{root_object, stat_rank}
use Rattle.r4_base.specs.declared.items.Attr.{Attr}
use Rattle.r4_base.proofs.FreshVolume.{root_rank}
use Rattle.r4_content.specs.Course.{Answer, Change, Course, asked, ending, of_content}
use Rattle.r4_content.specs.Edited.{changed, edited, is_in}
use Rattle.r4_content.specs.Meaning.{after, changes, course, reads, reply}
use Rattle.r4_content.specs.Objects.{set_attr}
use Rattle.r4_content.specs.Walk.{attr_in}
use Rattle.r4_content.specs.Ways.{to_object, with_attr}
use Rattle.r4_content.specs.declared.command.Command.TheVariants.{Stat as Ask}
use Rattle.r4_content.specs.declared.reply.Reply.TheVariants.{Attr as AttrReply, Notdir, Okay}
use Rattle.r4_content.proofs.EditLaws.{at_edited, same_content}
use Rattle.r4_sets_rows.specs.Small.{alone, chmod, with_mode}
use Rattle.r4_sets_rows.proofs.SmallTree.{at_alone, there}
use Rattle.r4_sets_rows.proofs.Setting.{the_key}

module _ (r : Attr) where
  root_stat : at_key (alone r) (stat_rank root_object) ≡ Some (Stat r)
  root_stat = ap (at_key (alone r)) root_rank ∙ there r

  module _ (limit mode : ℕ) where
    -- what comes of what stands at the root's stat key
    next : Option Value → Course
    next v = with_attr Notdir (λ a. Change
        (set_attr (record { target = root_object; attr = a })
        (record a { mode = a.mode / 4096 * 4096 + mode % 4096 }))) (attr_in v)

    mode_ending : ending (course limit (chmod mode)) (of_content (alone r))
        ≡ record { edits = set_attr (record { target = root_object; attr = r }) (with_mode r mode); reply = Okay }
    unfolding to_object next
    mode_ending = ap (λ v. ending (next v) (of_content (alone r))) root_stat

    pub mode_reads : reads limit (chmod mode) (alone r) ≡ the_key
    unfolding to_object next the_key
    mode_reads = ap (λ v. (stat_rank root_object, stat_rank root_object + 1) ∷ asked (next v) (of_content (alone r)))
        root_stat ∙ ap (λ k. (k, k + 1) ∷ []) root_rank

    pub mode_changes : changes limit (chmod mode) (alone r) ≡ the_key
    unfolding the_key
    mode_changes = ap (λ e. changed e.edits) mode_ending ∙ ap (λ k. (k, k + 1) ∷ []) root_rank

    pub mode_after : after limit (chmod mode) (alone r) ≡ alone (with_mode r mode)
    mode_after = same_content (after limit (chmod mode) (alone r)) (alone (with_mode r mode)) (λ k.
        ap (λ e. at_key (edited e.edits (alone r)) k) mode_ending
        ∙ at_edited (set_attr (record { target = root_object; attr = r }) (with_mode r mode)) (alone r) k
        ∙ ap (λ q. cond (k == q) (Some (Stat (with_mode r mode))) (at_key (alone r) k)) root_rank
        ∙ ap (cond (k == least) (Some (Stat (with_mode r mode)))) (at_alone r k)
        ∙ once (k == least) (Some (Stat (with_mode r mode))) (Some (Stat r))
        ∙ sym (at_alone (with_mode r mode) k))
      where
        once : (q : Bool) (x y : Option Value) → cond q x (cond q y None) ≡ cond q x None
        once true x y = refl
        once false x y = refl

    pub reads_in : (k : ℕ) → is_in (reads limit (chmod mode) (alone r)) k ≡ true → is_in the_key k ≡ true
    reads_in k h = ap (λ rs. is_in rs k) (sym mode_reads) ∙ h

    pub changes_in : (k : ℕ) → is_in (changes limit (chmod mode) (alone r)) k ≡ true → is_in the_key k ≡ true
    changes_in k h = ap (λ rs. is_in rs k) (sym mode_changes) ∙ h

  -- ---- what `stat` is answered

  module _ (limit : ℕ) where
    told : Option Value → Course
    told v = with_attr Notdir (λ a. Answer (AttrReply a)) (attr_in v)

    pub stat_reply : reply limit (Ask []) (alone r) ≡ AttrReply r
    unfolding to_object told
    stat_reply = ap (λ v. (ending (told v) (of_content (alone r))).reply) root_stat

    pub stat_reads : reads limit (Ask []) (alone r) ≡ the_key
    unfolding to_object told the_key
    stat_reads = ap (λ v. (stat_rank root_object, stat_rank root_object + 1) ∷ asked (told v) (of_content (alone r)))
        root_stat ∙ ap (λ k. (k, k + 1) ∷ []) root_rank

    pub stat_changes : changes limit (Ask []) (alone r) ≡ []
    unfolding to_object told
    stat_changes = ap (λ v. changed (ending (told v) (of_content (alone r))).edits) root_stat

    pub stat_after : after limit (Ask []) (alone r) ≡ alone r
    unfolding to_object told
    stat_after = ap (λ v. edited (ending (told v) (of_content (alone r))).edits (alone r)) root_stat
