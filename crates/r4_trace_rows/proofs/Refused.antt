-- Small traces that are not legal, by computation.
use Rattle.std.proofs.Common.{◌≡◌, ⊎_elim, inl, ℕ, ◌<◌, true, List, [], ◌∷◌, reverse, Option, Some, refl, sym, ◌∙◌, arith}
use Rattle.r4_base.specs.Key.{rank}
use Rattle.r4_base.specs.Name.{bad_byte, key_of_name, name_fault, packed, r5_from}
use Rattle.r4_base.specs.Volume.{empty_volume}
use Rattle.r4_content.specs.Locality.{Meaning, commands}
use Rattle.r4_content.specs.Meaning.{greatest_size, reply}
use Rattle.r4_content.specs.Objects.{new_directory}
use Rattle.r4_content.specs.Ways.{to_ends, to_entry, to_file, to_free, to_object, to_parent}
use Rattle.r4_content.specs.declared.command.Command.{Command}
use Rattle.r4_content.specs.declared.command.Command.TheVariants as command
use Rattle.r4_content.specs.declared.reply.Reply.{Reply}
use Rattle.r4_content.specs.declared.reply.Reply.TheVariants.{Okay, Attr as Has}
use Rattle.r4_trace.specs.declared.entry.Entry.{Entry}
use Rattle.r4_trace.specs.Folds.{HasItsReplies, everything}
use Rattle.r4_trace.specs.Ids.{HasNewIds, Start}
use Rattle.r4_trace.specs.Job.{Asked, IsAnswered}
use Rattle.r4_trace.specs.Legal.{IsLegal, IsLegalSoFar, RepliesFrom}
use Rattle.r4_trace.specs.Order.{MayFollow}
use Rattle.r4_trace_rows.specs.Examples.{ComesTooLate, MayNotFollow, acks_early, begins, begins_the_third, begins_twice, clock_falls, commits_another, commits_broken, does_for_another, done, draws_twice, ends, ends_twice, fresh, keeps_the_gone, keeps_the_larger, other_reply, seals_none, seals_open, seals_two, skips, stat_job, stays_open, two_stats_job, usual_job}
use Rattle.r4_trace_rows.proofs.Checked.{is_ordered, ordered_true}
use Rattle.r4_trace_rows.proofs.Replied.{on_fresh}
use Rattle.r4_trace_rows.proofs.Shown.{ids_on_fresh, so_far_on_fresh}

two_not_one : (◌≡◌ {A = ℕ} 2 1) → ⊥
two_not_one e = omega (arith, e)

-- ---- the last entry may not follow

abbrev rest : List Entry → List Entry
rest [] = []
rest (e ∷ older) = older

abbrev LastMayNot : List Entry → Type 0
LastMayNot [] = ⊥
LastMayNot (e ∷ older) = MayFollow older e → ⊥

breaks : (trace : List Entry) → is_ordered (rest trace) ≡ true → LastMayNot trace → MayNotFollow trace
breaks [] order h = h
breaks (e ∷ older) order h = (ordered_true older order, h)

pub twice_begun : MayNotFollow (reverse begins_twice)
twice_begun = breaks (reverse begins_twice) refl (λ h. h.1 1 (inl (refl, refl), λ n. n))

pub third_begun : MayNotFollow (reverse begins_the_third)
third_begun = breaks (reverse begins_the_third) refl (λ h. (let e : 3 ≡ 2 = h.0 in omega (arith, e)))

pub done_for_another : MayNotFollow (reverse does_for_another)
done_for_another = breaks (reverse does_for_another) refl
    (λ h. ⊎_elim (λ is. two_not_one (sym is.1)) (λ was. ⊎_elim (λ is. two_not_one is.0) (λ n. n) was) h.0)

pub twice_ended : MayNotFollow (reverse ends_twice)
twice_ended = breaks (reverse ends_twice) refl (λ h. ⊎_elim (λ is. h.1.1 (inl is.0)) (λ n. n) h.1.0)

pub larger_kept : MayNotFollow (reverse keeps_the_larger)
larger_kept = breaks (reverse keeps_the_larger) refl (λ h. (let lt : 2 < 1 = h.0 in omega (arith, lt)))

pub gone_kept : MayNotFollow (reverse keeps_the_gone)
gone_kept = breaks (reverse keeps_the_gone) refl (λ h. (let e : 1 ≡ 2 = h.1.own in two_not_one (sym e)))

pub open_sealed : MayNotFollow (reverse seals_open)
open_sealed = breaks (reverse seals_open) refl (λ h. h.1 1 1 (inl (refl, refl), λ n. n) refl)

pub none_sealed : MayNotFollow (reverse seals_none)
none_sealed = breaks (reverse seals_none) refl (λ h. (let lt : 0 < 0 = h.0.counted.0 in omega (arith, lt)))

pub two_sealed : MayNotFollow (reverse seals_two)
two_sealed = breaks (reverse seals_two) refl (λ h. (let e : 1 ≡ 0 = h.2 in omega (arith, e)))

pub another_committed : MayNotFollow (reverse commits_another)
another_committed = breaks (reverse commits_another) refl
    (λ h. (let e : Some 1 ≡ Some 2 = h.0 in let f : 1 ≡ 2 = cc e in two_not_one (sym f)))

pub early_acked : MayNotFollow (reverse acks_early)
early_acked = breaks (reverse acks_early) refl (λ h. h.1 1 (inl (refl, refl)))

pub clock_fell : MayNotFollow (reverse clock_falls)
clock_fell = breaks (reverse clock_falls) refl (λ h. absurd (omega (arith, h.2)))

pub broken_committed : ComesTooLate (reverse commits_broken)
broken_committed = (ordered_true (rest (reverse commits_broken)) refl, (refl, refl, omega arith), λ h. h)

pub not_following : (w : Meaning Command Reply) (start : Option Start) (job : Option Asked) (trace : List Entry)
    → MayNotFollow trace → IsLegal w start job trace → ⊥
not_following w start job [] h legal = h
not_following w start job (e ∷ older) h legal = h.1 legal.so_far.order.0

pub too_late : (w : Meaning Command Reply) (start : Option Start) (job : Option Asked) (trace : List Entry)
    → ComesTooLate trace → IsLegal w start job trace → ⊥
too_late w start job [] h legal = h
too_late w start job (e ∷ older) h legal = h.2 legal.so_far.order.1

-- ---- the job

pub open_so_far : IsLegalSoFar (commands greatest_size) (Some fresh) (Some usual_job) (reverse stays_open)
unfolding rank key_of_name name_fault bad_byte packed r5_from to_ends to_entry to_file to_free to_object to_parent
open_so_far = so_far_on_fresh usual_job (reverse stays_open) refl refl refl ((refl, (tt, refl), refl), ((refl, tt), tt))

pub skips_replies : RepliesFrom (commands greatest_size) (Some fresh) (reverse skips)
unfolding rank key_of_name name_fault bad_byte packed r5_from to_ends to_entry to_file to_free to_object to_parent
skips_replies = on_fresh greatest_size (reverse skips) refl

pub skips_ids : HasNewIds (Some fresh) (Some two_stats_job) (reverse skips)
skips_ids = ids_on_fresh two_stats_job (reverse skips) refl

-- ---- ids

pub twice_replied : RepliesFrom (commands greatest_size) (Some fresh) (reverse draws_twice)
unfolding rank key_of_name name_fault bad_byte packed r5_from to_ends to_entry to_file to_free to_object to_parent
twice_replied = on_fresh greatest_size (reverse draws_twice) refl

pub twice_answered : IsAnswered usual_job (reverse draws_twice)
twice_answered =
    ((1, refl), ((refl, (tt, refl), refl), ((refl, tt), ((1, refl), ((refl, (tt, refl), refl), ((refl, tt), tt))))))

-- ---- replies

abbrev asked_stat : List Entry
asked_stat = ends 1 ∷ done 1 1 1 (command.Stat []) (Has new_directory) ∷ begins 1 1 ∷ []

stat_replies : HasItsReplies (commands greatest_size) empty_volume everything asked_stat
unfolding rank key_of_name name_fault bad_byte packed r5_from to_ends to_entry to_file to_free to_object to_parent
stat_replies = on_fresh greatest_size asked_stat refl

pub no_other_reply : HasItsReplies (commands greatest_size) empty_volume everything (reverse other_reply) → ⊥
no_other_reply h =
    let wrong : Okay ≡ reply greatest_size (command.Stat []) empty_volume = h.0 refl in
    let right : Has new_directory ≡ reply greatest_size (command.Stat []) empty_volume = stat_replies.0 refl in
    let same : Okay ≡ Has new_directory = wrong ∙ sym right in
    absurd (cc same)

pub other_answered : IsAnswered stat_job (reverse other_reply)
other_answered = ((1, refl), ((refl, (tt, refl), refl), ((refl, tt), tt)))

pub other_ids : HasNewIds (Some fresh) (Some stat_job) (reverse other_reply)
other_ids = ids_on_fresh stat_job (reverse other_reply) refl
