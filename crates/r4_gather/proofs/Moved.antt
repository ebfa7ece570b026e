-- The ways of a move.
use Rattle.std.proofs.Common.{◌≡◌, ap, sym, subst, ◌∙◌, true, false, cond, Bool, ℕ, List}
use Rattle.std.specs.Prelude.{not, ◌&&◌, ◌||◌}
use Rattle.r4_content.specs.Course.{Answer, Course}
use Rattle.r4_content.specs.Objects.{Object, is_among, is_dir, is_same}
use Rattle.r4_content.specs.Seen.{of_seen}
use Rattle.r4_content.specs.Ways.{Place, to_ends, to_parent}
use Rattle.r4_content.specs.declared.reply.Reply.TheVariants.{Loop, Notdir}
use Rattle.r4_dir.specs.Coming.{last_of}
use Rattle.r4_gather.specs.Asking.{EndsIn, HasEndedEnds, HasEndedEntry, HasEndedParent, IsAtEnds, IsAtEntry}
use Rattle.r4_gather.specs.Asking.{IsAtParent, IsLater, IsStoppedEnds, IsStoppedEntry, IsStoppedParent, Sighting}
use Rattle.r4_gather.specs.Asking.{asking}
use Rattle.r4_gather.proofs.Beginning.{later_both}

-- what follows where both places are known
below : (Object → List ℕ → Object → Object → List ℕ → Course) → Object → List ℕ → Place → Place → List ℕ → Course
below next dir n p q m = cond (not (is_dir q.here)) (Answer Notdir) (cond (is_dir p.here
    && (is_among p.here q.above || is_same p.here q.here)) (Answer Loop) (next dir n p.here q.here m))

module _ (from to : List (List ℕ)) (old now : Sighting) where
  pub ends_end : HasEndedEntry Loop from old now → HasEndedEnds from to old now
  unfolding to_ends below
  ends_end h next = h (λ dir n p. to_parent Loop to (below next dir n p))

  pub ends_stop : IsStoppedEntry Loop from old now → IsStoppedEnds from to old now
  unfolding to_ends below
  ends_stop h next = h (λ dir n p. to_parent Loop to (below next dir n p))

  module _ (dir : Object) (p : Place) (h : IsAtEntry Loop from old now dir p) (new : Sighting)
      (later : IsLater now new) where
    came : (next : Object → List ℕ → Object → Object → List ℕ → Course) (last : Sighting) → IsLater new last
        → asking (to_ends from to next) (of_seen last.seen) old.asked
        ≡ asking (to_parent Loop to (below next dir (last_of from) p)) (of_seen last.seen) now.asked
    unfolding to_ends below
    came next last l = h (λ dir n p. to_parent Loop to (below next dir n p)) last (later_both now new last later l)

    pub ends_end_below : HasEndedParent Loop to now new → HasEndedEnds from to old new
    ends_end_below g next last l = came next last l ∙ g (below next dir (last_of from) p) last l

    pub ends_stop_below : IsStoppedParent Loop to now new → IsStoppedEnds from to old new
    ends_stop_below g next last l = subst (λ xs. EndsIn new.asked xs) (sym (came next last l))
        (g (below next dir (last_of from) p) last l)

    module _ (q : Place) (g : IsAtParent Loop to now new q) where
      both : (next : Object → List ℕ → Object → Object → List ℕ → Course) (last : Sighting) → IsLater new last
          → (b : Bool) → is_dir q.here ≡ b → asking (to_ends from to next) (of_seen last.seen) old.asked
          ≡ asking (cond (not b) (Answer Notdir) (cond (is_dir p.here
          && (is_among p.here q.above || is_same p.here q.here)) (Answer Loop)
          (next dir (last_of from) p.here q.here (last_of to)))) (of_seen last.seen) new.asked
      unfolding below
      both next last l b d = came next last l ∙ g (below next dir (last_of from) p) last l
          ∙ ap (λ x. asking (cond (not x) (Answer Notdir)
          (cond (is_dir p.here && (is_among p.here q.above
          || is_same p.here q.here)) (Answer Loop) (next dir (last_of from) p.here q.here (last_of to))))
          (of_seen last.seen) new.asked) d

      pub ends_notdir : is_dir q.here ≡ false → HasEndedEnds from to old new
      ends_notdir d next last l = both next last l false d

      pub ends_loop : is_dir q.here ≡ true
          → (is_dir p.here && (is_among p.here q.above || is_same p.here q.here)) ≡ true
          → HasEndedEnds from to old new
      ends_loop d e next last l = both next last l true d
          ∙ ap (λ x. asking (cond x (Answer Loop) (next dir (last_of from) p.here q.here (last_of to)))
          (of_seen last.seen) new.asked) e

      pub ends_at : is_dir q.here ≡ true
          → (is_dir p.here && (is_among p.here q.above || is_same p.here q.here)) ≡ false
          → IsAtEnds from to old new dir p.here q.here
      ends_at d e next last l = both next last l true d
          ∙ ap (λ x. asking (cond x (Answer Loop) (next dir (last_of from) p.here q.here (last_of to)))
          (of_seen last.seen) new.asked) e
