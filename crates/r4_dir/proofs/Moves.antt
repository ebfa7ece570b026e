-- The ways of a move.
use Rattle.std.proofs.Common.{◌≡◌, ap, ◌∙◌, true, false, cond, Bool, ℕ, List}
use Rattle.std.specs.Prelude.{not, ◌&&◌, ◌||◌}
use Rattle.r4_content.specs.Course.{Course, Answer, ending}
use Rattle.r4_content.specs.Edited.{Pairs}
use Rattle.r4_content.specs.Objects.{Object, is_among, is_dir, is_same}
use Rattle.r4_content.specs.Seen.{of_seen}
use Rattle.r4_content.specs.Ways.{Place, to_ends, to_parent}
use Rattle.r4_content.specs.declared.reply.Reply.{Reply}
use Rattle.r4_content.specs.declared.reply.Reply.TheVariants.{Notdir, Loop}
use Rattle.r4_dir.specs.Coming.{ComesEnds, ComesEntry, ComesParent, StopsEnds, StopsEntry, StopsParent, last_of}

-- what follows where both places are known
below : (Object → List ℕ → Object → Object → List ℕ → Course) → Object → List ℕ → Place → Place → List ℕ → Course
below next dir n p q m = cond (not (is_dir q.here)) (Answer Notdir) (cond (is_dir p.here && (is_among p.here q.above || is_same p.here q.here)) (Answer Loop) (next dir n p.here q.here m))

module _ (from to : List (List ℕ)) (s : Pairs) where
  pub ends_stop : (e : Reply) → StopsEntry Loop from s e → StopsEnds from to s e
  unfolding to_ends below
  ends_stop e h next = h (λ dir n p. to_parent Loop to (below next dir n p))

  module _ (dir : Object) (p : Place) (h : ComesEntry Loop from s dir p) where
    pub ends_stop_below : (e : Reply) → StopsParent Loop to s e → StopsEnds from to s e
    unfolding to_ends below
    ends_stop_below e g next = h (λ dir n p. to_parent Loop to (below next dir n p)) ∙ g (below next dir (last_of from) p)

    module _ (q : Place) (g : ComesParent Loop to s q) where
      came : (next : Object → List ℕ → Object → Object → List ℕ → Course) → ending (to_ends from to next) (of_seen s) ≡ ending (below next dir (last_of from) p q (last_of to)) (of_seen s)
      unfolding to_ends below
      came next = h (λ dir n p. to_parent Loop to (below next dir n p)) ∙ g (below next dir (last_of from) p)

      tested : (next : Object → List ℕ → Object → Object → List ℕ → Course) (b : Bool) → is_dir q.here ≡ b → ending (to_ends from to next) (of_seen s)
          ≡ ending (cond (not b) (Answer Notdir) (cond (is_dir p.here && (is_among p.here q.above || is_same p.here q.here)) (Answer Loop) (next dir (last_of from) p.here q.here (last_of to)))) (of_seen s)
      unfolding below
      tested next b d = came next ∙ ap (λ x. ending (cond (not x) (Answer Notdir) (cond (is_dir p.here && (is_among p.here q.above || is_same p.here q.here)) (Answer Loop) (next dir (last_of from) p.here q.here (last_of to)))) (of_seen s)) d

      pub ends_notdir : is_dir q.here ≡ false → StopsEnds from to s Notdir
      ends_notdir d next = tested next false d

      pub ends_loop : is_dir q.here ≡ true → (is_dir p.here && (is_among p.here q.above || is_same p.here q.here)) ≡ true → StopsEnds from to s Loop
      ends_loop d l next = tested next true d ∙ ap (λ x. ending (cond x (Answer Loop) (next dir (last_of from) p.here q.here (last_of to))) (of_seen s)) l

      pub ends_come : is_dir q.here ≡ true → (is_dir p.here && (is_among p.here q.above || is_same p.here q.here)) ≡ false → ComesEnds from to s dir p.here q.here
      ends_come d l next = tested next true d ∙ ap (λ x. ending (cond x (Answer Loop) (next dir (last_of from) p.here q.here (last_of to))) (of_seen s)) l
