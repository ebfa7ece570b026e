-- What was read of a core whose device is read on.
use Rattle.std.proofs.Common.{◌∙◌, ℕ, Option, ap, arith, refl, subst}
use Rattle.r4_content.specs.declared.command.Command.{Command}
use Rattle.r4_history.specs.Held.{Need}
use Rattle.r4_served.specs.r4_kept.View.{CoreSeen}
use Rattle.r4_outside.proofs.Moments.{goes_both}
use Rattle.r4_outside.specs.Device.{State}
use Rattle.r4_served.specs.r4_search.Pool.{LeavesDevice}
use Rattle.r4_served.specs.Serving.{IsLeft, IsRead}
use Rattle.r4_next.specs.Taking.{CanBeTaken, CannotBeTaken, IsReadAs, WasRead}
use Rattle.r4_history.specs.declared.why.Why.{Why}

pub leaves_both : (a b c : State) → LeavesDevice a b → LeavesDevice b c → LeavesDevice a c
leaves_both a b c one two = record {
  goes = goes_both a b c one.goes two.goes;
  idle = record { seen = two.idle.seen ∙ one.idle.seen; clock = two.idle.clock ∙ one.idle.clock };
}

pub leaves_itself : (d : State) → LeavesDevice d d
leaves_itself d = record {
  goes = record {
    blocks = refl;
    lender = refl;
    stop = refl;
    reads = (λ x. x, λ x. x);
    crashes = (λ x. x, λ x. x);
    time = omega arith;
    faults = omega arith;
    earlier = λ m b s x le. (λ y. y, λ y. y);
  };
  idle = record { seen = refl; clock = refl };
}

module _ {D : Type 0} where
  pub read_itself : (d : State) (c : CoreSeen D) → IsRead d d c c
  read_itself d c = record { device = leaves_itself d; same = refl }

  pub read_both : (d e f : State) (a b c : CoreSeen D) → IsRead d e a b → IsRead e f b c → IsRead d f a c
  read_both d e f a b c one two = record {
    device = leaves_both d e f one.device two.device;
    same = two.same ∙ ap (λ (x : CoreSeen D). record x { dev = c.dev }) one.same;
  }

  pub left_both : (d e f : State) (a b c : CoreSeen D) → IsRead d e a b → IsLeft e f b c → IsLeft d f a c
  left_both d e f a b c one two = record {
    mid = two.mid;
    read = read_both d e f a b two.mid one two.read;
    room = two.room;
  }

  module _ (state : D → State) where
    later : (d e f : State) (c : CoreSeen D) (s : ℕ) (x : Command) (n : Need) → LeavesDevice e f
        → WasRead state d e c s x n → WasRead state d f c s x n
    later d e f c s x n on was = record {
      draws = was.draws;
      named = was.named;
      name = was.name;
      from = was.from;
      to = was.to;
      before = was.before;
      behind = leaves_both (state was.to) e f was.behind on;
      after = was.after;
      met = was.met;
      same = was.same;
      reach = was.reach;
      is = was.is;
      need_is = was.need_is;
    }

    pub read_later : (d e f : State) (c : CoreSeen D) (s : ℕ) (need : Option Need) → LeavesDevice e f
        → IsReadAs state d e c s need → IsReadAs state d f c s need
    read_later d e f c s need on known x n servable is = later d e f c s x n on (known x n servable is)

    module _ (d e f : State) (c : CoreSeen D) (dev : D) (went : LeavesDevice d e) (s : ℕ) where
      earlier : (x : Command) (n : Need) → WasRead state e f (record c { dev = dev }) s x n
          → WasRead state d f c s x n
      earlier x n was = record {
        draws = was.draws;
        named = was.named;
        name = record { drawn = was.name.drawn; is = was.name.is };
        from = was.from;
        to = was.to;
        before = leaves_both d e (state was.from) went was.before;
        behind = was.behind;
        after = was.after;
        met = was.met;
        same = was.same;
        reach = was.reach;
        is = was.is;
        need_is = was.need_is;
      }

      cannot_earlier : (w : Why) → CannotBeTaken state e f (record c { dev = dev }) s w
          → CannotBeTaken state d f c s w
      cannot_earlier w was = record {
        unfinished = was.unfinished;
        need = was.need;
        read = λ x n servable is.
            earlier x n
            (was.read x n (record { stands = servable.stands; work = servable.work; free = servable.free }) is);
        reason = was.reason;
      }

    pub cannot_before : (d e f : State) (old now : CoreSeen D) → IsRead d e old now → (s : ℕ) (w : Why)
        → CannotBeTaken state e f now s w → CannotBeTaken state d f old s w
    cannot_before d e f old now read s w was =
        cannot_earlier d e f old now.dev read.device s w
        (subst (λ (z : CoreSeen D). CannotBeTaken state e f z s w) read.same was)

  pub can_before : (d e : State) (old now : CoreSeen D) → IsRead d e old now → (s : ℕ) → CanBeTaken now s
      → CanBeTaken old s
  can_before d e old now read s can =
      let was = subst (λ (z : CoreSeen D). CanBeTaken z s) read.same can in
      record { unfinished = was.unfinished; free = was.free; goes_on = was.goes_on }
