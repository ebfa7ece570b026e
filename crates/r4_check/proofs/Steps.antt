-- Calls of a walk one after the other.
use Rattle.std.proofs.Common.{◌≡◌, ℕ, List, [], ◌∷◌, ◌++◌, refl, sym, ap, subst, ◌∙◌, arith}
use Rattle.std.specs.Prelude.{Some, Result, Ok, Err, IfErr, IfOk, OnOk, OnErr, length}
use Rattle.std.specs.Result.{IsErrAnd}
use Rattle.std.proofs.lemmas.List.{append-nil, append_assoc}
use Rattle.r4_outside.specs.Device.{State}
use Rattle.r4_outside.specs.Sink.{SinkState, AppendsPart}
use Rattle.r4_list.specs.r4_search.Pool.{LeavesDevice}
use Rattle.r4_list.proofs.r4_search.Walks.{leaves_both, leaves_same}
use Rattle.r4_list.specs.Printing.{Prints}
use Rattle.r4_list.proofs.Stages.{prints_both, prints_same}
use Rattle.r4_check_objects.specs.Faults.{fault_line, fault_lines}
use Rattle.r4_base.specs.Image.{Image, block_at}
use Rattle.r4_replay.specs.Homes.{home_in}
use Rattle.r4_check.specs.declared.settled.Settled.{Settled}
use Rattle.r4_check.specs.Looking.{Goes, IsGround, IsStopCause, IsTally, IsTellCause, Steps, Tells}
use Rattle.r4_check.specs.Walk.{Walk}
use Rattle.r4_check_objects.specs.declared.fault.Fault.{Fault}
use Rattle.r4_check.specs.declared.stop.Stop.{Stop}
use Rattle.r4_check.specs.declared.stop.Stop.TheVariants.{Device, Sink, Memory}
use Rattle.r4_check.specs.declared.tally.Tally.{Tally}

-- ---- more faults

pub lines_both : (a b : List Fault) → fault_lines (a ++ b) ≡ fault_lines a ++ fault_lines b
lines_both [] b = refl
lines_both (f ∷ a) b = ap (λ (l : List ℕ). fault_line f ++ l) (lines_both a b) ∙ sym (append_assoc (fault_line f) (fault_lines a) (fault_lines b))

-- the second walk has the faults of the first, and more
pub record Extends (w v : Walk) : Type 0 where
  pub more : List Fault
  pub is : v.faults ≡ w.faults ++ more

pub extends_same : (w : Walk) → Extends w w
extends_same w = record { more = []; is = sym (append-nil w.faults) }

pub extends_both : (w v u : Walk) → Extends w v → Extends v u → Extends w u
extends_both w v u a b = record { more = a.more ++ b.more; is = b.is ∙ ap (λ (l : List Fault). l ++ b.more) a.is ∙ append_assoc w.faults a.more b.more }

pub part_longer : (w v : Walk) (base : List ℕ) (k : SinkState) → Extends w v → AppendsPart (fault_lines w.faults) base k.written → AppendsPart (fault_lines v.faults) base k.written
part_longer w v base k e p = record {
  part = p.part;
  rest = p.rest ++ fault_lines e.more;
  splits = ap fault_lines e.is ∙ lines_both w.faults e.more ∙ ap (λ (l : List ℕ). l ++ fault_lines e.more) p.splits ∙ append_assoc p.part p.rest (fault_lines e.more);
  written = p.written;
}

-- ---- steps

pub steps_same : {T : Type 0} (blocks : ℕ) (k : SinkState) (t : Tally) (x : T) → Steps blocks k t (Ok x) k t (λ w. w)
steps_same {T} blocks k t x = record { tally = λ w h. h; whole = λ w base h is. is; part = λ w base h is. tt }

-- nothing is printed, and what is counted is of another walk
pub steps_noted : {T : Type 0} (blocks : ℕ) (k : SinkState) (t u : Tally) (x : T) (f : Walk → Walk) → ((w : Walk) → (f w).faults ≡ w.faults) → ((w : Walk) → IsTally blocks w t → IsTally blocks (f w) u) → Steps blocks k t (Ok x) k u f
steps_noted {T} blocks k t u x f same on = record {
  tally = on;
  whole = λ w base h is. is ∙ ap (λ (l : List Fault). Some (base ++ fault_lines l)) (sym (same w));
  part = λ w base h is. tt;
}

pub steps_then : {S T : Type 0} (blocks : ℕ) (k l m : SinkState) (t u v : Tally) (x : S) (r : Result T Stop) (f g : Walk → Walk) → Steps blocks k t (Ok x) l u f → Steps blocks l u r m v g → Steps blocks k t r m v (λ w. g (f w))
steps_then {S} {T} blocks k l m t u v x r f g a b = record {
  tally = λ w h. b.tally (f w) (a.tally w h);
  whole = λ w base h is. b.whole (f w) base (a.tally w h) (a.whole w base h is);
  part = λ w base h is. b.part (f w) base (a.tally w h) (a.whole w base h is);
}

pub steps_stopped : {S T : Type 0} (blocks : ℕ) (k l : SinkState) (t u : Tally) (e e' : Stop) (f g : Walk → Walk) → ((w : Walk) → Extends (f w) (g w)) → Steps {T = S} blocks k t (Err e) l u f → Steps {T = T} blocks k t (Err e') l u g
steps_stopped {S} {T} blocks k l t u e e' f g more a = record {
  tally = λ w h. tt;
  whole = λ w base h is. tt;
  part = λ w base h is. part_longer (f w) (g w) base l (more w) (a.part w base h is);
}

-- the same step, said otherwise
pub steps_as : {T : Type 0} (blocks : ℕ) (k l : SinkState) (t u : Tally) (r : Result T Stop) (f g : Walk → Walk) → ((w : Walk) → IsTally blocks w t → f w ≡ g w) → Steps blocks k t r l u f → Steps blocks k t r l u g
steps_as {T} blocks k l t u r f g same a = record {
  tally = λ w h. let P : Walk → Type 0 = λ v. IfOk r (λ (_ : T). IsTally blocks v u) in subst P (same w h) (a.tally w h);
  whole = λ w base h is. let P : Walk → Type 0 = λ v. OnOk r (l.written ≡ Some (base ++ fault_lines v.faults)) in subst P (same w h) (a.whole w base h is);
  part = λ w base h is. let P : Walk → Type 0 = λ v. OnErr r (AppendsPart (fault_lines v.faults) base l.written) in subst P (same w h) (a.part w base h is);
}

-- another answer of the same kind
pub steps_ok : {S T : Type 0} (blocks : ℕ) (k l : SinkState) (t u : Tally) (x : S) (y : T) (f : Walk → Walk) → Steps blocks k t (Ok x) l u f → Steps blocks k t (Ok y) l u f
steps_ok {S} {T} blocks k l t u x y f a = record { tally = a.tally; whole = a.whole; part = λ w base h is. tt }

-- ---- telling

pub tells_same : {T : Type 0} (k : SinkState) (t : Tally) (x : T) → Tells k t (Ok x) k t
tells_same {T} k t x = record { prints = prints_same k; size = refl; cause = tt }

pub tells_noted : {T : Type 0} (k : SinkState) (t u : Tally) (x : T) → length u.reached.items ≡ length t.reached.items → Tells k t (Ok x) k u
tells_noted {T} k t u x size = record { prints = prints_same k; size = size; cause = tt }

tell_later : {T : Type 0} (k l m : SinkState) (r : Result T Stop) → Prints k l → IfErr r (λ e. IsTellCause l e m) → IfErr r (λ e. IsTellCause k e m)
tell_later {T} k l m (Ok x) p c = tt
tell_later {T} k l m (Err Device) p c = c
tell_later {T} k l m (Err Sink) p c = let low = p.faults in omega (arith, low, c)
tell_later {T} k l m (Err Memory) p c = c

pub tells_then : {S T : Type 0} (k l m : SinkState) (t u v : Tally) (x : S) (r : Result T Stop) → Tells k t (Ok x) l u → Tells l u r m v → Tells k t r m v
tells_then {S} {T} k l m t u v x r a b = record { prints = prints_both k l m a.prints b.prints; size = b.size ∙ a.size; cause = tell_later k l m r a.prints b.cause }

pub tells_stopped : {S T : Type 0} (k l : SinkState) (t u : Tally) (e : Stop) → Tells {T = S} k t (Err e) l u → Tells {T = T} k t (Err e) l u
tells_stopped {S} {T} k l t u e a = record { prints = a.prints; size = a.size; cause = a.cause }

-- ---- going on

pub goes_same : {T : Type 0} (d : State) (k : SinkState) (t : Tally) (x : T) → Goes d k t (Ok x) d k t
goes_same {T} d k t x = record { device = leaves_same d; prints = prints_same k; size = refl; cause = tt }

told_cause : {T : Type 0} (d : State) (k l : SinkState) (r : Result T Stop) → IfErr r (λ e. IsTellCause k e l) → IfErr r (λ e. IsStopCause d k e d l)
told_cause {T} d k l (Ok x) c = tt
told_cause {T} d k l (Err Device) c = absurd c
told_cause {T} d k l (Err Sink) c = c
told_cause {T} d k l (Err Memory) c = tt

-- a call that only prints
pub goes_told : {T : Type 0} (d : State) (k l : SinkState) (t u : Tally) (r : Result T Stop) → Tells k t r l u → Goes d k t r d l u
goes_told {T} d k l t u r a = record { device = leaves_same d; prints = a.prints; size = a.size; cause = told_cause d k l r a.cause }

stop_later : {T : Type 0} (d e f : State) (k l m : SinkState) (r : Result T Stop) → LeavesDevice d e → Prints k l → IfErr r (λ s. IsStopCause e l s f m) → IfErr r (λ s. IsStopCause d k s f m)
stop_later {T} d e f k l m (Ok x) g p c = tt
stop_later {T} d e f k l m (Err Device) g p c = let low = g.goes.faults in omega (arith, low, c)
stop_later {T} d e f k l m (Err Sink) g p c = let low = p.faults in omega (arith, low, c)
stop_later {T} d e f k l m (Err Memory) g p c = tt

pub goes_then : {S T : Type 0} (d e f : State) (k l m : SinkState) (t u v : Tally) (x : S) (r : Result T Stop) → Goes d k t (Ok x) e l u → Goes e l u r f m v → Goes d k t r f m v
goes_then {S} {T} d e f k l m t u v x r a b = record {
  device = leaves_both d e f a.device b.device;
  prints = prints_both k l m a.prints b.prints;
  size = b.size ∙ a.size;
  cause = stop_later d e f k l m r a.device a.prints b.cause;
}

pub goes_stopped : {S T : Type 0} (d f : State) (k l : SinkState) (t u : Tally) (e : Stop) → Goes {T = S} d k t (Err e) f l u → Goes {T = T} d k t (Err e) f l u
goes_stopped {S} {T} d f k l t u e a = record { device = a.device; prints = a.prints; size = a.size; cause = a.cause }

pub goes_ok : {S T : Type 0} (d f : State) (k l : SinkState) (t u : Tally) (x : S) (y : T) → Goes d k t (Ok x) f l u → Goes d k t (Ok y) f l u
goes_ok {S} {T} d f k l t u x y a = record { device = a.device; prints = a.prints; size = a.size; cause = tt }

-- ---- an error that is handed on

pub steps_ended : {S T : Type 0} (blocks : ℕ) (k l : SinkState) (t u : Tally) (e : Stop) (r : Result T Stop) (f g : Walk → Walk) → IsErrAnd r (λ y. y ≡ e) → ((w : Walk) → Extends (f w) (g w)) → Steps {T = S} blocks k t (Err e) l u f → Steps {T = T} blocks k t r l u g
steps_ended {S} {T} blocks k l t u e (Ok x) f g never more a = absurd never
steps_ended {S} {T} blocks k l t u e (Err y) f g is more a = steps_stopped blocks k l t u e y f g more a

pub tells_ended : {S T : Type 0} (k l : SinkState) (t u : Tally) (e : Stop) (r : Result T Stop) → IsErrAnd r (λ y. y ≡ e) → Tells {T = S} k t (Err e) l u → Tells {T = T} k t r l u
tells_ended {S} {T} k l t u e (Ok x) never a = absurd never
tells_ended {S} {T} k l t u e (Err y) is a = record { prints = a.prints; size = a.size; cause = subst (λ (z : Stop). IsTellCause k z l) (sym is) a.cause }

pub goes_ended : {S T : Type 0} (d f : State) (k l : SinkState) (t u : Tally) (e : Stop) (r : Result T Stop) → IsErrAnd r (λ y. y ≡ e) → Goes {T = S} d k t (Err e) f l u → Goes {T = T} d k t r f l u
goes_ended {S} {T} d f k l t u e (Ok x) never a = absurd never
goes_ended {S} {T} d f k l t u e (Err y) is a = record { device = a.device; prints = a.prints; size = a.size; cause = subst (λ (z : Stop). IsStopCause d k z f l) (sym is) a.cause }

-- nothing more is printed
pub steps_none : {T : Type 0} (blocks : ℕ) (k : SinkState) (t u : Tally) (e : Stop) (r : Result T Stop) (g : Walk → Walk) → IsErrAnd r (λ y. y ≡ e) → ((w : Walk) → Extends w (g w)) → Steps {T = T} blocks k t r k u g
steps_none {T} blocks k t u e (Ok x) g never more = absurd never
steps_none {T} blocks k t u e (Err y) g is more = record {
  tally = λ w h. tt;
  whole = λ w base h at. tt;
  part = λ w base h at. part_longer w (g w) base k (more w) (record { part = fault_lines w.faults; rest = []; splits = sym (append-nil (fault_lines w.faults)); written = at });
}

-- ---- the image that is settled stays

pub ground_later : (s : Settled) (d e : State) (image : Image) → LeavesDevice d e → IsGround s d image → IsGround s e image
ground_later s d e image l g = record {
  told = l.goes.reads.1 g.told;
  settled = λ b. g.settled b ∙ ap (λ (i : Image). block_at i (home_in s.log.homes b)) (sym l.idle.seen);
  bitmaps = g.bitmaps;
}
