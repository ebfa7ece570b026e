-- What is counted of a walk, and what is printed of it, as one thing more is met.
use Rattle.std.proofs.Common.{◌≡◌, ℕ, ◌+◌, Bool, true, false, List, [], ◌∷◌, ◌++◌, sym, ap, subst, ◌∙◌, arith}
use Rattle.std.specs.Prelude.{Option, Some, None, Ok, Err, length, ◌||◌, ◌==◌}
use Rattle.std.proofs.Common.{inl, inr}
use Rattle.std.proofs.lemmas.Bool.{cases_eq, eq-eqb}
use Rattle.std.proofs.lemmas.Bool.Decides.{nat_tests}
use Rattle.std.proofs.lemmas.List.{append-nil, append_assoc, length-append}
use Rattle.std.proofs.lemmas.List.Sums.{sum_by-cons}
use Rattle.r4_outside.specs.Device.{next}
use Rattle.r4_outside.specs.Sink.{SinkState, Appends}
use Rattle.r4_base.specs.Tree.{Node}
use Rattle.r4_base.specs.Value.{Value}
use Rattle.r4_space.specs.Bitmaps.{marks}
use Rattle.r4_list.proofs.Stages.{appended}
use Rattle.r4_check.specs.Blocks.{MarksOneMore}
use Rattle.r4_check_objects.specs.Faults.{fault_at, fault_line, fault_lines}
use Rattle.r4_check.specs.Looking.{Gathers, IsGathered, IsTally, Steps, Tells, TellsOne}
use Rattle.r4_check_objects.specs.Held.{counted}
use Rattle.r4_check.specs.Walk.{Walk, leaf_at, objects_met, stats_in, with_cell, with_fault, with_gap, with_reached}
use Rattle.std.specs.Option.{option_or}
use Rattle.r4_check_objects.specs.Held.{held_in}
use Rattle.r4_check_objects.specs.declared.fault.Fault.{Fault}
use Rattle.r4_check_objects.specs.declared.held.Held.{Held}
use Rattle.r4_check_objects.specs.declared.fault.What.{What}
use Rattle.r4_check.specs.declared.stop.Stop.TheVariants.{Sink}
use Rattle.r4_check.specs.declared.tally.Tally.{Tally}
use Rattle.r4_check.proofs.Steps.{lines_both, steps_noted}

same_gathered : (cells : List (ℕ × Node Value)) (t u : Tally) → u.gathered ≡ t.gathered → IsGathered cells t.gathered → IsGathered cells u.gathered
same_gathered cells t u same g = subst (IsGathered cells) (sym same) g

pub tally_reached : (blocks b : ℕ) (w : Walk) (t u : Tally) → IsTally blocks w t → MarksOneMore blocks b t.reached.items u.reached.items → u.gathered ≡ t.gathered → u.faults ≡ t.faults → u.whole ≡ t.whole → IsTally blocks (with_reached b w) u
tally_reached blocks b w t u h m o f l = record {
  reached = λ i lt. m.each i lt ∙ ap (λ (x : Bool). b == i || x) (h.reached i lt);
  gathered = same_gathered w.cells t u o h.gathered;
  faults = f ∙ h.faults;
  whole = l ∙ h.whole;
}

pub tally_cell : (blocks b : ℕ) (c : Node Value) (w : Walk) (t u : Tally) → IsTally blocks w t → u.reached ≡ t.reached → Gathers b c t.gathered u.gathered → u.faults ≡ t.faults → u.whole ≡ t.whole → IsTally blocks (with_cell b c w) u
tally_cell blocks b c w t u h r g f l =
    let one = sum_by-cons (λ (x : ℕ × Node Value). stats_in x.1) (b, c) w.cells in
    let sum : objects_met w + stats_in c ≡ objects_met (with_cell b c w) = omega (arith, one) in
    record {
      reached = λ i lt. ap (λ x. marks x.items i) r ∙ h.reached i lt;
      gathered = record {
        objects = g.objects (objects_met w) h.gathered.objects ∙ ap counted sum;
        found = g.found ∙ ap (λ (l : List Held). l ++ held_in b c) h.gathered.found;
        leaf = g.leaf ∙ ap (λ (o : Option ℕ). option_or o (leaf_at b c)) h.gathered.leaf;
      };
      faults = f ∙ h.faults;
      whole = l ∙ h.whole;
    }

pub tally_gap : (blocks : ℕ) (w : Walk) (t u : Tally) → IsTally blocks w t → u.reached ≡ t.reached → u.gathered ≡ t.gathered → u.faults ≡ t.faults → u.whole ≡ false → IsTally blocks (with_gap w) u
tally_gap blocks w t u h r o f l = record {
  reached = λ i lt. ap (λ x. marks x.items i) r ∙ h.reached i lt;
  gathered = same_gathered w.cells t u o h.gathered;
  faults = f ∙ h.faults;
  whole = l;
}

one_counted : (n t u : ℕ) → t ≡ counted n → u ≡ next t → u ≡ counted (n + 1)
one_counted n t u is more = omega (arith, is, more)

pub tally_fault : (blocks b : ℕ) (what : What) (w : Walk) (t u : Tally) → IsTally blocks w t → TellsOne t u → IsTally blocks (with_fault b (Some what) w) u
tally_fault blocks b what w t u h m =
    let long : length w.faults + 1 ≡ length (w.faults ++ fault_at b what ∷ []) = sym (length-append w.faults (fault_at b what ∷ [])) in
    record {
      reached = λ i lt. ap (λ x. marks x.items i) m.reached ∙ h.reached i lt;
      gathered = same_gathered w.cells t u m.gathered h.gathered;
      faults = one_counted (length w.faults) t.faults u.faults h.faults m.faults ∙ ap counted long;
      whole = m.whole ∙ h.whole;
    }

no_more : (b : ℕ) (w : Walk) → (with_fault b None w).faults ≡ w.faults
no_more b w = append-nil w.faults

pub steps_right : {T : Type 0} (blocks b : ℕ) (k : SinkState) (t : Tally) (x : T) → Steps blocks k t (Ok x) k t (with_fault b None)
steps_right {T} blocks b k t x = steps_noted blocks k t t x (with_fault b None) (no_more b)
    (λ w h. record { reached = h.reached; gathered = h.gathered; faults = h.faults ∙ ap (λ (l : List Fault). counted (length l)) (sym (no_more b w)); whole = h.whole })

one_line : (b : ℕ) (what : What) (w : Walk) (base : List ℕ) → (base ++ fault_lines w.faults) ++ fault_line (fault_at b what) ≡ base ++ fault_lines (with_fault b (Some what) w).faults
one_line b what w base =
    append_assoc base (fault_lines w.faults) (fault_line (fault_at b what))
    ∙ ap (λ (l : List ℕ). base ++ (fault_lines w.faults ++ l)) (sym (append-nil (fault_line (fault_at b what))))
    ∙ ap (λ (l : List ℕ). base ++ l) (sym (lines_both w.faults (fault_at b what ∷ [])))

pub steps_wrong : {T E : Type 0} (blocks b : ℕ) (what : What) (k l : SinkState) (t u : Tally) (v x : T) → Appends {E = E} (fault_line (fault_at b what)) k (Ok v) l → TellsOne t u → Steps blocks k t (Ok x) l u (with_fault b (Some what))
steps_wrong {T} {E} blocks b what k l t u v x a m = record {
  tally = λ w h. tally_fault blocks b what w t u h m;
  whole = λ w base h is. a.whole (base ++ fault_lines w.faults) is ∙ ap (λ (s : List ℕ). Some s) (one_line b what w base);
  part = λ w base h is. tt;
}

pub steps_cut : {T E : Type 0} (blocks b : ℕ) (what : What) (k l : SinkState) (t u : Tally) (e : E) → Appends {T = T} (fault_line (fault_at b what)) k (Err e) l → Steps {T = T} blocks k t (Err Sink) l u (with_fault b (Some what))
steps_cut {T} {E} blocks b what k l t u e a = record {
  tally = λ w h. tt;
  whole = λ w base h is. tt;
  part = λ w base h is.
      let p = a.part (base ++ fault_lines w.faults) is in
      record {
        part = fault_lines w.faults ++ p.part;
        rest = p.rest;
        splits = lines_both w.faults (fault_at b what ∷ []) ∙ ap (λ (s : List ℕ). fault_lines w.faults ++ s) (append-nil (fault_line (fault_at b what)) ∙ p.splits) ∙ sym (append_assoc (fault_lines w.faults) p.part p.rest);
        written = p.written ∙ ap (λ (s : List ℕ). Some s) (append_assoc base (fault_lines w.faults) p.part);
      };
}

-- the same where what is wrong is told by an equation
pub steps_told : {T E : Type 0} (blocks b : ℕ) (o : Option What) (what : What) → o ≡ Some what → (k l : SinkState) (t u : Tally) (v x : T) → Appends {E = E} (fault_line (fault_at b what)) k (Ok v) l → TellsOne t u → Steps blocks k t (Ok x) l u (with_fault b o)
steps_told {T} {E} blocks b o what is k l t u v x a m = subst (λ (p : Option What). Steps {T = T} blocks k t (Ok x) l u (with_fault b p)) (sym is) (steps_wrong blocks b what k l t u v x a m)

pub steps_untold : {T E : Type 0} (blocks b : ℕ) (o : Option What) (what : What) → o ≡ Some what → (k l : SinkState) (t u : Tally) (e : E) → Appends {T = T} (fault_line (fault_at b what)) k (Err e) l → Steps {T = T} blocks k t (Err Sink) l u (with_fault b o)
steps_untold {T} {E} blocks b o what is k l t u e a = subst (λ (p : Option What). Steps {T = T} blocks k t (Err Sink) l u (with_fault b p)) (sym is) (steps_cut blocks b what k l t u e a)

pub tells_wrong : {T E : Type 0} (text : List ℕ) (k l : SinkState) (t u : Tally) (v x : T) → Appends {E = E} text k (Ok v) l → TellsOne t u → Tells k t (Ok x) l u
tells_wrong {T} {E} text k l t u v x a m = record { prints = appended text k l (Ok v) a; size = ap (λ r. length r.items) m.reached; cause = tt }

pub tells_cut : {T E : Type 0} (text : List ℕ) (k l : SinkState) (t u : Tally) (e : E) → Appends {T = T} text k (Err e) l → TellsOne t u → Tells {T = T} k t (Err Sink) l u
tells_cut {T} {E} text k l t u e a m = record { prints = appended text k l (Err e) a; size = ap (λ r. length r.items) m.reached; cause = a.cause }

-- a block that was reached before is reached again
pub tally_again : (blocks b : ℕ) (w : Walk) (t u : Tally) → IsTally blocks w t → marks t.reached.items b ≡ true → MarksOneMore blocks b t.reached.items u.reached.items → u.gathered ≡ t.gathered → u.faults ≡ t.faults → u.whole ≡ t.whole → IsTally blocks w u
tally_again blocks b w t u h is m o f l = record {
  reached = λ i lt. m.each i lt ∙ same i ∙ h.reached i lt;
  gathered = same_gathered w.cells t u o h.gathered;
  faults = f ∙ h.faults;
  whole = l ∙ h.whole;
}
  where
    same : (i : ℕ) → (b == i || marks t.reached.items i) ≡ marks t.reached.items i
    same i = elim (cases_eq b i) [
      | inl e ↦ ap (λ (x : Bool). x || marks t.reached.items i) (eq-eqb b i e) ∙ sym (ap (marks t.reached.items) (sym e) ∙ is)
      | inr other ↦ let no_more : (b == i) ≡ false = grind (arith, nat_tests) in ap (λ (x : Bool). x || marks t.reached.items i) no_more
    ]
