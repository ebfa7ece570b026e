-- Writes and reads one after the other.
use Rattle.std.proofs.Common.{◌≡◌, ℕ, ◌<◌, List, [], ◌∷◌, ◌++◌, length, take, drop, append_assoc, refl, sym, ◌∙◌, ap, arith, ⊎_elim, Option, Some, Result, Ok, Err}
use Rattle.std.proofs.lemmas.List.{take-append-drop, append-nil}
use Rattle.r4_outside.specs.Device.{Rose}
use Rattle.r4_outside.specs.Source.{TakesFirst}
use Rattle.r4_outside.specs.Sink.{SinkState, AppendsPart, Appends}

-- no write
pub appends_nothing : {T E : Type 0} (s : SinkState) (v : T) → Appends {E = E} [] s (Ok v) s
appends_nothing {T} {E} s v = record {
  told = (λ h. h, λ h. h);
  faults = omega arith;
  cause = tt;
  whole = λ before is. is ∙ ap (λ (l : List ℕ). Some l) (sym (append-nil before));
  part = λ before is. tt;
}

-- a write after writes that went well
pub appends_both : {S T E F : Type 0} (a b : List ℕ) (s t u : SinkState) (v : S) (r : Result T E) → Appends {E = F} a s (Ok v) t → Appends b t r u → Appends (a ++ b) s r u
appends_both {S} {T} {E} {F} a b s t u v (Ok w) f g = record {
  told = (λ h. f.told.0 (g.told.0 h), λ h. g.told.1 (f.told.1 h));
  faults = omega (arith, f.faults, g.faults);
  cause = tt;
  whole = λ before is. g.whole (before ++ a) (f.whole before is) ∙ ap (λ (l : List ℕ). Some l) (append_assoc before a b);
  part = λ before is. tt;
}
appends_both {S} {T} {E} {F} a b s t u v (Err e) f g = record {
  told = (λ h. f.told.0 (g.told.0 h), λ h. g.told.1 (f.told.1 h));
  faults = omega (arith, f.faults, g.faults);
  cause = let rose : Rose t.faults u.faults = g.cause in omega (arith, f.faults, rose);
  whole = λ before is. tt;
  part = λ before is. let p : AppendsPart b (before ++ a) u.written = g.part (before ++ a) (f.whole before is) in record {
    part = a ++ p.part;
    rest = p.rest;
    splits = ap (λ (l : List ℕ). a ++ l) p.splits ∙ sym (append_assoc a p.part p.rest);
    written = p.written ∙ ap (λ (l : List ℕ). Some l) (append_assoc before a p.part);
  };
}

-- no write after one that failed
pub appends_stopped : {S T E F : Type 0} (a b : List ℕ) (s t : SinkState) (e : E) (e' : F) → Appends {T = S} a s (Err e) t → Appends {T = T} (a ++ b) s (Err e') t
appends_stopped {S} {T} {E} {F} a b s t e e' f = record {
  told = f.told;
  faults = f.faults;
  cause = f.cause;
  whole = λ before is. tt;
  part = λ before is. let p : AppendsPart a before t.written = f.part before is in record {
    part = p.part;
    rest = p.rest ++ b;
    splits = ap (λ (l : List ℕ). l ++ b) p.splits ∙ append_assoc p.part p.rest b;
    written = p.written;
  };
}

-- the bytes that came and those that are still to come
pub took_splits : (n : ℕ) (into_old into_new rest : List ℕ) (after : Option (List ℕ)) → TakesFirst n into_old into_new rest after → rest ≡ take n into_new ++ drop n rest
took_splits n into_old into_new rest after t = sym (take-append-drop n rest) ∙ ap (λ (l : List ℕ). l ++ drop n rest) (sym t.bytes)

-- no bytes for a slice that is not empty: nothing is still to come
pub took_none : (into_old into_new rest : List ℕ) (after : Option (List ℕ)) → TakesFirst 0 into_old into_new rest after → 0 < length into_old → rest ≡ []
took_none into_old into_new [] after t some = refl
took_none into_old into_new (x ∷ rest) after t some = absurd (⊎_elim (λ none. omega (arith, none, some)) (λ none. omega (arith, none)) (t.stops refl))
