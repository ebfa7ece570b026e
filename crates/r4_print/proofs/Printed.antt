-- What was written so far, and what is written then.
use Rattle.std.proofs.Common.{◌≡◌, ℕ, suc, ◌+◌, ◌≤◌, List, [], ◌∷◌, ◌++◌, length, take, drop, refl, sym, ap, subst}
use Rattle.std.proofs.Common.{◌∙◌, arith}
use Rattle.std.proofs.Math.Seq.{take-suc}
use Rattle.std.proofs.lemmas.Grind.{flat_map-append}
use Rattle.std.proofs.lemmas.List.{append-nil, append_assoc, length-reverse, take-append-drop, take_all}
use Rattle.std.proofs.lemmas.Option.{get_or_from_slice_get, slice_get_within}
use Rattle.std.specs.Prelude.{Some, Result, Ok, Err, flat_map, reverse, slice_get}
use Rattle.std.specs.Result.{IsErrAnd}
use Rattle.r4_outside.specs.Sink.{Appends, SinkState}
use Rattle.r4_outside.specs.declared.device.Failed.{Failed}
use Rattle.r4_trace.specs.Text.{entry_text, trace_text}
use Rattle.r4_trace.specs.declared.entry.Entry.{Entry}
use Rattle.r4_print.specs.Printing.{HasCause, Prints}
use Rattle.r4_print.specs.declared.printing.PrintFault.{PrintFault}
use Rattle.r4_print.specs.declared.printing.PrintFault.TheVariants.{Memory, Sink}

abbrev pub Printed : Type 0
Printed = Result (Unit {0}) PrintFault

abbrev pub Adds : List ℕ → SinkState → Printed → SinkState → Type 0
Adds bytes s r t = Prints {T = Unit {0}} bytes s r t

pub nothing_printed : (s : SinkState) → Adds [] s (Ok tt) s
nothing_printed s = record {
  told = (λ t. t, λ t. t);
  faults = omega arith;
  cause = tt;
  whole = λ before is. is ∙ sym (ap (λ (l : List ℕ). Some l) (append-nil before));
  part = λ before is. tt;
}

-- the cause is one from an earlier count on
caused : (a b c : SinkState) (e : PrintFault) → a.faults ≤ b.faults → HasCause b c e → HasCause a c e
caused a b c Sink le rose = omega (arith, le, rose)
caused a b c Memory le rose = tt

-- and then so
pub then_printed : (xs ys : List ℕ) (a b c : SinkState) → Adds xs a (Ok tt) b → Adds ys b (Ok tt) c
    → Adds (xs ++ ys) a (Ok tt) c
then_printed xs ys a b c f g =
    let x = f.faults in
    let y = g.faults in
    record {
      told = (λ t. f.told.0 (g.told.0 t), λ t. g.told.1 (f.told.1 t));
      faults = omega (arith, x, y);
      cause = tt;
      whole = λ before is. g.whole (before ++ xs) (f.whole before is)
          ∙ ap (λ (l : List ℕ). Some l) (append_assoc before xs ys);
      part = λ before is. tt;
    }

-- or it stops, before the rest
pub then_stopped : (xs ys rest : List ℕ) (a b c : SinkState) (e : PrintFault) → Adds xs a (Ok tt) b
    → Adds ys b (Err e) c → Adds (xs ++ (ys ++ rest)) a (Err e) c
then_stopped xs ys rest a b c e f g =
    let x = f.faults in
    let y = g.faults in
    record {
      told = (λ t. f.told.0 (g.told.0 t), λ t. g.told.1 (f.told.1 t));
      faults = omega (arith, x, y);
      cause = caused a b c e x g.cause;
      whole = λ before is. tt;
      part = λ before is.
          let p = g.part (before ++ xs) (f.whole before is) in
          record {
            part = xs ++ p.part;
            rest = p.rest ++ rest;
            splits = ap (λ (l : List ℕ). xs ++ (l ++ rest)) p.splits
                ∙ ap (λ (l : List ℕ). xs ++ l) (append_assoc p.part p.rest rest)
                ∙ sym (append_assoc xs p.part (p.rest ++ rest));
            written = p.written ∙ ap (λ (l : List ℕ). Some l) (append_assoc before xs p.part);
          };
    }

-- one write of the sink
pub written : (xs : List ℕ) (a b : SinkState) → Appends {T = Unit {0}} {E = Failed} xs a (Ok tt) b → Adds xs a (Ok tt) b
written xs a b f = record {
  told = f.told;
  faults = f.faults;
  cause = tt;
  whole = f.whole;
  part = λ before is. tt;
}

pub not_written : (xs : List ℕ) (a b : SinkState) (e : Failed) → Appends {T = Unit {0}} {E = Failed} xs a (Err e) b
    → Adds xs a (Err Sink) b
not_written xs a b e f = record {
  told = f.told;
  faults = f.faults;
  cause = f.cause;
  whole = λ before is. tt;
  part = f.part;
}

-- no memory was found, and nothing is written
pub no_line : (xs : List ℕ) (a : SinkState) → Adds xs a (Err Memory) a
no_line xs a = record {
  told = (λ t. t, λ t. t);
  faults = omega arith;
  cause = tt;
  whole = λ before is. tt;
  part = λ before is. record {
    part = [];
    rest = xs;
    splits = refl;
    written = is ∙ sym (ap (λ (l : List ℕ). Some l) (append-nil before));
  };
}

-- ---- the lines of the first entries

abbrev pub lines_before : (n : ℕ) → List Entry → List ℕ
lines_before n entries = flat_map entry_text (take n (reverse entries))

abbrev pub lines_behind : (n : ℕ) → List Entry → List ℕ
lines_behind n entries = flat_map entry_text (drop (suc n) (reverse entries))

module _ (entries : List Entry) (i : ℕ) (x : Entry) (at : slice_get (reverse entries) i ≡ Some x) where
  abbrev is_next : take (suc i) (reverse entries) ≡ take i (reverse entries) ++ (x ∷ [])
  is_next = take-suc (reverse entries) i x (slice_get_within (reverse entries) i x at)
      ∙ ap (λ (y : Entry). take i (reverse entries) ++ (y ∷ [])) (get_or_from_slice_get (reverse entries) i x x at)

  one_line : flat_map entry_text (x ∷ []) ≡ entry_text x
  one_line = append-nil (entry_text x)

  pub lines_next : lines_before (suc i) entries ≡ lines_before i entries ++ entry_text x
  lines_next = ap (flat_map entry_text) is_next
      ∙ (flat_map-append entry_text (take i (reverse entries)) (x ∷ [])
      ∙ ap (λ (l : List ℕ). lines_before i entries ++ l) one_line)

  pub lines_parted : trace_text entries ≡ lines_before i entries ++ (entry_text x ++ lines_behind i entries)
  lines_parted =
      ap (flat_map entry_text) (sym (take-append-drop (suc i) (reverse entries)))
      ∙ (flat_map-append entry_text (take (suc i) (reverse entries)) (drop (suc i) (reverse entries))
      ∙ (ap (λ (l : List ℕ). l ++ lines_behind i entries) lines_next
      ∙ append_assoc (lines_before i entries) (entry_text x) (lines_behind i entries)))

pub all_lines : (entries : List Entry) → lines_before (length entries) entries ≡ trace_text entries
all_lines entries = ap (flat_map entry_text)
    (ap (λ (n : ℕ). take n (reverse entries)) (sym (length-reverse entries))
    ∙ take_all (length (reverse entries)) (reverse entries) (omega arith))

-- an error that is handed on
pub handed_on : (bytes : List ℕ) (a b : SinkState) (e : PrintFault) (r : Printed) → IsErrAnd r (λ y. y ≡ e)
    → Adds bytes a (Err e) b → Adds bytes a r b
handed_on bytes a b e (Ok v) is f = absurd is
handed_on bytes a b e (Err y) is f = subst (λ (x : PrintFault). Adds bytes a (Err x) b) (sym is) f

module _ (entries : List Entry) (i : ℕ) (x : Entry) (at : slice_get (reverse entries) i ≡ Some x) (a b c : SinkState)
    (f : Adds (lines_before i entries) a (Ok tt) b) where
  pub one_more : Adds (entry_text x) b (Ok tt) c → Adds (lines_before (i + 1) entries) a (Ok tt) c
  one_more g =
      let next : suc i ≡ i + 1 = omega arith in
      subst (λ (l : List ℕ). Adds l a (Ok tt) c)
      (sym (sym (ap (λ (n : ℕ). lines_before n entries) next) ∙ lines_next entries i x at))
      (then_printed (lines_before i entries) (entry_text x) a b c f g)

  pub ends_there : (e : PrintFault) → Adds (entry_text x) b (Err e) c → Adds (trace_text entries) a (Err e) c
  ends_there e g = subst (λ (l : List ℕ). Adds l a (Err e) c) (sym (lines_parted entries i x at))
      (then_stopped (lines_before i entries) (entry_text x) (lines_behind i entries) a b c e f g)
