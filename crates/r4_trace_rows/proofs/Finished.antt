-- Small traces that are whole, by computation.
use Rattle.std.proofs.Common.{◌≡◌, inl, inr, ℕ, zero, suc, ◌<◌, ◌≤◌, ◌==◌, nat_le, Bool, true, ◌&&◌, List, [], ◌∷◌, length, reverse, None, refl, ◌∙◌, ap, sym, arith}
use Rattle.std.proofs.lemmas.Bool.{and_parts, cases_lt, cond-false, leb-true, ne_eqb}
use Rattle.r4_content.specs.declared.command.Command.{Command}
use Rattle.r4_trace.specs.declared.entry.Entry.{Entry}
use Rattle.r4_trace.specs.declared.entry.Entry.TheVariants.{Begin, Done, Refused, Ended, Acked}
use Rattle.r4_trace.specs.Traced.{atom_in, broken_at, committed_in, sealed_in}
use Rattle.r4_trace.specs.Job.{Asked, Outside, Place, answered_at, at_start, begun_at, commands_at, commands_of, ended_at, place, refused_at}
use Rattle.r4_trace.specs.Legal.{IsWhole}
use Rattle.r4_trace.proofs.Stepping.{whole}
use Rattle.r4_trace_rows.specs.Examples.{apart, apart_job, captured, captured_job, inside, inside_job, usual, usual_job, waiting, waiting_job}
use Rattle.r4_trace_rows.proofs.Checked.{each_begun, each_true, is_ordered, is_sealed, ordered_true, sealed_true}

-- each entry is of one of the first n scripts
abbrev scripts_to : (n : ℕ) → List Entry → Bool
scripts_to n [] = true
scripts_to n (Begin u q ∷ older) = nat_le q.0 n && scripts_to n older
scripts_to n (Done u q i c r ∷ older) = nat_le q.0 n && scripts_to n older
scripts_to n (Refused u q i r ∷ older) = nat_le q.0 n && scripts_to n older
scripts_to n (Acked q u c ∷ older) = nat_le q.0 n && scripts_to n older
scripts_to n (e ∷ older) = scripts_to n older

not_it : (n s q : ℕ) → n < s → nat_le q n ≡ true → s ≡ q → ⊥
not_it n s q lt le same = omega (arith, lt, same, leb-true q n le)

-- another script stays at its start
far : (cs : List Command) (n s : ℕ) (trace : List Entry) → n < s → scripts_to n trace ≡ true
    → place cs trace s ≡ at_start
far cs n s [] lt is = refl
far cs n s (Begin u q ∷ older) lt is =
    let p = and_parts (nat_le q.0 n) (scripts_to n older) is in
    cond-false (s == q.0) (begun_at cs u.0 (place cs older s)) (place cs older s) (ne_eqb s q.0 (not_it n s q.0 lt p.0))
    ∙ far cs n s older lt p.1
far cs n s (Done u q i c r ∷ older) lt is =
    let p = and_parts (nat_le q.0 n) (scripts_to n older) is in
    cond-false (s == q.0) (answered_at (place cs older s)) (place cs older s) (ne_eqb s q.0 (not_it n s q.0 lt p.0))
    ∙ far cs n s older lt p.1
far cs n s (Refused u q i r ∷ older) lt is =
    let p = and_parts (nat_le q.0 n) (scripts_to n older) is in
    cond-false (s == q.0) (refused_at (broken_at older) (place cs older s)) (place cs older s)
    (ne_eqb s q.0 (not_it n s q.0 lt p.0))
    ∙ far cs n s older lt p.1
far cs n s (Acked q u c ∷ older) lt is =
    let p = and_parts (nat_le q.0 n) (scripts_to n older) is in
    cond-false (s == q.0) (answered_at (place cs older s)) (place cs older s) (ne_eqb s q.0 (not_it n s q.0 lt p.0))
    ∙ far cs n s older lt p.1
far cs n s (Ended u ∷ older) lt is = ap (ended_at cs u.0) (far cs n s older lt is)
far cs n s (e ∷ older) lt is = far cs n s older lt is

none_at : (job : Asked) (n : ℕ) → length job ≤ n → commands_at job n ≡ []
none_at [] n le = refl
none_at (cs ∷ job) zero le = absurd (omega (arith, le))
none_at (cs ∷ job) (suc n) le = none_at job n (omega (arith, le))

none_beyond : (job : Asked) (s : ℕ) → length job < s → commands_of job s ≡ []
none_beyond job zero lt = absurd (omega (arith, lt))
none_beyond job (suc n) lt = none_at job n (omega (arith, lt))

-- a script is at its end
abbrev AtEnd : Asked → List Entry → ℕ → Type 0
AtEnd job trace s =
    ((place (commands_of job s) trace s).answered ≡ length (commands_of job s))
    × ((place (commands_of job s) trace s).within ≡ Outside)

beyond : (job : Asked) (trace : List Entry) (s : ℕ) → length job < s → scripts_to (length job) trace ≡ true
    → AtEnd job trace s
beyond job trace s lt is =
    let at = far (commands_of job s) (length job) s trace lt is in
    let none = none_beyond job s lt in
    let all = ap (λ (p : Place). p.answered) at ∙ ap (λ (l : List Command). length l) (sym none) in
    (all, ap (λ (p : Place). p.within) at)

up_to_two : (P : ℕ → Type 0) → P 0 → P 1 → P 2 → (s : ℕ) → s ≤ 2 → P s
up_to_two P a b c zero le = a
up_to_two P a b c (suc zero) le = b
up_to_two P a b c (suc (suc zero)) le = c
up_to_two P a b c (suc (suc (suc n))) le = absurd (omega (arith, le))

finished : (job : Asked) (trace : List Entry) → is_ordered trace ≡ true → scripts_to (length job) trace ≡ true
    → length job ≤ 2 → AtEnd job trace 0 → AtEnd job trace 1 → AtEnd job trace 2
    → each_begun (λ t s. is_sealed trace (atom_in trace t)) trace ≡ true
    → sealed_in trace ≡ committed_in trace → broken_at trace ≡ None → IsWhole job trace
finished job trace order all few n0 n1 n2 sealed same sound = whole job trace (ordered_true trace order) (record {
  answered = λ s. (at s).0;
  outside = λ s. (at s).1;
  sealed = λ t s h. sealed_true trace (atom_in trace t)
      (each_true (λ t s. is_sealed trace (atom_in trace t)) trace t s sealed h);
  committed = same;
  sound = sound;
})
  where
    at : (s : ℕ) → AtEnd job trace s
    at s = elim (cases_lt 2 s) [
      | inl more ↦ beyond job trace s (omega (arith, more, few)) all
      | inr le ↦ up_to_two (AtEnd job trace) n0 n1 n2 s le
    ]

pub apart_whole : IsWhole apart_job (reverse apart)
apart_whole =
    finished apart_job (reverse apart) refl refl (omega arith)
    (refl, refl) (refl, refl) (refl, refl) refl refl refl

pub waiting_whole : IsWhole waiting_job (reverse waiting)
waiting_whole =
    finished waiting_job (reverse waiting) refl refl (omega arith)
    (refl, refl) (refl, refl) (refl, refl) refl refl refl

pub captured_whole : IsWhole captured_job (reverse captured)
captured_whole =
    finished captured_job (reverse captured) refl refl (omega arith)
    (refl, refl) (refl, refl) (refl, refl) refl refl refl

pub usual_whole : IsWhole usual_job (reverse usual)
usual_whole =
    finished usual_job (reverse usual) refl refl (omega arith)
    (refl, refl) (refl, refl) (refl, refl) refl refl refl

pub inside_whole : IsWhole inside_job (reverse inside)
inside_whole =
    finished inside_job (reverse inside) refl refl (omega arith)
    (refl, refl) (refl, refl) (refl, refl) refl refl refl
