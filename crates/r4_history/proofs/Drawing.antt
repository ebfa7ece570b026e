-- Ids are drawn once, and within what the job may draw.
use Rattle.std.proofs.Common.{◌≡◌, ◌⊎◌, inl, inr, ⊎_elim, ℕ, zero, suc, ◌+◌, ◌<◌, ◌≤◌, ◌==◌, cond, min, List, [], ◌∷◌, take, slice_get, Option, Some, None, refl, sym, ◌∙◌, ap, subst, arith, ◌++◌}
use Rattle.std.proofs.lemmas.Bool.{cases_eq, cond-true, cond-false, eq-eqb, ne_eqb}
use Rattle.r4_content.specs.declared.command.Command.{Command}
use Rattle.r4_content.specs.declared.reply.Reply.{Reply}
use Rattle.r4_base.specs.declared.things.ScriptNo.{ScriptNo}
use Rattle.r4_base.specs.declared.things.TxnNo.{TxnNo}
use Rattle.r4_trace.specs.declared.entry.Entry.{Entry}
use Rattle.r4_trace.specs.declared.entry.Entry.TheVariants.{Done}
use Rattle.r4_trace.specs.Ids.{IsDrawn, id_of, makers, makers_in, one_for, no_id}
use Rattle.r4_trace.specs.Job.{Asked, commands_at, commands_of, pushed_at}
use Rattle.r4_history.specs.Drawn.{makers_by, makers_from}

abbrev pub raised : (ℕ → ℕ) → (script : ℕ) → ℕ → ℕ
raised ahead s q = cond (q == s) (ahead q + 1) (ahead q)

-- the next id, and for each script the one that its next command has drawn; `ahead` counts the commands that are
-- answered or have their numbers
pub record Ids : Type 0 where
  pub next : ℕ
  pub drawn : ℕ → Option ℕ
  pub ahead : ℕ → ℕ

pub record Drawn (o : ℕ) (job : Asked) (ids : Ids) (trace : List Entry) : Type 0 where
  pub least : o ≤ ids.next
  pub few : ids.next ≤ o + makers_by job ids.ahead
  pub small : ids.next ≤ no_id
  pub done : (x : ℕ) → IsDrawn trace x → x < no_id → x < ids.next
  pub waits : (s x : ℕ) → ids.drawn s ≡ Some x
      → (o ≤ x) × (x < o + makers_by job ids.ahead) × (x < no_id → x < ids.next)
  pub apart : (s x : ℕ) → ids.drawn s ≡ Some x → x < no_id → IsDrawn trace x → ⊥
  pub each : (s q x : ℕ) → ids.drawn s ≡ Some x → ids.drawn q ≡ Some x → x < no_id → s ≡ q

-- a script's next command draws an id
abbrev pub draw : (script : ℕ) → Ids → Ids
draw s ids = record {
  next = min (ids.next + 1) no_id;
  drawn = λ q. cond (q == s) (Some ids.next)
      (ids.drawn q);
  ahead = raised ids.ahead s;
}

-- the command is answered by a Done
abbrev pub use_up : (script : ℕ) → Ids → Ids
use_up s ids = record ids { drawn = λ q. cond (q == s) None (ids.drawn q) }

take_few : (n : ℕ) (cs : List Command) → makers_in (take n cs) ≤ makers_in cs
take_few zero cs = omega arith
take_few (suc n) [] = omega arith
take_few (suc n) (c ∷ cs) = let h = take_few n cs in omega (arith, h)

pub from_few : (i : ℕ) (job : Asked) (ahead : ℕ → ℕ) → makers_from i job ahead ≤ makers job
from_few i [] ahead = omega arith
from_few i (cs ∷ job) ahead = let h = from_few (i + 1) job ahead in let g = take_few (ahead i) cs in omega (arith, h, g)

one_is : (o : Option ℕ) (y : ℕ) → o ≡ Some y → one_for o ≡ 1
one_is None y e = absurd (cc e)
one_is (Some x) y e = refl

take_more : (n : ℕ) (cs : List Command) (c : Command) (y : ℕ) → slice_get cs n ≡ Some c → id_of c ≡ Some y
    → makers_in (take (suc n) cs) ≡ makers_in (take n cs) + 1
take_more n [] c y at is = absurd (cc at)
take_more zero (x ∷ cs) c y at is = let e : x ≡ c = cc at in let o = one_is (id_of x) y (ap id_of e ∙ is) in omega
    (arith, o)
take_more (suc n) (x ∷ cs) c y at is = let h = take_more n cs c y at is in omega (arith, h)

behind : (i s : ℕ) (job : Asked) (ahead : ℕ → ℕ) → s < i → makers_from i job (raised ahead s) ≡ makers_from i job ahead
behind i s [] ahead lt = refl
behind i s (cs ∷ job) ahead lt =
    let here : raised ahead s i ≡ ahead i = cond-false (i == s) (ahead i + 1) (ahead i)
    (ne_eqb i s (λ same. absurd (omega (arith, same, lt)))) in
    let rest = behind (i + 1) s job ahead (omega (arith, lt)) in
    ap (λ (n : ℕ). makers_in (take n cs) + makers_from (i + 1) job (raised ahead s)) here
    ∙ ap (λ (n : ℕ). makers_in (take (ahead i) cs) + n) rest

more_at : (i n : ℕ) (job : Asked) (ahead : ℕ → ℕ) (s : ℕ) (c : Command) (y : ℕ) → s ≡ i + n
    → slice_get (commands_at job n) (ahead s) ≡ Some c → id_of c ≡ Some y
    → makers_from i job (raised ahead s) ≡ makers_from i job ahead + 1
more_at i n [] ahead s c y is at some = absurd (cc at)
more_at i zero (cs ∷ job) ahead s c y is at some =
    let same : s ≡ i = omega (arith, is) in
    let here : raised ahead s i ≡ suc (ahead i) = cond-true (i == s) (ahead i + 1) (ahead i) (eq-eqb i s (sym same))
    ∙ omega arith in
    let more = take_more (ahead i) cs c y (subst (λ (q : ℕ). slice_get cs (ahead q) ≡ Some c) same at) some in
    let rest = behind (i + 1) s job ahead (omega (arith, same)) in
    let first = ap (λ (k : ℕ). makers_in (take k cs)) here ∙ more in
    omega (arith, first, rest)
more_at i (suc n) (cs ∷ job) ahead s c y is at some =
    let here : raised ahead s i ≡ ahead i = cond-false (i == s) (ahead i + 1) (ahead i)
    (ne_eqb i s (λ same. absurd (omega (arith, same, is)))) in
    let rest = more_at (i + 1) n job ahead s c y (omega (arith, is)) at some in
    let first = ap (λ (k : ℕ). makers_in (take k cs)) here in
    omega (arith, first, rest)

pub more : (job : Asked) (ahead : ℕ → ℕ) (s : ℕ) (c : Command) (y : ℕ)
    → slice_get (commands_of job s) (ahead s) ≡ Some c → id_of c ≡ Some y
    → makers_by job (raised ahead s) ≡ makers_by job ahead + 1
more job ahead zero c y at some = absurd (cc at)
more job ahead (suc n) c y at some = more_at 1 n job ahead (suc n) c y (omega arith) at some

module _ (o : ℕ) (job : Asked) (ids : Ids) (trace : List Entry) (h : Drawn o job ids trace) where
  pub drawn_by : (s q x : ℕ) → cond (q == s) (Some ids.next) (ids.drawn q) ≡ Some x
      → ((q ≡ s) × (x ≡ ids.next)) ⊎ ((q ≡ s → ⊥) × (ids.drawn q ≡ Some x))
  drawn_by s q x is = elim (cases_eq q s) [
    | inl same ↦ let now = cond-true (q == s) (Some ids.next) (ids.drawn q) (eq-eqb q s same) in inl
        (same, cc (now, is))
    | inr other ↦ let now = cond-false (q == s) (Some ids.next) (ids.drawn q) (ne_eqb q s other) in inr
        (other, sym now ∙ is)
  ]

  pub drawn_on : (s : ℕ) (c : Command) (y : ℕ) → slice_get (commands_of job s) (ids.ahead s) ≡ Some c
      → id_of c ≡ Some y → Drawn o job (draw s ids) trace
  drawn_on s c y at some =
      let grows = more job ids.ahead s c y at some in
      record {
        least = omega (arith, h.least, h.small);
        few = omega (arith, h.few, grows);
        small = omega arith;
        done = λ x d lt. (let b = h.done x d lt in omega (arith, b, lt));
        waits = λ q x is. ⊎_elim
            (λ new. (let l = h.least in
            (omega (arith, new.1, l), omega (arith, new.1, h.few, grows), λ lt. omega (arith, new.1, lt))))
            (λ was. (let b = h.waits q x was.1 in
            (b.0, omega (arith, b.1, grows), λ lt. (let e = b.2 lt in omega (arith, e, lt)))))
            (drawn_by s q x is);
        apart = λ q x is lt d. ⊎_elim (λ new. (let b = h.done x d lt in absurd (omega (arith, b, new.1))))
            (λ was. h.apart q x was.1 lt d) (drawn_by s q x is);
        each = λ q p x iq ip lt. ⊎_elim
            (λ nq. ⊎_elim (λ np. nq.0 ∙ sym np.0)
            (λ wp. (let b = (h.waits p x wp.1).2 lt in absurd (omega (arith, b, nq.1)))) (drawn_by s p x ip))
            (λ wq. ⊎_elim (λ np. (let b = (h.waits q x wq.1).2 lt in absurd (omega (arith, b, np.1))))
            (λ wp. h.each q p x wq.1 wp.1 lt) (drawn_by s p x ip))
            (drawn_by s q x iq);
      }

  pub used_by : (s q x : ℕ) → cond (q == s) None (ids.drawn q) ≡ Some x → (q ≡ s → ⊥) × (ids.drawn q ≡ Some x)
  used_by s q x is = elim (cases_eq q s) [
    | inl same ↦ let now = cond-true (q == s) None (ids.drawn q) (eq-eqb q s same) in absurd (cc (now, is))
    | inr other ↦ let now = cond-false (q == s) None (ids.drawn q) (ne_eqb q s other) in (other, sym now ∙ is)
  ]

  -- a Done with the id that its script has drawn
  pub done_on : (u : TxnNo) (s : ScriptNo) (i : ℕ) (c : Command) (r : Reply) (x : ℕ) → ids.drawn s.0 ≡ Some x
      → id_of c ≡ Some x → Drawn o job (use_up s.0 ids) (Done u s i c r ∷ trace)
  done_on u s i c r x has is = record {
    least = h.least;
    few = h.few;
    small = h.small;
    done = λ y d lt. ⊎_elim (λ new. (let same : x ≡ y = cc (is, new) in (h.waits s.0 y (has ∙ ap Some same)).2 lt))
        (λ was. h.done y was lt) d;
    waits = λ q y w. h.waits q y (used_by s.0 q y w).1;
    apart = λ q y w lt d. (let v = used_by s.0 q y w in ⊎_elim
        (λ new. (let same : x ≡ y = cc (is, new) in v.0 (h.each q s.0 y v.1 (has ∙ ap Some same) lt)))
        (λ was. h.apart q y v.1 lt was) d);
    each = λ q p y wq wp lt. h.each q p y (used_by s.0 q y wq).1 (used_by s.0 p y wp).1 lt;
  }

  -- a refusal: the id is used up
  pub refused_on : (s : ℕ) → Drawn o job (use_up s ids) trace
  refused_on s = record {
    least = h.least;
    few = h.few;
    small = h.small;
    done = h.done;
    waits = λ q y w. h.waits q y (used_by s q y w).1;
    apart = λ q y w lt d. h.apart q y (used_by s q y w).1 lt d;
    each = λ q p y wq wp lt. h.each q p y (used_by s q y wq).1 (used_by s p y wp).1 lt;
  }

  -- more commands are counted, of the same job or of one that has grown
  pub room_on : (to : Asked) (ahead : ℕ → ℕ) → makers_by job ids.ahead ≤ makers_by to ahead
      → Drawn o to (record ids { ahead = ahead }) trace
  room_on to ahead le = record {
    least = h.least;
    few = omega (arith, h.few, le);
    small = h.small;
    done = h.done;
    waits = λ q y w. (let v = h.waits q y w in (v.0, omega (arith, v.1, le), v.2));
    apart = h.apart;
    each = h.each;
  }

-- ---- more commands, and a job that grows

take_mono : (m n : ℕ) (cs : List Command) → m ≤ n → makers_in (take m cs) ≤ makers_in (take n cs)
take_mono zero n cs le = omega arith
take_mono (suc m) zero cs le = absurd (omega (arith, le))
take_mono (suc m) (suc n) [] le = omega arith
take_mono (suc m) (suc n) (c ∷ cs) le = let h = take_mono m n cs (omega (arith, le)) in omega (arith, h)

pub from_mono : (i : ℕ) (job : Asked) (ahead now : ℕ → ℕ) → ((s : ℕ) → ahead s ≤ now s)
    → makers_from i job ahead ≤ makers_from i job now
from_mono i [] ahead now le = omega arith
from_mono i (cs ∷ job) ahead now le = let h = from_mono (i + 1) job ahead now le in let g = take_mono (ahead i)
    (now i) cs (le i) in omega (arith, h, g)

take_grown : (n : ℕ) (cs : List Command) (c : Command) → makers_in (take n cs) ≤ makers_in (take n (cs ++ c ∷ []))
take_grown zero cs c = omega arith
take_grown (suc n) [] c = omega arith
take_grown (suc n) (x ∷ cs) c = let h = take_grown n cs c in omega (arith, h)

pub from_grown : (i : ℕ) (job : Asked) (n : ℕ) (c : Command) (ahead : ℕ → ℕ)
    → makers_from i job ahead ≤ makers_from i (pushed_at job n c) ahead
from_grown i [] n c ahead = omega arith
from_grown i (cs ∷ job) zero c ahead = let h = take_grown (ahead i) cs c in omega (arith, h)
from_grown i (cs ∷ job) (suc n) c ahead = let h = from_grown (i + 1) job n c ahead in omega (arith, h)
