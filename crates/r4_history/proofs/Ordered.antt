-- What comes next in a script, where its transactions begin outside of one another and end.
use Rattle.std.proofs.Common.{◌≡◌, ◌⊎◌, inl, inr, ⊎_elim, ℕ, zero, suc, ◌+◌, ◌==◌, Bool, true, false, List, [], ◌∷◌, ◌++◌, drop, slice_get, Option, Some, None, refl, sym, ◌∙◌, ap, subst, arith}
use Rattle.std.proofs.lemmas.Bool.{cases_eq, cond-false, cond-true, eq-eqb, false≢true, ne_eqb}
use Rattle.r4_content.specs.declared.command.Command.{Command}
use Rattle.r4_content.specs.declared.command.Command.TheVariants as commands
use Rattle.r4_turns.specs.r4_script.Grammar.{Turns}
use Rattle.r4_turns.specs.r4_script.Spelling.{AreInOrder}
use Rattle.r4_trace.specs.Job.{Answered, Asked, EndsOf, HasNoBegin, Inside, IsAnswered, IsWork, MayBeDone, MayBeRefused, MayBegin, MayEnd, Outside, Place, Single, Within, answered_at, answered_in, begun_at, begun_for, commands_of, end_of, ended_at, next_of, place, refused_at, txn_in}
use Rattle.r4_trace.specs.Order.{IsOrdered}
use Rattle.r4_trace.specs.Traced.{broken_at}
use Rattle.r4_trace.specs.declared.entry.Entry.{Entry}
use Rattle.r4_trace.specs.declared.entry.Entry.TheVariants.{Begin, Done, Refused, Ended, Acked, Broken}
use Rattle.r4_trace.proofs.Stepping.{others_stay}

abbrev pub is_inside : Within → Bool
is_inside (Inside t) = true
is_inside w = false

-- the single command of a transaction that is not answered is there, and is work
abbrev pub IsSingleWork : Within → Option Command → Type 0
IsSingleWork (Single t) (Some c) = IsWork c
IsSingleWork (Single t) None = ⊥
IsSingleWork w o = Unit {0}

drop_next : (cs : List Command) (n : ℕ) (c : Command) → slice_get cs n ≡ Some c → drop n cs ≡ c ∷ drop (suc n) cs
drop_next [] n c e = absurd (cc e)
drop_next (x ∷ cs) zero c e = ap (λ (y : Command). y ∷ cs) (cc e)
drop_next (x ∷ cs) (suc n) c e = drop_next cs n c e

drop_end : (cs : List Command) (n : ℕ) → slice_get cs n ≡ None → drop n cs ≡ []
drop_end [] zero e = refl
drop_end [] (suc n) e = refl
drop_end (x ∷ cs) zero e = absurd (cc e)
drop_end (x ∷ cs) (suc n) e = drop_end cs n e

-- what stands behind the next command
pub in_order_next : (b : Bool) (cs : List Command) (n : ℕ) (c : Command) → AreInOrder b (drop n cs)
    → slice_get cs n ≡ Some c
    → (now : Bool) × Turns c b now × AreInOrder now (drop (n + 1) cs)
in_order_next b cs n c ok at =
    let e : suc n ≡ n + 1 = omega arith in
    let step = subst (AreInOrder b) (drop_next cs n c at) ok in
    (step.0, step.1.0, subst (λ (k : ℕ). AreInOrder step.0 (drop k cs)) e step.1.1)

work_stays : (c : Command) (was now : Bool) → IsWork c → Turns c was now → was ≡ now
work_stays commands.Begin was now work t = absurd work
work_stays commands.End was now work t = absurd work
work_stays commands.Commit was now work t = absurd work
work_stays c was now work t = t

answered_inside : (w : Within) → is_inside (answered_in w) ≡ is_inside w
answered_inside Outside = refl
answered_inside (Inside t) = refl
answered_inside (Single t) = refl
answered_inside (Answered t) = refl

answered_work : (w : Within) (o : Option Command) → IsSingleWork (answered_in w) o
answered_work Outside o = tt
answered_work (Inside t) o = tt
answered_work (Single t) o = tt
answered_work (Answered t) o = tt

end_is : (next : Option Command) (within : Within) (t : ℕ) → MayEnd next within t → txn_in within ≡ Some t
end_is next Outside t h = absurd h
end_is next (Inside u) t h = ap Some (sym h.0)
end_is next (Single u) t h = absurd h
end_is next (Answered u) t h = ap Some (sym h)

module _ (cs : List Command) where
  abbrev pub Fits : Place → Type 0
  Fits p = AreInOrder (is_inside p.within) (drop p.answered cs) × IsSingleWork p.within (slice_get cs p.answered)

  begun_fits : (o : Option Command) (t n : ℕ) → slice_get cs n ≡ o → MayBegin o → AreInOrder false (drop n cs)
      → Fits (begun_for o t n)
  begun_fits None t n at may ok = absurd may
  begun_fits (Some commands.Begin) t n at may ok =
      let step = in_order_next false cs n commands.Begin ok at in
      (subst (λ (b : Bool). AreInOrder b (drop (n + 1) cs)) step.1.1 step.2, tt)
  begun_fits (Some commands.End) t n at may ok = absurd may
  begun_fits (Some commands.Commit) t n at may ok = absurd may
  begun_fits (Some c) t n at may ok = (ok, subst (IsSingleWork (Single t)) (sym at) tt)

  -- one command more is answered, which leaves the script where it is
  passed : (p : Place) (c : Command) → slice_get cs p.answered ≡ Some c → Fits p
      → ((now : Bool) → Turns c (is_inside p.within) now → is_inside p.within ≡ now)
      → Fits (answered_at p)
  passed p c at ok stays =
      let step = in_order_next (is_inside p.within) cs p.answered c ok.0 at in (
        subst (λ (x : Bool). AreInOrder x (drop (p.answered + 1) cs))
            (sym (answered_inside p.within ∙ stays step.0 step.1)) step.2,
        answered_work p.within (slice_get cs (p.answered + 1)),
      )

  done_fits : (p : Place) (o : Option Command) (c : Command) → slice_get cs p.answered ≡ o → MayBeDone o c → Fits p
      → Fits (answered_at p)
  done_fits p None c at may ok = absurd may
  done_fits p (Some had) c at may ok = passed p had at ok (λ now. work_stays had (is_inside p.within) now may.0)

  commit_fits : (p : Place) → slice_get cs p.answered ≡ Some commands.Commit → p.within ≡ Outside → Fits p
      → Fits (answered_at p)
  commit_fits p at out ok = passed p commands.Commit at ok (λ now t. ap is_inside out ∙ sym t.1)

  refused_fits : (p : Place) (o : Option Command) (t : ℕ) → slice_get cs p.answered ≡ o
      → MayBeRefused None o p.within t → Fits p → Fits (answered_at p)
  refused_fits p None t at may ok = absurd may
  refused_fits p (Some commands.Begin) t at may ok = absurd may
  refused_fits p (Some commands.End) t at may ok = absurd may
  refused_fits p (Some commands.Commit) t at may ok = commit_fits p at may.0 ok
  refused_fits p (Some c) t at may ok = passed p c at ok (λ now s. s)

  out_fits : (n : ℕ) → AreInOrder false (drop n cs) → Fits (record { answered = n; within = Outside })
  out_fits n ok = (ok, tt)

  ended_fits : (w : Within) (n u : ℕ) → MayEnd (slice_get cs n) w u → Fits (record { answered = n; within = w })
      → Fits (ended_at cs u (record { answered = n; within = w }))
  ended_fits Outside n u may ok = absurd may
  ended_fits (Single v) n u may ok = absurd may
  ended_fits (Answered v) n u may ok =
      let out : Place = record { answered = n; within = Outside } in
      let stays : Place = record { answered = n; within = Answered v } in
      subst Fits (sym (cond-true (u == v) out stays (eq-eqb u v may))) (out_fits n ok.0)
  ended_fits (Inside v) n u may ok =
      let out : Place = record { answered = end_of (slice_get cs n) n; within = Outside } in
      let stays : Place = record { answered = n; within = Inside v } in
      subst Fits (sym (cond-true (u == v) out stays (eq-eqb u v may.0))) (⊎_elim
      (λ ends.
      (let step = in_order_next true cs n commands.End ok.0 ends in
      subst (λ (o : Option Command). Fits (record { answered = end_of o n; within = Outside })) (sym ends)
      (out_fits (n + 1) (subst (λ (b : Bool). AreInOrder b (drop (n + 1) cs)) step.1.1 step.2))))
      (λ none.
      subst (λ (o : Option Command). Fits (record { answered = end_of o n; within = Outside })) (sym none)
      (out_fits n (subst (AreInOrder false) (sym (drop_end cs n none)) tt)))
      may.1)

module _ (job : Asked) (s : ℕ) (ok : AreInOrder false (commands_of job s)) where
  pub fits : (trace : List Entry) → IsOrdered trace → IsAnswered job trace → broken_at trace ≡ None
      → Fits (commands_of job s) (place (commands_of job s) trace s)
  fits [] legal ans sound = (ok, tt)
  fits (Begin u q ∷ older) legal ans sound = elim (cases_eq s q.0) [
    | inl same ↦
        let was = fits older legal.2 ans.1 sound in
        let cs = commands_of job s in
        let p = place cs older s in
        let may : (p.within ≡ Outside) × MayBegin (next_of cs p) =
        subst (λ (x : ℕ). ((place (commands_of job x) older x).within ≡ Outside) × MayBegin
        (next_of (commands_of job x) (place (commands_of job x) older x))) (sym same) ans.0 in
        subst (Fits cs) (sym (cond-true (s == q.0) (begun_at cs u.0 p) p (eq-eqb s q.0 same)))
        (begun_fits cs (next_of cs p) u.0 p.answered refl may.1
        (subst (λ (x : Within). AreInOrder (is_inside x) (drop p.answered cs)) may.0 was.0))
    | inr other ↦
        let cs = commands_of job s in
        let p = place cs older s in
        subst (Fits cs) (sym (cond-false (s == q.0) (begun_at cs u.0 p) p (ne_eqb s q.0 other)))
        (fits older legal.2 ans.1 sound)
  ]
  fits (Done u q i c r ∷ older) legal ans sound = elim (cases_eq s q.0) [
    | inl same ↦
        let was = fits older legal.2 ans.1 sound in
        let cs = commands_of job s in
        let p = place cs older s in
        let may = subst (λ (x : ℕ). MayBeDone (next_of (commands_of job x) (place (commands_of job x) older x)) c)
        (sym same) ans.0.1 in
        subst (Fits cs) (sym (cond-true (s == q.0) (answered_at p) p (eq-eqb s q.0 same)))
        (done_fits cs p (next_of cs p) c refl may was)
    | inr other ↦
        let cs = commands_of job s in
        let p = place cs older s in
        subst (Fits cs) (sym (cond-false (s == q.0) (answered_at p) p (ne_eqb s q.0 other)))
        (fits older legal.2 ans.1 sound)
  ]
  fits (Refused u q i r ∷ older) legal ans sound = elim (cases_eq s q.0) [
    | inl same ↦
        let was = fits older legal.2 ans.1 sound in
        let cs = commands_of job s in
        let p = place cs older s in
        let one = subst (λ (x : ℕ). MayBeRefused (broken_at older)
        (next_of (commands_of job x) (place (commands_of job x) older x))
        (place (commands_of job x) older x).within u.0) (sym same) ans.0.1 in
        let may = subst (λ (o : Option ℕ). MayBeRefused o (next_of cs p) p.within u.0) sound one in
        subst (Fits cs)
        (sym (cond-true (s == q.0) (refused_at (broken_at older) p) p (eq-eqb s q.0 same)
        ∙ ap (λ (o : Option ℕ). refused_at o p) sound))
        (refused_fits cs p (next_of cs p) u.0 refl may was)
    | inr other ↦
        let cs = commands_of job s in
        let p = place cs older s in
        subst (Fits cs) (sym (cond-false (s == q.0) (refused_at (broken_at older) p) p (ne_eqb s q.0 other)))
        (fits older legal.2 ans.1 sound)
  ]
  fits (Acked q u c ∷ older) legal ans sound = elim (cases_eq s q.0) [
    | inl same ↦
        let was = fits older legal.2 ans.1 sound in
        let cs = commands_of job s in
        let p = place cs older s in
        let may = subst (λ (x : ℕ). ((place (commands_of job x) older x).within ≡ Outside) ×
        (next_of (commands_of job x) (place (commands_of job x) older x) ≡ Some commands.Commit))
        (sym same) ans.0 in
        subst (Fits cs) (sym (cond-true (s == q.0) (answered_at p) p (eq-eqb s q.0 same)))
        (commit_fits cs p may.1 may.0 was)
    | inr other ↦
        let cs = commands_of job s in
        let p = place cs older s in
        subst (Fits cs) (sym (cond-false (s == q.0) (answered_at p) p (ne_eqb s q.0 other)))
        (fits older legal.2 ans.1 sound)
  ]
  fits (Ended u ∷ older) legal ans sound = elim (cases_eq s ans.0.0) [
    | inl same ↦
        let cs = commands_of job s in
        let p = place cs older s in
        let may : EndsOf cs older s u.0 = subst (λ (x : ℕ). EndsOf (commands_of job x) older x u.0)
        (sym same) ans.0.1 in
        ended_fits cs p.within p.answered u.0 may (fits older legal.2 ans.1 sound)
    | inr other ↦
        let q = ans.0.0 in
        let pq = place (commands_of job q) older q in
        subst (Fits (commands_of job s))
        (sym (others_stay job older u q s legal.2
        (end_is (next_of (commands_of job q) pq) pq.within u.0 ans.0.1) other))
        (fits older legal.2 ans.1 sound)
  ]
  fits (Broken c f ∷ older) legal ans sound = absurd (cc sound)
  fits (e ∷ older) legal ans sound = fits older legal.2 ans.1 sound

-- ---- scripts of a text, and commands that come

turn_of : (c : Command) → Turns c false true → c ≡ commands.Begin
turn_of commands.Begin t = refl
turn_of commands.End t = absurd (false≢true t.0)
turn_of commands.Commit t = absurd (false≢true (sym t.1))
turn_of c t = absurd (false≢true t)

no_turn : (c : Command) → IsWork c ⊎ (c ≡ commands.Commit) → Turns c false false
no_turn commands.Begin (inl work) = absurd work
no_turn commands.Begin (inr is) = absurd (cc is)
no_turn commands.End (inl work) = absurd work
no_turn commands.End (inr is) = absurd (cc is)
no_turn commands.Commit is = (refl, refl)
no_turn c is = refl

no_begin : (c : Command) (cs : List Command) → HasNoBegin (c ∷ cs) → (c ≡ commands.Begin → ⊥) × HasNoBegin cs
no_begin commands.Begin cs none = absurd none
no_begin c cs none = (λ is. cc is, none)

outside : (x : Command) (cs : List Command) → HasNoBegin (x ∷ cs) → (now : Bool) → Turns x false now → now ≡ false
outside x cs none true turn = absurd ((no_begin x cs none).0 (turn_of x turn))
outside x cs none false turn = refl

pub in_order_pushed : (cs : List Command) (c : Command) → HasNoBegin cs → IsWork c ⊎ (c ≡ commands.Commit)
    → AreInOrder false cs → AreInOrder false (cs ++ c ∷ [])
in_order_pushed [] c none is ok = (false, (no_turn c is, tt))
in_order_pushed (x ∷ cs) c none is ok =
    let stays : ok.0 ≡ false = outside x cs none ok.0 ok.1.0 in
    let rest = subst (λ (b : Bool). AreInOrder b cs) stays ok.1.1 in
    (false, (subst (Turns x false) stays ok.1.0, in_order_pushed cs c (no_begin x cs none).1 is rest))
