-- Which script is served, what stands in the way of one, and which atoms fuse.
use Rattle.std.proofs.Common.{◌≡◌, ◌≢◌, ◌⊎◌, inl, inr, ⊎_elim, ℕ, zero, suc, ◌<◌, ◌≤◌, Bool, true, false, true≢false, List, [], ◌∷◌, length, get_or, Option, Some, None, refl, sym, ◌∙◌, ap, subst, arith, Contains}
use Rattle.std.proofs.lemmas.Bool.{cases_Bool, cases_order, eq-eqb, eqb-true, cases_lt}
use Rattle.std.proofs.lemmas.List.Elements.{Contains-append_left}
use Rattle.r4_atoms.specs.Atoms.{AtomsSeen, IsBegun as IsTxn, IsOpenIn, atom_of, is_atom, is_committed, is_sealed, numbers, owner_of, owns, txn_of}
use Rattle.r4_base.specs.declared.things.AtomNo.{AtomNo}
use Rattle.r4_base.specs.declared.things.ScriptNo.{ScriptNo}
use Rattle.r4_base.specs.declared.things.TxnNo.{TxnNo}
use Rattle.r4_content.specs.Locality.{Meaning}
use Rattle.r4_content.specs.declared.command.Command.{Command}
use Rattle.r4_content.specs.declared.reply.Reply.{Reply}
use Rattle.r4_trace.specs.Ids.{Start}
use Rattle.r4_trace.specs.Job.{Asked}
use Rattle.r4_trace.specs.Legal.{IsLegalSoFar}
use Rattle.r4_trace.specs.Order.{MayComeNow, Reopens}
use Rattle.r4_trace.specs.Traced.{IsCommitted, atom_in, IsBegun}
use Rattle.r4_trace.specs.declared.entry.Entry.{Entry}
use Rattle.r4_trace.specs.declared.entry.Entry.TheVariants.{Acked, Sealed}
use Rattle.r4_locks.specs.Locks.{LocksSeen}
use Rattle.r4_turns.specs.Turns.{IsBefore, IsScript, answered_at}
use Rattle.r4_history.specs.Held.{Need, nodes_of}
use Rattle.r4_history.specs.Serving.{AreOthers, IsLeastOwned, IsPassedOver, IsServedNext, Rise}
use Rattle.r4_history.specs.Tables.{Tables}
use Rattle.r4_history.specs.Told.{IsTold}
use Rattle.r4_history.proofs.Told.{atom_is}

-- ---- the order

pub one_first : (t : Tables) (s q : ℕ) → (s ≡ q) ⊎ (IsBefore t.turns s q ⊎ IsBefore t.turns q s)
one_first t s q = elim (cases_order (answered_at t.turns s) (answered_at t.turns q)) [
  | inl same ↦ ⊎_elim (λ e. inl e)
      (λ d. ⊎_elim (λ lt. inr (inl (inr (same, lt)))) (λ gt. inr (inr (inr (sym same, gt)))) d) (cases_order s q)
  | inr differ ↦ ⊎_elim (λ lt. inr (inl (inl lt))) (λ gt. inr (inr (inl gt))) differ
]

pub one_served : (t : Tables) (locks : LocksSeen) (needs : ℕ → Option Need) (s q : ℕ) → IsServedNext t locks needs s
    → IsServedNext t locks needs q → s ≡ q
one_served t locks needs s q one two =
    ⊎_elim (λ e. e)
    (λ d. ⊎_elim (λ first. absurd (one.goes_on (two.order s one.is_script first)))
    (λ first. absurd (two.goes_on (one.order q two.is_script first))) d)
    (one_first t s q)

pub fewest_first : (t : Tables) (locks : LocksSeen) (needs : ℕ → Option Need) (s q : ℕ)
    → IsServedNext t locks needs s → IsScript t.turns q
    → (IsPassedOver t locks needs q → ⊥) → answered_at t.turns q < answered_at t.turns s → ⊥
fewest_first t locks needs s q one is goes lt = goes (one.order q is (inl lt))

-- ---- fusing

pub cons_cases : {X : Type 0} (x : X) (l : List X) (y : X) → Contains (x ∷ l) y → (x ≡ y) ⊎ Contains l y
cons_cases x l y c = by c.0 c.1 c.2
  where
    by : (k : ℕ) → k < length (x ∷ l) → get_or (x ∷ l) k y ≡ y → (x ≡ y) ⊎ Contains l y
    by zero lt e = inl e
    by (suc k) lt e = inr (k, omega (arith, lt), e)

pub cons_later : {X : Type 0} (x : X) (l : List X) (y : X) → Contains l y → Contains (x ∷ l) y
cons_later x l y c = let lt = c.1 in (suc c.0, omega (arith, lt), c.2)

pub cons_here : {X : Type 0} (x : X) (l : List X) → Contains (x ∷ l) x
cons_here x l = (0, omega arith, refl)

-- the smallest element that passes a test
least_in : (test : ℕ → Bool) (l : List ℕ) (n : ℕ) → Contains l n → test n ≡ true
    → (m : ℕ) × Contains l m × (test m ≡ true) × ((k : ℕ) → Contains l k → test k ≡ true → m ≤ k)
least_in test [] n c is = let lt = c.1 in absurd (omega (arith, lt))
least_in test (x ∷ l) n c is = elim (search_rest test l) [
  | inl none ↦
      let e : x ≡ n = ⊎_elim (λ e. e) (λ there. absurd (none n there is)) (cons_cases x l n c) in (
        n,
        c,
        is,
        λ k there passes. ⊎_elim (λ here. omega (arith, here, e)) (λ later. absurd (none k later passes))
            (cons_cases x l k there),
      )
  | inr some ↦
      let best = least_in test l some.0 some.1 some.2 in
      elim (cases_Bool (test x)) [
        | inl passes ↦ elim (cases_lt x best.0) [
          | inl less ↦ (
            x,
            cons_here x l,
            passes,
            λ k there pass. ⊎_elim (λ here. omega (arith, here))
                (λ later. let le = best.3 k later pass in omega (arith, le, less)) (cons_cases x l k there),
          )
          | inr more ↦ (
            best.0,
            cons_later x l best.0 best.1,
            best.2,
            λ k there pass. ⊎_elim
                (λ here. omega (arith, here, more)) (λ later. best.3 k later pass) (cons_cases x l k there),
          )
        ]
        | inr not ↦ (
          best.0,
          cons_later x l best.0 best.1,
          best.2,
          λ k there pass. ⊎_elim
              (λ here. absurd (true≢false (sym pass ∙ ap test (sym here) ∙ not))) (λ later. best.3 k later pass)
              (cons_cases x l k there),
        )
      ]
]
  where
    search_rest : (test : ℕ → Bool) (l : List ℕ)
        → ((k : ℕ) → Contains l k → test k ≡ true → ⊥) ⊎ ((k : ℕ) × Contains l k × (test k ≡ true))
    search_rest test [] = inl (λ k c is. let lt = c.1 in absurd (omega (arith, lt)))
    search_rest test (y ∷ l) = elim (cases_Bool (test y)) [
      | inl passes ↦ inr (y, cons_here y l, passes)
      | inr not ↦ elim (search_rest test l) [
        | inl none ↦ inl (λ k c is. ⊎_elim (λ here. absurd (true≢false (sym is ∙ ap test (sym here) ∙ not)))
            (λ later. none k later is) (cons_cases y l k c))
        | inr some ↦ inr (some.0, cons_later y l some.0 some.1, some.2)
      ]
    ]

owns_by : (o : Option ℕ) (a : ℕ) → is_atom a o ≡ true → o ≡ Some a
owns_by None a is = absurd (true≢false (sym is))
owns_by (Some b) a is = ap Some (eqb-true b a is)

owns_from : (o : Option ℕ) (a : ℕ) → o ≡ Some a → is_atom a o ≡ true
owns_from None a e = absurd (cc e)
owns_from (Some b) a e = eq-eqb b a (cc e)

module _ (s : AtomsSeen) (own : ℕ) (need : Need) (others : List (ℕ × ℕ)) (h : AreOthers s own need others) where
  -- each other open atom that owns a node of the reach is among them
  pub other_is_told : (a node : ℕ) → Contains (nodes_of need) node → owner_of s node ≡ Some a → a ≢ own
      → is_sealed s a ≡ false
      → (n : ℕ) × Contains others (a, n)
  other_is_told a node there owned other un =
      let best = least_in (λ (m : ℕ). owns s a m) (nodes_of need) node there (owns_from (owner_of s node) a owned) in
      let m = best.0 in
      let is : IsLeastOwned s own need a m = record {
        is_one = record {
          reached = best.1;
          owner =
              record { owns = owns_by (owner_of s m) a best.2; other = other; unsealed = un };
        };
        least = λ n one. best.3 n one.reached (owns_from (owner_of s n) a one.owner.owns);
      } in
      (m, (h.each a m).1 is)

  -- what is only read counts as well
  pub reads_tell : (a node : ℕ) → Contains (numbers need.reads) node → owner_of s node ≡ Some a → a ≢ own
      → is_sealed s a ≡ false
      → (n : ℕ) × Contains others (a, n)
  reads_tell a node there = other_is_told a node
      (Contains-append_left (numbers need.reads) (numbers need.writes) node there)

  -- who owns no node of the reach is not
  pub strangers_stay : (a n : ℕ) → ((node : ℕ) → Contains (nodes_of need) node → owner_of s node ≡ Some a → ⊥)
      → Contains others (a, n) → ⊥
  strangers_stay a n none there =
      let is = (h.each a n).0 there in
      none n is.is_one.reached is.is_one.owner.owns

same_rise : (l m : List (ℕ × ℕ)) → Rise l → Rise m → ((p : ℕ × ℕ) → Contains l p → Contains m p)
    → ((p : ℕ × ℕ) → Contains m p → Contains l p) → l ≡ m
same_rise [] [] rl rm to from = refl
same_rise [] (q ∷ m) rl rm to from = let c = from q (cons_here q m) in let lt = c.1 in absurd (omega (arith, lt))
same_rise (p ∷ l) [] rl rm to from = let c = to p (cons_here p l) in let lt = c.1 in absurd (omega (arith, lt))
same_rise (p ∷ l) (q ∷ m) rl rm to from =
    let first : p ≡ q =
    ⊎_elim (λ e. sym e)
    (λ p_later. ⊎_elim (λ e. e)
    (λ q_later. (let a = rm.0 p p_later in let b = rl.0 q q_later in absurd (omega (arith, a, b))))
    (cons_cases p l q (from q (cons_here q m))))
    (cons_cases q m p (to p (cons_here p l))) in
    let rest : l ≡ m = same_rise l m rl.1 rm.1
    (λ x there. ⊎_elim (λ e.
    (let lt = rl.0 x there in let k = ap (λ (y : ℕ × ℕ). y.0) (first ∙ e) in absurd (omega (arith, lt, k))))
    (λ later. later) (cons_cases q m x (to x (cons_later p l x there))))
    (λ x there. ⊎_elim (λ e.
    (let lt = rm.0 x there in let k = ap (λ (y : ℕ × ℕ). y.0) (sym first ∙ e) in absurd (omega (arith, lt, k))))
    (λ later. later) (cons_cases p l x (from x (cons_later q m x there)))) in
    ap (λ (y : ℕ × ℕ). y ∷ l) first ∙ ap (λ (k : List (ℕ × ℕ)). q ∷ k) rest

pub others_are_exact : (s : AtomsSeen) (own : ℕ) (need : Need) (l m : List (ℕ × ℕ)) → AreOthers s own need l
    → AreOthers s own need m → l ≡ m
others_are_exact s own need l m one two =
    same_rise l m one.rise two.rise (λ p there. (two.each p.0 p.1).1 ((one.each p.0 p.1).0 there))
    (λ p there. (one.each p.0 p.1).1 ((two.each p.0 p.1).0 there))

-- ---- what no legal trace has

module _ (w : Meaning Command Reply) (start : Option Start) (clock : ℕ) (t : Tables) (trace : List Entry)
    (h : IsTold w start clock t trace) where
  pub open_is_not_sealed : (job : Option Asked) (atom : AtomNo) (txn : ℕ) → IsOpenIn t.atoms atom.0 txn
      → IsLegalSoFar w start job (Sealed atom ∷ trace) → ⊥
  open_is_not_sealed job atom txn is legal =
      legal.order.0.1 txn (txn_of t.atoms txn).script
      (h.atoms.script txn is.begun, λ ends. true≢false (sym is.opened ∙ (h.atoms.ended txn is.begun).1 ends))
      (sym (h.atoms.atom txn is.begun) ∙ is.atom)

  pub early_is_not_acked : (job : Option Asked) (script : ScriptNo) (txn : TxnNo) (now n : ℕ) → IsTxn t.atoms n
      → (txn_of t.atoms n).script ≡ script.0
      → is_committed t.atoms (atom_of t.atoms n) ≡ false → IsLegalSoFar w start job (Acked script txn now ∷ trace) → ⊥
  early_is_not_acked job script txn now n begun mine un legal =
      let b = h.atoms.script n begun in
      let atom = atom_is w start clock t trace h n (txn_of t.atoms n).script b in
      let c : IsCommitted trace (atom_in trace n) = legal.order.0.1 n
      (subst (λ (x : ℕ). IsBegun trace n x) mine (h.atoms.script n begun)) in
      let d = (h.atoms.committed (atom_of t.atoms n) atom).1
      (subst (IsCommitted trace) (sym (h.atoms.atom n begun)) c) in
      true≢false (sym d ∙ un)

  pub failed_reopens : (job : Option Asked) (failed : ℕ) (e : Entry) → t.broken ≡ Some failed
      → IsLegalSoFar w start job (e ∷ trace) → Reopens failed e
  failed_reopens job failed e some legal =
      subst (λ (o : Option ℕ). MayComeNow o e) (sym h.broken ∙ some) legal.order.1
