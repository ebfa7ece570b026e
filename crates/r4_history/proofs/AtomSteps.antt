-- The table of atoms goes on telling the trace.
use Rattle.std.proofs.Common.{◌≡◌, ◌⊎◌, inl, inr, ⊎_elim, ℕ, zero, suc, ◌+◌, ◌-◌, ◌<◌, ◌≤◌, ◌==◌, Bool, true, false, true≢false, List, [], ◌∷◌, length, get_or, set, Some, refl, sym, ◌∙◌, ap, subst, arith}
use Rattle.std.proofs.lemmas.Bool.{cases_eq, cond-true, cond-false, eq-eqb, ne_eqb}
use Rattle.std.proofs.lemmas.List.{get_or-set_same, get_or-set_other, get_or_append_left, get_or_push, get_or-map, length-set, length-map, length_push}
use Rattle.r4_atoms.specs.Atoms.{AtomsSeen, IsBegun as IsTxn, TxnSeen, is_cleaned, is_committed, is_sealed, joined, new_atom, new_txn, no_account, no_txn, renamed_txn, state_of, sum_of, txn_of, with_account, with_state}
use Rattle.r4_atoms.specs.declared.things.Account.{Account}
use Rattle.r4_atoms.specs.declared.things.AtomState.{AtomState}
use Rattle.r4_base.specs.declared.things.AtomNo.{AtomNo}
use Rattle.r4_base.specs.declared.things.NodeId.{NodeId}
use Rattle.r4_base.specs.declared.things.ScriptNo.{ScriptNo}
use Rattle.r4_base.specs.declared.things.TxnNo.{TxnNo}
use Rattle.r4_content.specs.declared.command.Command.{Command}
use Rattle.r4_content.specs.declared.reply.Reply.{Reply}
use Rattle.r4_trace.specs.Order.{IsOrdered}
use Rattle.r4_trace.specs.Traced.{IsCommitted, IsSealed, IsBegun, begun_in, committed_in, last_of, last_sealed, renamed_atom, atom_in}
use Rattle.r4_trace.specs.declared.entry.Entry.{Entry}
use Rattle.r4_trace.specs.declared.entry.Entry.TheVariants.{Begin, Fuse, Done, Refused, Ended, Sealed, Committed, Acked, Broken}
use Rattle.r4_trace.proofs.FirstOnes.{begun_le, committed_first, ended_le, first_sealed, new_atom as own_atom, sealed_begun}
use Rattle.r4_history.specs.Tables.{Begins, Fuses, with_cleaned, with_committed, with_ended, with_sealed}
use Rattle.r4_history.specs.Told.{AtomsTell}

-- a change at one place that keeps what is looked at
pub kept_by_set : {A X : Type 0} (f : A → X) (l : List A) (i : ℕ) (a d : A) → f a ≡ f (get_or l i d) → (j : ℕ)
    → f (get_or (set l i a) j d) ≡ f (get_or l j d)
kept_by_set f [] i a d e j = refl
kept_by_set f (x ∷ l) zero a d e zero = e
kept_by_set f (x ∷ l) zero a d e (suc j) = refl
kept_by_set f (x ∷ l) (suc i) a d e zero = refl
kept_by_set f (x ∷ l) (suc i) a d e (suc j) = kept_by_set f l i a d e j

pub committed_sealed : (trace : List Entry) (a : ℕ) → IsOrdered trace → IsCommitted trace a → IsSealed trace a
committed_sealed trace a legal c =
    first_sealed trace (committed_in trace) a (committed_first trace (committed_in trace) a legal (omega arith) c)

-- the atom of what was begun was begun
pub atom_begun : (trace : List Entry) (t : ℕ) → IsOrdered trace → 0 < t → t ≤ begun_in trace
    → (0 < atom_in trace t) × (atom_in trace t ≤ begun_in trace)
atom_begun [] t legal some within = (some, within)
atom_begun (Begin u s ∷ older) t legal some within = elim (cases_eq t (begun_in older + 1)) [
  | inl same ↦
      let own = own_atom older t legal.2 (omega (arith, same)) in
      (omega (arith, own, some), omega (arith, own, same))
  | inr other ↦
      let was = atom_begun older t legal.2 some (omega (arith, other, within)) in
      (was.0, omega (arith, was.1))
]
atom_begun (Fuse a b n ∷ older) t legal some within = elim (cases_eq (atom_in older t) b.0) [
  | inl same ↦
      let e = cond-true (atom_in older t == b.0) a.0 (atom_in older t) (eq-eqb (atom_in older t) b.0 same) in
      let c = legal.0.1.counted in
      (omega (arith, e, c.0), omega (arith, e, c.1))
  | inr other ↦
      let e = cond-false (atom_in older t == b.0) a.0 (atom_in older t) (ne_eqb (atom_in older t) b.0 other) in
      let was = atom_begun older t legal.2 some within in
      (omega (arith, e, was.0), omega (arith, e, was.1))
]
atom_begun (e ∷ older) t legal some within = atom_begun older t legal.2 some within

-- an atom has its own name
pub own_name : (trace : List Entry) (t : ℕ) → IsOrdered trace → atom_in trace (atom_in trace t) ≡ atom_in trace t
own_name [] t legal = refl
own_name (Fuse a b n ∷ older) t legal = elim (cases_eq (atom_in older t) b.0) [
  | inl same ↦
      let e = cond-true (atom_in older t == b.0) a.0 (atom_in older t) (eq-eqb (atom_in older t) b.0 same) in
      ap (λ (x : ℕ). renamed_atom a.0 b.0 (atom_in older x)) e
      ∙ ap (renamed_atom a.0 b.0) legal.0.1.own
      ∙ cond-false (a.0 == b.0) a.0 a.0 (ne_eqb a.0 b.0 (λ q. absurd (omega (arith, q, legal.0.0)))) ∙ sym e
  | inr other ↦
      let e = cond-false (atom_in older t == b.0) a.0 (atom_in older t) (ne_eqb (atom_in older t) b.0 other) in
      ap (λ (x : ℕ). renamed_atom a.0 b.0 (atom_in older x)) e
      ∙ ap (renamed_atom a.0 b.0) (own_name older t legal.2)
]
own_name (e ∷ older) t legal = own_name older t legal.2

-- a sealed atom has its own name
pub sealed_own : (trace : List Entry) (a : ℕ) → IsOrdered trace → IsSealed trace a → atom_in trace a ≡ a
sealed_own [] a legal h = absurd h
sealed_own (Fuse x y n ∷ older) a legal h =
    let own = sealed_own older a legal.2 h in
    ap (renamed_atom x.0 y.0) own
    ∙ cond-false (a == y.0) x.0 a (ne_eqb a y.0 (λ same. absurd (legal.0.2.unsealed (subst (IsSealed older) same h))))
sealed_own (Sealed b ∷ older) a legal (inl is) = ap (atom_in older) is ∙ legal.0.0.own ∙ sym is
sealed_own (Sealed b ∷ older) a legal (inr h) = sealed_own older a legal.2 h
sealed_own (e ∷ older) a legal h = sealed_own older a legal.2 h

pub last_is_sealed : (trace : List Entry) (a : ℕ) → last_sealed trace ≡ Some a → IsSealed trace a
last_is_sealed [] a is = absurd (cc is)
last_is_sealed (Sealed b ∷ older) a is = inl (cc is)
last_is_sealed (e ∷ older) a is = last_is_sealed older a is

-- the last transaction of a script
pub last_begun : (trace : List Entry) (s : ℕ) → (last_of trace s ≡ 0) ⊎ IsBegun trace (last_of trace s) s
last_begun [] s = inl refl
last_begun (Begin u q ∷ older) s = elim (cases_eq s q.0) [
  | inl same ↦ inr (inl (cond-true (s == q.0) u.0 (last_of older s) (eq-eqb s q.0 same), same))
  | inr other ↦
      let e = cond-false (s == q.0) u.0 (last_of older s) (ne_eqb s q.0 other) in
      ⊎_elim (λ none. inl (e ∙ none)) (λ b. inr (inr (subst (λ (n : ℕ). IsBegun older n s) (sym e) b)))
      (last_begun older s)
]
last_begun (e ∷ older) s = last_begun older s

pub last_greatest : (trace : List Entry) (t s : ℕ) → IsOrdered trace → IsBegun trace t s → t ≤ last_of trace s
last_greatest [] t s legal b = absurd b
last_greatest (Begin u q ∷ older) t s legal b = elim (cases_eq s q.0) [
  | inl same ↦
      let e = cond-true (s == q.0) u.0 (last_of older s) (eq-eqb s q.0 same) in
      ⊎_elim (λ new. omega (arith, e, new.0))
      (λ was. let le = begun_le older t s legal.2 was in omega (arith, e, le, legal.0.0)) b
  | inr other ↦
      let e = cond-false (s == q.0) u.0 (last_of older s) (ne_eqb s q.0 other) in
      ⊎_elim (λ new. absurd (other new.1))
      (λ was. let le = last_greatest older t s legal.2 was in omega (arith, e, le)) b
]
last_greatest (e ∷ older) t s legal b = last_greatest older t s legal.2 b

-- What was begun before has the flags that it had, and what begins now has none.
pub record SameFlags (old new : AtomsSeen) : Type 0 where
  pub sealed : (a : ℕ) → IsTxn old a → is_sealed new a ≡ is_sealed old a
  pub committed : (a : ℕ) → IsTxn old a → is_committed new a ≡ is_committed old a
  pub cleaned : (a : ℕ) → IsTxn old a → is_cleaned new a ≡ is_cleaned old a
  pub first : (a : ℕ) → IsTxn new a → IsTxn old a ⊎ (is_sealed new a ≡ false)

pub same_flags : (s : AtomsSeen) → SameFlags s s
same_flags s = record {
  sealed = λ a is. refl;
  committed = λ a is. refl;
  cleaned = λ a is. refl;
  first =
      λ a is. inl is;
}

-- the numbers that were begun, where their count is the same
pub txn_by : (old new : AtomsSeen) → length new.txns ≡ length old.txns → (t : ℕ) → IsTxn new t → IsTxn old t
txn_by old new e t is = record { some = is.some; within = omega (arith, is.within, e) }

-- ---- a transaction begins

module _ (old new : AtomsSeen) (s : ℕ) (b : Begins old new s) (states : length old.atoms ≡ length old.txns) where
  pub count_after : length new.txns ≡ length old.txns + 1
  count_after = ap length b.txns ∙ length_push old.txns (new_txn s (length old.txns + 1))

  pub begun_or_new : (t : ℕ) → IsTxn new t → IsTxn old t ⊎ (t ≡ length old.txns + 1)
  begun_or_new t is = elim (cases_eq t (length old.txns + 1)) [
    | inl same ↦ inr same
    | inr other ↦
        let e = count_after in
        inl (record { some = is.some; within = omega (arith, is.within, e, other) })
  ]

  pub txn_before : (t : ℕ) → IsTxn old t → txn_of new t ≡ txn_of old t
  txn_before t is =
      ap (λ (ts : List TxnSeen). get_or ts (t - 1) no_txn) b.txns
      ∙ get_or_append_left old.txns (new_txn s (length old.txns + 1) ∷ []) no_txn (t - 1)
      (omega (arith, is.some, is.within))

  pub txn_after : (t : ℕ) → t ≡ length old.txns + 1 → txn_of new t ≡ new_txn s (length old.txns + 1)
  txn_after t is =
      ap (λ (ts : List TxnSeen). get_or ts (t - 1) no_txn) b.txns
      ∙ get_or_push old.txns (new_txn s (length old.txns + 1)) no_txn (t - 1) (omega (arith, is))

  pub state_before : (a : ℕ) → IsTxn old a → state_of new a ≡ state_of old a
  state_before a is =
      ap (λ (xs : List AtomState). get_or xs (a - 1) new_atom) b.atoms
      ∙ get_or_append_left old.atoms (new_atom ∷ []) new_atom (a - 1) (omega (arith, is.some, is.within, states))

  pub state_after : (a : ℕ) → a ≡ length old.txns + 1 → state_of new a ≡ new_atom
  state_after a is =
      ap (λ (xs : List AtomState). get_or xs (a - 1) new_atom) b.atoms
      ∙ get_or_push old.atoms new_atom new_atom (a - 1) (omega (arith, is, states))

  pub flags_begin : SameFlags old new
  flags_begin = record {
    sealed = λ a is. ap (λ (x : AtomState). x.sealed) (state_before a is);
    committed = λ a is. ap (λ (x : AtomState). x.committed) (state_before a is);
    cleaned = λ a is. ap (λ (x : AtomState). x.cleaned) (state_before a is);
    first = λ a is. ⊎_elim (λ was. inl was) (λ here. inr (ap (λ (x : AtomState). x.sealed) (state_after a here)))
        (begun_or_new a is);
  }

pub tell_begin : (old new : AtomsSeen) (trace : List Entry) (u : TxnNo) (s : ScriptNo) → AtomsTell old trace
    → IsOrdered trace
    → Begins old new s.0 → u.0 ≡ length old.txns + 1 → AtomsTell new (Begin u s ∷ trace)
tell_begin old new trace u s h legal b number =
    let count = count_after old new s.0 b h.states in
    let cases = begun_or_new old new s.0 b h.states in
    let before = txn_before old new s.0 b h.states in
    let after = txn_after old new s.0 b h.states in
    let state = state_before old new s.0 b h.states in
    let state_new = state_after old new s.0 b h.states in
    record {
      states = ap length b.atoms ∙ length_push old.atoms new_atom ∙ ap (λ (n : ℕ). n + 1) h.states ∙ sym count;
      begun = count ∙ ap (λ (n : ℕ). n + 1) h.begun;
      script = λ t is. ⊎_elim
          (λ was. inr (subst (IsBegun trace t) (sym (ap (λ (x : TxnSeen). x.script) (before t was))) (h.script t was)))
          (λ here. inl (here ∙ sym number, ap (λ (x : TxnSeen). x.script) (after t here)))
          (cases t is);
      atom = λ t is. ⊎_elim
          (λ was. ap (λ (x : TxnSeen). x.atom) (before t was) ∙ h.atom t was)
          (λ here. ap (λ (x : TxnSeen). x.atom) (after t here) ∙ sym here
          ∙ sym (own_atom trace t legal (omega (arith, here, h.begun))))
          (cases t is);
      ended = λ t is. ⊎_elim
          (λ was. let e = ap (λ (x : TxnSeen). x.is_open) (before t was) in
          (λ now. (h.ended t was).0 (sym e ∙ now), λ has. e ∙ (h.ended t was).1 has))
          (λ here. (
            λ now. absurd (true≢false (sym (ap (λ (x : TxnSeen). x.is_open) (after t here)) ∙ now)),
            λ has. (let le = ended_le trace t legal has in absurd (omega (arith, le, here, h.begun))),
          ))
          (cases t is);
      sealed = λ t is. ⊎_elim
          (λ was. let e = ap (λ (x : AtomState). x.sealed) (state t was) in
          (λ now. (h.sealed t was).0 (sym e ∙ now), λ has. e ∙ (h.sealed t was).1 has))
          (λ here. (
            λ now. absurd (true≢false (sym now ∙ ap (λ (x : AtomState). x.sealed) (state_new t here))),
            λ has. (let le = sealed_begun trace t legal has in absurd (omega (arith, le, here, h.begun))),
          ))
          (cases t is);
      committed = λ t is. ⊎_elim
          (λ was. let e = ap (λ (x : AtomState). x.committed) (state t was) in
          (λ now. (h.committed t was).0 (sym e ∙ now), λ has. e ∙ (h.committed t was).1 has))
          (λ here. (
            λ now. absurd (true≢false (sym now ∙ ap (λ (x : AtomState). x.committed) (state_new t here))),
            λ has. (let le = sealed_begun trace t legal (committed_sealed trace t legal has) in absurd
                (omega (arith, le, here, h.begun))),
          ))
          (cases t is);
    }

-- ---- a transaction ends

pub tell_ended : (old : AtomsSeen) (trace : List Entry) (u : TxnNo) → AtomsTell old trace → IsTxn old u.0
    → AtomsTell (with_ended old u.0) (Ended u ∷ trace)
tell_ended old trace u h begun =
    let at : TxnSeen = record (txn_of old u.0) { is_open = false } in
    let count = length-set old.txns (u.0 - 1) at in
    let was = txn_by old (with_ended old u.0) count in
    let script = kept_by_set (λ (x : TxnSeen). x.script) old.txns (u.0 - 1) at no_txn refl in
    let atom = kept_by_set (λ (x : TxnSeen). x.atom) old.txns (u.0 - 1) at no_txn refl in
    record {
      states = h.states ∙ sym count;
      begun = count ∙ h.begun;
      script = λ t is. subst (IsBegun trace t) (sym (script (t - 1))) (h.script t (was t is));
      atom = λ t is. atom (t - 1) ∙ h.atom t (was t is);
      ended = λ t is. elim (cases_eq t u.0) [
        | inl same ↦
            let here : (txn_of (with_ended old u.0) t).is_open ≡ false =
            ap (λ (n : ℕ). (get_or (set old.txns (u.0 - 1) at) (n - 1) no_txn).is_open) same
            ∙ ap (λ (x : TxnSeen). x.is_open)
            (get_or-set_same old.txns (u.0 - 1) at no_txn (omega (arith, begun.some, begun.within))) in
            (λ now. inl same, λ has. here)
        | inr other ↦
            let e = ap (λ (x : TxnSeen). x.is_open)
            (get_or-set_other old.txns (u.0 - 1) (t - 1) at no_txn
            (λ same. other (omega (arith, same, is.some, begun.some)))) in (
              λ now. inr ((h.ended t (was t is)).0 (sym e ∙ now)),
              λ has. e ∙ (h.ended t (was t is)).1 (⊎_elim (λ here. absurd (other here)) (λ x. x) has),
            )
      ];
      sealed = λ t is. h.sealed t (was t is);
      committed = λ t is. h.committed t (was t is);
    }

pub flags_ended : (old : AtomsSeen) (t : ℕ) → SameFlags old (with_ended old t)
flags_ended old t = record {
  sealed = λ a is. refl;
  committed = λ a is. refl;
  cleaned = λ a is. refl;
  first = λ a is. inl (txn_by old (with_ended old t)
      (length-set old.txns (t - 1) (record (txn_of old t) { is_open = false })) a is);
}

-- ---- two atoms become one

joined_keeps : (f : AtomState → Bool) → ((x : AtomState) (a : Account) → f (with_account x a) ≡ f x)
    → (states : List AtomState) (to from j : ℕ)
    → f (get_or (joined states to from) j new_atom) ≡ f (get_or states j new_atom)
joined_keeps f same states to from j =
    let moved = (get_or states from new_atom).account in
    let had = get_or states to new_atom in
    let first = with_account (get_or states from new_atom) no_account in
    let second = with_account had (sum_of had.account moved) in
    let one = kept_by_set f states from first new_atom (same (get_or states from new_atom) no_account) in
    kept_by_set f (set states from first) to second new_atom (same had (sum_of had.account moved) ∙ sym (one to)) j
    ∙ one j

module _ (old new : AtomsSeen) (a b : ℕ) (f : Fuses old new a b) where
  pub fused_states : (g : AtomState → Bool) → ((x : AtomState) (y : Account) → g (with_account x y) ≡ g x) → (n : ℕ)
      → g (state_of new n) ≡ g (state_of old n)
  fused_states g same n =
      ap (λ (xs : List AtomState). g (get_or xs (n - 1) new_atom)) f.atoms
      ∙ joined_keeps g same old.atoms (a - 1) (b - 1) (n - 1)

  pub fused_count : length new.txns ≡ length old.txns
  fused_count = ap length f.txns ∙ length-map old.txns (renamed_txn a b)

  pub flags_fuse : SameFlags old new
  flags_fuse = record {
    sealed = λ n is. fused_states (λ (x : AtomState). x.sealed) (λ x y. refl) n;
    committed = λ n is. fused_states (λ (x : AtomState). x.committed) (λ x y. refl) n;
    cleaned = λ n is. fused_states (λ (x : AtomState). x.cleaned) (λ x y. refl) n;
    first = λ n is. inl (txn_by old new fused_count n is);
  }

  pub fused_txn : (t : ℕ) → IsTxn old t → txn_of new t ≡ renamed_txn a b (txn_of old t)
  fused_txn t is =
      ap (λ (ts : List TxnSeen). get_or ts (t - 1) no_txn) f.txns
      ∙ get_or-map (renamed_txn a b) old.txns (t - 1) no_txn no_txn (omega (arith, is.some, is.within))

  fused_length : length new.atoms ≡ length old.atoms
  fused_length =
      let states = old.atoms in
      let moved = (get_or states (b - 1) new_atom).account in
      let had = get_or states (a - 1) new_atom in
      let first = with_account (get_or states (b - 1) new_atom) no_account in
      ap length f.atoms
      ∙ length-set (set states (b - 1) first) (a - 1) (with_account had (sum_of had.account moved))
      ∙ length-set states (b - 1) first

  pub tell_fuse : (trace : List Entry) (kept gone : AtomNo) (n : NodeId) → a ≡ kept.0 → b ≡ gone.0 → AtomsTell old trace
      → AtomsTell new (Fuse kept gone n ∷ trace)
  tell_fuse trace kept gone n is_kept is_gone h =
      let was = txn_by old new fused_count in
      let flags = flags_fuse in
      record {
        states = fused_length ∙ h.states ∙ sym fused_count;
        begun = fused_count ∙ h.begun;
        script = λ t is. subst (IsBegun trace t) (sym (ap (λ (x : TxnSeen). x.script) (fused_txn t (was t is))))
            (h.script t (was t is));
        atom = λ t is.
            ap (λ (x : TxnSeen). x.atom) (fused_txn t (was t is))
            ∙ ap (renamed_atom a b) (h.atom t (was t is))
            ∙ ap (λ (x : ℕ). renamed_atom x b (atom_in trace t)) is_kept
            ∙ ap (λ (x : ℕ). renamed_atom kept.0 x (atom_in trace t)) is_gone;
        ended = λ t is. let e = ap (λ (x : TxnSeen). x.is_open) (fused_txn t (was t is)) in
            (λ now. (h.ended t (was t is)).0 (sym e ∙ now), λ has. e ∙ (h.ended t (was t is)).1 has);
        sealed = λ t is. let e = flags.sealed t (was t is) in
            (λ now. (h.sealed t (was t is)).0 (sym e ∙ now), λ has. e ∙ (h.sealed t (was t is)).1 has);
        committed = λ t is. let e = flags.committed t (was t is) in
            (λ now. (h.committed t (was t is)).0 (sym e ∙ now), λ has. e ∙ (h.committed t (was t is)).1 has);
      }

-- ---- atoms are sealed, committed and clean

module _ (s : AtomsSeen) (a : ℕ) (x : AtomState) where
  pub state_kept : (f : AtomState → Bool) → f x ≡ f (state_of s a) → (n : ℕ)
      → f (state_of (with_state s a x) n) ≡ f (state_of s n)
  state_kept f e n = kept_by_set f s.atoms (a - 1) x new_atom e (n - 1)

  pub state_set : IsTxn s a → length s.atoms ≡ length s.txns → (n : ℕ) → n ≡ a → state_of (with_state s a x) n ≡ x
  state_set is states n same =
      ap (λ (k : ℕ). get_or (set s.atoms (a - 1) x) (k - 1) new_atom) same
      ∙ get_or-set_same s.atoms (a - 1) x new_atom (omega (arith, is.some, is.within, states))

  pub state_other : (n : ℕ) → IsTxn s a → IsTxn s n → (n ≡ a → ⊥) → state_of (with_state s a x) n ≡ state_of s n
  state_other n is there other =
      get_or-set_other s.atoms (a - 1) (n - 1) x new_atom (λ same. other (omega (arith, same, is.some, there.some)))

  pub state_count : length (with_state s a x).atoms ≡ length s.atoms
  state_count = length-set s.atoms (a - 1) x

pub tell_sealed : (s : AtomsSeen) (trace : List Entry) (a : AtomNo) → AtomsTell s trace → IsTxn s a.0
    → AtomsTell (with_sealed s a.0) (Sealed a ∷ trace)
tell_sealed s trace a h begun =
    let x : AtomState = record (state_of s a.0) { sealed = true } in
    let same = state_kept s a.0 x (λ (y : AtomState). y.committed) refl in
    let was = txn_by s (with_sealed s a.0) refl in
    record {
      states = state_count s a.0 x ∙ h.states;
      begun = h.begun;
      script = λ n is. h.script n (was n is);
      atom = λ n is. h.atom n (was n is);
      ended = λ n is. h.ended n (was n is);
      sealed = λ n is. elim (cases_eq n a.0) [
        | inl here ↦ (
          λ now. inl here,
          λ has. ap (λ (y : AtomState). y.sealed)
              (state_set s a.0 x begun h.states n here),
        )
        | inr other ↦
            let e = ap (λ (y : AtomState). y.sealed) (state_other s a.0 x n begun (was n is) other) in (
              λ now. inr ((h.sealed n (was n is)).0 (sym e ∙ now)),
              λ has. e ∙ (h.sealed n (was n is)).1 (⊎_elim (λ here. absurd (other here)) (λ y. y) has),
            )
      ];
      committed = λ n is. let e = same n in
          (λ now. (h.committed n (was n is)).0 (sym e ∙ now), λ has. e ∙ (h.committed n (was n is)).1 has);
    }

pub tell_committed : (s : AtomsSeen) (trace : List Entry) (a : AtomNo) (clock : ℕ) → AtomsTell s trace → IsTxn s a.0
    → AtomsTell (with_committed s a.0) (Committed a clock ∷ trace)
tell_committed s trace a clock h begun =
    let x : AtomState = record (state_of s a.0) { committed = true } in
    let same = state_kept s a.0 x (λ (y : AtomState). y.sealed) refl in
    let was = txn_by s (with_committed s a.0) refl in
    record {
      states = state_count s a.0 x ∙ h.states;
      begun = h.begun;
      script = λ n is. h.script n (was n is);
      atom = λ n is. h.atom n (was n is);
      ended = λ n is. h.ended n (was n is);
      sealed = λ n is. let e = same n in
          (λ now. (h.sealed n (was n is)).0 (sym e ∙ now), λ has. e ∙ (h.sealed n (was n is)).1 has);
      committed = λ n is. elim (cases_eq n a.0) [
        | inl here ↦ (
          λ now. inl here,
          λ has. ap (λ (y : AtomState). y.committed)
              (state_set s a.0 x begun h.states n here),
        )
        | inr other ↦
            let e = ap (λ (y : AtomState). y.committed) (state_other s a.0 x n begun (was n is) other) in (
              λ now. inr ((h.committed n (was n is)).0 (sym e ∙ now)),
              λ has. e ∙ (h.committed n (was n is)).1 (⊎_elim (λ here. absurd (other here)) (λ y. y) has),
            )
      ];
    }

-- nodes are clean, of which no trace tells
pub tell_cleaned : (s : AtomsSeen) (trace : List Entry) (a : ℕ) → AtomsTell s trace → AtomsTell (with_cleaned s a) trace
tell_cleaned s trace a h =
    let x : AtomState = record (state_of s a) { cleaned = true } in
    let sealed = state_kept s a x (λ (y : AtomState). y.sealed) refl in
    let committed = state_kept s a x (λ (y : AtomState). y.committed) refl in
    let was = txn_by s (with_cleaned s a) refl in
    record {
      states = state_count s a x ∙ h.states;
      begun = h.begun;
      script = λ n is. h.script n (was n is);
      atom = λ n is. h.atom n (was n is);
      ended = λ n is. h.ended n (was n is);
      sealed = λ n is. let e = sealed n in
          (λ now. (h.sealed n (was n is)).0 (sym e ∙ now), λ has. e ∙ (h.sealed n (was n is)).1 has);
      committed = λ n is. let e = committed n in
          (λ now. (h.committed n (was n is)).0 (sym e ∙ now), λ has. e ∙ (h.committed n (was n is)).1 has);
    }

-- ---- entries that speak of no transaction and no atom

pub tell_done : (s : AtomsSeen) (trace : List Entry) (u : TxnNo) (q : ScriptNo) (i : ℕ) (c : Command) (r : Reply)
    → AtomsTell s trace → AtomsTell s (Done u q i c r ∷ trace)
tell_done s trace u q i c r h = record {
  states = h.states;
  begun = h.begun;
  script = h.script;
  atom = h.atom;
  ended = h.ended;
  sealed = h.sealed;
  committed = h.committed;
}

pub tell_refused : (s : AtomsSeen) (trace : List Entry) (u : TxnNo) (q : ScriptNo) (i : ℕ) (r : Reply)
    → AtomsTell s trace
    → AtomsTell s (Refused u q i r ∷ trace)
tell_refused s trace u q i r h = record {
  states = h.states;
  begun = h.begun;
  script = h.script;
  atom = h.atom;
  ended = h.ended;
  sealed = h.sealed;
  committed = h.committed;
}

pub tell_acked : (s : AtomsSeen) (trace : List Entry) (q : ScriptNo) (u : TxnNo) (clock : ℕ) → AtomsTell s trace
    → AtomsTell s (Acked q u clock ∷ trace)
tell_acked s trace q u clock h = record {
  states = h.states;
  begun = h.begun;
  script = h.script;
  atom = h.atom;
  ended = h.ended;
  sealed = h.sealed;
  committed = h.committed;
}

pub tell_broken : (s : AtomsSeen) (trace : List Entry) (clock faults : ℕ) → AtomsTell s trace
    → AtomsTell s (Broken clock faults ∷ trace)
tell_broken s trace clock faults h = record {
  states = h.states;
  begun = h.begun;
  script = h.script;
  atom = h.atom;
  ended = h.ended;
  sealed = h.sealed;
  committed = h.committed;
}

-- the same transactions and the same flags: nothing is told
pub tell_same : (old new : AtomsSeen) (trace : List Entry) → new.txns ≡ old.txns → length new.atoms ≡ length old.atoms
    → SameFlags old new → AtomsTell old trace → AtomsTell new trace
tell_same old new trace txns count flags h =
    let was = txn_by old new (ap length txns) in
    let txn = λ (t : ℕ). ap (λ (ts : List TxnSeen). get_or ts (t - 1) no_txn) txns in
    record {
      states = count ∙ h.states ∙ sym (ap length txns);
      begun = ap length txns ∙ h.begun;
      script = λ t is. subst (IsBegun trace t) (sym (ap (λ (x : TxnSeen). x.script) (txn t))) (h.script t (was t is));
      atom = λ t is. ap (λ (x : TxnSeen). x.atom) (txn t) ∙ h.atom t (was t is);
      ended = λ t is. let e = ap (λ (x : TxnSeen). x.is_open) (txn t) in
          (λ now. (h.ended t (was t is)).0 (sym e ∙ now), λ has. e ∙ (h.ended t (was t is)).1 has);
      sealed = λ t is. let e = flags.sealed t (was t is) in
          (λ now. (h.sealed t (was t is)).0 (sym e ∙ now), λ has. e ∙ (h.sealed t (was t is)).1 has);
      committed = λ t is. let e = flags.committed t (was t is) in
          (λ now. (h.committed t (was t is)).0 (sym e ∙ now), λ has. e ∙ (h.committed t (was t is)).1 has);
    }
