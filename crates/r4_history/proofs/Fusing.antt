-- The atom of a command fuses with all others that own a node of its reach.
use Rattle.std.proofs.Common.{◌≡◌, ◌≢◌, ◌⊎◌, inl, inr, ⊎_elim, ℕ, ◌<◌, ◌==◌, min, max, false, List, [], ◌∷◌, Option, Some, None, refl, sym, ◌∙◌, ap, subst, arith, Contains}
use Rattle.std.specs.Option.{option_map}
use Rattle.std.proofs.lemmas.Bool.{cases_eq, cases_lt, cond-false, cond-true, eq-eqb, ne_eqb, false_from_ne_true}
use Rattle.r4_atoms.specs.Atoms.{AtomsSeen, IsBegun as IsTxn, IsOpenAtom, TxnSeen, atom_of, is_sealed, owner_of}
use Rattle.r4_atoms.specs.Names.{renamed}
use Rattle.r4_atoms.specs.declared.things.AtomState.{AtomState}
use Rattle.r4_base.specs.declared.things.AtomNo.{AtomNo}
use Rattle.r4_base.specs.declared.things.NodeId.{NodeId}
use Rattle.r4_content.specs.Locality.{Meaning}
use Rattle.r4_content.specs.declared.command.Command.{Command}
use Rattle.r4_content.specs.declared.reply.Reply.{Reply}
use Rattle.r4_trace.specs.Ids.{Start}
use Rattle.r4_trace.specs.declared.entry.Entry.{Entry}
use Rattle.r4_trace.specs.Job.{IsWork}
use Rattle.r4_turns.specs.declared.out.Out.{Out}
use Rattle.r4_turns.specs.declared.turn.Open.{Open}
use Rattle.r4_history.specs.Held.{AreOwners, IsServed, Need, need_of, nodes_of}
use Rattle.r4_history.specs.Serving.{AreOthers, FusesAll, IsSealedOwner, Rise, fused, least_of}
use Rattle.r4_history.specs.Tables.{Fuses, Stands, Tables}
use Rattle.r4_history.specs.Told.{IsTold}
use Rattle.r4_history.proofs.AtomSteps.{fused_count, fused_states, fused_txn}
use Rattle.r4_history.proofs.ServingSteps.{cons_cases, cons_here, cons_later, other_is_told}
use Rattle.r4_history.proofs.Told.{told_fuse}
use Rattle.r4_trace.specs.declared.entry.Entry.TheVariants.{Fuse}

-- the smaller and the greater of two are these two
of_min : (P : ℕ → Type 0) (a b : ℕ) → P a → P b → P (min a b)
of_min P a b x y = elim (cases_lt a b) [
  | inl less ↦ let e : a ≡ min a b = omega (arith, less) in subst P e x
  | inr more ↦ let e : b ≡ min a b = omega (arith, more) in subst P e y
]

of_max : (P : ℕ → Type 0) (a b : ℕ) → P a → P b → P (max a b)
of_max P a b x y = elim (cases_lt a b) [
  | inl less ↦ let e : b ≡ max a b = omega (arith, less) in subst P e y
  | inr more ↦ let e : a ≡ max a b = omega (arith, more) in subst P e x
]

-- an atom that is not the one that goes stays an open atom
still_open : (old new : AtomsSeen) (a b : ℕ) → Fuses old new a b → (x : ℕ) → IsOpenAtom old x → x ≢ b → IsOpenAtom new x
still_open old new a b f x is other =
    let count = fused_count old new a b f in
    record {
      atom = record {
        begun = record { some = is.atom.begun.some; within = omega (arith, is.atom.begun.within, count) };
        own =
            ap (λ (y : TxnSeen). y.atom) (fused_txn old new a b f x is.atom.begun)
            ∙ ap (renamed a b) is.atom.own ∙ cond-false (x == b) a x (ne_eqb x b other);
      };
      unsealed = fused_states old new a b f (λ (y : AtomState). y.sealed) (λ y k. refl) x ∙ is.unsealed;
    }

module _ (w : Meaning Command Reply) (start : Option Start) (clock : ℕ) where
  all_told : (others : List (ℕ × ℕ)) (own : ℕ) (t : Tables) (trace : List Entry) → IsTold w start clock t trace
      → t.broken ≡ None
      → IsOpenAtom t.atoms own → Rise others
      → ((p : ℕ × ℕ) → Contains others p → IsOpenAtom t.atoms p.0 × (p.0 ≢ own)) → (after : AtomsSeen)
      → FusesAll t.atoms own others after → IsTold w start clock (record t { atoms = after }) (fused own others trace)
  all_told [] own t trace h none is rise each after f = subst
      (λ (a : AtomsSeen). IsTold w start clock (record t { atoms = a }) trace) (sym f) h
  all_told (p ∷ rest) own t trace h none is rise each after f =
      let first = each p (cons_here p rest) in
      let kept : AtomNo = record { 0 = min own p.0 } in
      let gone : AtomNo = record { 0 = max own p.0 } in
      let node : NodeId = record { 0 = p.1 } in
      let differ = first.1 in
      let less : min own p.0 < max own p.0 = omega (arith, differ) in
      let mid = f.0 in
      let now = told_fuse w start clock t trace h kept gone node mid none
      (of_min (IsOpenAtom t.atoms) own p.0 is first.0)
      (of_max (IsOpenAtom t.atoms) own p.0 is first.0) less f.1 in
      let stays = still_open t.atoms mid (min own p.0) (max own p.0) f.1 in
      all_told rest (min own p.0) (record t { atoms = mid })
      (Fuse kept gone node ∷ trace) now none
      (stays (min own p.0) (of_min (IsOpenAtom t.atoms) own p.0 is first.0) (λ same. omega (arith, same, less))) rise.1
      (λ q there.
      (let lt = rise.0 q there in
      let was = each q (cons_later p rest q there) in
      let differs = was.1 in
      (stays q.0 was.0 (λ same. omega (arith, same, lt, differs)), λ same. omega (arith, same, lt, differs))))
      after f.3

  pub fuses_told : (t : Tables) (trace : List Entry) → IsTold w start clock t trace
      → (own : ℕ) (need : Need) (others : List (ℕ × ℕ)) (atoms : AtomsSeen)
      → t.broken ≡ None → AreOwners t.atoms → IsOpenAtom t.atoms own → AreOthers t.atoms own need others
      → FusesAll t.atoms own others atoms
      → IsTold w start clock (record t { atoms = atoms }) (fused own others trace)
  fuses_told t trace h own need others atoms none owners is are f =
      all_told others own t trace h none is are.rise
      (λ p there.
      (let one = ((are.each p.0 p.1).0 there).is_one in
      (record { atom = (owners p.1 p.0 one.owner.owns).0; unsealed = one.owner.unsealed }, one.owner.other)))
      atoms f

-- ---- who owns the reach then

renamed_own : (own a b : ℕ) → (b ≡ own) ⊎ (b ≡ a) → renamed (min own a) (max own a) b ≡ min own a
renamed_own own a b is = elim (cases_eq b (max own a)) [
  | inl same ↦ cond-true (b == max own a) (min own a) b (eq-eqb b (max own a) same)
  | inr other ↦
      cond-false (b == max own a) (min own a) b (ne_eqb b (max own a) other)
      ∙ ⊎_elim (λ e. omega (arith, e, other)) (λ e. omega (arith, e, other)) is
]

all_own : (others : List (ℕ × ℕ)) (own : ℕ) (s after : AtomsSeen) → FusesAll s own others after → Rise others
    → ((p : ℕ × ℕ) → Contains others p → p.0 ≢ own) → (node b : ℕ) → owner_of after node ≡ Some b
    → ((c : ℕ) → owner_of s node ≡ Some c → (c ≡ own) ⊎ ((n : ℕ) × Contains others (c, n))) → b ≡ least_of own others
all_own [] own s after f rise differ node b owned among =
    ⊎_elim (λ e. e) (λ there. (let lt = there.1.1 in absurd (omega (arith, lt))))
    (among b (ap (λ (x : AtomsSeen). owner_of x node) (sym f) ∙ owned))
all_own (p ∷ rest) own s after f rise differ node b owned among =
    all_own rest (min own p.0) f.0 after f.3 rise.1
    (λ q there. (let lt = rise.0 q there in let d = differ q (cons_later p rest q there) in λ same. omega
    (arith, same, lt, d))) node b owned
    (λ c now. by (owner_of s node) refl c (sym (f.2 node) ∙ now))
  where
    by : (o : Option ℕ) → owner_of s node ≡ o → (c : ℕ)
        → option_map (renamed (min own p.0) (max own p.0)) (owner_of s node) ≡ Some c
        → (c ≡ min own p.0) ⊎ ((n : ℕ) × Contains rest (c, n))
    by None is c e = absurd (cc (sym (ap (option_map (renamed (min own p.0) (max own p.0))) is) ∙ e))
    by (Some d) is c e =
        let now : renamed (min own p.0) (max own p.0) d ≡ c = cc
        (sym (ap (option_map (renamed (min own p.0) (max own p.0))) is) ∙ e) in
        ⊎_elim
        (λ mine. inl (sym now ∙ renamed_own own p.0 d (inl mine)))
        (λ there. ⊎_elim
        (λ first. inl (sym now ∙ renamed_own own p.0 d (inr (ap (λ (y : ℕ × ℕ). y.0) (sym first)))))
        (λ later.
        (let lt = rise.0 (d, there.0) later in
        let unlike = differ (d, there.0) (cons_later p rest (d, there.0) later) in
        let same : d ≡ c = sym (cond-false (d == max own p.0) (min own p.0) d
        (ne_eqb d (max own p.0) (λ e. omega (arith, e, lt, unlike)))) ∙ now in
        inr (there.0, subst (λ (x : ℕ). Contains rest (x, there.0)) same later)))
        (cons_cases p rest (d, there.0) there.1))
        (among d is)

-- after the fuses no other atom owns a node of the reach, where no sealed one did
pub reach_is_own : (s : AtomsSeen) (own : ℕ) (need : Need) (others : List (ℕ × ℕ)) (after : AtomsSeen)
    → AreOthers s own need others
    → FusesAll s own others after → ((a : ℕ) → IsSealedOwner s need a → ⊥) → (node b : ℕ)
    → Contains (nodes_of need) node
    → owner_of after node ≡ Some b → b ≡ least_of own others
reach_is_own s own need others after are f unsealed node b reached owned =
    all_own others own s after f are.rise (λ p there. ((are.each p.0 p.1).0 there).is_one.owner.other) node b owned
    (λ c had. elim (cases_eq c own) [
      | inl mine ↦ inl mine
      | inr other ↦
          let un : is_sealed s c ≡ false = false_from_ne_true (is_sealed s c)
          (λ is. unsealed c (record { node = node; reached = reached; owner = had; sealed = is })) in
          inr (other_is_told s own need others are c node reached had other un)
    ])

all_names : (others : List (ℕ × ℕ)) (own : ℕ) (s after : AtomsSeen) → FusesAll s own others after → (txn : ℕ)
    → IsTxn s txn → atom_of s txn ≡ own
    → atom_of after txn ≡ least_of own others
all_names [] own s after f txn begun is = ap (λ (x : AtomsSeen). atom_of x txn) f ∙ is
all_names (p ∷ rest) own s after f txn begun is =
    let count = fused_count s f.0 (min own p.0) (max own p.0) f.1 in
    all_names rest (min own p.0) f.0 after f.3 txn
    (record { some = begun.some; within = omega (arith, begun.within, count) })
    (ap (λ (y : TxnSeen). y.atom) (fused_txn s f.0 (min own p.0) (max own p.0) f.1 txn begun)
    ∙ ap (renamed (min own p.0) (max own p.0)) is ∙ renamed_own own p.0 own (inl refl))

pub atom_is_least : (s : AtomsSeen) (own : ℕ) (others : List (ℕ × ℕ)) (after : AtomsSeen)
    → FusesAll s own others after → (txn : ℕ) → IsTxn s txn
    → atom_of s txn ≡ own → atom_of after txn ≡ least_of own others
atom_is_least s own others after f txn begun is = all_names others own s after f txn begun is

-- a command that goes out behind the fuses
pub served_behind : (t : Tables) (s : ℕ) (within : Open) (c : Command) (out : Out) (others : List (ℕ × ℕ))
    (after : AtomsSeen)
    → Stands t.turns s (Some within) (Some c) → IsWork c → within.txn ≡ out.txn → IsTxn t.atoms out.txn.0
    → AreOthers t.atoms (atom_of t.atoms out.txn.0) (need_of out) others
    → FusesAll t.atoms (atom_of t.atoms out.txn.0) others after → ((a : ℕ) → IsSealedOwner t.atoms (need_of out) a → ⊥)
    → IsServed (record t { atoms = after }) s out
served_behind t s within c out others after st work txn begun are f unsealed = record {
  within = within;
  transaction = st.transaction;
  txn = txn;
  command = c;
  next = st.next;
  work = work;
  owners = λ node a reached owned.
      reach_is_own t.atoms (atom_of t.atoms out.txn.0) (need_of out) others after are f unsealed node a reached owned
      ∙ sym (atom_is_least t.atoms (atom_of t.atoms out.txn.0) others after f out.txn.0 begun refl);
}
