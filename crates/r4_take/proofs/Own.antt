-- The transaction of a command, and what holds of its atom once it has one.
use Rattle.std.proofs.Common.{◌≡◌, ◌∙◌, ℕ, ◌+◌, ◌≤◌, true, false, List, Some, None, ap, Option}
use Rattle.std.proofs.Common.{arith, length, refl, subst, sym, true≢false}
use Rattle.std.specs.Prelude.{IfSome, slice_get}
use Rattle.std.proofs.lemmas.Bool.{false_from_ne_true}
use Rattle.r4_atoms.specs.Atoms.{AtomsSeen, IsAtom, IsBegun, IsOpenAtom, TxnSeen, atom_of, is_sealed, owner_of, txn_of}
use Rattle.r4_atoms.specs.declared.things.AtomState.{AtomState}
use Rattle.r4_base.specs.declared.things.TxnNo.{TxnNo}
use Rattle.r4_content.specs.Locality.{commands}
use Rattle.r4_content.specs.Meaning.{greatest_size}
use Rattle.r4_seal.proofs.r4_history.AtomSteps.{count_after, state_after, state_before, txn_after}
use Rattle.r4_seal.proofs.r4_history.Places.{is_script_with, turn_now}
use Rattle.r4_seal.proofs.r4_history.RunSteps.{open_in_both}
use Rattle.r4_seal.proofs.r4_history.Told.{atom_named}
use Rattle.r4_seal.specs.r4_history.Drawn.{numbers_of}
use Rattle.r4_seal.specs.r4_history.Held.{AreOwners, Need}
use Rattle.r4_seal.specs.r4_history.Serving.{AreOthers, IsOwnerInReach, IsSealedOwner}
use Rattle.r4_seal.specs.r4_history.Tables.{next_at, single}
use Rattle.r4_seal.specs.r4_history.Told.{IsTold}
use Rattle.r4_seal.proofs.r4_kept.Turning.{owed_less, summed}
use Rattle.r4_seal.specs.r4_kept.Accounts.{cells_for, cells_owed, claims_for, claims_owed}
use Rattle.r4_seal.specs.r4_kept.History.{owed}
use Rattle.r4_seal.specs.r4_kept.Kept.{IsKept}
use Rattle.r4_seal.specs.r4_kept.Naming.{Naming}
use Rattle.r4_seal.specs.r4_kept.Steps.{HasBegunSingle}
use Rattle.r4_seal.specs.r4_kept.View.{CoreSeen, tables_of}
use Rattle.r4_outside.specs.Device.{State}
use Rattle.r4_take.specs.Sending.{HasOwn, HasRoomier, own_in}
use Rattle.r4_take.proofs.Roomy.{turns_same, txns_same}
use Rattle.r4_take.specs.declared.gathering.Own.{Own}
use Rattle.r4_seal.proofs.r4_trace.FirstOnes.{open_unsealed}
use Rattle.r4_seal.specs.r4_trace.Traced.{IsOpen, IsSealed}
use Rattle.r4_turns.specs.Turns.{IsScript, commands_at, entered, turn_at}
use Rattle.r4_turns.specs.declared.turn.Open.{Open}
use Rattle.r4_turns.specs.declared.turn.Turn.{Turn}

-- What holds of a core in which the script's next command has its transaction.
pub record HasTxn {D : Type 0} (c b : CoreSeen D) (s : ℕ) (own : Own) : Type 0 where
  pub within : Open
  pub transaction : (turn_at b.turns s).transaction ≡ Some within
  pub txn : within.txn ≡ own.txn
  pub script : IsScript b.turns s
  pub out : (turn_at b.turns s).out ≡ (turn_at c.turns s).out
  pub kept : numbers_of (turn_at b.turns s) ≡ numbers_of (turn_at c.turns s)
  pub next : next_at b.turns s ≡ next_at c.turns s
  pub owes : owed b.turns ≤ owed c.turns
  pub cells : cells_owed b.turns.turns ≡ cells_owed c.turns.turns
  pub claims : claims_owed b.turns.turns ≡ claims_owed c.turns.turns
  pub begun : IsBegun b.atoms own.txn.0
  pub atom : atom_of b.atoms own.txn.0 ≡ own.atom.0
  pub opened : IsOpenAtom b.atoms own.atom.0
  pub owners : (n : ℕ) → owner_of b.atoms n ≡ owner_of c.atoms n
  pub sealed : (a : ℕ) → IsAtom c.atoms a → is_sealed b.atoms a ≡ is_sealed c.atoms a
  pub room : b.atoms.spare ≡ c.atoms.spare
  pub entries : c.trace.spare ≤ b.trace.spare + 1
  pub same : b ≡ record c { turns = b.turns; atoms = b.atoms; trace = b.trace }

-- ---- one that is open

module _ {D : Type 0} (r : Naming) (d : State) (c : CoreSeen D) (k : IsKept r d c) (s : ℕ) (is : IsScript c.turns s)
    (o : Open) (some : (turn_at c.turns s).transaction ≡ Some o) where
  abbrev told : IsTold (commands greatest_size) None d.clock (tables_of c) c.trace.entries
  told = k.history.told None tt

  both : IsBegun c.atoms o.txn.0 × ((txn_of c.atoms o.txn.0).is_open ≡ true)
      × ((txn_of c.atoms o.txn.0).script ≡ s)
  both = open_in_both (commands greatest_size) None d.clock (tables_of c) c.trace.entries told s o is some

  pub open_begun : IsBegun c.atoms o.txn.0
  open_begun = both.0

  open_atom : IsOpenAtom c.atoms (atom_of c.atoms o.txn.0)
  open_atom =
      let n = o.txn.0 in
      let a = atom_of c.atoms n in
      let script = (txn_of c.atoms n).script in
      let begins = told.atoms.script n both.0 in
      let same = told.atoms.atom n both.0 in
      let opn : IsOpen c.trace.entries n script =
      (begins, λ ends. true≢false (sym both.1 ∙ (told.atoms.ended n both.0).1 ends)) in
      let atom = atom_named (commands greatest_size) None d.clock (tables_of c) c.trace.entries told n both.0 in
      record {
        atom = atom;
        unsealed = false_from_ne_true (is_sealed c.atoms a)
            (λ sealed.
            open_unsealed c.trace.entries n script told.legal.order opn
            (subst (IsSealed c.trace.entries) same ((told.atoms.sealed a atom.begun).0 sealed)));
      }

  pub has_open : HasTxn c c s (own_in c.atoms (Some o))
  has_open = record {
    within = o;
    transaction = some;
    txn = refl;
    script = is;
    out = refl;
    kept = refl;
    next = refl;
    owes = omega arith;
    cells = refl;
    claims = refl;
    begun = both.0;
    atom = refl;
    opened = open_atom;
    owners = λ n. refl;
    sealed = λ a at. refl;
    room = refl;
    entries = omega arith;
    same = refl;
  }

-- ---- one that begins for a single command

module _ {D : Type 0} (r : Naming) (d : State) (c b : CoreSeen D) (k : IsKept r d c) (s : ℕ) (is : IsScript c.turns s)
    (u : TxnNo) (number : u.0 ≡ length c.atoms.txns + 1)
    (h : HasBegunSingle c b (record { 0 = s }) u) where
  abbrev states : length c.atoms.atoms ≡ length c.atoms.txns
  states = (k.history.told None tt).atoms.states

  turn : Turn
  turn = record (turn_at c.turns s) { transaction = Some (single u) }

  turns_are : b.turns ≡ entered c.turns s (single u)
  turns_are = ap (λ (x : CoreSeen D). x.turns) h.same

  here : turn_at b.turns s ≡ record (turn_at c.turns s) { transaction = Some (single u) }
  here = ap (λ t. turn_at t s) turns_are
      ∙ turn_now c.turns s (record (turn_at c.turns s) { transaction = Some (single u) }) is

  new_txn_there : IsBegun b.atoms u.0
  new_txn_there =
      let e = count_after c.atoms b.atoms s h.begins states in
      record { some = omega (arith, number); within = omega (arith, number, e) }

  atom_there : atom_of b.atoms u.0 ≡ u.0
  atom_there = ap (λ (x : TxnSeen). x.atom) (txn_after c.atoms b.atoms s h.begins states u.0 number) ∙ sym number

  pub has_begun : HasTxn c b s (record { txn = u; atom = record { 0 = u.0 }; begins = true })
  has_begun = record {
    within = single u;
    transaction = ap (λ (x : Turn). x.transaction) here;
    txn = refl;
    script = subst (λ t. IsScript t s) (sym turns_are)
        (is_script_with c.turns s (record (turn_at c.turns s) { transaction = Some (single u) }) s is);
    out = ap (λ (x : Turn). x.out) here;
    kept = ap numbers_of here;
    next = next_same;
    owes = subst (λ t. owed t ≤ owed c.turns) (sym turns_are)
        (owed_less c.turns s (record (turn_at c.turns s) { transaction = Some (single u) }) is (λ x. omega arith));
    cells =
        let e = summed c.turns s (record (turn_at c.turns s) { transaction = Some (single u) }) is
        (λ (x : Turn). cells_for x.out) in
        ap (λ t. cells_owed t.turns) turns_are ∙ omega (arith, e);
    claims =
        let e = summed c.turns s (record (turn_at c.turns s) { transaction = Some (single u) }) is
        (λ (x : Turn). claims_for x.out) in
        ap (λ t. claims_owed t.turns) turns_are ∙ omega (arith, e);
    begun = new_txn_there;
    atom = atom_there;
    opened = record {
      atom = record { begun = new_txn_there; own = atom_there };
      unsealed = ap (λ (x : AtomState). x.sealed) (state_after c.atoms b.atoms s h.begins states u.0 number);
    };
    owners = h.owners;
    sealed = λ a at. ap (λ (x : AtomState). x.sealed) (state_before c.atoms b.atoms s h.begins states a at.begun);
    room = h.room;
    entries = let e = ap (λ (x : CoreSeen D). x.trace.spare) h.same in omega (arith, e);
    same = h.same ∙ sym (ap (λ (x : CoreSeen D). record c { turns = x.turns; atoms = b.atoms; trace = x.trace }) h.same);
  }
    where
      next_entered : next_at (entered c.turns s (single u)) s ≡ next_at c.turns s
      next_entered = ap (λ (x : Turn). slice_get (commands_at c.turns s) x.answered)
          (turn_now c.turns s (record (turn_at c.turns s) { transaction = Some (single u) }) is)

      next_same : next_at b.turns s ≡ next_at c.turns s
      next_same = ap (λ t. next_at t s) turns_are ∙ next_entered

-- ---- the same owners, and the same atoms sealed

module _ (s t : AtomsSeen) (owners : (n : ℕ) → owner_of t n ≡ owner_of s n)
    (sealed : (a : ℕ) → IsAtom s a → is_sealed t a ≡ is_sealed s a) (lawful : AreOwners s) where
  pub others_then : (own : ℕ) (need : Need) (others : List (ℕ × ℕ)) → AreOthers s own need others
      → AreOthers t own need others
  others_then own need others are = record {
    rise = are.rise;
    each = λ a node. (
      (λ has.
          (let one = (are.each a node).0 has in
          record { is_one = later a node one.is_one; least = λ n is. one.least n (before a n is) })),
      (λ one. (are.each a node).1
          (record { is_one = before a node one.is_one; least = λ n is. one.least n (later a n is) })),
    );
  }
    where
      later : (a node : ℕ) → IsOwnerInReach s own need a node → IsOwnerInReach t own need a node
      later a node x = record {
        reached = x.reached;
        owner = record {
          owns = owners node ∙ x.owner.owns;
          other = x.owner.other;
          unsealed = sealed a (lawful node a x.owner.owns).0 ∙ x.owner.unsealed;
        };
      }

      before : (a node : ℕ) → IsOwnerInReach t own need a node → IsOwnerInReach s own need a node
      before a node x =
          let owned = sym (owners node) ∙ x.owner.owns in
          record {
            reached = x.reached;
            owner = record {
              owns = owned;
              other = x.owner.other;
              unsealed = sym (sealed a (lawful node a owned).0) ∙ x.owner.unsealed;
            };
          }

  pub unsealed_then : (need : Need) → ((a : ℕ) → IsSealedOwner s need a → ⊥)
      → (a : ℕ) → IsSealedOwner t need a → ⊥
  unsealed_then need none a x =
      let owned = sym (owners x.node) ∙ x.owner in
      none a (record {
        node = x.node;
        reached = x.reached;
        owner = owned;
        sealed = sym (sealed a (lawful x.node a owned).0) ∙ x.sealed;
      })

-- ---- whichever it is

pub begun_if : {D : Type 0} (r : Naming) (d : State) (c : CoreSeen D) → IsKept r d c → (s : ℕ) → IsScript c.turns s
    → (o : Option Open) → o ≡ (turn_at c.turns s).transaction → IfSome o (λ z. IsBegun c.atoms z.txn.0)
begun_if r d c k s is None at = tt
begun_if r d c k s is (Some o) at = open_begun r d c k s is o (sym at)

module _ {D : Type 0} (r : Naming) (d : State) (c m b : CoreSeen D) (k : IsKept r d m) (room : HasRoomier c m) (s : ℕ)
    (is : IsScript c.turns s) (own : Own) where
  script_then : IsScript m.turns s
  script_then = subst (λ t. IsScript t s) (sym (turns_same c m room)) is

  there : (o : Option Open) → o ≡ (turn_at c.turns s).transaction → (turn_at m.turns s).transaction ≡ o
  there o at = ap (λ t. (turn_at t s).transaction) (turns_same c m room) ∙ sym at

  pub has_txn : (o : Option Open) → o ≡ (turn_at c.turns s).transaction → own ≡ own_in c.atoms o
      → HasOwn m b s own own.begins → HasTxn m b s own
  has_txn (Some o) at same h =
      let is_m : b ≡ m = subst (HasOwn m b s own) (ap (λ (z : Own). z.begins) same) h in
      let atom : atom_of m.atoms o.txn.0 ≡ atom_of c.atoms o.txn.0 =
      ap (λ l. atom_of (record c.atoms { txns = l }) o.txn.0) (txns_same c m room) in
      let own_is : own ≡ own_in m.atoms (Some o) =
      same ∙ sym (ap (λ (n : ℕ). record { txn = o.txn; atom = record { 0 = n }; begins = false }) atom) in
      subst (λ (z : CoreSeen D). HasTxn m z s own) (sym is_m)
      (subst (HasTxn m m s) (sym own_is) (has_open r d m k s script_then o (there (Some o) at)))
  has_txn None at same h =
      let begins : HasBegunSingle m b (record { 0 = s }) own.txn =
      subst (HasOwn m b s own) (ap (λ (z : Own). z.begins) same) h in
      let number : own.txn.0 ≡ length m.atoms.txns + 1 =
      ap (λ (z : Own). z.txn.0) same ∙ ap (λ l. length l + 1) (sym (txns_same c m room)) in
      let own_is : own ≡ record { txn = own.txn; atom = record { 0 = own.txn.0 }; begins = true } =
      same ∙ ap (λ (u : TxnNo). record { txn = u; atom = record { 0 = u.0 }; begins = true })
      (sym (ap (λ (z : Own). z.txn) same)) in
      subst (HasTxn m b s) (sym own_is) (has_begun r d m b k s script_then own.txn number begins)
