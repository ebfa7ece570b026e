-- A task is done: the accounts.
use Rattle.std.proofs.Common.{◌≡◌, inl, inr, ℕ, ◌+◌, ◌≤◌, ◌==◌, true, false, cond, List}
use Rattle.std.proofs.Common.{Some}
use Rattle.std.proofs.Common.{refl, sym, ◌∙◌, ap, subst, arith}
use Rattle.std.specs.Prelude.{nat_eq}
use Rattle.std.specs.List.{IsDistinct}
use Rattle.std.proofs.lemmas.Bool.{cases_eq}
use Rattle.r4_atoms.specs.Atoms.{AtomsSeen, IsBegun as IsTxn, IsOpenAtom, account_of, owner_of}
use Rattle.r4_atoms.specs.declared.things.Account.{Account}
use Rattle.r4_base.specs.declared.things.AtomNo.{AtomNo}
use Rattle.r4_taking.specs.r4_buffer.Changed.{has_name, in_turn, replaced, unused}
use Rattle.r4_taking.specs.r4_buffer.Seen.{BufferSeen, buffered, is_dirty_by}
use Rattle.r4_taking.specs.r4_cell.Seen.{CellSeen}
use Rattle.r4_outside.specs.Device.{State}
use Rattle.r4_counted.specs.r4_patch.Joining.{ids_of}
use Rattle.r4_taking.specs.r4_space.Accounts.{account_at}
use Rattle.r4_taking.specs.r4_space.Space.{Space}
use Rattle.r4_taking.specs.r4_space.declared.things.Account.{Account as SpaceAccount}
use Rattle.r4_taking.specs.r4_space.declared.things.Claim.{Claim}
use Rattle.r4_taking.specs.r4_trace.declared.entry.Entry.{Entry}
use Rattle.r4_taking.specs.r4_turns.Turns.{TurnsSeen}
use Rattle.r4_taking.specs.r4_turns.declared.out.Out.{Out}
use Rattle.r4_taking.specs.r4_kept.Accounts.{AreAccounts, CountsCells, HoldsOf, cells_for, claims_for, dones_in, dones_of}
use Rattle.r4_taking.specs.r4_kept.Kept.{IsKept}
use Rattle.r4_taking.specs.r4_kept.Naming.{Naming}
use Rattle.r4_taking.specs.r4_kept.View.{CoreSeen}
use Rattle.r4_done.specs.Doing.{HasCaptured, HasCharged, IsCount}
use Rattle.r4_done.proofs.DoneCounts.{counts_done, counts_stay}
use Rattle.r4_done.proofs.DoneTables.{is_touched}
use Rattle.r4_done.proofs.Dropped.{TurnsDrop}
use Rattle.r4_done.proofs.Replaced.{dirty_then}

module _ {D : Type 0} (r : Naming) (d : State) (c : CoreSeen D) (k : IsKept r d c) (s : ℕ) (out : Out)
    (turns : TurnsSeen) (on : TurnsDrop c.turns turns s out)
    (a : AtomNo) (opened : IsOpenAtom c.atoms a.0) (old new : List CellSeen)
    (old_once : IsDistinct nat_eq (ids_of old)) (new_once : IsDistinct nat_eq (ids_of new))
    (own : (n : ℕ) → is_touched old new n ≡ true → is_dirty_by (buffered c.buffer n) ≡ true
    → owner_of c.atoms n ≡ Some a.0)
    (buffer : BufferSeen)
    (cells : (i : ℕ) → buffered buffer i ≡ in_turn unused out.pins i (replaced old new i (buffered c.buffer i)))
    (places : c.buffer.spare ≤ buffer.spare + out.cells)
    (account : Account) (atoms : AtomsSeen)
    (captured : HasCaptured c.atoms atoms a.0 (is_touched old new) account out.cells)
    (space : Space) (charged : HasCharged c.space space a account.cells account.fresh out.claims)
    (counts : IsCount c.buffer old new (account_of c.atoms a.0) account) (entries : List Entry)
    (more : (x : ℕ) → dones_in c.atoms x c.trace.entries ≤ dones_in c.atoms x entries)
    (one : dones_in c.atoms a.0 c.trace.entries + 1 ≤ dones_in c.atoms a.0 entries)
    (born : account.born ≤ (account_of c.atoms a.0).born + 1)
    (gone : account.gone ≤ (account_of c.atoms a.0).gone + 1) where
  dirty : (i : ℕ) → is_dirty_by (buffered buffer i)
      ≡ cond (has_name new i) true (cond (has_name old i) false (is_dirty_by (buffered c.buffer i)))
  dirty = dirty_then c.buffer buffer old new out.pins cells

  as_atom : (x y : AtomNo) → x.0 ≡ y.0 → x ≡ y
  as_atom x y same = ap (λ (n : ℕ). record { 0 = n }) same

  abbrev Numbers : AtomNo → Type 0
  Numbers x =
      ((account_at space.atoms x).cells ≡ (account_of atoms x.0).cells)
      × ((account_at space.atoms x).fresh ≡ (account_of atoms x.0).fresh)

  numbers_then : (x : AtomNo) → IsOpenAtom atoms x.0 → Numbers x
  numbers_then x is = elim (cases_eq x.0 a.0) [
    | inl same ↦
        subst Numbers (sym (as_atom x a same)) (
          charged.own_cells ∙ sym (ap (λ (y : Account). y.cells) captured.own),
          charged.own_fresh ∙ sym (ap (λ (y : Account). y.fresh) captured.own),
        )
    | inr other ↦
        let was = captured.opens x.0 is in
        let g = k.accounts.same x was in
        let at = charged.others x other in
        let acc = captured.others x.0 was.atom.begun other in (
          ap (λ (y : SpaceAccount). y.cells) at ∙ g.0 ∙ sym (ap (λ (y : Account). y.cells) acc),
          ap (λ (y : SpaceAccount). y.fresh) at ∙ g.1 ∙ sym (ap (λ (y : Account). y.fresh) acc),
        )
  ]

  counted_then : (x : ℕ) → IsOpenAtom atoms x
      → CountsCells buffer atoms x (account_of atoms x).cells (account_of atoms x).fresh
  counted_then x is = elim (cases_eq x a.0) [
    | inl same ↦
        subst (λ (y : ℕ). CountsCells buffer atoms y (account_of atoms y).cells (account_of atoms y).fresh) (sym same)
        (subst (λ (y : Account). CountsCells buffer atoms a.0 y.cells y.fresh) (sym captured.own)
        (counts_done c.buffer buffer c.atoms atoms a.0 old new old_once new_once dirty captured.owners own _ _
        (k.accounts.counted a.0 opened) account.cells account.fresh counts.cells counts.fresh))
    | inr other ↦
        let was = captured.opens x is in
        subst (λ (y : Account). CountsCells buffer atoms x y.cells y.fresh)
        (sym (captured.others x was.atom.begun other))
        (counts_stay c.buffer buffer c.atoms atoms a.0 old new old_once new_once dirty captured.owners own x other _ _
        (k.accounts.counted x was))
  ]

  abbrev Made : ℕ → Type 0
  Made x =
      ((account_of atoms x).born ≤ dones_in c.atoms x entries)
      × ((account_of atoms x).gone ≤ dones_in c.atoms x entries)

  made_then : (x : ℕ) → IsOpenAtom atoms x → Made x
  made_then x is = elim (cases_eq x a.0) [
    | inl same ↦
        let g = k.accounts.objects a.0 opened in
        let g0 = g.0 in
        let g1 = g.1 in
        let b = ap (λ (y : Account). y.born) captured.own in
        let e = ap (λ (y : Account). y.gone) captured.own in
        subst Made (sym same) (omega (arith, g0, b, born, one), omega (arith, g1, e, gone, one))
    | inr other ↦
        let was = captured.opens x is in
        let g = k.accounts.objects x was in
        let g0 = g.0 in
        let g1 = g.1 in
        let acc = captured.others x was.atom.begun other in
        let b = ap (λ (y : Account). y.born) acc in
        let e = ap (λ (y : Account). y.gone) acc in
        let le = more x in
        (omega (arith, g0, b, le), omega (arith, g1, e, le))
  ]

  still_begun : (x : ℕ) → IsTxn c.atoms x → IsTxn atoms x
  still_begun x was =
      let le = was.within in
      let many = captured.count in
      record { some = was.some; within = omega (arith, le, many) }

  same_dones : (x : ℕ) → dones_in atoms x entries ≡ dones_in c.atoms x entries
  same_dones x = λ j. dones_of (λ t. captured.atoms t j == x) entries

  -- of a core with these parts
  pub accounts_done : (after : CoreSeen D) → after ≡ record after {
    turns = turns;
    buffer = buffer;
    atoms = atoms;
    space = space;
    commit = c.commit;
    broken = c.broken;
    trace = record after.trace { entries = entries };
  } → AreAccounts after
  accounts_done after same =
      let g = k.accounts in
      let sum = on.sums cells_for refl in
      let claims = on.sums claims_for refl in
      let spare = captured.spare in
      let calls = charged.spare in
      subst AreAccounts (sym same) (record {
        covered = charged.covered;
        same = numbers_then;
        counted = counted_then;
        unknown = λ x none.
            charged.others x (λ e. none (still_begun x.0 (subst (IsTxn c.atoms) (sym e) opened.atom.begun)))
            ∙ g.unknown x (λ was. none (still_begun x.0 was));
        objects = λ x is.
            (let m = made_then x is in
            let m0 = m.0 in
            let m1 = m.1 in
            let e = same_dones x in
            (omega (arith, m0, e), omega (arith, m1, e)));
        holds = λ sound.
            subst (λ (l : List AtomNo). HoldsOf c.commit l space.held space.placed) (sym charged.sealed)
            (subst (λ (l : List Claim). HoldsOf c.commit c.space.sealed l space.placed) (sym charged.held)
            (subst (HoldsOf c.commit c.space.sealed c.space.held) (sym charged.placed) (g.holds sound)));
        room_to_capture = omega (arith, sum, spare, g.room_to_capture);
        room_for_cells = omega (arith, sum, places, g.room_for_cells);
        room_to_defer = omega (arith, claims, calls, g.room_to_defer);
      })
