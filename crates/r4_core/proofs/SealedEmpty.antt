-- An atom is sealed that owns no cell: what holds of a core holds still.
use Rattle.std.proofs.Common.{◌≡◌, inl, inr, ℕ, ◌+◌, ◌<◌, ◌≤◌, Bool, true, false, cond, List, [], ◌∷◌}
use Rattle.std.proofs.Common.{Option, Some, None, refl, sym, ◌∙◌, ap, subst, arith, true≢false}
use Rattle.std.specs.Prelude.{◌↔◌, Contains, IsSome}
use Rattle.std.specs.Option.{option_map}
use Rattle.std.proofs.lemmas.Bool.{cases_eq, ne_eqb}
use Rattle.r4_atoms.specs.Atoms.{AtomsSeen, IsBegun, IsOpenAtom, IsOpenIn, account_of, is_committed, is_sealed, numbers}
use Rattle.r4_atoms.specs.Atoms.{owner_of, state_of}
use Rattle.r4_atoms.specs.declared.things.Account.{Account}
use Rattle.r4_atoms.specs.declared.things.AtomState.{AtomState}
use Rattle.r4_base.proofs.Members.{no_member}
use Rattle.r4_base.specs.declared.things.AtomNo.{AtomNo}
use Rattle.r4_base.specs.declared.things.NodeId.{NodeId}
use Rattle.r4_content.specs.Locality.{commands}
use Rattle.r4_content.specs.Meaning.{greatest_size}
use Rattle.r4_ready.specs.r4_durable.Kept.{IsSession}
use Rattle.r4_ready.specs.r4_durable.Meaning.{Beginning, IsNamed, means, start_of}
use Rattle.r4_ready.proofs.r4_durable.Empty.{empty_deferred, empty_session}
use Rattle.r4_flushing.specs.r4_flushed.Deferred.{AreDeferred}
use Rattle.r4_others.specs.r4_history.Tables.{with_sealed}
use Rattle.r4_others.proofs.r4_history.AtomSteps.{committed_sealed}
use Rattle.r4_others.proofs.r4_history.DrawnSteps.{drawn_entry}
use Rattle.r4_others.proofs.r4_history.TaskSteps.{state_follow, tasks_other}
use Rattle.r4_others.proofs.r4_history.Told.{told_sealed}
use Rattle.r4_outside.specs.Device.{State, TellsCrashes}
use Rattle.r4_flushing.specs.r4_sets.Atoms.{sealed, without}
use Rattle.r4_flushing.specs.r4_sets.Session.{Session}
use Rattle.r4_space.specs.Space.{Space}
use Rattle.r4_trace.specs.Job.{Asked}
use Rattle.r4_trace.specs.Kept.{Told}
use Rattle.r4_trace.specs.Order.{IsOrdered}
use Rattle.r4_trace.specs.declared.entry.Entry.{Entry}
use Rattle.r4_trace.specs.declared.entry.Entry.TheVariants.{Sealed}
use Rattle.r4_trace.proofs.Safely.{safe_push}
use Rattle.r4_ready.specs.r4_kept.Accounts.{AreAccounts, CountsCells}
use Rattle.r4_ready.specs.r4_kept.Cells.{AreCells}
use Rattle.r4_ready.specs.r4_kept.Durable.{IsDurable}
use Rattle.r4_ready.specs.r4_kept.History.{IsHistory, is_headed, owed}
use Rattle.r4_ready.specs.r4_kept.Kept.{HasStory, IsKept}
use Rattle.r4_ready.specs.r4_kept.Meaning.{HasMeaning, IsAtRest, IsSealedEmpty, if_open}
use Rattle.r4_ready.specs.r4_kept.Naming.{Naming, job_named, names_in}
use Rattle.r4_ready.specs.r4_kept.Steps.{sealed_empty, with_entry}
use Rattle.r4_ready.specs.r4_kept.Story.{Story}
use Rattle.r4_ready.specs.r4_kept.View.{CoreSeen, tables_of}
use Rattle.r4_ready.specs.r4_kept.declared.parts.Commit.{Commit}
use Rattle.r4_ready.specs.r4_kept.declared.parts.Volume.{Volume}
use Rattle.r4_ready.proofs.r4_kept.States.{owners_same, state_others, state_same, state_there}

-- ---- in a run that names its beginning

module _ (b : Beginning) (job : Option Asked) (c : Session) (s : Space) (vol : Volume) (d : State) (k : AtomNo)
    (h : IsAtRest b job c s vol d) (none : (i : ℕ) → c.owner i ≡ Some k.0 → ⊥)
    (legal : IsOrdered (Sealed k ∷ c.trace)) where
  session_sealed : IsSession greatest_size b job (sealed c k)
  session_sealed = empty_session greatest_size b job c s d.seen h.means k none

  deferred_sealed : AreDeferred (sealed c k) s
  deferred_sealed a n =
      let others = empty_deferred greatest_size b job c s d.seen h.means k none in
      elim (cases_eq a.0 k.0) [
        | inl same ↦ (
          λ is. absurd (none n (((h.means.deferred a n).0 is).own ∙ ap (λ (j : ℕ). Some j) same)),
          λ g. absurd (others.none n (g.own ∙ ap (λ (j : ℕ). Some j) same)),
        )
        | inr other ↦ others.others a n other
      ]

  sealed_now : IsSealedEmpty b job (sealed c k) s vol d k
  sealed_now = record {
    before = c;
    space = s;
    more = [];
    rest = h;
    none = none;
    goes = record { start = refl; trace = refl; base = refl; under = refl; legal = legal; none = tt };
    alike = record { count = refl; marked = refl; placed = refl };
    lawful = h.means.rests.lawful;
    deferred = deferred_sealed;
  }

-- ---- a core

module _ {D : Type 0} (r : Naming) (d : State) (x : CoreSeen D) (k : AtomNo)
    (h : IsKept r d (record x { commit = None; broken = None })) (unsealed : IsOpenAtom x.atoms k.0)
    (closed : (t : ℕ) → IsOpenIn x.atoms k.0 t → ⊥) (none : (i : ℕ) → owner_of x.atoms i ≡ Some k.0 → ⊥)
    (room : owed x.turns + 2 ≤ x.trace.spare) where
  abbrev trace : List Entry
  trace = x.trace.entries

  abbrev had : CoreSeen D
  had = record x { commit = None; broken = None }

  abbrev atoms : AtomsSeen
  atoms = with_sealed x.atoms k.0

  abbrev new : AtomState
  new = record (state_of x.atoms k.0) { sealed = true }

  abbrev commit : Commit
  commit = record { atom = k; nodes = []; work = None }

  abbrev now : CoreSeen D
  now = record x {
    atoms = atoms;
    commit = Some commit;
    broken = None;
    trace = with_entry x.trace (Sealed k);
  }

  states : state_of atoms k.0 ≡ new
  states = state_there x.atoms k.0 new unsealed.atom.begun (h.history.told None tt).atoms.states

  owners : (i : ℕ) → owner_of atoms i ≡ owner_of x.atoms i
  owners = owners_same x.atoms k.0 new refl

  accounts : (n : ℕ) → account_of atoms n ≡ account_of x.atoms n
  accounts = state_same x.atoms k.0 new (λ (y : AtomState). y.account) refl

  -- an atom that is open then is another one
  another : (n : ℕ) → IsOpenAtom atoms n → n ≡ k.0 → ⊥
  another n opened same =
      absurd (true≢false (sym (ap (λ (y : AtomState). y.sealed) states)
      ∙ ap (λ (j : ℕ). is_sealed atoms j) (sym same) ∙ opened.unsealed))

  same_flag : (n : ℕ) → 0 < n → (n ≡ k.0 → ⊥) → is_sealed atoms n ≡ is_sealed x.atoms n
  same_flag n some other =
      ap (λ (y : AtomState). y.sealed) (state_others x.atoms k.0 new unsealed.atom.begun n some other)

  opens : (n : ℕ) → IsOpenAtom atoms n → IsOpenAtom x.atoms n
  opens n is = record {
    atom = record {
      begun = record { some = is.atom.begun.some; within = is.atom.begun.within };
      own = is.atom.own;
    };
    unsealed = sym (same_flag n is.atom.begun.some (another n is)) ∙ is.unsealed;
  }

  uncommitted : is_committed atoms k.0 ≡ false
  uncommitted =
      ap (λ (y : AtomState). y.committed) states
      ∙ not_yet (is_committed x.atoms k.0) refl
    where
      not_yet : (y : Bool) → is_committed x.atoms k.0 ≡ y → y ≡ false
      not_yet false is = refl
      not_yet true is =
          let told = (h.history.told None tt).atoms in
          let begun = unsealed.atom.begun in
          let was = (told.committed k.0 begun).0 is in
          let also = (told.sealed k.0 begun).1
          (committed_sealed trace k.0 (h.history.told None tt).legal.order was) in
          absurd (true≢false (sym also ∙ unsealed.unsealed))

  history_sealed : IsHistory r d now
  history_sealed = record {
    told = λ o named. told_sealed (commands greatest_size) (option_map start_of o) d.clock (tables_of had) trace
        (h.history.told o named) k refl refl unsealed closed;
    job = h.history.job;
    first = h.history.first;
    drawn = drawn_entry h.history.first x.turns x.numbers.next_oid trace h.history.drawn (Sealed k) tt;
    begins = h.history.begins;
    committed = λ other at.
        (let same : commit ≡ other = cc at in
        subst (λ (y : Commit). is_committed atoms y.atom.0 ≡ is_headed y.work) same uncommitted);
    room = omega (arith, room);
  }

  legal_sealed : IsOrdered (Sealed k ∷ trace)
  legal_sealed = (history_sealed.told None tt).legal.order

  counts_on : (n cells fresh : ℕ) → CountsCells x.buffer x.atoms n cells fresh
      → CountsCells x.buffer atoms n cells fresh
  counts_on n cells fresh g = record {
    nodes = g.nodes;
    different = g.different;
    just = λ i. (
      (λ has. (owners i ∙ ((g.just i).0 has).0, ((g.just i).0 has).1)),
      (λ both. (g.just i).1 (sym (owners i) ∙ both.0, both.1)),
    );
    cells_are = g.cells_are;
    fresh_are = g.fresh_are;
  }

  accounts_sealed : AreAccounts now
  accounts_sealed =
      let g = h.accounts in
      record {
        covered = g.covered;
        same = λ n opened.
            (let one = g.same n (opens n.0 opened) in
            let acc = accounts n.0 in (
              one.0 ∙ sym (ap (λ (y : Account). y.cells) acc),
              one.1 ∙ sym (ap (λ (y : Account). y.fresh) acc),
            ));
        counted = λ n opened.
            subst (λ (y : Account). CountsCells x.buffer atoms n y.cells y.fresh) (sym (accounts n))
            (counts_on n _ _ (g.counted n (opens n opened)));
        unknown = λ n not.
            g.unknown n (λ begun. not (record { some = begun.some; within = begun.within }));
        objects = λ n opened.
            (let one = g.objects n (opens n opened) in
            let acc = accounts n in
            let born : (account_of atoms n).born ≡ (account_of x.atoms n).born = ap (λ (y : Account). y.born) acc in
            let gone : (account_of atoms n).gone ≡ (account_of x.atoms n).gone = ap (λ (y : Account). y.gone) acc in
            (omega (arith, one.0, born), omega (arith, one.1, gone)));
        holds = g.holds;
        room_to_capture = g.room_to_capture;
        room_for_cells = g.room_for_cells;
        room_to_defer = g.room_to_defer;
      }

  cells_sealed : AreCells d now
  cells_sealed =
      let g = h.cells in
      record {
        super40 = g.super40;
        space = g.space;
        root = g.root;
        height = g.height;
        root_stands = g.root_stands;
        buffered_names = g.buffered_names;
        reached_names = g.reached_names;
        owned_names = λ i some. g.owned_names i (subst IsSome (owners i) some);
        named = g.named;
        given_cells = g.given_cells;
        dirty = λ i f at. (
          (λ yes. subst IsSome (sym (owners i)) ((g.dirty i f at).0 yes)),
          (λ some. (g.dirty i f at).1 (subst IsSome (owners i) some)),
        );
        fresh = g.fresh;
        clean = g.clean;
        nodes = λ other at.
            (let same : commit ≡ other = cc at in
            subst (λ (y : Commit). (i : ℕ) → Contains (numbers y.nodes) i ↔ (owner_of atoms i ≡ Some y.atom.0))
            same (λ i. (
              (λ has. absurd (no_member i has)),
              (λ own. absurd (none i (sym (owners i) ∙ own))),
            )));
        commit = refl;
      }

  same_owner : (o : Option ℕ) → ((n : ℕ) → o ≡ Some n → (0 < n) × (n ≡ k.0 → ⊥))
      → without k.0 (if_open x.atoms o) ≡ if_open atoms o
  same_owner None other = refl
  same_owner (Some n) other =
      let here = other n refl in
      by (is_sealed x.atoms n) refl
      ∙ ap (λ (t : Bool). cond t None (Some n)) (sym (same_flag n here.0 here.1))
    where
      by : (t : Bool) → is_sealed x.atoms n ≡ t
          → without k.0 (if_open x.atoms (Some n)) ≡ cond (is_sealed x.atoms n) None (Some n)
      by true is =
          ap (λ (t : Bool). without k.0 (cond t None (Some n))) is
          ∙ sym (ap (λ (t : Bool). cond t None (Some n)) is)
      by false is =
          ap (λ (t : Bool). without k.0 (cond t None (Some n))) is
          ∙ ap (λ (t : Bool). cond t None (Some n)) (ne_eqb n k.0 ((other n refl).1))
          ∙ sym (ap (λ (t : Bool). cond t None (Some n)) is)

  module _ (begun : (i n : ℕ) → owner_of x.atoms i ≡ Some n → IsBegun x.atoms n) (b : Beginning)
      (named : IsNamed (names_in r) d.blocks b) where
    abbrev story_was : HasStory r b d had
    story_was = h.story b named

    abbrev c : Session
    c = story_was.story.session

    abbrev story_now : Story
    story_now = record { session = sealed c k; flush = story_was.story.flush }

    legal_now : IsOrdered (Sealed k ∷ c.trace)
    legal_now = subst (λ (l : List Entry). IsOrdered (Sealed k ∷ l)) (sym story_was.means.trace) legal_sealed

    none_in_story : (i : ℕ) → c.owner i ≡ Some k.0 → ⊥
    none_in_story i own = by (owner_of x.atoms i) refl (sym (story_was.means.owner i) ∙ own)
      where
        by : (o : Option ℕ) → owner_of x.atoms i ≡ o → if_open x.atoms o ≡ Some k.0 → ⊥
        by None is e = cc e
        by (Some n) is e = go (is_sealed x.atoms n) e
          where
            go : (t : Bool) → cond t None (Some n) ≡ Some k.0 → ⊥
            go true f = cc f
            go false f = none i (is ∙ f)

    means_sealed : HasMeaning b (job_named r.scripts) d now story_now
    means_sealed =
        let m = story_was.means in
        record {
          reads = m.reads;
          session = session_sealed b (job_named r.scripts) c x.space x.volume d k m.at none_in_story legal_now;
          trace = ap (λ (l : List Entry). Sealed k ∷ l) m.trace;
          owner = λ i.
              ap (without k.0) (m.owner i)
              ∙ same_owner (owner_of x.atoms i) (λ n is. (
                (begun i n is).some,
                λ same. none i (is ∙ ap (λ (j : ℕ). Some j) same),
              ))
              ∙ ap (if_open atoms) (sym (owners i));
          root = m.root;
          cells = m.cells;
          clean = m.clean;
          reach = m.reach;
          owned = λ i n some. m.owned i n (subst IsSome (owners i) some);
          born = λ n opened. ap (λ (y : Account). y.born) (accounts n) ∙ m.born n (opens n opened);
          gone = λ n opened. ap (λ (y : Account). y.gone) (accounts n) ∙ m.gone n (opens n opened);
          at = sealed_now b (job_named r.scripts) c x.space x.volume d k m.at none_in_story legal_now;
        }

    durable_sealed : (t : ℕ) → r.clock ≡ Some t → TellsCrashes d → IsDurable b t d now story_now
    durable_sealed t is tells =
        let g = story_was.durable t is tells in
        record {
          each = safe_push (means b) (commands greatest_size) b.content t d trace (Sealed k) legal_sealed tt g.each;
          now = g.now;
        }

  pub kept_sealed : ((i n : ℕ) → owner_of x.atoms i ≡ Some n → IsBegun x.atoms n) → IsKept r d now
  kept_sealed begun = record {
    history = history_sealed;
    tables = record {
      tasks = tasks_other (record (tables_of had) { atoms = atoms }) x.locks
          (state_follow (tables_of had) x.locks h.tables.tasks k.0 new refl) (Some k.0) None;
      ordered = h.tables.ordered;
    };
    accounts = accounts_sealed;
    cells = cells_sealed;
    tasks = record {
      uses = h.tasks.uses;
      drawn = h.tasks.drawn;
      apart = h.tasks.apart;
      unused = h.tasks.unused;
      unnamed = h.tasks.unnamed;
      unreached = h.tasks.unreached;
      unowned = λ q i n has is_n low high. owners i ∙ h.tasks.unowned q i n has is_n low high;
      given = h.tasks.given;
    };
    lender = h.lender;
    story = λ b named. record {
      story = story_now begun b named;
      means = means_sealed begun b named;
      durable = durable_sealed begun b named;
    };
  }

-- ---- the same, of parts that are as they are then

module _ {D : Type 0} (r : Naming) (d : State) (c : CoreSeen D) (k : AtomNo) (h : IsKept r d c)
    (sound : c.broken ≡ None) (rest : c.commit ≡ None) where
  at_rest : IsKept r d (record c { commit = None; broken = None })
  at_rest =
      subst (λ (z : Option ℕ). IsKept r d (record c { commit = None; broken = z })) sound
      (subst (λ (o : Option Commit). IsKept r d (record c { commit = o })) rest h)

  pub keeps_sealed_empty : (unsealed : IsOpenAtom c.atoms k.0) (closed : (t : ℕ) → IsOpenIn c.atoms k.0 t → ⊥)
      (none : (i : ℕ) → owner_of c.atoms i ≡ Some k.0 → ⊥) (room : owed c.turns + 2 ≤ c.trace.spare)
      (begun : (i n : ℕ) → owner_of c.atoms i ≡ Some n → IsBegun c.atoms n) (table : AtomsSeen)
      (nodes : List NodeId) (entries : Told) → table ≡ with_sealed c.atoms k.0 → nodes ≡ []
      → entries ≡ with_entry c.trace (Sealed k)
      → IsKept r d (record c {
        atoms = table;
        commit = Some (record { atom = k; nodes = nodes; work = None });
        trace = entries;
      })
  keeps_sealed_empty unsealed closed none room begun table nodes entries are_atoms are_none are_entries =
      subst (λ (s : AtomsSeen). IsKept r d (record c {
        atoms = s;
        commit = Some (record { atom = k; nodes = nodes; work = None });
        trace = entries;
      })) (sym are_atoms)
      (subst (λ (l : List NodeId). IsKept r d (record (sealed_empty c k) {
        commit = Some (record { atom = k; nodes = l; work = None });
        trace = entries;
      })) (sym are_none)
      (subst (λ (l : Told). IsKept r d (record (sealed_empty c k) { trace = l })) (sym are_entries)
      (subst (λ (z : Option ℕ). IsKept r d (record (sealed_empty c k) { broken = z })) (sym sound)
      (kept_sealed r d c k at_rest unsealed closed none room begun))))
