-- Two open atoms become one: what holds of a core holds still.
use Rattle.std.proofs.Common.{◌≡◌, ◌≢◌, inl, inr, ⊎_elim, ℕ, ◌+◌, ◌-◌, ◌<◌, ◌≤◌, ◌==◌, ◌^◌, Bool, true, false}
use Rattle.std.proofs.Common.{List, [], ◌∷◌, Option, Some, None, length, refl, sym, ◌∙◌, ap, subst, arith, true≢false}
use Rattle.std.specs.Prelude.{IsSome}
use Rattle.std.specs.Option.{option_map}
use Rattle.std.proofs.lemmas.Bool.{cases_Bool, eqb-true, ne_eqb}
use Rattle.r4_atoms.specs.Atoms.{AtomsSeen, FitTogether, IsBegun as IsTxn, IsOpenAtom, account_of, atom_of, is_sealed}
use Rattle.r4_atoms.specs.Atoms.{owner_of, sum_of}
use Rattle.r4_atoms.specs.Names.{renamed}
use Rattle.r4_atoms.specs.declared.things.Account.{Account}
use Rattle.r4_atoms.specs.declared.things.AtomState.{AtomState}
use Rattle.r4_base.specs.declared.things.AtomNo.{AtomNo}
use Rattle.r4_base.specs.declared.things.NodeId.{NodeId}
use Rattle.r4_kept.specs.r4_commit.Planned.{CommitSeen}
use Rattle.r4_content.specs.Locality.{commands}
use Rattle.r4_content.specs.Meaning.{greatest_size}
use Rattle.r4_kept.specs.r4_durable.GoingOn.{GoesOn}
use Rattle.r4_kept.specs.r4_durable.Kept.{IsSession}
use Rattle.r4_kept.specs.r4_durable.Meaning.{Beginning, IsNamed, means, start_of}
use Rattle.r4_kept.proofs.r4_flushed.Deferring.{deferred_fused}
use Rattle.r4_kept.proofs.r4_flushed.Owned.{fused_owns}
use Rattle.r4_kept.specs.r4_history.Tables.{Fuses}
use Rattle.r4_kept.proofs.r4_history.AtomSteps.{fused_count, fused_states}
use Rattle.r4_kept.proofs.r4_history.DrawnSteps.{drawn_entry}
use Rattle.r4_kept.proofs.r4_history.RunSteps.{commit_is}
use Rattle.r4_kept.proofs.r4_history.TaskSteps.{fused_follow}
use Rattle.r4_kept.proofs.r4_history.Told.{told_fuse, unsealed_is}
use Rattle.r4_outside.specs.Device.{State, TellsCrashes}
use Rattle.r4_kept.specs.r4_sets.Atoms.{fused}
use Rattle.r4_kept.specs.r4_sets.Session.{Session}
use Rattle.r4_kept.proofs.r4_sets.Gathered.{fused_sets}
use Rattle.r4_kept.specs.r4_sets_told.Runs.{born_in, gone_in}
use Rattle.r4_kept.specs.r4_space.Accounts.{account_at, is_sealed as is_sealed_in}
use Rattle.r4_kept.specs.r4_space.Lawful.{IsLawful}
use Rattle.r4_kept.specs.r4_space.Space.{Space, merged}
use Rattle.r4_kept.specs.r4_space.declared.things.Account.{Account as SpaceAccount}
use Rattle.r4_kept.specs.r4_trace.Kept.{Told}
use Rattle.r4_kept.specs.r4_trace.Order.{IsOrdered}
use Rattle.r4_kept.specs.r4_trace.Traced.{IsSealed, atom_in, renamed_atom}
use Rattle.r4_kept.specs.r4_trace.declared.entry.Entry.{Entry}
use Rattle.r4_kept.specs.r4_trace.declared.entry.Entry.TheVariants.{Fuse}
use Rattle.r4_kept.proofs.r4_trace.Safely.{safe_push}
use Rattle.r4_kept.specs.Accounts.{AreAccounts, CountsCells, HoldsFor, HoldsOf, dones_of}
use Rattle.r4_kept.specs.Cells.{AreCells}
use Rattle.r4_kept.specs.Durable.{IsDurable}
use Rattle.r4_kept.specs.History.{IsHistory, owed, owed_for_commit}
use Rattle.r4_kept.specs.Kept.{HasStory, IsKept}
use Rattle.r4_kept.specs.Meaning.{HasMeaning, if_open}
use Rattle.r4_kept.specs.Naming.{Naming, job_named, names_in}
use Rattle.r4_kept.specs.Steps.{with_entry}
use Rattle.r4_kept.specs.Story.{Story}
use Rattle.r4_kept.specs.Tables.{AreTables}
use Rattle.r4_kept.specs.TasksOut.{AreOut}
use Rattle.r4_kept.specs.View.{CoreSeen, committing, tables_of}
use Rattle.r4_kept.specs.declared.parts.Commit.{Commit}
use Rattle.r4_taking.proofs.Deferred.{but_fused, later_merged}
use Rattle.r4_taking.proofs.FusedAtoms.{account_both, account_other, atom_after, open_cases, sealed_after}
use Rattle.r4_taking.proofs.FusedCounts.{born_both, chosen_other, counts_both, counts_other, dones_apart}
use Rattle.r4_taking.proofs.FusedCounts.{dones_both, gone_both, other_after, other_before}
use Rattle.r4_taking.proofs.Going.{Follows, at_over}
use Rattle.r4_taking.proofs.Merged.{dues_merged, lawful_merged, merged_cells, merged_fresh, merged_other}
use Rattle.r4_taking.proofs.Merged.{space_account_small, unused_merged}

some_before : {A B : Type 0} (f : A → B) (o : Option A) → IsSome (option_map f o) → IsSome o
some_before f None some = some
some_before f (Some x) some = refl

some_after : {A B : Type 0} (f : A → B) (o : Option A) → IsSome o → IsSome (option_map f o)
some_after f None some = some
some_after f (Some x) some = refl

-- an atom that is sealed is not this open one
pub sealed_differs : (s : AtomsSeen) (a b : ℕ) → is_sealed s a ≡ true → is_sealed s b ≡ false → a ≢ b
sealed_differs s a b is not e = true≢false (sym is ∙ ap (is_sealed s) e ∙ not)

module _ {D : Type 0} (r : Naming) (d : State) (c : CoreSeen D) (k : IsKept r d c) (kept gone : AtomNo) (node : NodeId)
    (sound : c.broken ≡ None) (one : IsOpenAtom c.atoms kept.0) (two : IsOpenAtom c.atoms gone.0)
    (less : kept.0 < gone.0) (lawful : IsLawful c.space)
    (room : owed c.turns + owed_for_commit c.commit + 1 ≤ c.trace.spare)
    (new : AtomsSeen) (f : Fuses c.atoms new kept.0 gone.0)
    (owners : (n : ℕ) → owner_of new n ≡ option_map (renamed kept.0 gone.0) (owner_of c.atoms n))
    (spare : new.spare ≡ c.atoms.spare) where
  abbrev trace : List Entry
  trace = c.trace.entries

  abbrev e : Entry
  e = Fuse kept gone node

  abbrev after : CoreSeen D
  after = record c {
    atoms = new;
    space = merged c.space kept gone;
    trace = with_entry c.trace e;
  }

  differ : kept.0 ≢ gone.0
  differ same = omega (arith, same, less)

  within : kept.0 - 1 < length c.atoms.atoms
  within =
      let states = (k.history.told None tt).atoms.states in
      let some = one.atom.begun.some in
      let le = one.atom.begun.within in
      omega (arith, states, some, le)

  -- ---- history and tables

  history_fused : IsHistory r d after
  history_fused = record {
    told = λ o named. told_fuse (commands greatest_size) (option_map start_of o) d.clock (tables_of c) trace
        (k.history.told o named) kept gone node new sound one two less f;
    job = k.history.job;
    first = k.history.first;
    drawn = drawn_entry k.history.first c.turns c.numbers.next_oid trace k.history.drawn e tt;
    begins = k.history.begins;
    committed = λ x is.
        fused_states c.atoms new kept.0 gone.0 f (λ (y : AtomState). y.committed) (λ y z. refl) x.atom.0
        ∙ k.history.committed x is;
    room = omega (arith, room);
  }

  tables_fused : AreTables after
  tables_fused = record {
    tasks = fused_follow (commands greatest_size) None d.clock (tables_of c) trace (k.history.told None tt) c.locks
        k.tables.tasks new kept.0 gone.0 f owners;
    ordered = k.tables.ordered;
  }

  -- ---- accounts

  as_atom : (a : AtomNo) (n : AtomNo) → a.0 ≡ n.0 → a ≡ n
  as_atom a n same = ap (λ (x : ℕ). record { 0 = x }) same

  sum : account_of new kept.0 ≡ sum_of (account_of c.atoms kept.0) (account_of c.atoms gone.0)
  sum = account_both c.atoms new kept.0 gone.0 less f one.atom.begun.some within

  other_account : (a : ℕ) → 0 < a → a ≢ kept.0 → a ≢ gone.0 → account_of new a ≡ account_of c.atoms a
  other_account = account_other c.atoms new kept.0 gone.0 less f one.atom.begun.some within

  -- an open atom has the account of both, or what it had
  abbrev SameNumbers : Space → AtomsSeen → AtomNo → Type 0
  SameNumbers s t a =
      ((account_at s.atoms a).cells ≡ (account_of t a.0).cells)
      × ((account_at s.atoms a).fresh ≡ (account_of t a.0).fresh)

  same_kept : SameNumbers (merged c.space kept gone) new kept
  same_kept =
      let g = k.accounts.same in
      let a = g kept one in
      let b = g gone two in
      let a0 = a.0 in
      let a1 = a.1 in
      let b0 = b.0 in
      let b1 = b.1 in
      let cells = merged_cells c.space.atoms kept gone in
      let fresh = merged_fresh c.space.atoms kept gone in
      let x = ap (λ (y : Account). y.cells) sum in
      let z = ap (λ (y : Account). y.fresh) sum in
      (omega (arith, cells, a0, b0, x), omega (arith, fresh, a1, b1, z))

  same_fused : (a : AtomNo) → IsOpenAtom new a.0 → SameNumbers (merged c.space kept gone) new a
  same_fused a opened =
      ⊎_elim (λ is. subst (SameNumbers (merged c.space kept gone) new) (sym (as_atom a kept is)) same_kept)
      (λ o.
      (let g = k.accounts.same a o.was in
      let at = merged_other c.space.atoms kept gone a o.not_kept o.not_gone in
      let acc = other_account a.0 o.was.atom.begun.some o.not_kept o.not_gone in (
        ap (λ (x : SpaceAccount). x.cells) at ∙ g.0 ∙ sym (ap (λ (x : Account). x.cells) acc),
        ap (λ (x : SpaceAccount). x.fresh) at ∙ g.1 ∙ sym (ap (λ (x : Account). x.fresh) acc),
      )))
      (open_cases c.atoms new kept.0 gone.0 less f a.0 opened)

  counted_fused : (a : ℕ) → IsOpenAtom new a
      → CountsCells c.buffer new a (account_of new a).cells (account_of new a).fresh
  counted_fused a opened =
      ⊎_elim (λ is.
      subst (λ (x : ℕ). CountsCells c.buffer new x (account_of new x).cells (account_of new x).fresh) (sym is)
      (subst (λ (x : Account). CountsCells c.buffer new kept.0 x.cells x.fresh) (sym sum)
      (counts_both c.buffer c.atoms new kept.0 gone.0 less owners _ _ _ _ (k.accounts.counted kept.0 one)
      (k.accounts.counted gone.0 two))))
      (λ o.
      subst (λ (x : Account). CountsCells c.buffer new a x.cells x.fresh)
      (sym (other_account a o.was.atom.begun.some o.not_kept o.not_gone))
      (counts_other c.buffer c.atoms new kept.0 gone.0 less owners a o.not_kept o.not_gone _ _
      (k.accounts.counted a o.was)))
      (open_cases c.atoms new kept.0 gone.0 less f a opened)

  -- the transactions of an atom then
  chosen : (a : ℕ)
      → ◌≡◌ {A = ℕ → Bool} (λ t. atom_of new t == a) (λ t. renamed_atom kept.0 gone.0 (atom_of c.atoms t) == a)
  chosen a = λ j t. atom_after c.atoms new kept.0 gone.0 less f t j == a

  abbrev Made : (t : AtomsSeen) → (a : ℕ) → (chosen : ℕ → Bool) → Type 0
  Made t a chosen =
      ((account_of t a).born ≤ dones_of chosen trace) × ((account_of t a).gone ≤ dones_of chosen trace)

  objects_fused : (a : ℕ) → IsOpenAtom new a → Made new a (λ t. atom_of new t == a)
  objects_fused a opened =
      subst (Made new a) (sym (chosen a))
      (⊎_elim (λ is.
      subst (λ (x : ℕ). Made new x (λ t. renamed_atom kept.0 gone.0 (atom_of c.atoms t) == x)) (sym is) both)
      (λ o.
      subst (Made new a) (sym (chosen_other kept.0 gone.0 less (atom_of c.atoms) a o.not_kept o.not_gone))
      (let g = k.accounts.objects a o.was in
      let acc = other_account a o.was.atom.begun.some o.not_kept o.not_gone in
      let x = ap (λ (y : Account). y.born) acc in
      let z = ap (λ (y : Account). y.gone) acc in
      let g0 = g.0 in
      let g1 = g.1 in
      (omega (arith, x, g0), omega (arith, z, g1))))
      (open_cases c.atoms new kept.0 gone.0 less f a opened))
    where
      both : Made new kept.0 (λ t. renamed_atom kept.0 gone.0 (atom_of c.atoms t) == kept.0)
      both =
          let all = dones_both kept.0 gone.0 less (atom_of c.atoms) trace in
          let a0 = (k.accounts.objects kept.0 one).0 in
          let a1 = (k.accounts.objects kept.0 one).1 in
          let b0 = (k.accounts.objects gone.0 two).0 in
          let b1 = (k.accounts.objects gone.0 two).1 in
          let x = ap (λ (y : Account). y.born) sum in
          let z = ap (λ (y : Account). y.gone) sum in
          (omega (arith, all, a0, b0, x), omega (arith, all, a1, b1, z))

  accounts_fused : AreAccounts after
  accounts_fused =
      let g = k.accounts in
      let count = fused_count c.atoms new kept.0 gone.0 f in
      let had = one.atom.begun in
      let also = two.atom.begun in
      record {
        covered =
            let fewer = dues_merged c.space lawful kept gone differ in
            let unused = unused_merged c.space kept gone in
            let had = g.covered in
            omega (arith, fewer, unused, had);
        same = same_fused;
        counted = counted_fused;
        unknown = λ a none.
            merged_other c.space.atoms kept gone a
            (λ is. none (begun_still a.0 (subst (IsTxn c.atoms) (sym is) had)))
            (λ is. none (begun_still a.0 (subst (IsTxn c.atoms) (sym is) also)))
            ∙ g.unknown a (λ was. none (begun_still a.0 was));
        objects = objects_fused;
        holds = g.holds;
        room_to_capture = omega (arith, spare, g.room_to_capture);
        room_for_cells = g.room_for_cells;
        room_to_defer = g.room_to_defer;
      }
    where
      begun_still : (a : ℕ) → IsTxn c.atoms a → IsTxn new a
      begun_still a was =
          let count = fused_count c.atoms new kept.0 gone.0 f in
          let le = was.within in
          record { some = was.some; within = omega (arith, count, le) }

  -- ---- cells and tasks

  abbrev as_renamed : ℕ → ℕ
  as_renamed = renamed kept.0 gone.0

  owner_before : (i : ℕ) → IsSome (owner_of new i) → IsSome (owner_of c.atoms i)
  owner_before i some = some_before as_renamed (owner_of c.atoms i) (subst IsSome (owners i) some)

  owner_after : (i : ℕ) → IsSome (owner_of c.atoms i) → IsSome (owner_of new i)
  owner_after i some = subst IsSome (sym (owners i)) (some_after as_renamed (owner_of c.atoms i) some)

  -- the atom under way is neither of both
  other_than : (x : Commit) → c.commit ≡ Some x → (a : ℕ) → IsOpenAtom c.atoms a → x.atom.0 ≢ a
  other_than x is a opened =
      sealed_differs c.atoms x.atom.0 a
      (commit_is (commands greatest_size) None d.clock (tables_of c) trace (k.history.told None tt) x.atom.0
      (ap committing is)).1 opened.unsealed

  cells_fused : AreCells d after
  cells_fused =
      let g = k.cells in
      record {
        super40 = g.super40;
        space = g.space;
        root = g.root;
        height = g.height;
        root_stands = g.root_stands;
        buffered_names = g.buffered_names;
        reached_names = g.reached_names;
        owned_names = λ i some. g.owned_names i (owner_before i some);
        named = g.named;
        given_cells = g.given_cells;
        dirty = λ i x at. (
          (λ yes. owner_after i ((g.dirty i x at).0 yes)),
          (λ some. (g.dirty i x at).1 (owner_before i some)),
        );
        fresh = g.fresh;
        clean = g.clean;
        nodes = λ x is i.
            (let same = g.nodes x is i in (
              λ has. owners i
                  ∙ other_after kept.0 gone.0 less x.atom.0 (other_than x is gone.0 two) (owner_of c.atoms i)
                  (same.0 has),
              λ owned. same.1 (other_before kept.0 gone.0 less x.atom.0 (other_than x is kept.0 one)
                  (owner_of c.atoms i) (sym (owners i) ∙ owned)),
            ));
        commit = g.commit;
      }

  tasks_fused : AreOut after
  tasks_fused =
      let g = k.tasks in
      record {
        uses = g.uses;
        drawn = g.drawn;
        apart = g.apart;
        unused = g.unused;
        unnamed = g.unnamed;
        unreached = g.unreached;
        unowned = λ q i n has is_n low high. owners i
            ∙ ap (option_map as_renamed) (g.unowned q i n has is_n low high);
        given = g.given;
      }

  -- ---- in a run that names its beginning

  legal_fused : IsOrdered (e ∷ trace)
  legal_fused = (history_fused.told None tt).legal.order

  owner_open : (o : Option ℕ) → option_map as_renamed (if_open c.atoms o) ≡ if_open new (option_map as_renamed o)
  owner_open None = refl
  owner_open (Some a) =
      let now = sealed_after c.atoms new kept.0 gone.0 less f in
      elim (cases_Bool (a == gone.0)) [
        | inl hit ↦
            let was : is_sealed c.atoms a ≡ false = ap (is_sealed c.atoms) (eqb-true a gone.0 hit) ∙ two.unsealed in
            let still : is_sealed new kept.0 ≡ false = now kept.0 ∙ one.unsealed in
            rw (was, hit, still) refl
        | inr miss ↦
            let same = now a in
            elim (cases_Bool (is_sealed c.atoms a)) [
              | inl closed ↦ rw (miss, same, closed) refl
              | inr unsealed ↦ rw (miss, same, unsealed) (rw miss refl)
            ]
      ]

  module _ (b : Beginning) (named : IsNamed (names_in r) d.blocks b) where
    abbrev had : HasStory r b d c
    had = k.story b named

    abbrev was : Session
    was = had.story.session

    abbrev now : Session
    now = fused was kept gone node

    abbrev story : Story
    story = record { session = now; flush = had.story.flush }

    not_sealed : (a : ℕ) → IsOpenAtom c.atoms a → IsSealed was.trace a → ⊥
    not_sealed a is there =
        (unsealed_is (commands greatest_size) None d.clock (tables_of c) trace (k.history.told None tt) a is).unsealed
        (subst (λ (l : List Entry). IsSealed l a) had.means.trace there)

    session_fused : IsSession greatest_size b (job_named r.scripts) now
    session_fused =
        let h = had.means.session in
        record {
          start = h.start;
          sets = fused_sets (commands greatest_size) was h.sets kept gone node (not_sealed kept.0 one)
              (not_sealed gone.0 two);
          run = record { lawful = h.run.lawful; room = h.run.room; paths = h.run.paths; ids = h.run.ids };
          owns = fused_owns was h.owns kept gone node;
        }

    goes : GoesOn was now (e ∷ [])
    goes = record {
      start = refl;
      trace = refl;
      base = refl;
      under = refl;
      legal = subst (λ (l : List Entry). IsOrdered (e ∷ l)) (sym had.means.trace) legal_fused;
      none = (tt, tt);
    }

    follows : Follows c.commit was now c.space (merged c.space kept gone)
    follows = record {
      defers = λ h. deferred_fused was c.space kept gone node h;
      alike = record { count = refl; marked = refl; placed = refl };
      lawful = lawful_merged c.space lawful kept gone differ;
      under_way = λ x is.
          (let not_kept = other_than x is kept.0 one in
          let not_gone = other_than x is gone.0 two in
          record {
            but = but_fused was c.space kept gone x.atom node not_kept not_gone;
            on = later_merged was c.space kept gone x.atom node not_kept not_gone;
          });
    }

    abbrev Born : ℕ → Type 0
    Born a = (account_of new a).born
        ≡ born_in greatest_size b.content (λ t. atom_in (e ∷ trace) t == a) (e ∷ trace)

    abbrev Gone : ℕ → Type 0
    Gone a = (account_of new a).gone
        ≡ gone_in greatest_size b.content (λ t. atom_in (e ∷ trace) t == a) (e ∷ trace)

    born_kept : Born kept.0
    born_kept =
        let all = born_both kept.0 gone.0 less (atom_in trace) greatest_size b.content trace in
        let x = had.means.born kept.0 one in
        let y = had.means.born gone.0 two in
        let z = ap (λ (v : Account). v.born) sum in
        omega (arith, all, x, y, z)

    gone_kept : Gone kept.0
    gone_kept =
        let all = gone_both kept.0 gone.0 less (atom_in trace) greatest_size b.content trace in
        let x = had.means.gone kept.0 one in
        let y = had.means.gone gone.0 two in
        let z = ap (λ (v : Account). v.gone) sum in
        omega (arith, all, x, y, z)

    born_other : (a : ℕ) → IsOpenAtom c.atoms a → a ≢ kept.0 → a ≢ gone.0 → Born a
    born_other a is not_kept not_gone =
        ap (λ (v : Account). v.born) (other_account a is.atom.begun.some not_kept not_gone) ∙ had.means.born a is
        ∙ ap (λ (ch : ℕ → Bool). born_in greatest_size b.content ch trace)
        (sym (chosen_other kept.0 gone.0 less (atom_in trace) a not_kept not_gone))

    gone_other : (a : ℕ) → IsOpenAtom c.atoms a → a ≢ kept.0 → a ≢ gone.0 → Gone a
    gone_other a is not_kept not_gone =
        ap (λ (v : Account). v.gone) (other_account a is.atom.begun.some not_kept not_gone) ∙ had.means.gone a is
        ∙ ap (λ (ch : ℕ → Bool). gone_in greatest_size b.content ch trace)
        (sym (chosen_other kept.0 gone.0 less (atom_in trace) a not_kept not_gone))

    means_fused : HasMeaning b (job_named r.scripts) d after story
    means_fused =
        let m = had.means in
        record {
          reads = m.reads;
          session = session_fused;
          trace = ap (λ (l : List Entry). e ∷ l) m.trace;
          owner = λ i. ap (option_map as_renamed) (m.owner i) ∙ owner_open (owner_of c.atoms i)
              ∙ ap (if_open new) (sym (owners i));
          root = m.root;
          cells = m.cells;
          clean = m.clean;
          reach = m.reach;
          owned = λ i n some at. m.owned i n (owner_before i some) at;
          born = λ a opened.
              ⊎_elim (λ is. subst Born (sym is) born_kept) (λ o. born_other a o.was o.not_kept o.not_gone)
              (open_cases c.atoms new kept.0 gone.0 less f a opened);
          gone = λ a opened.
              ⊎_elim (λ is. subst Gone (sym is) gone_kept) (λ o. gone_other a o.was o.not_kept o.not_gone)
              (open_cases c.atoms new kept.0 gone.0 less f a opened);
          at = at_over b (job_named r.scripts) was now (e ∷ []) goes c.space (merged c.space kept gone) c.commit follows
              c.volume d session_fused had.story.flush c.broken m.at;
        }

    durable_fused : (t : ℕ) → r.clock ≡ Some t → TellsCrashes d → IsDurable b t d after story
    durable_fused t is crashes =
        let g = had.durable t is crashes in
        record {
          each = safe_push (means b) (commands greatest_size) b.content t d trace e legal_fused tt g.each;
          now = g.now;
        }

  pub keeps_fuse : IsKept r d after
  keeps_fuse = record {
    history = history_fused;
    tables = tables_fused;
    accounts = accounts_fused;
    cells = cells_fused;
    tasks = tasks_fused;
    lender = k.lender;
    story = λ b named. record {
      story = story b named;
      means = means_fused b named;
      durable = durable_fused b named;
    };
  }

  -- the same of parts that are as they are then
  pub keeps_fused_by : (space : Space) (entries : Told) → space ≡ merged c.space kept gone
      → entries ≡ with_entry c.trace (Fuse kept gone node)
      → IsKept r d (record c { atoms = new; space = space; trace = entries })
  keeps_fused_by space entries is_space is_entries =
      subst (λ (x : Space). IsKept r d (record c { atoms = new; space = x; trace = entries })) (sym is_space)
      (subst (λ (x : Told). IsKept r d (record after { trace = x })) (sym is_entries) keeps_fuse)

-- ---- what the calls ask for

module _ {D : Type 0} (r : Naming) (d : State) (c : CoreSeen D) (k : IsKept r d c) where
  -- an atom counts no more cells than the volume has blocks, nor more objects than its commands were done
  pub small_account : (lawful : IsLawful c.space) (a : ℕ) → IsOpenAtom c.atoms a
      → ((account_of c.atoms a).cells ≤ 1048576) × ((account_of c.atoms a).fresh ≤ 1048576)
  small_account lawful a is =
      let atom : AtomNo = record { 0 = a } in
      let small = space_account_small c.space lawful atom in
      let cells = small.0 in
      let fresh = small.1 in
      let same = k.accounts.same atom is in
      let x = same.0 in
      let y = same.1 in
      (omega (arith, cells, x), omega (arith, fresh, y))

  -- the sums of two accounts are numbers
  pub may_fuse : IsLawful c.space → length c.trace.entries < 2 ^ 64 → (one two : ℕ) → IsOpenAtom c.atoms one
      → IsOpenAtom c.atoms two → one ≢ two → FitTogether (account_of c.atoms one) (account_of c.atoms two)
  may_fuse lawful few one two is also differ =
      let a = small_account lawful one is in
      let b = small_account lawful two also in
      let a0 = a.0 in
      let a1 = a.1 in
      let b0 = b.0 in
      let b1 = b.1 in
      let x = k.accounts.objects one is in
      let y = k.accounts.objects two also in
      let x0 = x.0 in
      let x1 = x.1 in
      let y0 = y.0 in
      let y1 = y.1 in
      let all = dones_apart one two differ (atom_of c.atoms) c.trace.entries in
      record {
        cells = omega (arith, a0, b0);
        fresh = omega (arith, a1, b1);
        born = omega (arith, x0, y0, all, few);
        gone = omega (arith, x1, y1, all, few);
      }

  -- the space has not sealed an atom that is open
  pub may_merge : c.broken ≡ None → (a : AtomNo) → IsOpenAtom c.atoms a.0 → is_sealed_in c.space.sealed a ≡ false
  may_merge sound a is = by c.commit refl (k.accounts.holds sound)
    where
      none_there : (l : List AtomNo) → l ≡ [] → is_sealed_in l a ≡ false
      none_there l none = ap (λ (m : List AtomNo). is_sealed_in m a) none

      alone : (x : Commit) → c.commit ≡ Some x → is_sealed_in (x.atom ∷ []) a ≡ false
      alone x at =
          let differ = sealed_differs c.atoms x.atom.0 a.0
          (commit_is (commands greatest_size) None d.clock (tables_of c) c.trace.entries (k.history.told None tt)
          x.atom.0 (ap committing at)).1 is.unsealed in
          let e : (x.atom.0 == a.0) ≡ false = ne_eqb x.atom.0 a.0 differ in
          rw e refl

      by_work : (x : Commit) → c.commit ≡ Some x → (w : Option CommitSeen)
          → HoldsFor x.atom w c.space.sealed c.space.held c.space.placed → is_sealed_in c.space.sealed a ≡ false
      by_work x at None h = none_there c.space.sealed h.none_sealed
      by_work x at (Some w) h =
          ⊎_elim (none_there c.space.sealed)
          (λ own. ap (λ (l : List AtomNo). is_sealed_in l a) own ∙ alone x at) h.alone

      by : (o : Option Commit) → c.commit ≡ o → HoldsOf o c.space.sealed c.space.held c.space.placed
          → is_sealed_in c.space.sealed a ≡ false
      by None at h = none_there c.space.sealed h.none_sealed
      by (Some x) at h = by_work x at x.work h
