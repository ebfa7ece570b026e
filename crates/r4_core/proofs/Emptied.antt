-- The commit of an atom without cells: its entry comes, and it is over. What holds of a core holds still.
use Rattle.std.proofs.Common.{◌≡◌, ⊎_elim, ℕ, ◌+◌, ◌≤◌, Bool, true, false, cond, List, ◌∷◌, Option, Some, None}
use Rattle.std.proofs.Common.{refl, sym, ◌∙◌, ap, subst, arith}
use Rattle.std.specs.Prelude.{Contains, IsSome}
use Rattle.std.specs.Option.{option_map}
use Rattle.r4_atoms.specs.Atoms.{AtomsSeen, IsAtom, IsOpenAtom, account_of, is_committed, is_sealed, owner_of}
use Rattle.r4_atoms.specs.Atoms.{state_of, without_owner}
use Rattle.r4_atoms.specs.declared.things.Account.{Account}
use Rattle.r4_atoms.specs.declared.things.AtomState.{AtomState}
use Rattle.r4_base.proofs.Members.{no_member}
use Rattle.r4_base.specs.Value.{Content}
use Rattle.r4_base.specs.declared.things.AtomNo.{AtomNo}
use Rattle.r4_ready.specs.r4_commit.Planned.{CommitSeen}
use Rattle.r4_content.specs.Locality.{commands}
use Rattle.r4_content.specs.Meaning.{greatest_size}
use Rattle.r4_ready.specs.r4_durable.Kept.{IsSession}
use Rattle.r4_ready.specs.r4_durable.Meaning.{Beginning, IsNamed, means, start_of}
use Rattle.r4_ready.proofs.r4_durable.Empty.{empty_kept}
use Rattle.r4_ready.proofs.r4_durable.Steps.{counts_stay}
use Rattle.r4_others.specs.r4_history.Tables.{with_cleaned, with_committed}
use Rattle.r4_others.proofs.r4_history.DrawnSteps.{drawn_entry}
use Rattle.r4_others.proofs.r4_history.RunSteps.{commit_is}
use Rattle.r4_others.proofs.r4_history.TaskSteps.{cleaned_follow, state_follow, tasks_other}
use Rattle.r4_others.proofs.r4_history.Told.{told_committed, told_settled}
use Rattle.r4_outside.specs.Device.{State, TellsCrashes}
use Rattle.r4_flushing.specs.r4_sets.Atoms.{committed, sealed}
use Rattle.r4_flushing.specs.r4_sets.Session.{Layer, Session}
use Rattle.r4_flushing.proofs.r4_sets.Patches.{empty_sealed}
use Rattle.r4_flushing.proofs.r4_sets_told.OneContent.{adds_nothing}
use Rattle.r4_space.specs.Space.{Space}
use Rattle.r4_trace.specs.Job.{Asked}
use Rattle.r4_trace.specs.Kept.{Told}
use Rattle.r4_trace.specs.Order.{IsOrdered}
use Rattle.r4_trace.specs.Safe.{AddsNothing}
use Rattle.r4_trace.specs.Traced.{committed_in, sealed_in}
use Rattle.r4_trace.specs.declared.entry.Entry.{Entry}
use Rattle.r4_trace.specs.declared.entry.Entry.TheVariants.{Committed}
use Rattle.r4_trace.proofs.Safely.{safe_empty}
use Rattle.r4_ready.specs.r4_kept.Accounts.{AreAccounts, CountsCells}
use Rattle.r4_ready.specs.r4_kept.Cells.{AreCells}
use Rattle.r4_ready.specs.r4_kept.Durable.{IsDurable}
use Rattle.r4_ready.specs.r4_kept.History.{IsHistory}
use Rattle.r4_ready.specs.r4_kept.Kept.{HasStory, IsKept}
use Rattle.r4_ready.specs.r4_kept.Meaning.{HasMeaning, IsAtRest, IsSealedEmpty, if_open}
use Rattle.r4_ready.specs.r4_kept.Naming.{Naming, job_named, names_in}
use Rattle.r4_ready.specs.r4_kept.Steps.{IsAtNothing, WritesNothing, emptied, with_entry}
use Rattle.r4_ready.specs.r4_kept.Story.{Story}
use Rattle.r4_ready.specs.r4_kept.View.{CoreSeen, tables_of}
use Rattle.r4_ready.specs.r4_kept.declared.parts.Commit.{Commit}
use Rattle.r4_ready.specs.r4_kept.declared.parts.Volume.{Volume}
use Rattle.r4_ready.proofs.r4_kept.States.{opens_same, owners_same, state_same, state_there}
use Rattle.r4_core.proofs.Footing.{without_cases}

-- ---- in a run that names its beginning

module _ (b : Beginning) (job : Option Asked) (c : Session) (s : Space) (vol : Volume) (d : State) (k : AtomNo)
    (session : IsSession greatest_size b job c) (h : IsSealedEmpty b job c s vol d k) where
  pub rests_again : IsAtRest b job (committed c k d.clock) s vol d
  rests_again = record {
    means = empty_kept greatest_size b job h.before h.space d.seen h.rest.means k h.none c h.more h.goes session s
        h.alike h.lawful h.deferred d.clock;
    super40 = h.rest.super40;
    prev = h.rest.prev;
  }

  same_layer : c.under ≡ c.base
  same_layer =
      let none = empty_sealed h.before k.0 h.none in
      let under : (sealed h.before k).under ≡ h.before.under = λ i. record { cells = none.0 i; root = none.1 i } in
      h.goes.under ∙ under ∙ h.rest.means.alone ∙ sym h.goes.base

  one_more : sealed_in c.trace ≡ committed_in c.trace + 1
  one_more =
      let counts = counts_stay greatest_size (sealed h.before k) c h.more h.goes in
      counts.0 ∙ ap (λ (n : ℕ). n + 1) (h.rest.means.none_sealed ∙ sym counts.1)

  -- its atom adds nothing to what is found
  pub nothing_added : AddsNothing (commands greatest_size) c.start c.trace
  nothing_added =
      adds_nothing (commands greatest_size) c session.sets (ap (λ (l : Layer). l.cells) same_layer) one_more

-- ---- a core

module _ {D : Type 0} (r : Naming) (d : State) (x : CoreSeen D) (k : Commit)
    (h : IsKept r d (record x { commit = Some (record k { work = None }); broken = None }))
    (names : (n : ℕ) → owner_of (with_cleaned (with_committed x.atoms k.atom.0) k.atom.0) n
    ≡ without_owner k.atom.0 (owner_of (with_committed x.atoms k.atom.0) n)) where
  abbrev trace : List Entry
  trace = x.trace.entries

  abbrev a : ℕ
  a = k.atom.0

  abbrev kept : Commit
  kept = record k { work = None }

  abbrev had : CoreSeen D
  had = record x { commit = Some kept; broken = None }

  abbrev mid : AtomsSeen
  mid = with_committed x.atoms a

  abbrev atoms : AtomsSeen
  atoms = with_cleaned mid a

  abbrev one : AtomState
  one = record (state_of x.atoms a) { committed = true }

  abbrev two : AtomState
  two = record (state_of mid a) { cleaned = true }

  abbrev e_now : Entry
  e_now = Committed k.atom d.clock

  abbrev now : CoreSeen D
  now = record x {
    atoms = atoms;
    commit = None;
    broken = None;
    trace = with_entry x.trace e_now;
  }

  uncommitted : is_committed x.atoms a ≡ false
  uncommitted = h.history.committed kept refl

  under_way : IsAtom x.atoms a × (is_sealed x.atoms a ≡ true)
  under_way = commit_is (commands greatest_size) None d.clock (tables_of had) trace (h.history.told None tt) a refl

  is_done : is_committed mid a ≡ true
  is_done =
      ap (λ (y : AtomState). y.committed)
      (state_there x.atoms a one under_way.0.begun (h.history.told None tt).atoms.states)

  -- nobody owns a cell less, for it owned none
  owners : (i : ℕ) → owner_of atoms i ≡ owner_of x.atoms i
  owners i =
      let before = owners_same x.atoms a one refl i in
      ⊎_elim
      (λ gone. absurd (no_member i
      (subst (λ (l : List ℕ). Contains l i) h.cells.commit
      ((h.cells.nodes kept refl i).1 (sym before ∙ gone.0)))))
      (λ stays. names i ∙ stays.1 ∙ before) (without_cases a (owner_of mid i))

  opens : (n : ℕ) → IsOpenAtom atoms n → IsOpenAtom x.atoms n
  opens n is = opens_same x.atoms a one refl n (opens_same mid a two refl n is)

  accounts : (n : ℕ) → account_of atoms n ≡ account_of x.atoms n
  accounts n =
      state_same mid a two (λ (y : AtomState). y.account) refl n
      ∙ state_same x.atoms a one (λ (y : AtomState). y.account) refl n

  flags : (n : ℕ) → is_sealed atoms n ≡ is_sealed x.atoms n
  flags n =
      state_same mid a two (λ (y : AtomState). y.sealed) refl n
      ∙ state_same x.atoms a one (λ (y : AtomState). y.sealed) refl n

  history_emptied : IsHistory r d now
  history_emptied = record {
    told = λ o named. told_settled (commands greatest_size) (option_map start_of o) d.clock
        (record (tables_of had) { atoms = mid }) (e_now ∷ trace)
        (told_committed (commands greatest_size) (option_map start_of o) d.clock (tables_of had) trace
        (h.history.told o named) k.atom d.clock refl refl uncommitted (omega arith)) a refl refl is_done;
    job = h.history.job;
    first = h.history.first;
    drawn = drawn_entry h.history.first x.turns x.numbers.next_oid trace h.history.drawn e_now tt;
    begins = h.history.begins;
    committed = λ other at. absurd (cc at);
    room = let enough = h.history.room in omega (arith, enough);
  }

  legal_emptied : IsOrdered (e_now ∷ trace)
  legal_emptied = (history_emptied.told None tt).legal.order

  counts_on : (n cells fresh : ℕ) → CountsCells x.buffer x.atoms n cells fresh
      → CountsCells x.buffer atoms n cells fresh
  counts_on n cells fresh g = record {
    nodes = g.nodes;
    different = g.different;
    just = λ i. (
      (λ has. (owners i ∙ ((g.just i).0 has).0, ((g.just i).0 has).1)),
      (λ both. (g.just i).1 (sym (owners i) ∙ both.0, both.1)),
    );
    cells_are = g.cells_are;
    fresh_are = g.fresh_are;
  }

  accounts_emptied : AreAccounts now
  accounts_emptied =
      let g = h.accounts in
      record {
        covered = g.covered;
        same = λ n opened.
            (let one = g.same n (opens n.0 opened) in
            let acc = accounts n.0 in (
              one.0 ∙ sym (ap (λ (y : Account). y.cells) acc),
              one.1 ∙ sym (ap (λ (y : Account). y.fresh) acc),
            ));
        counted = λ n opened.
            subst (λ (y : Account). CountsCells x.buffer atoms n y.cells y.fresh) (sym (accounts n))
            (counts_on n _ _ (g.counted n (opens n opened)));
        unknown = λ n none.
            g.unknown n (λ begun. none (record { some = begun.some; within = begun.within }));
        objects = λ n opened.
            (let one = g.objects n (opens n opened) in
            let acc = accounts n in
            let born : (account_of atoms n).born ≡ (account_of x.atoms n).born = ap (λ (y : Account). y.born) acc in
            let gone : (account_of atoms n).gone ≡ (account_of x.atoms n).gone = ap (λ (y : Account). y.gone) acc in
            (omega (arith, one.0, born), omega (arith, one.1, gone)));
        holds = g.holds;
        room_to_capture = g.room_to_capture;
        room_for_cells = g.room_for_cells;
        room_to_defer = g.room_to_defer;
      }

  cells_emptied : AreCells d now
  cells_emptied =
      let g = h.cells in
      record {
        super40 = g.super40;
        space = g.space;
        root = g.root;
        height = g.height;
        root_stands = g.root_stands;
        buffered_names = g.buffered_names;
        reached_names = g.reached_names;
        owned_names = λ i some. g.owned_names i (subst IsSome (owners i) some);
        named = g.named;
        given_cells = g.given_cells;
        dirty = λ i f at. (
          (λ yes. subst IsSome (sym (owners i)) ((g.dirty i f at).0 yes)),
          (λ some. (g.dirty i f at).1 (subst IsSome (owners i) some)),
        );
        fresh = g.fresh;
        clean = g.clean;
        nodes = λ other at. absurd (cc at);
        commit = tt;
      }

  same_if_open : (o : Option ℕ) → if_open atoms o ≡ if_open x.atoms o
  same_if_open None = refl
  same_if_open (Some n) = ap (λ (y : Bool). cond y None (Some n)) (flags n)

  module _ (b : Beginning) (named : IsNamed (names_in r) d.blocks b) where
    abbrev story_was : HasStory r b d had
    story_was = h.story b named

    abbrev c : Session
    c = story_was.story.session

    abbrev story_now : Story
    story_now = record { session = committed c k.atom d.clock; flush = story_was.story.flush }

    means_emptied : HasMeaning b (job_named r.scripts) d now story_now
    means_emptied =
        let m = story_was.means in
        let rest = rests_again b (job_named r.scripts) c x.space x.volume d k.atom m.session m.at in
        record {
          reads = m.reads;
          session = rest.means.session;
          trace = ap (λ (l : List Entry). e_now ∷ l) m.trace;
          owner = λ i. m.owner i ∙ sym (ap (if_open atoms) (owners i) ∙ same_if_open (owner_of x.atoms i));
          root = m.root;
          cells = m.cells;
          clean = m.clean;
          reach = m.reach;
          owned = λ i n some. m.owned i n (subst IsSome (owners i) some);
          born = λ n opened. ap (λ (y : Account). y.born) (accounts n) ∙ m.born n (opens n opened);
          gone = λ n opened. ap (λ (y : Account). y.gone) (accounts n) ∙ m.gone n (opens n opened);
          at = rest;
        }

    durable_emptied : (t : ℕ) → r.clock ≡ Some t → TellsCrashes d → IsDurable b t d now story_now
    durable_emptied t is tells =
        let g = story_was.durable t is tells in
        let m = story_was.means in
        let added = nothing_added b (job_named r.scripts) c x.space x.volume d k.atom m.session m.at in
        record {
          each = safe_empty (means b) (commands greatest_size) b.content t d trace k.atom legal_emptied
              (subst (λ (l : List Entry). AddsNothing (commands greatest_size) b.content l) m.trace
              (subst (λ (y : Content). AddsNothing (commands greatest_size) y c.trace) m.session.start added))
              g.each;
          now = g.now;
        }

  pub kept_emptied : IsKept r d now
  kept_emptied = record {
    history = history_emptied;
    tables = record {
      tasks = tasks_other (record (tables_of had) { atoms = atoms }) x.locks
          (cleaned_follow (record (tables_of had) { atoms = mid }) x.locks
          (state_follow (tables_of had) x.locks h.tables.tasks a one refl) atoms a refl names) None None;
      ordered = h.tables.ordered;
    };
    accounts = accounts_emptied;
    cells = cells_emptied;
    tasks = record {
      uses = h.tasks.uses;
      drawn = h.tasks.drawn;
      apart = h.tasks.apart;
      unused = h.tasks.unused;
      unnamed = h.tasks.unnamed;
      unreached = h.tasks.unreached;
      unowned = λ q i n has is_n low high. owners i ∙ h.tasks.unowned q i n has is_n low high;
      given = h.tasks.given;
    };
    lender = h.lender;
    story = λ b named. record {
      story = story_now b named;
      means = means_emptied b named;
      durable = durable_emptied b named;
    };
  }

-- ---- the same, of a core whose commit writes nothing

pub nothing_as : {D : Type 0} (c : CoreSeen D) → IsAtNothing c → (k : Commit) → c.commit ≡ Some k → WritesNothing c k
nothing_as c h k at =
    let x = h.1 in
    let same : h.0 ≡ k = cc (sym x.commit ∙ at) in
    record {
      sound = x.sound;
      commit = at;
      nothing = subst (λ (y : Commit). y.work ≡ None) same x.nothing;
    }

module _ {D : Type 0} (r : Naming) (d : State) (c : CoreSeen D) (k : Commit) (h : IsKept r d c)
    (writes : WritesNothing c k) where
  at_nothing : IsKept r d (record c { commit = Some (record k { work = None }); broken = None })
  at_nothing =
      subst (λ (o : Option ℕ). IsKept r d (record c { commit = Some (record k { work = None }); broken = o }))
      writes.sound
      (subst (λ (o : Option CommitSeen). IsKept r d (record c { commit = Some (record k { work = o }) })) writes.nothing
      (subst (λ (o : Option Commit). IsKept r d (record c { commit = o })) writes.commit h))

  -- what the calls ask for
  pub may_end : IsAtom c.atoms k.atom.0 × (is_sealed c.atoms k.atom.0 ≡ true)
      × (is_committed c.atoms k.atom.0 ≡ false)
  may_end =
      let was = commit_is (commands greatest_size) None d.clock
      (tables_of (record c { commit = Some (record k { work = None }); broken = None })) c.trace.entries
      (at_nothing.history.told None tt) k.atom.0 refl in
      (was.0, was.1, at_nothing.history.committed (record k { work = None }) refl)

  pub may_clean : (first : AtomsSeen) → first ≡ with_committed c.atoms k.atom.0
      → IsAtom first k.atom.0 × (is_sealed first k.atom.0 ≡ true)
  may_clean first is =
      let was = may_end in
      let done : AtomState = record (state_of c.atoms k.atom.0) { committed = true } in
      subst (λ (s : AtomsSeen). IsAtom s k.atom.0 × (is_sealed s k.atom.0 ≡ true)) (sym is) (
        record {
          begun = record { some = was.0.begun.some; within = was.0.begun.within };
          own = was.0.own;
        },
        state_same c.atoms k.atom.0 done (λ (y : AtomState). y.sealed) refl k.atom.0 ∙ was.1,
      )

  pub has_room_to_end : 1 ≤ c.trace.spare
  has_room_to_end = let enough = at_nothing.history.room in omega (arith, enough)

  pub keeps_emptied : (first table : AtomsSeen) (commit : Option Commit) (clock : ℕ) (entries : Told)
      → first ≡ with_committed c.atoms k.atom.0 → table ≡ with_cleaned first k.atom.0
      → ((n : ℕ) → owner_of table n ≡ without_owner k.atom.0 (owner_of first n)) → commit ≡ None
      → clock ≡ d.clock → entries ≡ with_entry c.trace (Committed k.atom clock)
      → IsKept r d (record c { atoms = table; commit = commit; trace = entries })
  keeps_emptied first table commit clock entries is_mid are_atoms names is_none is_clock are_entries =
      let all : table ≡ with_cleaned (with_committed c.atoms k.atom.0) k.atom.0 =
      are_atoms ∙ ap (λ (s : AtomsSeen). with_cleaned s k.atom.0) is_mid in
      let owners : (n : ℕ) → owner_of (with_cleaned (with_committed c.atoms k.atom.0) k.atom.0) n
      ≡ without_owner k.atom.0 (owner_of (with_committed c.atoms k.atom.0) n) =
      subst (λ (s : AtomsSeen). (n : ℕ) → owner_of s n
      ≡ without_owner k.atom.0 (owner_of (with_committed c.atoms k.atom.0) n)) all
      (subst (λ (s : AtomsSeen). (n : ℕ) → owner_of table n ≡ without_owner k.atom.0 (owner_of s n)) is_mid names) in
      subst (λ (s : AtomsSeen). IsKept r d (record c { atoms = s; commit = commit; trace = entries })) (sym all)
      (subst (λ (o : Option Commit). IsKept r d (record (emptied c k clock) { commit = o; trace = entries }))
      (sym is_none)
      (subst (λ (l : Told). IsKept r d (record (emptied c k clock) { trace = l })) (sym are_entries)
      (subst (λ (n : ℕ). IsKept r d (emptied c k n)) (sym is_clock)
      (subst (λ (z : Option ℕ). IsKept r d (record (emptied c k d.clock) { broken = z })) (sym writes.sound)
      (kept_emptied r d c k at_nothing owners)))))
