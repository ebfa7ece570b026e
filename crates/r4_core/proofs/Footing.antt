-- A commit writes its journal footer, and its atom settles: what holds of a core holds still.
use Rattle.std.proofs.Common.{◌≡◌, ◌⊎◌, inl, inr, ⊎_elim, ℕ, ◌<◌, ◌≤◌, ◌||◌, ◌^◌, Bool, true, cond}
use Rattle.std.proofs.Common.{List, [], ◌∷◌, length, take, Option, Some, None, refl, sym, ◌∙◌, ap, subst, arith, nat_lt}
use Rattle.std.proofs.Common.{true≢false}
use Rattle.std.specs.Prelude.{◌↔◌, Contains, IsSome, Ok, nat_le}
use Rattle.std.specs.Option.{option_map}
use Rattle.std.proofs.lemmas.Bool.{cases_eq, eq-eqb, lt-ltb, ne_eqb, or_cases, or_left}
use Rattle.std.proofs.lemmas.List.{get_or-set_same}
use Rattle.r4_atoms.specs.Atoms.{AtomsSeen, IsAtom, IsOpenAtom, account_of, is_committed, is_sealed, numbers, owner_of}
use Rattle.r4_atoms.specs.Atoms.{state_of, without_owner}
use Rattle.r4_atoms.specs.declared.things.Account.{Account}
use Rattle.r4_atoms.specs.declared.things.AtomState.{AtomState}
use Rattle.r4_base.specs.Bitmap.{bitmap_count}
use Rattle.r4_base.specs.Cell.{IsCellOf}
use Rattle.r4_base.specs.Chain.{HasLog, committed as head_named, flushed}
use Rattle.r4_base.specs.Image.{Image, IsImage, block_at}
use Rattle.r4_base.specs.Layout.{IsLawfulSuper, super_of}
use Rattle.r4_base.specs.Log.{footer_of}
use Rattle.r4_base.specs.Tree.{Name}
use Rattle.r4_base.specs.declared.journal.Footer.{Footer}
use Rattle.r4_base.specs.declared.limits.TheConstants.{SUPER_BLOCK}
use Rattle.r4_base.specs.declared.superblock.Super40.{Super40}
use Rattle.r4_base.specs.declared.things.AtomNo.{AtomNo}
use Rattle.r4_base.specs.declared.things.BlockNo.{BlockNo}
use Rattle.r4_buffer.specs.Changed.{Standing, cleaned, in_turn, uses_of}
use Rattle.r4_buffer.specs.Reading.{NamesStand}
use Rattle.r4_buffer.specs.Seen.{BufferSeen, EntrySeen, IsLawful as AreNamed, buffered, is_captured, is_dirty_by}
use Rattle.r4_buffer.proofs.Captured.{captured_is, is_captured_from}
use Rattle.r4_cell.specs.Seen.{CellSeen, node_of}
use Rattle.r4_ready.specs.r4_commit.Planned.{CommitSeen}
use Rattle.r4_content.specs.Locality.{commands}
use Rattle.r4_content.specs.Meaning.{greatest_size}
use Rattle.r4_ready.specs.r4_durable.Kept.{HasSettled, IsSession, Means as MeansAtRest, sealing_of}
use Rattle.r4_ready.specs.r4_durable.Meaning.{Beginning, IsNamed, first_id, start_of}
use Rattle.r4_ready.specs.r4_durable.Sealing.{IsSealing, Sealing, commit_in, made_by, session_after}
use Rattle.r4_ready.proofs.r4_durable.Flushes.{is_sealing}
use Rattle.r4_ready.proofs.r4_durable.GoingOn.{again}
use Rattle.r4_ready.proofs.r4_durable.SealedContent.{new_content, ok}
use Rattle.r4_ready.proofs.r4_durable.Steps.{kept_after}
use Rattle.r4_flushing.proofs.r4_flushed.FlushedCells.{FitsOnDisk}
use Rattle.r4_others.specs.r4_history.Tables.{with_cleaned}
use Rattle.r4_others.proofs.r4_history.RunSteps.{commit_is, told_later}
use Rattle.r4_others.proofs.r4_history.TaskSteps.{cleaned_follow, tasks_other}
use Rattle.r4_others.proofs.r4_history.Told.{told_settled}
use Rattle.r4_outside.specs.Device.{Goes, IsQuiet, State, TellsCrashes, TellsReads}
use Rattle.r4_flushing.specs.r4_sealed.Commits.{image_after, super_after}
use Rattle.r4_flushing.specs.r4_sealed.Contents.{HasContentWith}
use Rattle.r4_flushing.specs.r4_placed.Flushing.{commit_by_block}
use Rattle.r4_flushing.proofs.r4_sealed.Kept.{ended}
use Rattle.r4_flushing.proofs.r4_sealed.NewCells.{or_second}
use Rattle.r4_flushing.proofs.r4_sealed.Resting.{Rests, rested}
use Rattle.r4_flushing.specs.r4_sets.Atoms.{committed}
use Rattle.r4_flushing.specs.r4_sets.Session.{Session}
use Rattle.r4_space.specs.Accounts.{account_at}
use Rattle.r4_space.specs.Lawful.{IsLawful}
use Rattle.r4_space.specs.Space.{Space, settled}
use Rattle.r4_space.specs.declared.things.Account.{Account as SpaceAccount}
use Rattle.r4_space.proofs.AccountLaws.{other_account}
use Rattle.r4_trace.specs.Job.{Asked}
use Rattle.r4_trace.specs.Traced.{sealed_in}
use Rattle.r4_wander.specs.LogPlan.{parts_of}
use Rattle.r4_wander.specs.Parts.{IsOrderOf, Parts, base_of, part}
use Rattle.r4_wander.specs.Progress.{Commits, ReadsAs}
use Rattle.r4_wander.specs.Safe.{WithAtom}
use Rattle.r4_wander.specs.Torn.{put_writes}
use Rattle.r4_wander.specs.declared.plan.LogPlan.{LogPlan}
use Rattle.r4_wander.proofs.Ending.{ends_reading, quiet_between}
use Rattle.r4_wander.proofs.Settling.{length-put_writes}
use Rattle.r4_ready.specs.r4_kept.Accounts.{AreAccounts, CountsCells}
use Rattle.r4_ready.specs.r4_kept.Cells.{AreCells, AreReadable, HasNames, IsAccepted, IsName, IsStillThere, NamesAt}
use Rattle.r4_ready.specs.r4_kept.Durable.{IsDurable, StandsAt}
use Rattle.r4_ready.specs.r4_kept.History.{IsHistory}
use Rattle.r4_ready.specs.r4_kept.Kept.{HasStory, IsKept}
use Rattle.r4_ready.specs.r4_kept.Meaning.{ComesFrom, HasMeaning, IsAtRest, IsFlushing, IsInCommit, IsInPart, if_open}
use Rattle.r4_ready.specs.r4_kept.Naming.{Naming, job_named, names_in}
use Rattle.r4_ready.specs.r4_kept.Steps.{Writes, writing}
use Rattle.r4_ready.specs.r4_kept.Story.{Flush, Headed, Story}
use Rattle.r4_ready.specs.r4_kept.Tables.{AreTables}
use Rattle.r4_ready.specs.r4_kept.TasksOut.{AreOut}
use Rattle.r4_ready.specs.r4_kept.View.{CoreSeen, blocks_of, tables_of}
use Rattle.r4_ready.specs.r4_kept.declared.parts.Commit.{Commit}
use Rattle.r4_ready.specs.r4_kept.declared.parts.Volume.{Volume}
use Rattle.r4_ready.proofs.r4_kept.Cleaned.{Was, captured_before, none_before, same_now, was_there}
use Rattle.r4_ready.proofs.r4_kept.Settling.{deferred_then, fewer_dues, more_unused, settled_alike, still_then}
use Rattle.r4_ready.proofs.r4_kept.States.{opens_same, state_same}
use Rattle.r4_ready.proofs.r4_kept.Staying.{named_on, names_as, still_cleaned}
use Rattle.r4_core.proofs.Writing.{small, Settles, Steps, at_hand, begun_before, named_before, same_read, still_safe}
use Rattle.r4_core.proofs.Writing.{was}

-- ---- how far the plan is

module _ (d e : State) (w v : CommitSeen) (steps : Steps d e w v) (is : w.work.part ≡ 3) where
  one_write : length (part w.work.plan w.work.part) ≡ 1
  one_write = ap (λ (i : ℕ). length (part w.work.plan i)) is

  -- the part has one write, so the step ends it
  pub at_end : (v.work.part ≡ 4) × (v.work.done ≡ 0)
  at_end = ⊎_elim
      (λ x. let more = x.0 in absurd (omega (arith, more, one_write)))
      (λ x. let next = x.1 in (omega (arith, next, is), x.2)) steps.next

  -- what reading gives is what the plan leaves
  pub all_written : (base : Image) → ReadsAs v.work base e → e.seen ≡ base_of w.work.plan base 4
  all_written base reads =
      reads.seen
      ∙ ap (λ (n : ℕ). put_writes (take n (part v.work.plan v.work.part)) (base_of v.work.plan base v.work.part))
      at_end.1
      ∙ ap (base_of v.work.plan base) at_end.0
      ∙ ap (λ (plan : Parts). base_of plan base 4) steps.plan

-- the journal footer names the head
footer_head : (n : ℕ) (base : Image) (p : LogPlan) (w : CommitSeen) → Commits w.work n base [] p
    → flushed (base_of w.work.plan base 4) ≡ p.head.0
footer_head n base p w c =
    let plan = w.work.plan in
    let one = length-put_writes plan.first base in
    let two = length-put_writes ((19, plan.header) ∷ []) (base_of plan base 1) in
    let three = length-put_writes plan.homes (base_of plan base 2) in
    let here : 20 < length (base_of plan base 3) =
    let size = c.safe.image.blocks in let many = c.safe.more in omega (arith, one, two, three, size, many) in
    ap (λ (block : List ℕ). (footer_of block).last) (get_or-set_same (base_of plan base 3) 20 plan.footer [] here)
    ∙ ap (λ (block : List ℕ). (footer_of block).last) c.order.footer
    ∙ ap (λ (f : Footer). f.last) c.encoded.footer

-- ---- at rest again

module _ (disk : FitsOnDisk) (b : Beginning) (job : Option Asked) (c : Session) (s : Space) (vol : Volume)
    (d e : State) (k : AtomNo) (w v : CommitSeen) (steps : Steps d e w v) (is : w.work.part ≡ 3)
    (size : b.blocks ≡ d.blocks) (reads : TellsReads e) (session : IsSession greatest_size b job c) where
  abbrev then : Volume
  then = record { super40 = w.super40; prev = w.head }

  module _ (f : Flush) (h : IsFlushing b job c s d f k w) where
    abbrev x : Sealing
    x = sealing_of f.before f.work f.plan

    commits_on : Commits v.work b.blocks f.work.base [] f.plan
    commits_on = record {
      safe = h.commits.safe;
      encoded = h.commits.encoded;
      order = subst (IsOrderOf (parts_of f.plan)) (sym steps.plan) h.commits.order;
      homes = λ le. h.commits.homes (omega (arith, is));
    }

    whole : IsImage b.blocks e.seen
    whole = subst (λ (n : ℕ). IsImage n e.seen) (steps.goes.blocks ∙ sym size) reads

    ends_so : HasLog b.blocks e.seen [] × WithAtom b.blocks f.work.base [] f.plan e.seen
    ends_so =
        ends_reading v.work b.blocks f.work.base [] f.plan e reads commits_on (at_end d e w v steps is).0
        (steps.reads f.work.base h.reads)

    rest_of : (o : Option Headed) → ComesFrom b job f h.comes.more o c → IsInPart o w.work.part
        → MeansAtRest greatest_size b job c (settled s f.work.atom) e.seen
    rest_of None from lt = absurd (omega (arith, lt, is))
    rest_of (Some hd) from le =
        let end : HasSettled b x hd.space e.seen = record {
          whole = whole;
          log = ends_so.0;
          with_it = ends_so.1;
          is_later = from.later;
          lawful = from.lawful;
        } in
        let rest = again disk greatest_size small b job f.before f.work f.plan h.way hd.space e.seen end hd.session
        h.comes.more from.before from.session from.deferred hd.clock in
        kept_after greatest_size b job (committed hd.session f.work.atom hd.clock) c (settled hd.space f.work.atom)
        (settled s f.work.atom) hd.later e.seen rest from.behind
        (settled_alike (commit_by_block f.work f.plan).space hd.space s f.work.atom from.later h.later) h.lawful session
        (deferred_then c s f.work.atom h.deferred)

    -- the superblock is the plan's
    abbrev sealing : IsSealing greatest_size (first_id b) job b.blocks x
    sealing = is_sealing greatest_size b job f.before f.work f.plan h.way.kept h.way.can

    abbrev content : HasContentWith b.blocks (image_after (commit_in x)) (super_after (commit_in x)) x.under
        (made_by greatest_size (session_after x) (sealed_in (session_after x).trace))
    content = new_content disk greatest_size small (first_id b) job b.blocks x sealing

    abbrev rests : Rests b.blocks (image_after (commit_in x)) e.seen
        (made_by greatest_size (session_after x) (sealed_in (session_after x).trace)) content.content []
    rests =
        rested b.blocks (image_after (commit_in x)) e.seen _ content.content
        (ended b.blocks (commit_in x) _ content.content e.seen
        (ok disk greatest_size small (first_id b) job b.blocks x sealing) whole ends_so.1) ends_so.0

    super_there : super_of b.blocks (block_at e.seen SUPER_BLOCK.0) ≡ Ok w.super40
    super_there =
        rests.has.content.layout.format
        ∙ ap (λ (y : Super40). Ok y) (rests.has.same_super ∙ content.same_super ∙ sym h.super40)

    -- and the journal header names its head
    head_there : w.head.0 ≡ head_named e.seen
    head_there =
        ap (λ (n : BlockNo). n.0) h.head
        ∙ sym (footer_head b.blocks f.work.base f.plan w h.commits)
        ∙ sym (ap flushed (all_written d e w v steps is f.work.base (steps.reads f.work.base h.reads)))
        ∙ sym ends_so.0.txns

    rests_now : IsAtRest b job c (settled s k) then e
    rests_now = record {
      means = subst (λ (a : AtomNo). MeansAtRest greatest_size b job c (settled s a) e.seen) (sym h.atom)
          (rest_of h.comes.headed h.comes.from h.comes.in_part);
      super40 = super_there;
      prev = head_there;
    }

  rest_on : (f : Option Flush) → IsInCommit b job c s vol d f k (Some w) → IsAtRest b job c (settled s k) then e
  rest_on None h = absurd h
  rest_on (Some f) h = rests_now f h

  quiet_on : (f : Option Flush) → StandsAt d f (Some w) → IsQuiet e
  quiet_on None h = absurd h
  quiet_on (Some f) h = quiet_between v.work f.work.base e (at_end d e w v steps is).1 (steps.stands f.work.base h)

-- ---- owners

-- nobody owns what the atom owned, and each other one what it did
module _ (a : ℕ) where
  pub without_cases : (o : Option ℕ) → ((o ≡ Some a) × (without_owner a o ≡ None))
      ⊎ ((o ≡ Some a → ⊥) × (without_owner a o ≡ o))
  without_cases None = inr ((λ is. cc is), refl)
  without_cases (Some n) = elim (cases_eq n a) [
    | inl same ↦ inl (
      ap (λ (j : ℕ). Some j) same,
      ap (λ (t : Bool). cond t None (Some n)) (eq-eqb n a same),
    )
    | inr other ↦ inr (
      (λ is. other (cc is)),
      ap (λ (t : Bool). cond t None (Some n)) (ne_eqb n a other),
    )
  ]

  kept_by_others : (o : Option ℕ) (n : ℕ) → (n ≡ a → ⊥) → o ≡ Some n → without_owner a o ≡ Some n
  kept_by_others o n other is = ⊎_elim
      (λ gone. absurd (other (cc (sym is ∙ gone.0))))
      (λ stays. stays.1 ∙ is) (without_cases o)

  was_owned : (o : Option ℕ) (n : ℕ) → without_owner a o ≡ Some n → o ≡ Some n
  was_owned o n is = ⊎_elim
      (λ gone. absurd (cc (sym gone.1 ∙ is)))
      (λ stays. sym stays.1 ∙ is) (without_cases o)

  some_before : (o : Option ℕ) → IsSome (without_owner a o) → IsSome o × (o ≡ Some a → ⊥)
  some_before o some = ⊎_elim
      (λ gone. absurd (true≢false (sym (subst IsSome gone.1 some))))
      (λ stays. (subst IsSome stays.1 some, stays.0)) (without_cases o)

-- ---- a core

module _ {D : Type 0} (disk : FitsOnDisk) (r : Naming) (d e : State) (x : CoreSeen D) (k : Commit) (w : CommitSeen)
    (dev : D)
    (h : IsKept r d (record x { commit = Some (writing k w); broken = None })) (goes : Goes d e)
    (settles : Settles d e w.work) (is : w.work.part ≡ 3) (v : CommitSeen) (steps : Steps d e w v)
    (buffer : BufferSeen) (cells : (i : ℕ) → buffered buffer i ≡ in_turn cleaned k.nodes i (buffered x.buffer i))
    (spare : buffer.spare ≡ x.buffer.spare) (lawful : AreNamed x.buffer) (still : AreNamed buffer)
    (fair : IsLawful x.space)
    (names : (n : ℕ) → owner_of (with_cleaned x.atoms k.atom.0) n ≡ without_owner k.atom.0 (owner_of x.atoms n))
  where
    abbrev a : ℕ
    a = k.atom.0

    abbrev had : CoreSeen D
    had = record x { commit = Some (writing k w); broken = None }

    abbrev atoms : AtomsSeen
    atoms = with_cleaned x.atoms a

    abbrev new : AtomState
    new = record (state_of x.atoms a) { cleaned = true }

    abbrev space : Space
    space = settled x.space k.atom

    abbrev now : CoreSeen D
    now = record x {
      dev = dev;
      atoms = atoms;
      buffer = buffer;
      space = space;
      volume = record { super40 = w.super40; prev = w.head };
      commit = None;
      broken = None;
    }

    is_done : is_committed x.atoms a ≡ true
    is_done = h.history.committed (writing k w) refl ∙ ap (λ (i : ℕ). nat_le 2 i) is

    under_way : IsAtom x.atoms a × (is_sealed x.atoms a ≡ true)
    under_way =
        commit_is (commands greatest_size) None d.clock (tables_of had) x.trace.entries (h.history.told None tt) a refl

    opens : (n : ℕ) → IsOpenAtom atoms n → IsOpenAtom x.atoms n
    opens = opens_same x.atoms a new refl

    -- an open atom is another one
    another : (n : ℕ) → IsOpenAtom x.atoms n → n ≡ a → ⊥
    another n opened same =
        absurd (true≢false (sym under_way.1
        ∙ ap (λ (j : ℕ). is_sealed x.atoms j) (sym same) ∙ opened.unsealed))

    accounts : (n : ℕ) → account_of atoms n ≡ account_of x.atoms n
    accounts = state_same x.atoms a new (λ (y : AtomState). y.account) refl

    -- the nodes of the commit are those that the atom owns
    owned_is : (i : ℕ) → Contains (numbers k.nodes) i → owner_of x.atoms i ≡ Some a
    owned_is i has = (h.cells.nodes (writing k w) refl i).0 has

    is_owned : (i : ℕ) → owner_of x.atoms i ≡ Some a → Contains (numbers k.nodes) i
    is_owned i own = (h.cells.nodes (writing k w) refl i).1 own

    same_there : (i : ℕ) → (owner_of x.atoms i ≡ Some a → ⊥) → buffered buffer i ≡ buffered x.buffer i
    same_there i not = same_now x.buffer buffer k.nodes cells i (λ has. not (owned_is i has))

    -- ---- accounts

    counts_on : (n cell fresh : ℕ) → (n ≡ a → ⊥) → CountsCells x.buffer x.atoms n cell fresh
        → CountsCells buffer atoms n cell fresh
    counts_on n cell fresh other g = record {
      nodes = g.nodes;
      different = g.different;
      just = λ i. (
        (λ has.
            (let both = (g.just i).0 has in (
              names i ∙ kept_by_others a (owner_of x.atoms i) n other both.0,
              ap is_dirty_by (same_there i (λ own. other (cc (sym both.0 ∙ own)))) ∙ both.1,
            ))),
        (λ both.
            (let own = was_owned a (owner_of x.atoms i) n (sym (names i) ∙ both.0) in
            (g.just i).1
            (own, sym (ap is_dirty_by (same_there i (λ mine. other (cc (sym own ∙ mine))))) ∙ both.1))),
      );
      cells_are = g.cells_are;
      fresh_are = g.fresh_are;
    }

    other_accounts : (n : AtomNo) → (n.0 ≡ a → ⊥) → account_at space.atoms n ≡ account_at x.space.atoms n
    other_accounts n other = other_account n k.atom x.space.atoms other

    accounts_footed : AreAccounts now
    accounts_footed =
        let g = h.accounts in
        record {
          covered =
              let less = fewer_dues (bitmap_count x.space.block_count) x.space k.atom fair in
              let more = more_unused x.space k.atom fair in
              omega (arith, g.covered, less, more);
          same = λ n opened.
              (let one = g.same n (opens n.0 opened) in
              let acc = accounts n.0 in
              let there = other_accounts n (another n.0 (opens n.0 opened)) in (
                ap (λ (y : SpaceAccount). y.cells) there ∙ one.0 ∙ sym (ap (λ (y : Account). y.cells) acc),
                ap (λ (y : SpaceAccount). y.fresh) there ∙ one.1 ∙ sym (ap (λ (y : Account). y.fresh) acc),
              ));
          counted = λ n opened.
              subst (λ (y : Account). CountsCells buffer atoms n y.cells y.fresh) (sym (accounts n))
              (counts_on n _ _ (another n (opens n opened)) (g.counted n (opens n opened)));
          unknown = λ n none.
              other_accounts n (λ same. none (record {
                some = let some = under_way.0.begun.some in omega (arith, some, same);
                within = let within = under_way.0.begun.within in omega (arith, within, same);
              }))
              ∙ g.unknown n (λ begun. none (record { some = begun.some; within = begun.within }));
          objects = λ n opened.
              (let one = g.objects n (opens n opened) in
              let acc = accounts n in
              let born : (account_of atoms n).born ≡ (account_of x.atoms n).born = ap (λ (y : Account). y.born) acc in
              let gone : (account_of atoms n).gone ≡ (account_of x.atoms n).gone = ap (λ (y : Account). y.gone) acc in
              (omega (arith, one.0, born), omega (arith, one.1, gone)));
          holds = λ sound. still_then x.space k.atom (g.holds refl);
          room_to_capture = g.room_to_capture;
          room_for_cells = omega (arith, g.room_for_cells, spare);
          room_to_defer = g.room_to_defer;
        }

    -- ---- cells

    was_so : (i : ℕ) (f : EntrySeen) → buffered buffer i ≡ Some f → Was x.buffer k.nodes i f
    was_so = was_there x.buffer buffer k.nodes cells

    same_count : w.super40.block_count ≡ blocks_of x
    same_count = h.cells.commit.count

    footed_dirty : (i : ℕ) (f : EntrySeen) → buffered buffer i ≡ Some f → (f.dirty ≡ true) ↔ IsSome (owner_of atoms i)
    footed_dirty i f at =
        let old = was_so i f at in
        ⊎_elim
        (λ gone.
        (let none : owner_of atoms i ≡ None =
        names i ∙ ⊎_elim (λ y. y.1) (λ y. absurd (y.0 (owned_is i gone.0)))
        (without_cases a (owner_of x.atoms i)) in (
          (λ yes. absurd (true≢false (sym yes ∙ gone.1))),
          (λ some. absurd (true≢false (sym (subst IsSome none some)))),
        )))
        (λ stays.
        (let same : owner_of atoms i ≡ owner_of x.atoms i =
        names i ∙ ⊎_elim (λ y. absurd (stays.0 (is_owned i y.0))) (λ y. y.1)
        (without_cases a (owner_of x.atoms i)) in (
          (λ yes. subst IsSome (sym same) ((h.cells.dirty i old.entry old.is).0 (sym stays.1 ∙ yes))),
          (λ some. stays.1 ∙ (h.cells.dirty i old.entry old.is).1 (subst IsSome same some)),
        ))) old.how

    low : (i : ℕ) → Contains (numbers k.nodes) i → 2 ^ 63 ≤ i → ⊥
    low i has high =
        let lt = h.cells.commit.below i has in
        let most = fair.most in
        let same = h.cells.space in
        absurd (omega (arith, lt, most, same, high))

    footed_fresh : (i : ℕ) (f : EntrySeen) → buffered buffer i ≡ Some f → 2 ^ 63 ≤ i → f.dirty ≡ true
    footed_fresh i f at high =
        let old = was_so i f at in
        ⊎_elim (λ gone. absurd (low i gone.0 high)) (λ stays. stays.1 ∙ h.cells.fresh i old.entry old.is high) old.how

    -- a cell that is captured then was so, and so is what it names
    names_then : (i : ℕ) (f : EntrySeen) → buffered buffer i ≡ Some f → is_captured buffer i ≡ true
        → NamesStand buffer (blocks_of x) f.cell
    names_then i f at held =
        let old = was_so i f at in
        let before = captured_before x.buffer buffer k.nodes cells i (captured_is buffer still i held) in
        let stand = (h.cells.clean refl).names i old.entry old.is (is_captured_from x.buffer lawful i before) in
        let has_names = (h.cells.buffered_names i old.entry old.is).named in
        subst (NamesStand buffer (blocks_of x)) (sym old.cell) (λ n has. ⊎_elim
        (λ block. or_left (nat_lt n.id (blocks_of x)) (is_captured buffer n.id)
        (lt-ltb n.id (blocks_of x) block.0))
        (λ high. by n.id high.0 (or_cases (nat_lt n.id (blocks_of x)) (is_captured x.buffer n.id) (stand n has)))
        (has_names n has))
      where
        by : (j : ℕ) → 2 ^ 63 ≤ j
            → (nat_lt j (blocks_of x) ≡ true) ⊎ (is_captured x.buffer j ≡ true)
            → (nat_lt j (blocks_of x) || is_captured buffer j) ≡ true
        by j high (inl block) = or_left (nat_lt j (blocks_of x)) (is_captured buffer j) block
        by j high (inr captured) =
            let c = captured_is x.buffer lawful j captured in
            let here : buffered buffer j ≡ Some c.entry =
            same_now x.buffer buffer k.nodes cells j (λ has. low j has high) ∙ c.is in
            or_second (nat_lt j (blocks_of x)) (is_captured buffer j)
            (is_captured_from buffer still j (record {
              entry = c.entry;
              is = here;
              why = inl (h.cells.fresh j c.entry c.is high);
            }))

    footed_readable : AreReadable e buffer w.super40.block_count
    footed_readable =
        let g = h.cells.clean refl in
        let p = h.cells.commit in
        subst (AreReadable e buffer) (sym same_count) (record {
          accepted = λ i f at not.
              (let old = was_so i f at in
              subst (IsAccepted (blocks_of x)) (sym old.cell) (⊎_elim
              (λ gone. p.accepted i old.entry gone.0 old.is)
              (λ stays. g.accepted i old.entry old.is (sym stays.1 ∙ not)) old.how));
          same = λ tells i f at not.
              (let old = was_so i f at in
              let before = goes.reads.0 tells in
              ap (λ (y : CellSeen). y.block) old.cell ∙ ⊎_elim
              (λ gone. p.lands before i old.entry gone.0 old.is
              ∙ sym (ap (λ (image : Image). block_at image i)
              (all_written d e w v steps is p.base (steps.reads p.base (p.reads before)))))
              (λ stays. g.same before i old.entry old.is (sym stays.1 ∙ not)
              ∙ sym (same_read disk r d e x k w dev h goes settles v steps i before (λ q target.
              absurd (true≢false (sym (p.apart i q old.entry target old.is) ∙ sym stays.1 ∙ not))))) old.how);
          names = names_then;
        })

    names_before : (i : ℕ) (n : Name) → NamesAt buffer i n → NamesAt x.buffer i n
    names_before i n y =
        let old = was_so i y.entry y.is in names_as x.buffer i old.entry y.entry old.is old.cell n y.among

    footed_root : 2 ^ 63 ≤ x.tree.id.0 → is_dirty_by (buffered buffer x.tree.id.0) ≡ true
    footed_root high =
        ap is_dirty_by (same_now x.buffer buffer k.nodes cells x.tree.id.0 (λ has. low x.tree.id.0 has high))
        ∙ h.cells.root_stands high

    cells_footed : AreCells e now
    cells_footed =
        let g = h.cells in
        record {
          super40 = subst (λ (n : ℕ). IsLawfulSuper n w.super40) (sym goes.blocks) g.commit.super40;
          space = g.space ∙ sym same_count;
          root = subst (λ (n : ℕ). IsName n x.numbers.next_name x.tree.id.0) (sym same_count) g.root;
          height = g.height;
          root_stands = footed_root;
          buffered_names = λ i f at.
              (let old = was_so i f at in
              subst (λ (n : ℕ). HasNames n x.numbers.next_name f.cell) (sym same_count)
              (subst (HasNames (blocks_of x) x.numbers.next_name) (sym old.cell)
              (g.buffered_names i old.entry old.is)));
          reached_names = λ s out y is_out has.
              subst (λ (n : ℕ). HasNames n x.numbers.next_name y) (sym same_count) (g.reached_names s out y is_out has);
          owned_names = λ i some. subst (λ (n : ℕ). IsName n x.numbers.next_name i) (sym same_count)
              (g.owned_names i (some_before a (owner_of x.atoms i) (subst IsSome (names i) some)).0);
          named = named_on x.buffer buffer x.tree.id.0 (λ i n y high. names_before i n y) g.named;
          given_cells = λ sound s out y is_out has.
              subst (λ (n : ℕ). IsStillThere buffer n y) (sym same_count)
              (still_cleaned x.buffer buffer k.nodes cells (blocks_of x) g.commit.below
              (λ i f there at. g.commit.accepted i f there at) y (g.given_cells refl s out y is_out has));
          dirty = footed_dirty;
          fresh = footed_fresh;
          clean = λ sound. footed_readable;
          nodes = λ other at. absurd (cc at);
          commit = tt;
        }

    -- ---- the other groups

    history_footed : IsHistory r e now
    history_footed = record {
      told = λ o named. told_later (commands greatest_size) (option_map start_of o) d.clock (tables_of now)
          x.trace.entries (told_settled (commands greatest_size) (option_map start_of o) d.clock (tables_of had)
          x.trace.entries (h.history.told o (begun_before disk r d e x k w dev h goes settles o named)) a refl refl
          is_done) e.clock goes.time;
      job = h.history.job;
      first = h.history.first;
      drawn = h.history.drawn;
      begins = λ b named. h.history.begins b (named_before disk r d e x k w dev h goes settles b named);
      committed = λ other at. absurd (cc at);
      room = let enough = h.history.room in omega (arith, enough);
    }

    tables_footed : AreTables now
    tables_footed = record {
      tasks = tasks_other (record (tables_of had) { atoms = atoms }) x.locks
          (cleaned_follow (tables_of had) x.locks h.tables.tasks atoms a refl names) None None;
      ordered = h.tables.ordered;
    }

    uses_then : (i : ℕ) → uses_of (buffered buffer i) ≤ uses_of (buffered x.buffer i)
    uses_then i = by (buffered buffer i) refl
      where
        by : (o : Standing) → buffered buffer i ≡ o → uses_of (buffered buffer i) ≤ uses_of (buffered x.buffer i)
        by None at = let none = ap uses_of at in omega (arith, none)
        by (Some f) at =
            let old = was_so i f at in
            let now_used = ap uses_of at in
            let used = ap uses_of old.is in
            let same = old.uses in
            omega (arith, now_used, used, same)

    tasks_footed : AreOut now
    tasks_footed =
        let g = h.tasks in
        record {
          uses = λ i. (let le = g.uses i in let less = uses_then i in omega (arith, le, less));
          drawn = g.drawn;
          apart = g.apart;
          unused = λ s i n f has is_n at. (let old = was_so i f at in g.unused s i n old.entry has is_n old.is);
          unnamed = λ s i n m has is_n y. g.unnamed s i n m has is_n (names_before i m y);
          unreached = g.unreached;
          unowned = λ q i n has is_n low high. names i
              ∙ ap (without_owner a) (g.unowned q i n has is_n low high);
          given = g.given;
        }

    -- ---- in a run that names its beginning

    if_open_then : (o : Option ℕ) → if_open atoms (without_owner a o) ≡ if_open x.atoms o
    if_open_then o = ⊎_elim
        (λ gone.
        ap (if_open atoms) gone.1
        ∙ sym (ap (if_open x.atoms) gone.0 ∙ ap (λ (t : Bool). cond t None (Some a)) under_way.1))
        (λ stays. ap (if_open atoms) stays.1 ∙ same_flag o) (without_cases a o)
      where
        same_flag : (q : Option ℕ) → if_open atoms q ≡ if_open x.atoms q
        same_flag None = refl
        same_flag (Some n) =
            ap (λ (t : Bool). cond t None (Some n)) (state_same x.atoms a new (λ (y : AtomState). y.sealed) refl n)

    module _ (b : Beginning) (named : IsNamed (names_in r) e.blocks b) where
      abbrev story_was : HasStory r b d had
      story_was = was disk r d e x k w dev h goes settles b named

      abbrev story_now : Story
      story_now = record { session = story_was.story.session; flush = None }

      means_footed : HasMeaning b (job_named r.scripts) e now story_now
      means_footed =
          let m = story_was.means in
          let size = (named_before disk r d e x k w dev h goes settles b named).size in
          record {
            reads = goes.reads.1 m.reads;
            session = m.session;
            trace = m.trace;
            owner = λ i. m.owner i ∙ sym (ap (if_open atoms) (names i) ∙ if_open_then (owner_of x.atoms i));
            root = m.root;
            cells = λ i f at.
                (let old = was_so i f at in
                m.cells i old.entry old.is ∙ ap (λ (y : CellSeen). Some (node_of y)) (sym old.cell));
            clean = λ sound i n at none.
                (let had_it = m.clean refl i n at (none_before x.buffer buffer k.nodes cells i none) in (
                  subst (λ (count : ℕ). IsCellOf count (block_at e.seen i) n) (sym same_count)
                      (subst (λ (block : List ℕ). IsCellOf (blocks_of x) block n)
                      (sym (same_read disk r d e x k w dev h goes settles v steps i m.reads had_it.1)) had_it.0),
                  tt,
                ));
            reach = m.reach;
            owned = λ i n some at.
                (let other = some_before a (owner_of x.atoms i) (subst IsSome (names i) some) in
                ap is_dirty_by (same_there i other.1) ∙ m.owned i n other.0 at);
            born = λ n opened. ap (λ (y : Account). y.born) (accounts n) ∙ m.born n (opens n opened);
            gone = λ n opened. ap (λ (y : Account). y.gone) (accounts n) ∙ m.gone n (opens n opened);
            at = rest_on disk b (job_named r.scripts) story_was.story.session x.space x.volume d e k.atom w v steps is
                size (goes.reads.1 m.reads) m.session story_was.story.flush m.at;
          }

      durable_footed : (t : ℕ) → r.clock ≡ Some t → TellsCrashes e → IsDurable b t e now story_now
      durable_footed t at tells =
          let before = goes.crashes.0 tells in
          let g = story_was.durable t at before in
          let m = story_was.means in
          let size = (named_before disk r d e x k w dev h goes settles b named).size in
          record {
            each = still_safe disk r d e x k w dev h goes settles b named t at before;
            now = quiet_on disk b (job_named r.scripts) story_was.story.session x.space x.volume d e k.atom w v steps is
                size (goes.reads.1 m.reads) m.session story_was.story.flush g.now;
          }

    pub kept_footed : IsKept r e now
    kept_footed = record {
      history = history_footed;
      tables = tables_footed;
      accounts = accounts_footed;
      cells = cells_footed;
      tasks = tasks_footed;
      lender = λ l is_l. goes.lender ∙ h.lender l is_l;
      story = λ b named. record {
        story = story_now b named;
        means = means_footed b named;
        durable = durable_footed b named;
      };
    }

-- ---- the same, of a core that writes its journal footer

module _ {D : Type 0} (r : Naming) (d : State) (c : CoreSeen D) (k : Commit) (w : CommitSeen) (h : IsKept r d c)
    (writes : Writes c k w) (is : w.work.part ≡ 3) where
  abbrev here : IsKept r d (record c { commit = Some (writing k w); broken = None })
  here = at_hand r d c k w h writes

  -- what the calls ask for
  pub may_clean : IsAtom c.atoms k.atom.0 × (is_sealed c.atoms k.atom.0 ≡ true)
  may_clean = commit_is (commands greatest_size) None d.clock
      (tables_of (record c { commit = Some (writing k w); broken = None })) c.trace.entries (here.history.told None tt)
      k.atom.0 refl

  module _ (disk : FitsOnDisk) (e : State) (dev : D) (goes : Goes d e) (settles : Settles d e w.work) (v : CommitSeen)
      (steps : Steps d e w v) (buffer : BufferSeen)
      (cells : (i : ℕ) → buffered buffer i ≡ in_turn cleaned k.nodes i (buffered c.buffer i))
      (spare : buffer.spare ≡ c.buffer.spare) (lawful : AreNamed c.buffer) (still : AreNamed buffer)
      (fair : IsLawful c.space) where
    -- the same of parts that are as they are then
    pub keeps_footed : (table : AtomsSeen) (space : Space) (volume : Volume) (commit : Option Commit)
        → table ≡ with_cleaned c.atoms k.atom.0
        → ((n : ℕ) → owner_of table n ≡ without_owner k.atom.0 (owner_of c.atoms n))
        → space ≡ settled c.space k.atom → volume ≡ record { super40 = w.super40; prev = w.head } → commit ≡ None
        → IsKept r e (record c {
          dev = dev;
          atoms = table;
          buffer = buffer;
          space = space;
          volume = volume;
          commit = commit;
        })
    keeps_footed table space volume commit are_atoms names is_space is_volume is_none =
        let x = c in
        let last : Volume = record { super40 = w.super40; prev = w.head } in
        let then : AtomsSeen → Space → Volume → Option Commit → Option ℕ → CoreSeen D =
        λ s y u o z. record x {
          dev = dev;
          atoms = s;
          buffer = buffer;
          space = y;
          volume = u;
          commit = o;
          broken = z;
        } in
        let owners : (n : ℕ) → owner_of (with_cleaned c.atoms k.atom.0) n
        ≡ without_owner k.atom.0 (owner_of c.atoms n) =
        subst (λ (s : AtomsSeen). (n : ℕ) → owner_of s n ≡ without_owner k.atom.0 (owner_of c.atoms n)) are_atoms
        names in
        subst (λ (s : AtomsSeen). IsKept r e (then s space volume commit c.broken)) (sym are_atoms)
        (subst (λ (y : Space). IsKept r e (then (with_cleaned c.atoms k.atom.0) y volume commit c.broken))
        (sym is_space)
        (subst (λ (u : Volume).
        IsKept r e (then (with_cleaned c.atoms k.atom.0) (settled c.space k.atom) u commit c.broken))
        (sym is_volume)
        (subst (λ (o : Option Commit).
        IsKept r e (then (with_cleaned c.atoms k.atom.0) (settled c.space k.atom) last o c.broken))
        (sym is_none)
        (subst (λ (z : Option ℕ).
        IsKept r e (then (with_cleaned c.atoms k.atom.0) (settled c.space k.atom) last None z))
        (sym writes.sound)
        (kept_footed disk r d e c k w dev here goes settles is v steps buffer cells spare lawful still fair
        owners)))))
