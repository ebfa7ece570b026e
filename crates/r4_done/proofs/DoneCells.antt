-- A task is done: the cells in memory.
use Rattle.std.proofs.Common.{◌≡◌, ◌≢◌, ◌⊎◌, inl, inr, ⊎_elim, ℕ, ◌<◌, ◌≤◌, ◌^◌, true, false, cond, List}
use Rattle.std.proofs.Common.{Option, Some, None, Contains, refl, sym, ◌∙◌, ap, subst, arith}
use Rattle.std.specs.Prelude.{◌↔◌, IsSome, option_map}
use Rattle.std.specs.Option.{unwrap_or}
use Rattle.std.proofs.lemmas.Bool.{cases_Bool, cond-false, cond-true, or_cases, or_right}
use Rattle.std.proofs.lemmas.List.Elements.{Contains-append_right}
use Rattle.r4_atoms.specs.Atoms.{AtomsSeen, IsOpenAtom, atom_of, numbers, owner_of}
use Rattle.r4_base.proofs.Members.{no_member}
use Rattle.r4_base.specs.Key.{rank}
use Rattle.r4_base.specs.Tree.{Node}
use Rattle.r4_base.specs.Value.{Value}
use Rattle.r4_base.specs.declared.things.AtomNo.{AtomNo}
use Rattle.r4_taking.specs.r4_buffer.Changed.{has_name, in_turn, replaced, unused}
use Rattle.r4_taking.specs.r4_buffer.Seen.{BufferSeen, EntrySeen, IsLawful, buffered}
use Rattle.r4_taking.specs.r4_cell.Patch.{IsChange, by_name, patch_of, root_of_pair}
use Rattle.r4_taking.specs.r4_cell.Seen.{CellSeen}
use Rattle.r4_taking.specs.r4_cell.declared.change.Root.{Root as RootPair}
use Rattle.r4_taking.specs.r4_commit.Planned.{CommitSeen}
use Rattle.r4_content.specs.Locality.{commands}
use Rattle.r4_content.specs.Meaning.{greatest_size}
use Rattle.r4_content.specs.declared.command.Command.{Command}
use Rattle.r4_taking.specs.r4_history.Drawn.{numbers_in}
use Rattle.r4_taking.specs.r4_history.Held.{IsOut, IsServed, names_of, need_of, nodes_of}
use Rattle.r4_taking.proofs.r4_history.RunSteps.{commit_is}
use Rattle.r4_outside.specs.Device.{State}
use Rattle.r4_counted.specs.r4_patch.Part.{MeetsPart}
use Rattle.r4_counted.proofs.r4_patch.Members.{found}
use Rattle.r4_counted.proofs.r4_patch.Placed.{rises}
use Rattle.r4_taking.specs.r4_space.Space.{Space}
use Rattle.r4_taking.specs.r4_turns.Turns.{TurnsSeen, turn_at}
use Rattle.r4_taking.specs.r4_turns.declared.out.Out.{Out}
use Rattle.r4_taking.specs.r4_kept.Cells.{AreCells, FitsCommit, HasNames, IsAccepted, IsName, IsWriting, IsWritingOf}
use Rattle.r4_taking.specs.r4_kept.Kept.{IsKept}
use Rattle.r4_taking.specs.r4_kept.Naming.{Naming}
use Rattle.r4_taking.specs.r4_kept.TasksOut.{IsGiven, WereDrawn}
use Rattle.r4_taking.specs.r4_kept.View.{CoreSeen, blocks_of, committing, tables_of}
use Rattle.r4_taking.specs.r4_kept.declared.parts.Commit.{Commit}
use Rattle.r4_taking.proofs.Fused.{sealed_differs}
use Rattle.r4_taking.proofs.MetInMemory.{says}
use Rattle.r4_done.proofs.DoneNames.{found_name, names_done, readable_done}
use Rattle.r4_done.proofs.DoneOnce.{given_there, named_done, new_in_place, old_stands, root_done}
use Rattle.r4_done.proofs.DoneTables.{is_touched}
use Rattle.r4_done.proofs.DoneTasks.{AreNumbered}
use Rattle.r4_done.proofs.Dropped.{TurnsDrop}
use Rattle.r4_done.proofs.Named.{has_one, number_of, one_named, one_of_ids}
use Rattle.r4_done.proofs.Replaced.{IsNewCell, Untouched, entries_then}

module _ {D : Type 0} (r : Naming) (d : State) (c : CoreSeen D) (k : IsKept r d c) (s : ℕ) (out : Out)
    (here : IsOut c.turns s out) (old new : List CellSeen) (root : Option RootPair) (is : IsChange old new root)
    (reached : (x : CellSeen) → Contains old x → Contains out.writes x)
    (numbered : AreNumbered old new out.numbers) (turns : TurnsSeen) (on : TurnsDrop c.turns turns s out)
    (a : AtomNo) (opened : IsOpenAtom c.atoms a.0) (own : atom_of c.atoms out.txn.0 ≡ a.0) (atoms : AtomsSeen)
    (owners : (n : ℕ) → owner_of atoms n ≡ cond (is_touched old new n) (Some a.0) (owner_of c.atoms n))
    (buffer : BufferSeen) (lawful : IsLawful c.buffer)
    (cells : (i : ℕ) → buffered buffer i ≡ in_turn unused out.pins i (replaced old new i (buffered c.buffer i)))
    (sound : c.broken ≡ None) (x : Command) (g : IsGiven c.tree x out)
    (meets : MeetsPart (patch_of old new root) (by_name g.met) (root_of_pair g.root))
    (levels : (y : CellSeen) → Contains new y → y.level ≤ 8)
    (spared : (q : ℕ) (o : Out) → q ≢ s → IsOut c.turns q o → (node : ℕ) → Contains (nodes_of (need_of o)) node
    → is_touched old new node ≡ false) where
  abbrev blocks : ℕ
  blocks = blocks_of c

  abbrev next : ℕ
  next = c.numbers.next_name

  drawn : WereDrawn next out.numbers
  drawn =
      k.tasks.drawn s out.numbers here.is_script
      (ap (λ (o : Option Out). numbers_in o (turn_at c.turns s).numbers) here.is_out)

  had : (x : CellSeen) → Contains old x → HasNames blocks next x
  had x has = k.cells.reached_names s out x here (Contains-append_right out.reads out.writes x (reached x has))

  entries : (i : ℕ) (f : EntrySeen) → buffered buffer i ≡ Some f
      → IsNewCell new i f ⊎ Untouched c.buffer old new i f
  entries = entries_then c.buffer buffer old new out.pins cells

  -- ---- names

  names_then : (i : ℕ) (f : EntrySeen) → buffered buffer i ≡ Some f → HasNames blocks next f.cell
  names_then i f at =
      ⊎_elim (λ y. names_done blocks next old new root is out.numbers drawn numbered had f.cell y.there)
      (λ u. subst (HasNames blocks next) (sym u.was.cell) (k.cells.buffered_names i u.was.entry u.was.is))
      (entries i f at)

  root_name : IsName blocks next (unwrap_or root c.tree).id.0
  root_name = by root refl
    where
      by : (o : Option RootPair) → root ≡ o → IsName blocks next (unwrap_or o c.tree).id.0
      by None none = k.cells.root
      by (Some x) some =
          let top = is.patch.new_root (root_of_pair x) (ap (λ (o : Option RootPair). option_map root_of_pair o) some) in
          found_name blocks next old new root is out.numbers drawn numbered had x.id.0 top.node top.is

  root_height : (2 ≤ (unwrap_or root c.tree).height) × ((unwrap_or root c.tree).height ≤ 8)
  root_height = by root refl
    where
      by : (o : Option RootPair) → root ≡ o → (2 ≤ (unwrap_or o c.tree).height) × ((unwrap_or o c.tree).height ≤ 8)
      by None none = k.cells.height
      by (Some z) some =
          let changes = ap (λ (o : Option RootPair). option_map root_of_pair o) some in
          let more : g.root.height ≤ z.height =
          rises (patch_of old new root) (by_name g.met) (root_of_pair g.root) is.patch g.reach.part meets.meets
          (root_of_pair z) changes in
          let two = g.reach.part.height in
          let top = is.patch.new_root (root_of_pair z) changes in
          let (y, there_y, named, says_y) = found new z.id.0 top.node top.is in
          let high : y.level ≡ z.height =
          sym (says y.level (rank y.lo) (rank y.hi) y.block).0 ∙ ap (λ (n : Node Value). n.level) (sym says_y)
          ∙ top.level in
          let low = levels y there_y in
          (omega (arith, more, two), omega (arith, high, low))

  -- ---- owners

  owned_new : (i : ℕ) → is_touched old new i ≡ true → owner_of atoms i ≡ Some a.0
  owned_new i hit = owners i ∙ cond-true (is_touched old new i) (Some a.0) (owner_of c.atoms i) hit

  owned_still : (i : ℕ) → is_touched old new i ≡ false → owner_of atoms i ≡ owner_of c.atoms i
  owned_still i miss = owners i ∙ cond-false (is_touched old new i) (Some a.0) (owner_of c.atoms i) miss

  new_touched : (i : ℕ) (f : EntrySeen) → IsNewCell new i f → is_touched old new i ≡ true
  new_touched i f y =
      or_right (has_name old i) (has_name new i)
      (subst (λ (j : ℕ). has_name new j ≡ true) y.named (has_one new f.cell y.there))

  untouched : (i : ℕ) (f : EntrySeen) → Untouched c.buffer old new i f → is_touched old new i ≡ false
  untouched i f u = rw (u.not_old, u.not_new) refl

  -- a node that the change touches has a name that a cell may have
  touched_name : (i : ℕ) → is_touched old new i ≡ true → IsName blocks next i
  touched_name i hit =
      ⊎_elim
      (λ one. (let x = one_named old i one in subst (IsName blocks next) x.2 (had x.0 x.1).own))
      (λ two.
      (let x = one_named new i two in
      subst (IsName blocks next) x.2
      (names_done blocks next old new root is out.numbers drawn numbered had x.0 x.1).own))
      (or_cases (has_name old i) (has_name new i) hit)

  owned_names_then : (i : ℕ) → IsSome (owner_of atoms i) → IsName blocks next i
  owned_names_then i some = elim (cases_Bool (is_touched old new i)) [
    | inl hit ↦ touched_name i hit
    | inr miss ↦ k.cells.owned_names i (subst IsSome (owned_still i miss) some)
  ]

  dirty_then : (i : ℕ) (f : EntrySeen) → buffered buffer i ≡ Some f → (f.dirty ≡ true) ↔ IsSome (owner_of atoms i)
  dirty_then i f at = (
    λ dirty. ⊎_elim (λ y. subst IsSome (sym (owned_new i (new_touched i f y))) refl)
        (λ u. subst IsSome (sym (owned_still i (untouched i f u)))
        ((k.cells.dirty i u.was.entry u.was.is).0 (sym u.was.dirty ∙ dirty))) (entries i f at),
    λ some. ⊎_elim (λ y. y.dirty)
        (λ u. u.was.dirty ∙ (k.cells.dirty i u.was.entry u.was.is).1
        (subst IsSome (owned_still i (untouched i f u)) some)) (entries i f at),
  )

  fresh_then : (i : ℕ) (f : EntrySeen) → buffered buffer i ≡ Some f → 2 ^ 63 ≤ i → f.dirty ≡ true
  fresh_then i f at high =
      ⊎_elim (λ y. y.dirty) (λ u. u.was.dirty ∙ k.cells.fresh i u.was.entry u.was.is high) (entries i f at)

  -- ---- the commit that is under way

  module _ (y : Commit) (some : c.commit ≡ Some y) where
    other : y.atom.0 ≢ a.0
    other =
        sealed_differs c.atoms y.atom.0 a.0
        (commit_is (commands greatest_size) None d.clock (tables_of c) c.trace.entries (k.history.told None tt) y.atom.0
        (ap committing some)).1 opened.unsealed

    served : IsServed (tables_of c) s out
    served = k.tables.tasks.served s out here

    fits : FitsCommit d c.buffer blocks (Some y)
    fits = subst (FitsCommit d c.buffer blocks) some k.cells.commit

    old_free : (x : CellSeen) → Contains old x → owner_of c.atoms x.id ≡ Some y.atom.0 → ⊥
    old_free x has owned =
        other (served.owners x.id y.atom.0
        (Contains-append_right (numbers (names_of out.reads)) (numbers (names_of out.writes)) x.id
        (number_of out.writes x (reached x has))) owned ∙ own)

    below : (i : ℕ) → Contains (numbers y.nodes) i → i < blocks
    below i has = by y.work fits
      where
        by : (w : Option CommitSeen) → IsWritingOf d c.buffer blocks (numbers y.nodes) w → i < blocks
        by None none = absurd (no_member i (subst (λ (l : List ℕ). Contains l i) none has))
        by (Some w) h = h.below i has

    new_free : (x : CellSeen) → Contains new x → owner_of c.atoms x.id ≡ Some y.atom.0 → ⊥
    new_free x has owned =
        ⊎_elim
        (λ of_old.
        (let z = one_of_ids old x.id of_old in
        old_free z.0 z.1 (ap (owner_of c.atoms) z.2 ∙ owned)))
        (λ fresh.
        (let lt = below x.id ((k.cells.nodes y some x.id).1 owned) in
        let most = k.cells.super40.blocks.1 in
        let from = fresh.0 in
        let least = drawn.least in
        absurd (omega (arith, lt, most, from, least)))) (numbered x has)

    touched_free : (i : ℕ) → is_touched old new i ≡ true → owner_of c.atoms i ≡ Some y.atom.0 → ⊥
    touched_free i hit owned =
        ⊎_elim
        (λ one. (let x = one_named old i one in old_free x.0 x.1 (ap (owner_of c.atoms) x.2 ∙ owned)))
        (λ two. (let x = one_named new i two in new_free x.0 x.1 (ap (owner_of c.atoms) x.2 ∙ owned)))
        (or_cases (has_name old i) (has_name new i) hit)

    nodes_then : (i : ℕ) → Contains (numbers y.nodes) i ↔ (owner_of atoms i ≡ Some y.atom.0)
    nodes_then i = elim (cases_Bool (is_touched old new i)) [
      | inl hit ↦ (
        λ has. absurd (touched_free i hit ((k.cells.nodes y some i).0 has)),
        λ owned. absurd (other (cc (sym owned ∙ owned_new i hit))),
      )
      | inr miss ↦ (
        λ has. owned_still i miss ∙ (k.cells.nodes y some i).0 has,
        λ owned. (k.cells.nodes y some i).1 (sym (owned_still i miss) ∙ owned),
      )
    ]

    -- a cell of the atom under way was there
    node_was : (i : ℕ) (f : EntrySeen) → Contains (numbers y.nodes) i → buffered buffer i ≡ Some f
        → Untouched c.buffer old new i f
    node_was i f has at =
        ⊎_elim (λ z. absurd (touched_free i (new_touched i f z) ((k.cells.nodes y some i).0 has))) (λ u. u)
        (entries i f at)

    writing_then : (w : CommitSeen) → IsWriting d c.buffer blocks (numbers y.nodes) w
        → IsWriting d buffer blocks (numbers y.nodes) w
    writing_then w h = record {
      fits = h.fits;
      unfinished = h.unfinished;
      within = h.within;
      super40 = h.super40;
      count = h.count;
      base = h.base;
      reads = h.reads;
      apart = λ i p f target at.
          ⊎_elim (λ z. z.dirty) (λ u. u.was.dirty ∙ h.apart i p u.was.entry target u.was.is) (entries i f at);
      below = h.below;
      accepted = λ i f has at.
          (let u = node_was i f has at in
          subst (IsAccepted blocks) (sym u.was.cell) (h.accepted i u.was.entry has u.was.is));
      lands = λ tells i f has at.
          (let u = node_was i f has at in
          ap (λ (x : CellSeen). x.block) u.was.cell ∙ h.lands tells i u.was.entry has u.was.is);
    }

    commit_by : (w : Option CommitSeen) → IsWritingOf d c.buffer blocks (numbers y.nodes) w
        → IsWritingOf d buffer blocks (numbers y.nodes) w
    commit_by None none = none
    commit_by (Some w) h = writing_then w h

  commit_then : FitsCommit d buffer blocks c.commit
  commit_then = by c.commit refl
    where
      by : (o : Option Commit) → c.commit ≡ o → FitsCommit d buffer blocks o
      by None none = tt
      by (Some y) some = commit_by y some y.work (fits y some)

  -- ---- the group

  pub cells_done : (space : Space) → space.block_count ≡ c.space.block_count → (after : CoreSeen D)
      → after ≡ record after {
        turns = turns;
        atoms = atoms;
        buffer = buffer;
        space = space;
        tree = unwrap_or root c.tree;
        numbers = c.numbers;
        volume = c.volume;
        commit = c.commit;
        broken = c.broken;
      } → AreCells d after
  cells_done space count after same =
      let h = k.cells in
      subst (AreCells d) (sym same) (record {
        super40 = h.super40;
        space = count ∙ h.space;
        root = root_name;
        height = root_height;
        root_stands = root_done r d c k s out here old new root is reached numbered sound x g meets buffer cells;
        buffered_names = names_then;
        reached_names = λ q o y has. h.reached_names q o y (on.outs q o has).1;
        owned_names = owned_names_then;
        named = named_done r d c k s out here old new root is reached numbered sound x g meets buffer cells;
        given_cells = λ still q o y. given_there r d c k s out here old new root is reached numbered sound x g meets
            buffer cells turns on spared q o y;
        dirty = dirty_then;
        fresh = fresh_then;
        clean = λ still. readable_done d c.buffer buffer lawful old new root is out.pins cells blocks next
            h.buffered_names h.fresh
            (old_stands r d c k s out here old new root is reached numbered sound x g meets)
            (new_in_place r d c k s out here old new root is reached numbered sound x g meets) (h.clean still);
        nodes = nodes_then;
        commit = commit_then;
      })
