-- A command that may be sent goes out, once there is room, it has its transaction, and its atom fused.
use Rattle.std.proofs.Common.{◌≡◌, ◌∙◌, ℕ, ◌+◌, ◌≤◌, ◌^◌, false, Contains, List, [], ◌∷◌, Option, Some, None}
use Rattle.std.proofs.Common.{ap, arith, length, min, max, refl, subst, sym}
use Rattle.std.specs.Option.{option_map}
use Rattle.std.proofs.lemmas.List.{length-map}
use Rattle.r4_atoms.specs.Atoms.{AtomsSeen, IsAtom, atom_of, is_sealed, owner_of}
use Rattle.r4_atoms.specs.Names.{renamed}
use Rattle.r4_base.specs.declared.things.TaskId.{TaskId}
use Rattle.r4_seal.specs.r4_buffer.Changed.{Standing}
use Rattle.r4_seal.specs.r4_buffer.Seen.{EntrySeen, IsLawful, buffered, cell_at, cells_of, is_captured}
use Rattle.r4_base.specs.Bitmap.{is_fixed}
use Rattle.r4_base.specs.Cell.{cell_fault}
use Rattle.r4_base.specs.Key.{rank}
use Rattle.r4_cell.specs.Patch.{HaveNames, by_name, root_of_pair}
use Rattle.r4_cell.specs.Seen.{CellSeen}
use Rattle.r4_content.specs.Meaning.{makes_object, with_id}
use Rattle.r4_content.specs.declared.command.Command.{Command}
use Rattle.r4_seal.proofs.r4_core.FusingAll.{can_fuse_others}
use Rattle.r4_seal.specs.r4_core.FusingAll.{CanFuseAll}
use Rattle.r4_seal.specs.r4_core.Handing.{CanHandOut, as_task}
use Rattle.r4_seal.specs.r4_core.Rooms.{HasRoomFor}
use Rattle.r4_seal.specs.r4_core.declared.handing.Given.{Given}
use Rattle.r4_seal.specs.r4_core.declared.handing.GoingOut.{GoingOut}
use Rattle.r4_seal.proofs.r4_history.Fusing.{served_behind}
use Rattle.r4_seal.specs.r4_history.Drawn.{GetsNumbers, numbers_of}
use Rattle.r4_seal.specs.r4_history.Held.{AreOwners, IsServed, Need, names_of, need_of}
use Rattle.r4_seal.specs.r4_history.Serving.{AreOthers, FusesAll}
use Rattle.r4_seal.specs.r4_history.Tables.{next_at}
use Rattle.r4_seal.proofs.r4_kept.Unused.{IsLike, same_captured}
use Rattle.r4_seal.specs.r4_kept.Accounts.{cells_owed, claims_owed}
use Rattle.r4_seal.specs.r4_kept.History.{owed, owed_for_commit}
use Rattle.r4_seal.specs.r4_kept.Meaning.{Spares}
use Rattle.r4_seal.specs.r4_kept.TasksOut.{IsGiven}
use Rattle.r4_seal.specs.r4_kept.View.{CoreSeen, blocks_of, tables_of}
use Rattle.r4_seal.specs.r4_kept.declared.parts.Numbers.{Numbers as Next}
use Rattle.r4_locks.specs.Locks.{CanLetIn, LocksSeen, conflict_of}
use Rattle.r4_locks.specs.declared.task_holds.NewTask.{NewTask}
use Rattle.r4_seal.specs.r4_others.Others.{pairs_of}
use Rattle.r4_outside.specs.Device.{State}
use Rattle.r4_seal.specs.r4_patch.Part.{IsPart}
use Rattle.r4_seal.specs.r4_ready.Readiness.{AreGotten, IsOfReach, MayStart, scope_of}
use Rattle.r4_seal.specs.r4_rooms.declared.making.Wanted.{Wanted}
use Rattle.r4_seal.specs.r4_serve.Serving.{need_in}
use Rattle.r4_seal.specs.r4_serve.declared.asked.Ready.{Ready}
use Rattle.r4_seal.proofs.r4_taking.FusedAll.{atoms_fused, others_stay, spare_fused}
use Rattle.r4_seal.specs.r4_taking.Fusing.{HasFusedAll}
use Rattle.r4_seal.specs.r4_taking.GoingOut.{CanGoOut, DrawsNames, IsMet}
use Rattle.r4_take.specs.Drawing.{draws_for}
use Rattle.r4_take.specs.Sending.{HasRoomier, IsGathered, MaySend, cells_of_reach}
use Rattle.r4_take.specs.declared.drawing.Draws.{Draws}
use Rattle.r4_take.specs.declared.gathering.Gathered.{Gathered}
use Rattle.r4_take.specs.declared.gathering.Own.{Own}
use Rattle.r4_take.proofs.Own.{HasTxn, others_then, unsealed_then}
use Rattle.r4_take.proofs.Roomy.{broken_same, cells_same, clear_still, commit_same, dev_same, numbers_same}
use Rattle.r4_take.proofs.Roomy.{owners_same}
use Rattle.r4_take.proofs.Roomy.{states_same, tree_same, turns_same, txns_same, volume_same}
use Rattle.r4_turns.specs.Turns.{IsScript, TurnsSeen, turn_at}
use Rattle.r4_turns.specs.declared.out.Numbers.{Numbers}
use Rattle.r4_turns.specs.declared.out.Out.{Out}

like_itself : (o : Standing) → IsLike o o
like_itself None = tt
like_itself (Some e) = record { cell = refl; dirty = refl }

-- ---- what fusing leaves

none_renamed : (o : Option ℕ) (a b : ℕ) → o ≡ None → option_map (renamed a b) o ≡ None
none_renamed o a b e = ap (option_map (renamed a b)) e

-- a node that nobody owns
still_unowned : (others : List (ℕ × ℕ)) (own : ℕ) (s after : AtomsSeen) → FusesAll s own others after → (n : ℕ)
    → owner_of s n ≡ None → owner_of after n ≡ None
still_unowned [] own s after f n none = ap (λ (x : AtomsSeen). owner_of x n) f ∙ none
still_unowned (p ∷ rest) own s after f n none =
    still_unowned rest (min own p.0) f.0 after f.3 n
    (f.2 n ∙ none_renamed (owner_of s n) (min own p.0) (max own p.0) none)

module _ {D : Type 0} where
  captures_stay : (others : List (ℕ × ℕ)) (own : ℕ) (old new : CoreSeen D) → HasFusedAll old own others new
      → new.atoms.spare ≡ old.atoms.spare
  captures_stay [] own old new f = ap (λ (x : CoreSeen D). x.atoms.spare) f
  captures_stay (p ∷ rest) own old new f = captures_stay rest (min own p.0) f.0 new f.2 ∙ f.1.room

  claims_stay : (others : List (ℕ × ℕ)) (own : ℕ) (old new : CoreSeen D) → HasFusedAll old own others new
      → new.space.spare ≡ old.space.spare
  claims_stay [] own old new f = ap (λ (x : CoreSeen D). x.space.spare) f
  claims_stay (p ∷ rest) own old new f =
      claims_stay rest (min own p.0) f.0 new f.2 ∙ ap (λ (x : CoreSeen D). x.space.spare) f.1.same

-- ---- its numbers

module _ {D : Type 0} (c : CoreSeen D) (s : ℕ) (x : Command) (draws : Draws) where
  gotten_by : (o : Option Numbers) → numbers_of (turn_at c.turns s) ≡ o
      → draws ≡ draws_for o c.numbers (makes_object x) → AreGotten c s draws.own
  gotten_by (Some own) at is = record {
    kept = λ k e.
        ap (λ (z : Draws). z.own) is ∙ (let same : own ≡ k = cc (sym at ∙ e) in same);
    drawn = λ e. absurd (cc (sym at ∙ e));
  }
  gotten_by None at is = record {
    kept = λ k e. absurd (cc (sym at ∙ e));
    drawn = λ e.
        (let first = ap (λ (z : Draws). z.own.fresh.next) is in omega (arith, first));
  }

  gets_by : (t : TurnsSeen) → numbers_of (turn_at t s) ≡ numbers_of (turn_at c.turns s) → (o : Option Numbers)
      → numbers_of (turn_at c.turns s) ≡ o → draws ≡ draws_for o c.numbers (makes_object x)
      → GetsNumbers t s x c.numbers.next_oid draws.next.next_oid draws.own
  gets_by t same (Some own) at is = record {
    kept = λ k e. (
      ap (λ (z : Draws). z.own) is ∙ (let q : own ≡ k = cc (sym at ∙ sym same ∙ e) in q),
      ap (λ (z : Draws). z.next.next_oid) is,
    );
    drawn = λ e. absurd (cc (sym at ∙ sym same ∙ e));
  }
  gets_by t same None at is = record {
    kept = λ k e. absurd (cc (sym at ∙ sym same ∙ e));
    drawn = λ e. (ap (λ (z : Draws). z.next.next_oid) is, λ makes. ap (λ (z : Draws). z.own.oid.0) is);
  }

  draws_by : (t : TurnsSeen) → numbers_of (turn_at t s) ≡ numbers_of (turn_at c.turns s) → 2 ^ 63 ≤ draws.own.fresh.next
      → (o : Option Numbers)
      → numbers_of (turn_at c.turns s) ≡ o → draws ≡ draws_for o c.numbers (makes_object x)
      → DrawsNames t s c.numbers.next_name draws.next.next_name draws.own
  draws_by t same least (Some own) at is = record {
    kept = λ k e. ap (λ (z : Draws). z.next.next_name) is;
    drawn = λ e. absurd (cc (sym at ∙ sym same ∙ e));
  }
  draws_by t same least None at is = record {
    kept = λ k e. absurd (cc (sym at ∙ sym same ∙ e));
    drawn = λ e.
        (let first = ap (λ (z : Draws). z.own.fresh.next) is in
        let last = ap (λ (z : Draws). z.own.fresh.end) is in
        let then = ap (λ (z : Draws). z.next.next_name) is in (
          least,
          omega (arith, first),
          omega (arith, first, last),
          omega (arith, last, then),
        ));
  }

-- ---- from the call on

module _ {D : Type 0} (d : State) (c : CoreSeen D) (s : ℕ) (named : Command) (draws : Draws) (ready : Ready)
    (may : MaySend d c s named draws ready) (own : Own) (g : Gathered) (is : IsGathered c.atoms c.tree own draws ready g)
    (lawful : AreOwners c.atoms) (m : CoreSeen D) (room : HasRoomier c m)
    (has : HasRoomFor g.wanted m) (b : CoreSeen D) (t : HasTxn m b s own) (was : IsLawful c.buffer)
    (now : IsLawful m.buffer) where
  abbrev x : Command
  x = may.command

  starts : MayStart d c (with_id draws.own.oid x) ready
  starts = subst (λ (z : Command). MayStart d c z ready) may.name.is may.start

  abbrev others : List (ℕ × ℕ)
  others = pairs_of g.others.items

  as_many : length others ≡ length g.others.items
  as_many = length-map g.others.items (λ o. (o.atom.0, o.node.0))

  atom_later : (a : ℕ) → IsAtom c.atoms a → IsAtom m.atoms a
  atom_later a at = record {
    begun =
        let many = ap length (txns_same c m room) in
        let some = at.begun.some in
        let within = at.begun.within in
        record { some = some; within = omega (arith, within, many) };
    own = ap (λ l. atom_of (record m.atoms { txns = l }) a) (txns_same c m room) ∙ at.own;
  }

  sealed_same : (a : ℕ) → IsAtom c.atoms a → is_sealed b.atoms a ≡ is_sealed c.atoms a
  sealed_same a at =
      t.sealed a (atom_later a at) ∙ ap (λ l. is_sealed (record m.atoms { atoms = l }) a) (states_same c m room)

  owners_are : (n : ℕ) → owner_of b.atoms n ≡ owner_of c.atoms n
  owners_are n = t.owners n ∙ owners_same c m room n

  pub others_are : AreOthers b.atoms own.atom.0 ready.need others
  others_are =
      others_then c.atoms b.atoms owners_are sealed_same lawful own.atom.0 ready.need others is.others

  sound : b.broken ≡ None
  sound = ap (λ (z : CoreSeen D). z.broken) t.same ∙ broken_same c m room ∙ starts.sound

  commit_is : b.commit ≡ c.commit
  commit_is = ap (λ (z : CoreSeen D). z.commit) t.same ∙ commit_same c m room

  -- room for the entries of fuses, and two
  entries_left : owed b.turns + owed_for_commit b.commit + length others + 2 ≤ b.trace.spare
  entries_left =
      let had = has.entries in
      let wanted = ap (λ (w : Wanted). w.entries) is.wanted in
      let many = as_many in
      let owes = t.owes in
      let spent = t.entries in
      let commit = ap owed_for_commit (ap (λ (z : CoreSeen D). z.commit) t.same) in
      omega (arith, had, wanted, many, owes, spent, commit)

  pub can_fuse : AreOwners b.atoms → CanFuseAll b own.atom.0 others
  can_fuse owners_lawful =
      can_fuse_others b own.atom.0 ready.need others sound owners_lawful t.opened others_are
      (let left = entries_left in omega (arith, left))

  module _ (f : CoreSeen D) (fuses : HasFusedAll b own.atom.0 others f) where
    fused_is : f ≡ record b { atoms = f.atoms; space = f.space; trace = f.trace }
    fused_is = others_stay others own.atom.0 b f fuses

    pub dev_is : f.dev ≡ c.dev
    dev_is = ap (λ (z : CoreSeen D). z.dev) fused_is ∙ ap (λ (z : CoreSeen D). z.dev) t.same ∙ dev_same c m room

    pub turns_are : f.turns ≡ b.turns
    turns_are = ap (λ (z : CoreSeen D). z.turns) fused_is

    script_is : IsScript c.turns s
    script_is = may.servable.stands.is_script

    kept_numbers : numbers_of (turn_at f.turns s) ≡ numbers_of (turn_at c.turns s)
    kept_numbers = ap (λ z. numbers_of (turn_at z s)) turns_are ∙ t.kept
        ∙ ap (λ z. numbers_of (turn_at z s)) (turns_same c m room)

    pub next_is : next_at f.turns s ≡ Some x
    next_is = ap (λ z. next_at z s) turns_are ∙ t.next ∙ ap (λ z. next_at z s) (turns_same c m room)
        ∙ may.servable.stands.next

    tree_is : f.tree ≡ c.tree
    tree_is = ap (λ (z : CoreSeen D). z.tree) fused_is ∙ ap (λ (z : CoreSeen D). z.tree) t.same
        ∙ tree_same c m room

    cells_are : (i : ℕ) → buffered f.buffer i ≡ buffered c.buffer i
    cells_are i =
        ap (λ (z : CoreSeen D). buffered z.buffer i) fused_is ∙ ap (λ (z : CoreSeen D). buffered z.buffer i) t.same
        ∙ cells_same c m room i

    captured_is : (i : ℕ) → is_captured f.buffer i ≡ is_captured c.buffer i
    captured_is i =
        ap (λ (z : CoreSeen D). is_captured z.buffer i) fused_is ∙ ap (λ (z : CoreSeen D). is_captured z.buffer i) t.same
        ∙ same_captured c.buffer m.buffer
        (λ n. subst (IsLike (buffered c.buffer n)) (sym (cells_same c m room n)) (like_itself (buffered c.buffer n)))
        was now i

    blocks_are : blocks_of f ≡ blocks_of c
    blocks_are = ap blocks_of fused_is ∙ ap blocks_of t.same
        ∙ ap (λ v. v.super40.block_count) (volume_same c m room)

    abbrev given : Given
    given = record {
      txn = own.txn;
      reads = ready.reach.reads;
      writes = ready.reach.writes;
      pins = names_of ready.reach.met;
      seen = g.given.seen;
      scope = scope_of c.tree ready.reach;
      numbers = draws.own;
      cells = cells_of_reach ready.reach;
      claims = length ready.reach.writes + 1;
    }

    module _ (task : TaskId) where
      abbrev out : Out
      out = as_task given task

      of_reach : IsOfReach c.tree ready.reach out
      of_reach = record {
        reads = refl;
        writes = refl;
        seen = is.seen;
        scope = refl;
        few = is.few;
        least = is.least;
        most = is.most;
        numbers = is.numbers;
        cells = omega arith;
        claims = omega arith;
      }

      gotten : AreGotten c s draws.own
      gotten = gotten_by c s x draws (numbers_of (turn_at c.turns s)) refl may.name.drawn

      given_is : (y : Command) → next_at f.turns s ≡ Some y → IsGiven f.tree (with_id draws.own.oid y) out
      given_is y at =
          let same : x ≡ y = cc (sym next_is ∙ at) in
          subst (λ z. IsGiven z (with_id draws.own.oid y) out) (sym tree_is)
          (subst (λ (z : Command). IsGiven c.tree (with_id draws.own.oid z) out) same
          (starts.given s script_is out of_reach gotten))

      served : IsServed (tables_of f) s out
      served =
          subst (λ (z : CoreSeen D). IsServed (tables_of z) s out) (sym fused_is)
          (served_behind (tables_of b) s t.within x out others f.atoms
          (record {
            is_script = t.script;
            transaction = t.transaction;
            next = t.next ∙ ap (λ z. next_at z s) (turns_same c m room) ∙ may.servable.stands.next;
          })
          may.servable.work t.txn t.begun
          (subst (λ n. AreOthers b.atoms n (need_of out) others) (sym t.atom)
          (subst (λ n. AreOthers b.atoms own.atom.0 n others) starts.need others_are))
          (subst (λ n. FusesAll b.atoms n others f.atoms) (sym t.atom)
          (atoms_fused others own.atom.0 b f fuses))
          (unsealed_then c.atoms b.atoms owners_are sealed_same lawful (need_in ready.reach) starts.unsealed))

      met_is : (y : CellSeen) → Contains ready.reach.met y → IsMet d f y
      met_is y at =
          let h = starts.met y at in
          record {
            captured = λ yes.
                cell_same y.id ∙ h.captured (sym (captured_is y.id) ∙ yes);
            on_disk = λ no.
                (let disk = h.on_disk (sym (captured_is y.id) ∙ no) in
                record {
                  block = let low = disk.block in let same = blocks_are in omega (arith, low, same);
                  free = ap (λ n. is_fixed n y.id) blocks_are ∙ disk.free;
                  accepted = ap (λ n. cell_fault false n y.level (rank y.lo) (rank y.hi) y.block) blocks_are
                      ∙ disk.accepted;
                  same = disk.same;
                  unowned = still_unowned others own.atom.0 b.atoms f.atoms
                      (atoms_fused others own.atom.0 b f fuses) y.id (owners_are y.id ∙ disk.unowned);
                  spared = subst (Spares y.id)
                      (sym (ap (λ (z : CoreSeen D). z.commit) fused_is ∙ commit_is)) disk.spared;
                });
          }
        where
          cell_same : (i : ℕ) → cell_at f.buffer i ≡ cell_at c.buffer i
          cell_same i = ap (option_map (λ (e : EntrySeen). e.cell)) (cells_are i)

      can_go : CanGoOut d f s out ready.reach.met draws.next
      can_go = record {
        free = ap (λ z. (turn_at z s).out) turns_are ∙ t.out ∙ ap (λ z. (turn_at z s).out) (turns_same c m room)
            ∙ may.servable.free;
        served = served;
        given = given_is;
        gets = λ y at.
            (let same : x ≡ y = cc (sym next_is ∙ at) in
            subst (λ (z : Command). GetsNumbers f.turns s z f.numbers.next_oid draws.next.next_oid draws.own) same
            (subst (λ n. GetsNumbers f.turns s x n draws.next.next_oid draws.own)
            (sym (ap (λ (z : Next). z.next_oid) numbers_are))
            (gets_by c s x draws f.turns kept_numbers (numbers_of (turn_at c.turns s)) refl may.name.drawn)));
        draws = subst (λ n. DrawsNames f.turns s n draws.next.next_name draws.own)
            (sym (ap (λ (z : Next). z.next_name) numbers_are))
            (draws_by c s x draws f.turns kept_numbers is.least (numbers_of (turn_at c.turns s)) refl may.name.drawn);
        met_are = met_is;
        among = starts.among;
        pins = refl;
        entries =
            let left = entries_left in
            let spent = spare_fused others own.atom.0 b f fuses (omega (arith, left)) in
            let turns = ap owed turns_are in
            let commit = ap (λ (z : CoreSeen D). owed_for_commit z.commit) fused_is in
            omega (arith, left, spent, turns, commit);
        captures =
            let had = has.captures in
            let wanted = ap (λ (w : Wanted). w.cells) is.wanted in
            let same = t.cells in
            let turns = ap (λ z. cells_owed z.turns) turns_are in
            let spare = captures_stay others own.atom.0 b f fuses in
            let before = t.room in
            omega (arith, had, wanted, same, turns, spare, before);
        cells =
            let had = has.places in
            let wanted = ap (λ (w : Wanted). w.cells) is.wanted in
            let met = ap (λ (w : Wanted). w.met) is.wanted in
            let same = t.cells in
            let turns = ap (λ z. cells_owed z.turns) turns_are in
            let spare = ap (λ (z : CoreSeen D). z.buffer.spare) fused_is in
            let before = ap (λ (z : CoreSeen D). z.buffer.spare) t.same in
            omega (arith, had, wanted, met, same, turns, spare, before);
        claims =
            let had = has.claims in
            let wanted = ap (λ (w : Wanted). w.claims) is.wanted in
            let same = t.claims in
            let turns = ap (λ z. claims_owed z.turns) turns_are in
            let spare = claims_stay others own.atom.0 b f fuses in
            let before = ap (λ (z : CoreSeen D). z.space.spare) t.same in
            omega (arith, had, wanted, same, turns, spare, before);
      }
        where
          numbers_are : f.numbers ≡ c.numbers
          numbers_are = ap (λ (z : CoreSeen D). z.numbers) fused_is ∙ ap (λ (z : CoreSeen D). z.numbers) t.same
              ∙ numbers_same c m room

    module _ (new : NewTask) (holds : CanLetIn m.locks new g.names) where
      abbrev going : GoingOut
      going = record { new = new; given = g.given; need = g.need; met = g.met; next = draws.next }

      pub can_hand_out : CanHandOut d f s going
      can_hand_out = record {
        sound = ap (λ (z : CoreSeen D). z.broken) fused_is ∙ sound;
        script = subst (λ z. IsScript z s) (sym turns_are) t.script;
        can = λ task.
            subst (λ z. CanGoOut d f s (as_task z task) (cells_of g.met.items) draws.next) (sym is.given)
            (subst (λ l. CanGoOut d f s (as_task given task) l draws.next) (sym is.met) (can_go task));
        names = subst HaveNames (sym is.met) starts.names;
        part = subst (λ l. IsPart (by_name l) (root_of_pair f.tree)) (sym is.met)
            (subst (λ z. IsPart (by_name ready.reach.met) (root_of_pair z)) (sym tree_is) starts.part);
        reads = ap (λ (n : Need). n.reads) (is.need ∙ starts.need)
            ∙ sym (ap (λ (z : Given). names_of z.reads) is.given);
        writes = ap (λ (n : Need). n.writes) (is.need ∙ starts.need)
            ∙ sym (ap (λ (z : Given). names_of z.writes) is.given);
        clear = subst (λ (n : Need). conflict_of f.locks None n.reads n.writes ≡ None)
            (sym (is.need ∙ starts.need))
            (subst (λ (l : LocksSeen). conflict_of l None (need_in ready.reach).reads (need_in ready.reach).writes
            ≡ None) (sym locks_are)
            (clear_still c m room (need_in ready.reach).reads (need_in ready.reach).writes starts.clear));
        room =
            let many = is.names in
            let same = is.need in
            subst (λ (l : LocksSeen). CanLetIn l new (length g.need.reads + length g.need.writes)) (sym locks_are)
            (subst (CanLetIn m.locks new) (names_are) holds);
      }
        where
          locks_are : f.locks ≡ m.locks
          locks_are = ap (λ (z : CoreSeen D). z.locks) fused_is ∙ ap (λ (z : CoreSeen D). z.locks) t.same

          names_are : g.names ≡ length g.need.reads + length g.need.writes
          names_are = is.names ∙ sym (ap (λ (n : Need). length n.reads + length n.writes) is.need)
