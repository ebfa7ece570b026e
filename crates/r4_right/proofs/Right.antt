-- What was built of a task that is out is what its command means, in a run that names its beginning.
use Rattle.std.proofs.Common.{◌≡◌, ◌⊎◌, inl, inr, ℕ, ◌+◌, ◌<◌, ◌≤◌, ◌^◌, List, [], ◌∷◌, ◌++◌, Option, Some, None}
use Rattle.std.proofs.Common.{Contains, refl, sym, ◌∙◌, ap, subst, arith, length, ◌≢◌, true}
use Rattle.std.specs.Arc.{arc_value}
use Rattle.std.proofs.lemmas.Option.{none-some}
use Rattle.std.proofs.lemmas.Bool.{cond-false}
use Rattle.r4_applied.specs.Applying.{CanApply, IsBuiltOver}
use Rattle.r4_applied.specs.r4_build.Built.{IsOfTask, IsTaskOf}
use Rattle.r4_applied.proofs.Over.{born_are, gone_are, reply_is}
use Rattle.r4_applied.proofs.InSession.{applies}
use Rattle.r4_atoms.specs.Atoms.{account_of, atom_of, is_sealed, owner_of}
use Rattle.r4_atoms.specs.declared.things.Account.{Account}
use Rattle.r4_base.specs.Tree.{Node}
use Rattle.r4_base.specs.Value.{Content, Value}
use Rattle.r4_base.specs.declared.things.AtomNo.{AtomNo}
use Rattle.r4_base.specs.declared.things.ScriptNo.{ScriptNo}
use Rattle.r4_base.specs.declared.things.TxnNo.{TxnNo}
use Rattle.r4_applied.specs.r4_build.Built.{BuiltSeen, IsBuildable}
use Rattle.r4_applied.specs.r4_build.declared.task.Task.{Task}
use Rattle.r4_freed.specs.r4_cell.Patch.{by_name, root_of_pair}
use Rattle.r4_freed.specs.r4_cell.Seen.{CellSeen}
use Rattle.r4_freed.specs.r4_cell.declared.change.Fresh.{Fresh}
use Rattle.r4_content.specs.Counts.{born, gone}
use Rattle.r4_content.specs.Edited.{Pairs}
use Rattle.r4_content.specs.Fields.{HasBytePaths, NamesUnused}
use Rattle.r4_content.specs.Held.{pairs_of}
use Rattle.r4_content.specs.Lawful.{RoomFor}
use Rattle.r4_content.specs.Locality.{commands}
use Rattle.r4_content.specs.Meaning.{greatest_size, reply}
use Rattle.r4_content.specs.declared.command.Command.{Command}
use Rattle.r4_content.proofs.VolumeWidths.{volume_room}
use Rattle.r4_freed.specs.r4_done.Done.{CanBeDone}
use Rattle.r4_freed.proofs.r4_done.Beginning.{begins_at}
use Rattle.r4_freed.specs.r4_done.Right.{IsRight, session_done}
use Rattle.r4_freed.proofs.r4_done.DoneMeaning.{touches_is}
use Rattle.r4_freed.proofs.r4_done.DoneRun.{owns_done, run_done}
use Rattle.r4_freed.proofs.r4_done.DoneTables.{is_touched}
use Rattle.r4_freed.proofs.r4_done.DoneTasks.{AreNumbered}
use Rattle.r4_freed.proofs.r4_done.Named.{node_of_need}
use Rattle.r4_freed.specs.r4_durable.Meaning.{Beginning, IsNamed, first_id, start_of}
use Rattle.r4_freed.specs.r4_durable.Sealing.{start_in}
use Rattle.r4_freed.proofs.r4_durable.Opened.{settled_at}
use Rattle.r4_freed.specs.r4_flushed.Flushed.{OwnsBlocks}
use Rattle.r4_freed.proofs.r4_flushed.FlushedCells.{FitsOnDisk}
use Rattle.r4_freed.specs.Freed.{HasFreed}
use Rattle.r4_freed.proofs.DeferredThen.{follows}
use Rattle.r4_freed.proofs.UsedCells.{StandOnUsed, stand_on_used}
use Rattle.r4_freed.specs.r4_history.Drawn.{numbers_in, numbers_of}
use Rattle.r4_freed.specs.r4_history.Held.{IsServed}
use Rattle.r4_freed.specs.r4_history.Tables.{asked}
use Rattle.r4_freed.proofs.r4_history.DrawnSteps.{drawn_for}
use Rattle.r4_freed.proofs.r4_history.RunSteps.{commit_is, open_in_both}
use Rattle.r4_freed.proofs.r4_history.Told.{unsealed_is}
use Rattle.r4_freed.specs.r4_kept.Kept.{IsKept}
use Rattle.r4_freed.specs.r4_kept.Meaning.{HasMeaning, IsAt, if_open}
use Rattle.r4_freed.specs.r4_kept.Naming.{Naming, job_named, names_in}
use Rattle.r4_freed.specs.r4_kept.TasksOut.{IsGiven, WereDrawn}
use Rattle.r4_freed.specs.r4_kept.View.{CoreSeen, committing, tables_of}
use Rattle.r4_freed.specs.r4_kept.declared.parts.Commit.{Commit}
use Rattle.r4_outside.specs.Device.{State}
use Rattle.r4_applied.specs.r4_patch.Joining.{ids_of, patch_of_change}
use Rattle.r4_applied.specs.r4_path.Steps.{IsFree}
use Rattle.r4_applied.specs.r4_sets.Change.{Applies, IsFree as IsFreeFor}
use Rattle.r4_applied.specs.r4_sets.Session.{IsTreeOf, Session, all_done}
use Rattle.r4_applied.proofs.r4_sets.Applied.{memory_stands}
use Rattle.r4_applied.specs.r4_sets_told.Runs.{IsLawfulRun, dones_in}
use Rattle.r4_applied.proofs.r4_sets_told.Counted.{Good, good, names_unused}
use Rattle.r4_freed.proofs.r4_taking.Fused.{sealed_differs}
use Rattle.r4_applied.specs.r4_trace.Folds.{content_of, everything}
use Rattle.r4_applied.specs.r4_trace.Ids.{IsNewId, Start, id_of}
use Rattle.r4_applied.specs.r4_trace.Traced.{IsSealed, atom_in}
use Rattle.r4_applied.specs.r4_trace.declared.entry.Entry.{Entry}
use Rattle.r4_applied.specs.r4_trace.declared.entry.Entry.TheVariants.{Done}
use Rattle.r4_freed.specs.r4_turns.Turns.{answered_at, turn_at}
use Rattle.r4_freed.specs.r4_turns.declared.out.Out.{Out}
use Rattle.r4_freed.specs.r4_turns.declared.out.Scope.{Scope}
use Rattle.r4_freed.specs.r4_turns.declared.turn.Open.{Open}
use Rattle.r4_right.specs.Built.{IsBuiltOf}

small : greatest_size < 2 ^ 64
small = omega arith

few_dones : (trace : List Entry) → dones_in trace ≤ length trace
few_dones [] = omega arith
few_dones (Done t q i x y ∷ older) = let less = few_dones older in omega (arith, less)
few_dones (e ∷ older) = let less = few_dones older in omega (arith, less)

-- ---- the task

-- a task with what this one was given
abbrev given_task : Task → Out → Command → Task
given_task task out x = record task {
  command = x;
  reads = out.reads;
  writes = out.writes;
  fresh = out.numbers.fresh;
  scope = out.scope;
}

is_given : (out : Out) (x : Command) (y : BuiltSeen) → IsBuiltOf out x y → y.task ≡ given_task y.task out x
is_given out x y h =
    ap (λ (q : Command). record y.task { command = q }) h.command
    ∙ ap (λ (l : List CellSeen). record y.task { command = x; reads = l }) h.reads
    ∙ ap (λ (l : List CellSeen). record y.task { command = x; reads = out.reads; writes = l }) h.writes
    ∙ ap (λ (f : Fresh). record y.task { command = x; reads = out.reads; writes = out.writes; fresh = f }) h.fresh
    ∙ ap (λ (z : Scope). record y.task { command = x; reads = out.reads; writes = out.writes; fresh = out.numbers.fresh; scope = z })
    h.scope

-- ---- a core

module _ {D : Type 0} (r : Naming) (d : State) (c : CoreSeen D) (k : IsKept r d c) (s : ScriptNo) (within : Open)
    (out : Out) (x : Command) (a : AtomNo) (can : CanBeDone c s within out x a) (y : BuiltSeen)
    (of_it : IsBuiltOf out x y) where
  abbrev trace : List Entry
  trace = c.trace.entries

  -- what its task was given
  g : IsGiven c.tree x out
  g =
      subst (λ (q : Command). IsGiven c.tree q out) (sym can.made)
      (k.tasks.given s.0 out can.command can.out_is can.stands.next)

  seen : g.reach.seen ≡ pairs_of (arc_value y.task.seen)
  seen = g.seen ∙ sym of_it.seen

  task_is : IsTaskOf g.root g.met g.rises y.task
  task_is = subst (IsTaskOf g.root g.met g.rises) (sym (is_given out x y of_it)) (record {
    reach = g.reach;
    seen = seen;
    kind = g.kind;
    can = subst (λ (z : Pairs). IsBuildable x z out.scope (by_name g.met) (root_of_pair g.root) out.numbers.fresh
        out.writes) seen g.can;
  })

  served : IsServed (tables_of c) s.0 out
  served = k.tables.tasks.served s.0 out can.out_is

  -- its transaction is of the atom, in the tables and in the trace
  own_out : atom_of c.atoms out.txn.0 ≡ a.0
  own_out =
      let same : served.within ≡ within = cc (sym served.transaction ∙ can.stands.transaction) in
      ap (λ (t : TxnNo). atom_of c.atoms t.0) (sym served.txn ∙ ap (λ (o : Open). o.txn) same) ∙ can.own

  own_in : atom_in trace within.txn.0 ≡ a.0
  own_in =
      let is_open = open_in_both (commands greatest_size) None d.clock (tables_of c) trace (k.history.told None tt) s.0
      within can.out_is.is_script can.stands.transaction in
      sym ((k.history.told None tt).atoms.atom within.txn.0 is_open.0) ∙ can.own

  own_numbers : numbers_of (turn_at c.turns s.0) ≡ Some out.numbers
  own_numbers = ap (λ (o : Option Out). numbers_in o (turn_at c.turns s.0).numbers) can.out_is.is_out

  drawn : WereDrawn c.numbers.next_name out.numbers
  drawn = k.tasks.drawn s.0 out.numbers can.out_is.is_script own_numbers

  blocks_small : c.space.block_count ≤ 2 ^ 63
  blocks_small =
      let same = k.cells.space in
      let most = k.cells.super40.blocks.1 in
      omega (arith, same, most)

  module _ (disk : FitsOnDisk) (b : Beginning) (named : IsNamed (names_in r) d.blocks b)
      (paths : HasBytePaths x) (few : length trace + 2 ≤ 2 ^ 63) where
    abbrev m : HasMeaning b (job_named r.scripts) d c (k.story b named).story
    m = (k.story b named).means

    abbrev was : Session
    was = (k.story b named).story.session

    abbrev all : Content
    all = all_done (commands greatest_size) was

    tree : IsTreeOf was.memory was.root all
    tree = (memory_stands (commands greatest_size) was m.session.sets).is

    -- ---- the numbers

    none_owned : (i : ℕ) → out.numbers.fresh.next ≤ i → i < out.numbers.fresh.end → was.owner i ≡ None
    none_owned i from to =
        m.owner i ∙ ap (if_open c.atoms)
        (k.tasks.unowned s.0 i out.numbers can.out_is.is_script own_numbers from to)

    on_used : StandOnUsed was c.space
    on_used =
        stand_on_used disk b (job_named r.scripts) was c.space c.volume d (k.story b named).story.flush c.commit
        (subst (λ (o : Option ℕ). IsAt b (job_named r.scripts) was c.space c.volume d
        (k.story b named).story.flush o c.commit) can.sound m.at)

    -- no cell has one: it would be owned, or stand on a block
    none_there : (i : ℕ) → out.numbers.fresh.next ≤ i → i < out.numbers.fresh.end → was.memory i ≡ None
    none_there i from to = by (was.memory i) refl
      where
        by : (o : Option (Node Value)) → was.memory i ≡ o → was.memory i ≡ None
        by None at = at
        by (Some n) at =
            let used = on_used i n (sym (m.session.sets.clean i (none_owned i from to)) ∙ at) in
            let below = used.below in
            let least = drawn.least in
            absurd (omega (arith, below, blocks_small, least, from))

    free : IsFree out.numbers.fresh.next out.numbers.fresh.end was.memory
    free = record {
      cells = none_there;
      names = λ i from to (n, (j, z, at, has), same).
          (let (t, there, fits) = tree.tree.named j z n at has in
          none-some t
          (sym (none_there i from to) ∙ subst (λ (q : ℕ). was.memory q ≡ Some t) same there));
    }

    -- ---- what is known of the command

    abbrev start : Start
    start = start_in was (first_id b)

    good_all : Good greatest_size small start (job_named r.scripts) everything was.trace all
    good_all =
        let run = m.session.run in
        good greatest_size small start (job_named r.scripts) everything was.trace run.lawful run.room run.paths run.ids

    room : RoomFor (dones_in trace + 1 + 1) b.content
    room o has stat is =
        let lt = volume_room b.blocks (settled_at b) b.content b.volume.content (2 ^ 63) (omega arith) o has stat is in
        let dones = few_dones trace in
        omega (arith, lt, dones, few)

    new_id : (n : ℕ) → id_of x ≡ Some n → IsNewId (Some (start_of b)) (Some (asked c.turns.job)) trace n
    new_id =
        drawn_for k.history.first c.turns c.numbers.next_oid trace k.history.drawn (Some (start_of b)) s.0 can.command x
        out (begins_at r d c k (Some b) named) can.out_is.is_script can.stands.next can.out_is.is_out can.made

    abbrev index : ℕ
    index = answered_at c.turns s.0 + 1

    run_then : IsLawfulRun greatest_size
        (start_in (session_done was within.txn s index x (patch_of_change y.change)) (first_id b)) (job_named r.scripts)
        (session_done was within.txn s index x (patch_of_change y.change)).trace
    run_then = run_done r d c k b named within.txn s index x (patch_of_change y.change) paths room new_id

    unused : NamesUnused all x
    unused =
        names_unused greatest_size small start (job_named r.scripts) everything was.trace all x run_then.ids.0
        good_all.known

    -- ---- it is done in the session

    own_then : atom_in was.trace within.txn.0 ≡ a.0
    own_then = ap (λ (l : List Entry). atom_in l within.txn.0) m.trace ∙ own_in

    of_out : (z : CellSeen) → IsOfTask y.task z → Contains (out.reads ++ out.writes) z
    of_out z has = subst (λ (t : Task). IsOfTask t z) (is_given out x y of_it) has

    owned_or_free : (z : CellSeen) → IsOfTask y.task z → IsFreeFor was (atom_in was.trace within.txn.0) z.id
    owned_or_free z has = by (owner_of c.atoms z.id) refl
      where
        by : (o : Option ℕ) → owner_of c.atoms z.id ≡ o → IsFreeFor was (atom_in was.trace within.txn.0) z.id
        by None at = inl (m.owner z.id ∙ ap (if_open c.atoms) at)
        by (Some n) at =
            let mine : n ≡ a.0 = served.owners z.id n (node_of_need out z (of_out z has)) at ∙ own_out in
            inr (m.owner z.id ∙ ap (if_open c.atoms) (at ∙ ap (λ (q : ℕ). Some q) mine)
            ∙ cond-false (is_sealed c.atoms a.0) None (Some a.0) can.opened.unsealed
            ∙ ap (λ (q : ℕ). Some q) (sym own_then))

    over : IsBuiltOver y was.memory was.root all
    over = record {
      built = of_it.built;
      pair = g.root;
      met = g.met;
      rises = g.rises;
      task = task_is;
      there = record {
        stand = λ z has. m.reach s.0 out z can.out_is (of_out z has);
        free = subst (λ (f : Fresh). IsFree f.next f.end was.memory) (sym of_it.fresh) free;
        top = λ z has same. m.root ∙ ap root_of_pair (sym (g.top z (of_out z has) same));
      };
      tree = tree;
      lawful = good_all.lawful;
      paths = subst HasBytePaths (sym of_it.command) paths;
      unused = subst (NamesUnused all) (sym of_it.command) unused;
    }

    can_apply : CanApply y was within.txn.0
    can_apply = record {
      over = over;
      unsealed = λ sealed.
          (unsealed_is (commands greatest_size) None d.clock (tables_of c) trace (k.history.told None tt) a.0
          can.opened).unsealed
          (subst (λ (l : List Entry). IsSealed l a.0) m.trace (subst (IsSealed was.trace) own_then sealed));
      own = owned_or_free;
      fresh = subst (λ (f : Fresh). (i : ℕ) → f.next ≤ i → i < f.end → was.owner i ≡ None) (sym of_it.fresh)
          none_owned;
    }

    applies_then : Applies (commands greatest_size) was within.txn.0 x (patch_of_change y.change)
    applies_then =
        subst (λ (q : Command). Applies (commands greatest_size) was within.txn.0 q (patch_of_change y.change))
        of_it.command (applies y was within.txn.0 can_apply)

    -- ---- blocks

    has_old : (i : ℕ) (n : Node Value) → by_name y.change.old i ≡ Some n → was.memory i ≡ Some n
    has_old = applies_then.does.meets.has_old

    numbered : AreNumbered y.change.old y.change.new out.numbers
    numbered z has = subst (λ (f : Fresh). Contains (ids_of y.change.old) z.id ⊎ ((f.next ≤ z.id) × (z.id < f.end)))
        of_it.fresh (of_it.built.new z has)

    owns_then : OwnsBlocks (session_done was within.txn s index x (patch_of_change y.change))
    owns_then =
        owns_done was m.session.sets m.session.owns y.change.old y.change.new y.change.root of_it.built.change has_old
        out.numbers drawn.least numbered within.txn s index x

    touched_free : (i : ℕ) → is_touched y.change.old y.change.new i ≡ true
        → IsFreeFor was (atom_in was.trace within.txn.0) i
    touched_free i hit =
        applies_then.own i
        (touches_is y.change.old y.change.new y.change.root of_it.built.change was.memory i ∙ hit)

    -- the atom of a commit is sealed
    not_committing : (w : Commit) → c.commit ≡ Some w → w.atom.0 ≢ a.0
    not_committing w is =
        sealed_differs c.atoms w.atom.0 a.0
        (commit_is (commands greatest_size) None d.clock (tables_of c) trace (k.history.told None tt) w.atom.0
        (ap committing is)).1 can.opened.unsealed

    -- ---- objects

    made_here : y.objects.born
        ≡ born greatest_size x (content_of (commands greatest_size) b.content everything trace)
    made_here =
        born_are y was.memory was.root all over
        ∙ ap (λ (q : Command). born greatest_size q all) of_it.command
        ∙ ap (λ (z : Content). born greatest_size x (content_of (commands greatest_size) z everything was.trace))
        m.session.start
        ∙ ap (λ (l : List Entry). born greatest_size x (content_of (commands greatest_size) b.content everything l))
        m.trace

    took_here : y.objects.gone
        ≡ gone greatest_size x (content_of (commands greatest_size) b.content everything trace)
    took_here =
        gone_are y was.memory was.root all over
        ∙ ap (λ (q : Command). gone greatest_size q all) of_it.command
        ∙ ap (λ (z : Content). gone greatest_size x (content_of (commands greatest_size) z everything was.trace))
        m.session.start
        ∙ ap (λ (l : List Entry). gone greatest_size x (content_of (commands greatest_size) b.content everything l))
        m.trace

    pub right : (new : CoreSeen D) (account : Account)
        → HasFreed c.space new.space a account.cells account.fresh y.change.old y.change.new
        → account.born ≡ (account_of c.atoms a.0).born + y.objects.born
        → account.gone ≡ (account_of c.atoms a.0).gone + y.objects.gone
        → IsRight r d c new k s within.txn x y.reply y.change a account b named
    right new account freed born_now gone_now = record {
      built = record {
        applies = applies_then;
        reply_is = reply_is y was.memory was.root all over ∙ ap (λ (q : Command). reply greatest_size q all) of_it.command;
        run = run_then;
        owns = owns_then;
        follows = follows was m.session.sets m.session.owns y.change.old y.change.new y.change.root of_it.built.change
            has_old out.numbers drawn.least numbered within.txn s index x touched_free none_owned c.space new.space a
            own_then account.cells account.fresh freed blocks_small on_used c.commit not_committing;
      };
      made = born_now ∙ ap (λ (n : ℕ). (account_of c.atoms a.0).born + n) made_here;
      took = gone_now ∙ ap (λ (n : ℕ). (account_of c.atoms a.0).gone + n) took_here;
    }
