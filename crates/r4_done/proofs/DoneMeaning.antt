-- A task is done: what the cells mean then, and what a crash leaves.
use Rattle.std.proofs.Common.{◌≡◌, ◌≢◌, ⊎_elim, ℕ, ◌+◌, ◌==◌, ◌||◌, Bool, true, false, cond, List, [], ◌∷◌, ◌++◌}
use Rattle.std.proofs.Common.{Option, Some, None, Contains, inl, inr, option_map, refl, sym, ◌∙◌, ap, subst, arith}
use Rattle.std.specs.Prelude.{IsSome, is_some}
use Rattle.std.specs.Option.{unwrap_or}
use Rattle.std.proofs.lemmas.Bool.{cases_Bool, cases_eq, cond-false, cond-true, eq-eqb, ne_eqb}
use Rattle.r4_atoms.specs.Atoms.{AtomsSeen, IsOpenAtom, account_of, is_sealed, owner_of}
use Rattle.r4_atoms.specs.declared.things.Account.{Account}
use Rattle.r4_base.specs.Tree.{Node, Store}
use Rattle.r4_base.specs.Value.{Value}
use Rattle.r4_base.specs.declared.things.AtomNo.{AtomNo}
use Rattle.r4_base.specs.declared.things.ScriptNo.{ScriptNo}
use Rattle.r4_base.specs.declared.things.TxnNo.{TxnNo}
use Rattle.r4_taking.specs.r4_buffer.Changed.{has_name, in_turn, replaced, unused}
use Rattle.r4_taking.specs.r4_buffer.Seen.{BufferSeen, EntrySeen, buffered, is_dirty_by}
use Rattle.r4_taking.specs.r4_cell.Patch.{HaveNames, IsChange, Patch, by_name, over, patch_of, place, root_of_pair}
use Rattle.r4_taking.specs.r4_cell.Seen.{CellSeen, node_of}
use Rattle.r4_taking.specs.r4_cell.declared.change.Root.{Root as RootPair}
use Rattle.r4_content.specs.Counts.{born, gone}
use Rattle.r4_content.specs.Locality.{commands}
use Rattle.r4_content.specs.Meaning.{greatest_size}
use Rattle.r4_content.specs.declared.command.Command.{Command}
use Rattle.r4_content.specs.declared.reply.Reply.{Reply}
use Rattle.r4_content.proofs.CourseLaws.{local}
use Rattle.r4_taking.specs.r4_durable.GoingOn.{GoesOn}
use Rattle.r4_taking.specs.r4_durable.Kept.{IsSession}
use Rattle.r4_taking.specs.r4_durable.Meaning.{Beginning, IsNamed, means}
use Rattle.r4_taking.specs.r4_history.Held.{IsOut, need_of, nodes_of}
use Rattle.r4_outside.specs.Device.{State, TellsCrashes}
use Rattle.r4_counted.proofs.r4_patch.Members.{distinct, there}
use Rattle.r4_taking.specs.r4_sets.Change.{touches}
use Rattle.r4_taking.specs.r4_sets.Session.{Session, all_done}
use Rattle.r4_taking.proofs.r4_sets.Applied.{applied_sets}
use Rattle.r4_taking.specs.r4_sets_told.Runs.{born_in, gone_in}
use Rattle.r4_taking.specs.r4_space.Space.{Space}
use Rattle.r4_taking.specs.r4_trace.Folds.{content_of, everything}
use Rattle.r4_taking.specs.r4_trace.Order.{IsOrdered}
use Rattle.r4_taking.specs.r4_trace.Traced.{atom_in}
use Rattle.r4_taking.specs.r4_trace.declared.entry.Entry.{Entry}
use Rattle.r4_taking.specs.r4_trace.declared.entry.Entry.TheVariants.{Done}
use Rattle.r4_taking.proofs.r4_trace.Safely.{safe_push}
use Rattle.r4_taking.specs.r4_turns.Turns.{TurnsSeen}
use Rattle.r4_taking.specs.r4_turns.declared.out.Out.{Out}
use Rattle.r4_taking.specs.r4_kept.Durable.{IsDurable}
use Rattle.r4_taking.specs.r4_kept.Kept.{HasStory, IsKept}
use Rattle.r4_taking.specs.r4_kept.Meaning.{HasMeaning, if_open}
use Rattle.r4_taking.specs.r4_kept.Naming.{Naming, job_named, names_in}
use Rattle.r4_taking.specs.r4_kept.Steps.{with_entry}
use Rattle.r4_taking.specs.r4_kept.Story.{Story}
use Rattle.r4_taking.specs.r4_kept.View.{CoreSeen, root_seen}
use Rattle.r4_taking.proofs.Going.{at_over}
use Rattle.r4_done.specs.Doing.{HasCaptured}
use Rattle.r4_done.proofs.DoneTables.{is_touched}
pub use Rattle.r4_done.specs.Right.{IsBuiltFor, session_done}
use Rattle.r4_done.proofs.Dropped.{TurnsDrop}
use Rattle.r4_done.proofs.Named.{node_of_need, not_found, one_named}
use Rattle.r4_done.proofs.Replaced.{dirty_then, entries_then, none_before}

-- ---- cells by their names

some_named : (cells : List CellSeen) → HaveNames cells → (i : ℕ) → is_some (by_name cells i) ≡ has_name cells i
some_named cells names i = elim (cases_Bool (has_name cells i)) [
  | inl here ↦
      let (x, has, named) = one_named cells i here in
      ap is_some (subst (λ (j : ℕ). by_name cells j ≡ Some (node_of x)) named
      (there cells x (distinct cells names) has))
      ∙ sym here
  | inr not ↦ ap is_some (not_found cells i not) ∙ sym not
]

module _ (old new : List CellSeen) (root : Option RootPair) (is : IsChange old new root) (memory : Store Value) where
  abbrev p : Patch Value
  p = patch_of old new root

  pub touches_is : (i : ℕ) → touches p i ≡ is_touched old new i
  touches_is i =
      ap (λ (t : Bool). t || is_some (by_name new i)) (some_named old is.old_names i)
      ∙ ap (λ (t : Bool). has_name old i || t) (some_named new is.new_names i)

  -- what stands under a name then
  pub stays : (i : ℕ) → has_name new i ≡ false → has_name old i ≡ false → place p memory i ≡ memory i
  stays i not_new not_old =
      ap (λ (n : Option (Node Value)). over n (by_name old i) (memory i)) (not_found new i not_new)
      ∙ ap (λ (o : Option (Node Value)). over None o (memory i)) (not_found old i not_old)

  pub comes : (x : CellSeen) → Contains new x → place p memory x.id ≡ Some (node_of x)
  comes x has =
      ap (λ (n : Option (Node Value)). over n (by_name old x.id) (memory x.id))
      (there new x (distinct new is.new_names) has)

  pub goes_away : (i : ℕ) → has_name new i ≡ false → has_name old i ≡ true → place p memory i ≡ None
  goes_away i not_new gone =
      let (x, has, named) = one_named old i gone in
      ap (λ (n : Option (Node Value)). over n (by_name old i) (memory i)) (not_found new i not_new)
      ∙ ap (λ (o : Option (Node Value)). over None o (memory i))
      (subst (λ (j : ℕ). by_name old j ≡ Some (node_of x)) named (there old x (distinct old is.old_names) has))

-- ---- a core

module _ {D : Type 0} (r : Naming) (d : State) (c : CoreSeen D) (k : IsKept r d c) (s : ScriptNo) (out : Out)
    (old new : List CellSeen) (root : Option RootPair) (is : IsChange old new root) (turns : TurnsSeen)
    (on : TurnsDrop c.turns turns s.0 out) (u : TxnNo) (index : ℕ) (x : Command) (reply : Reply) (a : AtomNo)
    (opened : IsOpenAtom c.atoms a.0) (own : atom_in c.trace.entries u.0 ≡ a.0) (account : Account) (atoms : AtomsSeen)
    (captured : HasCaptured c.atoms atoms a.0 (is_touched old new) account out.cells)
    (seals : (n : ℕ) → is_sealed atoms n ≡ is_sealed c.atoms n) (buffer : BufferSeen)
    (cells : (i : ℕ) → buffered buffer i ≡ in_turn unused out.pins i (replaced old new i (buffered c.buffer i)))
    (spared : (q : ℕ) (o : Out) → q ≢ s.0 → IsOut c.turns q o → (node : ℕ) → Contains (nodes_of (need_of o)) node
    → is_touched old new node ≡ false)
    (space : Space) (legal : IsOrdered (Done u s index x reply ∷ c.trace.entries)) (b : Beginning)
    (named : IsNamed (names_in r) d.blocks b)
    (built : IsBuiltFor b (job_named r.scripts) c.commit (k.story b named).story.session u s index x reply
    (patch_of old new root) c.space space)
    (made : account.born ≡ (account_of c.atoms a.0).born
    + born greatest_size x (content_of (commands greatest_size) b.content everything c.trace.entries))
    (took : account.gone ≡ (account_of c.atoms a.0).gone
    + gone greatest_size x (content_of (commands greatest_size) b.content everything c.trace.entries)) where
  abbrev trace : List Entry
  trace = c.trace.entries

  abbrev e : Entry
  e = Done u s index x reply

  abbrev h : HasStory r b d c
  h = k.story b named

  abbrev m : HasMeaning b (job_named r.scripts) d c h.story
  m = h.means

  abbrev was : Session
  was = h.story.session

  abbrev change : Patch Value
  change = patch_of old new root

  abbrev now : Session
  now = session_done was u s index x change

  pub story_done : Story
  story_done = record { session = now; flush = h.story.flush }

  session_then : IsSession greatest_size b (job_named r.scripts) now
  session_then = record {
    start = m.session.start;
    sets = applied_sets (commands greatest_size) (local greatest_size) was m.session.sets u s index x change
        built.applies;
    run = built.run;
    owns = built.owns;
  }

  trace_then : now.trace ≡ e ∷ trace
  trace_then =
      ap (λ (y : Reply). Done u s index x y ∷ was.trace) (sym built.reply_is)
      ∙ ap (λ (l : List Entry). e ∷ l) m.trace

  goes : GoesOn was now (Done u s index x
      ((commands greatest_size).reply x (all_done (commands greatest_size) was)) ∷ [])
  goes = record {
    start = refl;
    trace = refl;
    base = refl;
    under = refl;
    legal = subst IsOrdered (sym trace_then) legal;
    none = (tt, tt);
  }

  -- ---- owners

  owner_same : (o : Option ℕ) → if_open atoms o ≡ if_open c.atoms o
  owner_same None = refl
  owner_same (Some n) = ap (λ (t : Bool). cond t None (Some n)) (seals n)

  owner_then : (i : ℕ) → now.owner i ≡ if_open atoms (owner_of atoms i)
  owner_then i =
      ap (λ (t : Bool). cond t (Some (atom_in was.trace u.0)) (was.owner i)) (touches_is old new root is was.memory i)
      ∙ elim (cases_Bool (is_touched old new i)) [
        | inl hit ↦
            let mine : owner_of atoms i ≡ Some a.0 =
            captured.owners i ∙ cond-true (is_touched old new i) (Some a.0) (owner_of c.atoms i) hit in
            cond-true (is_touched old new i) (Some (atom_in was.trace u.0)) (was.owner i) hit
            ∙ ap (λ (l : List Entry). Some (atom_in l u.0)) m.trace ∙ ap (λ (n : ℕ). Some n) own
            ∙ sym (cond-false (is_sealed atoms a.0) None (Some a.0) (seals a.0 ∙ opened.unsealed))
            ∙ sym (ap (if_open atoms) mine)
        | inr miss ↦
            cond-false (is_touched old new i) (Some (atom_in was.trace u.0)) (was.owner i) miss ∙ m.owner i
            ∙ sym (owner_same (owner_of c.atoms i))
            ∙ ap (if_open atoms) (sym (captured.owners i
            ∙ cond-false (is_touched old new i) (Some a.0) (owner_of c.atoms i) miss))
      ]

  -- ---- cells

  root_then : now.root ≡ root_seen (unwrap_or root c.tree)
  root_then = by root
    where
      by : (o : Option RootPair)
          → unwrap_or (option_map root_of_pair o) was.root ≡ root_seen (unwrap_or o c.tree)
      by None = m.root
      by (Some y) = refl

  cells_then : (i : ℕ) (f : EntrySeen) → buffered buffer i ≡ Some f → now.memory i ≡ Some (node_of f.cell)
  cells_then i f at =
      ⊎_elim
      (λ y.
      subst (λ (j : ℕ). now.memory j ≡ Some (node_of f.cell)) y.named (comes old new root is was.memory f.cell y.there))
      (λ z.
      stays old new root is was.memory i z.not_new z.not_old ∙ m.cells i z.was.entry z.was.is
      ∙ ap (λ (y : CellSeen). Some (node_of y)) (sym z.was.cell))
      (entries_then c.buffer buffer old new out.pins cells i f at)

  dirty : (i : ℕ) → is_dirty_by (buffered buffer i)
      ≡ cond (has_name new i) true (cond (has_name old i) false (is_dirty_by (buffered c.buffer i)))
  dirty = dirty_then c.buffer buffer old new out.pins cells

  -- a new cell, or one that the change does not touch
  memory_cases : (P : Type 0) (i : ℕ) (n : Node Value) → now.memory i ≡ Some n
      → (has_name new i ≡ true → P) → (has_name new i ≡ false → has_name old i ≡ false → was.memory i ≡ Some n → P) → P
  memory_cases P i n at one two = elim (cases_Bool (has_name new i)) [
    | inl here ↦ one here
    | inr not ↦ elim (cases_Bool (has_name old i)) [
      | inl gone ↦ absurd (cc (sym (goes_away old new root is was.memory i not gone) ∙ at))
      | inr kept ↦ two not kept (sym (stays old new root is was.memory i not kept) ∙ at)
    ]
  ]

  dirty_new : (i : ℕ) → has_name new i ≡ true → is_dirty_by (buffered buffer i) ≡ true
  dirty_new i here =
      dirty i ∙ cond-true (has_name new i) true (cond (has_name old i) false (is_dirty_by (buffered c.buffer i))) here

  owned_then : (i : ℕ) (n : Node Value) → IsSome (owner_of atoms i) → now.memory i ≡ Some n
      → is_dirty_by (buffered buffer i) ≡ true
  owned_then i n some at =
      memory_cases (is_dirty_by (buffered buffer i) ≡ true) i n at (dirty_new i)
      (λ not kept had.
      (let miss : is_touched old new i ≡ false = rw (kept, not) refl in
      let same = captured.owners i ∙ cond-false (is_touched old new i) (Some a.0) (owner_of c.atoms i) miss in
      dirty i ∙ cond-false (has_name new i) true (cond (has_name old i) false (is_dirty_by (buffered c.buffer i))) not
      ∙ cond-false (has_name old i) false (is_dirty_by (buffered c.buffer i)) kept
      ∙ m.owned i n (subst IsSome same some) had))

  reach_then : (q : ℕ) (o : Out) (y : CellSeen) → IsOut turns q o → Contains (o.reads ++ o.writes) y
      → now.memory y.id ≡ Some (node_of y)
  reach_then q o y has there_y =
      let (other, before) = on.outs q o has in
      let miss = spared q o other before y.id (node_of_need o y there_y) in
      let not_old : has_name old y.id ≡ false = first_false (has_name old y.id) (has_name new y.id) miss in
      let not_new : has_name new y.id ≡ false = last_false (has_name old y.id) (has_name new y.id) miss in
      stays old new root is was.memory y.id not_new not_old ∙ m.reach q o y before there_y
    where
      first_false : (f g : Bool) → (f || g) ≡ false → f ≡ false
      first_false false g z = refl
      first_false true g z = z

      last_false : (f g : Bool) → (f || g) ≡ false → g ≡ false
      last_false false g z = z
      last_false true g z = absurd (cc z)

  -- ---- objects

  born_then : (n : ℕ) → IsOpenAtom atoms n → (account_of atoms n).born
      ≡ born_in greatest_size b.content (λ t. atom_in (e ∷ trace) t == n) (e ∷ trace)
  born_then n open_n =
      let made_now = born greatest_size x (content_of (commands greatest_size) b.content everything trace) in
      elim (cases_eq n a.0) [
        | inl same ↦
            let mine = m.born a.0 opened in
            let at = ap (λ (y : Account). y.born) captured.own in
            let one = cond-true (atom_in trace u.0 == a.0) made_now 0 (eq-eqb (atom_in trace u.0) a.0 own) in
            subst (λ (y : ℕ). (account_of atoms y).born
            ≡ born_in greatest_size b.content (λ t. atom_in (e ∷ trace) t == y) (e ∷ trace)) (sym same)
            (omega (arith, mine, at, one, made))
        | inr other ↦
            let before = captured.opens n open_n in
            let theirs = m.born n before in
            let at = ap (λ (y : Account). y.born) (captured.others n before.atom.begun other) in
            let none = cond-false (atom_in trace u.0 == n) made_now 0
            (ne_eqb (atom_in trace u.0) n (λ g. other (sym g ∙ own))) in
            omega (arith, theirs, at, none)
      ]

  gone_then : (n : ℕ) → IsOpenAtom atoms n → (account_of atoms n).gone
      ≡ gone_in greatest_size b.content (λ t. atom_in (e ∷ trace) t == n) (e ∷ trace)
  gone_then n open_n =
      let took_now = gone greatest_size x (content_of (commands greatest_size) b.content everything trace) in
      elim (cases_eq n a.0) [
        | inl same ↦
            let mine = m.gone a.0 opened in
            let at = ap (λ (y : Account). y.gone) captured.own in
            let one = cond-true (atom_in trace u.0 == a.0) took_now 0 (eq-eqb (atom_in trace u.0) a.0 own) in
            subst (λ (y : ℕ). (account_of atoms y).gone
            ≡ gone_in greatest_size b.content (λ t. atom_in (e ∷ trace) t == y) (e ∷ trace)) (sym same)
            (omega (arith, mine, at, one, took))
        | inr other ↦
            let before = captured.opens n open_n in
            let theirs = m.gone n before in
            let at = ap (λ (y : Account). y.gone) (captured.others n before.atom.begun other) in
            let none = cond-false (atom_in trace u.0 == n) took_now 0
            (ne_eqb (atom_in trace u.0) n (λ g. other (sym g ∙ own))) in
            omega (arith, theirs, at, none)
      ]

  -- ---- the groups

  pub meaning_done : (after : CoreSeen D) → after ≡ record after {
    turns = turns;
    atoms = atoms;
    buffer = buffer;
    space = space;
    tree = unwrap_or root c.tree;
    volume = c.volume;
    commit = c.commit;
    broken = c.broken;
    trace = with_entry c.trace e;
  } → HasMeaning b (job_named r.scripts) d after story_done
  unfolding story_done
  meaning_done after same =
      subst (λ (y : CoreSeen D). HasMeaning b (job_named r.scripts) d y story_done) (sym same) (record {
        reads = m.reads;
        session = session_then;
        trace = trace_then;
        owner = owner_then;
        root = root_then;
        cells = cells_then;
        clean = λ sound i n at none.
            memory_cases _ i n at
            (λ here. absurd (cc (sym (ap is_dirty_by none) ∙ dirty_new i here)))
            (λ not kept had. m.clean sound i n had
            (none_before c.buffer buffer old new out.pins cells i not kept none));
        reach = reach_then;
        owned = owned_then;
        born = born_then;
        gone = gone_then;
        at = at_over b (job_named r.scripts) was now _ goes c.space space c.commit built.follows c.volume d session_then
            h.story.flush c.broken m.at;
      })

  pub durable_done : (t : ℕ) → r.clock ≡ Some t → TellsCrashes d → (after : CoreSeen D) → after ≡ record after {
    commit = c.commit;
    broken = c.broken;
    trace = with_entry c.trace e;
  } → IsDurable b t d after story_done
  unfolding story_done
  durable_done t clock crashes after same =
      let g = h.durable t clock crashes in
      subst (λ (y : CoreSeen D). IsDurable b t d y story_done) (sym same) (record {
        each = safe_push (means b) (commands greatest_size) b.content t d trace e legal tt g.each;
        now = g.now;
      })
