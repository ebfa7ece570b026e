-- A command is done by what was made of its task.
use Rattle.std.proofs.Common.{◌≡◌, inl, inr, ℕ, ◌+◌, ◌<◌, ◌≤◌, ◌^◌, true, List, Some, None, Contains}
use Rattle.std.proofs.Common.{length, get_or, ◌-◌, refl, sym, ◌∙◌, ap, subst, arith, true≢false}
use Rattle.std.specs.Option.{unwrap_or}
use Rattle.std.proofs.lemmas.Bool.{le-leb}
use Rattle.std.proofs.lemmas.List.Sums.{count_by-le-length, length-filter}
use Rattle.std.proofs.lemmas.List.Elements.{Contains-append_right}
use Rattle.r4_flushing.specs.r4_accounting.Accounting.{HasBlock, freed, frees}
use Rattle.r4_flushing.specs.r4_accounting.Putting.{CanPut, HasPlaced}
use Rattle.r4_atoms.specs.Atoms.{AtomsSeen, IsBegun, TxnSeen, no_txn, txn_of}
use Rattle.r4_atoms.specs.declared.things.Account.{Account}
use Rattle.r4_base.specs.declared.things.AtomNo.{AtomNo}
use Rattle.r4_base.specs.declared.things.ScriptNo.{ScriptNo}
use Rattle.r4_base.specs.declared.things.TxnNo.{TxnNo}
use Rattle.r4_buffer.specs.Changed.{Standing, in_turn, unused}
use Rattle.r4_buffer.specs.Seen.{BufferSeen, buffered, cells_of}
use Rattle.r4_cell.specs.Seen.{CellSeen}
use Rattle.r4_cell.specs.declared.change.Root.{Root as RootPair}
use Rattle.r4_core.specs.Doing.{CanDo, CanPay, IsDoable, IsDone, IsDoneSingle, IsRightDone}
use Rattle.r4_core.specs.Doing.{IsRightSingle, change_of}
use Rattle.r4_content.specs.Locality.{commands}
use Rattle.r4_content.specs.Meaning.{greatest_size}
use Rattle.r4_core.specs.declared.doing.Made.{Made}
use Rattle.r4_flushing.specs.r4_done.Done.{HasPut}
use Rattle.r4_flushing.proofs.r4_done.Doable.{given_it, new_owned, old_owned}
use Rattle.r4_flushing.proofs.r4_done.Done.{keeps_done, keeps_done_single}
use Rattle.r4_flushing.proofs.r4_done.Dropped.{done_drops, done_is}
use Rattle.r4_flushing.proofs.r4_done.FewCells.{fewer_old, room_for_both}
use Rattle.r4_others.specs.r4_history.Held.{IsOut}
use Rattle.r4_others.specs.r4_history.Tables.{inside, single, with_ended}
use Rattle.r4_others.proofs.r4_history.Places.{next_there, turn_now}
use Rattle.r4_others.proofs.r4_history.RunSteps.{open_in_both}
use Rattle.r4_ready.specs.r4_kept.Accounts.{cells_for, cells_owed, claims_for, claims_owed}
use Rattle.r4_ready.specs.r4_kept.Cells.{IsName}
use Rattle.r4_ready.specs.r4_kept.Kept.{IsKept}
use Rattle.r4_ready.specs.r4_kept.Naming.{Naming}
use Rattle.r4_ready.specs.r4_kept.Steps.{with_entry}
use Rattle.r4_ready.specs.r4_kept.View.{CoreSeen, blocks_of, tables_of}
use Rattle.r4_locks.specs.Locks.{LocksSeen, OthersAsBefore, task_at}
use Rattle.r4_outside.specs.Device.{State}
use Rattle.r4_space.specs.Lawful.{IsLawful}
use Rattle.r4_space.specs.Space.{Space}
use Rattle.r4_ready.proofs.r4_taking.Fused.{may_merge}
use Rattle.r4_ready.proofs.r4_taking.RefusedSingle.{room_back}
use Rattle.r4_trace.specs.Kept.{Told}
use Rattle.r4_trace.specs.declared.entry.Entry.TheVariants.{Done, Ended}
use Rattle.r4_turns.specs.Turns.{HasNext, IsScript, TurnsSeen, answered_at, answered_one, commands_at, dropped, left}
use Rattle.r4_turns.specs.Turns.{turn_at}
use Rattle.r4_turns.specs.declared.out.Out.{Out}
use Rattle.r4_turns.specs.declared.turn.Open.{Open}
use Rattle.r4_turns.specs.declared.turn.Turn.{Turn}

-- the task that is out is the one that can be done
pub doable_as : {D : Type 0} (c : CoreSeen D) (s : ScriptNo) (within : Open) (made : Made) (a : AtomNo)
    → IsDoable c s within made a → (out : Out) → (turn_at c.turns s.0).out ≡ Some out → CanDo c s within out made a
doable_as c s within made a (o, can) out is =
    let same : o ≡ out = cc (sym can.can.out_is.is_out ∙ is) in
    subst (λ (y : Out). CanDo c s within y made a) same can

-- ---- turns

module _ (t : TurnsSeen) (s : ℕ) (is : IsScript t s) where
  abbrev without : Turn
  without = record (turn_at t s) { out = None }

  pub has_next : HasNext t s → HasNext (dropped t s) s
  has_next lt =
      let now : answered_at (dropped t s) s ≡ answered_at t s =
      ap (λ (x : Turn). x.answered) (turn_now t s without is) in
      subst (λ (n : ℕ). n < length (commands_at t s)) (sym now) lt

  module _ (out : Out) (was : (turn_at t s).out ≡ Some out) where
    pub now_done : answered_at (answered_one (dropped t s) s) s ≡ answered_at t s + 1
    now_done =
        ap (λ (x : TurnsSeen). answered_at x s) (done_is t s is out was)
        ∙ ap (λ (x : Turn). x.answered)
        (turn_now t s (record (turn_at t s) { out = None; answered = (turn_at t s).answered + 1; numbers = None }) is)

-- ---- a core

module _ {D : Type 0} (r : Naming) (d : State) (c : CoreSeen D) (k : IsKept r d c) (s : ScriptNo)
    (within : Open) (out : Out) (made : Made) (a : AtomNo) (h : CanDo c s within out made a) where
  abbrev new : List CellSeen
  new = cells_of made.new.items

  is_script : IsScript c.turns s.0
  is_script = h.can.out_is.is_script

  pub may_answer : HasNext (dropped c.turns s.0) s.0
  may_answer = has_next c.turns s.0 is_script (next_there c.turns s.0 h.can.command h.can.stands.next)

  pub may_tell : 2 ≤ c.trace.spare
  may_tell = let enough = room_back r d c k s.0 out h.can.out_is in omega (arith, enough)

  -- its transaction is open, also in another table that has the same ones
  pub may_close : (atoms : AtomsSeen) → atoms.txns ≡ c.atoms.txns
      → IsBegun atoms within.txn.0 × ((txn_of atoms within.txn.0).is_open ≡ true)
  may_close atoms same =
      let o = open_in_both (commands greatest_size) None d.clock (tables_of c) c.trace.entries (k.history.told None
      tt)
      s.0 within is_script h.can.stands.transaction in
      let count = ap (λ (l : List TxnSeen). length l) same in (
        record { some = o.0.some; within = let le = o.0.within in omega (arith, le, count) },
        ap (λ (l : List TxnSeen). (get_or l (within.txn.0 - 1) no_txn).is_open) same ∙ o.1,
      )

  -- ---- room

  both : length made.old + length new ≤ out.cells
  both = room_for_both r d c k s within out made.command (change_of made) a h.can h.change

  cells_there : out.cells ≤ cells_owed c.turns.turns
  cells_there =
      let sums = (done_drops c.turns s.0 is_script out h.can.out_is.is_out).sums cells_for refl in omega (arith, sums)

  claims_there : out.claims ≤ claims_owed c.turns.turns
  claims_there =
      let sums = (done_drops c.turns s.0 is_script out h.can.out_is.is_out).sums claims_for refl in omega (
        arith,
        sums,
      )

  few_calls : 1 + length (freed c.space made.old new) ≤ out.claims
  few_calls =
      let old = fewer_old r d c k s within out made.command (change_of made) a h.can h.change in
      let enough = (given_it r d c k s within out made.command (change_of made) a h.can h.change).claims in
      let some = length-filter (frees c.space new) made.old in
      let few = count_by-le-length (frees c.space new) made.old in
      omega (arith, old, enough, some, few)

  -- ---- the change may be put

  has_block : (x : CellSeen) → Contains made.old x → HasBlock c.space x
  has_block x has low =
      by (k.cells.reached_names s.0 out x h.can.out_is
      (Contains-append_right out.reads out.writes x (h.change.reached x has))).own
    where
      by : IsName (blocks_of c) c.numbers.next_name x.id → x.id < c.space.block_count
      by (inl block) = let lt = block.0 in let same = k.cells.space in omega (arith, lt, same)
      by (inr fresh) = absurd (true≢false (sym (le-leb (2 ^ 63) x.id fresh.0) ∙ low))

  pub may_put : (account : Account) → CanPay c made a account
      → CanPut c.space c.atoms c.buffer a account made.old new
  may_put account pay = record {
    small = pay.small;
    unsealed = may_merge r d c k h.can.sound a h.can.opened;
    covered = k.accounts.covered;
    enough = pay.enough;
    blocks = has_block;
    calls =
        let few = few_calls in
        let there = claims_there in
        let room = k.accounts.room_to_defer in
        omega (arith, few, there, room);
    opened = h.can.opened;
    old_free = λ x has by owned other.
        absurd (other (old_owned r d c k s within out made.command (change_of made) a h.can h.change x has by owned));
    new_free = λ x has by owned other.
        absurd (other (new_owned r d c k s within out made.command (change_of made) a h.can h.change x has by owned));
    captures =
        let all = both in
        let there = cells_there in
        let room = k.accounts.room_to_capture in
        omega (arith, all, there, room);
    places =
        let all = both in
        let there = cells_there in
        let room = k.accounts.room_for_cells in
        omega (arith, all, there, room);
  }

  -- ---- the parts then

  module _ (account : Account) (pay : CanPay c made a account) (space : Space) (atoms : AtomsSeen)
      (mid buffer : BufferSeen) (put : HasPlaced c.space space c.atoms atoms c.buffer mid a account made.old new)
      (cells : (i : ℕ) → buffered buffer i ≡ in_turn unused out.pins i (buffered mid i))
      (room : buffer.spare ≡ mid.spare) (locks : LocksSeen) (gone : task_at locks out.task.0 ≡ None)
      (others : OthersAsBefore c.locks locks out.task.0) where
    pub has_put : (then : CoreSeen D) → then ≡ record then { locks = locks; buffer = buffer; space = space }
        → HasPut c then atoms out (change_of made) a account
    has_put then same =
        subst (λ (x : CoreSeen D). HasPut c x atoms out (change_of made) a account) (sym same) (record {
          gone = gone;
          others = others;
          txns = put.owners.txns;
          states = put.owners.states;
          owners = put.owners.owners;
          captures = let all = both in let spare = put.owners.spare in omega (arith, all, spare);
          cells = λ i. cells i ∙ ap (λ (o : Standing). in_turn unused out.pins i o) (put.cells i);
          places = let all = both in let spare = put.room in omega (arith, all, spare, room);
          charged = put.told out.claims few_calls;
          count = ap (λ (x : Space). x.block_count) put.deferred.is;
          counts = pay.becomes.counts;
          one_made =
              let is = pay.becomes.born in
              let one = h.one_born in
              omega (arith, is, one);
          one_gone =
              let is = pay.becomes.gone in
              let one = h.one_gone in
              omega (arith, is, one);
        })

module _ {D : Type 0} (r : Naming) (d : State) (c : CoreSeen D) (k : IsKept r d c) (s : ScriptNo) (u : TxnNo)
    (out : Out) (made : Made) (a : AtomNo) (h : CanDo c s (inside u) out made a) (account : Account)
    (pay : CanPay c made a account) (space : Space) (atoms : AtomsSeen) (mid buffer : BufferSeen)
    (put : HasPlaced c.space space c.atoms atoms c.buffer mid a account made.old (cells_of made.new.items))
    (lawful : IsLawful space)
    (cells : (i : ℕ) → buffered buffer i ≡ in_turn unused out.pins i (buffered mid i))
    (room : buffer.spare ≡ mid.spare) (locks : LocksSeen) (gone : task_at locks out.task.0 ≡ None)
    (others : OthersAsBefore c.locks locks out.task.0) (without turns : TurnsSeen) (index : ℕ)
    (entries : Told) (tree : RootPair) (drops : without ≡ dropped c.turns s.0)
    (answers : turns ≡ answered_one without s.0)
    (number : index ≡ answered_at turns s.0)
    (tells : entries ≡ with_entry c.trace (Done u s index made.command made.reply))
    (top : tree ≡ unwrap_or made.root c.tree) where
  abbrev then : CoreSeen D
  then = record c {
    turns = turns;
    locks = locks;
    atoms = atoms;
    buffer = buffer;
    space = space;
    tree = tree;
    trace = entries;
  }

  are_turns : turns ≡ answered_one (dropped c.turns s.0) s.0
  are_turns = answers ∙ ap (λ (t : TurnsSeen). answered_one t s.0) drops

  is_index : index ≡ answered_at c.turns s.0 + 1
  is_index =
      number ∙ ap (λ (t : TurnsSeen). answered_at t s.0) are_turns
      ∙ now_done c.turns s.0 h.can.out_is.is_script out h.can.out_is.is_out

  is_done : IsDone c then s u made a out
  is_done = record {
    account = account;
    done = record {
      put = has_put r d c k s (inside u) out made a h account pay space atoms mid buffer put cells room locks gone
          others then refl;
      same =
          ap (λ (t : TurnsSeen). record then { turns = t }) are_turns
          ∙ ap (λ (y : RootPair). record then {
            turns = answered_one (dropped c.turns s.0) s.0;
            tree = y;
          }) top
          ∙ ap (λ (y : Told). record then {
            turns = answered_one (dropped c.turns s.0) s.0;
            tree = unwrap_or made.root c.tree;
            trace = y;
          })
          (tells ∙ ap (λ (n : ℕ). with_entry c.trace (Done u s n made.command made.reply)) is_index);
    };
    paid = record { becomes = pay.becomes; deferred = put.deferred; lawful = lawful };
  }

  -- whatever task is out
  pub is_done_as : (o : Out) → IsOut c.turns s.0 o → IsDone c then s u made a o
  is_done_as o has =
      let same : out ≡ o = cc (sym h.can.out_is.is_out ∙ has.is_out) in
      subst (λ (y : Out). IsDone c then s u made a y) same is_done

  pub keeps_done_by : ((x : CellSeen) → Contains (cells_of made.new.items) x → x.level ≤ 8)
      → IsRightDone r d c s u made a → IsKept r d then
  unfolding is_done
  keeps_done_by levels right =
      keeps_done r d c k s u out made.command made.reply (change_of made) a account h.change levels then
      (λ b named. right k then out is_done b named) h.can is_done.done

-- ---- a single command

module _ {D : Type 0} (r : Naming) (d : State) (c : CoreSeen D) (k : IsKept r d c) (s : ScriptNo) (u : TxnNo)
    (out : Out) (made : Made) (a : AtomNo) (h : CanDo c s (single u) out made a) (account : Account)
    (pay : CanPay c made a account) (space : Space) (atoms : AtomsSeen) (mid buffer : BufferSeen)
    (put : HasPlaced c.space space c.atoms atoms c.buffer mid a account made.old (cells_of made.new.items))
    (lawful : IsLawful space)
    (cells : (i : ℕ) → buffered buffer i ≡ in_turn unused out.pins i (buffered mid i))
    (room : buffer.spare ≡ mid.spare) (locks : LocksSeen) (gone : task_at locks out.task.0 ≡ None)
    (others : OthersAsBefore c.locks locks out.task.0) (without turns last : TurnsSeen) (index : ℕ)
    (entries end : Told) (tree : RootPair) (ended : AtomsSeen) (drops : without ≡ dropped c.turns s.0)
    (answers : turns ≡ answered_one without s.0) (leaves : last ≡ left turns s.0)
    (number : index ≡ answered_at turns s.0) (closes : ended ≡ with_ended atoms u.0)
    (tells : entries ≡ with_entry c.trace (Done u s index made.command made.reply))
    (tells_end : end ≡ with_entry entries (Ended u)) (top : tree ≡ unwrap_or made.root c.tree) where
  abbrev over : CoreSeen D
  over = record c {
    turns = last;
    locks = locks;
    atoms = ended;
    buffer = buffer;
    space = space;
    tree = tree;
    trace = end;
  }

  turns_are : turns ≡ answered_one (dropped c.turns s.0) s.0
  turns_are = answers ∙ ap (λ (t : TurnsSeen). answered_one t s.0) drops

  index_is : index ≡ answered_at c.turns s.0 + 1
  index_is =
      number ∙ ap (λ (t : TurnsSeen). answered_at t s.0) turns_are
      ∙ now_done c.turns s.0 h.can.out_is.is_script out h.can.out_is.is_out

  abbrev last_turns : TurnsSeen
  last_turns = left (answered_one (dropped c.turns s.0) s.0) s.0

  is_done_single : IsDoneSingle c over s u made a out
  is_done_single = record {
    account = account;
    done = record {
      atoms = atoms;
      put = has_put r d c k s (single u) out made a h account pay space atoms mid buffer put cells room locks gone
          others over refl;
      same =
          ap (λ (t : TurnsSeen). record over { turns = t }) (leaves ∙ ap (λ (t : TurnsSeen). left t s.0) turns_are)
          ∙ ap (λ (t : AtomsSeen). record over { turns = last_turns; atoms = t }) closes
          ∙ ap (λ (y : RootPair). record over {
            turns = last_turns;
            atoms = with_ended atoms u.0;
            tree = y;
          }) top
          ∙ ap (λ (y : Told). record over {
            turns = last_turns;
            atoms = with_ended atoms u.0;
            tree = unwrap_or made.root c.tree;
            trace = y;
          })
          (tells_end ∙ ap (λ (t : Told). with_entry t (Ended u)) (tells
          ∙ ap (λ (n : ℕ). with_entry c.trace (Done u s n made.command made.reply)) index_is));
    };
    paid = record { becomes = pay.becomes; deferred = put.deferred; lawful = lawful };
  }

  -- whatever task is out
  pub is_single_as : (o : Out) → IsOut c.turns s.0 o → IsDoneSingle c over s u made a o
  is_single_as o has =
      let same : out ≡ o = cc (sym h.can.out_is.is_out ∙ has.is_out) in
      subst (λ (y : Out). IsDoneSingle c over s u made a y) same is_done_single

  pub keeps_single_by : ((x : CellSeen) → Contains (cells_of made.new.items) x → x.level ≤ 8)
      → IsRightSingle r d c s u made a → IsKept r d over
  unfolding is_done_single
  keeps_single_by levels right =
      keeps_done_single r d c k s u out made.command made.reply (change_of made) a account h.change levels over
      (λ b named. right k over out is_done_single b named) h.can is_done_single.done
