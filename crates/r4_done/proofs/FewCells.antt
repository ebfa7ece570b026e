-- How many cells a change of a task has: no more old ones than the task writes; and of these, and of new ones, few.
use Rattle.std.proofs.Common.{◌≡◌, inl, inr, ⊎_elim, ℕ, zero, suc, ◌+◌, ◌^◌, ◌<◌, ◌≤◌, ◌==◌, ◌&&◌, Bool, true, false, cond, not, List}
use Rattle.std.proofs.Common.{[], ◌∷◌, ◌++◌, Option, Some, None, Contains, length, sym, ◌∙◌, ap, subst, arith}
use Rattle.std.specs.Prelude.{count_by, filter, nat_eq, nat_le}
use Rattle.std.specs.List.{IsDistinct, range_with_len}
use Rattle.std.proofs.lemmas.Bool.{and_parts, cases_Bool, cases_eq, eqb-true, or_left}
use Rattle.std.proofs.lemmas.Cmp.{nat_eq_equiv}
use Rattle.std.proofs.lemmas.List.{length-append, length-map}
use Rattle.std.proofs.lemmas.List.Elements.{Contains-append_left, Contains-append_right}
use Rattle.std.proofs.lemmas.List.FromFn.{length-range_with_len}
use Rattle.std.proofs.lemmas.List.Sums.{length-filter}
use Rattle.std.proofs.lemmas.Map.Made.{length-le_from_is_member}
use Rattle.std.proofs.lemmas.Map.Views.{Contains-from_any, list_any-from_Contains}
use Rattle.r4_base.proofs.Members.{member_cases, member_here, member_later, no_member}
use Rattle.r4_base.specs.declared.things.AtomNo.{AtomNo}
use Rattle.r4_base.specs.declared.things.ScriptNo.{ScriptNo}
use Rattle.r4_atoms.specs.Atoms.{account_of, atom_of}
use Rattle.r4_taking.specs.r4_buffer.Changed.{has_name}
use Rattle.r4_taking.specs.r4_buffer.Seen.{buffered, is_dirty_by}
use Rattle.r4_taking.specs.r4_cell.Seen.{CellSeen}
use Rattle.r4_taking.specs.r4_cell.declared.change.Change.{Change}
use Rattle.r4_content.specs.declared.command.Command.{Command}
use Rattle.r4_outside.specs.Device.{State}
use Rattle.r4_counted.specs.r4_patch.Joining.{ids_of}
use Rattle.r4_taking.specs.r4_trace.Traced.{begun_in}
use Rattle.r4_taking.specs.r4_trace.declared.entry.Entry.{Entry}
use Rattle.r4_taking.specs.r4_trace.declared.entry.Entry.TheVariants.{Acked, Begin, Broken, Committed, Done, Ended, Fuse}
use Rattle.r4_taking.specs.r4_trace.declared.entry.Entry.TheVariants.{Refused, Sealed}
use Rattle.r4_taking.specs.r4_turns.declared.out.Out.{Out}
use Rattle.r4_taking.specs.r4_turns.declared.out.TheConstants.{MOST_NEW}
use Rattle.r4_taking.specs.r4_turns.declared.turn.Open.{Open}
use Rattle.r4_taking.specs.r4_kept.Accounts.{CountsCells, dones_of}
use Rattle.r4_taking.specs.r4_kept.Kept.{IsKept}
use Rattle.r4_taking.specs.r4_kept.Naming.{Naming}
use Rattle.r4_taking.specs.r4_kept.TasksOut.{IsGiven}
use Rattle.r4_taking.specs.r4_kept.View.{CoreSeen, blocks_of}
use Rattle.r4_done.specs.Doing.{is_less}
use Rattle.r4_done.specs.Done.{CanBeDone, IsChangeOf}
use Rattle.r4_done.proofs.Doable.{dirty_owned, given_it, once, touched_owned, write_owned}
use Rattle.r4_done.proofs.DoneCounts.{picked, picked_is, picked_length, picked_once}
use Rattle.r4_done.proofs.Named.{has_one, id_there, one_of_ids}

-- ---- lists

-- numbers that stand once, each of them in the other list, are no more than that has
fewer : (xs ys : List ℕ) → IsDistinct nat_eq xs → ((q : ℕ) → Contains xs q → Contains ys q) → length xs ≤ length ys
fewer xs ys once within =
    length-le_from_is_member nat_eq_equiv xs ys once (λ q has.
    list_any-from_Contains nat_eq_equiv q ys (within q (Contains-from_any (λ x y e. eqb-true x y e) q xs has)))

as_many : (xs : List CellSeen) → length (ids_of xs) ≡ length xs
as_many xs = length-map xs (λ (x : CellSeen). x.id)

in_range : (n a q : ℕ) → a ≤ q → q < a + n → Contains (range_with_len a n) q
in_range zero a q low high = absurd (omega (arith, low, high))
in_range (suc n) a q low high = elim (cases_eq q a) [
  | inl here ↦ member_here a (range_with_len (a + 1) n) q here
  | inr other ↦
      member_later a (range_with_len (a + 1) n) q
      (in_range n (a + 1) q (omega (arith, low, other)) (omega (arith, high)))
]

filter_has : (p : ℕ → Bool) (xs : List ℕ) (i : ℕ) → Contains xs i → p i ≡ true → Contains (filter p xs) i
filter_has p [] i has is = absurd (no_member i has)
filter_has p (x ∷ xs) i has is =
    ⊎_elim
    (λ here.
    (let hit : p x ≡ true = ap p (sym here) ∙ is in rw hit (member_here x (filter p xs) i here)))
    (λ rest.
    (let later = filter_has p xs i rest is in
    elim (cases_Bool (p x)) [
      | inl hit ↦ rw hit (member_later x (filter p xs) i later)
      | inr miss ↦ rw miss later
    ])) (member_cases x xs i has)

-- ---- objects

-- each command that was done has an entry, and so has each transaction
dones_begun : (chosen : ℕ → Bool) (trace : List Entry) → dones_of chosen trace + begun_in trace ≤ length trace
dones_begun chosen [] = omega arith
dones_begun chosen (Done txn script i command reply ∷ older) =
    let rest = dones_begun chosen older in let one = at_most (chosen txn.0) in omega (arith, rest, one)
  where
    at_most : (b : Bool) → cond {A = ℕ} b 1 0 ≤ 1
    at_most true = omega arith
    at_most false = omega arith
dones_begun chosen (Begin txn script ∷ older) = let rest = dones_begun chosen older in omega (arith, rest)
dones_begun chosen (Fuse kept gone node ∷ older) = let rest = dones_begun chosen older in omega (arith, rest)
dones_begun chosen (Refused txn script i reply ∷ older) = let rest = dones_begun chosen older in omega (arith, rest)
dones_begun chosen (Ended txn ∷ older) = let rest = dones_begun chosen older in omega (arith, rest)
dones_begun chosen (Sealed atom ∷ older) = let rest = dones_begun chosen older in omega (arith, rest)
dones_begun chosen (Committed atom clock ∷ older) = let rest = dones_begun chosen older in omega (arith, rest)
dones_begun chosen (Acked script txn clock ∷ older) = let rest = dones_begun chosen older in omega (arith, rest)
dones_begun chosen (Broken clock faults ∷ older) = let rest = dones_begun chosen older in omega (arith, rest)

-- ---- a task

module _ {D : Type 0} (r : Naming) (d : State) (c : CoreSeen D) (k : IsKept r d c) (s : ScriptNo)
    (within : Open) (out : Out) (x : Command) (change : Change) (a : AtomNo)
    (can : CanBeDone c s within out x a) (of_it : IsChangeOf c out x change) where
  abbrev g : IsGiven c.tree x out
  g = given_it r d c k s within out x change a can of_it

  pub fewer_old : length change.old ≤ length out.writes
  fewer_old =
      let few = fewer (ids_of change.old) (ids_of out.writes) (once change.old of_it.is.old_names) (λ q has.
      (let y = one_of_ids change.old q has in
      subst (Contains (ids_of out.writes)) y.2 (id_there out.writes y.0 (of_it.reached y.0 y.1)))) in
      let old = as_many change.old in
      let all = as_many out.writes in
      omega (arith, few, old, all)

  -- there is room for all
  pub room_for_both : length change.old + length change.new ≤ out.cells
  room_for_both =
      let old = fewer_old in
      let new = of_it.few in
      let enough = g.cells in
      omega (arith, old, new, enough)

  counted : CountsCells c.buffer c.atoms a.0 (account_of c.atoms a.0).cells (account_of c.atoms a.0).fresh
  counted = k.accounts.counted a.0 can.opened

  -- a cell that it writes is its atom's, or has a block
  write_there : (y : CellSeen) → Contains out.writes y
      → Contains (counted.nodes ++ range_with_len 0 (blocks_of c)) y.id
  write_there y there = elim (cases_Bool (is_dirty_by (buffered c.buffer y.id))) [
    | inl dirty ↦
        let (n, owned) = dirty_owned r d c k s within out x change a can of_it y.id dirty in
        let own : owned_as n ≡ Some a.0 =
        ap (λ (m : ℕ). Some m) (write_owned r d c k s within out x change a can of_it y there n owned) in
        Contains-append_left counted.nodes (range_with_len 0 (blocks_of c)) y.id
        ((counted.just y.id).1 (owned ∙ own, dirty))
    | inr clean ↦
        let still = (k.cells.given_cells can.sound s.0 out y can.out_is
        (Contains-append_right out.reads out.writes y there)).clean clean in
        let low = still.0 in
        Contains-append_right counted.nodes (range_with_len 0 (blocks_of c)) y.id
        (in_range (blocks_of c) 0 y.id (omega arith) (omega (arith, low)))
  ]
    where
      owned_as : ℕ → Option ℕ
      owned_as n = Some n

  pub few_writes : length out.writes ≤ (account_of c.atoms a.0).cells + blocks_of c
  few_writes =
      let few = fewer (ids_of out.writes) (counted.nodes ++ range_with_len 0 (blocks_of c))
      (once out.writes g.can.names) (λ q has.
      (let y = one_of_ids out.writes q has in
      subst (Contains (counted.nodes ++ range_with_len 0 (blocks_of c))) y.2 (write_there y.0 y.1))) in
      let all = as_many out.writes in
      let both = length-append counted.nodes (range_with_len 0 (blocks_of c)) in
      let blocks = length-range_with_len 0 (blocks_of c) in
      let cells = counted.cells_are in
      omega (arith, few, all, both, blocks, cells)

  pub few_new : length change.new ≤ MOST_NEW
  few_new =
      let new = of_it.few in
      let small = g.small in
      omega (arith, new, small)

  -- ---- cells that go

  abbrev goes : CellSeen → Bool
  goes = is_less c.buffer change.new

  abbrev goes_fresh : CellSeen → Bool
  goes_fresh = λ y. is_less c.buffer change.new y && nat_le (2 ^ 63) y.id

  abbrev nodes : List ℕ
  nodes = counted.nodes

  less_there : (y : CellSeen) → Contains change.old y → goes y ≡ true → Contains nodes y.id
  less_there y has is =
      let dirty = (and_parts (is_dirty_by (buffered c.buffer y.id)) (not (has_name change.new y.id)) is).0 in
      (counted.just y.id).1 (
        touched_owned r d c k s within out x change a can of_it y.id
            (or_left (has_name change.old y.id) (has_name change.new y.id) (has_one change.old y has)) dirty,
        dirty,
      )

  -- no more cells go than are counted
  pub less_cells : count_by goes change.old ≤ (account_of c.atoms a.0).cells
  less_cells =
      let few = fewer (picked goes change.old) nodes
      (picked_once goes change.old (once change.old of_it.is.old_names)) (λ q has.
      (let (y, there, named, is) = picked_is goes change.old q has in
      subst (Contains nodes) named (less_there y there is))) in
      let all = picked_length goes change.old in
      let cells = counted.cells_are in
      omega (arith, few, all, cells)

  pub less_fresh : count_by goes_fresh change.old ≤ (account_of c.atoms a.0).fresh
  less_fresh =
      let few = fewer (picked goes_fresh change.old) (filter (nat_le (2 ^ 63)) nodes)
      (picked_once goes_fresh change.old (once change.old of_it.is.old_names)) (λ q has.
      (let (y, there, named, is) = picked_is goes_fresh change.old q has in
      let both = and_parts (goes y) (nat_le (2 ^ 63) y.id) is in
      subst (Contains (filter (nat_le (2 ^ 63)) nodes)) named
      (filter_has (nat_le (2 ^ 63)) nodes y.id (less_there y there both.0) both.1))) in
      let all = picked_length goes_fresh change.old in
      let fresh = counted.fresh_are in
      let many = length-filter (nat_le (2 ^ 63)) nodes in
      omega (arith, few, all, fresh, many)

  -- ---- objects

  -- the atom has made fewer objects than there are entries, and taken fewer away
  pub fewer_objects : ((account_of c.atoms a.0).born + 1 ≤ length c.trace.entries)
      × ((account_of c.atoms a.0).gone + 1 ≤ length c.trace.entries)
  fewer_objects =
      let objects = k.accounts.objects a.0 can.opened in
      let born = objects.0 in
      let gone = objects.1 in
      let all = dones_begun (λ t. atom_of c.atoms t == a.0) c.trace.entries in
      let begun = (k.history.told None tt).atoms.begun in
      let some = can.opened.atom.begun.some in
      let within = can.opened.atom.begun.within in
      (omega (arith, born, all, begun, some, within), omega (arith, gone, all, begun, some, within))
