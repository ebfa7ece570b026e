-- A change is made in memory: what its cells name, and what can be read then.
use Rattle.std.proofs.Common.{◌≡◌, inl, inr, ⊎_elim, ℕ, ◌<◌, ◌≤◌, ◌^◌, ◌||◌, true, false, cond, List, Option}
use Rattle.std.proofs.Common.{Some, None, Contains, sym, ◌∙◌, ap, subst, arith, nat_lt}
use Rattle.std.proofs.lemmas.Bool.{cases_Bool, cond-false, cond-true, lt-ltb, or_cases, or_left, or_right}
use Rattle.std.proofs.lemmas.Option.{none-some}
use Rattle.r4_base.specs.Key.{rank}
use Rattle.r4_base.specs.Tree.{Name, Node}
use Rattle.r4_base.specs.Value.{Value}
use Rattle.r4_base.specs.declared.things.NodeId.{NodeId}
use Rattle.r4_taking.specs.r4_buffer.Changed.{has_name, in_turn, replaced, unused}
use Rattle.r4_taking.specs.r4_buffer.Reading.{NamesStand}
use Rattle.r4_taking.specs.r4_buffer.Seen.{BufferSeen, EntrySeen, IsLawful, buffered, is_captured}
use Rattle.r4_taking.specs.r4_buffer.Seen.{is_dirty_by}
use Rattle.r4_taking.proofs.r4_buffer.Captured.{captured_is}
use Rattle.r4_taking.specs.r4_cell.Patch.{IsChange, by_name}
use Rattle.r4_taking.specs.r4_cell.Seen.{CellSeen, node_of}
use Rattle.r4_taking.specs.r4_cell.declared.change.Root.{Root as RootPair}
use Rattle.r4_taking.proofs.r4_cell.NamesBelow.{names_below}
use Rattle.r4_outside.specs.Device.{State}
use Rattle.r4_counted.proofs.r4_patch.Members.{distinct, found, there}
use Rattle.r4_taking.specs.r4_turns.declared.out.Numbers.{Numbers}
use Rattle.r4_taking.specs.r4_kept.Cells.{AreReadable, HasNames, IsAccepted, IsName, NamesAt}
use Rattle.r4_taking.specs.r4_kept.TasksOut.{WereDrawn}
use Rattle.r4_taking.proofs.r4_kept.Readable.{captured_dirty, not_dirty}
use Rattle.r4_done.proofs.DoneTasks.{AreNumbered}
use Rattle.r4_done.proofs.Named.{has_found, not_found, one_named, one_of_ids}
use Rattle.r4_done.proofs.Replaced.{IsNewCell, Untouched, dirty_then, entries_then}

-- ---- names

module _ (blocks next : ℕ) (old new : List CellSeen) (root : Option RootPair) (is : IsChange old new root)
    (numbers : Numbers) (drawn : WereDrawn next numbers) (numbered : AreNumbered old new numbers)
    (had : (x : CellSeen) → Contains old x → HasNames blocks next x) where
  pub own_name : (x : CellSeen) → Contains new x → IsName blocks next x.id
  own_name x has =
      ⊎_elim
      (λ of_old.
      (let y = one_of_ids old x.id of_old in subst (IsName blocks next) y.2 (had y.0 y.1).own))
      (λ fresh.
      (let from = fresh.0 in
      let to = fresh.1 in
      let least = drawn.least in
      let most = drawn.most in
      inr (omega (arith, from, least), omega (arith, to, most)))) (numbered x has)

  pub found_name : (i : ℕ) (c : Node Value) → by_name new i ≡ Some c → IsName blocks next i
  found_name i c at = let (x, has, named, says) = found new i c at in subst (IsName blocks next) named (own_name x has)

  -- what a new cell names is one, or what an old cell named
  pub names_done : (x : CellSeen) → Contains new x → HasNames blocks next x
  names_done x has = record {
    own = own_name x has;
    named = λ n names.
        ⊎_elim (λ fits. (let (c, at, fit) = fits in found_name n.id c at))
        (λ kept.
        (let (none, (i, o, at, names_o)) = kept in
        let (y, there_y, named, says) = found old i o at in
        (had y there_y).named n (subst (λ (z : Node Value). Contains z.names n) says names_o)))
        (is.patch.named n (x.id, node_of x, there new x (distinct new is.new_names) has, names));
  }

-- ---- what is captured

-- it is a block, or captured
abbrev pub StandsIn : BufferSeen → (blocks : ℕ) → ℕ → Type 0
StandsIn x blocks n = (nat_lt n blocks || is_captured x n) ≡ true

module _ (d : State) (b now : BufferSeen) (lawful : IsLawful b) (old new : List CellSeen) (root : Option RootPair)
    (is : IsChange old new root) (pins : List NodeId)
    (cells : (i : ℕ) → buffered now i ≡ in_turn unused pins i (replaced old new i (buffered b i)))
    (blocks next : ℕ) (names : (i : ℕ) (e : EntrySeen) → buffered b i ≡ Some e → HasNames blocks next e.cell)
    (fresh : (i : ℕ) (e : EntrySeen) → buffered b i ≡ Some e → 2 ^ 63 ≤ i → e.dirty ≡ true)
    (of_olds : (i : ℕ) (o : Node Value) (n : Name) → by_name old i ≡ Some o → Contains o.names n
    → StandsIn b blocks n.id)
    (has_new : (i : ℕ) (n : Name) → NamesAt b i n → by_name old i ≡ None → 2 ^ 63 ≤ n.id → (o : Node Value)
    → by_name old n.id ≡ Some o → (c : Node Value) × (by_name new n.id ≡ Some c)) where
  -- what is captured and no block is dirty
  dirty_before : (n : ℕ) → is_captured b n ≡ true → nat_lt n blocks ≡ false → is_dirty_by (buffered b n) ≡ true
  dirty_before n held not =
      let h = captured_is b lawful n held in
      let named = lawful.named n h.entry h.is in
      ⊎_elim (λ block. absurd (cc (sym (lt-ltb n blocks (subst (λ (j : ℕ). j < blocks) named block.0)) ∙ not)))
      (λ number.
      ap is_dirty_by h.is ∙ fresh n h.entry h.is (subst (λ (j : ℕ). 2 ^ 63 ≤ j) named number.0))
      (names n h.entry h.is).own

  now_dirty : (n : ℕ) → is_dirty_by (buffered b n) ≡ true → (has_name old n ≡ true → has_name new n ≡ true)
      → is_dirty_by (buffered now n) ≡ true
  now_dirty n was stays = dirty_then b now old new pins cells n ∙ elim (cases_Bool (has_name new n)) [
    | inl here ↦ cond-true (has_name new n) true _ here
    | inr not ↦
        cond-false (has_name new n) true _ not ∙ elim (cases_Bool (has_name old n)) [
          | inl gone ↦ absurd (cc (sym (stays gone) ∙ not))
          | inr kept ↦ cond-false (has_name old n) false _ kept ∙ was
        ]
  ]

  stands_still : (n : ℕ) → StandsIn b blocks n
      → (nat_lt n blocks ≡ false → has_name old n ≡ true → has_name new n ≡ true) → StandsIn now blocks n
  stands_still n stood stays = elim (cases_Bool (nat_lt n blocks)) [
    | inl low ↦ or_left (nat_lt n blocks) (is_captured now n) low
    | inr not ↦
        let held : is_captured b n ≡ true =
        ⊎_elim (λ low. absurd (cc (sym low ∙ not))) (λ h. h) (or_cases (nat_lt n blocks) (is_captured b n) stood) in
        or_right (nat_lt n blocks) (is_captured now n)
        (captured_dirty now n (now_dirty n (dirty_before n held not) (stays not)))
  ]

  stands_new : (n : ℕ) → has_name new n ≡ true → StandsIn now blocks n
  stands_new n here =
      or_right (nat_lt n blocks) (is_captured now n) (captured_dirty now n (dirty_then b now old new pins cells n
      ∙ cond-true (has_name new n) true (cond (has_name old n) false (is_dirty_by (buffered b n))) here))

  -- what a new cell names
  names_of_new : (x : CellSeen) → Contains new x → NamesStand now blocks x
  names_of_new x has n names_n =
      ⊎_elim (λ fits. (let (c, at, fit) = fits in stands_new n.id (has_found new n.id c at)))
      (λ kept.
      (let (none, (i, o, at, names_o)) = kept in
      stands_still n.id (of_olds i o n at names_o)
      (λ not gone.
      (let (y, there_y, named) = one_named old n.id gone in
      absurd (none-some (node_of y) (sym none
      ∙ subst (λ (j : ℕ). by_name old j ≡ Some (node_of y)) named
      (there old y (distinct old is.old_names) there_y)))))))
      (is.patch.named n (x.id, node_of x, there new x (distinct new is.new_names) has, names_n))

  module _ (readable : AreReadable d b blocks) where
    -- and one that was there and captured
    names_of_held : (i : ℕ) (e : EntrySeen) → buffered b i ≡ Some e → has_name old i ≡ false → is_captured b i ≡ true
        → NamesStand now blocks e.cell
    names_of_held i e at kept held n names_n =
        stands_still n.id (readable.names i e at held n names_n)
        (λ not gone.
        (let (y, there_y, named) = one_named old n.id gone in
        let was : by_name old n.id ≡ Some (node_of y) =
        subst (λ (j : ℕ). by_name old j ≡ Some (node_of y)) named (there old y (distinct old is.old_names) there_y) in
        ⊎_elim (λ block. absurd (cc (sym (lt-ltb n.id blocks block.0) ∙ not)))
        (λ number.
        (let (c, now_c) = has_new i n (record { entry = e; is = at; among = names_n }) (not_found old i kept) number.0
        (node_of y) was in
        has_found new n.id c now_c))
        ((names i e at).named n names_n)))

    names_of_clean : (i : ℕ) (e : EntrySeen) → buffered b i ≡ Some e → is_captured b i ≡ false
        → NamesStand now blocks e.cell
    names_of_clean i e at not n names_n =
        or_left (nat_lt n.id blocks) (is_captured now n.id)
        (lt-ltb n.id blocks
        (names_below blocks e.cell.level (rank e.cell.lo) (rank e.cell.hi) e.cell.block n
        (readable.accepted i e at (not_dirty b i e at not)) names_n))

    names_then : (i : ℕ) (f : EntrySeen) → IsNewCell new i f → NamesStand now blocks f.cell
    names_then i f y = names_of_new f.cell y.there

    names_stay : (i : ℕ) (f : EntrySeen) → Untouched b old new i f → NamesStand now blocks f.cell
    names_stay i f u =
        subst (NamesStand now blocks) (sym u.was.cell) (elim (cases_Bool (is_captured b i)) [
          | inl held ↦ names_of_held i u.was.entry u.was.is u.not_old held
          | inr not ↦ names_of_clean i u.was.entry u.was.is not
        ])

    pub readable_done : AreReadable d now blocks
    readable_done = record {
      accepted = λ i f at not.
          ⊎_elim (λ y. absurd (cc (sym y.dirty ∙ not)))
          (λ u.
          subst (IsAccepted blocks) (sym u.was.cell)
          (readable.accepted i u.was.entry u.was.is (sym u.was.dirty ∙ not)))
          (entries_then b now old new pins cells i f at);
      same = λ tells i f at not.
          ⊎_elim (λ y. absurd (cc (sym y.dirty ∙ not)))
          (λ u.
          ap (λ (x : CellSeen). x.block) u.was.cell
          ∙ readable.same tells i u.was.entry u.was.is (sym u.was.dirty ∙ not))
          (entries_then b now old new pins cells i f at);
      names = λ i f at held.
          ⊎_elim (λ y. names_then i f y) (λ u. names_stay i f u) (entries_then b now old new pins cells i f at);
    }
