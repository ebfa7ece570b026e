-- Group C, the accounts.
--     covered   the atom's due paid for what is placed and held, and the others' are covered still
--     same      the other atoms keep their accounts, in the space and in the table
--     counted   and their cells, none of which gets another name
--     unknown, objects   nothing is begun, and no command is done
--     holds     what is sealed and held is the atom's
--     room      it is as it was
use Rattle.std.proofs.Common.{◌≡◌, ◌≢◌, ◌⊎◌, inl, inr, ℕ, ◌+◌, ◌<◌, ◌≤◌, ◌==◌, ◌||◌, not, Bool, true}
use Rattle.std.proofs.Common.{false, cond, List, [], ◌∷◌, ◌++◌, map, length, Option, Some, None, refl, sym}
use Rattle.std.proofs.Common.{◌∙◌, ap, subst, arith}
use Rattle.std.specs.Prelude.{All, sum_by}
use Rattle.std.specs.Option.{option_map}
use Rattle.std.proofs.lemmas.Bool.{cond-false, eq-eqb, ne_eqb}
use Rattle.std.proofs.lemmas.List.{length-map}
use Rattle.std.proofs.lemmas.List.Elements.{All-append, All-cons, All-contains, All-head, All-nil, All-tail}
use Rattle.std.proofs.lemmas.List.Sorted.{length_permutation, sum_by-IsPermutation}
use Rattle.r4_atoms.specs.Atoms.{IsBegun, IsOpenAtom, account_of, owner_of}
use Rattle.r4_atoms.specs.declared.things.Account.{Account}
use Rattle.r4_base.specs.Bitmap.{bitmap_count}
use Rattle.r4_base.specs.declared.things.AtomNo.{AtomNo}
use Rattle.r4_renaming.specs.r4_buffer.Seen.{is_dirty_by}
use Rattle.r4_accounting.specs.r4_cell.Seen.{CellSeen}
use Rattle.r4_renaming.specs.r4_commit.Planned.{IsUnused, blocks_of, with_all_held}
use Rattle.r4_renaming.specs.r4_flush.Asked.{fresh_cell}
use Rattle.r4_renaming.specs.r4_flush.Prepared.{IsPrepared, cells_of}
use Rattle.r4_renaming.specs.r4_flush.declared.preparing.Prepared.{Prepared}
use Rattle.r4_renaming.proofs.r4_flush.Choosing.{same_count, unused_left}
use Rattle.r4_renaming.proofs.r4_flush.Made.{made_long}
use Rattle.r4_outside.specs.Device.{State}
use Rattle.r4_renaming.specs.r4_place.Chosen.{placed_all}
use Rattle.r4_renaming.specs.r4_place.declared.placed.Placed.{Placed}
use Rattle.r4_renaming.proofs.r4_place.ChosenCells.{rest_stays}
use Rattle.r4_space.specs.Accounts.{EachOnce, account_at, dues, is_open, is_sealed, no_account, price_formula}
use Rattle.r4_space.specs.Accounts.{price_of, with_atom, with_sealed as sealed_atoms, without_account}
use Rattle.r4_space.specs.Lawful.{IsLawful}
use Rattle.r4_space.specs.Space.{Space, claims_without, sealed_in, unused_count}
use Rattle.r4_space.specs.declared.things.Account.{Account as SpaceAccount}
use Rattle.r4_space.specs.declared.things.Claim.{Claim}
use Rattle.r4_space.proofs.AccountLaws.{dues-without, once-without, other_account}
use Rattle.r4_trace.specs.declared.entry.Entry.TheVariants.{Sealed}
use Rattle.r4_renaming.specs.r4_turns.Turns.{TurnsSeen}
use Rattle.r4_renaming.specs.r4_turns.declared.out.Out.{Out}
use Rattle.r4_accounting.specs.r4_kept.Steps.{with_entry}
use Rattle.r4_accounting.specs.r4_kept.Accounts.{AreAccounts, CountsCells, HoldsOf, IsFor, IsStill, cells_for, cells_owed, claims_for}
use Rattle.r4_accounting.specs.r4_kept.Accounts.{claims_owed}
use Rattle.r4_accounting.specs.r4_kept.Naming.{Naming}
use Rattle.r4_accounting.specs.r4_kept.View.{CoreSeen}
use Rattle.r4_accounting.specs.r4_kept.declared.parts.Commit.{Commit}
use Rattle.r4_accounting.proofs.r4_kept.Dones.{dones_stay}
use Rattle.r4_renaming.specs.Renaming.{name_then, turns_with_pins, with_pins}
use Rattle.r4_flushing.specs.Sealable.{IsClear}
use Rattle.r4_flushing.specs.Sealing.{super_to_come}
use Rattle.r4_flushing.proofs.Facts as facts
use Rattle.r4_flushing.proofs.Facts.{Sealing}
use Rattle.r4_flushing.proofs.Paid.{held_left, log_blocks, placed_size, sealed_unused}
use Rattle.r4_flushing.proofs.Pins.{sums_then}
use Rattle.r4_flushing.proofs.Preparing as preparing
use Rattle.r4_flushing.proofs.SealedAtoms.{account_then, another, atom_then, begun_then, open_before, owner_before}
use Rattle.r4_flushing.proofs.SealedAtoms.{owner_other}

-- ---- spaces

-- what is placed changes nothing of a space but that
placed_lawful : (s : Space) (ps : List Placed) → IsLawful s → length (placed_all s ps).placed ≡ s.block_count
    → IsLawful (placed_all s ps)
placed_lawful s ps h long =
    subst IsLawful (sym (rest_stays s ps)) (record {
      least = h.least;
      most = h.most;
      marked_size = h.marked_size;
      placed_size = long;
      fixed = h.fixed;
      held_within = h.held_within;
      deferred_within = h.deferred_within;
      once = h.once;
      dues_small = h.dues_small;
    })

without_again : (accounts : List SpaceAccount) (a : AtomNo)
    → without_account a (accounts ++ no_account a ∷ []) ≡ without_account a accounts
without_again [] a = by (a.0 == a.0) (eq-eqb a.0 a.0 refl)
  where
    by : (t : Bool) → t ≡ true → cond (not t) (no_account a ∷ []) [] ≡ []
    by true e = refl
    by false e = absurd (cc e)
without_again (x ∷ xs) a = by (not (x.atom.0 == a.0)) (without_again xs a)
  where
    by : (t : Bool) → without_account a (xs ++ no_account a ∷ []) ≡ without_account a xs
        → cond t (x ∷ without_account a (xs ++ no_account a ∷ [])) (without_account a (xs ++ no_account a ∷ []))
        ≡ cond t (x ∷ without_account a xs) (without_account a xs)
    by t same = ap (λ (l : List SpaceAccount). cond t (x ∷ l) l) same

-- an atom that is opened and sealed has no account
pub sealed_rest : (accounts : List SpaceAccount) (sealed : List AtomNo) (a : AtomNo)
    → without_account a (with_atom accounts sealed a) ≡ without_account a accounts
sealed_rest accounts sealed a = by (is_open accounts a || is_sealed sealed a)
  where
    by : (t : Bool) → without_account a (cond t accounts (accounts ++ no_account a ∷ [])) ≡ without_account a accounts
    by true = refl
    by false = without_again accounts a

none_of_others : (a : AtomNo) (bs : List ℕ)
    → claims_without a (map (λ (b : ℕ). record { atom = a; block = record { 0 = b } }) bs) ≡ []
none_of_others a [] = refl
none_of_others a (b ∷ bs) =
    by (claims_without a (map (λ (n : ℕ). record { atom = a; block = record { 0 = n } }) bs)) (a.0 == a.0)
    (eq-eqb a.0 a.0 refl) (none_of_others a bs)
  where
    by : (rest : List Claim) (t : Bool) → t ≡ true → rest ≡ []
        → cond (not t) (record { atom = a; block = record { 0 = b } } ∷ rest) rest ≡ []
    by rest true e none = none
    by rest false e none = absurd (cc e)

module _ {D : Type 0} (r : Naming) (d : State) (c new : CoreSeen D) (a : AtomNo) (given : List CellSeen) (p : Prepared)
    (z : Sealing r d c new a given p) where
  abbrev k : AreAccounts c
  k = z.kept.accounts

  abbrev x : IsPrepared given a (super_to_come c a.0) c.volume.prev c.space p
  x = facts.x r d c new a given p z

  abbrev bitmaps : ℕ
  bitmaps = bitmap_count c.space.block_count

  abbrev placed : Space
  placed = placed_all c.space x.answers

  abbrev blocks : List ℕ
  blocks = blocks_of x.planned.plan

  -- ---- how many cells the atom has

  as_many : length given ≡ (account_of c.atoms a.0).cells
  as_many = preparing.as_many r d c a given z.kept z.can z.has.cells_are z.sealable.buffer

  as_fresh : sum_by fresh_cell x.cells ≡ (account_of c.atoms a.0).fresh
  as_fresh =
      sum_by-IsPermutation fresh_cell given x.cells x.same
      ∙ preparing.as_fresh r d c a given z.kept z.can z.has.cells_are z.sealable.buffer

  few : length (cells_of p.renamed.items) ≡ length given
  few =
      length-map p.renamed.items _ ∙ made_long _ x.cells p.renamed.items x.renamed
      ∙ length_permutation given x.cells x.same

  -- ---- what is left

  placed_long : length placed.placed ≡ c.space.block_count
  placed_long = placed_size x.answers c.space ∙ z.sealable.space.placed_size

  pub fair : IsLawful placed
  fair = placed_lawful c.space x.answers z.sealable.space placed_long

  held : unused_count (with_all_held placed a blocks) + length blocks ≡ unused_count placed
  held =
      held_left blocks placed a fair x.planned.is_for.different
      (λ b has. All-contains (IsUnused placed) blocks b x.planned.is_for.unused has)

  same_left : unused_count (sealed_in p.space a) ≡ unused_count (with_all_held placed a blocks)
  same_left = sealed_unused p.space a ∙ ap unused_count x.planned.held

  rest_is : (sealed_in p.space a).atoms ≡ without_account a c.space.atoms
  rest_is =
      ap (λ (s : Space). without_account a s.atoms) x.planned.held
      ∙ sealed_rest placed.atoms placed.sealed a
      ∙ ap (λ (s : Space). without_account a s.atoms) (rest_stays c.space x.answers)

  count_then : (sealed_in p.space a).block_count ≡ c.space.block_count
  count_then =
      ap (λ (s : Space). s.block_count) x.planned.held ∙ same_count c.space x.answers

  -- the space is a lawful one still
  pub lawful_sealed : IsLawful (sealed_in p.space a)
  lawful_sealed =
      let all = dues-without bitmaps a c.space.atoms z.sealable.space.once in
      let few = z.sealable.space.dues_small in
      subst (λ (s : Space). IsLawful (sealed_in s a)) (sym x.planned.held) (record {
        least = fair.least;
        most = fair.most;
        marked_size = fair.marked_size;
        placed_size = fair.placed_size;
        fixed = fair.fixed;
        held_within =
            All-append (λ (w : Claim). w.block.0 < placed.block_count) placed.held
            (map (λ (n : ℕ). record { atom = a; block = record { 0 = n } }) blocks) fair.held_within
            (within blocks x.planned.is_for.unused);
        deferred_within = fair.deferred_within;
        once = subst EachOnce (sym rest_placed) (once-without a c.space.atoms z.sealable.space.once);
        dues_small =
            subst
            (λ (n : ℕ). dues (bitmap_count n) (without_account a (with_atom placed.atoms placed.sealed a)) ≤ 1048576)
            (sym (same_count c.space x.answers))
            (subst (λ (l : List SpaceAccount). dues bitmaps l ≤ 1048576) (sym rest_placed) (omega (arith, all, few)));
      })
    where
      rest_placed : without_account a (with_atom placed.atoms placed.sealed a) ≡ without_account a c.space.atoms
      rest_placed =
          sealed_rest placed.atoms placed.sealed a
          ∙ ap (λ (s : Space). without_account a s.atoms) (rest_stays c.space x.answers)

      within : (bs : List ℕ) → All (IsUnused placed) bs
          → All (λ (w : Claim). w.block.0 < placed.block_count)
          (map (λ (n : ℕ). record { atom = a; block = record { 0 = n } }) bs)
      within [] all = All-nil (λ (w : Claim). w.block.0 < placed.block_count)
      within (n ∷ bs) all =
          All-cons (λ (w : Claim). w.block.0 < placed.block_count) (record { atom = a; block = record { 0 = n } })
          (map (λ (k : ℕ). record { atom = a; block = record { 0 = k } }) bs)
          (All-head (IsUnused placed) n bs all).0 (within bs (All-tail (IsUnused placed) n bs all))

  covered : dues (bitmap_count (sealed_in p.space a).block_count) (sealed_in p.space a).atoms
      ≤ unused_count (sealed_in p.space a)
  covered =
      let account = k.same a z.can.opened in
      let all = dues-without bitmaps a c.space.atoms z.sealable.space.once in
      let cells = account.0 in
      let fresh = account.1 in
      let some = z.can.some in
      let priced : price_of (account_at c.space.atoms a).cells bitmaps
      ≡ price_formula (account_at c.space.atoms a).cells bitmaps =
      cond-false ((account_at c.space.atoms a).cells == 0) 0 _
      (ne_eqb (account_at c.space.atoms a).cells 0
      (λ none. omega (arith, none, cells, some))) in
      let log =
      log_blocks placed a (cells_of p.renamed.items) _ _ c.volume.prev x.planned.plan x.planned.is_for
      (account_at c.space.atoms a).cells (let many = few in let count = as_many in omega (arith, many, count, cells)) in
      let maps : bitmap_count placed.block_count ≡ bitmaps = ap bitmap_count (same_count c.space x.answers) in
      let log_there =
      subst (λ (n : ℕ). length blocks ≤ price_formula (account_at c.space.atoms a).cells n) maps log in
      let left = unused_left 22 c.space x.cells x.answers z.sealable.space x.chosen in
      let new_ones = as_fresh in
      let enough = k.covered in
      let here = held in
      let there = same_left in
      let goal_at : dues bitmaps (without_account a c.space.atoms) ≤ unused_count (sealed_in p.space a) =
      omega (arith, all, cells, fresh, priced, log_there, left, new_ones, enough, here, there) in
      subst (λ (n : ℕ). dues (bitmap_count n) (sealed_in p.space a).atoms ≤ unused_count (sealed_in p.space a))
      (sym count_then)
      (subst (λ (l : List SpaceAccount). dues bitmaps l ≤ unused_count (sealed_in p.space a)) (sym rest_is) goal_at)

  -- ---- the other atoms

  abbrev states_count : length c.atoms.atoms ≡ length c.atoms.txns
  states_count = (z.kept.history.told None tt).atoms.states

  other_open : (n : ℕ) → IsOpenAtom new.atoms n → IsOpenAtom c.atoms n × (n ≢ a.0)
  other_open n opened = (
    open_before c.atoms new.atoms a.0 z.has.txns z.has.states states_count z.can.opened.atom.begun n opened,
    another c.atoms new.atoms a.0 z.has.txns z.has.states states_count z.can.opened.atom.begun n opened,
  )

  accounts_same : (n : ℕ) → account_of new.atoms n ≡ account_of c.atoms n
  accounts_same = account_then c.atoms new.atoms a.0 z.has.txns z.has.states states_count z.can.opened.atom.begun

  account_there : (n : AtomNo) → n.0 ≢ a.0
      → account_at (sealed_in p.space a).atoms n ≡ account_at c.space.atoms n
  account_there n other =
      ap (λ (l : List SpaceAccount). account_at l n) rest_is ∙ other_account n a c.space.atoms other

  counts_on : (n cells fresh : ℕ) → n ≢ a.0 → CountsCells c.buffer c.atoms n cells fresh
      → CountsCells new.buffer new.atoms n cells fresh
  counts_on n cells fresh other g = record {
    nodes = g.nodes;
    different = g.different;
    just = λ i. (
      λ has.
          (let (own, dirty) = (g.just i).0 has in
          let not = (λ (mine : owner_of c.atoms i ≡ Some a.0). other (cc (sym own ∙ mine))) in
          let (miss, old) = facts.other_misses r d c new a given p z i not (stands i own) in (
            z.has.owners i ∙ owner_other a.0 p.renamed.items i (owner_of c.atoms i) miss not ∙ own,
            ap is_dirty_by (facts.same_there r d c new a given p z i miss old) ∙ dirty,
          )),
      λ both.
          (let (own, miss) =
          owner_before a.0 p.renamed.items i (owner_of c.atoms i) n other (sym (z.has.owners i) ∙ both.0) in
          let not = (λ (mine : owner_of c.atoms i ≡ Some a.0). other (cc (sym own ∙ mine))) in
          let (miss, old) = facts.other_misses r d c new a given p z i not (stands i own) in
          (g.just i).1 (own, sym (ap is_dirty_by (facts.same_there r d c new a given p z i miss old)) ∙ both.1)),
    );
    cells_are = g.cells_are;
    fresh_are = g.fresh_are;
  }
    where
      stands : (i : ℕ) → owner_of c.atoms i ≡ Some n → IsClear c i → ⊥
      stands i own clear = absurd (cc (sym clear.owner ∙ own))

  -- ---- what is held, and room

  pub still : IsStill c.space.sealed c.space.held c.space.placed
  still = subst (λ (o : Option Commit). HoldsOf o c.space.sealed c.space.held c.space.placed) z.can.rest
      (k.holds z.can.sound)

  held_for : IsFor a (sealed_in p.space a).sealed (sealed_in p.space a).held
  held_for = record {
    alone =
        subst (λ (l : List AtomNo). (sealed_atoms p.space.atoms l a ≡ []) ⊎ (sealed_atoms p.space.atoms l a ≡ a ∷ []))
        (sym none_sealed) (by (is_open p.space.atoms a));
    own =
        ap (λ (s : Space). claims_without a s.held) x.planned.held
        ∙ ap
        (λ (l : List Claim).
        claims_without a (l ++ map (λ (b : ℕ). record { atom = a; block = record { 0 = b } }) blocks))
        (ap (λ (s : Space). s.held) (rest_stays c.space x.answers) ∙ still.none_held)
        ∙ none_of_others a blocks;
  }
    where
      none_sealed : p.space.sealed ≡ []
      none_sealed =
          ap (λ (s : Space). s.sealed) x.planned.held ∙ ap (λ (s : Space). s.sealed) (rest_stays c.space x.answers)
          ∙ still.none_sealed

      by : (t : Bool) → (cond t (a ∷ []) [] ≡ []) ⊎ (cond t (a ∷ []) [] ≡ a ∷ [])
      by true = inr refl
      by false = inl refl

  abbrev turns : TurnsSeen
  turns = turns_with_pins (name_then p.renamed.items) c.turns

  cells_same : cells_owed turns.turns ≡ cells_owed c.turns.turns
  cells_same = sums_then (name_then p.renamed.items) c.turns cells_for by
    where
      by : (o : Option Out) → cells_for (option_map (with_pins (name_then p.renamed.items)) o) ≡ cells_for o
      by None = refl
      by (Some out) = refl

  claims_same : claims_owed turns.turns ≡ claims_owed c.turns.turns
  claims_same = sums_then (name_then p.renamed.items) c.turns claims_for by
    where
      by : (o : Option Out) → claims_for (option_map (with_pins (name_then p.renamed.items)) o) ≡ claims_for o
      by None = refl
      by (Some out) = refl

  spare_same : (sealed_in p.space a).spare ≡ c.space.spare
  spare_same =
      ap (λ (s : Space). s.spare) x.planned.held ∙ ap (λ (s : Space). s.spare) (rest_stays c.space x.answers)

  pub accounts_sealed : (after : CoreSeen D) → after ≡ record after {
    turns = turns;
    atoms = new.atoms;
    buffer = new.buffer;
    space = sealed_in p.space a;
    commit = Some (record { atom = a; nodes = z.has.nodes; work = Some p.plan });
    trace = with_entry c.trace (Sealed a);
  } → AreAccounts after
  accounts_sealed after same = subst AreAccounts (sym same) (record {
    covered = covered;
    same = λ n opened.
        (let (was, other) = other_open n.0 opened in
        let one = k.same n was in
        let acc = accounts_same n.0 in
        let there = account_there n other in (
          ap (λ (y : SpaceAccount). y.cells) there ∙ one.0 ∙ sym (ap (λ (y : Account). y.cells) acc),
          ap (λ (y : SpaceAccount). y.fresh) there ∙ one.1 ∙ sym (ap (λ (y : Account). y.fresh) acc),
        ));
    counted = λ n opened.
        (let (was, other) = other_open n opened in
        subst (λ (y : Account). CountsCells new.buffer new.atoms n y.cells y.fresh) (sym (accounts_same n))
        (counts_on n _ _ other (k.counted n was)));
    unknown = λ n none.
        (let not = (λ (begun : IsBegun c.atoms n.0). none (begun_then c.atoms new.atoms a.0 z.has.txns z.has.states
        states_count z.can.opened.atom.begun n.0 begun)) in
        account_there n (λ same. not (subst (IsBegun c.atoms) (sym same) z.can.opened.atom.begun)) ∙ k.unknown n not);
    objects = λ n opened.
        (let (was, other) = other_open n opened in
        let one = k.objects n was in
        let acc = accounts_same n in
        let dones = dones_stay c.atoms new.atoms n c.trace.entries
        (atom_then c.atoms new.atoms a.0 z.has.txns z.has.states states_count z.can.opened.atom.begun) in
        let born : (account_of new.atoms n).born ≡ (account_of c.atoms n).born = ap (λ (y : Account). y.born) acc in
        let gone : (account_of new.atoms n).gone ≡ (account_of c.atoms n).gone = ap (λ (y : Account). y.gone) acc in
        let least = one.0 in
        let most = one.1 in
        (omega (arith, least, born, dones), omega (arith, most, gone, dones)));
    holds = λ sound. held_for;
    room_to_capture =
        let le = k.room_to_capture in let more = z.has.captures in let same = cells_same in
        omega (arith, le, more, same);
    room_for_cells =
        let le = k.room_for_cells in let more = z.has.places in let same = cells_same in omega (arith, le, more, same);
    room_to_defer =
        let le = k.room_to_defer in let more = spare_same in let same = claims_same in omega (arith, le, more, same);
  })
