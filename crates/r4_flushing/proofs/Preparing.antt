-- What `prepare` asks for the cells of an atom that may be sealed holds of each core: as many blocks are unused as the
-- price of the cells and one for each without a block, each of the others has a block of the volume, and the
-- superblock to come counts the blocks of the space.
use Rattle.std.proofs.Common.{◌≡◌, ⊎_elim, ℕ, ◌+◌, ◌^◌, ◌<◌, ◌≤◌, ◌==◌, true, false, cond, List, [], ◌∷◌}
use Rattle.std.proofs.Common.{map, length, Option, Some, None, refl, sym, ◌∙◌, ap, subst, arith}
use Rattle.std.specs.Prelude.{All, Contains, IsSome, count_by, nat_le, sum_by}
use Rattle.std.specs.Option.{option_map}
use Rattle.std.proofs.lemmas.Bool.{cond-false, ne_eqb}
use Rattle.std.proofs.lemmas.List.{length-map}
use Rattle.std.proofs.lemmas.List.Sums.{sum_by-cons}
use Rattle.r4_atoms.specs.Atoms.{account_of, owner_of}
use Rattle.r4_base.proofs.Choices.{never_both}
use Rattle.r4_base.specs.Bitmap.{bitmap_count, is_fixed}
use Rattle.r4_base.specs.declared.things.AtomNo.{AtomNo}
use Rattle.r4_renaming.specs.r4_buffer.Seen.{EntrySeen, IsLawful as AreNamed, buffered, is_dirty_by}
use Rattle.r4_accounting.specs.r4_cell.Seen.{CellSeen}
use Rattle.r4_renaming.proofs.r4_commit.Safety.{fixed_low}
use Rattle.r4_renaming.specs.r4_flush.Asked.{StandsIn, fresh_cell, fresh_count}
use Rattle.r4_renaming.proofs.r4_flush.Choosing.{all_of}
use Rattle.r4_outside.specs.Device.{State}
use Rattle.r4_space.specs.Accounts.{account_at, price_formula, price_of}
use Rattle.r4_space.specs.Lawful.{IsLawful}
use Rattle.r4_space.specs.Space.{unused_count}
use Rattle.r4_space.proofs.AccountLaws.{dues-without}
use Rattle.r4_renaming.proofs.r4_wander.Members.{from_map, in_map}
use Rattle.r4_accounting.specs.r4_kept.Accounts.{CountsCells}
use Rattle.r4_accounting.specs.r4_kept.Kept.{IsKept}
use Rattle.r4_accounting.specs.r4_kept.Naming.{Naming}
use Rattle.r4_accounting.specs.r4_kept.View.{CoreSeen}
use Rattle.r4_flushing.specs.Sealing.{AreCellsOf, CanSeal, super_to_come}
use Rattle.r4_flushing.proofs.Counting.{count_same, different_from, length_same}

fresh_ids : (ys : List CellSeen)
    → sum_by fresh_cell ys ≡ count_by (nat_le (2 ^ 63)) (map (λ (y : CellSeen). y.id) ys)
fresh_ids [] = refl
fresh_ids (y ∷ ys) =
    let rest = fresh_ids ys in
    let one = sum_by-cons fresh_cell y ys in
    let two = sum_by-cons (λ (i : ℕ). cond (nat_le (2 ^ 63) i) 1 0) y.id (map (λ (n : CellSeen). n.id) ys) in
    omega (arith, rest, one, two)

module _ {D : Type 0} (r : Naming) (d : State) (c : CoreSeen D) (a : AtomNo) (given : List CellSeen)
    (k : IsKept r d c) (can : CanSeal c a) (cells : AreCellsOf c.buffer c.atoms a.0 given) (buffer : AreNamed c.buffer)
  where
    abbrev mine : CountsCells c.buffer c.atoms a.0 (account_of c.atoms a.0).cells (account_of c.atoms a.0).fresh
    mine = k.accounts.counted a.0 can.opened

    abbrev ids : List ℕ
    ids = map (λ (y : CellSeen). y.id) given

    pub entry_of : (y : CellSeen) → Contains given y
        → (e : EntrySeen) × (buffered c.buffer y.id ≡ Some e) × (e.cell ≡ y)
    entry_of y has = by (buffered c.buffer y.id) refl ((cells.just y).0 has).1
      where
        by : (o : Option EntrySeen) → buffered c.buffer y.id ≡ o → option_map (λ (e : EntrySeen). e.cell) o ≡ Some y
            → (e : EntrySeen) × (buffered c.buffer y.id ≡ Some e) × (e.cell ≡ y)
        by None at is = absurd (cc is)
        by (Some e) at is = (e, at, (let same : e.cell ≡ y = cc is in same))

    pub is_given : (i : ℕ) (e : EntrySeen) → buffered c.buffer i ≡ Some e → owner_of c.atoms i ≡ Some a.0
        → Contains given e.cell × (e.cell.id ≡ i)
    is_given i e at own =
        let named = buffer.named i e at in (
          (cells.just e.cell).1 (
            ap (owner_of c.atoms) named ∙ own,
            ap (option_map (λ (n : EntrySeen). n.cell)) (ap (buffered c.buffer) named ∙ at),
          ),
          named,
        )

    in_nodes : (i : ℕ) → Contains ids i → Contains mine.nodes i
    in_nodes i has =
        let (y, in_given, same) = from_map (λ (y : CellSeen). y.id) given i has in
        let (e, at, cell) = entry_of y in_given in
        let own = ((cells.just y).0 in_given).0 in
        subst (Contains mine.nodes) (sym same)
        ((mine.just y.id).1
        (own, ap is_dirty_by at ∙ (k.cells.dirty y.id e at).1 (subst IsSome (sym own) refl)))

    in_ids : (i : ℕ) → Contains mine.nodes i → Contains ids i
    in_ids i has = by (buffered c.buffer i) refl ((mine.just i).0 has).1
      where
        by : (o : Option EntrySeen) → buffered c.buffer i ≡ o → is_dirty_by o ≡ true → Contains ids i
        by None at e = absurd (cc e)
        by (Some e) at is =
            let (there, named) = is_given i e at ((mine.just i).0 has).0 in
            subst (Contains ids) named (in_map (λ (y : CellSeen). y.id) given e.cell there)

    -- the atom has as many cells as its account counts, and as many without a block
    pub as_many : length given ≡ (account_of c.atoms a.0).cells
    as_many =
        let long = length-map given (λ (y : CellSeen). y.id) in
        let same =
        length_same ids mine.nodes (different_from ids cells.different) (different_from mine.nodes mine.different)
        in_nodes in_ids in
        let count = mine.cells_are in
        omega (arith, long, same, count)

    pub as_fresh : fresh_count given ≡ (account_of c.atoms a.0).fresh
    as_fresh =
        let ids_are = fresh_ids given in
        let same =
        count_same (nat_le (2 ^ 63)) ids mine.nodes (different_from ids cells.different)
        (different_from mine.nodes mine.different) in_nodes in_ids in
        let count = mine.fresh_are in
        omega (arith, ids_are, same, count)

    pub has_room : IsLawful c.space
        → price_formula (length given) (bitmap_count c.space.block_count) + fresh_count given ≤ unused_count c.space
    has_room lawful =
        let account = k.accounts.same a can.opened in
        let all = dues-without (bitmap_count c.space.block_count) a c.space.atoms lawful.once in
        let cells_are = account.0 in
        let fresh_are = account.1 in
        let some = can.some in
        let priced : price_of (account_at c.space.atoms a).cells (bitmap_count c.space.block_count)
        ≡ price_formula (account_at c.space.atoms a).cells (bitmap_count c.space.block_count) =
        cond-false ((account_at c.space.atoms a).cells == 0) 0 _
        (ne_eqb (account_at c.space.atoms a).cells 0 (λ none. omega (arith, none, cells_are, some))) in
        let many = as_many in
        let fresh = as_fresh in
        let enough = k.accounts.covered in
        omega (arith, all, cells_are, fresh_are, priced, many, fresh, enough)

    pub all_stand : All (StandsIn c.space.block_count) given
    all_stand = all_of (StandsIn c.space.block_count) given (λ y has low.
        (let (e, at, same) = entry_of y has in
        let name = (k.cells.buffered_names y.id e at).own in
        ⊎_elim
        (λ block. (
          λ none.
              never_both (is_fixed c.volume.super40.block_count y.id)
              (fixed_low c.volume.super40.block_count y.id (omega (arith, none)))
              (subst (λ (w : CellSeen). is_fixed c.volume.super40.block_count w.id ≡ false) same block.1),
          (let within = subst (λ (w : CellSeen). w.id < c.volume.super40.block_count) same block.0 in
              let count = k.cells.space in
              omega (arith, within, count)),
        ))
        (λ fresh.
        (let high = subst (λ (w : CellSeen). 2 ^ 63 ≤ w.id) same fresh.0 in absurd (omega (arith, low, high)))) name))

    pub same_blocks : (super_to_come c a.0).block_count ≡ c.space.block_count
    same_blocks = sym k.cells.space
