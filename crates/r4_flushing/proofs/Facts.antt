-- What is known as an atom is sealed: its cells before and after, and the names that they get.
use Rattle.std.proofs.Common.{◌≡◌, ◌⊎◌, inl, inr, ⊎_elim, ℕ, ◌^◌, ◌<◌, ◌≤◌, true, false, List}
use Rattle.std.proofs.Common.{Some, refl, sym, ◌∙◌, ap, subst, arith}
use Rattle.std.specs.Prelude.{Contains, IsSome}
use Rattle.std.specs.Arc.{arc_value}
use Rattle.std.proofs.lemmas.Bool.{cases_Bool, cases_lt}
use Rattle.r4_atoms.specs.Atoms.{owner_of}
use Rattle.r4_base.specs.Bitmap.{is_fixed}
use Rattle.r4_base.specs.declared.superblock.Super40.{Super40}
use Rattle.r4_base.specs.declared.things.AtomNo.{AtomNo}
use Rattle.r4_renaming.specs.r4_buffer.Changed.{has_name}
use Rattle.r4_renaming.specs.r4_buffer.Seen.{EntrySeen, buffered}
use Rattle.r4_accounting.specs.r4_cell.Seen.{CellSeen}
use Rattle.r4_renaming.specs.r4_commit.Places.{place_of}
use Rattle.r4_renaming.specs.r4_flush.Anew.{new_name}
use Rattle.r4_renaming.specs.r4_flush.Prepared.{IsPrepared, WasCell, cells_of}
use Rattle.r4_renaming.specs.r4_flush.declared.cells.RenamedCell.{RenamedCell}
use Rattle.r4_renaming.specs.r4_flush.declared.preparing.Prepared.{Prepared}
use Rattle.r4_outside.specs.Device.{State}
use Rattle.r4_renaming.specs.r4_place.Chosen.{fresh_blocks}
use Rattle.r4_space.specs.Space.{is_taken}
use Rattle.r4_accounting.specs.r4_kept.Cells.{IsName}
use Rattle.r4_accounting.specs.r4_kept.Kept.{IsKept}
use Rattle.r4_accounting.specs.r4_kept.Naming.{Naming}
use Rattle.r4_accounting.specs.r4_kept.View.{CoreSeen, blocks_of}
use Rattle.r4_flushing.specs.Sealable.{IsClear, IsSealable}
use Rattle.r4_renaming.specs.Renaming.{name_then, was_named}
use Rattle.r4_flushing.specs.Sealing.{CanSeal, HasSealed, super_to_come}
use Rattle.r4_flushing.proofs.NewNames as names
use Rattle.r4_flushing.proofs.Preparing as preparing

-- all that is known
pub record Sealing
    {D : Type 0} (r : Naming) (d : State) (c new : CoreSeen D) (a : AtomNo) (given : List CellSeen) (p : Prepared)
    : Type 0
  where
    pub kept : IsKept r d c
    pub can : CanSeal c a
    pub has : HasSealed c new a given p
    pub sealable : IsSealable c new a given p

module _ {D : Type 0} (r : Naming) (d : State) (c new : CoreSeen D) (a : AtomNo) (given : List CellSeen) (p : Prepared)
    (z : Sealing r d c new a given p) where
  abbrev pub next : Super40
  next = super_to_come c a.0

  abbrev pub x : IsPrepared given a next c.volume.prev c.space p
  x = z.has.prepared

  abbrev pub rs : List RenamedCell
  rs = p.renamed.items

  abbrev pub f : ℕ → ℕ
  f = new_name (place_of x.answers)

  -- ---- the atom's cells

  pub owned : (y : CellSeen) → Contains given y → owner_of c.atoms y.id ≡ Some a.0
  owned y has = ((z.has.cells_are.just y).0 has).0

  pub entry_of : (y : CellSeen) → Contains given y → (e : EntrySeen) × (buffered c.buffer y.id ≡ Some e) × (e.cell ≡ y)
  entry_of = preparing.entry_of r d c a given z.kept z.can z.has.cells_are z.sealable.buffer

  pub dirty_of : (y : CellSeen) (e : EntrySeen) → Contains given y → buffered c.buffer y.id ≡ Some e → e.dirty ≡ true
  dirty_of y e has at = (z.kept.cells.dirty y.id e at).1 (subst IsSome (sym (owned y has)) refl)

  pub is_given : (i : ℕ) (e : EntrySeen) → buffered c.buffer i ≡ Some e → owner_of c.atoms i ≡ Some a.0
      → Contains given e.cell × (e.cell.id ≡ i)
  is_given = preparing.is_given r d c a given z.kept z.can z.has.cells_are z.sealable.buffer

  pub count : c.space.block_count ≡ blocks_of c
  count = z.kept.cells.space

  own_name : (y : CellSeen) → Contains given y → IsName (blocks_of c) c.numbers.next_name y.id
  own_name y has =
      let (e, at, same) = entry_of y has in
      subst (λ (n : CellSeen). IsName (blocks_of c) c.numbers.next_name n.id) same
      (z.kept.cells.buffered_names y.id e at).own

  pub stand : (y : CellSeen) → Contains given y → y.id < 2 ^ 63
      → (y.id < c.space.block_count) × (is_fixed c.space.block_count y.id ≡ false) × (is_taken c.space y.id ≡ true)
  stand y has low = ⊎_elim
      (λ block. (
        subst (λ (n : ℕ). y.id < n) (sym count) block.0,
        subst (λ (n : ℕ). is_fixed n y.id ≡ false) (sym count) block.1,
        z.sealable.own y.id (owned y has) low,
      ))
      (λ fresh. (let high = fresh.0 in absurd (omega (arith, low, high)))) (own_name y has)

  -- ---- their new names

  pub came_from : (q : RenamedCell) → Contains rs q → (y : CellSeen) × Contains given y × WasCell f y q
  came_from = names.came_from given a next c.volume.prev c.space p x z.sealable.space z.has.cells_are.different stand

  pub comes_to : (y : CellSeen) → Contains given y → (q : RenamedCell) × Contains rs q × WasCell f y q
  comes_to = names.comes_to given a next c.volume.prev c.space p x z.sealable.space z.has.cells_are.different stand

  pub was_given : (i : ℕ) → was_named rs i ≡ true → (y : CellSeen) × Contains given y × (y.id ≡ i)
  was_given = names.was_given given a next c.volume.prev c.space p x z.sealable.space z.has.cells_are.different stand

  pub given_was : (y : CellSeen) → Contains given y → was_named rs y.id ≡ true
  given_was = names.given_was given a next c.volume.prev c.space p x z.sealable.space z.has.cells_are.different stand

  pub named_given : (i : ℕ) → has_name (cells_of rs) i ≡ true → (y : CellSeen) × Contains given y × (f y.id ≡ i)
  named_given =
      names.named_given given a next c.volume.prev c.space p x z.sealable.space z.has.cells_are.different stand

  pub given_named : (y : CellSeen) → Contains given y → has_name (cells_of rs) (f y.id) ≡ true
  given_named =
      names.given_named given a next c.volume.prev c.space p x z.sealable.space z.has.cells_are.different stand

  pub old_stays : (i : ℕ) → i < 2 ^ 63 → f i ≡ i
  old_stays = names.old_stays given a next c.volume.prev c.space p x z.sealable.space z.has.cells_are.different stand

  pub new_low : (y : CellSeen) → Contains given y → f y.id < 2 ^ 63
  new_low = names.new_low given a next c.volume.prev c.space p x z.sealable.space z.has.cells_are.different stand

  pub fresh_there : (y : CellSeen) → Contains given y → 2 ^ 63 ≤ y.id → Contains (fresh_blocks x.answers) (f y.id)
  fresh_there =
      names.fresh_there given a next c.volume.prev c.space p x z.sealable.space z.has.cells_are.different stand

  pub fresh_clear : (y : CellSeen) → Contains given y → 2 ^ 63 ≤ y.id → is_taken c.space (f y.id) ≡ false
  fresh_clear =
      names.fresh_clear given a next c.volume.prev c.space p x z.sealable.space z.has.cells_are.different stand

  pub same_name : (y q : CellSeen) → Contains given y → Contains given q → f y.id ≡ f q.id → y.id ≡ q.id
  same_name = names.same_name given a next c.volume.prev c.space p x z.sealable.space z.has.cells_are.different stand

  pub name_given : (y : CellSeen) → Contains given y → name_then rs y.id ≡ f y.id
  name_given = names.name_given given a next c.volume.prev c.space p x z.sealable.space z.has.cells_are.different stand

  pub name_other : (i : ℕ) → was_named rs i ≡ false → name_then rs i ≡ i
  name_other = names.name_other given a next c.volume.prev c.space p x z.sealable.space z.has.cells_are.different stand

  pub name_low : (i : ℕ) → i < 2 ^ 63 → name_then rs i ≡ i
  name_low = names.name_low given a next c.volume.prev c.space p x z.sealable.space z.has.cells_are.different stand

  pub new_block : (y : CellSeen) → Contains given y → (f y.id < blocks_of c) × (is_fixed (blocks_of c) (f y.id) ≡ false)
  new_block y has =
      subst (λ (n : ℕ). (f y.id < n) × (is_fixed n (f y.id) ≡ false)) count
      (names.new_block given a next c.volume.prev c.space p x z.sealable.space z.has.cells_are.different stand y has)

  -- ---- cells in memory then

  -- one that was renamed: an entry of the atom's cell, under its new name
  pub record IsRenamed (i : ℕ) (e : EntrySeen) : Type 0 where
    pub cell : CellSeen
    pub among : Contains given cell
    pub named : f cell.id ≡ i
    pub entry : EntrySeen
    pub was : buffered c.buffer cell.id ≡ Some entry
    pub held : entry.cell ≡ cell
    pub renamed : RenamedCell
    pub in_rs : Contains rs renamed
    pub made : WasCell f cell renamed
    pub is : e ≡ record entry { cell = arc_value renamed.cell }

  -- one that no new name changes
  pub record IsSame (i : ℕ) (e : EntrySeen) : Type 0 where
    pub was : buffered c.buffer i ≡ Some e
    pub not_new : has_name (cells_of rs) i ≡ false
    pub not_old : was_named rs i ≡ false

  pub renamed_there : (y : CellSeen) (e : EntrySeen) → Contains given y → buffered c.buffer y.id ≡ Some e
      → (q : RenamedCell) × Contains rs q × WasCell f y q
      × (buffered new.buffer (f y.id) ≡ Some (record e { cell = arc_value q.cell }))
  renamed_there y e has at =
      let (q, in_rs, made) = comes_to y has in (
        q,
        in_rs,
        made,
        ap (buffered new.buffer) (sym made.cell.id)
            ∙ z.has.cells.there q e in_rs (ap (buffered c.buffer) made.was ∙ at),
      )

  pub entry_cases : (i : ℕ) (e : EntrySeen) → buffered new.buffer i ≡ Some e → IsRenamed i e ⊎ IsSame i e
  entry_cases i e at = elim (cases_Bool (has_name (cells_of rs) i)) [
    | inl hit ↦
        (let (y, has, named) = named_given i hit in
        let (w, there, same) = entry_of y has in
        let (q, in_rs, made, now) = renamed_there y w has there in
        inl (record {
          cell = y;
          among = has;
          named = named;
          entry = w;
          was = there;
          held = same;
          renamed = q;
          in_rs = in_rs;
          made = made;
          is =
              (let both : Some e ≡ Some (record w { cell = arc_value q.cell }) =
              sym at ∙ ap (buffered new.buffer) (sym named) ∙ now in
              cc both);
        }))
    | inr miss ↦ elim (cases_Bool (was_named rs i)) [
      | inl gone ↦ absurd (cc (sym (z.has.cells.gone i gone miss) ∙ at))
      | inr other ↦
          inr (record {
            was = sym (z.has.cells.others i other miss) ∙ at;
            not_new = miss;
            not_old = other;
          })
    ]
  ]

  -- a name that is not one of the atom's cells, before or then, has what it had
  pub same_there : (i : ℕ) → has_name (cells_of rs) i ≡ false → was_named rs i ≡ false
      → buffered new.buffer i ≡ buffered c.buffer i
  same_there i miss other = z.has.cells.others i other miss

  -- ---- who stands on a block keeps it

  -- nothing stands on a block that a new cell of the atom gets
  pub gets_clear : (y : CellSeen) → Contains given y → 2 ^ 63 ≤ y.id → IsClear c (f y.id)
  gets_clear y has high =
      let (q, in_rs, made) = comes_to y has in
      subst (IsClear c) made.cell.id
      (z.sealable.clear.renamed q in_rs (subst (λ (j : ℕ). 2 ^ 63 ≤ j) (sym made.was) high))

  -- a node that another atom owns, or none, and that is not clear, keeps what it has
  pub other_misses : (i : ℕ) → (owner_of c.atoms i ≡ Some a.0 → ⊥) → (IsClear c i → ⊥)
      → (has_name (cells_of rs) i ≡ false) × (was_named rs i ≡ false)
  other_misses i not why = (
    elim (cases_Bool (has_name (cells_of rs) i)) [
      | inl hit ↦
          (let (y, has, named) = named_given i hit in
          elim (cases_lt y.id (2 ^ 63)) [
            | inl low ↦
                absurd (not (ap (owner_of c.atoms) (sym named ∙ old_stays y.id low) ∙ owned y has))
            | inr high ↦ absurd (why (subst (IsClear c) named (gets_clear y has high)))
          ])
      | inr miss ↦ miss
    ],
    elim (cases_Bool (was_named rs i)) [
      | inl hit ↦
          (let (y, has, same) = was_given i hit in
          absurd (not (ap (owner_of c.atoms) (sym same) ∙ owned y has)))
      | inr miss ↦ miss
    ],
  )
