-- What a step reads, as a pool of cells.
use Rattle.std.proofs.Common.{◌≡◌, ◌⊎◌, inl, inr, ⊎_elim, ℕ, zero, suc, ◌^◌, ◌<◌, ◌≤◌, Bool, true, false, ◌||◌, List, refl, sym, ap, subst, ◌∙◌, arith}
use Rattle.std.specs.Prelude.{Option, Some, None, IsSome, Result, Ok, Err, Contains, [], nat_eq, nat_lt, if◌then◌else◌}
use Rattle.std.specs.Map.{lookup}
use Rattle.std.specs.Option.{option_map}
use Rattle.std.proofs.lemmas.Bool.{lt-ltb, ltb-true}
use Rattle.std.proofs.lemmas.Option.{none-some, same_Some}
use Rattle.r4_base.specs.Cell.{cell_fault}
use Rattle.r4_base.specs.Image.{Image, IsImage, block_at}
use Rattle.r4_base.specs.Key.{rank}
use Rattle.r4_base.specs.Tree.{Name}
use Rattle.r4_base.specs.declared.items.CellFault.{CellFault}
use Rattle.r4_base.specs.declared.things.BlockNo.{BlockNo}
use Rattle.r4_outside.specs.Device.{State, TellsReads, Goes as DeviceGoes}
use Rattle.r4_outside.proofs.Moments.{goes_same as device_same}
use Rattle.r4_search.specs.r4_cell.Seen.{CellSeen, node_of}
use Rattle.r4_search.proofs.r4_cell.NamesBelow.{names_below}
use Rattle.r4_search.specs.Pool.{FaultIs, Fetches, IsAnswer, IsFrom, IsKeptOrRead, IsKnown, IsNamed, IsOf, KnowsNames, StandsInMemory, place_fault}
use Rattle.r4_search.specs.OnDevice.{block_there, device_state}
use Rattle.r4_search.specs.declared.pool.FetchFault.{FetchFault}
use Rattle.r4_search.specs.declared.pool.FetchFault.TheVariants.{Damaged}
use Rattle.r4_search.proofs.FromDevice.{answers, is_read, stops}
use Rattle.r4_search.proofs.Kept.{fits}
use Rattle.r4_search.proofs.Walks.{named_below}
use Rattle.r4_buffer.specs.Seen.{BufferSeen, EntrySeen, buffered, cell_at, is_captured}
use Rattle.r4_buffer.specs.Reading.{AreNamed, IsReadable, NamesStand, captured_in, reading_places}

-- ---- cells in memory

-- a data block is accepted whatever its bytes are
pub no_level : (in_memory : Bool) (blocks level lo hi : ℕ) (b : List ℕ) → level ≡ 0 → cell_fault in_memory blocks level lo hi b ≡ None
unfolding cell_fault
no_level in_memory blocks zero lo hi b is = refl
no_level in_memory blocks (suc level) lo hi b is = absurd (omega (arith, is))

pub held_entry : (b : BufferSeen) (i : ℕ) (c : CellSeen) → cell_at b i ≡ Some c → (e : EntrySeen) × (buffered b i ≡ Some e) × (e.cell ≡ c)
held_entry b i c h = by_entry (buffered b i) refl h
  where
    by_entry : (o : Option EntrySeen) → buffered b i ≡ o → option_map (λ (e : EntrySeen). e.cell) o ≡ Some c → (e : EntrySeen) × (buffered b i ≡ Some e) × (e.cell ≡ c)
    by_entry None at g = absurd (none-some c g)
    by_entry (Some e) at g = (e, at, same_Some e.cell c g)

pub absent_free : (b : BufferSeen) (i : ℕ) → cell_at b i ≡ None → is_captured b i ≡ false
absent_free b i h = by_entry (buffered b i) refl h
  where
    by_entry : (o : Option EntrySeen) → buffered b i ≡ o → option_map (λ (e : EntrySeen). e.cell) o ≡ None → is_captured b i ≡ false
    by_entry None at g = rw at refl
    by_entry (Some e) at g = absurd (none-some e.cell (sym g))

-- what a cell that is accepted on disk names are blocks
names_on_disk : (b : BufferSeen) (blocks : ℕ) (c : CellSeen) → cell_fault false blocks c.level (rank c.lo) (rank c.hi) c.block ≡ None → NamesStand b blocks c
names_on_disk b blocks c sound n has = let low = names_below blocks c.level (rank c.lo) (rank c.hi) c.block n sound has in rw (lt-ltb _ _ low) refl

pub captured_kept : (b : BufferSeen) (i : ℕ) → is_captured b i ≡ true → captured_in b i ≡ cell_at b i
captured_kept b i held = ap (λ (t : Bool). if t then cell_at b i else None) held

pub captured_none : (b : BufferSeen) (i : ℕ) → is_captured b i ≡ false → captured_in b i ≡ None
captured_none b i free = ap (λ (t : Bool). if t then cell_at b i else None) free

-- a name that can be asked for and is not captured is a block
pub is_block : (root : Name) (d : State) (b : BufferSeen) (blocks : ℕ) (n : Name) → is_captured b n.id ≡ false → IsKnown (device_state (reading_places root b blocks) d) n → n.id < blocks
is_block root d b blocks n free h = ⊎_elim (λ some. absurd (no_cell (captured_in b n.id) some (captured_none b n.id free))) (λ below. below) h.stands
  where
    no_cell : (o : Option CellSeen) → IsSome o → o ≡ None → ⊥
    no_cell (Some c) some h = none-some c (sym h)
    no_cell None some h = absurd cc

module _ {T : Type 0} (view : T → CellSeen) (root : Name) (d : State) (b : BufferSeen) (blocks : ℕ) (n : Name) where
  -- a captured cell is asked for with another level or range
  pub captured_fetched : (k : CellSeen) (at : BlockNo) (fault : CellFault) → is_captured b n.id ≡ true → cell_at b n.id ≡ Some k → at.0 ≡ n.id → place_fault n k ≡ Some fault
      → Fetches view n (device_state (reading_places root b blocks) d) (Err (Damaged at fault)) (device_state (reading_places root b blocks) d)
  captured_fetched k at fault held is same h = stops view (reading_places root b blocks) d d (device_same d) refl n (Damaged at fault)
      (same, subst (λ (o : Option CellSeen). FaultIs blocks n o (block_there d (λ i. i) n.id) (Some fault)) (sym (captured_kept b n.id held ∙ is)) (sym h))

  -- a cell in memory that fits
  module _ (named : AreNamed b) (readable : IsReadable d b blocks) (x : CellSeen) (is : cell_at b n.id ≡ Some x) (fit : place_fault n x ≡ None) (stands : StandsInMemory x) where
    id_is : x.id ≡ n.id
    id_is = let (e, at, same) = held_entry b n.id x is in ap (λ (c : CellSeen). c.id) (sym same) ∙ named n.id e at

    -- it is kept, or it is the block of the device
    stored : (e : EntrySeen) → buffered b n.id ≡ Some e → e.cell ≡ x → (t : Bool) → is_captured b n.id ≡ t → IsKeptOrRead blocks (captured_in b n.id) (block_there d (λ i. i) n.id) x × NamesStand b blocks x
    stored e at same true held = (
      subst (λ (o : Option CellSeen). IsKeptOrRead blocks o (block_there d (λ i. i) n.id) x) (sym (captured_kept b n.id held ∙ is)) refl,
      subst (NamesStand b blocks) same (readable.names n.id e at held),
    )
    stored e at same false free =
        let sound : cell_fault false blocks x.level (rank x.lo) (rank x.hi) x.block ≡ None = subst (λ (c : CellSeen). cell_fault false blocks c.level (rank c.lo) (rank c.hi) c.block ≡ None) same (readable.accepted n.id e at free) in
        let told : TellsReads d → x.block ≡ block_at d.seen n.id = λ tells. ap (λ (c : CellSeen). c.block) (sym same) ∙ readable.same tells n.id e at free in (
          subst (λ (o : Option CellSeen). IsKeptOrRead blocks o (block_there d (λ i. i) n.id) x) (sym (captured_none b n.id free)) (is_read d (λ i. i) n.id blocks x told sound (block_there d (λ i. i) n.id) refl),
          names_on_disk b blocks x sound,
        )

    of_memory : IsKeptOrRead blocks (captured_in b n.id) (block_there d (λ i. i) n.id) x × NamesStand b blocks x
    of_memory = let (e, at, same) = held_entry b n.id x is in stored e at same (is_captured b n.id) refl

    of_name : IsOf (device_state (reading_places root b blocks) d) x
    of_name = subst (λ (i : ℕ). IsKeptOrRead blocks (captured_in b i) (block_there d (λ j. j) i) x) (sym id_is) of_memory.0

    from_of : (o : Option CellSeen) → captured_in b x.id ≡ o → IsKeptOrRead blocks o (block_there d (λ j. j) x.id) x → IsFrom (device_state (reading_places root b blocks) d) x
    from_of (Some k) at h = inl (at ∙ ap Some (sym h))
    from_of None at h = inr h

    some_cell : (i : ℕ) → is_captured b i ≡ true → IsSome (captured_in b i)
    some_cell i held = subst (λ (o : Option CellSeen). IsSome o) (sym (captured_kept b i held)) (by (cell_at b i) refl)
      where
        by : (o : Option CellSeen) → cell_at b i ≡ o → IsSome (cell_at b i)
        by (Some c) at = rw at refl
        by None at = let e = sym held ∙ absent_free b i at in absurd cc

    stands_there : (i : ℕ) (t : Bool) → nat_lt i blocks ≡ t → (t || is_captured b i) ≡ true → IsSome (captured_in b i) ⊎ (i < blocks)
    stands_there i true low h = inr (ltb-true _ _ low)
    stands_there i false high h = inl (some_cell i h)

    pub memory_fetched : IsKnown (device_state (reading_places root b blocks) d) n → (y : T) → view y ≡ x
        → Fetches view n (device_state (reading_places root b blocks) d) (Ok y) (device_state (reading_places root b blocks) d)
    memory_fetched known y same = answers view (reading_places root b blocks) d d (device_same d) refl n y
        (subst (λ (c : CellSeen). IsAnswer n (device_state (reading_places root b blocks) d) c (device_state (reading_places root b blocks) d)) (sym same) answer)
      where
        named_is : IsNamed n x
        named_is = fits n x id_is fit

        knows : KnowsNames (device_state (reading_places root b blocks) d) x
        knows m has = record {
          stands = stands_there m.id (nat_lt m.id blocks) refl (of_memory.1 m has);
          named = named_below root (IsFrom (device_state (reading_places root b blocks) d)) n m x known.named named_is (from_of (captured_in b x.id) refl of_name) has;
        }

        answer : IsAnswer n (device_state (reading_places root b blocks) d) x (device_state (reading_places root b blocks) d)
        answer = record { named = named_is; is_of = of_name; stands = stands; knows = knows }

-- ---- the device goes on

-- cells in memory can be read from as before
pub readable_on : (d e : State) (b : BufferSeen) (blocks : ℕ) → DeviceGoes d e → e.seen ≡ d.seen → IsReadable d b blocks → IsReadable e b blocks
readable_on d e b blocks goes seen r = record {
  accepted = r.accepted;
  same = λ tells i entry at free. r.same (told tells) i entry at free ∙ ap (λ (s : Image). block_at s i) (sym seen);
  names = r.names;
}
  where
    told : TellsReads e → TellsReads d
    told tells = subst (λ (s : Image). IsImage d.blocks s) seen (subst (λ (n : ℕ). IsImage n e.seen) goes.blocks tells)

-- from no cells in memory, all is read from the device
pub readable_empty : (d : State) (b : BufferSeen) (blocks : ℕ) → b.entries ≡ [] → IsReadable d b blocks
readable_empty d b blocks empty = record {
  accepted = λ i e h free. absurd (none i e h);
  same = λ tells i e h free. absurd (none i e h);
  names = λ i e h held. absurd (none i e h);
}
  where
    none : (i : ℕ) (e : EntrySeen) → buffered b i ≡ Some e → ⊥
    none i e h = none-some e (sym (ap (λ (es : List (ℕ × EntrySeen)). lookup (nat_eq i) es) empty) ∙ h)
