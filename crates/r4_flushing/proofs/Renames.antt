-- The cells of an atom that may be sealed may get the names of their blocks.
use Rattle.std.proofs.Common.{◌≡◌, inl, inr, ⊎_elim, ℕ, ◌^◌, ◌<◌, ◌≤◌, true, false, List, [], ◌∷◌}
use Rattle.std.proofs.Common.{map, length, Option, Some, None, refl, sym, ◌∙◌, ap, subst, arith}
use Rattle.std.specs.Prelude.{Contains, IsSome, nat_eq}
use Rattle.std.specs.Arc.{arc_value}
use Rattle.std.specs.List.{AllByRecursion, IsDistinct}
use Rattle.std.proofs.lemmas.Bool.{cases_lt, ne_eqb}
use Rattle.std.proofs.lemmas.Simd.{map-map}
use Rattle.r4_atoms.specs.Atoms.{owner_of}
use Rattle.r4_base.proofs.Members.{member_here, member_later}
use Rattle.r4_base.specs.Bitmap.{is_fixed}
use Rattle.r4_base.specs.Image.{AreDifferent}
use Rattle.r4_base.specs.declared.things.AtomNo.{AtomNo}
use Rattle.r4_renaming.specs.r4_buffer.Seen.{IsLawful as AreNamed, buffered}
use Rattle.r4_accounting.specs.r4_cell.Seen.{CellSeen}
use Rattle.r4_renaming.specs.r4_commit.Places.{place_of}
use Rattle.r4_renaming.specs.r4_flush.Anew.{AreMade, new_name}
use Rattle.r4_renaming.specs.r4_flush.Prepared.{WasCell, cells_of}
use Rattle.r4_renaming.specs.r4_flush.declared.cells.RenamedCell.{RenamedCell}
use Rattle.r4_renaming.specs.r4_flush.declared.preparing.Prepared.{Prepared}
use Rattle.r4_accounting.proofs.r4_history.Places.{next_there}
use Rattle.r4_outside.specs.Device.{State}
use Rattle.r4_renaming.specs.Renamed.{CanRename, MayGet}
use Rattle.r4_space.specs.Lawful.{IsLawful}
use Rattle.r4_space.specs.Space.{is_taken}
use Rattle.r4_renaming.specs.r4_turns.Turns.{HasNext, IsScript, turn_at}
use Rattle.r4_renaming.specs.r4_turns.declared.out.Out.{Out}
use Rattle.r4_renaming.proofs.r4_wander.Members.{any_here}
use Rattle.r4_accounting.specs.r4_kept.Kept.{IsKept}
use Rattle.r4_accounting.specs.r4_kept.Naming.{Naming}
use Rattle.r4_accounting.specs.r4_kept.View.{CoreSeen}
use Rattle.r4_flushing.specs.Sealable.{MaySeal}
use Rattle.r4_flushing.specs.Sealing.{super_to_come}
use Rattle.r4_flushing.proofs.NewNames as names
use Rattle.r4_flushing.proofs.Preparing as preparing

-- ---- lists

distinct : (bs : List ℕ) → AreDifferent bs → IsDistinct nat_eq bs
unfolding IsDistinct
distinct [] different = tt
distinct (b ∷ bs) different = (all_other bs different.0, distinct bs different.1)
  where
    all_other : (cs : List ℕ) → (Contains cs b → ⊥) → AllByRecursion (λ y. nat_eq b y ≡ false) cs
    all_other [] out = tt
    all_other (c ∷ cs) out =
        (ne_eqb b c (λ is. out (member_here c cs b is)), all_other cs (λ h. out (member_later c cs b h)))

old_names : (f : ℕ → ℕ) (xs : List CellSeen) (rs : List RenamedCell) → AreMade (WasCell f) xs rs
    → map (λ (r : RenamedCell). r.was.0) rs ≡ map (λ (y : CellSeen). y.id) xs
old_names f [] [] made = refl
old_names f [] (r ∷ rs) made = absurd made
old_names f (y ∷ xs) [] made = absurd made
old_names f (y ∷ xs) (r ∷ rs) made =
    ap (λ (i : ℕ). i ∷ map (λ (q : RenamedCell). q.was.0) rs) made.0.was
    ∙ ap (λ (l : List ℕ). y.id ∷ l) (old_names f xs rs made.1)

first_of : (xs : List CellSeen) → 0 < length xs → (y : CellSeen) × Contains xs y
first_of [] some = absurd (omega (arith, some))
first_of (y ∷ ys) some = (y, any_here y ys y refl)

-- ---- the condition

module _ {D : Type 0} (r : Naming) (d : State) (c : CoreSeen D) (a : AtomNo) (given : List CellSeen) (p : Prepared)
    (k : IsKept r d c) (may : MaySeal c a p given) (lawful : IsLawful c.space) (buffer : AreNamed c.buffer) where
  abbrev rs : List RenamedCell
  rs = p.renamed.items

  abbrev f : ℕ → ℕ
  f = new_name (place_of may.prepared.answers)

  owned : (y : CellSeen) → Contains given y → owner_of c.atoms y.id ≡ Some a.0
  owned y has = ((may.are.just y).0 has).0

  entry : (y : CellSeen) → Contains given y → IsSome (buffered c.buffer y.id)
  entry y has =
      let (e, at, same) = preparing.entry_of r d c a given k may.can may.are buffer y has in
      subst IsSome (sym at) refl

  stand : (y : CellSeen) → Contains given y → y.id < 2 ^ 63
      → (y.id < c.space.block_count) × (is_fixed c.space.block_count y.id ≡ false) × (is_taken c.space y.id ≡ true)
  stand y has low =
      let (e, at, same) = preparing.entry_of r d c a given k may.can may.are buffer y has in
      let name = (k.cells.buffered_names y.id e at).own in
      let count = k.cells.space in
      ⊎_elim
      (λ block. (
        subst (λ (n : ℕ). y.id < n) (sym count) (subst (λ (w : CellSeen). w.id < c.volume.super40.block_count) same block.0),
        subst (λ (n : ℕ). is_fixed n y.id ≡ false) (sym count)
            (subst (λ (w : CellSeen). is_fixed c.volume.super40.block_count w.id ≡ false) same block.1),
        may.own y.id (owned y has) low,
      ))
      (λ fresh.
      (let high = subst (λ (w : CellSeen). 2 ^ 63 ≤ w.id) same fresh.0 in absurd (omega (arith, low, high)))) name

  came_from : (q : RenamedCell) → Contains rs q → (y : CellSeen) × Contains given y × WasCell f y q
  came_from =
      names.came_from given a (super_to_come c a.0) c.volume.prev c.space p may.prepared lawful may.are.different stand

  new_low : (y : CellSeen) → Contains given y → f y.id < 2 ^ 63
  new_low =
      names.new_low given a (super_to_come c a.0) c.volume.prev c.space p may.prepared lawful may.are.different stand

  some_renamed : (q : RenamedCell) × Contains rs q
  some_renamed =
      let many = preparing.as_many r d c a given k may.can may.are buffer in
      let some = may.can.some in
      let (y, has) = first_of given (omega (arith, many, some)) in
      let (q, in_rs, made) =
      names.comes_to given a (super_to_come c a.0) c.volume.prev c.space p may.prepared lawful may.are.different stand
      y has in (q, in_rs)

  may_get : (q : RenamedCell) → Contains rs q → MayGet c.buffer c.atoms q
  may_get q has =
      let (y, in_given, made) = came_from q has in
      elim (cases_lt y.id (2 ^ 63)) [
        | inl low ↦
            inl (
              made.was
                  ∙ sym (names.old_stays given a (super_to_come c a.0) c.volume.prev c.space p may.prepared lawful
                  may.are.different stand y.id low)
                  ∙ sym made.cell.id,
              subst (λ (i : ℕ). i < 2 ^ 63) (sym made.was) low,
            )
        | inr high ↦
            (let was_high = subst (λ (i : ℕ). 2 ^ 63 ≤ i) (sym made.was) high in
            let clear = may.clear.renamed q has was_high in
            inr (
              was_high,
              subst (λ (i : ℕ). i < 2 ^ 63) (sym made.cell.id) (new_low y in_given),
              clear.cell,
              clear.owner,
            ))
      ]

  has_next : (s : ℕ) → IsScript c.turns s → (o : Option Out) → (turn_at c.turns s).out ≡ o → IsSome o → HasNext c.turns s
  has_next s script None is some = absurd (cc some)
  has_next s script (Some out) is some =
      let served = k.tables.tasks.served s out (record { is_script = script; is_out = is }) in
      next_there c.turns s served.command served.next

  pub can_rename : CanRename (record { buffer = c.buffer; atoms = c.atoms; turns = c.turns }) a.0 rs
  can_rename = record {
    is_atom = may.can.opened.atom;
    some = some_renamed;
    before =
        subst (IsDistinct nat_eq) (sym (old_names f may.prepared.cells rs may.prepared.renamed))
        (distinct (map (λ (y : CellSeen). y.id) may.prepared.cells)
        (names.once_in_order given a (super_to_come c a.0) c.volume.prev c.space p may.prepared lawful
        may.are.different stand));
    then =
        subst (IsDistinct nat_eq) (map-map (λ (y : CellSeen). y.id) (λ (q : RenamedCell). arc_value q.cell) rs)
        (distinct (map (λ (y : CellSeen). y.id) (cells_of rs))
        (names.once_then given a (super_to_come c a.0) c.volume.prev c.space p may.prepared lawful
        may.are.different stand));
    own = λ q has.
        (let (y, in_given, made) = came_from q has in ap (owner_of c.atoms) made.was ∙ owned y in_given);
    there = λ q has.
        (let (y, in_given, made) = came_from q has in
        subst (λ (i : ℕ). IsSome (buffered c.buffer i)) (sym made.was) (entry y in_given));
    may = may_get;
    next = λ s script some. has_next s script (turn_at c.turns s).out refl some;
  }
