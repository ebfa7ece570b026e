-- The names that the cells of an atom get.
use Rattle.std.proofs.Common.{◌≡◌, inl, inr, ⊎_elim, ℕ, ◌^◌, ◌<◌, ◌≤◌, ◌==◌, true, false, List, []}
use Rattle.std.proofs.Common.{◌∷◌, map, refl, sym, ◌∙◌, ap, subst, arith}
use Rattle.std.specs.Prelude.{Contains, nat_eq}
use Rattle.std.specs.Arc.{arc_value}
use Rattle.std.specs.List.{IsDistinct}
use Rattle.std.proofs.lemmas.Bool.{cases_Bool, cases_lt, cond-false, cond-true, eq-eqb, eqb-true, ne_eqb, or_left}
use Rattle.std.proofs.lemmas.Bool.{or_right}
use Rattle.std.proofs.lemmas.List.Sorted.{Contains-permutation, IsPermutation-map, IsPermutation-sym}
use Rattle.std.proofs.lemmas.Map.Keys.{IsDistinct-IsPermutation}
use Rattle.r4_base.proofs.Choices.{never_both, nothing_in}
use Rattle.r4_base.specs.Bitmap.{is_fixed}
use Rattle.r4_base.specs.Image.{AreDifferent}
use Rattle.r4_base.specs.declared.superblock.Super40.{Super40}
use Rattle.r4_base.specs.declared.things.AtomNo.{AtomNo}
use Rattle.r4_base.specs.declared.things.BlockNo.{BlockNo}
use Rattle.r4_renaming.specs.r4_buffer.Changed.{has_name}
use Rattle.r4_accounting.specs.r4_cell.Seen.{CellSeen}
use Rattle.r4_space.specs.Lawful.{IsLawful}
use Rattle.r4_space.specs.Space.{Space, is_taken}
use Rattle.r4_renaming.specs.r4_place.Chosen.{fresh_blocks}
use Rattle.r4_renaming.proofs.r4_wander.Members.{any_cases, any_here, any_later, from_map, in_map}
use Rattle.r4_renaming.specs.r4_commit.Places.{place_of}
use Rattle.r4_renaming.specs.r4_flush.Anew.{AreMade, new_name}
use Rattle.r4_renaming.specs.r4_flush.Prepared.{IsPrepared, WasCell, cells_of}
use Rattle.r4_renaming.specs.r4_flush.declared.cells.RenamedCell.{RenamedCell}
use Rattle.r4_renaming.specs.r4_flush.declared.preparing.Prepared.{Prepared}
use Rattle.r4_renaming.proofs.r4_flush.Choosing.{made_from}
use Rattle.r4_accounting.proofs.r4_done.Named.{has_one, one_named}
use Rattle.r4_renaming.specs.Renaming.{name_then, was_named}
use Rattle.r4_flushing.proofs.Chosen.{fresh_free, fresh_name, not_fixed, old_name, same_fresh}
use Rattle.r4_flushing.proofs.Counting.{different_from}

-- ---- rows of cells

made_to : {A B : Type 0} (R : A → B → Type 0) (xs : List A) (ys : List B) → AreMade R xs ys → (x : A) → Contains xs x
    → (y : B) × Contains ys y × R x y
made_to R [] [] all x has = absurd (nothing_in x has)
made_to R [] (b ∷ ys) all x has = absurd all
made_to R (a ∷ xs) [] all x has = absurd all
made_to {A = A} R (a ∷ xs) (b ∷ ys) all x has = ⊎_elim
    (λ is. (b, any_here b ys b refl, subst (λ (z : A). R z b) (sym is) all.0))
    (λ later. let (y, in_ys, r) = made_to R xs ys all.1 x later in (y, any_later b ys y in_ys, r))
    (any_cases a xs x has)

pub was_one : (rs : List RenamedCell) (i : ℕ) → was_named rs i ≡ true
    → (r : RenamedCell) × Contains rs r × (r.was.0 ≡ i)
was_one [] i is = absurd (cc is)
was_one (r ∷ rs) i is = elim (cases_Bool (r.was.0 == i)) [
  | inl here ↦ (r, any_here r rs r refl, eqb-true r.was.0 i here)
  | inr not ↦ (let (q, has, at) = was_one rs i (rw not at is) in (q, any_later r rs q has, at))
]

pub one_was : (rs : List RenamedCell) (r : RenamedCell) → Contains rs r → was_named rs r.was.0 ≡ true
one_was [] r has = absurd (nothing_in r has)
one_was (q ∷ rs) r has = ⊎_elim
    (λ is. or_left (q.was.0 == r.was.0) (was_named rs r.was.0)
    (eq-eqb q.was.0 r.was.0 (ap (λ (z : RenamedCell). z.was.0) (sym is))))
    (λ later. or_right (q.was.0 == r.was.0) (was_named rs r.was.0) (one_was rs r later))
    (any_cases q rs r has)

pub cell_from : (rs : List RenamedCell) (y : CellSeen) → Contains (cells_of rs) y
    → (r : RenamedCell) × Contains rs r × (y ≡ arc_value r.cell)
cell_from [] y has = absurd (nothing_in y has)
cell_from (r ∷ rs) y has = ⊎_elim
    (λ is. (r, any_here r rs r refl, is))
    (λ later. let (q, in_rs, is) = cell_from rs y later in (q, any_later r rs q in_rs, is))
    (any_cases (arc_value r.cell) (cells_of rs) y has)

pub cell_in : (rs : List RenamedCell) (r : RenamedCell) → Contains rs r → Contains (cells_of rs) (arc_value r.cell)
cell_in rs r has = in_map (λ (q : RenamedCell). arc_value q.cell) rs r has

stays : (rs : List RenamedCell) (i : ℕ) → was_named rs i ≡ false → name_then rs i ≡ i
stays [] i not = refl
stays (r ∷ rs) i not = elim (cases_Bool (r.was.0 == i)) [
  | inl here ↦ absurd (cc (sym (or_left (r.was.0 == i) (was_named rs i) here) ∙ not))
  | inr other ↦
      cond-false (r.was.0 == i) (arc_value r.cell).id (name_then rs i) other
      ∙ stays rs i (rw other at not)
]

name_of : (f : ℕ → ℕ) (xs : List CellSeen) (rs : List RenamedCell) → AreMade (WasCell f) xs rs → (i : ℕ)
    → was_named rs i ≡ true → name_then rs i ≡ f i
name_of f [] [] all i was = absurd (cc was)
name_of f [] (r ∷ rs) all i was = absurd all
name_of f (x ∷ xs) [] all i was = absurd all
name_of f (x ∷ xs) (r ∷ rs) all i was = elim (cases_Bool (r.was.0 == i)) [
  | inl here ↦
      cond-true (r.was.0 == i) (arc_value r.cell).id (name_then rs i) here ∙ all.0.cell.id
      ∙ ap f (sym all.0.was ∙ eqb-true r.was.0 i here)
  | inr other ↦
      cond-false (r.was.0 == i) (arc_value r.cell).id (name_then rs i) other
      ∙ name_of f xs rs all.1 i (rw other at was)
]

-- ---- what was prepared

module _ (given : List CellSeen) (atom : AtomNo) (next : Super40) (last : BlockNo) (space : Space) (p : Prepared)
    (x : IsPrepared given atom next last space p) (lawful : IsLawful space)
    (once : IsDistinct nat_eq (map (λ (y : CellSeen). y.id) given))
    (stand : (y : CellSeen) → Contains given y → y.id < 2 ^ 63
    → (y.id < space.block_count) × (is_fixed space.block_count y.id ≡ false) × (is_taken space y.id ≡ true)) where
  abbrev f : ℕ → ℕ
  f = new_name (place_of x.answers)

  abbrev rs : List RenamedCell
  rs = p.renamed.items

  in_order : (y : CellSeen) → Contains given y → Contains x.cells y
  in_order y has = Contains-permutation given x.cells y x.same has

  given_one : (y : CellSeen) → Contains x.cells y → Contains given y
  given_one y has = Contains-permutation x.cells given y (IsPermutation-sym given x.cells x.same) has

  pub once_in_order : AreDifferent (map (λ (y : CellSeen). y.id) x.cells)
  once_in_order =
      different_from (map (λ (y : CellSeen). y.id) x.cells)
      (IsDistinct-IsPermutation nat_eq flips (map (λ (y : CellSeen). y.id) given) (map (λ (y : CellSeen). y.id) x.cells)
      (IsPermutation-map (λ (y : CellSeen). y.id) given x.cells x.same) once)
    where
      flips : (i j : ℕ) → nat_eq i j ≡ nat_eq j i
      flips i j = elim (cases_Bool (nat_eq i j)) [
        | inl is ↦ is ∙ sym (eq-eqb j i (sym (eqb-true i j is)))
        | inr not ↦ not ∙ sym (ne_eqb j i (λ same. cc (sym (eq-eqb i j (sym same)) ∙ not)))
      ]

  -- each cell that was renamed is one of the atom's, and the other way round
  pub came_from : (r : RenamedCell) → Contains rs r → (y : CellSeen) × Contains given y × WasCell f y r
  came_from r has =
      let (y, in_xs, made) = made_from (WasCell f) x.cells rs x.renamed r has in (y, given_one y in_xs, made)

  pub comes_to : (y : CellSeen) → Contains given y → (r : RenamedCell) × Contains rs r × WasCell f y r
  comes_to y has = made_to (WasCell f) x.cells rs x.renamed y (in_order y has)

  pub was_given : (i : ℕ) → was_named rs i ≡ true → (y : CellSeen) × Contains given y × (y.id ≡ i)
  was_given i is =
      let (r, has, at) = was_one rs i is in
      let (y, in_given, made) = came_from r has in
      (y, in_given, sym made.was ∙ at)

  pub given_was : (y : CellSeen) → Contains given y → was_named rs y.id ≡ true
  given_was y has =
      let (r, in_rs, made) = comes_to y has in
      subst (λ (i : ℕ). was_named rs i ≡ true) made.was (one_was rs r in_rs)

  pub named_given : (i : ℕ) → has_name (cells_of rs) i ≡ true → (y : CellSeen) × Contains given y × (f y.id ≡ i)
  named_given i is =
      let (z, in_cells, at) = one_named (cells_of rs) i is in
      let (r, in_rs, same) = cell_from rs z in_cells in
      let (y, in_given, made) = came_from r in_rs in
      (y, in_given, sym made.cell.id ∙ ap (λ (c : CellSeen). c.id) (sym same) ∙ at)

  pub given_named : (y : CellSeen) → Contains given y → has_name (cells_of rs) (f y.id) ≡ true
  given_named y has =
      let (r, in_rs, made) = comes_to y has in
      subst (λ (i : ℕ). has_name (cells_of rs) i ≡ true) made.cell.id
      (has_one (cells_of rs) (arc_value r.cell) (cell_in rs r in_rs))

  -- ---- the new names

  pub old_stays : (i : ℕ) → i < 2 ^ 63 → f i ≡ i
  old_stays i low = old_name space lawful x.cells x.answers x.chosen i low

  -- each is a block of the volume that is not fixed
  pub new_block : (y : CellSeen) → Contains given y → (f y.id < space.block_count)
      × (is_fixed space.block_count (f y.id) ≡ false)
  new_block y has = elim (cases_lt y.id (2 ^ 63)) [
    | inl low ↦
        (let (within, free, taken) = stand y has low in
        subst (λ (i : ℕ). (i < space.block_count) × (is_fixed space.block_count i ≡ false)) (sym (old_stays y.id low))
        (within, free))
    | inr high ↦
        (let (b, is, at, fresh) = fresh_name space lawful x.cells x.answers x.chosen y (in_order y has) high in
        let (within, clear) = fresh_free space lawful x.cells x.answers x.chosen b.0 fresh in
        subst (λ (i : ℕ). (i < space.block_count) × (is_fixed space.block_count i ≡ false)) (sym at)
        (within, not_fixed space lawful x.cells x.answers x.chosen b.0 within clear))
  ]

  pub new_low : (y : CellSeen) → Contains given y → f y.id < 2 ^ 63
  new_low y has = let lt = (new_block y has).0 in let most = lawful.most in omega (arith, lt, most)

  -- the block of a cell that had none was chosen, and was not used
  pub fresh_there : (y : CellSeen) → Contains given y → 2 ^ 63 ≤ y.id → Contains (fresh_blocks x.answers) (f y.id)
  fresh_there y has high =
      let (b, is, at, fresh) = fresh_name space lawful x.cells x.answers x.chosen y (in_order y has) high in
      subst (Contains (fresh_blocks x.answers)) (sym at) fresh

  pub fresh_clear : (y : CellSeen) → Contains given y → 2 ^ 63 ≤ y.id → is_taken space (f y.id) ≡ false
  fresh_clear y has high =
      let (b, is, at, fresh) = fresh_name space lawful x.cells x.answers x.chosen y (in_order y has) high in
      subst (λ (i : ℕ). is_taken space i ≡ false) (sym at)
      (fresh_free space lawful x.cells x.answers x.chosen b.0 fresh).1

  -- two cells that get one name are one
  pub same_name : (y z : CellSeen) → Contains given y → Contains given z → f y.id ≡ f z.id → y.id ≡ z.id
  same_name y z in_y in_z same = elim (cases_lt y.id (2 ^ 63)) [
    | inl low_y ↦ elim (cases_lt z.id (2 ^ 63)) [
      | inl low_z ↦ sym (old_stays y.id low_y) ∙ same ∙ old_stays z.id low_z
      | inr high_z ↦ absurd (mixed y z in_y in_z low_y high_z same)
    ]
    | inr high_y ↦ elim (cases_lt z.id (2 ^ 63)) [
      | inl low_z ↦ absurd (mixed z y in_z in_y low_z high_y (sym same))
      | inr high_z ↦
          ap (λ (c : CellSeen). c.id)
          (same_fresh space lawful x.cells x.answers x.chosen once_in_order y z (in_order y in_y) (in_order z in_z)
          high_y high_z same)
    ]
  ]
    where
      mixed : (y z : CellSeen) → Contains given y → Contains given z → y.id < 2 ^ 63 → 2 ^ 63 ≤ z.id
          → f y.id ≡ f z.id → ⊥
      mixed y z in_y in_z low high same =
          never_both (is_taken space y.id) (stand y in_y low).2
          (subst (λ (i : ℕ). is_taken space i ≡ false) (sym same ∙ old_stays y.id low) (fresh_clear z in_z high))

  -- a name that a cell has then, and another had before, is that of a cell which keeps its own
  pub name_kept : (y z : CellSeen) → Contains given y → Contains given z → f y.id ≡ z.id → y.id ≡ z.id
  name_kept y z in_y in_z same =
      let low : z.id < 2 ^ 63 = subst (λ (i : ℕ). i < 2 ^ 63) same (new_low y in_y) in
      same_name y z in_y in_z (same ∙ sym (old_stays z.id low))

  -- ---- the names of all

  pub name_given : (y : CellSeen) → Contains given y → name_then rs y.id ≡ f y.id
  name_given y has = name_of f x.cells rs x.renamed y.id (given_was y has)

  pub name_other : (i : ℕ) → was_named rs i ≡ false → name_then rs i ≡ i
  name_other i not = stays rs i not

  pub name_low : (i : ℕ) → i < 2 ^ 63 → name_then rs i ≡ i
  name_low i low = elim (cases_Bool (was_named rs i)) [
    | inl was ↦ name_of f x.cells rs x.renamed i was ∙ old_stays i low
    | inr not ↦ stays rs i not
  ]

  -- no two renamed cells have one name
  pub once_then : AreDifferent (map (λ (y : CellSeen). y.id) (cells_of rs))
  once_then = go x.cells rs x.renamed once_in_order (λ y has. has)
    where
      go : (xs : List CellSeen) (qs : List RenamedCell) → AreMade (WasCell f) xs qs
          → AreDifferent (map (λ (y : CellSeen). y.id) xs) → ((y : CellSeen) → Contains xs y → Contains x.cells y)
          → AreDifferent (map (λ (y : CellSeen). y.id) (cells_of qs))
      go [] [] all differ within = tt
      go [] (q ∷ qs) all differ within = absurd all
      go (c ∷ xs) [] all differ within = absurd all
      go (c ∷ xs) (q ∷ qs) all differ within = (
        λ again.
            (let (z, in_cells, at) = from_map (λ (y : CellSeen). y.id) (cells_of qs) (arc_value q.cell).id again in
            let (r, in_qs, same) = cell_from qs z in_cells in
            let (y, in_xs, made) = made_from (WasCell f) xs qs all.1 r in_qs in
            let is : f c.id ≡ f y.id =
            sym all.0.cell.id ∙ at ∙ ap (λ (n : CellSeen). n.id) same ∙ made.cell.id in
            differ.0 (subst (Contains (map (λ (n : CellSeen). n.id) xs))
            (sym (same_name c y (given_one c (within c (any_here c xs c refl)))
            (given_one y (within y (any_later c xs y in_xs))) is))
            (in_map (λ (n : CellSeen). n.id) xs y in_xs))),
        go xs qs all.1 differ.1 (λ y has. within y (any_later c xs y has)),
      )
