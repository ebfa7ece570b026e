-- What the turn of a twig of a growing body does to units.
use Rattle.std.proofs.Common.{◌≡◌, ◌⊎◌, ◌↔◌, inl, inr, ℕ, ◌+◌, ◌*◌, ◌^◌, ◌<◌, ◌≤◌, Bool, true, false, cond, List, [], ◌∷◌, refl, sym, ap, subst, ◌∙◌, arith}
use Rattle.std.specs.Prelude.{Contains, None, Some, unwrap_or, ◌==◌, ◌&&◌, ◌||◌, nat_lt}
use Rattle.std.specs.Option.{option_or}
use Rattle.std.proofs.lemmas.Bool.{eqb-true}
use Rattle.std.proofs.lemmas.Bool.Decides.{nat_tests}
use Rattle.std.proofs.lemmas.List.Elements.{Contains-append_cases, Contains-append_left, Contains-append_right}
use Rattle.r4_base.specs.Cell.{zeros_from}
use Rattle.r4_base.specs.Extents.{is_hole}
use Rattle.r4_base.specs.Key.{rank}
use Rattle.r4_base.specs.Value.{Byte, Value}
use Rattle.r4_extent_demands.specs.r4_branch.Pieces.{part_end, part_units, piece_end, units_of}
use Rattle.r4_extent_demands.specs.r4_branch.declared.piece.TwigPart.{TwigPart}
use Rattle.r4_extent_demands.specs.r4_branch.declared.piece.TwigPart.TheVariants.{Blocks, Pointer}
use Rattle.r4_extent_demands.specs.r4_branch.declared.piece.TwigPiece.{TwigPiece}
use Rattle.r4_content.specs.Edited.{Edits, Pairs, is_in, put_keys}
use Rattle.r4_extent_blocks.specs.Setting.{byte_of, byte_set, last_put, zero_in}
use Rattle.r4_extent_demands.specs.r4_leaf.Units.{is_between}
use Rattle.r4_extent_demands.proofs.r4_patch.Members.{here, later, none}
use Rattle.r4_extent_demands.specs.r4_reach.Needs.{gets_bytes, is_hole_part, is_met, meets}
use Rattle.r4_extent_demands.specs.r4_reach.Touched.{Body, first_byte, turns_out}
use Rattle.r4_extent_build.specs.Setting.{in_hole_of, is_hole_of}
use Rattle.r4_extent_build.proofs.UnitsFilled.{in_off, in_on, or_cases, or_left, or_right, other_units}
use Rattle.r4_extent_build.proofs.UnitsOfRuns.{zeros_members}

-- ---- a block that gets no bytes

module _ (k : ℕ) where
  no_put : (ps : Pairs) → is_met (put_keys ps) k (k + 4096) ≡ false → (j : ℕ) → k ≤ j → j < k + 4096 → last_put ps j ≡ None
  no_put [] e j low high = refl
  no_put (p ∷ ps) e j low high =
      let (first, rest) = or_off (meets k (k + 4096) (p.0, p.0 + 1)) (is_met (put_keys ps) k (k + 4096)) e in
      (λ i. option_or (no_put ps rest j low high i) (cond (other first i) (byte_of p.1) None))
    where
      or_off : (x y : Bool) → (x || y) ≡ false → (x ≡ false) × (y ≡ false)
      or_off true y h = absurd cc
      or_off false y h = (refl, h)

      other : meets k (k + 4096) (p.0, p.0 + 1) ≡ false → (p.0 == j) ≡ false
      other h = by_key (p.0 == j) refl
        where
          by_key : (t : Bool) → (p.0 == j) ≡ t → (p.0 == j) ≡ false
          by_key false g = g
          by_key true g = let at = eqb-true p.0 j g in absurd (let one : meets k (k + 4096) (p.0, p.0 + 1) ≡ true = grind (arith, nat_tests) in both_ways h one)
            where
              both_ways : {t : Bool} → t ≡ false → t ≡ true → ⊥
              both_ways x y = absurd cc

pub calm : (b : Body) (e : Edits) → (k : ℕ) → gets_bytes b e k ≡ false → (j : ℕ) → k ≤ j → j < k + 4096 → unwrap_or (byte_set e j) 0 ≡ 0
calm b e k off j low high =
    let puts = no_put k e.puts (first (is_met (put_keys e.puts) k (k + 4096)) (turns_out b && nat_lt k (first_byte b + b.was)) off) j low high in
    (λ i. unwrap_or (option_or (puts i) (zero_in e.zeros j)) 0) ∙ by_zero (is_in e.zeros j)
  where
    first : (x y : Bool) → (x || y) ≡ false → x ≡ false
    first true y h = absurd cc
    first false y h = refl

    by_zero : (t : Bool) → ◌≡◌ {A = ℕ} (unwrap_or (cond t (Some 0) None) 0) 0
    by_zero true = refl
    by_zero false = refl

-- ---- what stood

module _ (b : Body) where
  hole_units : (p : TwigPiece) (j : ℕ) (v : Value) → Contains (part_units (rank p.key) p.part) (j, v)
      ↔ ((((is_hole_of b p && is_between (rank p.key) (piece_end p) j) ≡ true) × (v ≡ Byte 0)) ⊎ Contains (cond (is_hole_of b p) [] (part_units (rank p.key) p.part)) (j, v))
  hole_units p j v = by_test (is_hole_of b p) refl
    where
      by_test : (t : Bool) → is_hole_of b p ≡ t → Contains (part_units (rank p.key) p.part) (j, v)
          ↔ ((((is_hole_of b p && is_between (rank p.key) (piece_end p) j) ≡ true) × (v ≡ Byte 0)) ⊎ Contains (cond (is_hole_of b p) [] (part_units (rank p.key) p.part)) (j, v))
      by_test false off = (
        λ m. inr (subst (λ (t : Bool). Contains (cond t [] (part_units (rank p.key) p.part)) (j, v)) (sym off) m),
        λ m. elim m [ inl h ↦ absurd (not_so (is_hole_of b p) (is_between (rank p.key) (piece_end p) j) off h.0) | inr h ↦ subst (λ (t : Bool). Contains (cond t [] (part_units (rank p.key) p.part)) (j, v)) off h ],
      )
        where
          not_so : (x y : Bool) → x ≡ false → (x && y) ≡ true → ⊥
          not_so true y h g = absurd cc
          not_so false y h g = absurd cc
      by_test true on =
          let (w, part) = as_zeros p.part refl on in
          let units : part_units (rank p.key) p.part ≡ zeros_from (rank p.key) (4096 * w) = ap (part_units (rank p.key)) part in
          let ends : piece_end p ≡ rank p.key + 4096 * w = ap (part_end (rank p.key)) part in
          let z = zeros_members (rank p.key) (4096 * w) j v in
          let test : (is_hole_of b p && is_between (rank p.key) (piece_end p) j) ≡ is_between (rank p.key) (rank p.key + 4096 * w) j = (λ i. on i && is_between (rank p.key) (ends i) j) in (
            λ m. let h = z.0 (subst (λ us. Contains us (j, v)) units m) in inl (test ∙ in_on (rank p.key) (rank p.key + 4096 * w) j h.0.0 h.0.1, h.1),
            λ m. elim m [
              | inl h ↦ subst (λ us. Contains us (j, v)) (sym units) (z.1 (in_off (rank p.key) (rank p.key + 4096 * w) j (sym test ∙ h.0), h.1))
              | inr h ↦ absurd (none (j, v) (subst (λ (t : Bool). Contains (cond t [] (part_units (rank p.key) p.part)) (j, v)) on h))
            ],
          )
        where
          as_zeros : (t : TwigPart) → p.part ≡ t → is_hole_of b p ≡ true → (w : ℕ) × (p.part ≡ Blocks (record { start = 0; width = w }))
          as_zeros (Pointer to) is h = absurd (no_pointer (sym (ap (λ (x : TwigPart). is_hole_part x && is_between (first_byte b) (first_byte b + 2 ^ 64) (rank p.key)) is) ∙ h))
            where
              no_pointer : false ≡ true → ⊥
              no_pointer g = absurd cc
          as_zeros (Blocks u) is h =
              let g : (is_hole u && is_between (first_byte b) (first_byte b + 2 ^ 64) (rank p.key)) ≡ true = sym (ap (λ (x : TwigPart). is_hole_part x && is_between (first_byte b) (first_byte b + 2 ^ 64) (rank p.key)) is) ∙ h in
              (u.width, is ∙ ap (λ (s : ℕ). Blocks (record { start = s; width = u.width })) (eqb-true u.start 0 (first (is_hole u) (is_between (first_byte b) (first_byte b + 2 ^ 64) (rank p.key)) g)))
            where
              first : (x y : Bool) → (x && y) ≡ true → x ≡ true
              first true y q = refl
              first false y q = absurd cc

  pub old_units : (ps : List TwigPiece) (j : ℕ) (v : Value) → Contains (units_of ps) (j, v) ↔ (((in_hole_of b ps j ≡ true) × (v ≡ Byte 0)) ⊎ Contains (other_units b ps) (j, v))
  unfolding units_of
  old_units [] j v = (λ m. inr m, λ m. elim m [ inl h ↦ absurd (none_true h.0) | inr h ↦ h ])
    where
      none_true : false ≡ true → ⊥
      none_true h = absurd cc
  old_units (p ∷ ps) j v =
      let one = hole_units p j v in
      let rest = old_units ps j v in (
        λ m. elim (Contains-append_cases (part_units (rank p.key) p.part) (units_of ps) (j, v) m) [
          | inl a ↦ elim (one.0 a) [ inl h ↦ inl (or_left (is_hole_of b p && is_between (rank p.key) (piece_end p) j) (in_hole_of b ps j) h.0, h.1) | inr h ↦ inr (Contains-append_left (cond (is_hole_of b p) [] (part_units (rank p.key) p.part)) (other_units b ps) (j, v) h) ]
          | inr a ↦ elim (rest.0 a) [ inl h ↦ inl (or_right (is_hole_of b p && is_between (rank p.key) (piece_end p) j) (in_hole_of b ps j) h.0, h.1) | inr h ↦ inr (Contains-append_right (cond (is_hole_of b p) [] (part_units (rank p.key) p.part)) (other_units b ps) (j, v) h) ]
        ],
        λ m. elim m [
          | inl h ↦ elim (or_cases (is_hole_of b p && is_between (rank p.key) (piece_end p) j) (in_hole_of b ps j) h.0) [ inl a ↦ Contains-append_left (part_units (rank p.key) p.part) (units_of ps) (j, v) (one.1 (inl (a, h.1))) | inr a ↦ Contains-append_right (part_units (rank p.key) p.part) (units_of ps) (j, v) (rest.1 (inl (a, h.1))) ]
          | inr h ↦ elim (Contains-append_cases (cond (is_hole_of b p) [] (part_units (rank p.key) p.part)) (other_units b ps) (j, v) h) [ inl a ↦ Contains-append_left (part_units (rank p.key) p.part) (units_of ps) (j, v) (one.1 (inr a)) | inr a ↦ Contains-append_right (part_units (rank p.key) p.part) (units_of ps) (j, v) (rest.1 (inr a)) ]
        ],
      )

  -- where other pieces have units
  part_in : (p : TwigPiece) (j : ℕ) (v : Value) → Contains (part_units (rank p.key) p.part) (j, v) → (rank p.key ≤ j) × (j < piece_end p)
  part_in p j v m = by_part p.part refl
    where
      by_part : (t : TwigPart) → p.part ≡ t → (rank p.key ≤ j) × (j < piece_end p)
      by_part (Pointer to) is = absurd (none (j, v) (subst (λ (x : TwigPart). Contains (part_units (rank p.key) x) (j, v)) is m))
      by_part (Blocks u) is = by_hole (is_hole u) refl
        where
          ends : piece_end p ≡ rank p.key + 4096 * u.width
          ends = ap (part_end (rank p.key)) is

          by_hole : (t : Bool) → is_hole u ≡ t → (rank p.key ≤ j) × (j < piece_end p)
          by_hole false h = absurd (none (j, v) (subst (λ (t : Bool). Contains (cond t (zeros_from (rank p.key) (4096 * u.width)) []) (j, v)) h (subst (λ (x : TwigPart). Contains (part_units (rank p.key) x) (j, v)) is m)))
          by_hole true h =
              let r = ((zeros_members (rank p.key) (4096 * u.width) j v).0 (subst (λ (t : Bool). Contains (cond t (zeros_from (rank p.key) (4096 * u.width)) []) (j, v)) h (subst (λ (x : TwigPart). Contains (part_units (rank p.key) x) (j, v)) is m))).0 in
              let e = ends in
              (omega (arith, r), omega (arith, r, e))

  pub other_in : (ps : List TwigPiece) (j : ℕ) (v : Value) → Contains (other_units b ps) (j, v) → (p : TwigPiece) × Contains ps p × (is_hole_of b p ≡ false) × (rank p.key ≤ j) × (j < piece_end p)
  other_in [] j v m = absurd (none (j, v) m)
  other_in (p ∷ ps) j v m = elim (Contains-append_cases (cond (is_hole_of b p) [] (part_units (rank p.key) p.part)) (other_units b ps) (j, v) m) [
    | inl a ↦ by_test (is_hole_of b p) refl a
    | inr a ↦ let (q, at, off, low, high) = other_in ps j v a in (q, later p q ps at, off, low, high)
  ]
    where
      by_test : (t : Bool) → is_hole_of b p ≡ t → Contains (cond (is_hole_of b p) [] (part_units (rank p.key) p.part)) (j, v) → (q : TwigPiece) × Contains (p ∷ ps) q × (is_hole_of b q ≡ false) × (rank q.key ≤ j) × (j < piece_end q)
      by_test true on a = absurd (none (j, v) (subst (λ (t : Bool). Contains (cond t [] (part_units (rank p.key) p.part)) (j, v)) on a))
      by_test false off a = let r = part_in p j v (subst (λ (t : Bool). Contains (cond t [] (part_units (rank p.key) p.part)) (j, v)) off a) in (p, here p ps, off, r.0, r.1)

  pub hole_in : (ps : List TwigPiece) (j : ℕ) → in_hole_of b ps j ≡ true → (p : TwigPiece) × Contains ps p × (is_hole_of b p ≡ true) × (rank p.key ≤ j) × (j < piece_end p)
  hole_in [] j h = absurd (none_true h)
    where
      none_true : false ≡ true → ⊥
      none_true g = absurd cc
  hole_in (p ∷ ps) j h = elim (or_cases (is_hole_of b p && is_between (rank p.key) (piece_end p) j) (in_hole_of b ps j) h) [
    | inl a ↦ let (x, y) = both (is_hole_of b p) (is_between (rank p.key) (piece_end p) j) a in let r = in_off (rank p.key) (piece_end p) j y in (p, here p ps, x, r.0, r.1)
    | inr a ↦ let (q, at, on, low, high) = hole_in ps j a in (q, later p q ps at, on, low, high)
  ]
    where
      both : (x y : Bool) → (x && y) ≡ true → (x ≡ true) × (y ≡ true)
      both true y g = (refl, g)
      both false y g = absurd cc
