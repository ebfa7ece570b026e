-- A piece parted in two: what both name, their units, and the bytes that they take up.
use Rattle.std.proofs.Common.{◌≡◌, ℕ, zero, suc, ◌+◌, ◌-◌, ◌*◌, ◌^◌, ◌<◌, Bool, true, false, [], ◌∷◌, ◌++◌, refl, sym, ap, subst, ◌∙◌, arith}
use Rattle.std.specs.Prelude.{slice_index, ◌==◌}
use Rattle.std.proofs.lemmas.Bool.{ne_eqb}
use Rattle.std.proofs.lemmas.Option.{same_Some}
use Rattle.r4_base.specs.Cell.{run_names, zeros_from}
use Rattle.r4_base.specs.Extents.{is_hole, unit_past}
use Rattle.r4_base.specs.Key.{IsKey, offset_of, rank, later}
use Rattle.r4_base.specs.Tree.{Name}
use Rattle.r4_base.specs.declared.items.Unit.{Unit as ExtentUnit}
use Rattle.r4_base.specs.declared.key.Key.{Key}
use Rattle.r4_branch.proofs.r4_twig.Cuts.{lawful-cut_at}
use Rattle.r4_branch.specs.Pieces.{IsSoundPart, part_names, part_units}
use Rattle.r4_branch.specs.declared.piece.TwigPart.TheVariants.{Blocks}

-- ---- the key of the second part

pub later_rank : (k : Key) (n : ℕ) → rank (later k n) ≡ rank k + n
unfolding rank
later_rank k n = omega arith

pub later_offset : (k : Key) (n : ℕ) → offset_of (later k n) ≡ offset_of k + n
later_offset k n = refl

pub later_key : (k : Key) (n : ℕ) → IsKey k → offset_of k + n < 2 ^ 64 → IsKey (later k n)
later_key k n h lt = record { four = refl; small = by_place }
  where
    by_place : (i : ℕ) → slice_index (later k n).el i < 2 ^ 64
    by_place zero = h.small 0
    by_place (suc zero) = h.small 1
    by_place (suc (suc zero)) = h.small 2
    by_place (suc (suc (suc zero))) = lt
    by_place (suc (suc (suc (suc i)))) = omega arith

-- ---- names

runs_parts : (k start n m : ℕ) → run_names k start (n + m) ≡ run_names k start n ++ run_names (k + 4096 * n) (start + n) m
runs_parts k start zero m =
    let a : k ≡ k + 4096 * 0 = omega arith in
    let b : start ≡ start + 0 = omega arith in
    let c : 0 + m ≡ m = omega arith in
    ap (run_names k start) c ∙ (ap (λ (j : ℕ). run_names j start m) a ∙ ap (λ (s : ℕ). run_names (k + 4096 * 0) s m) b)
runs_parts k start (suc n) m =
    let a : k + 4096 + 4096 * n ≡ k + 4096 * suc n = omega arith in
    let b : start + 1 + n ≡ start + suc n = omega arith in
    let c : suc n + m ≡ suc (n + m) = omega arith in
    let head : Name = record { id = start; level = 0; lo = k; hi = k + 4096 } in
    ap (run_names k start) c
    ∙ ap (λ ns. head ∷ ns) (runs_parts (k + 4096) (start + 1) n m
    ∙ (ap (λ (j : ℕ). run_names (k + 4096) (start + 1) n ++ run_names j (start + 1 + n) m) a
    ∙ ap (λ (s : ℕ). run_names (k + 4096) (start + 1) n ++ run_names (k + 4096 * suc n) s m) b))

zeros_parts : (k n m : ℕ) → zeros_from k (n + m) ≡ zeros_from k n ++ zeros_from (k + n) m
zeros_parts k zero m =
    let a : k ≡ k + 0 = omega arith in
    let c : 0 + m ≡ m = omega arith in
    ap (zeros_from k) c ∙ ap (λ (j : ℕ). zeros_from j m) a
zeros_parts k (suc n) m =
    let a : k + 1 + n ≡ k + suc n = omega arith in
    let c : suc n + m ≡ suc (n + m) = omega arith in
    ap (zeros_from k) c ∙ ap (λ zs. zeros_from k 1 ++ zs) (zeros_parts (k + 1) n m ∙ ap (λ (j : ℕ). zeros_from (k + 1) n ++ zeros_from j m) a)

module _ (u : ExtentUnit) (n : ℕ) (some : 0 < n) (lt : n < u.width) where
  abbrev pub first : ExtentUnit
  first = record u { width = n }

  abbrev pub rest : ExtentUnit
  rest = unit_past n u

  whole : n + (u.width - n) ≡ u.width
  whole = omega (arith, lt)

  behind_zero : ((u.start + n) == 0) ≡ false
  behind_zero = ne_eqb (u.start + n) 0 (λ e. omega (arith, e, some))

  pub half_names : (k next : ℕ) → part_names k next (Blocks u) ≡ part_names k next (Blocks first) ++ part_names (k + 4096 * n) next (Blocks rest)
  half_names k next = by_hole (is_hole u) refl
    where
      by_hole : (t : Bool) → t ≡ is_hole u → part_names k next (Blocks u) ≡ part_names k next (Blocks first) ++ part_names (k + 4096 * n) next (Blocks rest)
      by_hole true e = rw (sym e) refl
      by_hole false e =
          rw (sym e, behind_zero) (ap (run_names k u.start) (sym whole) ∙ runs_parts k u.start n (u.width - n))

  pub half_units : (k : ℕ) → part_units k (Blocks u) ≡ part_units k (Blocks first) ++ part_units (k + 4096 * n) (Blocks rest)
  half_units k = by_hole (is_hole u) refl
    where
      by_hole : (t : Bool) → t ≡ is_hole u → part_units k (Blocks u) ≡ part_units k (Blocks first) ++ part_units (k + 4096 * n) (Blocks rest)
      by_hole true e =
          let both : 4096 * n + 4096 * (u.width - n) ≡ 4096 * u.width = omega (arith, whole) in
          rw (sym e) (ap (zeros_from k) (sym both) ∙ zeros_parts k (4096 * n) (4096 * (u.width - n)))
      by_hole false e = rw (sym e, behind_zero) refl

  pub half_sound : (o : ℕ) → IsSoundPart o (Blocks u) → IsSoundPart o (Blocks first) × IsSoundPart (o + 4096 * n) (Blocks rest)
  half_sound o h =
      let cut = lawful-cut_at true (2 ^ 64) (u ∷ []) 0 n some (λ v is. subst (λ (x : ExtentUnit). n < x.width) (same_Some u v is) lt) (h.0, tt) in
      let fits = h.1 in
      ((cut.0, omega (arith, fits, lt)), (cut.1.0, omega (arith, fits, lt)))
