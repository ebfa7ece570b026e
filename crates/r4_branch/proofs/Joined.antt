-- The units of an extent with one more behind them.
use Rattle.std.proofs.Common.{◌≡◌, inl, inr, ℕ, ◌+◌, ◌-◌, ◌*◌, ◌/◌, ◌%◌, ◌^◌, ◌<◌, true, List, [], ◌∷◌, ◌++◌, length, get_or, refl, sym, ap, ◌∙◌, arith}
use Rattle.std.proofs.lemmas.Bool.{cases_lt}
use Rattle.std.proofs.lemmas.List.{append_assoc, append-nil, get_or-append_right, get_or_append_left, length-append, same_lists}
use Rattle.r4_base.specs.Cell.{block_names, hole_bytes}
use Rattle.r4_base.specs.Extents.{AreLawfulUnits, IsLawfulUnit, blocks_in, unit_at, units_of}
use Rattle.r4_base.specs.declared.items.Unit.{Unit as ExtentUnit}
use Rattle.r4_twig.proofs.Places.{get_or-units_of, length-units_of, unit_at-moved}
use Rattle.r4_branch.specs.Pieces.{part_names, part_units}
use Rattle.r4_branch.specs.declared.piece.TwigPart.TheVariants.{Blocks}

module _ (xs ys : List ℕ) (u : ExtentUnit) (even : length xs % 16 ≡ 0) (long : length ys ≡ 16) (one : units_of ys ≡ u ∷ []) where
  before : (k : ℕ) → k < length xs / 16 → unit_at (xs ++ ys) k ≡ unit_at xs k
  before k lt = unit_at-moved k k (xs ++ ys) xs (λ j less. get_or_append_left xs ys 0 (16 * k + j) (omega (arith, lt, less)))

  last : (k : ℕ) → k ≡ length xs / 16 → unit_at (xs ++ ys) k ≡ unit_at ys 0
  last k is = unit_at-moved k 0 (xs ++ ys) ys (λ j less.
      get_or-append_right xs ys (length xs) (16 * k + j) 0 refl (omega (arith, is, even)) ∙ ap (λ n. get_or ys n 0) (let e : 16 * k + j - length xs ≡ 16 * 0 + j = omega (arith, is, even) in e))

  last_unit : (k : ℕ) (d : ExtentUnit) → k ≡ length xs / 16 → get_or (units_of xs ++ u ∷ []) k d ≡ u
  last_unit k d is =
      let n = length-units_of xs in
      get_or-append_right (units_of xs) (u ∷ []) k k d (n ∙ sym is) (omega arith) ∙ ap (λ j. get_or (u ∷ []) j d) (let z : k - k ≡ 0 = omega arith in z)

  pub units_joined : units_of (xs ++ ys) ≡ units_of xs ++ u ∷ []
  units_joined =
      let both = length-append xs ys in
      let n = length-units_of xs in
      let m = length-units_of (xs ++ ys) in
      let more = length-append (units_of xs) (u ∷ []) in
      same_lists (units_of (xs ++ ys)) (units_of xs ++ u ∷ []) (omega (arith, both, n, m, more, long, even)) (λ k d lt. elim (cases_lt k (length xs / 16)) [
        | inl less ↦
            get_or-units_of k d (xs ++ ys) (omega (arith, lt, m)) ∙ (before k less ∙ (sym (get_or-units_of k d xs less) ∙ sym (get_or_append_left (units_of xs) (u ∷ []) d k (omega (arith, less, n)))))
        | inr past ↦
            let is : k ≡ length xs / 16 = omega (arith, past, lt, m, both, long, even) in
            get_or-units_of k d (xs ++ ys) (omega (arith, lt, m)) ∙ (last k is ∙ (sym (get_or-units_of 0 d ys (omega (arith, long))) ∙ (ap (λ us. get_or us 0 d) one ∙ sym (last_unit k d is))))
      ])

pub lawful_joined : (us : List ExtentUnit) (u : ExtentUnit) → AreLawfulUnits true (2 ^ 64) us → IsLawfulUnit true (2 ^ 64) u → AreLawfulUnits true (2 ^ 64) (us ++ u ∷ [])
lawful_joined [] u h l = (l, tt)
lawful_joined (y ∷ us) u h l = (h.0, lawful_joined us u h.1 l)

pub blocks_joined : (us : List ExtentUnit) (u : ExtentUnit) → blocks_in (us ++ u ∷ []) ≡ blocks_in us + u.width
blocks_joined [] u = omega arith
blocks_joined (y ∷ us) u = let h = blocks_joined us u in omega (arith, h)

pub holes_joined : (k : ℕ) (us : List ExtentUnit) (u : ExtentUnit) → hole_bytes k (us ++ u ∷ []) ≡ hole_bytes k us ++ part_units (k + 4096 * blocks_in us) (Blocks u)
holes_joined k [] u = append-nil (part_units k (Blocks u)) ∙ ap (λ (j : ℕ). part_units j (Blocks u)) (let z : k ≡ k + 4096 * 0 = omega arith in z)
holes_joined k (y ∷ us) u =
    let far : k + 4096 * y.width + 4096 * blocks_in us ≡ k + 4096 * blocks_in (y ∷ us) = omega arith in
    ap (λ vs. part_units k (Blocks y) ++ vs) (holes_joined (k + 4096 * y.width) us u ∙ ap (λ (j : ℕ). hole_bytes (k + 4096 * y.width) us ++ part_units j (Blocks u)) far)
    ∙ sym (append_assoc (part_units k (Blocks y)) (hole_bytes (k + 4096 * y.width) us) (part_units (k + 4096 * blocks_in (y ∷ us)) (Blocks u)))

pub runs_joined : (k next : ℕ) (us : List ExtentUnit) (u : ExtentUnit) → block_names k (us ++ u ∷ []) ≡ block_names k us ++ part_names (k + 4096 * blocks_in us) next (Blocks u)
runs_joined k next [] u = append-nil (part_names k next (Blocks u)) ∙ ap (λ (j : ℕ). part_names j next (Blocks u)) (let z : k ≡ k + 4096 * 0 = omega arith in z)
runs_joined k next (y ∷ us) u =
    let far : k + 4096 * y.width + 4096 * blocks_in us ≡ k + 4096 * blocks_in (y ∷ us) = omega arith in
    ap (λ vs. part_names k next (Blocks y) ++ vs) (runs_joined (k + 4096 * y.width) next us u ∙ ap (λ (j : ℕ). block_names (k + 4096 * y.width) us ++ part_names j next (Blocks u)) far)
    ∙ sym (append_assoc (part_names k next (Blocks y)) (block_names (k + 4096 * y.width) us) (part_names (k + 4096 * blocks_in (y ∷ us)) next (Blocks u)))
