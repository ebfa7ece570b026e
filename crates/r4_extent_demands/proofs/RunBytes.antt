-- How many bytes blocks one after the other need, and how many pieces they are.
use Rattle.std.specs.Prelude.{◌≡◌, ◌⊎◌, ℕ, zero, suc, ◌+◌, ◌*◌, ◌^◌, ◌<◌, ◌≤◌, List, [], ◌∷◌, length, Bool, true, false}
use Rattle.std.specs.Prelude.{None, Option, Some, ◌==◌, nat_lt, if◌then◌else◌}
use Rattle.std.proofs.Common.{arith, inl, inr, refl, sym, ap, subst, ◌∙◌}
use Rattle.std.proofs.lemmas.Bool.{eq-eqb}
use Rattle.r4_base.specs.Extents.{is_hole}
use Rattle.r4_base.specs.Key.{IsKey, key_of_rank, later, offset_of, rank}
use Rattle.r4_base.specs.declared.items.Unit.{Unit as ExtentUnit}
use Rattle.r4_base.specs.declared.key.Key.{Key}
use Rattle.r4_graft.specs.r4_branch.Pieces.{bytes_behind, is_at, open_end, part_bytes, twig_bytes}
use Rattle.r4_graft.specs.r4_branch.declared.piece.TwigPart.{TwigPart}
use Rattle.r4_graft.specs.r4_branch.declared.piece.TwigPart.TheVariants.{Blocks, Pointer}
use Rattle.r4_graft.specs.r4_branch.declared.piece.TwigPiece.{TwigPiece}
use Rattle.r4_graft.proofs.r4_branch.Counted.{costs}
use Rattle.r4_graft.proofs.Halves.{later_key, later_rank}
use Rattle.r4_bodies.proofs.r4_leaf_edits.KeyRanks.{key_again}
use Rattle.r4_bodies.specs.r4_leaf_edits.r4_reach.Needs.{runs, widened}
use Rattle.r4_extent_demands.specs.Pieces.{block_at}
use Rattle.r4_extent_demands.proofs.Rooms.{open_blocks}

-- ---- what a piece costs behind others

pub behind_least : (before : Option ℕ) (ps : List TwigPiece) → twig_bytes ps ≤ bytes_behind before ps + 38
unfolding bytes_behind
behind_least before [] = omega arith
behind_least before (p ∷ ps) = let h = (costs before (rank p.key) p.part).less in omega (arith, h)

pub cost_least : (before : Option ℕ) (k : ℕ) (t : TwigPart) → 16 ≤ part_bytes before k t
cost_least before k (Pointer to) = omega arith
cost_least before k (Blocks u) = by_test (is_at before k)
  where
    by_test : (t : Bool) → 16 ≤ (if t then 16 else 54)
    by_test true = omega arith
    by_test false = omega arith

-- a unit that continues another one
cost_next : (k j : ℕ) (u : ExtentUnit) → j ≡ k → part_bytes (Some k) j (Blocks u) ≡ 16
cost_next k j u e = let t : (k == j) ≡ true = eq-eqb k j (sym e) in rw t refl

pub behind_cons : (before : Option ℕ) (p : TwigPiece) (ps : List TwigPiece)
    → bytes_behind before (p ∷ ps) ≡ part_bytes before (rank p.key) p.part + bytes_behind (open_end p) ps
unfolding bytes_behind
behind_cons before p ps = refl

pub behind_nil : (before : Option ℕ) → bytes_behind before [] ≡ 0
unfolding bytes_behind
behind_nil before = refl

-- ---- the first piece of blocks

abbrev FirstIs : Key → List TwigPiece → Type 0
FirstIs k [] = Unit {0}
FirstIs k (p ∷ ps) = p.key ≡ k

-- how a list is made wider, by what its first piece is
pub record IsWider (k : ℕ) (rest wide : List TwigPiece) : Type 0 where
  pub unit : ExtentUnit
  pub more : List TwigPiece
  pub is : wide ≡ record { key = key_of_rank k; part = Blocks unit } ∷ more
  pub how : ((more ≡ rest) × (unit.width ≡ 1))
      ⊎ ((u : ExtentUnit) × (p : TwigPiece) × (rest ≡ p ∷ more) × (p.part ≡ Blocks u) × (unit.width ≡ u.width + 1))

pub wider : (k : ℕ) (rest : List TwigPiece) → IsWider k rest (widened k rest)
wider k [] = record { unit = record { start = 0; width = 1 }; more = []; is = refl; how = inl (refl, refl) }
wider k (p ∷ ps) = by_part p.part refl
  where
    front : (t : TwigPart) → p.part ≡ t → widened k (p ∷ ps) ≡ widened k (record p { part = t } ∷ ps)
    front t e = ap (λ (x : TwigPart). widened k (record p { part = x } ∷ ps)) e

    by_part : (t : TwigPart) → p.part ≡ t → IsWider k (p ∷ ps) (widened k (p ∷ ps))
    by_part (Pointer to) e = record {
      unit = record { start = 0; width = 1 };
      more = p ∷ ps;
      is = front (Pointer to) e
          ∙ ap (λ (x : TwigPart). record { key = key_of_rank k; part = Blocks (record { start = 0; width = 1 }) }
          ∷ (record p { part = x } ∷ ps)) (sym e);
      how = inl (refl, refl);
    }
    by_part (Blocks u) e = by_hole (is_hole u) refl
      where
        by_hole : (t : Bool) → is_hole u ≡ t → IsWider k (p ∷ ps) (widened k (p ∷ ps))
        by_hole true h = record {
          unit = record u { width = u.width + 1 };
          more = ps;
          is = front (Blocks u) e ∙ (rw h refl);
          how = inr (u, p, refl, e, refl);
        }
        by_hole false h = record {
          unit = record { start = 0; width = 1 };
          more = p ∷ ps;
          is = front (Blocks u) e ∙ (rw h (ap (λ (x : TwigPart). record { key = key_of_rank k; part = Blocks (record { start = 0; width = 1 }) }
              ∷ (record p { part = x } ∷ ps)) (sym e)));
          how = inl (refl, refl);
        }

module _ (gets : ℕ → Bool) where
  by_get : (k n : ℕ) (t : Bool) → gets k ≡ t → runs gets k (suc n)
      ≡ (if t then block_at (key_of_rank k) ∷ runs gets (k + 4096) n else widened k (runs gets (k + 4096) n))
  by_get k n t e = ap (λ (b : Bool). if b then block_at (key_of_rank k) ∷ runs gets (k + 4096) n
      else widened k (runs gets (k + 4096) n)) e

  first_key : (k n : ℕ) → FirstIs (key_of_rank k) (runs gets k n)
  first_key k zero = tt
  first_key k (suc n) = by_test (gets k) refl
    where
      by_test : (t : Bool) → gets k ≡ t → FirstIs (key_of_rank k) (runs gets k (suc n))
      by_test true e = subst (FirstIs (key_of_rank k)) (sym (by_get k n true e)) refl
      by_test false e =
          let w = wider k (runs gets (k + 4096) n) in
          subst (FirstIs (key_of_rank k)) (sym (by_get k n false e ∙ w.is)) refl

  -- ---- bytes

  -- one block more before others
  module _ (h : Key) (k n : ℕ) (is : IsKey h) (at : rank h ≡ k) (fits : offset_of h + 4096 * suc n ≤ 2 ^ 64)
      (rest : List TwigPiece) (some : 1 ≤ length rest → 1 ≤ n)
      (few : bytes_behind (Some (k + 4096)) rest ≤ 16 * length rest) where
    one_block : (u : ExtentUnit) → u.width ≡ 1
        → bytes_behind (Some k) (record { key = h; part = Blocks u } ∷ rest) ≤ 16 * (1 + length rest)
    one_block u one = by_rest rest refl
      where
        by_rest : (ps : List TwigPiece) → rest ≡ ps
            → bytes_behind (Some k) (record { key = h; part = Blocks u } ∷ rest) ≤ 16 * (1 + length rest)
        by_rest [] e =
            let a = behind_cons (Some k) (record { key = h; part = Blocks u }) rest in
            let b = cost_next k (rank h) u at in
            let c = ap (bytes_behind (open_end (record { key = h; part = Blocks u }))) e
            ∙ behind_nil (open_end (record { key = h; part = Blocks u })) in
            omega (arith, a, b, c)
        by_rest (q ∷ qs) e =
            let a = behind_cons (Some k) (record { key = h; part = Blocks u }) rest in
            let b = cost_next k (rank h) u at in
            let long : length rest ≡ suc (length qs) = ap length e in
            let more = some (omega (arith, long)) in
            let end : open_end (record { key = h; part = Blocks u }) ≡ Some (rank h + 4096 * u.width)
            = open_blocks (record { key = h; part = Blocks u }) u refl (omega (arith, one, fits, more)) in
            let next : rank h + 4096 * u.width ≡ k + 4096 = omega (arith, at, one) in
            let c = ap (λ (x : Option ℕ). bytes_behind x rest) (end ∙ ap Some next) in
            omega (arith, a, b, c, few)

  -- where it is so of the others
  module _ (h : Key) (k n : ℕ) (is : IsKey h) (at : rank h ≡ k) (fits : offset_of h + 4096 * suc n ≤ 2 ^ 64)
      (ih : offset_of h + 4096 < 2 ^ 64
      → bytes_behind (Some (k + 4096)) (runs gets (k + 4096) n) ≤ 16 * length (runs gets (k + 4096) n)) where
    some_more : (m : ℕ) → n ≡ m → 1 ≤ length (runs gets (k + 4096) n) → 1 ≤ n
    some_more zero e long =
        let z : length (runs gets (k + 4096) n) ≡ 0 = ap (λ (j : ℕ). length (runs gets (k + 4096) j)) e in
        absurd (omega (arith, z, long))
    some_more (suc m) e long = omega (arith, e)

    few_more : (m : ℕ) → n ≡ m
        → bytes_behind (Some (k + 4096)) (runs gets (k + 4096) n) ≤ 16 * length (runs gets (k + 4096) n)
    few_more zero e =
        let z : bytes_behind (Some (k + 4096)) (runs gets (k + 4096) n) ≡ 0
        = ap (λ (j : ℕ). bytes_behind (Some (k + 4096)) (runs gets (k + 4096) j)) e ∙ behind_nil (Some (k + 4096)) in
        omega (arith, z)
    few_more (suc m) e = ih (omega (arith, fits, e))

    few : bytes_behind (Some (k + 4096)) (runs gets (k + 4096) n) ≤ 16 * length (runs gets (k + 4096) n)
    few = few_more n refl

    here : key_of_rank k ≡ h
    here = ap key_of_rank (sym at) ∙ key_again h is

    -- a piece in the place of the first one of the rest, which is wider by one block
    wide : (unit u : ExtentUnit) (p : TwigPiece) (more : List TwigPiece) → runs gets (k + 4096) n ≡ p ∷ more
        → p.part ≡ Blocks u → unit.width ≡ u.width + 1
        → bytes_behind (Some k) (record { key = h; part = Blocks unit } ∷ more) ≤ 16 * (1 + length more)
    wide unit u p more e part one =
        let long : length (runs gets (k + 4096) n) ≡ suc (length more) = ap length e in
        let n_some = some_more n refl (omega (arith, long)) in
        let a = behind_cons (Some k) (record { key = h; part = Blocks unit }) more in
        let b = cost_next k (rank h) unit at in
        let first : p.key ≡ key_of_rank (k + 4096) = subst (FirstIs (key_of_rank (k + 4096))) e (first_key (k + 4096) n) in
        let r = later_rank h 4096 in
        let next : k + 4096 ≡ rank (later h 4096) = omega (arith, r, at) in
        let again : key_of_rank (k + 4096) ≡ later h 4096 = ap key_of_rank next
        ∙ key_again (later h 4096) (later_key h 4096 is (omega (arith, fits, n_some))) in
        let mine : p ≡ record { key = later h 4096; part = Blocks u }
        = (λ i. record { key = (first ∙ again) i; part = part i }) in
        let low : offset_of h + 4096 + 4096 * u.width ≡ offset_of h + 4096 * unit.width = omega (arith, one) in
        let high : rank (later h 4096) + 4096 * u.width ≡ rank h + 4096 * unit.width = omega (arith, one, r) in
        let same : open_end p ≡ open_end (record { key = h; part = Blocks unit }) = ap open_end mine
        ∙ (λ i. if nat_lt (low i) (2 ^ 64) then Some (high i) else None) in
        let c = ap (λ (x : Option ℕ). bytes_behind x more) same in
        let d = behind_cons (Some (k + 4096)) p more in
        let least = cost_least (Some (k + 4096)) (rank p.key) p.part in
        let less = few in
        let x = ap (bytes_behind (Some (k + 4096))) e in
        omega (arith, a, b, c, d, least, less, x, long)

    by_test : (t : Bool) → gets k ≡ t → bytes_behind (Some k) (runs gets k (suc n)) ≤ 16 * length (runs gets k (suc n))
    by_test true e = subst (λ (ps : List TwigPiece). bytes_behind (Some k) ps ≤ 16 * length ps)
        (sym (by_get k n true e ∙ ap (λ (j : Key). block_at j ∷ runs gets (k + 4096) n) here))
        (let x = one_block h k n is at fits (runs gets (k + 4096) n) (some_more n refl) few
        (record { start = 2 ^ 63; width = 1 }) refl in omega (arith, x))
    by_test false e =
        let w = wider k (runs gets (k + 4096) n) in
        subst (λ (ps : List TwigPiece). bytes_behind (Some k) ps ≤ 16 * length ps)
        (sym (by_get k n false e ∙ w.is ∙ ap (λ (j : Key). record { key = j; part = Blocks w.unit } ∷ w.more) here))
        (elim w.how [
          | inl (same, one) ↦
              let x = one_block h k n is at fits (runs gets (k + 4096) n) (some_more n refl) few w.unit one in
              let y : bytes_behind (Some k) (record { key = h; part = Blocks w.unit } ∷ w.more)
              ≡ bytes_behind (Some k) (record { key = h; part = Blocks w.unit } ∷ runs gets (k + 4096) n)
              = ap (λ (ps : List TwigPiece). bytes_behind (Some k) (record { key = h; part = Blocks w.unit } ∷ ps)) same in
              let z = ap length same in
              omega (arith, x, y, z)
          | inr (u, p, split, part, one) ↦ let x = wide w.unit u p w.more split part one in omega (arith, x)
        ])

  pub runs_bytes : (h : Key) (k n : ℕ) → IsKey h → rank h ≡ k → offset_of h + 4096 * n ≤ 2 ^ 64
      → bytes_behind (Some k) (runs gets k n) ≤ 16 * length (runs gets k n)
  runs_bytes h k zero is at fits = let z = behind_nil (Some k) in omega (arith, z)
  runs_bytes h k (suc n) is at fits = by_test h k n is at fits
      (λ lt. runs_bytes (later h 4096) (k + 4096) n (later_key h 4096 is lt)
      (let r = later_rank h 4096 in omega (arith, r, at)) (omega (arith, fits))) (gets k) refl
