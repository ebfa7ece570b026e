-- The pointer to a new leaf in the place of pieces that go.
use Rattle.std.proofs.Common.{◌≡◌, ℕ, zero, suc, ◌-◌, ◌<◌, ◌≤◌, Bool, true, false, List, [], ◌∷◌, length, take, drop, slice_index_or, refl, sym, ap, ◌∙◌, arith}
use Rattle.std.specs.Prelude.{Option, None, if◌then◌else◌}
use Rattle.r4_base.specs.Key.{rank}
use Rattle.r4_path.specs.r4_branch.Pieces.{is_at, last_end, open_end}
use Rattle.r4_path.specs.r4_branch.declared.piece.TwigPart.TheVariants.{Pointer}
use Rattle.r4_path.specs.r4_branch.declared.piece.TwigPiece.{TwigPiece}
use Rattle.r4_edit.specs.CutBlocks.{pointer_over}

last_at : (before : Option ℕ) (ps : List TwigPiece) (n : ℕ) (d : TwigPiece) → n < length ps → last_end before (take (suc n) ps) ≡ open_end (slice_index_or ps n d)
last_at before [] n d lt = absurd (omega (arith, lt))
last_at before (p ∷ ps) zero d lt = refl
last_at before (p ∷ ps) (suc n) d lt = last_at (open_end p) ps n d (omega (arith, lt))

first_between : (ps : List TwigPiece) (at n : ℕ) (e : TwigPiece) → at < length ps → take (suc n) (drop at ps) ≡ slice_index_or ps at e ∷ take n (drop (suc at) ps)
first_between [] at n e lt = absurd (omega (arith, lt))
first_between (p ∷ ps) zero n e lt = refl
first_between (p ∷ ps) (suc at) n e lt = first_between ps at n e (omega (arith, lt))

module _ (ps : List TwigPiece) (at end id : ℕ) (e : TwigPiece) (some : at < end) (within : end ≤ length ps) where
  going : take (end - at) (drop at ps) ≡ slice_index_or ps at e ∷ take (end - at - 1) (drop (suc at) ps)
  going =
      let one : end - at ≡ suc (end - at - 1) = omega (arith, some) in
      ap (λ n. take n (drop at ps)) one ∙ first_between ps at (end - at - 1) e (omega (arith, some, within))

  by_test : (b : Bool) → is_at (last_end None (take at ps)) (rank (slice_index_or ps at e).key) ≡ b
      → (if b then [] else record { key = (slice_index_or ps at e).key; part = Pointer (record { 0 = id }) } ∷ []) ≡ pointer_over (last_end None (take at ps)) id (take (end - at) (drop at ps))
  by_test b is =
      (λ i. if sym is i then [] else record { key = (slice_index_or ps at e).key; part = Pointer (record { 0 = id }) } ∷ [])
      ∙ ap (pointer_over (last_end None (take at ps)) id) (sym going)

  last_is : (d : TwigPiece) → 0 < at → last_end None (take at ps) ≡ open_end (slice_index_or ps (at - 1) d)
  last_is d more =
      let one : at ≡ suc (at - 1) = omega (arith, more) in
      ap (λ n. last_end None (take n ps)) one ∙ last_at None ps (at - 1) d (omega (arith, some, within))

  pub over_none : (d : TwigPiece) → 0 < at → is_at (open_end (slice_index_or ps (at - 1) d)) (rank (slice_index_or ps at e).key) ≡ true
      → [] ≡ pointer_over (last_end None (take at ps)) id (take (end - at) (drop at ps))
  over_none d more ends = by_test true (ap (λ o. is_at o (rank (slice_index_or ps at e).key)) (last_is d more) ∙ ends)

  pub over_some : (d : TwigPiece) → 0 < at → is_at (open_end (slice_index_or ps (at - 1) d)) (rank (slice_index_or ps at e).key) ≡ false
      → record { key = (slice_index_or ps at e).key; part = Pointer (record { 0 = id }) } ∷ [] ≡ pointer_over (last_end None (take at ps)) id (take (end - at) (drop at ps))
  over_some d more other = by_test false (ap (λ o. is_at o (rank (slice_index_or ps at e).key)) (last_is d more) ∙ other)

  pub over_first : at ≡ 0
      → record { key = (slice_index_or ps at e).key; part = Pointer (record { 0 = id }) } ∷ [] ≡ pointer_over (last_end None (take at ps)) id (take (end - at) (drop at ps))
  over_first none = by_test false (ap (λ n. is_at (last_end None (take n ps)) (rank (slice_index_or ps at e).key)) none)

pub over_nothing : (ps : List TwigPiece) (at end id : ℕ) → end ≤ at → [] ≡ pointer_over (last_end None (take at ps)) id (take (end - at) (drop at ps))
over_nothing ps at end id le =
    let none : end - at ≡ 0 = omega (arith, le) in
    ap (λ n. pointer_over (last_end None (take at ps)) id (take n (drop at ps))) (sym none)
