-- What pieces name, and the blocks of a unit, one after the other.
use Rattle.std.proofs.Common.{◌≡◌, ◌⊎◌, inl, inr, ℕ, zero, suc, ◌+◌, ◌-◌, ◌*◌, ◌%◌, ◌<◌, ◌≤◌, Bool, true, false, List, [], ◌∷◌, slice_index, length, refl, ap, ◌∙◌, arith}
use Rattle.std.specs.Prelude.{◌&&◌, ◌||◌, if◌then◌else◌, nat_le, nat_lt, not}
use Rattle.std.specs.List.{list_all}
use Rattle.std.proofs.lemmas.Bool.{and_parts, leb-true, ltb-true}
use Rattle.std.proofs.lemmas.List.Folds.{list_all-append}
use Rattle.r4_base.specs.Cell.{run_names}
use Rattle.r4_base.specs.Extents.{is_hole}
use Rattle.r4_base.specs.Key.{rank}
use Rattle.r4_base.specs.Tree.{Name}
use Rattle.r4_base.specs.declared.items.Unit.{Unit as ExtentUnit}
use Rattle.r4_base.specs.declared.key.Key.{Key}
use Rattle.r4_extent_growth.proofs.Turns.{part_ends}
use Rattle.r4_extent_growth.specs.Turning.{ends_by}
use Rattle.r4_extent_growth.proofs.r4_measure.r4_work.Remade.{or_true}
use Rattle.r4_extent_growth.specs.r4_measure.r4_branch.Pieces.{names_of, next_of, part_names}
use Rattle.r4_extent_growth.specs.r4_measure.r4_branch.declared.piece.TwigPart.TheVariants.{Blocks}
use Rattle.r4_extent_growth.specs.r4_measure.r4_branch.declared.piece.TwigPiece.{TwigPiece}
use Rattle.r4_extent_growth.specs.r4_measure.r4_cell.Seen.{CellSeen}
use Rattle.r4_extent_growth.specs.r4_measure.r4_leaf.Units.{is_between}
use Rattle.r4_extent_shrink.specs.Going.{block_suits, has_number, name_suits}

-- how far a key is behind a border
pub in_block : (k : Key) → slice_index k.el 3 % 4096 ≡ rank k % 4096
unfolding rank
in_block k = omega arith

-- the next block of a unit
pub run_next : (P : Name → Bool) (k s n i : ℕ) → i < n → list_all P (run_names (k + 4096 * i) (s + i) (n - i))
    ≡ (P (record { id = s + i; level = 0; lo = k + 4096 * i; hi = k + 4096 * i + 4096 }) && list_all P (run_names (k + 4096 * (i + 1)) (s + (i + 1)) (n - (i + 1))))
run_next P k s n i lt =
    let count : n - i ≡ suc (n - (i + 1)) = omega (arith, lt) in
    let at : k + 4096 * i + 4096 ≡ k + 4096 * (i + 1) = omega arith in
    let nr : s + i + 1 ≡ s + (i + 1) = omega arith in
    ap (λ m. list_all P (run_names (k + 4096 * i) (s + i) m)) count
    ∙ (λ j. P (record { id = s + i; level = 0; lo = k + 4096 * i; hi = k + 4096 * i + 4096 }) && list_all P (run_names (at j) (nr j) (n - (i + 1))))

pub none_named : (P : Name → Bool) (hi : ℕ) (ps : List TwigPiece) → length ps ≡ 0 → list_all P (names_of hi ps) ≡ true
unfolding names_of
none_named P hi [] h = refl
none_named P hi (p ∷ ps) h = absurd cc

pub first_named : (P : Name → Bool) (hi : ℕ) (p : TwigPiece) (ps : List TwigPiece)
    → list_all P (names_of hi (p ∷ ps)) ≡ (list_all P (part_names (rank p.key) (next_of hi ps) p.part) && list_all P (names_of hi ps))
unfolding names_of
first_named P hi p ps = list_all-append P (part_names (rank p.key) (next_of hi ps) p.part) (names_of hi ps)

-- ---- blocks that lie apart from the keys that go

module _ (from to : ℕ) (cells : List CellSeen) where
  outside : (k id : ℕ) → (to ≤ k) ⊎ (k + 4096 ≤ from) → block_suits from to cells k id ≡ true
  outside k id apart = by_test (is_between from to k) refl
    where
      by_test : (v : Bool) → is_between from to k ≡ v → (not v || has_number cells id) ≡ true
      by_test true h =
          let (low, high) = and_parts (nat_le from k) (nat_lt k to) h in
          let le = leb-true from k low in
          let lt = ltb-true k to high in
          elim apart [ inl behind ↦ absurd (omega (arith, behind, lt)) | inr before ↦ absurd (omega (arith, before, le)) ]
      by_test false h = refl

  pub run_apart : (k s n : ℕ) → (to ≤ k) ⊎ (k + 4096 * n ≤ from) → list_all (name_suits from to cells) (run_names k s n) ≡ true
  run_apart k s zero apart = refl
  run_apart k s (suc n) apart =
      (λ i. outside k s first i && list_all (name_suits from to cells) (run_names (k + 4096) (s + 1) n)) ∙ run_apart (k + 4096) (s + 1) n rest
    where
      first : (to ≤ k) ⊎ (k + 4096 ≤ from)
      first = elim apart [ inl behind ↦ inl behind | inr before ↦ inr (omega (arith, before)) ]

      rest : (to ≤ k + 4096) ⊎ (k + 4096 + 4096 * n ≤ from)
      rest = elim apart [ inl behind ↦ inl (omega (arith, behind)) | inr before ↦ inr (omega (arith, before)) ]

  pub unit_apart : (key : Key) (u : ExtentUnit) → (nat_le to (rank key) || ends_by from (record { key = key; part = Blocks u })) ≡ true
      → list_all (name_suits from to cells) (if is_hole u then [] else run_names (rank key) u.start u.width) ≡ true
  unit_apart key u h = by_hole (is_hole u)
    where
      apart : (to ≤ rank key) ⊎ (rank key + 4096 * u.width ≤ from)
      apart = elim (or_true (nat_le to (rank key)) (ends_by from (record { key = key; part = Blocks u })) h) [
        | inl behind ↦ inl (leb-true to (rank key) behind)
        | inr before ↦ inr (part_ends key (Blocks u) from before)
      ]

      by_hole : (v : Bool) → list_all (name_suits from to cells) (if v then [] else run_names (rank key) u.start u.width) ≡ true
      by_hole true = refl
      by_hole false = run_apart (rank key) u.start u.width apart
