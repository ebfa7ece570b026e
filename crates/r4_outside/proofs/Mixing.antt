-- A sector that is copied.
use Rattle.std.proofs.Common.{◌≡◌, ◌≢◌, inl, inr, ℕ, ◌+◌, ◌*◌, ◌-◌, ◌<◌, ◌≤◌, true, false, cond, List, length, take, drop, refl, sym, ◌∙◌, ap, arith, rules}
use Rattle.std.proofs.lemmas.Bool.{cases_eq, cases_lt}
use Rattle.std.proofs.lemmas.List.{drop-take}
use Rattle.std.proofs.lemmas.Slice.{take-put_mid_below, drop-put_mid, between-put_mid, overwrites}
use borrow.Rule.Slice.PartMut.{put_mid}
use Rattle.r4_base.specs.Image.{sector}
use Rattle.r4_outside.specs.Mix.{is_marked, IsMix, CopiesSector}

module _ (a s : ℕ) (n : ℕ) (xs ys : List ℕ) (a_is : a ≡ 512 * s) (n_is : n ≡ 512) (ls : s < 8) (lx : length xs ≡ 4096) (ly : length ys ≡ 512) where
  pub sector_same : sector (put_mid a n xs ys) s ≡ ys
  sector_same =
      ap (λ (k : ℕ). take 512 (drop k (put_mid a n xs ys))) (sym a_is)
      ∙ ap (λ (k : ℕ). take k (drop a (put_mid a n xs ys))) {x = 512} {y = a + 512 - a} (omega arith)
      ∙ between-put_mid a n xs ys (a + 512) (omega (arith, a_is, lx, ls)) (omega (arith, ly))

  below : (k : ℕ) → k < s → sector (put_mid a n xs ys) k ≡ sector xs k
  below k lt =
      sym (drop-take (512 * k) 512 (put_mid a n xs ys))
      ∙ ap (λ (l : List ℕ). drop (512 * k) l) (take-put_mid_below a n xs ys (512 * k + 512) (omega (arith, a_is, lt)) (omega (arith, a_is, lx, ls)))
      ∙ drop-take (512 * k) 512 xs

  above : (k : ℕ) → s < k → sector (put_mid a n xs ys) k ≡ sector xs k
  above k lt = ap (λ (l : List ℕ). take 512 l) (drop-put_mid a n xs ys (512 * k) (omega (arith, a_is, n_is, lt)) (omega (arith, a_is, lx, ls)) (omega (arith, n_is, ly)))

  pub sector_other : (k : ℕ) → k ≢ s → sector (put_mid a n xs ys) k ≡ sector xs k
  sector_other k other = elim (cases_lt k s) [
    | inl lt ↦ below k lt
    | inr ge ↦ above k (omega (arith, ge, other))
  ]

-- the first n sectors are mixed, and the others are as they were
pub record IsMixedTo (n mask : ℕ) (x y new : List ℕ) : Type 0 where
  pub before : (s : ℕ) → s < 8 → s < n → sector new s ≡ cond (is_marked mask s) (sector x s) (sector y s)
  pub behind : (s : ℕ) → s < 8 → n ≤ s → sector new s ≡ sector y s

pub none_mixed : (mask : ℕ) (x y : List ℕ) → IsMixedTo 0 mask x y y
none_mixed mask x y = record { before = λ s ls lt. absurd (omega (arith, lt)); behind = λ s ls le. refl }

pub mixed_copied : (n mask : ℕ) (x y old new : List ℕ) → is_marked mask n ≡ true → CopiesSector n x old new → IsMixedTo n mask x y old → IsMixedTo (n + 1) mask x y new
mixed_copied n mask x y old new marked c m = record {
  before = λ s ls lt. elim (cases_eq s n) [
    | inl is ↦ rw is (rw marked c.same)
    | inr other ↦ c.others s ls other ∙ m.before s ls (omega (arith, lt, other))
  ];
  behind = λ s ls le. c.others s ls (λ e. omega (arith, le, e)) ∙ m.behind s ls (omega (arith, le));
}

pub mixed_left : (n mask : ℕ) (x y old : List ℕ) → is_marked mask n ≡ false → IsMixedTo n mask x y old → IsMixedTo (n + 1) mask x y old
mixed_left n mask x y old unmarked m = record {
  before = λ s ls lt. elim (cases_eq s n) [
    | inl is ↦ rw is (rw unmarked (m.behind n (omega (arith, ls, is)) (omega arith)))
    | inr other ↦ m.before s ls (omega (arith, lt, other))
  ];
  behind = λ s ls le. m.behind s ls (omega (arith, le));
}

pub all_mixed : (n mask : ℕ) (x y new : List ℕ) → 8 ≤ n → IsMixedTo n mask x y new → IsMix mask x y new
all_mixed n mask x y new le m = record { each = λ s ls. m.before s ls (omega (arith, ls, le)) }

-- a sector that is copied into place
pub copies : (a s n : ℕ) (x xs ys : List ℕ) → a ≡ 512 * s → n ≡ 512 → s < 8 → length xs ≡ 4096 → length ys ≡ 512 → ys ≡ sector x s → CopiesSector s x xs (put_mid a n xs ys)
copies a s n x xs ys a_is n_is ls lx ly is = record {
  long = length-put_mid;
  same = sector_same a s n xs ys a_is n_is ls lx ly ∙ is;
  others = λ k lk other. sector_other a s n xs ys a_is n_is ls lx ly k other;
}
  where
    length-put_mid : length (put_mid a n xs ys) ≡ length xs
    length-put_mid = search (rules, overwrites, arith)
