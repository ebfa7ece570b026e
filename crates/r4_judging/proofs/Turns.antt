-- Which turn comes first.
use Rattle.std.proofs.Common.{◌≡◌, ◌≢◌, ◌⊎◌, inl, inr, ℕ, ◌^◌, ◌<◌, ◌≤◌, Bool, true, false, not, refl, sym, ◌∙◌, arith}
use Rattle.std.specs.Prelude.{◌==◌, nat_lt}
use Rattle.std.proofs.lemmas.Bool.Decides.{nat_tests}
use Rattle.r4_base.specs.Key.{IsKey, rank}
use Rattle.r4_base.specs.declared.items.CellFault.{CellFault}
use Rattle.r4_base.specs.declared.key.Key.{Key}
use Rattle.r4_base.specs.declared.items.CellFault.TheVariants.{Dir, Extent, Level, Node, Pointer}
use Rattle.r4_base.specs.declared.items.CellFault.TheVariants.{Range, Stat, Tail}
use Rattle.r4_judging.specs.Judging.{fault_turn, turn}

pub rank_small : (k : Key) → IsKey k → rank k < 2 ^ 256
unfolding rank
rank_small k is =
    let a = is.small 0 in
    let b = is.small 1 in
    let c = is.small 2 in
    let d = is.small 3 in
    omega (arith, a, b, c, d)

few : (f : CellFault) → fault_turn f ≤ 1
few (Node fault) = omega arith
few (Stat fault) = omega arith
few (Dir fault) = omega arith
few (Extent fault) = omega arith
few Tail = omega arith
few Pointer = omega arith
few Level = omega arith
few (Range item) = omega arith

lt_true : (a b : ℕ) → a < b → nat_lt a b ≡ true
lt_true a b h = grind (arith, h)

lt_false : (a b : ℕ) → b ≤ a → nat_lt a b ≡ false
lt_false a b h = grind (arith, h)

compare : (m n : ℕ) → (m < n) ⊎ (n ≤ m)
compare m n = grind (arith, nat_tests)

higher : (l m a b : ℕ) (f g : CellFault) → l < 256 → a < 2 ^ 256 → m < l → turn l a f < turn m b g
unfolding turn
higher l m a b f g top small lt = let t = few f in omega (arith, top, small, lt, t)

lower_key : (l m a b : ℕ) (f g : CellFault) → l ≡ m → a < b → turn l a f < turn m b g
unfolding turn
lower_key l m a b f g same lt = let t = few f in omega (arith, same, lt, t)

same_key : (l m a b : ℕ) (f g : CellFault) → l ≡ m → a ≡ b → fault_turn f < fault_turn g → turn l a f < turn m b g
unfolding turn
same_key l m a b f g same key lt = omega (arith, same, key, lt)

no_higher : (l m a b : ℕ) (f g : CellFault) → l ≡ m → a ≡ b → fault_turn f ≤ fault_turn g → turn l a f ≤ turn m b g
unfolding turn
no_higher l m a b f g same key le = omega (arith, same, key, le)

module _ (l m a b : ℕ) (f g : CellFault) (top_l : l < 256) (top_m : m < 256) (small_a : a < 2 ^ 256)
    (small_b : b < 2 ^ 256) where
  pub by_level : l ≢ m → nat_lt m l ≡ nat_lt (turn l a f) (turn m b g)
  by_level ne = elim (compare m l) [
    | inl lt ↦ lt_true m l lt ∙ sym (lt_true (turn l a f) (turn m b g) (higher l m a b f g top_l small_a lt))
    | inr le ↦
        (let less = higher m l b a g f top_m small_b (omega (arith, le, ne)) in lt_false m l le
        ∙ sym (lt_false (turn l a f) (turn m b g) (omega (arith, less))))
  ]

  pub by_key : l ≡ m → a ≢ b → nat_lt a b ≡ nat_lt (turn l a f) (turn m b g)
  by_key same ne = elim (compare a b) [
    | inl lt ↦ lt_true a b lt ∙ sym (lt_true (turn l a f) (turn m b g) (lower_key l m a b f g same lt))
    | inr le ↦
        (let less = lower_key m l b a g f (sym same) (omega (arith, le, ne)) in lt_false a b le
        ∙ sym (lt_false (turn l a f) (turn m b g) (omega (arith, less))))
  ]

  pub by_fault : l ≡ m → a ≡ b → (fault_turn f == 0) ≡ true → not (fault_turn g == 0) ≡ nat_lt (turn l a f) (turn m b g)
  by_fault same key first = by (fault_turn g == 0) refl
    where
      zero_f : fault_turn f ≡ 0
      zero_f = grind (arith, first)

      by : (t : Bool) → (fault_turn g == 0) ≡ t → not t ≡ nat_lt (turn l a f) (turn m b g)
      by true is = let z : fault_turn g ≡ 0 = grind (arith, is) in let y = zero_f in sym
          (lt_false (turn l a f) (turn m b g) (no_higher m l b a g f (sym same) (sym key) (omega (arith, z, y))))
      by false is = let z : 0 < fault_turn g = grind (arith, is) in let y = zero_f in sym
          (lt_true (turn l a f) (turn m b g) (same_key l m a b f g same key (omega (arith, z, y))))

  pub by_other : l ≡ m → a ≡ b → (fault_turn f == 0) ≡ false → false ≡ nat_lt (turn l a f) (turn m b g)
  by_other same key other =
      let one : 0 < fault_turn f = grind (arith, other) in
      let t = few g in
      sym (lt_false (turn l a f) (turn m b g) (no_higher m l b a g f (sym same) (sym key) (omega (arith, one, t))))
