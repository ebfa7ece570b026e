-- How many leaves units are packed into.
use Rattle.std.proofs.Common.{◌≡◌, ℕ, ◌+◌, ◌*◌, ◌<◌, ◌≤◌, List, [], ◌∷◌, ◌++◌, length, refl, ap, arith}
use Rattle.std.specs.Prelude.{Option, None, IfOk, Result, Ok, Err}
use Rattle.r4_leaf.specs.Filling.{last_of}
use Rattle.r4_leaf.specs.Leaves.{AreFew, Packs}
use Rattle.r4_leaf.specs.Units.{LeafUnit, bytes_behind, leaf_bytes, unit_bytes}
use Rattle.r4_leaf.specs.declared.leaf.Leaf.{Leaf}
use Rattle.r4_leaf.proofs.Weighed.{behind_append, headed, last_is}
use Rattle.r4_leaf.specs.Measure.{last_or}

behind_least : (before : Option LeafUnit) (us : List LeafUnit) → leaf_bytes us ≤ bytes_behind before us + 40
unfolding bytes_behind
behind_least before [] = omega arith
behind_least before (u ∷ us) = let h = (headed before u).1 in omega (arith, h)

first_behind : (before : Option LeafUnit) (u : LeafUnit) (us : List LeafUnit) → unit_bytes before u ≤ bytes_behind before (u ∷ us)
unfolding bytes_behind
first_behind before u us = omega arith

-- each leaf but the last takes many bytes
take_many : (lo hi : ℕ) (us : List LeafUnit) (before : Option LeafUnit) (x : Leaf) (more : List Leaf) → Packs lo hi us (x ∷ more)
    → 3682 * length more ≤ bytes_behind before us
take_many lo hi us before x [] p = omega arith
take_many lo hi us before x (y ∷ more) p =
    let first = p.0 in
    let rest = p.1 ∷ p.2 in
    let all : bytes_behind before us ≡ bytes_behind before (first ++ rest) = ap (bytes_behind before) p.3 in
    let both = behind_append before first rest in
    let many = p.7.filled in
    let least = behind_least before first in
    let others = take_many p.1.0 hi rest (last_or before first) y more p.8 in
    omega (arith, all, both, many, least, others)

module _ (lo hi : ℕ) (us : List LeafUnit) where
  one : (leaves : List Leaf) → Packs lo hi us leaves → leaf_bytes us ≤ 4068 → length leaves ≡ 1
  one [] p fit = absurd p
  one (x ∷ []) p fit = refl
  one (x ∷ (y ∷ more)) p fit =
      let first = p.0 in
      let all : leaf_bytes us ≡ leaf_bytes (first ++ p.1 ∷ p.2) = ap leaf_bytes p.3 in
      let both = behind_append None first (p.1 ∷ p.2) in
      let next = first_behind (last_or None first) p.1 p.2 in
      let full = p.7.full in
      let same : unit_bytes (last_of first) p.1 ≡ unit_bytes (last_or None first) p.1 = ap (λ b. unit_bytes b p.1) (last_is first) in
      absurd (omega (arith, fit, all, both, next, full, same))

  several : (leaves : List Leaf) → Packs lo hi us leaves → 4068 < leaf_bytes us → 2 ≤ length leaves
  several [] p many = absurd p
  several (x ∷ []) p many = let fits = p.fits in absurd (omega (arith, fits, many))
  several (x ∷ (y ∷ more)) p many = omega arith

  more : (leaves : List Leaf) → Packs lo hi us leaves → 4068 < leaf_bytes us → 1024 * length leaves + 2020 < leaf_bytes us
  more [] p many = absurd p
  more (x ∷ []) p many = omega (arith, many)
  more (x ∷ (y ∷ [])) p many = omega (arith, many)
  more (x ∷ (y ∷ (z ∷ ls))) p many = let h = take_many lo hi us None x (y ∷ (z ∷ ls)) p in omega (arith, h)

  few : (leaves : List Leaf) → Packs lo hi us leaves → leaf_bytes us < 58912 → length leaves ≤ 16
  few [] p small = absurd p
  few (x ∷ ls) p small = let h = take_many lo hi us None x ls p in omega (arith, h, small)

  pub are_few : (leaves : List Leaf) → Packs lo hi us leaves → leaf_bytes us < 58912 → AreFew us leaves
  are_few leaves p small = record { one = one leaves p; several = several leaves p; more = more leaves p; few = few leaves p small }

pub if_ok2 : {T E : Type 0} (r : Result T E) (P Q R : T → Type 0) → ((v : T) → P v → Q v → R v) → IfOk r P → IfOk r Q → IfOk r R
if_ok2 (Ok v) P Q R f p q = f v p q
if_ok2 (Err e) P Q R f p q = p
