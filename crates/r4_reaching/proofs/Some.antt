-- That something was met.
use Rattle.std.proofs.Common.{◌≡◌, ℕ, ◌+◌, ◌<◌, Bool, true, false, List, [], ◌∷◌, length, refl, arith}
use Rattle.std.specs.Prelude.{nat_eq}
use Rattle.std.specs.Arc.{arc_value}
use Rattle.std.proofs.lemmas.Bool.{eq-eqb}
use Rattle.std.proofs.lemmas.Bool.Decides.{nat_tests}
use Rattle.r4_base.specs.Key.{least, top}
use Rattle.r4_content.specs.Edited.{is_in}
use Rattle.r4_search.specs.Keeping.{Shared, keeping_state}
use Rattle.r4_search.specs.Pool.{PoolState}
use Rattle.r4_touching.specs.Touching.{AreHeld}
use Rattle.r4_reaching.specs.Gathering.{IsOneMet}

pub one_kept : (p : PoolState) (all : Bool) (met : List (ℕ × Shared)) → (length met ≡ 0 → ⊥)
    → IsOneMet (keeping_state p all met)
one_kept p all [] some = absurd (some refl)
one_kept p all ((i, x) ∷ met) some = (
  i,
  arc_value x,
  (let same : nat_eq i i ≡ true = eq-eqb i i refl in rw same refl),
)

-- the least key is among the first ones
pub is_first : (a b : ℕ) → a ≡ least → b ≡ least + 1 → is_in ((a, b) ∷ []) least ≡ true
is_first a b from to = grind (arith, nat_tests, from, to)

pub held_some : (p : PoolState) (keys : ℕ → Bool) (b : Bool) → keys least ≡ true → least < top → AreHeld p keys b
    → IsOneMet p
held_some p keys true on below held =
    let l = held least on (omega arith) below in (l.leaf.id, l.leaf, l.met)
held_some p keys false on below (k, low, high, at, in_extent) = (in_extent.twig.id, in_extent.twig, in_extent.met)
