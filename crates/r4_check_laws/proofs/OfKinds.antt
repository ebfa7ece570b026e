-- Tails and extents as kinds of parts: of each kind one part at most has a key.
use Rattle.std.proofs.Common.{◌≡◌, ℕ, ◌+◌, ◌*◌, ◌≤◌, Bool, true, false, refl, sym, ◌∙◌, arith}
use Rattle.std.specs.Prelude.{Contains, sum_by, nat_le, nat_lt}
use Rattle.std.proofs.lemmas.Bool.Decides.{nat_tests}
use Rattle.r4_base.specs.Key.{rank}
use Rattle.r4_base.specs.Tree.{InNode, Name, Node}
use Rattle.r4_base.specs.Value.{Value}
use Rattle.r4_check.specs.Walk.{found_in}
use Rattle.r4_check_objects.specs.Held.{held_in}
use Rattle.r4_check_objects.specs.Objects.{extent_blocks, once, tail_bytes}
use Rattle.r4_check_objects.specs.declared.held.Thing.{Thing}
use Rattle.r4_check_objects.specs.declared.held.Thing.TheVariants.{Entry, Extent, Stat, Tail}
use Rattle.r4_check_laws.proofs.Covers.{IsLong, covered_once, covers}
use Rattle.r4_check_laws.proofs.Files.{extent_long, tail_long}
use Rattle.r4_check_laws.proofs.Lists.{some_term}
use Rattle.r4_check_laws.proofs.Parts.{AreRead, extent_in_twig, tail_in_leaf}
use Rattle.r4_check_laws.proofs.Totals.{lies_in}
use Rattle.r4_check_laws.proofs.Stores.{Cells, stored}
use Rattle.r4_check_laws.proofs.Trees.{AreLinked, is_tree}

pub tails_are_long : IsLong tail_long
tails_are_long = record { stat = λ f. refl; entry = λ t. refl; tail = λ n. omega arith; extent = λ n. omega arith }

pub extents_are_long : IsLong extent_long
extents_are_long = record { stat = λ f. refl; entry = λ t. refl; tail = λ n. omega arith; extent = λ n. omega arith }

pub is_tail : (t : Thing) → 1 ≤ tail_bytes t → (n : ℕ) × (t ≡ Tail n)
is_tail (Stat f) some = absurd (omega (arith, some))
is_tail (Entry t) some = absurd (omega (arith, some))
is_tail (Tail n) some = (n, refl)
is_tail (Extent n) some = absurd (omega (arith, some))

pub is_extent : (t : Thing) → 1 ≤ extent_blocks t → (n : ℕ) × (t ≡ Extent n)
is_extent (Stat f) some = absurd (omega (arith, some))
is_extent (Entry t) some = absurd (omega (arith, some))
is_extent (Tail n) some = absurd (omega (arith, some))
is_extent (Extent n) some = (n, refl)

pub some_blocks : (n : ℕ) → 1 ≤ 4096 * n → 1 ≤ n
some_blocks n some = omega (arith, some)

covering : (from n k : ℕ) → 1 ≤ once (lies_in from n k) → 1 ≤ n
covering from n k some = by (nat_le from k) (nat_lt k (from + n)) refl refl
  where
    by : (a b : Bool) → nat_le from k ≡ a → nat_lt k (from + n) ≡ b → 1 ≤ n
    by true true p q = grind (arith, nat_tests)
    by true false p q = absurd (grind (arith, nat_tests))
    by false b p q = absurd (grind (arith, nat_tests))

module _ (blocks : ℕ) (cells : Cells) (root : Name) (linked : AreLinked cells root) (read : AreRead blocks cells) where
  tail_level : (k : ℕ) (i : ℕ) (c : Node Value) → Contains cells (i, c) → 1 ≤ sum_by (covers tail_long k) (held_in i c) → c.level ≡ 1
  tail_level k i c at some =
      let (h, has, term) = some_term (covers tail_long k) (held_in i c) some in
      let (n, is) = is_tail h.thing (covering (rank h.key) (tail_long h.thing) k term) in
      tail_in_leaf blocks i c (read i c at) h n has is

  extent_level : (k : ℕ) (i : ℕ) (c : Node Value) → Contains cells (i, c) → 1 ≤ sum_by (covers extent_long k) (held_in i c) → c.level ≡ 2
  extent_level k i c at some =
      let (h, has, term) = some_term (covers extent_long k) (held_in i c) some in
      let (n, is) = is_extent h.thing (some_blocks (extent_blocks h.thing) (covering (rank h.key) (extent_long h.thing) k term)) in
      extent_in_twig blocks i c (read i c at) h n has is

  apart_at : (lv k i j : ℕ) (c d : Node Value) → 1 ≤ lv → Contains cells (i, c) → Contains cells (j, d) → c.level ≡ lv → d.level ≡ lv → InNode c k → InNode d k → i ≡ j
  apart_at lv k i j c d some ci dj lc ld at_c at_d =
      (is_tree cells root linked).apart i j c d k (stored cells linked.once i c ci) (stored cells linked.once j d dj) (lc ∙ sym ld) (omega (arith, lc, some)) at_c at_d

  pub one_tail : (k : ℕ) → sum_by (covers tail_long k) (found_in cells) ≤ 1
  one_tail k = covered_once tail_long tails_are_long k blocks 1 cells read (tail_level k) (λ i j c d. apart_at 1 k i j c d (omega arith)) linked.once

  pub one_extent : (k : ℕ) → sum_by (covers extent_long k) (found_in cells) ≤ 1
  one_extent k = covered_once extent_long extents_are_long k blocks 2 cells read (extent_level k) (λ i j c d. apart_at 2 k i j c d (omega arith)) linked.once
