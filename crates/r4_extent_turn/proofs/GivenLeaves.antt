-- A twig and its leaves, as they are given.
use Rattle.std.proofs.Common.{◌≡◌, ℕ, ◌+◌, ◌*◌, ◌^◌, ◌<◌, ◌≤◌, true, List, [], ◌∷◌, get_or, refl, arith}
use Rattle.r4_base.specs.Key.{IsKey, offset_of, rank}
use Rattle.r4_base.specs.declared.key.Key.{Key}
use Rattle.r4_extent_build.specs.r4_cell.Seen.{CellSeen}
use Rattle.r4_extent_build.specs.Growing.{end_after}
use Rattle.r4_extent_build.specs.r4_extent_edit.Turning.{AreEnds}
use Rattle.r4_extent_build.proofs.r4_extent_edit.ExtentEffect.{is_on}
use Rattle.r4_extent_build.proofs.r4_extent_edit.TurnPieces.{last_in, turn_border}
use Rattle.r4_extent_build.specs.r4_graft.Splices.{IsBorder}
use Rattle.r4_build.specs.r4_leaf.Units.{is_between}
use Rattle.r4_build.proofs.r4_patch.Members.{here}
use Rattle.r4_build.specs.r4_path.Steps.{name_of}
use Rattle.r4_build.specs.r4_path.TwigPieces.{twig_pieces}
use Rattle.r4_build.proofs.r4_path.Rising.{hi_is, lo_is}
use Rattle.r4_build.specs.r4_reach.Touched.{Body, first_byte}
use Rattle.r4_extent_turn.specs.Turning.{IsTurnFor, Turn, last_of, leaves_of}
use Rattle.r4_extent_turn.specs.TurningIn.{turn_from}
use Rattle.r4_extent_turn.proofs.Comes.{around_leaf}
use Rattle.r4_extent_turn.proofs.Keeps.{leaf_level}

pub twig_given : (twig : CellSeen) (cs : List CellSeen) → (turn_from twig cs).twig ≡ twig
twig_given twig [] = refl
twig_given twig (c ∷ cs) = refl

pub leaves_given : (b : Body) (twig : CellSeen) (cs : List CellSeen) → IsTurnFor b (turn_from twig cs) → cs ≡ leaves_of (turn_from twig cs)
leaves_given b twig [] is = let one = is.beside.0 in let two = is.level in absurd (omega (arith, one, two))
leaves_given b twig (c ∷ cs) is = refl

module _ (b : Body) (x : Turn) (c : IsTurnFor b x) where
  pub in_twig : is_between (rank x.twig.lo) (rank x.twig.hi) (first_byte b) ≡ true
  in_twig =
      let named = c.named x.leaf (here x.leaf x.more) in
      let from = c.node.name_from (name_of x.leaf) named in
      let to = c.node.name_to (name_of x.leaf) named in
      let lo = lo_is x.twig in
      let hi = hi_is x.twig in
      let low = c.around.low in
      let begins = c.around.begins in
      is_on (rank x.twig.lo) (rank x.twig.hi) (first_byte b) (omega (arith, from, lo, low)) (omega (arith, to, hi, begins))

  pub leaf_border : IsBorder (rank x.leaf.lo) (twig_pieces x.twig)
  leaf_border = turn_border x.twig c.pieces x.leaf x.more c.beside c.named (rank x.leaf.lo) (end_after b) (around_leaf b x c)

  pub are_ends : (from to : ℕ) → from ≡ first_byte b → to ≡ end_after b → AreEnds (leaves_of x) from to
  are_ends from to from_is to_is =
      let low = c.around.low in
      let begins = c.around.begins in
      let ends = c.around.ends in
      let high = c.around.high in
      record {
        level = leaf_level b x c x.leaf (here x.leaf x.more);
        last_level = leaf_level b x c (last_of x) (last_in x.leaf x.more);
        low = omega (arith, low, from_is);
        begins = omega (arith, begins, from_is);
        ends = omega (arith, ends, to_is);
        high = omega (arith, high, to_is);
        units = λ k v at. let inside = (c.nodes (last_of x) (last_in x.leaf x.more)).unit_in k v at in let hi = hi_is (last_of x) in omega (arith, inside, hi);
      }

-- ---- keys of one object

-- of two numbers in two digits
digits : (hk hp op m n : ℕ) → op < 2 ^ 64 → hk * 2 ^ 64 ≤ hp * 2 ^ 64 + op → hp * 2 ^ 64 + op + m ≤ hk * 2 ^ 64 + n → n < 2 ^ 64 → op + m ≤ n
digits hk hp op m n four low high small = omega arith

pub near : (k p : Key) (m n : ℕ) → IsKey p → offset_of k ≡ 0 → rank k ≤ rank p → rank p + m ≤ rank k + n → n < 2 ^ 64 → offset_of p + m ≤ n
unfolding rank
near k p m n is begins low high small =
    let four : offset_of p < 2 ^ 64 = is.small 3 in
    let hk = get_or k.el 0 0 * 2 ^ 128 + (get_or k.el 1 0 * 2 ^ 64 + get_or k.el 2 0) in
    let hp = get_or p.el 0 0 * 2 ^ 128 + (get_or p.el 1 0 * 2 ^ 64 + get_or p.el 2 0) in
    let a : hk * 2 ^ 64 ≤ hp * 2 ^ 64 + offset_of p = omega (arith, low, begins) in
    let z : hp * 2 ^ 64 + offset_of p + m ≤ hk * 2 ^ 64 + n = omega (arith, high, begins) in
    digits hk hp (offset_of p) m n four a z small
