-- How many twigs pieces are packed into.
use Rattle.std.proofs.Common.{◌≡◌, ℕ, ◌+◌, ◌*◌, ◌<◌, ◌≤◌, Bool, true, false, List, [], ◌∷◌, ◌++◌, length, refl, ap, arith}
use Rattle.std.specs.Prelude.{Option, None, if◌then◌else◌}
use Rattle.r4_base.specs.Key.{rank}
use Rattle.r4_branch.specs.Pieces.{bytes_behind, is_at, last_end, open_end, part_bytes, twig_bytes}
use Rattle.r4_branch.specs.Twigs.{AreFewTwigs, PacksTwigs}
use Rattle.r4_branch.specs.declared.piece.TwigPart.{TwigPart}
use Rattle.r4_branch.specs.declared.piece.TwigPart.TheVariants.{Pointer, Blocks}
use Rattle.r4_branch.specs.declared.piece.TwigPiece.{TwigPiece}
use Rattle.r4_branch.specs.declared.twig.Twig.{Twig}

unit_cost : (t : Bool) → (let n : ℕ = if t then 16 else 54 in (n ≤ 54) × (54 ≤ n + 38))
unit_cost true = (omega arith, omega arith)
unit_cost false = (omega arith, omega arith)

-- What a piece costs at most, and by how much less it costs behind another one: by a header at most.
pub record Costs (before : Option ℕ) (k : ℕ) (part : TwigPart) : Type 0 where
  pub most : part_bytes before k part ≤ 54
  pub less : part_bytes None k part ≤ part_bytes before k part + 38
  pub first : part_bytes before k part ≤ part_bytes None k part

pub costs : (before : Option ℕ) (k : ℕ) (part : TwigPart) → Costs before k part
costs before k (Pointer to) = record { most = omega arith; less = omega arith; first = omega arith }
costs before k (Blocks u) = let h = unit_cost (is_at before k) in record { most = h.0; less = h.1; first = h.0 }

pub behind_append : (before : Option ℕ) (xs ys : List TwigPiece) → bytes_behind before (xs ++ ys) ≡ bytes_behind before xs + bytes_behind (last_end before xs) ys
unfolding bytes_behind
behind_append before [] ys = omega arith
behind_append before (x ∷ xs) ys = let h = behind_append (open_end x) xs ys in omega (arith, h)

behind_least : (before : Option ℕ) (ps : List TwigPiece) → twig_bytes ps ≤ bytes_behind before ps + 38
unfolding bytes_behind
behind_least before [] = omega arith
behind_least before (p ∷ ps) = let h = (costs before (rank p.key) p.part).less in omega (arith, h)

-- and never more
pub behind_most : (before : Option ℕ) (ps : List TwigPiece) → bytes_behind before ps ≤ twig_bytes ps
unfolding bytes_behind
behind_most before [] = omega arith
behind_most before (p ∷ ps) = let h = (costs before (rank p.key) p.part).first in omega (arith, h)

first_behind : (before : Option ℕ) (p : TwigPiece) (ps : List TwigPiece) → part_bytes before (rank p.key) p.part ≤ bytes_behind before (p ∷ ps)
unfolding bytes_behind
first_behind before p ps = omega arith

-- each twig but the last takes many bytes
take_many : (lo hi : ℕ) (ps : List TwigPiece) (before : Option ℕ) (x : Twig) (more : List Twig) → PacksTwigs lo hi ps (x ∷ more) → 3977 * length more ≤ bytes_behind before ps
take_many lo hi ps before x [] p = omega arith
take_many lo hi ps before x (y ∷ more) p =
    let first = p.0 in
    let rest = p.1 ∷ p.2 in
    let all : bytes_behind before ps ≡ bytes_behind before (first ++ rest) = ap (bytes_behind before) p.3 in
    let both = behind_append before first rest in
    let full = p.7.full in
    let small = (costs (last_end None first) (rank p.1.key) p.1.part).most in
    let least = behind_least before first in
    let others = take_many (rank p.1.key) hi rest (last_end before first) y more p.8 in
    omega (arith, all, both, full, small, least, others)

module _ (lo hi : ℕ) (ps : List TwigPiece) where
  one : (twigs : List Twig) → PacksTwigs lo hi ps twigs → twig_bytes ps ≤ 4068 → length twigs ≡ 1
  one [] p fit = absurd p
  one (x ∷ []) p fit = refl
  one (x ∷ (y ∷ more)) p fit =
      let first = p.0 in
      let all : twig_bytes ps ≡ twig_bytes (first ++ p.1 ∷ p.2) = ap twig_bytes p.3 in
      let both = behind_append None first (p.1 ∷ p.2) in
      let next = first_behind (last_end None first) p.1 p.2 in
      let full = p.7.full in
      absurd (omega (arith, fit, all, both, next, full))

  several : (twigs : List Twig) → PacksTwigs lo hi ps twigs → 4068 < twig_bytes ps → 2 ≤ length twigs
  several [] p many = absurd p
  several (x ∷ []) p many = let fits = p.fits in absurd (omega (arith, fits, many))
  several (x ∷ (y ∷ more)) p many = omega arith

  more : (twigs : List Twig) → PacksTwigs lo hi ps twigs → 4068 < twig_bytes ps → 1024 * length twigs + 2020 < twig_bytes ps
  more [] p many = absurd p
  more (x ∷ []) p many = omega (arith, many)
  more (x ∷ (y ∷ [])) p many = omega (arith, many)
  more (x ∷ (y ∷ (z ∷ ts))) p many = let h = take_many lo hi ps None x (y ∷ (z ∷ ts)) p in omega (arith, h)

  pub are_few : (twigs : List Twig) → PacksTwigs lo hi ps twigs → AreFewTwigs ps twigs
  are_few twigs p = record { one = one twigs p; several = several twigs p; more = more twigs p }
