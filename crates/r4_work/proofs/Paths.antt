-- The path to a key among the cells that stand.
use Rattle.std.specs.Prelude.{◌≡◌, ℕ, zero, suc, ◌+◌, ◌<◌, ◌≤◌, ◌==◌, ◌&&◌, if◌then◌else◌, nat_le, nat_lt, Bool, true, false, List, [], ◌∷◌, Contains, None, Option, Some}
use mathlib.Core.Path.{refl, sym, ap, subst, ◌∙◌}
use mathlib.Core.Logic.{inl, inr}
use native.Mathlib.Omega.{arith}
use Rattle.std.proofs.lemmas.Bool.{eqb-true}
use Rattle.std.proofs.lemmas.Option.{none-some, same_Some}
use Rattle.std.specs.Option.{option_or}
use Rattle.r4_base.specs.Key.{rank}
use Rattle.r4_base.specs.Tree.{Name, Node, Root, Store}
use Rattle.r4_base.specs.Value.{Value}
use Rattle.r4_base.proofs.Trees.{one_cell}
use Rattle.r4_edit.specs.r4_cell.Seen.{CellSeen, node_of}
use Rattle.r4_edit.specs.r4_patch.Part.{IsPart}
use Rattle.r4_edit.proofs.r4_patch.PartCells.{apart, in_name, in_namer, one_above, parent, root_high}
use Rattle.r4_edit.specs.r4_path.Steps.{Ascends, IsNamedBy, name_of}
use Rattle.r4_edit.proofs.r4_patch.Members.{here, later}
use Rattle.r4_edit.proofs.r4_path.Rising.{InCell, hi_is, in_node, level_is, lo_is}
use Rattle.r4_work.specs.Order.{IsAt, cell_at, is_at}
use Rattle.r4_work.specs.Working.{first_and, ups_of}

both_true : (a b : Bool) → a && b ≡ true → (a ≡ true) × (b ≡ true)
both_true true b h = (refl, h)
both_true false b h = grind (arith, h)

is_le : (a b : ℕ) → nat_le a b ≡ true → a ≤ b
is_le a b h = grind (arith, h)

is_lt : (a b : ℕ) → nat_lt a b ≡ true → a < b
is_lt a b h = grind (arith, h)

pub stands_at : (level k : ℕ) (c : CellSeen) → is_at level k c ≡ true → (c.level ≡ level) × InCell c k
stands_at level k c h =
    let (first, d) = both_true (c.level == level && nat_le (rank c.lo) k) (nat_lt k (rank c.hi)) h in
    let (a, b) = both_true (c.level == level) (nat_le (rank c.lo) k) first in
    (eqb-true c.level level a, (is_le (rank c.lo) k b, is_lt k (rank c.hi) d))

pub found_is : (cells : List CellSeen) (level k : ℕ) (c : CellSeen) → cell_at cells level k ≡ Some c
    → IsAt cells level k c
found_is [] level k c e = absurd (none-some c e)
found_is (y ∷ ys) level k c e =
    later_or (cell_at ys level k) (is_at level k y) refl refl (found_is ys level k c) e
  where
    later_or : (o : Option CellSeen) (b : Bool) → cell_at ys level k ≡ o → is_at level k y ≡ b
        → (cell_at ys level k ≡ Some c → IsAt ys level k c)
        → option_or o (if b then Some y else None) ≡ Some c → IsAt (y ∷ ys) level k c
    later_or (Some x) b was is rest e =
        let h = rest (was ∙ e) in
        record { among = later y c ys h.among; level_is = h.level_is; range = h.range }
    later_or None true was is rest e =
        let same : y ≡ c = same_Some y c e in
        let (a, b) = stands_at level k y is in
        subst (IsAt (y ∷ ys) level k) same (record { among = here y ys; level_is = a; range = b })
    later_or None false was is rest e = absurd (none-some c e)

module _ (s : Store Value) (r : Root) (part : IsPart s r) where
  -- of two cells of neighbouring levels with a key in common the upper one names the lower
  pub names_next : (b c : CellSeen) (k : ℕ) → s b.id ≡ Some (node_of b) → s c.id ≡ Some (node_of c) → 1 ≤ b.level → c.level ≡ b.level + 1 → InCell b k → InCell c k → Contains (node_of c).names (name_of b)
  names_next b c k sb sc one up at_b at_c =
      let bl = level_is b in
      let cl = level_is c in
      elim (parent s r part b.id (node_of b) sb) [
        | inl is ↦
            let high = root_high s r part b.id (node_of b) sb is in
            let most = part.none_above c.id (node_of c) sc in
            absurd (omega (arith, high, most, bl, cl, up))
        | inr h ↦
            let (j, d, n, sd, dn, is, f) = h in
            let jd = part.nodes j d sd in
            let nl = f.level in
            let dl = one_above d n jd dn (omega (arith, nl, bl, one)) in
            let at_d = in_namer d n k jd dn (in_name (node_of b) n k f (in_node b k at_b)) in
            let jc : j ≡ c.id = apart s r part j c.id d (node_of c) k sd sc (omega (arith, dl, nl, bl, cl, up)) (omega (arith, dl)) at_d (in_node c k at_c) in
            let same : d ≡ node_of c = one_cell s c.id d (node_of c) (subst (λ x. s x ≡ Some d) jc sd) sc in
            let level : n.level ≡ b.level = sym f.level ∙ bl in
            let lo : n.lo ≡ rank b.lo = sym f.lo ∙ lo_is b in
            let hi : n.hi ≡ rank b.hi = sym f.hi ∙ hi_is b in
            let name : n ≡ name_of b = λ i. record { id = is i; level = level i; lo = lo i; hi = hi i } in
            subst (λ (x : Name). Contains (node_of c).names x) name (subst (λ (x : Node Value). Contains x.names n) same dn)
      ]

  module _ (cells : List CellSeen) (stand : (c : CellSeen) → Contains cells c → s c.id ≡ Some (node_of c)) (k : ℕ) where
    Fits : Option CellSeen → ℕ → Type 0
    Fits None level = 1 ≤ level
    Fits (Some b) level = (s b.id ≡ Some (node_of b)) × (1 ≤ b.level) × (level ≡ b.level + 1) × InCell b k

    low : (below : Option CellSeen) (level : ℕ) → Fits below level → 1 ≤ level
    unfolding Fits
    low None level h = h
    low (Some b) level h = omega (arith, h)

    named_by : (below : Option CellSeen) (level : ℕ) (c : CellSeen) → Fits below level → IsAt cells level k c → IsNamedBy below c
    unfolding Fits
    named_by None level c h at = tt
    named_by (Some b) level c h at = let level_at = at.level_is in let up = h.2 in names_next b c k h.0 (stand c at.among) h.1 (omega (arith, level_at, up)) h.3 at.range

    next_fits : (level : ℕ) (c : CellSeen) → 1 ≤ level → IsAt cells level k c → Fits (Some c) (level + 1)
    unfolding Fits
    next_fits level c one at = let level_at = at.level_is in (stand c at.among, omega (arith, level_at, one), omega (arith, level_at), at.range)

    with_first : (below : Option CellSeen) (level : ℕ) (o : Option CellSeen) (rest : List CellSeen) → Fits below level → cell_at cells level k ≡ o → ((c : CellSeen) → Fits (Some c) (level + 1) → Ascends s (Some c) rest) → Ascends s below (first_and o rest)
    with_first below level None rest h e next = tt
    with_first below level (Some c) rest h e next =
        let at = found_is cells level k c e in
        let one = low below level h in
        let level_at = at.level_is in
        (stand c at.among, omega (arith, level_at, one), named_by below level c h at, next c (next_fits level c one at))

    ascend : (n : ℕ) (below : Option CellSeen) (level : ℕ) → Fits below level → Ascends s below (ups_of n cells level k)
    unfolding ups_of
    ascend zero below level h = tt
    ascend (suc n) below level h = with_first below level (cell_at cells level k) (ups_of n cells (level + 1) k) h refl (λ c g. ascend n (Some c) (level + 1) g)

    -- from a level on
    pub ascends_from : (n level : ℕ) → 1 ≤ level → Ascends s None (ups_of n cells level k)
    unfolding Fits
    ascends_from n level one = ascend n None level one

    pub path_ascends : Ascends s None (ups_of 8 cells 1 k)
    path_ascends = ascends_from 8 1 (omega arith)

-- the lowest of the cells from a level on is of that level, and has the key
pub lowest_from : (n : ℕ) (cells : List CellSeen) (level k : ℕ) (c : CellSeen) (ups : List CellSeen) → ups_of (suc n) cells level k ≡ c ∷ ups → IsAt cells level k c
unfolding ups_of
lowest_from n cells level k c ups e = first_is (cell_at cells level k) (ups_of n cells (level + 1) k) refl e
  where
    first_is : (o : Option CellSeen) (rest : List CellSeen) → cell_at cells level k ≡ o → first_and o rest ≡ c ∷ ups → IsAt cells level k c
    first_is None rest is e = absurd cc
    first_is (Some d) rest is e = let same : d ≡ c = cc in found_is cells level k c (is ∙ ap Some same)

-- and those above it are the cells from the next level on
pub ups_from : (n : ℕ) (cells : List CellSeen) (level k : ℕ) (c : CellSeen) (ups : List CellSeen) → ups_of (suc n) cells level k ≡ c ∷ ups → ups_of n cells (level + 1) k ≡ ups
unfolding ups_of
ups_from n cells level k c ups e = by_first (cell_at cells level k) (ups_of n cells (level + 1) k) e
  where
    by_first : (o : Option CellSeen) (rest : List CellSeen) → first_and o rest ≡ c ∷ ups → rest ≡ ups
    by_first None rest e = absurd cc
    by_first (Some d) rest e = cc

-- the lowest of the path is a leaf that has the key
pub lowest_is : (cells : List CellSeen) (k : ℕ) (leaf : CellSeen) (ups : List CellSeen) → ups_of 8 cells 1 k ≡ leaf ∷ ups → IsAt cells 1 k leaf
lowest_is cells k leaf ups e = lowest_from 7 cells 1 k leaf ups e
