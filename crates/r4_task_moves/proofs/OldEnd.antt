-- A key that an old cell of a change holds is below a number that the cells tell.
use Rattle.std.proofs.Common.{inl, inr, ℕ, ◌+◌, ◌<◌, ◌≤◌, List, [], ◌∷◌, ap, subst, arith}
use Rattle.std.specs.Prelude.{Contains, sum_by}
use Rattle.std.proofs.lemmas.List.Sums.{sum_by-cons}
use Rattle.r4_base.specs.Key.{rank}
use Rattle.r4_base.specs.Tree.{Holds, Node, Span}
use Rattle.r4_base.specs.Value.{Value}
use Rattle.r4_turned_moves.specs.r4_extent_moves.r4_applied.r4_patch.Effect.{IsHeld}
use Rattle.r4_turned_moves.specs.r4_extent_moves.r4_applied.r4_sets_told.r4_cell.Seen.{CellSeen, node_of}
use Rattle.r4_turned_moves.specs.r4_extent_moves.r4_applied.r4_sets_told.r4_cell.declared.change.Change.{Change}
use Rattle.r4_turned_moves.specs.r4_extent_moves.r4_applied.r4_sets_told.r4_patch.Joining.{patch_of_change}
use Rattle.r4_turned_moves.proofs.r4_extent_moves.r4_applied.r4_sets_told.r4_patch.Members.{cases, found, none}
use Rattle.r4_turned_moves.proofs.r4_extent_moves.r4_applied.r4_build.r4_path.Rising.{hi_is}

member_adds : {X : Type 0} (f : X → ℕ) (xs : List X) (x : X) → Contains xs x → f x ≤ sum_by f xs
member_adds f [] x has = absurd (none x has)
member_adds f (y ∷ ys) x has = elim (cases y x ys has) [
  | inl is ↦ let sum = sum_by-cons f y ys in let same = ap f is in omega (arith, sum, same)
  | inr rest ↦ let sum = sum_by-cons f y ys in let more = member_adds f ys x rest in omega (arith, sum, more)
]

-- behind all keys that the cell may hold
abbrev pub end_of : CellSeen → ℕ
end_of c = rank c.hi + sum_by (λ (s : Span). s.hi) (node_of c).spans

abbrev pub end_among : List CellSeen → ℕ
end_among cells = sum_by end_of cells

below_end : (c : CellSeen) (k : ℕ) → Holds (node_of c) k → k < end_of c
below_end c k (inl (low, node)) = let high = hi_is c in omega (arith, node, high)
below_end c k (inr (s, among, within, rest)) =
    let adds = member_adds (λ (s : Span). s.hi) (node_of c).spans s among in
    omega (arith, within, adds)

pub held_below : (d : Change) (k : ℕ) → IsHeld (patch_of_change d).old k → k < end_among d.old
held_below d k (i, c, at, holds) =
    let (x, has, id, says) = found d.old i c at in
    let low = below_end x k (subst (λ (q : Node Value). Holds q k) says holds) in
    let adds = member_adds end_of d.old x has in
    omega (arith, low, adds)
