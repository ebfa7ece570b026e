-- Counts of cells that have each a number of its own.
use Rattle.std.proofs.Common.{◌≡◌, inl, inr, ℕ, Bool, true, false, [], ◌∷◌, List, sym, ap, subst, ◌∙◌, map}
use Rattle.std.specs.Prelude.{Contains, if◌then◌else◌}
use Rattle.std.specs.List.{filter}
use Rattle.r4_put_tasks.specs.r4_build.r4_measure.r4_cell.Patch.{HaveNames}
use Rattle.r4_put_tasks.specs.r4_build.r4_measure.r4_cell.Seen.{CellSeen}
use Rattle.r4_put_tasks.proofs.r4_build.r4_patch.Members.{Distinct, cases, distinct, here, later, none}
use Rattle.r4_made.specs.Making.{CountsOnce}

-- one of them is of one of the cells
pub mapped : {X Y : Type 0} (f : X → Y) (xs : List X) (y : Y) → Contains (map f xs) y → (x : X) × Contains xs x × (y ≡ f x)
mapped f [] y has = absurd (none y has)
mapped f (x ∷ xs) y has = elim (cases (f x) y (map f xs) has) [
  | inl is ↦ (x, here x xs, is)
  | inr rest ↦ let (z, at, is) = mapped f xs y rest in (z, later x z xs at, is)
]

pub kept : {X : Type 0} (p : X → Bool) (xs : List X) (x : X) → Contains (filter p xs) x → Contains xs x
kept p [] x has = has
kept p (y ∷ ys) x has = by (p y) has (λ rest. later y x ys (kept p ys x rest))
  where
    by : (t : Bool) → Contains (if t then y ∷ filter p ys else filter p ys) x
        → (Contains (filter p ys) x → Contains (y ∷ ys) x) → Contains (y ∷ ys) x
    by true at more = elim (cases y x (filter p ys) at) [
      | inl is ↦ subst (Contains (y ∷ ys)) (sym is) (here y ys)
      | inr rest ↦ more rest
    ]
    by false at more = more at

-- no two of the cells have one number
one_cell : (cells : List CellSeen) → Distinct cells → (c d : CellSeen) → Contains cells c → Contains cells d
    → c.id ≡ d.id → c ≡ d
one_cell [] apart c d has also same = absurd (none c has)
one_cell (x ∷ xs) apart c d has also same = elim (cases x c xs has) [
  | inl first ↦ elim (cases x d xs also) [
    | inl second ↦ first ∙ sym second
    | inr second ↦ absurd (apart.0 d second (ap (λ (y : CellSeen). y.id) (sym first) ∙ same))
  ]
  | inr first ↦ elim (cases x d xs also) [
    | inl second ↦ absurd (apart.0 c first (ap (λ (y : CellSeen). y.id) (sym second) ∙ sym same))
    | inr second ↦ one_cell xs apart.1 c d first second same
  ]
]

pub counts_once : (f : CellSeen → ℕ × ℕ) (p : CellSeen → Bool) (cells : List CellSeen) → HaveNames cells
    → ((c : CellSeen) → (f c).0 ≡ c.id) → CountsOnce (map f (filter p cells))
counts_once f p cells names ids x y has also same =
    let (c, at, is) = mapped f (filter p cells) x has in
    let (d, there, says) = mapped f (filter p cells) y also in
    let one = one_cell cells (distinct cells names) c d (kept p cells c at) (kept p cells d there)
    (sym (ids c) ∙ (ap (λ (z : ℕ × ℕ). z.0) (sym is) ∙ (same ∙ (ap (λ (z : ℕ × ℕ). z.0) says ∙ ids d)))) in
    ap (λ (z : ℕ × ℕ). z.1) is ∙ (ap (λ (q : CellSeen). (f q).1) one ∙ ap (λ (z : ℕ × ℕ). z.1) (sym says))
