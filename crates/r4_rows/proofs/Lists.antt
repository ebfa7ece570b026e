-- Parts of lists, and cells of which no two have one name.
use Rattle.std.proofs.Common.{◌≡◌, ◌≢◌, inl, inr, ℕ, zero, suc, List, [], ◌∷◌, ◌++◌, take, sym, ap, subst, ◌∙◌}
use Rattle.std.specs.Prelude.{Contains}
use Rattle.std.proofs.lemmas.List.Elements.{Contains-append_left, Contains-append_right}
use Rattle.r4_base.specs.Tree.{Name}
use Rattle.r4_cell.specs.Seen.{CellSeen, node_of}
use Rattle.r4_patch.proofs.Members.{Distinct, cases, here, later, none}
use Rattle.r4_path.specs.Steps.{AreNaming}

pub in_take : (k : ℕ) (ids : List ℕ) (i : ℕ) → Contains (take k ids) i → Contains ids i
in_take zero ids i at = absurd (none i at)
in_take (suc k) [] i at = absurd (none i at)
in_take (suc k) (j ∷ ids) i at = elim (cases j i (take k ids) at) [
  | inl is ↦ subst (Contains (j ∷ ids)) (sym is) (here j ids)
  | inr more ↦ later j i ids (in_take k ids i more)
]

pub distinct_left : (xs ys : List CellSeen) → Distinct (xs ++ ys) → Distinct xs
distinct_left [] ys d = tt
distinct_left (x ∷ xs) ys (first, rest) = (λ y at. first y (Contains-append_left xs ys y at), distinct_left xs ys rest)

pub distinct_right : (xs ys : List CellSeen) → Distinct (xs ++ ys) → Distinct ys
distinct_right [] ys d = d
distinct_right (x ∷ xs) ys (first, rest) = distinct_right xs ys rest

pub distinct_apart : (xs ys : List CellSeen) (x y : CellSeen) → Distinct (xs ++ ys) → Contains xs x → Contains ys y
    → x.id ≢ y.id
distinct_apart [] ys x y d mx my = absurd (none x mx)
distinct_apart (z ∷ xs) ys x y (first, rest) mx my = elim (cases z x xs mx) [
  | inl is ↦ λ same. first y (Contains-append_right xs ys y my) (sym (ap (λ (c : CellSeen). c.id) is) ∙ same)
  | inr more ↦ distinct_apart xs ys x y rest more my
]

-- ---- one cell

pub one_of : (c x : CellSeen) → Contains (c ∷ []) x → x ≡ c
one_of c x at = elim (cases c x [] at) [ inl is ↦ is | inr more ↦ absurd (none x more) ]

pub naming_one : (c : CellSeen) (n : Name) → AreNaming (c ∷ []) n → Contains (node_of c).names n
naming_one c n (x, mx, member) = subst (λ (z : CellSeen). Contains (node_of z).names n) (one_of c x mx) member

pub one_naming : (c : CellSeen) (n : Name) → Contains (node_of c).names n → AreNaming (c ∷ []) n
one_naming c n member = (c, here c [], member)
