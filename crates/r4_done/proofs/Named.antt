-- Cells of a list, by their names.
use Rattle.std.proofs.Common.{◌≡◌, inl, inr, ⊎_elim, ℕ, ◌==◌, true, false, List, [], ◌∷◌, ◌++◌, Contains}
use Rattle.std.proofs.Common.{Some, None, sym, ◌∙◌, ap, subst, arith}
use Rattle.std.proofs.lemmas.Bool.{cases_Bool, eq-eqb, eqb-true, or_left, or_right}
use Rattle.std.proofs.lemmas.List.Elements.{Contains-append_cases, Contains-append_left, Contains-append_right}
use Rattle.r4_atoms.specs.Atoms.{numbers}
use Rattle.r4_base.proofs.Members.{member_cases, member_here, member_later, no_member}
use Rattle.r4_base.specs.Tree.{Node}
use Rattle.r4_base.specs.Value.{Value}
use Rattle.r4_taking.specs.r4_buffer.Changed.{has_name}
use Rattle.r4_taking.specs.r4_cell.Patch.{by_name}
use Rattle.r4_taking.specs.r4_cell.Seen.{CellSeen}
use Rattle.r4_taking.specs.r4_history.Held.{names_of, need_of, nodes_of}
use Rattle.r4_taking.proofs.r4_history.ServingSteps.{cons_cases, cons_here, cons_later}
use Rattle.r4_counted.specs.r4_patch.Joining.{ids_of}
use Rattle.r4_counted.proofs.r4_patch.Members.{absent, found}
use Rattle.r4_taking.specs.r4_turns.declared.out.Out.{Out}

-- a cell of the list with this name
abbrev pub IsOne : List CellSeen → (name : ℕ) → Type 0
IsOne cells i = (x : CellSeen) × Contains cells x × (x.id ≡ i)

later_one : (x : CellSeen) (xs : List CellSeen) (i : ℕ) → IsOne xs i → IsOne (x ∷ xs) i
later_one x xs i h = (h.0, cons_later x xs h.0 h.1, h.2)

pub one_of_ids : (xs : List CellSeen) (i : ℕ) → Contains (ids_of xs) i → IsOne xs i
one_of_ids [] i h = absurd (no_member i h)
one_of_ids (x ∷ xs) i h =
    ⊎_elim (λ is. (x, cons_here x xs, sym is)) (λ rest. later_one x xs i (one_of_ids xs i rest))
    (member_cases x.id (ids_of xs) i h)

pub id_there : (xs : List CellSeen) (x : CellSeen) → Contains xs x → Contains (ids_of xs) x.id
id_there [] x h = let lt = h.1 in absurd (omega (arith, lt))
id_there (y ∷ ys) x h =
    ⊎_elim (λ is. member_here y.id (ids_of ys) x.id (ap (λ (z : CellSeen). z.id) (sym is)))
    (λ rest. member_later y.id (ids_of ys) x.id (id_there ys x rest)) (cons_cases y ys x h)

pub one_named : (xs : List CellSeen) (i : ℕ) → has_name xs i ≡ true → IsOne xs i
one_named [] i h = absurd (cc h)
one_named (x ∷ xs) i h = elim (cases_Bool (x.id == i)) [
  | inl is ↦ (x, cons_here x xs, eqb-true x.id i is)
  | inr not ↦ let e = rw not at h in later_one x xs i (one_named xs i e)
]

one_of_numbers : (xs : List CellSeen) (i : ℕ) → Contains (numbers (names_of xs)) i → IsOne xs i
one_of_numbers [] i h = absurd (no_member i h)
one_of_numbers (x ∷ xs) i h =
    ⊎_elim (λ is. (x, cons_here x xs, sym is)) (λ rest. later_one x xs i (one_of_numbers xs i rest))
    (member_cases x.id (numbers (names_of xs)) i h)

pub number_of : (xs : List CellSeen) (x : CellSeen) → Contains xs x → Contains (numbers (names_of xs)) x.id
number_of [] x h = absurd (none x h)
  where
    none : (x : CellSeen) → Contains [] x → ⊥
    none x c = let lt = c.1 in absurd (omega (arith, lt))
number_of (y ∷ ys) x h =
    ⊎_elim (λ is. member_here y.id (numbers (names_of ys)) x.id (ap (λ (z : CellSeen). z.id) (sym is)))
    (λ rest. member_later y.id (numbers (names_of ys)) x.id (number_of ys x rest)) (cons_cases y ys x h)

-- a node that a task reaches is one of the cells that it was given
pub reached_one : (out : Out) (i : ℕ) → Contains (nodes_of (need_of out)) i → IsOne (out.reads ++ out.writes) i
reached_one out i h =
    ⊎_elim
    (λ read. let x = one_of_numbers out.reads i read in (x.0, Contains-append_left out.reads out.writes x.0 x.1, x.2))
    (λ written.
    let x = one_of_numbers out.writes i written in (x.0, Contains-append_right out.reads out.writes x.0 x.1, x.2))
    (Contains-append_cases (numbers (names_of out.reads)) (numbers (names_of out.writes)) i h)

-- and each of those is such a node
pub node_of_need : (o : Out) (x : CellSeen) → Contains (o.reads ++ o.writes) x → Contains (nodes_of (need_of o)) x.id
node_of_need o x has =
    ⊎_elim
    (λ read.
    Contains-append_left (numbers (names_of o.reads)) (numbers (names_of o.writes)) x.id (number_of o.reads x read))
    (λ written.
    Contains-append_right (numbers (names_of o.reads)) (numbers (names_of o.writes)) x.id
    (number_of o.writes x written))
    (Contains-append_cases o.reads o.writes x has)

pub has_one : (xs : List CellSeen) (x : CellSeen) → Contains xs x → has_name xs x.id ≡ true
has_one [] x h = let lt = h.1 in absurd (omega (arith, lt))
has_one (y ∷ ys) x h =
    ⊎_elim (λ is. or_left (y.id == x.id) (has_name ys x.id) (eq-eqb y.id x.id (ap (λ (z : CellSeen). z.id) is)))
    (λ rest. or_right (y.id == x.id) (has_name ys x.id) (has_one ys x rest)) (cons_cases y ys x h)

-- which cell has a name
pub has_found : (cells : List CellSeen) (i : ℕ) (c : Node Value) → by_name cells i ≡ Some c → has_name cells i ≡ true
has_found cells i c at =
    let (x, has, is, says) = found cells i c at in
    subst (λ (j : ℕ). has_name cells j ≡ true) is (has_one cells x has)

pub not_found : (cells : List CellSeen) (i : ℕ) → has_name cells i ≡ false → by_name cells i ≡ None
not_found cells i none =
    absent cells i (λ x has is. cc (sym (subst (λ (j : ℕ). has_name cells j ≡ true) is (has_one cells x has)) ∙ none))
