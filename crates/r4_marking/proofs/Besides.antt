-- The leaves beside the twigs that turn.
use Rattle.std.proofs.Common.{◌≡◌, ◌⊎◌, inl, inr, ℕ, suc, ◌+◌, ◌<◌, true, false, List, [], ◌∷◌, ◌++◌, map, take, refl, sym, ap, subst, ◌∙◌, arith}
use Rattle.std.specs.Prelude.{Bool, Contains, Some, if◌then◌else◌, slice_get}
use Rattle.std.proofs.lemmas.List.{append-nil}
use Rattle.std.proofs.lemmas.List.Elements.{Contains-append_cases, Contains-append_left, Contains-append_right}
use Rattle.r4_base.specs.Tree.{Name}
use Rattle.r4_search.specs.r4_cell.Patch.{by_name}
use Rattle.r4_search.specs.r4_cell.Seen.{CellSeen, node_of}
use Rattle.r4_reach.proofs.r4_patch.Members.{cases, found, here, later, none}
use Rattle.r4_reach.specs.Demand.{Demand}
use Rattle.r4_reach.specs.Needs.{Ask}
use Rattle.r4_reach.specs.Reach.{IsBeside}
use Rattle.r4_marking.specs.Marks.{AddsBeside, AreBeside, StandsBeside}
use Rattle.r4_marking.proofs.Asked.{take_cases, take_on, taken}

-- ---- numbers of names

pub id_in : (ns : List Name) (i : ℕ) → Contains (map (λ (n : Name). n.id) ns) i → (n : Name) × Contains ns n × (n.id ≡ i)
id_in [] i at = absurd (none i at)
id_in (n ∷ ns) i at = elim (cases n.id i (map (λ (m : Name). m.id) ns) at) [
  | inl same ↦ (n, here n ns, sym same)
  | inr more ↦ let (m, in_rest, is) = id_in ns i more in (m, later n m ns in_rest, is)
]

pub in_ids : (ns : List Name) (n : Name) → Contains ns n → Contains (map (λ (m : Name). m.id) ns) n.id
in_ids [] n at = absurd (none n at)
in_ids (m ∷ ns) n at = elim (cases m n ns at) [
  | inl same ↦ subst (λ (x : Name). Contains (map (λ (y : Name). y.id) (m ∷ ns)) x.id) (sym same) (here m.id (map (λ (y : Name). y.id) ns))
  | inr more ↦ later m.id n.id (map (λ (y : Name). y.id) ns) (in_ids ns n more)
]

-- ---- one cell more

module _ (d : Demand Ask) (met : List CellSeen) (k : ℕ) (c : CellSeen) (is : slice_get met k ≡ Some c) (ids : List ℕ) (h : AreBeside d (take k met) ids) where
  next_k : suc k ≡ k + 1
  next_k = omega arith

  was_beside : (i : ℕ) → StandsBeside d (take k met) i → StandsBeside d (take (k + 1) met) i
  was_beside i (x, at, turns, has) = (x, subst (λ (j : ℕ). Contains (take j met) x) next_k (take_on k met x at), turns, has)

  its_own : Contains (take (k + 1) met) c
  its_own = subst (λ (j : ℕ). Contains (take j met) c) next_k (taken (suc k) k met c is (omega arith))

  cases_of : (x : CellSeen) → Contains (take (k + 1) met) x → Contains (take k met) x ⊎ (x ≡ c)
  cases_of x at = take_cases k met c x is (subst (λ (j : ℕ). Contains (take j met) x) (sym next_k) at)

  pub no_turn : d.turns (node_of c) ≡ false → AreBeside d (take (k + 1) met) ids
  no_turn still i = (
    (λ at. was_beside i ((h i).0 at)),
    (λ s. let (x, at, turns, has) = s in elim (cases_of x at) [
      | inl first ↦ (h i).1 (x, first, turns, has)
      | inr same ↦ absurd (let e = sym still ∙ (ap (λ (y : CellSeen). d.turns (node_of y)) (sym same) ∙ turns) in cc)
    ]),
  )

  pub turned : (more : List ℕ) → d.turns (node_of c) ≡ true → more ≡ map (λ (n : Name). n.id) (d.beside (node_of c)) → AreBeside d (take (k + 1) met) (ids ++ more)
  turned more turns are i = (
    (λ at. elim (Contains-append_cases ids more i at) [
      | inl first ↦ was_beside i ((h i).0 first)
      | inr new ↦ (c, its_own, turns, id_in (d.beside (node_of c)) i (subst (λ (xs : List ℕ). Contains xs i) are new))
    ]),
    (λ s. let (x, at, turning, has) = s in let (n, beside, id) = has in elim (cases_of x at) [
      | inl first ↦ Contains-append_left ids more i ((h i).1 (x, first, turning, has))
      | inr same ↦ Contains-append_right ids more i
          (subst (λ (xs : List ℕ). Contains xs i) (sym are) (subst (λ (j : ℕ). Contains (map (λ (m : Name). m.id) (d.beside (node_of c))) j) id (in_ids (d.beside (node_of c)) n (subst (λ (y : CellSeen). Contains (d.beside (node_of y)) n) same beside))))
    ]),
  )

  pub beside_more : (more : List ℕ) → AddsBeside d c ids more → AreBeside d (take (k + 1) met) more
  beside_more more adds = by (d.turns (node_of c)) refl adds
    where
      by : (b : Bool) → d.turns (node_of c) ≡ b → AddsBeside d c ids more → AreBeside d (take (k + 1) met) more
      by true e added = subst (AreBeside d (take (k + 1) met)) (sym (added ∙ ap (λ (b : Bool). ids ++ (if b then map (λ (n : Name). n.id) (d.beside (node_of c)) else [])) e)) (turned (map (λ (n : Name). n.id) (d.beside (node_of c))) e refl)
      by false e added = subst (AreBeside d (take (k + 1) met)) (sym (added ∙ (ap (λ (b : Bool). ids ++ (if b then map (λ (n : Name). n.id) (d.beside (node_of c)) else [])) e ∙ append-nil ids))) (no_turn e)
