-- A tree that has the cells which a task reads and writes has all that its command reaches in the cells that were met.
use Rattle.std.proofs.Common.{◌≡◌, ◌≢◌, ◌⊎◌, inl, inr, ℕ, List, [], ◌∷◌, ◌++◌, sym, ap, subst, ◌∙◌}
use Rattle.std.specs.Prelude.{Contains, Option, Some}
use Rattle.std.proofs.Math.Decide.{ℕ_discrete}
use Rattle.std.proofs.lemmas.List.Elements.{Contains-append_left, Contains-append_right}
use Rattle.std.proofs.lemmas.Option.{same_Some}
use Rattle.r4_base.specs.Tree.{Node, Store}
use Rattle.r4_base.specs.Value.{Value}
use Rattle.r4_sets_told.specs.r4_cell.Patch.{by_name}
use Rattle.r4_sets_told.specs.r4_cell.Seen.{CellSeen, node_of}
use Rattle.r4_sets_told.specs.r4_cell.declared.change.Root.{Root as RootPair}
use Rattle.r4_content.specs.declared.command.Command.{Command}
use Rattle.r4_sets_told.proofs.r4_patch.Members.{cases, found, here, later, none}
use Rattle.r4_build.specs.r4_reach.Answer.{IsReachOf}
use Rattle.r4_build.specs.r4_reach.Needs.{demand_on}
use Rattle.r4_build.specs.r4_reach.Reach.{HasReached, IsReached, IsWritten}

-- one of the cells has the number, or none has
named_or_none : (cells : List CellSeen) (i : ℕ)
    → ((x : CellSeen) × Contains cells x × (x.id ≡ i)) ⊎ ((x : CellSeen) → Contains cells x → x.id ≢ i)
named_or_none [] i = inr (λ x has _. none x has)
named_or_none (y ∷ cells) i = elim (ℕ_discrete y.id i) [
  | yes same ↦ inl (y, here y cells, same)
  | no other ↦ elim (named_or_none cells i) [
    | inl h ↦ let (x, has, same) = h in inl (x, later y x cells has, same)
    | inr h ↦ inr (λ x has same. elim (cases y x cells has) [
      | inl is ↦ other (ap (λ (z : CellSeen). z.id) (sym is) ∙ same)
      | inr rest ↦ h x rest same
    ])
  ]
]

module _ (root : RootPair) (c : Command) (met reads writes : List CellSeen) (rises : Option RootPair)
    (h : IsReachOf root c met reads writes rises) (u : Store Value)
    (names : (x : CellSeen) → Contains writes x → by_name met x.id ≡ Some (node_of x))
    (stand : (x : CellSeen) → Contains (reads ++ writes) x → u x.id ≡ Some (node_of x)) where
  -- it is among those that are read or written
  pub among : (i : ℕ) (n : Node Value) → IsReached (demand_on c h.seen h.in_extents) (by_name met) i
      → by_name met i ≡ Some n
      → (x : CellSeen) × Contains (reads ++ writes) x × (x.id ≡ i) × (node_of x ≡ n)
  among i n reached at = elim (named_or_none writes i) [
    | inl written ↦
        let (x, has, same) = written in
        let is : by_name met i ≡ Some (node_of x) =
        subst (λ (j : ℕ). by_name met j ≡ Some (node_of x)) same (names x has) in
        (x, Contains-append_right reads writes x has, same, same_Some (node_of x) n (sym is ∙ at))
    | inr not ↦
        let (x, has, id, says) = found met i n at in
        let no_write : IsWritten (demand_on c h.seen h.in_extents) (by_name met) x.id → ⊥ =
        λ w. not x ((h.written x).1 (has, w)) id in
        let there = subst (IsReached (demand_on c h.seen h.in_extents) (by_name met)) (sym id) reached in
        (x, Contains-append_left reads writes x ((h.read x).1 (has, (there, no_write))), id, sym says)
  ]

  pub reached_there : HasReached (demand_on c h.seen h.in_extents) (by_name met) u
  reached_there i n reached at =
      let (x, has, id, is) = among i n reached at in
      subst (λ (j : ℕ). u j ≡ Some n) id (stand x has ∙ ap (λ (y : Node Value). Some y) is)
