-- What cells name that were met and hang together can be asked for.
use Rattle.std.proofs.Common.{◌≡◌, inl, inr, ℕ, zero, suc, ◌+◌, ◌≤◌, Bool, List, [], ◌∷◌, refl, sym, ap, subst}
use Rattle.std.proofs.Common.{arith}
use Rattle.std.specs.Prelude.{Contains, IsSome, Option, Some, sum_by}
use Rattle.std.specs.Option.{option_or}
use Rattle.std.proofs.lemmas.List.Sums.{sum_by-cons}
use Rattle.r4_base.specs.Tree.{Name}
use Rattle.r4_extent_commands.specs.r4_cell.Seen.{CellSeen}
use Rattle.r4_extent_commands.specs.r4_cell.declared.change.Root.{Root}
use Rattle.r4_extent_reaching.proofs.r4_judging.Below.{name_below}
use Rattle.r4_extent_reaching.proofs.r4_touching.r4_patch.Members.{cases, none}
use Rattle.r4_extent_reaching.specs.r4_reaching.Gathering.{AreAllMet}
use Rattle.r4_extent_asks.specs.r4_search.Keeping.{Shared, WereAnswered, keeping_state, met_in}
use Rattle.r4_extent_asks.specs.r4_search.Path.{root_name}
use Rattle.r4_extent_asks.specs.r4_search.Pool.{IsFrom, IsKnown, IsNamed, IsNamedFrom, KnowsNames, PoolState}
use Rattle.r4_extent_asks.proofs.r4_search.Kept.{knows_met}
use Rattle.r4_extent_asks.proofs.r4_search.Walks.{named_below}
use Rattle.r4_extent_reach.specs.Meeting.{CanMeet}

-- no cell of a list stands higher than all of their levels together
level_most : (cells : List CellSeen) (c : CellSeen) → Contains cells c → c.level ≤ sum_by (λ (x : CellSeen). x.level) cells
level_most [] c at = absurd (none c at)
level_most (x ∷ xs) c at =
    let sum = sum_by-cons (λ (y : CellSeen). y.level) x xs in
    elim (cases x c xs at) [
      | inl is ↦ (let same = ap (λ (y : CellSeen). y.level) is in omega (arith, sum, same))
      | inr later ↦ (let rest = level_most xs c later in omega (arith, sum, rest))
    ]

module _ (below : PoolState) (all : Bool) (met : List (ℕ × Shared)) (answered : WereAnswered below met) (root : Root)
    (h : CanMeet (keeping_state below all met) root) (cells : List CellSeen)
    (are : AreAllMet (met_in met) cells) where
  abbrev p : PoolState
  p = keeping_state below all met

  abbrev most : ℕ
  most = sum_by (λ (x : CellSeen). x.level) cells

  record IsReached (c : CellSeen) : Type 0 where
    name : Name
    is : IsNamed name c
    from : IsNamedFrom p.root (IsFrom p) name

  kept : (c : CellSeen) → met_in met c.id ≡ Some c → p.kept c.id ≡ Some c
  kept c is = ap (λ (o : Option CellSeen). option_or o (below.kept c.id)) is

  -- from the root down to each of them
  reached : (f : ℕ) (c : CellSeen) → Contains cells c → most ≤ c.level + f → IsReached c
  reached zero c at high = elim (h.hung.hung c.id c ((are.are c).0 at)) [
    | inl top ↦ record { name = root_name root; is = top; from = h.begins.named }
    | inr up ↦
        let le = level_most cells up.up ((are.are up.up).1 up.met) in
        let lower = (name_below up.up up.name up.named).below in
        let level = up.is.level in
        absurd (omega (arith, high, le, lower, level))
  ]
  reached (suc f) c at high = elim (h.hung.hung c.id c ((are.are c).0 at)) [
    | inl top ↦ record { name = root_name root; is = top; from = h.begins.named }
    | inr up ↦
        let lower = (name_below up.up up.name up.named).below in
        let level = up.is.level in
        let r = reached f up.up ((are.are up.up).1 up.met) (omega (arith, high, lower, level)) in
        record {
          name = up.name;
          is = up.is;
          from = named_below p.root (IsFrom p) r.name up.name up.up r.from r.is (inl (kept up.up up.met)) up.named;
        }
  ]

  pub knows_each : (c : CellSeen) → Contains cells c → KnowsNames p c
  knows_each c at =
      let was = (are.are c).0 at in
      let r = reached most c at (omega arith) in
      let id = r.is.id in
      let known : IsKnown p r.name = record {
        stands = inl (subst (λ (i : ℕ). IsSome (p.kept i)) id (subst (λ (o : Option CellSeen). IsSome o)
            (sym (kept c was)) refl));
        named = r.from;
      } in
      knows_met below all met answered r.name c known r.is was (answered c.id c was).names
