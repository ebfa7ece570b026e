-- New cells as nodes by themselves, and a step that puts leaves in the place of one.
use Rattle.std.proofs.Common.{◌≡◌, inl, inr, true, ◌^◌, ◌≤◌, List, ◌∷◌, ◌∙◌, arith}
use Rattle.std.specs.Prelude.{Contains, drop, None}
use Rattle.r4_base.specs.Key.{rank}
use Rattle.r4_base.specs.Tree.{IsNode, Name, Span}
use Rattle.r4_patch.specs.r4_cell.Seen.{CellSeen, node_of}
use Rattle.r4_patch.proofs.r4_cell.Nodes.{cell_node}
use Rattle.r4_patch.specs.Joining.{ids_of}
use Rattle.r4_path.specs.Sharing.{IsSound}
use Rattle.r4_path.specs.Steps.{Follow, IsStep}
use Rattle.r4_path.proofs.Rising.{follow_within, hi_is, level_is, lo_is}

pub new_node : (o x : CellSeen) (cells : List CellSeen) → IsNode (node_of o) → 1 ≤ o.level
    → Follow o.level (rank o.lo) (rank o.hi) cells → IsSound x → Contains cells x → IsNode (node_of x)
new_node o x cells node one follow sound member =
    let w = follow_within o.level (rank o.lo) (rank o.hi) cells x follow member in
    let level = w.level_as in
    let from = w.from in
    let to = w.to in
    let low = node.from_least in
    let high = node.to_top in
    let lo = lo_is o in
    let hi = hi_is o in
    cell_node true (2 ^ 64) x.level (rank x.lo) (rank x.hi) x.block sound.whole (omega (arith, level, one))
    (omega (arith, from, low, lo)) w.nonempty (omega (arith, to, high, hi)) sound.accepted

-- ---- leaves name nothing, and have no extents

pub no_names : (x : CellSeen) → IsNode (node_of x) → x.level ≡ 1 → (n : Name) → Contains (node_of x).names n → ⊥
no_names x is level n h = let l = level_is x in
    elim (is.below n h) [ inl b ↦ omega (arith, b, l, level) | inr b ↦ omega (arith, b, l, level) ]

no_spans : (x : CellSeen) → IsNode (node_of x) → x.level ≡ 1 → (v : Span) → Contains (node_of x).spans v → ⊥
no_spans x is level v h = let l = level_is x in let t = is.spans_in_twigs v h in omega (arith, t, l, level)

module _ (o : CellSeen) (cells : List CellSeen) (node : IsNode (node_of o)) (leaf : o.level ≡ 1)
    (follow : Follow o.level (rank o.lo) (rank o.hi) cells) (sound : (x : CellSeen) → Contains cells x → IsSound x) where
  node_in : (x : CellSeen) → Contains cells x → IsNode (node_of x)
  node_in x member = new_node o x cells node (omega (arith, leaf)) follow (sound x member) member

  level_in : (x : CellSeen) → Contains cells x → x.level ≡ 1
  level_in x member = (follow_within o.level (rank o.lo) (rank o.hi) cells x follow member).level_as ∙ leaf

  pub leaf_step : ids_of cells ≡ o.id ∷ ids_of (drop 1 cells) → IsStep None (record { old = o; new = cells })
  leaf_step first = record {
    first = first;
    ranges = follow;
    names = λ n. (
      (λ h. let (x, member, named) = h in absurd (no_names x (node_in x member) (level_in x member) n named)),
      (λ h. absurd (no_names o node leaf n h)),
    );
    spans = λ v. (
      (λ h. let (x, member, spanned) = h in absurd (no_spans x (node_in x member) (level_in x member) v spanned)),
      (λ h. absurd (no_spans o node leaf v h)),
    );
  }
