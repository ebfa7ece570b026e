-- Cells that hang together, and of which none misnames another one, are a part of a tree.
use Rattle.std.proofs.Common.{◌≡◌, ◌⊎◌, inl, inr, ℕ, zero, suc, ◌+◌, ◌<◌, ◌≤◌, ◌^◌, true, List, [], ◌∷◌, ◌++◌}
use Rattle.std.proofs.Common.{append-nil, append_assoc, refl, sym, ap, subst, ◌∙◌, arith}
use Rattle.std.specs.Prelude.{All, Contains, Option, Some, None}
use Rattle.std.proofs.lemmas.List.Elements.{All-head, All-tail, Contains-append_left, Contains-append_right}
use Rattle.r4_base.specs.Cell.{cell_of}
use Rattle.r4_base.specs.Key.{least, rank, top}
use Rattle.r4_base.specs.Tree.{Fits, IsNode, Name, Node}
use Rattle.r4_base.specs.Value.{Value}
use Rattle.r4_base.specs.declared.items.CellFault.{CellFault}
use Rattle.r4_cell.specs.Patch.{NamesId, by_name, root_of_pair}
use Rattle.r4_cell.specs.Seen.{CellSeen, node_of}
use Rattle.r4_cell.specs.declared.change.Root.{Root}
use Rattle.r4_cell.proofs.Nodes.{cell_node, data_node}
use Rattle.r4_marking.specs.r4_patch.Part.{IsPart}
use Rattle.r4_marking.proofs.r4_patch.Members.{cases, distinct, found, none, there}
use Rattle.r4_search.specs.Path.{root_name}
use Rattle.r4_search.specs.Pool.{IsNamed, place_fault}
use Rattle.r4_search.proofs.Kept.{fits}
use Rattle.r4_judging.specs.Judging.{HangTogether, IsJudged, IsNamedAmong, IsSound, all_names}
use Rattle.r4_judging.proofs.Below.{name_below, node_says}

all_sound : (cells : List CellSeen) → All IsSound cells → (c : CellSeen) → Contains cells c → IsSound c
all_sound [] h c at = absurd (none c at)
all_sound (x ∷ cells) h c at = elim (cases x c cells at) [
  | inl is ↦ subst IsSound (sym is) (All-head IsSound x cells h)
  | inr more ↦ all_sound cells (All-tail IsSound x cells h) c more
]

pub in_all_names : (cells : List CellSeen) (c : CellSeen) (n : Name) → Contains cells c → Contains (node_of c).names n
    → Contains (all_names cells) n
in_all_names [] c n at named = absurd (none c at)
in_all_names (x ∷ cells) c n at named = elim (cases x c cells at) [
  | inl is ↦ Contains-append_left (node_of x).names (all_names cells) n
      (subst (λ (y : CellSeen). Contains (node_of y).names n) is named)
  | inr more ↦ Contains-append_right (node_of x).names (all_names cells) n (in_all_names cells c n more named)
]

pub names_more : (xs : List CellSeen) (x : CellSeen) → all_names (xs ++ x ∷ []) ≡ all_names xs ++ (node_of x).names
names_more [] x = append-nil (node_of x).names
names_more (y ∷ xs) x = ap (λ (ns : List Name). (node_of y).names ++ ns) (names_more xs x)
    ∙ sym (append_assoc (node_of y).names (all_names xs) (node_of x).names)

least_top : least < top
unfolding least top
least_top = omega arith

module _ (root : Root) (met : List CellSeen) (h : HangTogether root met) (sound : All IsSound met)
    (judged : IsJudged (all_names met) met None) where
  -- what is named and was met has the level and the range
  fit : (c d : CellSeen) (n : Name) → Contains met c → Contains met d → Contains (node_of c).names n → d.id ≡ n.id
      → IsNamed n d
  fit c d n at there_d named id = by (place_fault n d) refl
    where
      by : (o : Option CellFault) → place_fault n d ≡ o → IsNamed n d
      by None is = fits n d id is
      by (Some f) is = absurd
          (judged d f
          (record { among = there_d; name = n; named = in_all_names met c n at named; id = sym id; fault = is }))

  is_sound : (c : CellSeen) → Contains met c → IsSound c
  is_sound c at = all_sound met sound c at

  record IsGood (c : CellSeen) : Type 0 where
    node : IsNode (node_of c)
    low : c.level ≤ root.height

  as_node : (c : CellSeen) → Contains met c → 1 ≤ c.level → least ≤ rank c.lo → rank c.lo < rank c.hi → rank c.hi ≤ top
      → IsNode (node_of c)
  as_node c at some low order high = let s = is_sound c at in cell_node true (2 ^ 64) c.level (rank c.lo)
      (rank c.hi) c.block s.whole some low order high s.stands

  root_good : (c : CellSeen) → Contains met c → IsNamed (root_name root) c → IsGood c
  root_good c at is =
      let level = is.level in
      let lo = is.lo in
      let hi = is.hi in
      let tall = h.height in
      record {
        node = as_node c at (omega (arith, level, tall)) (omega (arith, lo))
            (let lt = least_top in omega (arith, lo, hi, lt)) (omega (arith, hi));
        low = omega (arith, level);
      }

  below_good : (c : CellSeen) (up : IsNamedAmong met c) → Contains met c → IsGood up.up → IsGood c
  below_good c up at good =
      let n = up.name in
      let is = up.is in
      let level = is.level in
      let lo = is.lo in
      let hi = is.hi in
      let b = name_below up.up n up.named in
      let below = b.below in
      let high = good.low in
      let (_, up_lo, up_hi) = node_says up.up in
      let from = good.node.name_from n up.named in
      let to = good.node.name_to n up.named in
      let some = good.node.name_nonempty n up.named in
      let first = good.node.from_least in
      let last = good.node.to_top in
      let low_is : least ≤ rank c.lo = omega (arith, first, from, lo) in
      let order : rank c.lo < rank c.hi = omega (arith, some, lo, hi) in
      let high_is : rank c.hi ≤ top = omega (arith, last, to, hi) in
      record { node = by c.level refl low_is order high_is; low = omega (arith, level, below, high) }
    where
      -- a leaf names no data block
      sized : (up.name.hi ≡ up.name.lo + 4096) ⊎ (up.up.level ≡ 1) → up.name.level ≡ 0 → up.name.hi ≡ up.name.lo + 4096
      sized (inl size) z = size
      sized (inr leaf) z = absurd (elim (good.node.below up.name up.named) [
        | inl (some, next) ↦ omega (arith, some, z)
        | inr (two, is_data) ↦ let (level, _, _) = node_says up.up in omega (arith, two, level, leaf)
      ])

      by : (l : ℕ) → c.level ≡ l → least ≤ rank c.lo → rank c.lo < rank c.hi → rank c.hi ≤ top → IsNode (node_of c)
      by (suc l) e low order high = as_node c at (omega (arith, e)) low order high
      by zero e low order high =
          let level = up.is.level in
          let zero_level : up.name.level ≡ 0 = sym level ∙ e in
          let size = sized ((name_below up.up up.name up.named).size zero_level) zero_level in
          let lo = up.is.lo in
          let hi = up.is.hi in
          let long : rank c.hi ≡ rank c.lo + 4096 = omega (arith, size, lo, hi) in
          subst (λ (k : ℕ). IsNode (cell_of k (rank c.lo) (rank c.hi) c.block)) (sym e)
          (subst (λ (k : ℕ). IsNode (cell_of 0 (rank c.lo) k c.block)) (sym long)
          (data_node (rank c.lo) c.block (is_sound c at).whole low (omega (arith, long, high))))

  -- level by level from the root
  above : (k : ℕ) (c : CellSeen) → 256 ≤ c.level + suc k → (up : IsNamedAmong met c) → 256 ≤ up.up.level + k
  above k c far up =
      let below = (name_below up.up up.name up.named).below in
      let level = up.is.level in
      omega (arith, far, below, level)

  good : (k : ℕ) (c : CellSeen) → Contains met c → 256 ≤ c.level + k → IsGood c
  good zero c at far = let low = (is_sound c at).level in absurd (omega (arith, far, low))
  good (suc k) c at far = elim (h.hung c at) [
    | inl is ↦ root_good c at is
    | inr up ↦ below_good c up at (good k up.up up.above (above k c far up))
  ]

  all_good : (c : CellSeen) → Contains met c → IsGood c
  all_good c at = good 256 c at (omega arith)

  -- the root was met
  top_of : (k : ℕ) (c : CellSeen) → Contains met c → 256 ≤ c.level + k
      → (r : CellSeen) × Contains met r × IsNamed (root_name root) r
  top_of zero c at far = let low = (is_sound c at).level in absurd (omega (arith, far, low))
  top_of (suc k) c at far = elim (h.hung c at) [
    | inl is ↦ (c, at, is)
    | inr up ↦ top_of k up.up up.above (above k c far up)
  ]

  in_store : (c : CellSeen) → Contains met c → by_name met c.id ≡ Some (node_of c)
  in_store c at = there met c (distinct met h.names) at

  pub is_part : IsPart (by_name met) (root_of_pair root)
  is_part =
      let (r, at, is) = top_of 256 h.some h.one (omega arith) in
      let (level, lo, hi) = node_says r in
      record {
        nodes = λ i c e. let (x, in_met, id, same) = found met i c e in subst IsNode (sym same)
            (all_good x in_met).node;
        root_node = node_of r;
        root_is = subst (λ (i : ℕ). by_name met i ≡ Some (node_of r)) is.id (in_store r at);
        root_level = level ∙ is.level;
        root_lo = lo ∙ is.lo;
        root_hi = hi ∙ is.hi;
        height = h.height;
        none_above = λ i c e. let (x, in_met, id, same) = found met i c e in let low = (all_good x in_met).low in subst
            (λ (m : Node Value). m.level ≤ root.height) (sym same)
            (let (l, _, _) = node_says x in omega (arith, l, low));
        named = λ i c d n e has f.
            let (x, in_met, id, same) = found met i c e in
            let (y, in_met2, id2, same2) = found met n.id d f in
            subst (Fits n) (sym same2)
            (fitting n y (fit x y n in_met in_met2 (subst (λ (m : Node Value). Contains m.names n) same has) id2));
        reached = λ i c e. let (x, in_met, id, same) = found met i c e in hung_at i x in_met id (h.hung x in_met);
      }
    where
      fitting : (n : Name) (y : CellSeen) → IsNamed n y → Fits n (node_of y)
      fitting n y is = let
          (l, lo, hi) = node_says y in record { level = l ∙ is.level; lo = lo ∙ is.lo; hi = hi ∙ is.hi }

      hung_at : (i : ℕ) (x : CellSeen) → Contains met x → x.id ≡ i → IsNamed (root_name root) x ⊎ IsNamedAmong met x
          → (i ≡ root.id.0) ⊎ NamesId (by_name met) i
      hung_at i x in_met id (inl is) = inl (sym id ∙ is.id)
      hung_at i x in_met id (inr up) = inr
          (up.name, (up.up.id, node_of up.up, in_store up.up up.above, up.named), sym up.is.id ∙ id)
