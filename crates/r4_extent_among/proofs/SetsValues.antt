-- What the turn of a twig among whose extents values come does to units.
use Rattle.std.proofs.Common.{◌≡◌, inl, inr, ℕ, ◌^◌, ◌≤◌, Bool, true, false, List, [], ◌∷◌, ◌++◌, refl, sym, ap, subst, ◌∙◌, arith}
use Rattle.std.specs.Prelude.{Contains, None, Option, Some, ◌==◌}
use Rattle.std.specs.FinMap.{find}
use Rattle.std.specs.List.{flat_map, list_any}
use Rattle.std.specs.Ordering.{nat_cmp}
use Rattle.std.proofs.lemmas.Bool.{eq-eqb, eqb-true}
use Rattle.std.proofs.lemmas.List.Elements.{Contains-append_cases, Contains-append_left}
use Rattle.std.proofs.lemmas.Option.{none-some, same_Some}
use Rattle.r4_base.specs.Node.{mkfs_id_of}
use Rattle.r4_base.specs.Tree.{Span}
use Rattle.r4_base.specs.Value.{Value}
use Rattle.r4_build.specs.r4_branch.Pieces.{units_of}
use Rattle.r4_build.specs.Building.{set_by}
use Rattle.r4_build.proofs.Pairs.{found_in, rising_found}
use Rattle.r4_extent_build.specs.r4_cell.Seen.{CellSeen, node_of}
use Rattle.r4_content.specs.Edited.{Edits, is_between}
use Rattle.r4_content.specs.Listed.{list_edited}
use Rattle.r4_content.specs.Seen.{Rises}
use Rattle.r4_extent_build.proofs.r4_extent_demands.PutsInto.{any_there, there_any}
use Rattle.r4_build.specs.r4_leaf.Units.{LeafUnit}
use Rattle.r4_build.proofs.r4_leaf_edits.Lookups.{edited_rises}
use Rattle.r4_build.specs.r4_patch.Effect.{Placed, in_leaf}
use Rattle.r4_build.proofs.r4_patch.Members.{none}
use Rattle.r4_build.specs.r4_path.Levels.{units_of_cells}
use Rattle.r4_build.specs.r4_path.TwigPieces.{twig_pieces}
use Rattle.r4_build.specs.r4_reach.Needs.{leaf_edits}
use Rattle.r4_build.specs.r4_reach.Touched.{Body}
use Rattle.r4_extent_build.specs.r4_twig_work.Regrafting.{SetsBelow}
use Rattle.r4_build.proofs.r4_work.LeafEffect.{from_units, to_units, units_append}
use Rattle.r4_build.proofs.r4_work.UnitMembers.{filtered, to_filtered}
use Rattle.r4_extent_among.specs.Among.{AreLeavesFor, AreLeavesIn, AreNewLeaves, IsAmong, among_turn, is_put_among, numbered, values_among, with_leaves}
use Rattle.r4_extent_among.proofs.Chain.{behind_of, chain_cell, value_in}
use Rattle.r4_extent_among.proofs.Values.{from_spans, into, to_spans}
use Rattle.r4_extent_among.proofs.Numbered.{all_numbered}
use Rattle.r4_extent_among.proofs.TurnOf.{chain, come, put}

-- ---- members

-- a unit of some has the key
has_key : (us : List LeafUnit) (k : ℕ) → list_any (λ (u : LeafUnit). u.0 == k) us ≡ true → (v : Value) × Contains us (k, v)
has_key us k h =
    let (u, at, is) = there_any (λ (w : LeafUnit). w.0 == k) us h in
    (u.1, subst (λ (j : ℕ). Contains us (j, u.1)) (eqb-true u.0 k is) at)

key_has : (us : List LeafUnit) (k : ℕ) (v : Value) → Contains us (k, v) → list_any (λ (u : LeafUnit). u.0 == k) us ≡ true
key_has us k v at = any_there (λ (w : LeafUnit). w.0 == k) us (k, v) at (eq-eqb k k refl)

in_leaf_some : (o : Option Value) (u : Placed Value) → in_leaf o ≡ Some u → (o ≡ Some u.0) × (u.1 ≡ true)
in_leaf_some None u h = absurd (none-some u h)
in_leaf_some (Some v) u h =
    let same = same_Some (v, true) u h in
    (ap (λ (x : Placed Value). Some x.0) same, ap (λ (x : Placed Value). x.1) (sym same))

-- ---- the values that come

module _ (b : Option Body) (e : Edits) where
  abbrev edited : List LeafUnit
  edited = list_edited (leaf_edits b e) []

  rises : Rises edited
  rises = edited_rises (leaf_edits b e) [] tt

  units_for : (us : List LeafUnit) (hi m : ℕ) (cs : List CellSeen) → AreLeavesFor us hi m cs → units_of_cells cs ≡ us
  units_for [] hi m cs h = ap units_of_cells h
  units_for (u ∷ us) hi m cs h = h.units

  units_in : (m : ℕ) (ss : List Span) (cs : List CellSeen) → AreLeavesIn b e m ss cs → units_of_cells cs ≡ flat_map (into b e) ss
  units_in m [] cs h = ap units_of_cells h
  units_in m (s ∷ ss) cs (mine, others, is, for_it, rest) =
      ap units_of_cells is ∙ (units_append mine others ∙ (λ i. units_for (into b e s) s.hi m mine for_it i ++ units_in m ss others rest i))

  module _ (twig : CellSeen) (cells : List CellSeen) (is : IsAmong b e twig) (are : AreNewLeaves b e twig cells) (n : ℕ) (high : 2 ^ 63 ≤ n) where
    abbrev cs : List CellSeen
    cs = numbered n cells

    abbrev at : ℕ → Bool
    at = is_put_among b e twig

    units_are : units_of_cells cs ≡ values_among b e twig
    units_are = units_in (mkfs_id_of twig.block) (node_of twig).spans cs (all_numbered b e (mkfs_id_of twig.block) n (node_of twig).spans cells are)

    -- an extent into whose range a value comes at the key
    record Comes (k : ℕ) : Type 0 where
      span : Span
      named : Contains (node_of twig).spans span
      value : Value
      there : Contains (into b e span) (k, value)

    comes : (k : ℕ) → at k ≡ true → Comes k
    comes k on =
        let (v, m) = has_key (values_among b e twig) k on in
        let (s, in_it, has) = from_spans b e (node_of twig).spans (k, v) m in
        record { span = s; named = in_it; value = v; there = has }

    -- the twig has no unit of its own there
    no_own : (k : ℕ) (v : Value) → Comes k → Contains (node_of twig).units (k, v) → ⊥
    no_own k v c own =
        let r = value_in b e twig is c.span c.named (k, c.value) c.there in
        elim ((behind_of b e twig is c.span c.named (k, c.value) c.there).1 k v own) [
          | inl before ↦ omega (arith, before)
          | inr behind ↦ omega (arith, behind, r)
        ]

    -- what stands in the leaves is what the edits put
    leaf_value : (k : ℕ) (u : Placed Value) (c : CellSeen) → Contains cs c → Contains (node_of c).units (k, u.0) → (c.level == 1) ≡ u.1 → set_by (leaf_edits b e) k ≡ Some u
    leaf_value k u c m has kind =
        let all = subst (λ us. Contains us (k, u.0)) units_are (to_units cs c (k, u.0) m has) in
        let (s, in_it, mine) = from_spans b e (node_of twig).spans (k, u.0) all in
        let among = (filtered (λ (w : LeafUnit). is_between s.lo s.hi w.0) edited (k, u.0) mine).0 in
        let found = rising_found edited k u.0 rises among in
        let one : true ≡ u.1 = sym (eq-eqb c.level 1 (chain_cell twig cs c is.node (chain b e twig cells is are n) m).1) ∙ kind in
        ap in_leaf found ∙ (λ i. Some (u.0, one i))

    value_leaf : (k : ℕ) (u : Placed Value) → Comes k → set_by (leaf_edits b e) k ≡ Some u → (c : CellSeen) × Contains cs c × Contains (node_of c).units (k, u.0) × ((c.level == 1) ≡ u.1)
    value_leaf k u come set =
        let (found, kind) = in_leaf_some (find nat_cmp k edited) u set in
        let among = found_in k edited u.0 found in
        let test = (filtered (λ (w : LeafUnit). is_between come.span.lo come.span.hi w.0) edited (k, come.value) come.there).1 in
        let mine = to_filtered (λ (w : LeafUnit). is_between come.span.lo come.span.hi w.0) edited (k, u.0) test among in
        let all = to_spans b e (node_of twig).spans come.span (k, u.0) come.named mine in
        let (c, m, has) = from_units cs (k, u.0) (subst (λ us. Contains us (k, u.0)) (sym units_are) all) in
        (c, m, has, eq-eqb c.level 1 (chain_cell twig cs c is.node (chain b e twig cells is are n) m).1 ∙ sym kind)

    is_at : (k : ℕ) (v : Value) (c : CellSeen) → Contains cs c → Contains (node_of c).units (k, v) → at k ≡ true
    is_at k v c m has = key_has (values_among b e twig) k v (subst (λ us. Contains us (k, v)) units_are (to_units cs c (k, v) m has))

    own_units : units_of (with_leaves cs (twig_pieces twig)) ≡ (node_of twig).units
    own_units = (put b e twig cells is are n high).units

    one_of : (c : CellSeen) → Contains (cs ++ []) c → Contains cs c
    one_of c m = elim (Contains-append_cases cs [] c m) [ inl mine ↦ mine | inr nothing ↦ absurd (none c nothing) ]

    not_both : (k : ℕ) → at k ≡ true → at k ≡ false → ⊥
    not_both k on off = let bad : true ≡ false = sym on ∙ off in cc

    pub sets_below : SetsBelow twig ((among_turn twig cells).pieces n) ((among_turn twig cells).beside n) at (set_by (leaf_edits b e))
    sets_below = record {
      held = λ k on.
          let c = comes k on in
          let r = value_in b e twig is c.span c.named (k, c.value) c.there in (
            twig,
            inr refl,
            inr (
              c.span,
              c.named,
              r,
              λ m named block inside. elim ((behind_of b e twig is c.span c.named (k, c.value) c.there).0 m named block) [
                | inl before ↦ omega (arith, before, inside)
                | inr behind ↦ omega (arith, behind, inside, r)
              ],
            ),
          );
      there = λ k u on. (
        λ h. elim h [
          | inl (c, m, has, kind) ↦ leaf_value k u c (one_of c m) has kind
          | inr (own, kind) ↦ absurd (no_own k u.0 (comes k on) (subst (λ us. Contains us (k, u.0)) own_units own))
        ],
        λ set. let (c, m, has, kind) = value_leaf k u (comes k on) set in inl (c, Contains-append_left cs [] c m, has, kind),
      );
      others = λ k u off. (
        λ h. elim h [
          | inl (c, m, has, kind) ↦ absurd (not_both k (is_at k u.0 c (one_of c m) has) off)
          | inr (own, kind) ↦ inr (subst (λ us. Contains us (k, u.0)) own_units own, kind)
        ],
        λ h. elim h [
          | inl (c, m, has, kind) ↦ absurd (none c m)
          | inr (own, kind) ↦ inr (subst (λ us. Contains us (k, u.0)) (sym own_units) own, kind)
        ],
      );
    }
