-- Where a body stands, told by one of its keys.
use Rattle.std.proofs.Common.{◌≡◌, inl, inr, ℕ, suc, ◌+◌, ◌<◌, ◌≤◌, Bool, true, false, List, [], ◌∷◌, ◌++◌, ◌||◌, length, refl}
use Rattle.std.proofs.Common.{sym, ap, subst, ◌∙◌, arith}
use Rattle.std.specs.Prelude.{Some, ◌==◌, ◌&&◌, not, nat_lt, if◌then◌else◌}
use Rattle.std.specs.Option.{option_map}
use Rattle.std.specs.List.{list_any}
use Rattle.std.proofs.lemmas.List.Concat.{flat_map-cons}
use Rattle.std.proofs.lemmas.Bool.Decides.{nat_tests}
use Rattle.r4_base.specs.Key.{least, rank, top}
use Rattle.r4_reaching.specs.r4_cell.Patch.{by_name, root_of_pair}
use Rattle.r4_reaching.specs.r4_cell.Seen.{CellSeen, node_of}
use Rattle.r4_reaching.specs.r4_cell.declared.change.Root.{Root}
use Rattle.r4_content.specs.Edited.{Pairs, is_between, is_in}
use Rattle.r4_content.specs.Held.{part_pairs}
use Rattle.r4_content.specs.Seen.{pairs_in}
use Rattle.r4_content.specs.declared.seen.SeenPart.{SeenPart}
use Rattle.r4_reaching.proofs.r4_judging.Below.{node_says}
use Rattle.r4_reaching.proofs.r4_patch.PartCells.{leaf_or_extent}
use Rattle.r4_reaching.specs.r4_reach.Touched.{Body, IsKindIn, has_unit, shown_at}
use Rattle.r4_reaching.specs.Gathering.{IsPartMet}
use Rattle.r4_reaching.specs.r4_search.Pool.{Goes, IsOf, PoolState}
use Rattle.r4_reaching.specs.r4_seeing.Looking.{met_cells}
use Rattle.r4_extent_touching.specs.r4_sight.Parts.{AreFull, all_pairs}
use Rattle.r4_extent_touching.specs.r4_sight.Stretches.{IsStretch}
use Rattle.r4_extent_touching.specs.r4_sight.declared.stretch.Stretch.{Stretch}
use Rattle.r4_reaching.specs.r4_touching.Touching.{AreHeld, IsInExtent}
use Rattle.r4_extent_reaching.specs.Telling.{IsKindTold}

-- ---- one key

module _ (key behind : ℕ) (next : behind ≡ key + 1) where
  pub to_key : (k : ℕ) → is_in ((key, behind) ∷ []) k ≡ true → is_between key (key + 1) k ≡ true
  to_key k at = by (is_between key behind k) refl at
    where
      by : (b : Bool) → is_between key behind k ≡ b → (b || false) ≡ true → is_between key (key + 1) k ≡ true
      by true on h = (λ i. is_between key (sym next i) k) ∙ on
      by false off h = absurd (let no = h in cc)

  itself : is_in ((key, behind) ∷ []) key ≡ true
  itself = (λ i. is_in ((key, next i) ∷ []) key) ∙ plain
    where
      plain : (is_between key (key + 1) key || false) ≡ true
      plain = by (is_between key (key + 1) key) (grind (arith, nat_tests))
        where
          by : (b : Bool) → b ≡ true → (b || false) ≡ true
          by true on = refl
          by false off = off

  pub one_in_leaf : (p : PoolState) → least ≤ key → key < top → AreHeld p (is_in ((key, behind) ∷ [])) true
      → IsKindTold p key false
  one_in_leaf p low high h = inl (h key itself low high, refl)

  pub one_in_extent : (p : PoolState) → AreHeld p (is_in ((key, behind) ∷ [])) false → IsInExtent p key
  one_in_extent p (k, low, high, at, extent) =
      let only = to_key k at in
      let same : k ≡ key = grind (arith, nat_tests, only) in
      subst (IsInExtent p) same extent

pub extent_still : (old new : PoolState) (k : ℕ) → Goes old new → IsInExtent old k → IsInExtent new k
extent_still old new k g h = record
    { twig = h.twig; met = g.met h.twig.id h.twig h.met; span = h.span; among = h.among; within = h.within }

-- ---- whether a unit stands there

positive : (n : ℕ) → nat_lt 0 (suc n) ≡ true
positive n = grind (arith, nat_tests)

has_one : (us : Pairs) (key : ℕ) → list_any (λ u. u.0 == key) us ≡ nat_lt 0 (length (pairs_in us key (key + 1)))
has_one [] key = refl
has_one (u ∷ us) key = by (is_between key (key + 1) u.0) (u.0 == key) (grind (arith, nat_tests)) (has_one us key)
  where
    by : (b c : Bool) → b ≡ c → list_any (λ v. v.0 == key) us ≡ nat_lt 0 (length (pairs_in us key (key + 1)))
        → (c || list_any (λ v. v.0 == key) us)
        ≡ nat_lt 0 (length (if b then u ∷ pairs_in us key (key + 1) else pairs_in us key (key + 1)))
    by true true e rest = sym (positive (length (pairs_in us key (key + 1))))
    by false false e rest = rest
    by true false e rest = absurd (let no = e in cc)
    by false true e rest = absurd (let no = e in cc)

parts_count : (ps : List SeenPart) → AreFull ps → nat_lt 0 (length ps) ≡ nat_lt 0 (length (all_pairs ps))
parts_count [] full = refl
parts_count (p ∷ ps) full = positive (length ps) ∙ by (part_pairs p) refl
  where
    by : (xs : Pairs) → part_pairs p ≡ xs → true ≡ nat_lt 0 (length (all_pairs (p ∷ ps)))
    by [] none = absurd (full 0 p (omega arith) none)
    by (x ∷ xs) are = sym (ap (λ (zs : Pairs). nat_lt 0 (length zs))
        (flat_map-cons part_pairs p ps ∙ ap (λ (zs : Pairs). zs ++ all_pairs ps) are)
        ∙ positive (length (xs ++ all_pairs ps)))

pub shown_beside : (old new : PoolState) (key to : ℕ) (s : Stretch) → to ≡ key + 1
    → ((level : ℕ) → new.keeps level ≡ true) → IsInExtent new key → IsStretch (IsOf old) new key to s
    → IsKindTold new key (nat_lt 0 (length s.parts.items))
shown_beside old new key to s next keeps extent h =
    let onward = h.of.onward in
    let within = h.of.within in
    let ends : rank s.to ≡ key + 1 = omega (arith, onward, within, next) in
    inr (record {
      extent = extent;
      cell = h.cell;
      met = h.met (keeps h.cell.level);
      holds = h.of.holds key (omega arith) onward;
      units = parts_count s.parts.items h.of.full
          ∙ (ap (λ (ps : Pairs). nat_lt 0 (length ps))
          (h.of.pairs ∙ ap (λ (z : ℕ). pairs_in (node_of h.cell).units key z) ends)
          ∙ sym (has_one (node_of h.cell).units key));
    })

-- ---- in a part of a tree

pub told_is_so : (p q : PoolState) (root : Root) (met : List CellSeen) (b : Body) → Goes p q → IsPartMet q root met
    → IsKindTold p (shown_at b) b.in_extents → IsKindIn (met_cells q) (Some b)
told_is_so p q root met b g at (inl (leaf, nowhere)) =
    let (level, lo, hi) = node_says leaf.leaf in
    let one = level ∙ leaf.level in
    let from = leaf.from in
    let below = leaf.below in
    inr (
      leaf.leaf.id,
      node_of leaf.leaf,
      ap (option_map node_of) (g.met leaf.leaf.id leaf.leaf leaf.met),
      inl (omega (arith, one), (omega (arith, lo, from), omega (arith, hi, below))),
      nowhere ∙ (λ i. not (sym one i == 1) && has_unit (node_of leaf.leaf) (shown_at b)),
    )
told_is_so p q root met b g at (inr h) = inr (
  h.cell.id,
  node_of h.cell,
  there h.cell h.met,
  h.holds,
  h.units ∙ by ((node_of h.cell).level == 1) refl,
)
  where
    there : (c : CellSeen) → p.met c.id ≡ Some c → met_cells q c.id ≡ Some (node_of c)
    there c is = ap (option_map node_of) (g.met c.id c is)

    no_leaf : (node_of h.cell).level ≡ 1 → ⊥
    no_leaf one = elim h.holds [
      | inl (low, inside) ↦ leaf_or_extent (by_name met) (root_of_pair root) at.met.part h.cell.id h.extent.twig.id
          (node_of h.cell) (node_of h.extent.twig) h.extent.span (shown_at b)
          (at.store h.cell.id ∙ there h.cell h.met) (at.store h.extent.twig.id ∙ there h.extent.twig h.extent.met) one
          h.extent.among inside h.extent.within
      | inr (s, has, inside, none) ↦ (let two = (at.met.part.nodes h.cell.id (node_of h.cell)
          (at.store h.cell.id ∙ there h.cell h.met)).spans_in_twigs s has in omega (arith, one, two))
    ]

    by : (t : Bool) → ((node_of h.cell).level == 1) ≡ t
        → has_unit (node_of h.cell) (shown_at b) ≡ (not t && has_unit (node_of h.cell) (shown_at b))
    by true is = absurd (no_leaf (grind (arith, nat_tests, is)))
    by false is = refl
