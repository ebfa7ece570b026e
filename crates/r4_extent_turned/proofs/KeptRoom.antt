-- What stays of a leaf below a key has room for edits, where the leaf had.
use Rattle.std.proofs.Common.{◌≡◌, inl, inr, ℕ, ◌≤◌, Bool, true, false, cond, List, refl, sym, ap, subst, ◌∙◌, arith}
use Rattle.std.specs.Prelude.{None, Option, Some, ◌&&◌, nat_le, nat_lt}
use Rattle.std.specs.FinMap.{find}
use Rattle.std.specs.List.{filter}
use Rattle.std.specs.Ordering.{nat_cmp}
use Rattle.std.proofs.lemmas.Bool.{cases_lt, lt-ltb}
use Rattle.std.proofs.lemmas.Bool.Decides.{nat_tests}
use Rattle.r4_base.specs.Value.{Byte, Value}
use Rattle.r4_content.specs.Edited.{Edits, is_between, is_in}
use Rattle.r4_content.specs.Listed.{list_edited}
use Rattle.r4_content.specs.Seen.{Rises}
use Rattle.r4_content.proofs.EditLaws.{last_put}
use Rattle.r4_extent_shrink.proofs.r4_extent_growth.r4_extent_change.r4_build.r4_leaf_edits.Lookups.{edited_rises, found, kept_found, kept_rises, same_rising}
use Rattle.r4_extent_shrink.proofs.r4_extent_growth.r4_leaf_demands.r4_suited.Weights.{rise_of}
use Rattle.r4_extent_shrink.proofs.r4_extent_growth.r4_measure.r4_edit.SidesOfKey.{below_fits}
use Rattle.r4_extent_shrink.specs.r4_extent_growth.r4_measure.r4_cell.Seen.{CellSeen, node_of}
use Rattle.r4_extent_shrink.specs.r4_extent_growth.r4_measure.r4_edit.LeafParts.{units_below}
use Rattle.r4_extent_shrink.specs.r4_extent_growth.r4_measure.r4_leaf.Units.{LeafUnit, leaf_bytes}
use Rattle.r4_extent_shrink.specs.r4_extent_growth.r4_measure.r4_reach.Needs.{units_after}

not_below : (j k : ℕ) → k ≤ j → nat_lt j k ≡ false
not_below j k le = grind (arith, nat_tests, le)

-- what stands at a key after edits, by what stood there
abbrev set_at : Edits → ℕ → Option Value → Option Value
set_at e j o = last_put e.puts j (cond (is_in e.zeros j) (Some (Byte 0)) (cond (is_in e.cuts j) None o))

both_off : (v : Bool) (o : Option Value) → cond (v && false) o None ≡ None
both_off true o = refl
both_off false o = refl

-- edits of the units below a key are those of all units, below it
pub edited_below : (e : Edits) (lo hi k : ℕ) (us : List LeafUnit) → Rises us → k ≤ hi
    → filter (λ (u : LeafUnit). is_between lo k u.0) (list_edited e (units_below k us)) ≡ units_below k (filter (λ (u : LeafUnit). is_between lo hi u.0) (list_edited e us))
edited_below e lo hi k us rises le =
    same_rising (filter (λ (u : LeafUnit). is_between lo k u.0) (list_edited e below)) (units_below k within)
    (kept_rises (is_between lo k) (list_edited e below) (edited_rises e below below_rises))
    (kept_rises (λ j. nat_lt j k) within (kept_rises (is_between lo hi) (list_edited e us) (edited_rises e us rises)))
    (λ j. kept_found (is_between lo k) (list_edited e below) j ∙ (at_key j ∙ sym (kept_found (λ i. nat_lt i k) within j)))
  where
    below : List LeafUnit
    below = units_below k us

    below_rises : Rises below
    below_rises = kept_rises (λ j. nat_lt j k) us rises

    within : List LeafUnit
    within = filter (λ (u : LeafUnit). is_between lo hi u.0) (list_edited e us)

    at_key : (j : ℕ) → cond (nat_le lo j && nat_lt j k) (find nat_cmp j (list_edited e below)) None ≡ cond (nat_lt j k) (find nat_cmp j within) None
    at_key j = elim (cases_lt j k) [
      | inl lt ↦
          let on : nat_lt j k ≡ true = lt-ltb j k lt in
          let high : nat_lt j hi ≡ true = lt-ltb j hi (omega (arith, lt, le)) in
          let same : find nat_cmp j below ≡ find nat_cmp j us = kept_found (λ i. nat_lt i k) us j ∙ ap (λ v. cond v (find nat_cmp j us) None) on in
          let set : find nat_cmp j (list_edited e below) ≡ find nat_cmp j (list_edited e us) = found e below j below_rises ∙ (ap (set_at e j) same ∙ sym (found e us j rises)) in
          ap (λ o. cond (nat_le lo j && nat_lt j k) o None) set
          ∙ (ap (λ v. cond (nat_le lo j && v) (find nat_cmp j (list_edited e us)) None) (on ∙ sym high)
          ∙ (sym (kept_found (is_between lo hi) (list_edited e us) j) ∙ ap (λ v. cond v (find nat_cmp j within) None) (sym on)))
      | inr ge ↦
          let off : nat_lt j k ≡ false = not_below j k ge in
          ap (λ v. cond (nat_le lo j && v) (find nat_cmp j (list_edited e below)) None) off
          ∙ (both_off (nat_le lo j) (find nat_cmp j (list_edited e below)) ∙ ap (λ v. cond v (find nat_cmp j within) None) (sym off))
    ]

-- so what stays of a leaf needs no more room than the leaf
pub kept_needs : (e : Edits) (k : ℕ) (leaf d : CellSeen) → Rises (node_of leaf).units → (node_of d).lo ≡ (node_of leaf).lo → (node_of d).hi ≡ k → k ≤ (node_of leaf).hi
    → (node_of d).units ≡ units_below k (node_of leaf).units → leaf_bytes (units_after None e (node_of d)) ≤ leaf_bytes (units_after None e (node_of leaf))
kept_needs e k leaf d rises lo hi le units =
    let n = node_of leaf in
    let all : List LeafUnit = filter (λ (u : LeafUnit). is_between n.lo n.hi u.0) (list_edited e n.units) in
    let same : units_after None e (node_of d) ≡ units_below k all
    = (λ i. filter (λ (u : LeafUnit). is_between (lo i) (hi i) u.0) (list_edited e (units i))) ∙ edited_below e n.lo n.hi k n.units rises le in
    let (to, rise) = rise_of all (kept_rises (is_between n.lo n.hi) (list_edited e n.units) (edited_rises e n.units rises)) in
    subst (λ (us : List LeafUnit). leaf_bytes us ≤ leaf_bytes all) (sym same) (below_fits k 0 to all rise)
