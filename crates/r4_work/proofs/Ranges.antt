-- Cells that stand in a part of a tree: where two of one level have a key in common, they are one.
use Rattle.std.specs.Prelude.{◌≡◌, ◌↔◌, ℕ, ◌<◌, ◌≤◌, ◌==◌, ◌||◌, ◌++◌, not, Bool}
use Rattle.std.specs.Prelude.{List, [], ◌∷◌, Contains, Some, if◌then◌else◌}
use Rattle.std.specs.List.{filter}
use mathlib.Core.Path.{refl, sym, ap, subst, ◌∙◌}
use mathlib.Core.Logic.{inl}
use native.Mathlib.Omega.{arith}
use Rattle.std.proofs.Math.Decide.{ℕ_discrete}
use Rattle.std.proofs.lemmas.List.Elements.{Contains-append_left, Contains-append_right}
use Rattle.std.proofs.lemmas.Bool.{eq-eqb, ne_eqb}
use Rattle.r4_base.specs.Key.{rank, top}
use Rattle.r4_base.specs.Tree.{Node, Root, Store}
use Rattle.r4_base.specs.Value.{Value}
use Rattle.r4_base.proofs.Trees.{one_cell}
use Rattle.r4_edit.specs.r4_cell.Seen.{CellSeen, node_of}
use Rattle.r4_edit.specs.r4_cell.declared.change.Change.{Change}
use Rattle.r4_edit.specs.r4_cell.declared.change.Fresh.{Fresh}
use Rattle.r4_edit.specs.r4_patch.Following.{is_among, without}
use Rattle.r4_edit.specs.r4_patch.Joining.{ids_of}
use Rattle.r4_edit.specs.r4_patch.Part.{IsPart}
use Rattle.r4_edit.proofs.r4_patch.Holding.{one_holder}
use Rattle.r4_edit.proofs.r4_patch.Members.{distinct, here, later, there}
use Rattle.r4_edit.proofs.r4_patch.PartCells.{apart}
use Rattle.r4_edit.proofs.r4_path.Rising.{hi_is, in_node, level_is, lo_is}
use Rattle.r4_work.specs.Order.{AreNamedByPlace, AreRangesApart, HasKey, IsAt, place, place_of, places_of, without_places}
use Rattle.r4_work.specs.Working.{IsNextEdit, IsWorking, now_of, root_of, standing}
use Rattle.r4_work.specs.declared.working.WorkingSet.{WorkingSet}
use Rattle.r4_work.proofs.InPlace.{now_part, standing_is}
use Rattle.r4_work.proofs.Places.{same_place, top_small}

module _ (s : Store Value) (r : Root) (part : IsPart s r) where
  has_range : (c : CellSeen) → s c.id ≡ Some (node_of c) → (rank c.lo < rank c.hi) × (rank c.hi ≤ top)
  has_range c sc =
      let node = part.nodes c.id (node_of c) sc in
      let some = node.nonempty in
      let most = node.to_top in
      let lo = lo_is c in
      let hi = hi_is c in
      (omega (arith, some, lo, hi), omega (arith, most, hi))

  same_id : (b c : CellSeen) (k : ℕ) → s b.id ≡ Some (node_of b) → s c.id ≡ Some (node_of c) → b.level ≡ c.level
      → HasKey b k → HasKey c k → b.id ≡ c.id
  same_id b c k sb sc same at_b at_c = elim (ℕ_discrete b.level 0) [
    | yes low ↦
        let bl = level_is b in
        let cl = level_is c in
        one_holder s r part k b.id c.id (node_of b) (node_of c) sb sc
        (inl (omega (arith, bl, low), in_node b k at_b)) (inl (omega (arith, cl, same, low), in_node c k at_c))
    | no high ↦
        let bl = level_is b in
        apart s r part b.id c.id (node_of b) (node_of c) k sb sc (bl ∙ (same ∙ sym (level_is c))) (omega (arith, high, bl))
        (in_node b k at_b) (in_node c k at_c)
  ]

  same_node : (b c : CellSeen) → s b.id ≡ Some (node_of b) → s c.id ≡ Some (node_of c) → b.id ≡ c.id
      → node_of b ≡ node_of c
  same_node b c sb sc e = one_cell s c.id (node_of b) (node_of c) (subst (λ i. s i ≡ Some (node_of b)) e sb) sc

  same_level : (b c : CellSeen) → node_of b ≡ node_of c → b.level ≡ c.level
  same_level b c e = sym (level_is b) ∙ (ap (λ (n : Node Value). n.level) e ∙ level_is c)

  same_lo : (b c : CellSeen) → node_of b ≡ node_of c → rank b.lo ≡ rank c.lo
  same_lo b c e = sym (lo_is b) ∙ (ap (λ (n : Node Value). n.lo) e ∙ lo_is c)

  same_hi : (b c : CellSeen) → node_of b ≡ node_of c → rank b.hi ≡ rank c.hi
  same_hi b c e = sym (hi_is b) ∙ (ap (λ (n : Node Value). n.hi) e ∙ hi_is c)

  pub are_apart : (cells : List CellSeen) → ((c : CellSeen) → Contains cells c → s c.id ≡ Some (node_of c))
      → AreRangesApart cells
  are_apart cells stand = record {
    some = λ c at. has_range c (stand c at);
    one = λ b c k at_b at_c same in_b in_c.
        let e = same_node b c (stand b at_b) (stand c at_c) (same_id b c k (stand b at_b) (stand c at_c) same in_b in_c) in
        (same_lo b c e, same_hi b c e);
  }

  pub named_by_place : (cells others : List CellSeen) → ((c : CellSeen) → Contains cells c → s c.id ≡ Some (node_of c))
      → ((d : CellSeen) → Contains others d → s d.id ≡ Some (node_of d)) → AreNamedByPlace cells others
  named_by_place cells others stand stand_too c d at_c at_d =
      let sc = stand c at_c in
      let sd = stand_too d at_d in
      let (some_c, most_c) = has_range c sc in
      let (some_d, most_d) = has_range d sd in (
        λ e.
            let (level, lo) = same_place c.level d.level (rank c.lo) (rank d.lo)
            (top_small (rank c.lo) (omega (arith, some_c, most_c))) (top_small (rank d.lo) (omega (arith, some_d, most_d))) e in
            same_id c d (rank c.lo) sc sd level (omega arith, some_c) (omega (arith, lo), omega (arith, lo, some_d)),
        λ e. let same = same_node c d sc sd e in λ i. place_of (same_level c d same i) (same_lo c d same i),
      )

-- ---- some of the cells

pub apart_right : (xs ys : List CellSeen) → AreRangesApart (xs ++ ys) → AreRangesApart ys
apart_right xs ys h = record {
  some = λ c at. h.some c (Contains-append_right xs ys c at);
  one = λ b c k at_b at_c. h.one b c k (Contains-append_right xs ys b at_b) (Contains-append_right xs ys c at_c);
}

pub apart_left : (xs ys : List CellSeen) → AreRangesApart (xs ++ ys) → AreRangesApart xs
apart_left xs ys h = record {
  some = λ c at. h.some c (Contains-append_left xs ys c at);
  one = λ b c k at_b at_c. h.one b c k (Contains-append_left xs ys b at_b) (Contains-append_left xs ys c at_c);
}

pub at_right : (xs ys : List CellSeen) (level k : ℕ) (c : CellSeen) → IsAt ys level k c → IsAt (xs ++ ys) level k c
at_right xs ys level k c at =
    record { among = Contains-append_right xs ys c at.among; level_is = at.level_is; range = at.range }

pub at_left : (xs ys : List CellSeen) (level k : ℕ) (c : CellSeen) → IsAt xs level k c → IsAt (xs ++ ys) level k c
at_left xs ys level k c at =
    record { among = Contains-append_left xs ys c at.among; level_is = at.level_is; range = at.range }

-- ---- cells that are left out by their places, or by their numbers

pub filter_on : (p q : CellSeen → Bool) (xs : List CellSeen) → ((x : CellSeen) → Contains xs x → p x ≡ q x)
    → filter p xs ≡ filter q xs
filter_on p q [] same = refl
filter_on p q (x ∷ xs) same =
    ap (λ b. if b then x ∷ filter p xs else filter p xs) (same x (here x xs))
    ∙ ap (λ zs. if q x then x ∷ zs else zs) (filter_on p q xs (λ y at. same y (later x y xs at)))

same_test : (i j m n : ℕ) → ((i ≡ j) ↔ (m ≡ n)) → (j == i) ≡ (n == m)
same_test i j m n (to, from) = elim (ℕ_discrete i j) [
  | yes e ↦ eq-eqb j i (sym e) ∙ sym (eq-eqb n m (sym (to e)))
  | no ne ↦ ne_eqb j i (λ e. ne (sym e)) ∙ sym (ne_eqb n m (λ e. ne (from (sym e))))
]

same_among : (c : CellSeen) (others : List CellSeen)
    → ((d : CellSeen) → Contains others d → (place c ≡ place d) ↔ (c.id ≡ d.id))
    → is_among (places_of others) (place c) ≡ is_among (ids_of others) c.id
same_among c [] h = refl
same_among c (d ∷ ds) h =
    ap (λ b. b || is_among (places_of ds) (place c)) (same_test (place c) (place d) c.id d.id (h d (here d ds)))
    ∙ ap (λ b. (d.id == c.id) || b) (same_among c ds (λ x at. h x (later d x ds at)))

pub left_alike : (cells others : List CellSeen) → AreNamedByPlace cells others
    → without_places (places_of others) cells ≡ without (ids_of others) cells
left_alike cells others h =
    filter_on (λ c. not (is_among (places_of others) (place c))) (λ c. not (is_among (ids_of others) c.id)) cells
    (λ c at. ap not (same_among c others (λ d at_d. h c d at at_d)))

-- ---- a working set

module _ (t : Store Value) (r : Root) (fresh : Fresh) (w : WorkingSet) (is : IsWorking t r fresh w) where
  pub standing_apart : AreRangesApart (standing w)
  standing_apart = are_apart (now_of w t) (root_of w r) (now_part t r fresh w is) (standing w) (standing_is t r fresh w is)

  pub kept_by_place : (after : Fresh) (d : Change) → IsNextEdit t r w fresh after d → AreNamedByPlace w.kept d.old
  kept_by_place after d edit =
      named_by_place (now_of w t) (root_of w r) (now_part t r fresh w is) w.kept d.old is.kept
      (λ c at. edit.meets.meets.has_old c.id (node_of c) (there d.old c (distinct d.old edit.change.old_names) at))
