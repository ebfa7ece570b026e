-- Patches with no node in common.
use Rattle.std.specs.Prelude.{◌≡◌, ℕ, zero, suc, ◌⊎◌, List, [], ◌∷◌, All, AllPairs, IsSome, None, Option, Some}
use Rattle.std.specs.List.{slice_index_or}
use mathlib.Core.Path.{refl, sym, ap, subst, ◌∙◌}
use mathlib.Core.Logic.{inl, inr}
use native.Mathlib.Omega.{arith}
use Rattle.std.specs.Option.{unwrap_or}
use Rattle.std.proofs.lemmas.Option.{none-some}
use Rattle.std.proofs.lemmas.List.Elements.{All-head, All-tail}
use Rattle.r4_base.specs.Tree.{Node, Store, Root, IsTree, UnitAt}
use Rattle.r4_base.proofs.Trees.{not_both}
use Rattle.r4_cell.specs.Patch.{Patch, over, place, root_after, IsPatch, Meets, Leaves, Apart, place_all, root_all, ArePatches, UnitKept, NamesId}
use Rattle.r4_patch.specs.Part.{MeetsPart}
use Rattle.r4_patch.proofs.Placed.{over_from, over_new, over_kept, placed_tree}

roots : (a b : Option Root) (root : Root) → (IsSome a → IsSome b → ⊥) → unwrap_or a (unwrap_or b root) ≡ unwrap_or b (unwrap_or a root)
roots None b root h = refl
roots (Some r) None root h = refl
roots (Some r) (Some s) root h = absurd (h refl refl)

root_same : (a : Option Root) (root : Root) → (IsSome a → ⊥) → unwrap_or a root ≡ root
root_same None root h = refl
root_same (Some r) root h = absurd (h refl)

module _ {V : Type 0} where
  left_by : (n o w : Option (Node V)) → n ≡ None → o ≡ None → over n o w ≡ w
  left_by None None w a b = refl
  left_by None (Some d) w a b = absurd (none-some d (sym b))
  left_by (Some d) o w a b = absurd (none-some d (sym a))

  pub left : (p : Patch V) (t : Store V) (i : ℕ) → Leaves p i → place p t i ≡ t i
  left p t i h = left_by (p.new i) (p.old i) (t i) h.0 h.1

  commutes_at : (p q : Patch V) (t : Store V) (i : ℕ) → Leaves p i ⊎ Leaves q i → place p (place q t) i ≡ place q (place p t) i
  commutes_at p q t i (inl h) = left p (place q t) i h ∙ ap (over (q.new i) (q.old i)) (sym (left p t i h))
  commutes_at p q t i (inr h) = ap (over (p.new i) (p.old i)) (left q t i h) ∙ sym (left q (place p t) i h)

  pub place_commutes : (p q : Patch V) (t : Store V) → Apart p q → place p (place q t) ≡ place q (place p t)
  place_commutes p q t apart = λ j i. commutes_at p q t i (apart i) j

  -- at most one of them changes the root pair
  pub one_root : (p q : Patch V) (t : Store V) (root : Root) → Meets p t root → Meets q t root → Apart p q → IsSome p.root → IsSome q.root → ⊥
  one_root p q t root mp mq apart hp hq =
      let (c, oc) = mp.root_old hp in
      let (d, od) = mq.root_old hq in
      elim (apart root.id) [
        | inl h ↦ not_both p.old root.id c h.1 oc
        | inr h ↦ not_both q.old root.id d h.1 od
      ]

  pub root_commutes : (p q : Patch V) (t : Store V) (root : Root) → Meets p t root → Meets q t root → Apart p q → root_after p (root_after q root) ≡ root_after q (root_after p root)
  root_commutes p q t root mp mq apart = roots p.root q.root root (one_root p q t root mp mq apart)

  -- q can be put in place after p too
  pub meets_after : (p q : Patch V) (t : Store V) (root : Root) → Meets p t root → Meets q t root → Apart p q → Meets q (place p t) (root_after p root)
  meets_after p q t root mp mq apart = record {
    has_old = λ i c oc. elim (apart i) [
      | inl h ↦ left p t i h ∙ mq.has_old i c oc
      | inr h ↦ absurd (not_both q.old i c h.1 oc)
    ];
    free = λ i c nc gone. elim (apart i) [
      | inl h ↦ left p t i h ∙ mq.free i c nc gone
      | inr h ↦ absurd (not_both q.new i c h.0 nc)
    ];
    root_old = λ changed.
        let same = root_same p.root root (λ hp. one_root p q t root mp mq apart hp changed) in
        let (c, oc) = mq.root_old changed in
        (c, subst (λ r. q.old r.id ≡ Some c) (sym same) oc);
  }

  -- with names that are still free
  pub part_meets_after : (p q : Patch V) (t : Store V) (root : Root) → IsPatch p → MeetsPart p t root → MeetsPart q t root → Apart p q → MeetsPart q (place p t) (root_after p root)
  part_meets_after p q t root ip mp mq apart = record {
    meets = meets_after p q t root mp.meets mq.meets apart;
    unnamed = λ i c nc gone h.
        let (n, (j, d, ud, dn), is) = h in
        let not_in : NamesId t i → ⊥ = mq.unnamed i c nc gone in
        elim (over_from (p.new j) (p.old j) (t j) d ud) [
          | inr g ↦ not_in (n, (j, d, g.2, dn), is)
          | inl nd ↦ elim (ip.named n (j, d, nd, dn)) [
            | inl g ↦
                let ni : p.new i ≡ Some g.0 = subst (λ x. p.new x ≡ Some g.0) is g.1 in
                elim (apart i) [ inl x ↦ not_both p.new i g.0 x.0 ni | inr x ↦ not_both q.new i c x.0 nc ]
            | inr g ↦ let (a, o, oa, on) = g.1 in not_in (n, (a, o, mp.meets.has_old a o oa, on), is)
          ]
        ];
  }

  All-map : {P Q : Patch V → Type 0} → ((x : Patch V) → P x → Q x) → (xs : List (Patch V)) → All P xs → All Q xs
  All-map f xs h k d l = f (slice_index_or xs k d) (h k d l)

  pairs_head : (p : Patch V) (ps : List (Patch V)) → AllPairs Apart (p ∷ ps) → All (Apart p) ps
  pairs_head p ps h k d l = h zero (suc k) d (omega arith) (omega (arith, l))

  pairs_tail : (p : Patch V) (ps : List (Patch V)) → AllPairs Apart (p ∷ ps) → AllPairs Apart ps
  pairs_tail p ps h i j d a b = h (suc i) (suc j) d (omega (arith, a)) (omega (arith, b))

  are_patches_rest : (p : Patch V) (ps : List (Patch V)) (t : Store V) (root : Root) → ArePatches (p ∷ ps) t root → ArePatches ps (place p t) (root_after p root)
  are_patches_rest p ps t root a =
      let here = All-head (λ x. IsPatch x × Meets x t root) p ps a.each in
      let rest = All-tail (λ x. IsPatch x × Meets x t root) p ps a.each in
      let apart = pairs_head p ps a.apart in
      record {
        each = λ k d l.
            let q = slice_index_or ps k d in
            ((rest k d l).0, meets_after p q t root here.1 (rest k d l).1 (apart k d l));
        apart = pairs_tail p ps a.apart;
      }

  pub placed_all_tree : (ps : List (Patch V)) (t : Store V) (root : Root) → ArePatches ps t root → IsTree t root → IsTree (place_all ps t) (root_all ps root)
  placed_all_tree [] t root a it = it
  placed_all_tree (p ∷ ps) t root a it =
      let here = All-head (λ x. IsPatch x × Meets x t root) p ps a.each in
      placed_all_tree ps (place p t) (root_after p root) (are_patches_rest p ps t root a) (placed_tree p t root here.0 it here.1)

  pub units_from : (p : Patch V) (t : Store V) (k : ℕ) (v : V) → UnitAt (place p t) k v → UnitAt p.new k v ⊎ UnitKept p t k v
  units_from p t k v (i, c, pc, has) = elim (over_from (p.new i) (p.old i) (t i) c pc) [
    | inl nc ↦ inl (i, c, nc, has)
    | inr h ↦ inr (i, c, h.1, h.2, has)
  ]

  pub units_to : (p : Patch V) (t : Store V) (root : Root) (k : ℕ) (v : V) → Meets p t root → UnitAt p.new k v ⊎ UnitKept p t k v → UnitAt (place p t) k v
  units_to p t root k v m (inl (i, c, nc, has)) = (i, c, over_new (p.new i) (p.old i) (t i) c nc, has)
  units_to p t root k v m (inr (i, c, gone, tc, has)) = (i, c, over_kept (p.new i) (p.old i) (t i) c (λ d h. not_both t i c (m.free i d h gone) tc) gone tc, has)
