-- Two patches as one.
use Rattle.std.specs.Prelude.{◌≡◌, ◌≤◌, ◌⊎◌, IsSome, None, Option, Some}
use mathlib.Core.Path.{refl, sym, ap, subst, ◌∙◌}
use mathlib.Core.Logic.{inl, inr}
use Rattle.std.specs.Option.{unwrap_or}
use Rattle.std.proofs.Math.Nat.{le_trans, le_refl}
use Rattle.std.proofs.lemmas.Option.{none-some}
use Rattle.r4_base.specs.Tree.{Node, Store, Root, IsTree}
use Rattle.r4_base.proofs.Trees.{not_both}
use Rattle.r4_cell.specs.Patch.{Patch, over, place, root_after, IsPatch, Meets, captured, last_root, join}
use Rattle.r4_patch.specs.Part.{IsPart}
use Rattle.r4_patch.proofs.PartCells.{tree_is_part}
use Rattle.r4_patch.proofs.Placed.{over_from, placed_tree, rises}
use Rattle.r4_patch.proofs.Sets.{left}
use Rattle.r4_patch.proofs.Converse.{patch_from_trees}

module _ {V : Type 0} where
  joined_at : (qn qo pn po w : Option (Node V)) → ((c : Node V) → pn ≡ Some c → po ≡ None → w ≡ None) → over (over qn qo pn) (captured po pn qo) w ≡ over qn qo (over pn po w)
  joined_at (Some c) qo pn po w free = refl
  joined_at None (Some o) pn (Some x) w free = refl
  joined_at None (Some o) (Some c) None w free = free c refl refl
  joined_at None (Some o) None None w free = refl
  joined_at None None (Some c) po w free = refl
  joined_at None None None (Some x) w free = refl
  joined_at None None None None w free = refl

  pub place_joined : (p q : Patch V) (t : Store V) (root : Root) → Meets p t root → place (join p q) t ≡ place q (place p t)
  place_joined p q t root m = λ j i. joined_at (q.new i) (q.old i) (p.new i) (p.old i) (t i) (λ c e gone. m.free i c e gone) j

last_root_after : (a b : Option Root) (root : Root) → unwrap_or (last_root a b) root ≡ unwrap_or b (unwrap_or a root)
last_root_after a (Some r) root = refl
last_root_after a None root = refl

module _ {V : Type 0} where
  pub root_joined : (p q : Patch V) (root : Root) → root_after (join p q) root ≡ root_after q (root_after p root)
  root_joined p q root = last_root_after p.root q.root root

  captured_from : (po pn qo : Option (Node V)) (c : Node V) → captured po pn qo ≡ Some c → (po ≡ Some c) ⊎ ((po ≡ None) × (pn ≡ None) × (qo ≡ Some c))
  captured_from (Some x) pn qo c e = inl e
  captured_from None (Some d) qo c e = absurd (none-some c e)
  captured_from None None qo c e = inr (refl, refl, e)

  captured_none : (po pn qo : Option (Node V)) → captured po pn qo ≡ None → (po ≡ None) × (((c : Node V) × (pn ≡ Some c)) ⊎ ((pn ≡ None) × (qo ≡ None)))
  captured_none (Some x) pn qo e = absurd (none-some x (sym e))
  captured_none None (Some d) qo e = (refl, inl (d, refl))
  captured_none None None qo e = (refl, inr (refl, e))

  captured_some : (po pn qo : Option (Node V)) → ((c : Node V) → pn ≡ Some c → po ≡ None → ⊥) → (c : Node V) → (po ≡ Some c) ⊎ (qo ≡ Some c) → (d : Node V) × (captured po pn qo ≡ Some d)
  captured_some (Some x) pn qo made c h = (x, refl)
  captured_some None (Some d) qo made c h = absurd (made d refl refl)
  captured_some None None qo made c (inl e) = absurd (none-some c e)
  captured_some None None qo made c (inr e) = (c, e)

changed_by : (a b : Option Root) → IsSome (last_root a b) → IsSome a ⊎ ((a ≡ None) × IsSome b)
changed_by (Some r) b h = inl refl
changed_by None (Some r) h = inr (refl, refl)
changed_by None None h = inl h

module _ {V : Type 0} (p q : Patch V) (t : Store V) (root : Root) (mp : Meets p t root) (mq : Meets q (place p t) (root_after p root)) where
  pub meets_joined : IsPart t root → Meets (join p q) t root
  meets_joined it = record {
    has_old = λ i c e. elim (captured_from (p.old i) (p.new i) (q.old i) c e) [
      | inl h ↦ mp.has_old i c h
      | inr h ↦ sym (left p t i (h.1, h.0)) ∙ mq.has_old i c h.2
    ];
    free = λ i c e gone.
        let (no_old, h) = captured_none (p.old i) (p.new i) (q.old i) gone in
        elim h [
          | inl g ↦ mp.free i g.0 g.1 no_old
          | inr g ↦ elim (over_from (q.new i) (q.old i) (p.new i) c e) [
            | inl x ↦ sym (left p t i (g.0, no_old)) ∙ mq.free i c x g.1
            | inr x ↦ absurd (not_both p.new i c g.0 x.2)
          ]
        ];
    root_old = λ h.
        let made : (c : Node V) → p.new root.id ≡ Some c → p.old root.id ≡ None → ⊥ = λ c e gone. not_both t root.id it.root_node (mp.free root.id c e gone) it.root_is in
        elim (changed_by p.root q.root h) [
          | inl g ↦ let (c, e) = mp.root_old g in captured_some (p.old root.id) (p.new root.id) (q.old root.id) made c (inl e)
          | inr g ↦
              let (c, e) = mq.root_old g.1 in
              captured_some (p.old root.id) (p.new root.id) (q.old root.id) made c (inr (subst (λ r. q.old r.id ≡ Some c) (ap (λ o. unwrap_or o root) g.0) e))
        ];
  }

  taller : (a : Patch V) (s : Store V) (r : Root) → IsPatch a → IsTree s r → Meets a s r → (o : Option Root) → a.root ≡ o → r.height ≤ (unwrap_or o r).height
  taller a s r ia st ma None e = le_refl r.height
  taller a s r ia st ma (Some x) e = rises a s r ia (tree_is_part s r st) ma x e

  pub joined_patch : IsTree t root → IsPatch p → IsPatch q → IsPatch (join p q)
  joined_patch it ip iq =
      let mid = placed_tree p t root ip it mp in
      let last = placed_tree q (place p t) (root_after p root) iq mid mq in
      let cells = sym (place_joined p q t root mp) in
      let roots = sym (root_joined p q root) in
      let low = taller p t root ip it mp p.root refl in
      let high = taller q (place p t) (root_after p root) iq mid mq q.root refl in
      let tree : IsTree (place (join p q) t) (root_after (join p q) root) = subst (λ s. IsTree s (root_after (join p q) root)) cells (subst (IsTree (place q (place p t))) roots last) in
      patch_from_trees (join p q) t root it (meets_joined (tree_is_part t root it)) tree (subst (λ r. root.height ≤ r.height) roots (le_trans low high))
