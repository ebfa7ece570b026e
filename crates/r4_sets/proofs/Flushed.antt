-- Cells under the open atoms are changed with no change of units, or get other names.
use Rattle.std.specs.Prelude.{◌≡◌, ℕ, List, Bool, true, false, cond, Option, Some, None, IsSome}
use Rattle.std.proofs.Common.{inl, inr, refl, sym, ap, subst, ◌∙◌}
use Rattle.std.specs.Option.{unwrap_or}
use Rattle.std.proofs.lemmas.Option.{none-some}
use Rattle.r4_base.specs.Value.{Value, Content}
use Rattle.r4_base.specs.Tree.{IsTree, Root, Store}
use Rattle.r4_patch.specs.r4_cell.Patch.{Meets, Patch, over, place, root_after}
use Rattle.r4_patch.proofs.Placed.{placed_tree, root_or_not, some_of}
use Rattle.r4_content.specs.Locality.{Meaning}
use Rattle.r4_content.specs.declared.command.Command.{Command}
use Rattle.r4_content.specs.declared.reply.Reply.{Reply}
use Rattle.r4_trace.specs.declared.entry.Entry.{Entry}
use Rattle.r4_trace.specs.Folds.{content_of}
use Rattle.r4_sets.specs.Atoms.{Flushes, flushed}
use Rattle.r4_sets.specs.Change.{touches}
use Rattle.r4_sets.specs.Session.{IsTreeOf, Session, Sets, Stands, cells, in_set, in_under, picks, root_with}
use Rattle.r4_sets.specs.Units.{SameUnit}
use Rattle.r4_sets.proofs.Applied.{root_below}
use Rattle.r4_sets.proofs.Cells.{stays_too}
use Rattle.r4_sets.proofs.Choosing.{touches_new, touches_old}
use Rattle.r4_sets.proofs.Gathered.{under_stands}
use Rattle.r4_sets.proofs.Goes.{same_tree_of}

pub same_stands : (w : Meaning Command Reply) (start : Content) (trace : List Entry) (chosen : ℕ → Bool)
    (t u : Store Value) (q r : Root) → IsTree u r → ((k : ℕ) → SameUnit t u k) → Stands w start trace chosen t q
    → Stands w start trace chosen u r
same_stands w start trace chosen t u q r tree same h =
    record {
      is = same_tree_of t u q r (content_of w start chosen trace) tree same h.is;
      replies = h.replies;
      alike =
          h.alike;
    }

pick_free : {A : Type 0} (s : ℕ → Bool) (o : Option ℕ) (x y : A) → o ≡ None → cond (picks s o) x y ≡ y
pick_free s o x y e = ap (λ p. cond (picks s p) x y) e

same_either : {A : Type 0} (b : Bool) (x : A) → cond b x x ≡ x
same_either true x = refl
same_either false x = refl

pick_two : {A : Type 0} (b : Bool) (x y z u v : A) → x ≡ u → y ≡ v → cond b x y ≡ cond b u v
pick_two true x y z u v e f = e
pick_two false x y z u v e f = f

-- a function of one of two
pick_of : {A B : Type 0} (f : A → B) (b : Bool) (x y : A) → cond b (f x) (f y) ≡ f (cond b x y)
pick_of f true x y = refl
pick_of f false x y = refl

module _ (w : Meaning Command Reply) (c : Session) (sets : Sets w c) (d : Patch Value) (h : Flushes c d) where
  under_is : IsTreeOf c.under.cells c.under.root (content_of w c.start (in_under c) c.trace)
  under_is = (under_stands w c sets).is

  cell_free : (s : ℕ → Bool) (i : ℕ) → touches d i ≡ true → cells c s i ≡ c.under.cells i
  cell_free s i on = pick_free s (c.owner i) (c.memory i) (c.under.cells i) (h.clean i on)

  old_root : IsSome d.root → touches d c.under.root.id ≡ true
  old_root e = let (o, is) = h.meets.root_old e in touches_old d c.under.root.id o is

  same_root : IsSome d.root → c.root ≡ c.under.root
  same_root e = root_below w c sets (h.clean c.under.root.id (old_root e))

  root_is : (s : ℕ → Bool) → IsSome d.root → root_with c s ≡ c.under.root
  root_is s e = ap (λ r. cond (picks s (c.owner c.root.id)) r c.under.root) (same_root e)
      ∙ same_either (picks s (c.owner c.root.id)) c.under.root

  meets : (s : ℕ → Bool) → Meets d (cells c s) (root_with c s)
  meets s = record {
    has_old = λ i o e. cell_free s i (touches_old d i o e) ∙ h.meets.has_old i o e;
    free = λ i o e gone. cell_free s i (touches_new d i o e) ∙ h.meets.free i o e gone;
    root_old = λ e. let (o, is) = h.meets.root_old e in (o, subst (λ r. d.old r.id ≡ Some o) (sym (root_is s e)) is);
  }

  cell_after : (s : ℕ → Bool) (i : ℕ) → cells (flushed c d) s i ≡ place d (cells c s) i
  cell_after s i = pick_of (over (d.new i) (d.old i)) (picks s (c.owner i)) (c.memory i) (c.under.cells i)

  still : (r : Root) → d.root ≡ None → root_after d r ≡ r
  still r e = ap (λ o. unwrap_or o r) e

  moved : (r q : Root) → d.root ≡ Some q → root_after d r ≡ q
  moved r q e = ap (λ o. unwrap_or o r) e

  root_now : (s : ℕ → Bool) → root_with (flushed c d) s ≡ root_after d (root_with c s)
  root_now s = elim (root_or_not d.root) [
    | inl g ↦
        let (q, e) = g in
        let b = picks s (c.owner (root_after d c.root).id) in
        ap (λ r. cond b r (root_after d c.under.root)) (moved c.root q e)
        ∙ ap (λ r. cond b q r) (moved c.under.root q e) ∙ same_either b q ∙ sym (moved (root_with c s) q e)
    | inr e ↦
        ap (λ r. cond (picks s (c.owner r.id)) r (root_after d c.under.root)) (still c.root e)
        ∙ ap (λ r. cond (picks s (c.owner c.root.id)) c.root r) (still c.under.root e)
        ∙ sym (still (root_with c s) e)
  ]

  each_after : (s : ℕ → Bool) → Stands w c.start c.trace (in_set c s) (cells (flushed c d) s)
      (root_with (flushed c d) s)
  each_after s =
      let now = sets.each s in
      let tree : IsTree (place d (cells c s)) (root_after d (root_with c s)) =
      placed_tree d (cells c s) (root_with c s) h.patch now.is.tree (meets s) in
      let same : (k : ℕ) → SameUnit (cells c s) (place d (cells c s)) k =
      λ k. stays_too (cells c s) c.under.cells (root_with c s) c.under.root now.is.tree under_is.tree d h.patch
      (meets s) h.meets k (h.units k) in
      subst (λ t. Stands w c.start c.trace (in_set c s) t (root_with (flushed c d) s)) (λ j i. sym (cell_after s i) j)
      (subst (Stands w c.start c.trace (in_set c s) (place d (cells c s))) (sym (root_now s))
      (same_stands w c.start c.trace (in_set c s) (cells c s) (place d (cells c s)) (root_with c s)
      (root_after d (root_with c s)) tree same now))

  pub flushed_sets : Sets w (flushed c d)
  flushed_sets = record {
    clean = λ i none. ap (over (d.new i) (d.old i)) (sets.clean i none);
    one_root = elim sets.one_root [
      | inl e ↦ inl (ap (root_after d) e)
      | inr g ↦
          let (n, at_root, at_under) = g in
          elim (root_or_not d.root) [
            | inr e ↦ inr (
              n,
              subst (λ (r : Root). c.owner r.id ≡ Some n) (sym (still c.root e)) at_root,
              subst
                  (λ (r : Root). c.owner r.id ≡ Some n) (sym (still c.under.root e)) at_under,
            )
            | inl f ↦ let (q, e) = f in absurd
                (none-some n (sym (h.clean c.under.root.id (old_root (some_of d.root q e))) ∙ at_under))
          ]
    ];
    counts = sets.counts;
    committed = sets.committed;
    each = each_after;
  }
