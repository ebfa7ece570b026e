-- A set of open atoms in place is the placing of their patches; and sets that choose the same commands.
use Rattle.std.specs.Prelude.{◌≡◌, ◌⊎◌, ◌≢◌, ℕ, Bool, true, false, ◌||◌, ◌==◌, cond, List, [], ◌∷◌, Option, Some, None}
use Rattle.std.proofs.Common.{inl, inr, refl, sym, ap, subst, ◌∙◌}
use Rattle.std.specs.Option.{option_map, option_or, unwrap_or}
use Rattle.std.proofs.lemmas.Bool.{eq-eqb, eqb-true}
use Rattle.r4_base.specs.Value.{Value, Content, at_key}
use Rattle.r4_base.specs.Tree.{Node, Root, Store}
use Rattle.r4_patch.specs.r4_cell.Patch.{Apart, over, place, root_after}
use Rattle.r4_content.specs.Locality.{Meaning}
use Rattle.r4_content.specs.declared.command.Command.{Command}
use Rattle.r4_content.specs.declared.reply.Reply.{Reply}
use Rattle.r4_base.specs.declared.things.AtomNo.{AtomNo}
use Rattle.r4_base.specs.declared.things.NodeId.{NodeId}
use Rattle.r4_trace.specs.declared.entry.Entry.{Entry}
use Rattle.r4_trace.specs.declared.entry.Entry.TheVariants.{Done}
use Rattle.r4_trace.specs.Folds.{HasItsReplies, content_of}
use Rattle.r4_trace.specs.Traced.{renamed_atom}
use Rattle.r4_sets.specs.Atoms.{fused}
use Rattle.r4_sets.specs.Session.{ChoosesAlike, FindsAlike, IsTreeOf, Session, Stands, also, cells, nothing, only}
use Rattle.r4_sets.specs.Session.{patch_of, picks, root_with}
use Rattle.r4_sets.proofs.Choosing.{pick_none}
use Rattle.std.specs.Prelude.{◌≤◌, IsSome}
use Rattle.std.proofs.lemmas.Bool.{ne_eqb}
use Rattle.std.proofs.lemmas.Option.{none-some}
use Rattle.r4_base.specs.Tree.{IsTree}
use Rattle.r4_patch.specs.r4_cell.Patch.{IsPatch, Meets}
use Rattle.r4_patch.proofs.Converse.{patch_from_trees}
use Rattle.r4_sets.specs.Atoms.{sealed, without}
use Rattle.r4_sets.specs.Session.{Sets}
use Rattle.r4_sets.proofs.Gathered.{under_stands}

-- ---- patches

kept : (a b : Bool) (x y : Option (Node Value)) → over (cond a x None) (cond a y None) (cond b x y) ≡ cond (a || b) x y
kept true b (Some c) y = refl
kept true b None (Some c) = refl
kept true true None None = refl
kept true false None None = refl
kept false b x y = refl

picked : (s : ℕ → Bool) (a : ℕ) (o : Option ℕ) (x y : Option (Node Value))
    → over (cond (picks (only a) o) x None) (cond (picks (only a) o) y None) (cond (picks s o) x y)
    ≡ cond (picks (also a s) o) x y
picked s a None x y = refl
picked s a (Some n) x y = kept (n == a) (s n) x y

kept_root : (a b : Bool) (x y : Root) → unwrap_or (cond a (Some x) None) (cond b x y) ≡ cond (a || b) x y
kept_root true b x y = refl
kept_root false b x y = refl

picked_root : (s : ℕ → Bool) (a : ℕ) (o : Option ℕ) (x y : Root)
    → unwrap_or (cond (picks (only a) o) (Some x) None) (cond (picks s o) x y) ≡ cond (picks (also a s) o) x y
picked_root s a None x y = refl
picked_root s a (Some n) x y = kept_root (n == a) (s n) x y

module _ (c : Session) where
  pub placed_patch : (a : ℕ) (s : ℕ → Bool) → place (patch_of c a) (cells c s) ≡ cells c (also a s)
  placed_patch a s j i = picked s a (c.owner i) (c.memory i) (c.under.cells i) j

  pub placed_root : (a : ℕ) (s : ℕ → Bool) → root_after (patch_of c a) (root_with c s) ≡ root_with c (also a s)
  placed_root a s = picked_root s a (c.owner c.root.id) c.root c.under.root

  pub none_placed : cells c nothing ≡ c.under.cells
  none_placed j i = pick_none (c.owner i) (c.memory i) (c.under.cells i) j

  pub none_root : root_with c nothing ≡ c.under.root
  none_root = pick_none (c.owner c.root.id) c.root c.under.root

  pub patches_apart : (a b : ℕ) → a ≢ b → Apart (patch_of c a) (patch_of c b)
  patches_apart a b other i = by_owner (c.owner i)
    where
      by_tests : (n : ℕ) (p q : Bool) → (n == a) ≡ p → (n == b) ≡ q
          → ((cond p (c.memory i) None ≡ None) × (cond p (c.under.cells i) None ≡ None))
          ⊎ ((cond q (c.memory i) None ≡ None) × (cond q (c.under.cells i) None ≡ None))
      by_tests n false q e f = inl (refl, refl)
      by_tests n true false e f = inr (refl, refl)
      by_tests n true true e f = absurd (other (sym (eqb-true n a e) ∙ eqb-true n b f))

      by_owner : (o : Option ℕ) → ((cond (picks (only a) o) (c.memory i) None ≡ None)
          × (cond (picks (only a) o) (c.under.cells i) None ≡ None))
          ⊎ ((cond (picks (only b) o) (c.memory i) None ≡ None)
          × (cond (picks (only b) o) (c.under.cells i) None ≡ None))
      by_owner None = inl (refl, refl)
      by_owner (Some n) = by_tests n (n == a) (n == b) refl refl

-- ---- sets that choose the same commands

module _ (w : Meaning Command Reply) (start : Content) (s u : ℕ → Bool) where
  pub same_content : (trace : List Entry) → ChoosesAlike s u trace → content_of w start s trace
      ≡ content_of w start u trace
  same_content [] h = refl
  same_content (Done t q i x r ∷ older) h =
      ap (λ (m : Content). cond (s t.0) (w.after x m) m) (same_content older h.1)
      ∙ ap (λ (b : Bool). cond b (w.after x (content_of w start u older)) (content_of w start u older)) h.0
  same_content (e ∷ older) h = same_content older h

  same_replies : (trace : List Entry) → ChoosesAlike s u trace → HasItsReplies w start s trace
      → HasItsReplies w start u trace
  same_replies [] h r = tt
  same_replies (Done t q i x y ∷ older) h r =
      (λ e. r.0 (h.0 ∙ e) ∙ ap (w.reply x) (same_content older h.1), same_replies older h.1 r.1)
  same_replies (e ∷ older) h r = same_replies older h r

  same_finds : (trace : List Entry) → ChoosesAlike s u trace → FindsAlike w start s trace → FindsAlike w start u trace
  same_finds [] h f = tt
  same_finds (Done t q i x y ∷ older) h f = (
    λ e k touches. ap (λ m. at_key m k) (sym (same_content older h.1))
        ∙ f.0 (h.0 ∙ e) k touches,
    same_finds older h.1 f.1,
  )
  same_finds (e ∷ older) h f = same_finds older h f

  pub chooses_alike : (trace : List Entry) (t : Store Value) (root : Root) → ChoosesAlike s u trace
      → Stands w start trace s t root → Stands w start trace u t root
  chooses_alike trace t root h st =
      record {
        is = subst (IsTreeOf t root) (same_content trace h) st.is;
        replies =
            same_replies trace h st.replies;
        alike = same_finds trace h st.alike;
      }

-- ---- atoms that have no cell, and atoms that become one

module _ (c : Session) (a : ℕ) where
  none_picked : {A : Type 0} (o : Option ℕ) (x y : A) → (o ≡ Some a → ⊥) → cond (picks (only a) o) x y ≡ y
  none_picked None x y h = refl
  none_picked {A} (Some n) x y h = by_test (n == a) refl
    where
      by_test : (q : Bool) → (n == a) ≡ q → cond (n == a) x y ≡ y
      by_test true e = absurd (h (ap Some (eqb-true n a e)))
      by_test false e = ap (λ q. cond q x y) e

  pub empty_sealed : ((i : ℕ) → c.owner i ≡ Some a → ⊥) → (cells c (only a) ≡ c.under.cells)
      × (root_with c (only a) ≡ c.under.root)
  empty_sealed h = (
    λ j i. none_picked (c.owner i) (c.memory i) (c.under.cells i) (h i) j,
    none_picked
        (c.owner c.root.id) c.root c.under.root (h c.root.id),
  )

  or_none : (x : Option (Node Value)) → option_or x None ≡ x
  or_none None = refl
  or_none (Some y) = refl

  or_same : (x : Option (Node Value)) → option_or x x ≡ x
  or_same None = refl
  or_same (Some y) = refl

  both_olds : (b : ℕ) (o : Option ℕ) (x : Option (Node Value))
      → cond (picks (only a) (option_map (renamed_atom a b) o)) x None
      ≡ option_or (cond (picks (only a) o) x None) (cond (picks (only b) o) x None)
  both_olds b None x = refl
  both_olds b (Some n) x = by_tests (n == b) (n == a) refl refl
    where
      by_tests : (p q : Bool) → (n == b) ≡ p → (n == a) ≡ q → cond ((cond (n == b) a n) == a) x None
          ≡ option_or (cond (n == a) x None) (cond (n == b) x None)
      by_tests true true e f = ap (λ r. cond ((cond r a n) == a) x None) e ∙ ap (λ r. cond r x None) (eq-eqb a a refl)
          ∙ sym (ap (λ r. option_or (cond r x None) (cond (n == b) x None)) f ∙ ap (λ r. option_or x (cond r x None)) e
          ∙ or_same x)
      by_tests true false e f = ap (λ r. cond ((cond r a n) == a) x None) e ∙ ap (λ r. cond r x None) (eq-eqb a a refl)
          ∙ sym (ap (λ r. option_or (cond r x None) (cond (n == b) x None)) f ∙ ap (λ r. cond r x None) e)
      by_tests false true e f = ap (λ r. cond ((cond r a n) == a) x None) e ∙ ap (λ r. cond r x None) f
          ∙ sym (ap (λ r. option_or (cond r x None) (cond (n == b) x None)) f ∙ ap (λ r. option_or x (cond r x None)) e
          ∙ or_none x)
      by_tests false false e f = ap (λ r. cond ((cond r a n) == a) x None) e ∙ ap (λ r. cond r x None) f
          ∙ sym (ap (λ r. option_or (cond r x None) (cond (n == b) x None)) f ∙ ap (λ r. cond r x None) e)

pub fused_patch : (c : Session) (a b : AtomNo) (node : NodeId) (i : ℕ)
    → ((patch_of (fused c a b node) a.0).old i ≡ option_or ((patch_of c a.0).old i) ((patch_of c b.0).old i))
    × ((patch_of (fused c a b node) a.0).new i ≡ option_or ((patch_of c a.0).new i) ((patch_of c b.0).new i))
fused_patch c a b node i = (
  both_olds c a.0 b.0 (c.owner i) (c.under.cells i),
  both_olds c a.0 b.0 (c.owner i)
      (c.memory i),
)

-- ---- the patch of an atom is one of the tree under the open atoms

module _ (w : Meaning Command Reply) (c : Session) (sets : Sets w c) (a : ℕ) where
  -- by the owner
  of_pick : {A : Type 0} (o : Option ℕ) (x : Option A) (v : A) → cond (picks (only a) o) x None ≡ Some v → (o ≡ Some a)
      × (x ≡ Some v)
  of_pick None x v e = absurd (none-some v e)
  of_pick {A} (Some n) x v e = by_test (n == a) refl e
    where
      by_test : (q : Bool) → (n == a) ≡ q → cond q x None ≡ Some v → (◌≡◌ {A = Option ℕ} (Some n) (Some a))
          × (x ≡ Some v)
      by_test true is h = (ap Some (eqb-true n a is), h)
      by_test false is h = absurd (none-some v h)

  pick_own : {A : Type 0} (o : Option ℕ) (x y : A) → o ≡ Some a → cond (picks (only a) o) x y ≡ x
  pick_own o x y e = ap (λ p. cond (picks (only a) p) x y) e ∙ ap (λ b. cond b x y) (eq-eqb a a refl)

  -- where the root pair is the atom's, so is the root under it
  under_root : c.owner c.root.id ≡ Some a → c.owner c.under.root.id ≡ Some a
  under_root own = elim sets.one_root [
    | inl same ↦ ap (λ (r : Root). c.owner r.id) (sym same) ∙ own
    | inr h ↦ let (n, at_root, at_under) = h in at_under ∙ sym at_root ∙ own
  ]

  pub meets_under : Meets (patch_of c a) c.under.cells c.under.root
  meets_under = record {
    has_old = λ i o e. (of_pick (c.owner i) (c.under.cells i) o e).1;
    free = λ i o e gone. let own =
        (of_pick (c.owner i) (c.memory i) o e).0 in sym (pick_own (c.owner i) (c.under.cells i) None own) ∙ gone;
    root_old = λ h.
        let (r, e) = some_root (cond (picks (only a) (c.owner c.root.id)) (Some c.root) None) h in
        let own = under_root (of_pick (c.owner c.root.id) (Some c.root) r e).0 in
        let tree = (under_stands w c sets).is.tree in
        (tree.root_node, pick_own (c.owner c.under.root.id) (c.under.cells c.under.root.id) None own ∙ tree.root_is);
  }
    where
      some_root : (o : Option Root) → IsSome o → (r : Root) × (o ≡ Some r)
      some_root (Some r) h = (r, refl)
      some_root None h = absurd (let f : false ≡ true = h in cc)

  pub patch_under : c.under.root.height ≤ (root_with c (only a)).height → IsPatch (patch_of c a)
  patch_under le =
      patch_from_trees (patch_of c a) c.under.cells c.under.root (under_stands w c sets).is.tree meets_under
      (subst (λ t. IsTree t (root_after (patch_of c a) c.under.root)) (sym cells_are)
      (subst (IsTree (cells c (only a))) (sym root_is) (sets.each (only a)).is.tree))
      (subst (λ (r : Root). c.under.root.height ≤ r.height) (sym root_is) le)
    where
      one_more : (o : Option ℕ) (x y : Option (Node Value))
          → over (cond (picks (only a) o) x None) (cond (picks (only a) o) y None) y ≡ cond (picks (only a) o) x y
      one_more None x y = refl
      one_more (Some n) x y = kept_one (n == a) x y
        where
          kept_one : (b : Bool) (x y : Option (Node Value)) → over (cond b x None) (cond b y None) y ≡ cond b x y
          kept_one true (Some z) y = refl
          kept_one true None (Some z) = refl
          kept_one true None None = refl
          kept_one false x y = refl

      cells_are : place (patch_of c a) c.under.cells ≡ cells c (only a)
      cells_are j i = one_more (c.owner i) (c.memory i) (c.under.cells i) j

      one_root_more : (o : Option ℕ) (x y : Root) → unwrap_or (cond (picks (only a) o) (Some x) None) y
          ≡ cond (picks (only a) o) x y
      one_root_more None x y = refl
      one_root_more (Some n) x y = kept_root (n == a) false x y ∙ or_no (n == a) x y
        where
          or_no : (b : Bool) (x y : Root) → cond (b || false) x y ≡ cond b x y
          or_no true x y = refl
          or_no false x y = refl

      root_is : root_after (patch_of c a) c.under.root ≡ root_with c (only a)
      root_is = one_root_more (c.owner c.root.id) c.root c.under.root

-- ---- the cells of an atom that is sealed

pub freed : (c : Session) (a : AtomNo) (i : ℕ) → c.owner i ≡ Some a.0 → (sealed c a).owner i ≡ None
freed c a i own = ap (without a.0) own ∙ ap (λ b. cond b None (Some a.0)) (eq-eqb a.0 a.0 refl)

pub still_owned : (c : Session) (a : AtomNo) (i n : ℕ) → n ≢ a.0 → c.owner i ≡ Some n → (sealed c a).owner i ≡ Some n
still_owned c a i n other own = ap (without a.0) own ∙ ap (λ b. cond b None (Some n)) (ne_eqb n a.0 other)
