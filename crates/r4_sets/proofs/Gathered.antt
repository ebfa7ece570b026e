-- Two atoms become one; an atom is sealed and committed.
use Rattle.std.specs.Prelude.{◌≡◌, ◌⊎◌, ℕ, ◌+◌, ◌≤◌, nat_lt, List, [], ◌∷◌, Bool, true, false, ◌||◌, ◌&&◌, ◌==◌, cond}
use Rattle.std.specs.Prelude.{Option, Some, None}
use Rattle.std.proofs.Common.{arith, inl, inr, refl, sym, ap, subst, ◌∙◌}
use Rattle.std.specs.Option.{option_map}
use Rattle.std.proofs.lemmas.Bool.{eqb-true}
use Rattle.std.proofs.lemmas.Option.{none-some}
use Rattle.r4_base.specs.Tree.{Root}
use Rattle.r4_content.specs.Locality.{Meaning}
use Rattle.r4_content.specs.declared.command.Command.{Command}
use Rattle.r4_content.specs.declared.reply.Reply.{Reply}
use Rattle.r4_base.specs.Tree.{Store}
use Rattle.r4_base.specs.Value.{Value}
use Rattle.r4_base.specs.declared.things.AtomNo.{AtomNo}
use Rattle.r4_base.specs.declared.things.NodeId.{NodeId}
use Rattle.r4_trace.specs.declared.entry.Entry.{Entry}
use Rattle.r4_trace.specs.declared.entry.Entry.TheVariants.{Begin, Done, Refused, Ended, Fuse, Sealed, Committed, Acked}
use Rattle.r4_trace.specs.declared.entry.Entry.TheVariants.{Broken}
use Rattle.r4_trace.specs.Folds.{HasItsReplies, content_of}
use Rattle.r4_trace.specs.Traced.{IsSealed, atom_in, committed_in, in_first, is_first, renamed_atom, sealed_in}
use Rattle.r4_trace.proofs.FirstOnes.{not_first}
use Rattle.r4_sets.specs.Atoms.{ChangesNoCell, committed, fused, sealed, told, without}
use Rattle.r4_sets.specs.Session.{FindsAlike, IsTreeOf, Session, Sets, Stands, also, cells, in_base, in_set, in_under}
use Rattle.r4_sets.specs.Session.{nothing, only, picks, root_with}
use Rattle.std.proofs.lemmas.Bool.{le-ltb, lt-ltb}
use Rattle.r4_sets.proofs.Choosing.{pick_none, stands_at}

no_true : false ≡ true → ⊥
no_true e = cc

-- ---- fused

renamed_pick : {A : Type 0} (s : ℕ → Bool) (a b : ℕ) (o : Option ℕ) (x y : A)
    → cond (picks s (option_map (renamed_atom a b) o)) x y ≡ cond (picks (λ n. s (renamed_atom a b n)) o) x y
renamed_pick s a b None x y = refl
renamed_pick s a b (Some n) x y = refl

renamed_has : (has : ℕ → Bool) (a b n : ℕ) → has a ≡ false → has b ≡ false → has (renamed_atom a b n) ≡ has n
renamed_has has a b n ha hb = by_test (n == b) refl
  where
    by_test : (q : Bool) → (n == b) ≡ q → has (cond (n == b) a n) ≡ has n
    by_test true e = ap (λ q. has (cond q a n)) e ∙ ha ∙ sym (ap has (eqb-true n b e) ∙ hb)
    by_test false e = ap (λ q. has (cond q a n)) e

module _ (w : Meaning Command Reply) (c : Session) (sets : Sets w c) (a b : AtomNo) (node : NodeId)
    (open_a : IsSealed c.trace a.0 → ⊥) (open_b : IsSealed c.trace b.0 → ⊥) where
  -- the set of the old atoms that make up a set of the new ones
  abbrev olds : (ℕ → Bool) → ℕ → Bool
  olds s n = s (renamed_atom a.0 b.0 n)

  none_before : (i : ℕ) → option_map (renamed_atom a.0 b.0) (c.owner i) ≡ None → c.owner i ≡ None
  none_before i e = by_owner (c.owner i) e
    where
      by_owner : (o : Option ℕ) → option_map (renamed_atom a.0 b.0) o ≡ None → o ≡ None
      by_owner None h = refl
      by_owner (Some n) h = absurd (none-some (renamed_atom a.0 b.0 n) (sym h))

  -- the first atoms have the transactions that they had
  first_same : (k t : ℕ) → is_first (Fuse a b node ∷ c.trace) k t ≡ is_first c.trace k t
  first_same k t = renamed_has (in_first c.trace k) a.0 b.0 (atom_in c.trace t) (not_first c.trace k a.0 open_a)
      (not_first c.trace k b.0 open_b)

  told_fused : (s : ℕ → Bool) (t : Store Value) (root : Root) → Stands w c.start c.trace s t root
      → Stands w c.start (Fuse a b node ∷ c.trace) s t root
  told_fused s t root h = record { is = h.is; replies = h.replies; alike = h.alike }

  pub fused_sets : Sets w (fused c a b node)
  fused_sets = record {
    clean = λ i none. sets.clean i (none_before i none);
    one_root = elim sets.one_root [
      | inl e ↦ inl e
      | inr h ↦ let (n, at_root, at_under) =
          h in inr (
            renamed_atom a.0 b.0 n,
            ap (option_map (renamed_atom a.0 b.0)) at_root,
            ap
                (option_map (renamed_atom a.0 b.0)) at_under,
          )
    ];
    counts = sets.counts;
    committed = told_fused (in_base (fused c a b node)) c.base.cells c.base.root
        (stands_at w c.start c.trace (in_base c) (in_base (fused c a b node)) c.base.cells c.base.cells c.base.root
        c.base.root
        (λ j t. sym (first_same (committed_in c.trace) t) j) refl refl sets.committed);
    each = λ s. told_fused (in_set (fused c a b node) s) (cells (fused c a b node) s) (root_with (fused c a b node) s)
        (stands_at w c.start c.trace (in_set c (olds s)) (in_set (fused c a b node) s) (cells c (olds s))
        (cells (fused c a b node) s) (root_with c (olds s)) (root_with (fused c a b node) s)
        (λ j t. ap (λ q. q || s (renamed_atom a.0 b.0 (atom_in c.trace t))) (sym (first_same (sealed_in c.trace) t)) j)
        (λ j i. sym (renamed_pick s a.0 b.0 (c.owner i) (c.memory i) (c.under.cells i)) j)
        (sym (renamed_pick s a.0 b.0 (c.owner c.root.id) c.root c.under.root)) (sets.each (olds s)));
  }

-- ---- sealed

sealed_pick : {A : Type 0} (s : ℕ → Bool) (a : ℕ) (o : Option ℕ) (x y : A)
    → cond (picks s (without a o)) x (cond (picks (only a) o) x y) ≡ cond (picks (also a s) o) x y
sealed_pick s a None x y = refl
sealed_pick {A} s a (Some n) x y = by_test (n == a)
  where
    by_test : (q : Bool) → cond (picks s (cond q None (Some n))) x (cond q x y) ≡ cond (q || s n) x y
    by_test true = refl
    by_test false = refl

sealed_clean : {A : Type 0} (a : ℕ) (o : Option ℕ) (x y : A) → (o ≡ None → x ≡ y) → without a o ≡ None → x
    ≡ cond (picks (only a) o) x y
sealed_clean a None x y h e = h refl
sealed_clean {A} a (Some n) x y h e = by_test (n == a) e
  where
    by_test : (q : Bool) → cond q None (Some n) ≡ None → x ≡ cond q x y
    by_test true f = refl
    by_test false f = absurd (none-some n (sym f))

-- ---- the first atoms, where one more is sealed

enough : (trace : List Entry) (k a : ℕ) → sealed_in trace ≤ k → in_first trace k a ≡ in_first trace (sealed_in trace) a
enough [] k a le = refl
enough (Sealed atom ∷ older) k a le =
    let here = lt-ltb (sealed_in older) k (omega (arith, le)) in
    let there = lt-ltb (sealed_in older) (sealed_in older + 1) (omega arith) in
    ap (λ b. ((a == atom.0) && b) || in_first older k a) (here ∙ sym there)
    ∙ ap (λ b. ((a == atom.0) && nat_lt (sealed_in older) (sealed_in older + 1)) || b)
    (enough older k a (omega (arith, le)) ∙ sym (enough older (sealed_in older + 1) a (omega arith)))
enough (e ∷ older) k a le = enough older k a le

and_false : (a b : Bool) → (a && false || b) ≡ b
and_false true b = refl
and_false false b = refl

last_one : (a b c : Bool) → ((a && true || b) || c) ≡ (b || (a || c))
last_one true true c = refl
last_one true false c = refl
last_one false true c = refl
last_one false false c = refl

-- of those before, and with it
before_it : (trace : List Entry) (a : AtomNo) (k x : ℕ) → k ≤ sealed_in trace → in_first (Sealed a ∷ trace) k x
    ≡ in_first trace k x
before_it trace a k x le = ap (λ b. ((x == a.0) && b) || in_first trace k x) (le-ltb (sealed_in trace) k le)
    ∙ and_false (x == a.0) (in_first trace k x)

with_it : (trace : List Entry) (a : AtomNo) (x : ℕ) (c : Bool)
    → (in_first (Sealed a ∷ trace) (sealed_in trace + 1) x || c)
    ≡ (in_first trace (sealed_in trace) x || ((x == a.0) || c))
with_it trace a x c =
    ap (λ b. (((x == a.0) && b) || in_first trace (sealed_in trace + 1) x) || c)
    (lt-ltb (sealed_in trace) (sealed_in trace + 1) (omega arith))
    ∙ ap (λ b. (((x == a.0) && true) || b) || c) (enough trace (sealed_in trace + 1) x (omega arith))
    ∙ last_one (x == a.0) (in_first trace (sealed_in trace) x) c

sealed_root : (a n : ℕ) (o p : Option ℕ) (r q : Root) → o ≡ Some n → p ≡ Some n → (r ≡ cond (picks (only a) o) r q)
    ⊎ ((cond (picks (only a) o) r q ≡ q) × (without a o ≡ Some n) × (without a p ≡ Some n))
sealed_root a n o p r q eo ep =
    subst (λ x. (r ≡ cond (picks (only a) x) r q)
    ⊎ ((cond (picks (only a) x) r q ≡ q) × (without a x ≡ Some n) × (without a p ≡ Some n))) (sym eo)
    (by_test (n == a) refl)
  where
    by_test : (b : Bool) → (n == a) ≡ b → (r ≡ cond (n == a) r q)
        ⊎ ((cond (n == a) r q ≡ q) × (cond (n == a) None (Some n) ≡ Some n) × (without a p ≡ Some n))
    by_test true e = inl (sym (ap (λ b. cond b r q) e))
    by_test false e = inr (
      ap (λ b. cond b r q) e,
      ap (λ b. cond b None (Some n)) e,
      ap (without a) ep
          ∙ ap (λ b. cond b None (Some n)) e,
    )

same_either : {A : Type 0} (b : Bool) (x y : A) → x ≡ y → x ≡ cond b x y
same_either true x y e = refl
same_either false x y e = e

module _ (w : Meaning Command Reply) (c : Session) (sets : Sets w c) (a : AtomNo) where
  told_sealed : (s : ℕ → Bool) (t : Store Value) (root : Root) → Stands w c.start c.trace s t root
      → Stands w c.start (Sealed a ∷ c.trace) s t root
  told_sealed s t root h = record { is = h.is; replies = h.replies; alike = h.alike }

  pub sealed_sets : Sets w (sealed c a)
  sealed_sets = record {
    clean = λ i none. sealed_clean a.0 (c.owner i) (c.memory i) (c.under.cells i) (sets.clean i) none;
    one_root = elim sets.one_root [
      | inl e ↦ inl (same_either (picks (only a.0) (c.owner c.root.id)) c.root c.under.root e)
      | inr h ↦
          let (n, at_root, at_under) = h in
          elim (sealed_root a.0 n (c.owner c.root.id) (c.owner c.under.root.id) c.root c.under.root at_root at_under) [
            | inl e ↦ inl e
            | inr g ↦ let (is, first, second) =
                g in inr (n, first, subst (λ (r : Root). without a.0 (c.owner r.id) ≡ Some n) (sym is) second)
          ]
    ];
    counts = let le = sets.counts in omega (arith, le);
    committed = told_sealed (in_base (sealed c a)) c.base.cells c.base.root
        (stands_at w c.start c.trace (in_base c) (in_base (sealed c a)) c.base.cells c.base.cells c.base.root
        c.base.root
        (λ j t. sym (before_it c.trace a (committed_in c.trace) (atom_in c.trace t) sets.counts) j) refl refl
        sets.committed);
    each = λ s. told_sealed (in_set (sealed c a) s) (cells (sealed c a) s) (root_with (sealed c a) s)
        (stands_at w c.start c.trace (in_set c (also a.0 s)) (in_set (sealed c a) s) (cells c (also a.0 s))
        (cells (sealed c a) s) (root_with c (also a.0 s)) (root_with (sealed c a) s)
        (λ j t. sym (with_it c.trace a (atom_in c.trace t) (s (atom_in c.trace t))) j)
        (λ j i. sym (sealed_pick s a.0 (c.owner i) (c.memory i) (c.under.cells i)) j)
        (sym (sealed_pick s a.0 (c.owner c.root.id) c.root c.under.root)) (sets.each (also a.0 s)));
  }

-- ---- committed

or_nothing : (b : Bool) → (b || false) ≡ b
or_nothing true = refl
or_nothing false = refl

module _ (w : Meaning Command Reply) (c : Session) (sets : Sets w c) where
  -- what stands under the open atoms
  pub under_stands : Stands w c.start c.trace (in_under c) c.under.cells c.under.root
  under_stands = stands_at w c.start c.trace (in_set c nothing) (in_under c) (cells c nothing) c.under.cells
      (root_with c nothing) c.under.root
      (λ j t. or_nothing (in_under c t) j)
      (λ j i. pick_none (c.owner i) (c.memory i) (c.under.cells i) j)
      (pick_none (c.owner c.root.id) c.root c.under.root) (sets.each nothing)

  pub committed_sets : (a : AtomNo) (clock : ℕ) → sealed_in c.trace ≡ committed_in c.trace + 1
      → Sets w (committed c a clock)
  committed_sets a clock e = record {
    clean = sets.clean;
    one_root = sets.one_root;
    counts = omega (arith, e);
    committed = told_by (in_base (committed c a clock)) c.under.cells c.under.root
        (stands_at w c.start c.trace (in_under c) (in_base (committed c a clock)) c.under.cells c.under.cells
        c.under.root c.under.root
        (λ j t. ap (λ k. is_first c.trace k t) e j) refl refl under_stands);
    each = λ s. told_by (in_set (committed c a clock) s) (cells c s) (root_with c s) (sets.each s);
  }
    where
      told_by : (s : ℕ → Bool) (t : Store Value) (root : Root) → Stands w c.start c.trace s t root
          → Stands w c.start (Committed a clock ∷ c.trace) s t root
      told_by s t root h = record { is = h.is; replies = h.replies; alike = h.alike }

  -- ---- entries that change no cell

  same_told : (e : Entry) → ((s : ℕ → Bool) → content_of w c.start s c.trace ≡ content_of w c.start s (e ∷ c.trace))
      → ((s : ℕ → Bool) → HasItsReplies w c.start s c.trace → HasItsReplies w c.start s (e ∷ c.trace))
      → ((s : ℕ → Bool) → FindsAlike w c.start s c.trace → FindsAlike w c.start s (e ∷ c.trace))
      → in_base c ≡ in_base (told c e) → ((s : ℕ → Bool) → in_set c s ≡ in_set (told c e) s)
      → committed_in (e ∷ c.trace) ≤ sealed_in (e ∷ c.trace) → Sets w (told c e)
  same_told e content replies alike base each counts = record {
    clean = sets.clean;
    one_root = sets.one_root;
    counts = counts;
    committed = subst (λ s. Stands w c.start (e ∷ c.trace) s c.base.cells c.base.root) base
        (told_by (in_base c) c.base.cells c.base.root sets.committed);
    each = λ s. subst (λ q. Stands w c.start (e ∷ c.trace) q (cells c s) (root_with c s)) (each s)
        (told_by (in_set c s) (cells c s) (root_with c s) (sets.each s));
  }
    where
      told_by : (s : ℕ → Bool) (t : Store Value) (root : Root) → Stands w c.start c.trace s t root
          → Stands w c.start (e ∷ c.trace) s t root
      told_by s t root h = record {
        is = subst (IsTreeOf t root) (content s) h.is;
        replies =
            replies s h.replies;
        alike = alike s h.alike;
      }

  pub told_sets : (e : Entry) → ChangesNoCell e → Sets w (told c e)
  told_sets (Begin t s) h = same_told (Begin t s) (λ q. refl) (λ q r. r) (λ q r. r) refl (λ q. refl) sets.counts
  told_sets (Refused t s i r) h =
      same_told (Refused t s i r) (λ q. refl) (λ q r. r) (λ q r. r) refl (λ q. refl) sets.counts
  told_sets (Ended t) h = same_told (Ended t) (λ q. refl) (λ q r. r) (λ q r. r) refl (λ q. refl) sets.counts
  told_sets (Acked s t k) h = same_told (Acked s t k) (λ q. refl) (λ q r. r) (λ q r. r) refl (λ q. refl) sets.counts
  told_sets (Broken k f) h = same_told (Broken k f) (λ q. refl) (λ q r. r) (λ q r. r) refl (λ q. refl) sets.counts
  told_sets (Fuse a b n) h = elim h [ ]
  told_sets (Done t s i x r) h = elim h [ ]
  told_sets (Sealed a) h = elim h [ ]
  told_sets (Committed a k) h = elim h [ ]
