-- Data blocks among cells in which something is set.
use Rattle.std.proofs.Common.{◌≡◌, inl, inr, ℕ, ◌+◌, Bool, true, false, cond, List, [], ◌∷◌, ◌++◌, refl, sym, ap, subst, ◌∙◌, arith}
use Rattle.std.specs.Prelude.{Contains, Option, None, Some, ◌==◌, ◌&&◌, ◌||◌, if◌then◌else◌}
use Rattle.std.specs.Option.{is_some}
use Rattle.std.proofs.lemmas.Bool.{eq-eqb, eqb-true}
use Rattle.r4_base.specs.Key.{rank}
use Rattle.r4_base.specs.Tree.{Root, Store}
use Rattle.r4_base.specs.Value.{Value}
use Rattle.r4_twig_work.specs.r4_cell.Seen.{CellSeen}
use Rattle.r4_twig_work.specs.r4_cell.declared.change.Fresh.{Fresh}
use Rattle.r4_content.specs.Edited.{Edits}
use Rattle.r4_extent_blocks.specs.Setting.{byte_set}
use Rattle.r4_twig_work.specs.r4_leaf.Units.{is_between}
use Rattle.r4_twig_work.specs.r4_patch.Effect.{Placed}
use Rattle.r4_twig_work.proofs.r4_patch.Members.{Distinct, cases, distinct, have_names, here, later, none}
use Rattle.r4_twig_work.proofs.r4_work.UnitMembers.{between}
use Rattle.r4_twig_work.specs.r4_work.Remaking.{Changes}
use Rattle.r4_twig_work.specs.r4_work.declared.working.WorkingSet.{WorkingSet}
use Rattle.r4_extent_renew.specs.Overwriting.{AreSetAmong, AreStandingBlocks, AreStandingCells, IsLeftAlone, blocks_among, in_blocks, is_set_in}

pub of_cells : (e : Edits) (cs bs : List CellSeen) → AreSetAmong e cs bs → (c : CellSeen) → Contains bs c → Contains cs c × (c.level ≡ 0)
of_cells e [] bs is c at = absurd (none c (subst (λ xs. Contains xs c) is at))
of_cells e (d ∷ cs) bs is c at = elim is [
  | inl taken ↦
      let (rest, bs_is, level, more) = taken in
      elim (cases d c rest (subst (λ xs. Contains xs c) bs_is at)) [
        | inl this ↦ subst (λ (z : CellSeen). Contains (d ∷ cs) z × (z.level ≡ 0)) (sym this) (here d cs, level)
        | inr behind ↦ let h = of_cells e cs rest more c behind in (later d c cs h.0, h.1)
      ]
  | inr left ↦ let h = of_cells e cs bs left.1 c at in (later d c cs h.0, h.1)
]

distinct_picked : (e : Edits) (cs bs : List CellSeen) → AreSetAmong e cs bs → Distinct cs → Distinct bs
distinct_picked e [] bs is d = subst Distinct (sym is) tt
distinct_picked e (c ∷ cs) bs is (other, more) = elim is [
  | inl taken ↦
      let (rest, bs_is, level, behind) = taken in
      subst Distinct (sym bs_is) ((λ y at. other y (of_cells e cs rest behind y at).0), distinct_picked e cs rest behind more)
  | inr left ↦ distinct_picked e cs bs left.1 more
]

module _ (e : Edits) (k : ℕ) (set : is_some (byte_set e k) ≡ true) where
  no_none : byte_set e k ≡ None → ⊥
  no_none is = off_on (sym (ap is_some is) ∙ set)
    where
      off_on : false ≡ true → ⊥
      off_on h = absurd cc

  outside : (c : CellSeen) → IsLeftAlone e c → rank c.hi ≡ rank c.lo + 4096 → is_between (rank c.lo) (rank c.hi) k ≡ false
  outside c alone wide = by_test (is_between (rank c.lo) (rank c.hi) k) refl
    where
      by_test : (t : Bool) → is_between (rank c.lo) (rank c.hi) k ≡ t → is_between (rank c.lo) (rank c.hi) k ≡ false
      by_test false h = h
      by_test true h = let (low, high) = between (rank c.lo) (rank c.hi) k h in absurd (no_none (alone k low (omega (arith, high, wide))))

  same_keys : (cs bs : List CellSeen) → AreSetAmong e cs bs → ((c : CellSeen) → Contains cs c → c.level ≡ 0 → rank c.hi ≡ rank c.lo + 4096) → in_blocks bs k ≡ in_blocks (blocks_among cs) k
  same_keys [] bs is wide = ap (λ xs. in_blocks xs k) is
  same_keys (c ∷ cs) bs is wide = elim is [
    | inl taken ↦
        let (rest, bs_is, level, more) = taken in
        let rest_is = same_keys cs rest more (λ d at. wide d (later c d cs at)) in
        ap (λ xs. in_blocks xs k) bs_is
        ∙ ((λ i. is_between (rank c.lo) (rank c.hi) k || rest_is i)
        ∙ ap (λ (t : Bool). in_blocks (cond t (c ∷ blocks_among cs) (blocks_among cs)) k) (sym (eq-eqb c.level 0 level)))
    | inr left ↦
        let rest_is = same_keys cs bs left.1 (λ d at. wide d (later c d cs at)) in
        rest_is ∙ by_level (c.level == 0) refl left.0
  ]
    where
      by_level : (t : Bool) → (c.level == 0) ≡ t → (c.level ≡ 0 → IsLeftAlone e c) → in_blocks (blocks_among cs) k ≡ in_blocks (blocks_among (c ∷ cs)) k
      by_level false off alone = ap (λ (t : Bool). in_blocks (cond t (c ∷ blocks_among cs) (blocks_among cs)) k) (sym off)
      by_level true on alone =
          let level = eqb-true c.level 0 on in
          ap (λ (t : Bool). t || in_blocks (blocks_among cs) k) (sym (outside c (alone level) (wide c (here c cs) level)))
          ∙ ap (λ (t : Bool). in_blocks (cond t (c ∷ blocks_among cs) (blocks_among cs)) k) (sym on)

pub same_set : (e : Edits) (cs bs : List CellSeen) → AreSetAmong e cs bs → ((c : CellSeen) → Contains cs c → c.level ≡ 0 → rank c.hi ≡ rank c.lo + 4096) → (k : ℕ) → is_set_in e bs k ≡ is_set_in e (blocks_among cs) k
same_set e cs bs is wide k = by_set (is_some (byte_set e k)) refl
  where
    no_set : (a : Bool) → (a && false) ≡ false
    no_set true = refl
    no_set false = refl

    by_set : (t : Bool) → is_some (byte_set e k) ≡ t → is_set_in e bs k ≡ is_set_in e (blocks_among cs) k
    by_set true set = ap (λ (t : Bool). t && is_some (byte_set e k)) (same_keys e k set cs bs is wide)
    by_set false off =
        (λ i. in_blocks bs k && off i) ∙ (no_set (in_blocks bs k) ∙ (sym (no_set (in_blocks (blocks_among cs) k)) ∙ (λ i. in_blocks (blocks_among cs) k && sym off i)))

pub picked_stand : (t : Store Value) (r : Root) (f : Fresh) (w : WorkingSet) (e : Edits) (cs bs : List CellSeen) → AreSetAmong e cs bs → AreStandingCells t r f w cs → AreStandingBlocks t r f w bs
picked_stand t r f w e cs bs among is = record {
  working = is.working;
  numbers = is.numbers;
  each = λ c at. let h = of_cells e cs bs among c at in is.each c h.0 h.1;
  names = have_names bs (distinct_picked e cs bs among (distinct cs is.names));
}

-- ---- as the calls tell them

module _ (t : Store Value) (r : Root) (f : Fresh) (w : WorkingSet) (e : Edits) (cs bs those : List CellSeen) (those_are : those ≡ bs) (among : AreSetAmong e cs bs) (is : AreStandingCells t r f w cs) where
  pub picked_stand_as : AreStandingBlocks t r f w those
  picked_stand_as = subst (AreStandingBlocks t r f w) (sym those_are) (picked_stand t r f w e cs bs among is)

  pub picked_does : (now : WorkingSet) (to : ℕ → Option (Placed Value)) → Changes w now (is_set_in e those) to → Changes w now (is_set_in e (blocks_among cs)) to
  picked_does now to does a g h =
      let same = same_set e cs bs among (λ c at level. (is.each c at level).wide) in
      let keys : (k : ℕ) → is_set_in e those k ≡ is_set_in e (blocks_among cs) k = λ k. ap (λ xs. is_set_in e xs k) those_are ∙ same k in
      let done = does a g h in
      record {
        held = λ k on. done.held k (either_from (a k) (keys k) on);
        there = λ k u on. let p = done.there k u (either_from (a k) (keys k) on) in (
          (λ x. later_to (keys k) u (to k) (g k) (p.0 x)),
          (λ x. p.1 (later_from (keys k) u (to k) (g k) x)),
        );
        others = λ k u off. done.others k u (either_off (a k) (keys k) off);
      }
    where
      either_from : (x : Bool) {p q : Bool} → p ≡ q → (x || q) ≡ true → (x || p) ≡ true
      either_from x {p} {q} is_same on = ap (λ (y : Bool). x || y) is_same ∙ on

      either_off : (x : Bool) {p q : Bool} → p ≡ q → (x || q) ≡ false → (x || p) ≡ false
      either_off x {p} {q} is_same off = ap (λ (y : Bool). x || y) is_same ∙ off

      later_to : {p q : Bool} → p ≡ q → (u : Placed Value) (x y : Option (Placed Value)) → (if p then x else y) ≡ Some u → (if q then x else y) ≡ Some u
      later_to {p} {q} is_same u x y h = ap (λ (z : Bool). if z then x else y) (sym is_same) ∙ h

      later_from : {p q : Bool} → p ≡ q → (u : Placed Value) (x y : Option (Placed Value)) → (if q then x else y) ≡ Some u → (if p then x else y) ≡ Some u
      later_from {p} {q} is_same u x y h = ap (λ (z : Bool). if z then x else y) is_same ∙ h

-- those among some cells behind those of the one before them
pub picked_more : (e : Edits) (c : CellSeen) (cs one more : List CellSeen) → AreSetAmong e (c ∷ []) one → AreSetAmong e cs more → AreSetAmong e (c ∷ cs) (one ++ more)
picked_more e c cs one more is rest = elim is [
  | inl taken ↦ let (nil, one_is, level, nil_is) = taken in inl (more, ap (λ xs. xs ++ more) (one_is ∙ ap (λ xs. c ∷ xs) nil_is), level, rest)
  | inr left ↦ inr (left.0, subst (AreSetAmong e cs) (ap (λ xs. xs ++ more) (sym left.1)) rest)
]
