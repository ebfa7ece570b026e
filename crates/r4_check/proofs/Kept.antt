-- What every walk keeps, and small walks.
use Rattle.std.proofs.Common.{◌≡◌, ◌≢◌, ◌⊎◌, inl, inr, ℕ, zero, suc, Bool, true, false, List, [], ◌∷◌, ◌++◌, refl, sym, ap, subst, ◌∙◌, arith}
use Rattle.std.specs.Prelude.{Option, Some, None, Contains, fold, ◌==◌, ◌||◌}
use Rattle.std.proofs.lemmas.Bool.{eq-eqb}
use Rattle.std.proofs.lemmas.List.{append-nil}
use Rattle.std.proofs.lemmas.Bool.Decides.{nat_tests}
use Rattle.r4_base.proofs.Members.{member_cases, no_member}
use Rattle.r4_base.specs.Bitmap.{is_marked}
use Rattle.r4_base.specs.Cell.{IsCellOf, cell_fault, cell_of}
use Rattle.r4_base.specs.Image.{AreDifferent, Image, block_at}
use Rattle.r4_base.specs.Tree.{Name, Node}
use Rattle.r4_base.specs.Value.{Value}
use Rattle.r4_base.specs.declared.items.CellFault.{CellFault}
use Rattle.r4_check_objects.specs.Faults.{fault_at}
use Rattle.r4_check.specs.Rows.{IsAccepted, IsFirstNamed, IsSmall}
use Rattle.r4_check.specs.Walk.{Walk, cell_at, faults_at, is_among, is_reached, look, meet, met_again, names_below, nothing_met, refusal_at, with_cell, with_fault, with_gap, with_reached, wrong_with}
use Rattle.r4_check_objects.specs.declared.fault.Fault.{Fault}
use Rattle.r4_check_objects.specs.declared.fault.What.TheVariants.{Cell, Twice, Unmarked}
use Rattle.r4_check.proofs.Walks.{look_none}
use Rattle.r4_check.proofs.Meets.{below_accepted, below_again, below_refused, meet_accepted, meet_again, meet_refused}

-- ---- what a name does to a walk, by cases

module _ (Q : Walk → Type 0) (blocks : ℕ) (image : Image) (w : Walk) (n : Name) where
  pub meet_by : (is_reached w n.id ≡ true → Q (met_again n.id w))
      → (is_reached w n.id ≡ false → refusal_at blocks image n ≡ None → Q (with_fault n.id (wrong_with (is_marked image n.id) None) (with_cell n.id (cell_at image n) (with_reached n.id w))))
      → ((f : CellFault) → is_reached w n.id ≡ false → refusal_at blocks image n ≡ Some f → Q (with_fault n.id (wrong_with (is_marked image n.id) (Some f)) (with_gap (with_reached n.id w))))
      → Q (meet blocks image w n)
  meet_by again accepted refused = by (is_reached w n.id) (refusal_at blocks image n) refl refl
    where
      by : (r : Bool) (o : Option CellFault) → is_reached w n.id ≡ r → refusal_at blocks image n ≡ o → Q (meet blocks image w n)
      by true o e f = subst Q (meet_again blocks image w n e) (again e)
      by false None e f = subst Q (meet_accepted blocks image w n e f) (accepted e f)
      by false (Some x) e f = subst Q (meet_refused blocks image w n x e f) (refused x e f)

-- what each step keeps at a name of a kind, where what is looked at below such a name is of that kind too
module _ (G : Name → Type 0) (P : Walk → Type 0) (blocks : ℕ) (image : Image) (below : (w : Walk) (n : Name) → G n → (m : Name) → Contains (names_below blocks image w n) m → G m) (step : (w : Walk) (n : Name) → G n → P w → P (meet blocks image w n)) where
  fold_keeps : (f : Walk → Name → Walk) → ((w : Walk) (n : Name) → G n → P w → P (f w n)) → (names : List Name) → ((m : Name) → Contains names m → G m) → (w : Walk) → P w → P (fold f w names)
  fold_keeps f on [] all w h = h
  fold_keeps f on (n ∷ names) all w h = fold_keeps f on names (λ m at. all m (later m at)) (f w n) (on w n (all n (zero, omega arith, refl)) h)
    where
      later : (m : Name) → Contains names m → Contains (n ∷ names) m
      later m (k, lt, e) = (suc k, omega (arith, lt), e)

  pub look_keeps_with : (levels : ℕ) (w : Walk) (n : Name) → G n → P w → P (look levels blocks image w n)
  unfolding look
  look_keeps_with zero w n g h = step w n g h
  look_keeps_with (suc levels) w n g h = fold_keeps (look levels blocks image) (look_keeps_with levels) (names_below blocks image w n) (below w n g) (meet blocks image w n) (step w n g h)

-- the same for names of any kind
pub look_keeps : (P : Walk → Type 0) (blocks : ℕ) (image : Image) → ((w : Walk) (n : Name) → P w → P (meet blocks image w n)) → (levels : ℕ) (w : Walk) (n : Name) → P w → P (look levels blocks image w n)
look_keeps P blocks image step levels w n h = look_keeps_with (λ m. Unit {0}) P blocks image (λ v x g m at. tt) (λ v x g. step v x) levels w n tt h

pub one_of : {X : Type 0} (x : X) (xs : List X) (y : X) → Contains (x ∷ xs) y → (x ≡ y) ⊎ Contains xs y
one_of {X} x xs y (zero, lt, e) = inl e
one_of {X} x xs y (suc j, lt, e) = inr (j, omega (arith, lt), e)

-- ---- cells

abbrev pub Cells : Type 0
Cells = List (ℕ × Node Value)

abbrev pub AreCells : (blocks : ℕ) → Image → Walk → Type 0
AreCells blocks image w = (i : ℕ) (c : Node Value) → Contains w.cells (i, c) → IsCellOf blocks (block_at image i) c

of_cell : (blocks level lo hi : ℕ) (b : List ℕ) → cell_fault false blocks level lo hi b ≡ None → IsCellOf blocks b (cell_of level lo hi b)
unfolding cell_of
of_cell blocks zero lo hi b h = record { sound = h; says = refl }
of_cell blocks (suc l) lo hi b h = record { sound = h; says = refl }

pub cells_kept : (blocks : ℕ) (image : Image) (w : Walk) (n : Name) → AreCells blocks image w → AreCells blocks image (meet blocks image w n)
cells_kept blocks image w n h = meet_by (AreCells blocks image) blocks image w n (λ again. h) (λ first sound. accepted sound) (λ f first bad. h)
  where
    accepted : refusal_at blocks image n ≡ None → (i : ℕ) (c : Node Value) → Contains ((n.id, cell_at image n) ∷ w.cells) (i, c) → IsCellOf blocks (block_at image i) c
    accepted sound i c at = elim (one_of (n.id, cell_at image n) w.cells (i, c) at) [
      | inl e ↦ let Q : ℕ × Node Value → Type 0 = λ p. IsCellOf blocks (block_at image p.0) p.1 in subst Q e (of_cell blocks n.level n.lo n.hi (block_at image n.id) sound)
      | inr later ↦ h i c later
    ]

-- ---- each block once

among : (xs : List ℕ) (b : ℕ) → Contains xs b → is_among b xs ≡ true
among [] b h = absurd (no_member b h)
among (x ∷ xs) b h = elim (member_cases x xs b h) [
  | inl e ↦ ap (λ (t : Bool). t || is_among b xs) (eq-eqb x b (sym e))
  | inr later ↦ either (x == b) (is_among b xs) (among xs b later)
]
  where
    either : (s t : Bool) → t ≡ true → (s || t) ≡ true
    either true t is = refl
    either false t is = is

abbrev pub AreOnce : Walk → Type 0
AreOnce w = AreDifferent w.reached

pub once_kept : (blocks : ℕ) (image : Image) (w : Walk) (n : Name) → AreOnce w → AreOnce (meet blocks image w n)
once_kept blocks image w n h = meet_by AreOnce blocks image w n (λ again. h) (λ first sound. (other first, h)) (λ f first bad. (other first, h))
  where
    other : is_reached w n.id ≡ false → Contains w.reached n.id → ⊥
    other first at = let t = among w.reached n.id at in cc

-- ---- marks

no_push : (xs ys : List Fault) (f : Fault) → ys ≡ f ∷ [] → xs ++ ys ≡ [] → ⊥
no_push [] ys f e h = cc
no_push (x ∷ xs) ys f e h = cc

abbrev pub AreMarked : Image → Walk → Type 0
AreMarked image w = w.faults ≡ [] → (i : ℕ) (c : Node Value) → Contains w.cells (i, c) → is_marked image i ≡ true

pub marked_kept : (blocks : ℕ) (image : Image) (w : Walk) (n : Name) → AreMarked image w → AreMarked image (meet blocks image w n)
marked_kept blocks image w n h = meet_by (AreMarked image) blocks image w n
    (λ again none. absurd (no_push w.faults _ (fault_at n.id Twice) refl none))
    (λ first sound. accepted (is_marked image n.id) refl)
    (λ f first bad. refused f (is_marked image n.id))
  where
    accepted : (m : Bool) → is_marked image n.id ≡ m → w.faults ++ faults_at n.id (wrong_with m None) ≡ [] → (i : ℕ) (c : Node Value) → Contains ((n.id, cell_at image n) ∷ w.cells) (i, c) → is_marked image i ≡ true
    accepted false is none i c at = absurd (no_push w.faults _ (fault_at n.id Unmarked) refl none)
    accepted true is none i c at = elim (one_of (n.id, cell_at image n) w.cells (i, c) at) [
      | inl e ↦ let Q : ℕ × Node Value → Type 0 = λ p. is_marked image p.0 ≡ true in subst Q e is
      | inr later ↦ h (sym (append-nil w.faults) ∙ none) i c later
    ]

    refused : (f : CellFault) (m : Bool) → w.faults ++ faults_at n.id (wrong_with m (Some f)) ≡ [] → (i : ℕ) (c : Node Value) → Contains w.cells (i, c) → is_marked image i ≡ true
    refused f false none i c at = absurd (no_push w.faults _ (fault_at n.id Unmarked) refl none)
    refused f true none i c at = absurd (no_push w.faults _ (fault_at n.id (Cell f)) refl none)

-- ---- without a fault

abbrev pub IsSoundWhole : Walk → Type 0
IsSoundWhole w = w.faults ≡ [] → w.whole ≡ true

pub sound_kept : (blocks : ℕ) (image : Image) (w : Walk) (n : Name) → IsSoundWhole w → IsSoundWhole (meet blocks image w n)
sound_kept blocks image w n h = meet_by IsSoundWhole blocks image w n
    (λ again none. absurd (no_push w.faults _ (fault_at n.id Twice) refl none))
    (λ first sound none. h (nothing_left w.faults _ none))
    (λ f first bad. refused f (is_marked image n.id))
  where
    nothing_left : (xs ys : List Fault) → xs ++ ys ≡ [] → xs ≡ []
    nothing_left [] ys e = refl
    nothing_left (x ∷ xs) ys e = absurd cc

    refused : (f : CellFault) (m : Bool) → w.faults ++ faults_at n.id (wrong_with m (Some f)) ≡ [] → false ≡ true
    refused f false none = absurd (no_push w.faults _ (fault_at n.id Unmarked) refl none)
    refused f true none = absurd (no_push w.faults _ (fault_at n.id (Cell f)) refl none)

-- ---- small walks

abbrev pub after_root : Image → Name → Walk
after_root image root = with_fault root.id None (with_cell root.id (cell_at image root) (with_reached root.id nothing_met))

root_met : (blocks : ℕ) (image : Image) (root child : Name) → IsFirstNamed blocks image root child → meet blocks image nothing_met root ≡ after_root image root
root_met blocks image root child h =
    sym (meet_accepted blocks image nothing_met root refl h.sound)
    ∙ ap (λ (m : Bool). with_fault root.id (wrong_with m None) (with_cell root.id (cell_at image root) (with_reached root.id nothing_met))) h.marked

root_names : (blocks : ℕ) (image : Image) (root child : Name) → IsFirstNamed blocks image root child → names_below blocks image nothing_met root ≡ child ∷ []
root_names blocks image root child h = sym (below_accepted blocks image nothing_met root refl h.sound) ∙ h.names

two_levels : (blocks : ℕ) (image : Image) (root child : Name) → IsFirstNamed blocks image root child → look 2 blocks image nothing_met root ≡ look 1 blocks image (after_root image root) child
unfolding look
two_levels blocks image root child h =
    ap (λ (v : Walk). fold (look 1 blocks image) v (names_below blocks image nothing_met root)) (root_met blocks image root child h)
    ∙ ap (fold (look 1 blocks image) (after_root image root)) (root_names blocks image root child h)

apart : (image : Image) (root leaf : Name) → leaf.id ≢ root.id → is_reached (after_root image root) leaf.id ≡ false
apart image root leaf other = let t : (root.id == leaf.id) ≡ false = grind (arith, nat_tests) in ap (λ (x : Bool). x || false) t

leaf_faults : (blocks : ℕ) (image : Image) (root leaf : Name) (m : Bool) → IsSmall blocks image root leaf → IsAccepted blocks image leaf → is_marked image leaf.id ≡ m → (look 2 blocks image nothing_met root).faults ≡ faults_at leaf.id (wrong_with m None)
leaf_faults blocks image root leaf m h leaf_is marked =
    let first = apart image root leaf h.other in
    let none = sym leaf_is.names ∙ below_accepted blocks image (after_root image root) leaf first leaf_is.sound in
    ap (λ (w : Walk). w.faults) (two_levels blocks image root leaf h.named ∙ sym (look_none 1 blocks image (after_root image root) leaf none) ∙ sym (meet_accepted blocks image (after_root image root) leaf first leaf_is.sound))
    ∙ ap (λ (x : Bool). faults_at leaf.id (wrong_with x None)) marked

pub sound_tree : (blocks : ℕ) (image : Image) (root leaf : Name) → IsSmall blocks image root leaf → IsAccepted blocks image leaf → is_marked image leaf.id ≡ true → (look 2 blocks image nothing_met root).faults ≡ []
sound_tree blocks image root leaf h leaf_is marked = leaf_faults blocks image root leaf true h leaf_is marked

pub unmarked_leaf : (blocks : ℕ) (image : Image) (root leaf : Name) → IsSmall blocks image root leaf → IsAccepted blocks image leaf → is_marked image leaf.id ≡ false → (look 2 blocks image nothing_met root).faults ≡ fault_at leaf.id Unmarked ∷ []
unmarked_leaf blocks image root leaf h leaf_is marked = leaf_faults blocks image root leaf false h leaf_is marked

pub itself_named : (blocks : ℕ) (image : Image) (root child : Name) → IsFirstNamed blocks image root child → child.id ≡ root.id → (look 2 blocks image nothing_met root).faults ≡ fault_at root.id Twice ∷ []
itself_named blocks image root child h same =
    let again : is_reached (after_root image root) child.id ≡ true = ap (λ (x : Bool). x || false) (eq-eqb root.id child.id (sym same)) in
    ap (λ (w : Walk). w.faults) (two_levels blocks image root child h ∙ sym (look_none 1 blocks image (after_root image root) child (below_again blocks image (after_root image root) child again)) ∙ sym (meet_again blocks image (after_root image root) child again))
    ∙ ap (λ (b : ℕ). fault_at b Twice ∷ []) same

pub refused_root : (levels blocks : ℕ) (image : Image) (root : Name) (f : CellFault) → is_marked image root.id ≡ true → refusal_at blocks image root ≡ Some f → (look levels blocks image nothing_met root).faults ≡ fault_at root.id (Cell f) ∷ []
refused_root levels blocks image root f marked bad =
    ap (λ (w : Walk). w.faults) (sym (look_none levels blocks image nothing_met root (below_refused blocks image nothing_met root f bad)) ∙ sym (meet_refused blocks image nothing_met root f refl bad))
    ∙ ap (λ (m : Bool). faults_at root.id (wrong_with m (Some f))) marked

pub no_cell : (i : ℕ) (c : Node Value) → Contains nothing_met.cells (i, c) → ⊥
no_cell i c (k, lt, e) = omega (arith, lt)
