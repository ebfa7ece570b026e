-- What the steps of a walk have in common: none takes a fault away.
use Rattle.std.proofs.Common.{◌≡◌, ℕ, zero, suc, ◌+◌, ◌-◌, ◌*◌, ◌≤◌, Bool, true, false, List, [], ◌∷◌, ◌++◌, refl, sym, ap, subst, ◌∙◌, arith}
use Rattle.std.specs.Prelude.{Option, Some, None, fold, if◌then◌else◌}
use Rattle.std.specs.Option.{is_none}
use Rattle.std.proofs.lemmas.List.Sums.{fold-append}
use Rattle.r4_base.specs.Bitmap.{is_marked}
use Rattle.r4_base.specs.Cell.{cell_of, run_names}
use Rattle.r4_base.specs.Image.{Image}
use Rattle.r4_base.specs.Tree.{Name, Node}
use Rattle.r4_base.specs.Value.{Value}
use Rattle.r4_base.specs.declared.items.CellFault.{CellFault}
use Rattle.r4_check.specs.Walk.{Walk, cell_at, is_reached, look, look_at, meet, met_again, met_first, names_below, refusal_at, wrong_with, faults_at}
use Rattle.r4_check_objects.specs.Faults.{fault_at}
use Rattle.r4_check_objects.specs.declared.fault.What.TheVariants.{Twice}
use Rattle.r4_check.proofs.Steps.{Extends, extends_both, extends_same, steps_as, steps_then}
use Rattle.r4_outside.specs.Sink.{SinkState}
use Rattle.r4_check.specs.Looking.{Steps}
use Rattle.r4_check.specs.declared.stop.Stop.{Stop}
use Rattle.r4_check.specs.declared.tally.Tally.{Tally}
use Rattle.std.specs.Prelude.{Result, Ok}

first_extends : (b : ℕ) (marked : Bool) (f : Option CellFault) (c : Node Value) (w : Walk) → Extends w (met_first b marked f c w)
first_extends b marked None c w = record { more = faults_at b (wrong_with marked None); is = refl }
first_extends b marked (Some f) c w = record { more = faults_at b (wrong_with marked (Some f)); is = refl }

met_extends : (again : Bool) (b : ℕ) (marked : Bool) (f : Option CellFault) (c : Node Value) (w : Walk) → Extends w (if again then met_again b w else met_first b marked f c w)
met_extends true b marked f c w = record { more = fault_at b Twice ∷ []; is = refl }
met_extends false b marked f c w = first_extends b marked f c w

pub meet_extends : (blocks : ℕ) (image : Image) (w : Walk) (n : Name) → Extends w (meet blocks image w n)
unfolding meet
meet_extends blocks image w n = met_extends (is_reached w n.id) n.id (is_marked image n.id) (refusal_at blocks image n) (cell_at image n) w

fold_extends : (f : Walk → Name → Walk) → ((w : Walk) (n : Name) → Extends w (f w n)) → (names : List Name) (w : Walk) → Extends w (fold f w names)
fold_extends f more [] w = extends_same w
fold_extends f more (n ∷ names) w = extends_both w (f w n) (fold f (f w n) names) (more w n) (fold_extends f more names (f w n))

pub look_extends : (levels blocks : ℕ) (image : Image) (w : Walk) (n : Name) → Extends w (look levels blocks image w n)
unfolding look
look_extends zero blocks image w n = meet_extends blocks image w n
look_extends (suc levels) blocks image w n =
    extends_both w (meet blocks image w n) _ (meet_extends blocks image w n)
    (fold_extends (look levels blocks image) (λ v m. look_extends levels blocks image v m) (names_below blocks image w n) (meet blocks image w n))

pub look_at_extends : (levels blocks : ℕ) (image : Image) (names : List Name) (w : Walk) → Extends w (look_at levels blocks image w names)
look_at_extends levels blocks image names w = fold_extends (look levels blocks image) (λ v m. look_extends levels blocks image v m) names w

-- one after the other
pub look_at_both : (levels blocks : ℕ) (image : Image) (w : Walk) (a b : List Name) → look_at levels blocks image w (a ++ b) ≡ look_at levels blocks image (look_at levels blocks image w a) b
look_at_both levels blocks image w a b = fold-append (look levels blocks image) w a b

-- ---- data blocks

no_names : (level lo hi : ℕ) (b : List ℕ) → level ≡ 0 → (cell_of level lo hi b).names ≡ []
unfolding cell_of
no_names zero lo hi b is = refl
no_names (suc l) lo hi b is = absurd (omega (arith, is))

none_either : (again sound : Bool) (names : List Name) → names ≡ [] → (if again then [] else if sound then names else []) ≡ []
none_either true sound names is = refl
none_either false true names is = is
none_either false false names is = refl

none_below : (blocks : ℕ) (image : Image) (w : Walk) (n : Name) → n.level ≡ 0 → names_below blocks image w n ≡ []
unfolding names_below
none_below blocks image w n is = none_either (is_reached w n.id) (is_none (refusal_at blocks image n)) (cell_at image n).names (no_names n.level n.lo n.hi _ is)

pub look_data : (levels blocks : ℕ) (image : Image) (w : Walk) (n : Name) → n.level ≡ 0 → look levels blocks image w n ≡ meet blocks image w n
unfolding look
look_data zero blocks image w n is = refl
look_data (suc levels) blocks image w n is = ap (λ (names : List Name). fold (look levels blocks image) (meet blocks image w n) names) (none_below blocks image w n is)

-- a run, block by block
pub run_more : (key start i : ℕ) → run_names key start (suc i) ≡ run_names key start i ++ record { id = start + i; level = 0; lo = key + 4096 * i; hi = key + 4096 * i + 4096 } ∷ []
run_more key start zero =
    let a : start ≡ start + 0 = omega arith in
    let b : key ≡ key + 4096 * 0 = omega arith in
    ap (λ (s : ℕ). record { id = s; level = 0; lo = key; hi = key + 4096 } ∷ []) a ∙ ap (λ (k : ℕ). record { id = start + 0; level = 0; lo = k; hi = k + 4096 } ∷ []) b
run_more key start (suc i) =
    let a : start + 1 + i ≡ start + suc i = omega arith in
    let b : key + 4096 + 4096 * i ≡ key + 4096 * suc i = omega arith in
    let last : ℕ → ℕ → List Name = λ s k. record { id = s; level = 0; lo = k; hi = k + 4096 } ∷ [] in
    ap (λ (l : List Name). record { id = start; level = 0; lo = key; hi = key + 4096 } ∷ l)
    (run_more (key + 4096) (start + 1) i ∙ ap (λ (s : ℕ). run_names (key + 4096) (start + 1) i ++ last s (key + 4096 + 4096 * i)) a ∙ ap (λ (k : ℕ). run_names (key + 4096) (start + 1) i ++ last (start + suc i) k) b)

abbrev pub block_name : (key start i : ℕ) → Name
block_name key start i = record { id = start + i; level = 0; lo = key + 4096 * i; hi = key + 4096 * i + 4096 }

pub run_step : (levels blocks : ℕ) (image : Image) (key start i : ℕ) (w : Walk) → meet blocks image (look_at levels blocks image w (run_names key start i)) (block_name key start i) ≡ look_at levels blocks image w (run_names key start (i + 1))
run_step levels blocks image key start i w =
    let next : suc i ≡ i + 1 = omega arith in
    sym (look_data levels blocks image (look_at levels blocks image w (run_names key start i)) (block_name key start i) refl)
    ∙ sym (look_at_both levels blocks image w (run_names key start i) (block_name key start i ∷ []))
    ∙ ap (look_at levels blocks image w) (sym (run_more key start i))
    ∙ ap (λ (n : ℕ). look_at levels blocks image w (run_names key start n)) next

-- the rest of a list of names takes no fault away
pub rest_extends : (levels blocks : ℕ) (image : Image) (w : Walk) (names a b : List Name) → names ≡ a ++ b → Extends (look_at levels blocks image w a) (look_at levels blocks image w names)
rest_extends levels blocks image w names a b is =
    let e = ap (look_at levels blocks image w) is ∙ look_at_both levels blocks image w a b in
    subst (λ (v : Walk). Extends (look_at levels blocks image w a) v) (sym e) (look_at_extends levels blocks image b (look_at levels blocks image w a))

pub run_part : (key start width i : ℕ) → i ≤ width → (rest : List Name) × (run_names key start width ≡ run_names key start i ++ rest)
run_part key start width zero le = (run_names key start width, refl)
run_part key start zero (suc i) le = absurd (omega (arith, le))
run_part key start (suc n) (suc i) le =
    let (rest, is) = run_part (key + 4096) (start + 1) n i (omega (arith, le)) in
    (rest, ap (λ (l : List Name). record { id = start; level = 0; lo = key; hi = key + 4096 } ∷ l) is)

-- ---- a block more of a run

module _ {T : Type 0} (levels blocks : ℕ) (image : Image) (key start i : ℕ) (k l m : SinkState) (t u v : Tally) (r : Result T Stop) where
  pub run_on : Steps {T = Unit {0}} blocks k t (Ok tt) l u (λ w. look_at levels blocks image w (run_names key start i)) → Steps blocks l u r m v (λ w. meet blocks image w (block_name key start i)) → Steps blocks k t r m v (λ w. look_at levels blocks image w (run_names key start (i + 1)))
  run_on a b = steps_as blocks k m t v r _ (λ w. look_at levels blocks image w (run_names key start (i + 1))) (λ w h. run_step levels blocks image key start i w) (steps_then blocks k l m t u v (tt {0}) r (λ w. look_at levels blocks image w (run_names key start i)) (λ w. meet blocks image w (block_name key start i)) a b)

-- ---- a name, and what is below it

pub look_after : (levels blocks : ℕ) (image : Image) (w : Walk) (n : Name) → Extends (meet blocks image w n) (look levels blocks image w n)
unfolding look
look_after zero blocks image w n = extends_same (meet blocks image w n)
look_after (suc levels) blocks image w n = look_at_extends levels blocks image (names_below blocks image w n) (meet blocks image w n)

pub look_none : (levels blocks : ℕ) (image : Image) (w : Walk) (n : Name) → [] ≡ names_below blocks image w n → meet blocks image w n ≡ look levels blocks image w n
unfolding look
look_none zero blocks image w n is = refl
look_none (suc levels) blocks image w n is = ap (look_at levels blocks image (meet blocks image w n)) is

pub look_some : (levels m blocks : ℕ) (image : Image) (w : Walk) (n : Name) (names : List Name) → 1 ≤ levels → levels ≡ m → names ≡ names_below blocks image w n → look_at (m - 1) blocks image (meet blocks image w n) names ≡ look levels blocks image w n
unfolding look
look_some zero m blocks image w n names some is same = absurd (omega (arith, some))
look_some (suc l) m blocks image w n names some is same =
    let e : m - 1 ≡ l = omega (arith, is) in
    ap (λ (k : ℕ). look_at k blocks image (meet blocks image w n) names) e ∙ ap (look_at l blocks image (meet blocks image w n)) same
