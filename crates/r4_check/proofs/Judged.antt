-- Faults told of objects.
use Rattle.std.proofs.Common.{◌≡◌, ◌==◌, ℕ, zero, suc, Bool, true, false, cond, ◌+◌, ◌<◌, List, [], ◌∷◌, ◌++◌, length, take, drop, get_or, Option, Some, None, refl, sym, ap, ◌∙◌, append_assoc, arith}
use Rattle.std.specs.Prelude.{Result, Ok, Err, unwrap_or}
use Rattle.std.proofs.lemmas.List.{append-nil, take-append-drop, take_more}
use Rattle.r4_base.specs.declared.superblock.Super40.{Super40}
use Rattle.r4_outside.specs.Sink.{SinkState}
use Rattle.r4_check.specs.Looking.{IsObjectsCause, IsTally, IsTellCause, Steps}
use Rattle.r4_check.specs.Walk.{Walk, found_in, judged, leaf_at, leaf_in, objects_wrong, with_fault, with_faults}
use Rattle.r4_base.specs.Cell.{cell_of}
use Rattle.std.proofs.lemmas.Bool.{eq-eqb}
use Rattle.std.proofs.lemmas.Bool.Decides.{nat_tests}
use Rattle.r4_check.specs.declared.stop.Stop.{Stop}
use Rattle.r4_check.specs.declared.stop.Stop.TheVariants.{Device, Sink, Memory}
use Rattle.r4_check.specs.declared.tally.Tally.{Tally}
use Rattle.r4_check.proofs.Steps.{Extends, steps_as, steps_then, steps_same}
use Rattle.r4_check_objects.specs.Faults.{fault_at}
use Rattle.r4_check_objects.specs.Objects.{object_faults}
use Rattle.r4_check_objects.specs.declared.fault.Fault.{Fault}
use Rattle.r4_check_objects.specs.declared.held.Held.{Held}

pub judged_extends : (s : Super40) (w : Walk) → Extends w (judged s w)
judged_extends s w = record { more = objects_wrong s w; is = refl }

abbrev set_faults : Walk → List Fault → Walk
set_faults w fs = record w { faults = fs }

-- no fault more, and one more
none_told : (w : Walk) → w ≡ with_faults [] w
none_told w = ap (set_faults w) (sym (append-nil w.faults))

pub told_none : {T : Type 0} (blocks : ℕ) (k : SinkState) (t : Tally) (x : T) → Steps blocks k t (Ok x) k t (with_faults [])
told_none {T} blocks k t x = steps_as blocks k k t t (Ok x) (λ w. w) (with_faults []) (λ w h. none_told w) (steps_same blocks k t x)

one_more : (w : Walk) (before : List Fault) (f : Fault) → with_fault f.block.0 (Some f.what) (with_faults before w) ≡ with_faults (before ++ f ∷ []) w
one_more w before f = ap (set_faults w) (append_assoc w.faults before (f ∷ []))

told_step : (fs : List Fault) (i : ℕ) (d : Fault) (w : Walk) → i < length fs → with_fault (get_or fs i d).block.0 (Some (get_or fs i d).what) (with_faults (take i fs) w) ≡ with_faults (take (i + 1) fs) w
told_step fs i d w lt = one_more w (take i fs) (get_or fs i d) ∙ ap (λ (l : List Fault). with_faults l w) (sym (take_more fs i d lt))

pub told_more : {S T : Type 0} (blocks : ℕ) (k l m : SinkState) (t u v : Tally) (x : S) (r : Result T Stop) (fs : List Fault) (i : ℕ) (d : Fault) → i < length fs → Steps blocks k t (Ok x) l u (with_faults (take i fs))
    → Steps blocks l u r m v (with_fault (get_or fs i d).block.0 (Some (get_or fs i d).what)) → Steps blocks k t r m v (with_faults (take (i + 1) fs))
told_more {S} {T} blocks k l m t u v x r fs i d lt a b =
    steps_as blocks k m t v r (λ w. with_fault (get_or fs i d).block.0 (Some (get_or fs i d).what) (with_faults (take i fs) w)) (with_faults (take (i + 1) fs)) (λ w h. told_step fs i d w lt)
    (steps_then blocks k l m t u v x r (with_faults (take i fs)) (with_fault (get_or fs i d).block.0 (Some (get_or fs i d).what)) a b)

-- the faults of a part are the first of all
pub part_extends : (fs : List Fault) (n : ℕ) (w : Walk) → Extends (with_faults (take n fs) w) (with_faults fs w)
part_extends fs n w = record { more = drop n fs; is = ap (λ (l : List Fault). w.faults ++ l) (sym (take-append-drop n fs)) ∙ sym (append_assoc w.faults (take n fs) (drop n fs)) }

-- ---- the faults of objects

not_whole : (s : Super40) (w : Walk) (b : Bool) → w.whole ≡ b → b ≡ false → w ≡ judged s w
not_whole s w b is no_tree = none_told w ∙ ap (λ (t : Bool). with_faults (cond t (object_faults s (unwrap_or (leaf_in w.cells) s.root_block) (found_in w.cells)) []) w) (sym (is ∙ no_tree))

pub judged_none : {T : Type 0} (blocks : ℕ) (s : Super40) (k : SinkState) (t : Tally) (x : T) → t.whole ≡ false → Steps blocks k t (Ok x) k t (judged s)
judged_none {T} blocks s k t x is = steps_as blocks k k t t (Ok x) (λ w. w) (judged s) (λ w h. not_whole s w t.whole (sym h.whole) is) (steps_same blocks k t x)

whole_is : (s : Super40) (w : Walk) (fs : List Fault) (leaf : ℕ) (found : List Held) → w.whole ≡ true → leaf ≡ unwrap_or (leaf_in w.cells) s.root_block → found ≡ found_in w.cells → fs ≡ object_faults s leaf found → with_faults fs w ≡ judged s w
whole_is s w fs leaf found whole at held is =
    ap (λ (l : List Fault). with_faults l w) (is ∙ ap (λ (n : ℕ). object_faults s n found) at ∙ ap (object_faults s (unwrap_or (leaf_in w.cells) s.root_block)) held)
    ∙ ap (λ (t : Bool). with_faults (cond t (object_faults s (unwrap_or (leaf_in w.cells) s.root_block) (found_in w.cells)) []) w) (sym whole)

pub judged_all : {T : Type 0} (blocks : ℕ) (s : Super40) (k l : SinkState) (t u : Tally) (r : Result T Stop) (fs : List Fault) (leaf : ℕ) → t.whole ≡ true → leaf ≡ unwrap_or t.gathered.leaf s.root_block → fs ≡ object_faults s leaf t.gathered.found.items
    → Steps blocks k t r l u (with_faults fs) → Steps blocks k t r l u (judged s)
judged_all {T} blocks s k l t u r fs leaf whole at is a = steps_as blocks k l t u r (with_faults fs) (judged s)
    (λ w h. whole_is s w fs leaf t.gathered.found.items (sym h.whole ∙ whole) (at ∙ ap (λ (o : Option ℕ). unwrap_or o s.root_block) h.gathered.leaf) h.gathered.found is) a

-- ---- leaves

pub leaf_yes : (b level lo hi : ℕ) (block : List ℕ) → level ≡ 1 → Some b ≡ leaf_at b (cell_of level lo hi block)
unfolding cell_of
leaf_yes b zero lo hi block is = absurd (omega (arith, is))
leaf_yes b (suc l) lo hi block is = ap (λ (t : Bool). cond t (Some b) None) (sym (eq-eqb (suc l) 1 is))

pub leaf_no : (b level lo hi : ℕ) (block : List ℕ) → (level ≡ 1 → ⊥) → None ≡ leaf_at b (cell_of level lo hi block)
unfolding cell_of
leaf_no b zero lo hi block other = refl
leaf_no b (suc l) lo hi block other = let high : (suc l == 1) ≡ false = grind (arith, nat_tests) in ap (λ (t : Bool). cond t (Some b) None) (sym high)

pub objects_stop : (k l : SinkState) (e : Stop) → IsTellCause k e l → IsObjectsCause k e l
objects_stop k l Device c = c
objects_stop k l Sink c = c
objects_stop k l Memory c = tt
