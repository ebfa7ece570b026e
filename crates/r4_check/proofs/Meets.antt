-- What becomes of a walk at one name: its block was reached before, or it is accepted, or refused.
use Rattle.std.proofs.Common.{◌≡◌, ℕ, zero, suc, ◌+◌, ◌/◌, ◌%◌, ◌<◌, Bool, true, false, List, [], ◌++◌, refl, sym, ap, subst, ◌∙◌, arith}
use Rattle.std.specs.Prelude.{Option, Some, None, Result, not, if◌then◌else◌}
use Rattle.std.specs.Option.{is_none, option_or}
use Rattle.std.proofs.lemmas.List.{append-nil}
use Rattle.r4_base.specs.Bitmap.{is_marked, is_used}
use Rattle.r4_base.specs.Cell.{cell_fault, cell_of}
use Rattle.r4_base.specs.Image.{Image}
use Rattle.r4_base.specs.Tree.{Name}
use Rattle.r4_base.specs.declared.items.CellFault.{CellFault}
use Rattle.r4_outside.specs.Sink.{SinkState}
use Rattle.r4_space.specs.Bitmaps.{AreBitmapsOf, marks}
use Rattle.r4_check.specs.Blocks.{MarksOneMore}
use Rattle.std.specs.Arc.{arc_value}
use Rattle.r4_cell.specs.Seen.{node_of}
use Rattle.r4_list.specs.r4_search.Keeping.{Shared}
use Rattle.std.specs.Prelude.{IfSome}
use Rattle.r4_check.specs.declared.reading.Named.{Named}
use Rattle.r4_check.specs.declared.reading.Met.{Met}
use Rattle.r4_check.specs.declared.reading.Met.TheVariants.{Cell, Refused}
use Rattle.r4_check.specs.Looking.{Gathers, IsAccepted, IsReadAs, IsTally, Steps}
use Rattle.r4_check_objects.specs.Held.{counted, held_in}
use Rattle.r4_check_objects.specs.declared.held.Held.{Held}
use Rattle.r4_check.specs.declared.tally.Gathered.{Gathered}
use Rattle.r4_check.specs.Walk.{Walk, cell_at, is_reached, leaf_at, meet, met_again, met_first, names_below, refusal_at, stats_in, with_cell, with_fault, with_gap, with_reached, wrong_with}
use Rattle.r4_check_objects.specs.declared.fault.What.{What}
use Rattle.r4_check.specs.declared.stop.Stop.{Stop}
use Rattle.r4_check.specs.declared.tally.Tally.{Tally}
use Rattle.r4_check.proofs.BlockSets.{within}
use Rattle.r4_check.proofs.Stats.{no_bytes}
use Rattle.r4_check.proofs.Steps.{steps_as, steps_noted, steps_then}
use Rattle.r4_check.proofs.Tallies.{tally_again, tally_cell, tally_reached}

pub is_no : (b : Bool) → true ≡ not b → b ≡ false
is_no true h = absurd cc
is_no false h = refl

pub is_yes : (b : Bool) → false ≡ not b → b ≡ true
is_yes true h = refl
is_yes false h = absurd cc

pub marked_is : (blocks b : ℕ) (image : Image) (bitmaps : List (List ℕ)) → AreBitmapsOf blocks image bitmaps → b < blocks → marks bitmaps b ≡ is_marked image b
marked_is blocks b image bitmaps h lt = ap (λ (l : List ℕ). is_used l (b % 32736)) (h.each (b / 32736) (within blocks b lt))

-- ---- data blocks

pub data_sound : (blocks level lo hi : ℕ) (b : List ℕ) → level ≡ 0 → cell_fault false blocks level lo hi b ≡ None
unfolding cell_fault
data_sound blocks zero lo hi b is = refl
data_sound blocks (suc l) lo hi b is = absurd (omega (arith, is))

data_stats : (level lo hi : ℕ) (b : List ℕ) → level ≡ 0 → stats_in (cell_of level lo hi b) ≡ 0
unfolding cell_of
data_stats zero lo hi b is = no_bytes lo b
data_stats (suc l) lo hi b is = absurd (omega (arith, is))

none_more : (o m s : ℕ) → s ≡ 0 → o ≡ counted m → o ≡ counted (m + s)
none_more o m s none is = omega (arith, none, is)

no_node_held : (b level lo hi : ℕ) (block : List ℕ) → level ≡ 0 → held_in b (cell_of level lo hi block) ≡ []
unfolding cell_of
no_node_held b zero lo hi block is = refl
no_node_held b (suc l) lo hi block is = absurd (omega (arith, is))

no_leaf : (b level lo hi : ℕ) (block : List ℕ) → level ≡ 0 → leaf_at b (cell_of level lo hi block) ≡ None
unfolding cell_of
no_leaf b zero lo hi block is = refl
no_leaf b (suc l) lo hi block is = absurd (omega (arith, is))

or_none : (o : Option ℕ) → o ≡ option_or o None
or_none None = refl
or_none (Some x) = refl

-- a data block has nothing to gather
pub data_gathers : (b level lo hi : ℕ) (block : List ℕ) (g : Gathered) → level ≡ 0 → Gathers b (cell_of level lo hi block) g g
data_gathers b level lo hi block g is = record {
  objects = λ n at. none_more g.objects n (stats_in (cell_of level lo hi block)) (data_stats level lo hi block is) at;
  found = sym (append-nil g.found.items) ∙ ap (λ (l : List Held). g.found.items ++ l) (sym (no_node_held b level lo hi block is));
  leaf = or_none g.leaf ∙ ap (option_or g.leaf) (sym (no_leaf b level lo hi block is));
}

-- ---- one name

again_is : (again : Bool) (v u : Walk) → again ≡ true → (if again then v else u) ≡ v
again_is true v u is = refl
again_is false v u is = absurd cc

first_is : (again : Bool) (v u : Walk) → again ≡ false → (if again then v else u) ≡ u
first_is true v u is = absurd cc
first_is false v u is = refl

pub meet_again : (blocks : ℕ) (image : Image) (w : Walk) (n : Name) → is_reached w n.id ≡ true → met_again n.id w ≡ meet blocks image w n
unfolding meet
meet_again blocks image w n is = sym (again_is (is_reached w n.id) (met_again n.id w) _ is)

meet_first : (blocks : ℕ) (image : Image) (w : Walk) (n : Name) → is_reached w n.id ≡ false → met_first n.id (is_marked image n.id) (refusal_at blocks image n) (cell_at image n) w ≡ meet blocks image w n
unfolding meet
meet_first blocks image w n is = sym (first_is (is_reached w n.id) (met_again n.id w) _ is)

pub meet_accepted : (blocks : ℕ) (image : Image) (w : Walk) (n : Name) → is_reached w n.id ≡ false → refusal_at blocks image n ≡ None → with_fault n.id (wrong_with (is_marked image n.id) None) (with_cell n.id (cell_at image n) (with_reached n.id w)) ≡ meet blocks image w n
meet_accepted blocks image w n is sound = sym (ap (λ (f : Option CellFault). met_first n.id (is_marked image n.id) f (cell_at image n) w) sound) ∙ meet_first blocks image w n is

pub meet_refused : (blocks : ℕ) (image : Image) (w : Walk) (n : Name) (f : CellFault) → is_reached w n.id ≡ false → refusal_at blocks image n ≡ Some f → with_fault n.id (wrong_with (is_marked image n.id) (Some f)) (with_gap (with_reached n.id w)) ≡ meet blocks image w n
meet_refused blocks image w n f is bad = sym (ap (λ (o : Option CellFault). met_first n.id (is_marked image n.id) o (cell_at image n) w) bad) ∙ meet_first blocks image w n is

-- ---- what is below it

below_is : (again sound : Bool) (names : List Name) → again ≡ true → (if again then [] else if sound then names else []) ≡ []
below_is true sound names is = refl
below_is false sound names is = absurd cc

below_else : (again : Bool) (o : Option CellFault) (names : List Name) → again ≡ false → o ≡ None → names ≡ (if again then [] else if is_none o then names else [])
below_else true o names is sound = absurd cc
below_else false None names is sound = refl
below_else false (Some f) names is sound = absurd cc

below_not : (again : Bool) (o : Option CellFault) (names : List Name) (f : CellFault) → o ≡ Some f → [] ≡ (if again then [] else if is_none o then names else [])
below_not true o names f bad = refl
below_not false None names f bad = absurd cc
below_not false (Some e) names f bad = refl

pub below_again : (blocks : ℕ) (image : Image) (w : Walk) (n : Name) → is_reached w n.id ≡ true → [] ≡ names_below blocks image w n
unfolding names_below
below_again blocks image w n is = sym (below_is (is_reached w n.id) (is_none (refusal_at blocks image n)) (cell_at image n).names is)

pub below_accepted : (blocks : ℕ) (image : Image) (w : Walk) (n : Name) → is_reached w n.id ≡ false → refusal_at blocks image n ≡ None → (cell_at image n).names ≡ names_below blocks image w n
unfolding names_below
below_accepted blocks image w n is sound = below_else (is_reached w n.id) (refusal_at blocks image n) (cell_at image n).names is sound

pub below_refused : (blocks : ℕ) (image : Image) (w : Walk) (n : Name) (f : CellFault) → refusal_at blocks image n ≡ Some f → [] ≡ names_below blocks image w n
unfolding names_below
below_refused blocks image w n f bad = below_not (is_reached w n.id) (refusal_at blocks image n) (cell_at image n).names f bad

-- ---- as it is counted and told

-- a block was noted as reached
pub record Reaches (blocks b : ℕ) (t u : Tally) : Type 0 where
  pub within : b < blocks
  pub reached : MarksOneMore blocks b t.reached.items u.reached.items
  pub gathered : u.gathered ≡ t.gathered
  pub faults : u.faults ≡ t.faults
  pub whole : u.whole ≡ t.whole

pub reached_by : (blocks b : ℕ) (w : Walk) (t : Tally) (x : Bool) → IsTally blocks w t → b < blocks → marks t.reached.items b ≡ x → is_reached w b ≡ x
reached_by blocks b w t x h lt is = sym (h.reached b lt) ∙ is

module _ {T : Type 0} (blocks b : ℕ) (image : Image) (n : Name) (id : n.id ≡ b) (k l : SinkState) (t u v : Tally) (r : Result T Stop) (reaches : Reaches blocks b t u) where
  reached_at : (w : Walk) → IsTally blocks w t → is_reached w n.id ≡ marks t.reached.items b
  reached_at w h = ap (is_reached w) id ∙ sym (h.reached b reaches.within)

  -- it was reached before
  pub steps_again : marks t.reached.items b ≡ true → Steps blocks k u r l v (met_again b) → Steps blocks k t r l v (λ w. meet blocks image w n)
  steps_again is a = steps_as blocks k l t v r (met_again b) (λ w. meet blocks image w n)
      (λ w h. ap (λ (x : ℕ). met_again x w) (sym id) ∙ meet_again blocks image w n (reached_at w h ∙ is))
      (steps_then blocks k k l t u v (tt {0}) r (λ w. w) (met_again b)
      (steps_noted blocks k t u (tt {0}) (λ w. w) (λ w. refl) (λ w h. tally_again blocks b w t u h is reaches.reached reaches.gathered reaches.faults reaches.whole)) a)

  -- it is accepted
  pub steps_accepted : (z : Tally) (marked : Bool) (o : Option What) → marks t.reached.items b ≡ false → refusal_at blocks image n ≡ None → marked ≡ is_marked image b → o ≡ wrong_with marked None
      → z.reached ≡ u.reached → Gathers b (cell_at image n) u.gathered z.gathered → z.faults ≡ u.faults → z.whole ≡ u.whole
      → Steps blocks k z r l v (with_fault b o) → Steps blocks k t r l v (λ w. meet blocks image w n)
  steps_accepted z marked o is sound m wrong same gathers faults whole a =
      let pre : Walk → Walk = λ w. with_cell b (cell_at image n) (with_reached b w) in
      steps_as blocks k l t v r (λ w. with_fault b o (pre w)) (λ w. meet blocks image w n)
      (λ w h. ap (λ (p : Option What). with_fault b p (pre w)) (wrong ∙ ap (λ (x : Bool). wrong_with x None) m)
      ∙ ap (λ (x : ℕ). with_fault x (wrong_with (is_marked image x) None) (with_cell x (cell_at image n) (with_reached x w))) (sym id)
      ∙ meet_accepted blocks image w n (reached_at w h ∙ is) sound)
      (steps_then blocks k k l t z v (tt {0}) r pre (with_fault b o)
      (steps_noted blocks k t z (tt {0}) pre (λ w. refl) (λ w h. tally_cell blocks b (cell_at image n) (with_reached b w) u z (tally_reached blocks b w t u h reaches.reached reaches.gathered reaches.faults reaches.whole) same gathers faults whole)) a)

  -- it is refused
  pub steps_refused : (z : Tally) (marked : Bool) (o : Option What) (f : CellFault) → marks t.reached.items b ≡ false → refusal_at blocks image n ≡ Some f → marked ≡ is_marked image b → o ≡ wrong_with marked (Some f)
      → ((w : Walk) → IsTally blocks (with_reached b w) u → IsTally blocks (with_gap (with_reached b w)) z)
      → Steps blocks k z r l v (with_fault b o) → Steps blocks k t r l v (λ w. meet blocks image w n)
  steps_refused z marked o f is bad m wrong gap a =
      let pre : Walk → Walk = λ w. with_gap (with_reached b w) in
      steps_as blocks k l t v r (λ w. with_fault b o (pre w)) (λ w. meet blocks image w n)
      (λ w h. ap (λ (p : Option What). with_fault b p (pre w)) (wrong ∙ ap (λ (x : Bool). wrong_with x (Some f)) m)
      ∙ ap (λ (x : ℕ). with_fault x (wrong_with (is_marked image x) (Some f)) (with_gap (with_reached x w))) (sym id)
      ∙ meet_refused blocks image w n f (reached_at w h ∙ is) bad)
      (steps_then blocks k k l t z v (tt {0}) r pre (with_fault b o)
      (steps_noted blocks k t z (tt {0}) pre (λ w. refl) (λ w h. gap w (tally_reached blocks b w t u h reaches.reached reaches.gathered reaches.faults reaches.whole))) a)

-- what was read
pub read_cell_as : (blocks : ℕ) (image : Image) (n : Name) (m : Met) (c : Shared) → m ≡ Cell c → IsReadAs blocks image n m → (refusal_at blocks image n ≡ None) × (node_of (arc_value c) ≡ cell_at image n)
read_cell_as blocks image n m c is r = subst (λ (x : Met). IsReadAs blocks image n x) is r

pub read_refused_as : (blocks : ℕ) (image : Image) (n : Name) (m : Met) (f : CellFault) → m ≡ Refused f → IsReadAs blocks image n m → refusal_at blocks image n ≡ Some f
read_refused_as blocks image n m f is r = subst (λ (x : Met). IsReadAs blocks image n x) is r

pub accepted_some : (blocks : ℕ) (n : Named) (o : Option Shared) (c : Shared) → o ≡ Some c → IfSome o (λ x. IsAccepted blocks n (arc_value x)) → IsAccepted blocks n (arc_value c)
accepted_some blocks n o c is h = let P : Option Shared → Type 0 = λ p. IfSome p (λ x. IsAccepted blocks n (arc_value x)) in subst P is h
