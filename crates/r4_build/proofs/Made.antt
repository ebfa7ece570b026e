-- The edits of a cell, and of all cells.
use Rattle.std.proofs.Common.{◌≡◌, inl, inr, ℕ, ◌+◌, ◌<◌, ◌≤◌, Bool, true, false, List, [], ◌∷◌, refl, sym, ap, subst, ◌∙◌, arith}
use Rattle.std.specs.Prelude.{◌&&◌, ◌||◌, ◌==◌, ◌^◌, All, Contains, Err, None, Ok, OnOk, Option, Result, length}
use Rattle.std.proofs.lemmas.Bool.{and_parts, eq-eqb, eqb-true}
use Rattle.std.proofs.lemmas.Grind.{common_steps}
use Rattle.std.proofs.lemmas.List.{length-append}
use Rattle.std.proofs.lemmas.List.Elements.{All-cons, All-nil}
use Rattle.std.proofs.lemmas.List.Sorted.{Contains-permutation, IsPermutation-sym, length_permutation}
use Rattle.r4_base.specs.Cell.{cell_fault}
use Rattle.r4_base.specs.Key.{rank}
use Rattle.r4_base.specs.Tree.{Root, Store}
use Rattle.r4_base.specs.Value.{Value}
use Rattle.r4_base.specs.declared.key.Key.{Key}
use Rattle.r4_measure.specs.r4_cell.Seen.{CellSeen, node_of}
use Rattle.r4_measure.specs.r4_cell.declared.change.Fresh.{Fresh}
use Rattle.r4_content.specs.Held.{edits_of}
use Rattle.r4_content.specs.declared.edits.Edits.{Edits as HeldEdits}
use Rattle.r4_content.specs.Edited.{Edits, changed, is_between, is_in}
use Rattle.r4_measure.specs.r4_leaf.Leaves.{MayStand}
use Rattle.r4_measure.specs.r4_leaf.Remade.{AreWithin}
use Rattle.r4_measure.specs.r4_leaf.Units.{LeafUnit}
use Rattle.r4_measure.specs.r4_leaf.declared.remaking.Given.{Given}
use Rattle.r4_measure.specs.r4_leaf.declared.remaking.KeyRange.{KeyRange}
use Rattle.r4_measure.proofs.r4_leaf.Rising.{Rise, rise_order}
use Rattle.r4_leaf_edits.specs.Made.{AreItems, AreOfLeaf, CutsWithin as Within, HaveKeys as Have, MakesEdits, cuts_in as made_cuts, spread_keys}
use Rattle.r4_leaf_edits.specs.declared.leaf_edits.LeafEdits.{LeafEdits}
use Rattle.r4_measure.specs.r4_patch.Effect.{HasEffect, in_leaf}
use Rattle.r4_measure.specs.r4_patch.Joining.{patch_of_change}
use Rattle.r4_measure.proofs.r4_patch.Members.{cases, none}
use Rattle.r4_measure.specs.r4_reach.Needs.{is_met, leaf_edits}
use Rattle.r4_measure.specs.r4_reach.Touched.{Body}
use Rattle.r4_measure.proofs.r4_edit.HalvedLeaf.{lent_stands}
use Rattle.r4_measure.proofs.r4_edit.PartedLeaf.{units_rise}
use Rattle.r4_measure.specs.r4_work.Remaking.{Changes, CutsWithin, HaveKeys, IsRemakable, remade_keys, remade_values}
use Rattle.r4_measure.specs.r4_work.Order.{HasKey}
use Rattle.r4_measure.specs.r4_work.Working.{HasNoEffect, IsStart, IsWorking, standing}
use Rattle.r4_measure.specs.r4_work.declared.working.WorkingSet.{WorkingSet}
use Rattle.r4_measure.proofs.r4_work.Halving.{true_or_false}
use Rattle.r4_measure.proofs.r4_work.Remade.{or_true}
use Rattle.r4_measure.proofs.r4_work.UnitMembers.{between}
use Rattle.r4_measure.specs.Loop.{IsDone, LeafTurn}
use Rattle.r4_build.specs.Building.{LiesInLeaf, set_by}
use Rattle.r4_build.specs.Making.{AreMadeIn, AreTurnsOf, CanMake, IsMadeIn, IsOf, IsTurnOf, StaysOf, changed_among, changed_in}
use Rattle.r4_build.proofs.Changing.{changes_all, changes_both, changes_none, same_changes}
use Rattle.r4_build.proofs.LeafKeys.{keys_are, values_are}
use Rattle.r4_build.proofs.MetKeys.{key_met, met_key}
use Rattle.r4_build.proofs.Origin.{stays_of}
use Rattle.r4_build.proofs.Pairs.{rise_rises}

-- ---- what a leaf gets

pub cuts_too : (lo hi : ℕ) (cuts : List KeyRange) → Within lo hi cuts → CutsWithin lo hi cuts
cuts_too lo hi [] h = tt
cuts_too lo hi (c ∷ cs) (low, high, h) = (low, high, cuts_too lo hi cs h)

pub keys_too : (gs : List Given) → Have gs → HaveKeys gs
keys_too [] h = tt
keys_too (g ∷ gs) (key, h) = (key, keys_too gs h)

in_range : (lo hi k : ℕ) → lo ≤ k → k < hi → is_between lo hi k ≡ true
in_range lo hi k low high = grind (arith, common_steps, low, high)

all_within : (lo hi from : ℕ) (us : List LeafUnit) → lo ≤ from → Rise from hi us → All (λ (u : LeafUnit). is_between lo hi u.0 ≡ true) us
all_within lo hi from [] low rise = All-nil (λ (u : LeafUnit). is_between lo hi u.0 ≡ true)
all_within lo hi from (u ∷ us) low (at, rise) =
    let end = rise_order (u.0 + 1) hi us rise in
    All-cons (λ (v : LeafUnit). is_between lo hi v.0 ≡ true) u us (in_range lo hi u.0 (omega (arith, low, at)) (omega (arith, end))) (all_within lo hi (u.0 + 1) us (omega (arith, low, at)) rise)

-- the units of a leaf are such that it may have
pub units_of_leaf : (c : CellSeen) → c.level ≡ 1 → MayStand (rank c.lo) (rank c.hi) c.block → rank c.lo < rank c.hi → AreOfLeaf (rank c.lo) (rank c.hi) (node_of c).units
units_of_leaf c level stand some =
    let rise = units_rise c level stand some in
    record { rises = rise_rises (rank c.lo) (rank c.hi) (node_of c).units rise; within = all_within (rank c.lo) (rank c.hi) (rank c.lo) (node_of c).units (omega arith) rise }

some_keys : (e : Edits) (lo hi : ℕ) → is_met (changed e) lo hi ≡ true → lo < hi
some_keys e lo hi h = let (k, on, low, high) = met_key (changed e) lo hi h in omega (arith, low, high)

-- what a leaf of a range gets, as the calls say
pub record Gets (e : Edits) (lo hi : ℕ) (cuts : List KeyRange) (items : List Given) : Type 0 where
  pub ranges : CutsWithin lo hi cuts
  pub within : AreWithin lo hi items
  pub keys : HaveKeys items
  pub makes : (us : List LeafUnit) → AreOfLeaf lo hi us → MakesEdits lo hi e cuts items us

pub gets_of : (e : HeldEdits) (x : LeafEdits) (gs items : List Given) (cuts : List KeyRange) (lo hi : Key) (c : CellSeen) → lo ≡ c.lo → hi ≡ c.hi → cuts ≡ made_cuts x → items ≡ gs → AreItems x gs
    → Within (rank lo) (rank hi) (made_cuts x) → ((gs : List Given) → AreItems x gs → AreWithin (rank lo) (rank hi) gs × Have gs)
    → ((b : Option Body) (us : List LeafUnit) (gs : List Given) → None ≡ spread_keys b → AreOfLeaf (rank lo) (rank hi) us → AreItems x gs → MakesEdits (rank lo) (rank hi) (leaf_edits b (edits_of e)) (made_cuts x) gs us)
    → Gets (edits_of e) (rank c.lo) (rank c.hi) cuts items
gets_of e x gs items cuts lo hi c lo_same hi_same cuts_same items_same are ranges belong makes =
    subst (λ (k : Key). Gets (edits_of e) (rank k) (rank c.hi) cuts items) lo_same
    (subst (λ (k : Key). Gets (edits_of e) (rank lo) (rank k) cuts items) hi_same
    (subst (λ (ks : List KeyRange). Gets (edits_of e) (rank lo) (rank hi) ks items) (sym cuts_same)
    (subst (λ (hs : List Given). Gets (edits_of e) (rank lo) (rank hi) (made_cuts x) hs) (sym items_same) (record {
      ranges = cuts_too (rank lo) (rank hi) (made_cuts x) ranges;
      within = (belong gs are).0;
      keys = keys_too gs (belong gs are).1;
      makes = λ us of. makes None us gs refl of are;
    }))))

pub turn_of : (e : Edits) (c : CellSeen) (key : Key) (cuts : List KeyRange) (items : List Given) → key ≡ c.lo → c.level ≡ 1 → length c.block ≡ 4096
    → cell_fault true (2 ^ 64) c.level (rank c.lo) (rank c.hi) c.block ≡ None → is_met (changed e) (rank c.lo) (rank c.hi) ≡ true
    → Gets e (rank c.lo) (rank c.hi) cuts items → IsTurnOf e c (record { key = key; cuts = cuts; items = items })
turn_of e c key cuts items key_same level whole accepted touched gets = record {
  level = level;
  touched = touched;
  key = key_same;
  cuts_within = gets.ranges;
  within = gets.within;
  keys = gets.keys;
  makes = gets.makes (node_of c).units (units_of_leaf c level (lent_stands c c refl level whole accepted) (some_keys e (rank c.lo) (rank c.hi) touched));
}

-- what they change
level_one : (b c : Bool) → b ≡ true → (b && c) ≡ c
level_one true c h = refl
level_one false c h = absurd cc

pub leaf_changes : (e : Edits) (c : CellSeen) (cuts : List KeyRange) (items : List Given) (w now : WorkingSet) → c.level ≡ 1
    → Gets e (rank c.lo) (rank c.hi) cuts items → Changes w now (remade_keys cuts items) (remade_values items) → Changes w now (changed_in e c) (set_by e)
leaf_changes e c cuts items w now level gets changes =
    let lo = rank c.lo in
    let hi = rank c.hi in
    same_changes w now (remade_keys cuts items) (changed_in e c) (remade_values items) (set_by e) changes
    (λ k. level_one (c.level == 1) (is_between lo hi k && is_in (changed e) k) (eq-eqb c.level 1 level) ∙ keys_are lo hi e cuts items gets.ranges gets.within gets.keys gets.makes k)
    (λ k h. ap in_leaf (values_are lo hi e cuts items gets.ranges gets.within gets.keys gets.makes k h))

pub on_ok_both : {T E : Type 0} (r : Result T E) (P Q : Type 0) → OnOk r P → OnOk r Q → OnOk r (P × Q)
on_ok_both (Ok v) P Q p q = (p, q)
on_ok_both (Err x) P Q p q = p

-- ---- turns

pub none_turns : (e : Edits) (cells : List CellSeen) → AreTurnsOf e cells []
none_turns e [] = refl
none_turns e (c ∷ cs) = inl (none_turns e cs)

module _ (t : Store Value) (r : Root) (e : Edits) (c : CellSeen) (cells : List CellSeen) (f : Fresh) (w : WorkingSet) (can : CanMake t r e (c ∷ cells) f w) where
  -- the edits of the others, where the cell has none
  pub others_can : CanMake t r e cells f w
  others_can = record { working = can.working; turns = λ us h. can.turns us (inl h) }

  module _ (u : LeafTurn) (turn : IsTurnOf e c u) where
    pub can_turn : IsRemakable t r f w u.key u.cuts u.items
    can_turn = (can.turns (u ∷ []) (inr (u, [], refl, turn, none_turns e cells))).0

    pub after_turn : (g : Fresh) (v : WorkingSet) → IsDone t r f g w v u → CanMake t r e cells g v
    after_turn g v done = record { working = done.working; turns = λ us h. (can.turns (u ∷ us) (inr (u, us, refl, turn, h))).1 g v done }

    pub made_here : (g : Fresh) (v : WorkingSet) → IsDone t r f g w v u → Changes w v (changed_in e c) (set_by e) → IsMadeIn t r e c cells f g w v
    made_here g v done changes = record {
      changes = changes;
      stays = stays_of t r f g w v u.key u.cuts u.items can.working.made done;
      rest = after_turn g v done;
      few = λ most h us turns. h (u ∷ us) (inr (u, us, refl, turn, turns)) g v done;
    }

-- ---- a cell that has none

pub stays_same : (f : Fresh) (w : WorkingSet) → StaysOf f f w w
stays_same f w cells first low was = was

pub no_leaf : (e : Edits) (c : CellSeen) → ((c.level ≡ 1) → is_met (changed e) (rank c.lo) (rank c.hi) ≡ false) → (k : ℕ) → changed_in e c k ≡ false
no_leaf e c none k = elim (true_or_false (changed_in e c k)) [
  | inr h ↦ h
  | inl h ↦
      let (level, rest) = and_parts (c.level == 1) (is_between (rank c.lo) (rank c.hi) k && is_in (changed e) k) h in
      let (at, on) = and_parts (is_between (rank c.lo) (rank c.hi) k) (is_in (changed e) k) rest in
      let (low, high) = between (rank c.lo) (rank c.hi) k at in
      let bad : true ≡ false = sym (key_met (changed e) (rank c.lo) (rank c.hi) k on low high) ∙ none (eqb-true c.level 1 level) in
      absurd cc
]

pub none_here : (t : Store Value) (r : Root) (e : Edits) (c : CellSeen) (cells : List CellSeen) (f : Fresh) (w : WorkingSet) → ((c.level ≡ 1) → is_met (changed e) (rank c.lo) (rank c.hi) ≡ false) → CanMake t r e (c ∷ cells) f w → IsMadeIn t r e c cells f f w w
none_here t r e c cells f w none can = record {
  changes = changes_none w (changed_in e c) (set_by e) (no_leaf e c none);
  stays = stays_same f w;
  rest = others_can t r e c cells f w can;
  few = λ most h us turns. h us (inl turns);
}

-- ---- all cells

pub none_among : (t : Store Value) (r : Root) (e : Edits) (f : Fresh) (w : WorkingSet) → CanMake t r e [] f w → AreMadeIn t r e [] f f w w
none_among t r e f w can = record {
  working = can.working;
  changes = changes_none w (changed_among e []) (set_by e) (λ k. refl);
  stays = stays_same f w;
  few = λ most h. h [] refl;
}

pub one_more : (t : Store Value) (r : Root) (e : Edits) (c : CellSeen) (cells : List CellSeen) (f g h : Fresh) (w v now : WorkingSet) → f.next ≤ g.next → IsMadeIn t r e c cells f g w v → AreMadeIn t r e cells g h v now → AreMadeIn t r e (c ∷ cells) f h w now
one_more t r e c cells f g h w v now up one all = record {
  working = all.working;
  changes = changes_both w v now (changed_in e c) (changed_among e cells) (set_by e) one.changes all.changes;
  stays = λ cs first low was. all.stays cs first (omega (arith, low, up)) (one.stays cs first low was);
  few = λ most h. all.few most (one.few most h);
}

-- ---- from the start to the end

leaf_key : (e : Edits) (c : CellSeen) (k : ℕ) → c.level ≡ 1 → HasKey c k → is_in (changed e) k ≡ true → changed_in e c k ≡ true
leaf_key e c k level (low, high) on = all_true (c.level == 1) (is_between (rank c.lo) (rank c.hi) k) (is_in (changed e) k) (eq-eqb c.level 1 level) (in_range (rank c.lo) (rank c.hi) k low high) on
  where
    all_true : (a b c : Bool) → a ≡ true → b ≡ true → c ≡ true → (a && (b && c)) ≡ true
    all_true true true c x y z = z
    all_true true false c x y z = absurd cc
    all_true false b c x y z = absurd cc

or_left : (a b : Bool) → a ≡ true → (a || b) ≡ true
or_left true b h = refl
or_left false b h = absurd cc

or_right : (a b : Bool) → b ≡ true → (a || b) ≡ true
or_right true b h = refl
or_right false b h = h

among_key : (e : Edits) (cells : List CellSeen) (k : ℕ) → LiesInLeaf cells k → is_in (changed e) k ≡ true → changed_among e cells k ≡ true
among_key e [] k (c, at, level, has) on = absurd (none c at)
among_key e (d ∷ cells) k (c, at, level, has) on = elim (cases d c cells at) [
  | inl same ↦ or_left (changed_in e d k) (changed_among e cells k) (subst (λ (x : CellSeen). changed_in e x k ≡ true) same (leaf_key e c k level has on))
  | inr more ↦ or_right (changed_in e d k) (changed_among e cells k) (among_key e cells k (c, more, level, has) on)
]

key_among : (e : Edits) (cells : List CellSeen) (k : ℕ) → changed_among e cells k ≡ true → is_in (changed e) k ≡ true
key_among e [] k h = absurd cc
key_among e (d ∷ cells) k h = elim (or_true (changed_in e d k) (changed_among e cells k) h) [
  | inl mine ↦ (and_parts (is_between (rank d.lo) (rank d.hi) k) (is_in (changed e) k) (and_parts (d.level == 1) (is_between (rank d.lo) (rank d.hi) k && is_in (changed e) k) mine).1).1
  | inr more ↦ key_among e cells k more
]

pub all_keys : (e : Edits) (cells : List CellSeen) → ((k : ℕ) → is_in (changed e) k ≡ true → LiesInLeaf cells k) → (k : ℕ) → is_in (changed e) k ≡ changed_among e cells k
all_keys e cells lie k = elim (true_or_false (is_in (changed e) k)) [
  | inl on ↦ on ∙ sym (among_key e cells k (lie k on) on)
  | inr off ↦ off ∙ sym (elim (true_or_false (changed_among e cells k)) [
    | inr h ↦ h
    | inl h ↦ let bad : true ≡ false = sym (key_among e cells k h) ∙ off in absurd cc
  ])
]

pub start_of : (cells : List CellSeen) (w : WorkingSet) (f : Fresh) → IsStart cells w → IsOf cells f.next f w
start_of cells w f start = record {
  old = λ c at. absurd (none c (subst (λ cs. Contains cs c) start.old at));
  kept = λ c at. Contains-permutation w.kept cells c (IsPermutation-sym cells w.kept start.kept) at;
  new = λ c at. absurd (none c (subst (λ cs. Contains cs c) start.new at));
}

pub whole_effect : (t : Store Value) (r : Root) (e : Edits) (cells : List CellSeen) (f g : Fresh) (w now : WorkingSet) → ((k : ℕ) → is_in (changed e) k ≡ true → LiesInLeaf cells k) → HasNoEffect w → AreMadeIn t r e cells f g w now → HasEffect (patch_of_change now.change) (is_in (changed e)) (set_by e)
whole_effect t r e cells f g w now lie start made =
    changes_all w now (is_in (changed e)) (set_by e) start
    (same_changes w now (changed_among e cells) (is_in (changed e)) (set_by e) (set_by e) made.changes (all_keys e cells lie) (λ k h. refl))

-- the new cells stand
pub few_new : (most : ℕ) (t : Store Value) (r : Root) (f : Fresh) (w : WorkingSet) → IsWorking t r f w → length (standing w) ≤ most → length w.change.new ≤ most
few_new most t r f w working few =
    let a = length-append w.made w.kept in
    let p = length_permutation w.change.new w.made working.made in
    omega (arith, few, a, p)
