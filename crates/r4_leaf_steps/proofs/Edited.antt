-- The edits of a cell, and of all cells.
use Rattle.std.proofs.Common.{◌≡◌, inl, inr, ℕ, ◌<◌, ◌≤◌, true, false, List, [], ◌∷◌, refl, arith}
use Rattle.r4_base.specs.Key.{rank}
use Rattle.r4_base.specs.Tree.{Root, Store}
use Rattle.r4_base.specs.Value.{Value}
use Rattle.r4_build.proofs.Changing.{changes_both, changes_none}
use Rattle.r4_build.proofs.Made.{Gets, no_leaf, stays_same}
use Rattle.r4_build.proofs.MetKeys.{met_key}
use Rattle.r4_build.proofs.Origin.{stays_of}
use Rattle.r4_build.specs.Building.{set_by}
use Rattle.r4_build.specs.Making.{AreMadeIn, IsTurnOf, changed_among, changed_in}
use Rattle.r4_build.specs.r4_measure.Loop.{IsDone, LeafTurn}
use Rattle.r4_build.specs.r4_measure.r4_cell.Seen.{CellSeen}
use Rattle.r4_build.specs.r4_measure.r4_cell.declared.change.Fresh.{Fresh}
use Rattle.r4_build.specs.r4_leaf.declared.remaking.Given.{Given}
use Rattle.r4_build.specs.r4_leaf.declared.remaking.KeyRange.{KeyRange}
use Rattle.r4_build.specs.r4_reach.Needs.{is_met}
use Rattle.r4_build.specs.r4_work.Remaking.{Changes}
use Rattle.r4_build.specs.r4_work.Working.{IsWorking}
use Rattle.r4_build.specs.r4_work.declared.working.WorkingSet.{WorkingSet}
use Rattle.r4_content.specs.Edited.{Edits, changed}
use Rattle.r4_leaf_steps.specs.Editing.{AreForRange, IsEditedAt}

pub for_range : (e : Edits) (lo hi : ℕ) (cuts : List KeyRange) (items : List Given) → Gets e lo hi cuts items → AreForRange lo hi cuts items
for_range e lo hi cuts items gets = record {
  cuts_within = gets.ranges;
  within = gets.within;
  keys = gets.keys;
  can = λ us of. (gets.makes us of).can;
}

-- a leaf with a key that changes has a range
pub some_keys : (e : Edits) (lo hi : ℕ) → is_met (changed e) lo hi ≡ true → lo < hi
some_keys e lo hi h = let (k, on, low, high) = met_key (changed e) lo hi h in omega (arith, low, high)

module _ (t : Store Value) (r : Root) (e : Edits) (c : CellSeen) (f : Fresh) (w : WorkingSet) (working : IsWorking t r f w) where
  pub edited_here : (g : Fresh) (v : WorkingSet) (u : LeafTurn) → IsTurnOf e c u → IsDone t r f g w v u → Changes w v (changed_in e c) (set_by e) → IsEditedAt t r e c f g w v
  edited_here g v u turn done changes = record {
    working = done.working;
    changes = changes;
    stays = stays_of t r f g w v u.key u.cuts u.items working.made done;
    few = λ most cells h us turns. h (u ∷ us) (inr (u, us, refl, turn, turns)) g v done;
  }

  -- a cell that has none
  pub none_edited : ((c.level ≡ 1) → is_met (changed e) (rank c.lo) (rank c.hi) ≡ false) → IsEditedAt t r e c f f w w
  none_edited none = record {
    working = working;
    changes = changes_none w (changed_in e c) (set_by e) (no_leaf e c none);
    stays = stays_same f w;
    few = λ most cells h us turns. h us (inl turns);
  }

-- ---- all cells

pub no_more : (t : Store Value) (r : Root) (e : Edits) (f : Fresh) (w : WorkingSet) → IsWorking t r f w → AreMadeIn t r e [] f f w w
no_more t r e f w working = record {
  working = working;
  changes = changes_none w (changed_among e []) (set_by e) (λ k. refl);
  stays = stays_same f w;
  few = λ most h. h [] refl;
}

pub one_more : (t : Store Value) (r : Root) (e : Edits) (c : CellSeen) (cells : List CellSeen) (f g h : Fresh) (w v now : WorkingSet) → f.next ≤ g.next → IsEditedAt t r e c f g w v → AreMadeIn t r e cells g h v now → AreMadeIn t r e (c ∷ cells) f h w now
one_more t r e c cells f g h w v now up one all = record {
  working = all.working;
  changes = changes_both w v now (changed_in e c) (changed_among e cells) (set_by e) one.changes all.changes;
  stays = λ cs first low was. all.stays cs first (omega (arith, low, up)) (one.stays cs first low was);
  few = λ most h. all.few most (one.few most cells h);
}
