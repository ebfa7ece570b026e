-- A walk over a content, from object to object.
use Rattle.std.proofs.Common.{◌≡◌, ℕ, ◌+◌, ◌<◌, ◌≤◌, true, false, List, ◌∷◌, length, drop, sym, ap, ◌∙◌}
use Rattle.std.specs.Prelude.{Some, None, slice_range}
use Rattle.std.specs.List.{list_all}
use Rattle.r4_base.specs.Image.{Image}
use Rattle.r4_base.specs.Value.{Content}
use Rattle.r4_base.specs.Volume.{HasContent, is_directory, root_object}
use Rattle.r4_base.specs.declared.items.Attr.{Attr}
use Rattle.r4_base.specs.declared.items.Target.{Target}
use Rattle.r4_outside.specs.Device.{State}
use Rattle.r4_cell.specs.declared.change.Root.{Root}
use Rattle.r4_content.specs.Walk.{At, NoDirectory, NoEntry, attr_at, names_in, pieces_of, target_at, walk, walk_from}
use Rattle.r4_search.specs.Pool.{PoolState}
use Rattle.r4_list.specs.Over.{IsOver}
use Rattle.r4_list.specs.OverWalks.{IsLookedUp, IsStep, pieces_from}
use Rattle.r4_list.specs.declared.walk.Object.{Object}
use Rattle.r4_list.proofs.OverPieces.{by_first, is_legal, left, left_done, left_here, legal_first, names_left, pieces_left, walk_at, walk_begun, walk_no_entry, walk_step}
use Rattle.r4_list.proofs.Stages.{Moves, moves_both}

-- What a walk keeps: the pool went on, and over a content it is at an object from which the rest of the path leads on.
pub record IsWalk (root : Root) (path : List ℕ) (old now : PoolState) (before after : State) (from : ℕ) (object : Target) (attr : Attr) : Type 0 where
  pub moves : Moves old now before after
  pub reached : IsLookedUp object
  pub legal : list_all is_legal (left path from) ≡ true
  pub over : (n : ℕ) (image : Image) (m : Content) (c : HasContent n image m) → IsOver c root old → IsOver c root now
  pub on : (n : ℕ) (image : Image) (m : Content) (c : HasContent n image m) → IsOver c root old → walk m (names_in path) ≡ walk_from m (left path from) object (Some attr)

-- a piece of the path, and what is behind it
module _ (path : List ℕ) (from end : ℕ) (within : from < length path) (piece : pieces_of (drop from path) ≡ slice_range path from end ∷ pieces_from path (end + 1)) (legal : list_all is_legal (left path from) ≡ true) where
  piece_is : left path from ≡ slice_range path from end ∷ pieces_from path (end + 1)
  piece_is = left_here path from within ∙ piece

  parts : (is_legal (slice_range path from end) ≡ true) × (list_all is_legal (pieces_from path (end + 1)) ≡ true)
  parts = legal_first (slice_range path from end) (pieces_from path (end + 1)) (sym (ap (list_all is_legal) piece_is) ∙ legal)

  pub piece_legal : is_legal (slice_range path from end) ≡ true
  piece_legal = parts.0

  pub split : left path from ≡ slice_range path from end ∷ left path (end + 1)
  split = piece_is ∙ ap (λ (ps : List (List ℕ)). slice_range path from end ∷ ps) (pieces_left path (end + 1) parts.1)

  pub rest_legal : list_all is_legal (left path (end + 1)) ≡ true
  rest_legal = sym (ap (list_all is_legal) (pieces_left path (end + 1) parts.1)) ∙ parts.1

  module _ (m : Content) (o : Target) (a : Attr) (so_far : walk m (names_in path) ≡ walk_from m (left path from) o (Some a)) where
    pub stepped : (p : Target) (b : Attr) → is_directory a ≡ true → target_at m o.oid.0 (slice_range path from end) ≡ Some p → attr_at m p ≡ Some b → walk m (names_in path) ≡ walk_from m (left path (end + 1)) p (Some b)
    stepped p b dir t e = so_far ∙ (ap (λ (ps : List (List ℕ)). walk_from m ps o (Some a)) split ∙ walk_step m (slice_range path from end) (left path (end + 1)) o p a b dir t e)

    pub ends_without : is_directory a ≡ true → IsStep m o.oid.0 (slice_range path from end) None → NoEntry ≡ walk m (names_in path)
    ends_without dir none = sym (so_far ∙ (ap (λ (ps : List (List ℕ)). walk_from m ps o (Some a)) split ∙ walk_no_entry m (slice_range path from end) (left path (end + 1)) o a dir none))

pub ends_at_file : (m : Content) (path : List ℕ) (from : ℕ) (o : Target) (a : Attr) → from < length path → walk m (names_in path) ≡ walk_from m (left path from) o (Some a) → is_directory a ≡ false → NoDirectory ≡ walk m (names_in path)
ends_at_file m path from o a lt so_far file = sym (so_far ∙ (ap (λ (ps : List (List ℕ)). walk_from m ps o (Some a)) (left_here path from lt) ∙ by_first (drop from path) m o a file))

pub ends_here : (m : Content) (path : List ℕ) (from : ℕ) (o : Target) (a : Attr) → length path ≤ from → walk m (names_in path) ≡ walk_from m (left path from) o (Some a) → At o a ≡ walk m (names_in path)
ends_here m path from o a le so_far = sym (so_far ∙ (ap (λ (ps : List (List ℕ)). walk_from m ps o (Some a)) (left_done path from le) ∙ walk_at m o a))

-- at the root
pub begun : (root : Root) (path : List ℕ) (old now : PoolState) (before after : State) (attr : Attr) → 1 ≤ length path → Moves old now before after → IsLookedUp root_object → list_all is_legal (names_in path) ≡ true
    → ((n : ℕ) (image : Image) (m : Content) (c : HasContent n image m) → IsOver c root old → IsOver c root now × (Some attr ≡ attr_at m root_object)) → IsWalk root path old now before after 1 root_object attr
begun root path old now before after attr some moves reached legal over =
    let names = names_left path some in
    record {
      moves = moves;
      reached = reached;
      legal = sym (ap (list_all is_legal) names) ∙ legal;
      over = λ n image m c was. (over n image m c was).0;
      on = λ n image m c was. walk_begun m (names_in path) attr legal (over n image m c was).1 ∙ ap (λ (ps : List (List ℕ)). walk_from m ps root_object (Some attr)) names;
    }

-- at the next object
pub gone_on : (root : Root) (path : List ℕ) (old mid now : PoolState) (a b c : State) (from end : ℕ) (within : from < length path) (piece : pieces_of (drop from path) ≡ slice_range path from end ∷ pieces_from path (end + 1))
    → (object : Target) (attr : Attr) (w : IsWalk root path old mid a b from object attr) → is_directory attr ≡ true → Moves mid now b c → (next : Object) → IsLookedUp next.object
    → ((n : ℕ) (image : Image) (m : Content) (h : HasContent n image m) → IsOver h root mid → IsOver h root now × IsStep m object.oid.0 (slice_range path from end) (Some next)) → IsWalk root path old now a c (end + 1) next.object next.attr
gone_on root path old mid now a b c from end within piece object attr w dir moves next reached over = record {
  moves = moves_both old mid now a b c w.moves moves;
  reached = reached;
  legal = rest_legal path from end within piece w.legal;
  over = λ n image m h was. (over n image m h (w.over n image m h was)).0;
  on = λ n image m h was.
      let s = (over n image m h (w.over n image m h was)).1 in
      stepped path from end within piece w.legal m object attr (w.on n image m h was) next.object next.attr dir s.0 s.1;
}
