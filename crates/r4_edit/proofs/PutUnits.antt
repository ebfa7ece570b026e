-- The units of a twig's pieces with others put among them.
use Rattle.std.proofs.Common.{◌≡◌, ℕ, ◌+◌, ◌-◌, ◌^◌, ◌≤◌, List, [], ◌∷◌, ◌++◌, drop, length, map, take, get_or, refl, sym, ap, subst, ◌∙◌}
use Rattle.std.specs.Prelude.{reverse}
use Rattle.r4_base.specs.Cell.{item_end, item_units}
use Rattle.r4_base.specs.Key.{rank}
use Rattle.r4_base.specs.Node.{Item, mkfs_id_of}
use Rattle.r4_base.specs.Tree.{Root, Store}
use Rattle.r4_base.specs.Value.{Value}
use Rattle.r4_base.specs.declared.key.Key.{Key}
use Rattle.r4_path.specs.r4_branch.Pieces.{Follow, item_pieces, next_of, units_of}
use Rattle.r4_path.specs.r4_branch.declared.piece.TwigPiece.{TwigPiece}
use Rattle.r4_path.proofs.r4_branch.ItemPieces.{follow_item, units_append, units_of_item}
use Rattle.r4_path.specs.r4_cell.Seen.{CellSeen, node_of}
use Rattle.r4_path.specs.r4_cell.declared.change.Change.{Change}
use Rattle.r4_path.specs.r4_cell.declared.change.Fresh.{Fresh}
use Rattle.r4_path.specs.r4_graft.Splices.{place}
use Rattle.r4_path.specs.r4_leaf.Units.{put_units}
use Rattle.r4_path.proofs.r4_leaf.Rising.{put_run}
use Rattle.r4_edit.specs.Extents.{AreAmongExtents, IsLeafPutIn, IsLeafPutUp, IsSpreadIn, IsSpreadUp, PutsLeafUp, SpreadsUp, leaf_pointer}
use Rattle.r4_path.specs.TwigPieces.{ArePiecesOf, put_pieces, twig_pieces}
use Rattle.r4_path.specs.Grafts.{GraftsBelow}
use Rattle.r4_edit.specs.LeafParts.{IsLeafOf}
use Rattle.r4_path.specs.Twigs.{Below}
use Rattle.r4_edit.proofs.CutNames.{units_rise}
use Rattle.r4_edit.proofs.Gaps.{gap, spread, spread_is}
use Rattle.r4_path.proofs.LastCell.{last_up, up_last, up_some}
use Rattle.r4_edit.proofs.LeafAmong.{follows}
use Rattle.r4_edit.proofs.Spread.{nothing}

-- Pieces between others have their units between theirs.
pub units_among : (lo from to hi : ℕ) (xs us ys : List TwigPiece) → Follow lo from xs → Follow from to us → Follow to hi ys
    → units_of (xs ++ (us ++ ys)) ≡ put_units (units_of us) (units_of (xs ++ ys))
units_among lo from to hi xs us ys fx fu fy =
    units_append xs (us ++ ys) ∙ (ap (λ vs. units_of xs ++ vs) (units_append us ys)
    ∙ (sym (put_run lo from to hi (units_of us) (units_of xs) (units_of ys) (units_rise lo from xs fx) (units_rise from to us fu) (units_rise to hi ys fy))
    ∙ ap (put_units (units_of us)) (sym (units_append xs ys))))

module _ (twig : CellSeen) (ps : List TwigPiece) (are : ArePiecesOf twig ps) (from to : ℕ)
    (keys : AreAmongExtents twig from to) (us : List TwigPiece) (f : Follow from to us) where
  pub spread_units : units_of (spread twig ps are from to keys us f) ≡ put_units (units_of us) (node_of twig).units
  spread_units =
      let g = gap twig ps are from to keys in
      ap units_of (spread_is twig ps are from to keys us f) ∙ (units_among (rank twig.lo) from to (rank twig.hi) g.before us g.behind g.low f g.high
      ∙ ap (put_units (units_of us)) (ap units_of (sym g.is) ∙ are.units))

-- ---- an extent

pub extent_units : (t : Store Value) (r : Root) (it : Item) (twig : CellSeen) (ups : List CellSeen) (fresh : Fresh)
    → ArePiecesOf twig (twig_pieces twig) → IsSpreadIn t r it twig ups fresh
    → units_of (put_pieces it.key (item_pieces it) (twig_pieces twig)) ≡ put_units (item_units it) (node_of twig).units
extent_units t r it twig ups fresh are is =
    spread_units twig (twig_pieces twig) are (rank it.key) (item_end it) is.keys (item_pieces it) (follow_item it is.given.sound)
    ∙ ap (λ us. put_units us (node_of twig).units) (units_of_item it is.given.sound)

module _ {A : Type 0} (h : A → CellSeen) (path : List A) (x : A) (last : x ≡ get_or path (length path - 1) x)
    (t : Store Value) (r : Root) (it : Item) (fresh : Fresh) (is : IsSpreadUp t r it fresh (reverse (map h path)))
    (are : ArePiecesOf (h x) (twig_pieces (h x))) where
  pub spreads_up : (after : Fresh) (c : Change)
      → GraftsBelow (map h path) (put_pieces it.key (item_pieces it) (twig_pieces (h x))) nothing fresh after c
      → SpreadsUp (map h path) it fresh after c (reverse (map h path))
  spreads_up after c grafts =
      last_up h (SpreadsUp (map h path) it fresh after c) path x (up_some h (IsSpreadUp t r it fresh) (λ e. e) path is) last (record {
        grafts = grafts;
        units = extent_units t r it (h x) (reverse (map h (take (length path - 1) path))) fresh are
            (up_last h (IsSpreadUp t r it fresh) (λ e. e) path x last is);
      })

-- ---- an item of a leaf

pointer_units : (key : Key) (id : ℕ) → units_of (leaf_pointer key id) ≡ []
unfolding units_of
pointer_units key id = refl

module _ (t : Store Value) (r : Root) (it : Item) (twig : CellSeen) (ups : List CellSeen) (fresh after : Fresh)
    (are : ArePiecesOf twig (twig_pieces twig)) (is : IsLeafPutIn t r it twig ups fresh) (unplaced : 2 ^ 63 ≤ fresh.next)
    (took : after ≡ record fresh { next = fresh.next + 1 }) (leaf : CellSeen) (hi : Key) (mkfs_id : ℕ)
    (leaf_is : IsLeafOf it fresh.next hi mkfs_id leaf)
    (end : rank hi ≡ next_of (rank twig.hi) (drop (place (rank it.key) (twig_pieces twig)) (twig_pieces twig))) where
  pub leaf_units : units_of (put_pieces it.key (leaf_pointer it.key fresh.next) (twig_pieces twig)) ≡ (node_of twig).units
  leaf_units =
      spread_units twig (twig_pieces twig) are (rank it.key) (item_end it) is.keys (leaf_pointer it.key fresh.next)
      (follows t r it twig ups fresh after are is unplaced took leaf hi mkfs_id leaf_is end)
      ∙ ap (λ us. put_units us (node_of twig).units) (pointer_units it.key fresh.next)

module _ {A : Type 0} (h : A → CellSeen) (path : List A) (x : A) (last : x ≡ get_or path (length path - 1) x)
    (t : Store Value) (r : Root) (it : Item) (fresh : Fresh) (is : IsLeafPutUp t r it fresh (reverse (map h path)))
    (unplaced : 2 ^ 63 ≤ fresh.next) (mid : Fresh) (took : mid ≡ record fresh { next = fresh.next + 1 }) (leaf : CellSeen)
    (hi : Key) (mkfs_id : ℕ) (leaf_is : IsLeafOf it fresh.next hi mkfs_id leaf)
    (end : rank hi ≡ next_of (rank (h x).hi) (drop (place (rank it.key) (twig_pieces (h x))) (twig_pieces (h x))))
    (are : ArePiecesOf (h x) (twig_pieces (h x))) (qs : List TwigPiece)
    (packed : qs ≡ put_pieces it.key (leaf_pointer it.key fresh.next) (twig_pieces (h x)))
    (same : mkfs_id ≡ mkfs_id_of (h x).block) where
  pub puts_leaf_up : (olds news : List CellSeen) → olds ≡ [] → news ≡ leaf ∷ [] → (after : Fresh) (c : Change)
      → GraftsBelow (map h path) qs (record { old = olds; new = news }) mid after c
      → PutsLeafUp (map h path) it fresh after c (reverse (map h path))
  puts_leaf_up olds news none one after c grafts =
      last_up h (PutsLeafUp (map h path) it fresh after c) path x (up_some h (IsLeafPutUp t r it fresh) (λ e. e) path is) last (record {
        hi = hi;
        ends = end;
        leaf = leaf;
        leaf_is = subst (λ (n : ℕ). IsLeafOf it fresh.next hi n leaf) same leaf_is;
        grafts = subst (λ (f : Fresh). GraftsBelow (map h path) (put_pieces it.key (leaf_pointer it.key fresh.next) (twig_pieces (h x))) (record { old = []; new = leaf ∷ [] }) f after c) took
            (subst (λ (b : Below). GraftsBelow (map h path) (put_pieces it.key (leaf_pointer it.key fresh.next) (twig_pieces (h x))) b mid after c) (λ i. record { old = none i; new = one i })
            (subst (λ ps. GraftsBelow (map h path) ps (record { old = olds; new = news }) mid after c) packed grafts));
        units = leaf_units t r it (h x) (reverse (map h (take (length path - 1) path))) fresh mid are
            (up_last h (IsLeafPutUp t r it fresh) (λ e. e) path x last is) unplaced took leaf hi mkfs_id leaf_is end;
      })
