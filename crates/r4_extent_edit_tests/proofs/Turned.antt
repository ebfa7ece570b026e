-- A range of leaves of a root may become an extent.
use Rattle.std.proofs.Common.{◌≡◌, true, lit<, inl, inr, ℕ, ◌+◌, ◌-◌, ◌^◌, ◌<◌, ◌≤◌, List, [], ◌∷◌, length, get_or, map}
use Rattle.std.proofs.Common.{refl, sym, ap, subst, ◌∙◌, arith}
use Rattle.std.specs.Prelude.{Contains, Some, reverse}
use Rattle.std.proofs.lemmas.List.Elements.{All-contains}
use Rattle.r4_base.specs.Cell.{item_end}
use Rattle.r4_base.specs.Extents.{blocks_in}
use Rattle.r4_base.specs.Key.{least, rank, top}
use Rattle.r4_base.specs.Node.{Item}
use Rattle.r4_base.specs.Tree.{IsNode, Name, Root, Store}
use Rattle.r4_base.specs.Value.{Value}
use Rattle.r4_branch.specs.declared.piece.TwigPiece.{TwigPiece}
use Rattle.r4_cell.specs.Patch.{by_name}
use Rattle.r4_cell.specs.Seen.{CellSeen, node_of}
use Rattle.r4_cell.specs.declared.change.Fresh.{Fresh}
use Rattle.r4_cell.proofs.Nodes.{cell_node}
use Rattle.r4_edit_testing.specs.Trials.{AreLeaves, IsNewExtent, low_root}
use Rattle.r4_edit_testing.proofs.RootPart.{root_path}
use Rattle.r4_edit_testing.proofs.ShortOver.{ends, given, new_blocks}
use Rattle.r4_extent_edit.specs.Turning.{AreAround, AreBeside, IsTurnIn, IsTurnUp, last_leaf}
use Rattle.r4_extent_edit.proofs.TurnEnds.{first_is, last_is}
use Rattle.r4_extent_edit.proofs.TurnPieces.{turned_bytes}
use Rattle.r4_extent_edit_tests.specs.Raised.{IsRaised, MayBeBelow, high_root}
use Rattle.r4_extent_edit_tests.specs.Turned.{AllStand, LieAround, Stands}
use Rattle.r4_extent_edit_tests.proofs.Raised.{raised_path, stays}
use Rattle.r4_patch.proofs.Members.{Distinct, cases, later, none, there}
use Rattle.r4_patch.specs.Joining.{ids_of}
use Rattle.r4_path.proofs.Grown.{map_names, names_map}
use Rattle.r4_path.proofs.Rising.{count_distinct, count_within, follow_within, id_member}
use Rattle.r4_path.proofs.Upwards.{long_ids}
use Rattle.r4_path.specs.Growing.{IsPathIn}
use Rattle.r4_path.specs.Nodes.{IsPointable, IsPointingTo}
use Rattle.r4_path.specs.Steps.{Follow, name_of}
use Rattle.r4_path.specs.TwigPieces.{ArePiecesOf, twig_pieces}

-- ---- the range

pub around_here : {A : Type 0} (h : A → CellSeen) (xs : List A) (x y : A) (from to : ℕ) → x ≡ get_or xs 0 x
    → y ≡ get_or xs (length xs - 1) y → 1 ≤ length xs → (rank (h x).lo ≤ from) × (from < rank (h x).hi)
    → (rank (h y).lo < to) × (to ≤ rank (h y).hi) → LieAround (map h xs) from to
around_here h [] x y from to first last some begins stops = absurd (omega (arith, some))
around_here h (a ∷ more) x y from to first last some begins stops =
    let begin : (rank (h a).lo ≤ from) × (from < rank (h a).hi) =
    subst (λ (c : CellSeen). (rank c.lo ≤ from) × (from < rank c.hi))
    (first_is h (a ∷ more) x (h a) (map h more) first refl) begins in
    let stop : (rank (last_leaf (h a) (map h more)).lo < to) × (to ≤ rank (last_leaf (h a) (map h more)).hi) =
    subst (λ (c : CellSeen). (rank c.lo < to) × (to ≤ rank c.hi))
    (last_is h (a ∷ more) y (h a) (map h more) last refl) stops in
    record { low = begin.0; begins = begin.1; ends = stop.0; high = stop.1 }

-- ---- the leaves

one_of_id : (cells : List CellSeen) (x y : CellSeen) → Distinct cells → Contains cells x → Contains cells y → x.id
    ≡ y.id → x ≡ y
one_of_id [] x y once at_x at_y same = absurd (none x at_x)
one_of_id (c ∷ cells) x y once at_x at_y same = elim (cases c x cells at_x) [
  | inl is_x ↦ elim (cases c y cells at_y) [
    | inl is_y ↦ is_x ∙ sym is_y
    | inr more_y ↦ absurd (once.0 y more_y (sym (ap (λ (d : CellSeen). d.id) is_x) ∙ same))
  ]
  | inr more_x ↦ elim (cases c y cells at_y) [
    | inl is_y ↦ absurd (once.0 x more_x (sym (ap (λ (d : CellSeen). d.id) is_y) ∙ sym same))
    | inr more_y ↦ one_of_id cells x y once.1 more_x more_y same
  ]
]

last_hi : (lo hi : ℕ) (leaf : CellSeen) (more : List CellSeen) → Follow 1 lo hi (leaf ∷ more)
    → rank (last_leaf leaf more).hi ≡ hi
last_hi lo hi leaf [] f = f.3
last_hi lo hi leaf (next ∷ more) f = last_hi (rank leaf.hi) hi next more f.3

module _ (leaf : CellSeen) (more : List CellSeen) (twig : CellSeen) (are : AreLeaves (leaf ∷ more))
    (stand : AllStand (leaf ∷ more)) (points : IsPointingTo (leaf ∷ more) 2 (2 ^ 63 + 1000) twig)
    (pieces : ArePiecesOf twig (twig_pieces twig)) where
  abbrev leaves : List CellSeen
  leaves = leaf ∷ more

  abbrev t : Store Value
  t = by_name (twig ∷ leaves)

  node : (c : CellSeen) → Contains leaves c → IsNode (node_of c)
  node c at =
      let w = follow_within 1 least top leaves c are.follow at in
      let level = w.level_as in
      let s = All-contains Stands leaves c stand at in
      cell_node true (2 ^ 64) c.level (rank c.lo) (rank c.hi) c.block s.whole (omega
      (arith, level)) w.from w.nonempty w.to
      s.sound

  low : (c : CellSeen) → Contains leaves c → c.level ≤ 1
  low c at = let w = follow_within 1 least top leaves c are.follow at in let level = w.level_as in omega (arith, level)

  few_ids : (c : CellSeen) → Contains leaves c → (2 ^ 63 ≤ c.id) × (c.id < 2 ^ 63 + 1000)
  few_ids c at =
      let w = count_within (2 ^ 63) (ids_of leaves) c.id are.counts (id_member leaves c at) in
      let few = are.few in
      let long = long_ids leaves in
      (omega (arith, w), omega (arith, w, few, long))

  named : (c : CellSeen) → Contains leaves c → Contains (node_of twig).names (name_of c)
  named c at = subst (λ ns. Contains ns (name_of c)) (sym points.names) (map_names leaves (name_of c) (c, at, refl))

  named_by : (n : Name) → Contains (node_of twig).names n → (x : CellSeen) × Contains leaves x × (n ≡ name_of x)
  named_by n at = names_map leaves n (subst (λ ns. Contains ns n) points.names at)

  distinct : Distinct leaves
  distinct = count_distinct (2 ^ 63) leaves are.counts

  few_names : (n : Name) → Contains (node_of twig).names n → n.id < 2 ^ 63 + 1000
  few_names n at =
      let (x, member, is) = named_by n at in
      let few = few_ids x member in
      let id = ap (λ (m : Name). m.id) is in
      omega (arith, few, id)

  once : (n m : Name) → Contains (node_of twig).names n → Contains (node_of twig).names m → n.id ≡ m.id → n ≡ m
  once n m at_n at_m same =
      let (x, in_x, is_x) = named_by n at_n in
      let (y, in_y, is_y) = named_by m at_m in
      let ids : x.id ≡ y.id = sym (ap (λ (m : Name). m.id) is_x) ∙ (same ∙ ap (λ (m : Name). m.id) is_y) in
      is_x ∙ (ap name_of (one_of_id leaves x y distinct in_x in_y ids) ∙ sym is_y)

  path : (f : Fresh) → 2 ^ 63 + 1001 ≤ f.next → IsPathIn t (low_root twig) (twig ∷ []) f
  path f next =
      let id = points.number in
      root_path twig leaves points.level_is points.lo points.hi points.node node low named once
      (λ n at e. let few = few_names n at in omega (arith, few, e, id)) (2 ^ 63 + 1001)
      (λ n at. let few = few_names n at in omega (arith, few)) (omega (arith, id)) f next
      (subst IsPointable (sym id) (lit< tt, refl))

  stands : (c : CellSeen) → Contains leaves c → t c.id ≡ Some (node_of c)
  stands c at = there (twig ∷ leaves) c (
    (λ x member e. let few = few_ids x member in let id = points.number in omega (arith, few, e, id)),
    distinct,
  ) (later twig c leaves at)

  beside : AreBeside t twig leaf more
  beside = record {
    follow =
        let end = last_hi least top leaf more are.follow in
        let first = are.follow.1 in
        subst (λ (lo : ℕ). Follow 1 lo (rank (last_leaf leaf more).hi) leaves) (sym first)
        (subst (λ (hi : ℕ). Follow 1 least hi leaves) (sym end) are.follow);
    named = named;
    stand = stands;
  }

  pub turn_in : (it : Item) → it.plugin ≡ 5 → IsNewExtent it → AreAround leaf more (rank it.key) (item_end it)
      → (f : Fresh)
      → f.next ≡ 2 ^ 63 + 1001 → f.end ≡ 2 ^ 63 + 2000 → IsTurnIn t (low_root twig) it leaf more twig [] f
  turn_in it five new around f next end =
      let wide : Fresh = record { next = 2 ^ 63 + 1001; end = 2 ^ 64 - 1 } in
      let free = (path wide (omega arith)).free in
      record {
        path = path f (omega (arith, next));
        level = points.level_is;
        number = omega (arith, next, end);
        beside = beside;
        around = around;
        given = given it five new;
        behind = let fits = new.fits in let count = ap blocks_in new.blocks in omega (arith, fits, count);
        blocks = new_blocks it five new t wide f free refl (omega arith) end;
        room = λ id right has.
            let small = turned_bytes twig pieces leaf more beside.follow named it right (given it five new) around in
            record {
              enough = inr (refl, (let level = points.level_is in omega (arith, level)));
              numbers = omega (arith, small, next, end);
            };
      }

  abbrev wide : Fresh
  wide = record { next = 2 ^ 63 + 1001; end = 2 ^ 64 - 1 }

  wide_path : IsPathIn t (low_root twig) (twig ∷ []) wide
  wide_path = path wide (omega arith)

  module _ (over : CellSeen) (above : IsPointingTo (twig ∷ []) 3 (2 ^ 63 + 1001) over) where
    pub high_path : (f : Fresh) → f.next ≡ 2 ^ 63 + 1002 → f.end ≤ 2 ^ 64 - 1
        → IsPathIn (by_name (over ∷ (twig ∷ leaves))) (high_root over) (twig ∷ (over ∷ [])) f
    high_path f next end =
        raised_path (twig ∷ leaves) twig over wide wide_path points.level_is above (omega arith) (omega arith)
        (omega arith) f (omega (arith, next)) end

    high_beside : AreBeside (by_name (over ∷ (twig ∷ leaves))) twig leaf more
    high_beside = record {
      follow = beside.follow;
      named = named;
      stand = λ c at.
          stays (twig ∷ leaves) twig over wide wide_path points.level_is above (omega arith) (omega arith) (omega arith)
          c.id (node_of c) (stands c at);
    }

    pub turn_high : (it : Item) → it.plugin ≡ 5 → IsNewExtent it → AreAround leaf more (rank it.key) (item_end it)
        → (f : Fresh) → f.next ≡ 2 ^ 63 + 1002 → f.end ≡ 2 ^ 63 + 2000
        → IsTurnIn (by_name (over ∷ (twig ∷ leaves))) (high_root over) it leaf more twig (over ∷ []) f
    turn_high it five new around f next end =
        let free_from : Fresh = record { next = 2 ^ 63 + 1002; end = 2 ^ 64 - 1 } in
        let free = (high_path free_from refl (omega arith)).free in
        record {
          path = high_path f next (omega (arith, end));
          level = points.level_is;
          number = omega (arith, next, end);
          beside = high_beside;
          around = around;
          given = given it five new;
          behind = let fits = new.fits in let count = ap blocks_in new.blocks in omega (arith, fits, count);
          blocks = new_blocks it five new (by_name (over ∷ (twig ∷ leaves))) free_from f free refl (omega arith) end;
          room = λ id right has.
              let small = turned_bytes twig pieces leaf more beside.follow named it right (given it five new) around in
              record {
                enough = inr (inr (refl, (let level = above.level_is in omega (arith, level))));
                numbers = omega (arith, small, next, end);
              };
        }

pub turn_here : (cells : List CellSeen) (twig : CellSeen) (ps : List TwigPiece) (it : Item) (end : ℕ) (f : Fresh)
    → AreLeaves cells
    → AllStand cells → IsPointingTo cells 2 (2 ^ 63 + 1000) twig → ArePiecesOf twig ps → it.plugin ≡ 5 → IsNewExtent it
    → end ≡ rank it.key + 8192 → LieAround cells (rank it.key) end → f.next ≡ 2 ^ 63 + 1001 → f.end ≡ 2 ^ 63 + 2000
    → (t : Store Value) × ((r : Root) × IsTurnUp t r it cells f (twig ∷ []))
turn_here [] twig ps it end f are stand points pieces five new behind around next stops = absurd around
turn_here (leaf ∷ more) twig ps it end f are stand points pieces five new behind around next stops =
    let here = subst (ArePiecesOf twig) pieces.is pieces in
    let lie = subst (λ (to : ℕ). AreAround leaf more (rank it.key) to) (behind ∙ sym (ends it five new)) around in (
      by_name (twig ∷ (leaf ∷ more)),
      (low_root twig, turn_in leaf more twig are stand points here it five new lie f next stops),
    )

pub turn_raised : (cells : List CellSeen) (twig : CellSeen) (path : List CellSeen) (ps : List TwigPiece) (it : Item)
    (end : ℕ) (f : Fresh) → AreLeaves cells → AllStand cells → IsPointingTo cells 2 (2 ^ 63 + 1000) twig
    → IsRaised twig (2 ^ 63 + 1001) path → ArePiecesOf twig ps → it.plugin ≡ 5 → IsNewExtent it
    → end ≡ rank it.key + 8192 → LieAround cells (rank it.key) end → f.next ≡ 2 ^ 63 + 1002 → f.end ≡ 2 ^ 63 + 2000
    → (t : Store Value) × ((r : Root) × IsTurnUp t r it cells f (reverse path))
turn_raised [] twig path ps it end f are stand points up pieces five new behind around next stops = absurd around
turn_raised (leaf ∷ more) twig path ps it end f are stand points up pieces five new behind around next stops =
    let here = subst (ArePiecesOf twig) pieces.is pieces in
    let lie = subst (λ (to : ℕ). AreAround leaf more (rank it.key) to) (behind ∙ sym (ends it five new)) around in (
      by_name (up.over ∷ (twig ∷ (leaf ∷ more))),
      (
        high_root up.over,
        subst (λ (p : List CellSeen). IsTurnUp (by_name (up.over ∷ (twig ∷ (leaf ∷ more)))) (high_root up.over) it
            (leaf ∷ more) f (reverse p)) (sym up.cells)
            (turn_high leaf more twig are stand points here up.over up.points it five new lie f next stops),
      ),
    )

pub may_be_below : (cells : List CellSeen) (twig : CellSeen) → IsPointingTo cells 2 (2 ^ 63 + 1000) twig
    → MayBeBelow twig
may_be_below cells twig points = record {
  level = points.level_is;
  lo = points.lo;
  hi = points.hi;
  able = subst IsPointable (sym points.number) (lit< tt, refl);
}
