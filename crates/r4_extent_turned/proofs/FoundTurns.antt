-- What may be turned of the cells of a part of a tree that have the budget.
use Rattle.std.proofs.Common.{◌≡◌, inl, inr, ℕ, ◌+◌, ◌-◌, ◌/◌, ◌<◌, ◌≤◌, Bool, true, false, List, [], ◌∷◌, length, refl, sym, ap, subst, arith, ◌∙◌}
use Rattle.std.specs.Prelude.{Contains, None, Option, Some, find, if◌then◌else◌, not, ◌==◌, ◌&&◌, ◌++◌}
use Rattle.std.specs.List.{filter}
use Rattle.std.proofs.lemmas.Option.{none-some, same_Some}
use Rattle.r4_base.specs.Key.{rank}
use Rattle.r4_base.proofs.Trees.{one_cell}
use Rattle.r4_base.specs.Tree.{Node, Root, Store}
use Rattle.r4_base.specs.Value.{Value}
use Rattle.r4_content.specs.Edited.{Edits}
use Rattle.r4_extent_shrink.specs.r4_extent_growth.Coming.{SufficesFor}
use Rattle.r4_extent_shrink.specs.r4_extent_growth.r4_extent_change.Changing.{AreMeasured}
use Rattle.r4_extent_shrink.specs.r4_extent_growth.r4_measure.Budget.{AreUnplaced, Budget}
use Rattle.r4_extent_shrink.specs.r4_extent_growth.r4_measure.Grafting.{IsQuietBelow}
use Rattle.r4_extent_shrink.specs.r4_extent_growth.r4_measure.r4_branch.Pieces.{twig_bytes}
use Rattle.r4_extent_shrink.specs.r4_extent_growth.r4_measure.r4_branch.declared.piece.TwigPart.TheVariants.{Pointer}
use Rattle.r4_extent_shrink.specs.r4_extent_growth.r4_measure.r4_cell.Patch.{HaveNames}
use Rattle.r4_extent_shrink.specs.r4_extent_growth.r4_measure.r4_cell.Seen.{CellSeen, node_of}
use Rattle.r4_extent_shrink.specs.r4_extent_growth.r4_measure.r4_cell.declared.change.Fresh.{Fresh}
use Rattle.r4_extent_shrink.specs.r4_extent_growth.r4_measure.r4_edit.Extents.{given_cells}
use Rattle.r4_extent_shrink.specs.r4_extent_growth.r4_measure.r4_edit.LeafParts.{HasRight}
use Rattle.r4_extent_shrink.proofs.r4_extent_growth.r4_measure.r4_edit.OverLeaf.{first_there}
use Rattle.r4_extent_shrink.specs.r4_extent_growth.r4_measure.r4_leaf.Units.{is_between}
use Rattle.r4_extent_shrink.specs.r4_extent_growth.r4_extent_build.Growing.{end_after}
use Rattle.r4_base.specs.declared.key.Key.{Key}
use Rattle.std.proofs.lemmas.Bool.{and_parts}
use Rattle.std.proofs.lemmas.List.{append-nil}
use Rattle.r4_extent_shrink.proofs.r4_extent_growth.Turns.{each}
use Rattle.r4_extent_shrink.proofs.r4_extent_growth.r4_extent_loss.r4_extent_edit.ExtentEffect.{is_on}
use Rattle.r4_extent_turn.proofs.Bodies.{coming_is}
use Rattle.r4_extent_shrink.specs.r4_extent_growth.r4_extent_build.r4_extent_edit.Turning.{last_leaf}
use Rattle.r4_extent_shrink.specs.r4_extent_growth.r4_measure.r4_path.Steps.{name_of}
use Rattle.r4_extent_shrink.specs.r4_extent_growth.r4_measure.r4_reach.Needs.{pieces_after}
use Rattle.r4_extent_shrink.specs.r4_extent_growth.r4_measure.r4_reach.Touched.{Body, coming, first_byte}
use Rattle.r4_extent_shrink.specs.r4_extent_growth.r4_measure.r4_work.Working.{AreCellsIn}
use Rattle.r4_extent_shrink.proofs.r4_extent_growth.r4_extent_change.Chosen.{picked}
use Rattle.r4_extent_shrink.proofs.r4_extent_growth.r4_extent_loss.r4_extent_edit.TurnGraft.{distinct_leaves}
use Rattle.r4_extent_shrink.proofs.r4_extent_growth.r4_measure.r4_branch.Following.{bytes_more}
use Rattle.r4_extent_shrink.proofs.r4_extent_growth.r4_measure.r4_patch.Members.{cases, have_names, here, later}
use Rattle.r4_extent_shrink.proofs.r4_extent_growth.r4_measure.r4_patch.PartCells.{apart, parent, root_high}
use Rattle.r4_extent_shrink.proofs.r4_extent_growth.r4_measure.r4_path.Rising.{follow_within, hi_is, in_node, level_is, lo_is}
use Rattle.r4_extent_shrink.specs.r4_extent_growth.r4_measure.r4_branch.declared.piece.TwigPiece.{TwigPiece}
use Rattle.r4_extent_turn.specs.Asked.{without_turned}
use Rattle.r4_extent_turn.specs.Turning.{AreKept, IsTurnFor, Kept, Turn, last_of, leaves_of, told_pieces}
use Rattle.r4_extent_turn.proofs.AskedRoom.{turned_room}
use Rattle.r4_extent_turn.proofs.Keeps.{ends_before}
use Rattle.r4_extent_turned.specs.Finding.{is_leaf_of, is_twig_of, turn_among, turn_with}
use Rattle.r4_extent_turned.specs.MayTurn.{MayTurnWhole, coming_turned, twig_turning}
use Rattle.r4_extent_turned.specs.Suiting.{is_clear, pieces_turned}
use Rattle.r4_extent_turned.specs.Whole.{CanTurn}

-- ---- what was found is among the cells

last_there : (c : CellSeen) (cs : List CellSeen) → Contains (c ∷ cs) (last_leaf c cs)
last_there c [] = here c []
last_there c (d ∷ ds) = later c (last_leaf d ds) (d ∷ ds) (last_there d ds)

found_in : (p : CellSeen → Bool) (cells : List CellSeen) (c : CellSeen) → find p cells ≡ Some c → Contains cells c
found_in p [] c is = absurd (none-some c is)
found_in p (d ∷ ds) c is = by_test (p d) is (λ h. found_in p ds c h)
  where
    by_test : (v : Bool) → (if v then Some d else find p ds) ≡ Some c → (find p ds ≡ Some c → Contains ds c) → Contains (d ∷ ds) c
    by_test true same more = subst (Contains (d ∷ ds)) (same_Some d c same) (here d ds)
    by_test false same more = later d c ds (more same)

parts : (o : Option CellSeen) (cs : List CellSeen) (x : Turn) → turn_with o cs ≡ Some x → (o ≡ Some x.twig) × (cs ≡ leaves_of x)
parts None cs x is = absurd (none-some x is)
parts (Some twig) [] x is = absurd (none-some x is)
parts (Some twig) (c ∷ cs) x is =
    let same = same_Some (record { twig = twig; leaf = c; more = cs }) x is in
    (ap (λ (y : Turn). Some y.twig) same, ap leaves_of same)

module _ (b : Body) (cells : List CellSeen) (x : Turn) (is : turn_among b cells ≡ Some x) where
  abbrev two : (find (is_twig_of b) cells ≡ Some x.twig) × (filter (is_leaf_of b) cells ≡ leaves_of x)
  two = parts (find (is_twig_of b) cells) (filter (is_leaf_of b) cells) x is

  pub twig_in : Contains cells x.twig
  twig_in = found_in (is_twig_of b) cells x.twig two.0

  pub leaf_in : (c : CellSeen) → Contains (leaves_of x) c → Contains cells c
  leaf_in c at = (picked (is_leaf_of b) cells c (subst (λ cs. Contains cs c) (sym two.1) at)).0

-- ---- and has its turn in the part

module _ (t : Store Value) (r : Root) (f : Fresh) (cells : List CellSeen) (in_part : AreCellsIn t r f cells) where
  -- a leaf that has a key of a twig's range is named by it
  named : (twig c : CellSeen) (k : ℕ) → Contains cells twig → twig.level ≡ 2 → Contains cells c → c.level ≡ 1 → rank c.lo ≤ k → k < rank c.hi → rank twig.lo ≤ k → k < rank twig.hi → Contains (node_of twig).names (name_of c)
  named twig c k at high m one low below from to = elim (parent t r in_part.part c.id (node_of c) (in_part.stand c m)) [
    | inl top ↦
        let over = root_high t r in_part.part c.id (node_of c) (in_part.stand c m) top in
        let l = level_is c in
        let h = in_part.part.height in
        absurd (omega (arith, over, l, h, one))
    | inr (j, d, n, sd, in_d, id, fit) ↦
        let node = in_part.part.nodes j d sd in
        let lv = fit.level in
        let flo = fit.lo in
        let fhi = fit.hi in
        let cl = level_is c in
        let clo = lo_is c in
        let chi = hi_is c in
        let level : d.level ≡ 2 = elim (node.below n in_d) [ inl h ↦ omega (arith, h, lv, cl, one) | inr h ↦ h.0 ] in
        let first = node.name_from n in_d in
        let last = node.name_to n in_d in
        let tl = level_is twig in
        let same : j ≡ twig.id = apart t r in_part.part j twig.id d (node_of twig) k sd (in_part.stand twig at) (omega (arith, level, tl, high)) (omega (arith, level)) (omega (arith, first, flo, clo, low), omega (arith, last, fhi, chi, below)) (in_node twig k (from, to)) in
        let nodes : d ≡ node_of twig = one_cell t twig.id d (node_of twig) (subst (λ z. t z ≡ Some d) same sd) (in_part.stand twig at) in
        let level_at : n.level ≡ c.level = omega (arith, lv, cl) in
        let lo_at : n.lo ≡ rank c.lo = omega (arith, flo, clo) in
        let hi_at : n.hi ≡ rank c.hi = omega (arith, fhi, chi) in
        let name : n ≡ name_of c = λ i. record { id = id i; level = level_at i; lo = lo_at i; hi = hi_at i } in
        subst (Contains (node_of twig).names) name (subst (λ (y : Node Value). Contains y.names n) nodes in_d)
  ]

  module _ (b : Body) (e : Edits) (x : Turn) (may : MayTurnWhole b e f cells x) (is : turn_among b cells ≡ Some x) where
    named_leaf : (c : CellSeen) → Contains (leaves_of x) c → Contains (node_of x.twig).names (name_of c)
    named_leaf c at =
        let w = follow_within 1 (rank x.leaf.lo) (rank (last_of x).hi) (leaves_of x) c may.beside at in
        elim (cases x.leaf c x.more at) [
          | inl first ↦
              let low = may.around.low in
              let begins = may.around.begins in
              let lo : rank c.lo ≡ rank x.leaf.lo = ap (λ (z : CellSeen). rank z.lo) first in
              let hi : rank c.hi ≡ rank x.leaf.hi = ap (λ (z : CellSeen). rank z.hi) first in
              named x.twig c (first_byte b) (twig_in b cells x is) may.level (leaf_in b cells x is c at) w.level_as (omega (arith, lo, low)) (omega (arith, hi, begins)) may.begins.0 may.begins.1
          | inr more ↦
              let v = follow_within 1 (rank x.leaf.hi) (rank (last_of x).hi) x.more c may.beside.3 more in
              let from = v.from in
              let some = w.nonempty in
              let begins = may.around.begins in
              let low = may.begins.0 in
              named x.twig c (rank c.lo) (twig_in b cells x is) may.level (leaf_in b cells x is c at) w.level_as (omega arith) some (omega (arith, low, begins, from)) (reaches c at some)
        ]
      where
        reaches : (c : CellSeen) → Contains (leaves_of x) c → rank c.lo < rank c.hi → rank c.lo < rank x.twig.hi
        reaches c at some = elim (ends_before (rank x.leaf.lo) (rank (last_of x).hi) x.leaf x.more c may.beside at) [
          | inl last ↦ let lo : rank c.lo ≡ rank (last_of x).lo = ap (λ (z : CellSeen). rank z.lo) last in let h = may.reaches in omega (arith, lo, h)
          | inr first ↦ let h = may.reaches in omega (arith, first, h, some)
        ]

    turn_for : IsTurnFor b x
    turn_for = record {
      pieces = may.pieces;
      node = in_part.part.nodes x.twig.id (node_of x.twig) (in_part.stand x.twig (twig_in b cells x is));
      level = may.level;
      beside = may.beside;
      named = named_leaf;
      nodes = λ c at. in_part.part.nodes c.id (node_of c) (in_part.stand c (leaf_in b cells x is c at));
      once = have_names (leaves_of x) (distinct_leaves t (rank x.leaf.lo) (rank (last_of x).hi) (leaves_of x) may.beside (λ c at. in_part.stand c (leaf_in b cells x is c at)));
      around = may.around;
      short = may.short;
      no_holes = may.no_holes;
    }

    abbrev stays_none : Bool
    stays_none = (last_of x).level == 1 && is_clear (coming b).1 (rank (last_of x).hi) (last_of x)

    one_right : (o : Option CellSeen) → length (given_cells o) ≤ 1
    one_right None = omega arith
    one_right (Some c) = omega arith

    -- nothing stays of the last leaf that has no unit behind the blocks that come
    none_right : stays_none ≡ true → (to : Key) → rank to ≡ end_after b → (id : ℕ) → (o : Option CellSeen)
        → HasRight (last_of x) to id o → length (given_cells o) ≤ 0
    none_right is to at id None has = omega arith
    none_right is to at id (Some c) has =
        let (v, unit, k) = first_there (rank to) (node_of (last_of x)).units (rank c.lo) has.from in
        let node = turn_for.nodes (last_of x) (last_there x.leaf x.more) in
        let (low, high) = node.unit_in (rank c.lo) v unit in
        let hi = hi_is (last_of x) in
        let come : (coming b).1 ≡ end_after b = ap (λ (r : ℕ × ℕ). r.1) (coming_is b may.first may.turning) in
        let clear = (and_parts ((last_of x).level == 1) (is_clear (coming b).1 (rank (last_of x).hi) (last_of x)) is).1 in
        let off = each (λ (u : ℕ × Value). not (is_between (coming b).1 (rank (last_of x).hi) u.0))
        (node_of (last_of x)).units clear (rank c.lo, v) unit in
        let on = is_on (coming b).1 (rank (last_of x).hi) (rank c.lo) (omega (arith, come, at, k)) (omega (arith, high, hi)) in
        absurd (let f : false ≡ true = sym (ap not on) ∙ off in cc)

    -- whatever stays of the leaves
    needs : (s : Kept) → AreKept b x s → twig_bytes (told_pieces b e x s) ≤ twig_bytes (pieces_turned b e x.twig (last_of x))
    needs s kept = by stays_none refl
      where
        rest : List TwigPiece
        rest = without_turned b (pieces_after (Some b) e (node_of x.twig) [])

        by : (t : Bool) → stays_none ≡ t → twig_bytes (told_pieces b e x s)
            ≤ twig_bytes (rest ++ (if t then [] else (record { key = x.twig.lo; part = Pointer (record { 0 = x.twig.id }) } ∷ [])))
        by true is =
            let room = turned_room b x turn_for [] (λ p at gone. absurd cc) s kept may.first may.turning e in
            let few = none_right is kept.to kept.to_is kept.right_id s.right kept.right in
            let same = ap twig_bytes (append-nil rest) in
            omega (arith, room, few, same)
        by false is =
            let room = turned_room b x turn_for [] (λ p at gone. absurd cc) s kept may.first may.turning e in
            let few = one_right s.right in
            let more = bytes_more rest (record { key = x.twig.lo; part = Pointer (record { 0 = x.twig.id }) }) in
            omega (arith, room, few, more)

    fewer : (n m : ℕ) → n ≤ m → (n - 4068 + 1023) / 1024 ≤ (m - 4068 + 1023) / 1024
    fewer n m h = omega (arith, h)

    pub can_turn : (u : Budget) → HaveNames cells → AreMeasured t r u cells → IsQuietBelow u → AreUnplaced f → SufficesFor u (twig_turning b e x) → CanTurn b e u t r f cells x
    can_turn u names measured quiet unplaced suffices = record {
      first = may.first;
      turning = may.turning;
      cells_in = in_part;
      names = names;
      measured = measured;
      quiet = quiet;
      sound = may.sound;
      turn = record {
        twig = twig_in b cells x is;
        leaves = leaf_in b cells x is;
        pieces = may.pieces;
        level = may.level;
        beside = may.beside;
        named = named_leaf;
        around = may.around;
        short = may.short;
        no_holes = may.no_holes;
      };
      bytes = λ s kept. let n = needs s kept in let m = may.bytes in omega (arith, n, m);
      come = λ s kept.
          let told = suffices (coming_turned b e x) (0, omega arith, refl) in
          let less = fewer (twig_bytes (told_pieces b e x s)) (twig_bytes (pieces_turned b e x.twig (last_of x))) (needs s kept) in
          omega (arith, told, less);
      before = may.before;
      lie = may.lie;
      room = may.room;
      unplaced = unplaced;
      numbers = may.numbers;
    }
