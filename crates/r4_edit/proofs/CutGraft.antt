-- Blocks that are cut out of a twig: the pieces and the cells below it make a graft.
use Rattle.std.proofs.Common.{◌≡◌, ◌≢◌, ◌↔◌, ◌⊎◌, inl, inr, ℕ, ◌^◌, ◌<◌, ◌≤◌, true, List, [], ◌∷◌, ◌++◌, length, get_or, refl, sym, ap, subst, ◌∙◌, arith}
use Rattle.std.specs.Prelude.{Contains, Option, None, Some}
use Rattle.std.proofs.lemmas.Bool.{le-leb}
use Rattle.std.proofs.lemmas.List.{append-nil}
use Rattle.std.proofs.lemmas.List.Elements.{Contains-append_cases, Contains-append_right, Contains-get_or}
use Rattle.std.proofs.lemmas.List.Quantifiers.{all_pairs_push}
use Rattle.std.proofs.lemmas.Option.{same_Some}
use Rattle.r4_base.specs.Cell.{names_block}
use Rattle.r4_base.specs.Key.{least, rank, top}
use Rattle.r4_base.specs.Node.{mkfs_id_of}
use Rattle.r4_base.specs.Tree.{IsNode, Name, Node, Root, Store}
use Rattle.r4_base.specs.Value.{Value}
use Rattle.r4_base.specs.declared.key.Key.{Key}
use Rattle.r4_path.specs.r4_branch.Pieces.{AreTwigPieces, Follow, last_end, names_of, next_of, piece_end, twig_bytes, units_of}
use Rattle.r4_path.specs.r4_branch.declared.piece.TwigPiece.{TwigPiece}
use Rattle.r4_path.specs.r4_cell.Patch.{HaveNames}
use Rattle.r4_path.specs.r4_cell.Seen.{CellSeen, node_of}
use Rattle.r4_path.specs.r4_cell.declared.change.Fresh.{Fresh}
use Rattle.r4_path.proofs.r4_cell.Nodes.{cell_node}
use Rattle.r4_path.proofs.r4_graft.FoundPlaces.{next_lower}
use Rattle.r4_path.proofs.r4_graft.Placed.{follow_end, has_end, not_in_none}
use Rattle.r4_path.specs.r4_leaf.Units.{cut_units}
use Rattle.r4_path.specs.r4_patch.Joining.{ids_of}
use Rattle.r4_edit.specs.CutBlocks.{BeginsAt, IsCutIn, IsLeftOf, IsTakenUp, after_leaves, cut_pieces, end_key, new_pointer, numbers_for, parted_twice, pieces_behind, pieces_below, pieces_between}
use Rattle.r4_edit.specs.Extents.{given_cells}
use Rattle.r4_path.specs.TwigPieces.{ArePiecesOf, twig_pieces}
use Rattle.r4_path.specs.Grafts.{AreCountedBelow, IsGraftBelow, IsGraftOf, IsGraftedIn}
use Rattle.r4_path.specs.Sharing.{IsSound}
use Rattle.r4_path.specs.Steps.{CountUp, IsNameOf, name_of}
use Rattle.r4_path.specs.Twigs.{Below}
use Rattle.r4_edit.proofs.CutNames.{between_names}
use Rattle.r4_edit.proofs.CutOut.{IsLed, cut_bytes, cut_names, cut_twigs, cut_units_are, led_by}
use Rattle.r4_edit.proofs.CutParts.{AreSplit, split, twice_bytes, twice_follow, twice_names, twice_next, twice_units}
use Rattle.r4_edit.proofs.CutTaken.{AreNew, next_higher, next_is, over_few, over_new}
use Rattle.r4_path.proofs.GraftBelow.{path_later}
use Rattle.r4_path.proofs.r4_patch.Members.{cases, have_names, here, none}
use Rattle.r4_path.proofs.Rising.{hi_is, id_member, level_is, lo_is}

-- a fresh number may stand in a pointer
pub may_be_named : (id : ℕ) → 2 ^ 63 ≤ id → names_block true (2 ^ 64) (Some id) ≡ true
may_be_named id high = rw (le-leb (2 ^ 63) id high) refl

pub sound_node : (c : CellSeen) → IsSound c → c.level ≡ 1 → least ≤ rank c.lo
    → rank c.lo < rank c.hi → rank c.hi ≤ top → IsNode (node_of c)
sound_node c ok level from some to =
    cell_node true (2 ^ 64) c.level (rank c.lo) (rank c.hi) c.block ok.whole (omega (arith, level))
    from some to ok.accepted

begins_low : (k from to : ℕ) (qs : List TwigPiece) → Follow from to qs → BeginsAt k qs → k < to
begins_low k from to [] f begins = absurd begins
begins_low k from to (q ∷ qs) f begins =
    let e = has_end q f.1 in
    let r = follow_end (piece_end q) to qs f.2 in
    omega (arith, e, r, begins)

module _ (t : Store Value) (r : Root) (leaf : Option CellSeen) (blocks : List CellSeen) (from to : ℕ) (fresh : Fresh)
    (twig : CellSeen) (ups : List CellSeen) (are : ArePiecesOf twig (twig_pieces twig))
    (is : IsCutIn t r leaf blocks from to fresh twig ups) (unplaced : 2 ^ 63 ≤ fresh.next) where
  abbrev lo : ℕ
  lo = rank twig.lo

  abbrev hi : ℕ
  hi = rank twig.hi

  abbrev ps : List TwigPiece
  ps = twig_pieces twig

  abbrev pp : List TwigPiece
  pp = parted_twice from to ps

  abbrev xs : List TwigPiece
  xs = pieces_below from pp

  abbrev ms : List TwigPiece
  ms = pieces_between from to pp

  abbrev ys : List TwigPiece
  ys = pieces_behind to pp

  s : AreSplit lo hi from to pp xs ms ys
  s = split lo hi from to ps are.pieces.follow is.low is.some is.high is.first_border is.second_border

  follow : Follow lo hi pp
  follow = twice_follow lo hi from to ps are.pieces.follow is.low is.some is.high is.first_border is.second_border

  names_are : names_of hi pp ≡ (node_of twig).names
  names_are = twice_names lo hi from to ps are.pieces.follow is.low is.some is.high is.first_border is.second_border hi ∙ are.names

  led : (l : Option CellSeen) → IsLeftOf t twig ms l → IsLed l xs ms
  led None left = tt
  led (Some l) left = (
    led_by lo hi xs ms ys l left.ends (subst (Follow lo hi) s.is follow)
        (subst (λ qs. Contains (names_of hi qs) (name_of l)) s.is (subst (λ ns. Contains ns (name_of l)) (sym names_are) left.named)) left.level_is,
    (left.level_is, left.ends),
  )

  abbrev qs : List TwigPiece
  qs = cut_pieces from to fresh.next leaf twig

  pub cut_twig_pieces : AreTwigPieces lo hi qs
  cut_twig_pieces =
      let low = is.low in
      let some = is.some in
      let high = is.high in
      cut_twigs lo hi from to pp xs ms ys s fresh.next leaf (led leaf is.left) (may_be_named fresh.next unplaced) (omega (arith, low, some, high))
      (twice_next lo hi from to ps are.pieces.follow is.low is.some is.high is.first_border is.second_border hi ∙ are.pieces.first)

  pub cut_fits : twig_bytes qs ≤ 16000
  cut_fits =
      let a = cut_bytes lo hi from to pp xs ms ys s fresh.next leaf in
      let b = twice_bytes lo hi from to ps are.pieces.follow is.low is.some is.high is.first_border is.second_border in
      let c = are.fits in
      omega (arith, a, b, c)

  pub cut_has_units : units_of qs ≡ cut_units from to (node_of twig).units
  cut_has_units =
      cut_units_are lo hi from to pp xs ms ys s fresh.next leaf
      ∙ ap (cut_units from to) (twice_units lo hi from to ps are.pieces.follow is.low is.some is.high is.first_border is.second_border ∙ are.units)

  -- ---- numbers

  few : (l : Option CellSeen) → numbers_for l (new_pointer from to fresh.next l pp) ≤ 1
  few None = over_few (last_end None xs) fresh.next ms
  few (Some l) = omega arith

  abbrev later : Fresh
  later = after_leaves from to leaf twig fresh

  pub cut_grafted : IsGraftedIn t r qs twig ups later
  cut_grafted =
      let room = is.room fresh.next in
      let numbers = room.numbers in
      let one = few leaf in
      record {
        path = path_later t r (twig ∷ ups) fresh later (omega arith) refl room.path;
        level = room.level;
        pieces = cut_twig_pieces;
        bytes = cut_fits;
        enough = room.enough;
        numbers = omega (arith, numbers, one);
      }

  -- ---- the cells

  abbrev key : Key
  key = end_key from to twig

  ends : rank key ≡ next_of hi ys
  ends = next_is twig.hi ys

  ends_behind : to ≤ rank key
  ends_behind = let e = ends in let l = next_lower to hi ys s.right in omega (arith, e, l)

  ends_within : rank key ≤ hi
  ends_within = let e = ends in let l = next_higher to hi ys s.right in omega (arith, e, l)

  pub cut_wider : (l : CellSeen) → IsLeftOf t twig ms (Some l) → rank l.hi < rank key
  cut_wider l left = let a = begins_low (rank l.hi) from to ms s.mid left.ends in let b = ends_behind in omega (arith, a, b)

  twig_node : IsNode (node_of twig)
  twig_node = let room = is.room fresh.next in room.path.part.nodes twig.id (node_of twig) room.path.ascends.0

  from_least : least ≤ lo
  from_least = let n = twig_node.from_least in let e = lo_is twig in omega (arith, n, e)

  to_top : hi ≤ top
  to_top = let n = twig_node.to_top in let e = hi_is twig in omega (arith, n, e)

  module _ (come : List CellSeen) (taken : IsTakenUp leaf (new_pointer from to fresh.next leaf pp) fresh.next key (mkfs_id_of twig.block) come) where
    abbrev below : Below
    below = record { old = blocks ++ given_cells leaf; new = come }

    new_are : IsTakenUp None (new_pointer from to fresh.next None pp) fresh.next key (mkfs_id_of twig.block) come
        → AreNew from to fresh.next (next_of hi ys) key (new_pointer from to fresh.next None pp) come
    new_are all = over_new from to fresh.next (next_of hi ys) key (last_end None xs) ms (mkfs_id_of twig.block) come s.mid ends all

    nodes : (l : Option CellSeen) → IsLeftOf t twig ms l → IsTakenUp l (new_pointer from to fresh.next l pp) fresh.next key (mkfs_id_of twig.block) come
        → (c : CellSeen) → Contains come c → IsNode (node_of c)
    nodes None left all c at =
        let new = (new_are all).each c at in
        let low = new.low in
        let some = new.some in
        let up = ap (λ (k : Key). rank k) new.ends in
        let behind = ends_behind in
        let within = ends_within in
        let a = from_least in
        let b = to_top in
        let first = is.low in
        sound_node c new.sound new.level_is (omega (arith, a, first, low)) (omega (arith, some, up, behind)) (omega (arith, up, within, b))
    nodes (Some l) left (d, same, wide) c at =
        let node = (is.room fresh.next).path.part.nodes l.id (node_of l) left.stands in
        let one : c ≡ record l { hi = key } = elim (cases d c [] (subst (λ cells. Contains cells c) same at)) [
          | inl this ↦ this ∙ wide.is
          | inr more ↦ absurd (none c more)
        ] in
        let this : c ≡ d = elim (cases d c [] (subst (λ cells. Contains cells c) same at)) [
          | inl this ↦ this
          | inr more ↦ absurd (none c more)
        ] in
        let level = ap (λ (x : CellSeen). x.level) one in
        let starts : rank c.lo ≡ rank l.lo = ap (λ (x : CellSeen). rank x.lo) one in
        let up : rank c.hi ≡ rank key = ap (λ (x : CellSeen). rank x.hi) one in
        let l_lo = lo_is l in
        let l_hi = hi_is l in
        let a = node.from_least in
        let n = node.nonempty in
        let b = to_top in
        let within = ends_within in
        let wider = cut_wider l left in
        sound_node c (subst IsSound (sym this) wide.sound) (level ∙ left.level_is) (omega (arith, a, l_lo, starts)) (omega (arith, n, l_lo, l_hi, starts, up, wider)) (omega (arith, up, within, b))

    -- ---- what goes

    between : (n : Name) → Contains (names_of (next_of hi ys) ms) n ↔ IsNameOf blocks n
    between n =
        let b = between_names lo hi from to pp xs ms ys s (λ m at. is.clear m (subst (λ ns. Contains ns m) names_are at)) n in (
          (λ at. let h = b.0 at in (is.goes n).1 (subst (λ ns. Contains ns n) names_are h.0, h.1)),
          (λ h. let g = (is.goes n).0 h in b.1 (subst (λ ns. Contains ns n) (sym names_are) g.0, g.1)),
        )

    -- A cell that goes is named by the twig, and stands.
    abbrev IsGoing : CellSeen → Type 0
    IsGoing c = Contains (node_of twig).names (name_of c) × (t c.id ≡ Some (node_of c))

    goes : (l : Option CellSeen) → IsLeftOf t twig ms l → (c : CellSeen) → Contains (blocks ++ given_cells l) c → IsGoing c
    goes l left c at = elim (Contains-append_cases blocks (given_cells l) c at) [
      | inl block ↦ (((is.goes (name_of c)).0 (c, block, refl)).0, is.stand c block)
      | inr other ↦ by_leaf l left other
    ]
      where
        by_leaf : (o : Option CellSeen) → IsLeftOf t twig ms o → Contains (given_cells o) c → IsGoing c
        by_leaf None h none_is = absurd (not_in_none c none_is)
        by_leaf (Some d) h here_is = elim (cases d c [] here_is) [
          | inl same ↦ subst IsGoing (sym same) (h.named, h.stands)
          | inr none_is ↦ absurd (none c none_is)
        ]

    level_of_block : (c : CellSeen) → Contains blocks c → c.level ≡ 0
    level_of_block c at = ((is.goes (name_of c)).0 (c, at, refl)).1.0

    once : (l : Option CellSeen) → IsLeftOf t twig ms l → HaveNames (blocks ++ given_cells l)
    once None left = subst HaveNames (sym (append-nil blocks)) is.once
    once (Some l) left = all_pairs_push (λ (c d : CellSeen). c.id ≢ d.id) blocks l is.once (λ k d lt same.
        let at = Contains-get_or blocks k d lt in
        let c = get_or blocks k d in
        let nodes_same : node_of c ≡ node_of l = same_Some (node_of c) (node_of l) (sym (is.stand c at) ∙ (ap t same ∙ left.stands)) in
        let levels : (node_of c).level ≡ (node_of l).level = ap (λ (x : Node Value). x.level) nodes_same in
        let one = level_is c in
        let two = level_is l in
        let zero_is = level_of_block c at in
        let leaf_is = left.level_is in
        omega (arith, levels, one, two, zero_is, leaf_is))

    pub cut_of : IsGraftOf t twig qs below []
    cut_of = record {
      goes = λ c at. (goes leaf is.left c at).0;
      gone = λ c at. (goes leaf is.left c at).1;
      names = by_name;
      nodes = nodes leaf is.left taken;
      blocks = λ n at. absurd (not_in_none n at);
    }
      where
        by_name : (n : Name) → Contains (names_of hi qs) n ↔ ((Contains (node_of twig).names n × (IsNameOf below.old n → ⊥)) ⊎ (IsNameOf come n ⊎ Contains [] n))
        by_name n =
            let all = cut_names lo hi from to pp xs ms ys s fresh.next blocks follow key (mkfs_id_of twig.block) ends between leaf (led leaf is.left) come taken n in (
              (λ at. elim (all.0 at) [
                | inl was ↦ inl (subst (λ ns. Contains ns n) names_are was.0, was.1)
                | inr new ↦ inr (inl new)
              ]),
              (λ h. all.1 (elim h [
                | inl was ↦ inl (subst (λ ns. Contains ns n) (sym names_are) was.0, was.1)
                | inr new ↦ elim new [
                  | inl cell ↦ inr cell
                  | inr none_is ↦ absurd (not_in_none n none_is)
                ]
              ])),
            )

    -- the numbers that new leaves have
    abbrev Numbers : Option CellSeen → Type 0
    Numbers l = (mine : List ℕ) × ((c : CellSeen) → Contains come c → Contains (ids_of (blocks ++ given_cells l)) c.id ⊎ Contains mine c.id)
        × CountUp fresh.next mine × (length mine ≡ numbers_for l (new_pointer from to fresh.next l pp)) × HaveNames come

    numbers : (l : Option CellSeen) → IsTakenUp l (new_pointer from to fresh.next l pp) fresh.next key (mkfs_id_of twig.block) come → Numbers l
    numbers None all =
        let new = new_are all in
        (ids_of come, (λ c at. inr (id_member come c at)), new.counts, new.long, have_names come new.once)
    numbers (Some l) (d, same, wide) = (
      [],
      (λ c at. inl (elim (cases d c [] (subst (λ cells. Contains cells c) same at)) [
        | inl this ↦
            let id : l.id ≡ c.id = sym (ap (λ (x : CellSeen). x.id) (this ∙ wide.is)) in
            subst (λ (i : ℕ). Contains (ids_of (blocks ++ (l ∷ []))) i) id (id_member (blocks ++ (l ∷ [])) l (Contains-append_right blocks (l ∷ []) l (here l [])))
        | inr more ↦ absurd (none c more)
      ])),
      tt,
      refl,
      subst HaveNames (sym same) (have_names (d ∷ []) ((λ y at e. absurd (none y at)), tt)),
    )

    counted : AreCountedBelow t below [] fresh.next later
    counted =
        let (mine, each, counts, long, new) = numbers leaf taken in
        record {
          mine = mine;
          old = once leaf is.left;
          new = new;
          each = each;
          counts = counts;
          ends = omega (arith, long);
          free = (is.room fresh.next).path.free;
          blocks = λ n at. absurd (not_in_none n at);
          once = λ i j d less lt. absurd (omega (arith, lt));
        }

    pub cut_below : IsGraftBelow t r qs below [] fresh.next later twig ups
    cut_below = record {
      data_names = [];
      grafted = cut_grafted;
      of = cut_of;
      blocks_are = record { names = refl; whole = λ c at. absurd (not_in_none c at) };
      counted = counted;
    }
