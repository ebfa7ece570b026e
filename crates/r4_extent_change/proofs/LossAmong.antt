-- What goes of a twig among a task's cells is what goes of it in the part of a tree in which they stand.
use Rattle.std.proofs.Common.{◌≡◌, ◌↔◌, inl, inr, ◌<◌, ◌≤◌, Bool, true, false, List, [], ◌∷◌, refl, sym, ap, subst, ◌∙◌, arith}
use Rattle.std.specs.Prelude.{◌==◌, ◌&&◌, Contains, None, Option, Some, nat_le, nat_lt, if◌then◌else◌}
use Rattle.std.specs.List.{filter}
use Rattle.std.proofs.lemmas.Bool.{and_parts, eq-eqb, eqb-true, le-leb, leb-true, ltb-true}
use Rattle.std.proofs.lemmas.List.Elements.{Contains-append_cases}
use Rattle.r4_base.proofs.Trees.{one_cell}
use Rattle.r4_base.specs.Key.{rank}
use Rattle.r4_base.specs.Tree.{Name, Node, Root, Store}
use Rattle.r4_base.specs.Value.{Value}
use Rattle.r4_extent_loss.proofs.Begins.{begins_there}
use Rattle.r4_extent_loss.proofs.LostPieces.{gone_high, gone_low}
use Rattle.r4_extent_loss.proofs.r4_extent_edit.ExtentEffect.{is_on}
use Rattle.r4_extent_loss.specs.Losing.{IsLeft, gone_from, gone_to, in_gone}
use Rattle.r4_extent_loss.specs.LosingEach.{IsLossIn}
use Rattle.r4_build.proofs.r4_measure.r4_patch.Members.{cases, distinct, have_names, here, later, none}
use Rattle.r4_build.proofs.r4_measure.r4_patch.PartCells.{apart, parent, root_high}
use Rattle.r4_build.proofs.r4_measure.r4_path.Rising.{hi_is, in_node, level_is, lo_is}
use Rattle.r4_build.proofs.r4_measure.r4_work.InPlace.{now_part, standing_is}
use Rattle.r4_build.proofs.r4_measure.r4_work.UnitMembers.{between}
use Rattle.r4_build.specs.r4_measure.r4_cell.Patch.{HaveNames}
use Rattle.r4_build.specs.r4_measure.r4_cell.Seen.{CellSeen, node_of}
use Rattle.r4_build.specs.r4_measure.r4_cell.declared.change.Fresh.{Fresh}
use Rattle.r4_build.specs.r4_measure.r4_edit.Extents.{given_cells}
use Rattle.r4_build.specs.r4_measure.r4_patch.Part.{IsPart}
use Rattle.r4_build.specs.r4_measure.r4_path.Sharing.{IsSound}
use Rattle.r4_build.specs.r4_measure.r4_path.Steps.{IsNameOf, name_of}
use Rattle.r4_build.specs.r4_measure.r4_path.TwigPieces.{twig_pieces}
use Rattle.r4_build.specs.r4_measure.r4_reach.Touched.{Body}
use Rattle.r4_build.specs.r4_measure.r4_work.Working.{IsWorking, now_of, root_of, standing}
use Rattle.r4_build.specs.r4_measure.r4_work.declared.working.WorkingSet.{WorkingSet}
use Rattle.r4_extent_change.specs.Among.{is_block_of, is_left_of, is_losing, left_among, loss_among, losing_twigs}
use Rattle.r4_extent_change.specs.Losing.{HasLoss}
use Rattle.r4_extent_change.proofs.Chosen.{kept_in, picked, picked_apart}

-- ---- the leaf that is found

abbrev IsFound : (b : Body) (twig : CellSeen) → List CellSeen → Option CellSeen → Type 0
IsFound b twig cells None = (c : CellSeen) → Contains cells c → is_left_of b twig c ≡ true → ⊥
IsFound b twig cells (Some l) = Contains cells l × (is_left_of b twig l ≡ true)

found_more : (b : Body) (twig c : CellSeen) (cells : List CellSeen) (o : Option CellSeen) → is_left_of b twig c ≡ false → IsFound b twig cells o → IsFound b twig (c ∷ cells) o
found_more b twig c cells None off found = λ d at on. elim (cases c d cells at) [
  | inl same ↦ let bad : true ≡ false = sym on ∙ (ap (is_left_of b twig) same ∙ off) in cc
  | inr more ↦ found d more on
]
found_more b twig c cells (Some l) off (at, on) = (later c l cells at, on)

found_one : (v : Bool) (b : Body) (twig c : CellSeen) (cells : List CellSeen) (o : Option CellSeen) → is_left_of b twig c ≡ v → IsFound b twig cells o → IsFound b twig (c ∷ cells) (if v then Some c else o)
found_one true b twig c cells o is found = (here c cells, is)
found_one false b twig c cells o is found = found_more b twig c cells o is found

found_left : (b : Body) (twig : CellSeen) (cells : List CellSeen) → IsFound b twig cells (left_among b twig cells)
found_left b twig [] = λ c at on. none c at
found_left b twig (c ∷ cells) = found_one (is_left_of b twig c) b twig c cells (left_among b twig cells) refl (found_left b twig cells)

-- ---- what the tests tell

pub losing_is : (b : Body) (cells : List CellSeen) (c : CellSeen) → Contains (losing_twigs b cells) c → Contains cells c × (c.level ≡ 2) × (gone_from b c < gone_to b c)
losing_is b cells c at =
    let (among, on) = picked (is_losing b) cells c at in
    let (two, some) = and_parts (c.level == 2) (nat_lt (gone_from b c) (gone_to b c)) on in
    (among, eqb-true c.level 2 two, ltb-true (gone_from b c) (gone_to b c) some)

block_is : (b : Body) (twig : CellSeen) (cells : List CellSeen) (c : CellSeen) → Contains (filter (is_block_of b twig) cells) c → Contains cells c × (c.level ≡ 0) × (gone_from b twig ≤ rank c.lo) × (rank c.lo < gone_to b twig)
block_is b twig cells c at =
    let (among, on) = picked (is_block_of b twig) cells c at in
    let (zero_is, goes) = and_parts (c.level == 0) (in_gone b twig (rank c.lo)) on in
    let (from, to) = between (gone_from b twig) (gone_to b twig) (rank c.lo) goes in
    (among, eqb-true c.level 0 zero_is, from, to)

left_is : (b : Body) (twig c : CellSeen) → is_left_of b twig c ≡ true → (c.level ≡ 1) × (rank twig.lo ≤ rank c.lo) × (rank c.hi ≡ gone_from b twig)
left_is b twig c on =
    let (one, rest) = and_parts (c.level == 1) (nat_le (rank twig.lo) (rank c.lo) && (rank c.hi == gone_from b twig)) on in
    let (low, ends) = and_parts (nat_le (rank twig.lo) (rank c.lo)) (rank c.hi == gone_from b twig) rest in
    (eqb-true c.level 1 one, leb-true (rank twig.lo) (rank c.lo) low, eqb-true (rank c.hi) (gone_from b twig) ends)

module _ (t : Store Value) (r : Root) (f : Fresh) (w : WorkingSet) (working : IsWorking t r f w) (b : Body) (cells : List CellSeen) (names : HaveNames cells) (stand : (c : CellSeen) → Contains cells c → Contains (standing w) c)
    (sound : (c : CellSeen) → Contains cells c → c.level ≡ 1 → IsSound c) where
  abbrev s : Store Value
  s = now_of w t

  abbrev root : Root
  root = root_of w r

  part : IsPart s root
  part = now_part t r f w working

  at_cell : (c : CellSeen) → Contains cells c → s c.id ≡ Some (node_of c)
  at_cell c m = standing_is t r f w working c (stand c m)

  -- a cell below twigs whose first key lies in the range of a twig is named by it
  named : (twig c : CellSeen) → Contains cells twig → twig.level ≡ 2 → Contains cells c → c.level ≤ 1 → rank twig.lo ≤ rank c.lo → rank c.lo < rank twig.hi → Contains (node_of twig).names (name_of c)
  named twig c at two m low from to = elim (parent s root part c.id (node_of c) (at_cell c m)) [
    | inl top ↦
        let high = root_high s root part c.id (node_of c) (at_cell c m) top in
        let l = level_is c in
        let h = part.height in
        absurd (omega (arith, high, l, h, low))
    | inr (j, d, n, sd, in_d, id, fit) ↦
        let node = part.nodes j d sd in
        let lv = fit.level in
        let flo = fit.lo in
        let fhi = fit.hi in
        let cl = level_is c in
        let clo = lo_is c in
        let chi = hi_is c in
        let level : d.level ≡ 2 = elim (node.below n in_d) [ inl h ↦ omega (arith, h, lv, cl, low) | inr h ↦ h.0 ] in
        let some = node.name_nonempty n in_d in
        let first = node.name_from n in_d in
        let last = node.name_to n in_d in
        let tl = level_is twig in
        let same : j ≡ twig.id = apart s root part j twig.id d (node_of twig) (rank c.lo) sd (at_cell twig at) (omega (arith, level, tl, two)) (omega (arith, level)) (omega (arith, first, flo, clo), omega (arith, some, last, flo, clo))
        (in_node twig (rank c.lo) (from, to)) in
        let nodes : d ≡ node_of twig = one_cell s twig.id d (node_of twig) (subst (λ k. s k ≡ Some d) same sd) (at_cell twig at) in
        let lv_is : n.level ≡ c.level = omega (arith, lv, cl) in
        let lo_at : n.lo ≡ rank c.lo = omega (arith, flo, clo) in
        let hi_at : n.hi ≡ rank c.hi = omega (arith, fhi, chi) in
        let name : n ≡ name_of c = λ i. record { id = id i; level = lv_is i; lo = lo_at i; hi = hi_at i } in
        subst (λ m2. Contains (node_of twig).names m2) name (subst (λ (z : Node Value). Contains z.names n) nodes in_d)
  ]

  module _ (c : CellSeen) (at : Contains (losing_twigs b cells) c) (has : HasLoss b cells c) where
    is : Contains cells c × (c.level ≡ 2) × (gone_from b c < gone_to b c)
    is = losing_is b cells c at

    low : rank c.lo ≤ gone_from b c
    low = gone_low b c

    high : gone_to b c ≤ rank c.hi
    high = gone_high b c

    goes : (n : Name) → IsNameOf (filter (is_block_of b c) cells) n ↔ (Contains (node_of c).names n × ((n.level ≡ 0) × ((gone_from b c ≤ n.lo) × (n.lo < gone_to b c))))
    goes n = (to, from)
      where
        to : IsNameOf (filter (is_block_of b c) cells) n → Contains (node_of c).names n × ((n.level ≡ 0) × ((gone_from b c ≤ n.lo) × (n.lo < gone_to b c)))
        to (d, m, same) =
            let (among, zero_is, first, last) = block_is b c cells d m in
            let lv = ap (λ (z : Name). z.level) same in
            let lo = ap (λ (z : Name). z.lo) same in
            let l = low in
            let h = high in (
              subst (Contains (node_of c).names) (sym same) (named c d is.0 is.1 among (omega (arith, zero_is)) (omega (arith, l, first)) (omega (arith, h, last))),
              (omega (arith, lv, zero_is), (omega (arith, lo, first), omega (arith, lo, last))),
            )

        from : Contains (node_of c).names n × ((n.level ≡ 0) × ((gone_from b c ≤ n.lo) × (n.lo < gone_to b c))) → IsNameOf (filter (is_block_of b c) cells) n
        from (m, (zero_is, (first, last))) =
            let (d, among, same) = has.blocks n m zero_is (is_on (gone_from b c) (gone_to b c) n.lo first last) in
            let lv : d.level ≡ 0 = sym (ap (λ (z : Name). z.level) same) ∙ zero_is in
            let lo = ap (λ (z : Name). z.lo) same in
            let on : is_block_of b c d ≡ true = λ i. eq-eqb d.level 0 lv i && is_on (gone_from b c) (gone_to b c) (rank d.lo) (omega (arith, lo, first)) (omega (arith, lo, last)) i in
            (d, kept_in (is_block_of b c) cells d on among, same)

    left_by : (o : Option CellSeen) → IsFound b c cells o → IsLeft b c o
    left_by None found = λ n m one ends.
        let (d, among, same) = has.left n m one ends in
        let lv : d.level ≡ 1 = sym (ap (λ (z : Name). z.level) same) ∙ one in
        let hi : rank d.hi ≡ gone_from b c = sym (ap (λ (z : Name). z.hi) same) ∙ ends in
        let lo = ap (λ (z : Name). z.lo) same in
        let node = part.nodes c.id (node_of c) (at_cell c is.0) in
        let first = node.name_from n m in
        let own = lo_is c in
        let on : is_left_of b c d ≡ true = λ i. eq-eqb d.level 1 lv i && (le-leb (rank c.lo) (rank d.lo) (omega (arith, first, own, lo)) i && eq-eqb (rank d.hi) (gone_from b c) hi i) in
        found d among on
    left_by (Some l) (among, on) =
        let (one, first, ends) = left_is b c l on in
        let node = part.nodes l.id (node_of l) (at_cell l among) in
        let some = node.nonempty in
        let lo = lo_is l in
        let hi = hi_is l in
        let go = is.2 in
        let h = high in
        record {
          named = named c l is.0 is.1 among (omega (arith, one)) first (omega (arith, some, lo, hi, ends, go, h));
          level = one;
          ends = ends;
          sound = sound l among one;
        }

    left_stands : (o : Option CellSeen) → IsFound b c cells o → (d : CellSeen) → Contains (given_cells o) d → Contains (standing w) d
    left_stands None found d m = absurd (none d m)
    left_stands (Some l) (among, on) d m = elim (cases l d [] m) [
      | inl same ↦ stand d (subst (Contains cells) (sym same) among)
      | inr nil ↦ absurd (none d nil)
    ]

    pub loss_in : IsLossIn b w (loss_among b cells c)
    loss_in = record {
      stands = record {
        twig = stand c is.0;
        goes = λ d m. elim (Contains-append_cases (filter (is_block_of b c) cells) (given_cells (left_among b c cells)) d m) [
          | inl block ↦ stand d (block_is b c cells d block).0
          | inr leaf ↦ left_stands (left_among b c cells) (found_left b c cells) d leaf
        ];
      };
      pieces = has.pieces;
      level = is.1;
      some = is.2;
      spanned = has.spanned;
      first_border = has.first_border;
      last_border = has.last_border;
      begins = let (p, in_ps, before, behind) = has.begins in begins_there (rank c.lo) (rank c.hi) (gone_from b c) (gone_to b c) (twig_pieces c) has.pieces.pieces.follow low is.2 high has.first_border has.last_border p in_ps before behind;
      goes = goes;
      once = have_names (filter (is_block_of b c) cells) (picked_apart (is_block_of b c) cells (distinct cells names));
      left = left_by (left_among b c cells) (found_left b c cells);
      mkfs_id = has.mkfs_id;
    }
