-- Rows that were packed anew are one change.
use Rattle.std.proofs.Common.{◌≡◌, ◌∙◌, inl, inr, ℕ, suc, ◌+◌, ◌^◌, ◌<◌, ◌≤◌, true, List, [], ◌∷◌, ◌++◌, length, refl, sym, ap, subst, arith}
use Rattle.std.specs.Prelude.{Contains, Option, None, Some}
use Rattle.std.proofs.lemmas.List.{append_assoc}
use Rattle.std.proofs.lemmas.List.Elements.{Contains-append_cases}
use Rattle.r4_base.specs.Key.{least, rank, top}
use Rattle.r4_base.specs.Tree.{IsNode, Root, Store}
use Rattle.r4_base.specs.Value.{Value}
use Rattle.r4_branch.specs.declared.piece.TwigPiece.{TwigPiece}
use Rattle.r4_cell.proofs.Nodes.{cell_node}
use Rattle.r4_cell.specs.Seen.{CellSeen, node_of}
use Rattle.r4_cell.specs.declared.change.Fresh.{Fresh}
use Rattle.r4_patch.proofs.Members.{cases, here, later, none}
use Rattle.r4_patch.specs.Part.{IsPart}
use Rattle.r4_path.proofs.Rising.{hi_is, lo_is}
use Rattle.r4_path.specs.Sharing.{IsSound}
use Rattle.r4_path.specs.Steps.{Follow}
use Rattle.r4_rows.proofs.Pointing.{pointing_row}
use Rattle.r4_rows.specs.Numbers.{AreNumbered, IsNumberedChange}
use Rattle.r4_rows.specs.Rows.{AreThere, Mounts, Row, news_in}
use Rattle.r4_row_edit.specs.Climbing.{AreFirst, Climbed, RowsOver}
use Rattle.r4_row_edit.specs.Shifting.{IsShiftIn}
use Rattle.r4_row_edit.specs.Twigs.{AreTwigsWith}

-- ---- ranges

pub in_range : (level from to : ℕ) (cells : List CellSeen) (c : CellSeen) → Follow level from to cells → Contains cells c
    → (c.level ≡ level) × (from ≤ rank c.lo) × (rank c.lo < rank c.hi) × (rank c.hi ≤ to)
in_range level from to [] c follow at = absurd (none c at)
in_range level from to (d ∷ cells) c (is, lo, less, rest) at = elim (cases d c cells at) [
  | inl same ↦
      let low = ap (λ (x : CellSeen). rank x.lo) same in
      let high = ap (λ (x : CellSeen). rank x.hi) same in
      let end = ends level (rank d.hi) to cells rest in (
        ap (λ (x : CellSeen). x.level) same ∙ is,
        omega (arith, low, lo),
        omega (arith, low, high, lo, less),
        omega (arith, high, end),
      )
  | inr more ↦
      let (l, a, b, e) = in_range level (rank d.hi) to cells c rest more in (l, omega (arith, a, less), b, e)
]
  where
    ends : (level from to : ℕ) (cells : List CellSeen) → Follow level from to cells → from ≤ to
    ends level from to [] follow = omega (arith, follow)
    ends level from to (x ∷ cells) (is, lo, less, rest) =
        let h = ends level (rank x.hi) to cells rest in omega (arith, less, h)

-- the range of nodes beside each other is one of keys of a tree
bounds : (level from to : ℕ) (cells : List CellSeen) → Follow level from to cells → from < to
    → ((c : CellSeen) → Contains cells c → IsNode (node_of c)) → (least ≤ from) × (to ≤ top)
bounds level from to [] follow less nodes = absurd (omega (arith, follow, less))
bounds level from to (c ∷ []) (is, lo, lt, end) less nodes =
    let n = nodes c (here c []) in
    let low = n.from_least in
    let high = n.to_top in
    let a = lo_is c in
    let z = hi_is c in
    (omega (arith, low, a, lo), omega (arith, high, z, end))
bounds level from to (c ∷ (d ∷ cells)) (is, lo, lt, rest) less nodes =
    let n = nodes c (here c (d ∷ cells)) in
    let low = n.from_least in
    let a = lo_is c in
    let more = bounds level (rank c.hi) to (d ∷ cells) rest (rises d cells rest) (λ x at. nodes x (later c x (d ∷ cells) at)) in
    (omega (arith, low, a, lo), more.1)
  where
    ends : (level from to : ℕ) (cells : List CellSeen) → Follow level from to cells → from ≤ to
    ends level from to [] follow = omega (arith, follow)
    ends level from to (x ∷ cells) (is, lo, less, rest) =
        let h = ends level (rank x.hi) to cells rest in omega (arith, less, h)

    rises : (d : CellSeen) (cells : List CellSeen) → Follow level (rank c.hi) to (d ∷ cells) → rank c.hi < to
    rises d cells (is, lo, less, rest) = let h = ends level (rank d.hi) to cells rest in omega (arith, less, h)

-- new nodes that share out the range of some of the tree are nodes of a tree
new_nodes : (level from to : ℕ) (old new : List CellSeen) → 1 ≤ level → Follow level from to old → Follow level from to new
    → ((c : CellSeen) → Contains old c → IsNode (node_of c)) → ((c : CellSeen) → Contains new c → IsSound c)
    → (c : CellSeen) → Contains new c → IsNode (node_of c)
new_nodes level from to old new one were are nodes sound c at =
    let (is, low, less, high) = in_range level from to new c are at in
    let (bottom, above) = bounds level from to old were (omega (arith, low, less, high)) nodes in
    let s = sound c at in
    cell_node true (2 ^ 64) c.level (rank c.lo) (rank c.hi) c.block s.whole (omega (arith, is, one))
    (omega (arith, low, bottom)) less (omega (arith, high, above)) s.accepted

-- ---- numbers

numbered_more : (n to end : ℕ) (rows : List Row) (over : Option CellSeen) → to ≤ end → AreNumbered n to rows over
    → AreNumbered n end rows over
numbered_more n to end [] None le h = omega (arith, le, h)
numbered_more n to end [] (Some c) le (is, less) = (is, omega (arith, le, less))
numbered_more n to end (s ∷ rows) over le (xs, ids, counts, rest) =
    (xs, ids, counts, numbered_more (n + length xs) to end rows over le rest)

-- ---- the rows above

module _ (t : Store Value) (r : Root) (part : IsPart t r) where
  there_nodes : (cells : List CellSeen) → AreThere t cells → (c : CellSeen) → Contains cells c → IsNode (node_of c)
  there_nodes cells there c at = part.nodes c.id (node_of c) (there c at)

  mounted : (l : ℕ) (s : Row) (more : List Row) (above : List (List CellSeen)) → 2 ≤ l → RowsOver l s more
      → AreFirst more above → ((cells : List CellSeen) → Contains above cells → AreThere t cells)
      → Mounts t (suc l) s more
  mounted l s [] above low over first stand = tt
  mounted l s (x ∷ more) [] low over first stand = absurd first
  mounted l s (x ∷ more) (row ∷ above) low (points, over) (is, first) stand = (
    pointing_row l (omega (arith, low)) s x points t (subst (AreThere t) (sym is) (stand row (here row above))),
    (λ two. absurd (omega (arith, two, low))),
    mounted (suc l) x more above (omega (arith, low)) over first (λ cells at. stand cells (later row cells above at)),
  )

  row_nodes : (l : ℕ) (s : Row) (more : List Row) (above : List (List CellSeen)) → RowsOver l s more
      → AreFirst more above → ((cells : List CellSeen) → Contains above cells → AreThere t cells)
      → (over : Option CellSeen) → ((c : CellSeen) → over ≡ Some c → IsNode (node_of c))
      → ((c : CellSeen) → Contains (news_in more None) c → IsSound c)
      → (c : CellSeen) → Contains (news_in more over) c → IsNode (node_of c)
  row_nodes l s [] above over first stand None root sound c at = absurd (none c at)
  row_nodes l s [] above over first stand (Some x) root sound c at = elim (cases x c [] at) [
    | inl is ↦ subst (λ (y : CellSeen). IsNode (node_of y)) (sym is) (root x refl)
    | inr more ↦ absurd (none c more)
  ]
  row_nodes l s (x ∷ more) [] over first stand rest root sound c at = absurd first
  row_nodes l s (x ∷ more) (row ∷ above) (points, over) (is, first) stand rest root sound c at =
      elim (Contains-append_cases x.new (news_in more rest) c at) [
        | inl mine ↦ new_nodes (suc l) points.from points.to x.old x.new (omega arith) points.were points.are
            (there_nodes x.old (subst (AreThere t) (sym is) (stand row (here row above)))) points.sound_new c mine
        | inr behind ↦ row_nodes (suc l) x more above over first (λ cells m. stand cells (later row cells above m)) rest root
            (λ y m. sound y (in_right x.new (news_in more None) y m)) c behind
      ]
    where
      in_right : (xs ys : List CellSeen) (y : CellSeen) → Contains ys y → Contains (xs ++ ys) y
      in_right [] ys y m = m
      in_right (z ∷ xs) ys y m = later z y (xs ++ ys) (in_right xs ys y m)

-- ---- all together

pub shifted : (t : Store Value) (r : Root) (b : Row) (row cells : List CellSeen) (ps : List TwigPiece)
    (above : List (List CellSeen)) (before mid after : Fresh) (more : List Row) (over : Option CellSeen)
    → IsShiftIn t r b row ps above before → AreTwigsWith row ps before mid cells
    → Climbed 2 (record { old = row; new = cells }) above mid after more over
    → IsNumberedChange t r 2 before.next before.end b (record { old = row; new = cells }) more over
shifted t r b row cells ps above before mid after more over i w c = record {
  part = i.part;
  branch = omega arith;
  gone = i.gone;
  low_old = i.low_old;
  low_new = i.low_new;
  lowest = record {
    from = w.from;
    to = w.to;
    were = w.along;
    are = w.twigs.has.follow;
    there = i.there;
    leads = i.leads;
    names = λ n. (
      (λ h. (i.names w.from w.to w.along n).0 ((w.twigs.has.names n).0 h)),
      (λ h. (w.twigs.has.names n).1 ((i.names w.from w.to w.along n).1 h)),
    );
  };
  mounts = mounted t r i.part 2 (record { old = row; new = cells }) more above (omega arith) c.points c.olds i.stand;
  ends = c.ends r (λ more. i.up (λ may. let most = w.grows 0 may in omega (arith, most, more)));
  nodes = λ x at. elim (Contains-append_cases b.new (cells ++ news_in more over) x at) [
    | inl low ↦ i.nodes x low
    | inr rest ↦ elim (Contains-append_cases cells (news_in more over) x rest) [
      | inl twig ↦ new_nodes 2 w.from w.to row cells (omega arith) w.along w.twigs.has.follow
          (there_nodes t r i.part row i.there) w.twigs.sound x twig
      | inr up ↦ row_nodes t r i.part 2 (record { old = row; new = cells }) more above c.points c.olds i.stand over
          c.root_node c.sound x up
    ]
  ];
  free = i.free;
  below = i.below;
  numbers = (
    w.taken,
    w.ids,
    w.count,
    numbered_more (before.next + length w.taken) after.next before.end more over
        (let (a, b, e) = c.taken in let end = ap (λ (f : Fresh). f.end) w.left in omega (arith, b, e, end))
        (subst (λ n. AreNumbered n after.next more over) (ap (λ (f : Fresh). f.next) w.left) c.numbers),
  );
}

-- ---- the change as the code makes it

pub news_over : (rows : List Row) (c : CellSeen) → news_in rows None ++ c ∷ [] ≡ news_in rows (Some c)
news_over [] c = refl
news_over (s ∷ rows) c = append_assoc s.new (news_in rows None) (c ∷ []) ∙ ap (λ xs. s.new ++ xs) (news_over rows c)
