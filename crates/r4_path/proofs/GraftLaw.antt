-- A twig that is packed anew, with what goes and comes below it, is a change of the twig.
use Rattle.std.proofs.Common.{◌≡◌, ◌≢◌, ◌⊎◌, inl, inr, ℕ, zero, suc, ◌+◌, ◌≤◌, Bool, true, false, List, [], ◌∷◌}
use Rattle.std.proofs.Common.{◌++◌, length, sym, ap, subst, ◌∙◌, arith}
use Rattle.std.specs.Prelude.{Contains, Option, None, Some, if◌then◌else◌}
use Rattle.std.proofs.lemmas.List.Elements.{Contains-append_cases, Contains-append_left, Contains-append_right}
use Rattle.r4_base.specs.Cell.{cell_of, run_names}
use Rattle.r4_base.specs.Extents.{is_hole}
use Rattle.r4_base.specs.Key.{least, rank, top}
use Rattle.r4_base.specs.Tree.{IsNode, Name, Root, Store}
use Rattle.r4_base.specs.Value.{Value}
use Rattle.r4_graft.specs.r4_branch.Pieces.{names_of, next_of, part_names}
use Rattle.r4_graft.specs.r4_branch.declared.piece.TwigPart.{TwigPart}
use Rattle.r4_graft.specs.r4_branch.declared.piece.TwigPart.TheVariants.{Blocks, Pointer}
use Rattle.r4_graft.specs.r4_branch.declared.piece.TwigPiece.{TwigPiece}
use Rattle.r4_patch.proofs.r4_cell.Nodes.{data_node}
use Rattle.r4_patch.specs.r4_cell.Patch.{HaveNames, IsChange, patch_of}
use Rattle.r4_patch.specs.r4_cell.Seen.{CellSeen, node_of}
use Rattle.r4_patch.specs.r4_cell.declared.change.Change.{Change}
use Rattle.r4_patch.specs.r4_cell.declared.change.Fresh.{Fresh}
use Rattle.r4_patch.specs.Part.{MeetsPart}
use Rattle.r4_path.specs.Grafts.{AreBlocksOf, Grafts, HasBelow, HaveGraftNumbers, IsGraft, IsGraftOf, IsTwigGraft}
use Rattle.r4_path.specs.Growing.{IsPathIn}
use Rattle.r4_path.specs.Steps.{Ascends, Ends, Follow, IsNameOf, Step, fresh_ids, name_of, news, olds, root_pair}
use Rattle.r4_path.specs.Twigs.{Below, IsReordered, IsTwigChange, IsTwigStep}
use Rattle.r4_path.proofs.Begun.{ascends_take}
use Rattle.r4_path.proofs.GraftNumbers.{block_name, have}
use Rattle.r4_path.proofs.Grown.{map_names, names_map}
use Rattle.r4_patch.proofs.Members.{Distinct, cases, distinct_append, have_names, none}
use Rattle.r4_path.proofs.NewNodes.{new_node}
use Rattle.r4_path.proofs.OnPath.{new_stands, stands_in, stands_new, stands_step}
use Rattle.r4_path.proofs.Ordered.{distinct}
use Rattle.r4_path.proofs.Reordered.{change_again, part_again}
use Rattle.r4_path.proofs.TwigPatch.{change_is, part_meets}
use Rattle.r4_path.proofs.TwigRose.{TwigRose}

-- ---- the names of data blocks

run_wide : (k start count : ℕ) (n : Name) → Contains (run_names k start count) n → n.hi ≡ n.lo + 4096
run_wide k start zero n at = absurd (none n at)
run_wide k start (suc count) n at = elim (cases (record { id = start; level = 0; lo = k; hi = k + 4096 }) n
    (run_names (k + 4096) (start + 1) count) at) [
      | inl is ↦ let lo = ap (λ (m : Name). m.lo) is in let hi = ap (λ (m : Name). m.hi) is in omega (arith, lo, hi)
      | inr more ↦ run_wide (k + 4096) (start + 1) count n more
    ]

chosen_wide : (hole : Bool) (k start count : ℕ) (n : Name) → Contains (if hole then [] else run_names k start count) n
    → n.hi ≡ n.lo + 4096
chosen_wide true k start count n at = absurd (none n at)
chosen_wide false k start count n at = run_wide k start count n at

part_wide : (k next : ℕ) (part : TwigPart) (n : Name) → Contains (part_names k next part) n → n.level ≡ 0
    → n.hi ≡ n.lo + 4096
part_wide k next (Pointer to) n at low = elim (cases (record { id = to.0; level = 1; lo = k; hi = next }) n [] at) [
  | inl is ↦ let level = ap (λ (m : Name). m.level) is in absurd (omega (arith, level, low))
  | inr more ↦ absurd (none n more)
]
part_wide k next (Blocks u) n at low = chosen_wide (is_hole u) k u.start u.width n at

block_wide : (hi : ℕ) (qs : List TwigPiece) (n : Name) → Contains (names_of hi qs) n → n.level ≡ 0 → n.hi ≡ n.lo + 4096
unfolding names_of
block_wide hi [] n at low = absurd (none n at)
block_wide hi (q ∷ qs) n at low =
    elim (Contains-append_cases (part_names (rank q.key) (next_of hi qs) q.part) (names_of hi qs) n at) [
      | inl mine ↦ part_wide (rank q.key) (next_of hi qs) q.part n mine low
      | inr more ↦ block_wide hi qs n more low
    ]

data_cell : (c : CellSeen) (l hi : ℕ) → l ≡ 0 → hi ≡ rank c.lo + 4096 → length c.block ≡ 4096 → least ≤ rank c.lo
    → rank c.lo + 4096 ≤ top → IsNode (cell_of l (rank c.lo) hi c.block)
data_cell c l hi low wide whole from to =
    subst (λ (k : ℕ). IsNode (cell_of k (rank c.lo) hi c.block)) (sym low)
    (subst (λ (k : ℕ). IsNode (cell_of 0 (rank c.lo) k c.block)) (sym wide) (data_node (rank c.lo) c.block whole from to))

-- ---- names of two lists of cells

name_cases : (xs ys : List CellSeen) (n : Name) → IsNameOf (xs ++ ys) n → IsNameOf xs n ⊎ IsNameOf ys n
name_cases xs ys n (c, member, is) = elim (Contains-append_cases xs ys c member)
    [ inl a ↦ inl (c, a, is) | inr b ↦ inr (c, b, is) ]

name_left : (xs ys : List CellSeen) (n : Name) → IsNameOf xs n → IsNameOf (xs ++ ys) n
name_left xs ys n (c, member, is) = (c, Contains-append_left xs ys c member, is)

name_right : (xs ys : List CellSeen) (n : Name) → IsNameOf ys n → IsNameOf (xs ++ ys) n
name_right xs ys n (c, member, is) = (c, Contains-append_right xs ys c member, is)

-- ---- another order

distinct_parts : (xs ys : List CellSeen) → Distinct (xs ++ ys)
    → Distinct xs × Distinct ys × ((x y : CellSeen) → Contains xs x → Contains ys y → x.id ≢ y.id)
distinct_parts [] ys h = (tt, h, λ x y in_x in_y. absurd (none x in_x))
distinct_parts (z ∷ zs) ys (first, rest) =
    let (dx, dy, apart) = distinct_parts zs ys rest in (
      (λ y at. first y (Contains-append_left zs ys y at), dx),
      dy,
      λ x y in_x in_y. elim (cases z x zs in_x) [
        | inl is ↦ subst (λ (w : CellSeen). w.id ≢ y.id) (sym is) (first y (Contains-append_right zs ys y in_y))
        | inr more ↦ apart x y more in_y
      ],
    )

module _ (xs ys zs : List CellSeen) where
  forth : (c : CellSeen) → Contains ((xs ++ ys) ++ zs) c → Contains ((xs ++ zs) ++ ys) c
  forth c at = elim (Contains-append_cases (xs ++ ys) zs c at) [
    | inl h ↦ elim (Contains-append_cases xs ys c h) [
      | inl a ↦ Contains-append_left (xs ++ zs) ys c (Contains-append_left xs zs c a)
      | inr b ↦ Contains-append_right (xs ++ zs) ys c b
    ]
    | inr z ↦ Contains-append_left (xs ++ zs) ys c (Contains-append_right xs zs c z)
  ]

  swapped : Distinct ((xs ++ ys) ++ zs) → Distinct ((xs ++ zs) ++ ys)
  swapped h =
      let (dxy, dz, apart) = distinct_parts (xs ++ ys) zs h in
      let (dx, dy, inner) = distinct_parts xs ys dxy in
      distinct_append (xs ++ zs) ys
      (distinct_append xs zs dx dz (λ x z in_x in_z. apart x z (Contains-append_left xs ys x in_x) in_z)) dy
      (λ c y at in_y. elim (Contains-append_cases xs zs c at) [
        | inl in_x ↦ inner c y in_x in_y
        | inr in_z ↦ λ same. apart y c (Contains-append_right xs ys y in_y) in_z (sym same)
      ])

behind : (xs ys zs : List CellSeen) → HaveNames ((xs ++ ys) ++ zs) → IsReordered ((xs ++ ys) ++ zs) ((xs ++ zs) ++ ys)
behind xs ys zs h = record {
  same = λ c. (forth xs ys zs c, forth xs zs ys c);
  names = have_names ((xs ++ zs) ++ ys) (swapped xs ys zs (distinct ((xs ++ ys) ++ zs) h));
}

-- ---- the change

module _ (t : Store Value) (r : Root) (twig : CellSeen) (ups : List CellSeen) (qs : List TwigPiece) (f after : Fresh)
    (s : Step) (more : List Step) (over : Option CellSeen) (d : Change) (rose : TwigRose twig ups qs f after s more over d)
    (path : IsPathIn t r (twig ∷ ups) f) (level : twig.level ≡ 2) (ends : Ends r (s ∷ more) over) (b : Below)
    (data_names : List Name) (blocks : List CellSeen) (of : IsGraftOf t twig qs b data_names)
    (blocks_are : AreBlocksOf data_names blocks) (numbers : HaveGraftNumbers t b data_names f.next after.next) where
  abbrev all : Below
  all = record { old = b.old; new = b.new ++ blocks }

  abbrev taken : List ℕ
  taken = fresh_ids (s ∷ more) over

  twig_there : t twig.id ≡ Some (node_of twig)
  twig_there = path.ascends.0

  twig_node : IsNode (node_of twig)
  twig_node = path.part.nodes twig.id (node_of twig) twig_there

  -- ---- the path

  ascends : Ascends t None (olds (s ∷ more))
  ascends = subst (λ (o : CellSeen). Ascends t None (o ∷ olds more)) (sym rose.row.old)
      (subst (λ cells. Ascends t None (twig ∷ cells)) (sym rose.ups_are)
      (ascends_take t None (suc (length more)) (twig ∷ ups) path.ascends))

  -- ---- the twig

  forth_names : (n : Name) → Contains (names_of (rank twig.hi) qs) n
      → (Contains (node_of twig).names n × (IsNameOf b.old n → ⊥)) ⊎ IsNameOf (b.new ++ blocks) n
  forth_names n at = elim ((of.names n).0 at) [
    | inl stays ↦ inl stays
    | inr comes ↦ elim comes [
      | inl cell ↦ inr (name_left b.new blocks n cell)
      | inr block ↦ inr (name_right b.new blocks n
          (names_map blocks n (subst (λ ns. Contains ns n) (sym blocks_are.names) block)))
    ]
  ]

  back_names : (n : Name) → (Contains (node_of twig).names n × (IsNameOf b.old n → ⊥)) ⊎ IsNameOf (b.new ++ blocks) n
      → Contains (names_of (rank twig.hi) qs) n
  back_names n (inl stays) = (of.names n).1 (inl stays)
  back_names n (inr comes) = elim (name_cases b.new blocks n comes) [
    | inl cell ↦ (of.names n).1 (inr (inl cell))
    | inr block ↦ (of.names n).1
        (inr (inr (subst (λ ns. Contains ns n) blocks_are.names (map_names blocks n block))))
  ]

  same : s ≡ record { old = twig; new = s.new }
  same = λ i. record { old = rose.row.old i; new = s.new }

  step : IsTwigStep all s
  step = subst (IsTwigStep all) (sym same) (record {
    level = level;
    first = rose.row.first;
    ranges = subst (λ l. Follow l (rank twig.lo) (rank twig.hi) s.new) (sym level) rose.row.ranges;
    goes = of.goes;
    names = λ n. (
      (λ h. forth_names n ((rose.row.names n).0 h)),
      (λ h. (rose.row.names n).1 (back_names n h)),
    );
  })

  -- ---- nodes

  twig_cell : (x : CellSeen) → Contains s.new x → IsNode (node_of x)
  twig_cell x member = new_node twig x s.new twig_node (omega (arith, level))
      (subst (λ l. Follow l (rank twig.lo) (rank twig.hi) s.new) (sym level) rose.row.ranges) (rose.row.sound x member) member

  up_cell : (x : CellSeen) → Contains (news more over) x → IsNode (node_of x)
  up_cell x member = elim (new_stands (Some s) more over x member) [
    | inl h ↦
        let (below, u, st, in_u) = h in
        let sit = stands_in t (Some s) more below u ascends.3 st in
        new_node u.old x u.new (path.part.nodes u.old.id (node_of u.old) sit.there) sit.level
        (stands_step (Some s) more below u rose.climbs st).ranges
        (rose.sound x (Contains-append_right s.new (news more None) x (stands_new (Some s) more None below u x st in_u))) in_u
    | inr root ↦ rose.root_node x root
  ]

  block_cell : (c : CellSeen) → Contains blocks c → IsNode (node_of c)
  block_cell c member =
      let named = block_name f after taken rose.counts rose.number rose.within t b data_names blocks blocks_are numbers
      path.free c member in
      let low = of.blocks (name_of c) named in
      let in_qs = (of.names (name_of c)).1 (inr (inr named)) in
      let wide = block_wide (rank twig.hi) qs (name_of c) in_qs low in
      let (u, in_u, in_names) = (rose.row.names (name_of c)).1 in_qs in
      let node = twig_cell u in_u in
      let from = node.name_from (name_of c) in_names in
      let to = node.name_to (name_of c) in_names in
      let least_u = node.from_least in
      let top_u = node.to_top in
      data_cell c c.level (rank c.hi) low wide (blocks_are.whole c member) (omega (arith, from, least_u))
      (omega (arith, wide, to, top_u))

  nodes : (c : CellSeen) → Contains ((b.new ++ blocks) ++ news (s ∷ more) over) c → IsNode (node_of c)
  nodes c at = elim (Contains-append_cases (b.new ++ blocks) (news (s ∷ more) over) c at) [
    | inl under ↦ elim (Contains-append_cases b.new blocks c under) [
      | inl cell ↦ of.nodes c cell
      | inr block ↦ block_cell c block
    ]
    | inr high ↦ elim (Contains-append_cases s.new (news more over) c high) [
      | inl mine ↦ twig_cell c mine
      | inr rest ↦ up_cell c rest
    ]
  ]

  pub twig_change : IsTwigChange t r all s more over
  twig_change = record {
    part = path.part;
    path = ascends;
    gone = of.gone;
    step = step;
    climbs = rose.climbs;
    ends = ends;
    nodes = nodes;
    numbers = have f after taken rose.counts rose.number rose.within t b data_names blocks blocks_are numbers path.free;
  }

module _ (t : Store Value) (r : Root) (twig : CellSeen) (ups : List CellSeen) (qs : List TwigPiece) (b : Below)
    (blocks : List CellSeen) (f after : Fresh) (d : Change) (graft : IsGraft t r twig ups qs b blocks f after d) where
  abbrev g : Grafts twig ups qs f after d
  g = graft.grafts

  abbrev s : Step
  s = g.lowest

  rose : TwigRose twig ups qs f after s g.more g.over d
  rose = record {
    middle = g.middle;
    row = g.level.row;
    levels = g.levels;
    ups_are = g.ups_are;
    climbs = g.climbs;
    sound = g.sound;
    root_node = g.root_node;
    counts = g.counts;
    number = g.number;
    within = g.within;
  }

  change_of_twig : IsTwigChange t r (record { old = b.old; new = b.new ++ blocks }) s g.more g.over
  change_of_twig = twig_change t r twig ups qs f after s g.more g.over d rose graft.grafted.path graft.grafted.level
      (g.ends r graft.grafted.enough) b graft.data_names blocks graft.of graft.blocks_are graft.numbers

  pub twig_graft : IsTwigGraft t r b blocks d
  twig_graft = record { lowest = s; more = g.more; over = g.over; levels = g.levels; is = change_of_twig }

  -- ---- with the data blocks behind all others

  abbrev up_olds : List CellSeen
  up_olds = olds (s ∷ g.more)

  abbrev up_news : List CellSeen
  up_news = news (s ∷ g.more) g.over

  changes : IsChange (b.old ++ up_olds) ((b.new ++ blocks) ++ up_news) (root_pair g.over)
  changes = change_is t r (record { old = b.old; new = b.new ++ blocks }) s g.more g.over change_of_twig

  same_old : IsReordered (b.old ++ up_olds) (b.old ++ up_olds)
  same_old = record { same = λ c. ((λ h. h), (λ h. h)); names = changes.old_names }

  other_new : IsReordered ((b.new ++ blocks) ++ up_news) ((b.new ++ up_news) ++ blocks)
  other_new = behind b.new blocks up_news changes.new_names

  module _ (c : Change) (has : HasBelow b.old b.new d c) where
    old_is : b.old ++ up_olds ≡ c.old
    old_is = sym (has.old_is ∙ ap (λ xs. b.old ++ xs) g.levels.old)

    new_is : (b.new ++ up_news) ++ blocks ≡ c.new ++ blocks
    new_is = ap (λ xs. xs ++ blocks) (sym (has.new_is ∙ ap (λ xs. b.new ++ xs) g.levels.new))

    root_is : root_pair g.over ≡ c.root
    root_is = sym (has.root_is ∙ g.levels.pair)

    pub graft_change : IsChange c.old (c.new ++ blocks) c.root
    graft_change = subst (λ x. IsChange x (c.new ++ blocks) c.root) old_is
        (subst (λ x. IsChange (b.old ++ up_olds) x c.root) new_is
        (subst (λ x. IsChange (b.old ++ up_olds) ((b.new ++ up_news) ++ blocks) x) root_is
        (change_again (b.old ++ up_olds) ((b.new ++ blocks) ++ up_news) (b.old ++ up_olds) ((b.new ++ up_news) ++ blocks)
        (root_pair g.over) changes same_old other_new)))

    pub graft_meets : MeetsPart (patch_of c.old (c.new ++ blocks) c.root) t r
    graft_meets = subst (λ p. MeetsPart p t r) (λ i. patch_of (old_is i) (new_is i) (root_is i))
        (part_again (b.old ++ up_olds) ((b.new ++ blocks) ++ up_news) (b.old ++ up_olds) ((b.new ++ up_news) ++ blocks)
        (root_pair g.over) changes same_old other_new t r (part_meets t r (record { old = b.old; new = b.new ++ blocks }) s g.more g.over change_of_twig))
