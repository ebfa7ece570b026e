-- The cells of twigs that share out pieces.
use Rattle.std.proofs.Common.{◌≡◌, inl, inr, ℕ, ◌+◌, ◌^◌, ◌<◌, ◌≤◌, true, false, ◌&&◌, List, [], ◌∷◌, ◌++◌, length}
use Rattle.std.proofs.Common.{refl, sym, ap, subst, ◌∙◌, arith}
use Rattle.std.specs.Prelude.{◌==◌, Contains, drop, nat_lt, None}
use Rattle.std.proofs.lemmas.Bool.Decides.{nat_tests}
use Rattle.std.proofs.lemmas.List.{append_assoc, append-nil, length-drop}
use Rattle.std.proofs.lemmas.List.Elements.{Contains-append_cases, Contains-append_left, Contains-append_right}
use Rattle.r4_base.specs.Cell.{cell_fault}
use Rattle.r4_base.specs.Key.{rank}
use Rattle.r4_base.specs.Node.{Item, count_of, items_of, level_of, mkfs_id_of}
use Rattle.r4_base.specs.Tree.{Name}
use Rattle.r4_base.specs.declared.key.Key.{Key}
use Rattle.r4_base.proofs.Choices.{some_items}
use Rattle.r4_graft.proofs.r4_branch.ItemPieces.{units_append}
use Rattle.r4_graft.specs.r4_branch.Pieces.{MayStand, names_of, next_of, part_names, part_units, twig_bytes, units_of}
use Rattle.r4_graft.specs.r4_branch.Twigs.{AreFewTwigs, IsTwig, PacksTwigs}
use Rattle.r4_graft.specs.r4_branch.declared.piece.TwigPiece.{TwigPiece}
use Rattle.r4_graft.specs.r4_branch.declared.twig.Twig.{Twig}
use Rattle.r4_patch.proofs.r4_cell.NodesAt.{node_at}
use Rattle.r4_patch.specs.r4_cell.Seen.{CellSeen, node_of}
use Rattle.r4_patch.specs.r4_cell.declared.change.Fresh.{Fresh}
use Rattle.r4_leaf.proofs.r4_node40.Accepted.{good}
use Rattle.r4_leaf.proofs.r4_node40.Laid.{length-items_of}
use Rattle.r4_patch.specs.Joining.{ids_of}
use Rattle.r4_path.specs.Grafts.{IsTwigLevel, TwigsHaveMkfsId, twig_cells}
use Rattle.r4_path.specs.Levels.{units_of_cells}
use Rattle.r4_path.specs.Sharing.{IsSound}
use Rattle.r4_path.specs.Steps.{AreNaming, CountUp, Follow, Step}
use Rattle.r4_path.proofs.CellNodes.{names_are, units_are}
use Rattle.r4_path.proofs.Enough.{part_of}
use Rattle.r4_path.proofs.LeafCells.{counts_next}
use Rattle.r4_path.proofs.Lying.{Good, good_parts}
use Rattle.r4_patch.proofs.Members.{cases, here, later, none}

-- ---- a twig has a range

items_wide : (lo hi : ℕ) (items : List Item) → 1 ≤ length items → Good 2 lo hi 0 items → lo < hi
items_wide lo hi [] some at = absurd (omega (arith, some))
items_wide lo hi (it ∷ items) some at =
    let l = (good_parts 2 lo hi 0 it items at).0 in
    let from = l.from in
    let below = l.below in
    omega (arith, from, below)

pub has_items : (lo hi : ℕ) (b : List ℕ) → MayStand lo hi b → 1 ≤ length (items_of b)
has_items lo hi b stands =
    let at = node_at true (2 ^ 64) 2 lo hi b (omega arith) stands.1 in
    let level = at.level_is in
    let count = some_items (level_of b) (count_of b) (good b stands.0 at.accepted).1 (omega (arith, level)) in
    let long = length-items_of b in
    omega (arith, count, long)

pub twig_wide : (lo hi : ℕ) (b : List ℕ) → MayStand lo hi b → lo < hi
twig_wide lo hi b stands = items_wide lo hi (items_of b) (has_items lo hi b stands)
    (node_at true (2 ^ 64) 2 lo hi b (omega arith) stands.1).items

-- ---- pieces in two parts

next_append : (hi : ℕ) (ps : List TwigPiece) (q : TwigPiece) (qs : List TwigPiece)
    → next_of hi (ps ++ q ∷ qs) ≡ next_of (rank q.key) ps
next_append hi [] q qs = refl
next_append hi (p ∷ ps) q qs = refl

names_append : (hi : ℕ) (ps : List TwigPiece) (q : TwigPiece) (qs : List TwigPiece)
    → names_of hi (ps ++ q ∷ qs) ≡ names_of (rank q.key) ps ++ names_of hi (q ∷ qs)
unfolding names_of
names_append hi [] q qs = refl
names_append hi (p ∷ ps) q qs =
    ap (λ (n : ℕ). part_names (rank p.key) n p.part ++ names_of hi (ps ++ q ∷ qs)) (next_append hi ps q qs)
    ∙ (ap (λ ns. part_names (rank p.key) (next_of (rank q.key) ps) p.part ++ ns) (names_append hi ps q qs)
    ∙ sym (append_assoc (part_names (rank p.key) (next_of (rank q.key) ps) p.part)
    (names_of (rank q.key) ps) (names_of hi (q ∷ qs))))

-- ---- what cells name

abbrev names_of_cells : List CellSeen → List Name
names_of_cells [] = []
names_of_cells (c ∷ cells) = (node_of c).names ++ names_of_cells cells

pub naming_in : (cells : List CellSeen) (n : Name) → AreNaming cells n → Contains (names_of_cells cells) n
naming_in [] n (x, member, named) = absurd (none x member)
naming_in (c ∷ cells) n (x, member, named) = elim (cases c x cells member) [
  | inl is ↦ Contains-append_left (node_of c).names (names_of_cells cells) n
      (subst (λ (y : CellSeen). Contains (node_of y).names n) is named)
  | inr more ↦ Contains-append_right (node_of c).names (names_of_cells cells) n (naming_in cells n (x, more, named))
]

pub in_naming : (cells : List CellSeen) (n : Name) → Contains (names_of_cells cells) n → AreNaming cells n
in_naming [] n at = absurd (none n at)
in_naming (c ∷ cells) n at = elim (Contains-append_cases (node_of c).names (names_of_cells cells) n at) [
  | inl mine ↦ (c, here c cells, mine)
  | inr more ↦ let (x, member, named) = in_naming cells n more in (x, later c x cells member, named)
]

-- ---- what the cells are

pub record ArePacked (lo hi id next : ℕ) (qs : List TwigPiece) (count : ℕ) (cells : List CellSeen) : Type 0 where
  pub follow : Follow 2 lo hi cells
  pub sound : (c : CellSeen) → Contains cells c → IsSound c
  pub names : names_of_cells cells ≡ names_of hi qs
  pub units : units_of_cells cells ≡ units_of qs
  pub first : ids_of cells ≡ id ∷ ids_of (drop 1 cells)
  pub counts : CountUp next (ids_of (drop 1 cells))
  pub many : length cells ≡ count

module _ (x : Twig) (id : ℕ) (hi : Key) (lo : ℕ) (qs : List TwigPiece) (twig : IsTwig lo (rank hi) qs x) where
  abbrev cell : CellSeen
  cell = record { id = id; level = 2; lo = x.lo; hi = hi; block = x.block }

  cell_sound : IsSound cell
  cell_sound = record {
    whole = twig.stands.0;
    accepted = subst (λ k. cell_fault true (2 ^ 64) 2 k (rank hi) x.block ≡ None) (sym twig.from) twig.stands.1;
  }

  cell_names : (node_of cell).names ≡ names_of (rank hi) qs
  cell_names = names_are cell 1 refl ∙ twig.names

  cell_units : (node_of cell).units ≡ units_of qs
  cell_units = units_are cell 1 refl ∙ twig.units

packed : (lo : ℕ) (hi : Key) (id next : ℕ) (qs : List TwigPiece) (twigs : List Twig) → PacksTwigs lo (rank hi) qs twigs
    → ArePacked lo (rank hi) id next qs (length twigs) (twig_cells id next hi twigs)
packed lo hi id next qs [] p = absurd p
packed lo hi id next qs (x ∷ []) twig = record {
  follow = (refl, twig.from, twig_wide lo (rank hi) x.block twig.stands, refl);
  sound = λ c member. elim (cases (cell x id hi lo qs twig) c [] member) [
    | inl is ↦ subst IsSound (sym is) (cell_sound x id hi lo qs twig)
    | inr more ↦ absurd (none c more)
  ];
  names = append-nil (node_of (cell x id hi lo qs twig)).names ∙ cell_names x id hi lo qs twig;
  units = append-nil (node_of (cell x id hi lo qs twig)).units ∙ cell_units x id hi lo qs twig;
  first = refl;
  counts = tt;
  many = refl;
}
packed lo hi id next qs (x ∷ (y ∷ more)) (first, q, rest, same, from, low, twig, full, p) =
    let others = packed (rank q.key) hi next (next + 1) (q ∷ rest) (y ∷ more) p in
    let mine : IsTwig lo (rank y.lo) first x = subst (λ k. IsTwig lo k first x) (sym from) twig in
    let names_first : (node_of (cell x id y.lo lo first mine)).names ≡ names_of (rank q.key) first =
    cell_names x id y.lo lo first mine ∙ ap (λ k. names_of k first) from in
    record {
      follow = (
        refl,
        twig.from,
        subst (λ k. lo < k) (sym from) low,
        subst (λ k. Follow 2 k (rank hi) (twig_cells next (next + 1) hi (y ∷ more))) (sym from) others.follow,
      );
      sound = λ c member. elim (cases (cell x id y.lo lo first mine) c (twig_cells next (next + 1) hi (y ∷ more)) member) [
        | inl is ↦ subst IsSound (sym is) (cell_sound x id y.lo lo first mine)
        | inr rest' ↦ others.sound c rest'
      ];
      names = (λ i. names_first i ++ others.names i)
          ∙ (sym (names_append (rank hi) first q rest) ∙ ap (names_of (rank hi)) (sym same));
      units = (λ i. cell_units x id y.lo lo first mine i ++ others.units i)
          ∙ (sym (units_append first (q ∷ rest)) ∙ ap units_of (sym same));
      first = refl;
      counts = counts_next next (twig_cells next (next + 1) hi (y ∷ more)) others.first others.counts;
      many = let h = others.many in omega (arith, h);
    }

-- ---- the mkfs_id of the twigs is that of the cells

twig_ids : (m id next : ℕ) (hi : Key) (twigs : List Twig) → TwigsHaveMkfsId m twigs
    → (c : CellSeen) → Contains (twig_cells id next hi twigs) c → mkfs_id_of c.block ≡ m
twig_ids m id next hi [] h c member = absurd (none c member)
twig_ids m id next hi (x ∷ []) h c member = elim (cases _ c [] member) [
  | inl is ↦ ap (λ (d : CellSeen). mkfs_id_of d.block) is ∙ h x (here x [])
  | inr more ↦ absurd (none c more)
]
twig_ids m id next hi (x ∷ (y ∷ more)) h c member =
    elim (cases _ c (twig_cells next (next + 1) hi (y ∷ more)) member) [
      | inl is ↦ ap (λ (d : CellSeen). mkfs_id_of d.block) is ∙ h x (here x (y ∷ more))
      | inr rest ↦ twig_ids m next (next + 1) hi (y ∷ more) (λ z at. h z (later x z (y ∷ more) at)) c rest
    ]

-- ---- the level

pub twigs_step : (twig : CellSeen) (qs : List TwigPiece) (twigs : List Twig) (x : Twig) (more : List Twig) (f g : Fresh)
    (s : Step) → twigs ≡ x ∷ more → PacksTwigs (rank twig.lo) (rank twig.hi) qs twigs → AreFewTwigs qs twigs
    → s.old ≡ twig → s.new ≡ twig_cells twig.id f.next twig.hi (x ∷ more) → g ≡ record f { next = f.next + length more }
    → TwigsHaveMkfsId (mkfs_id_of twig.block) twigs → IsTwigLevel twig qs f g s
twigs_step twig qs twigs x more f g s parts p few old new took ids =
    let cells = new ∙ ap (twig_cells twig.id f.next twig.hi) (sym parts) in
    let is = subst (ArePacked (rank twig.lo) (rank twig.hi) twig.id f.next qs (length twigs)) (sym cells)
    (packed (rank twig.lo) twig.hi twig.id f.next qs twigs p) in
    record {
      row = record {
        old = old;
        first = is.first;
        ranges = is.follow;
        names = λ n. (
          (λ h. subst (λ ns. Contains ns n) is.names (naming_in s.new n h)),
          (λ h. in_naming s.new n (subst (λ ns. Contains ns n) (sym is.names) h)),
        );
        units = is.units;
        sound = is.sound;
        counts = is.counts;
        number = took ∙ (λ i. record f {
          next = (let many = is.many in let n = ap length parts in let d = length-drop 1 s.new in
              let same : f.next + length more ≡ f.next + length (drop 1 s.new) = omega (arith, many, n, d) in same) i;
        });
        mkfs_id = λ c member. twig_ids (mkfs_id_of twig.block) twig.id f.next twig.hi twigs ids c
            (subst (λ cs. Contains cs c) cells member);
      };
      twigs = twigs;
      packs = p;
      cells = cells;
      one = λ fits. is.many ∙ few.one fits;
      several = λ over. let many = is.many in let two = few.several over in
          let n = part_of (twig_bytes qs) (length twigs) over (few.more over) in
          (omega (arith, many, two), omega (arith, many, n));
    }

pub no_twigs : (lo hi : ℕ) (qs : List TwigPiece) (twigs : List Twig) → length twigs ≡ 0 → PacksTwigs lo hi qs twigs → ⊥
no_twigs lo hi qs [] e p = p
no_twigs lo hi qs (x ∷ twigs) e p = omega (arith, e)
