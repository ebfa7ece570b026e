-- Twigs whose pieces are parted anew, while leaves go or begin later, are a change without effect.
use Rattle.std.proofs.Common.{◌≡◌, ◌≢◌, ◌⊎◌, inl, inr, ℕ, suc, ◌<◌, ◌≤◌, false, List, [], ◌∷◌, ◌++◌, length, refl, sym, ap, subst}
use Rattle.std.proofs.Common.{◌∙◌, arith}
use Rattle.std.specs.Prelude.{◌↔◌, ◌&&◌, if◌then◌else◌, not, nat_le, nat_lt, Bool, true, Contains, None, Option, Some}
use Rattle.std.proofs.lemmas.Bool.{false≢true}
use Rattle.std.proofs.lemmas.Bool.Decides.{nat_tests}
use Rattle.std.proofs.lemmas.List.Kept.{AllPairs-filter}
use Rattle.std.proofs.lemmas.List.Elements.{Contains-append_cases, Contains-append_left, Contains-append_right}
use Rattle.r4_base.specs.Key.{rank}
use Rattle.r4_base.specs.Tree.{IsNode, Name, Root, Store}
use Rattle.r4_base.specs.Value.{Value}
use Rattle.r4_work.specs.r4_branch.Pieces.{AreTwigPieces, names_of, next_of, units_of}
use Rattle.r4_work.specs.r4_branch.declared.piece.TwigPart.{TwigPart}
use Rattle.r4_work.specs.r4_branch.declared.piece.TwigPart.TheVariants.{Pointer}
use Rattle.r4_work.specs.r4_branch.declared.piece.TwigPiece.{TwigPiece}
use Rattle.r4_work.specs.r4_cell.Patch.{HaveNames}
use Rattle.r4_work.specs.r4_cell.Seen.{CellSeen, node_of}
use Rattle.r4_work.specs.r4_cell.declared.change.Change.{Change}
use Rattle.r4_work.specs.r4_cell.declared.change.Fresh.{Fresh}
use Rattle.r4_work.proofs.r4_graft.FoundPlaces.{find_pointer}
use Rattle.r4_work.proofs.r4_patch.LeftOut.{among_contained}
use Rattle.r4_work.specs.r4_patch.Following.{is_among, without}
use Rattle.r4_work.proofs.r4_patch.Members.{Distinct, cases, distinct, distinct_append, have_names, here, later, none}
use Rattle.r4_work.specs.r4_patch.Effect.{Placed}
use Rattle.r4_work.specs.r4_patch.Joining.{ids_of}
use Rattle.r4_work.proofs.r4_path.Rising.{id_member}
use Rattle.r4_work.specs.r4_path.Levels.{units_of_cells}
use Rattle.r4_work.specs.r4_path.Steps.{root_pair}
use Rattle.r4_rows.proofs.RowUnits.{in_units, of_units, same_bool}
use Rattle.r4_rows.proofs.SlumPieces.{slum_pieces, twig_pieces}
use Rattle.r4_rows.specs.Fewest.{joined}
use Rattle.r4_rows.specs.Packed.{AreSlumPieces, AreTheirPieces}
use Rattle.r4_rows.specs.Rows.{AreNamedAfter, AreThere, Row, news_in, olds_in}
use Rattle.r4_rows.specs.Units.{UnitOf}
use Rattle.r4_squeeze.proofs.SqueezedSlums.{same_range}
use Rattle.r4_row_edit.proofs.Effects.{shift_change, shift_effect, shift_meets}
use Rattle.r4_row_edit.proofs.Packed.{some_cells}
use Rattle.r4_row_edit.proofs.Parted.{may_get}
use Rattle.r4_row_edit.proofs.Shifts.{in_range}
use Rattle.r4_row_edit.specs.Climbing.{AreFirst, RowsOver}
use Rattle.r4_row_edit.specs.Parting.{CanPart, IsParted, MayPart}
use Rattle.r4_row_edit.specs.Shifting.{IsShiftIn, IsShifted, PiecesTakeEffect}
use Rattle.r4_row_gather.proofs.Going.{coming_named, going_low, going_named, of_names, staying_follow, staying_units, to_names}
use Rattle.r4_row_gather.proofs.Leaves.{came_id, came_nodes, came_unit, coming_distinct, going_distinct, gone_unit}
use Rattle.r4_row_gather.specs.Clearing.{Fate, MayHave, coming, going, is_in_way, is_pointer, staying}
use Rattle.r4_row_gather.specs.Finding.{IsRowFrom}
use Rattle.r4_row_gather.specs.Gathering.{IsStill, StandIn}
use Rattle.r4_row_gather.specs.Parting.{AreParts}
use Rattle.r4_row_gather.specs.Rising.{AreRowsOver}

-- ---- the levels of the rows above

olds_above : (l : ℕ) (s : Row) (more : List Row) → RowsOver l s more → (c : CellSeen) → Contains (olds_in more) c
    → suc l ≤ c.level
olds_above l s [] over c at = absurd (none c at)
olds_above l s (x ∷ more) (points, over) c at = elim (Contains-append_cases x.old (olds_in more) c at) [
  | inl mine ↦ let is = (in_range (suc l) points.from points.to x.old c points.were mine).0 in omega (arith, is)
  | inr rest ↦ let high = olds_above (suc l) x more over c rest in omega (arith, high)
]

news_above : (l : ℕ) (s : Row) (more : List Row) → RowsOver l s more → (c : CellSeen) → Contains (news_in more None) c
    → suc l ≤ c.level
news_above l s [] over c at = absurd (none c at)
news_above l s (x ∷ more) (points, over) c at = elim (Contains-append_cases x.new (news_in more None) c at) [
  | inl mine ↦ let is = (in_range (suc l) points.from points.to x.new c points.are mine).0 in omega (arith, is)
  | inr rest ↦ let high = news_above (suc l) x more over c rest in omega (arith, high)
]

olds_first : (more : List Row) (rows : List (List CellSeen)) → AreFirst more rows → (c : CellSeen)
    → Contains (olds_in more) c → (row : List CellSeen) × Contains rows row × Contains row c
olds_first [] rows first c at = absurd (none c at)
olds_first (x ∷ more) [] first c at = absurd first
olds_first (x ∷ more) (row ∷ rows) (is, first) c at = elim (Contains-append_cases x.old (olds_in more) c at) [
  | inl mine ↦ (row, here row rows, subst (λ xs. Contains xs c) is mine)
  | inr rest ↦ let (r, m, there) = olds_first more rows first c rest in (r, later row r rows m, there)
]

no_root : (over : Option CellSeen) → root_pair over ≡ None → over ≡ None
no_root None e = refl
no_root (Some c) e = absurd cc

-- ---- out of the way

in_middle : {A : Type 0} (xs : List A) (y : A) (ys : List A) → Contains (xs ++ y ∷ ys) y
in_middle [] y ys = here y ys
in_middle (x ∷ xs) y ys = later x y (xs ++ y ∷ ys) (in_middle xs y ys)

out_of_way : (from to key : ℕ) (p : TwigPiece) (id : ℕ) → p.part ≡ Pointer (record { 0 = id })
    → rank p.key ≡ key → is_in_way from to p ≡ false → (key < from) ⊎ (to ≤ key)
out_of_way from to key p id points at out = by_tests (nat_le from (rank p.key)) (nat_lt (rank p.key) to) refl refl
    (subst (λ (t : TwigPart). (is_pointer t && (nat_le from (rank p.key) && nat_lt (rank p.key) to)) ≡ false) points out)
  where
    by_tests : (a b : Bool) → nat_le from (rank p.key) ≡ a → nat_lt (rank p.key) to ≡ b → (a && b) ≡ false
        → (key < from) ⊎ (to ≤ key)
    by_tests false b one two e = inl (grind (arith, nat_tests, one, at))
    by_tests true false one two e = inr (grind (arith, nat_tests, two, at))
    by_tests true true one two e = absurd cc

-- ---- names of what stands

not_among : (ids : List ℕ) (cells : List CellSeen) (x : CellSeen) → Contains (without ids cells) x
    → Contains ids x.id → ⊥
not_among ids [] x at there = none x at
not_among ids (c ∷ cells) x at there =
    by_test (is_among ids c.id) refl (λ m. not_among ids cells x m there) at
  where
    by_test : (b : Bool) → is_among ids c.id ≡ b → (Contains (without ids cells) x → ⊥)
        → Contains (if not b then c ∷ without ids cells else without ids cells) x → ⊥
    by_test true e rest m = rest m
    by_test false e rest m = elim (cases c x (without ids cells) m) [
      | inl is ↦ false≢true (sym e ∙ among_contained ids c.id (subst (λ (y : CellSeen). Contains ids y.id) is there))
      | inr more ↦ rest more
    ]

pub standing_names : (cells old new : List CellSeen) → HaveNames cells → HaveNames new
    → ((c : CellSeen) → Contains new c → Contains (ids_of old) c.id) → HaveNames (new ++ without (ids_of old) cells)
standing_names cells old new names fresh numbers = have_names (new ++ without (ids_of old) cells)
    (distinct_append new (without (ids_of old) cells) (distinct new fresh)
    (distinct (without (ids_of old) cells) (AllPairs-filter (λ (c d : CellSeen). c.id ≢ d.id)
    (λ (c : CellSeen). not (is_among (ids_of old) c.id)) cells names))
    (λ x y mx my same. not_among (ids_of old) cells y my (subst (Contains (ids_of old)) same (numbers x mx))))

-- ---- the change

abbrev no_fresh : Fresh
no_fresh = record { next = 0; end = 0 }

module _ (cells row : List CellSeen) (begin hi : ℕ) (is : IsRowFrom cells 2 begin hi row)
    (each : List (List TwigPiece)) (their : AreTheirPieces row each) (fates : List Fate)
    (may : MayHave hi (joined each) fates) (first : next_of hi (staying (joined each) fates) ≡ next_of hi (joined each))
    (among : (c : CellSeen) → Contains (going fates) c → Contains cells c) (parts : List (List TwigPiece))
    (are : AreParts (staying (joined each) fates) parts) (few : length parts ≤ length row)
    (above : List (List CellSeen)) (over : AreRowsOver cells 2 row above) where
  had : AreTwigPieces is.lo hi (joined each)
  had = twig_pieces row is.lo hi each is.along is.some their

  slum : AreSlumPieces row is.lo hi (joined each) each
  slum = slum_pieces row is.lo hi each is.along is.some their

  some_of : (ps : List TwigPiece) → next_of hi ps ≡ is.lo → 1 ≤ length ps
  some_of [] e = let less = is.some in absurd (omega (arith, e, less))
  some_of (p ∷ ps) e = omega arith

  left : AreTwigPieces is.lo hi (staying (joined each) fates)
  left = record {
    some = some_of (staying (joined each) fates) (first ∙ had.first);
    first = first ∙ had.first;
    follow = staying_follow is.lo hi (joined each) fates had.follow may;
  }

  may_part : MayPart row parts
  may_part = record {
    from = is.lo;
    to = hi;
    along = is.along;
    pieces = subst (AreTwigPieces is.lo hi) (sym are.are) left;
    some = are.some;
    fit = are.fit;
    few = few;
  }

  pub can_part : CanPart row parts above
  can_part = record { may = may_part; up = over.up }

  abbrev low : Row
  low = record { old = going fates; new = coming fates }

  -- ---- its cells

  module _ (c : Change) (made : IsParted low row parts above c) where
    shifted : IsShifted low row (joined parts) above no_fresh no_fresh c
    shifted = (made.shifted no_fresh (omega arith)).0

    over_none : shifted.over ≡ None
    over_none = no_root shifted.over (sym shifted.root ∙ made.root)

    old_cases : (x : CellSeen) → Contains c.old x
        → Contains (going fates) x ⊎ (Contains row x ⊎ Contains (olds_in shifted.more) x)
    old_cases x at = elim (Contains-append_cases (going fates) (row ++ olds_in shifted.more) x
        (subst (λ cs. Contains cs x) shifted.old at)) [
          | inl gone ↦ inl gone
          | inr rest ↦ inr (Contains-append_cases row (olds_in shifted.more) x rest)
        ]

    pub old_among : (x : CellSeen) → Contains c.old x → Contains cells x
    old_among x at = elim (old_cases x at) [
      | inl gone ↦ among x gone
      | inr (inl mine) ↦ is.among x mine
      | inr (inr high) ↦
          let (cs, m, there) = olds_first shifted.more above shifted.climbed.olds x high in over.among cs m x there
    ]

    gone_old : (x : CellSeen) → Contains (going fates) x → Contains c.old x
    gone_old x at = subst (λ cs. Contains cs x) (sym shifted.old)
        (Contains-append_left (going fates) (row ++ olds_in shifted.more) x at)

    pub new_numbers : (x : CellSeen) → Contains c.new x → Contains (ids_of c.old) x.id
    new_numbers x at = elim (made.numbers x at) [
      | inl below ↦
          let (leaf, (d, m, same)) = came_id hi (joined each) fates may x below in
          subst (Contains (ids_of c.old)) (sym same) (id_member c.old d (gone_old d m))
      | inr old ↦ old
    ]

    new_twig : (x : CellSeen) → Contains c.new x → x.level ≡ 2 → Contains shifted.cells x
    new_twig x at two = elim (Contains-append_cases (coming fates) (shifted.cells ++ news_in shifted.more shifted.over) x
        (subst (λ cs. Contains cs x) shifted.new at)) [
          | inl came ↦ let leaf = (came_id hi (joined each) fates may x came).0 in absurd (omega (arith, leaf, two))
          | inr rest ↦ elim (Contains-append_cases shifted.cells (news_in shifted.more shifted.over) x rest) [
            | inl mine ↦ mine
            | inr high ↦
                let up = news_above 2 (record { old = row; new = shifted.cells }) shifted.more shifted.climbed.points x
                (subst (λ o. Contains (news_in shifted.more o) x) over_none high) in
                absurd (omega (arith, up, two))
          ]
        ]

    gone_leaf : (x : CellSeen) → Contains c.old x → x.level ≡ 1 → Contains (going fates) x
    gone_leaf x at leaf = elim (old_cases x at) [
      | inl gone ↦ gone
      | inr (inl mine) ↦
          let two = (in_range 2 is.lo hi row x is.along mine).0 in absurd (omega (arith, two, leaf))
      | inr (inr high) ↦
          let up = olds_above 2 (record { old = row; new = shifted.cells }) shifted.more shifted.climbed.points x high in
          absurd (omega (arith, up, leaf))
    ]

    pub way : (from to : ℕ) → ((x : CellSeen) → Contains (going fates) x → (p : TwigPiece)
        → Contains (staying (joined each) fates) p → is_in_way from to p ≡ false)
        → (x : CellSeen) → Contains c.old x → x.level ≡ 1 → (d : CellSeen) → Contains c.new d → d.level ≡ 2
        → (n : Name) → Contains (node_of d).names n → n.level ≡ 1 → (n.lo < from) ⊎ (to ≤ n.lo)
    way from to clear x at leaf d new two n named low =
        let naming = (shifted.twigs.twigs.has.names n).0 (d, new_twig d new two, named) in
        let f = find_pointer is.lo hi shifted.twigs.to (staying (joined each) fates) n left.follow
        (subst (λ ps. Contains (names_of shifted.twigs.to ps) n) are.are naming) low in
        out_of_way from to n.lo f.piece n.id f.part f.key (clear x (gone_leaf x at leaf) f.piece
        (subst (λ ps. Contains ps f.piece) (sym f.is) (in_middle f.before f.piece f.behind)))

  -- ---- in a part of a tree

  module _ (t : Store Value) (r : Root) (within : StandIn t r cells) where
    gone_there : AreThere t (going fates)
    gone_there c at = within.stand c (among c at)

    named : (to : ℕ) → to ≡ hi → (n : Name) → Contains (names_of to (joined parts)) n
        ↔ AreNamedAfter low (record { old = row; new = [] }) n
    named to same n = (
      (λ at. elim (of_names is.lo hi (joined each) fates had.follow may n (subst (λ ps. Contains (names_of hi ps) n) are.are
          (subst (λ k. Contains (names_of k (joined parts)) n) same at))) [
            | inl (kept, out) ↦ inl ((slum.names n).1 kept, out)
            | inr comes ↦ inr comes
          ]),
      (λ after. subst (λ k. Contains (names_of k (joined parts)) n) (sym same)
          (subst (λ ps. Contains (names_of hi ps) n) (sym are.are) (elim after [
            | inl (naming, out) ↦ to_names hi (joined each) fates may n ((slum.names n).0 naming) out
            | inr (d, at, name) ↦ subst (Contains (names_of hi (staying (joined each) fates))) (sym name)
                (coming_named hi (joined each) fates may d at)
          ]))),
    )

    gone_nodes : (c : CellSeen) → Contains (going fates) c → IsNode (node_of c)
    gone_nodes c at = within.part.nodes c.id (node_of c) (gone_there c at)

    once : Distinct (going fates)
    once = going_distinct hi t is.lo (joined each) fates had.follow may gone_there

    pub shift_in : IsShiftIn t r low row (joined parts) above no_fresh
    shift_in = record {
      part = within.part;
      gone = gone_there;
      low_old = λ c at. let leaf = (going_low is.lo hi (joined each) fates had.follow may c at).1 in omega (arith, leaf);
      low_new = λ d at. let leaf = (came_id hi (joined each) fates may d at).0 in omega (arith, leaf);
      nodes = came_nodes hi (joined each) fates may gone_nodes;
      there = λ c at. within.stand c (is.among c at);
      leads = λ c at. (slum.names _).1 (going_named hi (joined each) fates may c at);
      names = λ from to along n. named to (let (l, a, b) = same_range 2 2 from to is.lo hi row
          (some_cells 2 is.lo hi row is.some is.along) along is.along in b) n;
      stand = λ cs at c m. within.stand c (over.among cs at c m);
      up = λ too_few. absurd (too_few (may_get row parts may_part));
      free = record {
        cells = λ i low less. absurd (omega (arith, less));
        names = λ i low less. absurd (omega (arith, less));
      };
      below = record {
        old = have_names (going fates) once;
        new = have_names (coming fates) (coming_distinct hi (joined each) fates may once);
        each = λ d at. let (leaf, (c, m, same)) = came_id hi (joined each) fates may d at in
            inl (subst (Contains (ids_of (going fates))) (sym same) (id_member (going fates) c m));
      };
    }

    -- ---- what happens to units

    twigs_of : (k : ℕ) (u : Placed Value) (xs ys : List CellSeen) → ((c : CellSeen) → Contains xs c → c.level ≡ 2)
        → ((c : CellSeen) → Contains ys c → c.level ≡ 2) → units_of_cells xs ≡ units_of_cells ys → UnitOf xs k u
        → UnitOf ys k u
    twigs_of k u xs ys one two same (c, at, unit, kind) =
        let (d, there, also) = of_units ys (k, u.0) (subst (λ us. Contains us (k, u.0)) same
        (in_units xs c (k, u.0) at unit)) in
        (d, there, also, same_bool c.level d.level u.1 (one c at ∙ sym (two d there)) kind)

    in_row : (c : CellSeen) → Contains row c → c.level ≡ 2
    in_row c at = (in_range 2 is.lo hi row c is.along at).0

    takes_effect : PiecesTakeEffect low row (joined parts) (λ k. false) (λ k. None)
    takes_effect cs (twigs, units) = record {
      held = λ k at. absurd cc;
      there = λ k u at. absurd cc;
      others = λ k u at. (
        (λ (d, m, unit, kind). elim (Contains-append_cases (coming fates) cs d m) [
          | inl came ↦
              let (c, gone, its) = came_unit hi (joined each) fates may d came (k, u.0) unit in (
                c,
                Contains-append_left (going fates) row c gone,
                its,
                same_bool d.level c.level u.1 (leaves d came c gone) kind,
              )
          | inr new ↦ let (c, there, its, alike) = twigs_of k u cs row twigs in_row same (d, new, unit, kind) in
              (c, Contains-append_right (going fates) row c there, its, alike)
        ]),
        (λ (c, m, unit, kind). elim (Contains-append_cases (going fates) row c m) [
          | inl gone ↦
              let (d, came, its) = gone_unit hi (joined each) fates may gone_nodes c gone (k, u.0) unit in (
                d,
                Contains-append_left (coming fates) cs d came,
                its,
                same_bool c.level d.level u.1 (sym (leaves d came c gone)) kind,
              )
          | inr stays ↦ let (d, there, its, alike) = twigs_of k u row cs in_row twigs (sym same) (c, stays, unit, kind) in
              (d, Contains-append_right (coming fates) cs d there, its, alike)
        ]),
      );
    }
      where
        same : units_of_cells cs ≡ units_of_cells row
        same = units ∙ (ap units_of are.are ∙ (staying_units hi (joined each) fates may
            ∙ sym slum.units))

        leaves : (d : CellSeen) → Contains (coming fates) d → (c : CellSeen) → Contains (going fates) c → d.level ≡ c.level
        leaves d came c gone = (came_id hi (joined each) fates may d came).0
            ∙ sym (going_low is.lo hi (joined each) fates had.follow may c gone).1

    pub still : (c : Change) → IsParted low row parts above c → IsStill t r c
    still c made =
        let (s, same) = made.shifted no_fresh (omega arith) in
        record {
          change = shift_change t r low row (joined parts) above no_fresh no_fresh c shift_in s;
          meets = shift_meets t r low row (joined parts) above no_fresh no_fresh c shift_in s;
          effect = shift_effect t r low row (joined parts) above no_fresh no_fresh c shift_in s (λ k. false) (λ k. None)
              takes_effect;
        }
