-- The first and the last of some leaves that are given in a list, and the last piece of an extent.
use Rattle.std.proofs.Common.{◌≡◌, ℕ, zero, suc, ◌-◌, ◌*◌, ◌<◌, List, [], ◌∷◌, ◌++◌, length, map, get_or, refl, sym, ap}
use Rattle.std.proofs.Common.{subst, ◌∙◌, arith}
use Rattle.std.specs.Prelude.{Contains, None}
use Rattle.std.proofs.lemmas.Bool.{lt-leb}
use Rattle.std.proofs.lemmas.List.{length-append}
use Rattle.r4_base.specs.Cell.{item_end}
use Rattle.r4_base.specs.Key.{later, rank}
use Rattle.r4_base.specs.Node.{Item}
use Rattle.r4_base.specs.Tree.{Root, Store}
use Rattle.r4_base.specs.Value.{Value}
use Rattle.r4_base.specs.declared.items.Unit.{Unit as ExtentUnit}
use Rattle.r4_base.specs.declared.key.Key.{Key}
use Rattle.r4_work.specs.r4_branch.declared.piece.TwigPart.{TwigPart}
use Rattle.r4_work.specs.r4_branch.declared.piece.TwigPart.TheVariants.{Pointer, Blocks}
use Rattle.r4_work.specs.r4_branch.declared.piece.TwigPiece.{TwigPiece}
use Rattle.r4_work.proofs.r4_branch.UnitPieces.{rank_later}
use Rattle.r4_work.specs.r4_cell.Seen.{CellSeen, node_of}
use Rattle.r4_work.specs.r4_cell.declared.change.Fresh.{Fresh}
use Rattle.r4_work.specs.r4_edit.Extents.{IsGivenExtent}
use Rattle.r4_work.specs.r4_edit.LeafParts.{first_from}
use Rattle.r4_work.specs.r4_leaf.Units.{LeafUnit}
use Rattle.r4_work.proofs.r4_patch.Members.{here, later as further}
use Rattle.r4_work.proofs.r4_path.Rising.{follow_within, hi_is}
use Rattle.r4_extent_edit.specs.Between.{EndsAt, HasKeyBehind}
use Rattle.r4_extent_edit.specs.Setting.{IsSetUp}
use Rattle.r4_extent_edit.specs.Turning.{AreEnds, IsAround, IsTurnUp, last_leaf}
use Rattle.r4_extent_edit.proofs.TurnPieces.{last_in}

-- ---- leaves in a list

last_at : {A : Type 0} (h : A → CellSeen) (a : A) (rest : List A) (d : A) (n : ℕ) → n ≡ length rest
    → h (get_or (a ∷ rest) n d) ≡ last_leaf (h a) (map h rest)
last_at h a [] d zero e = refl
last_at h a [] d (suc n) e = absurd (omega (arith, e))
last_at h a (b ∷ bs) d zero e = absurd (omega (arith, e))
last_at h a (b ∷ bs) d (suc n) e = last_at h b bs d n (omega (arith, e))

last_of : List CellSeen → CellSeen → CellSeen
last_of [] d = d
last_of (c ∷ cs) d = last_leaf c cs

first_of : List CellSeen → CellSeen → CellSeen
first_of [] d = d
first_of (c ∷ cs) d = c

pub first_is : {A : Type 0} (h : A → CellSeen) (xs : List A) (x : A) (leaf : CellSeen) (more : List CellSeen) → x
    ≡ get_or xs 0 x → map h xs ≡ leaf ∷ more → h x ≡ leaf
unfolding first_of
first_is h [] x leaf more is e = let n = ap length e in absurd (omega (arith, n))
first_is h (a ∷ more_as) x leaf more is e = ap h is ∙ ap (λ cs. first_of cs leaf) e

pub last_is : {A : Type 0} (h : A → CellSeen) (xs : List A) (x : A) (leaf : CellSeen) (more : List CellSeen) → x
    ≡ get_or xs (length xs - 1) x → map h xs ≡ leaf ∷ more → h x ≡ last_leaf leaf more
unfolding last_of
last_is h [] x leaf more is e = let n = ap length e in absurd (omega (arith, n))
last_is h (a ∷ others) x leaf more is e = ap h is ∙ (last_at h a others x (length (a ∷ others) - 1) (omega arith)
    ∙ ap (λ cs. last_of cs leaf) e)

pub ends_at : {A : Type 0} (h : A → CellSeen) (xs : List A) (x : A) (from to : ℕ) → x ≡ get_or xs (length xs - 1) x
    → AreEnds (map h xs) from to → (leaf : CellSeen) × IsAround leaf (h x) from to
ends_at h [] x from to is e = absurd e
ends_at h (a ∷ others) x from to is e = (
  h a,
  subst (λ (l : CellSeen). IsAround (h a) l from to) (sym (ap h is
      ∙ last_at h a others x (length (a ∷ others) - 1) (omega arith))) e,
)

-- ---- no unit behind a leaf's range

pub none_behind : (k : ℕ) (us : List LeafUnit) → ((j : ℕ) (v : Value) → Contains us (j, v) → j < k)
    → first_from k us ≡ None
none_behind k [] below = refl
none_behind k (u ∷ us) below =
    let lt : u.0 < k = below u.0 u.1 (here u us) in
    rw (lt-leb k u.0 lt) (none_behind k us (λ j v at. below j v (further u (j, v) us at)))

-- ---- the last of an extent's pieces

at_end : (xs : List TwigPiece) (x d : TwigPiece) (n : ℕ) → n ≡ length xs → get_or (xs ++ (x ∷ [])) n d ≡ x
at_end [] x d zero e = refl
at_end [] x d (suc n) e = absurd (omega (arith, e))
at_end (y ∷ ys) x d zero e = absurd (omega (arith, e))
at_end (y ∷ ys) x d (suc n) e = at_end ys x d n (omega (arith, e))

width_of : TwigPart → ℕ
width_of (Pointer to) = 0
width_of (Blocks u) = u.width

pub last_piece : (to : ℕ) (ps : List TwigPiece) (d : TwigPiece) (u : ExtentUnit) → EndsAt to ps
    → (get_or ps (length ps - 1) d).part ≡ Blocks u
    → rank (later (get_or ps (length ps - 1) d).key (4096 * u.width)) ≡ to
unfolding width_of
last_piece to ps d u ends part =
    let long = ap length ends.is ∙ length-append ends.before (record { key = ends.key; part = Blocks ends.unit }
    ∷ []) in
    let is : get_or ps (length ps - 1) d ≡ record { key = ends.key; part = Blocks ends.unit } =
    ap (λ xs. get_or xs (length ps - 1) d) ends.is ∙ at_end ends.before
    (record { key = ends.key; part = Blocks ends.unit }) d (length ps - 1) (omega (arith, long)) in
    let width : u.width ≡ ends.unit.width = ap width_of (sym part ∙ ap (λ (p : TwigPiece). p.part) is) in
    let key = ap (λ (p : TwigPiece). rank p.key) is in
    let at = rank_later (get_or ps (length ps - 1) d).key (4096 * u.width) in
    let end = ends.end in
    omega (arith, width, key, at, end)

-- ---- what is given

pub set_item : (t : Store Value) (r : Root) (it : Item) (fresh : Fresh) (cells : List CellSeen)
    → IsSetUp t r it fresh cells → IsGivenExtent it × HasKeyBehind it
set_item t r it fresh [] e = absurd e
set_item t r it fresh (twig ∷ ups) e = (e.given, e.behind)

pub turn_item : (t : Store Value) (r : Root) (it : Item) (leaves : List CellSeen) (fresh : Fresh)
    (cells : List CellSeen) → IsTurnUp t r it leaves fresh cells
    → IsGivenExtent it × (HasKeyBehind it × (fresh.next < fresh.end))
turn_item t r it [] fresh cells e = absurd e
turn_item t r it (leaf ∷ more) fresh [] e = absurd e
turn_item t r it (leaf ∷ more) fresh (twig ∷ ups) e = (e.given, (e.behind, e.number))

pub turn_ends : (t : Store Value) (r : Root) (it : Item) (leaves : List CellSeen) (fresh : Fresh)
    (cells : List CellSeen) → IsTurnUp t r it leaves fresh cells
    → (to : Key) → rank to ≡ item_end it → AreEnds leaves (rank it.key) (rank to)
turn_ends t r it [] fresh cells e to same = absurd e
turn_ends t r it (leaf ∷ more) fresh [] e to same = absurd e
turn_ends t r it (leaf ∷ more) fresh (twig ∷ ups) e to same =
    let w = follow_within 1 (rank leaf.lo) (rank (last_leaf leaf more).hi) (leaf ∷ more)
    (last_leaf leaf more) e.beside.follow (last_in leaf more) in
    let node = e.path.part.nodes (last_leaf leaf more).id (node_of (last_leaf leaf more)) (e.beside.stand
    (last_leaf leaf more) (last_in leaf more)) in
    let hi = hi_is (last_leaf leaf more) in
    subst (λ (n : ℕ). AreEnds (leaf ∷ more) (rank it.key) n) (sym same) (record {
      level = e.beside.follow.0;
      last_level = w.level_as;
      low = e.around.low;
      begins = e.around.begins;
      ends = e.around.ends;
      high = e.around.high;
      units = λ k v at. let inside = node.unit_in k v at in omega (arith, inside, hi);
    })
