-- Leaves whose range becomes an extent: what goes and comes.
use Rattle.std.proofs.Common.{◌≡◌, ◌≢◌, ◌↔◌, ◌⊎◌, inl, inr, ℕ, ◌+◌, ◌-◌, ◌*◌, ◌^◌, ◌<◌, ◌≤◌, true, List, [], ◌∷◌, ◌++◌}
use Rattle.std.proofs.Common.{length, map, take, get_or, refl, sym, ap, subst, ◌∙◌, arith}
use Rattle.std.specs.Prelude.{Contains, Option, None, Some, reverse}
use Rattle.std.proofs.lemmas.List.Elements.{Contains-append_cases, Contains-append_left, Contains-append_right}
use Rattle.std.proofs.lemmas.Option.{same_Some}
use Rattle.r4_base.specs.Cell.{item_end, names_block}
use Rattle.r4_base.specs.Extents.{blocks_in, units_of as units_of_body}
use Rattle.r4_base.specs.Key.{rank}
use Rattle.r4_base.specs.Node.{Item}
use Rattle.r4_base.specs.Tree.{IsNode, Name, Node, Root, Store}
use Rattle.r4_base.specs.Value.{Value}
use Rattle.r4_base.specs.declared.key.Key.{Key}
use Rattle.r4_work.specs.r4_branch.Pieces.{names_of, next_of}
use Rattle.r4_work.specs.r4_branch.declared.piece.TwigPiece.{TwigPiece}
use Rattle.r4_work.proofs.r4_branch.SoundItems.{extent_item}
use Rattle.r4_work.proofs.r4_branch.UnitPieces.{rank_later}
use Rattle.r4_work.specs.r4_cell.Patch.{HaveNames}
use Rattle.r4_work.specs.r4_cell.Seen.{CellSeen, node_of}
use Rattle.r4_work.specs.r4_cell.declared.change.Change.{Change}
use Rattle.r4_work.specs.r4_cell.declared.change.Fresh.{Fresh}
use Rattle.r4_work.specs.r4_graft.Splices.{IsBorder}
use Rattle.r4_work.proofs.r4_graft.Placed.{first_member, first_or_later, not_in_none}
use Rattle.r4_work.specs.r4_patch.Joining.{ids_of}
use Rattle.r4_work.proofs.r4_patch.Members.{Distinct, have_names, here, later}
use Rattle.r4_work.specs.r4_path.Grafts.{AreBlocksOf, AreCountedBelow, GraftsBelow, IsGraftBelow, IsGraftBelowIn}
use Rattle.r4_work.specs.r4_path.Grafts.{IsGraftBelowUp, IsGraftIn, IsGraftOf, IsGraftedIn, IsGraftedUp, IsUnusedBeside}
use Rattle.r4_work.specs.r4_path.Steps.{CountUp, Follow as FollowCells, IsFree, IsNameOf, name_of}
use Rattle.r4_work.specs.r4_path.TwigPieces.{ArePiecesOf, twig_pieces}
use Rattle.r4_work.specs.r4_path.Twigs.{Below}
use Rattle.r4_work.proofs.r4_path.GraftBelow.{path_later}
use Rattle.r4_work.proofs.r4_path.Grown.{map_names, names_map}
use Rattle.r4_work.proofs.r4_path.LastCell.{last_up, up_last, up_some}
use Rattle.r4_work.proofs.r4_path.Rising.{follow_within, hi_is, lo_is}
use Rattle.r4_work.specs.r4_edit.Extents.{AreEnough, IsGivenExtent, given_cells, item_blocks}
use Rattle.r4_work.specs.r4_edit.LeafParts.{HasLeft, HasRight, first_from, units_from}
use Rattle.r4_work.proofs.r4_edit.CutGraft.{may_be_named}
use Rattle.r4_work.proofs.r4_edit.OverLeaf.{first_there, leaf_node, some_is_none}
use Rattle.r4_work.proofs.r4_edit.OverPieces.{MayStandBehind}
use Rattle.r4_work.proofs.r4_edit.Spread.{extent_level}
use Rattle.r4_extent_edit.specs.Turning.{IsTurnIn, IsTurnUp, KeepsEnds, TurnsIn, TurnsUp, key_of_end, last_leaf}
use Rattle.r4_extent_edit.specs.Turning.{turned_pieces}
use Rattle.r4_extent_edit.proofs.TurnPieces.{comes, comes_names, last_in, p, turn_border, turned_bytes, turned_names}
use Rattle.r4_extent_edit.proofs.TurnPieces.{turned_twigs, turned_units}

-- the key behind an extent
pub end_is : (it : Item) → IsGivenExtent it → rank (key_of_end it) ≡ item_end it
end_is it given =
    let e = (extent_item it given.plugin given.sound).end in
    let at = rank_later it.key (4096 * blocks_in (units_of_body it.body)) in
    at ∙ sym e

-- leaves that stand one beside the other have each its name
pub distinct_leaves : (t : Store Value) (lo end : ℕ) (cells : List CellSeen) → FollowCells 1 lo end cells
    → ((c : CellSeen) → Contains cells c → t c.id ≡ Some (node_of c)) → Distinct cells
distinct_leaves t lo end [] f stand = tt
distinct_leaves t lo end (c ∷ cells) f stand = (
  λ y at same.
      let nodes : node_of c ≡ node_of y = same_Some (node_of c) (node_of y) (sym (subst (λ i. t i
      ≡ Some (node_of c)) same (stand c (here c cells))) ∙ stand y (later c y cells at)) in
      let los : (node_of c).lo ≡ (node_of y).lo = ap (λ (n : Node Value). n.lo) nodes in
      let a = lo_is c in
      let b = lo_is y in
      let w = follow_within 1 (rank c.hi) end cells y f.3 at in
      let from = w.from in
      let lt = f.2 in
      let start = f.1 in
      omega (arith, los, a, b, from, lt, start),
  distinct_leaves t (rank c.hi) end cells f.3 (λ y at. stand y (later c y cells at)),
)

module _ (t : Store Value) (r : Root) (it : Item) (leaf : CellSeen) (more : List CellSeen) (twig : CellSeen)
    (ups : List CellSeen)
    (fresh mid : Fresh) (is : IsTurnIn t r it leaf more twig ups fresh) (are : ArePiecesOf twig (twig_pieces twig))
    (left right : Option CellSeen) (keeps : KeepsEnds leaf more it.key (key_of_end it) fresh mid left right)
    (unplaced : 2 ^ 63 ≤ fresh.next) where
  abbrev last : CellSeen
  last = last_leaf leaf more

  stand_node : (c : CellSeen) → Contains (leaf ∷ more) c → IsNode (node_of c)
  stand_node c at = is.path.part.nodes c.id (node_of c) (is.beside.stand c at)

  to_is : rank (key_of_end it) ≡ item_end it
  to_is = end_is it is.given

  enough : AreEnough r (turned_pieces it right twig) twig ups fresh
  enough = is.room fresh.next right keeps.right_is

  -- ---- what stays of the last leaf

  stands_behind : (o : Option CellSeen) → HasRight last (key_of_end it) fresh.next o → MayStandBehind it last o
  stands_behind None h = is.around.high
  stands_behind (Some c) h =
      let first = first_there (rank (key_of_end it)) (node_of last).units (rank c.lo) h.from in
      let inside = (stand_node last (last_in leaf more)).unit_in (rank c.lo) first.0 first.1 in
      let hi = hi_is last in
      let low = first.2 in
      let e = to_is in
      record {
        low = omega (arith, low, e);
        high = omega (arith, inside, hi);
        whole_key = h.whole_key;
        may_be_named = ap (λ i. names_block true (2 ^ 64) (Some i)) h.number ∙ may_be_named fresh.next unplaced;
        level_is = h.level_is;
        to = h.to;
      }

  pub behind : MayStandBehind it last right
  behind = stands_behind right keeps.right_is

  abbrev pub below : Below
  below = record { old = leaf ∷ more; new = given_cells left ++ given_cells right }

  -- ---- what stays of the first leaf

  left_none : (o : Option CellSeen) → HasLeft leaf it.key o → rank it.key ≡ rank leaf.lo → o ≡ None
  left_none None h same = refl
  left_none (Some c) h same = let lt = h.0 in absurd (omega (arith, lt, same))

  left_some : (o : Option CellSeen) → HasLeft leaf it.key o → (rank it.key ≢ rank leaf.lo) → (c : CellSeen) × (o
      ≡ Some c) × (name_of c ≡ record { id = leaf.id; level = 1; lo = rank leaf.lo; hi = rank it.key })
  left_some None h other = absurd (other h)
  left_some (Some c) h other = (
    c,
    refl,
    (λ i. record {
      id = h.1.number i;
      level = h.1.level_is i;
      lo = rank
          (h.1.from i);
      hi = rank (h.1.to i);
    }),
  )

  -- ---- what the pieces name

  abbrev come_names : List Name
  come_names = map name_of (given_cells left) ++ (item_blocks it ++ map name_of (given_cells right))

  come : names_of (next_of (rank twig.hi) (p twig are leaf more is.beside.follow is.beside.named it right is.given
      is.around).behind) (comes twig are leaf more is.beside.follow is.beside.named it right is.given is.around)
      ≡ come_names
  come = comes_names twig are leaf more is.beside.follow is.beside.named it right is.given is.around behind left
      (left_none left keeps.left_is) (left_some left keeps.left_is)

  into_below : (n : Name) → Contains come_names n → IsNameOf (given_cells left ++ given_cells right) n
      ⊎ Contains (item_blocks it) n
  into_below n at = elim (Contains-append_cases (map name_of (given_cells left)) (item_blocks it ++ map name_of
      (given_cells right)) n at) [
        | inl a ↦ let x = names_map (given_cells left) n a in inl (
          x.0,
          Contains-append_left (given_cells left)
              (given_cells right) x.0 x.1,
          x.2,
        )
        | inr rest ↦ elim (Contains-append_cases (item_blocks it) (map name_of (given_cells right)) n rest) [
          | inl b ↦ inr b
          | inr c ↦ let x = names_map (given_cells right) n c in inl (
            x.0,
            Contains-append_right (given_cells left)
                (given_cells right) x.0 x.1,
            x.2,
          )
        ]
      ]

  out_of_below : (n : Name) → IsNameOf (given_cells left ++ given_cells right) n ⊎ Contains (item_blocks it) n
      → Contains come_names n
  out_of_below n (inr b) = Contains-append_right (map name_of (given_cells left)) (item_blocks it ++ map name_of
      (given_cells right)) n (Contains-append_left (item_blocks it) (map name_of (given_cells right)) n b)
  out_of_below n (inl x) = elim (Contains-append_cases (given_cells left) (given_cells right) x.0 x.1) [
    | inl a ↦ Contains-append_left (map name_of (given_cells left)) (item_blocks it ++ map name_of
        (given_cells right)) n (map_names (given_cells left) n (x.0, a, x.2))
    | inr c ↦ Contains-append_right (map name_of (given_cells left)) (item_blocks it ++ map name_of
        (given_cells right)) n (Contains-append_right (item_blocks it) (map name_of (given_cells right)) n (map_names
        (given_cells right) n (x.0, c, x.2)))
  ]

  left_node : (o : Option CellSeen) → HasLeft leaf it.key o → (c : CellSeen) → Contains (given_cells o) c
      → IsNode (node_of c)
  left_node None h c at = absurd (not_in_none c at)
  left_node (Some x) h c at = elim (first_or_later x [] c at) [
    | inl same ↦
        let lo = ap rank h.1.from in
        let hi = ap rank h.1.to in
        let lt = h.0 in
        let begins = is.around.begins in
        subst (λ (y : CellSeen). IsNode (node_of y)) same (leaf_node leaf x (stand_node leaf
        (here leaf more)) h.1.level_is (omega (arith, lo)) (omega (arith, lo, hi, lt)) (omega
        (arith, hi, begins)) h.1.sound)
    | inr none_is ↦ absurd (not_in_none c none_is)
  ]

  right_node : (o : Option CellSeen) → HasRight last (key_of_end it) fresh.next o → (c : CellSeen)
      → Contains (given_cells o) c → IsNode (node_of c)
  right_node None h c at = absurd (not_in_none c at)
  right_node (Some x) h c at = elim (first_or_later x [] c at) [
    | inl same ↦
        let hi = ap rank h.to in
        let first = first_there (rank (key_of_end it)) (node_of last).units (rank x.lo) h.from in
        let inside = (stand_node last (last_in leaf more)).unit_in (rank x.lo) first.0 first.1 in
        let lo = lo_is last in
        let end = hi_is last in
        subst (λ (y : CellSeen). IsNode (node_of y)) same (leaf_node last x (stand_node last
        (last_in leaf more)) h.level_is (omega (arith, inside, lo)) (omega (arith, hi, inside, end)) (omega
        (arith, hi)) h.sound)
    | inr none_is ↦ absurd (not_in_none c none_is)
  ]

  named_so : (n : Name) → Contains (names_of (rank twig.hi) (turned_pieces it right twig)) n ↔
      ((Contains (node_of twig).names n × (Contains (map name_of (leaf ∷ more)) n → ⊥))
      ⊎ Contains (names_of (next_of (rank twig.hi) (p twig are leaf more is.beside.follow is.beside.named it right
      is.given is.around).behind) (comes twig are leaf more is.beside.follow is.beside.named it right is.given
      is.around)) n)
  named_so n = turned_names twig are leaf more is.beside.follow is.beside.named it right is.given is.around behind n

  turned_of : IsGraftOf t twig (turned_pieces it right twig) below (item_blocks it)
  turned_of = record {
    goes = is.beside.named;
    gone = is.beside.stand;
    names = λ n. (
      λ at. elim ((named_so n).0 at) [
        | inl was ↦ inl (was.0, λ x. was.1 (map_names (leaf ∷ more) n x))
        | inr new ↦ inr (into_below n (subst (λ ns. Contains ns n) come new))
      ],
      λ at. (named_so n).1 (elim at [
        | inl was ↦ inl (was.0, λ x. was.1 (names_map (leaf ∷ more) n x))
        | inr new ↦ inr (subst (λ ns. Contains ns n) (sym come) (out_of_below n new))
      ]),
    );
    nodes = λ c at. elim (Contains-append_cases (given_cells left) (given_cells right) c at) [
      | inl a ↦ left_node left keeps.left_is c a
      | inr b ↦ right_node right keeps.right_is c b
    ];
    blocks = λ n at. extent_level it is.given.plugin n at;
  }

  -- ---- numbers

  all_free : fresh.next < fresh.end
  all_free = is.number

  not_fresh : leaf.id ≢ fresh.next
  not_fresh same =
      let gone : t leaf.id ≡ None = subst (λ (i : ℕ). t i ≡ None) (sym same) (is.path.free.cells fresh.next
      (omega arith) all_free) in
      some_is_none (node_of leaf) (sym (is.beside.stand leaf (here leaf more)) ∙ gone)

  few : (o : Option CellSeen) → length (given_cells o) ≤ 1
  few None = omega arith
  few (Some c) = omega arith

  numbered : (fresh.next ≤ mid.next) × ((mid.next ≤ fresh.next + 1) × (mid.end ≡ fresh.end))
  numbered =
      let n : mid.next ≡ fresh.next + length (given_cells right) = ap (λ (f : Fresh). f.next) keeps.number in
      let m : mid.end ≡ fresh.end = ap (λ (f : Fresh). f.end) keeps.number in
      let l = few right in
      (omega (arith, n), (omega (arith, n, l), m))

  pub turned_grafted : IsGraftedIn t r (turned_pieces it right twig) twig ups mid
  turned_grafted =
      let small = turned_bytes twig are leaf more is.beside.follow is.beside.named it right is.given is.around in
      let numbers = enough.numbers in
      let n = numbered in
      record {
        path = path_later t r (twig ∷ ups) fresh mid numbered.0 numbered.1.1 is.path;
        level = is.level;
        pieces = turned_twigs twig are leaf more is.beside.follow is.beside.named it right is.given is.around behind;
        bytes = omega (arith, small);
        enough = enough.enough;
        numbers = omega (arith, numbers, n);
      }

  -- which of what comes has the first leaf's name, and which a new one
  record Numbered (l o : Option CellSeen) : Type 0 where
    mine : List ℕ
    names : HaveNames (given_cells l ++ given_cells o)
    each : (c : CellSeen) → Contains (given_cells l ++ given_cells o) c → Contains (ids_of (leaf ∷ more)) c.id
        ⊎ Contains mine c.id
    counts : CountUp fresh.next mine
    ends : fresh.next + length mine ≤ mid.next

  old_name : (c d : CellSeen) → c ≡ d → c.id ≡ leaf.id → Contains (ids_of (leaf ∷ more)) d.id
  old_name c d same number = subst (λ (i : ℕ). Contains (leaf.id ∷ ids_of more) i) (sym number
      ∙ ap (λ (x : CellSeen). x.id) same) (first_member leaf.id (ids_of more))

  new_name : (c d : CellSeen) → c ≡ d → c.id ≡ fresh.next → Contains (fresh.next ∷ []) d.id
  new_name c d same number = subst (λ (i : ℕ). Contains (fresh.next ∷ []) i) (sym number
      ∙ ap (λ (x : CellSeen). x.id) same) (first_member fresh.next [])

  alone : (c : CellSeen) → Distinct (c ∷ [])
  alone c = (λ y at. absurd (not_in_none y at), tt)

  numbers_of : (l o : Option CellSeen) → HasLeft leaf it.key l → HasRight last (key_of_end it) fresh.next o → mid
      ≡ record fresh { next = fresh.next + length (given_cells o) } → Numbered l o
  numbers_of None None h g e = record {
    mine = [];
    names = have_names [] tt;
    each = λ c at. absurd (not_in_none c at);
    counts = tt;
    ends = let n = numbered in omega (arith, n);
  }
  numbers_of None (Some c) h g e =
      let n : mid.next ≡ fresh.next + 1 = ap (λ (f : Fresh). f.next) e in
      record {
        mine = fresh.next ∷ [];
        names = have_names (c ∷ []) (alone c);
        each = λ x at. elim (first_or_later c [] x at) [
          | inl same ↦ inr (new_name c x same g.number)
          | inr none_is ↦
              absurd (not_in_none x none_is)
        ];
        counts = (refl, tt);
        ends = omega (arith, n);
      }
  numbers_of (Some l) None h g e = record {
    mine = [];
    names = have_names (l ∷ []) (alone l);
    each = λ x at. elim (first_or_later l [] x at) [
      | inl same ↦ inl (old_name l x same h.1.number)
      | inr none_is ↦
          absurd (not_in_none x none_is)
    ];
    counts = tt;
    ends = let n = numbered in omega (arith, n);
  }
  numbers_of (Some l) (Some c) h g e =
      let n : mid.next ≡ fresh.next + 1 = ap (λ (f : Fresh). f.next) e in
      let apart : l.id ≢ c.id = λ same. not_fresh (sym h.1.number ∙ (same ∙ g.number)) in
      record {
        mine = fresh.next ∷ [];
        names = have_names (l ∷ (c ∷ [])) (
          λ y at. elim (first_or_later c [] y at) [
            | inl same ↦
                subst (λ (z : CellSeen). l.id ≢ z.id) same apart
            | inr none_is ↦ absurd (not_in_none y none_is)
          ],
          alone c,
        );
        each = λ x at. elim (first_or_later l (c ∷ []) x at) [
          | inl same ↦ inl (old_name l x same h.1.number)
          | inr rest ↦ elim (first_or_later c [] x rest) [
            | inl same ↦ inr (new_name c x same g.number)
            | inr none_is ↦ absurd (not_in_none x none_is)
          ]
        ];
        counts = (refl, tt);
        ends = omega (arith, n);
      }

  counted : AreCountedBelow t below (item_blocks it) fresh.next mid
  counted =
      let m = numbers_of left right keeps.left_is keeps.right_is keeps.number in
      let n = numbered in
      record {
        mine = m.mine;
        old = have_names (leaf ∷ more) (distinct_leaves t (rank leaf.lo) (rank last.hi) (leaf
            ∷ more) is.beside.follow is.beside.stand);
        new = m.names;
        each = m.each;
        counts = m.counts;
        ends = m.ends;
        free = subst (λ (e : ℕ). IsFree fresh.next e t) (sym n.1.1) is.path.free;
        blocks = λ x at. subst (λ (e : ℕ). IsUnusedBeside t fresh.next e x.id) (sym n.1.1) (is.blocks.unused x at);
        once = is.blocks.once;
      }

  pub turned_below : (blocks : List CellSeen) → AreBlocksOf (item_blocks it) blocks
      → IsGraftBelow t r (turned_pieces it right twig) below blocks fresh.next mid twig ups
  turned_below blocks of = record {
    data_names = item_blocks it;
    grafted = turned_grafted;
    of = turned_of;
    blocks_are
        = of;
    counted = counted;
  }

  pub turns_in : (path : List CellSeen) (after : Fresh) (c : Change)
      → GraftsBelow path (turned_pieces it right twig) below mid after c → TurnsIn path it leaf more fresh after c twig
  turns_in path after c grafts = record {
    left = left;
    right = right;
    mid = mid;
    keeps = keeps;
    grafts = grafts;
    units = turned_units twig are leaf more is.beside.follow is.beside.named it right is.given is.around behind;
  }

-- ---- of a path that is given from the top down, and leaves that are given in a list

-- the leaves, of which there is one at least
pub record FoundTurn (t : Store Value) (r : Root) (it : Item) (leaves : List CellSeen) (fresh : Fresh)
    (twig : CellSeen) (ups : List CellSeen) : Type 0 where
  pub leaf : CellSeen
  pub more : List CellSeen
  pub same : leaves ≡ leaf ∷ more
  pub is : IsTurnIn t r it leaf more twig ups fresh

found_turn : (t : Store Value) (r : Root) (it : Item) (leaves : List CellSeen) (fresh : Fresh) (twig : CellSeen)
    (ups : List CellSeen)
    → IsTurnUp t r it leaves fresh (twig ∷ ups) → FoundTurn t r it leaves fresh twig ups
found_turn t r it [] fresh twig ups e = absurd e
found_turn t r it (leaf ∷ more) fresh twig ups e = record { leaf = leaf; more = more; same = refl; is = e }

never_up : (t : Store Value) (r : Root) (it : Item) (leaves : List CellSeen) (fresh : Fresh)
    → IsTurnUp t r it leaves fresh [] → ⊥
never_up t r it [] fresh e = e
never_up t r it (leaf ∷ more) fresh e = e

-- ---- the same with another key of one rank

same_right : (leaf : CellSeen) (a b : Key) (id : ℕ) (o : Option CellSeen) → rank a ≡ rank b → HasRight leaf a id o
    → HasRight leaf b id o
same_right leaf a b id None e g = ap (λ (n : ℕ). first_from n (node_of leaf).units) (sym e) ∙ g
same_right leaf a b id (Some c) e g = record {
  number = g.number;
  level_is = g.level_is;
  from = ap (λ (n : ℕ). first_from n (node_of leaf).units) (sym e) ∙ g.from;
  whole_key = g.whole_key;
  to = g.to;
  units = g.units ∙ ap (λ (n : ℕ). units_from n (node_of leaf).units) e;
  sound = g.sound;
  mkfs_id = g.mkfs_id;
}

same_ends : (leaf : CellSeen) (more : List CellSeen) (from a b : Key) (before after : Fresh)
    (left right : Option CellSeen) → rank a ≡ rank b
    → KeepsEnds leaf more from a before after left right → KeepsEnds leaf more from b before after left right
same_ends leaf more from a b before after left right e k = record {
  left_is = k.left_is;
  right_is = same_right (last_leaf leaf more) a b before.next right e k.right_is;
  number = k.number;
}

module _ {A : Type 0} (h : A → CellSeen) (path : List A) (x : A) (last_is : x ≡ get_or path (length path - 1) x)
    (t : Store Value) (r : Root) (it : Item) (leaves : List CellSeen) (fresh : Fresh)
    (is : IsTurnUp t r it leaves fresh (reverse (map h path))) where
  abbrev pub ups : List CellSeen
  ups = reverse (map h (take (length path - 1) path))

  some : length path ≢ 0
  some = up_some h (IsTurnUp t r it leaves fresh) (never_up t r it leaves fresh) path is

  pub turn_in : FoundTurn t r it leaves fresh (h x) ups
  turn_in = found_turn t r it leaves fresh (h x) ups (up_last h (IsTurnUp t r it leaves fresh)
      (never_up t r it leaves fresh) path x last_is is)

  pub turn_at : ArePiecesOf (h x) (twig_pieces (h x)) → IsBorder (rank it.key) (twig_pieces (h x))
  turn_at are = turn_border (h x) are turn_in.leaf turn_in.more turn_in.is.beside.follow turn_in.is.beside.named
      (rank it.key) (item_end it) turn_in.is.around

  module _ (are : ArePiecesOf (h x) (twig_pieces (h x))) (mid : Fresh) (left right : Option CellSeen) (to : Key)
      (to_is : rank to ≡ item_end it)
      (kept : (leaf : CellSeen) (more : List CellSeen) → leaves ≡ leaf ∷ more
      → KeepsEnds leaf more it.key to fresh mid left right)
      (unplaced : 2 ^ 63 ≤ fresh.next) where
    keeps : KeepsEnds turn_in.leaf turn_in.more it.key (key_of_end it) fresh mid left right
    keeps = same_ends turn_in.leaf turn_in.more it.key to (key_of_end it) fresh mid left right
        (to_is ∙ sym (end_is it turn_in.is.given)) (kept turn_in.leaf turn_in.more turn_in.same)

    abbrev qs : List TwigPiece
    qs = turned_pieces it right (h x)

    pub turn_graft_in : IsGraftIn t r (map h path) qs mid
    turn_graft_in = last_up h (IsGraftedUp t r qs mid) path x some last_is
        (turned_grafted t r it turn_in.leaf turn_in.more (h x) ups fresh mid turn_in.is are left right keeps unplaced)

    abbrev pub below_in : Below
    below_in = record { old = leaves; new = given_cells left ++ given_cells right }

    pub turn_below_in : (blocks : List CellSeen) → AreBlocksOf (item_blocks it) blocks
        → IsGraftBelowIn t r (map h path) qs below_in blocks fresh.next mid
    turn_below_in blocks of = last_up h (IsGraftBelowUp t r qs below_in blocks fresh.next mid) path x some last_is
        (subst (λ cells. IsGraftBelow t r qs (record {
          old = cells;
          new = given_cells left
              ++ given_cells right;
        }) blocks fresh.next mid (h x) ups) (sym turn_in.same)
        (turned_below t r it turn_in.leaf turn_in.more (h x) ups fresh mid turn_in.is are left right keeps unplaced
        blocks of))

    pub turns_up : (after : Fresh) (c : Change) → GraftsBelow (map h path) qs below_in mid after c
        → TurnsUp (map h path) it leaves fresh after c (reverse (map h path))
    turns_up after c grafts =
        last_up h (TurnsUp (map h path) it leaves fresh after c) path x some last_is
        (subst (λ cells. TurnsUp (map h path) it cells fresh after c (h x ∷ ups)) (sym turn_in.same)
        (turns_in t r it turn_in.leaf turn_in.more (h x) ups fresh mid turn_in.is are left right keeps unplaced
        (map h path) after c
        (subst (λ cells. GraftsBelow (map h path) qs (record {
          old = cells;
          new = given_cells left
              ++ given_cells right;
        }) mid after c) turn_in.same grafts)))
