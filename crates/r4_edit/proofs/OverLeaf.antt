-- An extent that is put into a leaf's range: what goes and comes.
use Rattle.std.proofs.Common.{◌≡◌, ◌≢◌, ◌↔◌, ◌⊎◌, inl, inr, ℕ, ◌+◌, ◌^◌, ◌<◌, ◌≤◌, Bool, true, false, List, [], ◌∷◌, ◌++◌, length, map, refl, sym, ap, subst, ◌∙◌, arith}
use Rattle.std.specs.Prelude.{Contains, Option, None, Some, ◌==◌, if◌then◌else◌}
use Rattle.std.proofs.lemmas.Bool.{cases_lt, eq-eqb, le-leb, lt-leb, ne_eqb}
use Rattle.std.proofs.lemmas.List.Elements.{Contains-append_cases, Contains-append_left, Contains-append_right}
use Rattle.std.proofs.lemmas.Option.{same_Some}
use Rattle.r4_base.specs.Cell.{names_block}
use Rattle.r4_base.specs.Key.{rank}
use Rattle.r4_base.specs.Node.{Item}
use Rattle.r4_base.specs.Tree.{IsNode, Name, Root, Store}
use Rattle.r4_base.specs.Value.{Value}
use Rattle.r4_path.specs.r4_branch.Pieces.{names_of, next_of}
use Rattle.r4_path.specs.r4_cell.Patch.{HaveNames}
use Rattle.r4_path.specs.r4_cell.Seen.{CellSeen, node_of}
use Rattle.r4_path.specs.r4_cell.declared.change.Fresh.{Fresh}
use Rattle.r4_path.proofs.r4_cell.Nodes.{cell_node}
use Rattle.r4_path.specs.r4_leaf.Units.{LeafUnit}
use Rattle.r4_path.proofs.r4_graft.Placed.{first_member, first_or_later, later_member, not_in_none}
use Rattle.r4_path.specs.r4_patch.Joining.{ids_of}
use Rattle.r4_edit.specs.Extents.{HasRoomFor, IsOverIn, given_cells, item_blocks, over_pieces}
use Rattle.r4_path.specs.TwigPieces.{ArePiecesOf, twig_pieces}
use Rattle.r4_path.specs.Grafts.{AreBlocksOf, AreCountedBelow, IsGraftBelow, IsGraftOf, IsGraftedIn, IsUnusedBeside}
use Rattle.r4_edit.specs.LeafParts.{HasLeft, HasRight, PartsLeaf, first_from, right_id, right_takes}
use Rattle.r4_path.specs.Sharing.{IsSound}
use Rattle.r4_path.specs.Steps.{CountUp, IsFree, IsNameOf, name_of}
use Rattle.r4_path.specs.Twigs.{Below}
use Rattle.r4_path.proofs.GraftBelow.{path_later}
use Rattle.r4_path.proofs.Grown.{map_names, names_map}
use Rattle.r4_path.proofs.r4_patch.Members.{have_names}
use Rattle.r4_edit.proofs.OverPieces.{MayStandBehind, comes, comes_names, found, leaf_pointed, over_bytes, over_names, over_twigs}
use Rattle.r4_path.proofs.Rising.{hi_is, lo_is}
use Rattle.r4_edit.proofs.Spread.{extent_level}

-- the first unit from a key on
pub first_there : (k : ℕ) (us : List LeafUnit) (n : ℕ) → first_from k us ≡ Some n
    → (v : Value) × Contains us (n, v) × (k ≤ n)
first_there k [] n is = absurd cc
first_there k (u ∷ us) n is = elim (cases_lt u.0 k) [
  | inl lt ↦
      let step : first_from k (u ∷ us) ≡ first_from k us = rw (lt-leb k u.0 lt) refl in
      let r = first_there k us n (sym step ∙ is) in
      (r.0, later_member u us (n, r.0) r.1, r.2)
  | inr le ↦
      let step : first_from k (u ∷ us) ≡ Some u.0 = rw (le-leb k u.0 le) refl in
      let same : u.0 ≡ n = same_Some u.0 n (sym step ∙ is) in
      (u.1, subst (λ (j : ℕ). Contains (u ∷ us) (j, u.1)) same (first_member u us), subst (λ (j : ℕ). k ≤ j) same le)
]

pub some_is_none : {X : Type 0} → (x : X) → Some x ≡ None → ⊥
some_is_none x e = absurd cc

-- a leaf that may stand is a node by itself
pub leaf_node : (leaf c : CellSeen) → IsNode (node_of leaf) → c.level ≡ 1 → rank leaf.lo ≤ rank c.lo → rank c.lo < rank c.hi → rank c.hi ≤ rank leaf.hi → IsSound c → IsNode (node_of c)
leaf_node leaf c node level low some high sound =
    let from = node.from_least in
    let to = node.to_top in
    let lo = lo_is leaf in
    let hi = hi_is leaf in
    cell_node true (2 ^ 64) c.level (rank c.lo) (rank c.hi) c.block sound.whole (omega (arith, level)) (omega (arith, low, from, lo)) some (omega (arith, high, to, hi)) sound.accepted

module _ (t : Store Value) (r : Root) (it : Item) (leaf twig : CellSeen) (ups : List CellSeen) (fresh after : Fresh)
    (is : IsOverIn t r it leaf twig ups fresh) (are : ArePiecesOf twig (twig_pieces twig)) (left right : Option CellSeen)
    (parts : PartsLeaf leaf it.key fresh after left right) (unplaced : 2 ^ 63 ≤ fresh.next) (some : rank it.key < rank leaf.hi) where
  room : HasRoomFor t r (over_pieces it leaf right (twig_pieces twig)) twig ups fresh
  room =
      let enough = is.room (right_id leaf it.key fresh) right parts.right_is in
      record { path = is.path; level = is.level; enough = enough.enough; numbers = enough.numbers }

  node : IsNode (node_of leaf)
  node = room.path.part.nodes leaf.id (node_of leaf) is.leaf_is

  -- ---- the right part

  id_named : names_block true (2 ^ 64) (Some (right_id leaf it.key fresh)) ≡ true
  id_named = by_test (rank it.key == rank leaf.lo)
    where
      by_test : (b : Bool) → names_block true (2 ^ 64) (Some (if b then leaf.id else fresh.next)) ≡ true
      by_test true = leaf_pointed twig leaf (twig_pieces twig) are is.named is.leaf_level
      by_test false = rw (le-leb (2 ^ 63) fresh.next unplaced) refl

  stands_behind : (o : Option CellSeen) → HasRight leaf it.key (right_id leaf it.key fresh) o → MayStandBehind it leaf o
  stands_behind None h = is.to
  stands_behind (Some c) h =
      let first = first_there (rank it.key) (node_of leaf).units (rank c.lo) h.from in
      let inside = node.unit_in (rank c.lo) first.0 first.1 in
      let hi = hi_is leaf in
      let low = first.2 in
      record {
        low = elim (is.apart (rank c.lo) first.0 first.1) [ inl below ↦ absurd (omega (arith, below, low)) | inr ge ↦ ge ];
        high = omega (arith, inside, hi);
        whole_key = h.whole_key;
        may_be_named = ap (λ i. names_block true (2 ^ 64) (Some i)) h.number ∙ id_named;
        level_is = h.level_is;
        to = h.to;
      }

  pub behind : MayStandBehind it leaf right
  behind = stands_behind right parts.right_is

  abbrev pub below : Below
  below = record { old = leaf ∷ []; new = given_cells left ++ given_cells right }

  -- ---- the left part

  left_none : (o : Option CellSeen) → HasLeft leaf it.key o → rank it.key ≡ rank leaf.lo → o ≡ None
  left_none None h same = refl
  left_none (Some c) h same = let lt = h.0 in absurd (omega (arith, lt, same))

  left_some : (o : Option CellSeen) → HasLeft leaf it.key o → (rank it.key ≢ rank leaf.lo) → (c : CellSeen) × (o ≡ Some c) × (name_of c ≡ record { id = leaf.id; level = 1; lo = rank leaf.lo; hi = rank it.key })
  left_some None h other = absurd (other h)
  left_some (Some c) h other = (c, refl, (λ i. record { id = h.1.number i; level = h.1.level_is i; lo = rank (h.1.from i); hi = rank (h.1.to i) }))

  -- ---- what the pieces name

  comes_are : names_of (next_of (rank twig.hi) (found twig leaf (twig_pieces twig) are is.named is.leaf_level it right).behind) (comes twig leaf (twig_pieces twig) are is.named is.leaf_level it right is.given is.from behind)
      ≡ map name_of (given_cells left) ++ (item_blocks it ++ map name_of (given_cells right))
  comes_are = comes_names twig leaf (twig_pieces twig) are is.named is.leaf_level it right is.given is.from behind left (left_none left parts.left_is) (left_some left parts.left_is)

  into_below : (n : Name) → Contains (map name_of (given_cells left) ++ (item_blocks it ++ map name_of (given_cells right))) n → IsNameOf (given_cells left ++ given_cells right) n ⊎ Contains (item_blocks it) n
  into_below n at = elim (Contains-append_cases (map name_of (given_cells left)) (item_blocks it ++ map name_of (given_cells right)) n at) [
    | inl a ↦ let x = names_map (given_cells left) n a in inl (x.0, Contains-append_left (given_cells left) (given_cells right) x.0 x.1, x.2)
    | inr rest ↦ elim (Contains-append_cases (item_blocks it) (map name_of (given_cells right)) n rest) [
      | inl b ↦ inr b
      | inr c ↦ let x = names_map (given_cells right) n c in inl (x.0, Contains-append_right (given_cells left) (given_cells right) x.0 x.1, x.2)
    ]
  ]

  out_of_below : (n : Name) → IsNameOf (given_cells left ++ given_cells right) n ⊎ Contains (item_blocks it) n → Contains (map name_of (given_cells left) ++ (item_blocks it ++ map name_of (given_cells right))) n
  out_of_below n (inr b) = Contains-append_right (map name_of (given_cells left)) (item_blocks it ++ map name_of (given_cells right)) n (Contains-append_left (item_blocks it) (map name_of (given_cells right)) n b)
  out_of_below n (inl x) = elim (Contains-append_cases (given_cells left) (given_cells right) x.0 x.1) [
    | inl a ↦ Contains-append_left (map name_of (given_cells left)) (item_blocks it ++ map name_of (given_cells right)) n (map_names (given_cells left) n (x.0, a, x.2))
    | inr c ↦ Contains-append_right (map name_of (given_cells left)) (item_blocks it ++ map name_of (given_cells right)) n (Contains-append_right (item_blocks it) (map name_of (given_cells right)) n (map_names (given_cells right) n (x.0, c, x.2)))
  ]

  only_leaf : (c : CellSeen) → Contains (leaf ∷ []) c → leaf ≡ c
  only_leaf c at = elim (first_or_later leaf [] c at) [ inl same ↦ same | inr none ↦ absurd (not_in_none c none) ]

  over_of : IsGraftOf t twig (over_pieces it leaf right (twig_pieces twig)) below (item_blocks it)
  over_of = record {
    goes = λ c at. subst (λ (x : CellSeen). Contains (node_of twig).names (name_of x)) (only_leaf c at) is.named;
    gone = λ c at. subst (λ (x : CellSeen). t x.id ≡ Some (node_of x)) (only_leaf c at) is.leaf_is;
    names = λ n. (
      λ at. elim ((named_so n).0 at) [
        | inl was ↦ inl (was.0, λ x. was.1 (map_names (leaf ∷ []) n x))
        | inr new ↦ inr (into_below n (subst (λ ns. Contains ns n) comes_are new))
      ],
      λ at. (named_so n).1 (elim at [
        | inl was ↦ inl (was.0, λ x. was.1 (names_map (leaf ∷ []) n x))
        | inr new ↦ inr (subst (λ ns. Contains ns n) (sym comes_are) (out_of_below n new))
      ]),
    );
    nodes = λ c at. elim (Contains-append_cases (given_cells left) (given_cells right) c at) [
      | inl a ↦ left_node left parts.left_is c a
      | inr b ↦ right_node right parts.right_is behind c b
    ];
    blocks = λ n at. extent_level it is.given.plugin n at;
  }
    where
      named_so : (n : Name) → Contains (names_of (rank twig.hi) (over_pieces it leaf right (twig_pieces twig))) n ↔ ((Contains (node_of twig).names n × (Contains (name_of leaf ∷ []) n → ⊥)) ⊎ Contains (names_of (next_of (rank twig.hi) (found twig leaf (twig_pieces twig) are is.named is.leaf_level it right).behind) (comes twig leaf (twig_pieces twig) are is.named is.leaf_level it right is.given is.from behind)) n)
      named_so n = over_names twig leaf (twig_pieces twig) are is.named is.leaf_level it right is.given is.from behind n

      left_node : (o : Option CellSeen) → HasLeft leaf it.key o → (c : CellSeen) → Contains (given_cells o) c → IsNode (node_of c)
      left_node None h c at = absurd (not_in_none c at)
      left_node (Some x) h c at = elim (first_or_later x [] c at) [
        | inl same ↦
            let lo = ap rank h.1.from in
            let hi = ap rank h.1.to in
            let lt = h.0 in
            subst (λ (y : CellSeen). IsNode (node_of y)) same (leaf_node leaf x node h.1.level_is (omega (arith, lo)) (omega (arith, lo, hi, lt)) (omega (arith, hi, some)) h.1.sound)
        | inr none ↦ absurd (not_in_none c none)
      ]

      right_node : (o : Option CellSeen) → HasRight leaf it.key (right_id leaf it.key fresh) o → MayStandBehind it leaf o → (c : CellSeen) → Contains (given_cells o) c → IsNode (node_of c)
      right_node None h b c at = absurd (not_in_none c at)
      right_node (Some x) h b c at = elim (first_or_later x [] c at) [
        | inl same ↦
            let hi = ap rank h.to in
            let first = first_there (rank it.key) (node_of leaf).units (rank x.lo) h.from in
            let inside = node.unit_in (rank x.lo) first.0 first.1 in
            let lo = lo_is leaf in
            let end = hi_is leaf in
            subst (λ (y : CellSeen). IsNode (node_of y)) same (leaf_node leaf x node h.level_is (omega (arith, inside, lo)) (omega (arith, hi, inside, end)) (omega (arith, hi)) h.sound)
        | inr none ↦ absurd (not_in_none c none)
      ]

  -- ---- numbers

  all_free : fresh.next < fresh.end
  all_free = let numbers = room.numbers in omega (arith, numbers)

  not_fresh : leaf.id ≢ fresh.next
  not_fresh same =
      let none : t leaf.id ≡ None = subst (λ (i : ℕ). t i ≡ None) (sym same) (room.path.free.cells fresh.next (omega arith) all_free) in
      some_is_none (node_of leaf) (sym is.leaf_is ∙ none)

  more : (o : Option CellSeen) → after ≡ record fresh { next = fresh.next + right_takes leaf it.key o } → (fresh.next ≤ after.next) × ((after.next ≤ fresh.next + 1) × (after.end ≡ fresh.end))
  more None e = let n = ap (λ (f : Fresh). f.next) e in let m = ap (λ (f : Fresh). f.end) e in (omega (arith, n), (omega (arith, n), m))
  more (Some c) e = let n = ap (λ (f : Fresh). f.next) e in let m = ap (λ (f : Fresh). f.end) e in (by_test (rank it.key == rank leaf.lo) n).0 m
    where
      by_test : (b : Bool) → after.next ≡ fresh.next + (if b then 0 else 1) → (after.end ≡ fresh.end → (fresh.next ≤ after.next) × ((after.next ≤ fresh.next + 1) × (after.end ≡ fresh.end))) × (b ≡ true → after.next ≡ fresh.next)
      by_test true n = (λ m. (omega (arith, n), (omega (arith, n), m)), λ z. omega (arith, n))
      by_test false n = (λ m. (omega (arith, n), (omega (arith, n), m)), λ z. absurd cc)

  numbered : (fresh.next ≤ after.next) × ((after.next ≤ fresh.next + 1) × (after.end ≡ fresh.end))
  numbered = more right parts.number

  pub over_grafted : IsGraftedIn t r (over_pieces it leaf right (twig_pieces twig)) twig ups after
  over_grafted =
      let few = over_bytes twig leaf (twig_pieces twig) are is.named is.leaf_level it right is.given is.from behind in
      let numbers = room.numbers in
      let n = numbered in
      record {
        path = path_later t r (twig ∷ ups) fresh after numbered.0 numbered.1.1 room.path;
        level = room.level;
        pieces = over_twigs twig leaf (twig_pieces twig) are is.named is.leaf_level it right is.given is.from behind;
        bytes = omega (arith, few);
        enough = room.enough;
        numbers = omega (arith, numbers, n);
      }

  -- which of what comes has the leaf's name, and which a new one
  record Numbered (l o : Option CellSeen) : Type 0 where
    mine : List ℕ
    names : HaveNames (given_cells l ++ given_cells o)
    each : (c : CellSeen) → Contains (given_cells l ++ given_cells o) c → Contains (ids_of (leaf ∷ [])) c.id ⊎ Contains mine c.id
    counts : CountUp fresh.next mine
    ends : fresh.next + length mine ≤ after.next

  old_name : (c d : CellSeen) → c ≡ d → c.id ≡ leaf.id → Contains (ids_of (leaf ∷ [])) d.id
  old_name c d same number = subst (λ (i : ℕ). Contains (leaf.id ∷ []) i) (sym number ∙ ap (λ (x : CellSeen). x.id) same) (first_member leaf.id [])

  numbers_of : (l o : Option CellSeen) → HasLeft leaf it.key l → HasRight leaf it.key (right_id leaf it.key fresh) o → after ≡ record fresh { next = fresh.next + right_takes leaf it.key o } → Numbered l o
  numbers_of None None h g e = record {
    mine = [];
    names = have_names [] tt;
    each = λ c at. absurd (not_in_none c at);
    counts = tt;
    ends = let n = numbered in omega (arith, n);
  }
  numbers_of None (Some c) h g e =
      let whole : (rank it.key == rank leaf.lo) ≡ true = eq-eqb _ _ h in
      let id : c.id ≡ leaf.id = g.number ∙ ap (λ (b : Bool). if b then leaf.id else fresh.next) whole in
      record {
        mine = [];
        names = have_names (c ∷ []) (λ y at. absurd (not_in_none y at), tt);
        each = λ x at. elim (first_or_later c [] x at) [ inl same ↦ inl (old_name c x same id) | inr none ↦ absurd (not_in_none x none) ];
        counts = tt;
        ends = let n = numbered in omega (arith, n);
      }
  numbers_of (Some l) None h g e = record {
    mine = [];
    names = have_names (l ∷ []) (λ y at. absurd (not_in_none y at), tt);
    each = λ x at. elim (first_or_later l [] x at) [ inl same ↦ inl (old_name l x same h.1.number) | inr none ↦ absurd (not_in_none x none) ];
    counts = tt;
    ends = let n = numbered in omega (arith, n);
  }
  numbers_of (Some l) (Some c) h g e =
      let lt = h.0 in
      let part : (rank it.key == rank leaf.lo) ≡ false = ne_eqb _ _ (λ same. omega (arith, same, lt)) in
      let id : c.id ≡ fresh.next = g.number ∙ ap (λ (b : Bool). if b then leaf.id else fresh.next) part in
      let n : after.next ≡ fresh.next + 1 = ap (λ (f : Fresh). f.next) e ∙ ap (λ (b : Bool). fresh.next + (if b then 0 else 1)) part in
      let apart : l.id ≢ c.id = λ same. not_fresh (sym h.1.number ∙ (same ∙ id)) in
      record {
        mine = fresh.next ∷ [];
        names = have_names (l ∷ (c ∷ [])) (λ y at. elim (first_or_later c [] y at) [ inl same ↦ subst (λ (z : CellSeen). l.id ≢ z.id) same apart | inr none ↦ absurd (not_in_none y none) ], (λ y at. absurd (not_in_none y at), tt));
        each = λ x at. elim (first_or_later l (c ∷ []) x at) [
          | inl same ↦ inl (old_name l x same h.1.number)
          | inr rest ↦ elim (first_or_later c [] x rest) [
            | inl same ↦ inr (subst (λ (i : ℕ). Contains (fresh.next ∷ []) i) (sym id ∙ ap (λ (z : CellSeen). z.id) same) (first_member fresh.next []))
            | inr none ↦ absurd (not_in_none x none)
          ]
        ];
        counts = (refl, tt);
        ends = omega (arith, n);
      }

  counted : AreCountedBelow t below (item_blocks it) fresh.next after
  counted =
      let m = numbers_of left right parts.left_is parts.right_is parts.number in
      let n = numbered in
      record {
        mine = m.mine;
        old = have_names (leaf ∷ []) (λ y at. absurd (not_in_none y at), tt);
        new = m.names;
        each = m.each;
        counts = m.counts;
        ends = m.ends;
        free = subst (λ (e : ℕ). IsFree fresh.next e t) (sym n.1.1) room.path.free;
        blocks = λ x at. subst (λ (e : ℕ). IsUnusedBeside t fresh.next e x.id) (sym n.1.1) (is.blocks.unused x at);
        once = is.blocks.once;
      }

  pub over_below : (blocks : List CellSeen) → AreBlocksOf (item_blocks it) blocks → IsGraftBelow t r (over_pieces it leaf right (twig_pieces twig)) below blocks fresh.next after twig ups
  over_below blocks of = record { data_names = item_blocks it; grafted = over_grafted; of = over_of; blocks_are = of; counted = counted }
