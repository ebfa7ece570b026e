-- Cells of a slum, one after the other.
use Rattle.std.proofs.Common.{◌≡◌, inl, inr, ℕ, zero, suc, ◌+◌, ◌<◌, ◌≤◌, ◌-◌, false, List, [], ◌∷◌, ◌++◌, length, map, take, get_or, refl, sym, ap, subst, ◌∙◌, arith}
use Rattle.std.specs.Prelude.{Contains, Some, slice_get}
use Rattle.std.proofs.lemmas.Bool.Decides.{nat_tests}
use Rattle.std.proofs.lemmas.List.{append-nil, append_assoc, length-append}
use Rattle.std.proofs.lemmas.List.Elements.{All-nil, Contains-append_cases}
use Rattle.std.proofs.lemmas.Option.{same_Some, slice_get_read}
use Rattle.r4_base.specs.Key.{rank}
use Rattle.r4_base.specs.Node.{Item, PluginsFit, count_of, is_empty_branch, items_of, level_of}
use Rattle.r4_branch.specs.declared.piece.TwigPiece.{TwigPiece}
use Rattle.r4_cell.specs.Seen.{CellSeen}
use Rattle.r4_leaf.proofs.Following.{map_more}
use Rattle.r4_node40.proofs.Accepted.{good}
use Rattle.r4_node40.proofs.Laid.{length-items_of}
use Rattle.r4_patch.proofs.Members.{cases, here, later, none}
use Rattle.r4_path.proofs.Lying.{Good}
use Rattle.r4_path.proofs.Parenting.{alike, cells_next, sound_node}
use Rattle.r4_path.specs.Nodes.{weight_of}
use Rattle.r4_path.specs.TwigPieces.{ArePiecesOf}
use Rattle.r4_path.specs.Sharing.{IsSound, items_of_cells}
use Rattle.r4_path.specs.Steps.{Follow}
use Rattle.r4_rows.specs.Fewest.{joined}
use Rattle.r4_rows.specs.Packed.{AreTheirPieces}
use Rattle.r4_squeeze.specs.Packing.{AddsNodes, ArePointers, PacksNodes}
use Rattle.r4_squeeze.specs.declared.filled.Filled.{Filled}
use Rattle.r4_squeeze.proofs.Naming.{cell_stand}
use Rattle.r4_squeeze.proofs.Standing.{pointers_append}
use Rattle.r4_squeeze.proofs.TwigSlums.{split_first}

-- ---- one more of a list

pub read_at : {A : Type 0} (xs : List A) (n : ℕ) (x : A) → n < length xs → x ≡ get_or xs n x → slice_get xs n ≡ Some x
read_at xs n x lt is = slice_get_read xs (length xs) n x refl lt is

pub one_more : {A : Type 0} (f : A → CellSeen) (xs : List A) (n : ℕ) (x : A) → n < length xs → x ≡ get_or xs n x
    → map f (take (n + 1) xs) ≡ map f (take n xs) ++ f x ∷ []
one_more f xs n x lt is = map_more f n xs x (read_at xs n x lt is)

get_map : {A : Type 0} (f : A → CellSeen) (xs : List A) (n : ℕ) (x : A) → slice_get xs n ≡ Some x
    → slice_get (map f xs) n ≡ Some (f x)
get_map f [] n x is = absurd cc
get_map f (y ∷ ys) zero x is = ap (λ z. Some (f z)) (same_Some y x is)
get_map f (y ∷ ys) (suc n) x is = get_map f ys n x is

pub level_at : (level lo hi n : ℕ) (cells : List CellSeen) (c : CellSeen) → Follow level lo hi cells
    → slice_get cells n ≡ Some c → c.level ≡ level
level_at level lo hi n [] c follow is = absurd cc
level_at level lo hi zero (d ∷ cells) c follow is = ap (λ (x : CellSeen). x.level) (sym (same_Some d c is)) ∙ follow.0
level_at level lo hi (suc n) (d ∷ cells) c follow is = level_at level (rank d.hi) hi n cells c follow.3 is

pub level_of_cell : {A : Type 0} (f : A → CellSeen) (level lo hi n : ℕ) (xs : List A) (x : A) → Follow level lo hi (map f xs)
    → n < length xs → x ≡ get_or xs n x → (f x).level ≡ level
level_of_cell f level lo hi n xs x follow lt is =
    level_at level lo hi n (map f xs) (f x) follow (get_map f xs n x (read_at xs n x lt is))

-- ---- what one more has

pub items_more : (cells : List CellSeen) (c : CellSeen) → items_of_cells (cells ++ c ∷ []) ≡ items_of_cells cells ++ items_of c.block
items_more [] c = append-nil (items_of c.block)
items_more (d ∷ cells) c = ap (λ xs. items_of d.block ++ xs) (items_more cells c)
    ∙ sym (append_assoc (items_of d.block) (items_of_cells cells) (items_of c.block))

pub joined_more : (each : List (List TwigPiece)) (ps : List TwigPiece) → joined (each ++ ps ∷ []) ≡ joined each ++ ps
joined_more [] ps = append-nil ps
joined_more (qs ∷ each) ps = ap (λ xs. qs ++ xs) (joined_more each ps) ∙ sym (append_assoc qs (joined each) ps)

pub theirs_more : (cells : List CellSeen) (each : List (List TwigPiece)) (c : CellSeen) (ps : List TwigPiece)
    → AreTheirPieces cells each → ArePiecesOf c ps → AreTheirPieces (cells ++ c ∷ []) (each ++ ps ∷ [])
theirs_more [] [] c ps theirs are = (are, tt)
theirs_more [] (qs ∷ each) c ps theirs are = absurd theirs
theirs_more (d ∷ cells) [] c ps theirs are = absurd theirs
theirs_more (d ∷ cells) (qs ∷ each) c ps theirs are = (theirs.0, theirs_more cells each c ps theirs.1 are)

pub sound_more : (cells : List CellSeen) (c : CellSeen) → ((x : CellSeen) → Contains cells x → IsSound x) → IsSound c
    → (x : CellSeen) → Contains (cells ++ c ∷ []) x → IsSound x
sound_more cells c each sound x at = elim (Contains-append_cases cells (c ∷ []) x at) [
  | inl old ↦ each x old
  | inr one ↦ elim (cases c x [] one) [
    | inl is ↦ subst IsSound (sym is) sound
    | inr more ↦ absurd (none x more)
  ]
]

-- ---- the pointers of nodes

module _ (level : ℕ) (high : 3 ≤ level) where
  pub cell_pointers : (c : CellSeen) → c.level ≡ level → IsSound c → ArePointers level (rank c.hi) (items_of c.block)
  cell_pointers c is sound =
      let some : 1 ≤ c.level = omega (arith, is, high) in
      let at = sound_node c some sound in
      let node = (good c.block sound.whole at.accepted).0 in
      let fit : PluginsFit level (items_of c.block) = subst (λ l. PluginsFit l (items_of c.block)) (at.level_is ∙ is) node.plugins in
      record {
        stand = cell_stand c some sound;
        fit = fit;
        alike = alike level (rank c.lo) (rank c.hi) 0 (items_of c.block) high fit
            (subst (λ l. Good l (rank c.lo) (rank c.hi) 0 (items_of c.block)) is at.items);
      }

  pub cells_pointers : (l lo hi : ℕ) (cells : List CellSeen) → level ≡ suc l → Follow level lo hi cells
      → ((c : CellSeen) → Contains cells c → IsSound c) → ArePointers level hi (items_of_cells cells)
  cells_pointers l lo hi [] up follow sound = record {
    stand = tt;
    fit = λ k x e. absurd cc;
    alike = All-nil (λ (x : Item). weight_of x ≡ 46);
  }
  cells_pointers l lo hi (c ∷ cells) up (is, from, lt, rest) sound =
      let each : (d : CellSeen) → Contains cells d → IsSound d = λ d m. sound d (later c d cells m) in
      let next = cells_next l (omega (arith, up, high)) (rank c.hi) hi cells
      (subst (λ k. Follow k (rank c.hi) hi cells) up rest) each in
      pointers_append level hi (items_of c.block) (items_of_cells cells)
      (subst (λ k. ArePointers level k (items_of c.block)) (sym next) (cell_pointers c is (sound c (here c cells))))
      (cells_pointers l (rank c.hi) hi cells up rest each)

-- a cell above leaf level that may stand has an item, and its level is 8 at most
pub some_items : (c : CellSeen) → 2 ≤ c.level → IsSound c → 1 ≤ length (items_of c.block)
some_items c two sound =
    let at = sound_node c (omega (arith, two)) sound in
    let g = good c.block sound.whole at.accepted in
    let level = at.level_is in
    let some = full c.block g.1 (omega (arith, two, level)) in
    let long = length-items_of c.block in
    omega (arith, some, long)
  where
    full : (b : List ℕ) → is_empty_branch b ≡ false → 2 ≤ level_of b → 0 < count_of b
    full b h two = grind (arith, nat_tests, h)

pub level_most : (c : CellSeen) → 1 ≤ c.level → IsSound c → c.level ≤ 8
level_most c one sound =
    let at = sound_node c one sound in
    let g = good c.block sound.whole at.accepted in
    let level = at.level_is in
    let most = g.0.head.level.1 in
    omega (arith, level, most)

pub taken_all : {A : Type 0} (n : ℕ) (xs : List A) → length xs ≡ n → take n xs ≡ xs
taken_all n [] e = let zero_is : n ≡ 0 = sym e in ap (λ k. take k []) zero_is
taken_all zero (x ∷ xs) e = absurd (omega (arith, e))
taken_all (suc n) (x ∷ xs) e = ap (λ ys. x ∷ ys) (taken_all n xs (omega (arith, e)))

-- ---- the first of cells above the twigs

module _ {A : Type 0} (f : A → CellSeen) (xs : List A) (x : A) (level from to : ℕ) (high : 3 ≤ level) (less : from < to)
    (is : x ≡ get_or xs 0 x) (follow : Follow level from to (map f xs))
    (sound : (c : CellSeen) → Contains (map f xs) c → IsSound c) where
  rest : List A
  rest = (split_first f level from to xs x is follow less).0

  parts : xs ≡ x ∷ rest
  unfolding rest
  parts = (split_first f level from to xs x is follow less).1

  own : IsSound (f x)
  own = subst (λ ys. (c : CellSeen) → Contains (map f ys) c → IsSound c) parts sound (f x) (here (f x) (map f rest))

  pub first_level : (f x).level ≡ level
  first_level = (subst (λ ys. Follow level from to (map f ys)) parts follow).0

  pub nodes_level : (3 ≤ (f x).level) × ((f x).level ≤ 8)
  nodes_level = let same = first_level in (omega (arith, same, high), level_most (f x) (omega (arith, same, high)) own)

  pub nodes_some : 1 ≤ length (items_of_cells (map f xs))
  nodes_some = subst (λ ys. 1 ≤ length (items_of_cells (map f ys))) (sym parts)
      (let some = some_items (f x) (let same = first_level in omega (arith, same, high)) own in
      let long = length-append (items_of (f x).block) (items_of_cells (map f rest)) in
      omega (arith, some, long))

  pub nodes_point : ArePointers (f x).level to (items_of_cells (map f xs))
  nodes_point =
      let l = level - 1 in
      let up : level ≡ suc l = omega (arith, high) in
      subst (λ k. ArePointers k to (items_of_cells (map f xs))) (sym first_level)
      (cells_pointers level high l from to (map f xs) up follow sound)

-- nodes that come behind none are all
pub nodes_packed : (l m level first : ℕ) (had items : List Item) (old new : List Filled) → AddsNodes l m had old new
    → old ≡ [] → l ≡ level → m ≡ first → had ≡ items → PacksNodes level first items new
nodes_packed l m level first had items old new (more, is, packs) none_old same_level same_id same =
    subst (λ k. PacksNodes k first items new) same_level (subst (λ k. PacksNodes l k items new) same_id
    (subst (λ xs. PacksNodes l m xs new) same
    (subst (PacksNodes l m had) (sym (is ∙ ap (λ xs. xs ++ more) none_old)) packs)))
