-- What comes in the place of a slum has what the slum has.
use Rattle.std.proofs.Common.{◌≡◌, inl, inr, ℕ, zero, suc, ◌+◌, ◌^◌, ◌<◌, ◌≤◌, true, false, List, [], ◌∷◌, ◌++◌, length, map, take, refl, sym, ap, subst, ◌∙◌, arith}
use Rattle.std.specs.Prelude.{◌↔◌, ◌==◌, Contains, None}
use Rattle.r4_base.specs.Cell.{cell_fault, item_end, item_names, names_in, next_key, units_in}
use Rattle.r4_base.specs.Key.{rank}
use Rattle.r4_base.specs.Node.{Item, items_of}
use Rattle.r4_base.specs.Tree.{Name}
use Rattle.r4_base.specs.declared.key.Key.{Key}
use Rattle.r4_branch.specs.Twigs.{PacksTwigs}
use Rattle.r4_branch.specs.declared.piece.TwigPiece.{TwigPiece}
use Rattle.r4_branch.specs.declared.twig.Twig.{Twig}
use Rattle.r4_cell.specs.Seen.{CellSeen, node_of}
use Rattle.r4_edit.proofs.PartedLeaf.{units_fit}
use Rattle.r4_leaf.specs.Items.{IsSoundItem, Lie}
use Rattle.r4_leaf.specs.Leaves.{Packs}
use Rattle.r4_leaf.specs.Units.{LeafUnit, leaf_bytes}
use Rattle.r4_leaf.specs.declared.leaf.Leaf.{Leaf}
use Rattle.r4_leaf.proofs.Filled.{items_append}
use Rattle.r4_leaf.proofs.Lying.{units_nil}
use Rattle.r4_leaf.proofs.Standing.{stand_lie}
use Rattle.r4_patch.proofs.Members.{cases, here, later, none}
use Rattle.r4_patch.specs.Joining.{ids_of}
use Rattle.r4_path.proofs.CellNodes.{names_are, units_are}
use Rattle.r4_path.proofs.Parenting.{cells_next, in_naming, naming_in}
use Rattle.r4_path.proofs.Upwards.{long_ids}
use Rattle.r4_path.specs.Grafts.{twig_cells}
use Rattle.r4_path.specs.LeafSteps.{leaf_cells}
use Rattle.r4_path.specs.Levels.{units_of_cells}
use Rattle.r4_path.specs.Sharing.{IsSound, items_of_cells}
use Rattle.r4_path.specs.Steps.{AreNaming, Follow}
use Rattle.r4_rows.proofs.Fewer.{packs_fewest, packs_fewest_twigs}
use Rattle.r4_rows.proofs.LeafSlum.{leaves_squeezed, some_each}
use Rattle.r4_rows.proofs.SlumPieces.{slum_pieces}
use Rattle.r4_rows.proofs.TwigSlum.{twigs_squeezed}
use Rattle.r4_rows.specs.Fewest.{EachFits, joined}
use Rattle.r4_rows.specs.Packed.{ArePackedLeft, renumbered, units_each}
use Rattle.r4_squeeze.specs.Over.{AreBeside}
use Rattle.r4_squeeze.specs.Packing.{ArePointers, MayStandAll, PacksLeaves, PacksNodes, PacksSlumTwigs, cells_filled, filled_leaf}
use Rattle.r4_squeeze.specs.Packing.{filled_twig, first_mkfs_id}
use Rattle.r4_squeeze.specs.Squeezing.{AreFilled, AreSoundButTwigs}
use Rattle.r4_squeeze.specs.declared.filled.Filled.{Filled}
use Rattle.r4_squeeze.proofs.Cells.{cells_pointers}
use Rattle.r4_squeeze.proofs.NodeCells.{cells_hold, filled_ids, filled_many, filled_sound, nodes_follow, nodes_items, nodes_many}
use Rattle.r4_squeeze.proofs.NodeCells.{nodes_stand, nodes_whole}

-- ---- cells of one level

pub member_level : (level lo hi : ℕ) (cells : List CellSeen) (c : CellSeen) → Follow level lo hi cells → Contains cells c
    → c.level ≡ level
member_level level lo hi [] c follow at = absurd (none c at)
member_level level lo hi (d ∷ cells) c follow at = elim (cases d c cells at) [
  | inl is ↦ ap (λ (x : CellSeen). x.level) is ∙ follow.0
  | inr more ↦ member_level level (rank d.hi) hi cells c follow.3 more
]

pub all_sound : (level lo hi : ℕ) (cells : List CellSeen) → Follow level lo hi cells → (level ≡ 2 → ⊥) → AreSoundButTwigs cells
    → (c : CellSeen) → Contains cells c → IsSound c
all_sound level lo hi cells follow other sound c at =
    sound c at (λ two. other (sym (member_level level lo hi cells c follow at) ∙ two))

units_all : (l lo hi : ℕ) (cells : List CellSeen) → Follow (suc l) lo hi cells
    → units_of_cells cells ≡ units_in (items_of_cells cells)
units_all l lo hi [] follow = sym units_nil
units_all l lo hi (c ∷ cells) (level, at, lt, rest) =
    ap (λ us. us ++ units_of_cells cells) (units_are c l level)
    ∙ (ap (λ us. units_in (items_of c.block) ++ us) (units_all l (rank c.hi) hi cells rest)
    ∙ sym (items_append (items_of c.block) (items_of_cells cells)))

-- ---- what they have

-- The cells have the units and the names of the slum, and the leftmost of its numbers.
pub record IsLeft (slum : List CellSeen) (level from to : ℕ) (cells : List CellSeen) : Type 0 where
  pub few : length cells ≤ length slum
  pub ids : ids_of cells ≡ take (length cells) (ids_of slum)
  pub follow : Follow level from to cells
  pub units : units_of_cells cells ≡ units_of_cells slum
  pub names : (n : Name) → AreNaming cells n ↔ AreNaming slum n
  pub sound : (c : CellSeen) → Contains cells c → IsSound c

-- ---- leaves

renumbered_none : (ids : List ℕ) → renumbered ids [] ≡ []
renumbered_none [] = refl
renumbered_none (i ∷ ids) = refl

leaves_filled : (id next : ℕ) (ids : List ℕ) (hi : Key) (leaves : List Leaf)
    → cells_filled 1 ids hi (map filled_leaf leaves) ≡ renumbered ids (leaf_cells id next hi leaves)
leaves_filled id next [] hi leaves = refl
leaves_filled id next (i ∷ ids) hi [] = refl
leaves_filled id next (i ∷ ids) hi (x ∷ []) =
    ap (λ cs. record { id = i; level = 1; lo = x.lo; hi = hi; block = x.block } ∷ cs) (sym (renumbered_none ids))
leaves_filled id next (i ∷ ids) hi (x ∷ (y ∷ more)) =
    ap (λ cs. record { id = i; level = 1; lo = x.lo; hi = y.lo; block = x.block } ∷ cs)
    (leaves_filled next (next + 1) ids hi (y ∷ more))

leaves_stand : (lo hi : ℕ) (us : List LeafUnit) (leaves : List Leaf) → Packs lo hi us leaves
    → MayStandAll 1 hi (map filled_leaf leaves)
leaves_stand lo hi us [] p = absurd p
leaves_stand lo hi us (x ∷ []) leaf =
    subst (λ k. cell_fault true (2 ^ 64) 1 k hi x.block ≡ None) (sym leaf.from) leaf.stands.1
leaves_stand lo hi us (x ∷ (y ∷ more)) (first, next, rest, is, at, lt, leaf, full, p) = (
  subst (λ k. cell_fault true (2 ^ 64) 1 (rank x.lo) k x.block ≡ None) (sym at)
      (subst (λ k. cell_fault true (2 ^ 64) 1 k next.0 x.block ≡ None) (sym leaf.from) leaf.stands.1),
  leaves_stand next.0 hi (next ∷ rest) (y ∷ more) p,
)

joined_units : (slum : List CellSeen) → units_of_cells slum ≡ joined (units_each slum)
joined_units [] = refl
joined_units (c ∷ slum) = ap (λ us. (node_of c).units ++ us) (joined_units slum)

long_each : (slum : List CellSeen) → length (units_each slum) ≡ length slum
long_each [] = refl
long_each (c ∷ slum) = ap suc (long_each slum)

leaves_fit : (lo hi : ℕ) (cells : List CellSeen) → Follow 1 lo hi cells → ((c : CellSeen) → Contains cells c → IsSound c)
    → EachFits leaf_bytes 4068 (units_each cells)
leaves_fit lo hi [] follow sound = tt
leaves_fit lo hi (c ∷ cells) (level, at, lt, rest) sound =
    let s = sound c (here c cells) in (
      units_fit c level
          (s.whole, subst (λ l. cell_fault true (2 ^ 64) l (rank c.lo) (rank c.hi) c.block ≡ None) level s.accepted)
          (omega (arith, at, lt)),
      leaves_fit (rank c.hi) hi cells rest (λ d m. sound d (later c d cells m)),
    )

other_plugin : (level next k : ℕ) (it : Item) → it.plugin ≡ k → (k == 3) ≡ false → (k == 5) ≡ false
    → item_names level next it ≡ []
unfolding item_names
other_plugin level next k it is not3 not5 =
    let a : (it.plugin == 3) ≡ false = ap (λ (x : ℕ). x == 3) is ∙ not3 in
    let b : (it.plugin == 5) ≡ false = ap (λ (x : ℕ). x == 5) is ∙ not5 in
    rw (a, b) refl

no_item_names : (level next : ℕ) (it : Item) → IsSoundItem it → item_names level next it ≡ []
no_item_names level next it s = elim s.plugin [
  | inl stat ↦ other_plugin level next 0 it stat refl refl
  | inr rest ↦ elim rest [
    | inl dir ↦ other_plugin level next 2 it dir refl refl
    | inr tail ↦ other_plugin level next 6 it tail refl refl
  ]
]

nil_names : (level hi : ℕ) → names_in level hi [] ≡ []
unfolding names_in
nil_names _ _ = refl

cons_names : (level hi : ℕ) (x : Item) (xs : List Item) → names_in level hi (x ∷ xs)
    ≡ item_names level (next_key hi xs) x ++ names_in level hi xs
unfolding names_in
cons_names _ _ _ _ = refl

lie_nameless : (level hi lo to : ℕ) (xs : List Item) → Lie lo to xs → names_in level hi xs ≡ []
lie_nameless level hi lo to [] h = nil_names level hi
lie_nameless level hi lo to (x ∷ xs) h = cons_names level hi x xs
    ∙ (ap (λ ns. ns ++ names_in level hi xs) (no_item_names level (next_key hi xs) x h.1)
    ∙ lie_nameless level hi (item_end x) to xs h.2)

leaves_nameless : (lo hi : ℕ) (cells : List CellSeen) → Follow 1 lo hi cells
    → ((c : CellSeen) → Contains cells c → IsSound c) → (n : Name) → AreNaming cells n → ⊥
leaves_nameless lo hi [] follow sound n (x, member, named) = none x member
leaves_nameless lo hi (c ∷ cells) (level, at, lt, rest) sound n (x, member, named) = elim (cases c x cells member) [
  | inl is ↦
      let s = sound c (here c cells) in
      let stands = subst (λ l. cell_fault true (2 ^ 64) l (rank c.lo) (rank c.hi) c.block ≡ None) level s.accepted in
      let lie = stand_lie (rank c.lo) (rank c.hi) c.block (s.whole, stands) (inl (omega (arith, at, lt))) in
      none n (subst (λ ns. Contains ns n)
      (ap (λ (d : CellSeen). (node_of d).names) is ∙ (names_are c 0 level
      ∙ lie_nameless 1 (rank c.hi) (rank c.lo) (rank c.hi) (items_of c.block) lie)) named)
  | inr more ↦ leaves_nameless (rank c.hi) hi cells rest (λ d m. sound d (later c d cells m)) n (x, more, named)
]

module _ (slum : List CellSeen) (from : ℕ) (hi : Key) (follow : Follow 1 from (rank hi) slum) (less : from < rank hi)
    (sound : (c : CellSeen) → Contains slum c → IsSound c) (filled : List Filled)
    (packs : PacksLeaves from (rank hi) slum filled) where
  pub leaves_left : ArePackedLeft slum from (rank hi) (cells_filled 1 (ids_of slum) hi filled)
  leaves_left =
      subst (λ xs. ArePackedLeft slum from (rank hi) (cells_filled 1 (ids_of slum) hi xs)) (sym packs.are)
      (subst (ArePackedLeft slum from (rank hi)) (sym (leaves_filled 0 0 (ids_of slum) hi packs.leaves))
      (leaves_squeezed slum from hi packs.leaves follow less (leaves_fit from (rank hi) slum follow sound) packs.packs))

  pub leaves_are_left : IsLeft slum 1 from (rank hi) (cells_filled 1 (ids_of slum) hi filled)
  leaves_are_left =
      let left = leaves_left in
      record {
        few = left.few;
        ids = left.ids;
        follow = left.follow;
        units = left.units;
        names = λ n. (
          λ h. absurd (leaves_nameless from (rank hi) (cells_filled 1 (ids_of slum) hi filled) left.follow left.sound n h),
          λ h. absurd (leaves_nameless from (rank hi) slum follow sound n h),
        );
        sound = left.sound;
      }

  pub leaves_few : length filled ≤ length slum
  leaves_few =
      let long = long_each slum in
      let some = some_each 1 from (rank hi) slum follow less in
      let fewest = packs_fewest from (rank hi) (units_of_cells slum) packs.leaves (units_each slum) packs.packs
      (joined_units slum) (leaves_fit from (rank hi) slum follow sound) (omega (arith, long, some)) in
      let same = ap length packs.are ∙ long_map packs.leaves in
      omega (arith, fewest, long, same)
    where
      long_map : (xs : List Leaf) → length (map filled_leaf xs) ≡ length xs
      long_map [] = refl
      long_map (x ∷ xs) = ap suc (long_map xs)

  pub leaves_may_stand : MayStandAll 1 (rank hi) filled
  leaves_may_stand = subst (MayStandAll 1 (rank hi)) (sym packs.are)
      (leaves_stand from (rank hi) (units_of_cells slum) packs.leaves packs.packs)

-- ---- twigs

pub twigs_filled : (id next : ℕ) (ids : List ℕ) (hi : Key) (twigs : List Twig)
    → cells_filled 2 ids hi (map filled_twig twigs) ≡ renumbered ids (twig_cells id next hi twigs)
twigs_filled id next [] hi twigs = refl
twigs_filled id next (i ∷ ids) hi [] = refl
twigs_filled id next (i ∷ ids) hi (x ∷ []) =
    ap (λ cs. record { id = i; level = 2; lo = x.lo; hi = hi; block = x.block } ∷ cs) (sym (renumbered_none ids))
twigs_filled id next (i ∷ ids) hi (x ∷ (y ∷ more)) =
    ap (λ cs. record { id = i; level = 2; lo = x.lo; hi = y.lo; block = x.block } ∷ cs)
    (twigs_filled next (next + 1) ids hi (y ∷ more))

pub twigs_stand : (lo hi : ℕ) (ps : List TwigPiece) (twigs : List Twig) → PacksTwigs lo hi ps twigs
    → MayStandAll 2 hi (map filled_twig twigs)
twigs_stand lo hi ps [] p = absurd p
twigs_stand lo hi ps (x ∷ []) twig =
    subst (λ k. cell_fault true (2 ^ 64) 2 k hi x.block ≡ None) (sym twig.from) twig.stands.1
twigs_stand lo hi ps (x ∷ (y ∷ more)) (first, next, rest, is, at, lt, twig, full, p) = (
  subst (λ k. cell_fault true (2 ^ 64) 2 (rank x.lo) k x.block ≡ None) (sym at)
      (subst (λ k. cell_fault true (2 ^ 64) 2 k (rank next.key) x.block ≡ None) (sym twig.from) twig.stands.1),
  twigs_stand (rank next.key) hi (next ∷ rest) (y ∷ more) p,
)

module _ (slum : List CellSeen) (from : ℕ) (hi : Key) (follow : Follow 2 from (rank hi) slum) (less : from < rank hi)
    (filled : List Filled) (packs : PacksSlumTwigs from (rank hi) slum filled) where
  pub twigs_are_left : IsLeft slum 2 from (rank hi) (cells_filled 2 (ids_of slum) hi filled)
  twigs_are_left = by slum refl
    where
      by : (cs : List CellSeen) → slum ≡ cs → IsLeft slum 2 from (rank hi) (cells_filled 2 (ids_of slum) hi filled)
      by [] is = absurd (let none_at_all = subst (Follow 2 from (rank hi)) is follow in omega (arith, none_at_all, less))
      by (c ∷ cs) is =
          let at : rank c.lo ≡ from = (subst (Follow 2 from (rank hi)) is follow).1 in
          let own = ap first_mkfs_id is in
          let left = twigs_squeezed slum c.lo hi (joined packs.each) packs.each packs.twigs c.block
          (slum_pieces slum (rank c.lo) (rank hi) packs.each (subst (λ k. Follow 2 k (rank hi) slum) (sym at) follow)
          (omega (arith, at, less)) packs.pieces)
          (subst (λ k. PacksTwigs k (rank hi) (joined packs.each) packs.twigs) (sym at) packs.packs)
          packs.few (λ x m. packs.mkfs_id x m ∙ own) in
          let same : renumbered (ids_of slum) (twig_cells 0 0 hi packs.twigs) ≡ cells_filled 2 (ids_of slum) hi filled =
          sym (twigs_filled 0 0 (ids_of slum) hi packs.twigs) ∙ ap (cells_filled 2 (ids_of slum) hi) (sym packs.are) in
          subst (IsLeft slum 2 from (rank hi)) same (record {
            few = left.few;
            ids = left.ids;
            follow = subst (λ k. Follow 2 k (rank hi) (renumbered (ids_of slum) (twig_cells 0 0 hi packs.twigs))) at
                left.follow;
            units = left.units;
            names = left.names;
            sound = left.sound;
          })

  pub twigs_few : length filled ≤ length slum
  twigs_few =
      let are = slum_pieces slum from (rank hi) packs.each follow less packs.pieces in
      let many = are.many in
      let some = some_each 2 from (rank hi) slum follow less in
      let fewest = packs_fewest_twigs from (rank hi) (joined packs.each) packs.twigs packs.each packs.packs refl are.fit
      (omega (arith, many, some)) in
      let same = ap length packs.are ∙ long_map packs.twigs in
      omega (arith, fewest, many, same)
    where
      long_map : (xs : List Twig) → length (map filled_twig xs) ≡ length xs
      long_map [] = refl
      long_map (x ∷ xs) = ap suc (long_map xs)

  pub twigs_may_stand : MayStandAll 2 (rank hi) filled
  twigs_may_stand = subst (MayStandAll 2 (rank hi)) (sym packs.are)
      (twigs_stand from (rank hi) (joined packs.each) packs.twigs packs.packs)

-- ---- nodes above them

module _ (slum : List CellSeen) (l from : ℕ) (hi : Key) (high : 2 ≤ l) (follow : Follow (suc l) from (rank hi) slum)
    (less : from < rank hi) (sound : (c : CellSeen) → Contains slum c → IsSound c) (filled : List Filled)
    (packs : PacksNodes (suc l) (first_mkfs_id slum) (items_of_cells slum) filled) where
  point : ArePointers (suc l) (rank hi) (items_of_cells slum)
  point = cells_pointers (suc l) (omega (arith, high)) l from (rank hi) slum refl follow sound

  pub nodes_few : length filled ≤ length slum
  nodes_few =
      let many = nodes_many l (first_mkfs_id slum) high (items_of_cells slum) filled packs in
      let hold = cells_hold l (first_mkfs_id slum) high from (rank hi) slum follow sound in
      omega (arith, many, hold)

  pub nodes_may_stand : MayStandAll (suc l) (rank hi) filled
  nodes_may_stand = nodes_stand l (first_mkfs_id slum) high (rank hi) (items_of_cells slum) filled packs point

  pub nodes_are_left : IsLeft slum (suc l) from (rank hi) (cells_filled (suc l) (ids_of slum) hi filled)
  nodes_are_left =
      let cells = cells_filled (suc l) (ids_of slum) hi filled in
      let few = nodes_few in
      let ids = long_ids slum in
      let le : length filled ≤ length (ids_of slum) = omega (arith, few, ids) in
      let many = filled_many (suc l) (ids_of slum) hi filled le in
      let along = nodes_follow l (first_mkfs_id slum) high (ids_of slum) hi from (items_of_cells slum) filled le packs point
      (cells_next l (omega (arith, high)) from (rank hi) slum follow sound) in
      let same = nodes_items l (first_mkfs_id slum) high (ids_of slum) hi (items_of_cells slum) filled le packs in
      let may = filled_sound (suc l) (ids_of slum) hi filled
      (nodes_whole l (first_mkfs_id slum) high (items_of_cells slum) filled packs) nodes_may_stand in
      record {
        few = omega (arith, few, many);
        ids = filled_ids (suc l) (ids_of slum) hi filled;
        follow = along;
        units = units_all l from (rank hi) (cells_filled (suc l) (ids_of slum) hi filled) along
            ∙ (ap units_in same ∙ sym (units_all l from (rank hi) slum follow));
        names = λ n. (
          λ h. in_naming l (omega (arith, high)) from (rank hi) slum follow sound n
              (subst (λ xs. Contains (names_in (suc l) (rank hi) xs) n) same
              (naming_in l (omega (arith, high)) from (rank hi) (cells_filled (suc l) (ids_of slum) hi filled) along may n h)),
          λ h. in_naming l (omega (arith, high)) from (rank hi) (cells_filled (suc l) (ids_of slum) hi filled) along may n
              (subst (λ xs. Contains (names_in (suc l) (rank hi) xs) n) (sym same)
              (naming_in l (omega (arith, high)) from (rank hi) slum follow sound n h)),
        );
        sound = may;
      }

-- ---- whatever level they have

pub filled_few : (level from : ℕ) (hi : Key) (slum : List CellSeen) (filled : List Filled)
    → AreBeside level from (rank hi) slum → AreFilled level from (rank hi) slum filled → AreSoundButTwigs slum
    → length filled ≤ length slum
filled_few zero from hi slum filled beside fill sound = let low = beside.branch in absurd (omega (arith, low))
filled_few (suc zero) from hi slum filled beside fill sound = leaves_few slum from hi beside.follow beside.some
    (all_sound 1 from (rank hi) slum beside.follow (λ two. absurd (omega (arith, two))) sound) filled (fill.leaves refl)
filled_few (suc (suc zero)) from hi slum filled beside fill sound = twigs_few slum from hi beside.follow beside.some
    filled (fill.twigs refl)
filled_few (suc (suc (suc k))) from hi slum filled beside fill sound =
    nodes_few slum (suc (suc k)) from hi (omega arith) beside.follow beside.some
    (all_sound (suc (suc (suc k))) from (rank hi) slum beside.follow (λ two. absurd (omega (arith, two))) sound)
    filled (fill.nodes (omega arith))

pub filled_stand : (level from : ℕ) (hi : Key) (slum : List CellSeen) (filled : List Filled)
    → AreBeside level from (rank hi) slum → AreFilled level from (rank hi) slum filled → AreSoundButTwigs slum
    → MayStandAll level (rank hi) filled
filled_stand zero from hi slum filled beside fill sound = let low = beside.branch in absurd (omega (arith, low))
filled_stand (suc zero) from hi slum filled beside fill sound = leaves_may_stand slum from hi beside.follow beside.some
    (all_sound 1 from (rank hi) slum beside.follow (λ two. absurd (omega (arith, two))) sound) filled (fill.leaves refl)
filled_stand (suc (suc zero)) from hi slum filled beside fill sound = twigs_may_stand slum from hi beside.follow
    beside.some filled (fill.twigs refl)
filled_stand (suc (suc (suc k))) from hi slum filled beside fill sound =
    nodes_may_stand slum (suc (suc k)) from hi (omega arith) beside.follow beside.some
    (all_sound (suc (suc (suc k))) from (rank hi) slum beside.follow (λ two. absurd (omega (arith, two))) sound)
    filled (fill.nodes (omega arith))

pub filled_left : (level from : ℕ) (hi : Key) (slum : List CellSeen) (filled : List Filled)
    → AreBeside level from (rank hi) slum → AreFilled level from (rank hi) slum filled → AreSoundButTwigs slum
    → IsLeft slum level from (rank hi) (cells_filled level (ids_of slum) hi filled)
filled_left zero from hi slum filled beside fill sound = let low = beside.branch in absurd (omega (arith, low))
filled_left (suc zero) from hi slum filled beside fill sound = leaves_are_left slum from hi beside.follow beside.some
    (all_sound 1 from (rank hi) slum beside.follow (λ two. absurd (omega (arith, two))) sound) filled (fill.leaves refl)
filled_left (suc (suc zero)) from hi slum filled beside fill sound = twigs_are_left slum from hi beside.follow
    beside.some filled (fill.twigs refl)
filled_left (suc (suc (suc k))) from hi slum filled beside fill sound =
    nodes_are_left slum (suc (suc k)) from hi (omega arith) beside.follow beside.some
    (all_sound (suc (suc (suc k))) from (rank hi) slum beside.follow (λ two. absurd (omega (arith, two))) sound)
    filled (fill.nodes (omega arith))

pub long_cells : {A : Type 0} (f : A → CellSeen) (xs : List A) → length (map f xs) ≡ length xs
long_cells f [] = refl
long_cells f (x ∷ xs) = ap suc (long_cells f xs)
