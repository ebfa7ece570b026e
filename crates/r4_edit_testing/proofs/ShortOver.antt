-- An extent of two blocks may be put over a part of the first leaf's range, below a root.
use Rattle.std.proofs.Common.{◌≡◌, ◌≢◌, ◌⊎◌, inl, inr, ℕ, ◌+◌, ◌-◌, ◌%◌, ◌^◌, ◌<◌, ◌≤◌, true, List, [], ◌∷◌, ◌++◌, length, map, take, drop, refl, sym}
use Rattle.std.proofs.Common.{ap, get_or, subst, ◌∙◌, arith}
use Rattle.std.specs.Prelude.{AllPairs, Contains, reverse, slice_get, Option, None, Some, ◌==◌, ◌&&◌, if◌then◌else◌}
use Rattle.std.proofs.lemmas.Bool.{and_parts, eqb-true}
use Rattle.std.proofs.lemmas.List.{take-append-drop}
use Rattle.std.proofs.lemmas.Option.{same_Some}
use Rattle.r4_base.specs.Cell.{block_names, item_end}
use Rattle.r4_base.specs.Extents.{AreLawfulUnits, blocks_in, units_of}
use Rattle.r4_base.specs.Key.{IsKey, least, offset_of, rank}
use Rattle.r4_base.specs.Node.{Item}
use Rattle.r4_base.specs.Tree.{Name, Root, Store}
use Rattle.r4_base.specs.Value.{Value}
use Rattle.r4_base.specs.declared.items.Unit.{Unit as ExtentUnit}
use Rattle.r4_twig.proofs.Faults.{body_none}
use Rattle.r4_branch.specs.Pieces.{bytes_behind, item_pieces, last_end, twig_bytes}
use Rattle.r4_branch.specs.declared.piece.TwigPiece.{TwigPiece}
use Rattle.r4_branch.proofs.ItemPieces.{bytes_of_item}
use Rattle.r4_branch.proofs.SoundItems.{extent_item}
use Rattle.r4_branch.proofs.Spelled.{extent_sound}
use Rattle.r4_graft.specs.Splices.{place, spliced}
use Rattle.r4_graft.proofs.Joined.{bytes_any, bytes_join, bytes_most}
use Rattle.r4_cell.specs.Patch.{by_name}
use Rattle.r4_cell.specs.Seen.{CellSeen, node_of}
use Rattle.r4_cell.specs.declared.change.Fresh.{Fresh}
use Rattle.r4_edit.specs.Extents.{AreNewBlocks, IsGivenExtent, IsOverIn, IsOverUp, IsPutIn, item_blocks, over_pieces, pointer_to}
use Rattle.r4_path.specs.TwigPieces.{ArePiecesOf, twig_pieces}
use Rattle.r4_path.specs.Steps.{CountUp, IsFree}
use Rattle.r4_edit_testing.specs.Trials.{AreLeaves, FirstMayLie, IsNewExtent, IsPathOver, low_root, new_units}
use Rattle.r4_path.proofs.Counted.{count_once}
use Rattle.r4_patch.proofs.Members.{cases, here, later, none}
use Rattle.r4_path.proofs.Rising.{count_within}
use Rattle.r4_edit_testing.proofs.Trying.{first_level}

pub few_bytes : (a b : ℕ) (ps ns : List TwigPiece) → twig_bytes ps ≤ 4068 → twig_bytes ns ≤ 200
    → twig_bytes (spliced a b ns ps) ≤ 9000
few_bytes a b ps ns old new =
    let x = bytes_join None (take a ps) (ns ++ drop b ps) in
    let y = bytes_join (last_end None (take a ps)) ns (drop b ps) in
    let c = bytes_most (last_end None (take a ps)) ns in
    let d = bytes_most (last_end (last_end None (take a ps)) ns) (drop b ps) in
    let e = bytes_any None (last_end None (take b ps)) (drop b ps) in
    let f = bytes_join None (take b ps) (drop b ps) in
    let g = ap twig_bytes (take-append-drop b ps) in
    let h = bytes_join None (take a ps) (drop a ps) in
    let k = ap twig_bytes (take-append-drop a ps) in
    omega (arith, x, y, c, d, e, f, g, h, k, old, new)

pointer_few : (right : Option CellSeen) → twig_bytes (pointer_to right) ≤ 46
unfolding bytes_behind
pointer_few None = omega arith
pointer_few (Some c) = omega arith

are_lawful : AreLawfulUnits true (2 ^ 64) new_units
are_lawful = (inl (refl, omega arith, refl), (inl (refl, omega arith, refl), tt))

abbrev mine : List ℕ
mine = (2 ^ 63 + 2000) ∷ ((2 ^ 63 + 2001) ∷ [])

mine_count : CountUp (2 ^ 63 + 2000) mine
mine_count = (refl, (omega arith, tt))

ids_are : (k : ℕ) → map (λ (n : Name). n.id) (block_names k new_units) ≡ mine
ids_are k = refl

id_in : (ns : List Name) (n : Name) → Contains ns n → Contains (map (λ (m : Name). m.id) ns) n.id
id_in [] n at = absurd (none n at)
id_in (m ∷ ns) n at = elim (cases m n ns at) [
  | inl is ↦ subst (λ (x : Name). Contains (m.id ∷ map (λ (y : Name). y.id) ns) x.id) (sym is) (here m.id (map (λ (y : Name). y.id) ns))
  | inr more ↦ later m.id n.id (map (λ (y : Name). y.id) ns) (id_in ns n more)
]

module _ (it : Item) (five : it.plugin ≡ 5) (new : IsNewExtent it) where
  two : blocks_in (units_of it.body) ≡ 2
  two = ap blocks_in new.blocks

  pub given : IsGivenExtent it
  given = record {
    plugin = five;
    sound = extent_sound it.key it.plugin it.body five new.key
        (body_none true (2 ^ 64) it.body (
          (let long = new.long in omega (arith, long)),
          ap (λ n. n % 16) new.long,
          subst (AreLawfulUnits true (2 ^ 64)) (sym new.blocks) are_lawful,
        ))
        (let fits = new.fits in omega (arith, two, fits)) (let long = new.long in omega (arith, long));
    short = let long = new.long in omega (arith, long);
  }

  pub ends : item_end it ≡ rank it.key + 8192
  ends = let end = (extent_item it five given.sound).end in omega (arith, end, two)

  ids : map (λ (n : Name). n.id) (item_blocks it) ≡ mine
  ids = ap (map (λ (n : Name). n.id))
      ((extent_item it five given.sound).names 0 ∙ ap (block_names (rank it.key)) new.blocks) ∙ ids_are (rank it.key)

  within : (n : Name) → Contains (item_blocks it) n → (2 ^ 63 + 2000 ≤ n.id) × (n.id < 2 ^ 63 + 2000 + 2)
  within n at = count_within (2 ^ 63 + 2000) mine n.id mine_count
      (subst (λ is. Contains is n.id) ids (id_in (item_blocks it) n at))

  pub new_blocks : (t : Store Value) (f g : Fresh) → IsFree f.next f.end t → f.end ≡ 2 ^ 64 - 1 → f.next ≤ 2 ^ 63 + 2000
      → g.end ≡ 2 ^ 63 + 2000 → AreNewBlocks t (item_blocks it) g
  new_blocks t f g free end next few = record {
    unplaced = λ n at. let w = within n at in omega (arith, w);
    unused = λ n at. let w = within n at in (
      (
        free.cells n.id (omega (arith, w, next)) (omega (arith, w, end)),
        free.names n.id (omega (arith, w, next)) (omega (arith, w, end)),
      ),
      inr (omega (arith, w, few)),
    );
    once = subst (AllPairs (λ (i j : ℕ). i ≢ j)) (sym ids) (count_once (2 ^ 63 + 2000) mine mine_count);
  }

  few_units : twig_bytes (item_pieces it) ≤ 70
  few_units = let z = bytes_of_item it given.sound in let long = new.long in omega (arith, z, long)

  pub put_few : (at : ℕ) (ps : List TwigPiece) → twig_bytes ps ≤ 4068 → twig_bytes (spliced at at (item_pieces it) ps) ≤ 9000
  put_few at ps old = few_bytes at at ps (item_pieces it) old (let few = few_units in omega (arith, few))

  over_few : (leaf : CellSeen) (right : Option CellSeen) (ps : List TwigPiece) → twig_bytes ps ≤ 4068
      → twig_bytes (over_pieces it leaf right ps) ≤ 9000
  over_few leaf right ps old =
      let comes = item_pieces it ++ pointer_to right in
      let at = place (rank leaf.lo) ps in
      few_bytes (at + (if rank it.key == rank leaf.lo then 0 else 1)) (at + 1) ps comes old (
      let x = bytes_join None (item_pieces it) (pointer_to right) in
      let y = bytes_most (last_end None (item_pieces it)) (pointer_to right) in
      let z = few_units in
      let w = pointer_few right in
      omega (arith, x, y, z, w)
      )

pub over_here : (cells path : List CellSeen) (f g : Fresh) (it : Item) → it.plugin ≡ 5 → AreLeaves cells
    → FirstMayLie cells it → IsPathOver cells f path → (f.next ≡ 2 ^ 63 + 1001) × (f.end ≡ 2 ^ 64 - 1) → g.next ≡ f.next
    → g.end ≡ 2 ^ 63 + 2000
    → ((twig : CellSeen) (rest : List CellSeen) → path ≡ twig ∷ rest → twig_bytes (twig_pieces twig) ≤ 4068)
    → (t : Store Value) × ((r : Root) × IsPutIn t r path it g)
over_here [] path f g it five are may over numbers next few fits = absurd may
over_here (leaf ∷ rest) path f g it five are may over numbers next few fits =
    let up = over.leads.ascends.3 in
    let fit = fits over.twig (leaf ∷ []) over.cells in
    let low = over.level in
    let over_in : IsOverIn (by_name path) (low_root over.twig) it leaf over.twig [] g = record {
      path = record {
        part = over.leads.part;
        ascends = (up.0, up.1, tt, tt);
        free = record {
          cells = λ i from to. over.leads.free.cells i (omega (arith, from, next)) (omega (arith, to, few, numbers));
          names = λ i from to. over.leads.free.names i (omega (arith, from, next)) (omega (arith, to, few, numbers));
        };
        root_number = over.leads.root_number;
      };
      level = low;
      number = omega (arith, numbers, next, few);
      room = λ id right has. record {
        enough = inr (refl, omega (arith, low));
        numbers = let b = over_few it five may.extent leaf right (twig_pieces over.twig) fit in omega (arith, b, numbers, next, few);
      };
      named = up.2;
      leaf_is = over.leads.ascends.0;
      leaf_level = are.follow.0;
      from = may.from;
      to = let end = ends it five may.extent in let to = may.to in omega (arith, end, to);
      apart = λ k v at. elim (may.apart k v at) [
        | inl below ↦ inl below
        | inr above ↦ inr (let end = ends it five may.extent in omega (arith, end, above))
      ];
      given = given it five may.extent;
      blocks = new_blocks it five may.extent (by_name path) f g over.leads.free numbers.1 (omega (arith, numbers)) few;
    } in (
      by_name path,
      (
        low_root over.twig,
        inr (inl (subst (λ (p : List CellSeen). IsOverUp (by_name path) (low_root over.twig) it g (reverse p)) (sym over.cells)
            over_in)),
      ),
    )

-- ---- what was tried out

first_is : (x y : CellSeen) (xs ys : List CellSeen) → x ∷ xs ≡ y ∷ ys → x ≡ y
first_is x y xs ys e = cc

pub twig_fits : {A : Type 0} (h : A → CellSeen) (xs ys : List A) (x : A) (c : CellSeen) (ps : List TwigPiece) → xs ≡ ys
    → x ≡ get_or xs 0 x → c ≡ h x → ArePiecesOf c ps → (twig : CellSeen) (rest : List CellSeen) → map h ys ≡ twig ∷ rest
    → twig_bytes (twig_pieces twig) ≤ 4068
twig_fits {A} h xs ys x c ps same at is are twig rest cells = go xs at (ap (map h) same ∙ cells)
  where
    go : (zs : List A) → x ≡ get_or zs 0 x → map h zs ≡ twig ∷ rest → twig_bytes (twig_pieces twig) ≤ 4068
    go [] f e = absurd cc
    go (z ∷ zs) f e =
        subst (λ (d : CellSeen). twig_bytes (twig_pieces d) ≤ 4068) (is ∙ (ap h f ∙ first_is (h z) twig (map h zs) rest e))
        (subst (λ (qs : List TwigPiece). twig_bytes qs ≤ 4068) are.is are.fits)

pub two_units : (us : List ExtentUnit) (a b : ExtentUnit) → length us ≡ 2 → slice_get us 0 ≡ Some a → slice_get us 1 ≡ Some b
    → us ≡ a ∷ (b ∷ [])
two_units [] a b long e f = absurd (omega (arith, long))
two_units (x ∷ []) a b long e f = absurd (omega (arith, long))
two_units (x ∷ (y ∷ [])) a b long e f = (λ i. same_Some x a e i ∷ (same_Some y b f i ∷ []))
two_units (x ∷ (y ∷ (z ∷ us))) a b long e f = absurd (omega (arith, long))

pub first_may_lie : (cells : List CellSeen) (leaf : CellSeen) (rest : List CellSeen) (it : Item) (end : ℕ) → cells ≡ leaf ∷ rest
    → AreLeaves cells → least ≤ rank it.key → (length it.body ≡ 32) × (units_of it.body ≡ new_units)
    → IsKey it.key × (offset_of it.key + 8192 < 2 ^ 64) × (end ≡ rank it.key + 8192) → end ≤ rank leaf.hi
    → ((k : ℕ) (v : Value) → Contains (node_of leaf).units (k, v) → (k < rank it.key) ⊎ (end ≤ k)) → FirstMayLie cells it
first_may_lie cells leaf rest it end e are low blocks key within clear =
    let f = first_level cells leaf rest e are in
    subst (λ cs. FirstMayLie cs it) (sym e) (record {
      extent = record { long = blocks.0; blocks = blocks.1; key = key.0; fits = key.1 };
      from = let lo = f.1 in omega (arith, lo, low);
      to = let same = key.2 in omega (arith, same, within);
      apart = λ k v at. elim (clear k v at) [
        | inl below ↦ inl below
        | inr above ↦ inr (let same = key.2 in omega (arith, same, above))
      ];
    })

pub unit_is : (u : ExtentUnit) (n : ℕ) → (u.start == n && u.width == 1) ≡ true → u ≡ record { start = n; width = 1 }
unit_is u n h =
    let p = and_parts (u.start == n) (u.width == 1) h in
    (λ i. record { start = eqb-true u.start n p.0 i; width = eqb-true u.width 1 p.1 i })
