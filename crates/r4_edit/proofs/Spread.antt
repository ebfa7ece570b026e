-- An extent that is put among others.
use Rattle.std.proofs.Common.{◌-◌, get_or, map, take, Bool, true, false, ◌*◌, ◌≡◌, ◌↔◌, ◌⊎◌, inl, inr, ℕ, ◌+◌, List, [], ◌∷◌, length, refl, sym, subst, ◌∙◌, arith}
use Rattle.std.specs.Prelude.{Contains, reverse, if◌then◌else◌}
use Rattle.std.proofs.lemmas.List.Elements.{Contains-append_cases}
use Rattle.r4_base.specs.Cell.{block_names, item_end, item_names, run_names}
use Rattle.r4_base.specs.Extents.{is_hole, units_of as units_of_body}
use Rattle.r4_base.specs.Key.{rank}
use Rattle.r4_base.specs.Node.{Item}
use Rattle.r4_base.specs.Tree.{IsData, Name, Root, Store}
use Rattle.r4_base.specs.Value.{Value}
use Rattle.r4_base.specs.declared.items.Unit.{Unit as ExtentUnit}
use Rattle.r4_path.specs.r4_branch.Pieces.{item_pieces, names_of, next_of}
use Rattle.r4_path.specs.r4_branch.declared.piece.TwigPiece.{TwigPiece}
use Rattle.r4_path.proofs.r4_branch.ItemPieces.{bytes_of_item, follow_item, names_of_item}
use Rattle.r4_path.specs.r4_cell.Seen.{CellSeen, node_of}
use Rattle.r4_path.specs.r4_cell.declared.change.Fresh.{Fresh}
use Rattle.r4_path.proofs.r4_graft.FoundPlaces.{runs_level}
use Rattle.r4_path.proofs.r4_graft.Placed.{not_in_none}
use Rattle.r4_edit.specs.Extents.{HasRoomFor, IsSpreadIn, IsSpreadUp, item_blocks}
use Rattle.r4_path.specs.TwigPieces.{ArePiecesOf, put_pieces, twig_pieces}
use Rattle.r4_path.specs.Grafts.{AreBlocksOf, AreCountedBelow, IsGraftBelow, IsGraftBelowIn, IsGraftBelowUp, IsGraftIn, IsGraftOf, IsGraftedIn, IsGraftedUp}
use Rattle.r4_path.specs.Steps.{IsNameOf}
use Rattle.r4_path.specs.Twigs.{Below}
use Rattle.r4_path.proofs.LastCell.{last_up, up_last, up_some}
use Rattle.r4_path.proofs.r4_patch.Members.{have_names}
use Rattle.r4_edit.proofs.Gaps.{gap, spread_bytes, spread_names, spread_pieces}

-- An extent's names are those of its blocks.
pub extent_names : (it : Item) (next : ℕ) → it.plugin ≡ 5 → item_names 2 next it ≡ item_blocks it
unfolding item_names
extent_names it next is = rw is refl

blocks_level : (k : ℕ) (us : List ExtentUnit) (n : Name) → Contains (block_names k us) n → n.level ≡ 0
blocks_level k [] n at = absurd (not_in_none n at)
blocks_level k (u ∷ us) n at = elim (Contains-append_cases (if is_hole u then [] else run_names k u.start u.width) (block_names (k + 4096 * u.width) us) n at) [
  | inl mine ↦ by_hole (is_hole u) mine
  | inr more ↦ blocks_level (k + 4096 * u.width) us n more
]
  where
    by_hole : (t : Bool) → Contains (if t then [] else run_names k u.start u.width) n → n.level ≡ 0
    by_hole true none = absurd (not_in_none n none)
    by_hole false here = runs_level k u.start u.width n here

pub extent_level : (it : Item) → it.plugin ≡ 5 → (n : Name) → Contains (item_blocks it) n → IsData n
unfolding item_names
extent_level it is n at = blocks_level (rank it.key) (units_of_body it.body) n (subst (λ ns. Contains ns n) (rw is refl) at)

abbrev pub nothing : Below
nothing = record { old = []; new = [] }

module _ (t : Store Value) (r : Root) (it : Item) (twig : CellSeen) (ups : List CellSeen) (fresh : Fresh)
    (ps : List TwigPiece) (are : ArePiecesOf twig ps) (is : IsSpreadIn t r it twig ups fresh) where
  abbrev qs : List TwigPiece
  qs = put_pieces it.key (item_pieces it) ps

  room : HasRoomFor t r qs twig ups fresh
  room = subst (λ xs. HasRoomFor t r (put_pieces it.key (item_pieces it) xs) twig ups fresh) (sym are.is) is.room

  pub spread_grafted : IsGraftedIn t r qs twig ups fresh
  spread_grafted =
      let few = spread_bytes twig ps are (rank it.key) (item_end it) is.keys (item_pieces it) (follow_item it is.given.sound) in
      let mine = bytes_of_item it is.given.sound in
      let short = is.given.short in
      let fits = are.fits in
      let numbers = room.numbers in
      record {
        path = room.path;
        level = room.level;
        pieces = spread_pieces twig ps are (rank it.key) (item_end it) is.keys (item_pieces it) (follow_item it is.given.sound);
        bytes = omega (arith, few, mine, short, fits);
        enough = room.enough;
        numbers = omega (arith, numbers);
      }

  abbrev next : ℕ
  next = next_of (rank twig.hi) (gap twig ps are (rank it.key) (item_end it) is.keys).behind

  spread_of : IsGraftOf t twig qs nothing (item_blocks it)
  spread_of = record {
    goes = λ c at. absurd (not_in_none c at);
    gone = λ c at. absurd (not_in_none c at);
    names = by_name;
    nodes = λ c at. absurd (not_in_none c at);
    blocks = λ n at. extent_level it is.given.plugin n at;
  }
    where
      mine : names_of next (item_pieces it) ≡ item_blocks it
      mine = names_of_item it is.given.sound next ∙ extent_names it next is.given.plugin

      by_name : (n : Name) → Contains (names_of (rank twig.hi) qs) n ↔ ((Contains (node_of twig).names n × (IsNameOf [] n → ⊥)) ⊎ (IsNameOf [] n ⊎ Contains (item_blocks it) n))
      by_name n =
          let all = spread_names twig ps are (rank it.key) (item_end it) is.keys (item_pieces it) (follow_item it is.given.sound) n in (
            λ at. elim (all.0 at) [
              | inl was ↦ inl (was, λ c. not_in_none c.0 c.1)
              | inr new ↦ inr (inr (subst (λ ns. Contains ns n) mine new))
            ],
            λ at. all.1 (elim at [
              | inl was ↦ inl was.0
              | inr new ↦ elim new [
                | inl none ↦ absurd (not_in_none none.0 none.1)
                | inr block ↦ inr (subst (λ ns. Contains ns n) (sym mine) block)
              ]
            ]),
          )

  module _ (blocks : List CellSeen) (of : AreBlocksOf (item_blocks it) blocks) where
    counted : AreCountedBelow t nothing (item_blocks it) fresh.next fresh
    counted = record {
      mine = [];
      old = have_names [] tt;
      new = have_names [] tt;
      each = λ c at. absurd (not_in_none c at);
      counts = tt;
      ends = omega arith;
      free = is.room.path.free;
      blocks = is.blocks.unused;
      once = is.blocks.once;
    }

    pub spread_below : IsGraftBelow t r qs nothing blocks fresh.next fresh twig ups
    spread_below = record { data_names = item_blocks it; grafted = spread_grafted; of = spread_of; blocks_are = of; counted = counted }

-- ---- of a path that is given from the top down

module _ {A : Type 0} (h : A → CellSeen) (path : List A) (x : A) (last : x ≡ get_or path (length path - 1) x)
    (t : Store Value) (r : Root) (it : Item) (fresh : Fresh) (is : IsSpreadUp t r it fresh (reverse (map h path))) where
  pub spread_level : (h x).level ≡ 2
  spread_level = (up_last h (IsSpreadUp t r it fresh) (λ e. e) path x last is).room.level

  module _ (are : ArePiecesOf (h x) (twig_pieces (h x))) where
    pub spread_graft_in : IsGraftIn t r (map h path) (put_pieces it.key (item_pieces it) (twig_pieces (h x))) fresh
    spread_graft_in =
        last_up h (IsGraftedUp t r (put_pieces it.key (item_pieces it) (twig_pieces (h x))) fresh) path x
        (up_some h (IsSpreadUp t r it fresh) (λ e. e) path is) last
        (spread_grafted t r it (h x) (reverse (map h (take (length path - 1) path))) fresh (twig_pieces (h x)) are
        (up_last h (IsSpreadUp t r it fresh) (λ e. e) path x last is))

    pub spread_below_in : (blocks : List CellSeen) → AreBlocksOf (item_blocks it) blocks → IsGraftBelowIn t r (map h path) (put_pieces it.key (item_pieces it) (twig_pieces (h x))) nothing blocks fresh.next fresh
    spread_below_in blocks of =
        last_up h (IsGraftBelowUp t r (put_pieces it.key (item_pieces it) (twig_pieces (h x))) nothing blocks fresh.next fresh) path x
        (up_some h (IsSpreadUp t r it fresh) (λ e. e) path is) last
        (spread_below t r it (h x) (reverse (map h (take (length path - 1) path))) fresh (twig_pieces (h x)) are
        (up_last h (IsSpreadUp t r it fresh) (λ e. e) path x last is) blocks of)
