-- A twig that is packed anew along a path that is given from the top down, with what goes and comes below it.
use Rattle.std.proofs.Common.{◌≡◌, ◌≢◌, ℕ, ◌-◌, ◌≤◌, List, [], ◌∷◌, ◌++◌, length, map, take, get_or, sym, subst, arith}
use Rattle.std.specs.Prelude.{reverse}
use Rattle.r4_base.specs.Tree.{Root, Store}
use Rattle.r4_base.specs.Value.{Value}
use Rattle.r4_graft.specs.r4_branch.declared.piece.TwigPiece.{TwigPiece}
use Rattle.r4_patch.specs.r4_cell.Patch.{IsChange, patch_of}
use Rattle.r4_patch.specs.r4_cell.Seen.{CellSeen}
use Rattle.r4_patch.specs.r4_cell.declared.change.Change.{Change}
use Rattle.r4_patch.specs.r4_cell.declared.change.Fresh.{Fresh}
use Rattle.r4_patch.specs.Part.{MeetsPart}
use Rattle.r4_path.specs.Grafts.{Grafts, GraftsAt, GraftsUp, HasBelow, IsGraft, IsGraftBelowUp, IsGraftIn, IsGraftedIn, IsGraftedUp}
use Rattle.r4_path.specs.Growing.{IsPathIn}
use Rattle.r4_path.specs.Steps.{fresh_ids}
use Rattle.r4_path.specs.Twigs.{Below}
use Rattle.r4_path.proofs.Grafted.{some_grafted}
use Rattle.r4_path.proofs.GraftLaw.{graft_change, graft_meets}
use Rattle.r4_path.proofs.GraftNumbers.{serve}
use Rattle.r4_path.proofs.Upwards.{last_first}

module _ (t : Store Value) (r : Root) (qs : List TwigPiece) (b : Below) (blocks : List CellSeen) (first : ℕ) (f g : Fresh)
    (d : Change) where
  graft_up : (cells : List CellSeen) → IsGraftBelowUp t r qs b blocks first f cells → GraftsUp qs f g d cells
      → (twig : CellSeen) × (ups : List CellSeen) × IsGraft t r twig ups qs b blocks f g d
  graft_up [] below grafts = absurd below
  graft_up (twig ∷ ups) below grafts = (
    twig,
    ups,
    record {
      data_names = below.data_names;
      grafted = below.grafted;
      grafts = grafts;
      of = below.of;
      blocks_are = below.blocks_are;
      numbers = serve f g (fresh_ids (grafts.lowest ∷ grafts.more) grafts.over) grafts.counts grafts.number grafts.within t
          twig qs b below.data_names below.of first below.counted;
    },
  )

  pub below_change : (cells : List CellSeen) (c : Change) → GraftsUp qs f g d cells → HasBelow b.old b.new d c
      → IsGraftBelowUp t r qs b blocks first f cells → IsChange c.old (c.new ++ blocks) c.root
  below_change cells c grafts has below =
      let (twig, ups, graft) = graft_up cells below grafts in graft_change t r twig ups qs b blocks f g d graft c has

  pub below_meets : (cells : List CellSeen) (c : Change) → GraftsUp qs f g d cells → HasBelow b.old b.new d c
      → IsGraftBelowUp t r qs b blocks first f cells → MeetsPart (patch_of c.old (c.new ++ blocks) c.root) t r
  below_meets cells c grafts has below =
      let (twig, ups, graft) = graft_up cells below grafts in graft_meets t r twig ups qs b blocks f g d graft c has

-- ---- the last cell of a path

-- later numbers are free too
pub path_later : (t : Store Value) (r : Root) (path : List CellSeen) (f g : Fresh) → f.next ≤ g.next → g.end ≡ f.end
    → IsPathIn t r path f → IsPathIn t r path g
path_later t r path f g more end is = record {
  part = is.part;
  ascends = is.ascends;
  free = record {
    cells = λ i low high. is.free.cells i (omega (arith, low, more)) (omega (arith, high, end));
    names = λ i low high. is.free.names i (omega (arith, low, more)) (omega (arith, high, end));
  };
  root_number = is.root_number;
}

module _ {A : Type 0} (h : A → CellSeen) (path : List A) (x : A) (last : x ≡ get_or path (length path - 1) x)
    (qs : List TwigPiece) (f : Fresh) where
  pub graft_some : (t : Store Value) (r : Root) → IsGraftIn t r (map h path) qs f → length path ≢ 0
  graft_some t r is = some_grafted t r qs f h path is

  pub grafted_in : (t : Store Value) (r : Root) → IsGraftIn t r (map h path) qs f
      → IsGraftedIn t r qs (h x) (reverse (map h (take (length path - 1) path))) f
  grafted_in t r is = subst (IsGraftedUp t r qs f) (last_first h path x (graft_some t r is) last) is

  pub graft_in : (t : Store Value) (r : Root) → length path ≢ 0
      → IsGraftedIn t r qs (h x) (reverse (map h (take (length path - 1) path))) f → IsGraftIn t r (map h path) qs f
  graft_in t r some is = subst (IsGraftedUp t r qs f) (sym (last_first h path x some last)) is

  pub grafts_last : (g : Fresh) (d : Change) → length path ≢ 0 → GraftsAt (map h path) qs f g d
      → Grafts (h x) (reverse (map h (take (length path - 1) path))) qs f g d
  grafts_last g d some is = subst (GraftsUp qs f g d) (last_first h path x some last) is
