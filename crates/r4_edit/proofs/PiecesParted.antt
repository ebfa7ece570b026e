-- The change that parts a twig within an extent, along its path.
use Rattle.std.proofs.Common.{◌≡◌, inl, inr, ◌+◌, ◌^◌, ◌<◌, ◌≤◌, List, [], ◌∷◌, length, drop, refl, sym, subst, arith}
use Rattle.std.specs.Prelude.{Contains}
use Rattle.std.proofs.lemmas.List.{length-drop}
use Rattle.r4_base.specs.Node.{items_of}
use Rattle.r4_base.specs.Tree.{Root, Store}
use Rattle.r4_base.specs.Value.{Value}
use Rattle.r4_path.specs.r4_branch.Pieces.{pieces_in}
use Rattle.r4_path.specs.r4_branch.declared.piece.TwigPiece.{TwigPiece}
use Rattle.r4_path.specs.r4_cell.Patch.{IsChange, patch_of}
use Rattle.r4_path.specs.r4_cell.Seen.{CellSeen, node_of}
use Rattle.r4_path.specs.r4_cell.declared.change.Change.{Change}
use Rattle.r4_path.specs.r4_cell.declared.change.Fresh.{Fresh}
use Rattle.r4_path.specs.r4_patch.Joining.{patch_of_change}
use Rattle.r4_path.specs.r4_patch.Part.{MeetsPart}
use Rattle.r4_path.specs.Grafts.{HaveGraftNumbers, IsGraftOf}
use Rattle.r4_path.specs.Levels.{CanClimb, IsLongEnough, Rises, units_of_cells}
use Rattle.r4_path.specs.Sharing.{AreSome}
use Rattle.r4_edit.specs.Splitting.{ArePiecesShared, IsPartedIn, Parts}
use Rattle.r4_path.specs.Steps.{Step, news, olds}
use Rattle.r4_path.specs.Twigs.{Below, IsTwigChange}
use Rattle.r4_path.proofs.GraftLaw.{twig_change}
use Rattle.r4_path.proofs.r4_patch.Members.{have_names, none}
use Rattle.r4_path.proofs.TwigPatch.{change_is, part_meets}
use Rattle.r4_path.proofs.TwigRose.{EnoughTwigs, TwigRose, twigs_end, twigs_ids, twigs_rose, twigs_start}

-- nothing goes or comes below the twig
abbrev nothing : Below
nothing = record { old = []; new = [] }

module _ (c : CellSeen) (ups : List CellSeen) (f g : Fresh) (s : Step) (two : length s.new ≡ 2)
    (p : ArePiecesShared c f g s) where
  abbrev qs : List TwigPiece
  qs = pieces_in (items_of c.block)

  one_comes : length (drop 1 s.new) ≡ 1
  one_comes = let d = length-drop 1 s.new in omega (arith, d, two)

  enough : (t : Store Value) (r : Root) → IsPartedIn t r c ups f → EnoughTwigs r s c ups
  enough t r is = inr (subst (λ n. IsLongEnough r n c ups) (sym one_comes) is.enough)

  pub pieces_start : (t : Store Value) (r : Root) → IsPartedIn t r c ups f → 2 ^ 63 ≤ f.next
      → f.next + (1 + length ups) < f.end → f.end < 2 ^ 64 → CanClimb s ups g
  pieces_start t r is unplaced numbers end = twigs_start c ups qs f g s p.row t r is.path p.level (omega (arith, two))
      (enough t r is) unplaced (let one = one_comes in omega (arith, numbers, one)) end

  -- the pieces name what the twig named
  of_nothing : (t : Store Value) → IsGraftOf t c qs nothing []
  of_nothing t = record {
    goes = λ d at. absurd (none d at);
    gone = λ d at. absurd (none d at);
    names = λ n. (
      (λ at. inl (subst (λ ns. Contains ns n) p.names at, λ named. none named.0 named.1)),
      (λ h. elim h [
        | inl stays ↦ subst (λ ns. Contains ns n) (sym p.names) stays.0
        | inr comes ↦ elim comes [ inl named ↦ absurd (none named.0 named.1) | inr block ↦ absurd (none n block) ]
      ]),
    );
    nodes = λ d at. absurd (none d at);
    blocks = λ n at. absurd (none n at);
  }

  no_numbers : (t : Store Value) (after : Fresh) → HaveGraftNumbers t nothing [] f.next after.next
  no_numbers t after = record {
    old = have_names [] tt;
    new = have_names [] tt;
    each = λ d at. absurd (none d at);
    blocks = λ n at. absurd (none n at);
    once = λ i j x y below. absurd (omega (arith, below));
    apart = λ d n at named. absurd (none d at);
  }

  module _ (after : Fresh) (d : Change) (rises : Rises s ups g after d) where
    abbrev pub more : List Step
    more = rises.climbed.more

    rose : TwigRose c ups qs f after s more rises.over d
    rose = twigs_rose c ups qs f g s p.row after d rises

    is_change : (t : Store Value) (r : Root) → IsPartedIn t r c ups f → IsTwigChange t r nothing s more rises.over
    is_change t r is = twig_change t r c ups qs f after s more rises.over d rose is.path p.level
        (twigs_end c ups qs f g s p.row after d rises r (enough t r is)) nothing [] [] (of_nothing t)
        (record { names = refl; whole = λ b at. absurd (none b at) }) (no_numbers t after)

    pub pieces_change : (t : Store Value) (r : Root) → IsPartedIn t r c ups f → IsChange d.old d.new d.root
    pieces_change t r is =
        subst (λ x. IsChange x d.new d.root) (sym rose.levels.old)
        (subst (λ x. IsChange (olds (s ∷ more)) x d.root) (sym rose.levels.new)
        (subst (λ x. IsChange (olds (s ∷ more)) (news (s ∷ more) rises.over) x) (sym rose.levels.pair)
        (change_is t r nothing s more rises.over (is_change t r is))))

    pub pieces_meet : (t : Store Value) (r : Root) → IsPartedIn t r c ups f → MeetsPart (patch_of_change d) t r
    pieces_meet t r is = subst (λ q. MeetsPart q t r)
        (λ i. patch_of (sym rose.levels.old i) (sym rose.levels.new i) (sym rose.levels.pair i))
        (part_meets t r nothing s more rises.over (is_change t r is))

    pub pieces_parts : AreSome s.new → units_of_cells s.new ≡ (node_of c).units → Parts c ups f after d
    pieces_parts some units = record {
      lowest = s;
      more = more;
      over = rises.over;
      levels = rose.levels;
      old = p.row.old;
      ups_are = rose.ups_are;
      two = two;
      some = some;
      units = units;
      keep = rises.climbed.keep;
      needed = rises.climbed.needed;
      root_needed = rises.climbed.root_needed;
      root_able = rises.climbed.root_able;
      mkfs_ids = twigs_ids c ups qs f g s p.row after d rises;
      root_units = rises.climbed.root_units;
      counts = rose.counts;
      number = rose.number;
    }
